-- The report by hand is a report.
use Rattle.std.proofs.Common.{◌≡◌, ℕ, zero, suc, ◌<◌, ◌^◌, List, [], ◌∷◌, length, Option, Some, None, refl, sym, ap, ◌∙◌, arith, subst}
use Rattle.std.specs.Prelude.{pos, slice_get}
use Rattle.std.specs.List.{AllByRecursion}
use Rattle.std.specs.Int.{w32}
use Rattle.std.specs.Int.RustNames.{FitsSigned}
use Rattle.std.proofs.lemmas.Int.{ints}
use Rattle.std.proofs.lemmas.Option.{same_Some}
use Rattle.kb_class.specs.declared.ids.MethodId.{MethodId}
use Rattle.kb_class.specs.declared.members.MethodInfo.{MethodInfo}
use Rattle.kb_heap.specs.declared.heap.Value.{Value}
use Rattle.kb_heap.specs.declared.heap.Value.TheVariants.{Int as IntValue, Ref}
use Rattle.kb_classes.specs.World.{World}
use Rattle.kb_semantics.specs.Config.{info_of}
use Rattle.kb_semantics.specs.Inputs.{argument_types}
use Rattle.kb_terms.specs.declared.listing.Term.{Term}
use Rattle.kb_picture.specs.WellFormed.{IsSlot, IsSeenAs, IsPicture, IsTermAt, AreTermsOf, IsOut, IsWithin, IsClosed, AreWrites, IsEnded, IsWellFormed, slots_seen}
use Rattle.kb_picture.specs.Numbering.{met_from, met_below, roots_of, ended_outs}
use Rattle.kb_picture.specs.declared.path.Out.{Out}
use Rattle.kb_picture.specs.declared.path.Out.TheVariants.{Int as IntOut}
use Rattle.kb_picture.specs.declared.picture.Origin.{Origin}
use Rattle.kb_picture.specs.declared.picture.Origin.TheVariants.{Arg}
use Rattle.kb_picture.specs.declared.picture.Seen.{Seen}
use Rattle.kb_picture.specs.declared.picture.Seen.TheVariants.{Int as SeenInt}
use Rattle.kb_report_text.specs.Ranges.{InputFits, EndedFits, PathFits, ReportFits}
use Rattle.kb_report_laws.specs.OneText.{IsReport}
use Rattle.kb_report_laws.specs.Example.{example_picture, example_ended, example_path, example_report, ExampleIsReport}

-- ---- the picture

apart : Arg 0 ≡ Arg 1 → ⊥
apart e = cc

module _ (world : World) where
  slots : (i : ℕ) (slot : Origin) → slice_get (slots_seen example_picture) i ≡ Some slot → IsSlot world 2 [] slot
  slots zero slot at = subst (IsSlot world 2 []) (same_Some (Arg 0) slot at) (omega arith)
  slots (suc zero) slot at = subst (IsSlot world 2 []) (same_Some (Arg 1) slot at) (omega arith)
  slots (suc (suc i)) slot at = absurd cc

  once : (i j : ℕ) (slot : Origin) → slice_get (slots_seen example_picture) i ≡ Some slot → slice_get (slots_seen example_picture) j ≡ Some slot → i ≡ j
  once zero zero slot p q = refl
  once zero (suc zero) slot p q = absurd (apart (same_Some (Arg 0) slot p ∙ sym (same_Some (Arg 1) slot q)))
  once zero (suc (suc j)) slot p q = absurd cc
  once (suc zero) zero slot p q = absurd (apart (same_Some (Arg 0) slot q ∙ sym (same_Some (Arg 1) slot p)))
  once (suc zero) (suc zero) slot p q = refl
  once (suc zero) (suc (suc j)) slot p q = absurd cc
  once (suc (suc i)) j slot p q = absurd cc

  seen : (i : ℕ) (slot : Origin × Seen) → slice_get example_picture.seen i ≡ Some slot → IsSeenAs example_picture slot.1
  seen zero slot at = subst (λ (s : Origin × Seen). IsSeenAs example_picture s.1) (same_Some (Arg 0, SeenInt 0) slot at) tt
  seen (suc zero) slot at = subst (λ (s : Origin × Seen). IsSeenAs example_picture s.1) (same_Some (Arg 1, SeenInt 1) slot at) tt
  seen (suc (suc i)) slot at = absurd cc

  picture_is : IsPicture world 2 example_picture
  picture_is = record {
    slots = slots;
    once = once;
    seen = seen;
    variables = refl;
    locations = refl;
    locs = λ number loc at. absurd cc;
    origins = λ number object at. absurd cc;
    lengths = λ number object at. absurd cc;
  }

  -- ---- terms and leaf

  each : (number : ℕ) (term : Term) → slice_get example_path.terms number ≡ Some term → IsTermAt example_picture number term
  each zero term at = subst (IsTermAt example_picture 0) (same_Some _ term at) (record { left = omega arith; right = omega arith })
  each (suc number) term at = absurd cc

  term_once : (i j : ℕ) (term : Term) → slice_get example_path.terms i ≡ Some term → slice_get example_path.terms j ≡ Some term → i ≡ j
  term_once zero zero term p q = refl
  term_once zero (suc j) term p q = absurd cc
  term_once (suc i) j term p q = absurd cc

  met : met_from example_path.terms (roots_of example_path) ≡ 0 ∷ []
  unfolding met_from met_below
  met = refl

  terms_are : AreTermsOf example_path
  terms_are = record { each = each; met = met; once = term_once; conditions = λ i condition at. absurd cc }

  outs : (i : ℕ) (out : Out) → slice_get (ended_outs example_ended) i ≡ Some out → IsOut world example_path 0 out
  outs zero out at = subst (IsOut world example_path 0) (same_Some _ out at) (omega arith)
  outs (suc i) out at = absurd cc

  within : (i : ℕ) (value : Value) → slice_get example_ended.input.args i ≡ Some value → IsWithin 0 value
  within zero value at = subst (IsWithin 0) (same_Some (IntValue (pos 0)) value at) (λ object e. absurd cc)
  within (suc zero) value at = subst (IsWithin 0) (same_Some (IntValue (pos 0)) value at) (λ object e. absurd cc)
  within (suc (suc i)) value at = absurd cc

  closed : IsClosed example_ended.input
  closed = record { arguments = within; objects = λ i j object value p q. absurd cc }

  ended_is : IsEnded world example_path example_ended
  ended_is = record {
    outs = outs;
    thrown = tt;
    writes = record { there = λ i write at. absurd cc; rising = λ i one other p q. absurd cc };
    made = λ i made at. absurd cc;
    input = closed;
  }

-- ---- ranges

zero_fits : FitsSigned w32 (pos 0)
zero_fits = omega (arith, ints)

input_fits : InputFits example_ended.input
input_fits = record { args = (zero_fits, (zero_fits, tt)); objects = tt; count = omega arith }

ended_fits : EndedFits example_ended
ended_fits = record { ending = omega arith; writes = tt; made = tt; count = omega arith; input = input_fits }

path_fits : PathFits example_path
path_fits = record {
  counts = record { locs = omega arith; objects = omega arith; terms = omega arith };
  decisions = tt;
  seen = ((omega arith, omega arith), ((omega arith, omega arith), tt));
  locs = tt;
  objects = tt;
  terms = (record { left = omega arith; right = omega arith }, tt);
  when = tt;
  leaf = ended_fits;
}

report_fits : ReportFits example_report
report_fits = record {
  bounds = record { k = omega arith; array = omega arith; alloc = omega arith; loops = omega arith; depth = omega arith; steps = omega arith };
  paths = omega arith;
  budget = omega arith;
  leaves = (path_fits, tt);
  count = omega arith;
}

pub example_is_report : ExampleIsReport
example_is_report world id method is two =
    let picture : IsPicture world (length (argument_types world method)) example_picture = subst (λ (n : ℕ). IsPicture world n example_picture) (sym two) (picture_is world) in
    let formed : IsWellFormed world id example_path = record { method = method; method_is = is; picture = picture; terms = terms_are world; leaf = ended_is world } in
    record { ranges = report_fits; leaves = (record { method = id; formed = formed }, tt) }
