-- The lines of a text of a class: the first names the class, and the bodies of methods are whole and sound.
use Rattle.std.proofs.Common.{◌≡◌, ℕ, ◌+◌, ◌^◌, ◌<◌, ◌≤◌, Bool, true, List, [], ◌∷◌, length, Option, None, Some, IfSome, refl, sym, subst, arith, ltb-true, lt-ltb}
use Rattle.std.specs.Option.{option_map, option_and_then}
use Rattle.kb_asm_text.specs.declared.line.Sizes.{Sizes}
use Rattle.kb_asm_text.specs.declared.line.MethodHead.{MethodHead}
use Rattle.kb_asm_text.specs.declared.line.Line.{Line}
use Rattle.kb_asm_text.specs.declared.line.Line.TheVariants as lines
use Rattle.kb_asm_text.specs.declared.place.Place.{Place}
use Rattle.kb_asm_text.specs.declared.place.Place.TheVariants as places
use Rattle.kb_asm_text.specs.Texts.{place_of_method, next_place, place_behind, IsEnd}
use Rattle.kb_asm_body.specs.Faults.{fault_of}
use Rattle.kb_asm_check.specs.Limits.{Standing, are_few, with_line, nothing}
use Rattle.kb_asm_check.specs.Faults.{body_of, is_ended, fault_behind, fault_at, or_else, fault_from}
use Rattle.kb_asm.specs.Parts.{parts}
use Rattle.kb_asm.specs.Class.{handler_in}
use Rattle.kb_asm.specs.Working.{AreText, BeginsClass, IsSoundBody, IsSoundAt, AreSound}
use Rattle.kb_asm.proofs.KeptLaws.{AllKept, lines_kept, fits_few, handlers_kept}

same_place : (one other : Place) → Some one ≡ Some other → one ≡ other
same_place one other e = cc

-- ---- the first line

begins : (of : List Line) (end : Place) → place_behind places.Start of ≡ Some end → IsEnd end → BeginsClass of
begins [] end leads last = absurd (subst IsEnd (sym (same_place places.Start end leads)) last)
begins (lines.Class head ∷ others) end leads last = (head, others, refl)
begins (line ∷ others) end leads last = absurd (nowhere end leads)
  where
    nowhere : (place : Place) → (let none : Option Place = None in none ≡ Some place) → ⊥
    nowhere place e = cc

pub begins_class : (of : List Line) → AreText of → BeginsClass of
begins_class of text = begins of text.1.spelled.0 text.1.spelled.1.leads text.1.spelled.2

-- ---- bodies are whole

-- where lines lead that begin with one
one_step : (next : Option Place) (others : List Line) (end : Place) → option_and_then (λ (place : Place). place_behind place others) next ≡ Some end
    → (place : Place) × (next ≡ Some place) × (place_behind place others ≡ Some end)
one_step None others end leads = absurd cc
one_step (Some place) others end leads = (place, refl, leads)

ended : (of : List Line) (end : Place) → place_behind places.Body of ≡ Some end → IsEnd end → is_ended of ≡ true
ended [] end leads last = absurd (subst IsEnd (sym (same_place places.Body end leads)) last)
ended (lines.Body line ∷ others) end leads last =
    let less : length (body_of others) < length others = ltb-true (length (body_of others)) (length others) (ended others end leads last) in
    lt-ltb (length (lines.Body line ∷ body_of others)) (length (lines.Body line ∷ others)) (omega arith)
ended (lines.End ∷ others) end leads last = lt-ltb 0 (length (lines.End ∷ others)) (omega arith)
ended (lines.Class head ∷ others) end leads last = absurd cc
ended (lines.Implements name ∷ others) end leads last = absurd cc
ended (lines.Field head ∷ others) end leads last = absurd cc
ended (lines.Method head ∷ others) end leads last = absurd cc

-- where the first line of a method leads
method_leads : (at next : Place) (head : MethodHead) → next_place at (lines.Method head) ≡ Some next → next ≡ place_of_method head.sizes
method_leads places.Start next head e = absurd cc
method_leads places.Head next head e = sym (same_place (place_of_method head.sizes) next e)
method_leads places.Fields next head e = sym (same_place (place_of_method head.sizes) next e)
method_leads places.Methods next head e = sym (same_place (place_of_method head.sizes) next e)
method_leads places.Body next head e = absurd cc

-- ---- bodies are sound

no_fault : (here behind : Option ℕ) (place : ℕ) → or_else (option_map (λ (at : ℕ). place + 1 + at) here) behind ≡ None → (here ≡ None) × (behind ≡ None)
no_fault None behind place e = (refl, e)
no_fault (Some at) behind place e = absurd cc

sound_body : (of : List Line) (counted : ℕ) → is_ended of ≡ true → fault_of (is_ended of) (body_of of) ≡ None → counted + length (parts handler_in (body_of of)) ≤ 65535 → IsSoundBody (body_of of)
sound_body of counted whole faultless few =
    let less : length (parts handler_in (body_of of)) < 2 ^ 16 = omega (arith, few) in
    record { faultless = subst (λ (b : Bool). fault_of b (body_of of) ≡ None) whole faultless; counted = less }

sound_sized : (sizes : Option Sizes) (of : List Line) (next end : Place) → next ≡ place_of_method sizes → place_behind next of ≡ Some end → IsEnd end
    → fault_behind sizes of ≡ None → 0 + length (parts handler_in (body_of of)) ≤ 65535 → IfSome sizes (λ _. IsSoundBody (body_of of))
sound_sized None of next end is leads last faultless few = tt
sound_sized (Some sizes) of next end is leads last faultless few =
    sound_body of 0 (ended of end (subst (λ (place : Place). place_behind place of ≡ Some end) is leads) last) faultless few

sound_at : (before : Standing) (at next end : Place) (line : Line) (of : List Line) → next_place at line ≡ Some next → place_behind next of ≡ Some end → IsEnd end
    → fault_at line of ≡ None → are_few (with_line before line).counts ≡ true → AllKept (with_line before line) of → IsSoundAt line of
sound_at before at next end (lines.Method head) of here leads last faultless few kept =
    sound_sized head.sizes of next end (method_leads at next head here) leads last faultless (handlers_kept (with_line before (lines.Method head)) of few kept)
sound_at before at next end line of here leads last faultless few kept = tt

sound_from : (before : Standing) (at end : Place) (place : ℕ) (of : List Line) → place_behind at of ≡ Some end → IsEnd end → fault_from place of ≡ None → AllKept before of → AreSound of
sound_from before at end place [] leads last faultless kept = tt
sound_from before at end place (line ∷ of) leads last faultless kept =
    let step = one_step (next_place at line) of end leads in
    let none = no_fault (fault_at line of) (fault_from (place + 1) of) place faultless in
    (sound_at before at step.0 end line of step.1 step.2 last none.0 (fits_few before line kept.0) kept.1, sound_from (with_line before line) step.0 end (place + 1) of step.2 last none.1 kept.1)

pub are_sound : (of : List Line) → AreText of → AreSound of
are_sound of text =
    sound_from nothing places.Start text.1.spelled.0 0 of text.1.spelled.1.leads text.1.spelled.2 text.1.sound.faultless (lines_kept of text.1.sound)
