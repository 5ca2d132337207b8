-- Each front goes on to whole tests: what is named and not there may come.
use Rattle.std.proofs.Common.{◌≡◌, ◌≢◌, ◌⊎◌, inl, inr, ℕ, zero, suc, ◌+◌, ◌-◌, ◌<◌, ◌≤◌, ◌^◌, Bool, true, false, Option, None, Some, List, [], ◌∷◌, ◌++◌, length, length-append, map, refl, sym, ◌∙◌, ap, arith, append_assoc, append-nil, subst}
use Rattle.std.specs.Prelude.{replicate, IsTrue}
use Rattle.std.specs.List.{list_all}
use Rattle.kb_names.specs.Targets.{IsTarget}
use Rattle.kb_names.specs.declared.types.Target.{Target}
use Rattle.kb_names.specs.declared.types.ExactType.TheVariants.{Class}
use Rattle.kb_heap.specs.declared.bounds.RunBounds.{RunBounds}
use Rattle.kb_test_lines.specs.declared.words.Word.{Word}
use Rattle.kb_test_lines.specs.declared.words.Limits.{Limits}
use Rattle.kb_test_lines.specs.declared.lines.Listed.{Listed}
use Rattle.kb_test_lines.specs.declared.outcomes.Outcome.TheVariants.{Returns}
use Rattle.kb_test_lines.specs.declared.lines.Line.{Line}
use Rattle.kb_test_lines.specs.declared.lines.Line.TheVariants.{Method, Limit, Ends, End}
use Rattle.kb_test.specs.declared.script.Script.{Script}
use Rattle.kb_test.specs.declared.script.Begun.{Begun}
use Rattle.kb_test.specs.declared.fronts.Open.{Open}
use Rattle.kb_test.specs.declared.fronts.Open.TheVariants.{Between, Named, Started, Ended}
use Rattle.kb_test_lines.specs.Words.{AreWordLists, words_below}
use Rattle.kb_test_lines.specs.Lines.{AreListed, IsListed, IsRunBounds, listed_below}
use Rattle.kb_test.specs.Scripts.{in_lines, out_lines, new_lines, script_lines, script_below, limits_of, IsScript}
use Rattle.kb_test.specs.Fronts.{open_limits, ended_limits, with_outcome, begun_lines, ended_lines, open_lines, IsBegun, IsEnded, IsOpen}
use Rattle.kb_test.proofs.Steps.{AreBelow, are_below, is_below_all}
use Rattle.kb_test.proofs.Accepts.{whole_lines}
use Rattle.kb_test.proofs.Sound.{AreListed-++, AreWordLists-++, all-++, more_inputs, more_ending, more_outs, more_news}

-- a text of a whole test goes on from there
pub record Completes (literals : ℕ) (lines : List Line) : Type 0 where
  pub script : Script
  pub more : List Line
  pub is : IsScript literals script
  pub lines_are : script_lines script ≡ lines ++ more

-- it does so with more lines behind it
goes_back : (literals : ℕ) (lines more longer : List Line) → longer ≡ lines ++ more → Completes literals longer → Completes literals lines
goes_back literals lines more longer e end = record {
  script = end.script;
  more = more ++ end.more;
  is = end.is;
  lines_are = end.lines_are ∙ ap (λ (ls : List Line). ls ++ end.more) e ∙ append_assoc lines more end.more;
}

-- any object, and many of them
filler : Listed
filler = record { kind = Class (65 ∷ []); values = [] }

not_empty : (byte : ℕ) (bytes : List ℕ) → byte ∷ bytes ≢ []
not_empty byte bytes e = cc

is_filler : IsListed filler
unfolding filler
is_filler = ((not_empty 65 [], (omega arith, tt)), tt)

fillers_listed : (count : ℕ) → AreListed (replicate count filler)
fillers_listed zero = tt
fillers_listed (suc count) = (is_filler, fillers_listed count)

fillers_below : (limits : Limits) (count : ℕ) → list_all (listed_below limits) (replicate count filler) ≡ true
unfolding filler
fillers_below limits zero = refl
fillers_below limits (suc count) = fillers_below limits count

fillers_many : (count : ℕ) → length (replicate count filler) ≡ count
fillers_many zero = refl
fillers_many (suc count) = ap suc (fillers_many count)

abbrev no_words : List Word
no_words = []

empties_are : (count : ℕ) → AreWordLists (replicate count no_words)
empties_are zero = tt
empties_are (suc count) = (tt, empties_are count)

empties_below : (limits : Limits) (count : ℕ) → list_all (words_below limits) (replicate count no_words) ≡ true
empties_below limits zero = refl
empties_below limits (suc count) = empties_below limits count

empties_many : (count : ℕ) → length (replicate count no_words) ≡ count
empties_many zero = refl
empties_many (suc count) = ap suc (empties_many count)

module _ (literals : ℕ) where
  -- all objects of the run that may be named are there
  all_news : (script : Script) → IsEnded literals script → length script.outs ≡ length script.inputs → length script.news ≡ 2 ^ 32 → IsScript literals script
  all_news script is many full = record {
    target = is.target;
    bounds = is.bounds;
    args = is.args;
    inputs = is.inputs;
    outcome = is.outcome;
    outs = is.outs;
    news = is.news;
    numbered_inputs = is.numbered_inputs;
    numbered_news = is.numbered_news;
    as_many = many;
    there = subst (λ (made : ℕ). IsTrue (script_below (limits_with made) script)) (sym full) is.there;
  }
    where
      limits_with : ℕ → Limits
      limits_with made = record { inputs = length script.inputs; literals = literals; made = made }

  with_news : (script : Script) (count : ℕ) → IsEnded literals script → length script.outs ≡ length script.inputs → length script.news + count ≡ 2 ^ 32 → Completes literals (ended_lines script)
  with_news script count is many full =
      let added = fillers_many count in
      goes_back literals (ended_lines script) (new_lines (length script.news) (replicate count filler)) (ended_lines longer) (more_news script (replicate count filler))
      (record { script = longer; more = End ∷ []; is = all_news longer is_longer many (omega (arith, full, added, length-append script.news (replicate count filler))); lines_are = whole_lines literals longer })
    where
      longer : Script
      longer = record {
        target = script.target;
        bounds = script.bounds;
        args = script.args;
        inputs = script.inputs;
        outcome = script.outcome;
        outs = script.outs;
        news = script.news ++ replicate count filler;
      }

      limits : Limits
      limits = ended_limits literals (length script.inputs)

      are : AreBelow limits script
      are = are_below limits script is.there

      is_longer : IsEnded literals longer
      is_longer = record {
        target = is.target;
        bounds = is.bounds;
        args = is.args;
        inputs = is.inputs;
        outcome = is.outcome;
        outs = is.outs;
        news = AreListed-++ script.news (replicate count filler) is.news (fillers_listed count);
        numbered_inputs = is.numbered_inputs;
        numbered_news = omega (arith, full, fillers_many count, length-append script.news (replicate count filler));
        not_more = is.not_more;
        in_order = inr many;
        there = is_below_all limits longer
            (record { args = are.args; inputs = are.inputs; outcome = are.outcome; outs = are.outs; news = all-++ (listed_below limits) script.news (replicate count filler) are.news (fillers_below limits count) });
      }

  -- behind all last values
  behind_outs : (script : Script) → IsEnded literals script → length script.outs ≡ length script.inputs → Completes literals (ended_lines script)
  behind_outs script is many = with_news script (2 ^ 32 - length script.news) is many (omega (arith, is.numbered_news))

  -- before some of them
  with_outs : (script : Script) (count : ℕ) → IsEnded literals script → script.news ≡ [] → length script.outs + count ≡ length script.inputs → Completes literals (ended_lines script)
  with_outs script count is none full =
      goes_back literals (ended_lines script) (out_lines (length script.outs) (replicate count no_words)) (ended_lines longer) (more_outs script (replicate count no_words) none)
      (behind_outs longer is_longer (omega (arith, full, empties_many count, length-append script.outs (replicate count no_words))))
    where
      longer : Script
      longer = record {
        target = script.target;
        bounds = script.bounds;
        args = script.args;
        inputs = script.inputs;
        outcome = script.outcome;
        outs = script.outs ++ replicate count no_words;
        news = script.news;
      }

      limits : Limits
      limits = ended_limits literals (length script.inputs)

      are : AreBelow limits script
      are = are_below limits script is.there

      is_longer : IsEnded literals longer
      is_longer = record {
        target = is.target;
        bounds = is.bounds;
        args = is.args;
        inputs = is.inputs;
        outcome = is.outcome;
        outs = AreWordLists-++ script.outs (replicate count no_words) is.outs (empties_are count);
        news = is.news;
        numbered_inputs = is.numbered_inputs;
        numbered_news = is.numbered_news;
        not_more = omega (arith, full, empties_many count, length-append script.outs (replicate count no_words));
        in_order = inl none;
        there = is_below_all limits longer
            (record { args = are.args; inputs = are.inputs; outcome = are.outcome; outs = all-++ (words_below limits) script.outs (replicate count no_words) are.outs (empties_below limits count); news = are.news });
      }

  behind_ending : (script : Script) → IsEnded literals script → Completes literals (ended_lines script)
  behind_ending script is = go is.in_order
    where
      go : script.news ≡ [] ⊎ (length script.outs ≡ length script.inputs) → Completes literals (ended_lines script)
      go (inl none) = with_outs script (length script.inputs - length script.outs) is none (omega (arith, is.not_more))
      go (inr many) = behind_outs script is many

  -- all input objects that may be named are there
  all_inputs : (begun : Begun) → IsBegun literals begun → length begun.inputs ≡ 2 ^ 32 → Completes literals (begun_lines begun)
  all_inputs begun is full =
      goes_back literals (begun_lines begun) (Ends (Returns None) ∷ []) (ended_lines (with_outcome begun (Returns None))) (more_ending begun (Returns None)) (behind_ending (with_outcome begun (Returns None)) is_script)
    where
      limits_with : ℕ → Limits
      limits_with inputs = record { inputs = inputs; literals = literals; made = 2 ^ 32 }

      below : script_below (open_limits literals) (with_outcome begun (Returns None)) ≡ true
      below = is_below_all (open_limits literals) (with_outcome begun (Returns None)) (record { args = is.args_there; inputs = is.inputs_there; outcome = refl; outs = refl; news = refl })

      is_script : IsEnded literals (with_outcome begun (Returns None))
      is_script = record {
        target = is.target;
        bounds = is.bounds;
        args = is.args;
        inputs = is.inputs;
        outcome = tt;
        outs = tt;
        news = tt;
        numbered_inputs = is.numbered_inputs;
        numbered_news = omega arith;
        not_more = omega arith;
        in_order = inl refl;
        there = subst (λ (inputs : ℕ). IsTrue (script_below (limits_with inputs) (with_outcome begun (Returns None)))) (sym full) below;
      }

  with_inputs : (begun : Begun) (count : ℕ) → IsBegun literals begun → length begun.inputs + count ≡ 2 ^ 32 → Completes literals (begun_lines begun)
  with_inputs begun count is full =
      goes_back literals (begun_lines begun) (in_lines (length begun.inputs) (replicate count filler)) (begun_lines longer) (more_inputs begun (replicate count filler))
      (all_inputs longer is_longer (omega (arith, full, fillers_many count, length-append begun.inputs (replicate count filler))))
    where
      longer : Begun
      longer = record { target = begun.target; bounds = begun.bounds; args = begun.args; inputs = begun.inputs ++ replicate count filler }

      is_longer : IsBegun literals longer
      is_longer = record {
        target = is.target;
        bounds = is.bounds;
        args = is.args;
        inputs = AreListed-++ begun.inputs (replicate count filler) is.inputs (fillers_listed count);
        numbered_inputs = omega (arith, full, fillers_many count, length-append begun.inputs (replicate count filler));
        args_there = is.args_there;
        inputs_there = all-++ (listed_below (open_limits literals)) begun.inputs (replicate count filler) is.inputs_there (fillers_below (open_limits literals) count);
      }

  behind_bounds : (begun : Begun) → IsBegun literals begun → Completes literals (begun_lines begun)
  behind_bounds begun is = with_inputs begun (2 ^ 32 - length begun.inputs) is (omega (arith, is.numbered_inputs))

  abbrev least_bounds : RunBounds
  least_bounds = record { alloc = 0; loops = 0; depth = 1; steps = 1 }

  are_least : IsRunBounds least_bounds
  are_least = record { alloc = omega arith; loops = omega arith; some_depth = omega arith; depth = omega arith; some_steps = omega arith; steps = omega arith }

  behind_target : (target : Target) → IsTarget target → Completes literals (Method target ∷ [])
  behind_target target is =
      goes_back literals (Method target ∷ []) (Limit least_bounds ∷ []) (begun_lines first) refl
      (behind_bounds first (record { target = is; bounds = are_least; args = tt; inputs = tt; numbered_inputs = omega arith; args_there = refl; inputs_there = refl }))
    where
      first : Begun
      first = record { target = target; bounds = least_bounds; args = []; inputs = [] }

  -- what is read of a test is that of a whole one, or nothing
  pub completes : (of : Open) → IsOpen literals of → (of ≡ Between) ⊎ Completes literals (open_lines of)
  completes Between is = inl refl
  completes (Named target) is = inr (behind_target target is)
  completes (Started begun) is = inr (behind_bounds begun is)
  completes (Ended script) is = inr (behind_ending script is)
