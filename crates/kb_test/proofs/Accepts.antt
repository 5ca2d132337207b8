-- Whole texts of tests are read from front to front.
use Rattle.std.proofs.Common.{◌≡◌, ◌⊎◌, inl, inr, ℕ, zero, suc, ◌+◌, ◌<◌, ◌≤◌, ◌^◌, Bool, true, false, ◌==◌, ◌&&◌, Option, None, Some, List, [], ◌∷◌, ◌++◌, length, map, refl, sym, ◌∙◌, ap, arith, append_assoc, append-nil, subst}
use Rattle.std.specs.Prelude.{IsTrue}
use Rattle.std.specs.Option.{option_and_then}
use Rattle.std.specs.List.{list_all, flat_map}
use Rattle.std.proofs.lemmas.Bool.{eq-eqb}
use Rattle.kb_names.specs.declared.types.Target.{Target}
use Rattle.kb_heap.specs.declared.bounds.RunBounds.{RunBounds}
use Rattle.kb_test_lines.specs.declared.words.Word.{Word}
use Rattle.kb_test_lines.specs.declared.words.Limits.{Limits}
use Rattle.kb_test_lines.specs.declared.lines.Listed.{Listed}
use Rattle.kb_test_lines.specs.declared.outcomes.Outcome.{Outcome}
use Rattle.kb_test_lines.specs.declared.lines.Line.{Line}
use Rattle.kb_test_lines.specs.declared.lines.Line.TheVariants.{Method, Limit, Arg, In, Ends, Out, New, End}
use Rattle.kb_test.specs.declared.script.Script.{Script}
use Rattle.kb_test.specs.declared.script.Begun.{Begun}
use Rattle.kb_test.specs.declared.test_case.Test.{Test}
use Rattle.kb_test.specs.declared.fronts.Open.{Open}
use Rattle.kb_test.specs.declared.fronts.Open.TheVariants.{Between, Named, Started, Ended}
use Rattle.kb_test.specs.declared.fronts.Front.{Front}
use Rattle.kb_test_lines.specs.Words.{AreWords, AreWordLists, words_below}
use Rattle.kb_test_lines.specs.Lines.{AreListed, IsOutcome, IsLine, listed_below, outcome_below}
use Rattle.kb_test.specs.Scripts.{in_lines, out_lines, new_lines, last_lines, script_lines, script_below, limits_of, IsScript, AreScripts, scripts_lines}
use Rattle.kb_test.specs.Tests.{test_of, tests_of}
use Rattle.kb_test.specs.Fronts.{open_limits, ended_limits, with_outcome, may_end_so, may_be_whole, named_step, between_step, step, begun_lines, ended_lines, open_lines, IsBegun, IsEnded, IsOpen}
use Rattle.kb_test_lines.proofs.Texts.{AllLines, AllLines-++}
use Rattle.kb_test.proofs.Steps.{and_both, IsWider, AreBelow, are_below, is_below_all, are_wider, steps, steps_then, front_of, args_run, inputs_run, ending_run, outs_run, news_run, end_run, head_run}

abbrev pub begun_of : Script → Begun
begun_of script = record { target = script.target; bounds = script.bounds; args = script.args; inputs = script.inputs }

-- ---- limits

open_wider : (literals inputs made : ℕ) → inputs ≤ 2 ^ 32 → made ≤ 2 ^ 32 → IsWider (record { inputs = inputs; literals = literals; made = made }) (open_limits literals)
open_wider literals inputs made p q = record { inputs = p; literals = omega arith; made = q }

ended_wider : (literals inputs made : ℕ) → made ≤ 2 ^ 32 → IsWider (record { inputs = inputs; literals = literals; made = made }) (ended_limits literals inputs)
ended_wider literals inputs made q = record { inputs = omega arith; literals = omega arith; made = q }

-- what may stand at the ending
may_end : (literals : ℕ) (script : Script) → AreBelow (ended_limits literals (length script.inputs)) script → may_end_so literals (begun_of script) script.outcome ≡ true
may_end literals script are =
    is_below_all (ended_limits literals (length script.inputs)) (with_outcome (begun_of script) script.outcome)
    (record { args = are.args; inputs = are.inputs; outcome = are.outcome; outs = refl; news = refl })

module _ (literals : ℕ) where
  -- up to the ending
  begun_run : (tests : List Test) (begun : Begun) (rest : List Line) → words_below (open_limits literals) begun.args ≡ true → list_all (listed_below (open_limits literals)) begun.inputs ≡ true
      → steps literals (front_of tests Between) (begun_lines begun ++ rest) ≡ steps literals (front_of tests (Started begun)) rest
  begun_run tests begun rest p q =
      head_run literals tests begun.target begun.bounds ((map Arg begun.args ++ in_lines 0 begun.inputs) ++ rest)
      ∙ ap (λ (ls : List Line). steps literals (front_of tests (Started (record { target = begun.target; bounds = begun.bounds; args = []; inputs = [] }))) ls) (append_assoc (map Arg begun.args) (in_lines 0 begun.inputs) rest)
      ∙ args_run literals tests begun.target begun.bounds [] begun.args (in_lines 0 begun.inputs ++ rest) p
      ∙ inputs_run literals tests begun.target begun.bounds begun.args 0 [] begun.inputs rest refl q

  -- up to the end, behind all last values
  last_run : (tests : List Test) (script : Script) (rest : List Line) → length script.outs ≤ length script.inputs → script.news ≡ [] ⊎ (length script.outs ≡ length script.inputs)
      → AreBelow (ended_limits literals (length script.inputs)) script
      → steps literals (front_of tests (Started (begun_of script))) (Ends script.outcome ∷ (out_lines 0 script.outs ++ (new_lines 0 script.news ++ rest))) ≡ steps literals (front_of tests (Ended script)) rest
  last_run tests script rest few order are =
      ending_run literals tests (begun_of script) script.outcome (out_lines 0 script.outs ++ (new_lines 0 script.news ++ rest)) (may_end literals script are)
      ∙ outs_run literals tests (begun_of script) script.outcome 0 [] script.outs (new_lines 0 script.news ++ rest) refl (omega (arith, few)) are.outs
      ∙ go order
    where
      with_news : List Listed → Open
      with_news news =
          Ended (record { target = script.target; bounds = script.bounds; args = script.args; inputs = script.inputs; outcome = script.outcome; outs = script.outs; news = news })

      go : script.news ≡ [] ⊎ (length script.outs ≡ length script.inputs)
          → steps literals (front_of tests (with_news [])) (new_lines 0 script.news ++ rest) ≡ steps literals (front_of tests (with_news script.news)) rest
      go (inl none) =
          ap (λ (news : List Listed). steps literals (front_of tests (with_news [])) (new_lines 0 news ++ rest)) none
          ∙ ap (λ (news : List Listed). steps literals (front_of tests (with_news news)) rest) (sym none)
      go (inr many) = news_run literals tests (begun_of script) script.outcome script.outs 0 [] script.news rest refl many are.news

  lines_in_parts : (script : Script) (rest : List Line)
      → ended_lines script ++ rest ≡ begun_lines (begun_of script) ++ (Ends script.outcome ∷ (out_lines 0 script.outs ++ (new_lines 0 script.news ++ rest)))
  lines_in_parts script rest =
      ap (λ (ls : List Line). Method script.target ∷ Limit script.bounds ∷ ls)
      (append_assoc (map Arg script.args) _ rest ∙ ap (λ (ls : List Line). map Arg script.args ++ ls)
      (append_assoc (in_lines 0 script.inputs) _ rest ∙ ap (λ (ls : List Line). in_lines 0 script.inputs ++ Ends script.outcome ∷ ls) (append_assoc (out_lines 0 script.outs) (new_lines 0 script.news) rest))
      ∙ sym (append_assoc (map Arg script.args) (in_lines 0 script.inputs) (Ends script.outcome ∷ (out_lines 0 script.outs ++ (new_lines 0 script.news ++ rest)))))

  ended_run : (tests : List Test) (script : Script) (rest : List Line) → length script.inputs ≤ 2 ^ 32 → length script.outs ≤ length script.inputs → script.news ≡ [] ⊎ (length script.outs ≡ length script.inputs)
      → AreBelow (ended_limits literals (length script.inputs)) script
      → steps literals (front_of tests Between) (ended_lines script ++ rest) ≡ steps literals (front_of tests (Ended script)) rest
  ended_run tests script rest small few order are =
      let wide = are_wider (ended_limits literals (length script.inputs)) (open_limits literals) script (open_wider literals (length script.inputs) (2 ^ 32) small (omega arith)) are in
      ap (steps literals (front_of tests Between)) (lines_in_parts script rest)
      ∙ begun_run tests (begun_of script) (Ends script.outcome ∷ (out_lines 0 script.outs ++ (new_lines 0 script.news ++ rest))) wide.args wide.inputs
      ∙ last_run tests script rest few order are

  -- the lines of a whole test are those up to the end, and the last line
  pub whole_lines : (script : Script) → script_lines script ≡ ended_lines script ++ End ∷ []
  whole_lines script =
      sym (ap (λ (ls : List Line). Method script.target ∷ Limit script.bounds ∷ ls)
      (append_assoc (map Arg script.args) _ (End ∷ []) ∙ ap (λ (ls : List Line). map Arg script.args ++ ls)
      (append_assoc (in_lines 0 script.inputs) _ (End ∷ []) ∙ ap (λ (ls : List Line). in_lines 0 script.inputs ++ Ends script.outcome ∷ ls) (append_assoc (out_lines 0 script.outs) (new_lines 0 script.news) (End ∷ [])))))

  pub script_run : (tests : List Test) (script : Script) (rest : List Line) → IsScript literals script
      → steps literals (front_of tests Between) (script_lines script ++ rest) ≡ steps literals (front_of (tests ++ test_of literals script ∷ []) Between) rest
  script_run tests script rest is =
      let are = are_below (limits_of literals script) script is.there in
      let ended = are_wider (limits_of literals script) (ended_limits literals (length script.inputs)) script (ended_wider literals (length script.inputs) (length script.news) is.numbered_news) are in
      ap (λ (ls : List Line). steps literals (front_of tests Between) (ls ++ rest)) (whole_lines script)
      ∙ ap (steps literals (front_of tests Between)) (append_assoc (ended_lines script) (End ∷ []) rest)
      ∙ ended_run tests script (End ∷ rest) is.numbered_inputs (omega (arith, is.as_many)) (inr is.as_many) ended
      ∙ end_run literals tests script rest (and_both (length script.outs == length script.inputs) _ (eq-eqb (length script.outs) (length script.inputs) is.as_many) is.there)

  pub scripts_run : (tests : List Test) (scripts : List Script) (rest : List Line) → AreScripts literals scripts
      → steps literals (front_of tests Between) (scripts_lines scripts ++ rest) ≡ steps literals (front_of (tests ++ tests_of literals scripts) Between) rest
  scripts_run tests [] rest are = ap (λ (ts : List Test). steps literals (front_of ts Between) rest) (sym (append-nil tests))
  scripts_run tests (script ∷ scripts) rest are =
      ap (steps literals (front_of tests Between)) (append_assoc (script_lines script) (scripts_lines scripts) rest)
      ∙ script_run tests script (scripts_lines scripts ++ rest) are.0
      ∙ scripts_run (tests ++ test_of literals script ∷ []) scripts rest are.1
      ∙ ap (λ (ts : List Test). steps literals (front_of ts Between) rest) (append_assoc tests (test_of literals script ∷ []) (tests_of literals scripts))

  open_run : (tests : List Test) (of : Open) → IsOpen literals of → steps literals (front_of tests Between) (open_lines of) ≡ Some (front_of tests of)
  unfolding between_step
  open_run tests Between is = refl
  open_run tests (Named target) is = refl
  open_run tests (Started begun) is =
      ap (steps literals (front_of tests Between)) (sym (append-nil (begun_lines begun))) ∙ begun_run tests begun [] is.args_there is.inputs_there
  open_run tests (Ended script) is =
      ap (steps literals (front_of tests Between)) (sym (append-nil (ended_lines script)))
      ∙ ended_run tests script [] is.numbered_inputs is.not_more is.in_order (are_below (ended_limits literals (length script.inputs)) script is.there)

  -- where the reader of these lines stands
  pub front_run : (scripts : List Script) (of : Open) → AreScripts literals scripts → IsOpen literals of
      → steps literals (front_of [] Between) (scripts_lines scripts ++ open_lines of) ≡ Some (front_of (tests_of literals scripts) of)
  front_run scripts of are is = scripts_run [] scripts (open_lines of) are ∙ open_run (tests_of literals scripts) of is

  pub whole_run : (scripts : List Script) → AreScripts literals scripts → steps literals (front_of [] Between) (scripts_lines scripts) ≡ Some (front_of (tests_of literals scripts) Between)
  whole_run scripts are = ap (steps literals (front_of [] Between)) (sym (append-nil (scripts_lines scripts))) ∙ scripts_run [] scripts [] are

-- ---- the lines are such as texts have

args_lines : (words : List Word) → AreWords words → AllLines (map Arg words)
args_lines [] are = tt
args_lines (word ∷ words) are = (are.0, args_lines words are.1)

ins_lines : (number : ℕ) (listeds : List Listed) → number + length listeds ≤ 2 ^ 32 → AreListed listeds → AllLines (in_lines number listeds)
ins_lines number [] small are = tt
ins_lines number (listed ∷ others) small are = ((omega (arith, small), are.0), ins_lines (suc number) others (omega (arith, small)) are.1)

outs_lines : (number : ℕ) (lists : List (List Word)) → number + length lists ≤ 2 ^ 32 → AreWordLists lists → AllLines (out_lines number lists)
outs_lines number [] small are = tt
outs_lines number (words ∷ others) small are = ((omega (arith, small), are.0), outs_lines (suc number) others (omega (arith, small)) are.1)

news_lines : (number : ℕ) (listeds : List Listed) → number + length listeds ≤ 2 ^ 32 → AreListed listeds → AllLines (new_lines number listeds)
news_lines number [] small are = tt
news_lines number (listed ∷ others) small are = ((omega (arith, small), are.0), news_lines (suc number) others (omega (arith, small)) are.1)

begun_are_lines : (literals : ℕ) (begun : Begun) → IsBegun literals begun → AllLines (begun_lines begun)
begun_are_lines literals begun is = (is.target, (is.bounds, AllLines-++ (map Arg begun.args) (in_lines 0 begun.inputs) (args_lines begun.args is.args) (ins_lines 0 begun.inputs (omega (arith, is.numbered_inputs)) is.inputs)))

ended_are_lines : (literals : ℕ) (script : Script) → IsEnded literals script → AllLines (ended_lines script)
ended_are_lines literals script is = (
  is.target,
  (
    is.bounds,
    AllLines-++ (map Arg script.args) _ (args_lines script.args is.args)
        (AllLines-++ (in_lines 0 script.inputs) _ (ins_lines 0 script.inputs (omega (arith, is.numbered_inputs)) is.inputs)
        (is.outcome, AllLines-++ (out_lines 0 script.outs) (new_lines 0 script.news) (outs_lines 0 script.outs (omega (arith, is.not_more, is.numbered_inputs)) is.outs) (news_lines 0 script.news (omega (arith, is.numbered_news)) is.news))),
  ),
)

pub open_are_lines : (literals : ℕ) (of : Open) → IsOpen literals of → AllLines (open_lines of)
open_are_lines literals Between is = tt
open_are_lines literals (Named target) is = (is, tt)
open_are_lines literals (Started begun) is = begun_are_lines literals begun is
open_are_lines literals (Ended script) is = ended_are_lines literals script is

-- a whole test is one that may end
pub is_ended : (literals : ℕ) (script : Script) → IsScript literals script → IsEnded literals script
is_ended literals script is = record {
  target = is.target;
  bounds = is.bounds;
  args = is.args;
  inputs = is.inputs;
  outcome = is.outcome;
  outs = is.outs;
  news = is.news;
  numbered_inputs = is.numbered_inputs;
  numbered_news = is.numbered_news;
  not_more = omega (arith, is.as_many);
  in_order = inr is.as_many;
  there = is_below_all (ended_limits literals (length script.inputs)) script
      (are_wider (limits_of literals script) (ended_limits literals (length script.inputs)) script (ended_wider literals (length script.inputs) (length script.news) is.numbered_news)
      (are_below (limits_of literals script) script is.there));
}

script_are_lines : (literals : ℕ) (script : Script) → IsScript literals script → AllLines (script_lines script)
script_are_lines literals script is =
    subst AllLines (sym (whole_lines literals script)) (AllLines-++ (ended_lines script) (End ∷ []) (ended_are_lines literals script (is_ended literals script is)) (tt, tt))

pub scripts_are_lines : (literals : ℕ) (scripts : List Script) → AreScripts literals scripts → AllLines (scripts_lines scripts)
scripts_are_lines literals [] are = tt
scripts_are_lines literals (script ∷ scripts) are = AllLines-++ (script_lines script) (scripts_lines scripts) (script_are_lines literals script are.0) (scripts_are_lines literals scripts are.1)
