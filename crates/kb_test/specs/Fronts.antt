-- Where a reader of tests stands after some lines, and which line goes on from there.
use Rattle.std.specs.Prelude.{ℕ, ◌≤◌, ◌^◌, ◌⊎◌, ◌≡◌, IsTrue, map, Bool, ◌==◌, ◌&&◌, nat_lt, if◌then◌else◌, IsSome, Option, None, Some, List, [], ◌∷◌, ◌++◌, length}
use Rattle.std.specs.List.{list_all}
use Rattle.kb_names.specs.Targets.{IsTarget}
use Rattle.kb_names.specs.declared.types.Target.{Target}
use Rattle.kb_heap.specs.declared.bounds.RunBounds.{RunBounds}
use Rattle.kb_test_lines.specs.Words.{AreWords, AreWordLists, word_below, words_below}
use Rattle.kb_test_lines.specs.Lines.{IsRunBounds, AreListed, IsOutcome, SpellsLine, listed_below, outcome_below, texts_of}
use Rattle.kb_test.specs.Scripts.{in_lines, out_lines, new_lines, script_below, limits_of, AreScripts, scripts_lines}
use Rattle.kb_test.specs.Tests.{test_of, tests_of}
use Rattle.kb_test_lines.specs.declared.words.Word.{Word}
use Rattle.kb_test_lines.specs.declared.words.Limits.{Limits}
use Rattle.kb_test_lines.specs.declared.lines.Listed.{Listed}
use Rattle.kb_test_lines.specs.declared.outcomes.Outcome.{Outcome}
use Rattle.kb_test_lines.specs.declared.lines.Line.{Line}
use Rattle.kb_test_lines.specs.declared.lines.Line.TheVariants.{Method, Limit, Arg, In, Ends, Out, New, End}
use Rattle.kb_test.specs.declared.script.Script.{Script}
use Rattle.kb_test.specs.declared.script.Begun.{Begun}
use Rattle.kb_test.specs.declared.test_case.Test.{Test}
use Rattle.kb_test.specs.declared.fronts.Open.{Open}
use Rattle.kb_test.specs.declared.fronts.Open.TheVariants.{Between, Named, Started, Ended}
use Rattle.kb_test.specs.declared.fronts.Front.{Front}

-- Before the ending no number of an input object is too high, and before the end no number of an object of the run is, but
-- that it has 32 bits: more of them may come. The number of a literal is settled where it stands.
abbrev pub open_limits : ℕ → Limits
open_limits literals = record { inputs = 2 ^ 32; literals = literals; made = 2 ^ 32 }

-- from the ending on the input objects are counted
abbrev pub ended_limits : ℕ → ℕ → Limits
ended_limits literals inputs = record { inputs = inputs; literals = literals; made = 2 ^ 32 }

-- one thing more behind what was read
abbrev pub with_arg : Begun → Word → Begun
with_arg begun word = record { target = begun.target; bounds = begun.bounds; args = begun.args ++ word ∷ []; inputs = begun.inputs }

abbrev pub with_input : Begun → Listed → Begun
with_input begun listed = record { target = begun.target; bounds = begun.bounds; args = begun.args; inputs = begun.inputs ++ listed ∷ [] }

abbrev pub with_outcome : Begun → Outcome → Script
with_outcome begun outcome = record {
  target = begun.target;
  bounds = begun.bounds;
  args = begun.args;
  inputs = begun.inputs;
  outcome = outcome;
  outs = [];
  news = [];
}

abbrev pub with_out : Script → List Word → Script
with_out script words = record {
  target = script.target;
  bounds = script.bounds;
  args = script.args;
  inputs = script.inputs;
  outcome = script.outcome;
  outs = script.outs ++ words ∷ [];
  news = script.news;
}

abbrev pub with_new : Script → Listed → Script
with_new script listed = record {
  target = script.target;
  bounds = script.bounds;
  args = script.args;
  inputs = script.inputs;
  outcome = script.outcome;
  outs = script.outs;
  news = script.news ++ listed ∷ [];
}

-- an argument stands before all input objects
abbrev pub may_have_arg : ℕ → Begun → Word → Bool
may_have_arg literals begun word = length begun.inputs == 0 && word_below (open_limits literals) word

abbrev pub may_have_input : ℕ → Begun → ℕ → Listed → Bool
may_have_input literals begun number listed = number == length begun.inputs && listed_below (open_limits literals) listed

-- at the ending all input objects that were named must be there
abbrev pub may_end_so : ℕ → Begun → Outcome → Bool
may_end_so literals begun outcome = script_below (ended_limits literals (length begun.inputs)) (with_outcome begun outcome)

abbrev pub may_have_out : ℕ → Script → ℕ → List Word → Bool
may_have_out literals script number words =
    number == length script.outs && (nat_lt (length script.outs) (length script.inputs) && words_below (ended_limits literals (length script.inputs)) words)

-- an object of the run stands behind the last values of all input objects
abbrev pub may_have_new : ℕ → Script → ℕ → Listed → Bool
may_have_new literals script number listed =
    number == length script.news && (length script.outs == length script.inputs && listed_below (ended_limits literals (length script.inputs)) listed)

-- at the end all objects that were named must be there
abbrev pub may_be_whole : ℕ → Script → Bool
may_be_whole literals script = length script.outs == length script.inputs && script_below (limits_of literals script) script

abbrev pub if_may : {A : Type 0} → Bool → A → Option A
if_may test value = if test then Some value else None

-- what was read of a test, with one line more, if the line may stand there
unfoldable pub begun_step : ℕ → Begun → Line → Option Open
begun_step literals begun (Method target) = None
begun_step literals begun (Limit bounds) = None
begun_step literals begun (Arg word) = if_may (may_have_arg literals begun word) (Started (with_arg begun word))
begun_step literals begun (In number listed) = if_may (may_have_input literals begun number listed) (Started (with_input begun listed))
begun_step literals begun (Ends outcome) = if_may (may_end_so literals begun outcome) (Ended (with_outcome begun outcome))
begun_step literals begun (Out number words) = None
begun_step literals begun (New number listed) = None
begun_step literals begun End = None

unfoldable pub ended_step : ℕ → List Test → Script → Line → Option Front
ended_step literals tests script (Method target) = None
ended_step literals tests script (Limit bounds) = None
ended_step literals tests script (Arg word) = None
ended_step literals tests script (In number listed) = None
ended_step literals tests script (Ends outcome) = None
ended_step literals tests script (Out number words) =
    if_may (may_have_out literals script number words) (record { tests = tests; open_test = Ended (with_out script words) })
ended_step literals tests script (New number listed) =
    if_may (may_have_new literals script number listed) (record { tests = tests; open_test = Ended (with_new script listed) })
ended_step literals tests script End =
    if_may (may_be_whole literals script) (record { tests = tests ++ test_of literals script ∷ []; open_test = Between })

unfoldable pub between_step : Line → Option Open
between_step (Method target) = Some (Named target)
between_step (Limit bounds) = None
between_step (Arg word) = None
between_step (In number listed) = None
between_step (Ends outcome) = None
between_step (Out number words) = None
between_step (New number listed) = None
between_step End = None

unfoldable pub named_step : Target → Line → Option Open
named_step target (Method other) = None
named_step target (Limit bounds) = Some (Started (record { target = target; bounds = bounds; args = []; inputs = [] }))
named_step target (Arg word) = None
named_step target (In number listed) = None
named_step target (Ends outcome) = None
named_step target (Out number words) = None
named_step target (New number listed) = None
named_step target End = None

abbrev pub with_open : List Test → Option Open → Option Front
with_open tests None = None
with_open tests (Some open_test) = Some (record { tests = tests; open_test = open_test })

-- the front with one line more, if the line may stand there
abbrev pub step : ℕ → Front → Line → Option Front
step literals front line = open_step front.open_test
  where
    open_step : Open → Option Front
    open_step Between = with_open front.tests (between_step line)
    open_step (Named target) = with_open front.tests (named_step target line)
    open_step (Started begun) = with_open front.tests (begun_step literals begun line)
    open_step (Ended script) = ended_step literals front.tests script line

-- a line of that text goes on from there
abbrev pub FitsAt : ℕ → Front → List ℕ → Type 0
FitsAt literals front text = (line : Line) × SpellsLine line text × IsSome (step literals front line)

-- ---- what a reader of the lines has read

-- the lines of a test that is not read to its end
abbrev pub begun_lines : Begun → List Line
begun_lines begun = Method begun.target ∷ Limit begun.bounds ∷ (map Arg begun.args ++ in_lines 0 begun.inputs)

abbrev pub ended_lines : Script → List Line
ended_lines script = Method script.target ∷ Limit script.bounds ∷ (map Arg script.args ++ (in_lines 0 script.inputs ++ (Ends script.outcome ∷ (out_lines 0 script.outs ++ new_lines 0 script.news))))

abbrev pub open_lines : Open → List Line
open_lines Between = []
open_lines (Named target) = Method target ∷ []
open_lines (Started begun) = begun_lines begun
open_lines (Ended script) = ended_lines script

pub record IsBegun (literals : ℕ) (begun : Begun) : Type 0 where
  pub target : IsTarget begun.target
  pub bounds : IsRunBounds begun.bounds
  pub args : AreWords begun.args
  pub inputs : AreListed begun.inputs
  pub numbered_inputs : length begun.inputs ≤ 2 ^ 32
  pub args_there : IsTrue (words_below (open_limits literals) begun.args)
  pub inputs_there : IsTrue (list_all (listed_below (open_limits literals)) begun.inputs)

pub record IsEnded (literals : ℕ) (script : Script) : Type 0 where
  pub target : IsTarget script.target
  pub bounds : IsRunBounds script.bounds
  pub args : AreWords script.args
  pub inputs : AreListed script.inputs
  pub outcome : IsOutcome script.outcome
  pub outs : AreWordLists script.outs
  pub news : AreListed script.news
  pub numbered_inputs : length script.inputs ≤ 2 ^ 32
  pub numbered_news : length script.news ≤ 2 ^ 32
  pub not_more : length script.outs ≤ length script.inputs
  pub in_order : script.news ≡ [] ⊎ (length script.outs ≡ length script.inputs)
  pub there : IsTrue (script_below (ended_limits literals (length script.inputs)) script)

abbrev pub IsOpen : ℕ → Open → Type 0
IsOpen literals Between = Unit {0}
IsOpen literals (Named target) = IsTarget target
IsOpen literals (Started begun) = IsBegun literals begun
IsOpen literals (Ended script) = IsEnded literals script

-- the front is what is read of these lines
pub record StandsBehind (literals : ℕ) (front : Front) (texts : List (List ℕ)) : Type 0 where
  pub scripts : List Script
  pub are : AreScripts literals scripts
  pub tests_are : front.tests ≡ tests_of literals scripts
  pub open_test : IsOpen literals front.open_test
  pub texts_are : texts ≡ texts_of (scripts_lines scripts ++ open_lines front.open_test)

-- the lines are those of these tests
pub record SpellsLines (literals : ℕ) (tests : List Test) (texts : List (List ℕ)) : Type 0 where
  pub scripts : List Script
  pub are : AreScripts literals scripts
  pub tests_are : tests ≡ tests_of literals scripts
  pub texts_are : texts ≡ texts_of (scripts_lines scripts)

-- the line was read, or may not stand there
abbrev pub TakesText : ℕ → Front → List ℕ → Option Front → Type 0
TakesText literals front text (Some next) = (line : Line) × SpellsLine line text × (step literals front line ≡ Some next)
TakesText literals front text None = FitsAt literals front text → ⊥
