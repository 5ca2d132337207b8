-- What the text of a test says, and its lines in their order.
use Rattle.std.specs.Prelude.{ℕ, suc, ◌+◌, ◌≤◌, ◌^◌, ◌≡◌, Bool, ◌&&◌, IsTrue, List, [], ◌∷◌, ◌++◌, length, map}
use Rattle.std.specs.List.{flat_map, list_all}
use Rattle.kb_names.specs.Targets.{IsTarget}
use Rattle.kb_test_lines.specs.Words.{AreWords, AreWordLists, words_below}
use Rattle.kb_test_lines.specs.Lines.{AreListed, IsRunBounds, IsOutcome, listed_below, outcome_below}
use Rattle.kb_test_lines.specs.declared.words.Word.{Word}
use Rattle.kb_test_lines.specs.declared.words.Limits.{Limits}
use Rattle.kb_test_lines.specs.declared.lines.Listed.{Listed}
use Rattle.kb_test_lines.specs.declared.lines.Line.{Line}
use Rattle.kb_test_lines.specs.declared.lines.Line.TheVariants.{Method, Limit, Arg, In, Ends, Out, New, End}
use Rattle.kb_test.specs.declared.script.Script.{Script}

-- the objects are numbered from that number on, without gaps
abbrev pub in_lines : ℕ → List Listed → List Line
in_lines number [] = []
in_lines number (listed ∷ others) = In number listed ∷ in_lines (suc number) others

abbrev pub out_lines : ℕ → List (List Word) → List Line
out_lines number [] = []
out_lines number (words ∷ others) = Out number words ∷ out_lines (suc number) others

abbrev pub new_lines : ℕ → List Listed → List Line
new_lines number [] = []
new_lines number (listed ∷ others) = New number listed ∷ new_lines (suc number) others

-- the lines from the ending on
abbrev pub last_lines : Script → List Line
last_lines script = Ends script.outcome ∷ (out_lines 0 script.outs ++ (new_lines 0 script.news ++ End ∷ []))

-- the method, the bounds, the arguments, the input objects, the ending, the last values of the input objects, the
-- objects of the run, and the last line
abbrev pub script_lines : Script → List Line
script_lines script = Method script.target ∷ Limit script.bounds ∷ (map Arg script.args ++ (in_lines 0 script.inputs ++ last_lines script))

-- the number of each object that is named is below the limit of its kind
abbrev pub script_below : Limits → Script → Bool
script_below limits script =
    words_below limits script.args && (list_all (listed_below limits) script.inputs
    && (outcome_below limits script.outcome && (list_all (words_below limits) script.outs && list_all (listed_below limits) script.news)))

-- how many objects of each kind there are, in a world of so many literals
abbrev pub limits_of : ℕ → Script → Limits
limits_of literals script = record { inputs = length script.inputs; literals = literals; made = length script.news }

-- The text of a test says that much, in a world of so many literals: there is one `out` line for each input object, and
-- no object is named that is not there. An object's number has 32 bits.
pub record IsScript (literals : ℕ) (script : Script) : Type 0 where
  pub target : IsTarget script.target
  pub bounds : IsRunBounds script.bounds
  pub args : AreWords script.args
  pub inputs : AreListed script.inputs
  pub outcome : IsOutcome script.outcome
  pub outs : AreWordLists script.outs
  pub news : AreListed script.news
  pub numbered_inputs : length script.inputs ≤ 2 ^ 32
  pub numbered_news : length script.news ≤ 2 ^ 32
  pub as_many : length script.outs ≡ length script.inputs
  pub there : IsTrue (script_below (limits_of literals script) script)

abbrev pub AreScripts : ℕ → List Script → Type 0
AreScripts literals [] = Unit {0}
AreScripts literals (script ∷ scripts) = IsScript literals script × AreScripts literals scripts

-- all lines
abbrev pub scripts_lines : List Script → List Line
scripts_lines scripts = flat_map script_lines scripts
