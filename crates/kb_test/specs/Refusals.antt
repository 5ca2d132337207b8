-- What the reader of tests answers.
use Rattle.std.specs.Prelude.{◌≡◌, ℕ, List, ◌++◌, Result, Ok, Err}
use Rattle.kb_grammar.specs.Lines.{IsFirstBadLine}
use Rattle.kb_test.specs.Tests.{SpellsTests, IsTestsText}
use Rattle.kb_test.specs.declared.test_case.Test.{Test}
use Rattle.kb_test.specs.declared.reading.TestRefusal.{TestRefusal}
use Rattle.kb_test.specs.declared.reading.TestRefusal.TheVariants.{TestLine, NoMemory as no_memory}

-- these tests were read, unless memory ran out
abbrev pub ReadsTests : Result (List Test) TestRefusal → List Test → Type 0
ReadsTests (Ok read) tests = read ≡ tests
ReadsTests (Err (TestLine number)) tests = ⊥
ReadsTests (Err no_memory) tests = Unit {0}

-- no list of tests goes on at that line, unless memory ran out
abbrev pub RefusesTestText : ℕ → List ℕ → TestRefusal → Type 0
RefusesTestText literals text (TestLine number) = IsFirstBadLine (IsTestsText literals) text number
RefusesTestText literals text no_memory = Unit {0}

-- the text of these tests was appended
pub record Appends (literals : ℕ) (tests : List Test) (old new : List ℕ) : Type 0 where
  pub text : List ℕ
  pub spelled : SpellsTests literals tests text
  pub is : new ≡ old ++ text
