-- The tests of paths, and their text, path by path.
use Rattle.std.proofs.Common.{◌≡◌, ℕ, suc, ◌<◌, ◌≤◌, ◌-◌, List, [], ◌∷◌, ◌++◌, length, take, drop, get_or, refl, sym, ◌∙◌, ap, subst, arith, append_assoc, append-nil}
use Rattle.std.proofs.lemmas.List.{take_all}
use Rattle.std.specs.List.{AllByRecursion, flat_map}
use Rattle.kb_picture.specs.Carried.{EachPath}
use Rattle.kb_classes.specs.World.{World}
use Rattle.kb_picture.specs.declared.path.Ended.{Ended}
use Rattle.kb_picture.specs.declared.path.Leaf.{Leaf}
use Rattle.kb_picture.specs.declared.path.Leaf.TheVariants.{Ended as EndedLeaf, Cut, Undecided, Open}
use Rattle.kb_picture.specs.declared.path.Path.{Path}
use Rattle.kb_report_text.specs.declared.report.Report.{Report}
use Rattle.kb_test.specs.declared.test_case.Test.{Test}
use Rattle.kb_test.specs.Refusals.{Appends}
use Rattle.kb_test.specs.Tests.{SpellsTests}
use Rattle.kb_test.proofs.TextLaws.{joined, no_tests}
use Rattle.kb_report_tests.specs.Tests.{path_tests, test_of}

-- the tests of some paths of a report
abbrev pub tests_on : World → Report → List Path → List Test
tests_on world report paths = flat_map (λ (path : Path). path_tests world report path path.leaf) paths

-- ---- what holds of each path

pub path_head : (P : Path → Type 0) (path : Path) (paths : List Path) → EachPath P (path ∷ paths) → P path
path_head P path paths each = each 0 path refl

pub path_tail : (P : Path → Type 0) (path : Path) (paths : List Path) → EachPath P (path ∷ paths) → EachPath P paths
path_tail P path paths each i other at = each (suc i) other at

pub first_holds : (P : Path → Type 0) (rest : List Path) (path : Path) → 1 ≤ length rest → path ≡ get_or rest 0 path → EachPath P rest → P path
first_holds P [] path some at each = absurd (omega (arith, some))
first_holds P (x ∷ others) path some at each = subst P (sym at) (path_head P x others each)

pub others_hold : (P : Path → Type 0) (rest : List Path) → 1 ≤ length rest → EachPath P rest → EachPath P (take (length rest - 1) (drop 1 rest))
others_hold P [] some each = absurd (omega (arith, some))
others_hold P (x ∷ others) some each =
    let long : length others ≤ length (x ∷ others) - 1 = omega arith in
    subst (EachPath P) (sym (take_all (length (x ∷ others) - 1) others long)) (path_tail P x others each)

-- ---- what holds of each test

-- it holds of the test of a path that has ended
abbrev pub TestHolds : (Test → Type 0) → World → Report → Path → Type 0
TestHolds P world report path = (ended : Ended) → path.leaf ≡ EndedLeaf ended → P (test_of world report path ended)

path_all : (P : Test → Type 0) (world : World) (report : Report) (path : Path) → TestHolds P world report path → AllByRecursion P (path_tests world report path path.leaf)
path_all P world report path holds = go path.leaf refl
  where
    go : (leaf : Leaf) → path.leaf ≡ leaf → AllByRecursion P (path_tests world report path leaf)
    go (EndedLeaf ended) e = (holds ended e, tt)
    go (Cut bound input) e = tt
    go (Undecided log) e = tt
    go Open e = tt

both_all : {A : Type 0} (P : A → Type 0) (xs ys : List A) → AllByRecursion P xs → AllByRecursion P ys → AllByRecursion P (xs ++ ys)
both_all P [] ys front back = back
both_all P (x ∷ xs) ys front back = (front.0, both_all P xs ys front.1 back)

-- and so of all tests, where it holds of each path's
pub tests_all : (P : Test → Type 0) (world : World) (report : Report) (paths : List Path) → EachPath (TestHolds P world report) paths → AllByRecursion P (tests_on world report paths)
tests_all P world report [] each = tt
tests_all P world report (path ∷ paths) each =
    both_all P (path_tests world report path path.leaf) (tests_on world report paths) (path_all P world report path (path_head (TestHolds P world report) path paths each))
    (tests_all P world report paths (path_tail (TestHolds P world report) path paths each))

-- ---- the text of tests

-- The text of the tests before `rest` is written: with a text of these behind it, it is one of all.
pub record IsBehind (literals : ℕ) (all rest : List Test) (text : List ℕ) : Type 0 where
  pub goes_on : (more : List ℕ) → SpellsTests literals rest more → SpellsTests literals all (text ++ more)

pub none_behind : (literals : ℕ) (all : List Test) (text : List ℕ) → text ≡ [] → IsBehind literals all all text
none_behind literals all text none = record { goes_on = λ more spells. subst (λ (t : List ℕ). SpellsTests literals all (t ++ more)) (sym none) spells }

pub all_behind : (literals : ℕ) (world : World) (report : Report) (all : List Test) (rest : List Path) (text : List ℕ) → length rest < 1 → IsBehind literals all (tests_on world report rest) text →
    SpellsTests literals all text
all_behind literals world report all [] text end at = subst (SpellsTests literals all) (append-nil text) (at.goes_on [] (no_tests literals))
all_behind literals world report all (path ∷ rest) text end at = absurd (omega (arith, end))

-- the tests of one path are written
more_behind : (literals : ℕ) (all xs ys : List Test) (text new : List ℕ) → IsBehind literals all (xs ++ ys) text → Appends literals xs text new → IsBehind literals all ys new
more_behind literals all xs ys text new at more = record {
  goes_on = λ rest spells.
      subst (SpellsTests literals all) (sym (append_assoc text more.text rest) ∙ ap (λ (t : List ℕ). t ++ rest) (sym more.is)) (at.goes_on (more.text ++ rest) (joined literals xs ys more.text rest more.spelled spells));
}

pub first_path_more : (literals : ℕ) (world : World) (report : Report) (all : List Test) (rest : List Path) (path : Path) (text new : List ℕ) → 1 ≤ length rest → path ≡ get_or rest 0 path →
    IsBehind literals all (tests_on world report rest) text → Appends literals (path_tests world report path path.leaf) text new →
    IsBehind literals all (tests_on world report (take (length rest - 1) (drop 1 rest))) new
first_path_more literals world report all [] path text new some at behind more = absurd (omega (arith, some))
first_path_more literals world report all (x ∷ others) path text new some at behind more =
    let long : length others ≤ length (x ∷ others) - 1 = omega arith in
    let same : take (length (x ∷ others) - 1) others ≡ others = take_all (length (x ∷ others) - 1) others long in
    let is : path ≡ x = at in
    subst (λ (ps : List Path). IsBehind literals all (tests_on world report ps) new) (sym same)
    (more_behind literals all (path_tests world report x x.leaf) (tests_on world report others) text new behind
    (subst (λ (p : Path). Appends literals (path_tests world report p p.leaf) text new) is more))
