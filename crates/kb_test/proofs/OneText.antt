-- A list of tests has one text.
use Rattle.std.proofs.Common.{◌≡◌, ℕ, zero, suc, ◌+◌, ◌-◌, ◌<◌, ◌≤◌, Bool, true, false, ◌&&◌, if◌then◌else◌, Option, None, Some, List, [], ◌∷◌, ◌++◌, length, map, take, drop, refl, sym, ◌∙◌, ap, arith, subst}
use Rattle.std.specs.Prelude.{nat_lt, ℤ}
use Rattle.std.specs.List.{list_all}
use Rattle.std.proofs.lemmas.Bool.{ltb-true, lt-ltb}
use Rattle.std.proofs.lemmas.List.{length-map, length-replicate}
use Rattle.std.proofs.Math.Seq.{drop-append-add, drop-append_seam, take-append_seam}
use Rattle.kb_names.specs.declared.types.Target.{Target}
use Rattle.kb_grammar.specs.Lines.{lines_text}
use Rattle.kb_heap.specs.declared.heap.Value.{Value}
use Rattle.kb_heap.specs.declared.heap.Object.{Object}
use Rattle.kb_heap.specs.declared.bounds.RunBounds.{RunBounds}
use Rattle.kb_test_lines.specs.declared.words.Reference.{Reference}
use Rattle.kb_test_lines.specs.declared.words.Reference.TheVariants.{Input, Literal, Made}
use Rattle.kb_test_lines.specs.declared.words.Word.{Word}
use Rattle.kb_test_lines.specs.declared.words.Word.TheVariants.{Int, Null, Object as object_word}
use Rattle.kb_test_lines.specs.declared.words.Limits.{Limits}
use Rattle.kb_test_lines.specs.declared.lines.Listed.{Listed}
use Rattle.kb_test_lines.specs.declared.outcomes.RunBound.TheVariants.{Alloc, Loops, Depth, Steps}
use Rattle.kb_test_lines.specs.declared.outcomes.Outcome.{Outcome}
use Rattle.kb_test_lines.specs.declared.outcomes.Outcome.TheVariants.{Returns, Throws, IllTyped, Past}
use Rattle.kb_test.specs.declared.script.Script.{Script}
use Rattle.kb_test.specs.declared.test_case.Test.{Test}
use Rattle.kb_test_lines.specs.Words.{is_below, word_below, words_below}
use Rattle.kb_test_lines.specs.Lines.{listed_below, outcome_below, texts_of}
use Rattle.kb_test.specs.Scripts.{limits_of, IsScript, AreScripts, scripts_lines}
use Rattle.kb_heap.specs.Heap.{literal}
use Rattle.kb_test.specs.Tests.{number_of, value_of, values_of, object_of, objects_of, last_objects, ending_of, literal_objects, test_of, tests_of, SpellsTests}
use Rattle.kb_test.specs.Writing.{reference_of, word_of, words_of, listed_of, listeds_of, outs_of, news_of}
use Rattle.kb_test.proofs.Stated.{outcome_of}
use Rattle.kb_test.proofs.Steps.{both, AreBelow, are_below}

not_both : {b : Bool} → b ≡ true → b ≡ false → ⊥
not_both p q = cc

module _ (inputs literals made : ℕ) where
  abbrev limits : Limits
  limits = record { inputs = inputs; literals = literals; made = made }

  again : (reference : Reference) → is_below limits reference ≡ true → reference_of inputs literals (number_of inputs literals reference) ≡ reference
  again (Input number) h = ap (λ (b : Bool). if b then Input number else (if nat_lt (number - inputs) literals then Literal (number - inputs) else Made (number - inputs - literals))) h
  again (Literal number) h = go (nat_lt (inputs + number) inputs) refl (nat_lt (inputs + number - inputs) literals) refl
    where
      less : number < literals
      less = ltb-true number literals h

      go : (first : Bool) → nat_lt (inputs + number) inputs ≡ first → (second : Bool) → nat_lt (inputs + number - inputs) literals ≡ second
          → (if first then Input (inputs + number) else (if second then Literal (inputs + number - inputs) else Made (inputs + number - inputs - literals))) ≡ Literal number
      go true e second f = absurd (omega (arith, ltb-true (inputs + number) inputs e))
      go false e true f = ap (λ (n : ℕ). Literal n) (omega arith)
      go false e false f =
          let yes : nat_lt (inputs + number - inputs) literals ≡ true = lt-ltb (inputs + number - inputs) literals (omega (arith, less)) in
          absurd (not_both yes f)
  again (Made number) h = go (nat_lt (inputs + literals + number) inputs) refl (nat_lt (inputs + literals + number - inputs) literals) refl
    where
      go : (first : Bool) → nat_lt (inputs + literals + number) inputs ≡ first → (second : Bool) → nat_lt (inputs + literals + number - inputs) literals ≡ second
          → (if first then Input (inputs + literals + number) else (if second then Literal (inputs + literals + number - inputs) else Made (inputs + literals + number - inputs - literals))) ≡ Made number
      go true e second f = absurd (omega (arith, ltb-true (inputs + literals + number) inputs e))
      go false e true f = absurd (omega (arith, ltb-true (inputs + literals + number - inputs) literals f))
      go false e false f = ap (λ (n : ℕ). Made n) (omega arith)

  word_again : (word : Word) → word_below limits word ≡ true → word_of inputs literals (value_of inputs literals word) ≡ word
  word_again (Int number) h = refl
  word_again Null h = refl
  word_again (object_word reference) h = ap (λ (r : Reference). object_word r) (again reference h)

  words_again : (words : List Word) → words_below limits words ≡ true → words_of inputs literals (values_of inputs literals words) ≡ words
  words_again [] h = refl
  words_again (word ∷ words) h =
      let parts = both (word_below limits word) (words_below limits words) h in
      ap (λ (w : Word). w ∷ words_of inputs literals (values_of inputs literals words)) (word_again word parts.0) ∙ ap (λ (ws : List Word). word ∷ ws) (words_again words parts.1)

  listed_again : (listed : Listed) → listed_below limits listed ≡ true → listed_of inputs literals (object_of inputs literals listed) ≡ listed
  listed_again listed h = ap (λ (ws : List Word). (let one : Listed = record { kind = listed.kind; values = ws } in one)) (words_again listed.values h)

  listeds_again : (listeds : List Listed) → list_all (listed_below limits) listeds ≡ true → listeds_of inputs literals (objects_of inputs literals listeds) ≡ listeds
  listeds_again [] h = refl
  listeds_again (listed ∷ listeds) h =
      let parts = both (listed_below limits listed) (list_all (listed_below limits) listeds) h in
      ap (λ (l : Listed). l ∷ listeds_of inputs literals (objects_of inputs literals listeds)) (listed_again listed parts.0) ∙ ap (λ (ls : List Listed). listed ∷ ls) (listeds_again listeds parts.1)

  lists_again : (listeds : List Listed) (lists : List (List Word)) → length lists ≡ length listeds → list_all (words_below limits) lists ≡ true
      → map (λ (object : Object). words_of inputs literals object.values) (last_objects inputs literals listeds lists) ≡ lists
  lists_again [] [] e h = refl
  lists_again [] (words ∷ lists) e h = absurd (omega (arith, e))
  lists_again (listed ∷ listeds) [] e h = refl
  lists_again (listed ∷ listeds) (words ∷ lists) e h =
      let parts = both (words_below limits words) (list_all (words_below limits) lists) h in
      ap (λ (ws : List Word). ws ∷ map (λ (object : Object). words_of inputs literals object.values) (last_objects inputs literals listeds lists)) (words_again words parts.0)
      ∙ ap (λ (ls : List (List Word)). words ∷ ls) (lists_again listeds lists (omega (arith, e)) parts.1)

  outcome_again : (outcome : Outcome) → outcome_below limits outcome ≡ true → outcome_of inputs literals (ending_of inputs literals outcome) ≡ Some outcome
  outcome_again (Returns None) h = refl
  outcome_again (Returns (Some word)) h = ap (λ (w : Word). Some (Returns (Some w))) (word_again word h)
  outcome_again (Throws reference) h = ap (λ (r : Reference). Some (Throws r)) (again reference h)
  outcome_again (IllTyped place) h = refl
  outcome_again (Past Alloc) h = refl
  outcome_again (Past Loops) h = refl
  outcome_again (Past Depth) h = refl
  outcome_again (Past Steps) h = refl

pub last_many : (inputs literals : ℕ) (listeds : List Listed) (lists : List (List Word)) → length lists ≡ length listeds → length (last_objects inputs literals listeds lists) ≡ length listeds
last_many inputs literals [] lists e = refl
last_many inputs literals (listed ∷ listeds) [] e = absurd (omega (arith, e))
last_many inputs literals (listed ∷ listeds) (words ∷ lists) e = ap suc (last_many inputs literals listeds lists (omega (arith, e)))

-- ---- what a test says, read off it

record Parts : Type 0 where
  target : Target
  bounds : RunBounds
  args : List Word
  inputs : List Listed
  outcome : Option Outcome
  outs : List (List Word)
  news : List Listed

abbrev parts_of : Script → Parts
parts_of script = record {
  target = script.target;
  bounds = script.bounds;
  args = script.args;
  inputs = script.inputs;
  outcome = Some script.outcome;
  outs = script.outs;
  news = script.news;
}

abbrev parts_in : ℕ → ℕ → Test → Parts
parts_in inputs literals test = record {
  target = test.target;
  bounds = test.bounds;
  args = words_of inputs literals test.input.args;
  inputs = listeds_of inputs literals test.input.heap.objects;
  outcome = outcome_of inputs literals test.ending;
  outs = outs_of inputs literals test.heap.objects;
  news = news_of inputs literals test.heap.objects;
}

abbrev parts_at : ℕ → Test → Parts
parts_at literals test = parts_in (length test.input.heap.objects) literals test

abbrev with_outcome : Outcome → Option Outcome → Outcome
with_outcome default None = default
with_outcome default (Some outcome) = outcome

-- the text of these parts
abbrev rebuilt : Outcome → Parts → Script
rebuilt default parts = record {
  target = parts.target;
  bounds = parts.bounds;
  args = parts.args;
  inputs = parts.inputs;
  outcome = with_outcome default parts.outcome;
  outs = parts.outs;
  news = parts.news;
}

module _ (literals : ℕ) (script : Script) (is : IsScript literals script) where
  abbrev count : ℕ
  count = length script.inputs

  abbrev last : List Object
  last = last_objects count literals script.inputs script.outs

  abbrev made : List Object
  made = objects_of count literals script.news

  there : AreBelow (limits_of literals script) script
  there = are_below (limits_of literals script) script is.there

  many : length last ≡ count
  many = last_many count literals script.inputs script.outs is.as_many

  outs_again : outs_of count literals (last ++ (literal_objects literals ++ made)) ≡ script.outs
  outs_again =
      ap (λ (os : List Object). map (λ (object : Object). words_of count literals object.values) os)
      (ap (λ (n : ℕ). take n (last ++ (literal_objects literals ++ made))) (sym many) ∙ take-append_seam last (literal_objects literals ++ made))
      ∙ lists_again count literals (length script.news) script.inputs script.outs is.as_many there.outs

  news_again : news_of count literals (last ++ (literal_objects literals ++ made)) ≡ script.news
  news_again =
      ap (listeds_of count literals)
      (ap (λ (n : ℕ). drop (n + literals) (last ++ (literal_objects literals ++ made))) (sym many) ∙ drop-append-add last (literal_objects literals ++ made) literals
      ∙ ap (λ (n : ℕ). drop n (literal_objects literals ++ made)) (sym (length-replicate literals literal)) ∙ drop-append_seam (literal_objects literals) made)
      ∙ listeds_again count literals (length script.news) script.news there.news

  pub read_off : parts_at literals (test_of literals script) ≡ parts_of script
  read_off =
      ap (λ (n : ℕ). parts_in n literals (test_of literals script)) (length-map script.inputs (object_of count literals))
      ∙ ap (λ (ws : List Word). from ws (listeds_of count literals (objects_of count literals script.inputs)) (outcome_of count literals (ending_of count literals script.outcome))
      (outs_of count literals (last ++ (literal_objects literals ++ made))) (news_of count literals (last ++ (literal_objects literals ++ made)))) (words_again count literals (length script.news) script.args there.args)
      ∙ ap (λ (ls : List Listed). from script.args ls (outcome_of count literals (ending_of count literals script.outcome)) (outs_of count literals (last ++ (literal_objects literals ++ made)))
      (news_of count literals (last ++ (literal_objects literals ++ made)))) (listeds_again count literals (length script.news) script.inputs there.inputs)
      ∙ ap (λ (o : Option Outcome). from script.args script.inputs o (outs_of count literals (last ++ (literal_objects literals ++ made))) (news_of count literals (last ++ (literal_objects literals ++ made))))
      (outcome_again count literals (length script.news) script.outcome there.outcome)
      ∙ ap (λ (ls : List (List Word)). from script.args script.inputs (Some script.outcome) ls (news_of count literals (last ++ (literal_objects literals ++ made)))) outs_again
      ∙ ap (from script.args script.inputs (Some script.outcome) script.outs) news_again
    where
      from : List Word → List Listed → Option Outcome → List (List Word) → List Listed → Parts
      from args inputs outcome outs news =
          record { target = script.target; bounds = script.bounds; args = args; inputs = inputs; outcome = outcome; outs = outs; news = news }

-- tests of one kind are of one text
same_script : (literals : ℕ) (one other : Script) → IsScript literals one → IsScript literals other → test_of literals one ≡ test_of literals other → one ≡ other
same_script literals one other p q e = ap (rebuilt one.outcome) (sym (read_off literals one p) ∙ ap (parts_at literals) e ∙ read_off literals other q)

same_scripts : (literals : ℕ) (ones others : List Script) → AreScripts literals ones → AreScripts literals others → tests_of literals ones ≡ tests_of literals others → ones ≡ others
same_scripts literals [] [] p q e = refl
same_scripts literals [] (other ∷ others) p q e = absurd cc
same_scripts literals (one ∷ ones) [] p q e = absurd cc
same_scripts literals (one ∷ ones) (other ∷ others) p q e =
    let head : test_of literals one ≡ test_of literals other = cc in
    let tails : tests_of literals ones ≡ tests_of literals others = cc in
    ap (λ (s : Script). s ∷ ones) (same_script literals one other p.0 q.0 head) ∙ ap (λ (ss : List Script). other ∷ ss) (same_scripts literals ones others p.1 q.1 tails)

-- the text is one alone
pub same_text : (literals : ℕ) (tests : List Test) (text other : List ℕ) → SpellsTests literals tests text → SpellsTests literals tests other → text ≡ other
same_text literals tests text other p q =
    p.is ∙ ap (λ (ss : List Script). lines_text (texts_of (scripts_lines ss))) (same_scripts literals p.scripts q.scripts p.are q.are (sym p.tests_are ∙ q.tests_are)) ∙ sym q.is
