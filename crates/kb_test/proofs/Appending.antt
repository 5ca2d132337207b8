-- Lists of objects that are written one after the other.
use Rattle.std.proofs.Common.{◌≡◌, ℕ, zero, suc, ◌+◌, ◌-◌, ◌<◌, ◌≤◌, Option, None, Some, Result, Ok, Err, OnOk, IfSome, List, [], ◌∷◌, ◌++◌, length, map, take, drop, get_or, refl, sym, ◌∙◌, ap, arith, append_assoc, append-nil}
use Rattle.std.specs.Prelude.{slice_get}
use Rattle.std.proofs.lemmas.List.{length-take}
use Rattle.std.proofs.Math.ListN.{drop_of_length-le}
use Rattle.std.proofs.Math.Seq.{take-append_seam}
use Rattle.std.proofs.lemmas.Option.{slice_get_within}
use Rattle.kb_grammar.specs.Lines.{lines_text}
use Rattle.kb_grammar.proofs.LineLaws.{lines_text-++}
use Rattle.kb_heap.specs.declared.heap.Object.{Object}
use Rattle.kb_test_lines.specs.declared.words.Word.{Word}
use Rattle.kb_test_lines.specs.declared.lines.Line.{Line}
use Rattle.kb_test_lines.specs.declared.lines.Line.TheVariants.{Out, New}
use Rattle.kb_heap.specs.declared.ending.Ending.{Ending}
use Rattle.kb_test_lines.specs.Lines.{line_text, texts_of}
use Rattle.kb_test.specs.Scripts.{out_lines, new_lines}
use Rattle.kb_test.specs.Writing.{words_of, listed_of, listeds_of, outs_of, news_of, ending_text, run_text}
use Rattle.kb_test_lines.proofs.Texts.{texts_of-++}

-- the values of several objects
abbrev pub lists_of : ℕ → ℕ → List Object → List (List Word)
lists_of inputs literals objects = map (λ (object : Object). words_of inputs literals object.values) objects

-- the object of that number is the first behind those before it
pub next_object : (objects : List Object) (number : ℕ) (object : Object) → slice_get objects number ≡ Some object → drop number objects ≡ object ∷ drop (number + 1) objects
next_object [] number object e = absurd (omega (arith, slice_get_within [] number object e))
next_object (first ∷ objects) zero object e = let same : first ≡ object = ap (λ (o : Option Object). first_of o) e in ap (λ (o : Object). o ∷ objects) same
  where
    first_of : Option Object → Object
    first_of None = first
    first_of (Some o) = o
next_object (first ∷ objects) (suc number) object e =
    next_object objects number object e ∙ ap (λ (n : ℕ). object ∷ drop n (first ∷ objects)) (let next : suc (number + 1) ≡ suc number + 1 = omega arith in next)

-- the same among so many first ones
pub next_of_first : (count : ℕ) (objects : List Object) (number : ℕ) (object : Object) → number < count → slice_get objects number ≡ Some object
    → drop number (take count objects) ≡ object ∷ drop (number + 1) (take count objects)
next_of_first zero objects number object lt e = absurd (omega (arith, lt))
next_of_first (suc count) [] number object lt e = absurd (omega (arith, slice_get_within [] number object e))
next_of_first (suc count) (first ∷ objects) zero object lt e = let same : first ≡ object = ap (λ (o : Option Object). first_of o) e in ap (λ (o : Object). o ∷ take count objects) same
  where
    first_of : Option Object → Object
    first_of None = first
    first_of (Some o) = o
next_of_first (suc count) (first ∷ objects) (suc number) object lt e =
    next_of_first count objects number object (omega (arith, lt)) e ∙ ap (λ (n : ℕ). object ∷ drop n (first ∷ take count objects)) (let next : suc (number + 1) ≡ suc number + 1 = omega arith in next)

-- one line more
pub next_out : (inputs literals number : ℕ) (objects : List Object) (object : Object) (old into new : List ℕ) → number < inputs → slice_get objects number ≡ Some object
    → into ++ lines_text (texts_of (out_lines number (lists_of inputs literals (drop number (take inputs objects))))) ≡ old
    → new ≡ into ++ (line_text (Out number (words_of inputs literals object.values)) ++ 10 ∷ [])
    → new ++ lines_text (texts_of (out_lines (number + 1) (lists_of inputs literals (drop (number + 1) (take inputs objects))))) ≡ old
next_out inputs literals number objects object old into new lt e before more =
    ap (λ (l : List ℕ). l ++ after) more ∙ append_assoc into (line ++ 10 ∷ []) after ∙ ap (λ (l : List ℕ). into ++ l) (append_assoc line (10 ∷ []) after)
    ∙ ap (λ (n : ℕ). into ++ (line ++ 10 ∷ lines_text (texts_of (out_lines n (lists_of inputs literals (drop (number + 1) (take inputs objects))))))) (let next : number + 1 ≡ suc number = omega arith in next)
    ∙ ap (λ (os : List Object). into ++ lines_text (texts_of (out_lines number (lists_of inputs literals os)))) (sym (next_of_first inputs objects number object lt e))
    ∙ before
  where
    line : List ℕ
    line = line_text (Out number (words_of inputs literals object.values))

    after : List ℕ
    after = lines_text (texts_of (out_lines (number + 1) (lists_of inputs literals (drop (number + 1) (take inputs objects)))))

-- behind the last object there is none
pub no_object : (objects : List Object) (number : ℕ) → slice_get objects number ≡ None → drop number objects ≡ []
no_object [] zero none = refl
no_object [] (suc number) none = refl
no_object (first ∷ objects) zero none = absurd cc
no_object (first ∷ objects) (suc number) none = no_object objects number none

no_first : (count : ℕ) (objects : List Object) (number : ℕ) → slice_get objects number ≡ None → drop number (take count objects) ≡ []
no_first zero objects zero none = refl
no_first zero objects (suc number) none = refl
no_first (suc count) [] zero none = refl
no_first (suc count) [] (suc number) none = refl
no_first (suc count) (first ∷ objects) zero none = absurd cc
no_first (suc count) (first ∷ objects) (suc number) none = no_first count objects number none

-- the heap has fewer objects
pub missing_out : (inputs literals number : ℕ) (objects : List Object) (old into : List ℕ) → slice_get objects number ≡ None
    → into ++ lines_text (texts_of (out_lines number (lists_of inputs literals (drop number (take inputs objects))))) ≡ old → into ≡ old
missing_out inputs literals number objects old into none before =
    sym (append-nil into) ∙ ap (λ (os : List Object). into ++ lines_text (texts_of (out_lines number (lists_of inputs literals os)))) (sym (no_first inputs objects number none)) ∙ before

-- all last values are written
pub last_out : (inputs literals number : ℕ) (objects : List Object) (old into : List ℕ) → inputs ≤ number
    → into ++ lines_text (texts_of (out_lines number (lists_of inputs literals (drop number (take inputs objects))))) ≡ old → into ≡ old
last_out inputs literals number objects old into more before =
    sym (append-nil into)
    ∙ ap (λ (os : List Object). into ++ lines_text (texts_of (out_lines number (lists_of inputs literals os)))) (sym (drop_of_length-le (take inputs objects) (omega (arith, more, length-take inputs objects)))) ∙ before

-- ---- objects of the run

pub next_new : (inputs literals before number : ℕ) (objects : List Object) (object : Object) (old into new : List ℕ) → slice_get objects (before + number) ≡ Some object
    → into ++ lines_text (texts_of (new_lines number (listeds_of inputs literals (drop (before + number) objects)))) ≡ old
    → new ≡ into ++ (line_text (New number (listed_of inputs literals object)) ++ 10 ∷ [])
    → new ++ lines_text (texts_of (new_lines (number + 1) (listeds_of inputs literals (drop (before + (number + 1)) objects)))) ≡ old
next_new inputs literals before number objects object old into new e so_far more =
    ap (λ (l : List ℕ). l ++ after) more ∙ append_assoc into (line ++ 10 ∷ []) after ∙ ap (λ (l : List ℕ). into ++ l) (append_assoc line (10 ∷ []) after)
    ∙ ap (λ (n : ℕ). into ++ (line ++ 10 ∷ lines_text (texts_of (new_lines n (listeds_of inputs literals (drop (before + (number + 1)) objects)))))) (let next : number + 1 ≡ suc number = omega arith in next)
    ∙ ap (λ (n : ℕ). into ++ (line ++ 10 ∷ lines_text (texts_of (new_lines (suc number) (listeds_of inputs literals (drop n objects)))))) (let next : before + (number + 1) ≡ before + number + 1 = omega arith in next)
    ∙ ap (λ (os : List Object). into ++ lines_text (texts_of (new_lines number (listeds_of inputs literals os)))) (sym (next_object objects (before + number) object e))
    ∙ so_far
  where
    line : List ℕ
    line = line_text (New number (listed_of inputs literals object))

    after : List ℕ
    after = lines_text (texts_of (new_lines (number + 1) (listeds_of inputs literals (drop (before + (number + 1)) objects))))

-- all of them are written
pub last_new : (inputs literals at number : ℕ) (objects : List Object) (old into : List ℕ) → slice_get objects at ≡ None
    → into ++ lines_text (texts_of (new_lines number (listeds_of inputs literals (drop at objects)))) ≡ old → into ≡ old
last_new inputs literals at number objects old into none so_far =
    sym (append-nil into) ∙ ap (λ (os : List Object). into ++ lines_text (texts_of (new_lines number (listeds_of inputs literals os)))) (sym (no_object objects at none)) ∙ so_far

-- the lines of a run, behind what was written
pub run_parts : (inputs literals : ℕ) (objects : List Object) (ending : Ending) (old : List ℕ)
    → (((old ++ ending_text inputs literals ending) ++ 10 ∷ []) ++ lines_text (texts_of (out_lines 0 (outs_of inputs literals objects)))) ++ lines_text (texts_of (new_lines 0 (news_of inputs literals objects)))
    ≡ old ++ run_text inputs literals ending objects
run_parts inputs literals objects ending old =
    rw (
      texts_of-++ (out_lines 0 (outs_of inputs literals objects)) (new_lines 0 (news_of inputs literals objects)),
      lines_text-++ (texts_of (out_lines 0 (outs_of inputs literals objects))) (texts_of (new_lines 0 (news_of inputs literals objects))),
    ) (simp append_assoc)

-- ---- what was there stays in front

pub kept_more : (old into new : List ℕ) → take (length old) into ≡ old → take (length into) new ≡ into → take (length old) new ≡ old
kept_more [] into new p q = refl
kept_more (x ∷ old) [] new p q = absurd cc
kept_more (x ∷ old) (y ∷ into) [] p q = absurd cc
kept_more (x ∷ old) (y ∷ into) (z ∷ new) p q =
    let fronts : take (length old) into ≡ old = cc in
    let rests : take (length into) new ≡ into = cc in
    let first : z ≡ x = cc in
    ap (λ (b : ℕ). b ∷ take (length old) new) first ∙ ap (λ (bs : List ℕ). x ∷ bs) (kept_more old into new fronts rests)

pub kept_behind : (old piece new : List ℕ) → new ≡ old ++ piece → take (length old) new ≡ old
kept_behind old piece new e = ap (take (length old)) e ∙ take-append_seam old piece
