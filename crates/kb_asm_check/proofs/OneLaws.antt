-- A text has one answer.
use Rattle.std.proofs.Common.{◌≡◌, ℕ, true, List, [], ◌∷◌, ◌++◌, Option, None, Some, refl, sym, ap, ◌∙◌, subst, append_assoc}
use Rattle.std.specs.Option.{option_and_then}
use Rattle.kb_grammar.specs.Lines.{Lacks, AreLines, lines_text}
use Rattle.kb_grammar.proofs.WordLaws.{same_cut, not_lacking}
use Rattle.kb_asm_text.specs.declared.line.Line.{Line}
use Rattle.kb_asm_text.specs.declared.place.Place.{Place}
use Rattle.kb_asm_text.specs.declared.place.Place.TheVariants as places
use Rattle.kb_asm_text.specs.declared.text.Front.{Front}
use Rattle.kb_asm_text.specs.Lines.{SpellsLine}
use Rattle.kb_asm_text.specs.Texts.{next_place, place_behind, SpellEach, IsLongestFront, IsEnd, SpellsClass}
use Rattle.kb_asm_text.proofs.SameLines.{same_line}
use Rattle.kb_asm_check.specs.Limits.{kept}
use Rattle.kb_asm_check.specs.Faults.{IsSound, IsText, IsFirstUnfit, first_fault, number_of}

-- no line that may stand behind the place begins the rest
abbrev NoFurther : Place → List ℕ → Type 0
NoFurther place rest = (line tail : List ℕ) (next : Line) → Lacks 10 line → rest ≡ line ++ 10 ∷ tail → SpellsLine next line → next_place place next ≡ None

-- lines that may stand behind the place do not begin such a rest
blocked : (at p q : Place) (line : Line) (others : List Line) (word words rest tail : List ℕ) → place_behind at [] ≡ Some p
    → place_behind at (line ∷ others) ≡ Some q → NoFurther p rest → Lacks 10 word → SpellsLine line word → rest ≡ (word ++ 10 ∷ words) ++ tail → ⊥
blocked at p q line others word words rest tail here leads no_further lacks spelled begins =
    let same : at ≡ p = cc in
    let cut : rest ≡ word ++ 10 ∷ (words ++ tail) = begins ∙ append_assoc word (10 ∷ words) tail in
    let none : next_place at line ≡ None = ap (λ (r : Place). next_place r line) same ∙ no_further word (words ++ tail) line lacks cut spelled in
    let stop : option_and_then (λ (next : Place). place_behind next others) (next_place at line) ≡ None = ap (λ (o : Option Place). option_and_then (λ (next : Place). place_behind next others) o) none in
    absurd (no_place q (sym stop ∙ leads))
  where
    no_place : (r : Place) → (let nowhere : Option Place = None in nowhere ≡ Some r) → ⊥
    no_place r e = cc

same_from : (at p q : Place) (of other : List Line) (xs ys : List (List ℕ)) (rest tail : List ℕ) → AreLines xs → AreLines ys → SpellEach of xs → SpellEach other ys
    → place_behind at of ≡ Some p → place_behind at other ≡ Some q → NoFurther p rest → NoFurther q tail
    → lines_text xs ++ rest ≡ lines_text ys ++ tail → (of ≡ other) × (rest ≡ tail)
same_from at p q [] [] [] [] rest tail a b c d f g here there e = (refl, e)
same_from at p q [] (m ∷ ms) [] (y ∷ ys) rest tail a b c d f g here there e =
    absurd (blocked at p q m ms y (lines_text ys) rest tail f g here b.0 d.0 e)
same_from at p q (l ∷ ls) [] (x ∷ xs) [] rest tail a b c d f g here there e =
    absurd (blocked at q p l ls x (lines_text xs) tail rest g f there a.0 c.0 (sym e))
same_from at p q (l ∷ ls) (m ∷ ms) (x ∷ xs) (y ∷ ys) rest tail a b c d f g here there e =
    let cut : x ++ 10 ∷ (lines_text xs ++ rest) ≡ y ++ 10 ∷ (lines_text ys ++ tail) =
    sym (append_assoc x (10 ∷ lines_text xs) rest) ∙ e ∙ append_assoc y (10 ∷ lines_text ys) tail in
    let same = same_cut 10 x y (lines_text xs ++ rest) (lines_text ys ++ tail) a.0 b.0 cut in
    let line : l ≡ m = same_line l m x c.0 (subst (SpellsLine m) (sym same.0) d.0) in
    let leads : place_behind at (l ∷ ms) ≡ Some q = ap (λ (k : Line). place_behind at (k ∷ ms)) line ∙ g in
    let others = go (λ next h i. same_from next p q ls ms xs ys rest tail a.1 b.1 c.1 d.1 h i here there same.1) (next_place at l) f leads in
    (ap (λ (k : Line). k ∷ ls) line ∙ ap (λ (k : List Line). m ∷ k) others.0, others.1)
  where
    go : ((next : Place) → place_behind next ls ≡ Some p → place_behind next ms ≡ Some q → (ls ≡ ms) × (rest ≡ tail)) → (then : Option Place)
        → option_and_then (λ next. place_behind next ls) then ≡ Some p → option_and_then (λ next. place_behind next ms) then ≡ Some q → (ls ≡ ms) × (rest ≡ tail)
    go more None h i = absurd cc
    go more (Some next) h i = more next h i
same_from at p q [] other (x ∷ xs) ys rest tail a b c d f g here there e = absurd cc
same_from at p q (l ∷ ls) other [] ys rest tail a b c d f g here there e = absurd c
same_from at p q of [] xs (y ∷ ys) rest tail a b c d f g here there e = absurd cc
same_from at p q of (m ∷ ms) xs [] rest tail a b c d f g here there e = absurd d

-- a text has one longest front
pub one_front : (one other : Front) (text : List ℕ) (h : IsLongestFront one text) (i : IsLongestFront other text) → (one.lines ≡ other.lines) × (h.rest ≡ i.rest)
one_front one other text h i =
    same_from places.Start one.place other.place one.lines other.lines h.read.texts i.read.texts h.rest i.rest h.read.are_lines i.read.are_lines
    h.read.spelled i.read.spelled h.read.leads i.read.leads h.no_further i.no_further (sym h.read.is ∙ i.read.is)

-- the lines of a class are a longest front
whole_front : (of : List Line) (text : List ℕ) (s : SpellsClass of text) → IsLongestFront (record { lines = of; place = s.0; ended = true }) text
whole_front of text s = record {
  rest = [];
  read = s.1;
  ended = ((λ h. refl), (λ h. refl));
  no_further = λ line tail next lacks begins spelled. absurd (not_lacking 10 line tail [] tt (sym begins));
}

pub one_text : (of other : List Line) (text : List ℕ) → IsText of text → IsText other text → of ≡ other
one_text of other text h i =
    (one_front (record { lines = of; place = h.spelled.0; ended = true }) (record { lines = other; place = i.spelled.0; ended = true }) text
    (whole_front of text h.spelled) (whole_front other text i.spelled)).0

pub one_number : (text : List ℕ) (one other : ℕ) → IsFirstUnfit text one → IsFirstUnfit text other → one ≡ other
one_number text one other h i =
    h.is ∙ ap (λ (of : List Line). number_of (first_fault of) (kept of)) (one_front h.front i.front text h.longest i.longest).0 ∙ sym i.is

-- where the lines lead
one_place : (at p q : Place) (of other : List Line) → of ≡ other → place_behind at of ≡ Some p → place_behind at other ≡ Some q → p ≡ q
one_place at p q of other same f g = go p q (sym f ∙ ap (place_behind at) same ∙ g)
  where
    go : (a b : Place) → Some a ≡ Some b → a ≡ b
    go a b e = cc

pub no_refusal : (of : List Line) (text : List ℕ) (number : ℕ) → IsText of text → IsFirstUnfit text number → ⊥
unfolding whole_front
no_refusal of text number h i =
    let mine = whole_front of text h.spelled in
    let same = one_front (record { lines = of; place = h.spelled.0; ended = true }) i.front text mine i.longest in
    let place = one_place places.Start h.spelled.0 i.front.place of i.front.lines same.0 h.spelled.1.leads i.longest.read.leads in
    i.unfit (record {
      sound = subst IsSound same.0 h.sound;
      ended = i.longest.ended.1 (sym same.1);
      end = subst IsEnd place h.spelled.2;
    })
