-- What is known where a reader of a text stands, and where it stops.
use Rattle.std.proofs.Common.{◌≡◌, ◌↔◌, ℕ, List, [], ◌∷◌, ◌++◌, Option, None, Some, Bool, true, false, Result, Ok, Err, IfOk, length, ◌==◌, ne_eqb, arith, refl, sym, ◌∙◌, ap, subst}
use Rattle.std.specs.Option.{option_and_then}
use Rattle.std.specs.Prelude.{IsTrue}
use Rattle.kb_grammar.specs.Lines.{Lacks, IsRead}
use Rattle.kb_grammar.proofs.WordLaws.{same_cut, not_lacking}
use Rattle.kb_grammar.proofs.LineLaws.{AreLines-++, one_more}
use Rattle.kb_asm_text.specs.declared.keyword.Keyword.{Keyword}
use Rattle.kb_asm_text.specs.declared.line.Line.{Line}
use Rattle.kb_asm_text.specs.declared.place.Place.{Place}
use Rattle.kb_asm_text.specs.declared.place.Place.TheVariants as places
use Rattle.kb_asm_text.specs.declared.text.Front.{Front}
use Rattle.kb_asm_text.specs.Words.{IsOfWords, IsReadAs}
use Rattle.kb_asm_text.specs.Lines.{keyword_of, SpellsBehind, SpellsWords, SpellsLine}
use Rattle.kb_asm_text.proofs.WordLaws.{same_words}
use Rattle.kb_asm_text.specs.Texts.{next_place, place_behind, SpellEach, AreRead, IsLongestFront}

pub none_read : (text : List ℕ) → AreRead [] places.Start text text
none_read text = record { texts = []; are_lines = tt; spelled = refl; leads = refl; is = refl }

SpellEach-more : (of : List Line) (texts : List (List ℕ)) (line : Line) (text : List ℕ) → SpellEach of texts → SpellsLine line text → SpellEach (of ++ line ∷ []) (texts ++ text ∷ [])
SpellEach-more [] texts line text h spelled = rw h (spelled, refl)
SpellEach-more (first ∷ of) [] line text h spelled = absurd h
SpellEach-more (first ∷ of) (next ∷ texts) line text h spelled = (h.0, SpellEach-more of texts line text h.1 spelled)

behind_more : (start place next : Place) (of : List Line) (line : Line) → place_behind start of ≡ Some place → next_place place line ≡ Some next
    → place_behind start (of ++ line ∷ []) ≡ Some next
behind_more start place next [] line h leads = let same : start ≡ place = cc in rw (same, leads) refl
behind_more start place next (first ∷ of) line h leads = go (λ p e. behind_more p place next of line e leads) (next_place start first) h
  where
    go : ((p : Place) → place_behind p of ≡ Some place → place_behind p (of ++ line ∷ []) ≡ Some next) → (then : Option Place)
        → option_and_then (λ p. place_behind p of) then ≡ Some place → option_and_then (λ p. place_behind p (of ++ line ∷ [])) then ≡ Some next
    go more None e = absurd cc
    go more (Some p) e = more p e

pub next_read : (of more : List Line) (line : Line) (place next : Place) (text rest word others : List ℕ) → AreRead of place text rest → Lacks 10 word → rest ≡ word ++ 10 ∷ others
    → SpellsLine line word → next_place place line ≡ Some next → more ≡ of ++ line ∷ [] → AreRead more next text others
next_read of more line place next text rest word others at lacks begins spelled leads is = record {
  texts = at.texts ++ word ∷ [];
  are_lines = AreLines-++ at.texts (word ∷ []) at.are_lines (lacks, tt);
  spelled = subst (λ (l : List Line). SpellEach l (at.texts ++ word ∷ [])) (sym is) (SpellEach-more of at.texts line word at.spelled spelled);
  leads = ap (place_behind places.Start) is ∙ behind_more places.Start place next of line at.leads leads;
  is = one_more at.texts (at.texts ++ word ∷ []) text rest word others at.is begins refl;
}

-- the next line does not fit
pub stops : (front : Front) (text rest word others : List ℕ) → AreRead front.lines front.place text rest → Lacks 10 word → rest ≡ word ++ 10 ∷ others
    → ((line : Line) → SpellsLine line word → next_place front.place line ≡ None) → front.ended ≡ false → IsLongestFront front text
stops front text rest word others at lacks begins none ended = record {
  rest = rest;
  read = at;
  ended = ((λ h. absurd (let no : true ≡ false = sym h ∙ ended in cc)), (λ e. absurd (not_lacking 10 word others [] tt (sym begins ∙ e))));
  no_further = λ line tail next lacks_too begins_too spelled.
      let same = same_cut 10 line word tail others lacks_too lacks (sym begins_too ∙ begins) in
      none next (subst (SpellsLine next) same.0 spelled);
}

-- no line is left
pub ends : (front : Front) (text rest : List ℕ) → AreRead front.lines front.place text rest → Lacks 10 rest → (IsTrue front.ended ↔ (rest ≡ [])) → IsLongestFront front text
ends front text rest at lacks ended = record {
  rest = rest;
  read = at;
  ended = ended;
  no_further = λ line tail next lacks_too begins_too spelled. absurd (not_lacking 10 line tail rest lacks (sym begins_too));
}

-- a line by its words
pub line_read : {E : Type 0} (text : List ℕ) (words : List (List ℕ)) (first : List ℕ) (others : List (List ℕ)) (read : Result (Option Line) E)
    → IsOfWords words text → words ≡ first ∷ others → IfOk read (IsReadAs (λ line. SpellsBehind (keyword_of first) line first) others) → IfOk read (IsRead SpellsLine text)
line_read text words first others (Ok (Some line)) are begins h = record { words = words; are = are; says = subst (SpellsWords line) (sym begins) h }
line_read text words first others (Ok None) are begins h = λ line spelled.
    h line (subst (SpellsWords line) (same_words spelled.words words text spelled.are are ∙ begins) spelled.says)
line_read text words first others (Err e) are begins h = tt

-- a line without words is none
pub no_words : (text : List ℕ) (words : List (List ℕ)) → IsOfWords words text → words ≡ [] → (line : Line) → SpellsLine line text → ⊥
no_words text words are none line spelled = are.some none

-- what is read behind a keyword, by what the keyword is
pub behind_read : {E : Type 0} (read : Result (Option Line) E) (keyword found : Keyword) (first : List ℕ) (words : List (List ℕ)) → keyword ≡ found
    → IfOk read (IsReadAs (λ line. SpellsBehind keyword line first) words) → IfOk read (IsReadAs (λ line. SpellsBehind found line first) words)
behind_read read keyword found first words is = subst (λ (k : Keyword). IfOk read (IsReadAs (λ line. SpellsBehind k line first) words)) is

pub behind_told : (read : Option Line) (keyword found : Keyword) (first : List ℕ) (words : List (List ℕ)) → keyword ≡ found
    → IsReadAs (λ line. SpellsBehind keyword line first) words read → IsReadAs (λ line. SpellsBehind found line first) words read
behind_told read keyword found first words is = subst (λ (k : Keyword). IsReadAs (λ line. SpellsBehind k line first) words read) is

-- nothing is left exactly where the rest has no bytes
pub empty_is : (rest : List ℕ) (empty : Bool) → empty ≡ (length rest == 0) → IsTrue empty ↔ (rest ≡ [])
empty_is [] empty e = ((λ h. refl), (λ h. e))
empty_is (byte ∷ bytes) empty e = (
  (λ h. absurd (let f : empty ≡ false = e ∙ ne_eqb (length (byte ∷ bytes)) 0 (omega arith) in let no : true ≡ false = sym h ∙ f in cc)),
  (λ h. absurd cc),
)
