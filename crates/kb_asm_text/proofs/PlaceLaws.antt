-- A line that was read, where it may stand and where not.
use Rattle.std.proofs.Common.{◌≡◌, ℕ, List, Option, None, Some, refl, sym, ◌∙◌, ap, subst}
use Rattle.std.specs.Prelude.{MatchOption, option_map}
use Rattle.kb_asm_text.specs.declared.line.Line.{Line}
use Rattle.kb_asm_text.specs.declared.place.Place.{Place}
use Rattle.kb_asm_text.specs.Lines.{SpellsLine}
use Rattle.kb_asm_text.specs.Texts.{next_place}
use Rattle.kb_asm_text.proofs.SameLines.{same_line}

-- a line with where it leads
pub placed_as : (line : Line) (place : Place) (next : Option Place) → next ≡ next_place place line
    → MatchOption {T = Line × Place} (option_map (λ (to : Place). (line, to)) next) (next_place place line ≡ None) (λ (p : Line × Place). (p.0 ≡ line) × (next_place place line ≡ Some p.1))
placed_as line place None is = sym is
placed_as line place (Some to) is =
    let both : (line ≡ line) × (next_place place line ≡ Some to) = (refl, sym is) in
    both

pub placed_read : (read : Option (Line × Place)) (place : Place) (text : List ℕ) (found : Line) → SpellsLine found text
    → MatchOption read (next_place place found ≡ None) (λ p. (p.0 ≡ found) × (next_place place found ≡ Some p.1))
    → MatchOption read ((line : Line) → SpellsLine line text → next_place place line ≡ None) (λ p. SpellsLine p.0 text × (next_place place p.0 ≡ Some p.1))
placed_read None place text found spelled none = λ line h. ap (next_place place) (same_line line found text h spelled) ∙ none
placed_read (Some p) place text found spelled is =
    (subst (λ (line : Line). SpellsLine line text) (sym is.0) spelled, ap (next_place place) is.0 ∙ is.1)
