use Rattle.std.proofs.Common.{◌≡◌, Option, None, Some, sym, subst}
use Rattle.std.specs.Prelude.{MatchOption}
use Rattle.kb_asm_text.specs.declared.line.Line.{Line}
use Rattle.kb_asm_text.specs.declared.place.Place.{Place}
use Rattle.kb_asm_text.specs.Texts.{next_place}
use Rattle.kb_asm_text.proofs.PlaceLaws.{placed_as, placed_read}
use Rattle.kb_asm_text.proofs.text.next_line.Goals as goal

pub returns-in_default : goal.returns-in_default
returns-in_default c = λ line h. absurd ((rw c.in_default.is at c.in_ok-line.ensures) line h)

pub returns : goal.returns
returns c =
    let line : Line = c.in-Some.line in
    placed_read c.with_place.result c.args.place c.args.text.now line (rw c.in-Some.is at c.in_ok-line.ensures)
    (subst (λ (read : Option (Line × Place)). MatchOption read (next_place c.args.place line ≡ None) (λ p. (p.0 ≡ line) × (next_place c.args.place line ≡ Some p.1)))
    (sym c.with_place.ensures) (placed_as line c.args.place c.next_place-next.result c.next_place-next.ensures))
