use Rattle.std.proofs.Common.{◌≡◌, ℕ, List, Bool, false, if◌then◌else◌, None, Some, is_some, sym, ap, ◌∙◌}
use Rattle.std.specs.Option.{option_or}
use Rattle.kb_asm_body.specs.Layout.{offset_at}
use Rattle.kb_asm_body.proofs.TableLaws.{first_noted}
use Rattle.kb_asm_body.proofs.layout.note.Goals as goal

pub returns : goal.returns
returns c =
    let none : is_some (offset_at c.args.labels.now c.in-Some.label.now) ≡ false =
    ap (λ (n : List ℕ). is_some (offset_at c.args.labels.now n)) (sym c.as_slice.ensures.same) ∙ sym c.contains_key.ensures ∙ c.if-contains_key.false in
    λ name.
    first_noted c.args.labels.now c.insert.new.self c.in-Some.label.now c.in_ok-key.key c.args.at (c.in_ok-key.ensures ∙ c.as_slice-2.ensures.same) c.in_ok-insert.ensures.updates none name
    ∙ ap (λ (b : Bool). option_or (offset_at c.args.labels.now name) (if b then Some c.args.at else None)) (sym (c.in-Some.ensures name))
