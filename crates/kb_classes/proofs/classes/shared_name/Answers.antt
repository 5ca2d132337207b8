use Rattle.std.proofs.Common.{◌≡◌, List, ℕ, Some, map, slice_get, sym, ◌∙◌}
use Rattle.std.proofs.lemmas.Option.{same_Some}
use Rattle.kb_classes.specs.Rules.{name_of}
use Rattle.kb_classes.proofs.Firsts.{on_if}
use Rattle.kb_classes.proofs.Named.{number_right, number_inside}
use Rattle.kb_classes.proofs.classes.shared_name.Goals as goal

pub name_at-requires : goal.name_at-requires
name_at-requires c = number_inside c.args.classes.now c.args.name.now c.in-Some.number (sym c.in-Some.ensures)

pub returns-in-Some : goal.returns-in-Some
returns-in-Some c =
    let classes = c.args.classes.now in
    let name = c.args.name.now in
    let number = c.in-Some.number in
    on_if c.name_at.result (λ (told : List ℕ). slice_get (map name_of classes) number ≡ Some told) (λ (told : List ℕ). told ≡ name)
    (λ told there. same_Some told name (sym there ∙ number_right classes name number (sym c.in-Some.ensures))) c.name_at.ensures
