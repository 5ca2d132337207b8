use Rattle.std.proofs.Common.{◌≡◌, List, [], ◌++◌, Option, length, sym, ap, ◌∙◌}
use Rattle.std.proofs.lemmas.List.{append-nil}
use Rattle.kb_class.specs.Class.{Class}
use Rattle.kb_classes.specs.Slots.{Declared, numbered, own_slots_at, own_slots_there}
use Rattle.kb_classes.proofs.slots.with_slots_at.Goals as goal

pub returns-in-None : goal.returns-in-None
returns-in-None c =
    let none : own_slots_at c.args.classes.now c.args.number ≡ [] = ap (λ (o : Option Class). own_slots_there c.args.number o) (sym c.in-None.ensures) in
    sym (append-nil c.args.slots) ∙ ap (λ (ds : List Declared). c.args.slots ++ numbered (length c.args.slots) ds) (sym none)
