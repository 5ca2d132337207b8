use Rattle.std.proofs.Common.{◌≡◌, Bool, List, [], ◌∷◌, ◌++◌, if◌then◌else◌, sym, ap, ◌∙◌}
use Rattle.std.proofs.lemmas.List.{append-nil}
use Rattle.kb_resolution.specs.Tables.{own_keys}
use Rattle.kb_resolution.specs.declared.tables.SlotKey.{SlotKey}
use Rattle.kb_resolution.proofs.tables.add_key.Goals as goal

pub returns-then-not-has_slot : goal.returns-then-not-has_slot
returns-then-not-has_slot c =
    let none : own_keys c.args.class (c.args.field.now ∷ []) (c.args.pair ∷ []) ≡ [] =
    ap (λ (b : Bool). if b then record { class = c.args.class; pair = c.args.pair } ∷ [] else []) (sym c.has_slot.ensures ∙ c.if-not-has_slot.true) in
    sym (append-nil c.args.keys.now.items) ∙ ap (λ (ks : List SlotKey). c.args.keys.now.items ++ ks) (sym none)

pub returns-in-Ok : goal.returns-in-Ok
returns-in-Ok c =
    let one : own_keys c.args.class (c.args.field.now ∷ []) (c.args.pair ∷ []) ≡ record { class = c.args.class; pair = c.args.pair } ∷ [] =
    ap (λ (b : Bool). if b then record { class = c.args.class; pair = c.args.pair } ∷ [] else []) (sym c.has_slot.ensures ∙ c.if-not-has_slot.false) in
    c.in-Ok.ensures.items ∙ ap (λ (ks : List SlotKey). c.args.keys.now.items ++ ks) (sym one)
