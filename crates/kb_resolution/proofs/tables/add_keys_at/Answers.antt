use Rattle.std.proofs.Common.{◌≡◌, ◌≤◌, List, [], ◌++◌, Option, length, sym, ap, ◌∙◌, arith}
use Rattle.std.proofs.lemmas.List.{append-nil}
use Rattle.std.proofs.lemmas.Option.{slice_get_past}
use Rattle.std.proofs.lemmas.Result.{on_ok_weaker}
use Rattle.kb_class.specs.Class.{Class}
use Rattle.kb_numbers.specs.Members.{fields_at}
use Rattle.kb_resolution.specs.Tables.{keys_at, keys_there, own_keys}
use Rattle.kb_resolution.specs.declared.tables.SlotKey.{SlotKey}
use Rattle.kb_resolution.proofs.tables.add_keys_at.Goals as goal

pub returns-then-number-class_count : goal.returns-then-number-class_count
returns-then-number-class_count c =
    let classes = c.args.linked.now.classes in
    let numbers = c.args.numbers.now.classes.items in
    let past : length classes ≤ c.args.number = omega (arith, c.if-number-class_count.true, c.class_count.ensures) in
    let none : keys_at classes numbers c.args.number ≡ [] = ap (λ (o : Option Class). keys_there c.args.number o (fields_at numbers c.args.number)) (slice_get_past classes c.args.number past) in
    sym (append-nil c.args.keys.now.items) ∙ ap (λ (ks : List SlotKey). c.args.keys.now.items ++ ks) (sym none)

pub returns : goal.returns
returns c =
    let classes = c.args.linked.now.classes in
    let numbers = c.args.numbers.now.classes.items in
    let own : own_keys c.args.number c.fields-fields.result.now c.fields_at.result.now ≡ keys_at classes numbers c.args.number =
    (λ i. own_keys c.args.number (c.fields-fields.ensures i) (c.fields_at.ensures i)) ∙ ap (λ (o : Option Class). keys_there c.args.number o (fields_at numbers c.args.number)) (sym c.class_of.ensures.there) in
    on_ok_weaker c.add_keys.result (λ e. e ∙ ap (λ (ks : List SlotKey). c.args.keys.now.items ++ ks) own) c.add_keys.ensures
