use Rattle.std.proofs.Common.{Some, sym, ap, ◌∙◌}
use Rattle.kb_frames.specs.declared.value.SymValue.{SymValue}
use Rattle.kb_stepref.specs.declared.fields.FieldAt.{FieldAt}
use Rattle.kb_stepref.specs.Looks.{IsReadBy}
use Rattle.kb_stepref.proofs.FieldReads.{read_asks}
use Rattle.kb_stepref.proofs.fields.field_read.Goals as goal

pub returns : goal.returns
returns c =
    let at : FieldAt = record { object = c.in-Some-Obj.object; field = c.in_ok-field.field } in
    let is : IsReadBy c.args.world.now c.args.state.now c.args.instr.now at = record {
      entry = c.in-GetField.entry;
      instr_is = c.in-GetField.is;
      named = sym c.in_ok-field.ensures;
      top = sym c.in-Some-Obj.ensures ∙ ap (λ (value : SymValue). Some value) c.in-Some-Obj.field-0-is;
      has_it = sym c.has_slot_of.ensures ∙ c.if-not-has_slot_of.false;
    } in
    record { read = is; asks = read_asks c.args.world.now c.args.state.now c.args.instr.now at is }
