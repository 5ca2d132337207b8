use Rattle.std.proofs.Common.{◌≡◌, false, Option, Some, slice_get, sym, ap, subst, ◌∙◌}
use Rattle.std.specs.Option.{option_and_then, option_map_or}
use Rattle.kb_class.specs.Class.{Sought}
use Rattle.kb_class.specs.References.{sought_of}
use Rattle.kb_classes.specs.World.{World}
use Rattle.kb_resolution.specs.Lookup.{sought_at}
use Rattle.kb_resolution.specs.Tables.{left_out_of, owner_of}
use Rattle.kb_world.proofs.CallLaws.{taken_left_out, taken_owner}
use Rattle.kb_resolution.proofs.RowLaws.{sought_told}
use Rattle.kb_world.proofs.world.World.call_fault.Goals as goal

pub kind_fault-requires-clause-left_out : goal.kind_fault-requires-clause-left_out
kind_fault-requires-clause-left_out c =
    let world = c.args.self.now in
    let class = c.args.class.0 in
    let entry = c.args.entry in
    let sought = c.in-Some.sought in
    let there : slice_get world.classes class ≡ Some c.class_of.result.now = subst (λ (w : World). slice_get w.classes class ≡ Some c.class_of.result.now) c.linked.ensures c.class_of.ensures.there in
    let at : sought_at world class entry ≡ Some (sought_of sought) = sought_told world class entry c.class_of.result.now (Some (sought_of sought)) there c.in-Some.ensures in
    c.entry_at-resolved.ensures.there.is_left_out
    ∙ ap (λ (o : Option Sought). option_map_or left_out_of o false) at
    ∙ taken_left_out c.args.call sought.what sought.kind.now (sym c.takes.ensures ∙ c.if-not-takes.false)

pub kind_fault-requires-clause-owner : goal.kind_fault-requires-clause-owner
kind_fault-requires-clause-owner c =
    let world = c.args.self.now in
    let class = c.args.class.0 in
    let entry = c.args.entry in
    let sought = c.in-Some.sought in
    let there : slice_get world.classes class ≡ Some c.class_of.result.now = subst (λ (w : World). slice_get w.classes class ≡ Some c.class_of.result.now) c.linked.ensures c.class_of.ensures.there in
    let at : sought_at world class entry ≡ Some (sought_of sought) = sought_told world class entry c.class_of.result.now (Some (sought_of sought)) there c.in-Some.ensures in
    c.entry_at-resolved.ensures.there.is_owner
    ∙ ap (λ (o : Option Sought). option_and_then (owner_of world) o) at
    ∙ taken_owner world c.args.call sought.what sought.class.now sought.kind.now (sym c.takes.ensures ∙ c.if-not-takes.false)
