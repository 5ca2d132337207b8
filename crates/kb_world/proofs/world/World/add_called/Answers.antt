use Rattle.std.proofs.Common.{◌≡◌, Some, slice_get, subst, ◌∙◌}
use Rattle.kb_class.specs.References.{sought_of}
use Rattle.kb_classes.specs.World.{World}
use Rattle.kb_resolution.specs.Lookup.{sought_at}
use Rattle.kb_world.proofs.Inside.{resolved_at}
use Rattle.kb_world.proofs.CallLaws.{found_owner}
use Rattle.kb_resolution.proofs.RowLaws.{sought_told}
use Rattle.kb_world.proofs.world.World.add_called.Goals as goal

pub add_for-requires-clause-owner : goal.add_for-requires-clause-owner
add_for-requires-clause-owner c =
    let world = c.args.self.now in
    let class = c.args.asked.class in
    let entry = c.args.asked.entry in
    let sought = c.in-Some.sought in
    let there : slice_get world.classes class ≡ Some c.class_of.result.now = subst (λ (w : World). slice_get w.classes class ≡ Some c.class_of.result.now) c.linked.ensures c.class_of.ensures.there in
    let at : sought_at world class entry ≡ Some (sought_of sought) = sought_told world class entry c.class_of.result.now (Some (sought_of sought)) there c.in-Some.ensures in
    c.entry_at-owner.ensures.there.is_owner ∙ found_owner world class entry c.in-Some-resolve_method.method.0 (sought_of sought) at c.in-Some-resolve_method.ensures.there

pub add_for-requires-clause-method : goal.add_for-requires-clause-method
add_for-requires-clause-method c = resolved_at c.args.self.now c.args.asked.class c.args.asked.entry c.in-Some-resolve_method.method.0 c.in-Some-resolve_method.ensures.there
