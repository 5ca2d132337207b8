use Rattle.std.proofs.Common.{Bool, sym, ap, ◌∙◌}
use Rattle.kb_classes.specs.declared.refusal.What.TheVariants as whats
use Rattle.kb_world.specs.Calls.{fault_of_number}
use Rattle.kb_universe.specs.Faults.{Outside}
use Rattle.kb_resolution.specs.Lookup.{only_where, or_else, resolved_method}
use Rattle.kb_resolution.specs.Tables.{kind_owner}
use Rattle.kb_world.proofs.CallLaws.{method_told}
use Rattle.kb_world.proofs.world.World.kind_fault.Goals as goal

pub returns-then-known : goal.returns-then-known
returns-then-known c =
    let world = c.args.self.now in
    let rest = fault_of_number world c.args.class.0 c.args.call c.args.entry c.args.of.now (resolved_method world c.args.class.0 c.args.entry) in
    sym
    (method_told world c.args.class.0 c.args.call c.args.entry c.args.of.now c.args.kind.now _ c.args.known.left_out c.in-Method.is c.requires.left_out
    ∙ ap (λ (b : Bool). or_else (only_where b (Outside whats.Kind)) rest) c.if-known.true)

pub returns : goal.returns
returns c =
    let world = c.args.self.now in
    let rest = fault_of_number world c.args.class.0 c.args.call c.args.entry c.args.of.now (resolved_method world c.args.class.0 c.args.entry) in
    c.resolved_fault.ensures
    ∙ sym
    (method_told world c.args.class.0 c.args.call c.args.entry c.args.of.now c.args.kind.now _ c.args.known.left_out c.in-Method.is c.requires.left_out
    ∙ ap (λ (b : Bool). or_else (only_where b (Outside whats.Kind)) rest) c.if-known.false)

pub resolved_fault-requires-clause-owner : goal.resolved_fault-requires-clause-owner
resolved_fault-requires-clause-owner c = c.requires.owner ∙ ap (kind_owner c.args.self.now c.args.of.now) c.in-Method.is
