use Rattle.std.proofs.Common.{◌<◌, length, subst}
use Rattle.kb_numbered.specs.Numbered.{numbered_out}
use Rattle.kb_numbered.proofs.SetLaws.{changed_next}
use Rattle.kb_numbered.proofs.leaf.number_outs.Goals as goal

pub loop-i-preserved : goal.loop-i-preserved
loop-i-preserved c =
    changed_next (numbered_out c.args.nodes.now c.args.numbering.now) c.args.values.now c.loop-i.values c.as_slice.result.now c.set.new.self c.loop-i.i _ _ c.loop-i.invariant c.as_slice.ensures
    c.numbered_out-value.ensures c.set.ensures (subst (λ values. c.loop-i.i < length values) c.as_slice-count.ensures c.loop-i-test.true)
