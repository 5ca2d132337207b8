use Rattle.std.proofs.Common.{◌<◌, length, subst}
use Rattle.kb_numbered.specs.Numbered.{numbered_write}
use Rattle.kb_numbered.proofs.SetLaws.{changed_next}
use Rattle.kb_numbered.proofs.leaf.numbered_writes.Goals as goal

pub loop-i-preserved : goal.loop-i-preserved
loop-i-preserved c =
    changed_next (numbered_write c.args.nodes.now c.args.numbering.now) c.args.writes c.loop-i.writes c.as_slice.result.now c.set.new.self c.loop-i.i _ _ c.loop-i.invariant c.as_slice.ensures
    c.numbered_write-write.ensures c.set.ensures (subst (λ writes. c.loop-i.i < length writes) c.as_slice-count.ensures c.loop-i-test.true)
