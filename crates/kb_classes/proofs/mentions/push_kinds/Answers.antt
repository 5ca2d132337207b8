use Rattle.std.proofs.Common.{arith}
use Rattle.kb_classes.specs.Mentions.{IsTextOfKind}
use Rattle.kb_classes.proofs.LiteralLaws.{goes_more, goes_done}
use Rattle.kb_classes.proofs.mentions.push_kinds.Goals as goal

pub loop-rest-preserved : goal.loop-rest-preserved
loop-rest-preserved c =
    goes_more IsTextOfKind c.args.texts.now.items c.loop-rest.texts.items c.push_kind.new.texts.items c.args.kinds.now c.loop-rest.rest.now c.kind-item.result
    c.in-len1-up.len_at_least c.kind-item.is c.loop-rest.invariant c.in_ok-push_kind.ensures

pub returns : goal.returns
returns c = goes_done IsTextOfKind c.args.texts.now.items c.loop-rest.texts.items c.args.kinds.now c.loop-rest.rest.now (omega (arith, c.in_default.len_below)) c.loop-rest.invariant
