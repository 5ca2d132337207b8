use Rattle.std.proofs.Common.{arith}
use Rattle.kb_classes.specs.Mentions.{IsTextOf}
use Rattle.kb_classes.proofs.LiteralLaws.{goes_more, goes_done}
use Rattle.kb_classes.proofs.mentions.push_types.Goals as goal

pub loop-rest-preserved : goal.loop-rest-preserved
loop-rest-preserved c =
    goes_more IsTextOf c.args.texts.now.items c.loop-rest.texts.items c.push_exact.new.texts.items c.args.types.now c.loop-rest.rest.now c.of-item.result
    c.in-len1-up.len_at_least c.of-item.is c.loop-rest.invariant c.in_ok-push_exact.ensures

pub returns : goal.returns
returns c = goes_done IsTextOf c.args.texts.now.items c.loop-rest.texts.items c.args.types.now c.loop-rest.rest.now (omega (arith, c.in_default.len_below)) c.loop-rest.invariant
