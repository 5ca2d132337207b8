use Rattle.std.proofs.Common.{[], arith}
use Rattle.kb_classes.specs.Mentions.{HasLiteral}
use Rattle.kb_classes.proofs.LiteralLaws.{goes_more, goes_done}
use Rattle.kb_classes.proofs.literals.texts_of.Goals as goal

pub loop-rest-preserved : goal.loop-rest-preserved
loop-rest-preserved c =
    goes_more HasLiteral [] c.loop-rest.texts.items c.push_texts.new.texts.items c.args.classes.now c.loop-rest.rest.now c.class-item.result
    c.in-len1-up.len_at_least c.class-item.is c.loop-rest.invariant c.in_ok-push_texts.ensures

pub returns : goal.returns
returns c = goes_done HasLiteral [] c.loop-rest.texts.items c.args.classes.now c.loop-rest.rest.now (omega (arith, c.in_default.len_below)) c.loop-rest.invariant
