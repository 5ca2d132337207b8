use Rattle.std.proofs.Common.{[], List, ℕ, subst, arith}
use Rattle.kb_classes.specs.Mentions.{AddsTexts, IsOwnPartOf}
use Rattle.kb_classes.proofs.LiteralLaws.{goes_more, goes_done}
use Rattle.kb_classes.proofs.universe.parts_in.Goals as goal

pub loop-rest-preserved : goal.loop-rest-preserved
loop-rest-preserved c =
    let Is = IsOwnPartOf c.args.classes.now c.args.named.now in
    goes_more Is [] c.loop-rest.texts.items c.push_wanted.new.texts.items c.args.wholes.now c.loop-rest.rest.now c.whole-item.result
    c.in-len1-up.len_at_least c.whole-item.is c.loop-rest.invariant
    (subst (λ (whole : List ℕ). AddsTexts c.loop-rest.texts.items c.push_wanted.new.texts.items (Is whole)) c.as_slice.ensures c.in_ok-push_wanted.ensures)

pub returns : goal.returns
returns c =
    goes_done (IsOwnPartOf c.args.classes.now c.args.named.now) [] c.loop-rest.texts.items c.args.wholes.now c.loop-rest.rest.now (omega (arith, c.in_default.len_below)) c.loop-rest.invariant
