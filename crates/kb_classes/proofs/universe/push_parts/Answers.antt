use Rattle.std.proofs.Common.{◌≡◌, is_some, get_or, sym, ap, ◌∙◌, arith}
use Rattle.kb_classes.proofs.OwnParts.{own_stops}
use Rattle.kb_classes.proofs.universe.push_parts.Goals as goal

pub returns-then-is_some : goal.returns-then-is_some
returns-then-is_some c =
    let first = c.if-first-ne91.false in
    let begins : get_or c.loop-rest.rest.now 0 0 ≡ 91 = omega (arith, first) in
    own_stops c.args.named.now c.loop-rest.rest.now c.args.whole.now c.args.texts.now.items c.loop-rest.texts.items c.push_text.new.texts.items c.in-len1-up.len_at_least begins
    (sym (ap is_some c.place_in.ensures) ∙ sym c.is_some.ensures ∙ c.if-is_some.true) c.in_ok-push_text.ensures c.loop-rest.invariant
