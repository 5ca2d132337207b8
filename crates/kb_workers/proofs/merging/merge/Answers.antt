use Rattle.std.proofs.Common.{◌≡◌, ℕ, suc, ◌-◌, ◌+◌, List, ◌++◌, Option, sym, ap, subst, ◌∙◌, arith}
use Rattle.kb_workers.specs.Turns.{merged, TakesTurn}
use Rattle.kb_workers.proofs.TurnLaws.{merged_end, merged_more}
use Rattle.kb_workers.proofs.merging.merge.Goals as goal

pub returns-in_default : goal.returns-in_default
returns-in_default g c =
    let left : suc (c.args.count - (c.loop.counter + 1)) ≡ c.args.count - c.loop.counter = omega (arith, c.loop-test.true) in
    merged_end c.loop.lists c.take_turn.new.lists c.loop.all.items (merged c.args.count c.args.lists) (c.args.count - (c.loop.counter + 1))
    (subst (λ (item : Option g.row.R.Denot). TakesTurn c.loop.lists item c.take_turn.new.lists) c.in_default.is c.in_ok-item.ensures)
    (ap (λ (n : ℕ). c.loop.all.items ++ merged n c.loop.lists) left ∙ c.loop.invariant)

pub loop-preserved : goal.loop-preserved
loop-preserved g c =
    let left : suc (c.args.count - (c.loop.counter + 1)) ≡ c.args.count - c.loop.counter = omega (arith, c.loop-test.true) in
    ap (λ (items : List g.row.R.Denot). items ++ merged (c.args.count - (c.loop.counter + 1)) c.take_turn.new.lists) c.in_ok-push.ensures.items
    ∙ merged_more c.loop.lists c.take_turn.new.lists c.in-Some.item c.loop.all.items (merged c.args.count c.args.lists) (c.args.count - (c.loop.counter + 1))
    (subst (λ (item : Option g.row.R.Denot). TakesTurn c.loop.lists item c.take_turn.new.lists) c.in-Some.is c.in_ok-item.ensures)
    (ap (λ (n : ℕ). c.loop.all.items ++ merged n c.loop.lists) left ∙ c.loop.invariant)
