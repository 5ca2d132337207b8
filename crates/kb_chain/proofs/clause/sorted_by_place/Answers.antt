use Rattle.std.proofs.Common.{◌≡◌, ap, arith, length, drop}
use Rattle.kb_chain.proofs.OrderLaws.{take_front}
use Rattle.kb_chain.proofs.clause.sorted_by_place.Goals as goal

pub returns-clause-rising : goal.returns-clause-rising
returns-clause-rising c =
    let k : length c.in_ok-sorted.sorted.items ≡ length c.sort_by_place.new.literals = omega (arith, c.sort_by_place.auto.literals, ap length c.as_mut_slice.ensures.value) in
    rw (take_front (length c.in_ok-sorted.sorted.items) c.sort_by_place.new.literals (drop (length c.sort_by_place.new.literals) c.in_ok-sorted.sorted.items) k)
    c.in_ok-sort_by_place.ensures.rising
