use Rattle.std.proofs.Common.{◌≡◌, ◌+◌, ◌*◌, ◌<◌, ◌≤◌, ◌∙◌, ap, true, length, arith, ℕ, get_or, List}
use Rattle.kb_chain.specs.Literal.{Literal, has, place_of}
use Rattle.kb_chain.proofs.OrderLaws.{has_get_or}
use Rattle.kb_propagate.proofs.Places.{variable_low}
use Rattle.kb_sat.proofs.search.release.Goals as goal

low : (xs : List Literal) (i n v : ℕ) (x : Literal) → i < length xs → x ≡ get_or xs i x → ((l : Literal) → has xs l ≡ true → place_of l < 2 * n + 2) → v ≡ x.variable → v ≤ n
low xs i n v x lt is within e =
    let k : x.variable ≤ n = variable_low x n (within x (ap (has xs) is ∙ has_get_or xs i x lt)) in
    omega (arith, k, e)

pub index_mut-requires : goal.index_mut-requires
index_mut-requires c =
    let k : c.variable-variable.result ≤ c.args.order.now =
    low c.args.undone.now c.loop-literal.literal-index c.args.order.now c.variable-variable.result c.literal-item.result c.loop-literal-test.true c.literal-item.is c.requires.within
    c.variable-variable.ensures.value in
    let p : length c.loop-literal.phases.items ≡ length c.args.phases.now.items = c.loop-literal.invariant.phases in
    let q : length c.args.phases.now.items ≡ c.args.order.now + 1 = c.requires.phases in
    omega arith

pub insert-requires-clause-below : goal.insert-requires-clause-below
insert-requires-clause-below c =
    let k : c.variable-variable.result ≤ c.args.order.now =
    low c.args.undone.now c.loop-literal.literal-index c.args.order.now c.variable-variable.result c.literal-item.result c.loop-literal-test.true c.literal-item.is c.requires.within
    c.variable-variable.ensures.value in
    let p : c.loop-literal.order ≡ c.args.order.now = c.loop-literal.invariant.order in
    omega (arith, k, p)
