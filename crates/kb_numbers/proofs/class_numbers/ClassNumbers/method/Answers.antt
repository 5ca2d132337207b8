use Rattle.std.proofs.Common.{◌≡◌, ◌+◌, ◌<◌, ℕ, Some, length, sym, ap, ◌∙◌, arith}
use Rattle.std.specs.Option.{option_map}
use Rattle.kb_numbers.specs.Members.{MemberNumbers}
use Rattle.kb_numbers.specs.Pairs.{first_place}
use Rattle.kb_numbers.proofs.PairLaws.{first_inside}
use Rattle.kb_numbers.proofs.class_numbers.ClassNumbers.method.Goals as goal

pub overflow_add-result : goal.overflow_add-result
overflow_add-result c =
    let at : first_place c.self.inside.methods.items c.args.pair ≡ Some c.in_ok-place.place = ap (λ (n : MemberNumbers). first_place n.methods c.args.pair) c.self.view_is ∙ sym c.in_ok-place.ensures in
    let inside : c.in_ok-place.place < length c.self.inside.methods.items = first_inside c.self.inside.methods.items c.args.pair c.in_ok-place.place at in
    let few = c.self.invariant.2 in
    record { fits = omega (arith, inside, few) }

pub returns : goal.returns
returns c =
    let first : c.self.inside.first ≡ c.args.self.now.first = ap (λ (n : MemberNumbers). n.first) c.self.view_is in
    λ i. option_map (λ (place : ℕ). first i + place) (c.in_ok-place.ensures i)
