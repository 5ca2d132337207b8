use Rattle.std.proofs.Common.{◌≡◌, List, ℕ, ◌+◌, ◌-◌, ◌<◌, [], ◌∷◌, length, Some, None, slice_get, sym, ap, subst, ◌∙◌, arith}
use Rattle.kb_classes.specs.World.{World, methods_in}
use Rattle.kb_universe.specs.Found.{FoundMethods}
use Rattle.kb_world.specs.Reach.{method_mentions}
use Rattle.kb_world.specs.Walks.{with_all, AreSettled}
use Rattle.kb_universe.specs.declared.looked.Asked.{Asked}
use Rattle.kb_world.proofs.Settling.{none_settled}
use Rattle.kb_world.proofs.Reaching.{IsWalked, walk_starts, walk_goes, walk_ends, walk_stops}
use Rattle.kb_world.proofs.world.World.check_methods.Goals as goal

pub loop-number-init : goal.loop-number-init
loop-number-init c =
    let found : c.in-Ok.found ≡ record { all = c.method_count.result; numbers = c.args.id.0 ∷ [] } = c.in-Ok.ensures in (
      ap (λ (f : FoundMethods). f.all) found ∙ c.method_count.ensures ∙ ap (λ (w : World). length (methods_in w.classes)) c.linked.ensures,
      subst (λ (f : FoundMethods). IsWalked c.args.self.now c.args.id.0 0 f.numbers) (sym found) (walk_starts c.args.self.now c.args.id.0),
      subst (λ (ks : List Asked). AreSettled c.args.self.now c.in-Ok.found.numbers ks) (sym c.new-looked.ensures) (none_settled c.args.self.now c.in-Ok.found.numbers),
    )

pub check_method-requires-clause-there : goal.check_method-requires-clause-there
check_method-requires-clause-there c =
    let inside : (c.in-Some.number < c.loop-number.found.all) × (c.loop-number.place < c.loop-number.found.all) = c.in-Some.ensures.inside in
    subst (λ (n : ℕ). c.in-Some.number < n) c.loop-number.invariant.0 inside.0

pub check_method-requires-clause-settled : goal.check_method-requires-clause-settled
check_method-requires-clause-settled c = c.loop-number.invariant.2

pub check_method-requires-clause-all : goal.check_method-requires-clause-all
check_method-requires-clause-all c = c.loop-number.invariant.0

pub loop-number-smaller : goal.loop-number-smaller
loop-number-smaller c =
    let inside : (c.in-Some.number < c.loop-number.found.all) × (c.loop-number.place < c.loop-number.found.all) = c.in-Some.ensures.inside in
    let all : ℕ = length (methods_in c.args.self.now.classes) in
    let below : c.loop-number.place < all = subst (λ (n : ℕ). c.loop-number.place < n) c.loop-number.invariant.0 inside.1 in
    let less : all - (c.loop-number.place + 1) < all - c.loop-number.place = omega (arith, below) in
    less

pub loop-number-preserved : goal.loop-number-preserved
loop-number-preserved c =
    let there : slice_get c.loop-number.found.numbers c.loop-number.place ≡ Some c.in-Some.number = sym c.in-Some.ensures.there in
    let added : c.check_method.new.found ≡ with_all c.loop-number.found (method_mentions c.args.self.now c.in-Some.number) = c.in-Ok-check_method.ensures.added in (
      ap (λ (f : FoundMethods). f.all) added ∙ c.loop-number.invariant.0,
      subst (λ (f : FoundMethods). IsWalked c.args.self.now c.args.id.0 (c.loop-number.place + 1) f.numbers) (sym added)
          (walk_goes c.args.self.now c.args.id.0 c.loop-number.place c.loop-number.found.numbers c.in-Some.number c.loop-number.invariant.1 there c.in-Ok-check_method.ensures.none),
      c.in-Ok-check_method.ensures.settled,
    )

pub returns-in-Err-clause-refused : goal.returns-in-Err-clause-refused
returns-in-Err-clause-refused c =
    walk_stops c.args.self.now c.args.id.0 c.loop-number.place c.loop-number.found.numbers c.in-Some.number c.in-Err.refusal c.requires.itself c.loop-number.invariant.1 (sym c.in-Some.ensures.there)
    c.in-Err.ensures.refused

pub returns-clause-none : goal.returns-clause-none
returns-clause-none c =
    let none : slice_get c.loop-number.found.numbers c.loop-number.place ≡ None = sym c.in_default-at.ensures.there in
    walk_ends c.args.self.now c.args.id.0 c.loop-number.place c.loop-number.found.numbers c.requires.itself c.loop-number.invariant.1 none
