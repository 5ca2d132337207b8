use Rattle.std.proofs.Common.{◌≡◌, true, Some, IfOk, option_map, ◌+◌, length, drop, sym, ap, subst, ◌∙◌, arith}
use Rattle.std.proofs.lemmas.List.{length-drop}
use Rattle.kb_semantics.specs.Config.{has_room}
use Rattle.kb_frames.specs.declared.value.Outcome.{Outcome}
use Rattle.kb_frames.specs.declared.value.SymValue.{SymValue}
use Rattle.kb_frames.specs.Lent.{stack_of}
use Rattle.kb_frames.specs.Next.{method_now}
use Rattle.kb_ways.specs.Kept.{kept}
use Rattle.kb_ways.specs.Turns.{told}
use Rattle.kb_ways.specs.Ways.{Take}
use Rattle.kb_ways.proofs.TurnLaws.{kept_is_for}
use Rattle.kb_steparray.proofs.StoreSteps.{store_led}
use Rattle.kb_steparray.proofs.stores.store_at.Goals as goal

pub returns-in-Some : goal.returns-in-Some
returns-in-Some c =
    let count : c.saturating_sub-kept.result + 0 ≡ length (drop 3 (stack_of c.args.state.now.stage)) =
    omega (arith, c.height.ensures, c.saturating_sub-kept.ensures, length-drop 3 (stack_of c.args.state.now.stage)) in
    let room : has_room c.args.turn.now.world.now (method_now c.args.state.now.method c.args.state.now.stage) (length (drop 3 (stack_of c.args.state.now.stage))) ≡ true =
    ap (has_room c.args.turn.now.world.now (method_now c.args.state.now.method c.args.state.now.stage)) (sym count) ∙ (sym c.has_room.ensures ∙ c.if-not-has_room.false) in
    let is : kept c.args.component.now c.args.value c.args.state.now ≡ Some (c.keep.new.state, c.in-Some.value) =
    sym c.in_ok-value.ensures.kept ∙ ap (option_map (λ (v : SymValue). (c.keep.new.state, v))) c.in-Some.is in
    subst (λ (take : Take). IfOk c.store_kept.result (λ (outcome : Outcome). told c.store_kept.new.state outcome ≡ take))
    (store_led c.args.turn.now.world.now c.args.turn.now.bounds c.args.turn.now.next c.args.state.now c.args.component.now c.args.array c.args.place c.args.value (c.keep.new.state, c.in-Some.value) is room)
    c.store_kept.ensures

pub store_kept-requires : goal.store_kept-requires
store_kept-requires c =
    let is : kept c.args.component.now c.args.value c.args.state.now ≡ Some (c.keep.new.state, c.in-Some.value) =
    sym c.in_ok-value.ensures.kept ∙ ap (option_map (λ (v : SymValue). (c.keep.new.state, v))) c.in-Some.is in
    kept_is_for c.args.turn.now c.args.component.now c.args.value c.args.state.now (c.keep.new.state, c.in-Some.value) is c.requires.stands
