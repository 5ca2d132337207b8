use Rattle.std.proofs.Common.{◌≡◌, ℕ, ◌<◌, true, List, Some, length, slice_get, refl, sym, ap, ◌∙◌}
use Rattle.std.specs.List.{slice_index_or}
use Rattle.std.proofs.lemmas.Option.{slice_get_read}
use Rattle.kb_names.specs.declared.types.JType.TheVariants as types
use Rattle.kb_class.specs.Platform.{throwable}
use Rattle.kb_heap.specs.declared.heap.Heap.{Heap}
use Rattle.kb_heap.specs.declared.heap.Object.{Object}
use Rattle.kb_heap.specs.Heap.{object_at}
use Rattle.kb_classes.specs.Subtypes.{fits}
use Rattle.kb_machine.specs.Turns.{config_of}
use Rattle.kb_machine.specs.declared.unwinding.Landing.TheVariants as landings
use Rattle.kb_machine.proofs.LandingLaws.{thrown_there, caught}
use Rattle.kb_machine.proofs.state.State.throws_object.Goals as goal

-- the object that was read is the one of that number
found_there : (heap : Heap) (items : List Object) (number : ℕ) (of : Object) → items ≡ heap.objects → number < length items → of ≡ slice_index_or items number of → object_at heap number ≡ Some of
found_there heap items number of is inside read = ap (λ (l : List Object). slice_get l number) (sym is) ∙ slice_get_read items (length items) number of refl inside read

pub returns-in-Caught : goal.returns-in-Caught
returns-in-Caught c =
    let t = c.args.turn.now in
    let old = c.args.self.now in
    let number = c.args.object in
    let of = c.in-Some.of.now in
    let found : object_at old.heap number ≡ Some of = found_there old.heap c.as_slice.result.now number of c.as_slice.ensures c.in-Some.ensures.lookup.3.0 c.in-Some.ensures.lookup.1 in
    let fit : fits t.world.now of.kind (types.Class throwable) ≡ true = sym c.if-not-is_of_class.ensures in
    let comes = thrown_there t old number (object_at old.heap number) of landings.Caught c.unwind.new.frame c.unwind.new.callers found fit (rw c.in-Caught.is at (c.unwind.ensures (config_of t old) old.heap number)) in
    caught t old c.catches.new.self c.catches.result _ c.unwind.new.frame c.unwind.new.callers old.heap number comes c.catches.ensures.step c.catches.ensures.state

pub returns-in-Uncaught : goal.returns-in-Uncaught
returns-in-Uncaught c =
    let t = c.args.turn.now in
    let old = c.args.self.now in
    let number = c.args.object in
    let of = c.in-Some.of.now in
    let found : object_at old.heap number ≡ Some of = found_there old.heap c.as_slice.result.now number of c.as_slice.ensures c.in-Some.ensures.lookup.3.0 c.in-Some.ensures.lookup.1 in
    let fit : fits t.world.now of.kind (types.Class throwable) ≡ true = sym c.if-not-is_of_class.ensures in
    let comes = thrown_there t old number (object_at old.heap number) of landings.Uncaught c.unwind.new.frame c.unwind.new.callers found fit (rw c.in-Uncaught.is at (c.unwind.ensures (config_of t old) old.heap number)) in
    sym comes

pub returns-in-IllTyped : goal.returns-in-IllTyped
returns-in-IllTyped c =
    let t = c.args.turn.now in
    let old = c.args.self.now in
    let number = c.args.object in
    let of = c.in-Some.of.now in
    let found : object_at old.heap number ≡ Some of = found_there old.heap c.as_slice.result.now number of c.as_slice.ensures c.in-Some.ensures.lookup.3.0 c.in-Some.ensures.lookup.1 in
    let fit : fits t.world.now of.kind (types.Class throwable) ≡ true = sym c.if-not-is_of_class.ensures in
    let comes = thrown_there t old number (object_at old.heap number) of landings.IllTyped c.unwind.new.frame c.unwind.new.callers found fit (rw c.in-IllTyped.is at (c.unwind.ensures (config_of t old) old.heap number)) in
    rw c.ill_typed-place.ensures (sym comes)

pub returns-in-PastLoops : goal.returns-in-PastLoops
returns-in-PastLoops c =
    let t = c.args.turn.now in
    let old = c.args.self.now in
    let number = c.args.object in
    let of = c.in-Some.of.now in
    let found : object_at old.heap number ≡ Some of = found_there old.heap c.as_slice.result.now number of c.as_slice.ensures c.in-Some.ensures.lookup.3.0 c.in-Some.ensures.lookup.1 in
    let fit : fits t.world.now of.kind (types.Class throwable) ≡ true = sym c.if-not-is_of_class.ensures in
    let comes = thrown_there t old number (object_at old.heap number) of landings.PastLoops c.unwind.new.frame c.unwind.new.callers found fit (rw c.in-PastLoops.is at (c.unwind.ensures (config_of t old) old.heap number)) in
    sym comes
