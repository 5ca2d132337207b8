use Rattle.std.proofs.Common.{List, ◌++◌, map, Some, sym, ap, ◌∙◌}
use Rattle.std.proofs.lemmas.List.{append-nil, take_all}
use Rattle.kb_class.specs.declared.members.MethodInfo.{MethodInfo}
use Rattle.kb_classes.specs.Methods.{method_in}
use Rattle.kb_classes.proofs.MethodNumbers.{place_pushed}
use Rattle.kb_classes.proofs.methods.with_places.Goals as goal

pub loop-place-init : goal.loop-place-init
loop-place-init c = sym (append-nil (map (method_in c.args.classes.now) c.args.places.items))

pub loop-place-preserved : goal.loop-place-preserved
loop-place-preserved c =
    rw c.in-Ok.ensures.items
    (place_pushed c.args.classes.now c.requires.0 c.args.methods.now (map (method_in c.args.classes.now) c.args.places.items) c.loop-place.after.items (record { class = c.args.class; place = c.loop-place.place })
    c.requires.1 c.requires.2 c.loop-place-test.true c.loop-place.invariant)

pub returns : goal.returns
returns c =
    let all = take_all c.loop-place.place c.args.methods.now c.loop-place-test.false in
    c.loop-place.invariant ∙ ap (λ (ms : List MethodInfo). map (method_in c.args.classes.now) c.args.places.items ++ map (λ (m : MethodInfo). Some m) ms) all
