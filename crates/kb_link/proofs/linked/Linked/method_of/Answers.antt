use Rattle.std.proofs.Common.{◌≡◌, ◌<◌, List, Some, length, slice_get, sym, ap, subst}
use Rattle.std.proofs.lemmas.Option.{slice_get_within}
use Rattle.kb_class.specs.Class.{Class}
use Rattle.kb_classes.specs.World.{World, methods_in}
use Rattle.kb_classes.proofs.MethodNumbers.{IsPlaceOf, place_of, within_methods, method_read}
use Rattle.kb_link.proofs.linked.Linked.method_of.Goals as goal

pub bounds-as_slice-at : goal.bounds-as_slice-at
bounds-as_slice-at c =
    let classes : c.self.inside.classes ≡ c.args.self.now.classes = ap (λ (w : World). w.classes) c.self.view_is in
    let within : c.args.method.0 < length (methods_in c.self.inside.classes) = subst (λ (cs : List Class). c.args.method.0 < length (methods_in cs)) (sym classes) c.requires in
    let place : IsPlaceOf c.self.inside.classes c.args.method.0 c.index-at.result.now = place_of c.self.inside.classes c.self.inside.places.items c.args.method.0 c.index-at.result.now c.self.invariant.2 within c.index-at.ensures in
    subst (λ (cs : List Class). c.index-at.result.now.class < length cs) (sym c.as_slice.ensures.same) (slice_get_within c.self.inside.classes c.index-at.result.now.class place.class place.class_is)

pub bounds-methods-at : goal.bounds-methods-at
bounds-methods-at c =
    let classes : c.self.inside.classes ≡ c.args.self.now.classes = ap (λ (w : World). w.classes) c.self.view_is in
    let within : c.args.method.0 < length (methods_in c.self.inside.classes) = subst (λ (cs : List Class). c.args.method.0 < length (methods_in cs)) (sym classes) c.requires in
    let place : IsPlaceOf c.self.inside.classes c.args.method.0 c.index-at.result.now = place_of c.self.inside.classes c.self.inside.places.items c.args.method.0 c.index-at.result.now c.self.invariant.2 within c.index-at.ensures in
    within_methods c.self.inside.classes c.args.method.0 c.index-at.result.now place c.as_slice.result.now c.as_slice.ensures.same c.index-as_slice-at.result c.index-as_slice-at.is c.methods.result.now c.methods.ensures

pub returns-clause-there : goal.returns-clause-there
returns-clause-there c =
    let classes : c.self.inside.classes ≡ c.args.self.now.classes = ap (λ (w : World). w.classes) c.self.view_is in
    let within : c.args.method.0 < length (methods_in c.self.inside.classes) = subst (λ (cs : List Class). c.args.method.0 < length (methods_in cs)) (sym classes) c.requires in
    let place : IsPlaceOf c.self.inside.classes c.args.method.0 c.index-at.result.now = place_of c.self.inside.classes c.self.inside.places.items c.args.method.0 c.index-at.result.now c.self.invariant.2 within c.index-at.ensures in
    subst (λ (cs : List Class). slice_get (methods_in cs) c.args.method.0 ≡ Some c.index-methods-at.result) classes
    (method_read c.self.inside.classes c.args.method.0 c.index-at.result.now place c.as_slice.result.now c.as_slice.ensures.same c.index-as_slice-at.result c.index-as_slice-at.is c.methods.result.now c.methods.ensures
    c.index-methods-at.result c.index-methods-at.is)
