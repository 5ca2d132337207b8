-- Where methods stand: by the numbers of their classes, and their places there.
use Rattle.std.specs.Prelude.{◌≡◌, List, Option, Some, map, slice_get}
use Rattle.std.specs.Option.{option_and_then}
use Rattle.kb_class.specs.declared.members.MethodInfo.{MethodInfo}
use Rattle.kb_class.specs.Class.{Class}
use Rattle.kb_classes.specs.declared.methods.MethodPlace.{MethodPlace}
use Rattle.kb_classes.specs.World.{methods_in}

-- the method at a place
abbrev pub method_in : List Class → MethodPlace → Option MethodInfo
method_in classes at = option_and_then (λ (class : Class). slice_get class.methods at.place) (slice_get classes at.class)

-- the places are those of the methods, in order
abbrev pub HasPlaces : List Class → List MethodPlace → Type 0
HasPlaces classes places = map (method_in classes) places ≡ map (λ method. Some method) (methods_in classes)
