-- The types of a method's arguments, by their numbers.
use Rattle.std.proofs.Common.{◌≡◌, ℕ, [], Option, Some, None, slice_get, refl, option_and_then}
use Rattle.std.specs.Option.{option_map_or}
use Rattle.kb_class.specs.declared.ids.MethodId.{MethodId}
use Rattle.kb_class.specs.declared.members.MethodInfo.{MethodInfo}
use Rattle.kb_classes.specs.World.{World}
use Rattle.kb_semantics.specs.Config.{info_of}
use Rattle.kb_semantics.specs.Inputs.{argument_types}
use Rattle.kb_input.specs.Emitted.{arguments_of}

pub argument_at : (world : World) (id : MethodId) (number : ℕ)
    → option_and_then (λ (method : MethodInfo). slice_get (argument_types world method) number) (info_of world id) ≡ slice_get (arguments_of world id) number
argument_at world id number = go (info_of world id)
  where
    go : (method : Option MethodInfo)
        → option_and_then (λ (m : MethodInfo). slice_get (argument_types world m) number) method ≡ slice_get (option_map_or (argument_types world) method []) number
    go None = refl
    go (Some method) = refl
