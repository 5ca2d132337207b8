-- What is not built yet, and is refused by 50 until it is.
use Rattle.std.specs.Prelude.{◌≡◌, true}
use Rattle.kb_class.specs.declared.ids.MethodId.{MethodId}
use Rattle.kb_names.specs.declared.types.Target.{Target}
use Rattle.kb_link.specs.Targets.{IsTargetOf}
use Rattle.kb_classes.specs.World.{World}
use Rattle.kb_drive.specs.HeapMethods.{is_heap_method}
use Rattle.kb_world.specs.Reach.{IsAccepted}

-- The exploration of a method is built where it takes ints, booleans and references, and its steps are of ints and on references alone,
-- without handlers.
abbrev pub IsBuiltFor : World → MethodId → Type 0
IsBuiltFor world id = is_heap_method world id ≡ true

-- the target names the method, it can be carried out with all that it reaches, and its exploration is built
pub record IsBuiltTarget (world : World) (target : Target) (id : MethodId) : Type 0 where
  pub found : IsTargetOf world target id
  pub accepted : IsAccepted world id
  pub built : IsBuiltFor world id

-- the target names a method that can be carried out with all that it reaches, and its exploration is not built
pub record IsUnbuilt (world : World) (target : Target) : Type 0 where
  pub id : MethodId
  pub found : IsTargetOf world target id
  pub accepted : IsAccepted world id
  pub none : IsBuiltFor world id → ⊥
