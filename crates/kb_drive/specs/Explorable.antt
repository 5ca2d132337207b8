-- The methods that can be explored for now.
use Rattle.std.specs.Prelude.{◌≡◌, true}
use Rattle.kb_class.specs.declared.ids.MethodId.{MethodId}
use Rattle.kb_heap.specs.declared.bounds.Bounds.{Bounds}
use Rattle.kb_link.specs.Links.{IsLinked}
use Rattle.kb_classes.specs.World.{World}
use Rattle.kb_world.specs.Reach.{IsAccepted}
use Rattle.kb_drive.specs.HeapMethods.{is_heap_method}
use Rattle.kb_lazy.specs.Laws.{AreInRange}

-- Of a world that is linked, one that reach accepts, and whose runs are of int steps and steps on references alone. A further
-- kind of step is a further case of `steps`.
pub record IsExplorable (world : World) (target : MethodId) (bounds : Bounds) : Type 0 where
  pub linked : IsLinked world
  pub accepted : IsAccepted world target
  pub steps : is_heap_method world target ≡ true
  pub range : AreInRange bounds
