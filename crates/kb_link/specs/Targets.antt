-- Which method a target names (JVMS 8 sections 4.3.3 and 4.6).
use Rattle.std.specs.Prelude.{◌≡◌, false, Some, slice_get, IsSome}
use Rattle.kb_names.specs.declared.types.Target.{Target}
use Rattle.kb_class.specs.declared.ids.MethodId.{MethodId}
use Rattle.kb_class.specs.declared.members.MethodInfo.{MethodInfo}
use Rattle.kb_class.specs.Class.{Class}
use Rattle.kb_classes.specs.World.{World, method_at}
use Rattle.kb_classes.specs.Split.{is_special}

-- The method of that number is the one that the target names: by the class that declares it, its name and its type.
pub record Declares (world : World) (id : MethodId) (target : Target) : Type 0 where
  pub method : MethodInfo
  pub method_is : method_at world id.0 ≡ Some method
  pub class : Class
  pub class_is : slice_get world.classes method.class.0 ≡ Some class
  pub own : class.name ≡ target.class
  pub name : method.name ≡ target.name
  pub kind : method.kind ≡ target.kind

-- The method that a target names where it may be run: it has code, and is no initialiser.
pub record IsTargetOf (world : World) (target : Target) (id : MethodId) : Type 0 where
  pub declared : Declares world id target
  pub code : IsSome declared.method.code
  pub ordinary : is_special target.name ≡ false
