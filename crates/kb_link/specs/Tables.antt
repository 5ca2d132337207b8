-- What is told of faults of class files, and of methods by their numbers.
use Rattle.std.specs.Prelude.{◌≡◌, ℕ, List, Some, slice_get}
use Rattle.kb_format.specs.declared.fault.FormatFault.{FormatFault}
use Rattle.kb_format.specs.declared.fault.FormatFault.TheVariants as faults
use Rattle.kb_class.specs.declared.members.MethodInfo.{MethodInfo}
use Rattle.kb_class.specs.Class.{Class}
use Rattle.kb_names.specs.declared.types.MethodType.{MethodType}
use Rattle.kb_classes.specs.declared.refusal.LinkRefusal.{LinkRefusal}
use Rattle.kb_classes.specs.declared.refusal.LinkRefusal.TheVariants as refusals
use Rattle.kb_classes.specs.World.{methods_in}

-- the refusal of a fault of the file of that number
abbrev pub refusal_of : ℕ → FormatFault → LinkRefusal
refusal_of file (faults.BadName entry) = refusals.BadName file entry
refusal_of file (faults.BadDescriptor entry) = refusals.BadDescriptor file entry
refusal_of file (faults.TwoMembers entry) = refusals.TwoMembers file entry

-- ---- methods by their numbers

-- the method at the place is that of the name and type
pub record StandsAt (methods : List MethodInfo) (name : List ℕ) (kind : MethodType) (place : ℕ) : Type 0 where
  pub method : MethodInfo
  pub there : slice_get methods place ≡ Some method
  pub named : method.name ≡ name
  pub typed : method.kind ≡ kind

-- the number is that of a method of that class with the name and type
pub record IsNumberOf (classes : List Class) (class : ℕ) (name : List ℕ) (kind : MethodType) (number : ℕ) : Type 0 where
  pub declaring : Class
  pub class_is : slice_get classes class ≡ Some declaring
  pub place : ℕ
  pub stands : StandsAt declaring.methods name kind place
  pub there : slice_get (methods_in classes) number ≡ Some stands.method
