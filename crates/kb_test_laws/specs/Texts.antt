-- Which names have texts: a class's name where it is not empty, a type where it has at most 255 dimensions (JVMS 8 sections
-- 4.2.1, 4.3.2 and 4.4.1), and all of them only where names are lists of bytes.
use Rattle.std.specs.Prelude.{◌≡◌, ℕ, List, Some}
use Rattle.std.specs.List.{AllByRecursion}
use Rattle.kb_names.specs.Bytes.{AreBytes}
use Rattle.kb_names.specs.Targets.{IsTarget}
use Rattle.kb_names.specs.declared.types.ExactType.{ExactType}
use Rattle.kb_classfile.specs.Spelling.{Spells}
use Rattle.kb_class.specs.declared.given.GivenClass.{GivenClass}
use Rattle.kb_class.specs.declared.ids.MethodId.{MethodId}
use Rattle.kb_class.specs.declared.members.MethodInfo.{MethodInfo}
use Rattle.kb_class.specs.Naming.{Has}
use Rattle.kb_heap.specs.declared.bounds.Bound.TheVariants.{K, Array}
use Rattle.kb_heap.specs.declared.ending.Ending.{Ending}
use Rattle.kb_heap.specs.declared.ending.Ending.TheVariants.{Returned, Threw, IllTyped, Past}
use Rattle.kb_heap.specs.declared.heap.Object.{Object}
use Rattle.kb_classes.specs.World.{World, type_entry_of}
use Rattle.kb_semantics.specs.Config.{Ended, info_of, target_of}
use Rattle.kb_heap_words.specs.Words.{IsExact}

-- the class's file is spelled by bytes
pub record IsOfBytes (given : GivenClass) : Type 0 where
  pub bytes : List ℕ
  pub are_bytes : AreBytes bytes
  pub spelled : Spells given.file bytes

-- Each type that an object of an input may have has a text, each type that a Class entry of a class names, and each method.
pub record NamesHaveTexts (world : World) : Type 0 where
  pub universe : (type : ExactType) → Has world.universe type → IsExact type
  pub entries : (class entry : ℕ) (type : ExactType) → type_entry_of world class entry ≡ Some type → IsExact type
  pub methods : (id : MethodId) (method : MethodInfo) → info_of world id ≡ Some method → IsTarget (target_of world id)

-- an ending of a run that names nothing without a text; the bounds on inputs bound no run
abbrev pub EndingHasText : Ending → Type 0
EndingHasText (Returned value) = Unit {0}
EndingHasText (Threw object) = Unit {0}
EndingHasText (IllTyped place) = IsTarget place.method
EndingHasText (Past K) = ⊥
EndingHasText (Past Array) = ⊥
EndingHasText (Past bound) = Unit {0}

-- each object that a run leaves is of a type that has a text, and its ending names nothing without one
pub record EndHasTexts (ended : Ended) : Type 0 where
  pub objects : AllByRecursion (λ (object : Object). IsExact object.kind) ended.heap.objects
  pub ending : EndingHasText ended.ending
