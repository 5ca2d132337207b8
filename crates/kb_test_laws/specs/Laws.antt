-- The laws of names that have texts.
use Rattle.std.specs.Prelude.{List}
use Rattle.std.specs.List.{AllByRecursion}
use Rattle.kb_class.specs.declared.given.GivenClass.{GivenClass}
use Rattle.kb_class.specs.declared.ids.MethodId.{MethodId}
use Rattle.kb_heap.specs.declared.heap.Input.{Input}
use Rattle.kb_link.specs.Links.{IsLinked, Links}
use Rattle.kb_classes.specs.World.{World}
use Rattle.kb_semantics.specs.Config.{Setting}
use Rattle.kb_semantics.specs.Inputs.{IsTypeCorrect}
use Rattle.kb_semantics.specs.Step.{run_of}
use Rattle.kb_test_laws.specs.Texts.{EndHasTexts, IsOfBytes, NamesHaveTexts}
use Rattle.kb_world.specs.Reach.{IsAccepted}

-- Class files that bytes spell keep the rules of names and descriptors, and the classes of the platform have names and types of
-- their own: so all names of a world have texts.
abbrev pub WorldsHaveNames : Type 0
WorldsHaveNames =
    (given : List GivenClass) (world : World) → AllByRecursion IsOfBytes given → Links given world → NamesHaveTexts world

-- The type of an object never changes, and a new object is of a type that a Class entry names, an array with elements of such a
-- type or of booleans or ints, or an exception of the platform. The method may be run (`reach` accepts it): else anewarray could
-- make an array of 256 dimensions, which has no descriptor.
abbrev pub RunsHaveNames : Type 0
RunsHaveNames =
    (s : Setting) (id : MethodId) (input : Input) → IsLinked s.world → NamesHaveTexts s.world → IsAccepted s.world id
    → IsTypeCorrect s.world id input → EndHasTexts (run_of s id input)
