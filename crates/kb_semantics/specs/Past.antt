-- Inputs that reach beyond the bounds on inputs: by a chain of objects longer than k, or by an array longer than the bound on
-- arrays (the bound on the chain of references that begins with an argument is that of Deng, Lee and Robby, ASE 2006; that it
-- counts objects, and the bound on arrays, are own rules). Both speak of the first heap alone.
use Rattle.std.specs.Prelude.{◌≡◌, ℕ, ◌<◌, List, [], ◌∷◌, ◌++◌, length, Some, slice_get}
use Rattle.kb_names.specs.declared.types.JType.{JType}
use Rattle.kb_names.specs.declared.types.ExactType.TheVariants as exact
use Rattle.kb_class.specs.Naming.{Has}
use Rattle.kb_heap.specs.declared.heap.Value.TheVariants.{Ref}
use Rattle.kb_heap.specs.declared.heap.Object.{Object}
use Rattle.kb_heap.specs.declared.heap.Heap.{Heap}
use Rattle.kb_heap.specs.declared.heap.Input.{Input}
use Rattle.kb_heap.specs.Heap.{object_at}

-- some slot or element of an object holds the other one
pub record Holds (heap : Heap) (holder held : ℕ) : Type 0 where
  pub object : Object
  pub object_is : object_at heap holder ≡ Some object
  pub held_there : Has object.values (Ref held)

-- each of the objects holds the next one
abbrev pub AreLinked : Heap → ℕ → List ℕ → Type 0
AreLinked heap object [] = Unit {0}
AreLinked heap object (next ∷ others) = Holds heap object next × AreLinked heap next others

-- the first of the objects is held by an argument, and each holds the next one
abbrev pub BeginsAtArgument : Input → List ℕ → Type 0
BeginsAtArgument input [] = ⊥
BeginsAtArgument input (first ∷ others) = Has input.args (Ref first) × AreLinked input.heap first others

-- A chain of objects of the input, no two of which are one.
pub record IsChain (input : Input) (chain : List ℕ) : Type 0 where
  pub inside : (i o : ℕ) → slice_get chain i ≡ Some o → o < length input.heap.objects
  pub linked : BeginsAtArgument input chain
  pub different : (i j o : ℕ) → slice_get chain i ≡ Some o → slice_get chain j ≡ Some o → i ≡ j

-- some chain has more than k objects
pub record IsPastK (input : Input) (k : ℕ) : Type 0 where
  pub chain : List ℕ
  pub is_chain : IsChain input chain
  pub longer : k < length chain

-- some object at the end of a chain is an array with more than so many elements
pub record IsPastArray (input : Input) (most : ℕ) : Type 0 where
  pub before : List ℕ
  pub last : ℕ
  pub is_chain : IsChain input (before ++ last ∷ [])
  pub array : Object
  pub array_is : object_at input.heap last ≡ Some array
  pub component : JType
  pub kind : array.kind ≡ exact.Array component
  pub longer : most < length array.values
