-- When a path is well-formed in a world and for a method of it: what it names is there, and everything stands in its order. The
-- arguments that are there are those of the method, the slots those of the world's classes (The Java Virtual Machine
-- Specification, Java SE 8 Edition, sections 2.6.1 and 2.7; that literals are numbered in the order of their bytes is an own
-- rule).
use Rattle.std.specs.Prelude.{◌≡◌, ◌≢◌, ◌⊎◌, ℕ, suc, ◌<◌, ◌≤◌, Bool, true, false, List, length, take, map, Option, Some, None, slice_get}
use Rattle.std.specs.List.{filter_map}
use Rattle.kb_blast.specs.Meaning.{OperandFits, IsComparison}
use Rattle.kb_class.specs.Naming.{Has}
use Rattle.kb_class.specs.declared.ids.MethodId.{MethodId}
use Rattle.kb_class.specs.declared.members.MethodInfo.{MethodInfo}
use Rattle.kb_heap.specs.declared.heap.Value.{Value}
use Rattle.kb_heap.specs.declared.heap.Value.TheVariants.{Ref}
use Rattle.kb_heap.specs.declared.heap.Object.{Object}
use Rattle.kb_heap.specs.declared.heap.Input.{Input}
use Rattle.kb_classes.specs.World.{World}
use Rattle.kb_names.specs.declared.types.ExactType.{ExactType}
use Rattle.kb_names.specs.declared.types.ExactType.TheVariants as exact
use Rattle.kb_semantics.specs.Config.{info_of}
use Rattle.kb_semantics.specs.Inputs.{argument_types}
pub use Rattle.kb_semantics.specs.Looks.{numbers_below}
use Rattle.kb_semantics.specs.Values.{slots_of_class}
use Rattle.kb_terms.specs.Op.{is_binary}
use Rattle.kb_terms.specs.declared.listing.Operand.{Operand}
use Rattle.kb_terms.specs.declared.listing.Operand.TheVariants.{Const, Var, Term as TermOperand}
use Rattle.kb_terms.specs.declared.listing.Term.{Term}
use Rattle.kb_picture.specs.declared.picture.Origin.{Origin}
use Rattle.kb_picture.specs.declared.picture.Origin.TheVariants.{Arg, Field, Element}
use Rattle.kb_picture.specs.declared.picture.Seen.{Seen}
use Rattle.kb_picture.specs.declared.picture.Seen.TheVariants as seens
use Rattle.kb_picture.specs.declared.picture.Standing.{Standing}
use Rattle.kb_picture.specs.declared.picture.Standing.TheVariants as standings
use Rattle.kb_picture.specs.declared.picture.Length.{Length}
use Rattle.kb_picture.specs.declared.picture.Length.TheVariants.{Plain, Is, Above}
use Rattle.kb_picture.specs.declared.picture.PicLoc.{PicLoc}
use Rattle.kb_picture.specs.declared.picture.PicObject.{PicObject}
use Rattle.kb_picture.specs.declared.picture.Picture.{Picture}
use Rattle.kb_picture.specs.declared.path.Out.{Out}
use Rattle.kb_picture.specs.declared.path.Out.TheVariants as outs
use Rattle.kb_picture.specs.declared.path.Write.{Write}
use Rattle.kb_picture.specs.declared.path.Made.{Made}
use Rattle.kb_picture.specs.declared.path.SymEnding.{SymEnding}
use Rattle.kb_picture.specs.declared.path.SymEnding.TheVariants.{Returned, Threw, IllTyped}
use Rattle.kb_picture.specs.declared.path.Ended.{Ended}
use Rattle.kb_picture.specs.declared.path.Leaf.{Leaf}
use Rattle.kb_picture.specs.declared.path.Leaf.TheVariants.{Ended as EndedLeaf, Cut, Undecided, Open}
use Rattle.kb_picture.specs.declared.path.Path.{Path}
use Rattle.kb_picture.specs.Numbering.{met_from, roots_of, ended_outs}

-- ---- slots that are there

-- an object of the exact type has a slot of that number
abbrev pub HasSlot : World → ExactType → ℕ → Type 0
HasSlot world (exact.Class name) slot = slot < length (slots_of_class world name)
HasSlot world (exact.Array component) slot = ⊥

-- an array of that length has an element at the index: one that is longer than n has n + 1 elements at least
abbrev pub HasElement : Length → ℕ → Type 0
HasElement Plain index = ⊥
HasElement (Is n) index = index < n
HasElement (Above n) index = index ≤ n

-- the slot is that of an argument that is there, or of one of these objects, with so many arguments
abbrev pub IsSlot : World → ℕ → List PicObject → Origin → Type 0
IsSlot world params objects (Arg number) = number < params
IsSlot world params objects (Field number slot) = (object : PicObject) × (slice_get objects number ≡ Some object) × HasSlot world object.kind slot
IsSlot world params objects (Element number index) = (object : PicObject) × (slice_get objects number ≡ Some object) × HasElement object.length index

-- ---- what is seen

abbrev pub slots_seen : Picture → List Origin
slots_seen picture = map (λ slot. slot.0) picture.seen

-- the variable and the location that are seen
abbrev pub variable_seen : Seen → Option ℕ
variable_seen (seens.Int number) = Some number
variable_seen (seens.Loc number) = None
variable_seen (seens.Obj number) = None
variable_seen seens.Null = None
variable_seen seens.Beyond = None

abbrev pub location_seen : Seen → Option ℕ
location_seen (seens.Int number) = None
location_seen (seens.Loc number) = Some number
location_seen (seens.Obj number) = None
location_seen seens.Null = None
location_seen seens.Beyond = None

abbrev pub variables_seen : Picture → List ℕ
variables_seen picture = filter_map (λ slot. variable_seen slot.1) picture.seen

abbrev pub locations_seen : Picture → List ℕ
locations_seen picture = filter_map (λ slot. location_seen slot.1) picture.seen

-- each object that a slot is seen as, or that a location stands for, is one of the picture's
abbrev pub IsSeenAs : Picture → Seen → Type 0
IsSeenAs picture (seens.Obj number) = number < length picture.objects
IsSeenAs picture (seens.Loc number) = number < length picture.locs
IsSeenAs picture (seens.Int number) = Unit {0}
IsSeenAs picture seens.Null = Unit {0}
IsSeenAs picture seens.Beyond = Unit {0}

abbrev pub IsStanding : Picture → Standing → Type 0
IsStanding picture (standings.Obj number) = number < length picture.objects
IsStanding picture standings.Open = Unit {0}
IsStanding picture standings.Beyond = Unit {0}

-- some location is read from the slot and is that object
pub record IsBound (picture : Picture) (slot : Origin) (number : ℕ) : Type 0 where
  pub loc : ℕ
  pub seen : Has picture.seen (slot, seens.Loc loc)
  pub standing : slice_get picture.locs loc ≡ Some (record { origin = slot; standing = standings.Obj number })

-- the slot is seen as the object, or as a location that is the object
abbrev pub LeadsTo : Picture → Origin → ℕ → Type 0
LeadsTo picture slot number = Has picture.seen (slot, seens.Obj number) ⊎ IsBound picture slot number

-- an array has a length, and nothing else has
abbrev pub IsLengthOf : ExactType → Length → Type 0
IsLengthOf (exact.Class name) Plain = Unit {0}
IsLengthOf (exact.Array component) (Is n) = Unit {0}
IsLengthOf (exact.Array component) (Above n) = Unit {0}
IsLengthOf (exact.Class name) _ = ⊥
IsLengthOf (exact.Array component) Plain = ⊥

-- A picture of the inputs of a method with so many arguments.
pub record IsPicture (world : World) (params : ℕ) (picture : Picture) : Type 0 where
  -- a slot that is seen is there; none is seen twice
  pub slots : (i : ℕ) (slot : Origin) → slice_get (slots_seen picture) i ≡ Some slot → IsSlot world params picture.objects slot
  pub once : (i j : ℕ) (slot : Origin) → slice_get (slots_seen picture) i ≡ Some slot → slice_get (slots_seen picture) j ≡ Some slot → i ≡ j
  pub seen : (i : ℕ) (slot : Origin × Seen) → slice_get picture.seen i ≡ Some slot → IsSeenAs picture slot.1
  -- variables and locations are numbered in the order of reading, so that no two slots are seen as one of them
  pub variables : variables_seen picture ≡ numbers_below (length (variables_seen picture))
  pub locations : locations_seen picture ≡ numbers_below (length picture.locs)
  -- a location's origin is the slot that is seen as it
  pub locs : (number : ℕ) (loc : PicLoc) → slice_get picture.locs number ≡ Some loc → Has picture.seen (loc.origin, seens.Loc number) × IsStanding picture loc.standing
  -- an object's origin is a slot of an argument or of an earlier object that leads to it; it has a length where it is an array
  pub origins : (number : ℕ) (object : PicObject) → slice_get picture.objects number ≡ Some object
      → IsSlot world params (take number picture.objects) object.origin × LeadsTo picture object.origin number
  pub lengths : (number : ℕ) (object : PicObject) → slice_get picture.objects number ≡ Some object → IsLengthOf object.kind object.length

-- ---- terms and conditions

-- the operand is an int, a variable that is seen, or one of the first so many terms
abbrev pub IsOperand : Picture → ℕ → Operand → Type 0
IsOperand picture terms (Const c) = OperandFits (Const c)
IsOperand picture terms (Var number) = number < length (variables_seen picture)
IsOperand picture terms (TermOperand number) = number < terms

abbrev pub IsSecond : Picture → ℕ → Bool → Option Operand → Type 0
IsSecond picture terms true (Some operand) = IsOperand picture terms operand
IsSecond picture terms true None = ⊥
IsSecond picture terms false (Some operand) = ⊥
IsSecond picture terms false None = Unit {0}

-- a term has as many operands as its operation, and they are there: of terms the earlier ones
pub record IsTermAt (picture : Picture) (number : ℕ) (term : Term) : Type 0 where
  pub left : IsOperand picture number term.left
  pub right : IsSecond picture number (is_binary term.op) term.right

-- The terms of a path are those that a walk from its conditions and its leaf meets, in that order; no two of them are equal,
-- and each condition is on a comparison.
pub record AreTermsOf (path : Path) : Type 0 where
  pub each : (number : ℕ) (term : Term) → slice_get path.terms number ≡ Some term → IsTermAt path.picture number term
  pub met : met_from path.terms (roots_of path) ≡ numbers_below (length path.terms)
  pub conditions : (i : ℕ) (condition : ℕ × Bool) → slice_get path.when i ≡ Some condition → IsComparison (slice_get path.terms condition.0)
  pub once : (i j : ℕ) (term : Term) → slice_get path.terms i ≡ Some term → slice_get path.terms j ≡ Some term → i ≡ j

-- ---- leaves

-- the location is there and open
abbrev pub IsOpenLoc : Picture → ℕ → Type 0
IsOpenLoc picture number = (loc : PicLoc) × (slice_get picture.locs number ≡ Some loc) × (loc.standing ≡ standings.Open)

-- a value that names what is there, with so many literals and made objects; a bound location is named as its object
abbrev pub IsOut : World → Path → ℕ → Out → Type 0
IsOut world path made (outs.Int operand) = IsOperand path.picture (length path.terms) operand
IsOut world path made outs.Null = Unit {0}
IsOut world path made (outs.Loc number) = IsOpenLoc path.picture number
IsOut world path made (outs.Obj number) = number < length path.picture.objects
IsOut world path made (outs.Literal number) = number < length world.literals
IsOut world path made (outs.New number) = number < made

-- what is thrown is neither an int nor null
abbrev pub IsObjectOut : Out → Type 0
IsObjectOut (outs.Int operand) = ⊥
IsObjectOut outs.Null = ⊥
IsObjectOut (outs.Loc number) = Unit {0}
IsObjectOut (outs.Obj number) = Unit {0}
IsObjectOut (outs.Literal number) = Unit {0}
IsObjectOut (outs.New number) = Unit {0}

abbrev pub IsThrown : SymEnding → Type 0
IsThrown (Threw value) = IsObjectOut value
IsThrown (Returned value) = Unit {0}
IsThrown (IllTyped place) = Unit {0}

-- a written slot is one of an object of the picture: its object, and its number or index
abbrev pub written_slot : Origin → Option (ℕ × ℕ)
written_slot (Arg number) = None
written_slot (Field object slot) = Some (object, slot)
written_slot (Element array index) = Some (array, index)

abbrev pub written_slots : List Write → List (Option (ℕ × ℕ))
written_slots writes = map (λ (write : Write). written_slot write.slot) writes

-- the first slot comes before the second one: by rising object, and of one object by rising slot or index
abbrev pub IsSlotBefore : ℕ × ℕ → ℕ × ℕ → Type 0
IsSlotBefore one other = (one.0 < other.0) ⊎ ((one.0 ≡ other.0) × (one.1 < other.1))

abbrev pub ComesBefore : Option (ℕ × ℕ) → Option (ℕ × ℕ) → Type 0
ComesBefore (Some one) (Some other) = IsSlotBefore one other
ComesBefore (Some one) None = ⊥
ComesBefore None other = ⊥

-- The writes are of slots that are there, of objects of the picture, each once, by rising object and slot.
pub record AreWrites (world : World) (picture : Picture) (writes : List Write) : Type 0 where
  pub there : (i : ℕ) (write : Write) → slice_get writes i ≡ Some write → (written_slot write.slot ≢ None) × IsSlot world 0 picture.objects write.slot
  pub rising : (i : ℕ) (one other : Option (ℕ × ℕ)) → slice_get (written_slots writes) i ≡ Some one
      → slice_get (written_slots writes) (suc i) ≡ Some other → ComesBefore one other

-- a made object has one value for each slot of its class; a made array as many as it is long
abbrev pub HasValues : World → ExactType → ℕ → Type 0
HasValues world (exact.Class name) count = count ≡ length (slots_of_class world name)
HasValues world (exact.Array component) count = Unit {0}

-- the input names objects that it has
abbrev pub IsWithin : ℕ → Value → Type 0
IsWithin objects value = (object : ℕ) → value ≡ Ref object → object < objects

pub record IsClosed (input : Input) : Type 0 where
  pub arguments : (i : ℕ) (value : Value) → slice_get input.args i ≡ Some value → IsWithin (length input.heap.objects) value
  pub objects : (i j : ℕ) (object : Object) (value : Value) → slice_get input.heap.objects i ≡ Some object → slice_get object.values j ≡ Some value
      → IsWithin (length input.heap.objects) value

pub record IsEnded (world : World) (path : Path) (ended : Ended) : Type 0 where
  pub outs : (i : ℕ) (out : Out) → slice_get (ended_outs ended) i ≡ Some out → IsOut world path (length ended.made) out
  pub thrown : IsThrown ended.ending
  pub writes : AreWrites world path.picture ended.writes
  pub made : (i : ℕ) (made : Made) → slice_get ended.made i ≡ Some made → HasValues world made.kind (length made.values)
  pub input : IsClosed ended.input

abbrev pub IsLeaf : World → Path → Leaf → Type 0
IsLeaf world path (EndedLeaf ended) = IsEnded world path ended
IsLeaf world path (Cut bound input) = IsClosed input
IsLeaf world path (Undecided log) = Unit {0}
IsLeaf world path Open = Unit {0}

-- A path that is well-formed in a world for a method of it.
pub record IsWellFormed (world : World) (id : MethodId) (path : Path) : Type 0 where
  pub method : MethodInfo
  pub method_is : info_of world id ≡ Some method
  pub picture : IsPicture world (length (argument_types world method)) path.picture
  pub terms : AreTermsOf path
  pub leaf : IsLeaf world path path.leaf
