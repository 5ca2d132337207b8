-- Paths by hand on which locations are objects of the picture, open and beyond, of methods with two arguments over a class `Node`
-- with two slots, an int and the next node: so what is said of locations can be met.
use Rattle.std.specs.Prelude.{◌≡◌, ℕ, ℤ, pos, false, List, [], ◌∷◌, codes, length, Some}
use Rattle.kb_class.specs.declared.ids.MethodId.{MethodId}
use Rattle.kb_class.specs.declared.members.MethodInfo.{MethodInfo}
use Rattle.kb_heap.specs.declared.bounds.Bound.TheVariants.{K}
use Rattle.kb_heap.specs.declared.heap.Input.{Input}
use Rattle.kb_heap.specs.declared.heap.Object.{Object}
use Rattle.kb_heap.specs.declared.heap.Value.{Value}
use Rattle.kb_heap.specs.declared.heap.Value.TheVariants.{Int as IntValue, Null as NullValue, Ref}
use Rattle.kb_classes.specs.World.{World}
use Rattle.kb_names.specs.declared.types.ExactType.{ExactType}
use Rattle.kb_names.specs.declared.types.ExactType.TheVariants as exact
use Rattle.kb_semantics.specs.Config.{info_of}
use Rattle.kb_semantics.specs.Inputs.{argument_types}
use Rattle.kb_semantics.specs.Values.{slots_of_class}
use Rattle.kb_terms.specs.declared.op.Op.TheVariants.{Eq}
use Rattle.kb_terms.specs.declared.listing.Operand.TheVariants.{Const, Var}
use Rattle.kb_terms.specs.declared.listing.Term.{Term}
use Rattle.kb_picture.specs.declared.path.Ended.{Ended}
use Rattle.kb_picture.specs.declared.path.Leaf.TheVariants.{Ended as EndedLeaf, Cut}
use Rattle.kb_picture.specs.declared.path.Out.TheVariants as outs
use Rattle.kb_picture.specs.declared.path.Path.{Path}
use Rattle.kb_picture.specs.declared.path.SymEnding.TheVariants.{Returned}
use Rattle.kb_picture.specs.declared.picture.Length.TheVariants.{Plain}
use Rattle.kb_picture.specs.declared.picture.Origin.{Origin}
use Rattle.kb_picture.specs.declared.picture.Origin.TheVariants.{Arg, Field}
use Rattle.kb_picture.specs.declared.picture.PicLoc.{PicLoc}
use Rattle.kb_picture.specs.declared.picture.PicObject.{PicObject}
use Rattle.kb_picture.specs.declared.picture.Picture.{Picture}
use Rattle.kb_picture.specs.declared.picture.Seen.TheVariants as seens
use Rattle.kb_picture.specs.declared.picture.Standing.{Standing}
use Rattle.kb_picture.specs.declared.picture.Standing.TheVariants as standings
use Rattle.kb_picture.specs.WellFormed.{IsWellFormed}

-- ---- nodes

abbrev pub node : ExactType
node = exact.Class (codes "Node")

abbrev pub node_at : Origin → PicObject
node_at origin = record { kind = node; length = Plain; origin = origin }

abbrev pub read_from : Origin → Standing → PicLoc
read_from origin standing = record { origin = origin; standing = standing }

-- a node of an input, with its int and what is next
abbrev pub node_with : ℤ → Value → Object
node_with elem next = record { kind = node; values = IntValue elem ∷ next ∷ [] }

abbrev pub input_with : List Value → List Object → Input
input_with args objects = record { heap = record { objects = objects }; args = args }

-- an int is returned, and o0.Node.next was set to null
abbrev pub returns_int : ℤ → Input → Ended
returns_int result input = record {
  ending = Returned (Some (outs.Int (Const result)));
  writes = record { slot = Field 0 1; value = outs.Null } ∷ [];
  made = [];
  input = input;
}

-- ---- both arguments are one node: path 1.1.0 of m (LNode;LNode;)I, which sets the first one's next to null and tests the second
-- one's

abbrev pub one_node_picture : Picture
one_node_picture = record {
  seen = (Arg 0, seens.Loc 0) ∷ (Arg 1, seens.Loc 1) ∷ [];
  locs = read_from (Arg 0) (standings.Obj 0) ∷ read_from (Arg 1) (standings.Obj 0) ∷ [];
  objects = node_at (Arg 0) ∷ [];
}

abbrev pub one_node_ended : Ended
one_node_ended = returns_int (pos 1) (input_with (Ref 0 ∷ Ref 0 ∷ []) (node_with (pos 0) NullValue ∷ []))

abbrev pub one_node_path : Path
one_node_path = record { decisions = 1 ∷ 1 ∷ 0 ∷ []; picture = one_node_picture; terms = []; when = []; leaf = EndedLeaf one_node_ended }

-- ---- they are two, and the second one's next stays open: path 1.1.1.1 of m

abbrev pub open_picture : Picture
open_picture = record {
  seen = (Arg 0, seens.Loc 0) ∷ (Arg 1, seens.Loc 1) ∷ (Field 1 1, seens.Loc 2) ∷ [];
  locs = read_from (Arg 0) (standings.Obj 0) ∷ read_from (Arg 1) (standings.Obj 1) ∷ read_from (Field 1 1) standings.Open ∷ [];
  objects = node_at (Arg 0) ∷ node_at (Arg 1) ∷ [];
}

abbrev pub open_ended : Ended
open_ended = returns_int (pos 0)
    (input_with (Ref 0 ∷ Ref 1 ∷ []) (node_with (pos 0) NullValue ∷ node_with (pos 0) (Ref 2) ∷ node_with (pos 0) NullValue ∷ []))

abbrev pub open_path : Path
open_path = record { decisions = 1 ∷ 1 ∷ 1 ∷ 1 ∷ []; picture = open_picture; terms = []; when = []; leaf = EndedLeaf open_ended }

-- ---- a third node on a chain is beyond k 2: path 1.1.1.1.1.2 of contains (I)Z, which looks for an int in a list

abbrev pub beyond_picture : Picture
beyond_picture = record {
  seen = (Arg 0, seens.Loc 0) ∷ (Arg 1, seens.Int 0) ∷ (Field 0 0, seens.Int 1) ∷ (Field 0 1, seens.Loc 1) ∷ (Field 1 0, seens.Int 2) ∷ (Field 1 1, seens.Loc 2) ∷ [];
  locs = read_from (Arg 0) (standings.Obj 0) ∷ read_from (Field 0 1) (standings.Obj 1) ∷ read_from (Field 1 1) standings.Beyond ∷ [];
  objects = node_at (Arg 0) ∷ node_at (Field 0 1) ∷ [];
}

abbrev pub is_sought : ℕ → Term
is_sought variable = record { op = Eq; left = Var variable; right = Some (Var 0) }

abbrev pub beyond_input : Input
beyond_input = input_with (Ref 0 ∷ IntValue (pos 0) ∷ []) (node_with (pos 1) (Ref 1) ∷ node_with (pos 1) (Ref 2) ∷ node_with (pos 0) NullValue ∷ [])

abbrev pub beyond_path : Path
beyond_path = record {
  decisions = 1 ∷ 1 ∷ 1 ∷ 1 ∷ 1 ∷ 2 ∷ [];
  picture = beyond_picture;
  terms = is_sought 1 ∷ is_sought 2 ∷ [];
  when = (0, false) ∷ (1, false) ∷ [];
  leaf = Cut K beyond_input;
}

-- ---- a slot of an object stands before the one in which the object was found, as in no path of an exploration

abbrev pub later_picture : Picture
later_picture = record { seen = (Field 0 1, seens.Null) ∷ (Arg 0, seens.Obj 0) ∷ []; locs = []; objects = node_at (Arg 0) ∷ [] }

abbrev pub later_ended : Ended
later_ended = returns_int (pos 1) (input_with (Ref 0 ∷ NullValue ∷ []) (node_with (pos 0) NullValue ∷ []))

abbrev pub later_path : Path
later_path = record { decisions = []; picture = later_picture; terms = []; when = []; leaf = EndedLeaf later_ended }

-- ---- all of them

-- They are well-formed in each world in which `Node` has two slots, for each method of it with two arguments.
pub record AreFormedExamples (world : World) (id : MethodId) : Type 0 where
  pub one_node : IsWellFormed world id one_node_path
  pub open_node : IsWellFormed world id open_path
  pub beyond : IsWellFormed world id beyond_path
  pub later : IsWellFormed world id later_path

abbrev pub ExamplesAreFormed : Type 0
ExamplesAreFormed =
    (world : World) (id : MethodId) (method : MethodInfo) → info_of world id ≡ Some method → length (argument_types world method) ≡ 2
    → length (slots_of_class world (codes "Node")) ≡ 2 → AreFormedExamples world id
