-- What a symbolic reference is at an input, and that what instructions take from a stack of symbolic values is what the machine
-- takes from the stack of their values.
use Rattle.std.proofs.Common.{◌≡◌, pos, List, [], ◌∷◌, drop, slice_get, Option, Some, None, refl, ap, subst, ◌∙◌}
use Rattle.std.specs.Option.{option_map, option_and_then}
use Rattle.kb_arith.specs.Word.{word_and}
use Rattle.kb_heap.specs.declared.heap.Value.{Value}
use Rattle.kb_heap.specs.declared.heap.Value.TheVariants.{Int as IntValue, Null as NullValue, Ref}
use Rattle.kb_names.specs.declared.types.JType.{JType}
use Rattle.kb_names.specs.declared.types.JType.TheVariants as types
use Rattle.kb_semantics.specs.Operands.{Reference, Taken, a_reference, a_value_for, an_object_and_value, behind_it, reference_of, taken, two_references as two_of, value_of_reference}
use Rattle.kb_semantics.specs.Values.{kept}
use Rattle.kb_picture.specs.Endings.{Reading}
use Rattle.kb_frames.specs.declared.value.SymValue.{SymValue}
use Rattle.kb_frames.specs.declared.value.SymValue.TheVariants.{Int, Null, Obj, Literal, New, Loc}
use Rattle.kb_frames.specs.StandsFor.{value_of_sym, values_of_sym}
use Rattle.kb_ways.specs.Operands.{an_object_and_value as object_and_value, of_kind, a_reference as one_reference, reference, two_references}

-- the value is null or an object
abbrev pub IsReference : SymValue → Type 0
IsReference (Int term) = ⊥
IsReference Null = Unit {0}
IsReference (Obj number) = Unit {0}
IsReference (Literal number) = Unit {0}
IsReference (New number) = Unit {0}
IsReference (Loc number) = Unit {0}

-- a value that is a reference, as one: of an int, which is none, null
abbrev pub reference_in : Value → Reference
reference_in (IntValue z) = None
reference_in NullValue = None
reference_in (Ref o) = Some o

-- the reference that a symbolic value has at an input
abbrev pub referred : Reading → SymValue → Reference
referred r value = reference_in (value_of_sym r value)

-- what is a reference is no int
pub reference_kind : (it : Option SymValue) (value : SymValue) → reference it ≡ Some value → IsReference value
reference_kind None value e = absurd cc
reference_kind (Some (Int t)) value e = absurd cc
reference_kind (Some Null) value e = (let same : Null ≡ value = cc in subst IsReference same tt)
reference_kind (Some (Obj n)) value e = (let same : Obj n ≡ value = cc in subst IsReference same tt)
reference_kind (Some (Literal n)) value e = (let same : Literal n ≡ value = cc in subst IsReference same tt)
reference_kind (Some (New n)) value e = (let same : New n ≡ value = cc in subst IsReference same tt)
reference_kind (Some (Loc n)) value e = (let same : Loc n ≡ value = cc in subst IsReference same tt)

module _ (r : Reading) where
  pub reference_back : (value : SymValue) → IsReference value → value_of_reference (referred r value) ≡ value_of_sym r value
  reference_back (Int t) is = absurd is
  reference_back Null is = refl
  reference_back (Obj n) is = refl
  reference_back (Literal n) is = refl
  reference_back (New n) is = refl
  reference_back (Loc n) is = refl

  pub reference_value : (it : Option SymValue) → reference_of (option_map (value_of_sym r) it) ≡ option_map (referred r) (reference it)
  reference_value None = refl
  reference_value (Some (Int t)) = refl
  reference_value (Some Null) = refl
  reference_value (Some (Obj n)) = refl
  reference_value (Some (Literal n)) = refl
  reference_value (Some (New n)) = refl
  reference_value (Some (Loc n)) = refl

  -- the values of a stack
  abbrev V : List SymValue → List Value
  V stack = values_of_sym r stack

  -- ---- one operand

  abbrev pub top_reference : List SymValue → SymValue → Taken Reference
  top_reference stack value = record { it = referred r value; rest = V (drop 1 stack) }

  pub one_reference_is : (stack : List SymValue) → a_reference (V stack) ≡ option_map (top_reference stack) (one_reference stack)
  one_reference_is [] = refl
  one_reference_is (value ∷ stack) = ap (option_map (taken (V (value ∷ stack)))) (reference_value (Some value)) ∙ go (reference (Some value)) where
    go : (it : Option SymValue) → option_map (taken (V (value ∷ stack))) (option_map (referred r) it) ≡ option_map (top_reference (value ∷ stack)) it
    go None = refl
    go (Some v) = refl

  -- ---- two operands, the lower one a reference

  abbrev pub top_of_stack : {A B : Type 0} → (A → B) → List SymValue → A → Taken B
  top_of_stack g stack value = record { it = g value; rest = V (drop 1 stack) }

  abbrev pub pair_below : {A B : Type 0} → (A → B) → List SymValue → SymValue × A → Taken (Reference × B)
  pair_below g stack pair = record { it = (referred r pair.0, g pair.1); rest = V (drop 2 stack) }

  -- below one that was taken
  pub below_is : {A B : Type 0} (g : A → B) (top : Option A) (stack : List SymValue)
      → option_and_then (behind_it a_reference) (option_map (top_of_stack g stack) top)
      ≡ option_map (pair_below g stack) (option_and_then (λ (value : A). option_map (λ (object : SymValue). (object, value)) (reference (slice_get stack 1))) top)
  below_is g None stack = refl
  below_is {A} {B} g (Some value) stack = go stack where
    with_top : Taken Reference → Taken (Reference × B)
    with_top t = record { it = (t.it, g value); rest = t.rest }

    paired : (top : SymValue) (rest : List SymValue) (it : Option SymValue) → option_map with_top (option_map (top_reference rest) it)
        ≡ option_map (pair_below g (top ∷ rest)) (option_map (λ (object : SymValue). (object, value)) it)
    paired top rest None = refl
    paired top rest (Some v) = refl

    go : (stack : List SymValue) → behind_it a_reference (top_of_stack g stack value) ≡ option_map (pair_below g stack) (option_map (λ (object : SymValue). (object, value)) (reference (slice_get stack 1)))
    go [] = refl
    go (top ∷ rest) = ap (option_map with_top) (one_reference_is rest) ∙ paired top rest (one_reference rest)

  pub two_references_are : (stack : List SymValue) → two_of (V stack) ≡ option_map (pair_below (referred r) stack) (two_references stack)
  two_references_are stack = ap (option_and_then (behind_it a_reference)) (one_reference_is stack) ∙ below_is (referred r) (reference (slice_get stack 0)) stack

-- ---- a value that is kept

-- what a field of the type keeps of a value of its kind: of an int in a boolean one the low bit
abbrev pub kept_value : JType → Value → Value
kept_value types.Bool (IntValue z) = IntValue (word_and z (pos 1))
kept_value _ value = value

module _ (r : Reading) (type : JType) where
  abbrev pub kept_of : SymValue → Value
  kept_of value = kept_value type (value_of_sym r value)

  -- the value for a field of the type
  pub value_kept : (it : Option SymValue) → option_and_then (kept type) (option_map (value_of_sym r) it) ≡ option_map kept_of (of_kind type it)
  value_kept = go type where
    go : (type : JType) (it : Option SymValue) → option_and_then (kept type) (option_map (value_of_sym r) it) ≡ option_map (λ (value : SymValue). kept_value type (value_of_sym r value)) (of_kind type it)
    go types.Bool None = refl
    go types.Bool (Some (Int t)) = refl
    go types.Bool (Some _) = refl
    go types.Int None = refl
    go types.Int (Some (Int t)) = refl
    go types.Int (Some _) = refl
    go (types.Class name) None = refl
    go (types.Class name) (Some (Int t)) = refl
    go (types.Class name) (Some _) = refl
    go (types.Array component) None = refl
    go (types.Array component) (Some (Int t)) = refl
    go (types.Array component) (Some _) = refl
    go _ None = refl
    go _ (Some (Int t)) = refl
    go _ (Some _) = refl

  value_is : (stack : List SymValue) → a_value_for type (values_of_sym r stack) ≡ option_map (λ (value : SymValue). record { it = kept_of value; rest = values_of_sym r (drop 1 stack) }) (of_kind type (slice_get stack 0))
  value_is [] = ap (option_map (taken [])) (value_kept None) ∙ go (of_kind type None) where
    go : (it : Option SymValue) → option_map (taken []) (option_map kept_of it) ≡ option_map (λ (value : SymValue). record { it = kept_of value; rest = [] }) it
    go None = refl
    go (Some v) = refl
  value_is (top ∷ stack) = ap (option_map (taken (values_of_sym r (top ∷ stack)))) (value_kept (Some top)) ∙ go (of_kind type (Some top)) where
    go : (it : Option SymValue) → option_map (taken (values_of_sym r (top ∷ stack))) (option_map kept_of it) ≡ option_map (λ (value : SymValue). record { it = kept_of value; rest = values_of_sym r stack }) it
    go None = refl
    go (Some v) = refl

  -- an object and a value for a field of the type
  pub object_and_value_are : (stack : List SymValue) → an_object_and_value type (values_of_sym r stack) ≡ option_map (pair_below r kept_of stack) (object_and_value type stack)
  object_and_value_are stack = ap (option_and_then (behind_it a_reference)) (value_is stack) ∙ below_is r kept_of (of_kind type (slice_get stack 0)) stack
