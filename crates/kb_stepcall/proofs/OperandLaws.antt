-- The operands of a call in a state are those of the machine's call, with each symbolic value in the place of its value.
use Rattle.std.proofs.Common.{◌≡◌, ℕ, Bool, true, false, ◌&&◌, List, [], ◌∷◌, ◌++◌, length, map, drop, take, reverse, slice_get, Option, Some, None, refl, sym, ap, ◌∙◌}
use Rattle.std.specs.Option.{option_map, option_map_or}
use Rattle.std.proofs.lemmas.List.{drop-map, map-append, reverse-append, take-map}
use Rattle.std.proofs.lemmas.Option.{slice_get-map}
use Rattle.kb_heap.specs.declared.heap.Value.{Value}
use Rattle.kb_names.specs.declared.types.JType.{JType}
use Rattle.kb_names.specs.declared.types.JType.TheVariants as types
use Rattle.kb_names.specs.declared.types.MethodType.{MethodType}
use Rattle.kb_resolution.specs.Lookup.{only_where}
use Rattle.kb_semantics.specs.Instructions.{CallKind, BySelection, Special, Static, operands_of as machine_operands}
use Rattle.kb_semantics.specs.Operands.{Reference, Taken, are_of_kinds as are_kinds, reference_at as machine_reference, reference_of}
use Rattle.kb_semantics.specs.Values.{is_of_kind as is_kind}
use Rattle.kb_picture.specs.Endings.{Reading}
use Rattle.kb_frames.specs.declared.value.SymValue.{SymValue}
use Rattle.kb_frames.specs.declared.value.SymValue.TheVariants.{Int, Null}
use Rattle.kb_frames.specs.StandsFor.{value_of_sym, values_of_sym}
use Rattle.kb_ways.specs.Kept.{is_of_kind}
use Rattle.kb_ways.specs.Operands.{reference}
use Rattle.kb_stepcall.specs.Operands.{are_of_kinds, operand_types, operands_of, reference_at, topmost}
use Rattle.kb_ways.proofs.ReferenceLaws.{IsReference, reference_kind, reference_value, referred}

-- ---- lists

reversed_map : {A B : Type 0} (f : A → B) (xs : List A) → reverse (map f xs) ≡ map f (reverse xs)
reversed_map f [] = refl
reversed_map f (x ∷ xs) =
    reverse-append (f x ∷ []) (map f xs) ∙ ap (λ (l : List _). l ++ f x ∷ []) (reversed_map f xs)
    ∙ sym (ap (map f) (reverse-append (x ∷ []) xs) ∙ map-append f (reverse xs) (x ∷ []))

module _ (r : Reading) where
  abbrev V : List SymValue → List Value
  V stack = values_of_sym r stack

  pub topmost_is : (count : ℕ) (stack : List SymValue) → reverse (take count (V stack)) ≡ V (topmost count stack)
  topmost_is count stack = ap reverse (take-map (value_of_sym r) count stack) ∙ reversed_map (value_of_sym r) (take count stack)

  -- ---- kinds

  kind_is : (type : JType) (value : SymValue) → is_kind type (value_of_sym r value) ≡ is_of_kind type value
  kind_is types.Bool (Int t) = refl
  kind_is types.Bool _ = refl
  kind_is types.Int (Int t) = refl
  kind_is types.Int _ = refl
  kind_is (types.Class name) (Int t) = refl
  kind_is (types.Class name) _ = refl
  kind_is (types.Array component) (Int t) = refl
  kind_is (types.Array component) _ = refl
  kind_is _ (Int t) = refl
  kind_is _ _ = refl

  kinds_are : (kinds : List JType) (args : List SymValue) → are_kinds kinds (V args) ≡ are_of_kinds kinds args
  kinds_are [] [] = refl
  kinds_are [] (value ∷ args) = refl
  kinds_are (type ∷ kinds) [] = refl
  kinds_are (type ∷ kinds) (value ∷ args) =
      ap (λ (b : Bool). b && are_kinds kinds (V args)) (kind_is type value) ∙ ap (λ (b : Bool). is_of_kind type value && b) (kinds_are kinds args)

  -- ---- operands

  -- so many of them, with what is left below
  abbrev pub given : ℕ → List SymValue → List SymValue → Taken (List Value)
  given count stack args = record { it = V args; rest = V (drop count stack) }

  operands_for_are : (kinds : List JType) (stack : List SymValue)
      → only_where (are_kinds kinds (reverse (take (length kinds) (V stack)))) (record { it = reverse (take (length kinds) (V stack)); rest = drop (length kinds) (V stack) })
      ≡ option_map (given (length kinds) stack) (only_where (are_of_kinds kinds (topmost (length kinds) stack)) (topmost (length kinds) stack))
  operands_for_are kinds stack =
      let n : ℕ = length kinds in
      let top : List SymValue = topmost n stack in
      ap (λ (vs : List Value). only_where (are_kinds kinds vs) (record { it = vs; rest = drop n (V stack) })) (topmost_is n stack)
      ∙ ap (λ (vs : List Value). only_where (are_kinds kinds (V top)) (record { it = V top; rest = vs })) (drop-map (value_of_sym r) n stack)
      ∙ ap (λ (b : Bool). only_where b (record { it = V top; rest = V (drop n stack) })) (kinds_are kinds top)
      ∙ go (are_of_kinds kinds top) top
    where
      go : (b : Bool) (top : List SymValue) → only_where b (record { it = V top; rest = V (drop (length kinds) stack) }) ≡ option_map (given (length kinds) stack) (only_where b top)
      go true top = refl
      go false top = refl

  pub operands_are : (call : CallKind) (kind : MethodType) (stack : List SymValue)
      → machine_operands call kind (V stack) ≡ option_map (given (length (operand_types call kind)) stack) (operands_of call kind stack)
  operands_are BySelection kind stack = operands_for_are (operand_types BySelection kind) stack
  operands_are Special kind stack = operands_for_are (operand_types Special kind) stack
  operands_are Static kind stack = operands_for_are (operand_types Static kind) stack

  -- ---- the receiver and the argument

  pub reference_at_is : (args : List SymValue) (place : ℕ) → machine_reference (V args) place ≡ referred r (reference_at args place)
  reference_at_is args place =
      ap (λ (it : Option Value). option_map_or (λ (of : Reference). of) (reference_of it) None) (slice_get-map (value_of_sym r) args place)
      ∙ ap (λ (it : Option Reference). option_map_or (λ (of : Reference). of) it None) (reference_value r (slice_get args place)) ∙ go (reference (slice_get args place))
    where
      go : (it : Option SymValue) → option_map_or (λ (of : Reference). of) (option_map (referred r) it) None ≡ referred r (option_map_or (λ (value : SymValue). value) it Null)
      go None = refl
      go (Some value) = refl

pub is_reference_at : (args : List SymValue) (place : ℕ) → IsReference (reference_at args place)
is_reference_at args place = go (reference (slice_get args place)) refl where
  go : (it : Option SymValue) → reference (slice_get args place) ≡ it → IsReference (option_map_or (λ (value : SymValue). value) it Null)
  go None e = tt
  go (Some value) e = reference_kind (slice_get args place) value e
