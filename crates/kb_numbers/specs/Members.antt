-- The members of a class by numbers.
use Rattle.std.specs.Prelude.{ℕ, ◌+◌, List, [], Option, Some, None, slice_get}
use Rattle.std.specs.List.{flat_map}
use Rattle.std.specs.Option.{option_map, option_and_then}
use Rattle.kb_class.specs.Class.{Class}
use Rattle.kb_class.specs.Loaded.{told_at}
use Rattle.kb_class.specs.declared.members.MethodInfo.{MethodInfo}
use Rattle.kb_numbers.specs.declared.pairs.Pair.{Pair}
use Rattle.kb_numbers.specs.declared.pairs.EntryNumbers.{EntryNumbers}
use Rattle.kb_numbers.specs.Pairs.{first_place}

-- `first` is the number of the class's first method among the methods of all classes; the methods and the fields are those that
-- it declares, in file order, and the entries those of its constant pool: None of one that names no member.
pub record MemberNumbers : Type 0 where
  pub first : ℕ
  pub methods : List Pair
  pub fields : List Pair
  pub entries : List (Option EntryNumbers)

-- ---- the classes of a world

-- the methods of all classes, in order
abbrev pub methods_of : List Class → List MethodInfo
methods_of classes = flat_map (λ (class : Class). class.methods) classes

-- their pairs
abbrev pub method_pairs : List MemberNumbers → List Pair
method_pairs classes = flat_map (λ (own : MemberNumbers). own.methods) classes

abbrev pub own_methods : Option MemberNumbers → List Pair
own_methods None = []
own_methods (Some own) = own.methods

abbrev pub own_fields : Option MemberNumbers → List Pair
own_fields None = []
own_fields (Some own) = own.fields

-- the methods, and the fields, that the class of a number declares
abbrev pub methods_at : List MemberNumbers → ℕ → List Pair
methods_at classes class = own_methods (slice_get classes class)

abbrev pub fields_at : List MemberNumbers → ℕ → List Pair
fields_at classes class = own_fields (slice_get classes class)

-- the place of the first method of that pair among those that a class declares
abbrev pub method_place : List MemberNumbers → ℕ → Pair → Option ℕ
method_place classes class pair = option_and_then (λ (own : MemberNumbers). first_place own.methods pair) (slice_get classes class)

-- its number among the methods of all classes
abbrev pub method_number : List MemberNumbers → ℕ → Pair → Option ℕ
method_number classes class pair =
    option_and_then (λ (own : MemberNumbers). option_map (λ (place : ℕ). own.first + place) (first_place own.methods pair)) (slice_get classes class)

-- the place of the first field of that pair among those that a class declares
abbrev pub field_place : List MemberNumbers → ℕ → Pair → Option ℕ
field_place classes class pair = option_and_then (λ (own : MemberNumbers). first_place own.fields pair) (slice_get classes class)

-- what an entry of a class names
abbrev pub entry_named : List MemberNumbers → ℕ → ℕ → Option EntryNumbers
entry_named classes class entry = option_and_then (λ (own : MemberNumbers). told_at own.entries entry) (slice_get classes class)
