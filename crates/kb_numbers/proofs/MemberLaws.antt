-- What numbers tell of the classes whose numbers they are.
use Rattle.std.proofs.Common.{◌≡◌, ℕ, zero, suc, ◌+◌, true, List, [], ◌∷◌, ◌++◌, length, length-append, take, Option, Some, None, slice_get, refl, sym, ap, subst, ◌∙◌, arith}
use Rattle.std.specs.List.{AllZip, flat_map}
use Rattle.std.specs.Option.{option_map, option_and_then}
use Rattle.std.proofs.lemmas.Grind.{flat_map-append}
use Rattle.std.proofs.lemmas.List.{append-nil}
use Rattle.std.proofs.lemmas.Option.{same_Some, none-some}
use Rattle.kb_names.specs.declared.types.JType.{JType}
use Rattle.kb_names.specs.declared.types.MethodType.{MethodType}
use Rattle.kb_class.specs.Class.{Class, Sought, reference_of_entry}
use Rattle.kb_class.specs.Loaded.{told_at}
use Rattle.kb_class.specs.declared.members.FieldInfo.{FieldInfo}
use Rattle.kb_class.specs.declared.members.MethodInfo.{MethodInfo}
use Rattle.kb_class.specs.declared.members.MemberKind.TheVariants as kinds
use Rattle.kb_numbers.specs.declared.numbering.Numbers.{Numbers}
use Rattle.kb_numbers.specs.declared.pairs.Pair.{Pair}
use Rattle.kb_numbers.specs.declared.pairs.EntryNumbers.{EntryNumbers}
use Rattle.kb_numbers.specs.Members.{MemberNumbers, method_pairs, methods_of, method_place, method_number, field_place, entry_named}
use Rattle.kb_numbers.specs.Numbers.{StandsFor, Names, IsMethodPair, IsFieldPair, IsNumbered, AreNumberedFrom, AreNumbered}
use Rattle.kb_numbers.specs.Pairs.{is_pair, first_place}
use Rattle.kb_numbers.proofs.NumberLaws.{same_member, same_pair, method_type, field_type}
use Rattle.kb_numbers.proofs.PlaceLaws.{place_there, place_nowhere}
use Rattle.kb_numbers.proofs.ZipLaws.{zip_both, zip_from, zip_there}

-- ---- the numbers of a class of a world

-- how many methods the classes before a number have
abbrev pub methods_before : List Class → ℕ → ℕ
methods_before classes number = length (methods_of (take number classes))

-- one class more
pub methods_next : (classes : List Class) (class : Class) → methods_of (classes ++ class ∷ []) ≡ methods_of classes ++ class.methods
methods_next classes class =
    flat_map-append (λ (c : Class). c.methods) classes (class ∷ []) ∙ ap (λ (ms : List MethodInfo). methods_of classes ++ ms) (append-nil class.methods)

pub pairs_next : (numbers : List MemberNumbers) (own : MemberNumbers) → method_pairs (numbers ++ own ∷ []) ≡ method_pairs numbers ++ own.methods
pairs_next numbers own =
    flat_map-append (λ (n : MemberNumbers). n.methods) numbers (own ∷ []) ∙ ap (λ (ps : List Pair). method_pairs numbers ++ ps) (append-nil own.methods)

pub methods_pushed : (classes : List Class) (class : Class) → length (methods_of (classes ++ class ∷ [])) ≡ length (methods_of classes) + length class.methods
methods_pushed classes class = ap (λ (ms : List MethodInfo). length ms) (methods_next classes class) ∙ length-append (methods_of classes) class.methods

-- The numbers of a class.
pub record Located (texts : List (List ℕ)) (first : ℕ) (classes : List Class) (numbers : List MemberNumbers) (number : ℕ) (class : Class) : Type 0 where
  pub own : MemberNumbers
  pub there : slice_get numbers number ≡ Some own
  pub is : IsNumbered texts (first + methods_before classes number) class own

module _ (texts : List (List ℕ)) where
  pub located : (first : ℕ) (classes : List Class) (numbers : List MemberNumbers) (number : ℕ) (class : Class)
      → AreNumberedFrom texts first classes numbers → slice_get classes number ≡ Some class → Located texts first classes numbers number class
  located first [] numbers number class are at = absurd (none-some class at)
  located first (c ∷ classes) [] number class are at = absurd are
  located first (c ∷ classes) (n ∷ numbers) zero class are at =
      let same : c ≡ class = same_Some c class at in
      let none : first ≡ first + 0 = omega arith in
      record { own = n; there = refl; is = subst (λ (k : Class). IsNumbered texts (first + 0) k n) same (subst (λ (m : ℕ). IsNumbered texts m c n) none are.0) }
  located first (c ∷ classes) (n ∷ numbers) (suc number) class are at =
      let rest = located (first + length c.methods) classes numbers number class are.1 at in
      let sum : (first + length c.methods) + methods_before classes number ≡ first + length (c.methods ++ methods_of (take number classes)) =
      omega (arith, length-append c.methods (methods_of (take number classes))) in
      record { own = rest.own; there = rest.there; is = subst (λ (m : ℕ). IsNumbered texts m class rest.own) sum rest.is }

  pub numbered_long : (first : ℕ) (classes : List Class) (numbers : List MemberNumbers) → AreNumberedFrom texts first classes numbers → length numbers ≡ length classes
  numbered_long first [] [] are = refl
  numbered_long first [] (n ∷ numbers) are = absurd are
  numbered_long first (c ∷ classes) [] are = absurd are
  numbered_long first (c ∷ classes) (n ∷ numbers) are = ap suc (numbered_long (first + length c.methods) classes numbers are.1)

  -- one class more
  pub numbered_pushed : (first : ℕ) (classes : List Class) (numbers : List MemberNumbers) (class : Class) (own : MemberNumbers)
      → AreNumberedFrom texts first classes numbers → IsNumbered texts (first + length (methods_of classes)) class own → AreNumberedFrom texts first (classes ++ class ∷ []) (numbers ++ own ∷ [])
  numbered_pushed first [] [] class own are one = (subst (λ (n : ℕ). IsNumbered texts n class own) (let e : first + 0 ≡ first = omega arith in e) one, tt)
  numbered_pushed first [] (n ∷ numbers) class own are one = absurd are
  numbered_pushed first (c ∷ classes) [] class own are one = absurd are
  numbered_pushed first (c ∷ classes) (n ∷ numbers) class own are one =
      let sum : first + length (c.methods ++ methods_of classes) ≡ (first + length c.methods) + length (methods_of classes) = omega (arith, length-append c.methods (methods_of classes)) in
      (are.0, numbered_pushed (first + length c.methods) classes numbers class own are.1 (subst (λ (m : ℕ). IsNumbered texts m class own) sum one))

  -- the pairs of all methods stand beside them
  pub pairs_beside : (first : ℕ) (classes : List Class) (numbers : List MemberNumbers) → AreNumberedFrom texts first classes numbers → AllZip (IsMethodPair texts) (methods_of classes) (method_pairs numbers)
  pairs_beside first [] [] are = tt
  pairs_beside first [] (n ∷ numbers) are = absurd are
  pairs_beside first (c ∷ classes) [] are = absurd are
  pairs_beside first (c ∷ classes) (n ∷ numbers) are =
      zip_both (IsMethodPair texts) c.methods (methods_of classes) n.methods (method_pairs numbers) are.0.numbers.each_method (pairs_beside (first + length c.methods) classes numbers are.1)

-- ---- a method by its pair

-- The method that stands at a place, with that name and type.
pub record IsMethodAt (class : Class) (place : ℕ) (name : List ℕ) (kind : MethodType) : Type 0 where
  pub method : MethodInfo
  pub there : slice_get class.methods place ≡ Some method
  pub named : method.name ≡ name
  pub typed : method.kind ≡ kind

module _ (classes : List Class) (numbers : Numbers) (are : AreNumbered classes numbers) (number : ℕ) (class : Class) (class_is : slice_get classes number ≡ Some class) where
  -- its numbers
  pub own_numbers : Located numbers.texts 0 classes numbers.classes.items number class
  own_numbers = located numbers.texts 0 classes numbers.classes.items number class are.each class_is

  module _ (pair : Pair) (name : List ℕ) (kind : MethodType) (stands : StandsFor numbers.texts pair name (kinds.Method kind)) where
    here : method_place numbers.classes.items number pair ≡ first_place own_numbers.own.methods pair
    here = ap (λ (o : Option MemberNumbers). option_and_then (λ (n : MemberNumbers). first_place n.methods pair) o) own_numbers.there

    -- the method at the place that the table has
    pub method_here : (place : ℕ) → method_place numbers.classes.items number pair ≡ Some place → IsMethodAt class place name kind
    method_here place at =
        let found = place_there (λ (other : Pair). is_pair other pair) own_numbers.own.methods place (sym here ∙ at) in
        let beside = zip_from (IsMethodPair numbers.texts) class.methods own_numbers.own.methods place found.0 own_numbers.is.numbers.each_method found.1 in
        let same = same_member numbers.texts found.0 pair beside.0.name name (kinds.Method beside.0.kind) (kinds.Method kind) beside.2 stands found.2 in
        record { method = beside.0; there = beside.1; named = same.0; typed = method_type beside.0.kind kind same.1 }

    -- where it has none, the class has no such method
    pub no_method_here : method_place numbers.classes.items number pair ≡ None → (place : ℕ) → IsMethodAt class place name kind → ⊥
    no_method_here none place is =
        let beside = zip_there (IsMethodPair numbers.texts) class.methods own_numbers.own.methods place is.method own_numbers.is.numbers.each_method is.there in
        let same = same_pair numbers.texts are.distinct beside.0 pair is.method.name name (kinds.Method is.method.kind) (kinds.Method kind) beside.2 stands is.named (ap (λ (k : MethodType). kinds.Method k) is.typed) in
        place_nowhere (λ (other : Pair). is_pair other pair) own_numbers.own.methods place beside.0 (sym here ∙ none) beside.1 same

  -- what an entry of the class names
  pub entry_there : (entry : ℕ) (sought : Sought) → reference_of_entry (slice_get class.entries entry) ≡ Some sought
      → (told : EntryNumbers) × (entry_named numbers.classes.items number entry ≡ Some told) × Names numbers.texts told sought
  entry_there entry sought is =
      let found = own_numbers.is.numbers.each_entry entry sought is in
      (found.0, ap (λ (o : Option MemberNumbers). option_and_then (λ (n : MemberNumbers). told_at n.entries entry) o) own_numbers.there ∙ found.1, found.2)

  -- the number of the method is told by its place
  pub number_by_place : (pair : Pair) → method_number numbers.classes.items number pair ≡ option_map (λ (place : ℕ). methods_before classes number + place) (method_place numbers.classes.items number pair)
  number_by_place pair =
      let numbered : method_number numbers.classes.items number pair ≡ option_map (λ (place : ℕ). own_numbers.own.first + place) (first_place own_numbers.own.methods pair) =
      ap (λ (o : Option MemberNumbers). option_and_then (λ (n : MemberNumbers). option_map (λ (place : ℕ). n.first + place) (first_place n.methods pair)) o) own_numbers.there in
      let placed : method_place numbers.classes.items number pair ≡ first_place own_numbers.own.methods pair =
      ap (λ (o : Option MemberNumbers). option_and_then (λ (n : MemberNumbers). first_place n.methods pair) o) own_numbers.there in
      let first : own_numbers.own.first ≡ methods_before classes number = own_numbers.is.first_is ∙ (let e : 0 + methods_before classes number ≡ methods_before classes number = omega arith in e) in
      numbered ∙ (λ i. option_map (λ (place : ℕ). first i + place) (sym placed i))

  -- ---- a field by its pair

  module _ (pair : Pair) (name : List ℕ) (type : JType) (stands : StandsFor numbers.texts pair name (kinds.Field type)) where
    -- a field beside its own pair is such a one where the pairs are the same
    pub field_is : (field : FieldInfo) (other : Pair) → IsFieldPair numbers.texts field other → is_pair other pair ≡ true → (field.name ≡ name) × (field.kind ≡ type)
    field_is field other beside e =
        let same = same_member numbers.texts other pair field.name name (kinds.Field field.kind) (kinds.Field type) beside stands e in
        (same.0, field_type field.kind type same.1)

    pub field_same : (field : FieldInfo) (other : Pair) → IsFieldPair numbers.texts field other → field.name ≡ name → field.kind ≡ type → is_pair other pair ≡ true
    field_same field other beside named typed =
        same_pair numbers.texts are.distinct other pair field.name name (kinds.Field field.kind) (kinds.Field type) beside stands named (ap (λ (t : JType). kinds.Field t) typed)

    pub fields_here : field_place numbers.classes.items number pair ≡ first_place own_numbers.own.fields pair
    fields_here = ap (λ (o : Option MemberNumbers). option_and_then (λ (n : MemberNumbers). first_place n.fields pair) o) own_numbers.there

    pub fields_beside : AllZip (IsFieldPair numbers.texts) class.fields own_numbers.own.fields
    fields_beside = own_numbers.is.numbers.each_field
