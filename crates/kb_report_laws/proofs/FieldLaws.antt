-- The slots of a class are told apart by their texts.
use Rattle.std.proofs.Common.{◌≡◌, ◌≢◌, ℕ, zero, suc, ◌+◌, ◌<◌, ◌≤◌, Bool, true, false, cond, List, [], ◌∷◌, ◌++◌, length, reverse, Option, Some, None, refl, sym, ap, ◌∙◌, arith, subst}
use Rattle.std.specs.Prelude.{slice_get, slice_index_or, count_by}
use Rattle.std.specs.List.{flat_map, AllByRecursion}
use Rattle.std.specs.Option.{option_map_or}
use Rattle.std.specs.Str.{bytes_eq}
use Rattle.std.proofs.lemmas.Option.{same_Some}
use Rattle.std.proofs.lemmas.List.Sums.{sum_by-cons}
use Rattle.std.proofs.lemmas.List.{reverse-append}
use Rattle.kb_order.specs.Order.{IsAbove}
use Rattle.kb_class.specs.Class.{Class}
use Rattle.kb_class.specs.Naming.{Has}
use Rattle.kb_class.specs.declared.members.FieldInfo.{FieldInfo}
use Rattle.kb_classes.specs.World.{World, number_in, parent_in}
use Rattle.kb_link.specs.Links.{IsLinked}
use Rattle.kb_classes.specs.Rules.{HaveDifferentFields, HaveNoCircle}
use Rattle.kb_classes.specs.Slots.{Declared, has_slot, slot_of, numbered, slots_among, own_slots_there, own_slots_at, slots_of}
use Rattle.kb_classes.specs.Subtypes.{direct_supers, AreChains}
use Rattle.kb_classes.specs.declared.slots.FieldSlot.{FieldSlot}
use Rattle.kb_link.proofs.Above.{supers_complete, direct_many, parent_above}
use Rattle.kb_classes.proofs.Named.{number_inside}
use Rattle.kb_link.proofs.Loaded.{there_below}
use Rattle.kb_semantics.specs.Values.{slots_of_class}

-- ---- fields that are one

abbrev pub IsSame : Declared → Declared → Type 0
IsSame one other = (one.class ≡ other.class) × (one.field.name ≡ other.field.name) × (one.field.kind ≡ other.field.kind)

back : (one other : Declared) → IsSame one other → IsSame other one
back one other same = (sym same.0, sym same.1, sym same.2)

abbrev NoneSame : Declared → List Declared → Type 0
NoneSame one [] = Unit {0}
NoneSame one (other ∷ others) = (IsSame one other → ⊥) × NoneSame one others

abbrev AllDiffer : List Declared → Type 0
AllDiffer [] = Unit {0}
AllDiffer (one ∷ others) = NoneSame one others × AllDiffer others

none_at : (one other : Declared) (others : List Declared) (place : ℕ) → NoneSame one others → slice_get others place ≡ Some other → IsSame one other → ⊥
none_at one other [] place none at same = absurd cc
none_at one other (x ∷ xs) zero none at same = none.0 (subst (IsSame one) (sym (same_Some x other at)) same)
none_at one other (x ∷ xs) (suc place) none at same = none_at one other xs place none.1 at same

pub same_at : (all : List Declared) → AllDiffer all → (i j : ℕ) (one other : Declared) → slice_get all i ≡ Some one → slice_get all j ≡ Some other → IsSame one other → i ≡ j
same_at [] differ i j one other p q same = absurd cc
same_at (x ∷ xs) differ zero zero one other p q same = refl
same_at (x ∷ xs) differ zero (suc j) one other p q same =
    absurd (none_at x other xs j differ.0 q (subst (λ (d : Declared). IsSame d other) (sym (same_Some x one p)) same))
same_at (x ∷ xs) differ (suc i) zero one other p q same =
    absurd (none_at x one xs i differ.0 p (back one x (subst (IsSame one) (sym (same_Some x other q)) same)))
same_at (x ∷ xs) differ (suc i) (suc j) one other p q same = ap suc (same_at xs differ.1 i j one other p q same)

none_++ : (one : Declared) (xs ys : List Declared) → NoneSame one xs → NoneSame one ys → NoneSame one (xs ++ ys)
none_++ one [] ys p q = q
none_++ one (x ∷ xs) ys p q = (p.0, none_++ one xs ys p.1 q)

abbrev AreApart : List Declared → List Declared → Type 0
AreApart [] ys = Unit {0}
AreApart (x ∷ xs) ys = NoneSame x ys × AreApart xs ys

differ_++ : (xs ys : List Declared) → AllDiffer xs → AllDiffer ys → AreApart xs ys → AllDiffer (xs ++ ys)
differ_++ [] ys p q apart = q
differ_++ (x ∷ xs) ys p q apart = (none_++ x xs ys p.0 apart.0, differ_++ xs ys p.1 q apart.1)

-- ---- the fields of one class

abbrev FieldNone : FieldInfo → List FieldInfo → Type 0
FieldNone field [] = Unit {0}
FieldNone field (other ∷ others) = (field.name ≡ other.name → field.kind ≡ other.kind → ⊥) × FieldNone field others

abbrev FieldsDiffer : List FieldInfo → Type 0
FieldsDiffer [] = Unit {0}
FieldsDiffer (field ∷ others) = FieldNone field others × FieldsDiffer others

abbrev declared : ℕ → FieldInfo → Declared
declared number field = record { class = number; field = field }

none_among : (number : ℕ) (field : FieldInfo) (fields : List FieldInfo) → FieldNone field fields → NoneSame (declared number field) (slots_among number fields)
none_among number field [] none = tt
none_among number field (x ∷ xs) none = go (has_slot x) refl (none_among number field xs none.1)
  where
    go : (b : Bool) → has_slot x ≡ b → NoneSame (declared number field) (slots_among number xs) → NoneSame (declared number field) (slots_among number (x ∷ xs))
    go true e rest = rw e ((λ same. none.0 same.1 same.2), rest)
    go false e rest = rw e rest

differ_among : (number : ℕ) (fields : List FieldInfo) → FieldsDiffer fields → AllDiffer (slots_among number fields)
differ_among number [] differ = tt
differ_among number (x ∷ xs) differ = go (has_slot x) refl (differ_among number xs differ.1)
  where
    go : (b : Bool) → has_slot x ≡ b → AllDiffer (slots_among number xs) → AllDiffer (slots_among number (x ∷ xs))
    go true e rest = rw e (none_among number x xs differ.0, rest)
    go false e rest = rw e rest

-- from the places of fields
field_none : (field : FieldInfo) (others : List FieldInfo)
    → ((place : ℕ) (other : FieldInfo) → slice_get others place ≡ Some other → field.name ≡ other.name → field.kind ≡ other.kind → ⊥) → FieldNone field others
field_none field [] none = tt
field_none field (x ∷ xs) none = (none zero x refl, field_none field xs (λ place other at. none (suc place) other at))

abbrev OnePlace : List FieldInfo → Type 0
OnePlace fields = (one other : ℕ) (field second : FieldInfo) → slice_get fields one ≡ Some field → slice_get fields other ≡ Some second
    → field.name ≡ second.name → field.kind ≡ second.kind → one ≡ other

fields_differ : (fields : List FieldInfo) → OnePlace fields → FieldsDiffer fields
fields_differ [] place = tt
fields_differ (x ∷ xs) place = (
  field_none x xs (λ at other there name kind. let same : zero ≡ suc at = place zero (suc at) x other refl there name kind in omega (arith, same)),
  fields_differ xs (λ one other field second p q name kind. let same : suc one ≡ suc other = place (suc one) (suc other) field second p q name kind in omega (arith, same)),
)

-- ---- the fields of classes with different numbers

abbrev NotIn : ℕ → List ℕ → Type 0
NotIn number [] = Unit {0}
NotIn number (other ∷ others) = (number ≢ other) × NotIn number others

abbrev NumbersDiffer : List ℕ → Type 0
NumbersDiffer [] = Unit {0}
NumbersDiffer (number ∷ others) = NotIn number others × NumbersDiffer others

abbrev AreOf : ℕ → List Declared → Type 0
AreOf number [] = Unit {0}
AreOf number (one ∷ others) = (one.class ≡ number) × AreOf number others

among_of : (number : ℕ) (fields : List FieldInfo) → AreOf number (slots_among number fields)
among_of number [] = tt
among_of number (x ∷ xs) = go (has_slot x) refl (among_of number xs)
  where
    go : (b : Bool) → has_slot x ≡ b → AreOf number (slots_among number xs) → AreOf number (slots_among number (x ∷ xs))
    go true e rest = rw e (refl, rest)
    go false e rest = rw e rest

own_of : (classes : List Class) (number : ℕ) → AreOf number (own_slots_at classes number)
own_of classes number = go (slice_get classes number)
  where
    go : (o : Option Class) → AreOf number (own_slots_there number o)
    go None = tt
    go (Some class) = among_of number class.fields

none_of : (one : Declared) (number : ℕ) (others : List Declared) → AreOf number others → one.class ≢ number → NoneSame one others
none_of one number [] are ne = tt
none_of one number (x ∷ xs) are ne = ((λ same. ne (same.0 ∙ are.0)), none_of one number xs are.1 ne)

module _ (classes : List Class) where
  none_along : (one : Declared) (numbers : List ℕ) → NotIn one.class numbers → NoneSame one (flat_map (own_slots_at classes) numbers)
  none_along one [] not_in = tt
  none_along one (n ∷ ns) not_in =
      none_++ one (own_slots_at classes n) (flat_map (own_slots_at classes) ns) (none_of one n (own_slots_at classes n) (own_of classes n) not_in.0) (none_along one ns not_in.1)

  apart_along : (ones : List Declared) (number : ℕ) (numbers : List ℕ) → AreOf number ones → NotIn number numbers → AreApart ones (flat_map (own_slots_at classes) numbers)
  apart_along [] number numbers are not_in = tt
  apart_along (x ∷ xs) number numbers are not_in =
      (none_along x numbers (subst (λ (n : ℕ). NotIn n numbers) (sym are.0) not_in), apart_along xs number numbers are.1 not_in)

  own_differ : HaveDifferentFields classes → (number : ℕ) → AllDiffer (own_slots_at classes number)
  own_differ different number = go (slice_get classes number) refl
    where
      go : (o : Option Class) → slice_get classes number ≡ o → AllDiffer (own_slots_there number o)
      go None is = tt
      go (Some class) is = differ_among number class.fields (fields_differ class.fields (λ one other field second. different class one other field second (number, is)))

  pub along_differ : HaveDifferentFields classes → (numbers : List ℕ) → NumbersDiffer numbers → AllDiffer (flat_map (own_slots_at classes) numbers)
  along_differ different [] differ = tt
  along_differ different (n ∷ ns) differ =
      differ_++ (own_slots_at classes n) (flat_map (own_slots_at classes) ns) (own_differ different n) (along_differ different ns differ.1)
      (apart_along (own_slots_at classes n) n ns (own_of classes n) differ.0)

-- ---- chains of superclasses

not_in_++ : (number : ℕ) (xs ys : List ℕ) → NotIn number xs → NotIn number ys → NotIn number (xs ++ ys)
not_in_++ number [] ys p q = q
not_in_++ number (x ∷ xs) ys p q = (p.0, not_in_++ number xs ys p.1 q)

not_in_reverse : (number : ℕ) (xs : List ℕ) → NotIn number xs → NotIn number (reverse xs)
not_in_reverse number [] not_in = tt
not_in_reverse number (x ∷ xs) not_in =
    subst (NotIn number) (sym (reverse-append (x ∷ []) xs)) (not_in_++ number (reverse xs) (x ∷ []) (not_in_reverse number xs not_in.1) (not_in.0, tt))

pushed_differ : (xs : List ℕ) (number : ℕ) → NumbersDiffer xs → NotIn number xs → NumbersDiffer (xs ++ number ∷ [])
pushed_differ [] number differ not_in = (tt, tt)
pushed_differ (x ∷ xs) number differ not_in =
    (not_in_++ x xs (number ∷ []) differ.0 ((λ same. not_in.0 (sym same)), tt), pushed_differ xs number differ.1 not_in.1)

reverse_differ : (xs : List ℕ) → NumbersDiffer xs → NumbersDiffer (reverse xs)
reverse_differ [] differ = tt
reverse_differ (x ∷ xs) differ =
    subst NumbersDiffer (sym (reverse-append (x ∷ []) xs)) (pushed_differ (reverse xs) x (reverse_differ xs differ.1) (not_in_reverse x xs differ.0))

abbrev AllAbove : List (List ℕ) → ℕ → List ℕ → Type 0
AllAbove direct low [] = Unit {0}
AllAbove direct low (high ∷ highs) = IsAbove direct low high × AllAbove direct low highs

module _ (classes : List Class) (chains : List (List ℕ)) (are : AreChains classes chains) (no_circle : HaveNoCircle classes) where
  abbrev direct : List (List ℕ)
  direct = direct_supers classes

  abbrev IsGood : ℕ → List ℕ → Type 0
  IsGood number chain = NumbersDiffer chain × AllAbove direct number chain

  above_parent : (number parent : ℕ) (class : Class) (highs : List ℕ) → slice_get classes number ≡ Some class → parent_in classes class ≡ Some parent
      → AllAbove direct parent highs → NotIn number highs × AllAbove direct number highs
  above_parent number parent class [] there is above = (tt, tt)
  above_parent number parent class (high ∷ highs) there is above =
      let rest = above_parent number parent class highs there is above.1 in
      let up = parent_above classes number parent class there is in
      let none : number ≢ high = λ same. no_circle number (parent, up, subst (IsAbove direct parent) (sym same) above.0) in
      ((none, rest.0), ((parent ∷ above.0.0, (up, above.0.1)), rest.1))

  chain_is_good : (chain : List ℕ) (number : ℕ) (class : Class) → slice_get classes number ≡ Some class → slice_index_or chains number [] ≡ chain → IsGood number chain
  chain_is_good [] number class there is = (tt, tt)
  chain_is_good (first ∷ rest) number class there is = go (λ n c. chain_is_good rest n c) (parent_in classes class) refl (are.each number class there)
    where
      itself : IsAbove direct number number
      itself = ([], refl)

      go : ((n : ℕ) (c : Class) → slice_get classes n ≡ Some c → slice_index_or chains n [] ≡ rest → IsGood n rest)
          → (o : Option ℕ) → parent_in classes class ≡ o → Rattle.kb_classes.specs.Subtypes.IsChain chains number o (slice_index_or chains number []) → IsGood number (first ∷ rest)
      go again None parent chain =
          let whole : number ∷ [] ≡ first ∷ rest = sym chain ∙ is in
          subst (IsGood number) whole ((tt, tt), (itself, tt))
      go again (Some high) parent chain =
          let whole : number ∷ slice_index_or chains high [] ≡ first ∷ rest = sym chain ∙ is in
          let head : number ≡ first = cc in
          let tail : slice_index_or chains high [] ≡ rest = cc in
          let up = parent_above classes number high class there parent in
          let inside : high < length classes = subst (λ (n : ℕ). high < n) (direct_many classes) (supers_complete classes number high up) in
          let holder = there_below classes high inside in
          let good = again high holder.0 holder.1 tail in
          let above = above_parent number high class rest there parent good.1 in
          subst (λ (n : ℕ). IsGood number (n ∷ rest)) head ((above.0, good.0), (itself, above.1))

-- ---- what the slots of a class are

-- a declared field is one of the class of its number
abbrev IsDeclared : List Class → Declared → Type 0
IsDeclared classes one = (class : Class) × (slice_get classes one.class ≡ Some class) × Has class.fields one.field

declared_among : (classes : List Class) (number : ℕ) (class : Class) (fields : List FieldInfo) → slice_get classes number ≡ Some class
    → ((place : ℕ) (field : FieldInfo) → slice_get fields place ≡ Some field → Has class.fields field) → AllByRecursion (IsDeclared classes) (slots_among number fields)
declared_among classes number class [] there has = tt
declared_among classes number class (x ∷ xs) there has = go (has_slot x) refl (declared_among classes number class xs there (λ place field at. has (suc place) field at))
  where
    go : (b : Bool) → has_slot x ≡ b → AllByRecursion (IsDeclared classes) (slots_among number xs) → AllByRecursion (IsDeclared classes) (slots_among number (x ∷ xs))
    go true e rest = rw e ((class, there, has zero x refl), rest)
    go false e rest = rw e rest

declared_own : (classes : List Class) (number : ℕ) → AllByRecursion (IsDeclared classes) (own_slots_at classes number)
declared_own classes number = go (slice_get classes number) refl
  where
    go : (o : Option Class) → slice_get classes number ≡ o → AllByRecursion (IsDeclared classes) (own_slots_there number o)
    go None is = tt
    go (Some class) is = declared_among classes number class class.fields is (λ place field at. (place, at))

all_++ : {A : Type 0} (P : A → Type 0) (xs ys : List A) → AllByRecursion P xs → AllByRecursion P ys → AllByRecursion P (xs ++ ys)
all_++ P [] ys p q = q
all_++ P (x ∷ xs) ys p q = (p.0, all_++ P xs ys p.1 q)

declared_along : (classes : List Class) (numbers : List ℕ) → AllByRecursion (IsDeclared classes) (flat_map (own_slots_at classes) numbers)
declared_along classes [] = tt
declared_along classes (n ∷ ns) = all_++ (IsDeclared classes) (own_slots_at classes n) (flat_map (own_slots_at classes) ns) (declared_own classes n) (declared_along classes ns)

pub all_at : {A : Type 0} (P : A → Type 0) (xs : List A) (place : ℕ) (x : A) → AllByRecursion P xs → slice_get xs place ≡ Some x → P x
all_at P [] place x all at = absurd cc
all_at P (y ∷ ys) zero x all at = subst P (same_Some y x at) all.0
all_at P (y ∷ ys) (suc place) x all at = all_at P ys place x all.1 at

-- a slot is that of a declared field
abbrev IsSlotOf : Declared → FieldSlot → Type 0
IsSlotOf one slot = (one.class ≡ slot.class.0) × (one.field.name ≡ slot.name) × (one.field.kind ≡ slot.kind)

numbered_at : (first : ℕ) (all : List Declared) (place : ℕ) (slot : FieldSlot) → slice_get (numbered first all) place ≡ Some slot
    → (one : Declared) × (slice_get all place ≡ Some one) × IsSlotOf one slot
numbered_at first [] place slot at = absurd cc
numbered_at first (x ∷ xs) zero slot at =
    let same = same_Some (slot_of first x) slot at in
    (x, refl, (ap (λ (s : FieldSlot). s.class.0) same, ap (λ (s : FieldSlot). s.name) same, ap (λ (s : FieldSlot). s.kind) same))
numbered_at first (x ∷ xs) (suc place) slot at = numbered_at (suc first) xs place slot at

-- two slots of a class that have one class, name and type are one
pub one_slot : (world : World) → IsLinked world → (name : List ℕ) (i j : ℕ) (slot other : FieldSlot) → slice_get (slots_of_class world name) i ≡ Some slot
    → slice_get (slots_of_class world name) j ≡ Some other → slot.class.0 ≡ other.class.0 → slot.name ≡ other.name → slot.kind ≡ other.kind → i ≡ j
one_slot world linked name i j slot other p q class called kind = go (number_in world.classes name) refl p q
  where
    go : (o : Option ℕ) → number_in world.classes name ≡ o → slice_get (option_map_or (slots_of world) o []) i ≡ Some slot → slice_get (option_map_or (slots_of world) o []) j ≡ Some other → i ≡ j
    go None is p q = absurd cc
    go (Some number) is p q =
        let holder = there_below world.classes number (number_inside world.classes name number is) in
        let chain = slice_index_or world.chains number [] in
        let good = chain_is_good world.classes world.chains linked.chains linked.no_circle chain number holder.0 holder.1 refl in
        let all = flat_map (own_slots_at world.classes) (reverse chain) in
        let differ = along_differ world.classes linked.loaded.fields (reverse chain) (reverse_differ chain good.0) in
        let one = numbered_at 0 all i slot p in
        let two = numbered_at 0 all j other q in
        same_at all differ i j one.0 two.0 one.1 two.1 (one.2.0 ∙ class ∙ sym two.2.0, one.2.1 ∙ called ∙ sym two.2.1, one.2.2 ∙ kind ∙ sym two.2.2)

-- a slot is that of a field of its class
pub slot_is_declared : (world : World) (name : List ℕ) (place : ℕ) (slot : FieldSlot) → slice_get (slots_of_class world name) place ≡ Some slot
    → (class : Class) × (field : FieldInfo) × (slice_get world.classes slot.class.0 ≡ Some class) × Has class.fields field × (field.name ≡ slot.name) × (field.kind ≡ slot.kind)
slot_is_declared world name place slot at = go (number_in world.classes name) at
  where
    go : (o : Option ℕ) → slice_get (option_map_or (slots_of world) o []) place ≡ Some slot
        → (class : Class) × (field : FieldInfo) × (slice_get world.classes slot.class.0 ≡ Some class) × Has class.fields field × (field.name ≡ slot.name) × (field.kind ≡ slot.kind)
    go None at = absurd cc
    go (Some number) at =
        let all = flat_map (own_slots_at world.classes) (reverse (slice_index_or world.chains number [])) in
        let one = numbered_at 0 all place slot at in
        let declares = all_at (IsDeclared world.classes) all place one.0 (declared_along world.classes (reverse (slice_index_or world.chains number []))) one.1 in
        (declares.0, one.0.field, ap (slice_get world.classes) (sym one.2.0) ∙ declares.1, declares.2, one.2.1, one.2.2)

-- ---- fields of one name

abbrev how_many : List ℕ → List FieldInfo → ℕ
how_many name fields = count_by (λ (f : FieldInfo). bytes_eq name f.name) fields

one_counted : (name : List ℕ) (x : FieldInfo) (xs : List FieldInfo) → bytes_eq name x.name ≡ true → how_many name (x ∷ xs) ≡ 1 + how_many name xs
one_counted name x xs is = sum_by-cons (λ (f : FieldInfo). cond (bytes_eq name f.name) 1 0) x xs ∙ ap (λ (b : Bool). cond b 1 0 + how_many name xs) is

fewer_counted : (name : List ℕ) (x : FieldInfo) (xs : List FieldInfo) → how_many name xs ≤ how_many name (x ∷ xs)
fewer_counted name x xs =
    let whole = sum_by-cons (λ (f : FieldInfo). cond (bytes_eq name f.name) 1 0) x xs in
    omega (arith, whole)

counted : (name : List ℕ) (fields : List FieldInfo) (place : ℕ) (field : FieldInfo) → slice_get fields place ≡ Some field → bytes_eq name field.name ≡ true
    → 1 ≤ how_many name fields
counted name [] place field at is = absurd cc
counted name (x ∷ xs) zero field at is =
    let first : bytes_eq name x.name ≡ true = ap (λ (f : FieldInfo). bytes_eq name f.name) (same_Some x field at) ∙ is in
    omega (arith, one_counted name x xs first)
counted name (x ∷ xs) (suc place) field at is = omega (arith, counted name xs place field at is, fewer_counted name x xs)

-- where one field at most has the name, two that have it are one
pub only_one : (name : List ℕ) (fields : List FieldInfo) (i j : ℕ) (field other : FieldInfo) → slice_get fields i ≡ Some field → slice_get fields j ≡ Some other
    → bytes_eq name field.name ≡ true → bytes_eq name other.name ≡ true → how_many name fields ≤ 1 → field ≡ other
only_one name [] i j field other p q is too most = absurd cc
only_one name (x ∷ xs) zero zero field other p q is too most = sym (same_Some x field p) ∙ same_Some x other q
only_one name (x ∷ xs) zero (suc j) field other p q is too most =
    let first : bytes_eq name x.name ≡ true = ap (λ (f : FieldInfo). bytes_eq name f.name) (same_Some x field p) ∙ is in
    absurd (omega (arith, counted name xs j other q too, one_counted name x xs first, most))
only_one name (x ∷ xs) (suc i) zero field other p q is too most =
    let first : bytes_eq name x.name ≡ true = ap (λ (f : FieldInfo). bytes_eq name f.name) (same_Some x other q) ∙ too in
    absurd (omega (arith, counted name xs i field p is, one_counted name x xs first, most))
only_one name (x ∷ xs) (suc i) (suc j) field other p q is too most =
    only_one name xs i j field other p q is too (omega (arith, fewer_counted name x xs, most))
