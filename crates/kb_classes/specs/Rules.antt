-- The rules that the classes of a world keep together (JVMS 8 sections 4.1, 5.3.5 and 5.4), and the first that one breaks.
use Rattle.std.specs.Prelude.{◌≡◌, ℕ, ◌<◌, Bool, true, ◌==◌, not, bit_and, List, ◌∷◌, ◌++◌, map, take, Some, None, IfSome, slice_get}
use Rattle.std.specs.List.{AllByRecursion, flat_map}
use Rattle.kb_order.specs.Order.{HasNoCircle, StandsOnCircle}
use Rattle.kb_class.specs.Class.{Class}
use Rattle.kb_class.specs.Naming.{Has}
use Rattle.kb_class.specs.declared.members.FieldInfo.{FieldInfo}
use Rattle.kb_class.specs.declared.members.MethodCode.{MethodCode}
use Rattle.kb_class.specs.declared.members.MethodInfo.{MethodInfo}
use Rattle.kb_code.specs.Listing.{Begins, HasRisingKeys, IsInRange, targets_of}
use Rattle.kb_class.specs.Loading.{IsWhole}
use Rattle.kb_classes.specs.declared.claim.ClaimKind.{ClaimKind}
use Rattle.kb_classes.specs.declared.claim.ClaimKind.TheVariants.{Parent, Interface}
use Rattle.kb_classes.specs.World.{number_in, methods_in}
use Rattle.kb_classes.specs.Subtypes.{Claim, claims_of, super_names, direct_supers}

-- x is the first of the list that is such
pub record IsFirst {A : Type 0} (Is : A → Type 0) (xs : List A) (x : A) : Type 0 where
  pub before : List A
  pub after : List A
  pub parts : xs ≡ before ++ x ∷ after
  pub others : AllByRecursion (λ y. Is y → ⊥) before
  pub such : Is x

-- none of the list is such
abbrev pub IsNoneSuch : {A : Type 0} → (A → Type 0) → List A → Type 0
IsNoneSuch Is xs = AllByRecursion (λ x. Is x → ⊥) xs

-- ---- names

abbrev pub name_of : Class → List ℕ
name_of class = class.name

-- no two classes have one name
abbrev pub HaveDifferentNames : List Class → Type 0
HaveDifferentNames classes = (one other : ℕ) (name : List ℕ) → slice_get (map name_of classes) one ≡ Some name → slice_get (map name_of classes) other ≡ Some name → one ≡ other

-- The name of the class that is the second one of its name, and no class before it is.
pub record IsGivenTwice (classes : List Class) (name : List ℕ) : Type 0 where
  pub first : ℕ
  pub second : ℕ
  pub order : first < second
  pub at_first : slice_get (map name_of classes) first ≡ Some name
  pub at_second : slice_get (map name_of classes) second ≡ Some name
  pub before : HaveDifferentNames (take second classes)

-- ---- methods

-- where the method has code, it is that of a class file
abbrev pub HasWholeCode : MethodInfo → Type 0
HasWholeCode method = IfSome method.code IsWhole

-- Targets and handlers are where instructions begin, and the ints of each lookupswitch rise (JVMS 8 sections 4.7.3, 4.9.1 and 6.5).
pub record HasItsPlaces (code : MethodCode) : Type 0 where
  pub targets : AllByRecursion (λ item. AllByRecursion (Begins code.listing.items) (targets_of item.1)) code.listing.items
  pub ranges : AllByRecursion (IsInRange code.listing.items code.size) code.handlers
  pub keys : AllByRecursion (λ item. HasRisingKeys item.1) code.listing.items

-- where the method has code, that has its places
abbrev pub HasPlacedCode : MethodInfo → Type 0
HasPlacedCode method = IfSome method.code HasItsPlaces

-- Each method has the number of its class and whole code, if it has code, and no class declares two of one name and type.
pub record HaveOwnMethods (classes : List Class) : Type 0 where
  pub numbered : (number : ℕ) (class : Class) (method : MethodInfo) → slice_get classes number ≡ Some class → Has class.methods method → method.class.0 ≡ number
  pub differ : (class : Class) (one other : ℕ) (method second : MethodInfo) → Has classes class → slice_get class.methods one ≡ Some method
      → slice_get class.methods other ≡ Some second → method.name ≡ second.name → method.kind ≡ second.kind → one ≡ other
  pub whole : AllByRecursion HasWholeCode (methods_in classes)
  pub placed : AllByRecursion HasPlacedCode (methods_in classes)

-- No class declares two fields of one name and type.
abbrev pub HaveDifferentFields : List Class → Type 0
HaveDifferentFields classes =
    (class : Class) (one other : ℕ) (field second : FieldInfo) → Has classes class → slice_get class.fields one ≡ Some field
    → slice_get class.fields other ≡ Some second → field.name ≡ second.name → field.kind ≡ second.kind → one ≡ other

-- ---- superclasses and interfaces

-- the names of superclasses and interfaces, class by class, that of the superclass first
abbrev pub all_super_names : List Class → List (List ℕ)
all_super_names classes = flat_map super_names classes

-- no class of the world has the name
abbrev pub IsMissing : List Class → List ℕ → Type 0
IsMissing classes name = number_in classes name ≡ None

abbrev pub HaveSupers : List Class → Type 0
HaveSupers classes = IsNoneSuch (IsMissing classes) (all_super_names classes)

-- ---- circles

-- the class of that number is one of its own superclasses and interfaces
abbrev pub IsOnCircle : List Class → ℕ → Type 0
IsOnCircle classes number = StandsOnCircle (direct_supers classes) number

-- the name of the first class that stands on a circle
pub record IsFirstClassOnCircle (classes : List Class) (name : List ℕ) : Type 0 where
  pub number : ℕ
  pub named : slice_get (map name_of classes) number ≡ Some name
  pub on_circle : IsOnCircle classes number
  pub first : (earlier : ℕ) → earlier < number → IsOnCircle classes earlier → ⊥

abbrev pub HaveNoCircle : List Class → Type 0
HaveNoCircle classes = HasNoCircle (direct_supers classes)

-- ---- what a superclass and an interface must be

-- class by class, that of the superclass first
abbrev pub all_claims : List Class → List Claim
all_claims classes = flat_map claims_of classes

-- ACC_INTERFACE and ACC_FINAL (JVMS 8 table 4.1-A)
abbrev pub is_interface : Class → Bool
is_interface class = not (bit_and class.access 0x0200 == 0)

abbrev pub is_final_or_interface : Class → Bool
is_final_or_interface class = not (bit_and class.access 0x0210 == 0)

-- the class of that name
abbrev pub ClassNamed : List Class → List ℕ → Class → Type 0
ClassNamed classes name class = (number : ℕ) × (number_in classes name ≡ Some number) × (slice_get classes number ≡ Some class)

-- whether the class may not be that for another one: a superclass that is final or an interface, or an interface that is none
abbrev pub is_bad_for : ClaimKind → Class → Bool
is_bad_for Parent class = is_final_or_interface class
is_bad_for Interface class = not (is_interface class)

abbrev pub IsBad : List Class → Claim → Type 0
IsBad classes claim = (class : Class) × ClassNamed classes claim.name class × (is_bad_for claim.kind class ≡ true)

abbrev pub HaveGoodSupers : List Class → Type 0
HaveGoodSupers classes = IsNoneSuch (IsBad classes) (all_claims classes)

-- the name of the first bad superclass or interface
pub record IsFirstBad (classes : List Class) (name : List ℕ) : Type 0 where
  pub claim : Claim
  pub named : claim.name ≡ name
  pub first : IsFirst (IsBad classes) (all_claims classes) claim
