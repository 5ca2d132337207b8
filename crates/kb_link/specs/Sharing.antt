-- Methods of a package that a superclass in another package declares too, class by class.
use Rattle.std.specs.Prelude.{◌≡◌, ℕ, Bool, true, false, not, List, drop, filter, Option, Some, None, slice_get}
use Rattle.std.specs.Option.{option_and_then, option_map_or}
use Rattle.std.specs.Str.{bytes_eq}
use Rattle.kb_class.specs.declared.members.MethodInfo.{MethodInfo}
use Rattle.kb_class.specs.Class.{Class}
use Rattle.kb_class.specs.Naming.{Has}
use Rattle.kb_numbers.specs.declared.pairs.Pair.{Pair}
use Rattle.kb_numbers.specs.Members.{MemberNumbers, method_place}
use Rattle.kb_classes.specs.declared.refusal.LinkRefusal.{LinkRefusal}
use Rattle.kb_classes.specs.declared.refusal.LinkRefusal.TheVariants as refusals
use Rattle.kb_classes.specs.Rules.{IsFirst}
use Rattle.kb_classes.specs.Split.{package_of, is_of_package}

-- whether the class of that number stands in another package than the class of the name
abbrev pub stands_elsewhere : List ℕ → Option Class → Bool
stands_elsewhere name None = false
stands_elsewhere name (Some class) = not (bytes_eq (package_of class.name) (package_of name))

abbrev pub is_elsewhere : List Class → List ℕ → ℕ → Bool
is_elsewhere classes name number = stands_elsewhere name (slice_get classes number)

-- the superclasses on a chain that stand in another package than the class of the name
abbrev pub elsewhere_above : List Class → List ℕ → List ℕ → List ℕ
elsewhere_above classes name chain = filter (is_elsewhere classes name) (drop 1 chain)

-- one of these methods is one of its package, and has the name and type of the method
pub record SharesOwn (methods : List MethodInfo) (method : MethodInfo) : Type 0 where
  pub other : MethodInfo
  pub declared : Has methods other
  pub of_package : is_of_package other ≡ true
  pub name : other.name ≡ method.name
  pub kind : other.kind ≡ method.kind

-- the class of that number declares such a method
pub record SharesMethod (classes : List Class) (method : MethodInfo) (number : ℕ) : Type 0 where
  pub class : Class
  pub class_is : slice_get classes number ≡ Some class
  pub shares : SharesOwn class.methods method

-- one of these classes declares such a method
abbrev pub SharesAbove : List Class → List ℕ → MethodInfo → Type 0
SharesAbove classes numbers method = (number : ℕ) × Has numbers number × SharesMethod classes method number

-- the method is one of its package, and one of these classes declares such a method too
pub record IsShared (classes : List Class) (numbers : List ℕ) (method : MethodInfo) : Type 0 where
  pub of_package : is_of_package method ≡ true
  pub above : SharesAbove classes numbers method

-- whether the method at a place, if there is one, is one of its package
abbrev pub shares_at : List MethodInfo → Option ℕ → Bool
shares_at methods place = option_map_or is_of_package (option_and_then (slice_get methods) place) false

-- whether the class of a number declares a method of that pair which is one of its package
abbrev pub shares_in : List Class → List MemberNumbers → Pair → ℕ → Bool
shares_in classes numbers pair number =
    option_map_or (λ (class : Class). shares_at class.methods (method_place numbers number pair)) (slice_get classes number) false

-- The first method of the class that a class above it in another package shares, unless memory ran out.
abbrev pub StopsAtShared : List Class → Class → List ℕ → LinkRefusal → Type 0
StopsAtShared classes class chain (refusals.SplitPackage name method) =
    (name ≡ class.name) × (first : MethodInfo) × (first.name ≡ method) × IsFirst (IsShared classes (elsewhere_above classes class.name chain)) class.methods first
StopsAtShared classes class chain refusals.NoMemory = Unit {0}
StopsAtShared classes class chain _ = ⊥
