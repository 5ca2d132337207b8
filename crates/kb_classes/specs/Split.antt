-- Methods that can be selected only inside a package (JVMS 8 section 5.4.5): two packages may not declare the same one along a
-- chain of superclasses (own rule, in place of overriding across packages).
use Rattle.std.specs.Prelude.{◌≡◌, ◌≢◌, ℕ, suc, Bool, true, false, ◌==◌, ◌&&◌, not, bit_and, List, [], ◌∷◌, ◌++◌, map, drop, Some, slice_get, slice_index_or, cond}
use Rattle.std.specs.List.{list_any}
use Rattle.kb_class.specs.declared.members.MethodInfo.{MethodInfo}
use Rattle.kb_class.specs.Class.{Class}
use Rattle.kb_class.specs.Naming.{Has}
use Rattle.kb_classes.specs.Rules.{IsFirst, IsNoneSuch}

-- the package of a class: its name up to the last slash
abbrev pub package_of : List ℕ → List ℕ
package_of [] = []
package_of (byte ∷ bytes) = cond (list_any (λ b. b == 47) (byte ∷ bytes)) (byte ∷ package_of bytes) []

-- whether a name is that of an initialiser or the like: it begins with `<` (JVMS 8 section 2.9)
abbrev pub is_special : List ℕ → Bool
is_special [] = false
is_special (byte ∷ bytes) = byte == 60

-- whether the method can be selected, and in its package alone: ACC_PUBLIC, ACC_PRIVATE, ACC_PROTECTED and ACC_STATIC are not
-- set (JVMS 8 table 4.6-A)
abbrev pub is_of_package : MethodInfo → Bool
is_of_package method = (bit_and method.access 0x000f == 0) && not (is_special method.name)

-- a method with the name of its class
pub record Placed : Type 0 where
  pub class : ℕ
  pub own : List ℕ
  pub method : MethodInfo

-- the methods of all classes, in order
abbrev pub placed_from : ℕ → List Class → List Placed
placed_from number [] = []
placed_from number (class ∷ classes) =
    map (λ method. record { class = number; own = class.name; method = method }) class.methods ++ placed_from (suc number) classes

-- The method is one of its package, and a superclass in another package declares the same one, which is one of that package.
pub record IsSplit (classes : List Class) (chains : List (List ℕ)) (placed : Placed) : Type 0 where
  pub of_package : is_of_package placed.method ≡ true
  pub number : ℕ
  pub above : Has (drop 1 (slice_index_or chains placed.class [])) number
  pub class : Class
  pub class_is : slice_get classes number ≡ Some class
  pub apart : package_of class.name ≢ package_of placed.own
  pub method : MethodInfo
  pub declared : Has class.methods method
  pub other_of_package : is_of_package method ≡ true
  pub name : method.name ≡ placed.method.name
  pub kind : method.kind ≡ placed.method.kind

abbrev pub HaveNoSplit : List Class → List (List ℕ) → Type 0
HaveNoSplit classes chains = IsNoneSuch (IsSplit classes chains) (placed_from 0 classes)

-- the names of the first such class and of its method
pub record IsFirstSplit (classes : List Class) (chains : List (List ℕ)) (name method : List ℕ) : Type 0 where
  pub placed : Placed
  pub class_is : placed.own ≡ name
  pub method_is : placed.method.name ≡ method
  pub first : IsFirst (IsSplit classes chains) (placed_from 0 classes) placed
