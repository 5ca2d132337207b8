-- The classes of a world: those that are given, which have files, and behind them those of the platform.
use Rattle.std.proofs.Common.{◌≡◌, ℕ, zero, suc, ◌+◌, ◌⊎◌, inl, inr, List, [], ◌∷◌, length, Some, IsSome, slice_get, refl, sym, ap, subst, ◌∙◌, arith}
use Rattle.kb_class.specs.Class.{Class}
use Rattle.kb_class.specs.Naming.{Has}
use Rattle.kb_class.specs.Platform.{PlatformClass, IsPlatform, platform_table}
use Rattle.kb_class.proofs.Lists.{all_has, has_first, has_later}
use Rattle.kb_link.specs.Links.{ArePlatform, HasFile, HavePlatform}
use Rattle.kb_classes.specs.Rules.{HaveDifferentNames}
use Rattle.kb_classes.specs.World.{number_in}
use Rattle.kb_classes.proofs.MethodNumbers.{get_behind, get_either, number_of_named}
use Rattle.kb_test_laws.proofs.PlatformTable.{IsTableName}

-- the class with that number is a row of the table
pub record IsRow (number : ℕ) (class : Class) : Type 0 where
  pub row : PlatformClass
  pub in_table : Has platform_table row
  pub is : IsPlatform number row class

-- ---- a table and its classes

-- the class at a place is a row of the table
pub row_of : (first : ℕ) (table : List PlatformClass) (classes : List Class) (place : ℕ) (class : Class) → ArePlatform first table classes → slice_get classes place ≡ Some class
    → (row : PlatformClass) × Has table row × IsPlatform (first + place) row class
row_of first table [] place class are at = absurd cc
row_of first [] (c ∷ classes) place class are at = absurd are
row_of first (row ∷ table) (c ∷ classes) zero class are at =
    let same : c ≡ class = cc in
    let sum : first ≡ first + 0 = omega arith in
    (row, has_first row table, subst (λ (k : Class). IsPlatform (first + 0) row k) same (subst (λ (n : ℕ). IsPlatform n row c) sum are.0))
row_of first (row ∷ table) (c ∷ classes) (suc place) class are at =
    let found = row_of (suc first) table classes place class are.1 at in
    let sum : suc first + place ≡ first + suc place = omega arith in
    (found.0, has_later row found.0 table found.1, subst (λ (n : ℕ). IsPlatform n found.0 class) sum found.2)

-- each row is a class
class_of_row : (first : ℕ) (table : List PlatformClass) (classes : List Class) (place : ℕ) (row : PlatformClass) → ArePlatform first table classes → slice_get table place ≡ Some row
    → (class : Class) × (slice_get classes place ≡ Some class) × IsPlatform (first + place) row class
class_of_row first [] classes place row are at = absurd cc
class_of_row first (r ∷ table) [] place row are at = absurd are
class_of_row first (r ∷ table) (class ∷ classes) zero row are at =
    let same : r ≡ row = cc in
    let sum : first ≡ first + 0 = omega arith in
    (class, refl, subst (λ (k : PlatformClass). IsPlatform (first + 0) k class) same (subst (λ (n : ℕ). IsPlatform n r class) sum are.0))
class_of_row first (r ∷ table) (class ∷ classes) (suc place) row are at =
    let found = class_of_row (suc first) table classes place row are.1 at in
    let sum : suc first + place ≡ first + suc place = omega arith in
    (found.0, found.1, subst (λ (n : ℕ). IsPlatform n row found.0) sum found.2)

-- ---- all classes

module _ (classes : List Class) (have : HavePlatform classes) where
  -- each class has a file, or is a row of the table
  pub given_or_row : (number : ℕ) (class : Class) → slice_get classes number ≡ Some class → IsSome class.file ⊎ IsRow number class
  given_or_row number class at =
      elim (get_either have.own have.platform number class (subst (λ (cs : List Class). slice_get cs number ≡ Some class) have.parts at)) [
        | inl own ↦ inl (all_has HasFile have.own class have.given (number, own))
        | inr behind ↦ inr (let found = row_of (length have.own) platform_table have.platform behind.0 class have.are_platform behind.2 in
            record { row = found.0; in_table = found.1; is = subst (λ (n : ℕ). IsPlatform n found.0 class) behind.1 found.2 })
      ]

  -- a class with the name of a row is that row
  pub named_row : HaveDifferentNames classes → (name : List ℕ) → IsTableName name → (number : ℕ) → number_in classes name ≡ Some number
      → (class : Class) × (slice_get classes number ≡ Some class) × IsRow number class
  named_row differ name is number at =
      let found = class_of_row (length have.own) platform_table have.platform is.there.0 is.row have.are_platform is.there.1 in
      let place : ℕ = length have.own + is.there.0 in
      let class_at : slice_get classes place ≡ Some found.0 = ap (λ (cs : List Class). slice_get cs place) have.parts ∙ get_behind have.own have.platform is.there.0 ∙ found.1 in
      let same : number ≡ place = number_of_named classes name number place found.0 differ at class_at (found.2.name ∙ is.named) in (
        found.0,
        subst (λ (n : ℕ). slice_get classes n ≡ Some found.0) (sym same) class_at,
        record { row = is.row; in_table = is.there; is = subst (λ (n : ℕ). IsPlatform n is.row found.0) (sym same) found.2 },
      )
