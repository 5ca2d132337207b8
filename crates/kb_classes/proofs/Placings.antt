-- A table of places for each method, in the order of their numbers.
use Rattle.std.proofs.Common.{◌≡◌, ℕ, zero, suc, ◌+◌, List, [], ◌∷◌, ◌++◌, map, take, Option, Some, None, IfSome, slice_get, refl, sym, ap, subst, ◌∙◌}
use Rattle.std.specs.Option.{option_map, option_and_then}
use Rattle.std.specs.List.{AllByRecursion, AllZip}
use Rattle.std.proofs.lemmas.Option.{slice_get-map}
use Rattle.kb_class.specs.Class.{Class}
use Rattle.kb_class.specs.declared.members.MethodInfo.{MethodInfo}
use Rattle.kb_classes.specs.declared.methods.MethodPlace.{MethodPlace}
use Rattle.kb_classes.specs.World.{methods_in}
use Rattle.kb_classes.specs.Rules.{HasWholeCode, HaveOwnMethods}
use Rattle.kb_classes.specs.Methods.{HasPlaces, method_in}
use Rattle.kb_classes.specs.Placing.{placed_at, place_in, IsPlacing, ArePlacings}
use Rattle.std.proofs.lemmas.Option.{same_Some}
use Rattle.kb_classes.proofs.Walks.{taken_next}
use Rattle.kb_classes.proofs.Places.{zip_pushed}

-- the table is that of the method that stands there
abbrev pub IsTableAt : List Class → MethodPlace → List (Option ℕ) → Type 0
IsTableAt classes at table = IsPlacing (method_in classes at) table

all_there : {A : Type 0} (P : A → Type 0) (xs : List A) (i : ℕ) → AllByRecursion P xs → IfSome (slice_get xs i) P
all_there P [] i all = tt
all_there P (x ∷ xs) zero all = all.0
all_there P (x ∷ xs) (suc i) all = all_there P xs i all.1

same_told : {A B : Type 0} (f : A → Option B) (o : Option A) (m : Option B) → option_map f o ≡ option_map (λ (b : B). Some b) m → option_and_then f o ≡ m
same_told f None None e = refl
same_told f None (Some b) e = absurd cc
same_told f (Some a) None e = absurd cc
same_told f (Some a) (Some b) e = same_Some (f a) (Some b) e

-- the method of a number is the one that stands at its place
pub method_of_place : (classes : List Class) (places : List MethodPlace) (number : ℕ) → HasPlaces classes places
    → option_and_then (method_in classes) (slice_get places number) ≡ slice_get (methods_in classes) number
method_of_place classes places number has =
    same_told (method_in classes) (slice_get places number) (slice_get (methods_in classes) number)
    (sym (slice_get-map (method_in classes) places number) ∙ ap (λ (os : List (Option MethodInfo)). slice_get os number) has ∙ slice_get-map (λ (m : MethodInfo). Some m) (methods_in classes) number)

pub whole_there : (classes : List Class) (places : List MethodPlace) (number : ℕ) (at : MethodPlace) → HasPlaces classes places → HaveOwnMethods classes → slice_get places number ≡ Some at
    → IfSome (method_in classes at) HasWholeCode
whole_there classes places number at has own there =
    let same : method_in classes at ≡ slice_get (methods_in classes) number =
    sym (ap (λ (o : Option MethodPlace). option_and_then (method_in classes) o) there) ∙ method_of_place classes places number has in
    subst (λ (o : Option MethodInfo). IfSome o HasWholeCode) (sym same) (all_there HasWholeCode (methods_in classes) number own.whole)

zip_told : (classes : List Class) (places : List MethodPlace) (tables : List (List (Option ℕ))) (number at : ℕ) → AllZip (IsTableAt classes) places tables
    → option_and_then (λ table. placed_at table at) (slice_get tables number) ≡ place_in (option_and_then (method_in classes) (slice_get places number)) at
zip_told classes [] [] number at each = refl
zip_told classes [] (t ∷ tables) number at each = absurd each
zip_told classes (p ∷ places) [] number at each = absurd each
zip_told classes (p ∷ places) (t ∷ tables) zero at each = each.0 at
zip_told classes (p ∷ places) (t ∷ tables) (suc number) at each = zip_told classes places tables number at each.1

pub are_placings : (classes : List Class) (places : List MethodPlace) (tables : List (List (Option ℕ))) → HasPlaces classes places → AllZip (IsTableAt classes) places tables
    → ArePlacings (methods_in classes) tables
are_placings classes places tables has each number at =
    zip_told classes places tables number at each ∙ ap (λ (m : Option MethodInfo). place_in m at) (method_of_place classes places number has)

pub placing_pushed : (classes : List Class) (places : List MethodPlace) (number : ℕ) (at : MethodPlace) (tables after : List (List (Option ℕ))) (table : List (Option ℕ)) → slice_get places number ≡ Some at
    → AllZip (IsTableAt classes) (take number places) tables → IsTableAt classes at table → after ≡ tables ++ table ∷ [] → AllZip (IsTableAt classes) (take (number + 1) places) after
placing_pushed classes places number at tables after table there each one is =
    let longer : AllZip (IsTableAt classes) (take number places ++ at ∷ []) (tables ++ table ∷ []) = zip_pushed (IsTableAt classes) (take number places) tables at table each one in
    let with_places : AllZip (IsTableAt classes) (take (number + 1) places) (tables ++ table ∷ []) =
    subst (λ (ps : List MethodPlace). AllZip (IsTableAt classes) ps (tables ++ table ∷ [])) (sym (taken_next places number at there)) longer in
    subst (λ (ts : List (List (Option ℕ))). AllZip (IsTableAt classes) (take (number + 1) places) ts) (sym is) with_places
