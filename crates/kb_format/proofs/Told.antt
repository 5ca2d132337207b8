-- What is told of places and members, as it is computed and as facts of the class file.
use Rattle.std.proofs.Common.{◌≡◌, ◌↔◌, inl, inr, ℕ, List, [], ◌∷◌, ◌++◌, Option, Some, None, map, refl, sym, ap, subst, ◌∙◌}
use Rattle.std.specs.List.{filter_map}
use Rattle.kb_classfile.specs.declared.file.ClassFile.{ClassFile}
use Rattle.kb_classfile.specs.declared.file.Field.{Field}
use Rattle.kb_classfile.specs.declared.file.Method.{Method as ClassMethod}
use Rattle.kb_classfile.specs.declared.file.PoolEntry.{PoolEntry}
use Rattle.kb_classfile.specs.Pool.{utf8_of}
use Rattle.kb_format.specs.declared.place.Demand.TheVariants as demands
use Rattle.kb_format.specs.declared.place.Member.{Member}
use Rattle.kb_format.specs.declared.place.Place.{Place}
use Rattle.kb_format.specs.declared.verdicts.Verdict.{Verdict}
use Rattle.kb_format.specs.Rules.{IsNoneOf, AllDiffer, field_of, member_of, HasAllowedNames, HasDescriptors, HasDifferentMembers}
use Rattle.kb_format.specs.Places.{name_in_entry, name_places, type_in_entry, type_places, name_of_field, name_of_method, type_of_field, type_of_method}
use Rattle.kb_format.specs.Faults.{IsFirstUnmet, IsFirstAgain, HasFieldAgain, HasMethodAgain, HasMemberAgain}
use Rattle.kb_format.specs.Verdicts.{AreVerdicts, first_unmet}
use Rattle.kb_format.specs.Members.{member_of_field, member_of_method, name_of, type_of, key_of, number_at, TellsAgain, TellsMembers, TellsTextsApart}
use Rattle.kb_format.proofs.Lists.{map_twice}
use Rattle.kb_format.proofs.Differing.{none_alike, differ_alike}
use Rattle.kb_format.proofs.FirstUnmet.{all_met, some_unmet}
use Rattle.kb_format.proofs.RuleLaws.{names_allowed, types_right}

-- ---- names and descriptors

module _ (file : ClassFile) (fields methods : List Member) (fields_are : fields ≡ map member_of_field file.fields) (methods_are : methods ≡ map member_of_method file.methods) where
  abbrev pub names : List PoolEntry → List Place
  names pool = filter_map name_in_entry pool ++ (map name_of fields ++ map name_of methods)

  abbrev pub types : List PoolEntry → List Place
  types pool = filter_map type_in_entry pool ++ (map (type_of demands.FieldType) fields ++ map (type_of demands.MethodType) methods)

  module _ (pool : List PoolEntry) (pool_is : pool ≡ file.pool) where
    names_are : names pool ≡ name_places file
    names_are =
        let one : map name_of fields ≡ map name_of_field file.fields = ap (map name_of) fields_are ∙ map_twice member_of_field name_of file.fields in
        let other : map name_of methods ≡ map name_of_method file.methods = ap (map name_of) methods_are ∙ map_twice member_of_method name_of file.methods in
        rw (one, other, pool_is) refl

    types_are : types pool ≡ type_places file
    types_are =
        let one : map (type_of demands.FieldType) fields ≡ map type_of_field file.fields = ap (map (type_of demands.FieldType)) fields_are ∙ map_twice member_of_field (type_of demands.FieldType) file.fields in
        let other : map (type_of demands.MethodType) methods ≡ map type_of_method file.methods = ap (map (type_of demands.MethodType)) methods_are ∙ map_twice member_of_method (type_of demands.MethodType) file.methods in
        rw (one, other, pool_is) refl

    module _ (verdicts slice : List Verdict) (slice_is : slice ≡ verdicts) (known : AreVerdicts pool verdicts) where
      here : AreVerdicts file.pool verdicts
      here = subst (λ (p : List PoolEntry). AreVerdicts p verdicts) pool_is known

      pub bad_name : (number : ℕ) → Some number ≡ first_unmet slice (names pool) → IsFirstUnmet file.pool (name_places file) number
      bad_name number e = some_unmet file.pool verdicts here (name_places file) number (rw (← names_are, ← slice_is) (sym e))

      pub good_names : None ≡ first_unmet slice (names pool) → HasAllowedNames file
      good_names e = names_allowed file (all_met file.pool verdicts here (name_places file) (rw (← names_are, ← slice_is) (sym e)))

      pub bad_type : (number : ℕ) → Some number ≡ first_unmet slice (types pool) → IsFirstUnmet file.pool (type_places file) number
      bad_type number e = some_unmet file.pool verdicts here (type_places file) number (rw (← types_are, ← slice_is) (sym e))

      pub good_types : None ≡ first_unmet slice (types pool) → HasDescriptors file
      good_types e = types_right file (all_met file.pool verdicts here (type_places file) (rw (← types_are, ← slice_is) (sym e)))

-- ---- members

-- a list of what is made of items, parted before them
pub record Parted {A B : Type 0} (f : A → B) (xs : List A) (before : List B) (m : B) : Type 0 where
  pub front : List A
  pub item : A
  pub back : List A
  pub parts : xs ≡ front ++ item ∷ back
  pub fronts : map f front ≡ before
  pub is : f item ≡ m

parted_made : {A B : Type 0} (f : A → B) (xs : List A) (before : List B) (m : B) (after : List B) → map f xs ≡ before ++ m ∷ after → Parted f xs before m
parted_made f [] [] m after e = absurd cc
parted_made f [] (b ∷ before) m after e = absurd cc
parted_made f (x ∷ xs) [] m after e = record { front = []; item = x; back = xs; parts = refl; fronts = refl; is = let first : f x ≡ m = cc in first }
parted_made {A} {B} f (x ∷ xs) (b ∷ before) m after e =
    let first : f x ≡ b = cc in
    let later : map f xs ≡ before ++ m ∷ after = cc in
    let p = parted_made f xs before m after later in
    record { front = x ∷ p.front; item = p.item; back = p.back; parts = ap (λ (t : List A). x ∷ t) p.parts; fronts = ap (λ (t : List B). f x ∷ t) p.fronts ∙ ap (λ (z : B). z ∷ before) first; is = p.is }

-- the first of the items that is there again
pub record Again {A B : Type 0} (f : A → Member) (key : A → B) (xs : List A) (m : Member) : Type 0 where
  pub item : A
  pub first : IsFirstAgain key xs item
  pub is : f item ≡ m

module _ {A B : Type 0} (numbers : List (Option ℕ)) (f : A → Member) (key : A → B) (alike : (x y : A) → (key_of numbers (f x) ≡ key_of numbers (f y)) ↔ (key x ≡ key y)) where
  abbrev made : A → Option ℕ × Option ℕ
  made x = key_of numbers (f x)

  pub made_differ : (xs : List A) → AllDiffer (map (key_of numbers) (map f xs)) → AllDiffer (map key xs)
  made_differ xs differ = differ_alike made key alike xs (subst AllDiffer (map_twice f (key_of numbers) xs) differ)

  pub made_again : (xs : List A) (m : Member) → IsFirstAgain (key_of numbers) (map f xs) m → Again f key xs m
  made_again xs m first =
      let p = parted_made f xs first.before m first.after first.parts in
      let keys : map (key_of numbers) first.before ≡ map made p.front = ap (map (key_of numbers)) (sym p.fronts) ∙ map_twice f (key_of numbers) p.front in
      let same : made p.item ≡ key_of numbers m = ap (key_of numbers) p.is in
      let unlike : IsNoneOf (map key p.front) (key p.item) → ⊥ =
      λ none. first.again (subst (λ (k : Option ℕ × Option ℕ). IsNoneOf (map (key_of numbers) first.before) k) same (subst (λ (ks : List (Option ℕ × Option ℕ)). IsNoneOf ks (made p.item)) (sym keys)
      (none_alike key made (λ x y. ((alike x y).1, (alike x y).0)) p.front p.item none))) in
      record {
        item = p.item;
        first = record { before = p.front; after = p.back; parts = p.parts; differ = differ_alike made key alike p.front (subst AllDiffer keys first.differ); again = unlike };
        is = p.is;
      }

pairs_alike : {A B : Type 0} (a b c d : A) (p q r s : B) → (a ≡ c) ↔ (p ≡ r) → (b ≡ d) ↔ (q ≡ s) → (◌≡◌ {A = A × A} (a, b) (c, d)) ↔ (◌≡◌ {A = B × B} (p, q) (r, s))
pairs_alike {A} {B} a b c d p q r s one other = (
  (λ e. rw (one.0 (ap (λ (t : A × A). t.0) e), other.0 (ap (λ (t : A × A). t.1) e)) refl),
  (λ e. rw (one.1 (ap (λ (t : B × B). t.0) e), other.1 (ap (λ (t : B × B). t.1) e)) refl),
)

module _ (file : ClassFile) (pool : List PoolEntry) (pool_is : pool ≡ file.pool) (all numbers : List (Option ℕ)) (all_are : numbers ≡ all) (known : TellsTextsApart pool all) where
  apart : TellsTextsApart file.pool numbers
  apart = subst (λ (p : List PoolEntry). TellsTextsApart p numbers) pool_is (subst (λ (ns : List (Option ℕ)). TellsTextsApart pool ns) (sym all_are) known)

  fields_alike : (x y : Field) → (key_of numbers (member_of_field x) ≡ key_of numbers (member_of_field y)) ↔ (field_of file x ≡ field_of file y)
  fields_alike x y =
      pairs_alike (number_at numbers x.name) (number_at numbers x.kind) (number_at numbers y.name) (number_at numbers y.kind)
      (utf8_of file x.name) (utf8_of file x.kind) (utf8_of file y.name) (utf8_of file y.kind) (apart x.name y.name) (apart x.kind y.kind)

  methods_alike : (x y : ClassMethod) → (key_of numbers (member_of_method x) ≡ key_of numbers (member_of_method y)) ↔ (member_of file x ≡ member_of file y)
  methods_alike x y =
      pairs_alike (number_at numbers x.name) (number_at numbers x.kind) (number_at numbers y.name) (number_at numbers y.kind)
      (utf8_of file x.name) (utf8_of file x.kind) (utf8_of file y.name) (utf8_of file y.kind) (apart x.name y.name) (apart x.kind y.kind)

  field_again : (number : ℕ) → TellsAgain numbers (map member_of_field file.fields) (Some number) → HasFieldAgain file number
  field_again number (m, first, named) =
      let a = made_again numbers member_of_field (field_of file) fields_alike file.fields m first in
      (a.item, a.first, named ∙ ap (λ (member : Member). member.name) (sym a.is))

  method_again : (number : ℕ) → TellsAgain numbers (map member_of_method file.methods) (Some number) → HasMethodAgain file number
  method_again number (m, first, named) =
      let a = made_again numbers member_of_method (member_of file) methods_alike file.methods m first in
      (a.item, a.first, named ∙ ap (λ (member : Member). member.name) (sym a.is))

  two_of : (number : ℕ) → TellsMembers numbers (map member_of_field file.fields) (map member_of_method file.methods) (Some number) → HasMemberAgain file number
  two_of number (inl again) = inl (field_again number again)
  two_of number (inr both) = inr (made_differ numbers member_of_field (field_of file) fields_alike file.fields both.0, method_again number both.1)

  pub two_members : (fields methods : List Member) → fields ≡ map member_of_field file.fields → methods ≡ map member_of_method file.methods → (number : ℕ) → TellsMembers numbers fields methods (Some number) → HasMemberAgain file number
  two_members fields methods fields_are methods_are number told = two_of number (rw (← fields_are, ← methods_are) told)

  pub different_members : (fields methods : List Member) → fields ≡ map member_of_field file.fields → methods ≡ map member_of_method file.methods → TellsMembers numbers fields methods None → HasDifferentMembers file
  different_members fields methods fields_are methods_are told = record {
    fields = made_differ numbers member_of_field (field_of file) fields_alike file.fields (subst (λ (ms : List Member). AllDiffer (map (key_of numbers) ms)) fields_are told.0);
    methods = made_differ numbers member_of_method (member_of file) methods_alike file.methods (subst (λ (ms : List Member). AllDiffer (map (key_of numbers) ms)) methods_are told.1);
  }
