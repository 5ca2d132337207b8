-- The members of loaded classes: each method has the number of its class, and no class declares two fields or two methods of
-- one name and type.
use Rattle.std.proofs.Common.{◌≡◌, ◌≢◌, ℕ, zero, suc, ◌+◌, inl, inr, List, [], ◌∷◌, length, map, Option, Some, None, is_some, slice_get, refl, sym, ap, subst, ◌∙◌, arith}
use Rattle.std.specs.List.{AllByRecursion, AllZip}
use Rattle.std.proofs.lemmas.Option.{same_Some, none-some, slice_get-map}
use Rattle.kb_names.specs.declared.types.MethodType.{MethodType}
use Rattle.kb_names.specs.declared.class_names.Spelling.TheVariants.{Raw}
use Rattle.kb_names.specs.Descriptors.{method_text, type_text}
use Rattle.kb_classfile.specs.declared.file.ClassFile.{ClassFile}
use Rattle.kb_classfile.specs.declared.file.Method.{Method as ClassMethod}
use Rattle.kb_classfile.specs.Pool.{utf8_of}
use Rattle.kb_code.specs.declared.listing.Listing.{Listing}
use Rattle.kb_format.specs.Rules.{IsNoneOf, AllDiffer, field_of, member_of, KeepsRules}
use Rattle.kb_class.specs.declared.given.GivenClass.{GivenClass}
use Rattle.kb_class.specs.declared.members.FieldInfo.{FieldInfo}
use Rattle.kb_class.specs.declared.members.MethodInfo.{MethodInfo}
use Rattle.kb_class.specs.Class.{Class}
use Rattle.kb_class.specs.Naming.{Has}
use Rattle.kb_class.specs.Loading.{IsFieldOf, AreMethodsOf, IsClassOf}
use Rattle.kb_class.specs.Platform.{PlatformMethod, PlatformClass, IsPlatformMethod, IsPlatform, platform_table, constructor, constructor_of_text, equals}
use Rattle.kb_classes.specs.Rules.{HaveDifferentFields, HaveOwnMethods}
use Rattle.kb_link.specs.Links.{AreLoaded, HasFile, KeepsFormat, Loads, AreClassesOf, ArePlatform}
use Rattle.kb_class.specs.Given.{AreGiven}
use Rattle.kb_classes.proofs.MethodNumbers.{get_either}
use Rattle.kb_link.proofs.WholeMethods.{whole_methods, placed_methods}

-- ---- lists without equal items

module _ {A : Type 0} where
  none_there : (xs : List A) (i : ℕ) (x : A) → IsNoneOf xs x → slice_get xs i ≡ Some x → ⊥
  none_there [] i x none at = absurd cc
  none_there (w ∷ xs) zero x none at =
      let same : x ≡ w = cc in
      none.0 same
  none_there (w ∷ xs) (suc i) x none at = none_there xs i x none.1 at

  one_place : (xs : List A) (i j : ℕ) (x : A) → AllDiffer xs → slice_get xs i ≡ Some x → slice_get xs j ≡ Some x → i ≡ j
  one_place [] i j x differ at again = absurd cc
  one_place (w ∷ xs) zero zero x differ at again = refl
  one_place (w ∷ xs) zero (suc j) x differ at again =
      let same : x ≡ w = cc in
      absurd (none_there xs j w differ.0 (again ∙ ap (λ (u : A). Some u) same))
  one_place (w ∷ xs) (suc i) zero x differ at again =
      let same : x ≡ w = cc in
      absurd (none_there xs i w differ.0 (at ∙ ap (λ (u : A). Some u) same))
  one_place (w ∷ xs) (suc i) (suc j) x differ at again = ap suc (one_place xs i j x differ.1 at again)

-- ---- what holds of the methods of one class

pub record HasOwnMethods (number : ℕ) (class : Class) : Type 0 where
  pub numbered : (method : MethodInfo) → Has class.methods method → method.class.0 ≡ number
  pub differ : (one other : ℕ) (method second : MethodInfo) → slice_get class.methods one ≡ Some method → slice_get class.methods other ≡ Some second
      → method.name ≡ second.name → method.kind ≡ second.kind → one ≡ other

-- ---- a given class

-- the method of the file at a place
record HasFileMethod (number : ℕ) (file : ClassFile) (methods : List ClassMethod) (place : ℕ) (info : MethodInfo) : Type 0 where
  method : ClassMethod
  there : slice_get methods place ≡ Some method
  class : info.class.0 ≡ number
  name : utf8_of file method.name ≡ Some info.name
  kind : utf8_of file method.kind ≡ Some (method_text Raw info.kind)

file_method : (number : ℕ) (file : ClassFile) (methods : List ClassMethod) (listings : List (Option Listing)) (infos : List MethodInfo) (place : ℕ) (info : MethodInfo)
    → AreMethodsOf number file methods listings infos → slice_get infos place ≡ Some info → HasFileMethod number file methods place info
file_method number file methods listings [] place info are at = absurd cc
file_method number file [] listings (i ∷ infos) place info are at = absurd (none listings are)
  where
    none : (ls : List (Option Listing)) → AreMethodsOf number file [] ls (i ∷ infos) → ⊥
    none [] never = never
    none (l ∷ ls) never = never
file_method number file (m ∷ methods) [] (i ∷ infos) place info are at = absurd are
file_method number file (m ∷ methods) (l ∷ listings) (i ∷ infos) zero info are at =
    let same : i ≡ info = cc in
    record {
      method = m;
      there = refl;
      class = ap (λ (k : MethodInfo). k.class.0) (sym same) ∙ are.0.class;
      name = are.0.name ∙ ap (λ (k : MethodInfo). Some k.name) same;
      kind = are.0.kind.1 ∙ ap (λ (t : List ℕ). Some t) are.0.kind.2.1 ∙ ap (λ (k : MethodInfo). Some (method_text Raw k.kind)) same;
    }
file_method number file (m ∷ methods) (l ∷ listings) (i ∷ infos) (suc place) info are at =
    let rest = file_method number file methods listings infos place info are.1 at in
    record { method = rest.method; there = rest.there; class = rest.class; name = rest.name; kind = rest.kind }

own_methods : (number : ℕ) (given : GivenClass) (class : Class) → IsClassOf number given class → KeepsRules given.file → HasOwnMethods number class
own_methods number given class is keeps = record { numbered = numbered; differ = differ }
  where
    found : (place : ℕ) (info : MethodInfo) → slice_get class.methods place ≡ Some info → HasFileMethod number given.file given.file.methods place info
    found place info at = file_method number given.file given.file.methods given.listings class.methods place info is.methods at

    numbered : (method : MethodInfo) → Has class.methods method → method.class.0 ≡ number
    numbered method has = (found has.0 method has.1).class

    member_at : (place : ℕ) (info : MethodInfo) (at : slice_get class.methods place ≡ Some info)
        → slice_get (map (member_of given.file) given.file.methods) place ≡ Some (Some info.name, Some (method_text Raw info.kind))
    member_at place info at =
        let method = found place info at in
        slice_get-map (member_of given.file) given.file.methods place ∙ rw method.there (rw (method.name, method.kind) refl)

    differ : (one other : ℕ) (method second : MethodInfo) → slice_get class.methods one ≡ Some method → slice_get class.methods other ≡ Some second
        → method.name ≡ second.name → method.kind ≡ second.kind → one ≡ other
    differ one other method second at again name kind =
        one_place (map (member_of given.file) given.file.methods) one other (Some second.name, Some (method_text Raw second.kind)) keeps.members.methods
        (member_at one method at ∙ (λ i. Some (Some (name i), Some (method_text Raw (kind i))))) (member_at other second again)

-- ---- a class of the platform

abbrev method_key : PlatformMethod → List ℕ × MethodType
method_key method = (method.name, method.kind)

zip_get : (number : ℕ) (platform : List PlatformMethod) (infos : List MethodInfo) (place : ℕ) (info : MethodInfo) → AllZip (IsPlatformMethod number) platform infos → slice_get infos place ≡ Some info
    → (row : PlatformMethod) × (slice_get platform place ≡ Some row) × IsPlatformMethod number row info
zip_get number platform [] place info each at = absurd cc
zip_get number [] (i ∷ infos) place info each at = absurd each
zip_get number (p ∷ platform) (i ∷ infos) zero info each at =
    let same : i ≡ info = cc in
    (p, refl, subst (λ (k : MethodInfo). IsPlatformMethod number p k) same each.0)
zip_get number (p ∷ platform) (i ∷ infos) (suc place) info each at = zip_get number platform infos place info each.1 at

platform_methods : (number : ℕ) (platform : PlatformClass) (class : Class) → IsPlatform number platform class → AllDiffer (map method_key platform.methods) → HasOwnMethods number class
platform_methods number platform class is all = record { numbered = numbered; differ = differ }
  where
    numbered : (method : MethodInfo) → Has class.methods method → method.class.0 ≡ number
    numbered method has = (zip_get number platform.methods class.methods has.0 method is.methods has.1).2.class

    key_at : (place : ℕ) (info : MethodInfo) → slice_get class.methods place ≡ Some info → slice_get (map method_key platform.methods) place ≡ Some (info.name, info.kind)
    key_at place info at =
        let row = zip_get number platform.methods class.methods place info is.methods at in
        slice_get-map method_key platform.methods place ∙ rw row.1 (λ i. Some (sym row.2.name i, sym row.2.kind i))

    differ : (one other : ℕ) (method second : MethodInfo) → slice_get class.methods one ≡ Some method → slice_get class.methods other ≡ Some second
        → method.name ≡ second.name → method.kind ≡ second.kind → one ≡ other
    differ one other method second at again name kind =
        one_place (map method_key platform.methods) one other (second.name, second.kind) all (key_at one method at ∙ (λ i. Some (name i, kind i))) (key_at other second again)

-- no class of the table has two methods of one name and type
abbrev HasKeys : PlatformClass → Type 0
HasKeys platform = AllDiffer (map method_key platform.methods)

object_keys : AllDiffer (map method_key (constructor ∷ equals ∷ []))
object_keys = ((differs, tt), (tt, tt))
  where
    differs : method_key constructor ≢ method_key equals
    differs same =
        let bytes : 60 ≡ 101 = same_Some 60 101 (ap (λ (key : List ℕ × MethodType). slice_get key.0 0) same) in
        omega (arith, bytes)

thrown_keys : AllDiffer (map method_key (constructor ∷ constructor_of_text ∷ []))
thrown_keys = ((differs, tt), (tt, tt))
  where
    differs : method_key constructor ≢ method_key constructor_of_text
    differs same =
        let counts : 0 ≡ 1 = ap (λ (key : List ℕ × MethodType). length key.1.params) same in
        omega (arith, counts)

table_differs : AllByRecursion HasKeys platform_table
unfolding platform_table
table_differs = (object_keys, (tt, (thrown_keys, (thrown_keys, (thrown_keys, (thrown_keys, (thrown_keys, (thrown_keys, (thrown_keys, (thrown_keys, (thrown_keys, (thrown_keys, (thrown_keys, (thrown_keys, (thrown_keys, (thrown_keys, (thrown_keys, (tt, (tt, (tt, tt))))))))))))))))))))

-- ---- all classes

own_at : (number : ℕ) (given : List GivenClass) (classes : List Class) (place : ℕ) (class : Class) → AreClassesOf number given classes → AllByRecursion KeepsFormat given → slice_get classes place ≡ Some class
    → HasOwnMethods (number + place) class
own_at number given [] place class are keep at = absurd cc
own_at number [] (c ∷ classes) place class are keep at = absurd are
own_at number (g ∷ given) (c ∷ classes) zero class are keep at =
    let same : c ≡ class = cc in
    let sum : number ≡ number + 0 = omega arith in
    subst (λ (k : Class). HasOwnMethods (number + 0) k) same (subst (λ (n : ℕ). HasOwnMethods n c) sum (own_methods number g c are.0 keep.0))
own_at number (g ∷ given) (c ∷ classes) (suc place) class are keep at =
    let sum : suc number + place ≡ number + suc place = omega arith in
    subst (λ (n : ℕ). HasOwnMethods n class) sum (own_at (suc number) given classes place class are.1 keep.1 at)

platform_at : (number : ℕ) (table : List PlatformClass) (classes : List Class) (place : ℕ) (class : Class) → ArePlatform number table classes → AllByRecursion HasKeys table → slice_get classes place ≡ Some class
    → HasOwnMethods (number + place) class
platform_at number table [] place class are keys at = absurd cc
platform_at number [] (c ∷ classes) place class are keys at = absurd are
platform_at number (p ∷ table) (c ∷ classes) zero class are keys at =
    let same : c ≡ class = cc in
    let sum : number ≡ number + 0 = omega arith in
    subst (λ (k : Class). HasOwnMethods (number + 0) k) same (subst (λ (n : ℕ). HasOwnMethods n c) sum (platform_methods number p c are.0 keys.0))
platform_at number (p ∷ table) (c ∷ classes) (suc place) class are keys at =
    let sum : suc number + place ≡ number + suc place = omega arith in
    subst (λ (n : ℕ). HasOwnMethods n class) sum (platform_at (suc number) table classes place class are.1 keys.1 at)

classes_length : (number : ℕ) (given : List GivenClass) (classes : List Class) → AreClassesOf number given classes → length classes ≡ length given
classes_length number [] [] are = refl
classes_length number [] (c ∷ classes) are = absurd are
classes_length number (g ∷ given) [] are = absurd are
classes_length number (g ∷ given) (c ∷ classes) are = ap suc (classes_length (suc number) given classes are.1)

-- what holds of each loaded class
pub have_own_methods : (given : List GivenClass) (classes : List Class) → AreGiven given → Loads given classes → HaveOwnMethods classes
have_own_methods given classes are loads = record {
  numbered = λ number class method there has. (own number class there).numbered method has;
  differ = λ class one other method second has at again name kind. (own has.0 class has.1).differ one other method second at again name kind;
  whole = whole_methods given classes are loads;
  placed = placed_methods given classes are loads;
}
  where
    own : (number : ℕ) (class : Class) → slice_get classes number ≡ Some class → HasOwnMethods number class
    own number class there =
        elim (get_either loads.own loads.platform number class (subst (λ (cs : List Class). slice_get cs number ≡ Some class) loads.parts there)) [
          | inl here ↦ (let sum : 0 + number ≡ number = omega arith in subst (λ (n : ℕ). HasOwnMethods n class) sum (own_at 0 given loads.own number class loads.are_own loads.format here))
          | inr h ↦ (let sum : length given + h.0 ≡ number = omega (arith, h.1, classes_length 0 given loads.own loads.are_own) in
              subst (λ (n : ℕ). HasOwnMethods n class) sum (platform_at (length given) platform_table loads.platform h.0 class loads.are_platform table_differs h.2))
        ]

-- ---- fields

zip_there : {A B : Type 0} (P : A → B → Type 0) (xs : List A) (ys : List B) (place : ℕ) (y : B) → AllZip P xs ys → slice_get ys place ≡ Some y → (x : A) × (slice_get xs place ≡ Some x) × P x y
zip_there P xs [] place y each at = absurd cc
zip_there P [] (w ∷ ys) place y each at = absurd each
zip_there P (x ∷ xs) (w ∷ ys) zero y each at =
    let same : w ≡ y = cc in
    (x, refl, subst (P x) same each.0)
zip_there P (x ∷ xs) (w ∷ ys) (suc place) y each at = zip_there P xs ys place y each.1 at

abbrev HasDifferentFields : Class → Type 0
HasDifferentFields class =
    (one other : ℕ) (field second : FieldInfo) → slice_get class.fields one ≡ Some field → slice_get class.fields other ≡ Some second → field.name ≡ second.name → field.kind ≡ second.kind → one ≡ other

own_fields : (number : ℕ) (given : GivenClass) (class : Class) → IsClassOf number given class → KeepsRules given.file → HasDifferentFields class
own_fields number given class is keeps one other field second at again name kind =
    one_place (map (field_of given.file) given.file.fields) one other (Some second.name, Some (type_text Raw second.kind)) keeps.members.fields
    (key_at one field at ∙ (λ i. Some (Some (name i), Some (type_text Raw (kind i))))) (key_at other second again)
  where
    key_at : (place : ℕ) (info : FieldInfo) → slice_get class.fields place ≡ Some info → slice_get (map (field_of given.file) given.file.fields) place ≡ Some (Some info.name, Some (type_text Raw info.kind))
    key_at place info there =
        let found = zip_there (IsFieldOf given.file) given.file.fields class.fields place info is.fields there in
        let text : utf8_of given.file found.0.kind ≡ Some (type_text Raw info.kind) = found.2.kind.1 ∙ ap (λ (t : List ℕ). Some t) found.2.kind.2.1 in
        slice_get-map (field_of given.file) given.file.fields place ∙ rw found.1 (rw (found.2.name, text) refl)

given_fields : (number : ℕ) (given : List GivenClass) (classes : List Class) (place : ℕ) (class : Class) → AreClassesOf number given classes → AllByRecursion KeepsFormat given → slice_get classes place ≡ Some class
    → HasDifferentFields class
given_fields number given [] place class are keep at = absurd cc
given_fields number [] (c ∷ classes) place class are keep at = absurd are
given_fields number (g ∷ given) (c ∷ classes) zero class are keep at =
    let same : c ≡ class = cc in
    subst HasDifferentFields same (own_fields number g c are.0 keep.0)
given_fields number (g ∷ given) (c ∷ classes) (suc place) class are keep at = given_fields (suc number) given classes place class are.1 keep.1 at

no_fields : (number : ℕ) (table : List PlatformClass) (classes : List Class) (place : ℕ) (class : Class) → ArePlatform number table classes → slice_get classes place ≡ Some class → HasDifferentFields class
no_fields number table [] place class are at = absurd cc
no_fields number [] (c ∷ classes) place class are at = absurd are
no_fields number (p ∷ table) (c ∷ classes) zero class are at = λ one other field second there again name kind.
    let same : c ≡ class = cc in
    let none : slice_get class.fields one ≡ None = ap (λ (k : Class). slice_get k.fields one) (sym same) ∙ ap (λ (fs : List FieldInfo). slice_get fs one) are.0.fields in
    absurd (none-some field (sym none ∙ there))
no_fields number (p ∷ table) (c ∷ classes) (suc place) class are at = no_fields (suc number) table classes place class are.1 at

different_fields : (given : List GivenClass) (classes : List Class) → Loads given classes → HaveDifferentFields classes
different_fields given classes loads = λ class one other field second has at again name kind. (fields has.0 class has.1) one other field second at again name kind where
  fields : (number : ℕ) (class : Class) → slice_get classes number ≡ Some class → HasDifferentFields class
  fields number class there =
      elim (get_either loads.own loads.platform number class (subst (λ (cs : List Class). slice_get cs number ≡ Some class) loads.parts there)) [
        | inl here ↦ given_fields 0 given loads.own number class loads.are_own loads.format here
        | inr h ↦ no_fields (length given) platform_table loads.platform h.0 class loads.are_platform h.2
      ]

-- ---- classes with files

have_files : (number : ℕ) (given : List GivenClass) (classes : List Class) → AreClassesOf number given classes → AllByRecursion HasFile classes
have_files number [] [] are = tt
have_files number [] (c ∷ classes) are = absurd are
have_files number (g ∷ given) [] are = tt
have_files number (g ∷ given) (c ∷ classes) are = (ap is_some are.0.file, have_files (suc number) given classes are.1)

-- what holds of loaded classes
pub are_loaded : (given : List GivenClass) (classes : List Class) → AreGiven given → Loads given classes → AreLoaded classes
are_loaded given classes are loads = record {
  methods = have_own_methods given classes are loads;
  fields = different_fields given classes loads;
  platform = record {
    own = loads.own;
    platform = loads.platform;
    parts = loads.parts;
    given = have_files 0 given loads.own loads.are_own;
    are_platform = subst (λ (n : ℕ). ArePlatform n platform_table loads.platform) (sym (classes_length 0 given loads.own loads.are_own)) loads.are_platform;
  };
}
