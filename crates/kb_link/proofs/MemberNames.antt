-- Members by their names and types: whether types are the same, and the number of the method that a class declares.
use Rattle.std.proofs.Common.{◌≡◌, ℕ, zero, suc, Bool, true, false, ◌==◌, ◌&&◌, List, [], ◌∷◌, Option, Some, None, IfSome, IfNone, slice_get, refl, sym, ap, subst, ◌∙◌, true≢false}
use Rattle.std.specs.Str.{bytes_eq}
use Rattle.std.proofs.lemmas.Bool.Decides.{Decides-eqb}
use Rattle.std.proofs.lemmas.Slice.Eq.{bytes_eq-Decides}
use Rattle.kb_names.specs.Shape.{Base, bool_base, byte_base, char_base, short_base, int_base, long_base, float_base, double_base, class_base}
use Rattle.kb_names.specs.Types.{shape_of, arrays_of}
use Rattle.kb_names.specs.declared.types.JType.{JType}
use Rattle.kb_names.specs.declared.types.MethodType.{MethodType}
use Rattle.kb_names.proofs.ShapeLaws.{arrays_of-shape_of}
use Rattle.kb_class.specs.Class.{Class}
pub use Rattle.kb_numbers.proofs.PlaceLaws.{place_there, place_nowhere}
use Rattle.kb_classes.specs.World.{methods_in}
use Rattle.kb_link.specs.Members.{base_key, type_key, same_type, same_types, same_result, same_kind, is_method, declared_method}
use Rattle.kb_classes.specs.Rules.{HaveOwnMethods}
use Rattle.kb_link.specs.Tables.{IsNumberOf}
use Rattle.kb_classes.proofs.MethodNumbers.{stands_in, one_id}

-- ---- tests

pub both_true : (a b : Bool) → (a && b) ≡ true → (a ≡ true) × (b ≡ true)
both_true true true e = (refl, refl)
both_true true false e = absurd (true≢false (sym e))
both_true false b e = absurd (true≢false (sym e))

pub and_true : (a b : Bool) → a ≡ true → b ≡ true → (a && b) ≡ true
and_true a b e f = rw (e, f) refl

-- ---- types

abbrev base_of_key : List ℕ → Base
base_of_key [] = bool_base
base_of_key (zero ∷ name) = bool_base
base_of_key (suc zero ∷ name) = byte_base
base_of_key (suc (suc zero) ∷ name) = char_base
base_of_key (suc (suc (suc zero)) ∷ name) = short_base
base_of_key (suc (suc (suc (suc zero))) ∷ name) = int_base
base_of_key (suc (suc (suc (suc (suc zero)))) ∷ name) = long_base
base_of_key (suc (suc (suc (suc (suc (suc zero))))) ∷ name) = float_base
base_of_key (suc (suc (suc (suc (suc (suc (suc zero)))))) ∷ name) = double_base
base_of_key (suc (suc (suc (suc (suc (suc (suc (suc number))))))) ∷ name) = class_base name

base_back : (base : Base) → base_of_key (base_key base) ≡ base
base_back bool_base = refl
base_back byte_base = refl
base_back char_base = refl
base_back short_base = refl
base_back int_base = refl
base_back long_base = refl
base_back float_base = refl
base_back double_base = refl
base_back (class_base name) = refl

abbrev type_of_key : List ℕ → JType
type_of_key [] = arrays_of 0 bool_base
type_of_key (dims ∷ key) = arrays_of dims (base_of_key key)

type_back : (type : JType) → type_of_key (type_key type) ≡ type
type_back type = ap (arrays_of (shape_of type).dims) (base_back (shape_of type).base) ∙ arrays_of-shape_of type

pub type_is : (one other : JType) → same_type one other ≡ true → one ≡ other
type_is one other e = sym (type_back one) ∙ ap type_of_key ((bytes_eq-Decides (type_key one) (type_key other)).0 e) ∙ type_back other

pub type_self : (type : JType) → same_type type type ≡ true
type_self type = (bytes_eq-Decides (type_key type) (type_key type)).1 refl

types_are : (ones others : List JType) → same_types ones others ≡ true → ones ≡ others
types_are [] [] e = refl
types_are [] (other ∷ others) e = absurd (true≢false (sym e))
types_are (one ∷ ones) [] e = absurd (true≢false (sym e))
types_are (one ∷ ones) (other ∷ others) e =
    let both = both_true (same_type one other) (same_types ones others) e in
    let first : one ≡ other = type_is one other both.0 in
    let rest : ones ≡ others = types_are ones others both.1 in
    λ i. first i ∷ rest i

types_self : (types : List JType) → same_types types types ≡ true
types_self [] = refl
types_self (type ∷ types) = and_true (same_type type type) (same_types types types) (type_self type) (types_self types)

result_is : (one other : Option JType) → same_result one other ≡ true → one ≡ other
result_is None None e = refl
result_is None (Some other) e = absurd (true≢false (sym e))
result_is (Some one) None e = absurd (true≢false (sym e))
result_is (Some one) (Some other) e = ap (λ (t : JType). Some t) (type_is one other e)

result_self : (result : Option JType) → same_result result result ≡ true
result_self None = refl
result_self (Some type) = type_self type

pub kind_is : (one other : MethodType) → same_kind one other ≡ true → one ≡ other
kind_is one other e =
    let both = both_true (same_types one.params other.params) (same_result one.result other.result) e in
    let params : one.params ≡ other.params = types_are one.params other.params both.0 in
    let result : one.result ≡ other.result = result_is one.result other.result both.1 in
    λ i. record { params = params i; result = result i }

pub kind_self : (kind : MethodType) → same_kind kind kind ≡ true
kind_self kind = and_true (same_types kind.params kind.params) (same_result kind.result kind.result) (types_self kind.params) (result_self kind.result)

-- ---- the number of a method

module _ (classes : List Class) (own : HaveOwnMethods classes) (class : ℕ) (name : List ℕ) (kind : MethodType) where
  -- it is that of a method of the class
  pub declared_is : (id : ℕ) → declared_method classes class name kind ≡ Some id → IsNumberOf classes class name kind id
  declared_is id at =
      let found = place_there (is_method class name kind) (methods_in classes) id at in
      let method = found.0 in
      let outer = both_true ((method.class.0 == class) && bytes_eq method.name name) (same_kind method.kind kind) found.2 in
      let inner = both_true (method.class.0 == class) (bytes_eq method.name name) outer.0 in
      let number : method.class.0 ≡ class = (Decides-eqb method.class.0 class).0 inner.0 in
      let stands = stands_in classes id method found.1 in
      let numbers : stands.number ≡ class = sym (own.numbered stands.number stands.class method stands.class_is (stands.place, stands.there)) ∙ number in
      record {
        declaring = stands.class;
        class_is = ap (λ (n : ℕ). slice_get classes n) (sym numbers) ∙ stands.class_is;
        place = stands.place;
        stands = record { method = method; there = stands.there; named = (bytes_eq-Decides method.name name).0 inner.1; typed = kind_is method.kind kind outer.1 };
        there = found.1;
      }

  is_such : (id : ℕ) (is : IsNumberOf classes class name kind id) → is_method class name kind is.stands.method ≡ true
  is_such id is =
      let method = is.stands.method in
      let number : method.class.0 ≡ class = own.numbered class is.declaring method is.class_is (is.place, is.stands.there) in
      let numbers : (method.class.0 == class) ≡ true = (Decides-eqb method.class.0 class).1 number in
      let names : bytes_eq method.name name ≡ true = (bytes_eq-Decides method.name name).1 is.stands.named in
      let types : same_kind method.kind kind ≡ true = subst (λ (k : MethodType). same_kind k kind ≡ true) (sym is.stands.typed) (kind_self kind) in
      and_true ((method.class.0 == class) && bytes_eq method.name name) (same_kind method.kind kind) (and_true (method.class.0 == class) (bytes_eq method.name name) numbers names) types

  -- a method of the class has it
  pub declared_there : (id : ℕ) → IsNumberOf classes class name kind id → declared_method classes class name kind ≡ Some id
  declared_there id is = go (declared_method classes class name kind) refl where
    go : (o : Option ℕ) → declared_method classes class name kind ≡ o → declared_method classes class name kind ≡ Some id
    go None none = absurd (place_nowhere (is_method class name kind) (methods_in classes) id is.stands.method none is.there (is_such id is))
    go (Some found) some =
        let other = declared_is found some in
        let owner : (n : ℕ) (k : IsNumberOf classes class name kind n) → k.stands.method.class.0 ≡ class = λ n k. own.numbered class k.declaring k.stands.method k.class_is (k.place, k.stands.there) in
        let same : found ≡ id = one_id classes found id other.stands.method is.stands.method own other.there is.there (owner found other ∙ sym (owner id is))
        (other.stands.named ∙ sym is.stands.named) (other.stands.typed ∙ sym is.stands.typed) in
        some ∙ ap (λ (n : ℕ). Some n) same

  -- what is told is that number
  pub declared_told : (told : Option ℕ) → IfSome told (IsNumberOf classes class name kind) → IfNone told ((id : ℕ) → IsNumberOf classes class name kind id → ⊥)
      → told ≡ declared_method classes class name kind
  declared_told (Some id) found none = sym (declared_there id found)
  declared_told None found none = go (declared_method classes class name kind) refl where
    go : (o : Option ℕ) → declared_method classes class name kind ≡ o → None ≡ declared_method classes class name kind
    go None is = sym is
    go (Some id) is = absurd (none id (declared_is id is))
