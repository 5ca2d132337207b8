-- The texts of names, types and targets: each is that of one thing alone. Nothing is asked of a name, whose items may be any
-- numbers, nor of the dimensions of a type.
use Rattle.std.proofs.Common.{◌≡◌, ℕ, zero, suc, ◌+◌, ◌≤◌, ◌<◌, ◌/◌, ◌%◌, Bool, true, false, List, [], ◌∷◌, ◌++◌, Option, Some, None, refl, sym, ap, ◌∙◌, arith, append_assoc, append-nil}
use Rattle.std.specs.Prelude.{replicate, nat_lt, is_some, ◌==◌, ◌||◌, if◌then◌else◌}
use Rattle.std.specs.List.{flat_map}
use Rattle.std.proofs.lemmas.Bool.Decides.{nat_tests}
use Rattle.kb_grammar.proofs.WordLaws.{same_cut}
use Rattle.kb_names.specs.Shape.{Base, bool_base, byte_base, char_base, short_base, int_base, long_base, float_base, double_base, class_base}
use Rattle.kb_names.specs.Types.{shape_of, arrays_of}
use Rattle.kb_names.specs.Escapes.{is_plain, hex_digit, byte_text, name_text}
use Rattle.kb_names.specs.Descriptors.{base_text, type_text, result_text, method_text}
use Rattle.kb_names.specs.Targets.{target_text}
use Rattle.kb_names.specs.declared.class_names.Spelling.TheVariants.{Escaped}
use Rattle.kb_names.specs.declared.types.JType.{JType}
use Rattle.kb_names.specs.declared.types.Target.{Target}
use Rattle.kb_names.proofs.ShapeLaws.{arrays_of-shape_of}
use Rattle.kb_heap_words.proofs.Lacking.{name_lacks, opening, dot, semicolon}

heads : (x y : ℕ) (xs ys : List ℕ) → x ∷ xs ≡ y ∷ ys → (x ≡ y) × (xs ≡ ys)
heads x y xs ys e = (cc, cc)

-- ---- names

same_hex : (one other : ℕ) → hex_digit one ≡ hex_digit other → one ≡ other
same_hex one other e = go (nat_lt one 10) refl (nat_lt other 10) refl e
  where
    go : (s : Bool) → nat_lt one 10 ≡ s → (t : Bool) → nat_lt other 10 ≡ t → (if s then 48 + one else 55 + one) ≡ (if t then 48 + other else 55 + other) → one ≡ other
    go true p true q e = omega (arith, e)
    go true p false q e =
        let small : one < 10 = grind (arith, nat_tests, p) in
        let large : 10 ≤ other = grind (arith, nat_tests, q) in
        absurd (omega (arith, e, small, large))
    go false p true q e =
        let large : 10 ≤ one = grind (arith, nat_tests, p) in
        let small : other < 10 = grind (arith, nat_tests, q) in
        absurd (omega (arith, e, small, large))
    go false p false q e = omega (arith, e)

same_byte : (one other : ℕ) (us vs : List ℕ) → byte_text one ++ us ≡ byte_text other ++ vs → (one ≡ other) × (us ≡ vs)
same_byte one other us vs e = go (is_plain one) refl (is_plain other) refl e
  where
    go : (s : Bool) → is_plain one ≡ s → (t : Bool) → is_plain other ≡ t
        → (if s then one ∷ [] else 37 ∷ hex_digit (one / 16) ∷ hex_digit (one % 16) ∷ []) ++ us ≡ (if t then other ∷ [] else 37 ∷ hex_digit (other / 16) ∷ hex_digit (other % 16) ∷ []) ++ vs
        → (one ≡ other) × (us ≡ vs)
    go true p true q e = heads one other us vs e
    go true p false q e =
        let first : one ≡ 37 = (heads one 37 us _ e).0 in
        let escaped : is_plain one ≡ false = ap is_plain first in
        absurd cc
    go false p true q e =
        let first : other ≡ 37 = sym (heads 37 other _ vs e).0 in
        let escaped : is_plain other ≡ false = ap is_plain first in
        absurd cc
    go false p false q e =
        let high = heads (hex_digit (one / 16)) (hex_digit (other / 16)) (hex_digit (one % 16) ∷ us) (hex_digit (other % 16) ∷ vs) (heads 37 37 _ _ e).1 in
        let low = heads (hex_digit (one % 16)) (hex_digit (other % 16)) us vs high.1 in
        let quotient : one / 16 ≡ other / 16 = same_hex (one / 16) (other / 16) high.0 in
        let rest : one % 16 ≡ other % 16 = same_hex (one % 16) (other % 16) low.0 in
        (omega (arith, quotient, rest), low.1)

some_text : (byte : ℕ) (more : List ℕ) → byte_text byte ++ more ≡ [] → ⊥
some_text byte more e = go (is_plain byte) e
  where
    go : (s : Bool) → (if s then byte ∷ [] else 37 ∷ hex_digit (byte / 16) ∷ hex_digit (byte % 16) ∷ []) ++ more ≡ [] → ⊥
    go true e = cc
    go false e = cc

pub same_name : (one other : List ℕ) → name_text one ≡ name_text other → one ≡ other
same_name [] [] e = refl
same_name [] (y ∷ ys) e = absurd (some_text y (name_text ys) (sym e))
same_name (x ∷ xs) [] e = absurd (some_text x (name_text xs) e)
same_name (x ∷ xs) (y ∷ ys) e =
    let parts = same_byte x y (name_text xs) (name_text ys) e in
    let rest = same_name xs ys parts.1 in
    λ i. parts.0 i ∷ rest i

-- no name's text begins with [
pub not_bracket : (name more : List ℕ) → name_text name ≡ 91 ∷ more → ⊥
not_bracket [] more e = cc
not_bracket (b ∷ name) more e = go (is_plain b) refl e
  where
    go : (s : Bool) → is_plain b ≡ s → (if s then b ∷ [] else 37 ∷ hex_digit (b / 16) ∷ hex_digit (b % 16) ∷ []) ++ name_text name ≡ 91 ∷ more → ⊥
    go true p e =
        let first : b ≡ 91 = (heads b 91 (name_text name) more e).0 in
        let escaped : is_plain b ≡ false = ap is_plain first in
        cc
    go false p e =
        let first : 37 ≡ 91 = (heads 37 91 _ more e).0 in
        omega (arith, first)

-- ---- types: dimensions, a letter, and where it is a class its name

abbrev letter : Base → ℕ
letter bool_base = 90
letter byte_base = 66
letter char_base = 67
letter short_base = 83
letter int_base = 73
letter long_base = 74
letter float_base = 70
letter double_base = 68
letter (class_base name) = 76

abbrev class_of : Base → Option (List ℕ)
class_of bool_base = None
class_of byte_base = None
class_of char_base = None
class_of short_base = None
class_of int_base = None
class_of long_base = None
class_of float_base = None
class_of double_base = None
class_of (class_base name) = Some name

abbrev behind_letter : Option (List ℕ) → List ℕ
behind_letter None = []
behind_letter (Some name) = name_text name ++ 59 ∷ []

base_is : (base : Base) → base_text Escaped base ≡ letter base ∷ behind_letter (class_of base)
base_is bool_base = refl
base_is byte_base = refl
base_is char_base = refl
base_is short_base = refl
base_is int_base = refl
base_is long_base = refl
base_is float_base = refl
base_is double_base = refl
base_is (class_base name) = refl

abbrev base_of : ℕ → Option (List ℕ) → Base
base_of at (Some name) = class_base name
base_of at None =
    if at == 90 then bool_base
    else if at == 66 then byte_base
    else if at == 67 then char_base
    else if at == 83 then short_base
    else if at == 73 then int_base
    else if at == 74 then long_base
    else if at == 70 then float_base
    else double_base

base_back : (base : Base) → base_of (letter base) (class_of base) ≡ base
base_back bool_base = refl
base_back byte_base = refl
base_back char_base = refl
base_back short_base = refl
base_back int_base = refl
base_back long_base = refl
base_back float_base = refl
base_back double_base = refl
base_back (class_base name) = refl

class_letter : (base : Base) → is_some (class_of base) ≡ (letter base == 76)
class_letter bool_base = refl
class_letter byte_base = refl
class_letter char_base = refl
class_letter short_base = refl
class_letter int_base = refl
class_letter long_base = refl
class_letter float_base = refl
class_letter double_base = refl
class_letter (class_base name) = refl

-- how the text of a base begins
abbrev is_letter : ℕ → Bool
is_letter at = at == 90 || at == 66 || at == 67 || at == 83 || at == 73 || at == 74 || at == 70 || at == 68 || at == 76

letter_is : (base : Base) → is_letter (letter base) ≡ true
letter_is bool_base = refl
letter_is byte_base = refl
letter_is char_base = refl
letter_is short_base = refl
letter_is int_base = refl
letter_is long_base = refl
letter_is float_base = refl
letter_is double_base = refl
letter_is (class_base name) = refl

base_behind : (base : Base) (more : List ℕ) → base_text Escaped base ++ more ≡ letter base ∷ (behind_letter (class_of base) ++ more)
base_behind base more = ap (λ (text : List ℕ). text ++ more) (base_is base)

same_class : (one other : Option (List ℕ)) (us vs : List ℕ) → is_some one ≡ is_some other → behind_letter one ++ us ≡ behind_letter other ++ vs → (one ≡ other) × (us ≡ vs)
same_class None None us vs kinds e = (refl, e)
same_class None (Some name) us vs kinds e = absurd cc
same_class (Some name) None us vs kinds e = absurd cc
same_class (Some one) (Some other) us vs kinds e =
    let parts = same_cut 59 (name_text one) (name_text other) us vs (name_lacks 59 semicolon (omega arith) one) (name_lacks 59 semicolon (omega arith) other)
    (sym (append_assoc (name_text one) (59 ∷ []) us) ∙ e ∙ append_assoc (name_text other) (59 ∷ []) vs) in
    (ap (λ (name : List ℕ). Some name) (same_name one other parts.0), parts.1)

same_base : (one other : Base) (us vs : List ℕ) → base_text Escaped one ++ us ≡ base_text Escaped other ++ vs → (one ≡ other) × (us ≡ vs)
same_base one other us vs e =
    let first = heads (letter one) (letter other) (behind_letter (class_of one) ++ us) (behind_letter (class_of other) ++ vs) (sym (base_behind one us) ∙ e ∙ base_behind other vs) in
    let kinds : is_some (class_of one) ≡ is_some (class_of other) = class_letter one ∙ ap (λ (at : ℕ). at == 76) first.0 ∙ sym (class_letter other) in
    let classes = same_class (class_of one) (class_of other) us vs kinds first.1 in
    let back : base_of (letter one) (class_of one) ≡ base_of (letter other) (class_of other) = λ i. base_of (first.0 i) (classes.0 i) in
    (sym (base_back one) ∙ back ∙ base_back other, classes.1)

-- how the text of a type begins
opens_dims : (dims : ℕ) (base : Base) (first : ℕ) (us more : List ℕ) → first ∷ us ≡ (replicate dims 91 ++ base_text Escaped base) ++ more → (first == 91 || is_letter first) ≡ true
opens_dims zero base first us more e =
    let same : first ≡ letter base = (heads first (letter base) us (behind_letter (class_of base) ++ more) (e ∙ base_behind base more)).0 in
    ap (λ (at : ℕ). at == 91 || is_letter at) same ∙ opens base
  where
    opens : (base : Base) → (letter base == 91 || is_letter (letter base)) ≡ true
    opens base = or_true (letter base == 91) (is_letter (letter base)) (letter_is base)
      where
        or_true : (a b : Bool) → b ≡ true → (a || b) ≡ true
        or_true true b is = refl
        or_true false b is = is
opens_dims (suc dims) base first us more e =
    let same : first ≡ 91 = (heads first 91 us _ e).0 in
    ap (λ (at : ℕ). at == 91 || is_letter at) same

opens_type : (type : JType) (first : ℕ) (us more : List ℕ) → first ∷ us ≡ type_text Escaped type ++ more → (first == 91 || is_letter first) ≡ true
opens_type type first us more e = opens_dims (shape_of type).dims (shape_of type).base first us more e

not_letter : (base : Base) (us more : List ℕ) → base_text Escaped base ++ us ≡ 91 ∷ more → ⊥
not_letter base us more e =
    let same : letter base ≡ 91 = (heads (letter base) 91 (behind_letter (class_of base) ++ us) more (sym (base_behind base us) ∙ e)).0 in
    let none : is_letter (letter base) ≡ false = ap is_letter same in
    let is = letter_is base in
    cc

same_dims : (m n : ℕ) (one other : Base) (us vs : List ℕ) → (replicate m 91 ++ base_text Escaped one) ++ us ≡ (replicate n 91 ++ base_text Escaped other) ++ vs
    → (m ≡ n) × (one ≡ other) × (us ≡ vs)
same_dims zero zero one other us vs e =
    let bases = same_base one other us vs e in
    (refl, bases.0, bases.1)
same_dims zero (suc n) one other us vs e = absurd (not_letter one us _ e)
same_dims (suc m) zero one other us vs e = absurd (not_letter other vs _ (sym e))
same_dims (suc m) (suc n) one other us vs e =
    let rest = same_dims m n one other us vs (heads 91 91 _ _ e).1 in
    (ap suc rest.0, rest.1, rest.2)

same_type_front : (one other : JType) (us vs : List ℕ) → type_text Escaped one ++ us ≡ type_text Escaped other ++ vs → (one ≡ other) × (us ≡ vs)
same_type_front one other us vs e =
    let parts = same_dims (shape_of one).dims (shape_of other).dims (shape_of one).base (shape_of other).base us vs e in
    let back : arrays_of (shape_of one).dims (shape_of one).base ≡ arrays_of (shape_of other).dims (shape_of other).base = λ i. arrays_of (parts.0 i) (parts.1 i) in
    (sym (arrays_of-shape_of one) ∙ back ∙ arrays_of-shape_of other, parts.2)

pub same_type : (one other : JType) → type_text Escaped one ≡ type_text Escaped other → one ≡ other
same_type one other e = (same_type_front one other [] [] (ap (λ (text : List ℕ). text ++ []) e)).0

-- ---- methods

same_types : (xs ys : List JType) (us vs : List ℕ) → flat_map (type_text Escaped) xs ++ 41 ∷ us ≡ flat_map (type_text Escaped) ys ++ 41 ∷ vs → (xs ≡ ys) × (us ≡ vs)
same_types [] [] us vs e = (refl, (heads 41 41 us vs e).1)
same_types [] (y ∷ ys) us vs e =
    let is = opens_type y 41 us (flat_map (type_text Escaped) ys ++ 41 ∷ vs) (e ∙ append_assoc (type_text Escaped y) (flat_map (type_text Escaped) ys) (41 ∷ vs)) in
    absurd cc
same_types (x ∷ xs) [] us vs e =
    let is = opens_type x 41 vs (flat_map (type_text Escaped) xs ++ 41 ∷ us) (sym e ∙ append_assoc (type_text Escaped x) (flat_map (type_text Escaped) xs) (41 ∷ us)) in
    absurd cc
same_types (x ∷ xs) (y ∷ ys) us vs e =
    let parts = same_type_front x y (flat_map (type_text Escaped) xs ++ 41 ∷ us) (flat_map (type_text Escaped) ys ++ 41 ∷ vs)
    (sym (append_assoc (type_text Escaped x) (flat_map (type_text Escaped) xs) (41 ∷ us)) ∙ e ∙ append_assoc (type_text Escaped y) (flat_map (type_text Escaped) ys) (41 ∷ vs)) in
    let rest = same_types xs ys us vs parts.1 in
    ((λ i. parts.0 i ∷ rest.0 i), rest.1)

not_void : (type : JType) → 86 ∷ [] ≡ type_text Escaped type → ⊥
not_void type e =
    let is = opens_type type 86 [] [] (e ∙ sym (append-nil (type_text Escaped type))) in
    cc

same_result : (one other : Option JType) → result_text Escaped one ≡ result_text Escaped other → one ≡ other
same_result None None e = refl
same_result None (Some type) e = absurd (not_void type e)
same_result (Some type) None e = absurd (not_void type (sym e))
same_result (Some one) (Some other) e = ap (λ (type : JType). Some type) (same_type one other e)

pub same_target : (one other : Target) → target_text one ≡ target_text other → one ≡ other
same_target one other e =
    let classes = same_cut 46 (name_text one.class) (name_text other.class) (name_text one.name ++ method_text Escaped one.kind) (name_text other.name ++ method_text Escaped other.kind)
    (name_lacks 46 dot (omega arith) one.class) (name_lacks 46 dot (omega arith) other.class) e in
    let names = same_cut 40 (name_text one.name) (name_text other.name) (flat_map (type_text Escaped) one.kind.params ++ 41 ∷ result_text Escaped one.kind.result)
    (flat_map (type_text Escaped) other.kind.params ++ 41 ∷ result_text Escaped other.kind.result) (name_lacks 40 opening (omega arith) one.name) (name_lacks 40 opening (omega arith) other.name) classes.1 in
    let types = same_types one.kind.params other.kind.params (result_text Escaped one.kind.result) (result_text Escaped other.kind.result) names.1 in
    let result = same_result one.kind.result other.kind.result types.1 in
    let class = same_name one.class other.class classes.0 in
    let name = same_name one.name other.name names.0 in
    λ i. record { class = class i; name = name i; kind = record { params = types.0 i; result = result i } }
