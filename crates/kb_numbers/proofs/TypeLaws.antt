-- A part is the first one of one type, also while texts and parts are added.
use Rattle.std.proofs.Common.{◌≡◌, ℕ, zero, suc, ◌+◌, ◌-◌, ◌<◌, ◌≤◌, Bool, true, false, true≢false, ◌&&◌, ◌==◌, if◌then◌else◌, List, [], ◌∷◌, length, drop, get_or, Option, Some, None, slice_get, IfSome, refl, sym, ap, subst, ◌∙◌, arith}
use Rattle.std.specs.Option.{option_map}
use Rattle.std.proofs.lemmas.Bool.Decides.{Decides-eqb}
use Rattle.std.proofs.lemmas.List.{drop_more}
use Rattle.std.proofs.lemmas.Option.{same_Some}
use Rattle.kb_names.specs.Shape.{Shape, Base, bool_base, byte_base, char_base, short_base, int_base, long_base, float_base, double_base, class_base}
use Rattle.kb_names.specs.Types.{shape_of, arrays_of}
use Rattle.kb_names.specs.declared.types.JType.{JType}
use Rattle.kb_names.specs.declared.types.JType.TheVariants as types
use Rattle.kb_names.specs.declared.types.MethodType.{MethodType}
use Rattle.kb_names.proofs.ShapeLaws.{arrays_of-shape_of}
use Rattle.kb_texts.specs.Texts.{Keeps}
use Rattle.kb_numbers.specs.declared.parts.Part.{Part}
use Rattle.kb_numbers.specs.declared.parts.Symbol.{Symbol}
use Rattle.kb_numbers.specs.Types.{code_of, IsNameOf, IsTypeSymbol, IsSymbol, void, is_symbol, is_part, HasPart, IsPartOf, IsPath, IsTypePath}

-- ---- whether they are one

both : (a b : Bool) → (a && b) ≡ true → (a ≡ true) × (b ≡ true)
both true b e = (refl, e)
both false b e = absurd (true≢false (sym e))

and_true : (a b : Bool) → a ≡ true → b ≡ true → (a && b) ≡ true
and_true true b e f = f
and_true false b e f = absurd (true≢false (sym e))

symbol_is : (one other : Symbol) → is_symbol one other ≡ true → one ≡ other
symbol_is one other e =
    let first = both (one.dims == other.dims) ((one.base == other.base) && (one.name == other.name)) e in
    let rest = both (one.base == other.base) (one.name == other.name) first.1 in
    let dims : one.dims ≡ other.dims = (Decides-eqb one.dims other.dims).0 first.0 in
    let base : one.base ≡ other.base = (Decides-eqb one.base other.base).0 rest.0 in
    let name : one.name ≡ other.name = (Decides-eqb one.name other.name).0 rest.1 in
    λ i. record { dims = dims i; base = base i; name = name i }

pub part_is : (one other : Part) → is_part one other ≡ true → one ≡ other
part_is one other e =
    let parts = both (one.behind == other.behind) (is_symbol one.symbol other.symbol) e in
    let behind : one.behind ≡ other.behind = (Decides-eqb one.behind other.behind).0 parts.0 in
    let symbol : one.symbol ≡ other.symbol = symbol_is one.symbol other.symbol parts.1 in
    λ i. record { behind = behind i; symbol = symbol i }

pub part_self : (part : Part) → is_part part part ≡ true
part_self part =
    and_true (part.behind == part.behind) (is_symbol part.symbol part.symbol) ((Decides-eqb part.behind part.behind).1 refl)
    (and_true (part.symbol.dims == part.symbol.dims) ((part.symbol.base == part.symbol.base) && (part.symbol.name == part.symbol.name)) ((Decides-eqb part.symbol.dims part.symbol.dims).1 refl)
    (and_true (part.symbol.base == part.symbol.base) (part.symbol.name == part.symbol.name) ((Decides-eqb part.symbol.base part.symbol.base).1 refl)
    ((Decides-eqb part.symbol.name part.symbol.name).1 refl)))

-- ---- parameters from the last one

one_more : (params : List JType) (back : ℕ) (param : JType) → back < length params → param ≡ get_or params (length params - 1 - back) param
    → drop (length params - (back + 1)) params ≡ param ∷ drop (length params - back) params
one_more params back param within is =
    let place : ℕ = length params - 1 - back in
    let inside : place < length params = omega (arith, within) in
    let here : length params - (back + 1) ≡ place = omega (arith, within) in
    let next : place + 1 ≡ length params - back = omega (arith, within) in
    ap (λ (n : ℕ). drop n params) here ∙ drop_more params place param inside ∙ (λ i. sym is i ∷ drop (next i) params)

-- ---- types that are no arrays

pub no_dims : (type : JType) → ((component : Shape) → type ≡ types.Array component → ⊥) → (shape_of type).dims ≡ 0
no_dims types.Bool other = refl
no_dims types.Byte other = refl
no_dims types.Char other = refl
no_dims types.Short other = refl
no_dims types.Int other = refl
no_dims types.Long other = refl
no_dims types.Float other = refl
no_dims types.Double other = refl
no_dims (types.Class name) other = refl
no_dims (types.Array component) other = absurd (other component refl)

-- ---- symbols

module _ (texts : List (List ℕ)) where
  -- what a code and the number of a name tell
  base_told : ℕ → ℕ → Option Base
  base_told code number =
      if code == 0 then Some bool_base else if code == 1 then Some byte_base else if code == 2 then Some char_base else if code == 3 then Some short_base else if code == 4 then Some int_base else if code == 5 then Some long_base
      else if code == 6 then Some float_base else if code == 7 then Some double_base else if code == 8 then option_map class_base (slice_get texts number) else None

  told : (base : Base) (number : ℕ) → IsNameOf texts base number → base_told (code_of base) number ≡ Some base
  unfolding base_told
  told bool_base number is = refl
  told byte_base number is = refl
  told char_base number is = refl
  told short_base number is = refl
  told int_base number is = refl
  told long_base number is = refl
  told float_base number is = refl
  told double_base number is = refl
  told (class_base name) number is = ap (option_map class_base) is

  -- a symbol is that of one type
  same_type : (one other : JType) (symbol : Symbol) → IsTypeSymbol texts one symbol → IsTypeSymbol texts other symbol → one ≡ other
  same_type one other symbol s t =
      let dims : (shape_of one).dims ≡ (shape_of other).dims = sym s.dims_are ∙ t.dims_are in
      let codes : code_of (shape_of one).base ≡ code_of (shape_of other).base = sym s.base_is ∙ t.base_is in
      let base : (shape_of one).base ≡ (shape_of other).base =
      same_Some (shape_of one).base (shape_of other).base
      (sym (told (shape_of one).base symbol.name s.name_is) ∙ ap (λ (code : ℕ). base_told code symbol.name) codes ∙ told (shape_of other).base symbol.name t.name_is) in
      sym (arrays_of-shape_of one) ∙ (λ i. arrays_of (dims i) (base i)) ∙ arrays_of-shape_of other

  below_nine : (base : Base) → code_of base < 9
  below_nine bool_base = omega arith
  below_nine byte_base = omega arith
  below_nine char_base = omega arith
  below_nine short_base = omega arith
  below_nine int_base = omega arith
  below_nine long_base = omega arith
  below_nine float_base = omega arith
  below_nine double_base = omega arith
  below_nine (class_base name) = omega arith

  not_void : (type : JType) (symbol : Symbol) → IsTypeSymbol texts type symbol → symbol ≡ void → ⊥
  not_void type symbol s e =
      let nine : code_of (shape_of type).base ≡ 9 = sym s.base_is ∙ ap (λ (x : Symbol). x.base) e in
      omega (arith, nine, below_nine (shape_of type).base)

  same_result : (one other : Option JType) (symbol : Symbol) → IsSymbol texts one symbol → IsSymbol texts other symbol → one ≡ other
  same_result None None symbol s t = refl
  same_result None (Some type) symbol s t = absurd (not_void type symbol t s)
  same_result (Some type) None symbol s t = absurd (not_void type symbol s t)
  same_result (Some one) (Some other) symbol s t = ap (λ (type : JType). Some type) (same_type one other symbol s t)

  -- ---- paths

  module _ (parts : List Part) where
    same_part : (number : ℕ) (one other : Part) → HasPart parts one number → HasPart parts other number → one ≡ other
    same_part number one other s t =
        let places : s.place ≡ t.place = omega (arith, s.number_is, t.number_is) in
        same_Some one other (sym s.there ∙ ap (λ (n : ℕ). slice_get parts n) places ∙ t.there)

    one_back : (number first second : ℕ) (one other : Option JType) → IsPartOf texts parts first one number → IsPartOf texts parts second other number → (first ≡ second) × (one ≡ other)
    one_back number first second one other s t =
        let same = same_part number (record { behind = first; symbol = s.symbol }) (record { behind = second; symbol = t.symbol }) s.there t.there in
        let symbols : s.symbol ≡ t.symbol = ap (λ (p : Part). p.symbol) same in
        (ap (λ (p : Part). p.behind) same, same_result one other t.symbol (subst (λ (x : Symbol). IsSymbol texts one x) symbols s.of_type) t.of_type)

    above_zero : (result : Option JType) (params : List JType) (number : ℕ) → IsPath texts parts result params number → number ≡ 0 → ⊥
    above_zero result [] number path e = (let is = path.there.number_is in omega (arith, is, e))
    above_zero result (param ∷ params) number path e = (let is = path.2.there.number_is in omega (arith, is, e))

    -- a part is the first one of one type
    same_path : (result last : Option JType) (params others : List JType) (number : ℕ) → IsPath texts parts result params number → IsPath texts parts last others number → (result ≡ last) × (params ≡ others)
    same_path result last [] [] number s t = (let same = one_back number 0 0 result last s t in (same.1, refl))
    same_path result last [] (other ∷ others) number s t =
        let same = one_back number 0 t.0 result (Some other) s t.2 in
        absurd (above_zero last others t.0 t.1 (sym same.0))
    same_path result last (param ∷ params) [] number s t =
        let same = one_back number s.0 0 (Some param) last s.2 t in
        absurd (above_zero result params s.0 s.1 same.0)
    same_path result last (param ∷ params) (other ∷ others) number s t =
        let same = one_back number s.0 t.0 (Some param) (Some other) s.2 t.2 in
        let rest = same_path result last params others t.0 (subst (λ (n : ℕ). IsPath texts parts result params n) same.0 s.1) t.1 in
        let first : param ≡ other = same_Some param other same.1 in
        (rest.0, λ i. first i ∷ rest.1 i)

    pub same_kind : (one other : MethodType) (number : ℕ) → IsTypePath texts parts one number → IsTypePath texts parts other number → one ≡ other
    same_kind one other number s t =
        let same = same_path one.result other.result one.params other.params number s t in
        λ i. record { params = same.1 i; result = same.0 i }

    -- ---- a path that is followed

    -- the parts behind the first one are there too
    path_behind : (result : Option JType) (params : List JType) (number : ℕ) → IsPath texts parts result params number → (k : ℕ) → k ≤ length params → (m : ℕ) × IsPath texts parts result (drop k params) m
    path_behind result params number path zero within = (number, path)
    path_behind result [] number path (suc k) within = absurd (let no : suc k ≤ 0 = within in omega (arith, no))
    path_behind result (param ∷ params) number path (suc k) within =
        let less : suc k ≤ suc (length params) = within in
        path_behind result params path.0 path.1 k (omega (arith, less))

    -- the number so far is that of the part of the last parameters
    abbrev pub IsSoFar : MethodType → ℕ → ℕ → Type 0
    IsSoFar kind back number = (m : ℕ) → IsPath texts parts kind.result (drop (length kind.params - back) kind.params) m → number ≡ m

    pub so_far_next : (kind : MethodType) (back number next : ℕ) (param : JType) → back < length kind.params → param ≡ get_or kind.params (length kind.params - 1 - back) param
        → IsSoFar kind back number → ((m : ℕ) → IsPartOf texts parts number (Some param) m → Some next ≡ Some m) → IsSoFar kind (back + 1) next
    so_far_next kind back number next param within is so_far told m path =
        let there : IsPath texts parts kind.result (param ∷ drop (length kind.params - back) kind.params) m =
        subst (λ (ps : List JType). IsPath texts parts kind.result ps m) (one_more kind.params back param within is) path in
        let same : number ≡ there.0 = so_far there.0 there.1 in
        same_Some next m (told m (subst (λ (n : ℕ). IsPartOf texts parts n (Some param) m) (sym same) there.2))

    -- where a parameter's part is not there, the type's first part is not
    pub not_there : (kind : MethodType) (back number : ℕ) (param : JType) → back < length kind.params → param ≡ get_or kind.params (length kind.params - 1 - back) param
        → IsSoFar kind back number → ((m : ℕ) → IsPartOf texts parts number (Some param) m → ⊥) → (m : ℕ) → IsTypePath texts parts kind m → ⊥
    not_there kind back number param within is so_far none m path =
        let found = path_behind kind.result kind.params m path (length kind.params - (back + 1)) (omega arith) in
        let there : IsPath texts parts kind.result (param ∷ drop (length kind.params - back) kind.params) found.0 =
        subst (λ (ps : List JType). IsPath texts parts kind.result ps found.0) (one_more kind.params back param within is) found.1 in
        let same : number ≡ there.0 = so_far there.0 there.1 in
        none found.0 (subst (λ (n : ℕ). IsPartOf texts parts n (Some param) found.0) (sym same) there.2)

    -- where the result's part is not there, the type's first part is not
    pub no_result : (kind : MethodType) → ((m : ℕ) → IsPartOf texts parts 0 kind.result m → ⊥) → (m : ℕ) → IsTypePath texts parts kind m → ⊥
    no_result kind none m path = go kind.params m path
      where
        go : (params : List JType) (n : ℕ) → IsPath texts parts kind.result params n → ⊥
        go [] n p = none n p
        go (param ∷ params) n p = go params p.0 p.1

    -- the part by its symbol
    pub part_found : (behind : ℕ) (type : Option JType) (symbol : Symbol) (answer : Option ℕ) → ((s : Symbol) → IsSymbol texts type s → Some symbol ≡ Some s)
        → ((n : ℕ) → HasPart parts (record { behind = behind; symbol = symbol }) n → answer ≡ Some n) → (m : ℕ) → IsPartOf texts parts behind type m → answer ≡ Some m
    part_found behind type symbol answer whole found m of =
        let same : symbol ≡ of.symbol = same_Some symbol of.symbol (whole of.symbol of.of_type) in
        found m (subst (λ (s : Symbol). HasPart parts (record { behind = behind; symbol = s }) m) (sym same) of.there)

    pub part_there : (behind : ℕ) (type : Option JType) (symbol : Symbol) (answer : Option ℕ) → IsSymbol texts type symbol → IfSome answer (HasPart parts (record { behind = behind; symbol = symbol }))
        → IfSome answer (IsPartOf texts parts behind type)
    part_there behind type symbol None is there = tt
    part_there behind type symbol (Some number) is there = record { symbol = symbol; of_type = is; there = there }

-- ---- more texts and parts

module _ (texts more : List (List ℕ)) (keeps : Keeps texts more) where
  name_on : (base : Base) (number : ℕ) → IsNameOf texts base number → IsNameOf more base number
  name_on bool_base number is = is
  name_on byte_base number is = is
  name_on char_base number is = is
  name_on short_base number is = is
  name_on int_base number is = is
  name_on long_base number is = is
  name_on float_base number is = is
  name_on double_base number is = is
  name_on (class_base name) number is = keeps number name is

  symbol_on : (type : Option JType) (symbol : Symbol) → IsSymbol texts type symbol → IsSymbol more type symbol
  symbol_on None symbol is = is
  symbol_on (Some type) symbol is = record { dims_are = is.dims_are; base_is = is.base_is; name_is = name_on (shape_of type).base symbol.name is.name_is; few = is.few; fits = is.fits }

  module _ (before after : List Part) (adds : Keeps before after) where
    pub part_on : (behind : ℕ) (type : Option JType) (number : ℕ) → IsPartOf texts before behind type number → IsPartOf more after behind type number
    part_on behind type number of = record {
      symbol = of.symbol;
      of_type = symbol_on type of.symbol of.of_type;
      there = record {
        place = of.there.place;
        number_is = of.there.number_is;
        fits = of.there.fits;
        there = adds of.there.place (record { behind = behind; symbol = of.symbol }) of.there.there;
      };
    }

    pub path_on : (result : Option JType) (params : List JType) (number : ℕ) → IsPath texts before result params number → IsPath more after result params number
    path_on result [] number path = part_on 0 result number path
    path_on result (param ∷ params) number path = (path.0, path_on result params path.0 path.1, part_on path.0 (Some param) number path.2)

-- a parameter more before those that are there
pub path_next : (texts : List (List ℕ)) (before after : List Part) → Keeps before after → (kind : MethodType) (back behind number : ℕ) (param : JType) → back < length kind.params
    → param ≡ get_or kind.params (length kind.params - 1 - back) param → IsPath texts before kind.result (drop (length kind.params - back) kind.params) behind → IsPartOf texts after behind (Some param) number
    → IsPath texts after kind.result (drop (length kind.params - (back + 1)) kind.params) number
path_next texts before after adds kind back behind number param within is path part =
    subst (λ (ps : List JType). IsPath texts after kind.result ps number) (sym (one_more kind.params back param within is))
    (behind, path_on texts texts (λ place x at. at) before after adds kind.result (drop (length kind.params - back) kind.params) behind path, part)
