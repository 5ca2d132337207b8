-- Marks as they are made, type by type.
use Rattle.std.proofs.Common.{◌≡◌, ◌≢◌, ℕ, zero, suc, ◌+◌, ◌-◌, ◌<◌, ◌≤◌, max, inl, inr, Bool, true, false, true≢false, ◌==◌, ◌||◌, if◌then◌else◌, List, [], ◌∷◌, length, take, drop, get_or, replicate, Option, Some, None, slice_index_or, slice_set, refl, sym, ap, ◌∙◌, arith, get_or-set_same, get_or-set_other}
use Rattle.std.proofs.Math.ListN.{set}
use Rattle.std.specs.List.{list_any}
use Rattle.std.specs.Option.{option_map_or}
use Rattle.std.proofs.lemmas.Bool.Decides.{Decides-eqb}
use Rattle.kb_names.specs.Shape.{Base}
use Rattle.kb_names.specs.Types.{shape_of}
use Rattle.kb_names.specs.declared.types.JType.{JType}
use Rattle.kb_names.specs.declared.types.ExactType.{ExactType}
use Rattle.kb_names.specs.declared.types.ExactType.TheVariants as exact
use Rattle.kb_class.specs.Class.{Class}
use Rattle.kb_classes.specs.Subtypes.{shape_of_exact}
use Rattle.kb_classes.specs.World.{number_in}
use Rattle.kb_classes.proofs.Named.{number_inside}
use Rattle.kb_classes.proofs.Walks.{next_rest}
use Rattle.kb_universe.specs.Marks.{class_types, element_in, is_class_at, is_element_at, dims_over, most_over, longest_of}
use Rattle.kb_universe.proofs.Reaching.{IsNumbered, numbered}

or_assoc : (a b c : Bool) → ((a || b) || c) ≡ (a || (b || c))
or_assoc true b c = refl
or_assoc false b c = refl

or_none : (a : Bool) → (a || false) ≡ a
or_none true = refl
or_none false = refl

or_true : (a : Bool) → (a || true) ≡ true
or_true true = refl
or_true false = refl

-- ---- tables that begin empty

pub blank : {A : Type 0} (size place : ℕ) (none : A) → slice_index_or (replicate size none) place none ≡ none
blank zero place none = refl
blank (suc size) zero none = refl
blank (suc size) (suc place) none = blank size place none

pub blank_size : {A : Type 0} (size : ℕ) (none : A) → length (replicate size none) ≡ size
blank_size zero none = refl
blank_size (suc size) none = ap suc (blank_size size none)

-- ---- one item set

pub set_length : {A : Type 0} (xs : List A) (place : ℕ) (x : A) → length (slice_set xs place x) ≡ length xs
set_length [] place x = refl
set_length (y ∷ xs) zero x = refl
set_length (y ∷ xs) (suc place) x = ap suc (set_length xs place x)

pub set_mark : (marks : List Bool) (place number : ℕ) → place < length marks → get_or (set marks place true) number false ≡ (get_or marks number false || (place == number))
set_mark marks place number inside = go (place == number) refl where
  go : (b : Bool) → (place == number) ≡ b → get_or (set marks place true) number false ≡ (get_or marks number false || (place == number))
  go true e =
      let same : place ≡ number = (Decides-eqb place number).0 e in
      let set_is : get_or (set marks place true) place false ≡ true = (rw get_or-set_same refl) in
      ap (λ (k : ℕ). get_or (set marks place true) k false) (sym same) ∙ set_is ∙ sym (ap (λ (b : Bool). get_or marks number false || b) e ∙ or_true (get_or marks number false))
  go false e =
      let other : number ≢ place = λ h. true≢false (sym ((Decides-eqb place number).1 (sym h)) ∙ e) in
      let kept : get_or (set marks place true) number false ≡ get_or marks number false = (rw get_or-set_other refl) in
      kept ∙ sym (ap (λ (b : Bool). get_or marks number false || b) e ∙ or_none (get_or marks number false))

pub set_dims : (most : List ℕ) (place number dims : ℕ) → place < length most → (place == number) ≡ true → get_or (set most place dims) number 0 ≡ dims
set_dims most place number dims inside e =
    let same : place ≡ number = (Decides-eqb place number).0 e in
    let set_is : get_or (set most place dims) place 0 ≡ dims = (rw get_or-set_same refl) in
    ap (λ (k : ℕ). get_or (set most place dims) k 0) (sym same) ∙ set_is

pub kept_dims : (most : List ℕ) (place number dims : ℕ) → (place == number) ≡ false → get_or (set most place dims) number 0 ≡ get_or most number 0
kept_dims most place number dims e =
    let other : number ≢ place = λ h. true≢false (sym ((Decides-eqb place number).1 (sym h)) ∙ e) in
    (rw get_or-set_other refl)

-- inside a list nothing else is read
pub same_default : (most : List ℕ) (place d : ℕ) → place < length most → get_or most place d ≡ get_or most place 0
same_default [] place d inside = absurd (omega (arith, inside))
same_default (m ∷ most) zero d inside = refl
same_default (m ∷ most) (suc place) d inside = same_default most place d (omega (arith, inside))

-- the element of an array with the most dimensions so far
pub raised_over : (classes : List Class) (most : List ℕ) (component : JType) (element dims : ℕ) → element_in classes (shape_of component).base ≡ Some element → dims ≡ suc (shape_of component).dims
    → element < length most → get_or most element 0 < dims → (e : ℕ) → get_or (set most element dims) e 0 ≡ max (get_or most e 0) (dims_over classes e (exact.Array component))
raised_over classes most component element dims at is inside less e = go (element == e) refl where
  over : (b : Bool) → (element == e) ≡ b → dims_over classes e (exact.Array component) ≡ (if b then suc (shape_of component).dims else 0)
  over b f =
      let told : is_element_at classes e (shape_of component).base ≡ b = ap (λ (o : Option ℕ). option_map_or (λ (n : ℕ). n == e) o false) at ∙ f in
      ap (λ (c : Bool). if c then suc (shape_of component).dims else 0) told

  go : (b : Bool) → (element == e) ≡ b → get_or (set most element dims) e 0 ≡ max (get_or most e 0) (dims_over classes e (exact.Array component))
  go true f =
      let new : get_or (set most element dims) e 0 ≡ dims = set_dims most element e dims inside f in
      let same : element ≡ e = (Decides-eqb element e).0 f in
      let old : get_or most element 0 ≡ get_or most e 0 = ap (λ (k : ℕ). get_or most k 0) same in
      let told : dims_over classes e (exact.Array component) ≡ suc (shape_of component).dims = over true f in
      omega (arith, new, old, told, less, is)
  go false f =
      let kept : get_or (set most element dims) e 0 ≡ get_or most e 0 = kept_dims most element e dims f in
      let told : dims_over classes e (exact.Array component) ≡ 0 = over false f in
      omega (arith, kept, told)

-- one with no more dimensions
pub unraised_over : (classes : List Class) (most : List ℕ) (component : JType) (element dims : ℕ) → element_in classes (shape_of component).base ≡ Some element → dims ≡ suc (shape_of component).dims
    → dims ≤ get_or most element 0 → (e : ℕ) → get_or most e 0 ≡ max (get_or most e 0) (dims_over classes e (exact.Array component))
unraised_over classes most component element dims at is enough e = go (element == e) refl where
  over : (b : Bool) → (element == e) ≡ b → dims_over classes e (exact.Array component) ≡ (if b then suc (shape_of component).dims else 0)
  over b f =
      let told : is_element_at classes e (shape_of component).base ≡ b = ap (λ (o : Option ℕ). option_map_or (λ (n : ℕ). n == e) o false) at ∙ f in
      ap (λ (c : Bool). if c then suc (shape_of component).dims else 0) told

  go : (b : Bool) → (element == e) ≡ b → get_or most e 0 ≡ max (get_or most e 0) (dims_over classes e (exact.Array component))
  go true f =
      let same : element ≡ e = (Decides-eqb element e).0 f in
      let old : get_or most element 0 ≡ get_or most e 0 = ap (λ (k : ℕ). get_or most k 0) same in
      let told : dims_over classes e (exact.Array component) ≡ suc (shape_of component).dims = over true f in
      omega (arith, old, told, enough, is)
  go false f = (let told : dims_over classes e (exact.Array component) ≡ 0 = over false f in omega (arith, told))

-- an array whose element is none of the world
pub none_over : (classes : List Class) (most : List ℕ) (component : JType) → element_in classes (shape_of component).base ≡ None
    → (e : ℕ) → get_or most e 0 ≡ max (get_or most e 0) (dims_over classes e (exact.Array component))
none_over classes most component none e =
    let told : is_element_at classes e (shape_of component).base ≡ false = ap (λ (o : Option ℕ). option_map_or (λ (n : ℕ). n == e) o false) none in
    let is : dims_over classes e (exact.Array component) ≡ 0 = ap (λ (c : Bool). if c then suc (shape_of component).dims else 0) told in
    omega (arith, is)

-- an element that has a number stands in the table
pub element_inside : (classes : List Class) (base : Base) (element : ℕ) → element_in classes base ≡ Some element → element < length classes + 2
element_inside classes base element at = go (numbered classes base element at) where
  go : IsNumbered classes base element → element < length classes + 2
  go (inl h) = (let is = h.1 in omega (arith, is))
  go (inr (inl h)) = (let is = h.1 in omega (arith, is))
  go (inr (inr h)) = (let is = h.4 in let within : h.1 < length classes = number_inside classes h.0 h.1 h.3 in omega (arith, is, within))

-- ---- one type more

module _ (all rest : List ExactType) (type : ExactType) (some : 1 ≤ length rest) (at : type ≡ get_or rest 0 type) where
  abbrev behind : List ExactType
  behind = take (length rest - 1) (drop 1 rest)

  pub own_more : (classes : List Class) (before after : List Bool) → ((n : ℕ) → slice_index_or after n false ≡ (slice_index_or before n false || is_class_at classes n type))
      → ((n : ℕ) → (slice_index_or before n false || list_any (is_class_at classes n) rest) ≡ list_any (is_class_at classes n) all)
      → (n : ℕ) → (slice_index_or after n false || list_any (is_class_at classes n) (take (length rest - 1) (drop 1 rest))) ≡ list_any (is_class_at classes n) all
  own_more classes before after marks goes n =
      ap (λ (b : Bool). b || list_any (is_class_at classes n) behind) (marks n)
      ∙ or_assoc (slice_index_or before n false) (is_class_at classes n type) (list_any (is_class_at classes n) behind)
      ∙ ap (λ (ts : List ExactType). slice_index_or before n false || list_any (is_class_at classes n) ts) (sym (next_rest rest type some at)) ∙ goes n

  pub most_more : (classes : List Class) (before after : List ℕ) → ((e : ℕ) → slice_index_or after e 0 ≡ max (slice_index_or before e 0) (dims_over classes e type))
      → ((e : ℕ) → max (slice_index_or before e 0) (most_over classes e rest) ≡ most_over classes e all)
      → (e : ℕ) → max (slice_index_or after e 0) (most_over classes e (take (length rest - 1) (drop 1 rest))) ≡ most_over classes e all
  most_more classes before after raised goes e =
      let new : slice_index_or after e 0 ≡ max (slice_index_or before e 0) (dims_over classes e type) = raised e in
      let next : most_over classes e rest ≡ max (dims_over classes e type) (most_over classes e behind) = ap (λ (ts : List ExactType). most_over classes e ts) (next_rest rest type some at) in
      let old : max (slice_index_or before e 0) (most_over classes e rest) ≡ most_over classes e all = goes e in
      omega (arith, new, next, old)

  pub long_more : (before after : ℕ) → after ≡ max before (shape_of_exact type).dims → max before (longest_of rest) ≡ longest_of all
      → max after (longest_of (take (length rest - 1) (drop 1 rest))) ≡ longest_of all
  long_more before after new old =
      let next : longest_of rest ≡ max (shape_of_exact type).dims (longest_of behind) = ap longest_of (next_rest rest type some at) in
      omega (arith, new, next, old)

  pub count_more : (before after : ℕ) → after ≡ before + length (class_types (type ∷ [])) → before + length (class_types rest) ≡ length (class_types all)
      → after + length (class_types (take (length rest - 1) (drop 1 rest))) ≡ length (class_types all)
  count_more before after new old =
      let next : length (class_types rest) ≡ length (class_types (type ∷ behind)) = ap (λ (ts : List ExactType). length (class_types ts)) (next_rest rest type some at) in
      let split : length (class_types (type ∷ behind)) ≡ length (class_types (type ∷ [])) + length (class_types behind) = apart type in
      omega (arith, new, next, old, split)
    where
      apart : (t : ExactType) → length (class_types (t ∷ behind)) ≡ length (class_types (t ∷ [])) + length (class_types behind)
      apart (exact.Class name) = omega arith
      apart (exact.Array component) = omega arith

pub classes_few : (types : List ExactType) → length (class_types types) ≤ length types
classes_few [] = omega arith
classes_few (exact.Class name ∷ types) = (let rest : length (class_types types) ≤ length types = classes_few types in omega (arith, rest))
classes_few (exact.Array component ∷ types) = (let rest : length (class_types types) ≤ length types = classes_few types in omega (arith, rest))

-- ---- one class marked

pub mark_told : (classes : List Class) (own : List Bool) (name : List ℕ) (place : ℕ) (type : ExactType) → Some place ≡ number_in classes name → type ≡ exact.Class name → place < length own
    → (n : ℕ) → get_or (set own place true) n false ≡ (get_or own n false || is_class_at classes n type)
mark_told classes own name place type at is inside n =
    set_mark own place n inside
    ∙ ap (λ (b : Bool). get_or own n false || b) (sym (ap (λ (t : ExactType). is_class_at classes n t) is ∙ ap (λ (o : Option ℕ). option_map_or (λ (m : ℕ). m == n) o false) (sym at)))
