-- Descriptors of arrays read: their elements, and their components.
use Rattle.std.proofs.Common.{◌≡◌, ◌≢◌, ◌==◌, ◌-◌, ℕ, zero, suc, ◌+◌, ◌≤◌, ◌<◌, Bool, true, false, IsSome, List, [], ◌∷◌, ◌++◌, length, take, drop, get_or, map, replicate, refl, sym, ap, ap₂, subst, ◌∙◌, arith}
use Rattle.std.specs.List.{AllByRecursion}
use Rattle.std.proofs.lemmas.Bool.{eqb-true}
use Rattle.std.proofs.lemmas.List.{append-nil, append_assoc, take_all}
use Rattle.kb_names.specs.Shape.{Base, class_base, Shape}
use Rattle.kb_names.specs.Types.{shape_of, arrays_of, base_type}
use Rattle.kb_names.specs.Descriptors.{base_text}
use Rattle.kb_names.specs.declared.class_names.Spelling.TheVariants.{Raw}
use Rattle.kb_names.specs.declared.types.JType.{JType}
use Rattle.kb_names.specs.declared.types.JType.TheVariants as types
use Rattle.kb_names.specs.declared.types.ExactType.{ExactType}
use Rattle.kb_names.specs.declared.types.ExactType.TheVariants as exact
use Rattle.kb_names.proofs.ShapeLaws.{shape_of-arrays_of, arrays_of-shape_of}
use Rattle.kb_class.specs.Class.{Class}
use Rattle.kb_classes.specs.World.{number_in}
use Rattle.kb_classes.specs.Universe.{IsElement, array_text}
use Rattle.kb_classes.specs.Mentions.{element_text, IsWantedArray, IsSimple}
use Rattle.kb_classes.proofs.UniverseTexts.{one_base, element_of, part_text_is}

-- ---- how many [ a text begins with

dims_before : (text : List ℕ) → (dims : ℕ) × (text ≡ replicate dims 91 ++ element_text text)
dims_before [] = (0, refl)
dims_before (byte ∷ bytes) = go (byte == 91) refl (dims_before bytes) where
  go : (b : Bool) → (byte == 91) ≡ b → (dims : ℕ) × (bytes ≡ replicate dims 91 ++ element_text bytes) → (dims : ℕ) × (byte ∷ bytes ≡ replicate dims 91 ++ element_text (byte ∷ bytes))
  go true e rest =
      let same : byte ≡ 91 = eqb-true byte 91 e in
      let is : element_text (byte ∷ bytes) ≡ element_text bytes = (rw e refl) in
      (suc rest.0, ap₂ (λ (b : ℕ) (bs : List ℕ). b ∷ bs) same rest.1 ∙ ap (λ (bs : List ℕ). 91 ∷ (replicate rest.0 91 ++ bs)) (sym is))
  go false e rest = (0, (rw e refl))

many : (dims : ℕ) (text : List ℕ) → length (replicate dims 91 ++ text) ≡ dims + length text
many zero text = omega arith
many (suc dims) text = (let rest : length (replicate dims 91 ++ text) ≡ dims + length text = many dims text in omega (arith, rest))

-- ---- arrays whose elements may be ones

pub no_array : (classes : List Class) (text : List ℕ) → length (element_text text) ≡ length text → IsWantedArray classes text → ⊥
no_array classes text same wanted =
    let dims : ℕ = (shape_of wanted.0).dims in
    let base : Base = (shape_of wanted.0).base in
    let element : element_text text ≡ base_text Raw base = ap element_text wanted.2 ∙ element_of (suc dims) base in
    let long : length text ≡ suc dims + length (base_text Raw base) = ap length wanted.2 ∙ many (suc dims) (base_text Raw base) in
    let short : length (element_text text) ≡ length (base_text Raw base) = ap length element in
    omega (arith, same, long, short)

pub wanted_element : (classes : List Class) (text : List ℕ) → IsWantedArray classes text → (base : Base) × IsElement classes base × (element_text text ≡ base_text Raw base)
wanted_element classes text wanted = ((shape_of wanted.0).base, wanted.1, ap element_text wanted.2 ∙ element_of (suc (shape_of wanted.0).dims) (shape_of wanted.0).base)

pub element_wanted : (classes : List Class) (text : List ℕ) → length (element_text text) ≢ length text → (base : Base) × IsElement classes base × (element_text text ≡ base_text Raw base) → IsWantedArray classes text
element_wanted classes text longer h = go before.0 before.1 where
  before : (dims : ℕ) × (text ≡ replicate dims 91 ++ element_text text)
  before = dims_before text

  go : (dims : ℕ) → text ≡ replicate dims 91 ++ element_text text → IsWantedArray classes text
  go zero e = absurd (longer (sym (ap length e)))
  go (suc dims) e = (
    arrays_of dims h.0,
    subst (IsElement classes) (sym (ap (λ (s : Shape). s.base) (shape_of-arrays_of dims h.0))) h.1,
    e ∙ ap (λ (bs : List ℕ). replicate (suc dims) 91 ++ bs) h.2 ∙ sym (part_text_is dims h.0),
  )

-- ---- elements

pub class_element : (classes : List Class) (text name : List ℕ) → text ≡ 76 ∷ (name ++ 59 ∷ []) → IsSome (number_in classes name) → (base : Base) × IsElement classes base × (text ≡ base_text Raw base)
class_element classes text name is there = (class_base name, there, is)

pub class_back : (classes : List Class) (text name : List ℕ) → text ≡ 76 ∷ (name ++ 59 ∷ []) → (base : Base) × IsElement classes base × (text ≡ base_text Raw base) → IsSome (number_in classes name)
class_back classes text name is h = subst (IsElement classes) (sym (one_base (class_base name) h.0 (sym is ∙ h.2))) h.1

-- the type of the class of that name
pub class_read : (text name : List ℕ) → text ≡ 76 ∷ (name ++ 59 ∷ []) → (base : Base) → IsSimple base → text ≡ base_text Raw base → types.Class name ≡ base_type base
class_read text name is base simple e = ap base_type (one_base (class_base name) base (sym is ∙ e))

-- ---- components

pub component_is : (text : List ℕ) (component base type : JType) (element : List ℕ) (dims : ℕ) → IsSimple (shape_of component).base → text ≡ array_text component → element ≡ element_text text
    → ((of : Base) → IsSimple of → element ≡ base_text Raw of → base ≡ base_type of) → dims ≡ length text - length element - 1
    → ((of : Base) → base ≡ base_type of → type ≡ arrays_of dims of) → type ≡ component
component_is text component base type element dims simple is behind based counted over =
    let of : Base = (shape_of component).base in
    let is_element : element ≡ base_text Raw of = behind ∙ ap element_text is ∙ element_of (suc (shape_of component).dims) of in
    let long : length text ≡ suc (shape_of component).dims + length (base_text Raw of) = ap length is ∙ many (suc (shape_of component).dims) (base_text Raw of) in
    let short : length element ≡ length (base_text Raw of) = ap length is_element in
    let same : dims ≡ (shape_of component).dims = omega (arith, counted, long, short) in
    over of (based of simple is_element) ∙ ap (λ (n : ℕ). arrays_of n of) same ∙ arrays_of-shape_of component

-- one dimension more
pub next_dims : (old : JType) (component : Shape) (dims : ℕ) (of : Base) → old ≡ arrays_of dims of → component ≡ shape_of old → types.Array component ≡ arrays_of (dims + 1) of
next_dims old component dims of is seen =
    let next : suc dims ≡ dims + 1 = omega arith in
    ap types.Array (seen ∙ ap shape_of is ∙ shape_of-arrays_of dims of) ∙ ap (λ (n : ℕ). arrays_of n of) next

-- ---- arrays pushed behind others

abbrev pub AreSimple : List JType → Type 0
AreSimple components = AllByRecursion (λ (component : JType). IsSimple (shape_of component).base) components

abbrev pub Pushed : List ExactType → List (List ℕ) → List ExactType → Type 0
Pushed before texts after = (components : List JType) → AreSimple components → map array_text components ≡ texts → after ≡ before ++ map exact.Array components

pub pushed_none : (before : List ExactType) → Pushed before [] before
pushed_none before [] simple same = sym (append-nil before)
pushed_none before (c ∷ components) simple same = absurd cc

pub pushed_next : (before after : List ExactType) (text : List ℕ) (texts : List (List ℕ)) (component : JType)
    → ((of : JType) → IsSimple (shape_of of).base → text ≡ array_text of → component ≡ of) → Pushed (before ++ exact.Array component ∷ []) texts after → Pushed before (text ∷ texts) after
pushed_next before after text texts component read rest [] simple same = absurd cc
pushed_next before after text texts component read rest (c ∷ components) simple same =
    let first : array_text c ≡ text = cc in
    let others : map array_text components ≡ texts = cc in
    let is : component ≡ c = read c simple.0 (sym first) in
    rest components simple.1 others ∙ append_assoc before (exact.Array component ∷ []) (map exact.Array components) ∙ ap (λ (d : JType). before ++ exact.Array d ∷ map exact.Array components) is

pub pushed_more : (start now next : List ExactType) (all rest : List (List ℕ)) (text : List ℕ) (component : JType) → 1 ≤ length rest → text ≡ get_or rest 0 text
    → ((of : JType) → IsSimple (shape_of of).base → text ≡ array_text of → component ≡ of) → next ≡ now ++ exact.Array component ∷ []
    → ((after : List ExactType) → Pushed now rest after → Pushed start all after)
    → (after : List ExactType) → Pushed next (take (length rest - 1) (drop 1 rest)) after → Pushed start all after
pushed_more start now next all [] text component some at read pushed goes after more = absurd (omega (arith, some))
pushed_more start now next all (t ∷ others) text component some at read pushed goes after more =
    let long : length others ≤ length (t ∷ others) - 1 = omega arith in
    let same : take (length (t ∷ others) - 1) others ≡ others = take_all (length (t ∷ others) - 1) others long in
    let is : text ≡ t = at in
    let here : (of : JType) → IsSimple (shape_of of).base → t ≡ array_text of → component ≡ of = (λ of simple e. read of simple (is ∙ e)) in
    goes after (pushed_next now after t others component here (subst (λ (ts : List (List ℕ)). Pushed (now ++ exact.Array component ∷ []) ts after) same (subst (λ (us : List ExactType). Pushed us (take (length (t ∷ others) - 1) others) after) pushed more)))

pub pushed_done : (start now : List ExactType) (all rest : List (List ℕ)) → length rest < 1 → ((after : List ExactType) → Pushed now rest after → Pushed start all after) → Pushed start all now
pushed_done start now all [] none goes = goes now (pushed_none now)
pushed_done start now all (t ∷ rest) none goes = absurd (omega (arith, none))
