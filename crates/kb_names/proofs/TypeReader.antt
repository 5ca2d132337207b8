-- The reader of types reads their descriptors.
use Rattle.std.proofs.Common.{◌≡◌, ℕ, zero, suc, ◌+◌, ◌≤◌, Bool, true, false, Option, Some, None, List, [], ◌∷◌, ◌++◌, ◌⊎◌, refl, sym, ◌∙◌, ap, arith, append_assoc, subst, inl, inr, if◌then◌else◌, eqb, nat_lt, replicate, add-zero, zero-add}
use Rattle.std.specs.Option.{option_map, option_and_then}
use Rattle.std.proofs.lemmas.Bool.Decides.{nat_tests}
use Rattle.std.proofs.lemmas.List.{replicate_more}
use Rattle.kb_names.specs.Shape.{Base, bool_base, byte_base, char_base, short_base, int_base, long_base, float_base, double_base, class_base, Shape}
use Rattle.kb_names.specs.Types.{shape_of, arrays_of}
use Rattle.kb_names.specs.Reading.{reached}
use Rattle.kb_names.specs.Descriptors.{class_text, base_text, shape_text, type_text, HasText, IsType, SpellsType}
use Rattle.kb_names.specs.Stages.{base_of, class_start, class_read, class_step, type_step, type_read}
use Rattle.kb_names.specs.declared.class_names.Spelling.{Spelling}
use Rattle.kb_names.specs.declared.class_names.ClassStage.{ClassStage}
use Rattle.kb_names.proofs.ClassReader.{class_so_far, IsClassStage, class_reader, class_semicolon}
use Rattle.kb_names.specs.declared.types.JType.{JType}
use Rattle.kb_names.specs.declared.descriptors.TypeStage.{TypeStage}
use Rattle.kb_names.specs.declared.descriptors.TypeStage.TheVariants.{Dims, InName, Whole}
use Rattle.kb_names.proofs.Reading.{IsReader, reached-cons, reached-then}
use Rattle.kb_names.proofs.Choices.{chosen, mapped, passed}
use Rattle.kb_names.proofs.ShapeLaws.{shape_of-arrays_of, arrays_of-shape_of}

abbrev pub type_so_far : Spelling → TypeStage → List ℕ
type_so_far spelling (Dims own dims) = replicate dims 91
type_so_far spelling (InName dims class) = replicate dims 91 ++ 76 ∷ class_so_far class
type_so_far spelling (Whole type) = type_text spelling type

abbrev pub IsTypeStage : Spelling → TypeStage → Type 0
IsTypeStage spelling (Dims own dims) = (own ≡ spelling) × (dims ≤ 255)
IsTypeStage spelling (InName dims class) = (dims ≤ 255) × IsClassStage spelling class
IsTypeStage spelling (Whole type) = IsType spelling type

-- the letter of a base
letter_or : (letter k : ℕ) (base other : Base) (others : Option Base) → (if eqb letter k then Some base else others) ≡ Some other
    → ((letter ≡ k) × (base ≡ other)) ⊎ (others ≡ Some other)
letter_or letter k base other others e = go (chosen (eqb letter k) (Some base) others (Some other) e)
  where
    go : ((eqb letter k ≡ true) × (Some base ≡ Some other)) ⊎ ((eqb letter k ≡ false) × (others ≡ Some other)) → ((letter ≡ k) × (base ≡ other)) ⊎ (others ≡ Some other)
    go (inl (p, x)) = inl (grind (arith, nat_tests, p), cc)
    go (inr (p, x)) = inr x

abbrev IsLetterOf : Spelling → ℕ → Base → Type 0
IsLetterOf spelling letter base = HasText spelling base × (base_text spelling base ≡ letter ∷ [])

its_letter : (spelling : Spelling) (letter k : ℕ) (base other : Base) → HasText spelling base → base_text spelling base ≡ k ∷ [] → (letter ≡ k) × (base ≡ other) → IsLetterOf spelling letter other
its_letter spelling letter k base other has text e = subst (IsLetterOf spelling letter) e.1 (has, text ∙ ap (λ (l : ℕ). l ∷ []) (sym e.0))

base_of-letter : (spelling : Spelling) (letter : ℕ) (base : Base) → base_of letter ≡ Some base → IsLetterOf spelling letter base
base_of-letter spelling letter base e =
    elim (letter_or letter 90 bool_base base (if eqb letter 66 then Some byte_base else (if eqb letter 67 then Some char_base else (if eqb letter 83 then Some short_base else (if eqb letter 73 then Some int_base else (if eqb letter 74 then Some long_base else (if eqb letter 70 then Some float_base else (if eqb letter 68 then Some double_base else None))))))) e) [
      | inl h ↦ its_letter spelling letter 90 bool_base base tt refl h
      | inr e1 ↦
          elim (letter_or letter 66 byte_base base (if eqb letter 67 then Some char_base else (if eqb letter 83 then Some short_base else (if eqb letter 73 then Some int_base else (if eqb letter 74 then Some long_base else (if eqb letter 70 then Some float_base else (if eqb letter 68 then Some double_base else None)))))) e1) [
            | inl h ↦ its_letter spelling letter 66 byte_base base tt refl h
            | inr e2 ↦
                elim (letter_or letter 67 char_base base (if eqb letter 83 then Some short_base else (if eqb letter 73 then Some int_base else (if eqb letter 74 then Some long_base else (if eqb letter 70 then Some float_base else (if eqb letter 68 then Some double_base else None))))) e2) [
                  | inl h ↦ its_letter spelling letter 67 char_base base tt refl h
                  | inr e3 ↦
                      elim (letter_or letter 83 short_base base (if eqb letter 73 then Some int_base else (if eqb letter 74 then Some long_base else (if eqb letter 70 then Some float_base else (if eqb letter 68 then Some double_base else None)))) e3) [
                        | inl h ↦ its_letter spelling letter 83 short_base base tt refl h
                        | inr e4 ↦
                            elim (letter_or letter 73 int_base base (if eqb letter 74 then Some long_base else (if eqb letter 70 then Some float_base else (if eqb letter 68 then Some double_base else None))) e4) [
                              | inl h ↦ its_letter spelling letter 73 int_base base tt refl h
                              | inr e5 ↦
                                  elim (letter_or letter 74 long_base base (if eqb letter 70 then Some float_base else (if eqb letter 68 then Some double_base else None)) e5) [
                                    | inl h ↦ its_letter spelling letter 74 long_base base tt refl h
                                    | inr e6 ↦
                                        elim (letter_or letter 70 float_base base (if eqb letter 68 then Some double_base else None) e6) [
                                          | inl h ↦ its_letter spelling letter 70 float_base base tt refl h
                                          | inr e7 ↦
                                              elim (letter_or letter 68 double_base base None e7) [
                                                | inl h ↦ its_letter spelling letter 68 double_base base tt refl h
                                                | inr e8 ↦ cc
                                              ]
                                        ]
                                  ]
                            ]
                      ]
                ]
          ]
    ]

-- the type of these dimensions and this base
IsType-arrays_of : (spelling : Spelling) (dims : ℕ) (base : Base) → dims ≤ 255 → HasText spelling base → IsType spelling (arrays_of dims base)
IsType-arrays_of spelling dims base le has =
    let same = sym (shape_of-arrays_of dims base) in
    record {
      base = subst (λ (s : Shape). HasText spelling s.base) same has;
      dims = subst (λ (s : Shape). s.dims ≤ 255) same le;
    }

type_text-arrays_of : (spelling : Spelling) (dims : ℕ) (base : Base) → type_text spelling (arrays_of dims base) ≡ replicate dims 91 ++ base_text spelling base
type_text-arrays_of spelling dims base = ap (shape_text spelling) (shape_of-arrays_of dims base)

abbrev pub TypeFollows : Spelling → TypeStage → ℕ → TypeStage → Type 0
TypeFollows spelling s byte t = IsTypeStage spelling t × (type_so_far spelling t ≡ type_so_far spelling s ++ byte ∷ [])

dims_follows : (spelling own : Spelling) (dims byte : ℕ) (t : TypeStage) → own ≡ spelling → dims ≤ 255 → type_step (Dims own dims) byte ≡ Some t → TypeFollows spelling (Dims own dims) byte t
unfolding type_step
dims_follows spelling own dims byte t is_own le e =
    first (chosen (eqb byte 91) (if nat_lt dims 255 then Some (Dims own (dims + 1)) else None)
    (if eqb byte 76 then Some (InName dims (class_start own)) else option_map (λ (base : Base). Whole (arrays_of dims base)) (base_of byte)) (Some t) e)
  where
    based : (base : Base) → base_of byte ≡ Some base → Whole (arrays_of dims base) ≡ t → TypeFollows spelling (Dims own dims) byte t
    based base is same =
        let letter = base_of-letter spelling byte base is in
        subst (TypeFollows spelling (Dims own dims) byte) same
        (IsType-arrays_of spelling dims base le letter.0, type_text-arrays_of spelling dims base ∙ ap (λ (y : List ℕ). replicate dims 91 ++ y) letter.1)

    named : byte ≡ 76 → InName dims (class_start own) ≡ t → TypeFollows spelling (Dims own dims) byte t
    named is same =
        let start = class_reader own in
        subst (TypeFollows spelling (Dims own dims) byte) same (
          (le, subst (λ (q : Spelling). IsClassStage q (class_start own)) is_own start.good),
          ap (λ (y : List ℕ). replicate dims 91 ++ 76 ∷ y) start.nothing ∙ ap (λ (b : ℕ). replicate dims 91 ++ b ∷ []) (sym is),
        )

    third : ((eqb byte 76 ≡ true) × (Some (InName dims (class_start own)) ≡ Some t)) ⊎ ((eqb byte 76 ≡ false) × (option_map (λ (base : Base). Whole (arrays_of dims base)) (base_of byte) ≡ Some t))
        → TypeFollows spelling (Dims own dims) byte t
    third (inl (p, x)) = named (grind (arith, nat_tests, p)) cc
    third (inr (p, x)) = let m = mapped (λ (base : Base). Whole (arrays_of dims base)) (base_of byte) t x in based m.0 m.1 m.2

    second : byte ≡ 91 → ((nat_lt dims 255 ≡ true) × (Some (Dims own (dims + 1)) ≡ Some t)) ⊎ ((nat_lt dims 255 ≡ false) × (None ≡ Some t)) → TypeFollows spelling (Dims own dims) byte t
    second is (inl (p, x)) =
        let same : Dims own (dims + 1) ≡ t = cc in
        let more : dims + 1 ≤ 255 = grind (arith, nat_tests, p) in
        subst (TypeFollows spelling (Dims own dims) byte) same ((is_own, more), sym (replicate_more dims 91) ∙ ap (λ (b : ℕ). replicate dims 91 ++ b ∷ []) (sym is))
    second is (inr (p, x)) = cc

    first : ((eqb byte 91 ≡ true) × ((if nat_lt dims 255 then Some (Dims own (dims + 1)) else None) ≡ Some t))
        ⊎ ((eqb byte 91 ≡ false) × ((if eqb byte 76 then Some (InName dims (class_start own)) else option_map (λ (base : Base). Whole (arrays_of dims base)) (base_of byte)) ≡ Some t))
        → TypeFollows spelling (Dims own dims) byte t
    first (inl (p, x)) = second (grind (arith, nat_tests, p)) (chosen (nat_lt dims 255) (Some (Dims own (dims + 1))) None (Some t) x)
    first (inr (p, x)) =
        third (chosen (eqb byte 76) (Some (InName dims (class_start own))) (option_map (λ (base : Base). Whole (arrays_of dims base)) (base_of byte)) (Some t) x)

in_name_follows : (spelling : Spelling) (dims : ℕ) (class : ClassStage) (byte : ℕ) (t : TypeStage) → dims ≤ 255 → IsClassStage spelling class → type_step (InName dims class) byte ≡ Some t
    → TypeFollows spelling (InName dims class) byte t
unfolding type_step
in_name_follows spelling dims class byte t le good e =
    first (chosen (eqb byte 59) (option_map (λ (name : List ℕ). Whole (arrays_of dims (class_base name))) (class_read class)) (option_map (λ (next : ClassStage). InName dims next) (class_step class byte)) (Some t) e)
  where
    ends : byte ≡ 59 → (name : List ℕ) → class_read class ≡ Some name → Whole (arrays_of dims (class_base name)) ≡ t → TypeFollows spelling (InName dims class) byte t
    ends is name read same =
        let spelled = (class_reader spelling).found class name good read in
        subst (TypeFollows spelling (InName dims class) byte) same (
          IsType-arrays_of spelling dims (class_base name) le spelled.0,
          type_text-arrays_of spelling dims (class_base name)
              ∙ ap (λ (y : List ℕ). replicate dims 91 ++ 76 ∷ (y ++ 59 ∷ [])) (sym spelled.1)
              ∙ sym (append_assoc (replicate dims 91) (76 ∷ class_so_far class) (59 ∷ []))
              ∙ ap (λ (b : ℕ). (replicate dims 91 ++ 76 ∷ class_so_far class) ++ b ∷ []) (sym is),
        )

    goes : (next : ClassStage) → class_step class byte ≡ Some next → InName dims next ≡ t → TypeFollows spelling (InName dims class) byte t
    goes next step same =
        let on = (class_reader spelling).follows class next byte good step in
        subst (TypeFollows spelling (InName dims class) byte) same
        ((le, on.0), ap (λ (y : List ℕ). replicate dims 91 ++ 76 ∷ y) on.1 ∙ sym (append_assoc (replicate dims 91) (76 ∷ class_so_far class) (byte ∷ [])))

    first : ((eqb byte 59 ≡ true) × (option_map (λ (name : List ℕ). Whole (arrays_of dims (class_base name))) (class_read class) ≡ Some t))
        ⊎ ((eqb byte 59 ≡ false) × (option_map (λ (next : ClassStage). InName dims next) (class_step class byte) ≡ Some t)) → TypeFollows spelling (InName dims class) byte t
    first (inl (p, x)) =
        let m = mapped (λ (name : List ℕ). Whole (arrays_of dims (class_base name))) (class_read class) t x in
        ends (grind (arith, nat_tests, p)) m.0 m.1 m.2
    first (inr (p, x)) =
        let m = mapped (λ (next : ClassStage). InName dims next) (class_step class byte) t x in
        goes m.0 m.1 m.2

pub type_follows : (spelling : Spelling) (s t : TypeStage) (byte : ℕ) → IsTypeStage spelling s → type_step s byte ≡ Some t → TypeFollows spelling s byte t
unfolding type_step
type_follows spelling (Dims own dims) t byte good e = dims_follows spelling own dims byte t good.0 good.1 e
type_follows spelling (InName dims class) t byte good e = in_name_follows spelling dims class byte t good.0 good.1 e
type_follows spelling (Whole type) t byte good e = cc

-- a byte that goes on with a class's name goes on with the type
class_goes_on : (dims : ℕ) (class next : ClassStage) (byte : ℕ) → class_step class byte ≡ Some next → type_step (InName dims class) byte ≡ Some (InName dims next)
unfolding type_step
class_goes_on dims class next byte e = go (eqb byte 59) refl
  where
    go : (t : Bool) → eqb byte 59 ≡ t
        → (if eqb byte 59 then option_map (λ (name : List ℕ). Whole (arrays_of dims (class_base name))) (class_read class) else option_map (λ (n : ClassStage). InName dims n) (class_step class byte)) ≡ Some (InName dims next)
    go true p =
        let is : byte ≡ 59 = grind (arith, nat_tests, p) in
        let none : class_step class byte ≡ None = ap (class_step class) is ∙ class_semicolon class in
        cc
    go false p =
        ap (λ (t : Bool). if t then option_map (λ (name : List ℕ). Whole (arrays_of dims (class_base name))) (class_read class) else option_map (λ (n : ClassStage). InName dims n) (class_step class byte)) p
        ∙ ap (option_map (λ (n : ClassStage). InName dims n)) e

-- a class's name is read as it is by itself
reads_class : (dims : ℕ) (class last : ClassStage) (xs : List ℕ) → reached class_step class xs ≡ Some last → reached type_step (InName dims class) xs ≡ Some (InName dims last)
reads_class dims class last [] e = let same : class ≡ last = cc in ap (λ (c : ClassStage). Some (InName dims c)) same
reads_class dims class last (x ∷ xs) e =
    let m = passed (λ (n : ClassStage). reached class_step n xs) (class_step class x) last e in
    reached-cons type_step (InName dims class) (InName dims m.0) x xs (class_goes_on dims class m.0 x m.1) ∙ reads_class dims m.0 last xs m.2

-- and a semicolon ends it
class_ends : (dims : ℕ) (class : ClassStage) (name : List ℕ) → class_read class ≡ Some name → reached type_step (InName dims class) (59 ∷ []) ≡ Some (Whole (arrays_of dims (class_base name)))
unfolding type_step
class_ends dims class name e =
    ap (option_and_then (λ (t : TypeStage). Some t)) (ap (option_map (λ (n : List ℕ). Whole (arrays_of dims (class_base n)))) e)

pub type_live : (spelling : Spelling) (s : TypeStage) → IsTypeStage spelling s → (more : List ℕ) × (t : TypeStage) × (v : JType) × (reached type_step s more ≡ Some t) × (type_read t ≡ Some v)
unfolding type_step
type_live spelling (Dims own dims) good = (73 ∷ [], Whole (arrays_of dims int_base), arrays_of dims int_base, refl, refl)
type_live spelling (InName dims class) good =
    let on = (class_reader spelling).live class good.1 in (
      on.0 ++ 59 ∷ [],
      Whole (arrays_of dims (class_base on.2)),
      arrays_of dims (class_base on.2),
      reached-then type_step (InName dims class) (InName dims on.1) on.0 (59 ∷ []) (reads_class dims class on.1 on.0 on.3) ∙ class_ends dims on.1 on.2 on.4,
      refl,
    )
type_live spelling (Whole type) good = ([], Whole type, type, refl, refl)

type_found : (spelling : Spelling) (s : TypeStage) (v : JType) → IsTypeStage spelling s → type_read s ≡ Some v → SpellsType spelling v (type_so_far spelling s)
type_found spelling (Dims own dims) v good e = cc
type_found spelling (InName dims class) v good e = cc
type_found spelling (Whole type) v good e = let same : type ≡ v = cc in (subst (IsType spelling) same good, ap (type_text spelling) same)

-- dimensions are read as they are written
reads_dims : (spelling : Spelling) (n k : ℕ) → n + k ≤ 255 → reached type_step (Dims spelling n) (replicate k 91) ≡ Some (Dims spelling (n + k))
unfolding type_step
reads_dims spelling n zero le = ap (λ (m : ℕ). Some (Dims spelling m)) (sym (add-zero n))
reads_dims spelling n (suc k) le =
    let below : nat_lt n 255 ≡ true = grind (arith, nat_tests, le) in
    let sums : n + 1 + k ≡ n + suc k = omega arith in
    reached-cons type_step (Dims spelling n) (Dims spelling (n + 1)) 91 (replicate k 91) (ap (λ (t : Bool). if t then Some (Dims spelling (n + 1)) else None) below)
    ∙ reads_dims spelling (n + 1) k (omega (arith, le))
    ∙ ap (λ (m : ℕ). Some (Dims spelling m)) sums

-- a base is
reads_base : (spelling : Spelling) (n : ℕ) (base : Base) → HasText spelling base → reached type_step (Dims spelling n) (base_text spelling base) ≡ Some (Whole (arrays_of n base))
unfolding type_step
reads_base spelling n bool_base has = refl
reads_base spelling n byte_base has = refl
reads_base spelling n char_base has = refl
reads_base spelling n short_base has = refl
reads_base spelling n int_base has = refl
reads_base spelling n long_base has = refl
reads_base spelling n float_base has = refl
reads_base spelling n double_base has = refl
reads_base spelling n (class_base name) has =
    let read = (class_reader spelling).only name (class_text spelling name) (has, refl) in
    reached-then type_step (InName n (class_start spelling)) (InName n read.0) (class_text spelling name) (59 ∷ []) (reads_class n (class_start spelling) read.0 (class_text spelling name) read.1)
    ∙ class_ends n read.0 name read.2

-- and so a type is
pub reads_type : (spelling : Spelling) (type : JType) → IsType spelling type → reached type_step (Dims spelling 0) (type_text spelling type) ≡ Some (Whole type)
reads_type spelling type is =
    reached-then type_step (Dims spelling 0) (Dims spelling (shape_of type).dims) (replicate (shape_of type).dims 91) (base_text spelling (shape_of type).base) (starts (shape_of type).dims is.dims)
    ∙ reads_base spelling (shape_of type).dims (shape_of type).base is.base
    ∙ ap (λ (t : JType). Some (Whole t)) (arrays_of-shape_of type)
  where
    starts : (k : ℕ) → k ≤ 255 → reached type_step (Dims spelling 0) (replicate k 91) ≡ Some (Dims spelling k)
    starts k le = reads_dims spelling 0 k (omega (arith, le)) ∙ ap (λ (m : ℕ). Some (Dims spelling m)) (zero-add k)

pub type_reader : (spelling : Spelling) → IsReader type_step (Dims spelling 0) type_read (SpellsType spelling) (type_so_far spelling) (IsTypeStage spelling)
type_reader spelling = record {
  nothing = refl;
  good = (refl, omega arith);
  follows = type_follows spelling;
  live = type_live spelling;
  found = type_found spelling;
  only = λ v text spells. (Whole v, ap (reached type_step (Dims spelling 0)) spells.1 ∙ reads_type spelling v spells.0, refl);
}
