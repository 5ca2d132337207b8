-- The component arrays of a set of arrays, each added up to the first that is in the set: all of them are added.
use Rattle.std.proofs.Common.{◌≡◌, ◌==◌, ◌↔◌, ◌-◌, ◌≤◌, ℕ, zero, suc, Bool, true, false, is_some, List, [], ◌∷◌, ◌++◌, length, take, drop, get_or, replicate, refl, sym, ap, subst, ◌∙◌, inl, inr, arith}
use Rattle.std.proofs.lemmas.Bool.{eq-eqb}
use Rattle.std.proofs.lemmas.List.{take_all}
use Rattle.kb_names.specs.Shape.{Base, Shape}
use Rattle.kb_names.specs.Types.{shape_of, arrays_of}
use Rattle.kb_names.specs.Descriptors.{base_text}
use Rattle.kb_names.specs.declared.class_names.Spelling.TheVariants.{Raw}
use Rattle.kb_names.proofs.ShapeLaws.{shape_of-arrays_of}
use Rattle.kb_class.specs.Class.{Class}
use Rattle.kb_class.specs.Naming.{Has}
use Rattle.kb_classes.specs.World.{literal_in}
use Rattle.kb_classes.specs.Universe.{IsElement}
use Rattle.kb_classes.specs.Mentions.{AddsTexts, AnyOf, IsWantedArray, IsPartOf, IsOwnPartOf, array_parts, own_parts}
use Rattle.kb_classes.proofs.LiteralLaws.{any_has, has_none, adds_same, adds_all, set_is}
use Rattle.kb_classes.proofs.UniverseTexts.{no_parts, part_text_is}
use Rattle.kb_classes.proofs.UniverseLaws.{in_set}

-- ---- the parts of a text that begins with a byte

parts_none : (byte : ℕ) (bytes : List ℕ) → (byte == 91) ≡ false → array_parts (byte ∷ bytes) ≡ []
parts_none byte bytes e = rw e refl

parts_more : (byte : ℕ) (bytes : List ℕ) → (byte == 91) ≡ true → array_parts (byte ∷ bytes) ≡ (byte ∷ bytes) ∷ array_parts bytes
parts_more byte bytes e = rw e refl

own_none : (named : List (List ℕ)) (byte : ℕ) (bytes : List ℕ) → (byte == 91) ≡ false → own_parts named (byte ∷ bytes) ≡ []
own_none named byte bytes e = rw e refl

own_last : (named : List (List ℕ)) (byte : ℕ) (bytes : List ℕ) → (byte == 91) ≡ true → is_some (literal_in named bytes) ≡ true → own_parts named (byte ∷ bytes) ≡ (byte ∷ bytes) ∷ []
own_last named byte bytes e f = rw (e, f) refl

own_more : (named : List (List ℕ)) (byte : ℕ) (bytes : List ℕ) → (byte == 91) ≡ true → is_some (literal_in named bytes) ≡ false
    → own_parts named (byte ∷ bytes) ≡ (byte ∷ bytes) ∷ own_parts named bytes
own_more named byte bytes e f = rw (e, f) refl

-- the whole stands first
own_first : (named : List (List ℕ)) (byte : ℕ) (bytes : List ℕ) → (byte == 91) ≡ true → Has (own_parts named (byte ∷ bytes)) (byte ∷ bytes)
own_first named byte bytes e = go (is_some (literal_in named bytes)) refl where
  go : (c : Bool) → is_some (literal_in named bytes) ≡ c → Has (own_parts named (byte ∷ bytes)) (byte ∷ bytes)
  go true f = subst (λ (ts : List (List ℕ)). Has ts (byte ∷ bytes)) (sym (own_last named byte bytes e f)) (zero, refl)
  go false f = subst (λ (ts : List (List ℕ)). Has ts (byte ∷ bytes)) (sym (own_more named byte bytes e f)) (zero, refl)

-- ---- each is a part

own_there : (named : List (List ℕ)) (whole text : List ℕ) → Has (own_parts named whole) text → Has (array_parts whole) text
own_there named [] text has = has
own_there named (byte ∷ bytes) text has = go (byte == 91) refl (is_some (literal_in named bytes)) refl (own_there named bytes text) where
  last : Has ((byte ∷ bytes) ∷ []) text → Has ((byte ∷ bytes) ∷ array_parts bytes) text
  last (zero, at) = (zero, at)
  last (suc i, at) = absurd (has_none text (i, at))

  more : (Has (own_parts named bytes) text → Has (array_parts bytes) text) → Has ((byte ∷ bytes) ∷ own_parts named bytes) text → Has ((byte ∷ bytes) ∷ array_parts bytes) text
  more later (zero, at) = (zero, at)
  more later (suc i, at) = (let rest : Has (array_parts bytes) text = later (i, at) in (suc rest.0, rest.1))

  go : (b : Bool) → (byte == 91) ≡ b → (c : Bool) → is_some (literal_in named bytes) ≡ c → (Has (own_parts named bytes) text → Has (array_parts bytes) text)
      → Has (array_parts (byte ∷ bytes)) text
  go false e c f later = absurd (has_none text (subst (λ (ts : List (List ℕ)). Has ts text) (own_none named byte bytes e) has))
  go true e true f later =
      subst (λ (ts : List (List ℕ)). Has ts text) (sym (parts_more byte bytes e)) (last (subst (λ (ts : List (List ℕ)). Has ts text) (own_last named byte bytes e f) has))
  go true e false f later =
      subst (λ (ts : List (List ℕ)). Has ts text) (sym (parts_more byte bytes e)) (more later (subst (λ (ts : List (List ℕ)). Has ts text) (own_more named byte bytes e f) has))

-- ---- each part is one of a text of the set

abbrev tail_of : List ℕ → List ℕ
tail_of [] = []
tail_of (byte ∷ bytes) = bytes

-- what has a component array is an array whose element may be one too
wanted_tail : (classes : List Class) (byte : ℕ) (bytes text : List ℕ) → IsWantedArray classes (byte ∷ bytes) → Has (array_parts bytes) text → IsWantedArray classes bytes
wanted_tail classes byte bytes text wanted has = go (shape_of wanted.0).dims refl where
  base : Base
  base = (shape_of wanted.0).base

  behind : (dims : ℕ) → (shape_of wanted.0).dims ≡ dims → bytes ≡ replicate dims 91 ++ base_text Raw base
  behind dims e = (let same : bytes ≡ replicate (shape_of wanted.0).dims 91 ++ base_text Raw base = ap tail_of wanted.2 in same ∙ ap (λ (n : ℕ). replicate n 91 ++ base_text Raw base) e)

  go : (dims : ℕ) → (shape_of wanted.0).dims ≡ dims → IsWantedArray classes bytes
  go zero e =
      let none : array_parts bytes ≡ [] = ap array_parts (behind zero e) ∙ no_parts base in
      absurd (has_none text (subst (λ (ts : List (List ℕ)). Has ts text) none has))
  go (suc dims) e = (
    arrays_of dims base,
    subst (IsElement classes) (sym (ap (λ (s : Shape). s.base) (shape_of-arrays_of dims base))) wanted.1,
    behind (suc dims) e ∙ sym (part_text_is dims base),
  )

-- a text of the set that is such an array, and of which the text is one of its own parts
abbrev IsOwned : List Class → List (List ℕ) → List ℕ → Type 0
IsOwned classes named text = (whole : List ℕ) × Has named whole × IsWantedArray classes whole × Has (own_parts named whole) text

owned : (classes : List Class) (named : List (List ℕ)) (text rest from : List ℕ) → Has named from → IsWantedArray classes from → IsWantedArray classes rest
    → ((t : List ℕ) → Has (own_parts named rest) t → Has (own_parts named from) t) → Has (array_parts rest) text → IsOwned classes named text
owned classes named text [] from there wanted own reach has = absurd (has_none text has)
owned classes named text (byte ∷ bytes) from there wanted own reach has =
    go (λ f h w o r p. owned classes named text bytes f h w o r p) (byte == 91) refl
  where
    go : ((f : List ℕ) → Has named f → IsWantedArray classes f → IsWantedArray classes bytes → ((t : List ℕ) → Has (own_parts named bytes) t → Has (own_parts named f) t)
        → Has (array_parts bytes) text → IsOwned classes named text) → (b : Bool) → (byte == 91) ≡ b → IsOwned classes named text
    go later false e = absurd (has_none text (subst (λ (ts : List (List ℕ)). Has ts text) (parts_none byte bytes e) has))
    go later true e = split (subst (λ (ts : List (List ℕ)). Has ts text) (parts_more byte bytes e) has) where
      further : (i : ℕ) → Has (array_parts bytes) text → IsOwned classes named text
      further i part = elim (in_set named bytes) [
        | inl h ↦ later bytes h.0 (wanted_tail classes byte bytes text own part) (wanted_tail classes byte bytes text own part) (λ t o. o) part
        | inr h ↦ later from there wanted (wanted_tail classes byte bytes text own part)
            (λ t o. reach t (subst (λ (ts : List (List ℕ)). Has ts t) (sym (own_more named byte bytes e h.1)) (suc o.0, o.1))) part
      ]

      split : Has ((byte ∷ bytes) ∷ array_parts bytes) text → IsOwned classes named text
      split (zero, at) =
          let same : byte ∷ bytes ≡ text = cc in
          (from, there, wanted, reach text (subst (λ (t : List ℕ). Has (own_parts named (byte ∷ bytes)) t) same (own_first named byte bytes e)))
      split (suc i, at) = further i (i, at)

-- ---- all of them

pub owned_parts : (classes : List Class) (named : List (List ℕ)) (text : List ℕ) → AnyOf (IsOwnPartOf classes named) named text ↔ AnyOf (IsPartOf classes) named text
owned_parts classes named text = (λ any. there any, λ any. back any) where
  there : AnyOf (IsOwnPartOf classes named) named text → AnyOf (IsPartOf classes) named text
  there any =
      let h : (whole : List ℕ) × Has named whole × IsOwnPartOf classes named whole text = (any_has (IsOwnPartOf classes named) named text).0 any in
      (any_has (IsPartOf classes) named text).1 (h.0, h.1, (h.2.0, own_there named h.0 text h.2.1))

  back : AnyOf (IsPartOf classes) named text → AnyOf (IsOwnPartOf classes named) named text
  back any =
      let h : (whole : List ℕ) × Has named whole × IsPartOf classes whole text = (any_has (IsPartOf classes) named text).0 any in
      let o : IsOwned classes named text = owned classes named text h.0 h.0 h.1 h.2.0 h.2.0 (λ t p. p) h.2.1 in
      (any_has (IsOwnPartOf classes named) named text).1 (o.0, o.1, (o.2, o.3))

-- the own parts of an array are added
pub wanted_own : (classes : List Class) (named before after : List (List ℕ)) (whole : List ℕ) → IsWantedArray classes whole → after ≡ before ++ own_parts named whole
    → AddsTexts before after (IsOwnPartOf classes named whole)
wanted_own classes named before after whole wanted pushed =
    adds_same before after (Has (own_parts named whole)) (IsOwnPartOf classes named whole) (λ t. (λ has. (wanted, has), λ part. part.1)) (adds_all before after (own_parts named whole) pushed)

-- a set of what is added has the parts of all
pub own_set : (classes : List Class) (named texts set : List (List ℕ)) → AddsTexts [] texts (AnyOf (IsOwnPartOf classes named) named) → ((text : List ℕ) → Has set text ↔ Has texts text)
    → (text : List ℕ) → Has set text ↔ AnyOf (IsPartOf classes) named text
own_set classes named texts set adds same text =
    let is : Has set text ↔ AnyOf (IsOwnPartOf classes named) named text = set_is texts set (AnyOf (IsOwnPartOf classes named) named) adds same text in
    let own : AnyOf (IsOwnPartOf classes named) named text ↔ AnyOf (IsPartOf classes) named text = owned_parts classes named text in
    (λ has. own.0 (is.0 has), λ any. is.1 (own.1 any))

-- a walk over the parts of an array that ends at the first that is in the set
pub own_stops : (named : List (List ℕ)) (rest whole : List ℕ) (start now next : List (List ℕ)) → 1 ≤ length rest → get_or rest 0 0 ≡ 91
    → is_some (literal_in named (take (length rest - 1) (drop 1 rest))) ≡ true → next ≡ now ++ rest ∷ [] → now ++ own_parts named rest ≡ start ++ own_parts named whole → next ≡ start ++ own_parts named whole
own_stops named [] whole start now next some is stops pushed goes = absurd (omega (arith, some))
own_stops named (byte ∷ bytes) whole start now next some is stops pushed goes =
    let long : length bytes ≤ length (byte ∷ bytes) - 1 = omega arith in
    let same : take (length (byte ∷ bytes) - 1) bytes ≡ bytes = take_all (length (byte ∷ bytes) - 1) bytes long in
    let last : own_parts named (byte ∷ bytes) ≡ (byte ∷ bytes) ∷ [] = own_last named byte bytes (eq-eqb byte 91 is) (subst (λ (bs : List ℕ). is_some (literal_in named bs) ≡ true) same stops) in
    pushed ∙ ap (λ (ts : List (List ℕ)). now ++ ts) (sym last) ∙ goes
