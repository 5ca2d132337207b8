-- The reader of names reads their spelling.
use Rattle.std.proofs.Common.{◌≡◌, ℕ, ◌+◌, ◌*◌, ◌/◌, ◌%◌, ◌<◌, Bool, true, false, Option, Some, None, IsSome, List, [], ◌∷◌, ◌++◌, refl, sym, ◌∙◌, ap, arith, append_assoc, append-nil, subst, inl, inr, if◌then◌else◌, ◌||◌, ◌⊎◌, eqb, is_some}
use Rattle.std.specs.Option.{option_and_then, option_map}
use Rattle.std.proofs.lemmas.Bool.Decides.{nat_tests}
use Rattle.std.proofs.lemmas.Grind.{flat_map-append}
use Rattle.kb_names.specs.Bytes.{AreBytes}
use Rattle.kb_names.specs.Escapes.{is_plain, hex_digit, hex_value, pair_value, byte_text, name_text, SpellsName, with_escaped, name_step, name_read}
use Rattle.kb_names.specs.Reading.{reached}
use Rattle.kb_names.specs.declared.name_texts.NameStage.{NameStage}
use Rattle.kb_names.specs.declared.name_texts.NameStage.TheVariants.{Plain, Percent, High}
use Rattle.kb_names.proofs.Bytes.{AreBytes-push}
use Rattle.kb_names.proofs.Reading.{IsReader, reached-cons, reached-then}
use Rattle.kb_names.proofs.Choices.{chosen, mapped, passed, some_value, is_some-IsSome}

is_plain-small : (b : ℕ) → is_plain b ≡ true → b < 256
is_plain-small b e = grind (arith, nat_tests)

hex_value-digit : (f v : ℕ) → hex_value f ≡ Some v → (v < 16) × (hex_digit v ≡ f)
hex_value-digit f v e = grind (arith, nat_tests)

hex_digit-value : (v : ℕ) → v < 16 → hex_value (hex_digit v) ≡ Some v
hex_digit-value v lt = grind (arith, nat_tests)

name_text-push : (n : List ℕ) (b : ℕ) → name_text (n ++ b ∷ []) ≡ name_text n ++ byte_text b
name_text-push n b = flat_map-append byte_text n (b ∷ []) ∙ ap (λ (y : List ℕ). name_text n ++ y) (append-nil (byte_text b))

abbrev pub text_so_far : NameStage → List ℕ
text_so_far (Plain name) = name_text name
text_so_far (Percent name) = name_text name ++ 37 ∷ []
text_so_far (High name first) = name_text name ++ 37 ∷ first ∷ []

abbrev pub IsStage : NameStage → Type 0
IsStage (Plain name) = AreBytes name
IsStage (Percent name) = AreBytes name
IsStage (High name first) = AreBytes name × IsSome (hex_value first)

-- the spelling of a byte, by what it is
byte_text-plain : (b : ℕ) → is_plain b ≡ true → byte_text b ≡ b ∷ []
byte_text-plain b p = ap (λ (t : Bool). if t then b ∷ [] else 37 ∷ hex_digit (b / 16) ∷ hex_digit (b % 16) ∷ []) p

byte_text-escaped : (b : ℕ) → is_plain b ≡ false → byte_text b ≡ 37 ∷ hex_digit (b / 16) ∷ hex_digit (b % 16) ∷ []
byte_text-escaped b p = ap (λ (t : Bool). if t then b ∷ [] else 37 ∷ hex_digit (b / 16) ∷ hex_digit (b % 16) ∷ []) p

-- the steps
percent_is_not_plain : (b : ℕ) → is_plain b ≡ true → eqb b 37 ≡ false
percent_is_not_plain b p = grind (arith, nat_tests)

plain_step : (name : List ℕ) (b : ℕ) → is_plain b ≡ true → name_step (Plain name) b ≡ Some (Plain (name ++ b ∷ []))
unfolding name_step
plain_step name b p =
    ap (λ (t : Bool). if t then Some (Percent name) else if is_plain b then Some (Plain (name ++ b ∷ [])) else None) (percent_is_not_plain b p)
    ∙ ap (λ (t : Bool). if t then Some (Plain (name ++ b ∷ [])) else None) p

percent_step : (name : List ℕ) (first value : ℕ) → hex_value first ≡ Some value → name_step (Percent name) first ≡ Some (High name first)
unfolding name_step
percent_step name first value e = ap (λ (o : Option ℕ). if is_some o then Some (High name first) else None) e

pair_value-of : (first second high low value : ℕ) → hex_value first ≡ Some high → hex_value second ≡ Some low → 16 * high + low ≡ value → pair_value first second ≡ Some value
pair_value-of first second high low value a b e =
    ap (option_and_then (λ (h : ℕ). option_map (λ (l : ℕ). 16 * h + l) (hex_value second))) a ∙ ap (option_map (λ (l : ℕ). 16 * high + l)) b ∙ ap Some e

high_step : (name : List ℕ) (first second value : ℕ) → pair_value first second ≡ Some value → is_plain value ≡ false → name_step (High name first) second ≡ Some (Plain (name ++ value ∷ []))
unfolding name_step
high_step name first second value e p =
    ap (option_and_then (λ (v : ℕ). with_escaped name v)) e ∙ ap (λ (t : Bool). if t then None else Some (Plain (name ++ value ∷ []))) p

-- a byte is read as it is written
reads_byte : (name : List ℕ) (b : ℕ) → b < 256 → reached name_step (Plain name) (byte_text b) ≡ Some (Plain (name ++ b ∷ []))
unfolding name_step
reads_byte name b lt = go (is_plain b) refl
  where
    go : (t : Bool) → is_plain b ≡ t → reached name_step (Plain name) (byte_text b) ≡ Some (Plain (name ++ b ∷ []))
    go true p =
        ap (reached name_step (Plain name)) (byte_text-plain b p)
        ∙ reached-cons name_step (Plain name) (Plain (name ++ b ∷ [])) b [] (plain_step name b p)
    go false p =
        let high = hex_digit-value (b / 16) (omega (arith, lt)) in
        let low = hex_digit-value (b % 16) (omega (arith, lt)) in
        let pair = pair_value-of (hex_digit (b / 16)) (hex_digit (b % 16)) (b / 16) (b % 16) b high low (omega (arith, lt)) in
        ap (reached name_step (Plain name)) (byte_text-escaped b p)
        ∙ reached-cons name_step (Percent name) (High name (hex_digit (b / 16))) (hex_digit (b / 16)) (hex_digit (b % 16) ∷ []) (percent_step name (hex_digit (b / 16)) (b / 16) high)
        ∙ reached-cons name_step (High name (hex_digit (b / 16))) (Plain (name ++ b ∷ [])) (hex_digit (b % 16)) [] (high_step name (hex_digit (b / 16)) (hex_digit (b % 16)) b pair p)

pub reads_text : (name more : List ℕ) → AreBytes more → reached name_step (Plain name) (name_text more) ≡ Some (Plain (name ++ more))
reads_text name [] h = ap (λ (n : List ℕ). Some (Plain n)) (sym (append-nil name))
reads_text name (b ∷ more) h =
    reached-then name_step (Plain name) (Plain (name ++ b ∷ [])) (byte_text b) (name_text more) (reads_byte name b h.0)
    ∙ reads_text (name ++ b ∷ []) more h.1
    ∙ ap (λ (n : List ℕ). Some (Plain n)) (append_assoc name (b ∷ []) more)

abbrev Follows : NameStage → ℕ → NameStage → Type 0
Follows s byte t = IsStage t × (text_so_far t ≡ text_so_far s ++ byte ∷ [])

follows : (s t : NameStage) (byte : ℕ) → IsStage s → name_step s byte ≡ Some t → Follows s byte t
unfolding name_step
follows (Plain name) t byte good e = first (chosen (eqb byte 37) (Some (Percent name)) (if is_plain byte then Some (Plain (name ++ byte ∷ [])) else None) (Some t) e)
  where
    second : ((is_plain byte ≡ true) × (Some (Plain (name ++ byte ∷ [])) ≡ Some t)) ⊎ ((is_plain byte ≡ false) × (None ≡ Some t)) → Follows (Plain name) byte t
    second (inl (p, x)) =
        let same : Plain (name ++ byte ∷ []) ≡ t = cc in
        subst (Follows (Plain name) byte) same
        (AreBytes-push name byte good (is_plain-small byte p), name_text-push name byte ∙ ap (λ (y : List ℕ). name_text name ++ y) (byte_text-plain byte p))
    second (inr (p, x)) = cc

    first : ((eqb byte 37 ≡ true) × (Some (Percent name) ≡ Some t)) ⊎ ((eqb byte 37 ≡ false) × ((if is_plain byte then Some (Plain (name ++ byte ∷ [])) else None) ≡ Some t)) → Follows (Plain name) byte t
    first (inl (p, x)) =
        let same : Percent name ≡ t = cc in
        let is : byte ≡ 37 = grind (arith, nat_tests, p) in
        subst (Follows (Plain name) byte) same (good, ap (λ (b : ℕ). name_text name ++ b ∷ []) (sym is))
    first (inr (p, x)) = second (chosen (is_plain byte) (Some (Plain (name ++ byte ∷ []))) None (Some t) x)
follows (Percent name) t byte good e = go (chosen (is_some (hex_value byte)) (Some (High name byte)) None (Some t) e)
  where
    go : ((is_some (hex_value byte) ≡ true) × (Some (High name byte) ≡ Some t)) ⊎ ((is_some (hex_value byte) ≡ false) × (None ≡ Some t)) → Follows (Percent name) byte t
    go (inl (p, x)) =
        let same : High name byte ≡ t = cc in
        subst (Follows (Percent name) byte) same ((good, is_some-IsSome (hex_value byte) p), sym (append_assoc (name_text name) (37 ∷ []) (byte ∷ [])))
    go (inr (p, x)) = cc
follows (High name first) t byte good e =
    let value = passed (λ (v : ℕ). with_escaped name v) (pair_value first byte) t e in
    let high = passed (λ (h : ℕ). option_map (λ (l : ℕ). 16 * h + l) (hex_value byte)) (hex_value first) value.0 value.1 in
    let low = mapped (λ (l : ℕ). 16 * high.0 + l) (hex_value byte) value.0 high.2 in
    go value.0 high.0 low.0 high.1 low.1 low.2 (chosen (is_plain value.0) None (Some (Plain (name ++ value.0 ∷ []))) (Some t) value.2)
  where
    go : (v h l : ℕ) → hex_value first ≡ Some h → hex_value byte ≡ Some l → 16 * h + l ≡ v
        → ((is_plain v ≡ true) × (None ≡ Some t)) ⊎ ((is_plain v ≡ false) × (Some (Plain (name ++ v ∷ [])) ≡ Some t)) → Follows (High name first) byte t
    go v h l a b value (inl (p, x)) = cc
    go v h l a b value (inr (p, x)) =
        let high = hex_value-digit first h a in
        let low = hex_value-digit byte l b in
        let same : Plain (name ++ v ∷ []) ≡ t = cc in
        let above : v / 16 ≡ h = omega (arith, high.0, low.0, value) in
        let below : v % 16 ≡ l = omega (arith, high.0, low.0, value) in
        let spelled : byte_text v ≡ 37 ∷ first ∷ byte ∷ [] =
        byte_text-escaped v p
        ∙ ap (λ (d : ℕ). 37 ∷ d ∷ hex_digit (v % 16) ∷ []) (ap hex_digit above ∙ high.1)
        ∙ ap (λ (d : ℕ). 37 ∷ first ∷ d ∷ []) (ap hex_digit below ∙ low.1) in
        subst (Follows (High name first) byte) same (
          AreBytes-push name v good.0 (omega (arith, high.0, low.0, value)),
          name_text-push name v ∙ ap (λ (y : List ℕ). name_text name ++ y) spelled ∙ sym (append_assoc (name_text name) (37 ∷ first ∷ []) (byte ∷ [])),
        )

-- a digit with which the byte is not plain
low_of : ℕ → ℕ
low_of high = if eqb high 3 || eqb high 5 || eqb high 7 then 11 else 0

low_of-small : (high : ℕ) → low_of high < 16
unfolding low_of
low_of-small high = grind (arith, nat_tests)

low_of-escaped : (high : ℕ) → high < 16 → is_plain (16 * high + low_of high) ≡ false
unfolding low_of
low_of-escaped high lt = grind (arith, nat_tests)

live : (s : NameStage) → IsStage s → (more : List ℕ) × (t : NameStage) × (v : List ℕ) × (reached name_step s more ≡ Some t) × (name_read t ≡ Some v)
unfolding name_step
live (Plain name) good = ([], Plain name, name, refl, refl)
live (Percent name) good = (48 ∷ 48 ∷ [], Plain (name ++ 0 ∷ []), name ++ 0 ∷ [], refl, refl)
live (High name first) good =
    let high = some_value (hex_value first) good.1 in
    let small = (hex_value-digit first high.0 high.1).0 in
    let pair = pair_value-of first (hex_digit (low_of high.0)) high.0 (low_of high.0) _ high.1 (hex_digit-value (low_of high.0) (low_of-small high.0)) refl in (
      hex_digit (low_of high.0) ∷ [],
      Plain (name ++ (16 * high.0 + low_of high.0) ∷ []),
      name ++ (16 * high.0 + low_of high.0) ∷ [],
      reached-cons name_step (High name first) (Plain (name ++ (16 * high.0 + low_of high.0) ∷ [])) (hex_digit (low_of high.0)) []
          (high_step name first (hex_digit (low_of high.0)) (16 * high.0 + low_of high.0) pair (low_of-escaped high.0 small)),
      refl,
    )

found : (s : NameStage) (v : List ℕ) → IsStage s → name_read s ≡ Some v → SpellsName v (text_so_far s)
found (Plain name) v good e = let same : name ≡ v = cc in (subst AreBytes same good, ap name_text same)
found (Percent name) v good e = cc
found (High name first) v good e = cc

pub name_reader : IsReader name_step (Plain []) name_read SpellsName text_so_far IsStage
name_reader = record {
  nothing = refl;
  good = tt;
  follows = follows;
  live = live;
  found = found;
  only = λ v text spells. (Plain v, ap (reached name_step (Plain [])) spells.1 ∙ reads_text [] v spells.0, refl);
}
