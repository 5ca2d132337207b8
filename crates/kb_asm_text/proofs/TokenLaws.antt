-- A word spells one thing.
use Rattle.std.proofs.Common.{◌≡◌, ℕ, ◌<◌, ◌^◌, List, [], ◌∷◌, sym, ◌∙◌, ap, arith, subst, Result, Ok, Err, OkIff, get_or}
use Rattle.std.specs.Prelude.{ℤ}
use Rattle.std.specs.Result.{result_ok}
use Rattle.std.specs.Int.RustNames.{FitsSigned}
use mir.Syntax.{w8, w16}
use Rattle.kb_grammar.specs.Lines.{IsRead}
use Rattle.std.proofs.lemmas.Fmt.{signed_decimal_injective, decimal_injective}
use Rattle.kb_grammar.specs.Numbers.{SpellsInt, SpellsWithin}
use Rattle.kb_grammar.proofs.NumberLaws.{int_mag}
use Rattle.kb_grammar.proofs.WordLaws.{same_cut}
use Rattle.kb_names.specs.Descriptors.{SpellsType, SpellsMethod}
use Rattle.kb_names.specs.declared.class_names.Spelling.TheVariants.{Escaped}
use Rattle.kb_names.specs.declared.types.JType.{JType}
use Rattle.kb_names.specs.declared.types.MethodType.{MethodType}
use Rattle.kb_names.proofs.NameReader.{name_reader}
use Rattle.kb_names.proofs.TypeReader.{type_reader}
use Rattle.kb_names.proofs.MethodReader.{method_reader}
use Rattle.kb_asm_text.specs.declared.line.Case.{Case}
use Rattle.kb_asm_text.specs.Tokens.{IsPair, SpellsFlags, SpellsLabel, SpellsText, SpellsByteInt, SpellsShortInt}
use Rattle.kb_asm_text.specs.Lines.{SpellsCase}

pub same_int : (a b : ℤ) (word : List ℕ) → SpellsInt a word → SpellsInt b word → a ≡ b
same_int a b word p q = signed_decimal_injective a b (int_mag a p.0) (int_mag b q.0) (sym p.1 ∙ q.1)

pub same_within : (limit a b : ℕ) (word : List ℕ) → limit < 2 ^ 32 → SpellsWithin limit a word → SpellsWithin limit b word → a ≡ b
same_within limit a b word small p q = decimal_injective a b (omega (arith, p.0, small)) (omega (arith, q.0, small)) (sym p.1 ∙ q.1)

pub same_label : (a b word : List ℕ) → SpellsLabel a word → SpellsLabel b word → a ≡ b
same_label a b word p q = sym p.is ∙ q.is

pub same_text : (a b word : List ℕ) → SpellsText a word → SpellsText b word → a ≡ b
same_text a b word p q =
    let one = name_reader.only a word p.0 in
    let two = name_reader.only b word q.0 in
    cc

pub same_type : (a b : JType) (word : List ℕ) → SpellsType Escaped a word → SpellsType Escaped b word → a ≡ b
same_type a b word p q =
    let one = (type_reader Escaped).only a word p in
    let two = (type_reader Escaped).only b word q in
    cc

pub same_method : (a b : MethodType) (word : List ℕ) → SpellsMethod Escaped a word → SpellsMethod Escaped b word → a ≡ b
same_method a b word p q =
    let one = (method_reader Escaped).only a word p in
    let two = (method_reader Escaped).only b word q in
    cc

made_case : (a b : Case) → a.key ≡ b.key → a.target ≡ b.target → a ≡ b
made_case a b p q = ap (λ (k : ℤ). made k a.target) p ∙ ap (made b.key) q
  where
    made : ℤ → List ℕ → Case
    made key target = record { key = key; target = target }

pub same_case : (a b : Case) (word : List ℕ) → SpellsCase a word → SpellsCase b word → a ≡ b
same_case a b word p q =
    let cuts = same_cut 58 p.key q.key p.target q.target p.no_colon q.no_colon (sym p.is ∙ q.is) in
    made_case a b (same_int a.key b.key p.key p.key_is (subst (SpellsInt b.key) (sym cuts.0) q.key_is))
    (same_label a.target b.target p.target p.target_is (subst (SpellsLabel b.target) (sym cuts.1) q.target_is))

-- ---- ints in fewer bytes

pub short_read : {E : Type 0} (number : ℤ) (word : List ℕ) (tried : Result ℤ E) → SpellsInt number word → OkIff tried (FitsSigned w16 number) number
    → IsRead SpellsShortInt word (result_ok tried)
short_read number word (Ok z) spells h = (subst (FitsSigned w16) (sym h.1) h.0, subst (λ (n : ℤ). SpellsInt n word) (sym h.1) spells)
short_read number word (Err e) spells h = λ z spelled. h (subst (FitsSigned w16) (same_int z number word spelled.1 spells) spelled.0)

pub byte_read : {E : Type 0} (number : ℤ) (word : List ℕ) (tried : Result ℤ E) → SpellsInt number word → OkIff tried (FitsSigned w8 number) number
    → IsRead SpellsByteInt word (result_ok tried)
byte_read number word (Ok z) spells h = (subst (FitsSigned w8) (sym h.1) h.0, subst (λ (n : ℤ). SpellsInt n word) (sym h.1) spells)
byte_read number word (Err e) spells h = λ z spelled. h (subst (FitsSigned w8) (same_int z number word spelled.1 spells) spelled.0)

-- ---- flags

pub flags_refuted_high : (word : List ℕ) → ((byte : ℕ) → IsPair byte (get_or word 0 0) (get_or word 1 0) → ⊥) → (flags : ℕ) → SpellsFlags flags word → ⊥
flags_refuted_high [] none flags h = h
flags_refuted_high (a ∷ []) none flags h = h
flags_refuted_high (a ∷ b ∷ []) none flags h = h
flags_refuted_high (a ∷ b ∷ c ∷ []) none flags h = h
flags_refuted_high (a ∷ b ∷ c ∷ d ∷ []) none flags h = none h.high h.high_is
flags_refuted_high (a ∷ b ∷ c ∷ d ∷ e ∷ word) none flags h = h

pub flags_refuted_low : (word : List ℕ) → ((byte : ℕ) → IsPair byte (get_or word 2 0) (get_or word 3 0) → ⊥) → (flags : ℕ) → SpellsFlags flags word → ⊥
flags_refuted_low [] none flags h = h
flags_refuted_low (a ∷ []) none flags h = h
flags_refuted_low (a ∷ b ∷ []) none flags h = h
flags_refuted_low (a ∷ b ∷ c ∷ []) none flags h = h
flags_refuted_low (a ∷ b ∷ c ∷ d ∷ []) none flags h = none h.low h.low_is
flags_refuted_low (a ∷ b ∷ c ∷ d ∷ e ∷ word) none flags h = h
