-- Slots of lists of fields, one list behind the other.
use Rattle.std.proofs.Common.{◌≡◌, ℕ, suc, ◌+◌, ◌-◌, ◌<◌, Bool, true, false, List, [], ◌∷◌, ◌++◌, length, length-append, reverse, take, get_or, refl, sym, ap, ◌∙◌, arith}
use Rattle.std.specs.List.{flat_map}
use Rattle.std.proofs.lemmas.Grind.{take_at_read}
use Rattle.std.proofs.lemmas.List.{append_assoc, reverse-append}
use Rattle.kb_class.specs.declared.members.FieldInfo.{FieldInfo}
use Rattle.kb_classes.specs.declared.slots.FieldSlot.{FieldSlot}
use Rattle.kb_classes.specs.Slots.{Declared, has_slot, slot_of, numbered, slots_among}

pub numbered_behind : (first : ℕ) (xs ys : List Declared) → numbered first (xs ++ ys) ≡ numbered first xs ++ numbered (first + length xs) ys
numbered_behind first [] ys = ap (λ (n : ℕ). numbered n ys) (let e : first ≡ first + 0 = omega arith in e)
numbered_behind first (x ∷ xs) ys =
    let sum : suc first + length xs ≡ first + suc (length xs) = omega arith in
    ap (λ (slots : List FieldSlot). slot_of first x ∷ slots) (numbered_behind (suc first) xs ys ∙ ap (λ (n : ℕ). numbered (suc first) xs ++ numbered n ys) sum)

pub numbered_length : (first : ℕ) (xs : List Declared) → length (numbered first xs) ≡ length xs
numbered_length first [] = refl
numbered_length first (x ∷ xs) = ap suc (numbered_length (suc first) xs)

-- slots with more behind them, and then more
pub slots_behind : (before after : List FieldSlot) (xs ys : List Declared) → after ≡ before ++ numbered (length before) xs
    → after ++ numbered (length after) ys ≡ before ++ numbered (length before) (xs ++ ys)
slots_behind before after xs ys is =
    let many : length after ≡ length before + length xs = ap (λ (s : List FieldSlot). length s) is ∙ length-append before (numbered (length before) xs) ∙ ap (λ (n : ℕ). length before + n) (numbered_length (length before) xs) in
    (λ i. is i ++ numbered (many i) ys) ∙ append_assoc before (numbered (length before) xs) (numbered (length before + length xs) ys)
    ∙ ap (λ (s : List FieldSlot). before ++ s) (sym (numbered_behind (length before) xs ys))

pub among_first : (number : ℕ) (field : FieldInfo) (fields : List FieldInfo) → slots_among number (field ∷ fields) ≡ slots_among number (field ∷ []) ++ slots_among number fields
among_first number field fields = go (has_slot field) refl
  where
    go : (b : Bool) → has_slot field ≡ b → slots_among number (field ∷ fields) ≡ slots_among number (field ∷ []) ++ slots_among number fields
    go true e = rw e refl
    go false e = rw e refl

-- the last number of a chain is the first whose fields come
pub along_last : {A : Type 0} (own : ℕ → List A) (chain : List ℕ) (last : ℕ) → flat_map own (reverse (chain ++ last ∷ [])) ≡ own last ++ flat_map own (reverse chain)
along_last own chain last = ap (λ (ns : List ℕ). flat_map own ns) (reverse-append chain (last ∷ []))

-- one number of a chain more
pub along_step : (own : ℕ → List Declared) (chain : List ℕ) (back : ℕ) (slots after whole : List FieldSlot) → back < length chain
    → slots ++ numbered (length slots) (flat_map own (reverse (take (length chain - back) chain))) ≡ whole → after ≡ slots ++ numbered (length slots) (own (get_or chain (length chain - 1 - back) 0))
    → after ++ numbered (length after) (flat_map own (reverse (take (length chain - (back + 1)) chain))) ≡ whole
along_step own chain back slots after whole within before is =
    let rest : ℕ = length chain - 1 - back in
    let last : ℕ = get_or chain rest 0 in
    let inside : rest < length chain = omega (arith, within) in
    let many : length chain - back ≡ rest + 1 = omega (arith, within) in
    let fewer : length chain - (back + 1) ≡ rest = omega (arith, within) in
    let taken : take (length chain - back) chain ≡ take rest chain ++ last ∷ [] = ap (λ (n : ℕ). take n chain) many ∙ (take_at_read chain rest 0 inside).1 in
    let more : flat_map own (reverse (take (length chain - back) chain)) ≡ own last ++ flat_map own (reverse (take rest chain)) =
    ap (λ (ns : List ℕ). flat_map own (reverse ns)) taken ∙ along_last own (take rest chain) last in
    ap (λ (n : ℕ). after ++ numbered (length after) (flat_map own (reverse (take n chain)))) fewer
    ∙ slots_behind slots after (own last) (flat_map own (reverse (take rest chain))) is ∙ ap (λ (ds : List Declared). slots ++ numbered (length slots) ds) (sym more) ∙ before
