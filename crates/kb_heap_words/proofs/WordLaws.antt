-- The words of types, places and bounds: each is that of one thing alone, and none of the first two has a line feed in it.
use Rattle.std.proofs.Common.{◌≡◌, ◌≢◌, ℕ, ◌<◌, ◌^◌, List, ◌++◌, ◌∷◌, Option, Some, refl, sym, ap, ◌∙◌, arith, if◌then◌else◌}
use Rattle.std.specs.Prelude.{codes}
use Rattle.std.specs.Str.{bytes_eq}
use Rattle.std.specs.Fmt.{decimal}
use Rattle.std.proofs.lemmas.Fmt.{decimal_injective}
use Rattle.kb_grammar.specs.Lines.{Lacks}
use Rattle.kb_grammar.specs.Numbers.{SpellsNumber}
use Rattle.kb_grammar.proofs.WordLaws.{Lacks-++, same_cut, same_behind, not_lacking}
use Rattle.kb_names.specs.Descriptors.{type_text}
use Rattle.kb_names.specs.Targets.{target_text, IsTargetText}
use Rattle.kb_names.specs.declared.class_names.Spelling.TheVariants.{Escaped}
use Rattle.kb_names.specs.declared.types.ExactType.{ExactType}
use Rattle.kb_names.specs.declared.types.ExactType.TheVariants as exact
use Rattle.kb_names.specs.declared.types.JType.{JType}
use Rattle.kb_heap.specs.declared.bounds.Bound.{Bound}
use Rattle.kb_heap.specs.declared.bounds.Bound.TheVariants.{K, Array as ArrayBound, Alloc, Loops, Depth, Steps}
use Rattle.kb_heap.specs.declared.ending.Place.{Place}
use Rattle.kb_heap_words.specs.Words.{exact_text, place_text, bound_name, SpellsPlace}
use Rattle.kb_heap_words.proofs.Lacking.{IsGap, digits_lack, gap_in_name, type_lacks, target_lacks, above, space}
use Rattle.kb_heap_words.proofs.NameLaws.{same_name, same_type, same_target, not_bracket}

-- what is read of one text is one thing
pub same_read : {A : Type 0} (read : List ℕ → Option A) (x y : A) (s t : List ℕ) → read s ≡ Some x → read t ≡ Some y → s ≡ t → x ≡ y
same_read read x y s t p q e =
    let same : Some x ≡ Some y = sym p ∙ ap read e ∙ q in
    cc

-- ---- types

pub same_exact : (one other : ExactType) → exact_text one ≡ exact_text other → one ≡ other
unfolding exact_text
same_exact (exact.Class one) (exact.Class other) e = ap (λ (name : List ℕ). exact.Class name) (same_name one other e)
same_exact (exact.Class one) (exact.Array other) e = absurd (not_bracket one (type_text Escaped other) e)
same_exact (exact.Array one) (exact.Class other) e = absurd (not_bracket other (type_text Escaped one) (sym e))
same_exact (exact.Array one) (exact.Array other) e = ap (λ (type : JType). exact.Array type) (same_type one other (same_behind (codes "[") (type_text Escaped one) (type_text Escaped other) e))

pub exact_lacks : (byte : ℕ) (gap : IsGap byte) (kind : ExactType) → Lacks byte (exact_text kind)
unfolding exact_text
exact_lacks byte gap (exact.Class name) = gap_in_name byte gap name
exact_lacks byte gap (exact.Array component) = (above 91 byte gap.low (omega arith), type_lacks byte gap component)

-- ---- places

pub same_digits : (m n : ℕ) → m < 2 ^ 32 → n < 2 ^ 32 → decimal m ≡ decimal n → m ≡ n
same_digits m n p q e = decimal_injective m n (omega (arith, p)) (omega (arith, q)) e

pub same_place : (one other : Place) → one.at < 2 ^ 32 → other.at < 2 ^ 32 → place_text one ≡ place_text other → one ≡ other
unfolding place_text
same_place one other p q e =
    let parts = same_cut 32 (target_text one.method) (target_text other.method) (decimal one.at) (decimal other.at) (target_lacks 32 space one.method) (target_lacks 32 space other.method) e in
    let method = same_target one.method other.method parts.0 in
    let at = same_digits one.at other.at p q parts.1 in
    λ i. record { method = method i; at = at i }

-- of a line feed alone, since a place has a space in it
pub place_lacks : (byte : ℕ) (gap : IsGap byte) → 32 ≢ byte → (place : Place) → place.at < 2 ^ 32 → Lacks byte (place_text place)
unfolding place_text
place_lacks byte gap other place small =
    Lacks-++ byte (target_text place.method) (32 ∷ decimal place.at) (target_lacks byte gap place.method) (other, digits_lack byte place.at gap.apart small)

-- a text that is not read: its parts are not
pub no_gap : (text : List ℕ) → Lacks 32 text → (place : Place) → SpellsPlace place text → ⊥
unfolding place_text
no_gap text lacks place spells = not_lacking 32 (target_text place.method) (decimal place.at) text lacks (sym spells.1)

place_parts : (text word digits : List ℕ) → Lacks 32 word → text ≡ word ++ 32 ∷ digits → (place : Place) → SpellsPlace place text → (word ≡ target_text place.method) × (digits ≡ decimal place.at)
unfolding place_text
place_parts text word digits lacks e place spells = same_cut 32 word (target_text place.method) digits (decimal place.at) lacks (target_lacks 32 space place.method) (sym e ∙ spells.1)

pub bad_offset : (text word digits : List ℕ) → Lacks 32 word → text ≡ word ++ 32 ∷ digits → ((at : ℕ) → SpellsNumber at digits → ⊥) → (place : Place) → SpellsPlace place text → ⊥
bad_offset text word digits lacks e none place spells = none place.at (spells.0.1, (place_parts text word digits lacks e place spells).1)

pub bad_method : (text word digits : List ℕ) → Lacks 32 word → text ≡ word ++ 32 ∷ digits → (IsTargetText word → ⊥) → (place : Place) → SpellsPlace place text → ⊥
bad_method text word digits lacks e none place spells = none (place.method, (spells.0.0, (place_parts text word digits lacks e place spells).0))

-- ---- bounds

abbrev bound_of : List ℕ → Option Bound
bound_of text =
    if bytes_eq text (codes "k") then Some K
    else if bytes_eq text (codes "array") then Some ArrayBound
    else if bytes_eq text (codes "alloc") then Some Alloc
    else if bytes_eq text (codes "loops") then Some Loops
    else if bytes_eq text (codes "depth") then Some Depth
    else Some Steps

bound_read : (bound : Bound) → bound_of (bound_name bound) ≡ Some bound
unfolding bound_name
bound_read K = refl
bound_read ArrayBound = refl
bound_read Alloc = refl
bound_read Loops = refl
bound_read Depth = refl
bound_read Steps = refl

pub same_bound : (one other : Bound) → bound_name one ≡ bound_name other → one ≡ other
same_bound one other e = same_read bound_of one other (bound_name one) (bound_name other) (bound_read one) (bound_read other) e
