-- Texts of several parts that are not read: their parts are not.
use Rattle.std.proofs.Common.{◌≡◌, ℕ, ◌<◌, ◌^◌, List, ◌∷◌, ◌++◌, Option, None, Some, MatchOption, sym, ◌∙◌, ap}
use Rattle.std.specs.Prelude.{codes}
use Rattle.std.specs.Fmt.{decimal}
use Rattle.kb_names.specs.Targets.{target_text, SpellsTarget, IsTargetText}
use Rattle.kb_names.specs.declared.types.Target.{Target}
use Rattle.kb_names.specs.declared.types.ExactType.{ExactType}
use Rattle.kb_heap.specs.declared.bounds.Bound.{Bound}
use Rattle.kb_grammar.specs.Lines.{Lacks, IsTail, IsRead}
use Rattle.kb_grammar.specs.Numbers.{SpellsNumber}
use Rattle.kb_grammar.proofs.WordLaws.{same_behind, same_cut, same_first}
use Rattle.kb_heap_words.specs.Words.{exact_text, bound_name, SpellsExact}
use Rattle.kb_heap_words.proofs.Lacking.{space}
use Rattle.kb_heap_words.proofs.WordLaws.{exact_lacks, same_bound}
use Rattle.kb_test_lines.specs.declared.words.Word.{Word}
use Rattle.kb_test_lines.specs.declared.outcomes.RunBound.{RunBound}
use Rattle.kb_test_lines.specs.declared.lines.Listed.{Listed}
use Rattle.kb_test_lines.specs.Words.{words_text, SpellsWords}
use Rattle.kb_test_lines.specs.Lines.{listed_text, bound_of, line_text, SpellsPastLine, SpellsListed, SpellsObjectLine, SpellsOutLine, SpellsMethodLine}
use Rattle.kb_test_lines.proofs.SameWords.{words_tail}
use Rattle.kb_test_lines.proofs.SameLines.{digits}

-- ---- a bound

pub no_bound : (line rest : List ℕ) → line ≡ codes "past " ++ rest → ((bound : Bound) → rest ≡ bound_name bound → ⊥) → (run : RunBound) → SpellsPastLine run line → ⊥
no_bound line rest e none run spells = none (bound_of run) (same_behind (codes "past ") rest (bound_name (bound_of run)) (sym e ∙ spells))

pub past_read : (line rest : List ℕ) (bound : Bound) (read : Option RunBound) → line ≡ codes "past " ++ rest → rest ≡ bound_name bound
    → MatchOption read ((run : RunBound) → bound ≡ bound_of run → ⊥) (λ run. bound ≡ bound_of run) → IsRead SpellsPastLine line read
past_read line rest bound (Some run) e is h = e ∙ ap (λ (r : List ℕ). codes "past " ++ r) (is ∙ ap bound_name h)
past_read line rest bound None e is h = λ run spells.
    let words = same_behind (codes "past ") rest (bound_name (bound_of run)) (sym e ∙ spells) in
    h run (same_bound bound (bound_of run) (sym is ∙ words))

-- ---- an object

listed_parts : (text word rest : List ℕ) → Lacks 32 word → IsTail 32 rest → text ≡ word ++ rest → (listed : Listed) → SpellsListed listed text → (word ≡ exact_text listed.kind) × (rest ≡ words_text listed.values)
listed_parts text word rest lacks tail e listed spells =
    same_first 32 word (exact_text listed.kind) rest (words_text listed.values) lacks (exact_lacks 32 space listed.kind) tail (words_tail listed.values) (sym e ∙ spells.1)

pub bad_kind : (text word rest : List ℕ) → Lacks 32 word → IsTail 32 rest → text ≡ word ++ rest → ((kind : ExactType) → SpellsExact kind word → ⊥) → (listed : Listed) → SpellsListed listed text → ⊥
bad_kind text word rest lacks tail e none listed spells = none listed.kind (spells.0.0, (listed_parts text word rest lacks tail e listed spells).0)

pub bad_values : (text word rest : List ℕ) → Lacks 32 word → IsTail 32 rest → text ≡ word ++ rest → ((words : List Word) → SpellsWords words rest → ⊥) → (listed : Listed) → SpellsListed listed text → ⊥
bad_values text word rest lacks tail e none listed spells = none listed.values (spells.0.1, (listed_parts text word rest lacks tail e listed spells).1)

pub good_listed : (text word rest : List ℕ) (kind : ExactType) (values : List Word) → text ≡ word ++ rest → SpellsExact kind word → SpellsWords values rest → SpellsListed (record { kind = kind; values = values }) text
good_listed text word rest kind values e k v = ((k.0, v.0), e ∙ ap (λ (w : List ℕ). w ++ rest) k.1 ∙ ap (λ (r : List ℕ). exact_text kind ++ r) v.1)

-- ---- an object behind its number

pub bad_object : (front text rest : List ℕ) (number : ℕ) → number < 2 ^ 32 → text ≡ front ++ (decimal number ++ 32 ∷ rest) → ((listed : Listed) → SpellsListed listed rest → ⊥)
    → (parts : ℕ × Listed) → SpellsObjectLine front parts text → ⊥
bad_object front text rest number small e none parts spells =
    let tails = same_behind front (decimal number ++ 32 ∷ rest) (decimal parts.0 ++ 32 ∷ listed_text parts.1) (sym e ∙ spells.1.1) in
    let cuts = same_cut 32 (decimal number) (decimal parts.0) rest (listed_text parts.1) (digits number small) (digits parts.0 spells.0) tails in
    none parts.1 (spells.1.0, cuts.1)

-- ---- last values behind a number

out_parts : (text word rest : List ℕ) → Lacks 32 word → IsTail 32 rest → text ≡ codes "out i" ++ (word ++ rest) → (parts : ℕ × List Word) → SpellsOutLine parts text → (word ≡ decimal parts.0) × (rest ≡ words_text parts.1)
unfolding line_text
out_parts text word rest lacks tail e parts spells =
    same_first 32 word (decimal parts.0) rest (words_text parts.1) lacks (digits parts.0 spells.0.0) tail (words_tail parts.1) (same_behind (codes "out i") (word ++ rest) (decimal parts.0 ++ words_text parts.1) (sym e ∙ spells.1))

pub bad_number : (text word rest : List ℕ) → Lacks 32 word → IsTail 32 rest → text ≡ codes "out i" ++ (word ++ rest) → ((number : ℕ) → SpellsNumber number word → ⊥) → (parts : ℕ × List Word) → SpellsOutLine parts text → ⊥
bad_number text word rest lacks tail e none parts spells = none parts.0 (spells.0.0, (out_parts text word rest lacks tail e parts spells).0)

pub bad_outs : (text word rest : List ℕ) → Lacks 32 word → IsTail 32 rest → text ≡ codes "out i" ++ (word ++ rest) → ((words : List Word) → SpellsWords words rest → ⊥) → (parts : ℕ × List Word) → SpellsOutLine parts text → ⊥
bad_outs text word rest lacks tail e none parts spells = none parts.1 (spells.0.1, (out_parts text word rest lacks tail e parts spells).1)

pub good_out : (text word rest : List ℕ) (number : ℕ) (words : List Word) → text ≡ codes "out i" ++ (word ++ rest) → SpellsNumber number word → SpellsWords words rest → SpellsOutLine (number, words) text
unfolding line_text
good_out text word rest number words e n w = ((n.0, w.0), e ∙ ap (λ (d : List ℕ). codes "out i" ++ (d ++ rest)) n.1 ∙ ap (λ (r : List ℕ). codes "out i" ++ (decimal number ++ r)) w.1)

pub no_front : (text : List ℕ) → ((rest : List ℕ) → text ≡ codes "out i" ++ rest → ⊥) → (parts : ℕ × List Word) → SpellsOutLine parts text → ⊥
unfolding line_text
no_front text none parts spells = none (decimal parts.0 ++ words_text parts.1) spells.1

-- ---- the line that names a method

pub bad_target : (text rest : List ℕ) → text ≡ codes "test " ++ rest → (IsTargetText rest → ⊥) → (target : Target) → SpellsMethodLine target text → ⊥
unfolding line_text
bad_target text rest e none target spells = none (target, (spells.0, same_behind (codes "test ") rest (target_text target) (sym e ∙ spells.1)))

pub good_target : (text rest : List ℕ) (target : Target) → text ≡ codes "test " ++ rest → SpellsTarget target rest → SpellsMethodLine target text
unfolding line_text
good_target text rest target e spells = (spells.0, e ∙ ap (λ (r : List ℕ). codes "test " ++ r) spells.1)
