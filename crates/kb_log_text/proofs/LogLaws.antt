-- A line is that of one chain, and a text of lines that of one log.
use Rattle.std.proofs.Common.{◌≡◌, ◌≢◌, ℕ, ◌<◌, ◌^◌, List, [], ◌∷◌, ◌++◌, map, refl, sym, ap, ◌∙◌, append_assoc, append-nil, arith, subst}
use Rattle.std.specs.Prelude.{codes}
use Rattle.std.specs.List.{flat_map, AllByRecursion}
use Rattle.std.specs.Fmt.{decimal}
use Rattle.kb_chain.specs.declared.log.Chain.{Chain}
use Rattle.kb_chain.specs.declared.log.Log.{Log}
use Rattle.kb_grammar.specs.Lines.{Lacks, IsTail, AreLines, lines_text}
use Rattle.kb_grammar.specs.LineFormats.{SpellsByLines}
use Rattle.kb_grammar.proofs.WordLaws.{Lacks-++}
use Rattle.kb_grammar.proofs.NumberLaws.{Lacks-decimal, same_numbered}
use Rattle.kb_grammar.proofs.LineLaws.{lines_beyond, no_lines}
use Rattle.kb_grammar.proofs.ListLaws.{AreApart, is_tail, same_items}
use Rattle.kb_log_text.specs.Lines.{step_text, learn_line, IsStep, IsChain, SpellsLog}

-- ---- texts of lines

-- a text is that of one list of lines
pub same_lines : (xs ys : List (List ℕ)) → AreLines xs → AreLines ys → lines_text xs ≡ lines_text ys → xs ≡ ys
same_lines xs ys p q e =
    let beyond = lines_beyond xs ys [] p q (append-nil (lines_text xs) ∙ e) in
    let none = no_lines [] beyond.0 tt beyond.2 in
    sym (beyond.1 ∙ ap (λ (ks : List (List ℕ)). xs ++ ks) none.0 ∙ append-nil xs)

-- ---- lines of logs

digits_lack : (byte number : ℕ) → byte < 48 → number < 2 ^ 32 → Lacks byte (decimal number)
digits_lack byte number low small = Lacks-decimal byte number low (omega (arith, small))

-- the text of a step before more text
pub step_before : (step : ℕ × ℕ) (more : List ℕ) → step_text step ++ more ≡ 32 ∷ (decimal step.0 ++ 32 ∷ (decimal step.1 ++ more))
unfolding step_text
step_before step more = ap (λ (text : List ℕ). 32 ∷ text) (append_assoc (decimal step.0) (32 ∷ decimal step.1) more)

-- the steps of a chain are told apart
pub steps_apart : AreApart 32 IsStep step_text
unfolding step_text
steps_apart = record { begins = begins; same = same }
  where
    begins : (step : ℕ × ℕ) → (others : List ℕ) × (step_text step ≡ 32 ∷ others)
    begins step = (decimal step.0 ++ 32 ∷ decimal step.1, refl)

    same : (x y : ℕ × ℕ) (us vs : List ℕ) → IsStep x → IsStep y → IsTail 32 us → IsTail 32 vs → step_text x ++ us ≡ step_text y ++ vs → (x ≡ y) × (us ≡ vs)
    same x y us vs p q h k e =
        let pivots = same_numbered 32 (32 ∷ []) x.0 y.0 (32 ∷ (decimal x.1 ++ us)) (32 ∷ (decimal y.1 ++ vs)) (omega arith) p.0 q.0 refl refl (sym (step_before x us) ∙ e ∙ step_before y vs) in
        let clauses = same_numbered 32 (32 ∷ []) x.1 y.1 us vs (omega arith) p.1 q.1 h k pivots.1 in
        ((λ i. (pivots.0 i, clauses.0 i)), clauses.1)

-- a line is that of one chain
pub same_chain : (one other : Chain) → IsChain one → IsChain other → learn_line one ≡ learn_line other → one ≡ other
unfolding learn_line
same_chain one other p q e =
    let tails = is_tail 32 IsStep step_text steps_apart in
    let starts = same_numbered 32 (codes "learn ") one.start other.start (flat_map step_text one.steps) (flat_map step_text other.steps) (omega arith) p.start q.start (tails one.steps) (tails other.steps) e in
    let steps = same_items 32 IsStep step_text steps_apart one.steps other.steps p.steps q.steps starts.1 in
    λ i. record { start = starts.0 i; steps = steps i }

-- the lines of chains are those of no others
pub same_chains : (ones others : List Chain) → AllByRecursion IsChain ones → AllByRecursion IsChain others → map learn_line ones ≡ map learn_line others → ones ≡ others
same_chains [] [] p q e = refl
same_chains [] (y ∷ ys) p q e = cc
same_chains (x ∷ xs) [] p q e = cc
same_chains (x ∷ xs) (y ∷ ys) p q e =
    let first : learn_line x ≡ learn_line y = cc in
    let rest : map learn_line xs ≡ map learn_line ys = cc in
    let chain = same_chain x y p.0 q.0 first in
    let chains = same_chains xs ys p.1 q.1 rest in
    λ i. chain i ∷ chains i

-- ---- no line has a line feed in it

unlike : (byte : ℕ) → byte ≢ 10 → byte ≢ 10
unlike byte ne = ne

learn_word : Lacks 10 (codes "learn ")
learn_word = (unlike 108 (omega arith), (unlike 101 (omega arith), (unlike 97 (omega arith), (unlike 114 (omega arith), (unlike 110 (omega arith), (unlike 32 (omega arith), tt))))))

step_lacks : (step : ℕ × ℕ) → IsStep step → Lacks 10 (step_text step)
unfolding step_text
step_lacks step is =
    (unlike 32 (omega arith), Lacks-++ 10 (decimal step.0) (32 ∷ decimal step.1) (digits_lack 10 step.0 (omega arith) is.0) (unlike 32 (omega arith), digits_lack 10 step.1 (omega arith) is.1))

steps_lack : (steps : List (ℕ × ℕ)) → AllByRecursion IsStep steps → Lacks 10 (flat_map step_text steps)
steps_lack [] are = tt
steps_lack (step ∷ steps) are = Lacks-++ 10 (step_text step) (flat_map step_text steps) (step_lacks step are.0) (steps_lack steps are.1)

pub chain_lacks : (chain : Chain) → IsChain chain → Lacks 10 (learn_line chain)
unfolding learn_line
chain_lacks chain is =
    Lacks-++ 10 (codes "learn ") (decimal chain.start ++ flat_map step_text chain.steps) learn_word
    (Lacks-++ 10 (decimal chain.start) (flat_map step_text chain.steps) (digits_lack 10 chain.start (omega arith) is.start) (steps_lack chain.steps is.steps))

pub chains_are_lines : (chains : List Chain) → AllByRecursion IsChain chains → AreLines (map learn_line chains)
chains_are_lines [] are = tt
chains_are_lines (chain ∷ chains) are = (chain_lacks chain are.0, chains_are_lines chains are.1)

-- ---- logs

pub log_lines : (log : Log) (lines : List (List ℕ)) → SpellsLog log lines → AreLines lines
log_lines log lines spells = subst AreLines (sym spells.1) (chains_are_lines log.entries spells.0)

pub one_log : (one other : Log) (text : List ℕ) → SpellsByLines SpellsLog one text → SpellsByLines SpellsLog other text → one ≡ other
one_log one other text p q =
    let lines = same_lines p.lines q.lines (log_lines one p.lines p.spelled) (log_lines other q.lines q.spelled) (sym p.is ∙ q.is) in
    let entries = same_chains one.entries other.entries p.spelled.0 q.spelled.0 (sym p.spelled.1 ∙ lines ∙ q.spelled.1) in
    λ i. record { entries = entries i }
