-- Entries of a log whose steps stand in one table.
use Rattle.std.proofs.Common.{◌≡◌, ℕ, ◌+◌, ◌≤◌, List, [], ◌∷◌, ◌++◌, arith, refl, ap, ◌∙◌, inl, inr, length, zero, suc}
use Rattle.std.proofs.lemmas.List.{map-append, length-append}
use Rattle.kb_chain.specs.declared.log.Chain.{Chain}
use Rattle.kb_propagate.specs.FlatLog.{chain_of, chains_of, StepsWithin}
use Rattle.kb_propagate.specs.declared.flat_log.Entry.{Entry}
use Rattle.kb_propagate.proofs.Places.{at_pushed}
use Rattle.kb_propagate.proofs.ClausesLaws.{row_longer, row_last}

abbrev with_steps : Entry → List (ℕ × ℕ) → Chain
with_steps entry steps = record { start = entry.start; steps = steps }

-- a longer table has the same entries
chains_longer : (steps more : List (ℕ × ℕ)) (entries : List Entry) → StepsWithin steps entries → chains_of (steps ++ more) entries ≡ chains_of steps entries
chains_longer steps more [] w = refl
chains_longer steps more (entry ∷ entries) w =
    let here = w zero entry refl in
    ap (λ z. with_steps entry z ∷ chains_of (steps ++ more) entries) (row_longer steps more entry.steps here.0 here.1)
    ∙ ap (λ z. chain_of steps entry ∷ z) (chains_longer steps more entries (λ k. w (suc k)))

pub within_more : (steps more : List (ℕ × ℕ)) (entries : List Entry) → StepsWithin steps entries → StepsWithin (steps ++ more) entries
within_more steps more entries w k entry e =
    let here = w k entry e in
    (here.0, (let far : entry.steps.end ≤ length (steps ++ more) = rw (length-append steps more) omega (arith, here.1) in far))

pub within_entry : (steps more : List (ℕ × ℕ)) (entries : List Entry) (entry : Entry) → StepsWithin steps entries
    → entry.steps.start ≡ length steps → entry.steps.end ≡ length steps + length more → StepsWithin (steps ++ more) (entries ++ entry ∷ [])
within_entry steps more entries entry w s e k other h = elim (at_pushed entries entry k other h) [
  | inl old ↦ within_more steps more entries w k other old
  | inr last ↦ rw (← last.1) (
    (omega (arith, s, e)),
    (let far : entry.steps.end ≤ length (steps ++ more) = rw (length-append steps more) omega (arith, e) in far),
  )
]

-- the entries of a table with one more entry
pub chains_pushed : (steps more : List (ℕ × ℕ)) (entries : List Entry) (entry : Entry) → StepsWithin steps entries
    → entry.steps.start ≡ length steps → entry.steps.end ≡ length steps + length more
    → chains_of (steps ++ more) (entries ++ entry ∷ []) ≡ chains_of steps entries ++ with_steps entry more ∷ []
chains_pushed steps more entries entry w s e =
    map-append (chain_of (steps ++ more)) entries (entry ∷ [])
    ∙ ap (λ z. z ++ chain_of (steps ++ more) entry ∷ []) (chains_longer steps more entries w)
    ∙ ap (λ z. chains_of steps entries ++ with_steps entry z ∷ []) (row_last steps more entry.steps s e)
