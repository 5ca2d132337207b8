use Rattle.std.proofs.Common.{◌≡◌, ◌+◌, ◌∙◌, ap, sym, subst, refl, length, [], ◌∷◌, ◌++◌, arith}
use Rattle.std.proofs.lemmas.List.{length_push}
use Rattle.kb_chain.specs.Chains.{derived, IsRefutation}
use Rattle.kb_chain.proofs.LogLaws.{derived-push, refutation_from}
use Rattle.kb_sat.proofs.solver.whole_refutation.Goals as goal
use Rattle.kb_sat.proofs.solver.whole_refutation.Goals.{In_ok-push}

-- the log of the search and the last chain
entries : (c : In_ok-push) → c.push.new.self ≡ c.args.search.now.base.entries ++ c.in_ok-chain.chain ∷ []
entries c = c.in_ok-push.ensures.ok ∙ ap (λ z. z ++ c.in_ok-chain.chain ∷ []) c.in_ok-log.ensures

pub returns-clause-refutes : goal.returns-clause-refutes
returns-clause-refutes c =
    let s = c.args.search.now.base in
    let f = s.formula.now in
    let h = c.requires in
    let more : length (s.entries ++ c.in_ok-chain.chain ∷ []) ≡ length s.entries + 1 = length_push s.entries c.in_ok-chain.chain in
    subst (λ z. IsRefutation f.clauses z) (sym (entries (goal.at.returns-clause-refutes c).In_ok-push))
    (refutation_from f.clauses h.clauses (s.entries ++ c.in_ok-chain.chain ∷ []) [] (omega (arith, more))
    (derived-push s.entries f.clauses h.clauses c.in_ok-chain.chain [] h.derives
    (c.in_ok-chain.ensures h.clauses (ap (λ z. derived f.clauses z) (c.as_slice.ensures ∙ c.in_ok-log.ensures) ∙ h.derives))) refl)

pub returns-clause-length : goal.returns-clause-length
returns-clause-length c =
    ap length (entries (goal.at.returns-clause-length c).In_ok-push) ∙ length_push c.args.search.now.base.entries c.in_ok-chain.chain
