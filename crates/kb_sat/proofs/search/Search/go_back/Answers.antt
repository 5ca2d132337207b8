use Rattle.std.proofs.Common.{◌+◌, ◌*◌, ◌<◌, ◌∙◌, ap, sym, subst}
use Rattle.std.proofs.lemmas.List.{take_rest}
use Rattle.kb_chain.specs.Literal.{has, place_of}
use Rattle.kb_propagate.proofs.Places.{dropped_part}
use Rattle.kb_sat.proofs.search.Search.go_back.Goals as goal

pub release-requires-clause-within : goal.release-requires-clause-within
release-requires-clause-within c l e =
    let xs = c.literals.result.now in
    let i = c.start-start.result in
    subst (λ n. place_of l < 2 * n + 2) (sym c.requires.equipped.order)
    (c.literals.ensures.trail.within l (ap (λ z. has z l) (sym c.literals.ensures.value) ∙ dropped_part i xs l (ap (λ z. has z l) (sym (take_rest xs i)) ∙ e)))
