use Rattle.std.proofs.Common.{◌≡◌, ◌∙◌, sym, ap, not, true, false, ◌||◌, ◌&&◌, ◌==◌}
use Rattle.std.specs.List.{filter}
use Rattle.kb_chain.specs.Literal.{literal, same, has}
use Rattle.kb_chain.proofs.WorkingLaws.{resolved_is}
use Rattle.kb_chain.proofs.working.Working.resolve_with.Goals as goal

pub returns-clause-resolved : goal.returns-clause-resolved
returns-clause-resolved c =
    let e : c.remove-2.new.self.clause
    ≡ filter (λ m. not (same m (literal c.args.pivot false))) (filter (λ m. not (same m (literal c.args.pivot true))) c.args.self.now.clause) =
    c.remove-2.ensures.clause ∙ ap (filter (λ m. not (same m (literal c.args.pivot false)))) c.remove.ensures.clause in
    resolved_is c.args.self.now.clause c.args.side.now c.insert_all.new.self.clause c.args.pivot
    (sym c.is_opposite.ensures ∙ c.if-not-is_opposite.false)
    (c.in_ok-insert_all.ensures.ordered c.remove-2.ensures.ordered)
    (λ l. c.in_ok-insert_all.ensures.has l
    ∙ (ap (λ z. has z l || (has c.literals.result.now l && not (l.variable == c.args.pivot))) e
    ∙ ap (λ z. has (filter (λ m. not (same m (literal c.args.pivot false))) (filter (λ m. not (same m (literal c.args.pivot true))) c.args.self.now.clause)) l
    || (has z l && not (l.variable == c.args.pivot))) c.literals.ensures.value))
