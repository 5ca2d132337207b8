use Rattle.std.proofs.Common.{sym, subst, refl, inl, inr, false, take}
use Rattle.std.proofs.lemmas.Bool.{OnTrue_at, OnFalse_at}
use Rattle.kb_chain.specs.Literal.{has}
use Rattle.kb_propagate.specs.Rows.{rows_of}
use Rattle.kb_propagate.specs.Watches.{pairs_of, Quiet}
use Rattle.kb_propagate.specs.Base.{IsBase}
use Rattle.kb_propagate.specs.Forgetting.{AreLeftOrEmpty}
use Rattle.kb_propagate.proofs.ForgetLaws.{IsBase-deleted, Quiet-deleted, AreLeftOrEmpty-deleted, Forgets-refl}
use Rattle.kb_propagate.proofs.base.Base.delete.Goals as goal

pub returns-then-is_reason-clause-forgets : goal.returns-then-is_reason-clause-forgets
returns-then-is_reason-clause-forgets c = Forgets-refl c.args.self.now c.requires.stands c.requires.ready

pub returns-then-is_reason-clause-clauses : goal.returns-then-is_reason-clause-clauses
returns-then-is_reason-clause-clauses c = inr (OnTrue_at c.if-is_reason.true c.is_reason.ensures.reason, refl)

pub returns-clause-forgets : goal.returns-clause-forgets
returns-clause-forgets c = (let s = c.args.self.now in record {
  stands = subst (λ z. IsBase s.formula.now s.entries (rows_of z) (pairs_of z) s.watches.lists.items s.trail false) (sym c.delete.ensures)
      (IsBase-deleted s.formula.now s.entries s.clauses s.watches.lists.items s.trail s.whole c.args.number (OnFalse_at c.if-is_reason.false (c.is_reason.ensures.none c.requires.stands)) c.requires.stands);
  ready = record {
    head = c.requires.ready.head;
    quiet = subst (λ z. Quiet (rows_of z) (pairs_of z) (has (take s.head s.trail.literals)) (has s.trail.literals)) (sym c.delete.ensures)
        (Quiet-deleted s.clauses c.args.number _ _ c.requires.ready.quiet);
  };
  trail = refl;
  rows = subst (λ z. AreLeftOrEmpty (rows_of s.clauses) (rows_of z)) (sym c.delete.ensures) (AreLeftOrEmpty-deleted s.clauses c.args.number);
  entries = refl;
  formula = refl;
})

pub returns-clause-clauses : goal.returns-clause-clauses
returns-clause-clauses c = inl (OnFalse_at c.if-is_reason.false (c.is_reason.ensures.none c.requires.stands), c.delete.ensures)
