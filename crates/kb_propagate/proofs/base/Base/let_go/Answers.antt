use Rattle.std.proofs.Common.{◌∙◌, ap, sym, subst, refl, false, take}
use Rattle.kb_chain.specs.Literal.{has}
use Rattle.kb_propagate.specs.Rows.{rows_of}
use Rattle.kb_propagate.specs.Watches.{pairs_of, Quiet}
use Rattle.kb_propagate.specs.Base.{IsBase}
use Rattle.kb_propagate.proofs.ForgetLaws.{IsBase-asleep, Quiet-asleep, rows_asleep, AreLeftOrEmpty-same}
use Rattle.kb_propagate.proofs.base.Base.let_go.Goals as goal

pub returns-clause-forgets : goal.returns-clause-forgets
returns-clause-forgets c = (let s = c.args.self.now in record {
  stands = subst (λ z. IsBase s.formula.now s.entries (rows_of z) (pairs_of z) s.watches.lists.items s.trail false) (sym c.let_go.ensures)
      (IsBase-asleep s.formula.now s.entries s.clauses s.watches.lists.items s.trail s.whole c.args.number c.requires.stands);
  ready = record {
    head = c.requires.ready.head;
    quiet = subst (λ z. Quiet (rows_of z) (pairs_of z) (has (take s.head s.trail.literals)) (has s.trail.literals)) (sym c.let_go.ensures)
        (Quiet-asleep s.clauses c.args.number _ _ c.requires.ready.quiet);
  };
  trail = refl;
  rows = AreLeftOrEmpty-same (rows_of s.clauses) (rows_of c.let_go.new.self) (ap rows_of c.let_go.ensures ∙ rows_asleep s.clauses c.args.number);
  entries = refl;
  formula = refl;
})

pub returns-clause-rows : goal.returns-clause-rows
returns-clause-rows c = ap rows_of c.let_go.ensures ∙ rows_asleep c.args.self.now.clauses c.args.number
