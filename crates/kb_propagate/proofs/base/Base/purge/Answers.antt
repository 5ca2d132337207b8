use Rattle.std.proofs.Common.{ap, sym, subst, refl, take}
use Rattle.kb_chain.specs.Literal.{has}
use Rattle.kb_propagate.specs.Rows.{rows_of}
use Rattle.kb_propagate.specs.Watches.{pairs_of, Quiet}
use Rattle.kb_propagate.specs.Base.{IsBase}
use Rattle.kb_propagate.proofs.ForgetLaws.{IsBase-purged, AreLeftOrEmpty-same}
use Rattle.kb_propagate.proofs.base.Base.purge.Goals as goal

pub returns-clause-forgets : goal.returns-clause-forgets
returns-clause-forgets c = (let s = c.args.self.now in record {
  stands = subst (λ z. IsBase s.formula.now s.entries (rows_of z) (pairs_of z) c.purge.new.self.lists.items s.trail s.whole) (sym c.compact.ensures)
      (subst (λ z. IsBase s.formula.now s.entries (rows_of s.clauses) (pairs_of s.clauses) z s.trail s.whole) (sym c.purge.ensures)
      (IsBase-purged s.formula.now s.entries s.clauses s.watches.lists.items s.trail s.whole c.requires.stands));
  ready = record {
    head = c.requires.ready.head;
    quiet = subst (λ z. Quiet (rows_of z) (pairs_of z) (has (take s.head s.trail.literals)) (has s.trail.literals)) (sym c.compact.ensures) c.requires.ready.quiet;
  };
  trail = refl;
  rows = AreLeftOrEmpty-same (rows_of s.clauses) (rows_of c.compact.new.self) (ap rows_of c.compact.ensures);
  entries = refl;
  formula = refl;
})
