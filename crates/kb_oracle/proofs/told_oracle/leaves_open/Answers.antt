use Rattle.std.proofs.Common.{rules, ◌≡◌, length, sym, subst}
use Rattle.kb_chain.specs.Cnf.{Cnf}
use Rattle.kb_chain.specs.Propagation.{IsFresh}
use Rattle.kb_blast.specs.Query.{query_of}
use Rattle.kb_oracle.specs.Answers.{LeavesOpen}
use Rattle.kb_oracle.proofs.AnswerLaws.{leaves-open}
use Rattle.kb_oracle.proofs.ToldLaws.{not-fresh}
use Rattle.kb_oracle.proofs.told_oracle.leaves_open.Goals as goal

pub returns-in-Good-clause-yes : goal.returns-in-Good-clause-yes
returns-in-Good-clause-yes c =
    let log = c.args.log.now in
    let fresh = rw c.in-Good.is at c.in_ok-check_fresh.ensures in
    let count : length log.entries ≡ c.args.budget = search rules in
    leaves-open (query_of c.args.pool.now c.args.when.now) c.args.budget log
    (subst (λ (f : Cnf). IsFresh f.clauses log.entries) c.in_ok-blasted.ensures.formula fresh) count

pub returns-clause-no : goal.returns-clause-no
returns-clause-no c = λ (left : LeavesOpen (query_of c.args.pool.now c.args.when.now) c.args.budget c.args.log.now).
    let log = c.args.log.now in
    let bad = rw c.in-Bad.is at c.in_ok-check_fresh.ensures in
    not-fresh c.in_ok-blasted.blasted.formula.clauses log.entries c.in-Bad.field-0 bad
    (subst (λ (f : Cnf). IsFresh f.clauses log.entries) (sym c.in_ok-blasted.ensures.formula) left.fresh)
