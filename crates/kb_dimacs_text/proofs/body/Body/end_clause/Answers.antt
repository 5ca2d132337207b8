use Rattle.std.proofs.Common.{◌≡◌, List, sym, subst}
use Rattle.kb_chain.specs.Literal.{Literal}
use Rattle.kb_chain.specs.Clause.{clause_of}
use Rattle.kb_chain.specs.Cnf.{IsWithin}
use Rattle.kb_dimacs_text.proofs.ClauseLaws.{IsWithin-clause_of}
use Rattle.kb_dimacs_text.proofs.body.Body.end_clause.Goals as goal

pub add-requires : goal.add-requires
add-requires c =
    let literals = c.args.self.now.literals.items in
    let e : c.in_ok-clause.clause ≡ clause_of literals = cc (c.in_ok-clause.ensures, c.as_slice.ensures.value) in
    subst (λ (clause : List Literal). IsWithin c.args.self.now.formula.vars clause) (sym e) (IsWithin-clause_of c.args.self.now.formula.vars literals c.args.self.now.within)
