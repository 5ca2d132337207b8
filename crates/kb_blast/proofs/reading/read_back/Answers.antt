use Rattle.std.proofs.Common.{◌≡◌, ◌∙◌, sym, ap, subst}
use Rattle.kb_chain.specs.Clause.{assignment_of}
use Rattle.kb_terms.specs.Terms.{int_at}
use Rattle.kb_blast.specs.Meaning.{Reads, read_into}
use Rattle.kb_blast.proofs.Loops.{reads-read_into, elsewhere, read_end}
use Rattle.kb_blast.proofs.reading.read_back.Goals as goal

pub returns-clause-read : goal.returns-clause-read
returns-clause-read c =
    let v = assignment_of c.args.bits.now in
    let vars = c.args.blasted.now.vars in
    let all : c.loop-rest.into ≡ read_into v vars c.args.into.now = sym (read_end v c.loop-rest.rest.now c.loop-rest.into c.in_default.len_below) ∙ c.loop-rest.invariant.read in
    subst (Reads v vars) (sym all) (reads-read_into v c.args.blasted.now.formula.vars vars c.args.into.now c.requires.readable)

pub returns-clause-others : goal.returns-clause-others
returns-clause-others c =
    let v = assignment_of c.args.bits.now in
    let vars = c.args.blasted.now.vars in
    let all : c.loop-rest.into ≡ read_into v vars c.args.into.now = sym (read_end v c.loop-rest.rest.now c.loop-rest.into c.in_default.len_below) ∙ c.loop-rest.invariant.read in
    λ x h. ap (λ xs. int_at xs x) all ∙ elsewhere v x vars c.args.into.now h
