use Rattle.std.proofs.Common.{◌≡◌, ◌∙◌, ap, sym, List, []}
use Rattle.kb_chain.specs.Cnf.{Cnf}
use Rattle.kb_chain.specs.Literal.{Literal}
use Rattle.kb_blast.specs.Query.{numbered_conditions}
use Rattle.kb_blast.specs.Conditions.{term_words, with_conditions}
use Rattle.kb_blast.proofs.conditions.add_circuits.Goals as goal

pub returns : goal.returns
returns c words middle e =
    let conditions = numbered_conditions c.args.numbering.now c.args.when.now in
    let made : (c.in_ok-words.words.items, c.term_words.new.builder) ≡ (words, middle) =
    sym c.in_ok-words.ensures.built ∙ ap (λ ts. term_words c.args.vars.now.entries [] ts c.args.builder.now) c.deref.ensures.value ∙ e in
    c.in_ok-add_conditions.ensures
    ∙ ap (λ ws. with_conditions ws conditions c.term_words.new.builder) c.deref-2.ensures.value
    ∙ ap (λ (r : List (List Literal) × Cnf). with_conditions r.0 conditions r.1) made
