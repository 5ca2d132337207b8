use Rattle.std.proofs.Common.{◌∙◌, ap, refl, []}
use Rattle.kb_blast.specs.Query.{numbered_conditions}
use Rattle.kb_blast.specs.Conditions.{term_words}
use Rattle.kb_blast.proofs.Loops.{blasted_is}
use Rattle.kb_blast.proofs.conditions.built.Goals as goal

pub returns : goal.returns
returns c query kinds terms conditions =
    let listing = c.args.listing.now in
    let words = c.in_ok-words.words.entries in
    let made = term_words words [] listing.terms.items c.variable_words.new.builder in
    ap (λ vars. (vars, c.finish.result)) c.in_ok-vars.ensures
    ∙ blasted_is query listing.kinds.entries listing.terms.items words made.0 made.0 (numbered_conditions c.args.numbering.now c.args.when.now)
    c.in_ok-builder.builder c.variable_words.new.builder made.1 c.finish.result
    c.in_ok-builder.ensures.formula kinds c.in_ok-words.ensures.built terms refl refl conditions
    (c.finish.ensures ∙ c.in_ok-add_circuits.ensures made.0 made.1 refl)
