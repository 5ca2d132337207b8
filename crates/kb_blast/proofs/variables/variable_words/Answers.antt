use Rattle.std.proofs.Common.{◌≡◌, ◌≤◌, ◌∷◌, ◌++◌, ◌∙◌, sym, ap, subst, arith}
use Rattle.kb_blast.specs.Conditions.{variable_words}
use Rattle.kb_blast.specs.Meaning.{IsRising}
use Rattle.kb_blast.specs.Listing.{numbers_of, words_in_front}
use Rattle.kb_blast.proofs.Loops.{variables_next, variables_end, numbers-next, within-next}
use Rattle.kb_blast.proofs.variables.variable_words.Goals as goal

pub loop-number-preserved : goal.loop-number-preserved
loop-number-preserved c =
    let xs = c.loop-number.words.entries in
    let more = c.insert.new.self.entries in
    let x = c.in-Some.number.now in
    let rest = c.next.new.self in
    let f = c.loop-number.builder in
    let g = c.variable_word.new.builder in
    let step : c.loop-number.number-iterator ≡ (x, c.in-Some.kind.now) ∷ rest = c.in-Some.ensures.steps in
    let rising : IsRising (numbers_of xs ++ x ∷ numbers_of rest) = subst (λ it. IsRising (numbers_of xs ++ numbers_of it)) step c.loop-number.invariant.rising in
    let up : f.vars ≤ g.vars = c.in_ok-word.ensures.grows in
    record {
      rising = subst IsRising (sym (numbers-next xs more x c.in_ok-word.word (numbers_of rest) rising c.in_ok-insert.ensures.entries)) rising;
      built = variables_next xs more x c.in-Some.kind.now rest c.in_ok-word.word f g rising c.in_ok-word.ensures.built c.in_ok-insert.ensures.entries
          ∙ ap (λ it. words_in_front xs (variable_words it f)) (sym step)
          ∙ c.loop-number.invariant.built;
      within = within-next f.vars g.vars xs more x c.in_ok-word.word (numbers_of rest) rising c.in_ok-insert.ensures.entries up c.loop-number.invariant.within c.in_ok-word.ensures.within;
      grows = let a = c.loop-number.invariant.grows in omega arith;
    }

pub returns-clause-built : goal.returns-clause-built
returns-clause-built c =
    let xs = c.loop-number.words.entries in
    sym c.loop-number.invariant.built
    ∙ ap (λ it. words_in_front xs (variable_words it c.loop-number.builder)) c.in-None.ensures.steps.0
    ∙ variables_end xs c.loop-number.builder
