use Rattle.std.proofs.Common.{◌≢◌, ℕ, [], sym, ◌∙◌, subst}
use Rattle.kb_dimacs_text.specs.Lines.{line_words}
use Rattle.kb_dimacs_text.specs.Dimacs.{SpellsHeader}
use Rattle.kb_dimacs_text.proofs.WordLaws.{some_text}
use Rattle.kb_dimacs_text.proofs.FrontLaws.{no_header}
use Rattle.kb_dimacs_text.proofs.front.begin.Goals as goal

pub returns-in-None-clause-bad : goal.returns-in-None-clause-bad
returns-in-None-clause-bad c = λ line is ls stands.
    let some : line_words line ≢ [] = λ e. some_text c.args.words.now c.is_empty.result c.is_empty.ensures c.if-is_empty.false (sym is ∙ e) in
    let none : (vars count : ℕ) → SpellsHeader vars count (line_words line) → ⊥ = λ vars count header. c.in-None.ensures vars count (subst (SpellsHeader vars count) is header) in
    ((stands, some, none), λ more formula are. no_header ls more line formula stands some none are)
