use Rattle.std.proofs.lemmas.Result.{err_from_is_err_and}
use Rattle.std.proofs.Common.{subst, sym, List, ℕ, ◌++◌}
use Rattle.kb_dimacs_text.specs.Fronts.{StopsAtWords, HoldsWords}
use Rattle.kb_dimacs_text.proofs.FrontLaws.{stops_at_line, one_more_line}
use Rattle.kb_dimacs_text.proofs.front.go_on.Goals as goal

pub returns-in_err-read_words-clause-bad : goal.returns-in_err-read_words-clause-bad
returns-in_err-read_words-clause-bad c = λ line is.
    let p = err_from_is_err_and c.from_residual.result c.from_residual.ensures.1 in
    rw (p.1, p.2)
    (stops_at_line c.args.body line c.in_err-read_words.field-0.0
    (subst (λ (l : List (List ℕ)). StopsAtWords c.args.body l c.in_err-read_words.field-0.0) (sym is) c.in_err-read_words.ensures.bad))

pub returns-clause-ok : goal.returns-clause-ok
returns-clause-ok c = λ ls line is stands.
    one_more_line c.args.body c.read_words.new.self ls line c.in_ok-read_words.ensures.vars c.in_ok-read_words.ensures.count
    (λ read held. subst (λ (l : List (List ℕ)). HoldsWords c.read_words.new.self (read ++ l)) (sym is) (c.in_ok-read_words.ensures.ok read held)) stands
