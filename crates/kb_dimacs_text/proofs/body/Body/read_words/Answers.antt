use Rattle.std.proofs.Common.{◌∙◌, ◌++◌, refl, List, ℕ, suc, take, drop, append-nil, subst, sym}
use Rattle.std.proofs.lemmas.Result.{err_from_is_err_and}
use Rattle.kb_dimacs_text.specs.Fronts.{HoldsWords, AreFine, StopsAtWords}
use Rattle.kb_dimacs_text.proofs.WordLaws.{texts, texts_around, texts_push}
use Rattle.kb_dimacs_text.proofs.ClauseLaws.{stops_behind, fine_none, fine_behind, held_behind}
use Rattle.kb_dimacs_text.proofs.body.Body.read_words.Goals as goal

pub loop-word-init : goal.loop-word-init
loop-word-init c =
    let self = c.args.self.now in
    record {
      vars = refl;
      count = refl;
      held = λ read held. subst (HoldsWords self) (sym (append-nil read)) held;
      fine = λ read held. fine_none self.formula.vars self.count read;
    }

pub loop-word-preserved : goal.loop-word-preserved
loop-word-preserved c =
    let old = c.args.self.now in
    let before = c.loop-word.invariant in
    let done = texts (take c.loop-word.word-index c.args.words.now) in
    let more = sym (texts_push c.args.words.now c.loop-word.word-index _ c.loop-word-test.true) in
    record {
      vars = c.in_ok-read_word.ensures.vars ∙ before.vars;
      count = c.in_ok-read_word.ensures.count ∙ before.count;
      held = λ read held.
          subst (λ (l : List (List ℕ)). HoldsWords c.read_word.new.self (read ++ l)) more
          (held_behind old c.loop-word.self c.read_word.new.self done _ before.held c.in_ok-read_word.ensures.ok read held);
      fine = λ read held.
          subst (λ (l : List (List ℕ)). AreFine old.formula.vars old.count read l) more
          (fine_behind old c.loop-word.self done _ before.vars before.count before.held before.fine c.in_ok-read_word.ensures.fine read held);
    }

pub returns-in_err-read_word-clause-bad : goal.returns-in_err-read_word-clause-bad
returns-in_err-read_word-clause-bad c =
    let p = err_from_is_err_and c.from_residual.result c.from_residual.ensures.1 in
    rw (p.1, p.2)
    (let words = c.args.words.now in
    let i = c.loop-word.word-index in
    subst (λ (l : List (List ℕ)). StopsAtWords c.args.self.now l c.in_err-read_word.field-0.0) (sym (texts_around words i _ c.loop-word-test.true))
    (stops_behind c.args.self.now c.loop-word.self (texts (take i words)) (texts (drop (suc i) words)) _ c.in_err-read_word.field-0.0
    c.loop-word.invariant.vars c.loop-word.invariant.count c.loop-word.invariant.held c.loop-word.invariant.fine c.in_err-read_word.ensures.bad))
