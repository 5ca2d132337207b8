use Rattle.std.proofs.Common.{◌++◌, ◌+◌, List, ℕ, take, length, ap, subst, sym, ◌∙◌, arith}
use Rattle.std.specs.Option.{option_copied}
use Rattle.kb_dimacs_text.specs.Lines.{lines}
use Rattle.kb_dimacs_text.specs.Pieces.{lines_left, bytes_left}
use Rattle.kb_dimacs_text.specs.Dimacs.{AreDimacs}
use Rattle.kb_dimacs_text.specs.Fronts.{HasRead, StopsAtLine}
use Rattle.kb_dimacs_text.specs.Refusals.{IsStoppingLine, IsCauseAt}
use Rattle.kb_dimacs_text.proofs.FrontLaws.{same_formula}
use Rattle.kb_dimacs_text.proofs.LineLaws.{bad_line, bad_end, take_one_more, line_read, lines_behind, fewer_bytes, some_line, all_lines, no_lines}
use Rattle.kb_dimacs_text.proofs.read.read_dimacs.Goals as goal

pub loop-rest-preserved : goal.loop-rest-preserved
loop-rest-preserved c =
    let ls = lines c.args.text.now in
    let n = c.loop-rest.number in
    let line = c.cut.result.0.now in
    let rest = lines_left (option_copied c.cut.result.1) in
    let here = ap (λ o. lines_left (option_copied o)) c.in-Some.is ∙ lines_behind c.in-Some.left.now line c.cut.result.1 c.cut.ensures in
    let all = ap (λ (l : List (List ℕ)). take n ls ++ l) (sym here) ∙ c.loop-rest.invariant.lines_are in
    let count = ap (λ (l : List (List ℕ)). n + length l) (sym here) ∙ c.loop-rest.invariant.number_is in
    record {
      stands = subst (HasRead c.in-Ok.next) (sym (take_one_more ls rest n line all count)) (c.in-Ok.ensures.ok (take n ls) c.loop-rest.invariant.stands);
      lines_are = line_read ls rest n line all count;
      number_is = omega (arith, count);
      short = omega (arith, fewer_bytes c.in-Some.left.now line c.cut.result.1 c.cut.ensures, ap (λ o. bytes_left (option_copied o)) c.in-Some.is, c.loop-rest.invariant.short);
    }

stopped : (c : goal.In-Err-Bad) → IsStoppingLine (lines c.args.text.now) (c.loop-rest.number + 1) × IsCauseAt (lines c.args.text.now) (c.loop-rest.number + 1) c.in-Err-Bad.cause
stopped c =
    let ls = lines c.args.text.now in
    let n = c.loop-rest.number in
    let line = c.cut.result.0.now in
    let rest = lines_left (option_copied c.cut.result.1) in
    let here = ap (λ o. lines_left (option_copied o)) c.in-Some.is ∙ lines_behind c.in-Some.left.now line c.cut.result.1 c.cut.ensures in
    bad_line c.loop-rest.front ls rest n line c.in-Err-Bad.cause c.loop-rest.invariant.stands
    (ap (λ (l : List (List ℕ)). take n ls ++ l) (sym here) ∙ c.loop-rest.invariant.lines_are)
    (ap (λ (l : List (List ℕ)). n + length l) (sym here) ∙ c.loop-rest.invariant.number_is)
    (subst (StopsAtLine c.loop-rest.front line) c.in-Err-Bad.field-0-is c.in-Err-Bad.ensures.bad)

pub returns-in-Err-Bad-clause-bad : goal.returns-in-Err-Bad-clause-bad
returns-in-Err-Bad-clause-bad c = rw c.in-Err-Bad.cause-is (stopped c)

pub returns-in-Err-Bad-clause-only : goal.returns-in-Err-Bad-clause-only
returns-in-Err-Bad-clause-only c = λ formula are. (stopped c).0.no_text formula are

pub returns-in-None-clause-bad : goal.returns-in-None-clause-bad
returns-in-None-clause-bad c =
    let ls = lines c.args.text.now in
    let none = ap (λ o. lines_left (option_copied o)) c.in_default.is in
    let all = all_lines ls _ c.loop-rest.number none c.loop-rest.invariant.lines_are in
    bad_end c.loop-rest.front ls c.loop-rest.number (some_line c.args.text.now) c.loop-rest.invariant.stands all
    (no_lines ls _ c.loop-rest.number none c.loop-rest.invariant.number_is)
    (λ formula are. c.in-None.ensures (take c.loop-rest.number ls) formula c.loop-rest.invariant.stands (subst (AreDimacs formula) (sym all) are))

pub returns-in-None-clause-only : goal.returns-in-None-clause-only
returns-in-None-clause-only c = λ formula are. (returns-in-None-clause-bad c).0.no_text formula are

pub returns-in-Some-finish-clause-only : goal.returns-in-Some-finish-clause-only
returns-in-Some-finish-clause-only c = λ formula are.
    let ls = lines c.args.text.now in
    let all = all_lines ls _ c.loop-rest.number (ap (λ o. lines_left (option_copied o)) c.in_default.is) c.loop-rest.invariant.lines_are in
    same_formula c.in-Some-finish.formula formula ls
    (subst (AreDimacs c.in-Some-finish.formula) all (c.in-Some-finish.ensures (take c.loop-rest.number ls) c.loop-rest.invariant.stands)) are
