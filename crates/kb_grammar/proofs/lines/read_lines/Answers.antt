use Rattle.kb_grammar.proofs.WordLaws.{some_left, none_left}
use Rattle.kb_grammar.proofs.FormatLaws.{next_read, bad_line, bad_end, whole_read, only_read}
use Rattle.kb_grammar.proofs.lines.read_lines.Goals as goal

pub returns-in-Ok-None-clause-bad : goal.returns-in-Ok-None-clause-bad
returns-in-Ok-None-clause-bad g c =
    bad_line (g.F.LineFormat.spells c.args.format.now) c.requires.are_lines (g.F.LineFormat.stands_behind c.args.format.now c.loop-line.front)
    (c.requires.goes_on c.loop-line.front) c.args.text.now c.loop-line.rest.now c.in-Some.line.now c.in-Some.others.now c.loop-line.number
    c.loop-line.invariant c.in-Some.ensures.0 c.in-Some.ensures.1 (rw c.in-Ok-None.field-0-is at c.in-Ok-None.ensures)

pub returns-in-Ok-None-clause-only : goal.returns-in-Ok-None-clause-only
returns-in-Ok-None-clause-only g c = λ whole spells. (returns-in-Ok-None-clause-bad g c).no_text (whole, spells)

pub loop-line-preserved : goal.loop-line-preserved
loop-line-preserved g c =
    next_read (g.F.LineFormat.stands_behind c.args.format.now c.loop-line.front) (g.F.LineFormat.stands_behind c.args.format.now c.in-Ok-Some.next)
    c.args.text.now c.loop-line.rest.now c.in-Some.line.now c.in-Some.others.now c.loop-line.number
    c.loop-line.invariant c.in-Some.ensures.0 c.in-Some.ensures.1 (rw c.in-Ok-Some.field-0-is at c.in-Ok-Some.ensures)

pub returns-then-not-is_empty-clause-bad : goal.returns-then-not-is_empty-clause-bad
returns-then-not-is_empty-clause-bad g c =
    bad_end (g.F.LineFormat.spells c.args.format.now) c.requires.are_lines (g.F.LineFormat.stands_behind c.args.format.now c.loop-line.front)
    (c.requires.goes_on c.loop-line.front) c.args.text.now c.loop-line.rest.now c.loop-line.number
    c.loop-line.invariant c.in_default.ensures (λ e before stands whole spells. some_left c.loop-line.rest.now c.is_empty.result c.is_empty.ensures c.if-not-is_empty.true e)

pub returns-then-not-is_empty-clause-only : goal.returns-then-not-is_empty-clause-only
returns-then-not-is_empty-clause-only g c = λ whole spells. (returns-then-not-is_empty-clause-bad g c).no_text (whole, spells)

pub returns-in-None-clause-bad : goal.returns-in-None-clause-bad
returns-in-None-clause-bad g c =
    bad_end (g.F.LineFormat.spells c.args.format.now) c.requires.are_lines (g.F.LineFormat.stands_behind c.args.format.now c.loop-line.front)
    (c.requires.goes_on c.loop-line.front) c.args.text.now c.loop-line.rest.now c.loop-line.number
    c.loop-line.invariant c.in_default.ensures (λ e before stands. c.in-None.ensures before stands)

pub returns-in-None-clause-only : goal.returns-in-None-clause-only
returns-in-None-clause-only g c = λ whole spells. (returns-in-None-clause-bad g c).no_text (whole, spells)

pub returns-in-Some-end-clause-found : goal.returns-in-Some-end-clause-found
returns-in-Some-end-clause-found g c =
    whole_read (g.F.LineFormat.spells c.args.format.now) c.requires.are_lines (g.F.LineFormat.stands_behind c.args.format.now c.loop-line.front)
    (c.requires.goes_on c.loop-line.front) c.args.text.now c.loop-line.rest.now c.loop-line.number c.in-Some-end.whole c.loop-line.invariant
    (none_left c.loop-line.rest.now c.is_empty.result c.is_empty.ensures c.if-not-is_empty.false) (c.in-Some-end.ensures c.loop-line.invariant.before c.loop-line.invariant.stands)

pub returns-in-Some-end-clause-only : goal.returns-in-Some-end-clause-only
returns-in-Some-end-clause-only g c = λ whole spells.
    only_read (g.F.LineFormat.spells c.args.format.now) c.requires.are_lines (g.F.LineFormat.stands_behind c.args.format.now c.loop-line.front)
    (c.requires.goes_on c.loop-line.front) c.requires.spells_one c.in-Some-end.whole whole c.args.text.now
    (returns-in-Some-end-clause-found g c) spells
