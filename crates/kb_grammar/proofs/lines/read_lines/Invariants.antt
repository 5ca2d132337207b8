use Rattle.std.proofs.Common.{length}
use Rattle.kb_grammar.proofs.FormatLaws.{IsReadTo}
use Rattle.kb_grammar.proofs.lines.read_lines.Given as goal

abbrev pub invariant-loop-line : goal.invariant-loop-line
invariant-loop-line g l = IsReadTo (g.F.LineFormat.stands_behind l.format l.front) l.text l.rest l.number

abbrev pub decreases-loop-line : goal.decreases-loop-line
decreases-loop-line g l = length l.rest
