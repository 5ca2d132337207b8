use Rattle.std.proofs.Common.{◌<◌, length, add-one}
use Rattle.std.proofs.Math.Seq.{take-suc}
use Rattle.kb_grammar.proofs.WordLaws.{Lacks-++}
use Rattle.kb_grammar.proofs.words.cut.Goals as goal

pub loop-at-preserved : goal.loop-at-preserved
loop-at-preserved c =
    let lt : c.loop-at.at < length c.args.text.now = c.loop-at-test.true in
    rw (add-one, take-suc c.args.text.now c.loop-at.at 0 lt) (Lacks-++ c.args.byte _ _ c.loop-at.invariant (c.if-found-byte.false, tt))
