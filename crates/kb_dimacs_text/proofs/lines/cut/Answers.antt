use Rattle.std.proofs.Common.{◌≡◌, ◌<◌, ℕ, false, take, length, get_or, add-one, sym, ◌∙◌, arith}
use Rattle.std.proofs.lemmas.List.Elements.{All-push}
use Rattle.std.proofs.Math.Seq.{take-suc}
use Rattle.kb_dimacs_text.specs.Pieces.{separates}
use Rattle.kb_dimacs_text.proofs.PieceLaws.{cut_at, uncut}
use Rattle.kb_dimacs_text.proofs.lines.cut.Goals as goal

pub loop-at-preserved : goal.loop-at-preserved
loop-at-preserved c =
    let lt : c.loop-at.at < length c.args.text.now = c.loop-at-test.true in
    rw (add-one, take-suc c.args.text.now c.loop-at.at 0 lt)
    (All-push (λ (b : ℕ). separates c.args.separator b ≡ false) (take c.loop-at.at c.args.text.now) (get_or c.args.text.now c.loop-at.at 0) c.loop-at.invariant
    (sym c.separates.ensures ∙ c.if-separates.false))

pub returns-then-separates : goal.returns-then-separates
returns-then-separates c =
    cut_at (separates c.args.separator) c.args.text.now c.loop-at.at c.loop-at-test.true c.loop-at.invariant (sym c.separates.ensures ∙ c.if-separates.true)

pub returns : goal.returns
returns c = uncut (separates c.args.separator) c.args.text.now c.loop-at.at (omega arith) c.loop-at.invariant
