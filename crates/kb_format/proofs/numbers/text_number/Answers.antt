use Rattle.std.proofs.Common.{List, ℕ, Some, ap, subst, sym, ◌∙◌}
use Rattle.kb_format.specs.Rules.{AllDiffer}
use Rattle.kb_format.specs.Members.{texts_of}
use Rattle.kb_format.proofs.TextNumbers.{grown, stands_at}
use Rattle.kb_format.proofs.numbers.text_number.Goals as goal

pub returns-clause-number : goal.returns-clause-number
returns-clause-number c =
    let s = c.in_ok-number.ensures.stored in
    rw (c.in-Utf8.is) (stands_at c.insert_full.new.self.keys c.as_slice.result s.0 c.in_ok-number.number s.1 s.2 ∙ ap (λ (t : List ℕ). Some t) c.as_slice.ensures)

pub returns-clause-extends : goal.returns-clause-extends
returns-clause-extends c =
    let g = grown c.args.texts.now.keys c.as_slice.result c.requires in
    (g.more, ap texts_of c.in_ok-number.ensures.keys ∙ g.parts)

pub returns-clause-differ : goal.returns-clause-differ
returns-clause-differ c =
    let g = grown c.args.texts.now.keys c.as_slice.result c.requires in
    subst AllDiffer (ap texts_of (sym c.in_ok-number.ensures.keys)) g.differ
