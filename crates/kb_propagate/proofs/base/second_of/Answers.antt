use Rattle.std.proofs.Common.{◌≡◌, length, inl, inr, refl, arith}
use Rattle.std.proofs.lemmas.Option.{slice_get_read}
use Rattle.kb_propagate.proofs.base.second_of.Goals as goal

pub returns-then-literals-gt1 : goal.returns-then-literals-gt1
returns-then-literals-gt1 c = inl (slice_get_read c.args.literals.now (length c.args.literals.now) 1 c.index-literals-1.result refl c.if-literals-gt1.true c.index-literals-1.is)

pub returns-else-literals-gt1 : goal.returns-else-literals-gt1
returns-else-literals-gt1 c =
    let one : length c.args.literals.now ≡ 1 = omega arith in
    inr (one, slice_get_read c.args.literals.now (length c.args.literals.now) 0 c.index-literals-0.result refl c.requires c.index-literals-0.is)
