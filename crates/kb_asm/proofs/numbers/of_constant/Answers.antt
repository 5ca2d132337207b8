use Rattle.std.proofs.Common.{◌≡◌, ◌-◌, ℕ, List, slice_get, Some, sym, subst, arith}
use Rattle.kb_asm_pool.specs.Says.{Says}
use Rattle.kb_asm_pool.specs.Needs.{constant_needs, constant_says}
use Rattle.kb_asm_pool.specs.Entries.{entries_of}
use Rattle.kb_asm.specs.Entries.{EntrySays}
use Rattle.kb_asm.proofs.EntryLaws.{not_grown, has_number, is_number}
use Rattle.kb_asm.proofs.numbers.of_constant.Goals as goal

pub number_of-requires : goal.number_of-requires
number_of-requires c =
    has_number c.args.pool.now.says c.add_constant.new.items.says (constant_needs c.args.of.now) (constant_says c.args.of.now) c.in_ok-place.place c.requires.whole c.requires.there c.in_ok-place.ensures.says c.in_ok-place.ensures.entry

pub returns-clause-same : goal.returns-clause-same
returns-clause-same c =
    not_grown c.args.pool.now.says c.add_constant.new.items.says (constant_needs c.args.of.now) (constant_says c.args.of.now) c.in_ok-place.place c.requires.whole c.requires.there c.in_ok-place.ensures.says c.in_ok-place.ensures.entry

pub returns-clause-number : goal.returns-clause-number
returns-clause-number c =
    subst (λ (number : ℕ). EntrySays (entries_of c.args.pool.now.says) (constant_says c.args.of.now) number) (sym c.number_of.ensures)
    (is_number c.args.pool.now.says c.add_constant.new.items.says (constant_needs c.args.of.now) (constant_says c.args.of.now) c.in_ok-place.place c.requires.whole c.requires.there c.in_ok-place.ensures.says c.in_ok-place.ensures.entry)

pub returns-clause-place : goal.returns-clause-place
returns-clause-place c =
    let one = constant_says c.args.of.now in
    let same = not_grown c.args.pool.now.says c.add_constant.new.items.says (constant_needs c.args.of.now) one c.in_ok-place.place c.requires.whole c.requires.there c.in_ok-place.ensures.says c.in_ok-place.ensures.entry in
    let back : c.number_of.result - 1 ≡ c.in_ok-place.place = omega (arith, c.number_of.ensures) in
    subst (λ (place : ℕ). slice_get c.args.pool.now.says place ≡ Some one) (sym back)
    (subst (λ (says : List Says). slice_get says c.in_ok-place.place ≡ Some one) same c.in_ok-place.ensures.entry)
