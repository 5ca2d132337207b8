use Rattle.std.proofs.Common.{ℕ, sym, subst}
use Rattle.kb_asm_pool.specs.Needs.{field_needs, field_says}
use Rattle.kb_asm_pool.specs.Entries.{entries_of}
use Rattle.kb_asm.specs.Entries.{EntrySays}
use Rattle.kb_asm.proofs.EntryLaws.{not_grown, has_number, is_number}
use Rattle.kb_asm.proofs.numbers.of_field.Goals as goal

pub number_of-requires : goal.number_of-requires
number_of-requires c =
    has_number c.args.pool.now.says c.add_field.new.items.says (field_needs c.args.field.now) (field_says c.args.field.now) c.in_ok-place.place c.requires.whole c.requires.there c.in_ok-place.ensures.says c.in_ok-place.ensures.entry

pub returns-clause-same : goal.returns-clause-same
returns-clause-same c =
    not_grown c.args.pool.now.says c.add_field.new.items.says (field_needs c.args.field.now) (field_says c.args.field.now) c.in_ok-place.place c.requires.whole c.requires.there c.in_ok-place.ensures.says c.in_ok-place.ensures.entry

pub returns-clause-number : goal.returns-clause-number
returns-clause-number c =
    subst (λ (number : ℕ). EntrySays (entries_of c.args.pool.now.says) (field_says c.args.field.now) number) (sym c.number_of.ensures)
    (is_number c.args.pool.now.says c.add_field.new.items.says (field_needs c.args.field.now) (field_says c.args.field.now) c.in_ok-place.place c.requires.whole c.requires.there c.in_ok-place.ensures.says c.in_ok-place.ensures.entry)
