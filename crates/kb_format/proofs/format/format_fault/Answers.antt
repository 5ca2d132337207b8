use Rattle.std.proofs.Common.{ℕ, Option, subst}
use Rattle.kb_format.specs.Members.{TellsMembers}
use Rattle.kb_format.proofs.Told.{bad_name, good_names, bad_type, good_types, two_members, different_members}
use Rattle.kb_format.proofs.format.format_fault.Goals as goal

pub returns-in-Some : goal.returns-in-Some
returns-in-Some c =
    bad_name c.args.file.now c.in_ok-members.members.fields.items c.in_ok-members.members.methods.items c.in_ok-members.ensures.fields c.in_ok-members.ensures.methods
    c.as_slice-pool.result.now c.as_slice-pool.ensures c.in_ok-verdicts.verdicts.items c.as_slice.result.now c.as_slice.ensures.value c.in_ok-verdicts.ensures
    c.in-Some.number c.in-Some.ensures

pub returns-in-Some-unmet_type : goal.returns-in-Some-unmet_type
returns-in-Some-unmet_type c = (
  good_names c.args.file.now c.in_ok-members.members.fields.items c.in_ok-members.members.methods.items c.in_ok-members.ensures.fields c.in_ok-members.ensures.methods
      c.as_slice-pool.result.now c.as_slice-pool.ensures c.in_ok-verdicts.verdicts.items c.as_slice.result.now c.as_slice.ensures.value c.in_ok-verdicts.ensures
      c.in_default.ensures,
  bad_type c.args.file.now c.in_ok-members.members.fields.items c.in_ok-members.members.methods.items c.in_ok-members.ensures.fields c.in_ok-members.ensures.methods
      c.as_slice-pool.result.now c.as_slice-pool.ensures c.in_ok-verdicts.verdicts.items c.as_slice-2.result.now c.as_slice-2.ensures.value c.in_ok-verdicts.ensures
      c.in-Some-unmet_type.number c.in-Some-unmet_type.ensures,
)

pub returns-in-Some-2 : goal.returns-in-Some-2
returns-in-Some-2 c =
    let fields = c.in_ok-members.members.fields.items in
    let methods = c.in_ok-members.members.methods.items in (
      good_names c.args.file.now fields methods c.in_ok-members.ensures.fields c.in_ok-members.ensures.methods
          c.as_slice-pool.result.now c.as_slice-pool.ensures c.in_ok-verdicts.verdicts.items c.as_slice.result.now c.as_slice.ensures.value c.in_ok-verdicts.ensures
          c.in_default.ensures,
      good_types c.args.file.now fields methods c.in_ok-members.ensures.fields c.in_ok-members.ensures.methods
          c.as_slice-pool.result.now c.as_slice-pool.ensures c.in_ok-verdicts.verdicts.items c.as_slice-2.result.now c.as_slice-2.ensures.value c.in_ok-verdicts.ensures
          c.in_default-unmet_type.ensures,
      two_members c.args.file.now c.as_slice-pool.result.now c.as_slice-pool.ensures c.in_ok-numbers.numbers.items c.as_slice-3.result.now c.as_slice-3.ensures.value c.in_ok-numbers.ensures
          fields methods c.in_ok-members.ensures.fields c.in_ok-members.ensures.methods c.in-Some-2.number
          (subst (λ (told : Option ℕ). TellsMembers c.as_slice-3.result.now fields methods told) c.in-Some-2.is c.in_ok-number.ensures),
    )

pub returns : goal.returns
returns c =
    let fields = c.in_ok-members.members.fields.items in
    let methods = c.in_ok-members.members.methods.items in
    record {
      names =
          good_names c.args.file.now fields methods c.in_ok-members.ensures.fields c.in_ok-members.ensures.methods
          c.as_slice-pool.result.now c.as_slice-pool.ensures c.in_ok-verdicts.verdicts.items c.as_slice.result.now c.as_slice.ensures.value c.in_ok-verdicts.ensures
          c.in_default.ensures;
      descriptors =
          good_types c.args.file.now fields methods c.in_ok-members.ensures.fields c.in_ok-members.ensures.methods
          c.as_slice-pool.result.now c.as_slice-pool.ensures c.in_ok-verdicts.verdicts.items c.as_slice-2.result.now c.as_slice-2.ensures.value c.in_ok-verdicts.ensures
          c.in_default-unmet_type.ensures;
      members =
          different_members c.args.file.now c.as_slice-pool.result.now c.as_slice-pool.ensures c.in_ok-numbers.numbers.items c.as_slice-3.result.now c.as_slice-3.ensures.value c.in_ok-numbers.ensures
          fields methods c.in_ok-members.ensures.fields c.in_ok-members.ensures.methods
          (subst (λ (told : Option ℕ). TellsMembers c.as_slice-3.result.now fields methods told) c.in-None.is c.in_ok-number.ensures);
    }
