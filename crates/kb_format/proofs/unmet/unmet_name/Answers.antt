use Rattle.std.proofs.Common.{List, map, ap, sym, ◌∙◌}
use Rattle.std.specs.List.{filter_map}
use Rattle.kb_format.specs.declared.place.Member.{Member}
use Rattle.kb_format.specs.Places.{name_in_entry}
use Rattle.kb_format.specs.Verdicts.{first_unmet}
use Rattle.kb_format.specs.Members.{name_of}
use Rattle.kb_format.proofs.FirstUnmet.{in_first, in_second, in_third}
use Rattle.kb_format.proofs.unmet.unmet_name.Goals as goal

pub returns-in-Some : goal.returns-in-Some
returns-in-Some c =
    in_first c.args.verdicts.now (filter_map name_in_entry c.args.pool.now) (map name_of c.args.members.now.fields.items) (map name_of c.args.members.now.methods.items)
    c.in-Some.number c.in-Some.ensures

pub returns-in-Some-unmet_member_name : goal.returns-in-Some-unmet_member_name
returns-in-Some-unmet_member_name c =
    in_second c.args.verdicts.now (filter_map name_in_entry c.args.pool.now) (map name_of c.args.members.now.fields.items) (map name_of c.args.members.now.methods.items)
    c.in-Some-unmet_member_name.number (sym c.in_default.ensures)
    (c.in-Some-unmet_member_name.ensures ∙ ap (λ (ms : List Member). first_unmet c.args.verdicts.now (map name_of ms)) c.as_slice.ensures.value)

pub returns : goal.returns
returns c =
    c.unmet_member_name-2.ensures ∙ ap (λ (ms : List Member). first_unmet c.args.verdicts.now (map name_of ms)) c.as_slice-2.ensures.value
    ∙ in_third c.args.verdicts.now (filter_map name_in_entry c.args.pool.now) (map name_of c.args.members.now.fields.items) (map name_of c.args.members.now.methods.items)
    (sym c.in_default.ensures)
    (ap (λ (ms : List Member). first_unmet c.args.verdicts.now (map name_of ms)) (sym c.as_slice.ensures.value) ∙ sym c.in_default-unmet_member_name.ensures)
