use Rattle.std.proofs.Common.{◌≡◌, Some, None, length, slice_get, refl, ap, ◌∙◌}
use Rattle.std.proofs.lemmas.Option.{slice_get_read, slice_get_past}
use Rattle.kb_report_text.specs.Tables.{has_name}
use Rattle.kb_report_text.proofs.NameLaws.{namesake_there, namesake_none}
use Rattle.kb_report_text.proofs.naming.NamedWorld.has_namesake.Goals as goal

pub returns-in-Some : goal.returns-in-Some
returns-in-Some c =
    let tables = c.deref.result.now in
    let names = c.in-Some.names.now in
    let number = c.args.field.now.class.0 in
    let there : slice_get tables number ≡ Some names = slice_get_read tables (length tables) number names refl c.in-Some.ensures.lookup.3.0 c.in-Some.ensures.lookup.1 in
    namesake_there c.args.self.now c.self.inside.world.now c.self.inside.shared.items tables c.args.field.now names c.contains.result c.self.view_is c.deref.ensures.value c.self.invariant there
    (c.contains.ensures ∙ ap (has_name names) c.as_slice.ensures.same)

pub returns-in-None : goal.returns-in-None
returns-in-None c =
    let tables = c.deref.result.now in
    let number = c.args.field.now.class.0 in
    let none : slice_get tables number ≡ None = slice_get_past tables number c.in-None.ensures.lookup.3 in
    namesake_none c.args.self.now c.self.inside.world.now c.self.inside.shared.items tables c.args.field.now c.self.view_is c.deref.ensures.value c.self.invariant none
