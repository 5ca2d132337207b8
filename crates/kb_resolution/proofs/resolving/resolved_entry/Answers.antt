use Rattle.std.proofs.Common.{Some, None, sym, subst}
use Rattle.kb_class.specs.References.{sought_of}
use Rattle.kb_resolution.specs.Tables.{IsResolved}
use Rattle.kb_resolution.proofs.RowLaws.{sought_told, stands_for_nothing}
use Rattle.kb_resolution.proofs.resolving.resolved_entry.Goals as goal

pub member_entry-requires : goal.member_entry-requires
member_entry-requires c = (
  c.requires.0,
  c.requires.1,
  c.requires.2,
  c.requires.4,
  sought_told c.args.linked.now c.args.class c.args.entry c.class_of.result.now (Some (sought_of c.in-Some.reference)) c.class_of.ensures.there c.in-Some.ensures,
)

pub returns-in-None-clause-told : goal.returns-in-None-clause-told
returns-in-None-clause-told c =
    subst (IsResolved c.args.linked.now c.args.class c.args.entry) (sym c.nothing.ensures)
    (stands_for_nothing c.args.linked.now c.args.class c.args.entry (sought_told c.args.linked.now c.args.class c.args.entry c.class_of.result.now None c.class_of.ensures.there c.in-None.ensures))

pub returns-in-None-clause-known : goal.returns-in-None-clause-known
returns-in-None-clause-known c = c.requires.4
