use Rattle.kb_class.specs.References.{sought_of}
use Rattle.kb_resolution.proofs.RowLaws.{stands}
use Rattle.kb_resolution.proofs.StandingLaws.{names_told, not_unnamed}
use Rattle.kb_resolution.proofs.resolving.member_entry.Goals as goal

pub stands_for-requires : goal.stands_for-requires
stands_for-requires c = (
  c.requires.0,
  c.requires.1,
  c.requires.2,
  c.requires.3,
  names_told c.args.linked.now c.args.numbers.now c.requires.1 c.args.class c.args.entry (sought_of c.args.reference.now) c.requires.4 c.in-Some.named c.in-Some.ensures,
)

pub returns-in_ok-told-in-Some-clause-told : goal.returns-in_ok-told-in-Some-clause-told
returns-in_ok-told-in-Some-clause-told c = stands c.args.linked.now c.args.class c.args.entry (sought_of c.args.reference.now) c.in_ok-told-in-Some.told c.requires.4 c.in_ok-told-in-Some.ensures.told

pub returns-in_ok-told-in-Some-clause-known : goal.returns-in_ok-told-in-Some-clause-known
returns-in_ok-told-in-Some-clause-known c = c.in_ok-told-in-Some.ensures.known

pub returns-in-None-clause-told : goal.returns-in-None-clause-told
returns-in-None-clause-told c = absurd (not_unnamed c.args.linked.now c.args.numbers.now c.requires.1 c.args.class c.args.entry (sought_of c.args.reference.now) c.requires.4 c.in-None.ensures)

pub returns-in-None-clause-known : goal.returns-in-None-clause-known
returns-in-None-clause-known c = c.requires.3
