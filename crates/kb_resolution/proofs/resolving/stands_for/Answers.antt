use Rattle.std.proofs.Common.{◌≡◌, true, sym, subst, ◌∙◌}
use Rattle.kb_class.specs.References.{sought_of}
use Rattle.kb_resolution.specs.Tables.{StandsFor, is_proper}
use Rattle.kb_resolution.proofs.KnownLaws.{nothing_stands, members_more}
use Rattle.kb_resolution.proofs.resolving.stands_for.Goals as goal

pub returns-then-not-is_proper-clause-told : goal.returns-then-not-is_proper-clause-told
returns-then-not-is_proper-clause-told c =
    let of = c.args.reference.now in
    subst (StandsFor c.args.linked.now c.args.class (sought_of of)) (sym c.nothing.ensures)
    (nothing_stands c.args.linked.now c.args.class of.what of.class.now of.name.now of.kind.now (sym c.is_proper.ensures ∙ c.if-not-is_proper.true))

pub returns-then-not-is_proper-clause-known : goal.returns-then-not-is_proper-clause-known
returns-then-not-is_proper-clause-known c = c.requires.3

pub returns-in-Some-clause-told : goal.returns-in-Some-clause-told
returns-in-Some-clause-told c =
    let of = c.args.reference.now in
    let proper : is_proper of.what of.kind.now ≡ true = sym c.is_proper.ensures ∙ c.if-not-is_proper.false in
    c.requires.3.of_members c.args.named c.in-Some.told (sym c.in-Some.ensures) (sought_of of) c.requires.4 proper

pub returns-in-Some-clause-known : goal.returns-in-Some-clause-known
returns-in-Some-clause-known c = c.requires.3

pub found-requires : goal.found-requires
found-requires c = (c.requires.0, c.requires.1, c.requires.2, c.requires.3, c.requires.4, sym c.is_proper.ensures ∙ c.if-not-is_proper.false)

pub returns-clause-told : goal.returns-clause-told
returns-clause-told c = c.in_ok-told.ensures.told

pub returns-clause-known : goal.returns-clause-known
returns-clause-known c =
    let of = c.args.reference.now in
    let known = c.in_ok-told.ensures.known in
    let proper : is_proper of.what of.kind.now ≡ true = sym c.is_proper.ensures ∙ c.if-not-is_proper.false in
    record {
      of_classes = known.of_classes;
      of_types = known.of_types;
      of_members = members_more c.args.linked.now c.args.class c.args.numbers.now.texts c.found.new.known.members c.keep_member.new.members c.args.named c.in_ok-told.told (sought_of of)
          c.in_ok-keep_member.ensures known.of_members c.requires.4 proper c.in_ok-told.ensures.told;
    }
