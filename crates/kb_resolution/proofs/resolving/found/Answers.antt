use Rattle.std.proofs.Common.{subst}
use Rattle.kb_class.specs.declared.members.MemberKind.{MemberKind}
use Rattle.kb_class.specs.declared.members.MemberKind.TheVariants as kinds
use Rattle.kb_numbers.specs.Numbers.{HasTextAt, StandsFor}
use Rattle.kb_class.specs.Loading.{SpellsKind}
use Rattle.kb_resolution.proofs.StandingLaws.{class_inside, field_stands, method_stands}
use Rattle.kb_resolution.proofs.resolving.found.Goals as goal

pub field_found-requires : goal.field_found-requires
field_found-requires c =
    let of = c.args.reference.now in
    let texts = c.args.numbers.now.texts in
    let names = c.requires.4 in
    let member : StandsFor texts c.args.named.member of.name.now (kinds.Field c.in-Field.kind) =
    subst (λ (k : MemberKind). StandsFor texts c.args.named.member of.name.now k) c.in-Field.is names.member in
    (c.requires.0, c.requires.1, member, c.in_ok-number.ensures.told texts names.class c.requires.3.of_classes)

pub returns-in-Field-clause-told : goal.returns-in-Field-clause-told
returns-in-Field-clause-told c =
    let of = c.args.reference.now in
    let member : StandsFor c.args.numbers.now.texts c.args.named.member of.name.now (kinds.Field c.in-Field.kind) =
    subst (λ (k : MemberKind). StandsFor c.args.numbers.now.texts c.args.named.member of.name.now k) c.in-Field.is c.requires.4.member in
    field_stands c.args.linked.now c.args.class of.what of.class.now of.name.now of.kind.now c.in-Field.kind c.field_found.result c.args.numbers.now c.args.named.member member c.requires.1 c.requires.0
    c.args.slots.now c.requires.2 c.in-Field.is c.requires.5 c.field_found.ensures.declaring c.field_found.ensures.slot c.field_found.ensures.others

pub returns-in-Field-clause-known : goal.returns-in-Field-clause-known
returns-in-Field-clause-known c = record {
  of_classes = c.in_ok-number.ensures.known c.args.numbers.now.texts c.requires.4.class c.requires.3.of_classes;
  of_types = c.requires.3.of_types;
  of_members = c.requires.3.of_members;
}

pub method_found-requires : goal.method_found-requires
method_found-requires c =
    let of = c.args.reference.now in
    let texts = c.args.numbers.now.texts in
    let names = c.requires.4 in
    let member : StandsFor texts c.args.named.member of.name.now (kinds.Method c.in-Method.kind) =
    subst (λ (k : MemberKind). StandsFor texts c.args.named.member of.name.now k) c.in-Method.is names.member in (
      record { linked = c.requires.0; numbered = c.requires.1; stands = member },
      class_inside c.args.linked.now of.class.now c.in_ok-number.number (c.in_ok-number.ensures.told texts names.class c.requires.3.of_classes),
    )

pub returns-in_ok-left_out-in-Method-clause-told : goal.returns-in_ok-left_out-in-Method-clause-told
returns-in_ok-left_out-in-Method-clause-told c =
    let of = c.args.reference.now in
    let texts = c.args.numbers.now.texts in
    let names = c.requires.4 in
    let typed : HasTextAt texts c.args.named.member.kind (SpellsKind (kinds.Method c.in-Method.kind)) =
    subst (λ (k : MemberKind). HasTextAt texts c.args.named.member.kind (SpellsKind k)) c.in-Method.is names.member.typed in
    method_stands c.args.linked.now c.args.class of.what of.class.now of.name.now of.kind.now c.in-Method.kind c.in_ok-number.number c.if_class-owner.result c.in_ok-left_out-in-Method.left_out
    (c.in_ok-number.ensures.told texts names.class c.requires.3.of_classes) c.if_class-owner.ensures (c.in_ok-left_out-in-Method.ensures.told texts typed c.requires.3.of_types) c.method_found.result c.method_found.ensures
    c.in-Method.is c.requires.5

pub returns-in_ok-left_out-in-Method-clause-known : goal.returns-in_ok-left_out-in-Method-clause-known
returns-in_ok-left_out-in-Method-clause-known c =
    let texts = c.args.numbers.now.texts in
    let typed : HasTextAt texts c.args.named.member.kind (SpellsKind (kinds.Method c.in-Method.kind)) =
    subst (λ (k : MemberKind). HasTextAt texts c.args.named.member.kind (SpellsKind k)) c.in-Method.is c.requires.4.member.typed in
    record {
      of_classes = c.in_ok-number.ensures.known texts c.requires.4.class c.requires.3.of_classes;
      of_types = c.in_ok-left_out-in-Method.ensures.known texts typed c.requires.3.of_types;
      of_members = c.requires.3.of_members;
    }
