use Rattle.std.proofs.Common.{sym, ap, ◌∙◌}
use Rattle.kb_class.specs.declared.entries.ReferenceKind.TheVariants as references
use Rattle.kb_class.specs.declared.members.MemberKind.TheVariants as kinds
use Rattle.kb_names.specs.declared.types.ExactType.{ExactType}
use Rattle.kb_resolution.specs.Lookup.{class_of_field}
use Rattle.kb_resolution.proofs.StandingLaws.{field_in_class}
use Rattle.kb_resolution.proofs.fields.class_of_field.Goals as goal

pub returns-in-Class : goal.returns-in-Class
returns-in-Class c = c.field_class.ensures ∙ field_in_class c.args.linked.now c.args.of.now _ c.args.wanted.name.now c.args.wanted.kind.now c.args.number c.in-Class.is c.requires.3

pub returns-in-Array : goal.returns-in-Array
returns-in-Array c = sym (ap (λ (type : ExactType). class_of_field c.args.linked.now references.Field type c.args.wanted.name.now (kinds.Field c.args.wanted.kind.now)) c.in-Array.is)
