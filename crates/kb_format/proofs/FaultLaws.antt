-- A class file has one first fault, or none.
use Rattle.std.proofs.Common.{◌≡◌, ℕ, inl, inr, Option, Some, None, refl, sym, ap, ◌∙◌}
use Rattle.kb_classfile.specs.declared.file.ClassFile.{ClassFile}
use Rattle.kb_classfile.specs.declared.file.Field.{Field}
use Rattle.kb_classfile.specs.declared.file.Method.{Method as ClassMethod}
use Rattle.kb_format.specs.declared.fault.FormatFault.{FormatFault}
use Rattle.kb_format.specs.declared.fault.FormatFault.TheVariants as faults
use Rattle.kb_format.specs.Rules.{field_of, member_of, HasAllowedNames, HasDescriptors, HasDifferentMembers}
use Rattle.kb_format.specs.Places.{name_places, type_places}
use Rattle.kb_format.specs.Faults.{IsFirstUnmet, HasMemberAgain, Tells}
use Rattle.kb_format.proofs.FirstUnmet.{none_unmet, one_unmet}
use Rattle.kb_format.proofs.Differing.{none_again, one_again}
use Rattle.kb_format.proofs.RuleLaws.{names_met, types_met}

module _ (file : ClassFile) where
  bad_name : (number : ℕ) → IsFirstUnmet file.pool (name_places file) number → HasAllowedNames file → ⊥
  bad_name number first names = none_unmet file.pool (name_places file) number first (names_met file names)

  bad_type : (number : ℕ) → IsFirstUnmet file.pool (type_places file) number → HasDescriptors file → ⊥
  bad_type number first types = none_unmet file.pool (type_places file) number first (types_met file types)

  two_members : (number : ℕ) → HasMemberAgain file number → HasDifferentMembers file → ⊥
  two_members number (inl again) members = none_again (field_of file) file.fields again.0 again.1 members.fields
  two_members number (inr again) members = none_again (member_of file) file.methods again.1.0 again.1.1 members.methods

  one_member : (one other : ℕ) → HasMemberAgain file one → HasMemberAgain file other → one ≡ other
  one_member one other (inl f) (inl g) =
      let same = ap (λ (field : Field). field.name) (one_again (field_of file) file.fields f.0 g.0 f.1 g.1) in
      f.2 ∙ same ∙ sym g.2
  one_member one other (inl f) (inr g) = absurd (none_again (field_of file) file.fields f.0 f.1 g.0)
  one_member one other (inr f) (inl g) = absurd (none_again (field_of file) file.fields g.0 g.1 f.0)
  one_member one other (inr f) (inr g) =
      let same = ap (λ (method : ClassMethod). method.name) (one_again (member_of file) file.methods f.1.0 g.1.0 f.1.1 g.1.1) in
      f.1.2 ∙ same ∙ sym g.1.2

  pub one_answer : (one other : Option FormatFault) → Tells file one → Tells file other → one ≡ other
  one_answer None None s t = refl
  one_answer None (Some (faults.BadName n)) s t = absurd (bad_name n t s.names)
  one_answer None (Some (faults.BadDescriptor n)) s t = absurd (bad_type n t.1 s.descriptors)
  one_answer None (Some (faults.TwoMembers n)) s t = absurd (two_members n t.2 s.members)
  one_answer (Some (faults.BadName m)) None s t = absurd (bad_name m s t.names)
  one_answer (Some (faults.BadName m)) (Some (faults.BadName n)) s t = ap (λ (number : ℕ). Some (faults.BadName number)) (one_unmet file.pool (name_places file) m n s t)
  one_answer (Some (faults.BadName m)) (Some (faults.BadDescriptor n)) s t = absurd (bad_name m s t.0)
  one_answer (Some (faults.BadName m)) (Some (faults.TwoMembers n)) s t = absurd (bad_name m s t.0)
  one_answer (Some (faults.BadDescriptor m)) None s t = absurd (bad_type m s.1 t.descriptors)
  one_answer (Some (faults.BadDescriptor m)) (Some (faults.BadName n)) s t = absurd (bad_name n t s.0)
  one_answer (Some (faults.BadDescriptor m)) (Some (faults.BadDescriptor n)) s t = ap (λ (number : ℕ). Some (faults.BadDescriptor number)) (one_unmet file.pool (type_places file) m n s.1 t.1)
  one_answer (Some (faults.BadDescriptor m)) (Some (faults.TwoMembers n)) s t = absurd (bad_type m s.1 t.1)
  one_answer (Some (faults.TwoMembers m)) None s t = absurd (two_members m s.2 t.members)
  one_answer (Some (faults.TwoMembers m)) (Some (faults.BadName n)) s t = absurd (bad_name n t s.0)
  one_answer (Some (faults.TwoMembers m)) (Some (faults.BadDescriptor n)) s t = absurd (bad_type n t.1 s.1)
  one_answer (Some (faults.TwoMembers m)) (Some (faults.TwoMembers n)) s t = ap (λ (number : ℕ). Some (faults.TwoMembers number)) (one_member m n s.2 t.2)
