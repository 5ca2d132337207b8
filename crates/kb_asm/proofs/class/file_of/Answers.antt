use Rattle.std.proofs.Common.{◌≡◌, ℕ, List, refl, sym, ap, subst, ◌∙◌}
use Rattle.std.specs.List.{AllByRecursion, AllZip}
use Rattle.kb_classfile.specs.declared.file.PoolEntry.{PoolEntry}
use Rattle.kb_classfile.specs.declared.file.ClassFile.{ClassFile}
use Rattle.kb_asm_text.specs.declared.line.Line.{Line}
use Rattle.kb_asm_pool.specs.Says.{Says}
use Rattle.kb_asm_pool.specs.Entries.{entries_of}
use Rattle.kb_asm.specs.Entries.{SaysClass}
use Rattle.kb_asm.specs.Parts.{parts}
use Rattle.kb_asm.specs.Class.{interface_in, field_in, method_in, IsFieldOf, IsHeadedBy}
use Rattle.kb_asm.specs.Working.{IsFitLine, IsReadyMethod}
use Rattle.kb_asm.proofs.LoopLaws.{counted_zip}
use Rattle.kb_asm.proofs.KeptLaws.{few_interfaces, few_fields, few_methods}
use Rattle.kb_asm.proofs.TextLaws.{are_fit}
use Rattle.kb_asm.proofs.BodyLaws.{begins_class, are_sound}
use Rattle.kb_asm.proofs.class.file_of.Goals as goal

pub head_of-head-requires : goal.head_of-head-requires
head_of-head-requires c = begins_class c.args.lines.now c.requires.text

pub members_of-requires-clause-fit : goal.members_of-requires-clause-fit
members_of-requires-clause-fit c =
    subst (λ (s : List Says). AllByRecursion (IsFitLine s) c.args.lines.now) (sym (c.in_ok-parent.ensures.same ∙ c.in_ok-this.ensures.same))
    (are_fit c.args.pool.now.says c.args.lines.now c.requires.text c.requires.first)

pub members_of-requires-clause-sound : goal.members_of-requires-clause-sound
members_of-requires-clause-sound c = are_sound c.args.lines.now c.requires.text

pub returns-clause-file : goal.returns-clause-file
returns-clause-file c =
    let says = c.args.pool.now.says in
    let lines = c.args.lines.now in
    let head = c.head_of-head.result in
    let sound = c.requires.text.1.sound in
    let members = c.in_ok-members.members in
    let this : c.of_class.new.pool.says ≡ says = c.in_ok-this.ensures.same in
    let parent : c.of_class-2.new.pool.says ≡ says = c.in_ok-parent.ensures.same ∙ this in
    let pool : c.in_ok-entries.entries ≡ entries_of says = c.in_ok-entries.ensures ∙ ap entries_of parent in
    let this_is = subst (λ (name : List ℕ). SaysClass (entries_of says) name c.in_ok-this.this) c.as_slice.ensures.same c.in_ok-this.ensures.number in
    let parent_is = subst (λ (s : List Says). SaysClass (entries_of s) head.now.parent c.in_ok-parent.parent) this
    (subst (λ (name : List ℕ). SaysClass (entries_of c.of_class.new.pool.says) name c.in_ok-parent.parent) c.as_slice-2.ensures.same c.in_ok-parent.ensures.number) in
    let file : ClassFile = record {
      major = 52;
      pool = c.in_ok-entries.entries;
      access = head.now.access;
      this = c.in_ok-this.this;
      parent = c.in_ok-parent.parent;
      interfaces = members.interfaces;
      fields = members.fields;
      methods = members.methods;
    } in
    let headed = subst (λ (l : List Line). IsHeadedBy l file) (sym c.head_of-head.ensures.1)
    (refl, subst (λ (p : List PoolEntry). SaysClass p head.now.name c.in_ok-this.this) (sym pool) this_is, subst (λ (p : List PoolEntry). SaysClass p head.now.parent c.in_ok-parent.parent) (sym pool) parent_is) in
    let interfaces = subst (λ (s : List Says). AllZip (SaysClass (entries_of s)) (parts interface_in lines) members.interfaces) parent c.in_ok-members.ensures.interfaces in
    let fields = subst (λ (s : List Says). AllZip (IsFieldOf (entries_of s)) (parts field_in lines) members.fields) parent c.in_ok-members.ensures.fields in
    let methods = subst (λ (s : List Says). AllZip (IsReadyMethod s) (parts method_in lines) members.methods) parent c.in_ok-members.ensures.methods in
    record {
      pool = pool;
      major = refl;
      head = headed;
      interfaces = interfaces;
      fields = fields;
      methods = methods;
      few_interfaces = counted_zip (SaysClass (entries_of says)) (parts interface_in lines) members.interfaces interfaces (few_interfaces lines sound);
      few_fields = counted_zip (IsFieldOf (entries_of says)) (parts field_in lines) members.fields fields (few_fields lines sound);
      few_methods = counted_zip (IsReadyMethod says) (parts method_in lines) members.methods methods (few_methods lines sound);
    }
