use Rattle.std.proofs.Common.{◌≡◌, ℕ, true, false, List, sym, subst}
use Rattle.std.specs.List.{list_any}
use Rattle.kb_asm_text.specs.declared.line.Case.{Case}
use Rattle.kb_asm_text.specs.declared.line.Operand.{Operand}
use Rattle.kb_asm_text.specs.declared.line.BodyLine.TheVariants as bodies
use Rattle.kb_asm_text.specs.declared.line.Line.TheVariants as lines
use Rattle.kb_asm_body.specs.Faults.{is_missing, is_faulty_instr}
use Rattle.kb_asm_check.specs.Limits.{ldc_says, has_few_words}
use Rattle.kb_asm.specs.Needs.{AreFirst}
use Rattle.kb_asm.specs.Working.{labels_of}
use Rattle.kb_asm.proofs.SoundLaws.{target_there, table_there, lookup_there}
use Rattle.kb_asm.proofs.instr.Body.instr.Goals as goal

pub constant-requires-clause-first : goal.constant-requires-clause-first
constant-requires-clause-first c =
    subst (λ (o : Operand). AreFirst c.args.pool.now.says (ldc_says (lines.Body (bodies.Instr c.args.op o)))) c.in-Constant.is c.requires.fit.first

pub call-requires-clause-few : goal.call-requires-clause-few
call-requires-clause-few c =
    subst (λ (o : Operand). has_few_words (lines.Body (bodies.Instr c.args.op o)) ≡ true) c.in-Method.is c.requires.fit.few

pub branch-self-requires : goal.branch-self-requires
branch-self-requires c =
    let labels = labels_of c.args.self.now.layout.now in
    target_there labels c.args.op c.in-Target.label c.requires.sound.0
    (subst (λ (o : Operand). is_faulty_instr labels true c.args.op o c.requires.sound.0 ≡ false) c.in-Target.is c.requires.sound.1)

pub to-default-requires : goal.to-default-requires
to-default-requires c =
    let labels = labels_of c.args.self.now.layout.now in
    (table_there labels c.args.op c.in-Table.low c.in-Table.default c.in-Table.targets c.requires.sound.0
    (subst (λ (o : Operand). is_faulty_instr labels true c.args.op o c.requires.sound.0 ≡ false) c.in-Table.is c.requires.sound.1)).0

pub targets-requires : goal.targets-requires
targets-requires c =
    let labels = labels_of c.args.self.now.layout.now in
    subst (λ (names : List (List ℕ)). list_any (is_missing labels true) names ≡ false) (sym c.as_slice-in-Table.ensures)
    (table_there labels c.args.op c.in-Table.low c.in-Table.default c.in-Table.targets c.requires.sound.0
    (subst (λ (o : Operand). is_faulty_instr labels true c.args.op o c.requires.sound.0 ≡ false) c.in-Table.is c.requires.sound.1)).1

pub to-default-requires-in-Lookup : goal.to-default-requires-in-Lookup
to-default-requires-in-Lookup c =
    let labels = labels_of c.args.self.now.layout.now in
    (lookup_there labels c.args.op c.in-Lookup.default c.in-Lookup.cases c.requires.sound.0
    (subst (λ (o : Operand). is_faulty_instr labels true c.args.op o c.requires.sound.0 ≡ false) c.in-Lookup.is c.requires.sound.1)).0

pub pairs-requires : goal.pairs-requires
pairs-requires c =
    let labels = labels_of c.args.self.now.layout.now in
    subst (λ (cases : List Case). list_any (λ (case : Case). is_missing labels true case.target) cases ≡ false) (sym c.as_slice-in-Lookup.ensures)
    (lookup_there labels c.args.op c.in-Lookup.default c.in-Lookup.cases c.requires.sound.0
    (subst (λ (o : Operand). is_faulty_instr labels true c.args.op o c.requires.sound.0 ≡ false) c.in-Lookup.is c.requires.sound.1)).1
