use Rattle.std.proofs.Common.{◌≡◌, ◌+◌, ◌≤◌, true, false, length, refl, sym, subst, OnOk}
use Rattle.kb_asm_text.specs.declared.line.BodyLine.{BodyLine}
use Rattle.kb_asm_text.specs.declared.line.Line.TheVariants as lines
use Rattle.kb_asm_body.specs.Layout.{line_size}
use Rattle.kb_asm_body.specs.Faults.{is_faulty}
use Rattle.kb_asm_pool.specs.Entries.{entries_of}
use Rattle.kb_asm.specs.Instructions.{EncodesLine}
use Rattle.kb_asm.specs.Working.{labels_of, Appends}
use Rattle.kb_asm.proofs.CodeLaws.{line_asked, line_raw, line_label, line_catch, on_ok}
use Rattle.kb_asm.proofs.SoundLaws.{instr_few, instr_sound}
use Rattle.kb_asm.proofs.instr.Body.push_body.Goals as goal

pub push_instr-requires-clause-few : goal.push_instr-requires-clause-few
push_instr-requires-clause-few c =
    let at = length c.args.code.now.items in
    instr_few (labels_of c.args.self.now.layout.now) c.in-Instr.op c.in-Instr.operand at
    (subst (λ (line : BodyLine). at + line_size (lines.Body line) at ≤ 65535) c.in-Instr.is c.requires.few)

pub push_instr-requires-clause-sound : goal.push_instr-requires-clause-sound
push_instr-requires-clause-sound c =
    let at = length c.args.code.now.items in
    let labels = labels_of c.args.self.now.layout.now in
    instr_sound labels c.in-Instr.op c.in-Instr.operand at (subst (λ (line : BodyLine). is_faulty labels true (lines.Body line) at ≡ false) c.in-Instr.is c.requires.sound)

pub returns-in-Instr-clause-bytes : goal.returns-in-Instr-clause-bytes
returns-in-Instr-clause-bytes c =
    let pool = entries_of c.args.pool.now.says in
    let labels = labels_of c.args.self.now.layout.now in
    let old = c.args.code.now.items in
    let new = c.push_instr.new.code.items in
    let grown = on_ok c.push_instr.result (line_asked pool labels c.in-Instr.op c.in-Instr.operand old new) c.push_instr.ensures.bytes in
    subst (λ (line : BodyLine). OnOk c.push_instr.result (Appends (EncodesLine pool labels (lines.Body line)) old new)) (sym c.in-Instr.is) grown

pub returns-in_ok-push-in-Raw-clause-bytes : goal.returns-in_ok-push-in-Raw-clause-bytes
returns-in_ok-push-in-Raw-clause-bytes c =
    let pool = entries_of c.args.pool.now.says in
    let labels = labels_of c.args.self.now.layout.now in
    let old = c.args.code.now.items in
    let new = c.push.new.self.items in
    subst (λ (line : BodyLine). Appends (EncodesLine pool labels (lines.Body line)) old new) (sym c.in-Raw.is)
    (line_raw pool labels c.in-Raw.byte old new c.in_ok-push-in-Raw.ensures.items)

pub returns-in-Label-clause-bytes : goal.returns-in-Label-clause-bytes
returns-in-Label-clause-bytes c =
    let pool = entries_of c.args.pool.now.says in
    let labels = labels_of c.args.self.now.layout.now in
    let old = c.args.code.now.items in
    subst (λ (line : BodyLine). Appends (EncodesLine pool labels (lines.Body line)) old old) (sym c.in-Label.is) (line_label pool labels c.in-Label.field-0 old old refl)

pub returns-in-Catch-clause-bytes : goal.returns-in-Catch-clause-bytes
returns-in-Catch-clause-bytes c =
    let pool = entries_of c.args.pool.now.says in
    let labels = labels_of c.args.self.now.layout.now in
    let old = c.args.code.now.items in
    subst (λ (line : BodyLine). Appends (EncodesLine pool labels (lines.Body line)) old old) (sym c.in-Catch.is) (line_catch pool labels c.in-Catch.field-0 old old refl)
