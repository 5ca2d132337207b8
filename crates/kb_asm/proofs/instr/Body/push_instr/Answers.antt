use Rattle.std.proofs.Common.{◌≡◌, ◌≤◌, ℕ, true, length, subst, sym, arith}
use Rattle.kb_writer.specs.Instructions.{reaches}
use Rattle.kb_asm_pool.specs.Entries.{entries_of}
use Rattle.kb_asm.specs.Working.{labels_of}
use Rattle.kb_asm.proofs.CodeLaws.{appends_asked, on_both, always}
use Rattle.kb_asm.proofs.SoundLaws.{is_reached, is_sound_way}
use Rattle.kb_asm.proofs.instr.Body.push_instr.Goals as goal

pub instr-requires-clause-sound : goal.instr-requires-clause-sound
instr-requires-clause-sound c = (length c.args.code.now.items, c.requires.sound)

pub write_instr-requires-clause-sound : goal.write_instr-requires-clause-sound
write_instr-requires-clause-sound c =
    is_sound_way (entries_of c.args.pool.now.says) (labels_of c.args.self.now.layout.now) c.args.op c.in_ok-written.written (length c.args.code.now.items) c.args.operand.now
    c.requires.fit.formed c.requires.few c.in_ok-written.ensures.asked

pub write_instr-requires-clause-reached : goal.write_instr-requires-clause-reached
write_instr-requires-clause-reached c =
    let here : c.len-at.result ≡ length c.args.code.now.items = omega (arith, c.len-at.ensures) in
    let few : length c.args.code.now.items ≤ 65535 = omega (arith, c.requires.few) in
    subst (λ (at : ℕ). reaches c.in_ok-written.written at ≡ true) (sym here)
    (is_reached (entries_of c.args.pool.now.says) (labels_of c.args.self.now.layout.now) c.requires.near c.args.op c.in_ok-written.written (length c.args.code.now.items) few
    c.args.operand.now c.requires.sound c.in_ok-written.ensures.asked)

pub returns-clause-same : goal.returns-clause-same
returns-clause-same c = always c.write_instr.result c.in_ok-written.ensures.same

pub returns-clause-bytes : goal.returns-clause-bytes
returns-clause-bytes c =
    let here : c.len-at.result ≡ length c.args.code.now.items = omega (arith, c.len-at.ensures) in
    on_both c.write_instr.result
    (appends_asked (entries_of c.args.pool.now.says) (labels_of c.args.self.now.layout.now) c.args.op c.args.operand.now c.in_ok-written.written
    c.args.code.now.items c.write_instr.new.code.items c.len-at.result here c.requires.fit.formed c.in_ok-written.ensures.asked)
    c.write_instr.ensures.bytes c.write_instr.ensures.spelled
