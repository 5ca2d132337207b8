use Rattle.kb_asm.proofs.WritableLaws.{file_writable, is_class}
use Rattle.kb_asm.proofs.MadeLaws.{made_bytes}
use Rattle.kb_asm.proofs.assembling.written.Goals as goal

pub write_class-requires : goal.write_class-requires
write_class-requires c =
    file_writable c.args.pool.now.says c.requires.whole c.args.lines.now c.args.file.now c.requires.whose c.in_ok-code_name.code_name c.in_ok-code_name.ensures

pub returns : goal.returns
returns c =
    made_bytes c.write_class.result (λ bytes. bytes.items) c.args.lines.now c.args.file.now c.in_ok-code_name.code_name
    (is_class c.args.pool.now.says c.requires.whole c.args.lines.now c.args.file.now c.requires.whose c.requires.says) c.write_class.ensures.bytes c.write_class.ensures.spelled
