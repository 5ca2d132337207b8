use Rattle.std.proofs.Common.{refl}
use Rattle.kb_asm_pool.specs.Entries.{entries_of}
use Rattle.kb_asm.specs.Working.{labels_of}
use Rattle.kb_asm.proofs.CodeLaws.{line_other}
use Rattle.kb_asm.proofs.instr.Body.push_line.Goals as goal

pub returns-in_default : goal.returns-in_default
returns-in_default c = record {
  same = refl;
  bytes = line_other (entries_of c.args.pool.now.says) (labels_of c.args.self.now.layout.now) c.args.line.now c.args.code.now.items c.args.code.now.items c.in_default.not-Body refl;
}
