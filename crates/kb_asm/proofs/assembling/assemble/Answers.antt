use Rattle.std.proofs.Common.{List, sym, subst}
use Rattle.kb_asm_text.specs.declared.line.Line.{Line}
use Rattle.kb_asm_check.specs.Faults.{IsText}
use Rattle.kb_asm.specs.Working.{AreBytesOf}
use Rattle.kb_asm.proofs.assembling.assemble.Goals as goal

pub bytes_of-requires : goal.bytes_of-requires
bytes_of-requires c = (c.args.text.now, subst (λ (l : List Line). IsText l c.args.text.now) (sym c.as_slice.ensures) c.in-Ok.ensures.read)

pub returns-in-Ok-bytes_of-clause-assembled : goal.returns-in-Ok-bytes_of-clause-assembled
returns-in-Ok-bytes_of-clause-assembled c =
    let made = subst (λ (l : List Line). AreBytesOf l c.in-Ok-bytes_of.bytes.items) c.as_slice.ensures c.in-Ok-bytes_of.ensures in
    record {
      of = c.in-Ok.lines;
      is_text = c.in-Ok.ensures.read;
      file = made.file;
      code_name = made.code_name;
      is_class = made.is_class;
      spelled = made.spelled;
      are = made.are;
    }
