-- Bytes that were made of the class file of lines, if some were.
use Rattle.std.proofs.Common.{◌≡◌, ℕ, List, Result, Ok, Err, IfOk}
use Rattle.kb_classfile.specs.declared.file.ClassFile.{ClassFile}
use Rattle.kb_classfile.specs.Spelling.{Spells}
use Rattle.kb_writer.specs.Files.{class_bytes}
use Rattle.kb_asm_text.specs.declared.line.Line.{Line}
use Rattle.kb_asm.specs.Class.{IsClassOf}
use Rattle.kb_asm.specs.Working.{AreBytesOf}

pub made_bytes : {A E : Type 0} (made : Result A E) (items : A → List ℕ) (of : List Line) (file : ClassFile) (code_name : ℕ) → IsClassOf of file
    → IfOk made (λ bytes. items bytes ≡ class_bytes code_name file) → IfOk made (λ bytes. Spells file (items bytes)) → IfOk made (λ bytes. AreBytesOf of (items bytes))
made_bytes (Ok bytes) items of file code_name is_class are spelled =
    record { file = file; code_name = code_name; is_class = is_class; spelled = spelled; are = are }
made_bytes (Err e) items of file code_name is_class are spelled = tt
