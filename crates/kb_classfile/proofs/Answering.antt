-- From what the reading definition gives to what a result says of the bytes.
use Rattle.std.proofs.Common.{ℕ, List, Result, Ok, Err, IfOk, IfErr, ap, subst}
use Rattle.kb_classfile.specs.declared.file.ClassFile.{ClassFile}
use Rattle.kb_classfile.specs.declared.refusal.ClassRefusal.{ClassRefusal}
use Rattle.kb_classfile.specs.declared.refusal.ClassRefusal.TheVariants as refusals
use Rattle.kb_classfile.specs.Spelling.{IsClassFile}
use Rattle.kb_classfile.specs.Reading.{Gives, reading, fault_in}
use Rattle.kb_classfile.specs.Answers.{Refuses}
use Rattle.kb_classfile.proofs.ClassLaws.{read_is_spelled, spelled_is_read}

pub found_is_spelled : (result : Result ClassFile ClassRefusal) (bytes : List ℕ) → Gives (λ (file : ClassFile). file) result (reading bytes)
    → IfOk result (λ file. IsClassFile file bytes)
found_is_spelled (Ok file) bytes read = read_is_spelled file bytes read
found_is_spelled (Err refusal) bytes read = tt

pub spelled_is_found : (result : Result ClassFile ClassRefusal) (bytes : List ℕ) → Gives (λ (file : ClassFile). file) result (reading bytes)
    → (file : ClassFile) → IsClassFile file bytes → Gives (λ (read : ClassFile). read) result (Ok file)
spelled_is_found result bytes read file spelled =
    subst (λ (given : Result ClassFile ClassRefusal). Gives (λ (file : ClassFile). file) result given) (spelled_is_read file bytes spelled) read

refusal_is_first : (refusal : ClassRefusal) (bytes : List ℕ) → Gives (λ (file : ClassFile). file) (Err refusal) (reading bytes) → Refuses bytes refusal
refusal_is_first refusals.NoMemory bytes read = tt
refusal_is_first refusal bytes read = ap fault_in read

pub refused_is_first : (result : Result ClassFile ClassRefusal) (bytes : List ℕ) → Gives (λ (file : ClassFile). file) result (reading bytes)
    → IfErr result (Refuses bytes)
refused_is_first (Ok file) bytes read = tt
refused_is_first (Err refusal) bytes read = refusal_is_first refusal bytes read
