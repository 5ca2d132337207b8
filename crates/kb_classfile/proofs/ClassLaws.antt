-- What is read of all bytes, and what they spell.
use Rattle.std.proofs.Common.{◌≡◌, ℕ, Bool, true, false, cond, ltb, List, None, Result, Ok, Err, length, refl, sym, ◌∙◌, ap}
use Rattle.std.proofs.lemmas.Bool.{ltb-false, le-ltb}
use Rattle.kb_grammar.specs.Reading.{whole}
use Rattle.kb_grammar.proofs.Laws.{whole_found, whole_only}
use Rattle.kb_classfile.specs.declared.file.ClassFile.{ClassFile}
use Rattle.kb_classfile.specs.declared.refusal.ClassRefusal.{ClassRefusal}
use Rattle.kb_classfile.specs.declared.refusal.ClassRefusal.TheVariants as refusals
use Rattle.kb_classfile.specs.Spelling.{SpellsClass, Spells, most_bytes, IsClassFile}
use Rattle.kb_classfile.specs.Reading.{short, extra, class_file, reading, fault_in, first_fault}
use Rattle.kb_classfile.proofs.MemberLaws.{class_file_exact}

abbrev pub result_of : ClassFile → Result ClassFile ClassRefusal
result_of file = Ok file

-- bytes that are not too many
within : (b : Bool) (read : Result ClassFile ClassRefusal) (file : ClassFile) → cond b (Err refusals.Long) read ≡ Ok file → (b ≡ false) × (read ≡ Ok file)
within true read file h = absurd cc
within false read file h = (refl, h)

pub read_is_spelled : (file : ClassFile) (bytes : List ℕ) → reading bytes ≡ Ok file → IsClassFile file bytes
unfolding reading
read_is_spelled file bytes h =
    let w = within (ltb most_bytes (length bytes)) (whole extra class_file bytes 0) file h in
    record { spelled = whole_found short extra class_file SpellsClass class_file_exact bytes 0 file w.1; limit = ltb-false most_bytes (length bytes) w.0 }

pub spelled_is_read : (file : ClassFile) (bytes : List ℕ) → IsClassFile file bytes → reading bytes ≡ Ok file
unfolding reading
spelled_is_read file bytes s = rw (le-ltb most_bytes (length bytes) s.limit) (whole_only short extra class_file SpellsClass class_file_exact bytes 0 file s.spelled)

ok_file : (a b : ClassFile) → result_of a ≡ result_of b → a ≡ b
ok_file a b e = cc

-- bytes spell one file at most, be they few or many
pub spells_one : (one other : ClassFile) (bytes : List ℕ) → Spells one bytes → Spells other bytes → one ≡ other
spells_one one other bytes s t =
    ok_file one other
    (sym (whole_only short extra class_file SpellsClass class_file_exact bytes 0 one s) ∙ whole_only short extra class_file SpellsClass class_file_exact bytes 0 other t)

pub spelled_has_none : (file : ClassFile) (bytes : List ℕ) → IsClassFile file bytes → first_fault bytes ≡ None
spelled_has_none file bytes s = ap fault_in (spelled_is_read file bytes s)

pub none_is_spelled : (bytes : List ℕ) → first_fault bytes ≡ None → (file : ClassFile) × IsClassFile file bytes
none_is_spelled bytes h = go (reading bytes) refl h where
  go : (read : Result ClassFile ClassRefusal) → reading bytes ≡ read → fault_in read ≡ None → (file : ClassFile) × IsClassFile file bytes
  go (Ok file) is h = (file, read_is_spelled file bytes is)
  go (Err refusal) is h = absurd cc
