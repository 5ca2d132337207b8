-- Pieces of code, line by line.
use Rattle.std.proofs.Common.{◌≡◌, ℕ, ◌+◌, List, [], ◌∷◌, ◌++◌, length, Option, Result, Ok, Err, OnOk, refl, sym, ap, subst, ◌∙◌, append-nil, length-append}
use mathlib.Core.Path.{fun_ext}
use Rattle.kb_classfile.specs.declared.file.PoolEntry.{PoolEntry}
use Rattle.kb_code.specs.declared.instruction.Instr.{Instr}
use Rattle.kb_code.specs.Listing.{SpellsInstr}
use Rattle.kb_writer.specs.declared.written.Written.{Written}
use Rattle.kb_writer.specs.Instructions.{Writes, bytes_of}
use Rattle.kb_writer.proofs.InstrLaws.{size_is}
use Rattle.kb_asm_text.specs.declared.line.Operand.{Operand}
use Rattle.kb_asm_text.specs.declared.line.Catch.{Catch}
use Rattle.kb_asm_text.specs.declared.line.BodyLine.{BodyLine}
use Rattle.kb_asm_text.specs.declared.line.BodyLine.TheVariants as bodies
use Rattle.kb_asm_text.specs.declared.line.Line.{Line}
use Rattle.kb_asm_text.specs.declared.line.Line.TheVariants as lines
use Rattle.kb_asm_body.specs.Layout.{line_size, instr_size}
use Rattle.kb_asm.specs.Instructions.{IsAsked, SpellsAsked, EncodesLine}
use Rattle.kb_asm.specs.Working.{Appends, IsFormed}
use Rattle.kb_asm.proofs.FormLaws.{is_writing, is_sized}

module _ (pool : List PoolEntry) (labels : List ℕ → Option ℕ) where
  -- an instruction that was asked for
  pub appends_asked : (op : ℕ) (operand : Operand) (written : Written) (old new : List ℕ) (at : ℕ) → at ≡ length old → IsFormed op operand → IsAsked pool labels op operand written
      → new ≡ old ++ bytes_of written at → ((instr : Instr) → Writes written instr → SpellsInstr instr at (bytes_of written at))
      → Appends (SpellsAsked pool labels op operand) old new
  appends_asked op operand written old new at here formed asked is spelled =
      let w = is_writing pool labels op written operand formed asked in
      record {
        piece = bytes_of written at;
        is = is;
        spelled = subst (λ (n : ℕ). SpellsAsked pool labels op operand n (bytes_of written at)) here
            (record { written = written; asked = asked; are = refl; instr = w.0; writes = w.1; spelled = spelled w.0 w.1 });
      }

  asked_size : (op : ℕ) (operand : Operand) (at : ℕ) (bytes : List ℕ) → SpellsAsked pool labels op operand at bytes → length bytes ≡ instr_size op operand at
  asked_size op operand at bytes s = ap (λ (l : List ℕ). length l) s.are ∙ size_is s.written at ∙ is_sized pool labels op s.written at operand s.asked

  pub line_asked : (op : ℕ) (operand : Operand) (old new : List ℕ) → Appends (SpellsAsked pool labels op operand) old new
      → Appends (EncodesLine pool labels (lines.Body (bodies.Instr op operand))) old new
  unfolding line_size
  line_asked op operand old new a = record {
    piece = a.piece;
    is = a.is;
    spelled = record { code = a.spelled; size = asked_size op operand (length old) a.piece a.spelled };
  }

  pub line_raw : (byte : ℕ) (old new : List ℕ) → new ≡ old ++ byte ∷ [] → Appends (EncodesLine pool labels (lines.Body (bodies.Raw byte))) old new
  unfolding line_size
  line_raw byte old new is = record { piece = byte ∷ []; is = is; spelled = record { code = refl; size = refl } }

  -- no bytes
  nothing : (line : Line) (old new : List ℕ) → new ≡ old → EncodesLine pool labels line (length old) [] → Appends (EncodesLine pool labels line) old new
  nothing line old new is s = record { piece = []; is = is ∙ sym (append-nil old); spelled = s }

  pub line_label : (label : List ℕ) (old new : List ℕ) → new ≡ old → Appends (EncodesLine pool labels (lines.Body (bodies.Label label))) old new
  unfolding line_size
  line_label label old new is = nothing (lines.Body (bodies.Label label)) old new is (record { code = refl; size = refl })

  pub line_catch : (row : Catch) (old new : List ℕ) → new ≡ old → Appends (EncodesLine pool labels (lines.Body (bodies.Catch row))) old new
  unfolding line_size
  line_catch row old new is = nothing (lines.Body (bodies.Catch row)) old new is (record { code = refl; size = refl })

  -- a line that is of no body
  pub line_other : (line : Line) (old new : List ℕ) → ((body : BodyLine) → line ≡ lines.Body body → ⊥) → new ≡ old → Appends (EncodesLine pool labels line) old new
  unfolding line_size
  line_other (lines.Body body) old new other is = absurd (other body refl)
  line_other (lines.Class head) old new other is = nothing (lines.Class head) old new is (record { code = refl; size = refl })
  line_other (lines.Implements name) old new other is = nothing (lines.Implements name) old new is (record { code = refl; size = refl })
  line_other (lines.Field head) old new other is = nothing (lines.Field head) old new is (record { code = refl; size = refl })
  line_other (lines.Method head) old new other is = nothing (lines.Method head) old new is (record { code = refl; size = refl })
  line_other lines.End old new other is = nothing lines.End old new is (record { code = refl; size = refl })

-- as many bytes more as the line takes
pub longer_by : (pool : List PoolEntry) (labels : List ℕ → Option ℕ) (line : Line) (old new : List ℕ) → Appends (EncodesLine pool labels line) old new
    → length new ≡ length old + line_size line (length old)
longer_by pool labels line old new a =
    ap (λ (l : List ℕ). length l) a.is ∙ length-append old a.piece ∙ ap (λ (n : ℕ). length old + n) a.spelled.size

pub on_ok : {A E P Q : Type 0} (r : Result A E) → (P → Q) → OnOk r P → OnOk r Q
on_ok (Ok a) f p = f p
on_ok (Err e) f p = tt

pub on_both : {A E P Q R : Type 0} (r : Result A E) → (P → Q → R) → OnOk r P → OnOk r Q → OnOk r R
on_both (Ok a) f p q = f p q
on_both (Err e) f p q = tt

pub always : {A E P : Type 0} (r : Result A E) → P → OnOk r P
always (Ok a) p = p
always (Err e) p = tt

-- labels that lead to the same offsets
pub same_labels : (one other : List ℕ → Option ℕ) → ((name : List ℕ) → one name ≡ other name) → one ≡ other
same_labels one other each = fun_ext each
