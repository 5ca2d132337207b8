use Rattle.std.proofs.Common.{◌≡◌, ℕ, true, List, Option, None, refl, sym, subst}
use Rattle.std.specs.List.{AllZip}
use Rattle.kb_grammar.specs.Grammar.{Each}
use Rattle.kb_asm_body.specs.Layout.{label_of}
use Rattle.kb_asm_body.specs.Faults.{fault_from}
use Rattle.kb_asm_pool.specs.Says.{Says}
use Rattle.kb_asm_pool.specs.Entries.{entries_of}
use Rattle.kb_asm.specs.Parts.{parts}
use Rattle.kb_asm.specs.Needs.{have_all, IsWhole}
use Rattle.kb_asm.specs.Instructions.{EncodesLine}
use Rattle.kb_asm.specs.Class.{handler_in, IsHandlerOf}
use Rattle.kb_asm.specs.Working.{labels_of, AreNear, AreFew}
use Rattle.kb_asm.proofs.LoopLaws.{counted_zip}
use Rattle.kb_asm.proofs.SoundLaws.{near_labels}
use Rattle.kb_asm.proofs.CodeLaws.{same_labels}
use Rattle.kb_asm.proofs.code.code_of.Goals as goal

pub bytes-requires-clause-near : goal.bytes-requires-clause-near
bytes-requires-clause-near c =
    let lines = c.args.lines.now in
    let same : labels_of c.in_ok-layout.layout ≡ label_of lines = same_labels (labels_of c.in_ok-layout.layout) (label_of lines) c.in_ok-layout.ensures.labels in
    subst AreNear (sym same) (near_labels lines c.requires.sound.faultless)

pub bytes-requires-clause-sound : goal.bytes-requires-clause-sound
bytes-requires-clause-sound c =
    let lines = c.args.lines.now in
    let same : labels_of c.in_ok-layout.layout ≡ label_of lines = same_labels (labels_of c.in_ok-layout.layout) (label_of lines) c.in_ok-layout.ensures.labels in
    subst (λ (f : List ℕ → Option ℕ). fault_from f true 0 0 lines ≡ None) (sym same) c.requires.sound.faultless

pub handlers-requires-clause-near : goal.handlers-requires-clause-near
handlers-requires-clause-near c =
    let lines = c.args.lines.now in
    let same : labels_of c.in_ok-layout.layout ≡ label_of lines = same_labels (labels_of c.in_ok-layout.layout) (label_of lines) c.in_ok-layout.ensures.labels in
    subst AreNear (sym same) (near_labels lines c.requires.sound.faultless)

pub handlers-requires-clause-sound : goal.handlers-requires-clause-sound
handlers-requires-clause-sound c =
    let lines = c.args.lines.now in
    let same : labels_of c.in_ok-layout.layout ≡ label_of lines = same_labels (labels_of c.in_ok-layout.layout) (label_of lines) c.in_ok-layout.ensures.labels in
    subst (λ (f : List ℕ → Option ℕ). fault_from f true 0 0 lines ≡ None) (sym same) c.requires.sound.faultless

pub handlers-requires-clause-whole : goal.handlers-requires-clause-whole
handlers-requires-clause-whole c = subst IsWhole (sym c.in_ok-bytes.ensures.same) c.requires.whole

pub handlers-requires-clause-there : goal.handlers-requires-clause-there
handlers-requires-clause-there c = subst (λ (s : List Says). have_all s c.args.lines.now ≡ true) (sym c.in_ok-bytes.ensures.same) c.requires.there

pub returns-clause-code : goal.returns-clause-code
returns-clause-code c =
    let pool = entries_of c.args.pool.now.says in
    let lines = c.args.lines.now in
    let same : labels_of c.in_ok-layout.layout ≡ label_of lines = same_labels (labels_of c.in_ok-layout.layout) (label_of lines) c.in_ok-layout.ensures.labels in
    let bytes = subst (λ (f : List ℕ → Option ℕ). Each (EncodesLine pool f) lines 0 c.in_ok-bytes.bytes.items) same c.in_ok-bytes.ensures.bytes in
    let handlers = subst (λ (s : List Says). AllZip (IsHandlerOf (entries_of s) (labels_of c.in_ok-layout.layout)) (parts handler_in lines) c.in_ok-handlers.handlers) c.in_ok-bytes.ensures.same c.in_ok-handlers.ensures.handlers in
    record {
      stack = refl;
      locals = refl;
      instructions = subst (λ (l : List ℕ). Each (EncodesLine pool (label_of lines)) lines 0 l) (sym c.from_vec.ensures) bytes;
      handlers = subst (λ (f : List ℕ → Option ℕ). AllZip (IsHandlerOf pool f) (parts handler_in lines) c.in_ok-handlers.handlers) same handlers;
    }

pub returns-clause-few : goal.returns-clause-few
returns-clause-few c =
    let R = IsHandlerOf (entries_of c.bytes.new.pool.says) (labels_of c.in_ok-layout.layout) in (
      subst AreFew (sym c.from_vec.ensures) c.in_ok-bytes.ensures.few,
      counted_zip R (parts handler_in c.args.lines.now) c.in_ok-handlers.handlers c.in_ok-handlers.ensures.handlers c.requires.sound.counted,
    )
