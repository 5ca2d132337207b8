use Rattle.std.proofs.Common.{◌≡◌, ◌+◌, ◌-◌, ℕ, true, List, ◌∷◌, length, take, drop, None, sym, ◌∙◌, subst, arith}
use Rattle.std.specs.List.{AllByRecursion}
use Rattle.std.proofs.lemmas.Bool.{and_parts}
use Rattle.kb_grammar.specs.Grammar.{Each}
use Rattle.kb_asm_text.specs.declared.line.Line.{Line}
use Rattle.kb_asm_body.specs.Layout.{line_size}
use Rattle.kb_asm_body.specs.Faults.{fault_from}
use Rattle.kb_asm_pool.specs.Says.{Says}
use Rattle.kb_asm_pool.specs.Needs.{line_needs}
use Rattle.kb_asm_pool.specs.Entries.{entries_of}
use Rattle.kb_asm.specs.Needs.{have, have_all, IsWhole}
use Rattle.kb_asm.specs.Instructions.{EncodesLine}
use Rattle.kb_asm.specs.Working.{labels_of, Appends, IsFitLine}
use Rattle.kb_asm.proofs.LoopLaws.{walks, piece_next, piece_end}
use Rattle.kb_asm.proofs.SoundLaws.{none_next, none_few, none_all}
use Rattle.kb_asm.proofs.CodeLaws.{longer_by}
use Rattle.kb_asm.proofs.instr.Body.bytes.Goals as goal

pub push_line-requires-clause-whole : goal.push_line-requires-clause-whole
push_line-requires-clause-whole c = subst IsWhole (sym c.loop-rest.invariant.same) c.requires.whole

pub push_line-requires-clause-there : goal.push_line-requires-clause-there
push_line-requires-clause-there c =
    let says = c.args.pool.now.says in
    let line = c.line-item.result in
    let rest = c.loop-rest.rest.now in
    let others = take (length rest - 1) (drop 1 rest) in
    let split : rest ≡ line ∷ others = walks rest line c.in-len1-up.len_at_least c.line-item.is in
    let there = and_parts (have says (line_needs line)) (have_all says others) (subst (λ (l : List Line). have_all says l ≡ true) split c.loop-rest.invariant.there) in
    subst (λ (s : List Says). have s (line_needs line) ≡ true) (sym c.loop-rest.invariant.same) there.0

pub push_line-requires-clause-fit : goal.push_line-requires-clause-fit
push_line-requires-clause-fit c =
    let says = c.args.pool.now.says in
    let line = c.line-item.result in
    let rest = c.loop-rest.rest.now in
    let split : rest ≡ line ∷ take (length rest - 1) (drop 1 rest) = walks rest line c.in-len1-up.len_at_least c.line-item.is in
    let fit = (subst (λ (l : List Line). AllByRecursion (IsFitLine says) l) split c.loop-rest.invariant.fit).0 in
    subst (λ (s : List Says). IsFitLine s line) (sym c.loop-rest.invariant.same) fit

pub push_line-requires-clause-sound : goal.push_line-requires-clause-sound
push_line-requires-clause-sound c =
    let line = c.line-item.result in
    let rest = c.loop-rest.rest.now in
    let at = length c.loop-rest.code.items in
    let place = c.loop-rest.invariant.sound.0 in
    let labels = labels_of c.args.self.now.layout.now in
    let others = take (length rest - 1) (drop 1 rest) in
    let split : rest ≡ line ∷ others = walks rest line c.in-len1-up.len_at_least c.line-item.is in
    (none_next labels place at line others (subst (λ (l : List Line). fault_from labels true place at l ≡ None) split c.loop-rest.invariant.sound.1)).0

pub push_line-requires-clause-few : goal.push_line-requires-clause-few
push_line-requires-clause-few c =
    let line = c.line-item.result in
    let rest = c.loop-rest.rest.now in
    let at = length c.loop-rest.code.items in
    let place = c.loop-rest.invariant.sound.0 in
    let labels = labels_of c.args.self.now.layout.now in
    let others = take (length rest - 1) (drop 1 rest) in
    let split : rest ≡ line ∷ others = walks rest line c.in-len1-up.len_at_least c.line-item.is in
    none_few labels (place + 1) (at + line_size line at) others
    (none_next labels place at line others (subst (λ (l : List Line). fault_from labels true place at l ≡ None) split c.loop-rest.invariant.sound.1)).1

pub loop-rest-preserved : goal.loop-rest-preserved
loop-rest-preserved c =
    let says = c.args.pool.now.says in
    let line = c.line-item.result in
    let rest = c.loop-rest.rest.now in
    let others = take (length rest - 1) (drop 1 rest) in
    let labels = labels_of c.args.self.now.layout.now in
    let S = EncodesLine (entries_of says) labels in
    let split : rest ≡ line ∷ others = walks rest line c.in-len1-up.len_at_least c.line-item.is in
    let there = and_parts (have says (line_needs line)) (have_all says others) (subst (λ (l : List Line). have_all says l ≡ true) split c.loop-rest.invariant.there) in
    let piece = subst (λ (s : List Says). Appends (EncodesLine (entries_of s) labels line) c.loop-rest.code.items c.push_line.new.code.items) c.loop-rest.invariant.same c.in_ok-push_line.ensures.bytes in
    let at = length c.loop-rest.code.items in
    let place = c.loop-rest.invariant.sound.0 in
    let next = (none_next labels place at line others (subst (λ (l : List Line). fault_from labels true place at l ≡ None) split c.loop-rest.invariant.sound.1)).1 in
    let longer : length c.push_line.new.code.items ≡ at + line_size line at = longer_by (entries_of says) labels line c.loop-rest.code.items c.push_line.new.code.items piece in
    record {
      same = c.in_ok-push_line.ensures.same ∙ c.loop-rest.invariant.same;
      there = there.1;
      fit = (subst (λ (l : List Line). AllByRecursion (IsFitLine says) l) split c.loop-rest.invariant.fit).1;
      sound = (place + 1, subst (λ (n : ℕ). fault_from labels true (place + 1) n others ≡ None) (sym longer) next);
      bytes = piece_next S rest others line c.loop-rest.code.items c.push_line.new.code.items (λ (l : List ℕ). Each S c.args.lines.now 0 l) split c.loop-rest.invariant.bytes piece;
    }

pub returns-clause-bytes : goal.returns-clause-bytes
returns-clause-bytes c =
    let S = EncodesLine (entries_of c.args.pool.now.says) (labels_of c.args.self.now.layout.now) in
    piece_end S c.loop-rest.rest.now c.loop-rest.code.items (λ (l : List ℕ). Each S c.args.lines.now 0 l) c.in_default.len_below c.loop-rest.invariant.bytes

pub returns-clause-few : goal.returns-clause-few
returns-clause-few c =
    let at = length c.loop-rest.code.items in
    let labels = labels_of c.args.self.now.layout.now in
    let some = none_all labels c.loop-rest.invariant.sound.0 at c.loop-rest.rest.now c.in_default.len_below c.loop-rest.invariant.sound.1 in
    (some.0, omega (arith, some.1))
