use Rattle.std.proofs.Common.{◌≡◌, ◌+◌, ◌-◌, true, List, [], ◌∷◌, length, take, drop, Option, None, sym, ◌∙◌, subst}
use Rattle.std.specs.List.{AllZip}
use Rattle.std.proofs.lemmas.Bool.{and_parts}
use Rattle.kb_asm_text.specs.declared.line.Catch.{Catch}
use Rattle.kb_asm_text.specs.declared.line.Line.{Line}
use Rattle.kb_asm_body.specs.Layout.{line_size}
use Rattle.kb_asm_body.specs.Faults.{fault_from}
use Rattle.kb_asm_pool.specs.Says.{Says}
use Rattle.kb_asm_pool.specs.Needs.{line_needs}
use Rattle.kb_asm_pool.specs.Entries.{entries_of}
use Rattle.kb_asm.specs.Parts.{parts}
use Rattle.kb_asm.specs.Needs.{have, have_all, IsWhole}
use Rattle.kb_asm.specs.Class.{handler_in, IsHandlerOf}
use Rattle.kb_asm.specs.Working.{labels_of, Agree}
use Rattle.kb_asm.proofs.LoopLaws.{walks, part_next, part_end, handler_in_alone}
use Rattle.kb_asm.proofs.SoundLaws.{none_next, is_labelled}
use Rattle.kb_asm.proofs.instr.Body.handlers.Goals as goal

pub handler_in-requires-clause-whole : goal.handler_in-requires-clause-whole
handler_in-requires-clause-whole c = subst IsWhole (sym c.loop-rest.invariant.same) c.requires.whole

pub handler_in-requires-clause-there : goal.handler_in-requires-clause-there
handler_in-requires-clause-there c =
    let says = c.args.pool.now.says in
    let line = c.line-item.result in
    let rest = c.loop-rest.rest.now in
    let others = take (length rest - 1) (drop 1 rest) in
    let split : rest ≡ line ∷ others = walks rest line c.in-len1-up.len_at_least c.line-item.is in
    let there = and_parts (have says (line_needs line)) (have_all says others) (subst (λ (l : List Line). have_all says l ≡ true) split c.loop-rest.invariant.there) in
    subst (λ (s : List Says). have s (line_needs line) ≡ true) (sym c.loop-rest.invariant.same) there.0

pub handler_in-requires-clause-labelled : goal.handler_in-requires-clause-labelled
handler_in-requires-clause-labelled c =
    let line = c.line-item.result in
    let rest = c.loop-rest.rest.now in
    let sound = c.loop-rest.invariant.sound in
    let labels = labels_of c.args.self.now.layout.now in
    let others = take (length rest - 1) (drop 1 rest) in
    let split : rest ≡ line ∷ others = walks rest line c.in-len1-up.len_at_least c.line-item.is in
    is_labelled labels line sound.1 (none_next labels sound.0 sound.1 line others (subst (λ (l : List Line). fault_from labels true sound.0 sound.1 l ≡ None) split sound.2)).0

pub loop-rest-preserved : goal.loop-rest-preserved
loop-rest-preserved c =
    let says = c.args.pool.now.says in
    let line = c.line-item.result in
    let rest = c.loop-rest.rest.now in
    let others = take (length rest - 1) (drop 1 rest) in
    let R = IsHandlerOf (entries_of says) (labels_of c.args.self.now.layout.now) in
    let split : rest ≡ line ∷ others = walks rest line c.in-len1-up.len_at_least c.line-item.is in
    let there = and_parts (have says (line_needs line)) (have_all says others) (subst (λ (l : List Line). have_all says l ≡ true) split c.loop-rest.invariant.there) in
    let agree = subst (λ (p : Option (Catch)). Agree (IsHandlerOf (entries_of says) (labels_of c.args.self.now.layout.now)) p c.in_ok-handler.handler) (handler_in_alone line others) (subst (λ (s : List Says). Agree (IsHandlerOf (entries_of s) (labels_of c.args.self.now.layout.now)) (handler_in line []) c.in_ok-handler.handler) c.loop-rest.invariant.same c.in_ok-handler.ensures.handler) in
    let sound = c.loop-rest.invariant.sound in
    let labels = labels_of c.args.self.now.layout.now in
    let next = (none_next labels sound.0 sound.1 line others (subst (λ (l : List Line). fault_from labels true sound.0 sound.1 l ≡ None) split sound.2)).1 in
    record {
      same = c.in_ok-handler.ensures.same ∙ c.loop-rest.invariant.same;
      there = there.1;
      sound = (sound.0 + 1, sound.1 + line_size line sound.1, next);
      made = part_next handler_in R rest others line c.loop-rest.handlers c.push_part.new.row c.in_ok-handler.handler (AllZip R (parts handler_in c.args.lines.now)) split
          c.in_ok-push_part.ensures c.loop-rest.invariant.made agree;
    }

pub returns-clause-handlers : goal.returns-clause-handlers
returns-clause-handlers c =
    let R = IsHandlerOf (entries_of c.args.pool.now.says) (labels_of c.args.self.now.layout.now) in
    part_end handler_in R c.loop-rest.rest.now c.loop-rest.handlers (AllZip R (parts handler_in c.args.lines.now)) c.in_default.len_below c.loop-rest.invariant.made
