use Rattle.std.proofs.Common.{◌≡◌, ◌-◌, ℕ, true, List, [], ◌∷◌, length, take, drop, Option, sym, ◌∙◌, subst}
use Rattle.std.specs.List.{AllZip}
use Rattle.std.proofs.lemmas.Bool.{and_parts}
use Rattle.kb_asm_text.specs.declared.line.Line.{Line}
use Rattle.kb_asm_pool.specs.Says.{Says}
use Rattle.kb_asm_pool.specs.Needs.{line_needs}
use Rattle.kb_asm_pool.specs.Entries.{entries_of}
use Rattle.kb_asm.specs.Parts.{parts}
use Rattle.kb_asm.specs.Needs.{have, have_all, IsWhole}
use Rattle.kb_asm.specs.Entries.{SaysClass}
use Rattle.kb_asm.specs.Class.{interface_in}
use Rattle.kb_asm.specs.Working.{Agree}
use Rattle.kb_asm.proofs.LoopLaws.{walks, part_next, part_end, interface_in_alone}
use Rattle.kb_asm.proofs.class.interfaces_of.Goals as goal

pub number_in-requires-clause-whole : goal.number_in-requires-clause-whole
number_in-requires-clause-whole c = subst IsWhole (sym c.loop-rest.invariant.same) c.requires.whole

pub number_in-requires-clause-there : goal.number_in-requires-clause-there
number_in-requires-clause-there c =
    let says = c.args.pool.now.says in
    let line = c.line-item.result in
    let rest = c.loop-rest.rest.now in
    let others = take (length rest - 1) (drop 1 rest) in
    let split : rest ≡ line ∷ others = walks rest line c.in-len1-up.len_at_least c.line-item.is in
    let there = and_parts (have says (line_needs line)) (have_all says others) (subst (λ (l : List Line). have_all says l ≡ true) split c.loop-rest.invariant.there) in
    subst (λ (s : List Says). have s (line_needs line) ≡ true) (sym c.loop-rest.invariant.same) there.0

pub loop-rest-preserved : goal.loop-rest-preserved
loop-rest-preserved c =
    let says = c.args.pool.now.says in
    let line = c.line-item.result in
    let rest = c.loop-rest.rest.now in
    let others = take (length rest - 1) (drop 1 rest) in
    let R = SaysClass (entries_of says) in
    let split : rest ≡ line ∷ others = walks rest line c.in-len1-up.len_at_least c.line-item.is in
    let there = and_parts (have says (line_needs line)) (have_all says others) (subst (λ (l : List Line). have_all says l ≡ true) split c.loop-rest.invariant.there) in
    let agree = subst (λ (p : Option (List ℕ)). Agree (SaysClass (entries_of says)) p c.in_ok-number.number) (interface_in_alone line others) (subst (λ (s : List Says). Agree (SaysClass (entries_of s)) (interface_in line []) c.in_ok-number.number) c.loop-rest.invariant.same c.in_ok-number.ensures.number) in
    record {
      same = c.in_ok-number.ensures.same ∙ c.loop-rest.invariant.same;
      there = there.1;
      made = part_next interface_in R rest others line c.loop-rest.interfaces c.push_part.new.row c.in_ok-number.number (AllZip R (parts interface_in c.args.lines.now)) split
          c.in_ok-push_part.ensures c.loop-rest.invariant.made agree;
    }

pub returns-clause-numbers : goal.returns-clause-numbers
returns-clause-numbers c =
    let R = SaysClass (entries_of c.args.pool.now.says) in
    part_end interface_in R c.loop-rest.rest.now c.loop-rest.interfaces (AllZip R (parts interface_in c.args.lines.now)) c.in_default.len_below c.loop-rest.invariant.made
