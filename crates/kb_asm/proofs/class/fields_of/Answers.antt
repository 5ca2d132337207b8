use Rattle.std.proofs.Common.{◌≡◌, ◌-◌, true, List, [], ◌∷◌, length, take, drop, Option, sym, ◌∙◌, subst}
use Rattle.std.specs.List.{AllZip}
use Rattle.std.proofs.lemmas.Bool.{and_parts}
use Rattle.kb_asm_text.specs.declared.line.FieldHead.{FieldHead}
use Rattle.kb_asm_text.specs.declared.line.Line.{Line}
use Rattle.kb_asm_pool.specs.Says.{Says}
use Rattle.kb_asm_pool.specs.Needs.{line_needs}
use Rattle.kb_asm_pool.specs.Entries.{entries_of}
use Rattle.kb_asm.specs.Parts.{parts}
use Rattle.kb_asm.specs.Needs.{have, have_all, IsWhole}
use Rattle.kb_asm.specs.Class.{field_in, IsFieldOf}
use Rattle.kb_asm.specs.Working.{Agree}
use Rattle.kb_asm.proofs.LoopLaws.{walks, part_next, part_end, field_in_alone}
use Rattle.kb_asm.proofs.class.fields_of.Goals as goal

pub field_in-requires-clause-whole : goal.field_in-requires-clause-whole
field_in-requires-clause-whole c = subst IsWhole (sym c.loop-rest.invariant.same) c.requires.whole

pub field_in-requires-clause-there : goal.field_in-requires-clause-there
field_in-requires-clause-there c =
    let says = c.args.pool.now.says in
    let line = c.line-item.result in
    let rest = c.loop-rest.rest.now in
    let others = take (length rest - 1) (drop 1 rest) in
    let split : rest ≡ line ∷ others = walks rest line c.in-len1-up.len_at_least c.line-item.is in
    let there = and_parts (have says (line_needs line)) (have_all says others) (subst (λ (l : List Line). have_all says l ≡ true) split c.loop-rest.invariant.there) in
    subst (λ (s : List Says). have s (line_needs line) ≡ true) (sym c.loop-rest.invariant.same) there.0

pub loop-rest-preserved : goal.loop-rest-preserved
loop-rest-preserved c =
    let says = c.args.pool.now.says in
    let line = c.line-item.result in
    let rest = c.loop-rest.rest.now in
    let others = take (length rest - 1) (drop 1 rest) in
    let R = IsFieldOf (entries_of says) in
    let split : rest ≡ line ∷ others = walks rest line c.in-len1-up.len_at_least c.line-item.is in
    let there = and_parts (have says (line_needs line)) (have_all says others) (subst (λ (l : List Line). have_all says l ≡ true) split c.loop-rest.invariant.there) in
    let agree = subst (λ (p : Option (FieldHead)). Agree (IsFieldOf (entries_of says)) p c.in_ok-field.field) (field_in_alone line others) (subst (λ (s : List Says). Agree (IsFieldOf (entries_of s)) (field_in line []) c.in_ok-field.field) c.loop-rest.invariant.same c.in_ok-field.ensures.field) in
    record {
      same = c.in_ok-field.ensures.same ∙ c.loop-rest.invariant.same;
      there = there.1;
      made = part_next field_in R rest others line c.loop-rest.fields c.push_part.new.row c.in_ok-field.field (AllZip R (parts field_in c.args.lines.now)) split
          c.in_ok-push_part.ensures c.loop-rest.invariant.made agree;
    }

pub returns-clause-fields : goal.returns-clause-fields
returns-clause-fields c =
    let R = IsFieldOf (entries_of c.args.pool.now.says) in
    part_end field_in R c.loop-rest.rest.now c.loop-rest.fields (AllZip R (parts field_in c.args.lines.now)) c.in_default.len_below c.loop-rest.invariant.made
