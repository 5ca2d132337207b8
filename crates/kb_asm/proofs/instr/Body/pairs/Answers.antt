use Rattle.std.proofs.Common.{◌≡◌, ◌-◌, true, false, List, ◌∷◌, length, take, drop, subst}
use Rattle.std.specs.List.{AllZip, list_any}
use Rattle.std.proofs.lemmas.Bool.{or_parts}
use Rattle.kb_asm_text.specs.declared.line.Case.{Case}
use Rattle.kb_asm_body.specs.Faults.{is_missing}
use Rattle.kb_asm.specs.Instructions.{IsPair}
use Rattle.kb_asm.specs.Working.{labels_of}
use Rattle.kb_asm.proofs.LoopLaws.{walks, zip_end}
use Rattle.kb_asm.proofs.instr.Body.pairs.Goals as goal

pub to-requires : goal.to-requires
to-requires c =
    let labels = labels_of c.args.self.now.layout.now in
    let case = c.case-item.result in
    let rest = c.loop-rest.rest.now in
    let others = take (length rest - 1) (drop 1 rest) in
    let split : rest ≡ case ∷ others = walks rest case c.in-len1-up.len_at_least c.case-item.is in
    (or_parts (is_missing labels true case.target) (list_any (λ (case : Case). is_missing labels true case.target) others)
    (subst (λ (l : List (Case)). list_any (λ (case : Case). is_missing labels true case.target) l ≡ false) split c.loop-rest.invariant.there)).0

pub returns : goal.returns
returns c =
    let R = IsPair (labels_of c.args.self.now.layout.now) in
    zip_end R c.loop-rest.rest.now c.loop-rest.pairs (AllZip R c.args.cases.now) c.in_default.len_below c.loop-rest.invariant.made
