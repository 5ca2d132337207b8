use Rattle.std.proofs.Common.{◌≡◌, ◌-◌, ℕ, true, false, List, ◌∷◌, length, take, drop, subst}
use Rattle.std.specs.List.{AllZip, list_any}
use Rattle.std.proofs.lemmas.Bool.{or_parts}
use Rattle.kb_asm_body.specs.Faults.{is_missing}
use Rattle.kb_asm.specs.Instructions.{LeadsTo}
use Rattle.kb_asm.specs.Working.{labels_of}
use Rattle.kb_asm.proofs.LoopLaws.{walks, zip_end}
use Rattle.kb_asm.proofs.instr.Body.targets.Goals as goal

pub to-requires : goal.to-requires
to-requires c =
    let labels = labels_of c.args.self.now.layout.now in
    let label = c.label-item.result in
    let rest = c.loop-rest.rest.now in
    let others = take (length rest - 1) (drop 1 rest) in
    let split : rest ≡ label ∷ others = walks rest label c.in-len1-up.len_at_least c.label-item.is in
    (or_parts (is_missing labels true label) (list_any (is_missing labels true) others)
    (subst (λ (l : List (List ℕ)). list_any (is_missing labels true) l ≡ false) split c.loop-rest.invariant.there)).0

pub returns : goal.returns
returns c =
    let R = LeadsTo (labels_of c.args.self.now.layout.now) in
    zip_end R c.loop-rest.rest.now c.loop-rest.targets (AllZip R c.args.labels.now) c.in_default.len_below c.loop-rest.invariant.made
