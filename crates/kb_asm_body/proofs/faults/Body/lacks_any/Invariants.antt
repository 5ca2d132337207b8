use Rattle.std.proofs.Common.{◌≡◌, length}
use Rattle.std.specs.List.{list_any}
use Rattle.kb_asm_body.specs.Layout.{offset_at}
use Rattle.kb_asm_body.specs.Faults.{is_missing}
use Rattle.kb_asm_body.proofs.faults.Body.lacks_any.Given as goal

abbrev pub invariant-loop-rest : goal.invariant-loop-rest
invariant-loop-rest l =
    list_any (is_missing (offset_at l.self.layout.now.labels) l.self.is_whole) l.rest
    ≡ list_any (is_missing (offset_at l.self.layout.now.labels) l.self.is_whole) l.labels

abbrev pub decreases-loop-rest : goal.decreases-loop-rest
decreases-loop-rest l = length l.rest
