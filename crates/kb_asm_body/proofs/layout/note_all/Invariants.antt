use Rattle.std.proofs.Common.{◌≡◌, ◌<◌, ◌^◌, List, ℕ, length}
use Rattle.std.specs.Option.{option_or}
use Rattle.kb_asm_body.specs.Layout.{offset_behind, label_from, label_of, offset_at}
use Rattle.kb_asm_body.proofs.layout.note_all.Given as goal

abbrev pub invariant-loop-rest : goal.invariant-loop-rest
invariant-loop-rest l = record {
  labels : (name : List ℕ) → option_or (offset_at l.labels name) (label_from name l.size l.rest) ≡ option_or (offset_at l.fn.labels name) (label_of l.body name);
  size : offset_behind l.size l.rest ≡ offset_behind 0 l.body;
  short : l.size < 2 ^ 30;
}

abbrev pub decreases-loop-rest : goal.decreases-loop-rest
decreases-loop-rest l = length l.rest
