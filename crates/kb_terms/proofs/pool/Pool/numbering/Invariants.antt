use Rattle.std.proofs.Common.{◌≡◌, [], length, take, fold}
use Rattle.kb_terms.specs.Numbering.{visit}
use Rattle.kb_terms.proofs.pool.Pool.numbering.Given as goal

abbrev pub invariant-loop-root : goal.invariant-loop-root
invariant-loop-root l = (l.tasks.items ≡ []) × (l.terms.keys ≡ fold (visit (length l.nodes) l.nodes) [] (take l.root-index l.roots))
