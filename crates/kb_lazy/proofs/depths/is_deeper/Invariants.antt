use Rattle.std.proofs.Common.{◌≡◌, nat_lt}
use Rattle.kb_picture.specs.Depths.{depth_in, depths_of, depth_at}
use Rattle.kb_lazy.proofs.depths.is_deeper.Given as goal

abbrev pub invariant-loop-left : goal.invariant-loop-left
invariant-loop-left l = nat_lt l.left (depth_in (depths_of l.before) l.origin) ≡ nat_lt l.most (depth_at l.picture l.fn.slot)

abbrev pub decreases-loop-left : goal.decreases-loop-left
decreases-loop-left l = l.left
