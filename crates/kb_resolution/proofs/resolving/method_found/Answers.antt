use Rattle.std.proofs.Common.{None}
use Rattle.kb_resolution.proofs.resolving.method_found.Goals as goal

pub returns : goal.returns
returns c = λ i. record {
  declaring = None;
  slot = None;
  method = c.method_sought.ensures i;
  special = c.special_sought.ensures i;
  left_out = c.args.left_out;
  owner = c.args.owner;
}
