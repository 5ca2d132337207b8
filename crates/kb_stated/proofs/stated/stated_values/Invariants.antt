use Rattle.std.proofs.Common.{◌≡◌, take}
use Rattle.kb_stated.specs.Stated.{stated_values}
use Rattle.kb_stated.proofs.stated.stated_values.Given as goal

abbrev pub invariant-loop-value : goal.invariant-loop-value
invariant-loop-value l = l.outs ≡ stated_values l.state.picture.locs (take l.value-index l.values)
