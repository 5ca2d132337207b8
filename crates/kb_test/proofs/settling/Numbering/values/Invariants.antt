use Rattle.std.proofs.Common.{◌≡◌, take}
use Rattle.kb_test.specs.Tests.{values_of}
use Rattle.kb_test.proofs.settling.Numbering.values.Given as goal

abbrev pub invariant-loop-word : goal.invariant-loop-word
invariant-loop-word l = l.values ≡ values_of l.self.inputs l.self.literals (take l.word-index l.words)
