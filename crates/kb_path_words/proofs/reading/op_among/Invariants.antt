use Rattle.std.proofs.Common.{◌≡◌, length}
use Rattle.kb_terms.specs.Op.{op_name}
use Rattle.kb_terms.specs.declared.op.Op.{Op}
use Rattle.kb_path_words.specs.Spelled.{IsAmong}
use Rattle.kb_path_words.proofs.reading.op_among.Given as goal

abbrev pub invariant-loop-rest : goal.invariant-loop-rest
invariant-loop-rest l = (op : Op) → l.word ≡ op_name op → IsAmong op l.ops → IsAmong op l.rest

abbrev pub decreases-loop-rest : goal.decreases-loop-rest
decreases-loop-rest l = length l.rest
