use Rattle.std.proofs.Common.{◌≡◌, ◌∷◌, [], rules}
use Rattle.kb_circuit.specs.Circuit.{truth}
use Rattle.kb_circuit.proofs.Computing.{free_first}
use Rattle.kb_circuit.proofs.builder.Builder.new.Goals as goal

pub returns-clause-free : goal.returns-clause-free
returns-clause-free c = let e : c.add.new.self.clauses ≡ (truth ∷ []) ∷ [] = search rules in free_first c.add.new.self e
