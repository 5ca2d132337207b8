use Rattle.std.proofs.Common.{◌≡◌, length, map, string_bytes}
use Rattle.kb_outside.specs.Memory.{bytes_of}
use Rattle.kb_outside.proofs.memory_shelf.find.Given as goal

abbrev pub invariant-loop-rest : goal.invariant-loop-rest
invariant-loop-rest l =
    bytes_of (map (λ file. (string_bytes file.0, file.1.items)) l.rest) l.name
    ≡ bytes_of (map (λ file. (string_bytes file.0, file.1.items)) l.files) l.name

abbrev pub decreases-loop-rest : goal.decreases-loop-rest
decreases-loop-rest l = length l.rest
