use Rattle.std.proofs.Common.{◌≡◌, ◌++◌, length}
use Rattle.std.specs.List.{AllByRecursion, flat_map}
use Rattle.kb_writer.specs.Files.{HasSizes, IfCode, FitsMethod, method_bytes, table}
use Rattle.kb_writer.proofs.class_writer.push_methods.Given as goal

abbrev pub invariant-loop-rest : goal.invariant-loop-rest
invariant-loop-rest l = record {
  bytes : l.into.items ++ flat_map (method_bytes l.fn.code_name) l.rest ≡ l.fn.into.items ++ table (method_bytes l.fn.code_name) l.methods;
  sizes : AllByRecursion (λ method. IfCode HasSizes method.code) l.rest;
  numbers : AllByRecursion FitsMethod l.rest → AllByRecursion FitsMethod l.methods;
}

abbrev pub decreases-loop-rest : goal.decreases-loop-rest
decreases-loop-rest l = length l.rest
