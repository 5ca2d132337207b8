-- The keys of a switch (JVMS 8 section 6.5, tableswitch and lookupswitch).
use Rattle.std.specs.Prelude.{ℕ, ℤ, List}
use Rattle.kb_semantics.specs.Comparisons.{table_keys}
use Rattle.kb_stepint.specs.declared.keys.Keys.{Keys}
use Rattle.kb_stepint.specs.declared.keys.Keys.TheVariants.{Table, Lookup}

-- the keys of a switch with their targets
abbrev pub keys_of : Keys → List (ℤ × ℕ)
keys_of (Table low targets) = table_keys low targets.now
keys_of (Lookup keys) = keys.now
