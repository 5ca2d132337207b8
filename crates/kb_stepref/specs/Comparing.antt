-- How a reference compares with null (JVMS 8 section 6.5, ifnull and ifnonnull).
use Rattle.std.specs.Prelude.{Bool, true, false}
use Rattle.kb_frames.specs.declared.value.SymValue.{SymValue}
use Rattle.kb_frames.specs.declared.value.SymValue.TheVariants.{Null}

abbrev pub is_null : SymValue → Bool
is_null Null = true
is_null _ = false
