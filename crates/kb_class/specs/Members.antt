-- The access flags of fields and methods (JVMS 8 tables 4.5-A and 4.6-A).
use Rattle.std.specs.Prelude.{ℕ, Bool, ◌==◌, not, bit_and}

-- whether the flags have the bit ACC_STATIC
abbrev pub is_static : ℕ → Bool
is_static access = not (bit_and access 0x0008 == 0)
