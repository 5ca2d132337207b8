-- What is there, or else another; what is there where something is so.
use Rattle.std.specs.Prelude.{Bool, Option, Some, None, if◌then◌else◌}

-- what is there, or else the other
abbrev pub or_else : {A : Type 0} → Option A → Option A → Option A
or_else (Some x) other = Some x
or_else None other = other

-- it, where that is so
abbrev pub only_where : {A : Type 0} → Bool → A → Option A
only_where such x = if such then Some x else None
