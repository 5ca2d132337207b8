-- When two references are one (JVMS 8 section 6.5, if_acmp<cond>; Object.equals of the platform compares so as well).
use Rattle.std.specs.Prelude.{Bool, true, false, nat_eq}
use Rattle.kb_frames.specs.declared.value.SymValue.{SymValue}
use Rattle.kb_frames.specs.declared.value.SymValue.TheVariants.{Null, Obj, Literal, New}

-- Whether two references are one. Two objects of the picture are two objects of an input; a literal and an object that the run
-- has made are none of them.
abbrev pub same : SymValue → SymValue → Bool
same Null Null = true
same (Obj one) (Obj other) = nat_eq one other
same (Literal one) (Literal other) = nat_eq one other
same (New one) (New other) = nat_eq one other
same _ _ = false
