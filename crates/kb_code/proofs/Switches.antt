-- The parts of a tableswitch, as they are read.
use Rattle.std.proofs.Common.{◌≡◌, ℕ, ℤ, List, Ok, refl}
use Rattle.kb_grammar.specs.Reading.{Place, judged, repeated}
use Rattle.kb_code.specs.declared.form.Loose.TheVariants as looses
use Rattle.kb_code.specs.Reading.{padding, far, bounds_fault, bounds, count_of, table_switch}

pub table_is_read : (from n : ℕ) (p p1 p2 p3 p4 : Place) (text : List ℕ) (default : ℤ) (ends : ℤ × ℤ) (targets : List ℤ) → padding from p ≡ Ok (text, p1) → far from p1 ≡ Ok (default, p2)
    → judged (bounds_fault from) (bounds from) p2 ≡ Ok (ends, p3) → n ≡ count_of ends → repeated (λ (number : ℕ). far from) n p3 ≡ Ok (targets, p4)
    → table_switch from p ≡ Ok (looses.Table ends.0 default targets, p4)
unfolding table_switch
table_is_read from n p p1 p2 p3 p4 text default ends targets pad first between many others = let rest = rw many at others in rw (pad, first, between, rest) refl
