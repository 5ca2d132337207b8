-- Literals that are made true.
use Rattle.std.proofs.Common.{◌≡◌, ◌-◌, ◌<◌, ◌∙◌, List, Bool, true, false, not, cond, refl, ap, length, slice_set}
use Rattle.std.proofs.lemmas.List.{get_or-set_same}
use Rattle.kb_chain.specs.Literal.{Literal, is_true}
use Rattle.kb_chain.specs.Clause.{assignment_of}

own_sign : (p : Bool) → cond p p (not p) ≡ true
own_sign true = refl
own_sign false = refl

pub made_true : (bits : List Bool) (l : Literal) → l.variable - 1 < length bits → is_true (assignment_of (slice_set bits (l.variable - 1) l.positive)) l ≡ true
made_true bits l lt = ap (λ z. cond l.positive z (not z)) (get_or-set_same bits (l.variable - 1) l.positive false lt) ∙ own_sign l.positive
