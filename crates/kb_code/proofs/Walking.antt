-- Reading all instructions of a code, one after the other.
use Rattle.std.proofs.Common.{◌≡◌, ℕ, ◌<◌, ◌≤◌, List, length, Ok, refl, ap, arith, length-append}
use Rattle.kb_grammar.specs.Reading.{Place, values_of}
use Rattle.kb_code.specs.declared.form.Loose.{Loose}
use Rattle.kb_code.specs.declared.refusal.CodeRefusal.{CodeRefusal}
use Rattle.kb_code.specs.declared.refusal.CodeRefusal.TheVariants as refusals
use Rattle.kb_code.specs.Reading.{Fails, item, walk}
use Rattle.kb_code.proofs.ItemLaws.{item_exact, item_takes}
use Rattle.kb_code.proofs.Steps.{IsOnTheWay, at_fault, at_end}

-- an instruction takes a byte at least
pub item_shortens : (p q : Place) (x : ℕ × Loose) → item p ≡ Ok (x, q) → length q.rest < length p.rest
item_shortens p q x read =
    let b = item_exact.found p q x read in
    omega (arith, item_takes x p.at b.text b.spelled, ap length b.parts, length-append b.text q.rest)

pub walk_fails : (refusal : CodeRefusal) (xs : List (ℕ × Loose)) (p : Place) (code : List ℕ) → IsOnTheWay item xs p (values_of item code 0) → 1 ≤ length p.rest
    → Fails refusal (item p) → Fails refusal (walk code)
unfolding walk
walk_fails refusals.NoMemory xs p code way some fails = tt
walk_fails refusal xs p code way some fails = rw (at_fault item xs p (values_of item code 0) refusal way some fails) refl

pub walk_ends : (xs : List (ℕ × Loose)) (p : Place) (code : List ℕ) → IsOnTheWay item xs p (values_of item code 0) → length p.rest ≡ 0 → walk code ≡ Ok xs
unfolding walk
walk_ends xs p code way none = rw (at_end item xs p (values_of item code 0) way none) refl
