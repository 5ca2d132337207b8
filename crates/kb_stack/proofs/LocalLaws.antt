-- Locals that were never written need not be there.
use Rattle.std.proofs.Common.{◌≡◌, ℕ, zero, suc, ◌+◌, ◌-◌, ◌<◌, ◌≤◌, List, [], ◌∷◌, ◌++◌, length, replicate, map, Option, Some, None, slice_get, slice_set, refl, sym, ap, ◌∙◌, arith, append_assoc, length-append}
use Rattle.std.specs.Option.{option_and_then}
use Rattle.std.proofs.lemmas.List.{replicate-append-replicate, length-replicate, length-set, length-map, set-append_left, set_past}
use Rattle.kb_heap.specs.declared.heap.Value.{Value}
use Rattle.kb_semantics.specs.Config.{first_locals}
use Rattle.kb_stack.specs.Unwritten.{with_unwritten}

-- what was written, if anything
abbrev written : Option (Option Value) → Option Value
written local = option_and_then (λ v. v) local

unwritten_has_none : (n k : ℕ) → written (slice_get (replicate n None) k) ≡ None
unwritten_has_none zero k = refl
unwritten_has_none (suc n) zero = refl
unwritten_has_none (suc n) (suc k) = unwritten_has_none n k

same_behind : (locals : List (Option Value)) (n k : ℕ) → written (slice_get (locals ++ replicate n None) k) ≡ written (slice_get locals k)
same_behind [] n k = unwritten_has_none n k
same_behind (local ∷ locals) n zero = refl
same_behind (local ∷ locals) n (suc k) = same_behind locals n k

-- a read finds the same
pub same_read : (count : ℕ) (locals : List (Option Value)) (k : ℕ) → written (slice_get (with_unwritten count locals) k) ≡ written (slice_get locals k)
same_read count locals k = same_behind locals (count - length locals) k

-- growing adds none
same_grown : (limit count : ℕ) (locals : List (Option Value)) → count ≤ limit →
    with_unwritten limit (locals ++ replicate (count - length locals) None) ≡ with_unwritten limit locals
same_grown limit count locals within =
    let none : Option Value = None in
    let more : ℕ = count - length locals in
    let long : length (locals ++ replicate more none) ≡ length locals + more = length-append locals (replicate more none) ∙ ap (λ (n : ℕ). length locals + n) (length-replicate more none) in
    let all : more + (limit - length (locals ++ replicate more none)) ≡ limit - length locals = omega (arith, long) in
    append_assoc locals (replicate more none) (replicate (limit - length (locals ++ replicate more none)) none)
    ∙ ap (λ (rest : List (Option Value)). locals ++ rest) (replicate-append-replicate more (limit - length (locals ++ replicate more none)) none)
    ∙ ap (λ (n : ℕ). locals ++ replicate n none) all

-- a write into a local that is there
pub written_there : (limit k : ℕ) (locals : List (Option Value)) (v : Option Value) → k < length locals →
    with_unwritten limit (slice_set locals k v) ≡ slice_set (with_unwritten limit locals) k v
written_there limit k locals v inside =
    sym (set-append_left locals (replicate (limit - length locals) None) k v inside
    ∙ ap (λ (n : ℕ). slice_set locals k v ++ replicate (limit - n) None) (sym (length-set locals k v)))

-- a write into a local up to which the locals were grown
pub same_write : (limit k : ℕ) (locals grown : List (Option Value)) (v : Option Value) → k < limit → grown ≡ locals ++ replicate (k + 1 - length locals) None →
    with_unwritten limit (slice_set grown k v) ≡ slice_set (with_unwritten limit locals) k v
same_write limit k locals grown v below is =
    let none : Option Value = None in
    let more : ℕ = k + 1 - length locals in
    let long : length (locals ++ replicate more none) ≡ length locals + more = length-append locals (replicate more none) ∙ ap (λ (n : ℕ). length locals + n) (length-replicate more none) in
    let inside : k < length grown = omega (arith, long, ap length is) in
    let same : with_unwritten limit grown ≡ with_unwritten limit locals = ap (with_unwritten limit) is ∙ same_grown limit (k + 1) locals (omega (arith, below)) in
    written_there limit k grown v inside ∙ ap (λ (all : List (Option Value)). slice_set all k v) same

pub unwritten_past : (limit k : ℕ) (locals : List (Option Value)) (v : Option Value) → limit ≤ k → length locals ≤ k →
    with_unwritten limit locals ≡ slice_set (with_unwritten limit locals) k v
unwritten_past limit k locals v above past =
    let none : Option Value = None in
    let long : length (locals ++ replicate (limit - length locals) none) ≡ length locals + (limit - length locals) = length-append locals (replicate (limit - length locals) none) ∙ ap (λ (n : ℕ). length locals + n) (length-replicate (limit - length locals) none) in
    sym (set_past (with_unwritten limit locals) k v (omega (arith, long, above, past)))

-- the locals that a frame begins with
pub same_first : (args : List Value) (limit : ℕ) (locals : List (Option Value)) → locals ≡ map (λ v. Some v) args → with_unwritten limit locals ≡ first_locals args limit
same_first args limit locals is =
    ap (with_unwritten limit) is ∙ ap (λ (n : ℕ). map (λ (v : Value). Some v) args ++ replicate (limit - n) None) (length-map args (λ (v : Value). Some v))
