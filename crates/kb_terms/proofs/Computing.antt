-- Computing the values of terms in order.
use Rattle.std.proofs.Common.{◌≡◌, ℕ, zero, suc, ◌+◌, ◌<◌, ◌≤◌, ℤ, pos, List, [], ◌∷◌, ◌++◌, length, take, drop, fold, slice_get, Option, Some, None, Bool, true, false, refl, sym, ap, subst, ◌∙◌, arith, length-take, length-append, take_all}
use Rattle.std.proofs.Math.Seq.{take-append_seam}
use Rattle.std.specs.Option.{ForSome}
use native.Mathlib.Numerals.{unary_clauses}
use Rattle.std.proofs.Common.{get_or}
use Rattle.std.proofs.lemmas.Option.{slice_get_within, slice_get-get_or, get_or_from_slice_get}
use Rattle.std.proofs.lemmas.List.{take-append-drop}
use Rattle.kb_terms.specs.declared.node.TermId.{TermId}
use Rattle.kb_terms.specs.declared.node.Node.{Node}
use Rattle.kb_terms.specs.declared.node.Node.TheVariants.{Const, Var, Op as Apply}
use Rattle.kb_terms.specs.Op.{is_binary}
use Rattle.kb_terms.specs.Terms.{IsTerm, int_at, IsSecond, AreOperands, variables_of, NodeFits, IsPool, node_value, values, value_of, AreFirstValues, CanCompute}
use Rattle.kb_terms.proofs.Entries.{split_at, slice_get-take}
use Rattle.kb_terms.proofs.Interned.{variables-append}
use Rattle.kb_terms.proofs.Values.{values-append, before-value, length-values, with_value}

second-below : (before : List Node) (n : ℕ) (b : Bool) (right : Option TermId) → length before ≤ n → IsSecond before b right → ForSome right (λ t. t.0 < n)
second-below before n b None h s = λ t e. absurd (cc)
second-below before n true (Some r) h s = λ t e. let same : r ≡ t = cc in omega (arith, s, ap (λ x. x.0) same)
second-below before n false (Some r) h s = absurd s

pub can_compute : (nodes : List Node) (i : ℕ) (node : Node) (done : List ℤ) → IsPool nodes → slice_get nodes i ≡ Some node → length done ≡ i → CanCompute done node
can_compute nodes i (Const c) done formed e count = tt
can_compute nodes i (Var v kind) done formed e count = tt
can_compute nodes i (Apply op left right) done formed e count =
    let fit : AreOperands (take i nodes) op left right = (formed.fits i (Apply op left right) e).0 in
    let inside : i < length nodes = slice_get_within nodes i (Apply op left right) e in
    (omega (arith, length-take i nodes, fit.first), second-below (take i nodes) (length done) (is_binary op) right (omega (arith, length-take i nodes)) fit.second)

pub take-more : (nodes : List Node) (i : ℕ) (node : Node) → slice_get nodes i ≡ Some node → take (i + 1) nodes ≡ take i nodes ++ node ∷ []
take-more [] i node e = absurd (cc)
take-more (x ∷ xs) zero node e = let s : x ≡ node = cc in ap (λ n. n ∷ []) s
take-more (x ∷ xs) (suc i) node e = simp unary_clauses (ap (λ ns. x ∷ ns) (simp unary_clauses at (take-more xs i node e)))

pub values-more : (inputs : List ℤ) (nodes : List Node) (i : ℕ) (node : Node) → slice_get nodes i ≡ Some node
    → values inputs (take (i + 1) nodes) ≡ values inputs (take i nodes) ++ node_value inputs (values inputs (take i nodes)) node ∷ []
values-more inputs nodes i node e = ap (values inputs) (take-more nodes i node e) ∙ values-append inputs (take i nodes) (node ∷ [])

take-within : {A : Type 0} (i n : ℕ) (xs : List A) → i ≤ n → take i (take n xs) ≡ take i xs
take-within zero n xs h = refl
take-within (suc i) zero xs h = absurd (omega arith)
take-within (suc i) (suc n) [] h = refl
take-within (suc i) (suc n) (x ∷ xs) h = ap (λ ys. x ∷ ys) (take-within i n xs (omega arith))

-- the first nodes of a pool are a pool
pub IsPool-take : (nodes : List Node) (n : ℕ) → IsPool nodes → IsPool (take n nodes)
IsPool-take nodes n formed = record {
  small = omega (arith, length-take n nodes, formed.small);
  fits = λ i node e.
      let below : i < n = omega (arith, slice_get_within (take n nodes) i node e, length-take n nodes) in
      subst (λ before. NodeFits before node) (sym (take-within i n nodes (omega arith))) (formed.fits i node (sym (slice_get-take n nodes i below) ∙ e));
  distinct = λ i j node e f.
      let below_i : i < n = omega (arith, slice_get_within (take n nodes) i node e, length-take n nodes) in
      let below_j : j < n = omega (arith, slice_get_within (take n nodes) j node f, length-take n nodes) in
      formed.distinct i j node (sym (slice_get-take n nodes i below_i) ∙ e) (sym (slice_get-take n nodes j below_j) ∙ f);
}

pub variables-take : (nodes : List Node) (n : ℕ) → variables_of (take n nodes) ≤ variables_of nodes
variables-take nodes n = omega (arith, variables-append (take n nodes) (drop n nodes), ap variables_of (take-append-drop n nodes))

-- one turn of the loop: the values so far, and that of the next node
pub computed-more : (inputs : List ℤ) (nodes : List Node) (i : ℕ) (node : Node) (done now new : List ℤ) (value : ℤ) → slice_get nodes i ≡ Some node
    → done ≡ values inputs (take i nodes) → now ≡ done → value ≡ node_value inputs now node → new ≡ done ++ value ∷ [] → new ≡ values inputs (take (i + 1) nodes)
computed-more inputs nodes i node done now new value e before same is grown =
    grown
    ∙ ap (λ v. done ++ v ∷ []) (is ∙ ap (λ vs. node_value inputs vs node) (same ∙ before))
    ∙ ap (λ vs. vs ++ node_value inputs (values inputs (take i nodes)) node ∷ []) before
    ∙ sym (values-more inputs nodes i node e)

-- the values of the first terms are the first values
run-front : (inputs done : List ℤ) (more : List Node) → take (length done) (fold (with_value inputs) done more) ≡ done
run-front inputs done [] = take_all (length done) done (omega arith)
run-front inputs done (node ∷ more) =
    let grown : List ℤ = with_value inputs done node in
    sym (take-within (length done) (length grown) (fold (with_value inputs) grown more) (omega (arith, length-append done (node_value inputs done node ∷ []))))
    ∙ ap (take (length done)) (run-front inputs grown more)
    ∙ take-append_seam done (node_value inputs done node ∷ [])

values-front : (inputs : List ℤ) (nodes : List Node) (i : ℕ) → i ≤ length nodes → take i (values inputs nodes) ≡ values inputs (take i nodes)
values-front inputs nodes i h =
    let before : List Node = take i nodes in
    let many : length (values inputs before) ≡ i = length-values inputs before ∙ omega (arith, length-take i nodes) in
    subst (λ n. take n (values inputs nodes) ≡ values inputs before) many
    (ap (λ ns. take (length (values inputs before)) (values inputs ns)) (sym (take-append-drop i nodes))
    ∙ ap (take (length (values inputs before))) (values-append inputs before (drop i nodes))
    ∙ run-front inputs (values inputs before) (drop i nodes))

-- with the value of the next term they are the first ones still
pub first-more : (inputs : List ℤ) (nodes : List Node) (node : Node) (done : List ℤ) (value : ℤ) → slice_get nodes (length done) ≡ Some node → AreFirstValues inputs nodes done
    → value ≡ node_value inputs done node → AreFirstValues inputs nodes (done ++ value ∷ [])
first-more inputs nodes node done value e first is =
    let inside : length done < length nodes = slice_get_within nodes (length done) node e in
    let before : done ≡ values inputs (take (length done) nodes) = first ∙ values-front inputs nodes (length done) (omega (arith, inside)) in
    let many : length (done ++ value ∷ []) ≡ length done + 1 = omega (arith, length-append done (value ∷ [])) in
    computed-more inputs nodes (length done) node done done (done ++ value ∷ []) value e before refl is refl
    ∙ sym (values-front inputs nodes (length done + 1) (omega (arith, inside)))
    ∙ ap (λ n. take n (values inputs nodes)) (sym many)

-- no more values than terms, and as many are all
pub first-few : (inputs : List ℤ) (nodes : List Node) (done : List ℤ) → AreFirstValues inputs nodes done → length done ≤ length nodes
first-few inputs nodes done first = omega (arith, ap length first, length-take (length done) (values inputs nodes), length-values inputs nodes)

pub first-all : (inputs : List ℤ) (nodes : List Node) (done : List ℤ) → AreFirstValues inputs nodes done → length nodes ≤ length done → done ≡ values inputs nodes
first-all inputs nodes done first h = first ∙ take_all (length done) (values inputs nodes) (omega (arith, h, length-values inputs nodes))

-- the value of a term, from the values of the terms up to it
pub value_of-computed : (nodes : List Node) (t : TermId) (inputs : List ℤ) → IsTerm nodes t → int_at (values inputs (take (t.0 + 1) nodes)) t.0 ≡ value_of nodes t inputs
value_of-computed nodes t inputs h = before-value nodes (t.0 + 1) t inputs (omega arith) (omega arith)

-- a number that was read at a place inside
pub read_int : (xs ys : List ℤ) (i : ℕ) (r : ℤ) → xs ≡ ys → i < length xs → r ≡ get_or xs i r → r ≡ int_at ys i
read_int xs ys i r same inside at =
    at ∙ sym (get_or_from_slice_get xs i (get_or xs i r) (pos 0) (slice_get-get_or xs i r inside)) ∙ ap (λ zs. get_or zs i (pos 0)) same
