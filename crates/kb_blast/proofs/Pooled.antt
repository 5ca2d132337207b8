-- What the formula says of conditions on terms of a pool.
use Rattle.std.proofs.Common.{◌≡◌, ◌↔◌, inl, inr, ℕ, zero, suc, ◌<◌, ◌==◌, ℤ, pos, Bool, true, List, [], ◌∷◌, ◌++◌, length, map, fold, get_or, slice_get, Option, Some, None, refl, sym, ap, subst, ◌∙◌, arith, append_assoc}
use Rattle.std.specs.List.{list_all}
use Rattle.std.specs.Prelude.{unwrap_or}
use Rattle.std.proofs.lemmas.Bool.{and_parts, and_from, eqb-true}
use Rattle.std.proofs.lemmas.List.{map-append, append-nil, get_or-map}
use Rattle.std.proofs.lemmas.List.Quantifiers.{position-Some}
use Rattle.std.proofs.lemmas.Option.{slice_get_within, get_or_from_slice_get, slice_get-get_or}
use Rattle.kb_terms.specs.declared.op.Op.{Op}
use Rattle.kb_terms.specs.declared.node.TermId.{TermId}
use Rattle.kb_terms.specs.declared.node.Node.{Node}
use Rattle.kb_terms.specs.declared.node.Node.TheVariants.{Const, Var, Op as Apply}
use Rattle.kb_terms.specs.Op.{op_value}
use Rattle.kb_terms.specs.Terms.{IsTerm, AreTerms, node_at, variables_of, IsPool, value_of, operand_value, int_at}
use Rattle.kb_terms.specs.Numbering.{place_of, numbering, is_operation, IsOperandOf, IsNumbering}
use Rattle.kb_terms.proofs.Entries.{slice_get-append-left, slice_get-append-end}
use Rattle.kb_terms.proofs.Values.{value_of-constant, value_of-variable, value_of-operation}
use Rattle.kb_terms.proofs.Walking.{first-before, second-before}
use Rattle.kb_blast.specs.Query.{number_in, operand_from, operand_of, operands_of, listed, numbered_conditions, query_of, roots_of, node_passes, is_comparison, is_any, AreConditions}
use Rattle.kb_blast.specs.Conditions.{words_of, formula_of}
use Rattle.kb_blast.specs.Meaning.{operand_value as listed_operand, second_value as listed_second, with_value, listed_values, AreMet, Meets, AreMetInPool, MeetsInPool, SaysExactly, IsComparison, ConditionsFit, IsQuery, IsRising, AreReadable}
use Rattle.kb_blast.proofs.Listed.{is-operation, listed-cons, listed-fit, occurring-rising, AllBelow, occurring-below, readable}
use Rattle.kb_blast.proofs.Saying.{says, numbers-are, words-are}

-- ---- numbered terms

as-operation : (n : Option Node) → is_operation n ≡ true → (op : Op) × (left : TermId) × (right : Option TermId) × (n ≡ Some (Apply op left right))
as-operation None e = absurd (cc)
as-operation (Some (Const c)) e = absurd (cc)
as-operation (Some (Var v kind)) e = absurd (cc)
as-operation (Some (Apply op left right)) e = (op, left, right, refl)

pub at-place : (terms : List TermId) (t : TermId) (j : ℕ) → place_of terms t ≡ Some j → slice_get terms j ≡ Some t
at-place terms t j e =
    let d : TermId = record { 0 = 0 } in
    let p = position-Some (λ x. t.0 == x.0) terms j d e in
    let same : get_or terms j d ≡ t = ap (λ k. record { 0 = k }) (sym (eqb-true t.0 (get_or terms j d).0 p.1)) in
    slice_get-get_or terms j d p.0 ∙ ap Some same

operation-any : (n : Option Node) → is_operation n ≡ true → node_passes is_any n ≡ true
operation-any n e = let o = as-operation n e in ap (node_passes is_any) o.3

-- numbered terms are operations
pub all-any : (nodes : List Node) (ts : List TermId) → ((i : ℕ) (t : TermId) → slice_get ts i ≡ Some t → is_operation (node_at nodes t) ≡ true)
    → list_all (λ t. node_passes is_any (node_at nodes t)) ts ≡ true
all-any nodes [] h = refl
all-any nodes (t ∷ ts) h = and_from _ _ (operation-any (node_at nodes t) (h 0 t refl)) (all-any nodes ts (λ i x e. h (suc i) x e))

-- terms with operations are terms of the pool
pub are-terms : (nodes : List Node) (test : Op → Bool) (ts : List TermId) → list_all (λ t. node_passes test (node_at nodes t)) ts ≡ true → AreTerms nodes ts
are-terms nodes test [] h = tt
are-terms nodes test (t ∷ ts) h =
    let p = and_parts _ _ h in
    let o = is-operation (node_at nodes t) test p.0 in
    (slice_get_within nodes t.0 (Apply o.0 o.1 o.2) o.3, are-terms nodes test ts p.1)

module _ (nodes : List Node) (formed : IsPool nodes) (roots numbered : List TermId) (n : IsNumbering nodes roots numbered) where
  module _ (inputs : List ℤ) where
    operand-int : (before rest : List TermId) (t o : TermId) → numbered ≡ before ++ rest → slice_get numbered (length before) ≡ Some t → IsOperandOf (node_at nodes t) o → IsTerm nodes o
        → listed_operand inputs (map (λ x. value_of nodes x inputs) before) (operand_of nodes numbered o) ≡ value_of nodes o inputs
    operand-int before rest t o e at is inside = go (node_at nodes o) refl
      where
        go : (m : Option Node) → node_at nodes o ≡ m → listed_operand inputs (map (λ x. value_of nodes x inputs) before) (operand_from numbered o m) ≡ value_of nodes o inputs
        go None h = let s = slice_get-get_or nodes o.0 (Const (pos 0)) inside in absurd (cc)
        go (Some (Const c)) h = sym (value_of-constant nodes o c inputs h)
        go (Some (Var v kind)) h = sym (value_of-variable nodes o v kind inputs h)
        go (Some (Apply op left right)) h =
            let p = n.operands (length before) t o at is (ap is_operation h) in
            let d : TermId = record { 0 = 0 } in
            let there : slice_get before p.0 ≡ Some o =
            sym (slice_get-append-left before rest p.0 p.1) ∙ (ap (λ xs. slice_get xs p.0) (sym e) ∙ at-place numbered o p.0 p.2) in
            ap (λ k. int_at (map (λ x. value_of nodes x inputs) before) (unwrap_or k 0)) p.2
            ∙ get_or-map (λ x. value_of nodes x inputs) before p.0 d (pos 0) p.1
            ∙ ap (λ x. value_of nodes x inputs) (get_or_from_slice_get before p.0 o d there)

    second-int : (before rest : List TermId) (t : TermId) (op : Op) (left : TermId) (right : Option TermId) → numbered ≡ before ++ rest → slice_get numbered (length before) ≡ Some t
        → node_at nodes t ≡ Some (Apply op left right)
        → listed_second inputs (map (λ x. value_of nodes x inputs) before) (operands_of nodes numbered right) ≡ operand_value nodes right inputs
    second-int before rest t op left None e at is = refl
    second-int before rest t op left (Some r) e at is =
        let lower : r.0 < t.0 = second-before nodes t op left r formed is in
        let within : t.0 < length nodes = slice_get_within nodes t.0 (Apply op left (Some r)) is in
        operand-int before rest t r e at (subst (λ m. IsOperandOf m r) (sym is) (inr refl)) (omega arith)

    run : (before rest : List TermId) → numbered ≡ before ++ rest
        → fold (with_value inputs) (map (λ x. value_of nodes x inputs) before) (listed nodes numbered rest) ≡ map (λ x. value_of nodes x inputs) numbered
    run before [] e = ap (map (λ x. value_of nodes x inputs)) (sym (e ∙ append-nil before))
    run before (t ∷ ts) e =
        let at : slice_get numbered (length before) ≡ Some t = ap (λ xs. slice_get xs (length before)) e ∙ slice_get-append-end before t ts in
        let o = as-operation (node_at nodes t) (n.operation (length before) t at) in
        let within : t.0 < length nodes = slice_get_within nodes t.0 (Apply o.0 o.1 o.2) o.3 in
        let lower : o.1.0 < t.0 = first-before nodes t o.0 o.1 o.2 formed o.3 in
        let done : List ℤ = map (λ x. value_of nodes x inputs) before in
        let left = operand-int before (t ∷ ts) t o.1 e at (subst (λ m. IsOperandOf m o.1) (sym o.3) (inl refl)) (omega arith) in
        let right = second-int before (t ∷ ts) t o.0 o.1 o.2 e at o.3 in
        let value : op_value o.0 (listed_operand inputs done (operand_of nodes numbered o.1)) (listed_second inputs done (operands_of nodes numbered o.2)) ≡ value_of nodes t inputs =
        ap (λ a. op_value o.0 a (listed_second inputs done (operands_of nodes numbered o.2))) left
        ∙ ap (λ b. op_value o.0 (value_of nodes o.1 inputs) b) right
        ∙ sym (value_of-operation nodes t o.0 o.1 o.2 inputs formed o.3) in
        ap (λ xs. fold (with_value inputs) done xs) (listed-cons nodes formed numbered t ts o.0 o.1 o.2 o.3)
        ∙ ap (λ xs. fold (with_value inputs) xs (listed nodes numbered ts)) (ap (λ x. done ++ x ∷ []) value ∙ sym (map-append (λ x. value_of nodes x inputs) before (t ∷ [])))
        ∙ run (before ++ t ∷ []) ts (e ∙ sym (append_assoc before (t ∷ []) ts))

    pub value-at : (t : TermId) (j : ℕ) → place_of numbered t ≡ Some j → int_at (listed_values inputs (listed nodes numbered numbered)) (number_in numbered t) ≡ value_of nodes t inputs
    value-at t j e =
        let d : TermId = record { 0 = 0 } in
        let there : slice_get numbered j ≡ Some t = at-place numbered t j e in
        ap (λ xs. int_at xs (number_in numbered t)) (run [] numbered refl)
        ∙ ap (λ k. int_at (map (λ x. value_of nodes x inputs) numbered) (unwrap_or k 0)) e
        ∙ get_or-map (λ x. value_of nodes x inputs) numbered j d (pos 0) (slice_get_within numbered j t there)
        ∙ ap (λ x. value_of nodes x inputs) (get_or_from_slice_get numbered j t d there)

  -- each condition's term has a number
  abbrev pub Placed : List (TermId × Bool) → Type 0
  Placed [] = Unit {0}
  Placed (condition ∷ when) = ((j : ℕ) × (place_of numbered condition.0 ≡ Some j)) × Placed when

  pub placed : (when : List (TermId × Bool)) → list_all (λ t. node_passes is_comparison (node_at nodes t)) (roots_of when) ≡ true
      → ((i : ℕ) (root : TermId) → slice_get (roots_of when) i ≡ Some root → is_operation (node_at nodes root) ≡ true → (j : ℕ) × (place_of numbered root ≡ Some j)) → Placed when
  placed [] h k = tt
  placed (condition ∷ when) h k =
      let p = and_parts _ _ h in
      let o = is-operation (node_at nodes condition.0) is_comparison p.0 in
      (k 0 condition.0 refl (ap is_operation o.3), placed when p.1 (λ i root at is. k (suc i) root at is))

  pub met-in-pool : (inputs : List ℤ) (when : List (TermId × Bool)) → Placed when → AreMet (listed_values inputs (listed nodes numbered numbered)) (numbered_conditions numbered when)
      → AreMetInPool nodes inputs when
  met-in-pool inputs [] h m = tt
  met-in-pool inputs (condition ∷ when) h m = (sym (value-at inputs condition.0 h.0.0 h.0.1) ∙ m.0, met-in-pool inputs when h.1 m.1)

  pub met-in-list : (inputs : List ℤ) (when : List (TermId × Bool)) → Placed when → AreMetInPool nodes inputs when
      → AreMet (listed_values inputs (listed nodes numbered numbered)) (numbered_conditions numbered when)
  met-in-list inputs [] h m = tt
  met-in-list inputs (condition ∷ when) h m = (value-at inputs condition.0 h.0.0 h.0.1 ∙ m.0, met-in-list inputs when h.1 m.1)

  comparison-at : (ts : List TermId) (j : ℕ) (t : TermId) → list_all (λ x. node_passes is_any (node_at nodes x)) ts ≡ true → slice_get ts j ≡ Some t
      → node_passes is_comparison (node_at nodes t) ≡ true → IsComparison (slice_get (listed nodes numbered ts) j)
  comparison-at [] j t h e c = absurd (cc)
  comparison-at (x ∷ ts) zero t h e c =
      let same : x ≡ t = cc in
      let o = is-operation (node_at nodes x) is_comparison (ap (λ y. node_passes is_comparison (node_at nodes y)) same ∙ c) in
      subst (λ xs. IsComparison (slice_get xs 0)) (sym (listed-cons nodes formed numbered x ts o.0 o.1 o.2 o.3)) o.4
  comparison-at (x ∷ ts) (suc j) t h e c =
      let p = and_parts _ _ h in
      let o = is-operation (node_at nodes x) is_any p.0 in
      subst (λ xs. IsComparison (slice_get xs (suc j))) (sym (listed-cons nodes formed numbered x ts o.0 o.1 o.2 o.3)) (comparison-at ts j t p.1 e c)

  conditions-fit : (when : List (TermId × Bool)) → list_all (λ t. node_passes is_comparison (node_at nodes t)) (roots_of when) ≡ true
      → list_all (λ x. node_passes is_any (node_at nodes x)) numbered ≡ true → Placed when → ConditionsFit (listed nodes numbered numbered) (numbered_conditions numbered when)
  conditions-fit [] h k p = tt
  conditions-fit (condition ∷ when) h k p =
      let q = and_parts _ _ h in
      let c = comparison-at numbered p.0.0 condition.0 k (at-place numbered condition.0 p.0.0 p.0.1) q.0 in
      (subst (λ j. IsComparison (slice_get (listed nodes numbered numbered) (unwrap_or j 0))) (sym p.0.1) c, conditions-fit when q.1 k p.1)

-- the conditions of a pool
module _ (nodes : List Node) (when : List (TermId × Bool)) (formed : IsPool nodes) (conditions : AreConditions nodes when)
    (n : IsNumbering nodes (roots_of when) (numbering nodes (roots_of when))) where
  all-placed : Placed nodes formed (roots_of when) (numbering nodes (roots_of when)) n when
  all-placed = placed nodes formed (roots_of when) (numbering nodes (roots_of when)) n when conditions (λ i root at is. n.rooted i root at is)

  built : list_all (λ t. node_passes is_any (node_at nodes t)) (numbering nodes (roots_of when)) ≡ true
  built = all-any nodes (numbering nodes (roots_of when)) n.operation

  fit : IsQuery (query_of nodes when)
  fit = record {
    terms = listed-fit nodes formed (numbering nodes (roots_of when)) (numbering nodes (roots_of when)) built;
    conditions = conditions-fit nodes formed (roots_of when) (numbering nodes (roots_of when)) n when conditions built all-placed;
  }

  pub pool-meets : (inputs : List ℤ) → MeetsInPool nodes when inputs ↔ Meets (query_of nodes when) inputs
  pool-meets inputs = (
    λ m. (m.0, met-in-list nodes formed (roots_of when) (numbering nodes (roots_of when)) n inputs when all-placed m.1),
    λ m. (m.0, met-in-pool nodes formed (roots_of when) (numbering nodes (roots_of when)) n inputs when all-placed m.1),
  )

  pub pool-says : SaysExactly (words_of (query_of nodes when)) (formula_of (query_of nodes when)) (MeetsInPool nodes when)
  pool-says =
      let s : SaysExactly (words_of (query_of nodes when)) (formula_of (query_of nodes when)) (Meets (query_of nodes when)) = says (query_of nodes when) fit in
      record {
        reads = s.reads;
        sound = λ v inputs sat r. (pool-meets inputs).1 (s.sound v inputs sat r);
        complete = λ inputs m. s.complete inputs ((pool-meets inputs).0 m);
      }

  pub pool-readable : AreReadable (formula_of (query_of nodes when)).vars (variables_of nodes) (words_of (query_of nodes when))
  pool-readable =
      readable _ (variables_of nodes) (words_of (query_of nodes when)) (words-are (query_of nodes when) fit)
      (subst IsRising (sym (numbers-are (query_of nodes when) fit)) (occurring-rising (query_of nodes when).terms))
      (subst (AllBelow (variables_of nodes)) (sym (numbers-are (query_of nodes when) fit))
      (occurring-below nodes formed (numbering nodes (roots_of when)) (numbering nodes (roots_of when)) built))
