-- The walk over a path's own list of terms meets them in the order of that list: it goes the same way as the walk over the pool
-- that numbered them.
use Rattle.std.proofs.Common.{◌≡◌, ℕ, zero, suc, ◌<◌, ◌≤◌, List, [], ◌∷◌, ◌++◌, length, take, fold, slice_get, Option, Some, None, Bool, true, false, refl, sym, ap, subst, ◌∙◌, arith, if◌then◌else◌, ◌||◌, ◌==◌, true≢false, append_assoc, length-append, inl, inr}
use Rattle.std.specs.Prelude.{unwrap_or}
use Rattle.std.specs.List.{flat_map, cons_option}
use Rattle.std.specs.Option.{option_map_or}
use Rattle.std.proofs.lemmas.Bool.Decides.{Decides-eqb}
use Rattle.std.proofs.lemmas.List.{append-nil}
use Rattle.std.proofs.lemmas.List.Folds.{list_any-append}
use Rattle.std.proofs.lemmas.List.Sums.{fold-append}
use Rattle.std.proofs.lemmas.List.Quantifiers.{position-Some}
use Rattle.kb_terms.specs.declared.op.Op.{Op}
use Rattle.kb_terms.specs.declared.node.TermId.{TermId}
use Rattle.kb_terms.specs.declared.node.Node.{Node}
use Rattle.kb_terms.specs.declared.node.Node.TheVariants.{Const, Var, Op as Apply}
use Rattle.kb_terms.specs.declared.listing.Term.{Term}
use Rattle.kb_terms.specs.Terms.{node_at, IsPool}
use Rattle.kb_terms.specs.Numbering.{has_term, place_of, with_term, visit_node, visit, numbering, is_operation, IsOperandOf, IsNumbering}
use Rattle.kb_terms.proofs.Walking.{first-before, second-before}
use Rattle.kb_terms.proofs.Order.{earlier-place}
use Rattle.kb_blast.specs.Query.{number_in, operand_from, operand_of, operands_of, listed_from, listed}
use Rattle.kb_picture.specs.WellFormed.{numbers_below}
use Rattle.kb_picture.specs.Numbering.{terms_of_operand, terms_below, has_number, met_below, met_from}

-- ---- numbers below one

pub length-below : (n : ℕ) → length (numbers_below n) ≡ n
length-below zero = refl
length-below (suc n) = length-append (numbers_below n) (n ∷ []) ∙ omega (arith, length-below n)

itself : (n : ℕ) → (n == n) ≡ true
itself n = (Decides-eqb n n).1 refl

or-true : (b : Bool) → (b || true) ≡ true
or-true true = refl
or-true false = refl

or-false : (b : Bool) → (b || false) ≡ b
or-false true = refl
or-false false = refl

-- a number is among those below n exactly where it is below n
below-has : (n m : ℕ) → m < n → has_number (numbers_below n) m ≡ true
below-has zero m h = absurd (omega arith)
below-has (suc n) m h =
    list_any-append (λ k. k == m) (numbers_below n) (n ∷ []) ∙ go (n == m) refl (below-has n m)
  where
    go : (b : Bool) → (n == m) ≡ b → (m < n → has_number (numbers_below n) m ≡ true) → (has_number (numbers_below n) m || (n == m || false)) ≡ true
    go true e rec = ap (λ b. has_number (numbers_below n) m || (b || false)) e ∙ or-true (has_number (numbers_below n) m)
    go false e rec =
        let apart : n ≡ m → ⊥ = λ same. true≢false (sym ((Decides-eqb n m).1 same) ∙ e) in
        ap (λ b. b || (n == m || false)) (rec (omega arith))

above-lacks : (n m : ℕ) → n ≤ m → has_number (numbers_below n) m ≡ false
above-lacks zero m h = refl
above-lacks (suc n) m h =
    list_any-append (λ k. k == m) (numbers_below n) (n ∷ []) ∙ ap (λ b. b || (n == m || false)) (above-lacks n m (omega arith)) ∙ or-false (n == m) ∙ apart (n == m) refl
  where
    apart : (b : Bool) → (n == m) ≡ b → b ≡ false
    apart false e = refl
    apart true e = let same : n ≡ m = (Decides-eqb n m).0 e in absurd (omega arith)

-- ---- the walk over the pool

-- what a list has at its end
abbrev Grows : List TermId → List TermId → Type 0
Grows xs ys = (more : List TermId) × (ys ≡ xs ++ more)

grows-itself : (xs : List TermId) → Grows xs xs
grows-itself xs = ([], sym (append-nil xs))

grows-on : (xs ys zs : List TermId) → Grows xs ys → Grows ys zs → Grows xs zs
grows-on xs ys zs g h = (g.0 ++ h.0, h.1 ∙ ap (λ l. l ++ h.0) g.1 ∙ append_assoc xs g.0 h.0)

grows-with : (xs : List TermId) (t : TermId) → Grows xs (with_term xs t)
grows-with xs t = go (has_term xs t)
  where
    go : (b : Bool) → Grows xs (if b then xs else xs ++ t ∷ [])
    go true = grows-itself xs
    go false = (t ∷ [], refl)

grows-length : (xs ys : List TermId) → Grows xs ys → length xs ≤ length ys
grows-length xs ys g = let e = ap length g.1 ∙ length-append xs g.0 in omega (arith, e)

module _ (nodes : List Node) where
  node-grows : (walk : List TermId → TermId → List TermId) (done : List TermId) (t : TermId) (n : Option Node)
      → ((d : List TermId) (u : TermId) → Grows d (walk d u)) → Grows done (visit_node walk done t n)
  node-grows walk done t None rec = grows-itself done
  node-grows walk done t (Some (Const c)) rec = grows-itself done
  node-grows walk done t (Some (Var v kind)) rec = grows-itself done
  node-grows walk done t (Some (Apply op left None)) rec = grows-on done (walk done left) (with_term (walk done left) t) (rec done left) (grows-with (walk done left) t)
  node-grows walk done t (Some (Apply op left (Some right))) rec =
      let both = grows-on done (walk done left) (walk (walk done left) right) (rec done left) (rec (walk done left) right) in
      grows-on done (walk (walk done left) right) (with_term (walk (walk done left) right) t) both (grows-with (walk (walk done left) right) t)

  visit-grows : (depth : ℕ) (done : List TermId) (t : TermId) → Grows done (visit depth nodes done t)
  unfolding visit
  visit-grows zero done t = grows-itself done
  visit-grows (suc depth) done t = go (has_term done t) (λ d u. visit-grows depth d u)
    where
      go : (b : Bool) → ((d : List TermId) (u : TermId) → Grows d (visit depth nodes d u)) → Grows done (if b then done else visit_node (visit depth nodes) done t (node_at nodes t))
      go true rec = grows-itself done
      go false rec = node-grows (visit depth nodes) done t (node_at nodes t) rec

  pub roots-grow : (depth : ℕ) (done : List TermId) (roots : List TermId) → Grows done (fold (visit depth nodes) done roots)
  roots-grow depth done [] = grows-itself done
  roots-grow depth done (t ∷ ts) =
      grows-on done (visit depth nodes done t) (fold (visit depth nodes) (visit depth nodes done t) ts) (visit-grows depth done t) (roots-grow depth (visit depth nodes done t) ts)

  module _ (formed : IsPool nodes) where
    -- a visit adds no term above its own
    with-apart : (xs : List TermId) (u t : TermId) → u.0 < t.0 → has_term (with_term xs u) t ≡ has_term xs t
    with-apart xs u t less = go (has_term xs u)
      where
        other : (t.0 == u.0) ≡ false
        other = search (t.0 == u.0) refl
          where
            search : (b : Bool) → (t.0 == u.0) ≡ b → b ≡ false
            search false e = refl
            search true e = let same : t.0 ≡ u.0 = (Decides-eqb t.0 u.0).0 e in absurd (omega arith)

        go : (b : Bool) → has_term (if b then xs else xs ++ u ∷ []) t ≡ has_term xs t
        go true = refl
        go false = list_any-append (λ x. t.0 == x.0) xs (u ∷ []) ∙ ap (λ b. has_term xs t || (b || false)) other ∙ or-false (has_term xs t)

    node-apart : (walk : List TermId → TermId → List TermId) (done : List TermId) (u t : TermId) (n : Option Node) → node_at nodes u ≡ n → u.0 < t.0
        → ((d : List TermId) (w : TermId) → w.0 < t.0 → has_term (walk d w) t ≡ has_term d t) → has_term (visit_node walk done u n) t ≡ has_term done t
    node-apart walk done u t None e less rec = refl
    node-apart walk done u t (Some (Const c)) e less rec = refl
    node-apart walk done u t (Some (Var v kind)) e less rec = refl
    node-apart walk done u t (Some (Apply op left None)) e less rec =
        let l : left.0 < u.0 = first-before nodes u op left None formed e in
        with-apart (walk done left) u t less ∙ rec done left (omega arith)
    node-apart walk done u t (Some (Apply op left (Some right))) e less rec =
        let l : left.0 < u.0 = first-before nodes u op left (Some right) formed e in
        let r : right.0 < u.0 = second-before nodes u op left right formed e in
        with-apart (walk (walk done left) right) u t less ∙ rec (walk done left) right (omega arith) ∙ rec done left (omega arith)

    visit-apart : (depth : ℕ) (done : List TermId) (u t : TermId) → u.0 < t.0 → has_term (visit depth nodes done u) t ≡ has_term done t
    unfolding visit
    visit-apart zero done u t less = refl
    visit-apart (suc depth) done u t less = go (has_term done u) (λ d w below. visit-apart depth d w t below)
      where
        go : (b : Bool) → ((d : List TermId) (w : TermId) → w.0 < t.0 → has_term (visit depth nodes d w) t ≡ has_term d t)
            → has_term (if b then done else visit_node (visit depth nodes) done u (node_at nodes u)) t ≡ has_term done t
        go true rec = refl
        go false rec = node-apart (visit depth nodes) done u t (node_at nodes u) refl less rec

-- ---- the listed terms

module _ (nodes : List Node) (numbered : List TermId) where
  abbrev pub term_of : Op → TermId → Option TermId → Term
  term_of op left right = record { op = op; left = operand_of nodes numbered left; right = operands_of nodes numbered right }

  -- the listed term of that number
  pub listed-at : (ts : List TermId) (i : ℕ) (t : TermId) (op : Op) (left : TermId) (right : Option TermId)
      → ((j : ℕ) (u : TermId) → slice_get ts j ≡ Some u → is_operation (node_at nodes u) ≡ true)
      → slice_get ts i ≡ Some t → node_at nodes t ≡ Some (Apply op left right) → slice_get (listed nodes numbered ts) i ≡ Some (term_of op left right)
  listed-at [] i t op left right all at e = absurd (cc)
  listed-at (u ∷ us) zero t op left right all at e =
      let same : u ≡ t = cc in
      ap (λ n. slice_get (cons_option (listed_from nodes numbered n) (listed nodes numbered us)) 0) (ap (node_at nodes) same ∙ e)
  listed-at (u ∷ us) (suc i) t op left right all at e = go (node_at nodes u) refl (all 0 u refl) (listed-at us i t op left right (λ j w. all (suc j) w) at e)
    where
      go : (n : Option Node) → node_at nodes u ≡ n → is_operation (node_at nodes u) ≡ true → slice_get (listed nodes numbered us) i ≡ Some (term_of op left right)
          → slice_get (listed nodes numbered (u ∷ us)) (suc i) ≡ Some (term_of op left right)
      go None f is rec = absurd (true≢false (sym is ∙ ap is_operation f))
      go (Some (Const c)) f is rec = absurd (true≢false (sym is ∙ ap is_operation f))
      go (Some (Var v kind)) f is rec = absurd (true≢false (sym is ∙ ap is_operation f))
      go (Some (Apply o l r)) f is rec = ap (λ n. slice_get (cons_option (listed_from nodes numbered n) (listed nodes numbered us)) (suc i)) f ∙ rec

  pub listed-length : (ts : List TermId) → ((j : ℕ) (u : TermId) → slice_get ts j ≡ Some u → is_operation (node_at nodes u) ≡ true)
      → length (listed nodes numbered ts) ≡ length ts
  listed-length [] all = refl
  listed-length (u ∷ us) all = go (node_at nodes u) refl (all 0 u refl) (listed-length us (λ j w. all (suc j) w))
    where
      go : (n : Option Node) → node_at nodes u ≡ n → is_operation (node_at nodes u) ≡ true → length (listed nodes numbered us) ≡ length us
          → length (listed nodes numbered (u ∷ us)) ≡ length (u ∷ us)
      go None f is rec = absurd (true≢false (sym is ∙ ap is_operation f))
      go (Some (Const c)) f is rec = absurd (true≢false (sym is ∙ ap is_operation f))
      go (Some (Var v kind)) f is rec = absurd (true≢false (sym is ∙ ap is_operation f))
      go (Some (Apply o l r)) f is rec =
          let first : length (listed nodes numbered (u ∷ us)) ≡ suc (length (listed nodes numbered us)) =
          ap (λ n. length (cons_option (listed_from nodes numbered n) (listed nodes numbered us))) f in
          omega (arith, first, rec)

-- ---- the two walks go the same way

module _ (nodes : List Node) (formed : IsPool nodes) (roots numbered : List TermId) (is : IsNumbering nodes roots numbered) where
  abbrev terms : List Term
  terms = listed nodes numbered numbered

  -- the terms of a list that an operand names
  abbrev named : TermId → List ℕ
  named t = terms_of_operand (operand_of nodes numbered t)

  -- how deep the walk over the list has to go for an operand
  abbrev IsDeep : ℕ → TermId → Type 0
  IsDeep depth t = is_operation (node_at nodes t) ≡ true → (j : ℕ) → place_of numbered t ≡ Some j → j < depth

  abbrev Same : ℕ → List TermId → TermId → List TermId → Type 0
  Same depth done t after = fold (met_below depth terms) (numbers_below (length done)) (named t) ≡ numbers_below (length after)

  -- a term at the end of a front of the numbered terms
  place-end : (before rest : List TermId) (t : TermId) → (before ++ t ∷ []) ++ rest ≡ numbered → slice_get numbered (length before) ≡ Some t
  place-end before rest t e = ap (λ l. slice_get l (length before)) (sym e ∙ append_assoc before (t ∷ []) rest) ∙ middle before
    where
      middle : (xs : List TermId) → slice_get (xs ++ t ∷ rest) (length xs) ≡ Some t
      middle [] = refl
      middle (x ∷ xs) = middle xs

  -- a term in a front has a place there
  place-in : (front rest : List TermId) (t : TermId) → front ++ rest ≡ numbered → has_term front t ≡ true → (j : ℕ) × (j < length front) × (place_of numbered t ≡ Some j)
  place-in front rest t e has =
      let same : take (length front) numbered ≡ front = ap (take (length front)) (sym e) ∙ whole front in
      earlier-place numbered (length front) t (ap (λ l. has_term l t) same ∙ has)
    where
      whole : (xs : List TermId) → take (length xs) (xs ++ rest) ≡ xs
      whole [] = refl
      whole (x ∷ xs) = ap (λ l. x ∷ l) (whole xs)

  -- the operands of a term at a place are no deeper than the place
  left-deep : (t : TermId) (op : Op) (left : TermId) (right : Option TermId) (j depth : ℕ) → node_at nodes t ≡ Some (Apply op left right)
      → slice_get numbered j ≡ Some t → j < suc depth → IsDeep depth left
  left-deep t op left right j depth e at less operation k placed =
      let p = is.operands j t left at (subst (λ n. IsOperandOf n left) (sym e) (inl refl)) operation in
      let same : p.0 ≡ k = some-same (sym p.2 ∙ placed) in
      omega (arith, p.1, same)
    where
      some-same : {a b : ℕ} → Some a ≡ Some b → a ≡ b
      some-same {a} {b} h = cc

  right-deep : (t : TermId) (op : Op) (left right : TermId) (j depth : ℕ) → node_at nodes t ≡ Some (Apply op left (Some right))
      → slice_get numbered j ≡ Some t → j < suc depth → IsDeep depth right
  right-deep t op left right j depth e at less operation k placed =
      let p = is.operands j t right at (subst (λ n. IsOperandOf n right) (sym e) (inr refl)) operation in
      let same : p.0 ≡ k = some-same (sym p.2 ∙ placed) in
      omega (arith, p.1, same)
    where
      some-same : {a b : ℕ} → Some a ≡ Some b → a ≡ b
      some-same {a} {b} h = cc

  number-is : (t : TermId) (j : ℕ) → place_of numbered t ≡ Some j → number_in numbered t ≡ j
  number-is t j e = ap (λ p. unwrap_or p 0) e

  -- a term that is there already adds nothing on either side
  there-same : (depth : ℕ) (done rest : List TermId) (t : TermId) (op : Op) (left : TermId) (right : Option TermId) → node_at nodes t ≡ Some (Apply op left right)
      → done ++ rest ≡ numbered → has_term done t ≡ true → IsDeep depth t → Same depth done t done
  unfolding met_below
  there-same depth done rest t op left right e front has deep =
      let p = place-in done rest t front has in
      let below : p.0 < depth = deep (ap is_operation e) p.0 p.2 in
      ap (λ n. fold (met_below depth terms) (numbers_below (length done)) (terms_of_operand (operand_from numbered t n))) e
      ∙ ap (met_below depth terms (numbers_below (length done))) (number-is t p.0 p.2)
      ∙ go depth below (below-has (length done) p.0 p.1)
    where
      go : {j : ℕ} (d : ℕ) → j < d → has_number (numbers_below (length done)) j ≡ true → met_below d terms (numbers_below (length done)) j ≡ numbers_below (length done)
      go zero less h = absurd (omega arith)
      go {j} (suc d) less h = ap (λ b. if b then numbers_below (length done) else fold (met_below d terms) (numbers_below (length done)) (option_map_or terms_below (slice_get terms j) []) ++ j ∷ []) h

  -- a term that is met for the first time comes behind what its operands add
  step-same : (depth j : ℕ) (met after : List ℕ) (term : Term) → j < depth → slice_get terms j ≡ Some term → has_number met j ≡ false
      → ((d : ℕ) → j < suc d → fold (met_below d terms) met (terms_below term) ≡ after) → met_below depth terms met j ≡ after ++ j ∷ []
  unfolding met_below
  step-same zero j met after term less at lacks below = absurd (omega arith)
  step-same (suc d) j met after term less at lacks below =
      ap (λ b. if b then met else fold (met_below d terms) met (option_map_or terms_below (slice_get terms j) []) ++ j ∷ []) lacks
      ∙ ap (λ o. fold (met_below d terms) met (option_map_or terms_below o []) ++ j ∷ []) at
      ∙ ap (λ l. l ++ j ∷ []) (below d less)

  -- the same where the walk over the pool has come to `inner`, and adds the term behind it
  emit-same : (depth : ℕ) (done inner rest : List TermId) (t : TermId) (op : Op) (left : TermId) (right : Option TermId) → node_at nodes t ≡ Some (Apply op left right)
      → with_term inner t ++ rest ≡ numbered → has_term inner t ≡ false → length done ≤ length inner → IsDeep depth t
      → (inner ++ t ∷ rest ≡ numbered → slice_get numbered (length inner) ≡ Some t → (d : ℕ) → length inner < suc d
      → fold (met_below d terms) (numbers_below (length done)) (terms_below (term_of nodes numbered op left right)) ≡ numbers_below (length inner))
      → fold (met_below depth terms) (numbers_below (length done)) (number_in numbered t ∷ []) ≡ numbers_below (length (with_term inner t))
  emit-same depth done inner rest t op left right e front fresh grown deep below =
      let added : with_term inner t ≡ inner ++ t ∷ [] = ap (λ b. if b then inner else inner ++ t ∷ []) fresh in
      let whole : (inner ++ t ∷ []) ++ rest ≡ numbered = ap (λ l. l ++ rest) (sym added) ∙ front in
      let at : slice_get numbered (length inner) ≡ Some t = place-end inner rest t whole in
      let placed : place_of numbered t ≡ Some (length inner) = is.once (length inner) t at in
      let less : length inner < depth = deep (ap is_operation e) (length inner) placed in
      let listed_there : slice_get terms (length inner) ≡ Some (term_of nodes numbered op left right) =
      listed-at nodes numbered numbered (length inner) t op left right is.operation at e in
      let longer : suc (length inner) ≡ length (inner ++ t ∷ []) = omega (arith, length-append inner (t ∷ [])) in
      ap (met_below depth terms (numbers_below (length done))) (number-is t (length inner) placed)
      ∙ step-same depth (length inner) (numbers_below (length done)) (numbers_below (length inner)) (term_of nodes numbered op left right) less listed_there
      (above-lacks (length done) (length inner) grown) (below (sym (append_assoc inner (t ∷ []) rest) ∙ whole) at)
      ∙ ap numbers_below longer ∙ ap (λ l. numbers_below (length l)) (sym added)

  walks-same : (d depth : ℕ) (done rest : List TermId) (t : TermId) → t.0 < d → visit d nodes done t ++ rest ≡ numbered → IsDeep depth t → Same depth done t (visit d nodes done t)
  unfolding visit
  walks-same zero depth done rest t less front deep = absurd (omega arith)
  walks-same (suc d) depth done rest t less front deep =
      go (node_at nodes t) refl (has_term done t) refl front (λ dp ds rs u. walks-same d dp ds rs u)
    where
      Walks : Type 0
      Walks = (dp : ℕ) (ds rs : List TermId) (u : TermId) → u.0 < d → visit d nodes ds u ++ rs ≡ numbered → IsDeep dp u → Same dp ds u (visit d nodes ds u)

      go : (n : Option Node) → node_at nodes t ≡ n → (b : Bool) → has_term done t ≡ b → (if b then done else visit_node (visit d nodes) done t n) ++ rest ≡ numbered → Walks
          → fold (met_below depth terms) (numbers_below (length done)) (terms_of_operand (operand_from numbered t n)) ≡ numbers_below (length (if b then done else visit_node (visit d nodes) done t n))
      go None e true f fr rec = refl
      go None e false f fr rec = refl
      go (Some (Const c)) e true f fr rec = refl
      go (Some (Const c)) e false f fr rec = refl
      go (Some (Var v kind)) e true f fr rec = refl
      go (Some (Var v kind)) e false f fr rec = refl
      go (Some (Apply op left right)) e true f fr rec =
          sym (ap (λ n. fold (met_below depth terms) (numbers_below (length done)) (terms_of_operand (operand_from numbered t n))) e)
          ∙ there-same depth done rest t op left right e fr f deep
      go (Some (Apply op left None)) e false f fr rec =
          let l : left.0 < t.0 = first-before nodes t op left None formed e in
          let inner : List TermId = visit d nodes done left in
          emit-same depth done inner rest t op left None e fr (visit-apart nodes formed d done left t l ∙ f)
          (grows-length done inner (visit-grows nodes d done left)) deep
          (λ whole at dp deeper.
          ap (fold (met_below dp terms) (numbers_below (length done))) (append-nil (named left))
          ∙ rec dp done (t ∷ rest) left (omega arith) whole (left-deep t op left None (length inner) dp e at deeper))
      go (Some (Apply op left (Some right))) e false f fr rec =
          let l : left.0 < t.0 = first-before nodes t op left (Some right) formed e in
          let r : right.0 < t.0 = second-before nodes t op left right formed e in
          let middle : List TermId = visit d nodes done left in
          let inner : List TermId = visit d nodes middle right in
          let more : Grows middle inner = visit-grows nodes d middle right in
          emit-same depth done inner rest t op left (Some right) e fr
          (visit-apart nodes formed d middle right t r ∙ visit-apart nodes formed d done left t l ∙ f)
          (grows-length done inner (grows-on done middle inner (visit-grows nodes d done left) more)) deep
          (λ whole at dp deeper.
          fold-append (met_below dp terms) (numbers_below (length done)) (named left) (named right)
          ∙ ap (λ met. fold (met_below dp terms) met (named right))
          (rec dp done (more.0 ++ t ∷ rest) left (omega arith) (sym (append_assoc middle more.0 (t ∷ rest)) ∙ ap (λ xs. xs ++ t ∷ rest) (sym more.1) ∙ whole)
          (left-deep t op left (Some right) (length inner) dp e at deeper))
          ∙ rec dp middle (t ∷ rest) right (omega arith) whole (right-deep t op left right (length inner) dp e at deeper))

  -- the walk from all of some roots
  pub roots-same : (d depth : ℕ) (done rest more : List TermId) → ((i : ℕ) (t : TermId) → slice_get more i ≡ Some t → t.0 < d) → fold (visit d nodes) done more ++ rest ≡ numbered
      → ((t : TermId) → IsDeep depth t) → fold (met_below depth terms) (numbers_below (length done)) (flat_map named more) ≡ numbers_below (length (fold (visit d nodes) done more))
  roots-same d depth done rest [] less front deep = refl
  roots-same d depth done rest (t ∷ ts) less front deep =
      let after : List TermId = visit d nodes done t in
      let grown : Grows after (fold (visit d nodes) after ts) = roots-grow nodes d after ts in
      fold-append (met_below depth terms) (numbers_below (length done)) (named t) (flat_map named ts)
      ∙ ap (λ met. fold (met_below depth terms) met (flat_map named ts))
      (walks-same d depth done (grown.0 ++ rest) t (less 0 t refl) (sym (append_assoc after grown.0 rest) ∙ ap (λ xs. xs ++ rest) (sym grown.1) ∙ front) (deep t))
      ∙ roots-same d depth after rest ts (λ i u at. less (suc i) u at) front deep

-- the numbered terms of some roots, listed, are those that a walk from the roots over the list meets, in its order
pub met-is : (nodes : List Node) (roots : List TermId) → IsPool nodes → ((i : ℕ) (t : TermId) → slice_get roots i ≡ Some t → t.0 < length nodes)
    → IsNumbering nodes roots (numbering nodes roots)
    → let numbered : List TermId = numbering nodes roots in
    met_from (listed nodes numbered numbered) (flat_map (λ t. terms_of_operand (operand_of nodes numbered t)) roots) ≡ numbers_below (length (listed nodes numbered numbered))
unfolding numbering met_from
met-is nodes roots formed inside is =
    let numbered : List TermId = fold (visit (length nodes) nodes) [] roots in
    let count : length (listed nodes numbered numbered) ≡ length numbered = listed-length nodes numbered numbered is.operation in
    roots-same nodes formed roots numbered is (length nodes) (length (listed nodes numbered numbered)) [] [] roots inside (append-nil numbered)
    (λ t operation j placed. omega (arith, count, place-below numbered t j placed))
    ∙ ap numbers_below (sym count)
  where
    place-below : (ts : List TermId) (t : TermId) (j : ℕ) → place_of ts t ≡ Some j → j < length ts
    place-below ts t j e = (position-Some (λ x. t.0 == x.0) ts j t e).0
