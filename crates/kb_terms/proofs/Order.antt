-- What holds of the numbering of roots: each term once, its operands before it, and every root.
use Rattle.std.proofs.Common.{◌≡◌, ℕ, zero, suc, ◌+◌, ◌<◌, ◌≤◌, List, [], ◌∷◌, ◌++◌, length, take, fold, slice_get, Option, Some, None, Bool, true, false, cond, not, refl, sym, ap, subst, ◌∙◌, arith, inl, inr, if◌then◌else◌, position, ◌||◌, ◌==◌, true≢false}
use Rattle.std.specs.List.{list_any, position_or_len}
use Rattle.std.proofs.lemmas.List.Folds.{list_any-append}
use Rattle.std.proofs.lemmas.List.{take-append-le, take_all}
use Rattle.std.proofs.Math.Seq.{take-append_seam}
use Rattle.std.proofs.lemmas.Option.{slice_get_within}
use Rattle.std.proofs.lemmas.Bool.Decides.{Decides-eqb, Decides-ltb}
use Rattle.kb_terms.specs.declared.node.TermId.{TermId}
use Rattle.kb_terms.specs.declared.node.Node.{Node}
use Rattle.kb_terms.specs.declared.node.Node.TheVariants.{Const, Var, Op as Apply}
use Rattle.kb_terms.proofs.Entries.{end-cases}
use Rattle.kb_terms.proofs.Walking.{first-before, second-before}
use Rattle.kb_terms.specs.Terms.{IsTerm, AreTerms, node_at, IsPool}
use Rattle.kb_terms.specs.Numbering.{has_term, place_of, with_term, visit_node, visit, numbering, is_operation, IsOperandOf, IsNumbering}

-- each of some terms
pub term-at : (nodes : List Node) (ts : List TermId) (i : ℕ) (t : TermId) → AreTerms nodes ts → slice_get ts i ≡ Some t → IsTerm nodes t
term-at nodes [] i t h e = absurd (cc)
term-at nodes (x ∷ xs) zero t h e = let same : x ≡ t = cc in subst (IsTerm nodes) same h.0
term-at nodes (x ∷ xs) (suc i) t h e = term-at nodes xs i t h.1 e

-- ---- places

module _ {X : Type 0} (p : X → Bool) where
  -- the first place that passes is below i, where something before i passes
  first-below : (xs : List X) (i : ℕ) → list_any p (take i xs) ≡ true → (position_or_len p xs < i) × (position_or_len p xs < length xs)
  first-below xs zero e = absurd (cc)
  first-below [] (suc i) e = absurd (cc)
  first-below (x ∷ xs) (suc i) e = go (p x) refl (λ h. first-below xs i h) e
    where
      go : (b : Bool) → p x ≡ b → (list_any p (take i xs) ≡ true → (position_or_len p xs < i) × (position_or_len p xs < length xs))
          → (b || list_any p (take i xs)) ≡ true
          → (cond (not b) (1 + position_or_len p xs) 0 < suc i) × (cond (not b) (1 + position_or_len p xs) 0 < suc (length xs))
      go true e later h = (omega arith, omega arith)
      go false e later h = let k = later h in (omega (arith, k.0), omega (arith, k.1))

  -- the place of an entry before which nothing passes
  first-exact : (xs : List X) (i : ℕ) (x : X) → slice_get xs i ≡ Some x → p x ≡ true → list_any p (take i xs) ≡ false → position_or_len p xs ≡ i
  first-exact [] i x at passes none = absurd (cc)
  first-exact (y ∷ ys) zero x at passes none =
      let same : y ≡ x = cc in
      ap (λ b. cond (not b) (1 + position_or_len p ys) 0) (ap p same ∙ passes)
  first-exact (y ∷ ys) (suc i) x at passes none = go (p y) refl (λ h. first-exact ys i x at passes h) none
    where
      go : (b : Bool) → p y ≡ b → (list_any p (take i ys) ≡ false → position_or_len p ys ≡ i) → (b || list_any p (take i ys)) ≡ false → cond (not b) (1 + position_or_len p ys) 0 ≡ suc i
      go true e later h = absurd (cc)
      go false e later h = omega (arith, later h)

  position-is : (xs : List X) → position_or_len p xs < length xs → position p xs ≡ Some (position_or_len p xs)
  position-is xs h = ap (λ b. cond b (Some (position_or_len p xs)) None) ((Decides-ltb (position_or_len p xs) (length xs)).1 h)

itself : (t : TermId) → (t.0 == t.0) ≡ true
itself t = (Decides-eqb t.0 t.0).1 refl

pub earlier-place : (terms : List TermId) (i : ℕ) (o : TermId) → has_term (take i terms) o ≡ true → (j : ℕ) × (j < i) × (place_of terms o ≡ Some j)
earlier-place terms i o e =
    let h = first-below (λ x. o.0 == x.0) terms i e in
    (position_or_len (λ x. o.0 == x.0) terms, h.0, position-is (λ x. o.0 == x.0) terms h.1)

pub own-place : (terms : List TermId) (i : ℕ) (t : TermId) → slice_get terms i ≡ Some t → has_term (take i terms) t ≡ false → place_of terms t ≡ Some i
own-place terms i t e fresh =
    let h = first-exact (λ x. t.0 == x.0) terms i t e (itself t) fresh in
    let inside : position_or_len (λ x. t.0 == x.0) terms < length terms = omega (arith, h, slice_get_within terms i t e) in
    position-is (λ x. t.0 == x.0) terms inside ∙ ap Some h

pub there-place : (terms : List TermId) (o : TermId) → has_term terms o ≡ true → (j : ℕ) × (place_of terms o ≡ Some j)
there-place terms o e =
    let p = earlier-place terms (length terms) o (ap (λ xs. has_term xs o) (take_all (length terms) terms (omega arith)) ∙ e) in
    (p.0, p.2)

-- ---- lists of terms that grow at their end

has_term-left : (xs ys : List TermId) (t : TermId) → has_term xs t ≡ true → has_term (xs ++ ys) t ≡ true
has_term-left xs ys t e = list_any-append (λ x. t.0 == x.0) xs ys ∙ ap (λ b. b || has_term ys t) e

or-true : (b : Bool) → (b || true) ≡ true
or-true true = refl
or-true false = refl

has_term-end : (xs : List TermId) (t : TermId) → has_term (xs ++ t ∷ []) t ≡ true
has_term-end xs t = list_any-append (λ x. t.0 == x.0) xs (t ∷ []) ∙ ap (λ b. has_term xs t || (b || false)) (itself t) ∙ or-true (has_term xs t)

keeps-with : (terms : List TermId) (t o : TermId) → has_term terms o ≡ true → has_term (with_term terms t) o ≡ true
keeps-with terms t o e = go (has_term terms t)
  where
    go : (b : Bool) → has_term (if b then terms else terms ++ t ∷ []) o ≡ true
    go true = e
    go false = has_term-left terms (t ∷ []) o e

has-with : (terms : List TermId) (t : TermId) → has_term (with_term terms t) t ≡ true
has-with terms t = go (has_term terms t) refl
  where
    go : (b : Bool) → has_term terms t ≡ b → has_term (if b then terms else terms ++ t ∷ []) t ≡ true
    go true e = e
    go false e = has_term-end terms t

module _ (nodes : List Node) where
  -- what a term finds before it
  pub record Stands (before : List TermId) (t : TermId) : Type 0 where
    pub operation : is_operation (node_at nodes t) ≡ true
    pub fresh : has_term before t ≡ false
    pub operands : (o : TermId) → IsOperandOf (node_at nodes t) o → is_operation (node_at nodes o) ≡ true → has_term before o ≡ true

  pub record InOrder (terms : List TermId) : Type 0 where
    pub each : (i : ℕ) (t : TermId) → slice_get terms i ≡ Some t → Stands (take i terms) t

  InOrder-nil : InOrder []
  InOrder-nil = record { each = λ i t e. absurd (cc) }

  InOrder-push : (terms : List TermId) (t : TermId) → InOrder terms → Stands terms t → InOrder (terms ++ t ∷ [])
  InOrder-push terms t h s = record {
    each = λ i x e. elim (end-cases terms t i x e) [
      | inl a ↦ subst (λ before. Stands before x) (sym (take-append-le i terms (t ∷ []) (omega (arith, a.0)))) (h.each i x a.1)
      | inr a ↦
          let all : take i (terms ++ t ∷ []) ≡ terms = ap (λ k. take k (terms ++ t ∷ [])) a.0 ∙ take-append_seam terms (t ∷ []) in
          subst (λ before. Stands before x) (sym all) (subst (Stands terms) a.1 s)
    ];
  }

  -- a term is added once, where its operands are there
  with-order : (terms : List TermId) (t : TermId) → InOrder terms → is_operation (node_at nodes t) ≡ true
      → ((o : TermId) → IsOperandOf (node_at nodes t) o → is_operation (node_at nodes o) ≡ true → has_term terms o ≡ true) → InOrder (with_term terms t)
  with-order terms t h operation operands = go (has_term terms t) refl
    where
      go : (b : Bool) → has_term terms t ≡ b → InOrder (if b then terms else terms ++ t ∷ [])
      go true e = h
      go false e = InOrder-push terms t h (record { operation = operation; fresh = e; operands = operands })

  -- what a visit of t leaves
  pub record Visited (done : List TermId) (t : TermId) (after : List TermId) : Type 0 where
    pub ordered : InOrder after
    pub numbered : is_operation (node_at nodes t) ≡ true → has_term after t ≡ true
    pub keeps : (o : TermId) → has_term done o ≡ true → has_term after o ≡ true

  -- what a visit of each of some roots leaves
  pub record AllVisited (done roots after : List TermId) : Type 0 where
    pub ordered : InOrder after
    pub numbered : (i : ℕ) (root : TermId) → slice_get roots i ≡ Some root → is_operation (node_at nodes root) ≡ true → has_term after root ≡ true
    pub keeps : (o : TermId) → has_term done o ≡ true → has_term after o ≡ true

  numbered-cons : (t : TermId) (ts done middle after : List TermId) → Visited done t middle → AllVisited middle ts after
      → (i : ℕ) (root : TermId) → slice_get (t ∷ ts) i ≡ Some root → is_operation (node_at nodes root) ≡ true → has_term after root ≡ true
  numbered-cons t ts done middle after first rest zero root e operation =
      let same : t ≡ root = cc in
      rest.keeps root (subst (λ u. has_term middle u ≡ true) same (first.numbered (ap (λ u. is_operation (node_at nodes u)) same ∙ operation)))
  numbered-cons t ts done middle after first rest (suc i) root e operation = rest.numbered i root e operation

  -- a term that is no operation adds nothing
  leaf : {done : List TermId} {t : TermId} (n : Option Node) → node_at nodes t ≡ n → is_operation n ≡ false → InOrder done → Visited done t done
  leaf n e none h = record { ordered = h; numbered = λ operation. absurd (true≢false (sym operation ∙ ap is_operation e ∙ none)); keeps = λ o there. there }

  module _ (formed : IsPool nodes) where
    node-visited : (walk : List TermId → TermId → List TermId) (done : List TermId) (t : TermId) (n : Option Node) → node_at nodes t ≡ n → InOrder done
        → ((d : List TermId) (u : TermId) → u.0 < t.0 → InOrder d → Visited d u (walk d u)) → Visited done t (visit_node walk done t n)
    node-visited walk done t None e h rec = leaf None e refl h
    node-visited walk done t (Some (Const c)) e h rec = leaf (Some (Const c)) e refl h
    node-visited walk done t (Some (Var v kind)) e h rec = leaf (Some (Var v kind)) e refl h
    node-visited walk done t (Some (Apply op left None)) e h rec =
        let l : Visited done left (walk done left) = rec done left (first-before nodes t op left None formed e) h in
        let operands : (o : TermId) → IsOperandOf (node_at nodes t) o → is_operation (node_at nodes o) ≡ true → has_term (walk done left) o ≡ true =
        λ o is operation. elim (subst (λ n. IsOperandOf n o) e is) [
          | inl same ↦ subst (λ u. has_term (walk done left) u ≡ true) (sym same) (l.numbered (ap (λ u. is_operation (node_at nodes u)) (sym same) ∙ operation))
          | inr same ↦ absurd (cc)
        ] in
        record {
          ordered = with-order (walk done left) t l.ordered (ap is_operation e) operands;
          numbered = λ _. has-with (walk done left) t;
          keeps = λ o there. keeps-with (walk done left) t o (l.keeps o there);
        }
    node-visited walk done t (Some (Apply op left (Some right))) e h rec =
        let l : Visited done left (walk done left) = rec done left (first-before nodes t op left (Some right) formed e) h in
        let r : Visited (walk done left) right (walk (walk done left) right) = rec (walk done left) right (second-before nodes t op left right formed e) l.ordered in
        let operands : (o : TermId) → IsOperandOf (node_at nodes t) o → is_operation (node_at nodes o) ≡ true → has_term (walk (walk done left) right) o ≡ true =
        λ o is operation. elim (subst (λ n. IsOperandOf n o) e is) [
          | inl same ↦
              r.keeps o (subst (λ u. has_term (walk done left) u ≡ true) (sym same) (l.numbered (ap (λ u. is_operation (node_at nodes u)) (sym same) ∙ operation)))
          | inr same ↦
              let is_right : o ≡ right = cc in
              subst (λ u. has_term (walk (walk done left) right) u ≡ true) (sym is_right) (r.numbered (ap (λ u. is_operation (node_at nodes u)) (sym is_right) ∙ operation))
        ] in
        record {
          ordered = with-order (walk (walk done left) right) t r.ordered (ap is_operation e) operands;
          numbered = λ _. has-with (walk (walk done left) right) t;
          keeps = λ o there. keeps-with (walk (walk done left) right) t o (r.keeps o (l.keeps o there));
        }

    visited : (depth : ℕ) (done : List TermId) (t : TermId) → t.0 < depth → InOrder done → Visited done t (visit depth nodes done t)
    unfolding visit
    visited zero done t below h = absurd (omega arith)
    visited (suc depth) done t below h = go (has_term done t) refl (λ d u less g. visited depth d u (omega arith) g)
      where
        go : (b : Bool) → has_term done t ≡ b → ((d : List TermId) (u : TermId) → u.0 < t.0 → InOrder d → Visited d u (visit depth nodes d u))
            → Visited done t (if b then done else visit_node (visit depth nodes) done t (node_at nodes t))
        go true e rec = record { ordered = h; numbered = λ _. e; keeps = λ o there. there }
        go false e rec = node-visited (visit depth nodes) done t (node_at nodes t) refl h rec

    -- all roots, one after another
    all-visited : (roots done : List TermId) → ((i : ℕ) (root : TermId) → slice_get roots i ≡ Some root → IsTerm nodes root) → InOrder done
        → AllVisited done roots (fold (visit (length nodes) nodes) done roots)
    all-visited [] done inside h = record { ordered = h; numbered = λ i root e. absurd (cc); keeps = λ o there. there }
    all-visited (t ∷ ts) done inside h =
        let first : Visited done t (visit (length nodes) nodes done t) = visited (length nodes) done t (inside 0 t refl) h in
        let middle : List TermId = visit (length nodes) nodes done t in
        let after : List TermId = fold (visit (length nodes) nodes) middle ts in
        let rest : AllVisited middle ts after = all-visited ts middle (λ i root e. inside (suc i) root e) first.ordered in
        record { ordered = rest.ordered; numbered = numbered-cons t ts done middle after first rest; keeps = λ o there. rest.keeps o (first.keeps o there) }

    pub numbering-is : (roots : List TermId) → ((i : ℕ) (root : TermId) → slice_get roots i ≡ Some root → IsTerm nodes root) → IsNumbering nodes roots (numbering nodes roots)
    unfolding numbering
    numbering-is roots inside =
        let all = all-visited roots [] inside InOrder-nil in
        let terms : List TermId = fold (visit (length nodes) nodes) [] roots in
        record {
          operation = λ i t e. (all.ordered.each i t e).operation;
          once = λ i t e. own-place terms i t e (all.ordered.each i t e).fresh;
          operands = λ i t o e is operation. earlier-place terms i o ((all.ordered.each i t e).operands o is operation);
          rooted = λ i root e operation. there-place terms root (all.numbered i root e operation);
        }

    -- the same of the terms that the loop over the roots comes to
    pub looped-is : (roots terms : List TermId) (k : ℕ) → AreTerms nodes roots → length roots ≤ k → terms ≡ fold (visit (length nodes) nodes) [] (take k roots)
        → IsNumbering nodes roots terms
    unfolding numbering
    looped-is roots terms k inside whole e =
        subst (IsNumbering nodes roots) (sym (e ∙ ap (λ rs. fold (visit (length nodes) nodes) [] rs) (take_all k roots whole)))
        (numbering-is roots (λ i root at. term-at nodes roots i root inside at))
