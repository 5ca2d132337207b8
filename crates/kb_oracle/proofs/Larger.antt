-- A pool with more terms asks the same query.
use Rattle.std.proofs.Common.{◌≡◌, ℕ, zero, suc, ◌<◌, Bool, true, List, [], ◌∷◌, ◌++◌, length, drop, fold, Option, Some, None, slice_get, if◌then◌else◌, refl, sym, ap, ◌∙◌, arith}
use Rattle.std.proofs.Math.ListN.{take-append-drop}
use Rattle.std.specs.List.{list_all}
use Rattle.std.proofs.lemmas.Bool.{and_parts}
use Rattle.kb_terms.specs.declared.op.Op.{Op}
use Rattle.kb_terms.specs.declared.node.TermId.{TermId}
use Rattle.kb_terms.specs.declared.node.VarKind.{VarKind}
use Rattle.kb_terms.specs.declared.node.Node.{Node}
use Rattle.kb_terms.specs.declared.node.Node.TheVariants.{Const, Var, Op as Apply}
use Rattle.kb_terms.specs.declared.listing.Operand.{Operand}
use Rattle.kb_terms.specs.declared.listing.Term.{Term}
use Rattle.kb_terms.specs.Terms.{IsTerm, AreTerms, node_at, IsPool, Extends}
use Rattle.kb_terms.specs.Numbering.{has_term, with_term, visit_node, visit, numbering}
use Rattle.kb_terms.proofs.Entries.{slice_get-append-left}
use Rattle.kb_terms.proofs.Values.{IsTerm-extends}
use Rattle.kb_terms.proofs.Walking.{first-before, second-before}
use Rattle.kb_blast.specs.Query.{operand_from, operand_of, operands_of, listed, kinds_of, roots_of, numbered_conditions, numbered_query, query_of, node_passes, is_any, is_comparison, AreConditions}
use Rattle.kb_blast.proofs.Listed.{is-operation, listed-cons, first-term, second-term}
use Rattle.kb_blast.proofs.Pooled.{all-any, are-terms}
use Rattle.kb_oracle.specs.Laws.{LargerPoolsAskTheSame}
use Rattle.kb_oracle.proofs.Queries.{conditions-numbered}

module _ (old new : List Node) (formed : IsPool old) (larger : IsPool new) (grown : Extends old new) where
  node-kept : (t : TermId) → IsTerm old t → node_at new t ≡ node_at old t
  node-kept t inside =
      let parts : new ≡ old ++ drop (length old) new = sym (take-append-drop (length old) new) ∙ ap (λ xs. xs ++ drop (length old) new) grown.kept in
      ap (λ xs. slice_get xs t.0) parts ∙ slice_get-append-left old (drop (length old) new) t.0 inside

  -- ---- the numbering

  node-visited : (walk go : List TermId → TermId → List TermId) (done : List TermId) (t : TermId) (n : Option Node) → node_at old t ≡ n
      → ((d : List TermId) (u : TermId) → u.0 < t.0 → walk d u ≡ go d u) → visit_node walk done t n ≡ visit_node go done t n
  node-visited walk go done t None e same = refl
  node-visited walk go done t (Some (Const c)) e same = refl
  node-visited walk go done t (Some (Var v kind)) e same = refl
  node-visited walk go done t (Some (Apply op left None)) e same = ap (λ d. with_term d t) (same done left (first-before old t op left None formed e))
  node-visited walk go done t (Some (Apply op left (Some right))) e same =
      ap (λ d. with_term d t)
      (ap (λ d. walk d right) (same done left (first-before old t op left (Some right) formed e))
      ∙ same (go done left) right (second-before old t op left right formed e))

  visit-kept : (f g : ℕ) (done : List TermId) (t : TermId) → IsTerm old t → t.0 < f → t.0 < g → visit f new done t ≡ visit g old done t
  unfolding visit
  visit-kept zero g done t inside h k = absurd (omega arith)
  visit-kept (suc f) zero done t inside h k = absurd (omega arith)
  visit-kept (suc f) (suc g) done t inside h k =
      ap (λ d. if has_term done t then done else d)
      (ap (visit_node (visit f new) done t) (node-kept t inside)
      ∙ node-visited (visit f new) (visit g old) done t (node_at old t) refl (λ d u below. visit-kept f g d u (omega arith) (omega arith) (omega arith)))

  visits-kept : (roots done : List TermId) → AreTerms old roots → fold (visit (length new) new) done roots ≡ fold (visit (length old) old) done roots
  visits-kept [] done h = refl
  visits-kept (t ∷ ts) done h =
      ap (λ d. fold (visit (length new) new) d ts) (visit-kept (length new) (length old) done t h.0 (IsTerm-extends old new t grown h.0) h.0)
      ∙ visits-kept ts (visit (length old) old done t) h.1

  numbering-kept : (roots : List TermId) → AreTerms old roots → numbering new roots ≡ numbering old roots
  unfolding numbering
  numbering-kept roots h = visits-kept roots [] h

  -- ---- the listed terms

  operand-kept : (numbered : List TermId) (o : TermId) → IsTerm old o → operand_of new numbered o ≡ operand_of old numbered o
  operand-kept numbered o inside = ap (operand_from numbered o) (node-kept o inside)

  second-kept : (numbered : List TermId) (t : TermId) (op : Op) (left : TermId) (right : Option TermId) → node_at old t ≡ Some (Apply op left right)
      → operands_of new numbered right ≡ operands_of old numbered right
  second-kept numbered t op left None e = refl
  second-kept numbered t op left (Some r) e = ap Some (operand-kept numbered r (second-term old t op left (Some r) formed e r refl))

  listed-kept : (numbered ts : List TermId) → list_all (λ t. node_passes is_any (node_at old t)) ts ≡ true → AreTerms old ts → listed new numbered ts ≡ listed old numbered ts
  listed-kept numbered [] h inside = refl
  listed-kept numbered (t ∷ ts) h inside =
      let p = and_parts _ _ h in
      let o = is-operation (node_at old t) is_any p.0 in
      let left : Operand = operand_of old numbered o.1 in
      let right : Option Operand = operands_of old numbered o.2 in
      listed-cons new larger numbered t ts o.0 o.1 o.2 (node-kept t inside.0 ∙ o.3)
      ∙ (ap (λ (l : Operand). record { op = o.0; left = l; right = operands_of new numbered o.2 } ∷ listed new numbered ts) (operand-kept numbered o.1 (first-term old t o.0 o.1 o.2 formed o.3))
      ∙ (ap (λ (r : Option Operand). record { op = o.0; left = left; right = r } ∷ listed new numbered ts) (second-kept numbered t o.0 o.1 o.2 o.3)
      ∙ (ap (λ (terms : List Term). record { op = o.0; left = left; right = right } ∷ terms) (listed-kept numbered ts p.1 inside.1)
      ∙ sym (listed-cons old formed numbered t ts o.0 o.1 o.2 o.3))))

  query-kept : (when : List (TermId × Bool)) → kinds_of new ≡ kinds_of old → AreConditions old when → query_of new when ≡ query_of old when
  query-kept when same fit =
      let order : List TermId = numbering old (roots_of when) in
      let n = conditions-numbered old when formed fit in
      let operations : list_all (λ t. node_passes is_any (node_at old t)) order ≡ true = all-any old order n.operation in
      ap (numbered_query new when) (numbering-kept (roots_of when) (are-terms old is_comparison (roots_of when) fit))
      ∙ (ap (λ (kinds : List VarKind). record { kinds = kinds; terms = listed new order order; conditions = numbered_conditions order when }) same
      ∙ ap (λ (terms : List Term). record { kinds = kinds_of old; terms = terms; conditions = numbered_conditions order when }) (listed-kept order order operations (are-terms old is_any order operations)))

pub larger-ask-the-same : LargerPoolsAskTheSame
larger-ask-the-same old new when formed larger grown same fit = query-kept old new formed larger grown when same fit
