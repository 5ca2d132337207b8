-- The variables of a query, and the pools that ask it.
use Rattle.std.proofs.Common.{◌≡◌, ℕ, zero, suc, ◌<◌, Bool, List, [], ◌∷◌, length, get_or, Contains, ◌⊎◌, inl, inr, refl, sym, ap, subst, ◌∙◌, arith}
use Rattle.std.proofs.lemmas.List.Sums.{sum_by-cons}
use Rattle.std.specs.Prelude.{cond}
use Rattle.kb_chain.specs.Cnf.{Cnf}
use Rattle.kb_terms.specs.declared.node.TermId.{TermId}
use Rattle.kb_terms.specs.declared.node.VarKind.{VarKind}
use Rattle.kb_terms.specs.declared.node.Node.{Node}
use Rattle.kb_terms.specs.declared.node.Node.TheVariants.{Const, Var, Op as Apply}
use Rattle.kb_terms.specs.Terms.{IsPool, is_variable, variables_of}
use Rattle.kb_terms.specs.Numbering.{numbering, IsNumbering}
use Rattle.kb_terms.proofs.Order.{numbering-is, term-at}
use Rattle.kb_blast.specs.Query.{Query, kinds_of, roots_of, is_comparison, AreConditions}
use Rattle.kb_blast.specs.Conditions.{Words, occurring, occurring_kinds, variable_word, variable_words, first_formula, blasted, words_of}
use Rattle.kb_blast.specs.Meaning.{IsElsewhere}
use Rattle.kb_blast.specs.Listing.{numbers_of}
use Rattle.kb_blast.proofs.Saying.{numbers-with_kinds}
use Rattle.kb_blast.proofs.Pooled.{are-terms}

-- ---- the variables that have words are those that occur

numbers-variables : (vs : List (ℕ × VarKind)) (f : Cnf) → numbers_of (variable_words vs f).0 ≡ numbers_of vs
unfolding variable_words
numbers-variables [] f = refl
numbers-variables (v ∷ vs) f = ap (λ ns. v.0 ∷ ns) (numbers-variables vs (variable_word v.1 f).1)

pub numbers-words : (q : Query) → numbers_of (words_of q) ≡ occurring q.terms
unfolding blasted
numbers-words q = numbers-variables (occurring_kinds q) first_formula ∙ numbers-with_kinds q.kinds (occurring q.terms)

pub Contains-cases : (n : ℕ) (ns : List ℕ) (v : ℕ) → Contains (n ∷ ns) v → (v ≡ n) ⊎ Contains ns v
Contains-cases n ns v h = go h.0 h.1 h.2
  where
    go : (k : ℕ) → k < length (n ∷ ns) → get_or (n ∷ ns) k v ≡ v → (v ≡ n) ⊎ Contains ns v
    go zero lt e = inl (sym e)
    go (suc k) lt e = inr (k, omega arith, e)

Contains-first : (n : ℕ) (ns : List ℕ) → Contains (n ∷ ns) n
Contains-first n ns = (0, omega arith, refl)

Contains-later : (n : ℕ) (ns : List ℕ) (v : ℕ) → Contains ns v → Contains (n ∷ ns) v
Contains-later n ns v h = let lt = h.1 in (suc h.0, omega arith, h.2)

pub elsewhere : (words : Words) (v : ℕ) → (Contains (numbers_of words) v → ⊥) → IsElsewhere v words
elsewhere [] v absent = tt
elsewhere (w ∷ words) v absent = (
  λ e. absent (subst (λ n. Contains (n ∷ numbers_of words) v) e (Contains-first v (numbers_of words))),
  elsewhere words v (λ h. absent (Contains-later w.0 (numbers_of words) v h)),
)

-- ---- pools

-- a pool has as many kinds as variables
pub length-kinds : (nodes : List Node) → length (kinds_of nodes) ≡ variables_of nodes
length-kinds [] = refl
length-kinds (Const c ∷ nodes) =
    let rest = length-kinds nodes in
    let more = sum_by-cons (λ n. cond (is_variable n) 1 0) (Const c) nodes in
    omega (arith, rest, more)
length-kinds (Var v kind ∷ nodes) =
    let rest = length-kinds nodes in
    let more = sum_by-cons (λ n. cond (is_variable n) 1 0) (Var v kind) nodes in
    omega (arith, rest, more)
length-kinds (Apply op left right ∷ nodes) =
    let rest = length-kinds nodes in
    let more = sum_by-cons (λ n. cond (is_variable n) 1 0) (Apply op left right) nodes in
    omega (arith, rest, more)

-- the numbering of a pool's conditions is one
pub conditions-numbered : (nodes : List Node) (when : List (TermId × Bool)) → IsPool nodes → AreConditions nodes when
    → IsNumbering nodes (roots_of when) (numbering nodes (roots_of when))
conditions-numbered nodes when formed fit =
    let terms = are-terms nodes is_comparison (roots_of when) fit in
    numbering-is nodes formed (roots_of when) (λ i root at. term-at nodes (roots_of when) i root terms at)
