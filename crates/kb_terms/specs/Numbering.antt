-- The numbering of the terms of a list of terms, the roots: walk the roots in order; each operation comes after its
-- operands, the left one first, and only once. Constants and variables have no number.
use Rattle.std.specs.Prelude.{◌≡◌, ◌<◌, true, false, slice_get, ◌⊎◌, ℕ, zero, suc, Bool, List, [], ◌∷◌, ◌++◌, length, fold, Option, Some, None, ◌==◌, if◌then◌else◌, position}
use Rattle.std.specs.List.{list_any}
use Rattle.kb_terms.specs.declared.node.TermId.{TermId}
use Rattle.kb_terms.specs.declared.node.Node.{Node}
use Rattle.kb_terms.specs.declared.node.Node.TheVariants.{Const, Var, Op as Apply}
use Rattle.kb_terms.specs.Terms.{node_at}

-- whether a list has a term
abbrev pub has_term : List TermId → TermId → Bool
has_term terms t = list_any (λ x. t.0 == x.0) terms

-- the place of a term in a list, from 0
abbrev pub place_of : List TermId → TermId → Option ℕ
place_of terms t = position (λ x. t.0 == x.0) terms

-- a list with the term at its end, unless it is there
abbrev pub with_term : List TermId → TermId → List TermId
with_term terms t = if has_term terms t then terms else terms ++ t ∷ []

-- the terms `done` and those that a term with this node adds, where `walk` adds those of an operand
abbrev pub visit_node : (List TermId → TermId → List TermId) → List TermId → TermId → Option Node → List TermId
visit_node walk done t None = done
visit_node walk done t (Some (Const c)) = done
visit_node walk done t (Some (Var v kind)) = done
visit_node walk done t (Some (Apply op left None)) = with_term (walk done left) t
visit_node walk done t (Some (Apply op left (Some right))) = with_term (walk (walk done left) right) t

-- the terms `done` and those that term t adds, down to operands `depth` deep
unfoldable pub visit : ℕ → List Node → List TermId → TermId → List TermId
visit zero nodes done t = done
visit (suc depth) nodes done t = if has_term done t then done else visit_node (visit depth nodes) done t (node_at nodes t)

-- the numbered terms of the roots, in the order of their numbers; no operand is as deep as there are terms
unfoldable pub numbering : List Node → List TermId → List TermId
numbering nodes roots = fold (visit (length nodes) nodes) [] roots

-- ---- what holds of a numbering

abbrev pub is_operation : Option Node → Bool
is_operation (Some (Const c)) = false
is_operation (Some (Var v kind)) = false
is_operation (Some (Apply op left right)) = true
is_operation None = false

-- o is an operand of a term with this node
abbrev pub IsOperandOf : Option Node → TermId → Type 0
IsOperandOf (Some (Const c)) o = ⊥
IsOperandOf (Some (Var v kind)) o = ⊥
IsOperandOf (Some (Apply op left right)) o = (o ≡ left) ⊎ (right ≡ Some o)
IsOperandOf None o = ⊥

-- each numbered term is an operation and has one number, each of its operands that is an operation has a smaller number,
-- and each root that is an operation has a number
pub record IsNumbering (nodes : List Node) (roots terms : List TermId) : Type 0 where
  pub operation : (i : ℕ) (t : TermId) → slice_get terms i ≡ Some t → is_operation (node_at nodes t) ≡ true
  pub once : (i : ℕ) (t : TermId) → slice_get terms i ≡ Some t → place_of terms t ≡ Some i
  pub operands : (i : ℕ) (t o : TermId) → slice_get terms i ≡ Some t → IsOperandOf (node_at nodes t) o → is_operation (node_at nodes o) ≡ true
      → (j : ℕ) × (j < i) × (place_of terms o ≡ Some j)
  pub rooted : (i : ℕ) (root : TermId) → slice_get roots i ≡ Some root → is_operation (node_at nodes root) ≡ true → (j : ℕ) × (place_of terms root ≡ Some j)
