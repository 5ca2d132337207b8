-- How a pool grows: it stays well-formed, and a variable's node is new.
use Rattle.kb_terms.proofs.Entries.{end-cases}
use Rattle.std.proofs.Common.{◌≡◌, ℕ, ◌+◌, ◌<◌, ◌^◌, List, [], ◌∷◌, ◌++◌, length, take, slice_get, Some, sym, ap, subst, ◌∙◌, arith, length-append, inl, inr}
use Rattle.std.proofs.lemmas.List.{take-append-le, append-nil}
use Rattle.std.proofs.Math.Seq.{take-append_seam}
use Rattle.kb_terms.specs.declared.node.TermId.{TermId}
use Rattle.kb_terms.specs.declared.node.Node.{Node}
use Rattle.kb_terms.specs.Terms.{NodeFits, IsPool, Extends, HasNode}

pub extends-same : (nodes new : List Node) → new ≡ nodes → Extends nodes new
extends-same nodes new e = record { kept = ap (take (length nodes)) e ∙ ap (take (length nodes)) (sym (append-nil nodes)) ∙ take-append_seam nodes [] }

pub extends-more : (nodes : List Node) (node : Node) → Extends nodes (nodes ++ node ∷ [])
extends-more nodes node = record { kept = take-append_seam nodes (node ∷ []) }

pub has_node-extends : (old new : List Node) (t : TermId) (node : Node) → HasNode old new t node → Extends old new
has_node-extends old new t node h = elim h.added [ inl e ↦ extends-same old new e | inr e ↦ subst (Extends old) (sym e) (extends-more old node) ]

module _ (nodes : List Node) (node : Node) (formed : IsPool nodes) (fit : NodeFits nodes node) (fresh : (i : ℕ) → slice_get nodes i ≡ Some node → ⊥) where
  fits-grown : (i : ℕ) (x : Node) → slice_get (nodes ++ node ∷ []) i ≡ Some x → NodeFits (take i (nodes ++ node ∷ [])) x
  fits-grown i x e = elim (end-cases nodes node i x e) [
    | inl a ↦ subst (λ before. NodeFits before x) (sym (take-append-le i nodes (node ∷ []) (omega (arith, a.0)))) (formed.fits i x a.1)
    | inr a ↦
        let all : take i (nodes ++ node ∷ []) ≡ nodes = ap (λ k. take k (nodes ++ node ∷ [])) a.0 ∙ take-append_seam nodes (node ∷ []) in
        subst (λ before. NodeFits before x) (sym all) (subst (NodeFits nodes) a.1 fit)
  ]

  distinct-grown : (i j : ℕ) (x : Node) → slice_get (nodes ++ node ∷ []) i ≡ Some x → slice_get (nodes ++ node ∷ []) j ≡ Some x → i ≡ j
  distinct-grown i j x e f = elim (end-cases nodes node i x e) [
    | inl a ↦ elim (end-cases nodes node j x f) [ inl b ↦ formed.distinct i j x a.1 b.1 | inr b ↦ absurd (fresh i (a.1 ∙ ap Some (sym b.1))) ]
    | inr a ↦ elim (end-cases nodes node j x f) [ inl b ↦ absurd (fresh j (b.1 ∙ ap Some (sym a.1))) | inr b ↦ a.0 ∙ sym b.0 ]
  ]

  pub grown : length nodes + 1 < 2 ^ 32 → IsPool (nodes ++ node ∷ [])
  grown room = record { small = omega (arith, room, length-append nodes (node ∷ [])); fits = fits-grown; distinct = distinct-grown }
