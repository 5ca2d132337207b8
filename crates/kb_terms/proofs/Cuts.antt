-- A pool that is cut to its first terms.
use Rattle.std.proofs.Common.{◌≡◌, ℕ, ◌+◌, ◌-◌, ◌<◌, ◌≤◌, ℤ, List, [], ◌∷◌, ◌++◌, length, take, drop, Option, Some, None, refl, sym, ap, ◌∙◌, arith, length-take, length-drop, take_all}
use Rattle.std.specs.Option.{option_map_or}
use Rattle.std.proofs.lemmas.Option.{slice_get_within}
use Rattle.std.proofs.lemmas.List.{take-append-drop}
use Rattle.kb_terms.specs.declared.node.TermId.{TermId}
use Rattle.kb_terms.specs.declared.node.Node.{Node}
use Rattle.kb_terms.specs.Terms.{node_at, variables_of, IsPool, Extends, term_with, interned, value_of, cut_pool}
use Rattle.kb_terms.specs.Cuts.{LeavesTerms}
use Rattle.kb_terms.proofs.Entries.{slice_get-take}
use Rattle.kb_terms.proofs.Computing.{IsPool-take, take-more}
use Rattle.kb_terms.proofs.Finding.{found, found_there}
use Rattle.kb_terms.proofs.Interned.{variables-append}
use Rattle.kb_terms.proofs.Values.{value_of-extends}

pub length-cut : (nodes : List Node) (n : ℕ) → n ≤ length nodes → length (cut_pool nodes n) ≡ n
length-cut nodes n h = omega (arith, h, length-take n nodes)

pub cut-extends : (nodes : List Node) (n : ℕ) → n ≤ length nodes → Extends (cut_pool nodes n) nodes
cut-extends nodes n h = record { kept = ap (λ k. take k nodes) (length-cut nodes n h) }

-- the variables are those of the terms that are left and of those that go
pub variables-cut : (nodes : List Node) (n : ℕ) → variables_of (cut_pool nodes n) + variables_of (drop n nodes) ≡ variables_of nodes
variables-cut nodes n = sym (variables-append (take n nodes) (drop n nodes)) ∙ ap variables_of (take-append-drop n nodes)

-- where those that go were counted
pub variables-gone : (old nodes : List Node) (n gone : ℕ) → gone ≡ variables_of (take (length nodes - n) (drop n nodes)) → nodes ≡ old → variables_of (cut_pool old n) + gone ≡ variables_of old
variables-gone old nodes n gone counted same =
    let all : variables_of (take (length nodes - n) (drop n nodes)) ≡ variables_of (drop n nodes) = ap variables_of (take_all (length nodes - n) (drop n nodes) (omega (arith, length-drop n nodes))) in
    omega (arith, variables-cut old n, counted, all, ap (λ ns. variables_of (drop n ns)) same)

module _ (nodes : List Node) (terms : ℕ) (formed : IsPool nodes) (inside : terms ≤ length nodes) where
  node-kept : (t : TermId) → t.0 < terms → node_at (cut_pool nodes terms) t ≡ node_at nodes t
  node-kept t below = slice_get-take terms nodes t.0 below

  value-kept : (t : TermId) (inputs : List ℤ) → t.0 < terms → value_of (cut_pool nodes terms) t inputs ≡ value_of nodes t inputs
  value-kept t inputs below =
      sym (value_of-extends (cut_pool nodes terms) nodes t inputs (cut-extends nodes terms inside) (omega (arith, below, length-cut nodes terms inside)))

  found-still : (t : TermId) (node : Node) → t.0 < terms → node_at nodes t ≡ Some node → term_with (cut_pool nodes terms) node ≡ Some t
  found-still t node below e = found_there (cut_pool nodes terms) node t (IsPool-take nodes terms formed) (node-kept t below ∙ e)

  gone-there : (t : TermId) (node : Node) → terms ≤ t.0 → node_at nodes t ≡ Some node → term_with (cut_pool nodes terms) node ≡ None
  gone-there t node above e = go (term_with (cut_pool nodes terms) node) refl where
    go : (f : Option TermId) → term_with (cut_pool nodes terms) node ≡ f → f ≡ None
    go None at = refl
    go (Some u) at =
        let there : node_at (cut_pool nodes terms) u ≡ Some node = found (cut_pool nodes terms) node u at in
        let below : u.0 < terms = omega (arith, slice_get_within (cut_pool nodes terms) u.0 node there, length-cut nodes terms inside) in
        let same : u.0 ≡ t.0 = formed.distinct u.0 t.0 node (sym (node-kept u below) ∙ there) e in
        absurd (omega (arith, same, below, above))

  made-again : (node : Node) → node_at nodes (record { 0 = terms }) ≡ Some node → interned (cut_pool nodes terms) node ≡ (cut_pool nodes (terms + 1), record { 0 = terms })
  made-again node e =
      let none : term_with (cut_pool nodes terms) node ≡ None = gone-there (record { 0 = terms }) node (omega arith) e in
      ap (λ (f : Option TermId). option_map_or (λ (u : TermId). (cut_pool nodes terms, u)) f (cut_pool nodes terms ++ node ∷ [], record { 0 = length (cut_pool nodes terms) })) none
      ∙ ap (λ (n : ℕ). (cut_pool nodes terms ++ node ∷ [], record { 0 = n })) (length-cut nodes terms inside)
      ∙ ap (λ (ns : List Node). (ns, record { 0 = terms })) (sym (take-more nodes terms node e))

  pub leaves_terms : LeavesTerms nodes terms
  leaves_terms = record {
    formed = IsPool-take nodes terms formed;
    kept = node-kept;
    value = value-kept;
    found = found-still;
    gone = gone-there;
    fits = λ node e. formed.fits terms node e;
    again = made-again;
  }
