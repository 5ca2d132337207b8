-- What a cut leaves of a pool.
use Rattle.std.specs.Prelude.{◌≡◌, ℕ, ◌+◌, ◌<◌, ◌≤◌, ℤ, List, Some, None}
use Rattle.kb_terms.specs.declared.node.TermId.{TermId}
use Rattle.kb_terms.specs.declared.node.Node.{Node}
use Rattle.kb_terms.specs.Terms.{node_at, NodeFits, IsPool, term_with, interned, value_of, cut_pool}

-- a cut to so many terms: it leaves a pool; each term that is left has its node and its value; making the node of such a term
-- gives that term still; the node of a term that was cut is there no longer; and the first term that was cut can be made again
-- and then has the number that it had, and so in their order the others
pub record LeavesTerms (nodes : List Node) (terms : ℕ) : Type 0 where
  pub formed : IsPool (cut_pool nodes terms)
  pub kept : (t : TermId) → t.0 < terms → node_at (cut_pool nodes terms) t ≡ node_at nodes t
  pub value : (t : TermId) (inputs : List ℤ) → t.0 < terms → value_of (cut_pool nodes terms) t inputs ≡ value_of nodes t inputs
  pub found : (t : TermId) (node : Node) → t.0 < terms → node_at nodes t ≡ Some node → term_with (cut_pool nodes terms) node ≡ Some t
  pub gone : (t : TermId) (node : Node) → terms ≤ t.0 → node_at nodes t ≡ Some node → term_with (cut_pool nodes terms) node ≡ None
  pub fits : (node : Node) → node_at nodes (record { 0 = terms }) ≡ Some node → NodeFits (cut_pool nodes terms) node
  pub again : (node : Node) → node_at nodes (record { 0 = terms }) ≡ Some node → interned (cut_pool nodes terms) node ≡ (cut_pool nodes (terms + 1), record { 0 = terms })
