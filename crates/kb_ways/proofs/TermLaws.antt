-- A comparison that is found is a term, and no constant.
use Rattle.std.proofs.Common.{◌≡◌, List, Option, Some, None, ap}
use Rattle.std.proofs.lemmas.Option.{slice_get_within}
use Rattle.kb_terms.specs.declared.op.Op.{Op}
use Rattle.kb_terms.specs.declared.node.TermId.{TermId}
use Rattle.kb_terms.specs.declared.node.Node.{Node}
use Rattle.kb_terms.specs.declared.node.Node.TheVariants.{Op as Apply}
use Rattle.kb_terms.specs.Terms.{IsTerm, constant_of, constant_at}
use Rattle.kb_terms.proofs.Finding.{found}
use Rattle.kb_ways.specs.Asked.{comparison_with}

pub found_is_term : (nodes : List Node) (op : Op) (left right : Option TermId) (t : TermId) → comparison_with nodes op left right ≡ Some t → IsTerm nodes t
found_is_term nodes op (Some l) (Some r) t e = slice_get_within nodes t.0 (Apply op l (Some r)) (found nodes (Apply op l (Some r)) t e)
found_is_term nodes op (Some l) None t e = absurd cc
found_is_term nodes op None right t e = absurd cc

pub found_no_constant : (nodes : List Node) (op : Op) (left right : Option TermId) (t : TermId) → comparison_with nodes op left right ≡ Some t → constant_at nodes t ≡ None
found_no_constant nodes op (Some l) (Some r) t e = ap constant_of (found nodes (Apply op l (Some r)) t e)
found_no_constant nodes op (Some l) None t e = absurd cc
found_no_constant nodes op None right t e = absurd cc
