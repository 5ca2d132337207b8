-- The comparisons that conditions are: of the values of two ints, with or without sign (path conditions are the branches that a
-- program takes: King, 1976). A term of a state makes them over the pool, a term of a path over the path's own list.
use Rattle.std.specs.Prelude.{ℕ, ℤ, List, Option, Some, None, option_map, slice_get}
use Rattle.kb_blast.specs.Meaning.{operand_value, second_value}
use Rattle.kb_heap.specs.declared.heap.Input.{Input}
use Rattle.kb_semantics.specs.Comparisons.{Relation, Equal, Less, LessUnsigned, Comparison}
use Rattle.kb_terms.specs.declared.op.Op.{Op}
use Rattle.kb_terms.specs.declared.op.Op.TheVariants.{Eq, Lt, Ult}
use Rattle.kb_terms.specs.declared.node.TermId.{TermId}
use Rattle.kb_terms.specs.declared.node.Node.{Node}
use Rattle.kb_terms.specs.declared.node.Node.TheVariants.{Const, Var, Op as Apply}
use Rattle.kb_terms.specs.declared.listing.Term.{Term}
use Rattle.kb_terms.specs.Terms.{node_at, value_of}
use Rattle.kb_picture.specs.declared.path.Path.{Path}
use Rattle.kb_picture.specs.Instances.{variable_values, term_values}

-- the relation of an operation, where it is a comparison
abbrev pub relation_of : Op → Option Relation
relation_of Eq = Some Equal
relation_of Lt = Some Less
relation_of Ult = Some LessUnsigned
relation_of _ = None

-- the comparison that a node makes of the values of its operands, where it is one
abbrev pub comparison_in : (TermId → ℤ) → Option Node → Option Comparison
comparison_in value (Some (Apply op left (Some right))) = option_map (λ relation. record { relation = relation; left = value left; right = value right }) (relation_of op)
comparison_in value (Some (Apply op left None)) = None
comparison_in value (Some (Const c)) = None
comparison_in value (Some (Var v kind)) = None
comparison_in value None = None

-- the one that a term of a pool makes, where the variables have these values
abbrev pub comparison_of : List Node → List ℤ → TermId → Option Comparison
comparison_of nodes variables t = comparison_in (λ operand. value_of nodes operand variables) (node_at nodes t)

-- the one that a listed term makes, where the variables and the terms have these values
abbrev pub comparison_listed : List ℤ → List ℤ → Option Term → Option Comparison
comparison_listed variables terms None = None
comparison_listed variables terms (Some term) =
    option_map (λ (relation : Relation). record { relation = relation; left = operand_value variables terms term.left; right = second_value variables terms term.right })
    (relation_of term.op)

-- the one that the path's term of that number makes at an input, where `places` are those of the picture's objects
abbrev pub comparison_at : Path → Input → List ℕ → ℕ → Option Comparison
comparison_at path input places number =
    comparison_listed (variable_values path.picture input places) (term_values path input places) (slice_get path.terms number)
