-- The order in which a path's terms stand: a walk meets them from what the path states, operands first, the left one first,
-- each once (the depth-first order of a graph's nodes, each behind those that it leads to: Tarjan, 1972).
use Rattle.std.specs.Prelude.{ℕ, zero, suc, Bool, List, [], ◌∷◌, ◌++◌, length, map, fold, Option, Some, None, slice_get, ◌==◌, if◌then◌else◌}
use Rattle.std.specs.List.{list_any, flat_map}
use Rattle.std.specs.Option.{option_map_or}
use Rattle.kb_terms.specs.declared.listing.Operand.{Operand}
use Rattle.kb_terms.specs.declared.listing.Operand.TheVariants.{Const, Var, Term as TermOperand}
use Rattle.kb_terms.specs.declared.listing.Term.{Term}
use Rattle.kb_picture.specs.declared.path.Out.{Out}
use Rattle.kb_picture.specs.declared.path.Out.TheVariants.{Int, Null, Loc, Obj, Literal, New}
use Rattle.kb_picture.specs.declared.path.Write.{Write}
use Rattle.kb_picture.specs.declared.path.Made.{Made}
use Rattle.kb_picture.specs.declared.path.SymEnding.{SymEnding}
use Rattle.kb_picture.specs.declared.path.SymEnding.TheVariants.{Returned, Threw, IllTyped}
use Rattle.kb_picture.specs.declared.path.Ended.{Ended}
use Rattle.kb_picture.specs.declared.path.Leaf.{Leaf}
use Rattle.kb_picture.specs.declared.path.Leaf.TheVariants.{Ended as EndedLeaf, Cut, Undecided, Open}
use Rattle.kb_picture.specs.declared.path.Path.{Path}

-- ---- the walk

-- the terms that an operand names: one at most
abbrev pub terms_of_operand : Operand → List ℕ
terms_of_operand (Const c) = []
terms_of_operand (Var v) = []
terms_of_operand (TermOperand t) = t ∷ []

abbrev pub terms_of_second : Option Operand → List ℕ
terms_of_second None = []
terms_of_second (Some operand) = terms_of_operand operand

-- those that a term names, the left operand's first
abbrev pub terms_below : Term → List ℕ
terms_below term = terms_of_operand term.left ++ terms_of_second term.right

abbrev pub has_number : List ℕ → ℕ → Bool
has_number numbers t = list_any (λ n. n == t) numbers

-- the terms met so far and those that term t adds, down to operands `depth` deep
unfoldable pub met_below : ℕ → List Term → List ℕ → ℕ → List ℕ
met_below zero terms met t = met
met_below (suc depth) terms met t =
    if has_number met t then met
    else fold (met_below depth terms) met (option_map_or terms_below (slice_get terms t) []) ++ t ∷ []

-- the terms that a walk from these terms meets, in its order; no operand is as deep as there are terms
unfoldable pub met_from : List Term → List ℕ → List ℕ
met_from terms roots = fold (met_below (length terms) terms) [] roots

-- ---- from what the walk begins

abbrev pub terms_of_out : Out → List ℕ
terms_of_out (Int operand) = terms_of_operand operand
terms_of_out Null = []
terms_of_out (Loc number) = []
terms_of_out (Obj number) = []
terms_of_out (Literal number) = []
terms_of_out (New number) = []

-- the values that an ending, writes and made objects state, in this order
abbrev pub ending_outs : SymEnding → List Out
ending_outs (Returned None) = []
ending_outs (Returned (Some value)) = value ∷ []
ending_outs (Threw value) = value ∷ []
ending_outs (IllTyped place) = []

abbrev pub ended_outs : Ended → List Out
ended_outs ended = ending_outs ended.ending ++ map (λ (write : Write). write.value) ended.writes ++ flat_map (λ (made : Made). made.values) ended.made

abbrev pub leaf_outs : Leaf → List Out
leaf_outs (EndedLeaf ended) = ended_outs ended
leaf_outs (Cut bound input) = []
leaf_outs (Undecided log) = []
leaf_outs Open = []

-- the terms of a list of conditions
abbrev pub condition_terms : List (ℕ × Bool) → List ℕ
condition_terms when = map (λ condition. condition.0) when

-- the conditions' terms in order, then those that the leaf states
abbrev pub roots_of : Path → List ℕ
roots_of path = condition_terms path.when ++ flat_map terms_of_out (leaf_outs path.leaf)
