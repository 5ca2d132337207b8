-- A path, with its terms, its conditions and its leaf in the numbering of texts (what a path's conditions and results say is said
-- with terms over its variables: King, 1976; the order of their numbers is an own rule). The terms are those that the conditions
-- and the leaf meet, in the order of a walk from them; before that the leaf has the numbers of the pool.
use Rattle.std.specs.Prelude.{ℕ, Bool, List, ◌++◌, map, option_map}
use Rattle.std.specs.List.{flat_map}
use Rattle.kb_blast.specs.Query.{roots_of as condition_roots, operand_of, listed, numbered_conditions}
use Rattle.kb_terms.specs.Numbering.{numbering}
use Rattle.kb_terms.specs.declared.node.TermId.{TermId}
use Rattle.kb_terms.specs.declared.node.Node.{Node}
use Rattle.kb_terms.specs.declared.listing.Operand.{Operand}
use Rattle.kb_terms.specs.declared.listing.Operand.TheVariants.{Const, Var, Term as TermOperand}
use Rattle.kb_picture.specs.declared.path.Out.{Out}
use Rattle.kb_picture.specs.declared.path.Out.TheVariants.{Int, Null, Loc, Obj, Literal, New}
use Rattle.kb_picture.specs.declared.path.Write.{Write}
use Rattle.kb_picture.specs.declared.path.Made.{Made}
use Rattle.kb_picture.specs.declared.path.SymEnding.{SymEnding}
use Rattle.kb_picture.specs.declared.path.SymEnding.TheVariants.{Returned, Threw, IllTyped}
use Rattle.kb_picture.specs.declared.path.Ended.{Ended}
use Rattle.kb_picture.specs.declared.path.Leaf.{Leaf}
use Rattle.kb_picture.specs.declared.path.Leaf.TheVariants.{Ended as EndedLeaf, Cut, Undecided, Open}
use Rattle.kb_picture.specs.declared.path.Path.{Path}
use Rattle.kb_picture.specs.declared.picture.Picture.{Picture}
use Rattle.kb_picture.specs.Numbering.{leaf_outs, terms_of_out}

-- ---- from what the walk begins

abbrev pub term_id : ℕ → TermId
term_id number = record { 0 = number }

-- the terms of the pool that values state
abbrev pub terms_stated : List Out → List TermId
terms_stated values = map term_id (flat_map terms_of_out values)

-- the terms of conditions, and those that a leaf states
abbrev pub walk_roots : List (TermId × Bool) → Leaf → List TermId
walk_roots when leaf = condition_roots when ++ terms_stated (leaf_outs leaf)

-- the terms of a path with these conditions and this leaf, in its order
abbrev pub walk_numbering : List Node → List (TermId × Bool) → Leaf → List TermId
walk_numbering nodes when leaf = numbering nodes (walk_roots when leaf)

-- ---- the numbers of the path

abbrev pub numbered_operand : List Node → List TermId → Operand → Operand
numbered_operand nodes numbered (TermOperand number) = operand_of nodes numbered (term_id number)
numbered_operand nodes numbered (Const c) = Const c
numbered_operand nodes numbered (Var v) = Var v

abbrev pub numbered_out : List Node → List TermId → Out → Out
numbered_out nodes numbered (Int operand) = Int (numbered_operand nodes numbered operand)
numbered_out nodes numbered Null = Null
numbered_out nodes numbered (Loc number) = Loc number
numbered_out nodes numbered (Obj number) = Obj number
numbered_out nodes numbered (Literal number) = Literal number
numbered_out nodes numbered (New number) = New number

abbrev pub numbered_outs : List Node → List TermId → List Out → List Out
numbered_outs nodes numbered values = map (numbered_out nodes numbered) values

abbrev pub numbered_ending : List Node → List TermId → SymEnding → SymEnding
numbered_ending nodes numbered (Returned value) = Returned (option_map (numbered_out nodes numbered) value)
numbered_ending nodes numbered (Threw value) = Threw (numbered_out nodes numbered value)
numbered_ending nodes numbered (IllTyped place) = IllTyped place

abbrev pub numbered_write : List Node → List TermId → Write → Write
numbered_write nodes numbered write = record { slot = write.slot; value = numbered_out nodes numbered write.value }

abbrev pub numbered_made : List Node → List TermId → Made → Made
numbered_made nodes numbered made = record { kind = made.kind; values = numbered_outs nodes numbered made.values }

abbrev pub numbered_ended : List Node → List TermId → Ended → Ended
numbered_ended nodes numbered ended =
    record {
      ending = numbered_ending nodes numbered ended.ending;
      writes = map (numbered_write nodes numbered) ended.writes;
      made = map (numbered_made nodes numbered) ended.made;
      input = ended.input;
    }

abbrev pub numbered_leaf : List Node → List TermId → Leaf → Leaf
numbered_leaf nodes numbered (EndedLeaf ended) = EndedLeaf (numbered_ended nodes numbered ended)
numbered_leaf nodes numbered (Cut bound input) = Cut bound input
numbered_leaf nodes numbered (Undecided log) = Undecided log
numbered_leaf nodes numbered Open = Open

-- ---- the path

-- with this picture, these conditions and decisions, and this leaf, and with the terms `numbered` of the pool
abbrev pub numbered_path : Picture → List Node → List (TermId × Bool) → List ℕ → Leaf → List TermId → Path
numbered_path picture nodes when decisions leaf numbered =
    record {
      decisions = decisions;
      picture = picture;
      terms = listed nodes numbered numbered;
      when = numbered_conditions numbered when;
      leaf = numbered_leaf nodes numbered leaf;
    }
