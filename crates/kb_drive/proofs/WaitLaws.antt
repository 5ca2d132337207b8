-- What an alternative is replaced by: a path of its state, nothing, or the alternatives of its state.
use Rattle.std.proofs.Common.{◌↔◌, ℤ, List, [], ◌∷◌, length, map, sym, subst}
use Rattle.kb_class.specs.declared.ids.MethodId.{MethodId}
use Rattle.kb_heap.specs.declared.bounds.Bounds.{Bounds}
use Rattle.kb_heap.specs.declared.heap.Input.{Input}
use Rattle.kb_classes.specs.World.{World}
use Rattle.kb_semantics.specs.Inputs.{IsTypeCorrect}
use Rattle.kb_picture.specs.declared.choice.Choice.{Choice}
use Rattle.kb_picture.specs.declared.path.Leaf.{Leaf}
use Rattle.kb_picture.specs.Exactly.{ExactlyOneHas, NoneHas}
use Rattle.kb_frames.specs.Paths.{path_of}
use Rattle.kb_frames.specs.StandsFor.{IsInstanceOf}
use Rattle.kb_frames.specs.State.{State}
use Rattle.kb_ways.specs.Ways.{Take}
use Rattle.kb_drive.specs.declared.piece.Piece.{Piece}
use Rattle.kb_drive.specs.Following.{waits_at}
use Rattle.kb_drive.specs.Parts.{Alternative, IsInPart, Listed, Waits, alternatives_from, taken_of}
use Rattle.kb_drive.specs.Pieces.{IsPiece}
use Rattle.kb_drive.specs.StatePaths.{IsPathOf}
use Rattle.kb_drive.specs.Steps.{StepsLead}
use Rattle.kb_steps.specs.Taking.{choices_at, taken_at}
use Rattle.kb_drive.proofs.DivisionLaws.{Replaces, no_thing, same_thing, split_thing}
use Rattle.kb_drive.proofs.PartLaws.{none_of, none_taken, one_of, parts_behind}
use Rattle.kb_drive.proofs.PieceLaws.{instance_before}

-- ---- what an alternative is replaced by

module _ (world : World) (target : MethodId) (bounds : Bounds) (alternative : Alternative) (input : Input) (correct : IsTypeCorrect world target input) where
  abbrev after : Take
  after = taken_of world bounds alternative

  -- a path of a state with the inputs of the one behind it has the same inputs
  pub listed_replaces : (state : State) → IsInstanceOf after.state input ↔ IsInstanceOf state input → (leaf : Leaf) → IsPathOf world state alternative.decisions leaf
      → Replaces (IsInPart world bounds) input (Waits alternative ∷ []) (Listed (path_of state alternative.decisions leaf) ∷ [])
  listed_replaces state same leaf means =
      same_thing (IsInPart world bounds) input (Waits alternative) (Listed (path_of state alternative.decisions leaf))
      (λ has. (means.means.instances input).1 (same.0 has)) (λ has. same.1 ((means.means.instances input).0 has))

  -- one that is refuted has none
  pub refuted_replaces : (IsInstanceOf after.state input → ⊥) → Replaces (IsInPart world bounds) input (Waits alternative ∷ []) []
  refuted_replaces none = no_thing (IsInPart world bounds) input (Waits alternative) none

  -- Such a state waits at its next choice: each of its inputs goes one way, and no other input comes in.
  pub waiting_replaces : (state : State) → IsInstanceOf after.state input ↔ IsInstanceOf state input → (values : List ℤ)
      → IsPiece world target bounds (record { state = state; decisions = alternative.decisions; values = values }) → StepsLead world bounds state
      → Replaces (IsInPart world bounds) input (Waits alternative ∷ [])
      (parts_behind (waits_at (record { state = state; decisions = alternative.decisions; values = values }) (choices_at world bounds state)))
  waiting_replaces state same values piece leads =
      by_choices (choices_at world bounds state) (λ has. one (same.0 has)) (λ not. none (λ has. not (same.1 has)))
    where
      here : Piece
      here = record { state = state; decisions = alternative.decisions; values = values }

      correct_here : IsTypeCorrect world state.method input
      correct_here = subst (λ (m : MethodId). IsTypeCorrect world m input) (sym piece.explored.method) correct

      one : IsInstanceOf state input → ExactlyOneHas (λ choice i. IsInstanceOf (taken_at world bounds state choice).state i) (choices_at world bounds state) input
      one instance_of = let stands = piece.stands input correct instance_of in leads.one input stands.0 correct_here stands.1

      -- whoever is an instance behind an alternative of the state is one of the state
      none : (IsInstanceOf state input → ⊥) → NoneHas (λ choice i. IsInstanceOf (taken_at world bounds state choice).state i) (choices_at world bounds state) input
      none not =
          none_taken world bounds here input (choices_at world bounds state)
          (λ choice has takes. not (instance_before world target bounds here piece (taken_at world bounds state choice) (leads.each choice has) input takes))

      by_choices : (choices : List Choice)
          → (IsInstanceOf after.state input → ExactlyOneHas (λ choice i. IsInstanceOf (taken_at world bounds state choice).state i) choices input)
          → ((IsInstanceOf after.state input → ⊥) → NoneHas (λ choice i. IsInstanceOf (taken_at world bounds state choice).state i) choices input)
          → Replaces (IsInPart world bounds) input (Waits alternative ∷ []) (parts_behind (waits_at here choices))
      by_choices [] one none = no_thing (IsInPart world bounds) input (Waits alternative) (λ has. one has)
      by_choices (choice ∷ others) one none =
          split_thing (IsInPart world bounds) input (Waits alternative) (map Waits (alternatives_from here (length (choice ∷ others)) 0 (choice ∷ others)))
          (λ has. one_of world bounds here input (length (choice ∷ others)) 0 (choice ∷ others) (one has))
          (λ not. none_of world bounds here input (length (choice ∷ others)) 0 (choice ∷ others) (none not))
