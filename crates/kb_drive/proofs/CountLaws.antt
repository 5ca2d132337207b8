-- A step lists one undecided path more only where the oracle has counted one.
use Rattle.std.proofs.Common.{◌≡◌, ℕ, suc, ◌+◌, ◌≤◌, Bool, true, false, List, [], ◌∷◌, ◌++◌, refl, sym, subst, arith}
use Rattle.kb_heap.specs.declared.bounds.Bounds.{Bounds}
use Rattle.kb_classes.specs.World.{World}
use Rattle.kb_oracle.specs.declared.answer.Answer.TheVariants.{Model, Refuted, Undecided as UndecidedAnswer}
use Rattle.kb_picture.specs.declared.choice.Choice.{Choice}
use Rattle.kb_picture.specs.declared.path.Leaf.TheVariants.{Undecided, Ended as EndedLeaf, Cut as CutLeaf, Open as OpenLeaf}
use Rattle.kb_picture.specs.declared.path.Path.{Path}
use Rattle.kb_frames.specs.declared.value.Outcome.{Outcome}
use Rattle.kb_frames.specs.declared.value.Outcome.TheVariants.{Asks, Goes, Ends, Cut}
use Rattle.kb_frames.specs.Paths.{path_of}
use Rattle.kb_drive.specs.declared.follow.Known.{Known}
use Rattle.kb_drive.specs.declared.follow.Known.TheVariants.{Open, Met, Answered}
use Rattle.kb_drive.specs.declared.piece.Piece.{Piece}
use Rattle.kb_drive.specs.declared.waiting.Taken.{Taken}
use Rattle.kb_drive.specs.declared.waiting.Waiting.{Waiting}
use Rattle.kb_drive.specs.declared.walk.Walk.{Walk}
use Rattle.kb_drive.specs.Counts.{RoseBy, is_undecided, undecided_count}
use Rattle.kb_drive.specs.Following.{HasCounted, follows, follows_outcome, input_of_piece, listed_with, path_of_piece, waits_at, walk_with}
use Rattle.kb_frames_laws.specs.Endings.{ended_in}
use Rattle.kb_drive.specs.Running.{ran_behind}
use Rattle.kb_steps.specs.Taking.{choices_at}
use Rattle.kb_drive.specs.Walks.{KeepsCount}
use Rattle.kb_drive.proofs.OpenLaws.{count_more}
use Rattle.kb_drive.proofs.SourceLaws.{rose_kept, rose_more}

one_more : (listed : List Path) (path : Path) (undecided : Bool) → is_undecided path.leaf ≡ undecided → undecided_count (listed ++ path ∷ []) ≡ undecided_count listed + undecided_count (path ∷ [])
one_more listed path undecided e = count_more (λ (p : Path). is_undecided p.leaf) listed path

waits_same : (listed : List Path) (piece : Piece) (choices : List Choice) → undecided_count (listed_with listed (waits_at piece choices)) ≡ undecided_count listed
waits_same listed piece [] = refl
waits_same listed piece (choice ∷ others) = refl

-- whatever the outcome of a piece, no path of it is undecided
outcome_same : (world : World) (bounds : Bounds) (listed : List Path) (piece : Piece) (outcome : Outcome) → undecided_count (listed_with listed (follows_outcome world bounds piece outcome)) ≡ undecided_count listed
unfolding path_of
outcome_same world bounds listed piece Asks = waits_same listed piece (choices_at world bounds piece.state)
outcome_same world bounds listed piece Goes = waits_same listed piece (choices_at world bounds piece.state)
outcome_same world bounds listed piece (Ends ending) =
    let more = one_more listed (path_of_piece piece (EndedLeaf (ended_in piece.state ending (input_of_piece world piece)))) false refl in omega (arith, more)
outcome_same world bounds listed piece (Cut bound) =
    let more = one_more listed (path_of_piece piece (CutLeaf bound (input_of_piece world piece))) false refl in omega (arith, more)

kept_count : (walk new : Walk) (unsure now : ℕ) → undecided_count new.listed ≡ undecided_count walk.listed → unsure ≤ now → KeepsCount walk new unsure now
kept_count walk new unsure now same later before by = subst (λ (n : ℕ). RoseBy n before now) (sym same) (rose_kept (undecided_count walk.listed) before unsure now by later)

pub keeps_count : (world : World) (bounds : Bounds) (walk : Walk) (waiting : List Waiting) (taken : Taken) (known : Known) (unsure now : ℕ) → HasCounted unsure now known → unsure ≤ now
    → KeepsCount walk (walk_with (record walk { waiting = waiting }) (follows world bounds taken known)) unsure now
unfolding path_of
keeps_count world bounds walk waiting taken Open unsure now counted later =
    kept_count walk (walk_with (record walk { waiting = waiting }) (follows world bounds taken Open)) unsure now (let more = one_more walk.listed (path_of_piece taken.piece OpenLeaf) false refl in omega (arith, more)) later
keeps_count world bounds walk waiting taken Met unsure now counted later =
    kept_count walk (walk_with (record walk { waiting = waiting }) (follows world bounds taken Met)) unsure now (outcome_same world bounds walk.listed (record taken.piece { state = (ran_behind world bounds taken.piece.state taken.outcome).state }) (ran_behind world bounds taken.piece.state taken.outcome).outcome)
    later
keeps_count world bounds walk waiting taken (Answered (Model values)) unsure now counted later =
    kept_count walk (walk_with (record walk { waiting = waiting }) (follows world bounds taken (Answered (Model values)))) unsure now
    (outcome_same world bounds walk.listed (record taken.piece { state = (ran_behind world bounds taken.piece.state taken.outcome).state; values = values }) (ran_behind world bounds taken.piece.state taken.outcome).outcome)
    later
keeps_count world bounds walk waiting taken (Answered (Refuted log)) unsure now counted later =
    kept_count walk (walk_with (record walk { waiting = waiting }) (follows world bounds taken (Answered (Refuted log)))) unsure now refl later
keeps_count world bounds walk waiting taken (Answered (UndecidedAnswer log)) unsure now counted later =
    λ before by.
    let more = one_more walk.listed (path_of_piece taken.piece (Undecided log)) true refl in
    let one : undecided_count (walk.listed ++ path_of_piece taken.piece (Undecided log) ∷ []) ≡ suc (undecided_count walk.listed) = omega (arith, more) in
    subst (λ (n : ℕ). RoseBy n before now) (sym one) (rose_more (undecided_count walk.listed) before unsure now by counted)
