-- A step of an exploration keeps what holds of it: the first alternative that waits is replaced by what follows it.
use Rattle.std.proofs.Common.{◌≡◌, ℕ, suc, ◌+◌, ◌<◌, Bool, true, false, not, List, [], ◌∷◌, ◌++◌, length, map, drop, Some, slice_get, nat_lt, ltb→lt, refl, sym, ap, ◌∙◌, subst, arith}
use Rattle.std.specs.Prelude.{flat_map, if◌then◌else◌}
use Rattle.kb_class.specs.declared.ids.MethodId.{MethodId}
use Rattle.kb_heap.specs.declared.bounds.Bounds.{Bounds}
use Rattle.kb_heap.specs.declared.heap.Input.{Input}
use Rattle.kb_classes.specs.World.{World}
use Rattle.kb_oracle.specs.declared.answer.Answer.TheVariants.{Model, Refuted, Undecided as UndecidedAnswer}
use Rattle.kb_picture.specs.declared.choice.Choice.{Choice}
use Rattle.kb_picture.specs.declared.path.Leaf.TheVariants.{Ended as EndedLeaf, Cut as CutLeaf, Undecided, Open as OpenLeaf}
use Rattle.kb_picture.specs.declared.path.Path.{Path}
use Rattle.kb_picture.specs.Laws.{OnePlaces}
use Rattle.kb_frames.specs.declared.value.Outcome.{Outcome}
use Rattle.kb_frames.specs.declared.value.Outcome.TheVariants.{Asks, Goes, Ends, Cut}
use Rattle.kb_frames.specs.Paths.{path_of}
use Rattle.kb_drive.specs.declared.follow.Known.{Known}
use Rattle.kb_drive.specs.declared.follow.Known.TheVariants.{Open, Met, Answered}
use Rattle.kb_drive.specs.declared.follow.Next.{Next}
use Rattle.kb_drive.specs.declared.follow.Next.TheVariants.{Lists, Waits as WaitsNext, Leaves}
use Rattle.kb_drive.specs.declared.piece.Piece.{Piece}
use Rattle.kb_drive.specs.declared.waiting.Taken.{Taken}
use Rattle.kb_drive.specs.declared.waiting.Waiting.{Waiting}
use Rattle.kb_drive.specs.declared.walk.Walk.{Walk}
use Rattle.kb_picture.specs.Carried.{EachPath}
use Rattle.kb_drive.specs.Covers.{AreOpenLast, closed_count, is_open}
use Rattle.kb_picture.specs.Exactly.{ExactlyOneHas, NoneHas}
use Rattle.kb_drive.specs.EmittedLaws.{InputsAreOfStates}
use Rattle.kb_drive.specs.Following.{IsAskedWithin, IsKnown, IsReachedBehind, alternative_next, closed_with, follows, follows_outcome, has_more, input_of_piece, listed_with, path_of_piece, taken_from, waiting_with, waits_at, waits_on, walk_with}
use Rattle.kb_ways.specs.Reached.{IsReached}
use Rattle.kb_ways.specs.Ways.{Take}
use Rattle.kb_drive.specs.Parts.{Alternative, IsInPart, Listed, Waits, alternatives_left, decisions_of_part, parts_of}
use Rattle.kb_frames_laws.specs.Endings.{EndingsMean, ended_in}
use Rattle.kb_drive.specs.Running.{ran_behind}
use Rattle.kb_drive.specs.Steps.{LeadsOn, StepsLeadOn}
use Rattle.kb_steps.specs.Taking.{choices_at, taken_at}
use Rattle.kb_drive.specs.Walks.{AreRising, BeginWith, EachWaiting, IsFurther, IsRefined, IsRightPath, IsWaiting, IsWalk, StaysIn, size_behind, size_left, size_of, size_of_choices, size_waiting}
use Rattle.kb_drive.proofs.DivisionLaws.{Replaces, replaces_within}
use Rattle.kb_drive.proofs.FollowLaws.{IsRightNext, Succeeds, follows_rightly, size_next}
use Rattle.kb_drive.proofs.OpenLaws.{count_more, each_more, open_last_closed, open_last_open}
use Rattle.kb_drive.proofs.OrderLaws.{begin_replaced, rising_replaced}
use Rattle.kb_drive.proofs.SumLaws.{sum_more}
use Rattle.kb_drive.proofs.PartLaws.{drop_at, drop_end, left_first, map_append, parts_behind, parts_with}
use Rattle.kb_drive.proofs.PieceLaws.{behind_piece}

-- ---- a step

-- Where the first alternative is replaced by what follows it, the parts of the exploration are refined.
pub parts_refined : (world : World) (bounds : Bounds) (walk : Walk) (first : Waiting) (others : List Waiting) (choice : Choice) (next : Next) (input : Input)
    → walk.waiting ≡ first ∷ others → slice_get first.choices first.next ≡ Some choice
    → Replaces (IsInPart world bounds) input (Waits (alternative_next first choice) ∷ []) (parts_behind next)
    → StaysIn world bounds walk (walk_with (record walk { waiting = waits_on first others }) next) input
parts_refined world bounds walk first others choice next input waits at replaces = record {
  one = λ one. subst (λ parts. ExactlyOneHas (IsInPart world bounds) parts input) (sym new) (all.one (subst (λ parts. ExactlyOneHas (IsInPart world bounds) parts input) old one));
  none = λ none. subst (λ parts. NoneHas (IsInPart world bounds) parts input) (sym new) (all.none (subst (λ parts. NoneHas (IsInPart world bounds) parts input) old none));
}
  where
    old : parts_of walk.listed walk.waiting ≡ map Listed walk.listed ++ ((Waits (alternative_next first choice) ∷ []) ++ map Waits (flat_map alternatives_left (waits_on first others)))
    old = ap (λ (w : List Waiting). parts_of walk.listed w) waits ∙ ap (λ (those : List Alternative). map Listed walk.listed ++ map Waits those) (left_first first others choice at)

    new : parts_of (walk_with (record walk { waiting = waits_on first others }) next).listed (walk_with (record walk { waiting = waits_on first others }) next).waiting
        ≡ map Listed walk.listed ++ (parts_behind next ++ map Waits (flat_map alternatives_left (waits_on first others)))
    new = parts_with walk.listed (waits_on first others) next

    all : Replaces (IsInPart world bounds) input (map Listed walk.listed ++ ((Waits (alternative_next first choice) ∷ []) ++ map Waits (flat_map alternatives_left (waits_on first others))))
        (map Listed walk.listed ++ (parts_behind next ++ map Waits (flat_map alternatives_left (waits_on first others))))
    all = replaces_within (IsInPart world bounds) input (map Listed walk.listed) (Waits (alternative_next first choice) ∷ []) (parts_behind next) (map Waits (flat_map alternatives_left (waits_on first others))) replaces

more_left : (next count : ℕ) → nat_lt next count ≡ true → next < count
more_left next count e = ltb→lt next count (rw e tt)

module _ (world : World) (target : MethodId) (bounds : Bounds) where
  waits_behind : (first : Waiting) (others : List Waiting) → EachWaiting (IsWaiting world target bounds) (first ∷ others) → EachWaiting (IsWaiting world target bounds) (waits_on first others)
  waits_behind first others each = go (has_more first) refl
    where
      go : (more : Bool) → has_more first ≡ more → EachWaiting (IsWaiting world target bounds) (if more then record first { next = suc first.next } ∷ others else others)
      go true e = (record { piece = each.0.piece; choices = each.0.choices; left = more_left (suc first.next) (length first.choices) e }, each.1)
      go false e = each.1

  abbrev size_taken : Waiting → Choice → ℕ
  size_taken first c = size_behind (size_of world bounds) (taken_at world bounds first.piece.state c).state (taken_at world bounds first.piece.state c).outcome

  -- what is left behind the first alternative
  size_first : (first : Waiting) (others : List Waiting) (choice : Choice) → slice_get first.choices first.next ≡ Some choice
      → size_waiting world bounds (first ∷ others)
      ≡ size_behind (size_of world bounds) (taken_at world bounds first.piece.state choice).state (taken_at world bounds first.piece.state choice).outcome
      + size_waiting world bounds (waits_on first others)
  size_first first others choice at = go (has_more first) refl
    where
      here : size_left world bounds first ≡ size_of_choices world bounds (size_of world bounds) first.piece.state (choice ∷ drop (suc first.next) first.choices)
      here = ap (λ (cs : List Choice). size_of_choices world bounds (size_of world bounds) first.piece.state cs) (drop_at first.choices first.next choice at)

      split : size_of_choices world bounds (size_of world bounds) first.piece.state (choice ∷ drop (suc first.next) first.choices)
          ≡ size_taken first choice + size_of_choices world bounds (size_of world bounds) first.piece.state (drop (suc first.next) first.choices)
      split = sum_more (size_taken first) choice (drop (suc first.next) first.choices)

      all : size_waiting world bounds (first ∷ others) ≡ size_left world bounds first + size_waiting world bounds others
      all = sum_more (size_left world bounds) first others

      go : (more : Bool) → has_more first ≡ more
          → size_waiting world bounds (first ∷ others)
          ≡ size_behind (size_of world bounds) (taken_at world bounds first.piece.state choice).state (taken_at world bounds first.piece.state choice).outcome
          + size_waiting world bounds (if more then record first { next = suc first.next } ∷ others else others)
      go true e =
          let on = sum_more (size_left world bounds) (record first { next = suc first.next }) others in
          omega (arith, here, split, all, on)
      go false e = let none : size_of_choices world bounds (size_of world bounds) first.piece.state (drop (suc first.next) first.choices) ≡ 0 = rw (drop_end first.choices (suc first.next) e) refl in omega (arith, here, split, all, none)

size_with : (world : World) (bounds : Bounds) (waiting : List Waiting) (next : Next) → size_waiting world bounds (waiting_with waiting next) ≡ size_next world bounds next + size_waiting world bounds waiting
size_with world bounds waiting (Lists path) = omega arith
size_with world bounds waiting (WaitsNext one) = sum_more (size_left world bounds) one waiting
size_with world bounds waiting Leaves = omega arith

closed_more : (listed : List Path) (closed : ℕ) (next : Next) → closed ≡ closed_count listed → closed_with closed next ≡ closed_count (listed_with listed next)
closed_more listed closed (Lists path) e = go (is_open path.leaf) refl (count_more (λ (p : Path). not (is_open p.leaf)) listed path)
  where
    go : (kept : Bool) → is_open path.leaf ≡ kept → closed_count (listed ++ path ∷ []) ≡ closed_count listed + closed_count (path ∷ [])
        → (if kept then closed else suc closed) ≡ closed_count (listed ++ path ∷ [])
    go true o count = let none : closed_count (path ∷ []) ≡ 0 = rw o refl in omega (arith, e, count, none)
    go false o count = let one : closed_count (path ∷ []) ≡ 1 = rw o refl in omega (arith, e, count, one)
closed_more listed closed (WaitsNext one) e = e
closed_more listed closed Leaves e = e

-- ---- open paths

-- a path is open exactly where nobody was asked
module _ (world : World) (bounds : Bounds) (taken : Taken) where
  waits_no_path : (piece : Piece) (choices : List Choice) (path : Path) → waits_at piece choices ≡ Lists path → is_open path.leaf ≡ false
  waits_no_path piece [] path e = absurd cc
  waits_no_path piece (choice ∷ others) path e = absurd cc

  outcome_closed : (piece : Piece) (outcome : Outcome) (path : Path) → follows_outcome world bounds piece outcome ≡ Lists path → is_open path.leaf ≡ false
  unfolding path_of
  outcome_closed piece Asks path e = waits_no_path piece (choices_at world bounds piece.state) path e
  outcome_closed piece Goes path e = waits_no_path piece (choices_at world bounds piece.state) path e
  outcome_closed piece (Ends ending) path e = let same : path_of_piece piece (EndedLeaf (ended_in piece.state ending (input_of_piece world piece))) ≡ path = cc in rw (sym same) refl
  outcome_closed piece (Cut bound) path e = let same : path_of_piece piece (CutLeaf bound (input_of_piece world piece)) ≡ path = cc in rw (sym same) refl

  -- where values meet the conditions of the piece
  open_with_piece : (walk : Walk) → walk.closed ≡ closed_count walk.listed → AreOpenLast walk.paths walk.listed → walk.closed < walk.paths → (piece : Piece) (outcome : Outcome)
      → AreOpenLast walk.paths (listed_with walk.listed (follows_outcome world bounds piece outcome))
  open_with_piece walk count kept within piece outcome =
      closed_next (follows_outcome world bounds piece outcome) (λ path e. outcome_closed piece outcome path e)
    where
      closed_next : (next : Next) → ((path : Path) → next ≡ Lists path → is_open path.leaf ≡ false) → AreOpenLast walk.paths (listed_with walk.listed next)
      closed_next (Lists path) closed = open_last_closed walk.paths walk.listed path kept (omega (arith, count, within)) (closed path refl)
      closed_next (WaitsNext one) closed = kept
      closed_next Leaves closed = kept

  abbrev ran : Take
  ran = ran_behind world bounds taken.piece.state taken.outcome

  pub open_with : (walk : Walk) (known : Known) → walk.closed ≡ closed_count walk.listed → AreOpenLast walk.paths walk.listed → IsAskedWithin walk known
      → AreOpenLast walk.paths (listed_with walk.listed (follows world bounds taken known))
  unfolding path_of
  open_with walk Open count kept within = open_last_open walk.paths walk.listed (path_of_piece taken.piece OpenLeaf) kept (omega (arith, count, within)) refl
  open_with walk Met count kept within = open_with_piece walk count kept within (record taken.piece { state = ran.state }) ran.outcome
  open_with walk (Answered (Model values)) count kept within = open_with_piece walk count kept within (record taken.piece { state = ran.state; values = values }) ran.outcome
  open_with walk (Answered (Refuted log)) count kept within = kept
  open_with walk (Answered (UndecidedAnswer log)) count kept within =
      open_last_closed walk.paths walk.listed (path_of_piece taken.piece (Undecided log)) kept (omega (arith, count, within)) refl

-- ---- the step

right_with : (world : World) (target : MethodId) (bounds : Bounds) (budget : ℕ) (listed : List Path) (next : Next) → EachPath (IsRightPath world target bounds budget) listed
    → IsRightNext world target bounds budget next → EachPath (IsRightPath world target bounds budget) (listed_with listed next)
right_with world target bounds budget listed (Lists path) each right = each_more (IsRightPath world target bounds budget) listed path each right
right_with world target bounds budget listed (WaitsNext one) each right = each
right_with world target bounds budget listed Leaves each right = each

waits_with : (world : World) (target : MethodId) (bounds : Bounds) (budget : ℕ) (waiting : List Waiting) (next : Next) → EachWaiting (IsWaiting world target bounds) waiting
    → IsRightNext world target bounds budget next → EachWaiting (IsWaiting world target bounds) (waiting_with waiting next)
waits_with world target bounds budget waiting (Lists path) each right = each
waits_with world target bounds budget waiting (WaitsNext one) each right = (right, each)
waits_with world target bounds budget waiting Leaves each right = each

-- A step keeps what holds of an exploration, refines its parts, and leaves less.
module _ (steps : StepsLeadOn) (endings_mean : EndingsMean) (emits : InputsAreOfStates) (one_places : OnePlaces) where
  module _ (world : World) (bounds : Bounds) (budget : ℕ) (walk : Walk) (first : Waiting) (others : List Waiting) (choice : Choice) (known : Known)
      (is : IsWalk world bounds budget walk) (waits : walk.waiting ≡ first ∷ others) (at : slice_get first.choices first.next ≡ Some choice)
      (knows : IsKnown budget (taken_from world bounds (alternative_next first choice)) known) (within : IsAskedWithin walk known)
      (reached : IsReached world (taken_at world bounds first.piece.state choice).state)
      (way : IsReachedBehind world bounds (taken_from world bounds (alternative_next first choice)) known) where
    abbrev next : Next
    next = follows world bounds (taken_from world bounds (alternative_next first choice)) known

    abbrev new : Walk
    new = walk_with (record walk { waiting = waits_on first others }) next

    all_wait : EachWaiting (IsWaiting world walk.target bounds) (first ∷ others)
    all_wait = subst (EachWaiting (IsWaiting world walk.target bounds)) waits is.waits

    one : IsWaiting world walk.target bounds first
    one = all_wait.0

    leads : LeadsOn world bounds first.piece.state (taken_at world bounds first.piece.state choice)
    leads =
        (steps world bounds first.piece.state is.explorable.range one.piece.reached).each
        choice (first.next, subst (λ (cs : List Choice). slice_get cs first.next ≡ Some choice) one.choices at)

    succeeds : Succeeds world walk.target bounds budget (alternative_next first choice) next
    succeeds =
        follows_rightly steps endings_mean emits one_places world walk.target bounds budget is.explorable (alternative_next first choice) known
        (behind_piece world walk.target bounds first.piece one.piece (taken_at world bounds first.piece.state choice) leads reached) knows way

    -- the decisions of the parts, before and behind the step
    old_decisions : map decisions_of_part (parts_of walk.listed walk.waiting)
        ≡ map decisions_of_part (map Listed walk.listed) ++ (alternative_next first choice).decisions ∷ map decisions_of_part (map Waits (flat_map alternatives_left (waits_on first others)))
    old_decisions =
        ap (λ (w : List Waiting). map decisions_of_part (parts_of walk.listed w)) waits
        ∙ ap (λ (those : List Alternative). map decisions_of_part (map Listed walk.listed ++ map Waits those)) (left_first first others choice at)
        ∙ map_append decisions_of_part (map Listed walk.listed) (Waits (alternative_next first choice) ∷ map Waits (flat_map alternatives_left (waits_on first others)))

    new_decisions : map decisions_of_part (parts_of new.listed new.waiting)
        ≡ map decisions_of_part (map Listed walk.listed) ++ (map decisions_of_part (parts_behind next) ++ map decisions_of_part (map Waits (flat_map alternatives_left (waits_on first others))))
    new_decisions =
        ap (map decisions_of_part) (parts_with walk.listed (waits_on first others) next)
        ∙ map_append decisions_of_part (map Listed walk.listed) (parts_behind next ++ map Waits (flat_map alternatives_left (waits_on first others)))
        ∙ ap (λ (ds : List (List ℕ)). map decisions_of_part (map Listed walk.listed) ++ ds) (map_append decisions_of_part (parts_behind next) (map Waits (flat_map alternatives_left (waits_on first others))))

    pub step_walk : IsWalk world bounds budget new
    step_walk = record {
      explorable = is.explorable;
      rising = subst AreRising (sym new_decisions)
          (rising_replaced (map decisions_of_part (map Listed walk.listed)) (alternative_next first choice).decisions (map decisions_of_part (parts_behind next))
          (map decisions_of_part (map Waits (flat_map alternatives_left (waits_on first others)))) succeeds.begins succeeds.rising (subst AreRising old_decisions is.rising));
      right = right_with world walk.target bounds budget walk.listed next is.right succeeds.right;
      waits = waits_with world walk.target bounds budget (waits_on first others) next (waits_behind world walk.target bounds first others all_wait) succeeds.right;
      closed = closed_more walk.listed walk.closed next is.closed;
      open_last = open_with world bounds (taken_from world bounds (alternative_next first choice)) walk known is.closed is.open_last within;
    }

    pub step_refined : IsRefined world bounds walk new
    step_refined = record {
      target = refl;
      paths = refl;
      inputs = λ input correct. parts_refined world bounds walk first others choice next input waits at (succeeds.inputs input correct);
      fronts = λ front begin. subst (BeginWith front) (sym new_decisions)
          (begin_replaced front (map decisions_of_part (map Listed walk.listed)) (alternative_next first choice).decisions (map decisions_of_part (parts_behind next))
          (map decisions_of_part (map Waits (flat_map alternatives_left (waits_on first others)))) succeeds.begins (subst (BeginWith front) old_decisions begin));
    }

    pub step_further : IsFurther world bounds walk new true
    step_further =
        let old_size : size_waiting world bounds walk.waiting ≡ size_waiting world bounds (first ∷ others) = ap (size_waiting world bounds) waits in
        let split = size_first world walk.target bounds first others choice at in
        let more = size_with world bounds (waits_on first others) next in
        omega (arith, old_size, split, more, succeeds.fewer)
