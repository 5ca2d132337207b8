-- Where values and logs come from, and how many undecided paths there are, when one path more is listed.
use Rattle.std.proofs.Common.{◌≡◌, ℕ, zero, suc, Bool, true, false, ◌-◌, ◌^◌, ◌<◌, ◌≤◌, ℤ, List, [], ◌∷◌, ◌++◌, length, take, drop, Option, Some, None, slice_get, inl, inr, refl, sym, ap, ◌∙◌, subst, arith, append-nil}
use Rattle.std.specs.Prelude.{if◌then◌else◌}
use Rattle.std.specs.List.{cons_option}
use Rattle.kb_chain.specs.declared.log.Log.{Log}
use Rattle.kb_class.specs.declared.ids.MethodId.{MethodId}
use Rattle.kb_heap.specs.declared.bounds.Bounds.{Bounds}
use Rattle.kb_heap.specs.declared.heap.Input.{Input}
use Rattle.kb_classes.specs.World.{World}
use Rattle.kb_oracle.specs.declared.answer.Answer.{Answer}
use Rattle.kb_oracle.specs.declared.answer.Answer.TheVariants.{Model, Refuted, Undecided}
use Rattle.kb_terms.specs.Terms.{variables_of}
use Rattle.kb_picture.specs.declared.path.Leaf.TheVariants.{Ended as EndedLeaf, Cut as CutLeaf, Undecided as UndecidedLeaf, Open as OpenLeaf}
use Rattle.kb_picture.specs.WellFormed.{variables_seen}
use Rattle.kb_picture.specs.declared.path.Path.{Path}
use Rattle.kb_outside.specs.Outside.{Rose}
use Rattle.kb_picture.specs.declared.choice.Choice.{Choice}
use Rattle.kb_frames.specs.State.{State}
use Rattle.kb_frames.specs.States.{IsState}
use Rattle.kb_frames.specs.declared.value.Outcome.{Outcome}
use Rattle.kb_frames.specs.declared.value.Outcome.TheVariants.{Asks, Goes, Ends, Cut}
use Rattle.kb_frames.specs.Paths.{path_of}
use Rattle.kb_drive.specs.declared.follow.Known.{Known}
use Rattle.kb_drive.specs.declared.follow.Known.TheVariants.{Open, Met, Answered}
use Rattle.kb_drive.specs.declared.follow.Next.TheVariants.{Lists}
use Rattle.kb_drive.specs.declared.piece.Piece.{Piece}
use Rattle.kb_drive.specs.declared.waiting.Taken.{Taken}
use Rattle.kb_drive.specs.declared.waiting.Waiting.{Waiting}
use Rattle.kb_drive.specs.declared.walk.Walk.{Walk}
use Rattle.kb_drive.specs.Counts.{RoseBy}
use Rattle.kb_picture.specs.Carried.{input_carried}
use Rattle.kb_input.specs.Emitted.{emitted_input}
use Rattle.kb_drive.specs.Values.{followed_by_zeros, AreGiven, CarriesGiven, HaveValuesFrom, OfGiven, log_of, logs_given, logs_of}
use Rattle.kb_drive.specs.Following.{follows, follows_outcome, given_after, has_more, input_of_piece, path_of_piece, waits_at, waits_on, walk_with, IfMet}
use Rattle.kb_frames_laws.specs.Endings.{ended_in}
use Rattle.kb_drive.specs.Running.{ran_behind}
use Rattle.kb_steps.specs.Taking.{choices_at}
use Rattle.kb_drive.specs.Walks.{EachWaiting, IsFrom}
use Rattle.kb_drive.proofs.GrowLaws.{variables_of_state}
use Rattle.kb_drive.proofs.OpenLaws.{each_more}

-- ---- counts

-- a count that rose once more
pub rose_more : (n before unsure now : ℕ) → RoseBy n before unsure → Rose unsure now → RoseBy (suc n) before now
rose_more n before unsure now by rose small =
    let below : unsure < 2 ^ 64 - 1 = omega (arith, rose, small) in
    let so_far = by below in
    omega (arith, rose, small, so_far)

-- and one that did not fall
pub rose_kept : (n before unsure now : ℕ) → RoseBy n before unsure → unsure ≤ now → RoseBy n before now
rose_kept n before unsure now by later small = let so_far = by (omega (arith, later, small)) in omega (arith, later, so_far)

-- ---- answers

behind_more : {A : Type 0} (front all : List A) (x : A) → take (length front) all ≡ front
    → (take (length front) (all ++ x ∷ []) ≡ front) × (drop (length front) (all ++ x ∷ []) ≡ drop (length front) all ++ x ∷ [])
behind_more [] all x e = (refl, refl)
behind_more (y ∷ ys) [] x e = absurd cc
behind_more (y ∷ ys) (z ∷ zs) x e = let same : z ≡ y = cc in let rest = behind_more ys zs x cc in (rw same (ap (λ l. y ∷ l) rest.0), rest.1)

-- the answers since a moment, with one more
pub given_more : (Such More : List Answer → Type 0) (before given : List Answer) (answer : Answer)
    → ((answers : List Answer) → Such answers → More (answers ++ answer ∷ []))
    → OfGiven Such (Some before) (Some given) → OfGiven More (Some before) (Some (given ++ answer ∷ []))
given_more Such More before given answer goes of =
    let behind = behind_more before given answer of.0 in
    (behind.0, subst More (sym behind.1) (goes (drop (length before) given) of.1))

-- what was given stays given
pub given_still : (answers : List Answer) (answer : Answer) (values : List ℤ) → AreGiven answers values → AreGiven (answers ++ answer ∷ []) values
given_still answers answer values (inl none) = inl none
given_still answers answer values (inr has) = inr (has.0, still answers has.0 has.1)
  where
    still : (xs : List Answer) (i : ℕ) → slice_get xs i ≡ Some (Model values) → slice_get (xs ++ answer ∷ []) i ≡ Some (Model values)
    still [] i e = absurd cc
    still (x ∷ xs) zero e = e
    still (x ∷ xs) (suc i) e = still xs i e

-- the model that was given last
pub given_last : (answers : List Answer) (values : List ℤ) → AreGiven (answers ++ Model values ∷ []) values
given_last answers values = inr (length answers, last answers)
  where
    last : (xs : List Answer) → slice_get (xs ++ Model values ∷ []) (length xs) ≡ Some (Model values)
    last [] = refl
    last (x ∷ xs) = last xs

pub logs_more : (answers : List Answer) (answer : Answer) → logs_given (answers ++ answer ∷ []) ≡ logs_given answers ++ logs_given (answer ∷ [])
logs_more [] answer = refl
logs_more (Model values ∷ answers) answer = logs_more answers answer
logs_more (Refuted log ∷ answers) answer = logs_more answers answer
logs_more (Undecided log ∷ answers) answer = ap (λ (logs : List Log). log ∷ logs) (logs_more answers answer)

-- ---- lists of paths

logs_listed : (listed : List Path) (path : Path) → logs_of (listed ++ path ∷ []) ≡ logs_of listed ++ logs_of (path ∷ [])
logs_listed [] path = refl
logs_listed (first ∷ others) path = go (log_of first.leaf) (logs_listed others path)
  where
    go : (log : Option Log) → logs_of (others ++ path ∷ []) ≡ logs_of others ++ logs_of (path ∷ [])
        → cons_option log (logs_of (others ++ path ∷ [])) ≡ cons_option log (logs_of others) ++ logs_of (path ∷ [])
    go None e = e
    go (Some log) e = ap (λ (logs : List Log). log ∷ logs) e

module _ (world : World) (target : MethodId) where
  -- a path without a log, whose values were given
  pub listed_more : (listed : List Path) (answers : List Answer) (path : Path) → HaveValuesFrom world target listed answers → log_of path.leaf ≡ None → CarriesGiven world target answers path
      → HaveValuesFrom world target (listed ++ path ∷ []) answers
  listed_more listed answers path have none carries = record {
    logs = logs_listed listed path ∙ rw none (append-nil (logs_of listed)) ∙ have.logs;
    inputs = each_more (CarriesGiven world target answers) listed path have.inputs carries;
  }

  still_carries : (answers : List Answer) (answer : Answer) (path : Path) → CarriesGiven world target answers path → CarriesGiven world target (answers ++ answer ∷ []) path
  still_carries answers answer path carries input e = let from = carries input e in (from.0, given_still answers answer from.0 from.1, from.2)

  -- one answer more that is no log
  pub given_grows : (listed : List Path) (answers : List Answer) (answer : Answer) → HaveValuesFrom world target listed answers → logs_given (answer ∷ []) ≡ []
      → HaveValuesFrom world target listed (answers ++ answer ∷ [])
  given_grows listed answers answer have none = record {
    logs = have.logs ∙ sym (logs_more answers answer ∙ rw none (append-nil (logs_given answers)));
    inputs = λ i path e. still_carries answers answer path (have.inputs i path e);
  }

  -- one that is the log of one path more
  pub undecided_more : (listed : List Path) (answers : List Answer) (path : Path) (log : Log) → HaveValuesFrom world target listed answers → path.leaf ≡ UndecidedLeaf log
      → HaveValuesFrom world target (listed ++ path ∷ []) (answers ++ Undecided log ∷ [])
  undecided_more listed answers path log have is = record {
    logs = logs_listed listed path ∙ rw is (ap (λ (logs : List Log). logs ++ log ∷ []) have.logs) ∙ sym (logs_more answers (Undecided log));
    inputs = each_more (CarriesGiven world target (answers ++ Undecided log ∷ [])) listed path (λ i item e. still_carries answers (Undecided log) item (have.inputs i item e)) none;
  }
    where
      none : CarriesGiven world target (answers ++ Undecided log ∷ []) path
      none input e = absurd (no_input (rw is at e))
        where
          no_input : input_carried (UndecidedLeaf log) ≡ Some input → ⊥
          no_input f = cc

-- ---- a step

given_on : (answers : List Answer) (answer : Answer) (waiting : List Waiting) → EachWaiting (λ (one : Waiting). AreGiven answers one.piece.values) waiting
    → EachWaiting (λ (one : Waiting). AreGiven (answers ++ answer ∷ []) one.piece.values) waiting
given_on answers answer [] each = tt
given_on answers answer (one ∷ others) each = (given_still answers answer one.piece.values each.0, given_on answers answer others each.1)

pub given_behind : (answers : List Answer) (first : Waiting) (others : List Waiting) → EachWaiting (λ (one : Waiting). AreGiven answers one.piece.values) (first ∷ others)
    → EachWaiting (λ (one : Waiting). AreGiven answers one.piece.values) (waits_on first others)
given_behind answers first others each = go (has_more first)
  where
    go : (more : Bool) → EachWaiting (λ (one : Waiting). AreGiven answers one.piece.values) (if more then record first { next = suc first.next } ∷ others else others)
    go true = each
    go false = each.1

module _ (world : World) (bounds : Bounds) (walk : Walk) (waiting : List Waiting) (answers : List Answer) (paths : HaveValuesFrom world walk.target walk.listed answers)
    (pieces : EachWaiting (λ (one : Waiting). AreGiven answers one.piece.values) waiting) where
  abbrev at_hand : Walk
  at_hand = record walk { waiting = waiting }

  -- a piece that waits has values that were given
  waits_from : (piece : Piece) (choices : List Choice) → AreGiven answers piece.values → IsFrom world (walk_with at_hand (waits_at piece choices)) answers
  waits_from piece [] given = record { paths = paths; pieces = pieces }
  waits_from piece (choice ∷ others) given = record { paths = paths; pieces = (given, pieces) }

  -- the input of a piece is the emitted one for its values
  is_emitted : (piece : Piece) (input : Input) → IsState world piece.state → piece.state.method ≡ walk.target → AreGiven answers piece.values → input_of_piece world piece ≡ input
      → (values : List ℤ) × AreGiven answers values
      × (input ≡ emitted_input world walk.target piece.state.picture (followed_by_zeros (length (variables_seen piece.state.picture)) values))
  is_emitted piece input formed method given same = (
    piece.values,
    given,
    sym same
        ∙ ap (λ (m : MethodId). emitted_input world m piece.state.picture (followed_by_zeros (variables_of piece.state.nodes) piece.values)) method
        ∙ ap (λ (count : ℕ). emitted_input world walk.target piece.state.picture (followed_by_zeros count piece.values)) (variables_of_state world piece.state formed),
  )

  -- whatever the outcome of a piece whose values were given
  outcome_from : (piece : Piece) (outcome : Outcome) → IsState world piece.state → piece.state.method ≡ walk.target → AreGiven answers piece.values
      → IsFrom world (walk_with at_hand (follows_outcome world bounds piece outcome)) answers
  unfolding path_of
  outcome_from piece Asks formed method given = waits_from piece (choices_at world bounds piece.state) given
  outcome_from piece Goes formed method given = waits_from piece (choices_at world bounds piece.state) given
  outcome_from piece (Ends ending) formed method given = record {
    paths = listed_more world walk.target walk.listed answers (path_of_piece piece (EndedLeaf (ended_in piece.state ending (input_of_piece world piece)))) paths refl
        (λ input e. is_emitted piece input formed method given cc);
    pieces = pieces;
  }
  outcome_from piece (Cut bound) formed method given = record {
    paths = listed_more world walk.target walk.listed answers (path_of_piece piece (CutLeaf bound (input_of_piece world piece))) paths refl
        (λ input e. is_emitted piece input formed method given cc);
    pieces = pieces;
  }

  open_from : (piece : Piece) → IsFrom world (walk_with at_hand (Lists (path_of_piece piece OpenLeaf))) answers
  unfolding path_of
  open_from piece = record { paths = listed_more world walk.target walk.listed answers (path_of_piece piece OpenLeaf) paths refl (λ input e. absurd cc); pieces = pieces }

-- a state of the method, as calls have left it
pub record IsFormedOf (world : World) (target : MethodId) (state : State) : Type 0 where
  pub formed : IsState world state
  pub method : state.method ≡ target

-- What the listed paths and the waiting pieces have from the answers they still have, with what was given in a step: an open
-- path and one without new conditions take nothing new, a model is the values of what follows it, an undecided answer is the
-- log of its path.
pub sources_with : (world : World) (bounds : Bounds) (walk : Walk) (waiting : List Waiting) (taken : Taken) (known : Known) (answers : List Answer)
    → IfMet known (IsFormedOf world walk.target (ran_behind world bounds taken.piece.state taken.outcome).state) → AreGiven answers taken.piece.values
    → HaveValuesFrom world walk.target walk.listed answers → EachWaiting (λ (one : Waiting). AreGiven answers one.piece.values) waiting
    → (now : List Answer) → Some now ≡ given_after (Some answers) known
    → IsFrom world (walk_with (record walk { waiting = waiting }) (follows world bounds taken known)) now
unfolding path_of
sources_with world bounds walk waiting taken Open answers formed given paths pieces now same =
    let all : answers ≡ now = cc in subst (IsFrom world (walk_with (record walk { waiting = waiting }) (follows world bounds taken Open))) all (open_from world bounds walk waiting answers paths pieces taken.piece)
sources_with world bounds walk waiting taken Met answers formed given paths pieces now same =
    let all : answers ≡ now = cc in
    subst (IsFrom world (walk_with (record walk { waiting = waiting }) (follows world bounds taken Met))) all
    (outcome_from world bounds walk waiting answers paths pieces (record taken.piece { state = (ran_behind world bounds taken.piece.state taken.outcome).state })
    (ran_behind world bounds taken.piece.state taken.outcome).outcome formed.formed formed.method given)
sources_with world bounds walk waiting taken (Answered (Model values)) answers formed given paths pieces now same =
    let all : answers ++ Model values ∷ [] ≡ now = cc in
    subst (IsFrom world (walk_with (record walk { waiting = waiting }) (follows world bounds taken (Answered (Model values))))) all
    (outcome_from world bounds walk waiting (answers ++ Model values ∷ []) (given_grows world walk.target walk.listed answers (Model values) paths refl) (given_on answers (Model values) waiting pieces)
    (record taken.piece { state = (ran_behind world bounds taken.piece.state taken.outcome).state; values = values }) (ran_behind world bounds taken.piece.state taken.outcome).outcome
    formed.formed formed.method (given_last answers values))
sources_with world bounds walk waiting taken (Answered (Refuted log)) answers formed given paths pieces now same =
    let all : answers ++ Refuted log ∷ [] ≡ now = cc in
    subst (IsFrom world (walk_with (record walk { waiting = waiting }) (follows world bounds taken (Answered (Refuted log))))) all
    (record { paths = given_grows world walk.target walk.listed answers (Refuted log) paths refl; pieces = given_on answers (Refuted log) waiting pieces })
sources_with world bounds walk waiting taken (Answered (Undecided log)) answers formed given paths pieces now same =
    let all : answers ++ Undecided log ∷ [] ≡ now = cc in
    subst (IsFrom world (walk_with (record walk { waiting = waiting }) (follows world bounds taken (Answered (Undecided log))))) all
    (record {
      paths = undecided_more world walk.target walk.listed answers (path_of_piece taken.piece (UndecidedLeaf log)) log paths refl;
      pieces = given_on answers (Undecided log) waiting pieces;
    })
