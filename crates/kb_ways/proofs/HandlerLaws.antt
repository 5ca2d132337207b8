-- The nearest handler, frame by frame, and the frame that takes an exception.
use Rattle.std.proofs.Common.{◌≡◌, ℕ, zero, suc, ◌+◌, ◌≤◌, List, [], ◌∷◌, drop, length, map, slice_get, Option, Some, None, refl, sym, ap, ◌∙◌, arith}
use Rattle.std.specs.Option.{option_and_then, option_map, option_map_or}
use Rattle.kb_heap.specs.declared.bounds.Bounds.{Bounds}
use Rattle.kb_classes.specs.World.{World}
use Rattle.kb_names.specs.declared.types.ExactType.{ExactType}
use Rattle.kb_semantics.specs.Ways.{handler_at, nearest_handler}
use Rattle.kb_frames.specs.declared.frame.FrameAt.{FrameAt}
use Rattle.kb_frames.specs.declared.frame.SymFrame.{SymFrame}
use Rattle.kb_frames.specs.declared.state.Stage.{Stage}
use Rattle.kb_frames.specs.declared.state.Stage.TheVariants.{Begins, Runs}
use Rattle.kb_frames.specs.Calls.{frame_told, frames_of}
use Rattle.kb_frames.specs.Lent.{callers_of}
use Rattle.kb_frames.specs.State.{State}
use Rattle.kb_ways.specs.Ways.{Thrown, ill_typed, lands, lands_in, stands_at}

-- ---- lists

no_first : {A : Type 0} (n : ℕ) (x : A) → slice_get [] n ≡ Some x → ⊥
no_first zero x e = cc
no_first (suc n) x e = cc

-- one that is there is the first of those from its place on
pub from_place : {A : Type 0} (n : ℕ) (xs : List A) (x : A) → slice_get xs n ≡ Some x → drop n xs ≡ x ∷ drop (suc n) xs
from_place n [] x e = absurd (no_first n x e)
from_place zero (y ∷ xs) x e = (let same : y ≡ x = cc in ap (λ (z : _). z ∷ xs) same)
from_place (suc n) (y ∷ xs) x e = from_place n xs x e

-- where there is none, there are none behind it
pub past_end : {A : Type 0} (n : ℕ) (xs : List A) → slice_get xs n ≡ None → drop n xs ≡ []
past_end zero [] e = refl
past_end (suc n) [] e = refl
past_end zero (y ∷ xs) e = absurd cc
past_end (suc n) (y ∷ xs) e = past_end n xs e

none_behind : {A : Type 0} (n : ℕ) (xs : List A) → drop n xs ≡ [] → drop (suc n) xs ≡ []
none_behind zero [] e = refl
none_behind (suc n) [] e = refl
none_behind zero (y ∷ xs) e = absurd cc
none_behind (suc n) (y ∷ xs) e = none_behind n xs e

pub drop_past : {A : Type 0} (n : ℕ) (xs : List A) → length xs ≤ n → drop n xs ≡ []
drop_past zero [] h = refl
drop_past (suc n) [] h = refl
drop_past zero (y ∷ xs) h = absurd (omega (arith, h))
drop_past (suc n) (y ∷ xs) h = drop_past n xs (omega (arith, h))

-- the callers and the current frame, where there is one
pub as_many : (stage : Stage) → length (frames_of stage) ≤ length (callers_of stage) + 1
as_many (Begins read) = omega arith
as_many (Runs frame callers) = omega arith

-- ---- the search

module _ (world : World) (kind : ExactType) (frames : List SymFrame) where
  abbrev handler_of : SymFrame → Option ℕ
  handler_of frame = handler_at world frame.method frame.at kind

  -- with so many frames before them
  abbrev counted_from : ℕ → Option (ℕ × ℕ) → Option (ℕ × ℕ)
  counted_from n found = option_map (λ (f : ℕ × ℕ). (n + f.0, f.1)) found

  -- that of the frames from a place on, counted from the first one
  abbrev pub handler_from : ℕ → Option (ℕ × ℕ)
  handler_from count = option_map (λ (found : ℕ × ℕ). (count + found.0, found.1)) (nearest_handler world kind (map stands_at (drop count frames)))

  pub from_start : handler_from 0 ≡ nearest_handler world kind (map stands_at frames)
  from_start = go (nearest_handler world kind (map stands_at frames)) where
    go : (found : Option (ℕ × ℕ)) → option_map (λ (f : ℕ × ℕ). (0 + f.0, f.1)) found ≡ found
    go None = refl
    go (Some f) = (let same : 0 + f.0 ≡ f.0 = omega arith in ap (λ (n : ℕ). Some (n, f.1)) same)

  -- the frame there has one
  pub handler_here : (count target : ℕ) → option_and_then handler_of (slice_get frames count) ≡ Some target → handler_from count ≡ Some (count, target)
  unfolding nearest_handler
  handler_here count target e = go (slice_get frames count) refl e where
    go : (it : Option SymFrame) → slice_get frames count ≡ it → option_and_then handler_of it ≡ Some target → handler_from count ≡ Some (count, target)
    go None at e = absurd cc
    go (Some frame) at e =
        let none_left : count + 0 ≡ count = omega arith in
        ap (λ (fs : List SymFrame). option_map (λ (found : ℕ × ℕ). (count + found.0, found.1)) (nearest_handler world kind (map stands_at fs))) (from_place count frames frame at)
        ∙ ap (λ (h : Option ℕ). option_map (λ (found : ℕ × ℕ). (count + found.0, found.1))
        (option_map_or (λ target. Some (0, target)) h (option_map (λ (found : ℕ × ℕ). (suc found.0, found.1)) (nearest_handler world kind (map stands_at (drop (suc count) frames)))))) e
        ∙ ap (λ (n : ℕ). Some (n, target)) none_left

  -- it has none, or is not there
  pub handler_on : (count : ℕ) → option_and_then handler_of (slice_get frames count) ≡ None → handler_from (suc count) ≡ handler_from count
  unfolding nearest_handler
  handler_on count e = go (slice_get frames count) refl e where
    one_more : (found : Option (ℕ × ℕ)) → counted_from (suc count) found ≡ counted_from count (option_map (λ (f : ℕ × ℕ). (suc f.0, f.1)) found)
    one_more None = refl
    one_more (Some f) = (let same : suc count + f.0 ≡ count + suc f.0 = omega arith in ap (λ (n : ℕ). Some (n, f.1)) same)

    go : (it : Option SymFrame) → slice_get frames count ≡ it → option_and_then handler_of it ≡ None → handler_from (suc count) ≡ handler_from count
    go None at e =
        let here : drop count frames ≡ [] = past_end count frames at in
        ap (λ (fs : List SymFrame). counted_from (suc count) (nearest_handler world kind (map stands_at fs))) (none_behind count frames here)
        ∙ ap (λ (fs : List SymFrame). counted_from count (nearest_handler world kind (map stands_at fs))) (sym here)
    go (Some frame) at e =
        one_more (nearest_handler world kind (map stands_at (drop (suc count) frames)))
        ∙ ap (λ (h : Option ℕ). counted_from count (option_map_or (λ target. Some (0, target)) h (option_map (λ (f : ℕ × ℕ). (suc f.0, f.1)) (nearest_handler world kind (map stands_at (drop (suc count) frames)))))) (sym e)
        ∙ ap (λ (fs : List SymFrame). counted_from count (nearest_handler world kind (map stands_at fs))) (sym (from_place count frames frame at))

  -- behind all of them there is none
  pub handler_none : (count : ℕ) → length frames ≤ count → handler_from count ≡ None
  unfolding nearest_handler
  handler_none count h = ap (λ (fs : List SymFrame). option_map (λ (found : ℕ × ℕ). (count + found.0, found.1)) (nearest_handler world kind (map stands_at fs))) (drop_past count frames h)

  -- the frame there takes it, and it is the nearest one
  pub nearest_here : (count target : ℕ) (nearest : Option (ℕ × ℕ)) → handler_from count ≡ nearest → option_and_then handler_of (slice_get frames count) ≡ Some target → Some (count, target) ≡ nearest
  nearest_here count target nearest so e = sym (handler_here count target e) ∙ so

  -- it takes it not, and it is one behind it
  pub nearest_on : (count : ℕ) (nearest : Option (ℕ × ℕ)) → handler_from count ≡ nearest → option_and_then handler_of (slice_get frames count) ≡ None → handler_from (count + 1) ≡ nearest
  nearest_on count nearest so e = (let same : count + 1 ≡ suc count = omega arith in ap handler_from same ∙ handler_on count e ∙ so)

  -- none is left
  pub nearest_none : (count : ℕ) (nearest : Option (ℕ × ℕ)) → handler_from count ≡ nearest → length frames ≤ count → None ≡ nearest
  nearest_none count nearest so h = sym (handler_none count h) ∙ so

-- ---- the frame that takes an exception

module _ (world : World) (bounds : Bounds) (state : State) (it : Thrown) (count target : ℕ) where
  abbrev found_there : Option FrameAt
  found_there = option_map frame_told (slice_get (frames_of state.stage) count)

  -- it is the one that is told
  pub lands_there : (told : FrameAt) → found_there ≡ Some told
      → lands world bounds state it count target (drop count (frames_of state.stage)) ≡ lands_in world bounds state it count target told
  lands_there told e = go (slice_get (frames_of state.stage) count) refl e where
    go : (found : Option SymFrame) → slice_get (frames_of state.stage) count ≡ found → option_map frame_told found ≡ Some told
        → lands world bounds state it count target (drop count (frames_of state.stage)) ≡ lands_in world bounds state it count target told
    go None at e = absurd cc
    go (Some frame) at e =
        let same : frame_told frame ≡ told = cc in
        ap (lands world bounds state it count target) (from_place count (frames_of state.stage) frame at) ∙ ap (lands_in world bounds state it count target) same

  -- where none is, there is no room
  pub lands_nowhere : found_there ≡ None → lands world bounds state it count target (drop count (frames_of state.stage)) ≡ ill_typed world state
  lands_nowhere e = go (slice_get (frames_of state.stage) count) refl e where
    go : (found : Option SymFrame) → slice_get (frames_of state.stage) count ≡ found → option_map frame_told found ≡ None
        → lands world bounds state it count target (drop count (frames_of state.stage)) ≡ ill_typed world state
    go None at e = ap (lands world bounds state it count target) (past_end count (frames_of state.stage) at)
    go (Some frame) at e = absurd cc
