-- What the functions of a take need: the ints that a state has are terms, also when an instruction is taken up.
use Rattle.std.proofs.Common.{◌≡◌, ℕ, List, Option, Some, None, slice_get, refl, sym, ap, subst, is_some}
use Rattle.std.specs.Option.{option_map, option_and_then}
use Rattle.kb_classes.specs.World.{World}
use Rattle.kb_names.specs.declared.types.JType.{JType}
use Rattle.kb_terms.specs.declared.node.Node.{Node}
use Rattle.kb_terms.specs.Terms.{Extends}
use Rattle.kb_terms.proofs.Values.{IsTerm-extends}
use Rattle.kb_frames.specs.declared.state.Stage.{Stage}
use Rattle.kb_frames.specs.declared.state.Stage.TheVariants.{Begins, Runs}
use Rattle.kb_frames.specs.declared.value.SymValue.{SymValue}
use Rattle.kb_frames.specs.declared.value.SymValue.TheVariants.{Int, Null, Obj, Literal, New, Loc}
use Rattle.kb_frames.specs.Lent.{local_in, stack_of}
use Rattle.kb_frames.specs.Next.{kind_of}
use Rattle.kb_frames.specs.State.{State}
use Rattle.kb_frames.specs.States.{IsLocal, IsStage, IsSymValue}
use Rattle.kb_ways.specs.declared.condition.Condition.{Condition}
use Rattle.kb_ways.specs.Asked.{all_asked}
use Rattle.kb_ways.specs.Needs.{HasTerms, IsTermOf}
use Rattle.kb_ways.specs.Reached.{IsReached}
use Rattle.kb_ways.proofs.GrowLaws.{Grows, all_asked_grows}
use Rattle.kb_ways.proofs.SoundLaws.{Sound}

-- ---- terms

term_of : (world : World) (state : State) (it : Option SymValue) → ((value : SymValue) → it ≡ Some value → IsSymValue world state value) → IsTermOf state.nodes it
term_of world state None there = tt
term_of world state (Some (Int t)) there = there (Int t) refl
term_of world state (Some Null) there = tt
term_of world state (Some (Obj n)) there = tt
term_of world state (Some (Literal n)) there = tt
term_of world state (Some (New n)) there = tt
term_of world state (Some (Loc n)) there = tt

local_term : (world : World) (state : State) (it : Option (Option SymValue)) → ((local : Option SymValue) → it ≡ Some local → IsLocal world state local)
    → IsTermOf state.nodes (option_and_then (λ (v : Option SymValue). v) it)
local_term world state None there = tt
local_term world state (Some None) there = tt
local_term world state (Some (Some value)) there =
    term_of world state (Some value) (λ v e. let same : value ≡ v = cc in subst (IsSymValue world state) same (there (Some value) refl))

module _ (world : World) (state : State) where
  stage_terms : (stage : Stage) → IsStage world state stage → ((depth : ℕ) → IsTermOf state.nodes (slice_get (stack_of stage) depth)) × ((number : ℕ) → IsTermOf state.nodes (local_in stage number))
  stage_terms (Begins read) h = (λ depth. tt, λ number. tt)
  stage_terms (Runs frame callers) h = (
    λ depth. term_of world state (slice_get frame.stack depth) (λ value at. h.0.stack depth value at),
    λ number. local_term world state (slice_get frame.locals number) (λ local at. h.0.locals number local at),
  )

  pub sound_terms : Sound world state → HasTerms state
  sound_terms sound = let terms = stage_terms state.stage sound.stage in record { stack = terms.0; locals = terms.1 }

  pub reached_terms : IsReached world state → HasTerms state
  reached_terms reached = let terms = stage_terms state.stage reached.sound.stage in record { stack = terms.0; locals = terms.1 }

-- a term stays one
term_later : (old new : List Node) (it : Option SymValue) → Extends old new → IsTermOf old it → IsTermOf new it
term_later old new None e h = tt
term_later old new (Some (Int t)) e h = IsTerm-extends old new t e h
term_later old new (Some Null) e h = tt
term_later old new (Some (Obj n)) e h = tt
term_later old new (Some (Literal n)) e h = tt
term_later old new (Some (New n)) e h = tt
term_later old new (Some (Loc n)) e h = tt

pub asked_terms : (state : State) (cs : List Condition) → HasTerms state → HasTerms (all_asked state cs)
asked_terms state cs h =
    let new : State = all_asked state cs in
    let grows : Grows state new = all_asked_grows cs state in
    let same : state.stage ≡ new.stage = sym (ap (λ (s : State). s.stage) grows.rest) in
    subst (λ (stage : Stage). ((depth : ℕ) → IsTermOf new.nodes (slice_get (stack_of stage) depth)) → ((number : ℕ) → IsTermOf new.nodes (local_in stage number)) → HasTerms new) (sym same)
    (λ stack locals. made new same stack locals)
    (λ depth. term_later state.nodes new.nodes (slice_get (stack_of state.stage) depth) grows.terms (h.stack depth))
    (λ number. term_later state.nodes new.nodes (local_in state.stage number) grows.terms (h.locals number))
  where
    made : (new : State) → state.stage ≡ new.stage → ((depth : ℕ) → IsTermOf new.nodes (slice_get (stack_of new.stage) depth)) → ((number : ℕ) → IsTermOf new.nodes (local_in new.stage number)) → HasTerms new
    made new same stack locals = record { stack = stack; locals = locals }

-- ---- arguments

pub kind_is : (it : Option JType) → is_some (option_map kind_of it) ≡ is_some it
kind_is None = refl
kind_is (Some type) = refl
