-- What the ways keep of a state, and that they add no condition and see nothing.
use Rattle.std.proofs.Common.{◌≡◌, ℕ, ◌<◌, ◌≤◌, Bool, List, length, take, slice_get, refl, sym, ap, subst, ◌∙◌, arith}
use Rattle.std.proofs.lemmas.Option.{slice_get_within}
use Rattle.kb_heap.specs.declared.bounds.Bounds.{Bounds}
use Rattle.kb_classes.specs.World.{World}
use Rattle.kb_semantics.specs.Config.{has_room}
use Rattle.kb_semantics.specs.Ways.{counted}
use Rattle.kb_terms.specs.declared.node.TermId.{TermId}
use Rattle.kb_terms.specs.Terms.{Extends}
use Rattle.kb_terms.proofs.Values.{Extends-refl, Extends-trans}
use Rattle.kb_picture.specs.declared.picture.Picture.{Picture}
use Rattle.kb_picture.specs.Shapes.{HasShape}
use Rattle.kb_frames.specs.declared.frame.SymFrame.{SymFrame}
use Rattle.kb_frames.specs.Calls.{called, left}
use Rattle.kb_frames.specs.Lent.{begun, carried_on, transfers_of}
use Rattle.kb_frames.specs.Next.{method_now, offset_now}
use Rattle.kb_frames.specs.State.{State}
use Rattle.kb_ways.specs.Simulation.{Keeps, ReadsWhatItSees, AddsComparisons}
use Rattle.kb_ways.specs.Ways.{Take, There, Thrown, OfClass, Way, Goes, Jumps, Enters, Leaves, Throws, ThrowsThere, Fails, carries_out, caught, resumes, thrown, uncaught, went}
use Rattle.kb_ways.proofs.CallLaws.{entered_has, returned_has, thrown_has}
use Rattle.kb_ways.proofs.GrowLaws.{Grows, if_has, option_has, front_itself, front_of_front, interned_extends}

-- ---- what stays

pub record Stays (old new : State) : Type 0 where
  pub method : new.method ≡ old.method
  pub init : new.init ≡ old.init
  pub picture : new.picture ≡ old.picture
  pub terms : Extends old.nodes new.nodes
  pub conditions : take (length old.when) new.when ≡ old.when

pub stays_grown : (old new : State) → Grows old new → Stays old new
stays_grown old new g = record {
  method = ap (λ (s : State). s.method) g.rest;
  init = ap (λ (s : State). s.init) g.rest;
  picture = ap (λ (s : State). s.picture) g.rest;
  terms = g.terms;
  conditions = g.conditions;
}

pub stays_on : (a b c : State) → Stays a b → Stays b c → Stays a c
stays_on a b c ab bc = record {
  method = bc.method ∙ ab.method;
  init = bc.init ∙ ab.init;
  picture = bc.picture ∙ ab.picture;
  terms = Extends-trans a.nodes b.nodes c.nodes ab.terms bc.terms;
  conditions = front_of_front a.when b.when c.when ab.conditions bc.conditions;
}

-- a state of which only frames and counters are others
stays_framed : (old new : State) → new.method ≡ old.method → new.init ≡ old.init → new.picture ≡ old.picture → new.nodes ≡ old.nodes → new.when ≡ old.when → Stays old new
stays_framed old new m i p n w = record {
  method = m;
  init = i;
  picture = p;
  terms = subst (Extends old.nodes) (sym n) (Extends-refl old.nodes);
  conditions = subst (λ (when : List (TermId × Bool)). take (length old.when) when ≡ old.when) (sym w) (front_itself old.when);
}

pub begun_stays : (world : World) (state : State) → Stays state (begun world state)
begun_stays world state = stays_framed state (begun world state) refl refl refl refl refl

-- ---- ways on

module _ (world : World) (bounds : Bounds) (next : ℕ) (state : State) where
  abbrev StaysTo : Take → Type 0
  StaysTo take = Stays state take.state

  carries_stays : (f : SymFrame → SymFrame) → StaysTo (carries_out state f)
  carries_stays f = stays_framed state (carries_out state f).state refl refl refl refl refl

  pub same_stays : Stays state state
  same_stays = stays_framed state state refl refl refl refl refl

  thrown_stays : (it : Thrown) → StaysTo (thrown world bounds state it)
  thrown_stays (OfClass class) = thrown_has StaysTo world bounds state (OfClass class) made_stays (λ count target n frame callers is. made_stays_landed count target n) same_stays same_stays where
    made_stays : StaysTo (uncaught world state (OfClass class))
    made_stays = record { method = refl; init = refl; picture = refl; terms = interned_extends state.nodes _; conditions = front_itself state.when }

    made_stays_landed : (count target n : ℕ) → StaysTo (caught world state (OfClass class) count target n)
    made_stays_landed count target n = record { method = refl; init = refl; picture = refl; terms = interned_extends state.nodes _; conditions = front_itself state.when }
  thrown_stays (There object kind) =
      thrown_has StaysTo world bounds state (There object kind) same_stays
      (λ count target n frame callers is. stays_framed state (caught world state (There object kind) count target n).state refl refl refl refl refl) same_stays same_stays

  pub went_stays : (way : Way) → StaysTo (went world bounds next state way)
  went_stays (Goes locals stack) =
      if_has StaysTo (has_room world (method_now state.method state.stage) (length stack)) _ _
      (carries_stays (λ (frame : SymFrame). record frame { at = next; locals = locals; stack = stack })) same_stays
  went_stays (Jumps target stack) =
      if_has StaysTo (has_room world (method_now state.method state.stage) (length stack)) _ _
      (option_has StaysTo (counted bounds.run (offset_now state.stage) target (transfers_of state.stage)) _ _
      (λ n. carries_stays (λ (frame : SymFrame). record frame { at = target; stack = stack; transfers = n })) same_stays) same_stays
  went_stays (Enters method arguments rest) =
      entered_has StaysTo world bounds state method arguments rest
      (stays_framed state (carried_on (called world method arguments rest state)) refl refl refl refl refl) same_stays
  went_stays (Leaves value) =
      returned_has StaysTo world state value same_stays
      (λ caller more waits. stays_framed state (carries_out (left 1 state) (resumes world value)).state refl refl refl refl refl) same_stays
  went_stays (Throws class) = thrown_stays (OfClass class)
  went_stays (ThrowsThere object kind) = thrown_stays (There object kind)
  went_stays Fails = same_stays

-- ---- what is kept

pub kept_of_stays : (old new : State) → Stays old new → Keeps old new
kept_of_stays old new h = record {
  method = h.method;
  init = h.init;
  terms = h.terms;
  conditions = h.conditions;
  shapes = λ input shape. subst (λ (p : Picture). HasShape p input) h.picture shape;
}

-- ---- what is read

pub past : (n i : ℕ) → n ≤ i → i < n → ⊥
past n i le lt = omega (arith, le, lt)

module _ (world : World) (bounds : Bounds) (old new : State) where
  pub same_reads : new.picture ≡ old.picture → ReadsWhatItSees world bounds old new
  same_reads same input c correct stands instance_of = record {
    seen = λ i slot from at. absurd (past (length old.picture.seen) i from (slice_get_within old.picture.seen i slot (ap (λ (p : Picture). slice_get p.seen i) (sym same) ∙ at)));
    objects = λ lazier number from below. absurd (past (length old.picture.objects) number from (subst (λ (p : Picture). number < length p.objects) same below));
    beyond = λ lazier number loc at standing other. absurd (other (ap (λ (p : Picture). slice_get p.locs number) (sym same) ∙ at));
  }

pub went_when : (world : World) (bounds : Bounds) (next : ℕ) (state : State) (way : Way) → (went world bounds next state way).state.when ≡ state.when
went_when world bounds next state (Goes locals stack) =
    if_has (λ (take : Take). take.state.when ≡ state.when) (has_room world (method_now state.method state.stage) (length stack)) _ _ refl refl
went_when world bounds next state (Jumps target stack) =
    if_has (λ (take : Take). take.state.when ≡ state.when) (has_room world (method_now state.method state.stage) (length stack)) _ _
    (option_has (λ (take : Take). take.state.when ≡ state.when) (counted bounds.run (offset_now state.stage) target (transfers_of state.stage)) _ _ (λ n. refl) refl) refl
went_when world bounds next state (Enters method arguments rest) =
    entered_has (λ (take : Take). take.state.when ≡ state.when) world bounds state method arguments rest refl refl
went_when world bounds next state (Leaves value) = returned_has (λ (take : Take). take.state.when ≡ state.when) world state value refl (λ caller more waits. refl) refl
went_when world bounds next state (Throws class) =
    thrown_has (λ (take : Take). take.state.when ≡ state.when) world bounds state (OfClass class) refl (λ count target n frame callers is. refl) refl refl
went_when world bounds next state (ThrowsThere object kind) =
    thrown_has (λ (take : Take). take.state.when ≡ state.when) world bounds state (There object kind) refl (λ count target n frame callers is. refl) refl refl
went_when world bounds next state Fails = refl

module _ (world : World) (bounds : Bounds) (old : State) where
  pub same_when : (new : State) → new.when ≡ old.when → AddsComparisons world bounds old new
  same_when new same input c correct stands shape i condition from at =
      absurd (past (length old.when) i from (slice_get_within old.when i condition (ap (λ (l : List (TermId × Bool)). slice_get l i) (sym same) ∙ at)))
