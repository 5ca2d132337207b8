-- A step that makes an object makes of a state what it makes of the configuration: the object behind those that the run has made,
-- and its reference in the place of the operands.
use Rattle.std.proofs.Common.{◌≡◌, ◌↔◌, ℕ, suc, ◌+◌, ◌<◌, pos, Bool, true, false, List, [], ◌∷◌, ◌++◌, length, drop, None, refl, sym, ap, subst, ◌∙◌, if◌then◌else◌}
use Rattle.std.proofs.lemmas.List.{append-nil, length-map}
use Rattle.kb_class.specs.Naming.{Has}
use Rattle.kb_class.specs.declared.ids.MethodId.{MethodId}
use Rattle.kb_heap.specs.declared.bounds.Bounds.{Bounds}
use Rattle.kb_heap.specs.declared.heap.Heap.{Heap}
use Rattle.kb_heap.specs.declared.heap.Object.{Object}
use Rattle.kb_heap.specs.declared.heap.Value.{Value}
use Rattle.kb_heap.specs.declared.heap.Value.TheVariants.{Ref}
use Rattle.kb_heap.specs.Heap.{with_object}
use Rattle.kb_classes.specs.World.{World}
use Rattle.kb_semantics.specs.Config.{Setting, Config, Frame, has_room}
use Rattle.kb_semantics.specs.Instructions.{makes}
use Rattle.kb_semantics.specs.Looks.{Slot, stores}
use Rattle.kb_semantics.specs.Step.{first_heap, step}
use Rattle.kb_semantics.specs.Ways.{carries_out as carries_out_step, goes_on, ill_typed as ill_typed_step}
use Rattle.kb_terms.specs.declared.node.Node.{Node}
use Rattle.kb_terms.specs.declared.node.Node.TheVariants.{Const}
use Rattle.kb_terms.specs.declared.node.TermId.{TermId}
use Rattle.kb_terms.specs.Terms.{Extends, interned}
use Rattle.kb_terms.proofs.Values.{Extends-refl}
use Rattle.kb_picture.specs.declared.picture.PlaceLists.{PlaceLists}
use Rattle.kb_picture.specs.Endings.{Reading}
use Rattle.kb_frames.specs.declared.frame.SymFrame.{SymFrame}
use Rattle.kb_frames.specs.declared.state.Stage.TheVariants.{Runs}
use Rattle.kb_frames.specs.declared.state.SymObject.{SymObject}
use Rattle.kb_frames.specs.declared.value.SymValue.{SymValue}
use Rattle.kb_frames.specs.declared.value.SymValue.TheVariants.{New}
use Rattle.kb_frames.specs.Cuts.{setting_of}
use Rattle.kb_frames.specs.Making.{with_new}
use Rattle.kb_frames.specs.StandsFor.{FrameStandsFor, HeapStandsFor, IsKept, beginning_of, reading_at, value_of_sym, values_of_sym, written_by}
use Rattle.kb_frames.specs.State.{State}
use Rattle.kb_frames.specs.States.{Each, IsSymValue}
use Rattle.kb_frames.proofs.ItemLaws.{each_drop}
use Rattle.kb_ways.specs.Plans.{followed, plain}
use Rattle.kb_ways.specs.Ways.{Take, Fails, carries_out, ill_typed, with_stack}
use Rattle.kb_ways.proofs.GrowLaws.{interned_extends}
use Rattle.kb_ways.proofs.OutcomeValues.{IsLater, frame_later, frames_later, reading_later, values_later}
use Rattle.kb_ways.proofs.OutcomeWays.{heap_length, ill_typed_is, writes_stand}
use Rattle.kb_ways.proofs.PlannedLaws.{Follows, Situation, state_of}

module _ (world : World) (bounds : Bounds) (at : Situation world bounds) (next count : ℕ) (object : TermId → SymObject) (real : Object) where
  abbrev s : Setting
  s = setting_of world bounds

  abbrev c : Config
  c = at.config

  abbrev state : State
  state = state_of world bounds at

  abbrev places : PlaceLists
  places = at.stands.instance_of.shape.places

  abbrev r : Reading
  r = reading_at world state at.input places

  abbrev first : Heap
  first = first_heap world at.input.heap

  abbrev made : State
  made = with_new object state

  abbrev heap : Heap
  heap = with_object c.heap real

  abbrev FollowsTo : Take → Type 0
  FollowsTo take = Follows world bounds at take

  -- the operands are off the stack
  abbrev rest : List SymValue
  rest = drop count at.frame.stack

  rest_there : Each (IsSymValue world state) rest
  rest_there = each_drop (IsSymValue world state) count at.frame.stack at.sound.stage.0.stack

  ill : step s c ≡ ill_typed_step s c → FollowsTo (ill_typed world state)
  ill e = ill_typed_is world bounds state at.sound at.input c at.stands at.frame at.callers at.sound.stage next state.nodes (Extends-refl state.nodes) state.when at.stands.stage.0 at.stands.stage.1 e

  abbrev nodes : List Node
  nodes = (interned state.nodes (Const (pos 0))).0

  more : Extends state.nodes nodes
  more = interned_extends state.nodes (Const (pos 0))

  -- its number among those that the run has made
  abbrev value : SymValue
  value = New (length state.made)

  abbrev symbolic : SymFrame
  symbolic = record at.frame { at = next; stack = value ∷ rest }

  abbrev behind : Frame
  behind = record c.frame { at = next; stack = Ref (length c.heap.objects) ∷ values_of_sym r rest }

  abbrev new : State
  new = record made { stage = Runs symbolic at.callers; carried = state.carried + 1; chosen = None }

  abbrev later : Reading
  later = reading_at world new at.input places

  is_later : IsLater r later state.nodes
  is_later = reading_later world state new at.input places refl more

  -- where the heap has it as the state has
  module _ (stands : HeapStandsFor (reading_at world made at.input places) made first heap) (stored : stores s c ≡ []) where
    number_is : Ref (length c.heap.objects) ≡ value_of_sym later value
    unfolding reading_at
    number_is = ap Ref (heap_length world bounds state at.sound at.input c at.stands at.frame at.callers at.sound.stage next state.nodes (Extends-refl state.nodes) state.when at.stands.stage.0 at.stands.stage.1)

    stack_is : behind.stack ≡ values_of_sym later symbolic.stack
    stack_is =
        ap (λ (v : Value). v ∷ values_of_sym r rest) number_is ∙ ap (λ (l : List Value). value_of_sym later value ∷ l) (sym (values_later world state r later is_later rest rest_there))

    frame_stands : FrameStandsFor later symbolic behind
    frame_stands =
        let now = frame_later world state r later is_later at.frame c.frame at.sound.stage.0 at.stands.stage.0 in
        record { method = at.stands.stage.0.method; at = refl; locals = now.locals; stack = stack_is; transfers = at.stands.stage.0.transfers }

    heap_stands : HeapStandsFor later new first heap
    unfolding reading_at
    heap_stands = record { made = stands.made; like = stands.like; cells = stands.cells; kept = stands.kept; others = stands.others }

    abbrev before : List Slot
    before = written_by s state.carried (beginning_of world state at.input)

    written_is : (slot : Slot) → slot.object < length at.input.heap.objects → Has (before ++ stores s c) slot ↔ IsKept later new slot
    unfolding reading_at
    written_is slot inside = (
      (λ has. (let k = (at.stands.written slot inside).0 (subst (λ (l : List Slot). Has l slot) same has) in record { object = k.object; place = k.place; value = k.value; cell = k.cell })),
      (λ k. subst (λ (l : List Slot). Has l slot) (sym same) ((at.stands.written slot inside).1 (record { object = k.object; place = k.place; value = k.value; cell = k.cell }))),
    ) where
      same : before ++ stores s c ≡ before
      same = ap (λ (l : List Slot). before ++ l) stored ∙ append-nil (before)

    made_follows : step s c ≡ carries_out_step c behind c.callers heap → FollowsTo (carries_out made (λ (f : SymFrame). record f { at = next; locals = at.frame.locals; stack = value ∷ rest }))
    made_follows e =
        writes_stand world bounds state at.input c at.stands nodes state.when symbolic at.callers behind c.callers made.cells made.made heap frame_stands
        (frames_later world state r later is_later at.callers c.callers at.sound.stage.1 at.stands.stage.1) heap_stands written_is e

    abbrev height : ℕ
    height = suc (length rest)

    room_same : has_room world c.frame.method (suc (length (values_of_sym r rest))) ≡ has_room world at.frame.method height
    room_same =
        ap (λ (m : MethodId). has_room world m (suc (length (values_of_sym r rest)))) at.stands.stage.0.method
        ∙ ap (λ (n : ℕ). has_room world at.frame.method (suc n)) (length-map rest (value_of_sym r))

    -- Where there is room for its reference it is made, and else none is.
    pub makes_follow : step s c ≡ makes s next c real (values_of_sym r rest)
        → FollowsTo (followed world bounds next (if has_room world at.frame.method height then record { state = made; way = with_stack state (value ∷ rest) } else plain state Fails))
    unfolding goes_on
    makes_follow e =
        go (has_room world at.frame.method height) refl (e ∙ ap (λ (b : Bool). if b then carries_out_step c behind c.callers heap else ill_typed_step s c) room_same)
      where
        go : (b : Bool) → has_room world at.frame.method height ≡ b → step s c ≡ (if b then carries_out_step c behind c.callers heap else ill_typed_step s c)
            → FollowsTo (followed world bounds next (if b then record { state = made; way = with_stack state (value ∷ rest) } else plain state Fails))
        go true room e =
            subst (λ (b : Bool). FollowsTo (if b then carries_out made (λ (f : SymFrame). record f { at = next; locals = at.frame.locals; stack = value ∷ rest }) else ill_typed world made)) (sym room) (made_follows e)
        go false room e = ill e
