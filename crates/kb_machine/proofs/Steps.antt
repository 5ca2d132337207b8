-- What holds of an effect where operands were taken off the stack before.
use Rattle.std.proofs.Common.{◌≡◌, ℕ, zero, suc, ℤ, pos, negsuc, nat_le, if◌then◌else◌, List, [], ◌∷◌, drop, map, Option, Some, None, Bool, true, false, Result, IfOk, refl, ap, subst, ◌∙◌}
use Rattle.std.specs.Option.{option_map_or}
use Rattle.kb_names.specs.declared.types.ExactType.{ExactType}
use Rattle.kb_heap.specs.declared.heap.Heap.{Heap}
use Rattle.kb_heap.specs.declared.heap.Value.{Value}
use Rattle.kb_heap.specs.declared.ending.Ending.TheVariants.{Threw}
use Rattle.kb_class.specs.declared.ids.MethodId.{MethodId}
use Rattle.kb_semantics.specs.Config.{Setting, Config, Frame, Outcome, Ends}
use Rattle.kb_names.specs.declared.types.JType.{JType}
use Rattle.kb_heap.specs.declared.bounds.Bound.TheVariants.{Alloc}
use Rattle.kb_semantics.specs.Instructions.{makes, makes_array, new_array}
use Rattle.kb_semantics.specs.Ways.{negative_size, past, branches, enters, goes_on, goes_to, hands_over, jumps, lands, nearest_handler, returns_value, standpoint, throws, throws_in, throws_object}
use Rattle.kb_machine.specs.Turns.{config_of, setting_of, told}
use Rattle.std.specs.declared.alloc.AllocError.{AllocError as NoMemory}
use Rattle.kb_machine.specs.declared.state.State.{State}
use Rattle.kb_machine.specs.declared.turn.Turn.{Turn}
use Rattle.kb_machine.specs.declared.turn.Step.{Step}

-- the configuration with another stack in its current frame
abbrev pub with_stack : Config → List Value → Config
with_stack c stack = record c { frame = record c.frame { stack = stack } }

-- what comes to one of two equal outcomes comes to the other
pub same_outcome : (r : Result Step NoMemory) (t : Turn) (m : State) (o p : Outcome) → o ≡ p → IfOk r (λ step. told t step m ≡ o) → IfOk r (λ step. told t step m ≡ p)
same_outcome r t m o p e h = subst (λ (x : Outcome). IfOk r (λ step. told t step m ≡ x)) e h

module _ (s : Setting) (c : Config) (left : List Value) where
  pub goes_on_stack : (next : ℕ) (locals : List (Option Value)) (stack : List Value) (heap : Heap) → goes_on s (with_stack c left) next locals stack heap ≡ goes_on s c next locals stack heap
  unfolding goes_on
  goes_on_stack next locals stack heap = refl

  pub jumps_stack : (target : ℕ) (stack : List Value) → jumps s (with_stack c left) target stack ≡ jumps s c target stack
  unfolding goes_to
  jumps_stack target stack = refl

  pub branches_stack : (next target : ℕ) (so : Bool) (stack : List Value) → branches s (with_stack c left) next target so stack ≡ branches s c next target so stack
  branches_stack next target true stack = jumps_stack target stack
  branches_stack next target false stack = goes_on_stack next c.frame.locals stack c.heap

  lands_stack : (heap : Heap) (object target n : ℕ) →
      lands s (with_stack c left) heap object target (drop n (record c.frame { stack = left } ∷ c.callers)) ≡ lands s c heap object target (drop n (c.frame ∷ c.callers))
  unfolding goes_to
  lands_stack heap object target zero = refl
  lands_stack heap object target (suc n) = go (drop n c.callers) where
    go : (frames : List Frame) → lands s (with_stack c left) heap object target frames ≡ lands s c heap object target frames
    go [] = refl
    go (frame ∷ frames) = refl

  throws_in_stack : (heap : Heap) (object : ℕ) (kind : ExactType) → throws_in s (with_stack c left) heap object kind ≡ throws_in s c heap object kind
  unfolding throws_in
  throws_in_stack heap object kind = go (nearest_handler s.world kind (map standpoint (c.frame ∷ c.callers))) where
    go : (found : Option (ℕ × ℕ)) →
        option_map_or (λ (f : ℕ × ℕ). lands s (with_stack c left) heap object f.1 (drop f.0 (record c.frame { stack = left } ∷ c.callers))) found (Ends (record { ending = Threw object; heap = heap }))
        ≡ option_map_or (λ (f : ℕ × ℕ). lands s c heap object f.1 (drop f.0 (c.frame ∷ c.callers))) found (Ends (record { ending = Threw object; heap = heap }))
    go None = refl
    go (Some f) = lands_stack heap object f.1 f.0

  pub throws_stack : (class : List ℕ) → throws s (with_stack c left) class ≡ throws s c class
  unfolding throws
  throws_stack class = throws_in_stack _ _ _

  pub throws_object_stack : (object : ℕ) (kind : ExactType) → throws_in s (with_stack c left) c.heap object kind ≡ throws_in s c c.heap object kind
  throws_object_stack object kind = throws_in_stack c.heap object kind

  pub enters_stack : (method : MethodId) (args rest : List Value) → enters s (with_stack c left) method args rest ≡ enters s c method args rest
  unfolding enters
  enters_stack method args rest = refl

  pub returns_value_stack : (value : Value) → returns_value s (with_stack c left) value ≡ returns_value s c value
  unfolding returns_value hands_over
  returns_value_stack value = go c.callers where
    go : (callers : List Frame) → returns_value s (with_stack c left) value ≡ returns_value s c value
    go callers = refl

-- what is thrown after operands were taken off is what is thrown before
pub thrown_from : (t : Turn) (old new : State) (frame : Frame) (r : Result Step NoMemory) (class : List ℕ) (o : Outcome) →
    frame ≡ record old.frame { stack = frame.stack } → throws (setting_of t) (config_of t old) class ≡ o →
    IfOk r (λ step. told t step new ≡ throws (setting_of t) (config_of t (record old { frame = frame })) class) → IfOk r (λ step. told t step new ≡ o)
thrown_from t old new frame r class o is e h =
    let moved : throws (setting_of t) (config_of t (record old { frame = frame })) class ≡ throws (setting_of t) (config_of t old) class =
    ap (λ (f : Frame). throws (setting_of t) (config_of t (record old { frame = f })) class) is ∙ throws_stack (setting_of t) (config_of t old) frame.stack class in
    same_outcome r t new _ o (moved ∙ e) h

-- an array that is made after operands were taken off is made as before
pub makes_array_stack : (s : Setting) (c : Config) (left : List Value) (next : ℕ) (component : JType) (len : ℤ) (rest : List Value) →
    makes_array s next (with_stack c left) component len rest ≡ makes_array s next c component len rest
makes_array_stack s c left next component (pos len) rest = go (nat_le len s.bounds.alloc) where
  go : (within : Bool) →
      (if within then makes s next (with_stack c left) (new_array component len) rest else past (with_stack c left) Alloc)
      ≡ (if within then makes s next c (new_array component len) rest else past c Alloc)
  go true = goes_on_stack s c left next c.frame.locals _ _
  go false = refl
makes_array_stack s c left next component (negsuc len) rest = throws_stack s c left negative_size

-- what is thrown does not look at the stack
pub throws_cleared : (s : Setting) (c : Config) (class : List ℕ) → throws s (record c { frame = record c.frame { stack = [] } }) class ≡ throws s c class
throws_cleared s c class = throws_stack s c [] class

pub throws_object_cleared : (s : Setting) (c : Config) (object : ℕ) (kind : ExactType) →
    throws_object s (record c { frame = record c.frame { stack = [] } }) object kind ≡ throws_object s c object kind
throws_object_cleared s c object kind = throws_object_stack s c [] object kind
