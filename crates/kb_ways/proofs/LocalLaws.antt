-- What the locals of a state hold is what those of the configuration hold, and so is what is written into one.
use Rattle.std.proofs.Common.{◌≡◌, ◌+◌, ℕ, zero, suc, Bool, true, false, List, [], ◌∷◌, map, nat_lt, slice_get, slice_set, Option, Some, None, cond, refl, ap, ◌∙◌, if◌then◌else◌}
use Rattle.std.specs.Option.{option_map, option_and_then}
use Rattle.std.proofs.lemmas.Option.{slice_get-map}
use Rattle.kb_class.specs.declared.ids.MethodId.{MethodId}
use Rattle.kb_heap.specs.declared.heap.Value.{Value}
use Rattle.kb_resolution.specs.Lookup.{only_where}
use Rattle.kb_semantics.specs.Config.{Setting, Config, Outcome, local_of, max_locals_of}
use Rattle.kb_semantics.specs.Instructions.{with, sets_local}
use Rattle.kb_semantics.specs.Ways.{enters, ill_typed, goes_on, jumps, throws, throws_object, hands_over}
use Rattle.kb_picture.specs.Endings.{Reading, place_at}
use Rattle.kb_frames.specs.declared.frame.SymFrame.{SymFrame}
use Rattle.kb_frames.specs.declared.value.SymValue.{SymValue}
use Rattle.kb_frames.specs.StandsFor.{FrameStandsFor, value_of_sym, values_of_sym}
use Rattle.kb_ways.specs.Ways.{ObjectThere, OfPicture, OfRun, Way, Goes, Jumps, Enters, Leaves, Throws, ThrowsThere, Fails}

-- ---- lists

set-map : {A B : Type 0} (f : A → B) (xs : List A) (k : ℕ) (x : A) → slice_set (map f xs) k (f x) ≡ map f (slice_set xs k x)
set-map f [] k x = refl
set-map f (y ∷ xs) zero x = refl
set-map f (y ∷ xs) (suc k) x = ap (λ (l : List _). f y ∷ l) (set-map f xs k x)

-- ---- ways

-- an object that is there, in the heap
abbrev pub object_place : Reading → ObjectThere → ℕ
object_place r (OfPicture number) = place_at r.places.objects number
object_place r (OfRun number) = r.inputs + r.literals + number

-- where a way leads the machine, with each symbolic value in the place of its value
abbrev pub led_to : Setting → Config → ℕ → Reading → Way → Outcome
led_to s c next r (Goes locals stack) = goes_on s c next (map (option_map (value_of_sym r)) locals) (values_of_sym r stack) c.heap
led_to s c next r (Jumps target stack) = jumps s c target (values_of_sym r stack)
led_to s c next r (Enters method arguments rest) = enters s c method (values_of_sym r arguments) (values_of_sym r rest)
led_to s c next r (Leaves value) = hands_over s c (option_map (value_of_sym r) value)
led_to s c next r (Throws class) = throws s c class
led_to s c next r (ThrowsThere object kind) = throws_object s c (object_place r object) kind
led_to s c next r Fails = ill_typed s c

-- ---- what locals hold

module _ (s : Setting) (c : Config) (next : ℕ) (r : Reading) (symbolic : SymFrame) (stands : FrameStandsFor r symbolic c.frame) where
  -- a local holds the value of the symbolic one
  pub local_value : (k : ℕ)
      → local_of s.world c.frame k ≡ option_map (value_of_sym r) (cond (nat_lt k (max_locals_of s.world symbolic.method)) (option_and_then (λ (v : Option SymValue). v) (slice_get symbolic.locals k)) None)
  local_value k =
      ap (λ (m : MethodId). cond (nat_lt k (max_locals_of s.world m)) (option_and_then (λ v. v) (slice_get c.frame.locals k)) None) stands.method
      ∙ ap (λ (l : List (Option Value)). cond (nat_lt k (max_locals_of s.world symbolic.method)) (option_and_then (λ v. v) (slice_get l k)) None) stands.locals
      ∙ ap (λ (it : Option (Option Value)). cond (nat_lt k (max_locals_of s.world symbolic.method)) (option_and_then (λ v. v) it) None) (slice_get-map (option_map (value_of_sym r)) symbolic.locals k)
      ∙ go (nat_lt k (max_locals_of s.world symbolic.method)) (slice_get symbolic.locals k)
    where
      go : (b : Bool) (it : Option (Option SymValue)) → cond b (option_and_then (λ v. v) (option_map (option_map (value_of_sym r)) it)) None
          ≡ option_map (value_of_sym r) (cond b (option_and_then (λ (v : Option SymValue). v) it) None)
      go true None = refl
      go true (Some None) = refl
      go true (Some (Some v)) = refl
      go false it = refl

  -- one is set
  pub local_set : (k : ℕ) (value : SymValue) (v : Value) → v ≡ value_of_sym r value → (stack : List SymValue) (values : List Value) → values ≡ values_of_sym r stack
      → sets_local s next c k v values
      ≡ led_to s c next r (if nat_lt k (max_locals_of s.world symbolic.method) then Goes (slice_set symbolic.locals k (Some value)) stack else Fails)
  local_set k value v e stack values same =
      ap (λ (m : MethodId). with s c (only_where (nat_lt k (max_locals_of s.world m)) (slice_set c.frame.locals k (Some v))) (λ locals. goes_on s c next locals values c.heap)) stands.method
      ∙ go (nat_lt k (max_locals_of s.world symbolic.method))
    where
      locals_are : slice_set c.frame.locals k (Some v) ≡ map (option_map (value_of_sym r)) (slice_set symbolic.locals k (Some value))
      locals_are =
          ap (λ (l : List (Option Value)). slice_set l k (Some v)) stands.locals
          ∙ ap (λ (x : Value). slice_set (map (option_map (value_of_sym r)) symbolic.locals) k (Some x)) e
          ∙ set-map (option_map (value_of_sym r)) symbolic.locals k (Some value)

      go : (b : Bool) → with s c (only_where b (slice_set c.frame.locals k (Some v))) (λ locals. goes_on s c next locals values c.heap)
          ≡ led_to s c next r (if b then Goes (slice_set symbolic.locals k (Some value)) stack else Fails)
      go true =
          ap (λ (l : List (Option Value)). goes_on s c next l values c.heap) locals_are
          ∙ ap (λ (vs : List Value). goes_on s c next (map (option_map (value_of_sym r)) (slice_set symbolic.locals k (Some value))) vs c.heap) same
      go false = refl
