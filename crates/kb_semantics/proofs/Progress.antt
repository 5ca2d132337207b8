-- What every step does: one that goes on has carried out one instruction more, over the same input; one that ends as ill-typed or
-- past a bound leaves the heap from before. So a run ends within its bound on steps, and the first number of `run` is no bound.
use Rattle.std.proofs.Common.{◌≡◌, ℕ, ◌+◌, Bool, true, false, List, [], ◌∷◌, length, map, drop, Option, Some, None, refl, if◌then◌else◌}
use Rattle.std.specs.Option.{option_map_or}
use Rattle.kb_names.specs.declared.types.ExactType.{ExactType}
use Rattle.kb_heap.specs.declared.ending.Ending.{Ending}
use Rattle.kb_heap.specs.declared.ending.Ending.TheVariants.{Returned, Threw, IllTyped, Past}
use Rattle.kb_heap.specs.declared.heap.Value.{Value}
use Rattle.kb_heap.specs.declared.heap.Heap.{Heap}
use Rattle.kb_semantics.specs.Config.{Setting, Frame, Config, Outcome, Goes, Ends, has_room}
use Rattle.kb_semantics.specs.Ways.{goes_on, goes_to, branches, counted, lands, throws_in, throws, nearest_handler, standpoint}
use Rattle.kb_semantics.specs.Instructions.{with}

-- what an ending keeps of the heap from before the instruction
abbrev pub KeepsHeap : Ending → Heap → Heap → Type 0
KeepsHeap (IllTyped place) before after = after ≡ before
KeepsHeap (Past bound) before after = after ≡ before
KeepsHeap (Returned value) before after = Unit {0}
KeepsHeap (Threw object) before after = Unit {0}

abbrev pub Follows : Config → Outcome → Type 0
Follows c (Goes d) = (d.carried ≡ c.carried + 1) × (d.inputs ≡ c.inputs)
Follows c (Ends e) = KeepsHeap e.ending c.heap e.heap

module _ (s : Setting) (c : Config) where
  pub with_follows : {A : Type 0} (it : Option A) (f : A → Outcome) → ((x : A) → Follows c (f x)) → Follows c (with s c it f)
  with_follows None f h = refl
  with_follows (Some x) f h = h x

  pub if_follows : (b : Bool) (x y : Outcome) → Follows c x → Follows c y → Follows c (if b then x else y)
  if_follows true x y hx hy = hx
  if_follows false x y hx hy = hy

  pub goes_on_follows : (next : ℕ) (locals : List (Option Value)) (stack : List Value) (heap : Heap) → Follows c (goes_on s c next locals stack heap)
  unfolding goes_on
  goes_on_follows next locals stack heap = if_follows (has_room s.world c.frame.method (length stack)) _ _ (refl, refl) refl

  counted_follows : (done : Option ℕ) (f : ℕ → Outcome) (y : Outcome) → ((n : ℕ) → Follows c (f n)) → Follows c y → Follows c (option_map_or f done y)
  counted_follows None f y h hy = hy
  counted_follows (Some n) f y h hy = h n

  pub goes_to_follows : (frame : Frame) (callers : List Frame) (target : ℕ) (stack : List Value) (heap : Heap) → Follows c (goes_to s c frame callers target stack heap)
  unfolding goes_to
  goes_to_follows frame callers target stack heap =
      if_follows (has_room s.world frame.method (length stack)) _ _
      (counted_follows (counted s.bounds frame.at target frame.transfers) _ _ (λ n. (refl, refl)) refl) refl

  pub branches_follows : (next target : ℕ) (so : Bool) (stack : List Value) → Follows c (branches s c next target so stack)
  branches_follows next target true stack = goes_to_follows c.frame c.callers target stack c.heap
  branches_follows next target false stack = goes_on_follows next c.frame.locals stack c.heap

  lands_follows : (heap : Heap) (object target : ℕ) (frames : List Frame) → Follows c (lands s c heap object target frames)
  lands_follows heap object target [] = refl
  lands_follows heap object target (frame ∷ callers) = goes_to_follows frame callers target _ heap

  found_follows : (found : Option (ℕ × ℕ)) (f : ℕ × ℕ → Outcome) (y : Outcome) → ((p : ℕ × ℕ) → Follows c (f p)) → Follows c y → Follows c (option_map_or f found y)
  found_follows None f y h hy = hy
  found_follows (Some p) f y h hy = h p

  pub throws_in_follows : (heap : Heap) (object : ℕ) (kind : ExactType) → Follows c (throws_in s c heap object kind)
  unfolding throws_in
  throws_in_follows heap object kind =
      found_follows (nearest_handler s.world kind (map standpoint (c.frame ∷ c.callers))) _ _
      (λ p. lands_follows heap object p.1 (drop p.0 (c.frame ∷ c.callers))) tt

  pub throws_follows : (class : List ℕ) → Follows c (throws s c class)
  unfolding throws
  throws_follows class = throws_in_follows _ _ _
