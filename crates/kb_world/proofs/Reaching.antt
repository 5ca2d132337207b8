-- The walk over the methods that are reached.
use Rattle.std.proofs.Common.{◌≡◌, ℕ, zero, suc, ◌+◌, ◌<◌, ◌≤◌, ◌⊎◌, inl, inr, Bool, true, false, ◌==◌, List, [], ◌∷◌, ◌++◌, length, take, Some, None, slice_get, refl, sym, ap, subst, ◌∙◌, arith, append_assoc}
use Rattle.std.specs.List.{AllByRecursion, list_any, flat_map, fold}
use Rattle.std.proofs.lemmas.Grind.{flat_map-append, fold-append}
use Rattle.std.proofs.lemmas.List.{append-nil, take_all, take-append-le, length-take-le, length-append}
use Rattle.std.proofs.lemmas.Option.{same_Some, none-some, slice_get_within}
use Rattle.kb_classes.specs.declared.refusal.LinkRefusal.{LinkRefusal}
use Rattle.kb_classes.specs.declared.refusal.LinkRefusal.TheVariants as refusals
use Rattle.kb_classes.specs.World.{World}
use Rattle.kb_classes.proofs.Places.{get_pushed}
use Rattle.kb_universe.specs.Faults.{Fault}
use Rattle.kb_universe.specs.Found.{with_new}
use Rattle.kb_world.specs.Reach.{found_by, method_mentions, method_fault, fault_of_target, HasNoFault, IsFront, IsFirstFault, OfTarget, OfMethod, HasNoFaults}
use Rattle.kb_world.specs.Walks.{Tells, StopsAt, IsFaultOfMethod}

-- ---- what is found stays in front

pub new_front : (found : List ℕ) (number : ℕ) → (more : List ℕ) × (with_new found number ≡ found ++ more)
new_front found number = go (list_any (λ other. other == number) found) refl where
  go : (b : Bool) → list_any (λ other. other == number) found ≡ b → (more : List ℕ) × (with_new found number ≡ found ++ more)
  go true e = ([], rw e (sym (append-nil found)))
  go false e = (number ∷ [], rw e refl)

pub all_front : (numbers found : List ℕ) → (more : List ℕ) × (fold with_new found numbers ≡ found ++ more)
all_front [] found = ([], sym (append-nil found))
all_front (n ∷ numbers) found =
    let one = new_front found n in
    let others = all_front numbers (with_new found n) in
    (one.0 ++ others.0, others.1 ∙ ap (λ (xs : List ℕ). xs ++ others.0) one.1 ∙ append_assoc found one.0 others.0)

-- ---- all of a list and one more

pub all_more : {A : Type 0} (P : A → Type 0) (xs : List A) (x : A) → AllByRecursion P xs → P x → AllByRecursion P (xs ++ x ∷ [])
all_more P [] x all one = (one, tt)
all_more P (y ∷ xs) x all one = (all.0, all_more P xs x all.1 one)

take_next : (xs : List ℕ) (place x : ℕ) → slice_get xs place ≡ Some x → take (suc place) xs ≡ take place xs ++ x ∷ []
take_next [] place x at = absurd (none-some x at)
take_next (y ∷ xs) zero x at = ap (λ (n : ℕ). n ∷ []) (same_Some y x at)
take_next (y ∷ xs) (suc place) x at = ap (λ (ns : List ℕ). y ∷ ns) (take_next xs place x at)

past_end : (xs : List ℕ) (place : ℕ) → slice_get xs place ≡ None → length xs ≤ place
past_end [] place at = omega arith
past_end (y ∷ xs) zero at = absurd (none-some y (sym at))
past_end (y ∷ xs) (suc place) at = let rest : length xs ≤ place = past_end xs place at in omega (arith, rest)

module _ (world : World) (target : ℕ) where
  -- one method more finds what it mentions besides
  found_more : (methods : List ℕ) (number : ℕ) → found_by world target (methods ++ number ∷ []) ≡ fold with_new (found_by world target methods) (method_mentions world number)
  found_more methods number =
      let mentioned : flat_map (method_mentions world) (methods ++ number ∷ []) ≡ flat_map (method_mentions world) methods ++ method_mentions world number =
      flat_map-append (method_mentions world) methods (number ∷ []) ∙ ap (λ (ns : List ℕ). flat_map (method_mentions world) methods ++ ns) (append-nil (method_mentions world number)) in
      ap (λ (ns : List ℕ). fold with_new (target ∷ []) ns) mentioned ∙ fold-append with_new (target ∷ []) (flat_map (method_mentions world) methods) (method_mentions world number)

  -- The methods before the place have no fault, and `found` is what they mention.
  pub record IsWalked (place : ℕ) (found : List ℕ) : Type 0 where
    pub within : place ≤ length found
    pub found_is : found ≡ found_by world target (take place found)
    pub front : IsFront world target (take place found)
    pub none : AllByRecursion (HasNoFault world) (take place found)

  pub walk_starts : IsWalked 0 (target ∷ [])
  walk_starts = record {
    within = omega arith;
    found_is = refl;
    front = λ place number at. absurd (none-some number at);
    none = tt;
  }

  -- the methods before the place with the one that stands there
  pub front_more : (place : ℕ) (found : List ℕ) (number : ℕ) → IsWalked place found → slice_get found place ≡ Some number → IsFront world target (take place found ++ number ∷ [])
  front_more place found number walked at = λ p n there. go p n (get_pushed (take place found) number p n there)
    where
      before : List ℕ
      before = take place found

      many : length before ≡ place
      many = length-take-le place found walked.within

      go : (p n : ℕ) → (slice_get before p ≡ Some n) ⊎ ((p ≡ length before) × (number ≡ n)) → slice_get (found_by world target (take p (before ++ number ∷ []))) p ≡ Some n
      go p n (inl there) =
          let inside : p < length before = slice_get_within before p n there in
          let same : take p (before ++ number ∷ []) ≡ take p before = take-append-le p before (number ∷ []) (omega (arith, inside)) in
          ap (λ (ns : List ℕ). slice_get (found_by world target ns) p) same ∙ walked.front p n there
      go p n (inr here) =
          let up : p ≤ length before = omega (arith, here.0) in
          let same : take p (before ++ number ∷ []) ≡ before = take-append-le p before (number ∷ []) up ∙ take_all p before (omega (arith, here.0)) in
          let is_place : p ≡ place = here.0 ∙ many in
          ap (λ (ns : List ℕ). slice_get (found_by world target ns) p) same ∙ ap (λ (ns : List ℕ). slice_get ns p) (sym walked.found_is) ∙ ap (λ (q : ℕ). slice_get found q) is_place ∙ at
          ∙ ap (λ (m : ℕ). Some m) here.1

  pub walk_goes : (place : ℕ) (found : List ℕ) (number : ℕ) → IsWalked place found → slice_get found place ≡ Some number → HasNoFault world number
      → IsWalked (place + 1) (fold with_new found (method_mentions world number))
  walk_goes place found number walked at fine =
      let after : List ℕ = fold with_new found (method_mentions world number) in
      let more = all_front (method_mentions world number) found in
      let inside : place < length found = slice_get_within found place number at in
      let longer : length found ≤ length after = omega (arith, ap (λ (ns : List ℕ). length ns) more.1, length-append found more.0) in
      let next : take (place + 1) after ≡ take place found ++ number ∷ [] =
      ap (λ (ns : List ℕ). take (place + 1) ns) more.1 ∙ take-append-le (place + 1) found more.0 (omega (arith, inside)) ∙ ap (λ (n : ℕ). take n found) (let e : place + 1 ≡ suc place = omega arith in e)
      ∙ take_next found place number at in
      record {
        within = omega (arith, inside, longer);
        found_is = ap (λ (ns : List ℕ). fold with_new ns (method_mentions world number)) walked.found_is ∙ sym (found_more (take place found) number) ∙ ap (λ (ns : List ℕ). found_by world target ns) (sym next);
        front = subst (λ (ns : List ℕ). IsFront world target ns) (sym next) (front_more place found number walked at);
        none = subst (λ (ns : List ℕ). AllByRecursion (HasNoFault world) ns) (sym next) (all_more (HasNoFault world) (take place found) number walked.none fine);
      }

  pub walk_ends : (place : ℕ) (found : List ℕ) → fault_of_target world target ≡ None → IsWalked place found → slice_get found place ≡ None → HasNoFaults world target
  walk_ends place found itself walked at =
      let whole : take place found ≡ found = take_all place found (past_end found place at) in
      record {
        itself = itself;
        reached = found;
        are_reached = record {
          front = subst (λ (ns : List ℕ). IsFront world target ns) whole walked.front;
          closed = ap (λ (ns : List ℕ). found_by world target ns) (sym whole) ∙ sym walked.found_is;
        };
        no_faults = subst (λ (ns : List ℕ). AllByRecursion (HasNoFault world) ns) whole walked.none;
      }

  -- the first fault of a method that is reached is that of all, where those before have none
  pub walk_stops : (place : ℕ) (found : List ℕ) (number : ℕ) (refusal : LinkRefusal) → fault_of_target world target ≡ None → IsWalked place found → slice_get found place ≡ Some number
      → StopsAt world (IsFaultOfMethod world number) refusal → StopsAt world (IsFirstFault world target) refusal
  walk_stops place found number refusal itself walked at (inl e) = inl e
  walk_stops place found number refusal itself walked at (inr told) =
      let front : IsFront world target (take place found ++ told.method ∷ []) =
      subst (λ (m : ℕ). IsFront world target (take place found ++ m ∷ [])) (sym told.first.0) (front_more place found number walked at) in
      let fault : method_fault world told.method ≡ Some (told.at, told.fault) = ap (λ (m : ℕ). method_fault world m) told.first.0 ∙ told.first.1 in
      inr (record {
        method = told.method;
        at = told.at;
        fault = told.fault;
        first = OfMethod itself (take place found) front walked.none fault;
        tells = told.tells;
      })

  pub target_stops : (fault : Fault) (refusal : LinkRefusal) → fault_of_target world target ≡ Some fault → (refusal ≡ refusals.NoMemory) ⊎ Tells world target 0 fault refusal
      → StopsAt world (IsFirstFault world target) refusal
  target_stops fault refusal e (inl memory) = inl memory
  target_stops fault refusal e (inr tells) = inr (record { method = target; at = 0; fault = fault; first = OfTarget e refl refl; tells = tells })
