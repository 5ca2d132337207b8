-- What is offered, alternative by alternative, and the keys of a switch one by one.
use Rattle.std.proofs.Common.{◌≡◌, ℕ, suc, ◌+◌, ◌<◌, ◌≤◌, ℤ, Bool, true, false, not, List, [], ◌∷◌, ◌++◌, length, drop, map, filter, cond, slice_get, Some, refl, sym, ap, ◌∙◌, inl, inr, ◌||◌, arith}
use Rattle.std.proofs.lemmas.List.{append-nil, drop_all}
use Rattle.std.proofs.lemmas.Option.{slice_get_cases}
use Rattle.kb_terms.specs.declared.node.TermId.{TermId}
use Rattle.kb_picture.specs.declared.choice.Choice.{Choice}
use Rattle.kb_picture.specs.declared.choice.Choice.TheVariants.{Key, Default}
use Rattle.kb_frames.specs.State.{State}
use Rattle.kb_ways.specs.declared.condition.Condition.{Condition}
use Rattle.kb_ways.specs.declared.condition.Side.TheVariants.{Term, Number}
use Rattle.kb_ways.specs.Asked.{all_asked, asked, asked_truth, equal_sides, is_against, is_refuted}
use Rattle.kb_stepint.specs.Choices.{keys_from}
use Rattle.kb_stepint.proofs.KeyLaws.{all_keys, drop_at, filter_first, one_key_more}

-- ---- one alternative

-- what one condition refutes
refuted_one : (state : State) (c : Condition) → is_refuted state (c ∷ []) ≡ is_against (asked_truth state c) c.truth
refuted_one state c = go (is_against (asked_truth state c) c.truth) where
  go : (b : Bool) → (b || false) ≡ b
  go true = refl
  go false = refl

pub one_offered : (p : Choice → Bool) (choice : Choice) (before after : List Choice) (b : Bool) → p choice ≡ not b → after ≡ cond b before (before ++ choice ∷ []) → after ≡ before ++ filter p (choice ∷ [])
one_offered p choice before after true e is = is ∙ sym (rw e (append-nil before))
one_offered p choice before after false e is = is ∙ sym (rw e refl)

two_offered : (p : Choice → Bool) (one other : Choice) (none first second : List Choice) (b d : Bool) → none ≡ [] → p one ≡ not b → p other ≡ not d
    → first ≡ cond b none (none ++ one ∷ []) → second ≡ cond d first (first ++ other ∷ []) → second ≡ filter p (one ∷ other ∷ [])
two_offered p one other none first second b d empty e f is then =
    one_offered p other first second d f then ∙ ap (λ (l : List Choice). l ++ filter p (other ∷ [])) (one_offered p one none first b e is ∙ ap (λ (l : List Choice). l ++ filter p (one ∷ [])) empty)
    ∙ sym (filter_first p one (other ∷ []))

-- two alternatives that each ask for one condition
pub two_asked : (state : State) (p : Choice → Bool) (one other : Choice) (c d asks asks_other : Condition) (none first second : List Choice) → none ≡ [] → asks ≡ c → asks_other ≡ d
    → p one ≡ not (is_refuted state (c ∷ [])) → p other ≡ not (is_refuted state (d ∷ []))
    → first ≡ cond (is_against (asked_truth state asks) asks.truth) none (none ++ one ∷ []) → second ≡ cond (is_against (asked_truth state asks_other) asks_other.truth) first (first ++ other ∷ [])
    → second ≡ filter p (one ∷ other ∷ [])
two_asked state p one other c d asks asks_other none first second empty is is_other e f offered then =
    two_offered p one other none first second (is_against (asked_truth state asks) asks.truth) (is_against (asked_truth state asks_other) asks_other.truth) empty
    (e ∙ ap not (refuted_one state c ∙ ap (λ (x : Condition). is_against (asked_truth state x) x.truth) (sym is)))
    (f ∙ ap not (refuted_one state d ∙ ap (λ (x : Condition). is_against (asked_truth state x) x.truth) (sym is_other))) offered then

-- ---- keys

-- there is a key at a place below their number
key_there : (keys : List (ℤ × ℕ)) (place : ℕ) → place < length keys → (key : ℤ × ℕ) × (slice_get keys place ≡ Some key)
key_there keys place inside = elim (slice_get_cases keys place).1 [ inl h ↦ (h.0, h.2) | inr h ↦ absurd (omega (arith, inside, h.0)) ]

drop_next : (keys : List (ℤ × ℕ)) (place : ℕ) (key : ℤ × ℕ) → slice_get keys place ≡ Some key → drop place keys ≡ key ∷ drop (place + 1) keys
drop_next keys place key there =
    let next : suc place ≡ place + 1 = omega arith in
    drop_at keys place key there ∙ ap (λ (n : ℕ). key ∷ drop n keys) next

module _ (p : Choice → Bool) (keys : List (ℤ × ℕ)) where
  -- one key more was offered
  pub key_offered : (place : ℕ) (before after all : List Choice) → place < length keys → after ≡ before ++ filter p (Key place ∷ [])
      → before ++ filter p (keys_from place (drop place keys)) ≡ all → after ++ filter p (keys_from (place + 1) (drop (place + 1) keys)) ≡ all
  key_offered place before after all inside pushed earlier =
      let there = key_there keys place inside in
      let next : suc place ≡ place + 1 = omega arith in
      ap (λ (n : ℕ). after ++ filter p (keys_from (place + 1) (drop n keys))) (sym next) ∙ one_key_more p keys place there.0 before after all there.1 pushed earlier

  -- and the default behind them
  pub all_offered : (place : ℕ) (before after all : List Choice) → place ≡ length keys → after ≡ before ++ filter p (Default ∷ [])
      → before ++ filter p (keys_from place (drop place keys)) ≡ all → after ≡ all
  all_offered place before after all end pushed earlier =
      pushed ∙ all_keys p keys before all (ap (λ (n : ℕ). before ++ filter p (keys_from n (drop n keys))) (sym end) ∙ earlier)

-- ---- the default

module _ (x : TermId) (keys : List (ℤ × ℕ)) where
  -- the conditions that the default asks for, from a place on
  abbrev from_key : ℕ → List Condition
  from_key place = map (λ (key : ℤ × ℕ). equal_sides (Term x) (Number key.0) false) (drop place keys)

  from_next : (place : ℕ) (key : ℤ × ℕ) → slice_get keys place ≡ Some key → from_key place ≡ equal_sides (Term x) (Number key.0) false ∷ from_key (place + 1)
  from_next place key there = ap (map (λ (k : ℤ × ℕ). equal_sides (Term x) (Number k.0) false)) (drop_next keys place key there)

  none_from : (place : ℕ) → length keys ≤ place → from_key place ≡ []
  none_from place end = ap (map (λ (k : ℤ × ℕ). equal_sides (Term x) (Number k.0) false)) (drop_all place keys end)

  -- a key that the int is refutes it
  pub key_refutes : (state : State) (place : ℕ) (key : ℤ × ℕ) (all : Bool) → slice_get keys place ≡ Some key
      → is_against (asked_truth state (equal_sides (Term x) (Number key.0) false)) false ≡ true → is_refuted state (from_key place) ≡ all → true ≡ all
  key_refutes state place key all there against earlier =
      let all_from : is_refuted state (from_key place) ≡ is_refuted state (equal_sides (Term x) (Number key.0) false ∷ from_key (place + 1)) = ap (is_refuted state) (from_next place key there) in
      sym (rw against refl) ∙ sym all_from ∙ earlier

  -- another key does not
  pub key_refutes_not : (state : State) (place : ℕ) (key : ℤ × ℕ) (all : Bool) → slice_get keys place ≡ Some key
      → is_against (asked_truth state (equal_sides (Term x) (Number key.0) false)) false ≡ false → is_refuted state (from_key place) ≡ all → is_refuted state (from_key (place + 1)) ≡ all
  key_refutes_not state place key all there against earlier =
      let all_from : is_refuted state (from_key place) ≡ is_refuted state (equal_sides (Term x) (Number key.0) false ∷ from_key (place + 1)) = ap (is_refuted state) (from_next place key there) in
      let first : is_refuted state (equal_sides (Term x) (Number key.0) false ∷ from_key (place + 1)) ≡ is_refuted state (from_key (place + 1)) = rw against refl in
      sym first ∙ sym all_from ∙ earlier

  -- one key more is asked for
  pub key_asked : (state new all : State) (place : ℕ) (key : ℤ × ℕ) → slice_get keys place ≡ Some key → new ≡ asked state (equal_sides (Term x) (Number key.0) false)
      → all_asked state (from_key place) ≡ all → all_asked new (from_key (place + 1)) ≡ all
  key_asked state new all place key there is earlier =
      ap (λ (s : State). all_asked s (from_key (place + 1))) is ∙ sym (ap (all_asked state) (from_next place key there)) ∙ earlier

  pub keys_asked : (state all : State) (place : ℕ) → length keys ≤ place → all_asked state (from_key place) ≡ all → state ≡ all
  keys_asked state all place end earlier = sym (ap (all_asked state) (none_from place end)) ∙ earlier
