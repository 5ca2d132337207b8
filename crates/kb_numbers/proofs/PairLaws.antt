-- Pairs are told apart by their two numbers, and tables have their first places.
use Rattle.std.proofs.Common.{◌≡◌, ℕ, ◌+◌, ◌<◌, Bool, true, false, true≢false, cond, ◌&&◌, ◌==◌, if◌then◌else◌, is_some, List, [], ◌∷◌, ◌++◌, length, length-take, map, take, get_or, Option, Some, None, slice_get, unwrap_or, refl, sym, ap, subst, ◌∙◌, arith}
use Rattle.std.specs.HashMap.{HashMap}
use Rattle.std.specs.Option.{option_map, option_or}
use Rattle.std.proofs.lemmas.Bool.Decides.{Decides-eqb}
use Rattle.std.proofs.lemmas.Grind.{take_at_read}
use Rattle.std.proofs.lemmas.List.{length-map}
use Rattle.std.proofs.lemmas.Option.{same_Some, get_or_from_slice_get, slice_get-map}
use Rattle.kb_numbers.specs.declared.pairs.Pair.{Pair}
use Rattle.kb_numbers.specs.Pairs.{is_pair, first_place, place_told, place_in, HasFirsts, AreFirsts}
use Rattle.kb_numbers.proofs.PlaceLaws.{place_pushed, place_somewhere, place_inside}

-- ---- whether they are one pair

both : (a b : Bool) → (a && b) ≡ true → (a ≡ true) × (b ≡ true)
both true b e = (refl, e)
both false b e = absurd (true≢false (sym e))

and_true : (a b : Bool) → a ≡ true → b ≡ true → (a && b) ≡ true
and_true true b e f = f
and_true false b e f = absurd (true≢false (sym e))

pub pair_is : (one other : Pair) → is_pair one other ≡ true → one ≡ other
pair_is one other e =
    let parts = both (one.name == other.name) (one.kind == other.kind) e in
    let name : one.name ≡ other.name = (Decides-eqb one.name other.name).0 parts.0 in
    let kind : one.kind ≡ other.kind = (Decides-eqb one.kind other.kind).0 parts.1 in
    λ i. record { name = name i; kind = kind i }

pub pair_self : (pair : Pair) → is_pair pair pair ≡ true
pair_self pair = and_true (pair.name == pair.name) (pair.kind == pair.kind) ((Decides-eqb pair.name pair.name).1 refl) ((Decides-eqb pair.kind pair.kind).1 refl)

pub pair_same : (one other : Pair) → one ≡ other → is_pair one other ≡ true
pair_same one other same = subst (λ (p : Pair). is_pair one p ≡ true) same (pair_self one)

-- ---- a pair that is added to a table, unless it is there

module _ {S : Type 0} (old : HashMap Pair ℕ S) (pair : Pair) (place : ℕ) where
  pub first_added : (new : HashMap Pair ℕ S) → ((q : Pair) → place_told new q ≡ cond (is_pair pair q) (Some place) (place_told old q)) → is_some (place_told old pair) ≡ false
      → (q : Pair) → place_told new q ≡ option_or (place_told old q) (if is_pair pair q then Some place else None)
  first_added new put none q = go (is_pair pair q) refl (place_told old q) refl (put q)
    where
      go : (b : Bool) → is_pair pair q ≡ b → (o : Option ℕ) → place_told old q ≡ o → place_told new q ≡ cond b (Some place) (place_told old q) → place_told new q ≡ option_or o (if b then Some place else None)
      go true e None told now = now
      go true e (Some other) told now =
          let there : is_some (place_told old pair) ≡ true = ap (λ (p : Pair). is_some (place_told old p)) (pair_is pair q e) ∙ ap is_some told in
          absurd (true≢false (sym there ∙ none))
      go false e None told now = now ∙ told
      go false e (Some other) told now = now ∙ told

  pub still_there : is_some (place_told old pair) ≡ true → (q : Pair) → place_told old q ≡ option_or (place_told old q) (if is_pair pair q then Some place else None)
  still_there some q = go (is_pair pair q) refl (place_told old q) refl
    where
      go : (b : Bool) → is_pair pair q ≡ b → (o : Option ℕ) → place_told old q ≡ o → o ≡ option_or o (if b then Some place else None)
      go b e (Some other) told = refl
      go false e None told = refl
      go true e None told =
          let none : is_some (place_told old pair) ≡ false = ap (λ (p : Pair). is_some (place_told old p)) (pair_is pair q e) ∙ ap is_some told in
          absurd (true≢false (sym some ∙ none))

-- ---- one pair more

pub first_next : (before after : Pair → Option ℕ) (pairs : List Pair) (place : ℕ) (item : Pair) → place < length pairs → slice_get pairs place ≡ Some item
    → ((q : Pair) → before q ≡ first_place (take place pairs) q) → ((q : Pair) → after q ≡ option_or (before q) (if is_pair item q then Some place else None))
    → (q : Pair) → after q ≡ first_place (take (place + 1) pairs) q
first_next before after pairs place item inside there so_far added q =
    let is : item ≡ get_or pairs place item = sym (get_or_from_slice_get pairs place item item there) in
    let taken : take (place + 1) pairs ≡ take place pairs ++ item ∷ [] = (take_at_read pairs place item inside).1 ∙ ap (λ (p : Pair). take place pairs ++ p ∷ []) (sym is) in
    let many : length (take place pairs) ≡ place = omega (arith, length-take place pairs, inside) in
    added q
    ∙ ap (λ (o : Option ℕ). option_or o (if is_pair item q then Some place else None)) (so_far q)
    ∙ ap (λ (n : ℕ). option_or (first_place (take place pairs) q) (if is_pair item q then Some n else None)) (sym many)
    ∙ sym (place_pushed (λ (other : Pair). is_pair other q) (take place pairs) item)
    ∙ ap (λ (ps : List Pair). first_place ps q) (sym taken)

-- ---- first places

pub first_inside : (pairs : List Pair) (pair : Pair) (place : ℕ) → first_place pairs pair ≡ Some place → place < length pairs
first_inside pairs pair place at = place_inside (λ (other : Pair). is_pair other pair) pairs place at

pub are_firsts : {S : Type 0} (table : HashMap Pair ℕ S) (pairs : List Pair) → HasFirsts table pairs → AreFirsts pairs (map (place_in table) pairs)
are_firsts table pairs has = record {
  many = length-map pairs (place_in table);
  first = λ at pair place there told. (
      let found = place_somewhere (λ (other : Pair). is_pair other pair) pairs at pair there (pair_self pair) in
      let in_table : place_in table pair ≡ found.0 = ap (λ (o : Option ℕ). unwrap_or o 0) (has pair ∙ found.1) in
      let mapped : slice_get (map (place_in table) pairs) at ≡ Some (place_in table pair) =
      slice_get-map (place_in table) pairs at ∙ ap (λ (o : Option Pair). option_map (place_in table) o) there in
      let same : place_in table pair ≡ place = same_Some (place_in table pair) place (sym mapped ∙ told) in
      found.1 ∙ ap (λ (n : ℕ). Some n) (sym in_table ∙ same)
      );
}
