-- Literals that change their places in a row: nothing that is said of rows by their literals changes.
use Rattle.std.proofs.Common.{◌≡◌, ℕ, List, [], ◌∷◌, Bool, true, arith, refl, ap, sym, subst, ◌∙◌, ◌<◌, inl, inr, ◌⊎◌, length, length-set, set, Some, slice_get}
use Rattle.std.specs.List.{list_all}
use Rattle.std.proofs.lemmas.Bool.{and_parts, and_from}
use Rattle.kb_chain.specs.Literal.{Literal, has}
use Rattle.kb_chain.proofs.LiteralLaws.{has_head}
use Rattle.kb_propagate.specs.Trail.{Assigned}
use Rattle.kb_propagate.specs.Store.{IsJustified}
use Rattle.kb_propagate.specs.Rows.{AreReordered}
use Rattle.kb_propagate.specs.Watches.{Pair, is_met, Quiet, is_blocker, blocks, is_blocked, all_blocked, IsWatching, Walks, watches_clause}
use Rattle.kb_propagate.specs.declared.watch.Watch.{Watch}
use Rattle.kb_propagate.proofs.Places.{some_in, at_set, at_inside, at_within, at_same}
use Rattle.kb_propagate.proofs.WatchLaws.{is_met-from, is_met-some, blocked_row, blocker_has}

pub AreReordered-refl : (rows : List (List Literal)) → AreReordered rows rows
AreReordered-refl rows = record {
  count = refl;
  each = λ k row later e f l. ap (λ z. has z l) (at_same rows k later row f e);
}

pub AreReordered-trans : (a b c : List (List Literal)) → AreReordered a b → AreReordered b c → AreReordered a c
AreReordered-trans a b c g h = record {
  count = h.count ∙ g.count;
  each = λ k row later e f l.
      (let inside : k < length b = subst (λ n. k < n) (sym g.count) (at_inside a k row e) in
      let between = at_within b k inside in
      h.each k between.0 later between.1 f l ∙ g.each k row between.0 e between.1 l);
}

-- one row in another order
pub AreReordered-set : (rows : List (List Literal)) (k : ℕ) (row later : List Literal) → slice_get rows k ≡ Some row → ((l : Literal) → has later l ≡ has row l)
    → AreReordered rows (set rows k later)
AreReordered-set rows k row later is h = record {
  count = length-set rows k later;
  each = λ j r r' e f l. elim (at_set rows k later j r' f) [
    | inl s ↦ ap (λ z. has z l) (at_same rows j r' r s.0 e)
    | inr s ↦ ap (λ z. has z l) (sym s.1) ∙ (h l ∙ ap (λ z. has z l) (at_same rows k row r is (ap (slice_get rows) (sym s.0) ∙ e)))
  ];
}

-- the row as it was
earlier : (old new : List (List Literal)) (k : ℕ) (later : List Literal) → AreReordered old new → slice_get new k ≡ Some later
    → (row : List Literal) × (slice_get old k ≡ Some row) × ((l : Literal) → has later l ≡ has row l)
earlier old new k later h e =
    let inside : k < length new = at_inside new k later e in
    let row = at_within old k (subst (λ n. k < n) h.count inside) in
    (row.0, row.1, h.each k row.0 later row.1 e)

is_met_same : (set : Literal → Bool) (row later : List Literal) → ((l : Literal) → has later l ≡ has row l) → is_met set row ≡ true → is_met set later ≡ true
is_met_same set row later h e = let m = is_met-some set row e in is_met-from set later m.0 (h m.0 ∙ m.1) m.2

pub Quiet-reordered : (old new : List (List Literal)) (pairs : List Pair) (early late : Literal → Bool) → AreReordered old new → Quiet old pairs early late → Quiet new pairs early late
Quiet-reordered old new pairs early late h q k later pair e f aw =
    let row = earlier old new k later h e in
    let was = q k row.0 pair row.1 f aw in
    record {
      first = λ n. is_met_same late row.0 later row.2 (was.first n);
      second = λ n. is_met_same late row.0 later row.2 (was.second n);
      single = was.single;
    }

pub Walks-reordered : (early late : Literal → Bool) (old new : List (List Literal)) (pairs : List Pair) (lists : List (List Watch)) (rest : List Watch) (f : Literal)
    → AreReordered old new → Walks early late old pairs lists rest f → Walks early late new pairs lists rest f
Walks-reordered early late old new pairs lists rest f h w = record {
  listed = w.listed;
  pending = λ k later pair e g aw. (let row = earlier old new k later h e in
      let was = w.pending k row.0 pair row.1 g aw in
      record {
        first = λ n. still k pair.first row.0 later row.2 (was.first n);
        second = λ n. still k pair.second row.0 later row.2 (was.second n);
        single = was.single;
      });
}
  where
    still : (k : ℕ) (m : Literal) (row later : List Literal) → ((l : Literal) → has later l ≡ has row l)
        → (is_met late row ≡ true) ⊎ ((m ≡ f) × (watches_clause rest k ≡ true)) → (is_met late later ≡ true) ⊎ ((m ≡ f) × (watches_clause rest k ≡ true))
    still k m row later s (inl e) = inl (is_met_same late row later s e)
    still k m row later s (inr e) = inr e

some_same : (row later : List Literal) → ((l : Literal) → has later l ≡ has row l) → 0 < length row → 0 < length later
some_same [] later h lt = absurd (omega (arith, lt))
some_same (x ∷ row) later h lt = some_in later x (h x ∙ has_head x row)

blocker_same : (row later : List Literal) (l : Literal) → ((m : Literal) → has later m ≡ has row m) → is_blocker row l ≡ true → is_blocker later l ≡ true
blocker_same row [] l h e = refl
blocker_same row (y ∷ later) l h e = h l ∙ blocker_has row l e (some_same (y ∷ later) row (λ m. sym (h m)) (omega arith))

blocked_same : (old new : List (List Literal)) (w : Watch) → AreReordered old new → is_blocked old w ≡ true → is_blocked new w ≡ true
blocked_same old new w h e =
    let row = blocked_row old w e in
    let inside : w.clause < length old = at_inside old w.clause row.0 row.1 in
    let later = at_within new w.clause (subst (λ n. w.clause < n) (sym h.count) inside) in
    ap (λ z. blocks z w.blocker) later.1 ∙ blocker_same row.0 later.0 w.blocker (h.each w.clause row.0 later.0 row.1 later.1) row.2

pub blocked_reordered : (old new : List (List Literal)) (list : List Watch) → AreReordered old new → all_blocked old list ≡ true → all_blocked new list ≡ true
blocked_reordered old new [] h e = refl
blocked_reordered old new (w ∷ list) h e = let q = and_parts _ _ e in and_from _ _ (blocked_same old new w h q.0) (blocked_reordered old new list h q.1)

lists_reordered : (old new : List (List Literal)) (lists : List (List Watch)) → AreReordered old new → list_all (all_blocked old) lists ≡ true → list_all (all_blocked new) lists ≡ true
lists_reordered old new [] h e = refl
lists_reordered old new (list ∷ lists) h e = let q = and_parts _ _ e in and_from _ _ (blocked_reordered old new list h q.0) (lists_reordered old new lists h q.1)

pub IsWatching-reordered : (old new : List (List Literal)) (pairs : List Pair) (lists : List (List Watch)) (vars : ℕ) → AreReordered old new → IsWatching old pairs lists vars
    → IsWatching new pairs lists vars
IsWatching-reordered old new pairs lists vars h w = record {
  count = w.count ∙ sym h.count;
  places = w.places;
  own = λ k later pair e f aw. (let row = earlier old new k later h e in
      let o = w.own k row.0 pair row.1 f aw in
      (row.2 pair.first ∙ o.0, row.2 pair.second ∙ o.1));
  blocked = lists_reordered old new lists h w.blocked;
  within = λ k later e l i. (let row = earlier old new k later h e in w.within k row.0 row.1 l (sym (row.2 l) ∙ i));
}

pub IsJustified-reordered : (clauses old new : List (List Literal)) (t : Assigned) → AreReordered old new → IsJustified clauses old t → IsJustified clauses new t
IsJustified-reordered clauses old new t h j = record {
  stored = record {
    count = h.count ∙ j.stored.count;
    each = λ k clause later e f some. (let row = earlier old new k later h f in
        let r = j.stored.each k clause row.0 e row.1 (some_same later row.0 (λ l. sym (row.2 l)) some) in
        record {
          part = λ l i. r.part l (sym (row.2 l) ∙ i);
          rest = λ l i n. r.rest l i (sym (row.2 l) ∙ n);
        });
  };
  reasons = j.reasons;
  kept = λ i c later e f. (let row = earlier old new c later h f in some_same row.0 later row.2 (j.kept i c row.0 e row.1));
}
