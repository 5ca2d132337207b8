-- Laws of tables: how they are closed, number by number.
use Rattle.std.proofs.Common.{◌≡◌, ℕ, ◌+◌, ◌<◌, ◌⊎◌, Bool, true, ◌&&◌, List, [], ◌∷◌, length, get_or, sym, ◌∙◌, inl, inr, subst, arith}
use Rattle.std.proofs.lemmas.Bool.{or_cases, or_left, or_right, and_parts, and_from, cases_eq}
use Rattle.kb_order.specs.Order.{stands, IsComplete, IsDirectlyAbove, Climbs}
use Rattle.kb_order.specs.Table.{mark_at, IsSquare, IsTable, IsJoinedThrough, IsClosedBelow}
use Rattle.kb_order.proofs.OrderLaws.{strictly_above_strictly, strictly_from_directly}

-- the table of the direct ones
pub closed_at_first : (direct : List (List ℕ)) (table : List (List Bool))
    → ((low high : ℕ) → mark_at table low high ≡ stands high (get_or direct low [])) → IsClosedBelow direct 0 table
closed_at_first direct table h = record {
  sound = λ low high e. strictly_from_directly direct low high (sym (h low high) ∙ e);
  includes = λ low high e. h low high ∙ e;
  closed = λ middle lt low high a b. absurd (omega (arith, lt));
}

-- of a joined table, a mark is an old one or goes through the middle
joined_cases : (middle : ℕ) (old new : List (List Bool)) → IsJoinedThrough middle old new → (low high : ℕ) → mark_at new low high ≡ true
    → (mark_at old low high ≡ true) ⊎ ((mark_at old low middle ≡ true) × (mark_at old middle high ≡ true))
joined_cases middle old new h low high e =
    elim (or_cases (mark_at old low high) (mark_at old low middle && mark_at old middle high) (sym (h low high) ∙ e)) [
      | inl a ↦ inl a
      | inr b ↦ inr (and_parts (mark_at old low middle) (mark_at old middle high) b)
    ]

joined_old : (middle : ℕ) (old new : List (List Bool)) → IsJoinedThrough middle old new → (low high : ℕ) → mark_at old low high ≡ true
    → mark_at new low high ≡ true
joined_old middle old new h low high e = h low high ∙ or_left _ _ e

joined_through : (middle : ℕ) (old new : List (List Bool)) → IsJoinedThrough middle old new → (low high : ℕ) → mark_at old low middle ≡ true
    → mark_at old middle high ≡ true → mark_at new low high ≡ true
joined_through middle old new h low high e f = h low high ∙ or_right (mark_at old low high) _ (and_from (mark_at old low middle) (mark_at old middle high) e f)

-- what ends or begins in the middle gains no marks
joined_to_middle : (middle : ℕ) (old new : List (List Bool)) → IsJoinedThrough middle old new → (low : ℕ) → mark_at new low middle ≡ true
    → mark_at old low middle ≡ true
joined_to_middle middle old new h low e = elim (joined_cases middle old new h low middle e) [ inl a ↦ a | inr b ↦ b.0 ]

joined_from_middle : (middle : ℕ) (old new : List (List Bool)) → IsJoinedThrough middle old new → (high : ℕ) → mark_at new middle high ≡ true
    → mark_at old middle high ≡ true
joined_from_middle middle old new h high e = elim (joined_cases middle old new h middle high e) [ inl a ↦ a | inr b ↦ b.1 ]

-- what was closed below the middle stays so
joined_closed : (direct : List (List ℕ)) (middle : ℕ) (old new : List (List Bool)) → IsClosedBelow direct middle old → IsJoinedThrough middle old new
    → (through : ℕ) → through < middle → (low high : ℕ) → mark_at new low through ≡ true → mark_at new through high ≡ true
    → mark_at new low high ≡ true
joined_closed direct middle old new c h through lt low high e f =
    elim (joined_cases middle old new h low through e) [
      | inl a ↦ elim (joined_cases middle old new h through high f) [
        | inl b ↦ joined_old middle old new h low high (c.closed through lt low high a b)
        | inr b ↦ joined_through middle old new h low high (c.closed through lt low middle a b.0) b.1
      ]
      | inr a ↦ elim (joined_cases middle old new h through high f) [
        | inl b ↦ joined_through middle old new h low high a.0 (c.closed through lt middle high a.1 b)
        | inr b ↦ joined_through middle old new h low high a.0 b.1
      ]
    ]

-- a table closed below a number, joined through it, is closed below the next one
pub closed_next : (direct : List (List ℕ)) (middle : ℕ) (old new : List (List Bool)) → IsClosedBelow direct middle old
    → IsJoinedThrough middle old new → IsClosedBelow direct (middle + 1) new
closed_next direct middle old new c h = record {
  sound = λ low high e. elim (joined_cases middle old new h low high e) [
    | inl a ↦ c.sound low high a
    | inr a ↦ strictly_above_strictly direct low middle high (c.sound low middle a.0) (c.sound middle high a.1)
  ];
  includes = λ low high e. joined_old middle old new h low high (c.includes low high e);
  closed = λ through lt low high e f. elim (cases_eq through middle) [
    | inl s ↦ joined_through middle old new h low high
        (joined_to_middle middle old new h low (subst (λ z. mark_at new low z ≡ true) s e))
        (joined_from_middle middle old new h high (subst (λ z. mark_at new z high ≡ true) s f))
    | inr n ↦ joined_closed direct middle old new c h through (omega (arith, lt, n)) low high e f
  ];
}

complete : (direct : List (List ℕ)) (table : List (List Bool)) → IsComplete direct → IsClosedBelow direct (length direct) table
    → (path : List ℕ) (low next high : ℕ) → IsDirectlyAbove direct low next → Climbs direct next path high → mark_at table low high ≡ true
complete direct table f c [] low next high d h = c.includes low high (subst (λ z. IsDirectlyAbove direct low z) h d)
complete direct table f c (second ∷ rest) low next high d h =
    c.closed next (f low next d) low high (c.includes low next d) (complete direct table f c rest next second high h.0 h.1)

-- a table closed below the number of all is exact
pub closed_at_last : (direct : List (List ℕ)) (table : List (List Bool)) → IsComplete direct → IsSquare (length direct) table
    → IsClosedBelow direct (length direct) table → IsTable direct table
closed_at_last direct table f s c = record {
  square = s;
  true_where = λ low high. (c.sound low high, λ g. complete direct table f c g.2.0 low g.0 high g.1 g.2.1);
}
