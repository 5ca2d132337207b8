-- Ways to objects, one after the other: those of arguments, and those of each object before those of the next one. As many objects
-- as want one may have ways of their own, each before its own slots, exactly where up to each there are as many (Hall, 1935).
use Rattle.std.proofs.Common.{◌≡◌, ◌⊎◌, inl, inr, ℕ, zero, suc, ◌+◌, ◌-◌, ◌<◌, ◌≤◌, ◌==◌, ◌&&◌, ◌||◌, Bool, true, false, true≢false, List, [], ◌∷◌, ◌++◌, length, length-append, Option, Some, None, refl, sym, ap, subst, ◌∙◌, arith, if◌then◌else◌}
use Rattle.std.specs.Prelude.{slice_get, unwrap_or, filter, nat_lt}
use Rattle.std.proofs.lemmas.Bool.{and_parts, eqb-false, eqb-true, eq-eqb, ltb-false, ltb-true}
use Rattle.kb_picture.specs.declared.picture.Origin.{Origin}
use Rattle.kb_picture.specs.declared.picture.Origin.TheVariants.{Arg, Field, Element}
use Rattle.kb_picture.specs.declared.picture.Standing.{Standing}
use Rattle.kb_report_known.proofs.ListLaws.{In, IsOnce, at_in, in_at, in_either, in_front, in_left, in_right, no_longer, once_append, one_if, place_there, same_place}
use Rattle.kb_report_known.specs.Counts.{missing_below, wanted}
use Rattle.kb_report_known.specs.Finding.{SeenSlot, holder_of, is_held_by, same_holder, waits_in}
use Rattle.kb_report_known.specs.declared.known.Known.{Known}

-- ---- slots

abbrev pub same_slot : Origin → Origin → Bool
same_slot (Arg one) (Arg other) = one == other
same_slot (Arg one) (Field other slot) = false
same_slot (Arg one) (Element other index) = false
same_slot (Field one slot) (Arg other) = false
same_slot (Field one slot) (Field other another) = (one == other) && (slot == another)
same_slot (Field one slot) (Element other index) = false
same_slot (Element one index) (Arg other) = false
same_slot (Element one index) (Field other slot) = false
same_slot (Element one index) (Element other another) = (one == other) && (index == another)

both_true : (a b : Bool) → a ≡ true → b ≡ true → (a && b) ≡ true
both_true a b p q = rw (p, q) refl

pub same_right : (one other : Origin) → same_slot one other ≡ true → one ≡ other
same_right (Arg one) (Arg other) is = ap Arg (eqb-true one other is)
same_right (Arg one) (Field other slot) is = absurd cc
same_right (Arg one) (Element other index) is = absurd cc
same_right (Field one slot) (Arg other) is = absurd cc
same_right (Field one slot) (Field other another) is =
    let parts = and_parts (one == other) (slot == another) is in
    ap (λ (n : ℕ). Field n slot) (eqb-true one other parts.0) ∙ ap (Field other) (eqb-true slot another parts.1)
same_right (Field one slot) (Element other index) is = absurd cc
same_right (Element one index) (Arg other) is = absurd cc
same_right (Element one index) (Field other slot) is = absurd cc
same_right (Element one index) (Element other another) is =
    let parts = and_parts (one == other) (index == another) is in
    ap (λ (n : ℕ). Element n index) (eqb-true one other parts.0) ∙ ap (Element other) (eqb-true index another parts.1)

same_itself : (slot : Origin) → same_slot slot slot ≡ true
same_itself (Arg number) = eq-eqb number number refl
same_itself (Field object slot) = both_true (object == object) (slot == slot) (eq-eqb object object refl) (eq-eqb slot slot refl)
same_itself (Element array index) = both_true (array == array) (index == index) (eq-eqb array array refl) (eq-eqb index index refl)

pub same_left : (one other : Origin) → one ≡ other → same_slot one other ≡ true
same_left one other is = subst (λ (o : Origin). same_slot one o ≡ true) is (same_itself one)

pub holder_right : (one other : Option ℕ) → same_holder one other ≡ true → one ≡ other
holder_right None None is = refl
holder_right None (Some other) is = absurd cc
holder_right (Some one) None is = absurd cc
holder_right (Some one) (Some other) is = ap (λ (n : ℕ). Some n) (eqb-true one other is)

pub holder_left : (one other : Option ℕ) → one ≡ other → same_holder one other ≡ true
holder_left one other is = subst (λ (o : Option ℕ). same_holder one o ≡ true) is (itself one)
  where
    itself : (o : Option ℕ) → same_holder o o ≡ true
    itself None = refl
    itself (Some n) = eq-eqb n n refl

-- ---- slots that are seen

abbrev pub is_seen : List SeenSlot → Origin → Bool
is_seen [] slot = false
is_seen (s ∷ ss) slot = same_slot s.slot slot || is_seen ss slot

pub seen_slot : (ss : List SeenSlot) (slot : Origin) → is_seen ss slot ≡ true → (s : SeenSlot) × In s ss × (s.slot ≡ slot)
seen_slot [] slot is = absurd cc
seen_slot (s ∷ ss) slot is = go (same_slot s.slot slot) refl is (λ later. seen_slot ss slot later)
  where
    go : (b : Bool) → same_slot s.slot slot ≡ b → (b || is_seen ss slot) ≡ true → (is_seen ss slot ≡ true → (t : SeenSlot) × In t ss × (t.slot ≡ slot)) → (t : SeenSlot) × In t (s ∷ ss) × (t.slot ≡ slot)
    go true e h later = (s, inl refl, same_right s.slot slot e)
    go false e h later = let more = later h in (more.0, inr more.1, more.2)

pub seen_true : (ss : List SeenSlot) (s : SeenSlot) (slot : Origin) → In s ss → s.slot ≡ slot → is_seen ss slot ≡ true
seen_true [] s slot there is = absurd there
seen_true (t ∷ ss) s slot (inl same) is = ap (λ (b : Bool). b || is_seen ss slot) (same_left t.slot slot (ap (λ (u : SeenSlot). u.slot) same ∙ is))
seen_true (t ∷ ss) s slot (inr later) is = or_true (same_slot t.slot slot) (is_seen ss slot) (seen_true ss s slot later is)
  where
    or_true : (a b : Bool) → b ≡ true → (a || b) ≡ true
    or_true true b e = refl
    or_true false b e = e

-- no slot is seen twice
abbrev pub SlotsOnce : List SeenSlot → Type 0
SlotsOnce [] = Unit {0}
SlotsOnce (s ∷ ss) = (is_seen ss s.slot ≡ false) × SlotsOnce ss

pub slots_once : (ss : List SeenSlot) → ((i j : ℕ) (one other : SeenSlot) → slice_get ss i ≡ Some one → slice_get ss j ≡ Some other → one.slot ≡ other.slot → i ≡ j) → SlotsOnce ss
slots_once [] once = tt
slots_once (s ∷ ss) once = (go (is_seen ss s.slot) refl, slots_once ss (λ i j one other p q same. (let e : suc i ≡ suc j = once (suc i) (suc j) one other p q same in omega (arith, e))))
  where
    go : (b : Bool) → is_seen ss s.slot ≡ b → is_seen ss s.slot ≡ false
    go false p = p
    go true p =
        let found = seen_slot ss s.slot p in
        let at = in_at found.0 ss found.1 in
        absurd (let e : 0 ≡ suc at.0 = once 0 (suc at.0) s found.0 refl at.1 (sym found.2) in omega (arith, e))

-- ---- slots that are not seen

-- the first so many slots that are not seen, and how many of them are
unfoldable pub unseen : (ℕ → Origin) → List SeenSlot → ℕ → List Origin
unseen slots ss zero = []
unseen slots ss (suc n) = if is_seen ss (slots n) then unseen slots ss n else slots n ∷ unseen slots ss n

unfoldable covered : (ℕ → Origin) → List SeenSlot → ℕ → ℕ
covered slots ss zero = 0
covered slots ss (suc n) = one_if (is_seen ss (slots n)) + covered slots ss n

unseen_covered : (slots : ℕ → Origin) (ss : List SeenSlot) (n : ℕ) → length (unseen slots ss n) + covered slots ss n ≡ n
unfolding unseen covered
unseen_covered slots ss zero = refl
unseen_covered slots ss (suc n) = go (is_seen ss (slots n)) (unseen_covered slots ss n)
  where
    go : (b : Bool) → length (unseen slots ss n) + covered slots ss n ≡ n → length (if b then unseen slots ss n else slots n ∷ unseen slots ss n) + (one_if b + covered slots ss n) ≡ suc n
    go true before = omega (arith, before)
    go false before = omega (arith, before)

pub unseen_in : (slots : ℕ → Origin) (ss : List SeenSlot) (n : ℕ) (slot : Origin) → In slot (unseen slots ss n) → (i : ℕ) × (i < n) × (slots i ≡ slot) × (is_seen ss slot ≡ false)
unfolding unseen
unseen_in slots ss zero slot there = absurd there
unseen_in slots ss (suc n) slot there = go (is_seen ss (slots n)) refl there (λ before. unseen_in slots ss n slot before)
  where
    go : (b : Bool) → is_seen ss (slots n) ≡ b → In slot (if b then unseen slots ss n else slots n ∷ unseen slots ss n) → (In slot (unseen slots ss n) → (i : ℕ) × (i < n) × (slots i ≡ slot) × (is_seen ss slot ≡ false))
        → (i : ℕ) × (i < suc n) × (slots i ≡ slot) × (is_seen ss slot ≡ false)
    go true e here again = let more = again here in (more.0, omega (arith, more.1), more.2, more.3)
    go false e (inl same) again = (n, omega arith, same, ap (is_seen ss) (sym same) ∙ e)
    go false e (inr before) again = let more = again before in (more.0, omega (arith, more.1), more.2, more.3)

pub in_unseen : (slots : ℕ → Origin) (ss : List SeenSlot) (n i : ℕ) → i < n → is_seen ss (slots i) ≡ false → In (slots i) (unseen slots ss n)
unfolding unseen
in_unseen slots ss zero i inside none = absurd (omega (arith, inside))
in_unseen slots ss (suc n) i inside none = go (i == n) refl (is_seen ss (slots n)) refl (λ below. in_unseen slots ss n i below none)
  where
    go : (a : Bool) → (i == n) ≡ a → (b : Bool) → is_seen ss (slots n) ≡ b → (i < n → In (slots i) (unseen slots ss n)) → In (slots i) (if b then unseen slots ss n else slots n ∷ unseen slots ss n)
    go true p true q again = absurd (true≢false (sym q ∙ ap (λ (k : ℕ). is_seen ss (slots k)) (sym (eqb-true i n p)) ∙ none))
    go true p false q again = inl (ap slots (sym (eqb-true i n p)))
    go false p true q again = again (let other : i ≡ n → ⊥ = eqb-false i n p in omega (arith, inside, other))
    go false p false q again = inr (again (let other : i ≡ n → ⊥ = eqb-false i n p in omega (arith, inside, other)))

module _ (slots : ℕ → Origin) (index : Origin → ℕ) (back : (i : ℕ) → index (slots i) ≡ i) where
  pub unseen_once : (ss : List SeenSlot) (n : ℕ) → IsOnce (unseen slots ss n)
  unfolding unseen
  unseen_once ss zero = tt
  unseen_once ss (suc n) = go (is_seen ss (slots n)) (unseen_once ss n)
    where
      never : In (slots n) (unseen slots ss n) → ⊥
      never there =
          let before = unseen_in slots ss n (slots n) there in
          let same : before.0 ≡ n = sym (back before.0) ∙ ap index before.2 ∙ back n in
          omega (arith, before.1, same)

      go : (b : Bool) → IsOnce (unseen slots ss n) → IsOnce (if b then unseen slots ss n else slots n ∷ unseen slots ss n)
      go true once = once
      go false once = (never, once)

  apart_slots : (i j : ℕ) (slot : Origin) → slot ≡ slots i → (i ≡ j → ⊥) → same_slot slot (slots j) ≡ false
  apart_slots i j slot is other = go (same_slot slot (slots j)) refl
    where
      go : (b : Bool) → same_slot slot (slots j) ≡ b → same_slot slot (slots j) ≡ false
      go false p = p
      go true p = absurd (other (sym (back i) ∙ ap index (sym is ∙ same_right slot (slots j) p) ∙ back j))

  covered_none : (n : ℕ) → covered slots [] n ≡ 0
  unfolding covered
  covered_none zero = refl
  covered_none (suc n) = omega (arith, covered_none n)

  covered_other : (s : SeenSlot) (ss : List SeenSlot) (n : ℕ) → ((i : ℕ) → i < n → same_slot s.slot (slots i) ≡ false) → covered slots (s ∷ ss) n ≡ covered slots ss n
  unfolding covered
  covered_other s ss zero none = refl
  covered_other s ss (suc n) none =
      let here : one_if (same_slot s.slot (slots n) || is_seen ss (slots n)) ≡ one_if (is_seen ss (slots n)) = ap (λ (b : Bool). one_if (b || is_seen ss (slots n))) (none n (omega arith)) in
      let before : covered slots (s ∷ ss) n ≡ covered slots ss n = covered_other s ss n (λ i below. none i (omega (arith, below))) in
      omega (arith, here, before)

  covered_more : (s : SeenSlot) (ss : List SeenSlot) (i n : ℕ) → i < n → s.slot ≡ slots i → is_seen ss (slots i) ≡ false → covered slots (s ∷ ss) n ≡ suc (covered slots ss n)
  unfolding covered
  covered_more s ss i zero inside is none = absurd (omega (arith, inside))
  covered_more s ss i (suc n) inside is none = go (i == n) refl (λ below. covered_more s ss i n below is none)
    where
      go : (b : Bool) → (i == n) ≡ b → (i < n → covered slots (s ∷ ss) n ≡ suc (covered slots ss n))
          → one_if (same_slot s.slot (slots n) || is_seen ss (slots n)) + covered slots (s ∷ ss) n ≡ suc (one_if (is_seen ss (slots n)) + covered slots ss n)
      go true p again =
          let same : i ≡ n = eqb-true i n p in
          let first : one_if (same_slot s.slot (slots n) || is_seen ss (slots n)) ≡ 1 = ap (λ (b : Bool). one_if (b || is_seen ss (slots n))) (same_left s.slot (slots n) (is ∙ ap slots same)) in
          let second : one_if (is_seen ss (slots n)) ≡ 0 = ap one_if (ap (λ (k : ℕ). is_seen ss (slots k)) (sym same) ∙ none) in
          let before : covered slots (s ∷ ss) n ≡ covered slots ss n = covered_other s ss n (λ j below. apart_slots i j s.slot is (λ e. omega (arith, e, below, same))) in
          omega (arith, first, second, before)
      go false p again =
          let other : i ≡ n → ⊥ = eqb-false i n p in
          let here : one_if (same_slot s.slot (slots n) || is_seen ss (slots n)) ≡ one_if (is_seen ss (slots n)) = ap (λ (b : Bool). one_if (b || is_seen ss (slots n))) (apart_slots i n s.slot is other) in
          let before : covered slots (s ∷ ss) n ≡ suc (covered slots ss n) = again (omega (arith, inside, other)) in
          omega (arith, here, before)

  module _ (holder : Option ℕ) (holds : (i : ℕ) → holder_of (slots i) ≡ holder) (n : ℕ) where
    -- the holder's slots that are seen are among the first so many
    abbrev pub AreAmong : List SeenSlot → Type 0
    AreAmong ss = (s : SeenSlot) → In s ss → holder_of s.slot ≡ holder → (index s.slot < n) × (s.slot ≡ slots (index s.slot))

    covered_all : (ss : List SeenSlot) → SlotsOnce ss → AreAmong ss → covered slots ss n ≡ length (filter (is_held_by holder) ss)
    covered_all [] once among = covered_none n
    covered_all (s ∷ ss) once among = go (is_held_by holder s) refl (covered_all ss once.1 (λ t there. among t (inr there)))
      where
        go : (b : Bool) → is_held_by holder s ≡ b → covered slots ss n ≡ length (filter (is_held_by holder) ss) → covered slots (s ∷ ss) n ≡ length (if b then s ∷ filter (is_held_by holder) ss else filter (is_held_by holder) ss)
        go true p before =
            let at = among s (inl refl) (holder_right (holder_of s.slot) holder p) in
            let more : covered slots (s ∷ ss) n ≡ suc (covered slots ss n) = covered_more s ss (index s.slot) n at.0 at.1 (ap (is_seen ss) (sym at.1) ∙ once.0) in
            omega (arith, more, before)
        go false p before = covered_other s ss n other ∙ before
          where
            other : (i : ℕ) → i < n → same_slot s.slot (slots i) ≡ false
            other i below = pick (same_slot s.slot (slots i)) refl
              where
                pick : (b : Bool) → same_slot s.slot (slots i) ≡ b → same_slot s.slot (slots i) ≡ false
                pick false e = e
                pick true e = absurd (true≢false (sym (holder_left (holder_of s.slot) holder (ap holder_of (same_right s.slot (slots i) e) ∙ holds i)) ∙ p))

    pub unseen_length : (ss : List SeenSlot) → SlotsOnce ss → AreAmong ss → length (unseen slots ss n) + length (filter (is_held_by holder) ss) ≡ n
    unseen_length ss once among =
        let all : covered slots ss n ≡ length (filter (is_held_by holder) ss) = covered_all ss once among in
        omega (arith, all, unseen_covered slots ss n)

-- ---- slots that wait

module _ (standing : List Standing) (holder : Option ℕ) where
  unfoldable pub waits : List SeenSlot → List Origin
  waits [] = []
  waits (s ∷ ss) = if waits_in standing holder s then s.slot ∷ waits ss else waits ss

  pub waits_length : (ss : List SeenSlot) → length (waits ss) ≡ length (filter (waits_in standing holder) ss)
  unfolding waits
  waits_length [] = refl
  waits_length (s ∷ ss) = go (waits_in standing holder s) (waits_length ss)
    where
      go : (b : Bool) → length (waits ss) ≡ length (filter (waits_in standing holder) ss)
          → length (if b then s.slot ∷ waits ss else waits ss) ≡ length (if b then s ∷ filter (waits_in standing holder) ss else filter (waits_in standing holder) ss)
      go true before = omega (arith, before)
      go false before = before

  pub waits_seen : (ss : List SeenSlot) (slot : Origin) → In slot (waits ss) → (s : SeenSlot) × In s ss × (waits_in standing holder s ≡ true) × (s.slot ≡ slot)
  unfolding waits
  waits_seen [] slot there = absurd there
  waits_seen (s ∷ ss) slot there = go (waits_in standing holder s) refl there (λ before. waits_seen ss slot before)
    where
      go : (b : Bool) → waits_in standing holder s ≡ b → In slot (if b then s.slot ∷ waits ss else waits ss) → (In slot (waits ss) → (t : SeenSlot) × In t ss × (waits_in standing holder t ≡ true) × (t.slot ≡ slot))
          → (t : SeenSlot) × In t (s ∷ ss) × (waits_in standing holder t ≡ true) × (t.slot ≡ slot)
      go true p (inl same) again = (s, inl refl, p, same)
      go true p (inr later) again = let more = again later in (more.0, inr more.1, more.2, more.3)
      go false p later again = let more = again later in (more.0, inr more.1, more.2, more.3)

  pub in_waits : (ss : List SeenSlot) (s : SeenSlot) → In s ss → waits_in standing holder s ≡ true → In s.slot (waits ss)
  unfolding waits
  in_waits [] s there is = absurd there
  in_waits (t ∷ ss) s (inl same) is = go (waits_in standing holder t) (ap (waits_in standing holder) same ∙ is)
    where
      go : (b : Bool) → b ≡ true → In s.slot (if b then t.slot ∷ waits ss else waits ss)
      go true p = inl (ap (λ (u : SeenSlot). u.slot) same)
      go false p = absurd cc
  in_waits (t ∷ ss) s (inr later) is = go (waits_in standing holder t) (in_waits ss s later is)
    where
      go : (b : Bool) → In s.slot (waits ss) → In s.slot (if b then t.slot ∷ waits ss else waits ss)
      go true there = inr there
      go false there = there

  pub waits_once : (ss : List SeenSlot) → SlotsOnce ss → IsOnce (waits ss)
  unfolding waits
  waits_once [] once = tt
  waits_once (s ∷ ss) once = go (waits_in standing holder s) (waits_once ss once.1)
    where
      never : In s.slot (waits ss) → ⊥
      never there = let one = waits_seen ss s.slot there in true≢false (sym (seen_true ss one.0 s.slot one.1 one.3) ∙ once.0)

      go : (b : Bool) → IsOnce (waits ss) → IsOnce (if b then s.slot ∷ waits ss else waits ss)
      go true later = (never, later)
      go false later = later

-- ---- the ways of one holder

module _ (is_open : Bool) (standing : List Standing) (ss : List SeenSlot) (holder : Option ℕ) (slots : ℕ → Origin) (n : ℕ) where
  abbrev pub part : List Origin
  part = waits standing holder ss ++ (if is_open then unseen slots ss n else [])

  -- a slot that waits, or one that is not seen
  pub record IsUnseen (slot : Origin) : Type 0 where
    pub opens : is_open ≡ true
    pub number : ℕ
    pub inside : number < n
    pub is : slots number ≡ slot
    pub none : is_seen ss slot ≡ false

  pub record Waits (slot : Origin) : Type 0 where
    pub seen : SeenSlot
    pub there : In seen ss
    pub it_waits : waits_in standing holder seen ≡ true
    pub is : seen.slot ≡ slot

  pub part_in : (slot : Origin) → In slot part → Waits slot ⊎ IsUnseen slot
  part_in slot there = elim (in_either slot (waits standing holder ss) (if is_open then unseen slots ss n else []) there) [
    | inl here ↦ inl (let one = waits_seen standing holder ss slot here in record { seen = one.0; there = one.1; it_waits = one.2; is = one.3 })
    | inr later ↦ inr (go is_open refl later)
  ]
    where
      go : (b : Bool) → is_open ≡ b → In slot (if b then unseen slots ss n else []) → IsUnseen slot
      go true p there = let one = unseen_in slots ss n slot there in record { opens = p; number = one.0; inside = one.1; is = one.2; none = one.3 }
      go false p there = absurd there

  pub in_part : (slot : Origin) → Waits slot ⊎ IsUnseen slot → In slot part
  in_part slot (inl wait) = subst (λ (o : Origin). In o part) wait.is (in_left wait.seen.slot (waits standing holder ss) (if is_open then unseen slots ss n else []) (in_waits standing holder ss wait.seen wait.there wait.it_waits))
  in_part slot (inr free) =
      subst (λ (o : Origin). In o part) free.is (in_right (slots free.number) (waits standing holder ss) (if is_open then unseen slots ss n else [])
      (subst (λ (b : Bool). In (slots free.number) (if b then unseen slots ss n else [])) (sym free.opens) (in_unseen slots ss n free.number free.inside (ap (is_seen ss) free.is ∙ free.none))))

  module _ (index : Origin → ℕ) (back : (i : ℕ) → index (slots i) ≡ i) (holds : (i : ℕ) → holder_of (slots i) ≡ holder) (once : SlotsOnce ss) where
    pub part_once : IsOnce part
    part_once = once_append (waits standing holder ss) (if is_open then unseen slots ss n else []) (waits_once standing holder ss once) (go is_open) apart
      where
        go : (b : Bool) → IsOnce (if b then unseen slots ss n else [])
        go true = unseen_once slots index back ss n
        go false = tt

        apart : (slot : Origin) → In slot (waits standing holder ss) → In slot (if is_open then unseen slots ss n else []) → ⊥
        apart slot here there = pick is_open there
          where
            pick : (b : Bool) → In slot (if b then unseen slots ss n else []) → ⊥
            pick true later =
                let one = waits_seen standing holder ss slot here in
                let other = unseen_in slots ss n slot later in
                true≢false (sym (seen_true ss one.0 slot one.1 one.3) ∙ other.3)
            pick false later = later

    -- the slots of the part are the holder's
    pub part_holder : (slot : Origin) → In slot part → holder_of slot ≡ holder
    part_holder slot there = elim (part_in slot there) [
      | inl wait ↦ ap holder_of (sym wait.is) ∙ holder_right (holder_of wait.seen.slot) holder ((and_parts (is_held_by holder wait.seen) _ wait.it_waits).0)
      | inr free ↦ ap holder_of (sym free.is) ∙ holds free.number
    ]

    pub part_length : AreAmong slots index back holder holds n ss → length part ≡ length (filter (waits_in standing holder) ss) + (if is_open then n - length (filter (is_held_by holder) ss) else 0)
    part_length among =
        length-append (waits standing holder ss) (if is_open then unseen slots ss n else [])
        ∙ (let first = waits_length standing holder ss in let second = go is_open in omega (arith, first, second))
      where
        go : (b : Bool) → length (if b then unseen slots ss n else []) ≡ (if b then n - length (filter (is_held_by holder) ss) else 0)
        go true = let all = unseen_length slots index back holder holds n ss once among in omega (arith, all)
        go false = refl

-- ---- as many ways as objects that want one

module _ (known : ℕ → Known) (ways part : ℕ → List Origin) (grows : (n : ℕ) → ways (suc n) ≡ ways n ++ part n) where
  pub more_ways : (n k : ℕ) (slot : Origin) → In slot (ways n) → In slot (ways (n + k))
  more_ways n zero slot there = subst (λ (m : ℕ). In slot (ways m)) (let e : n ≡ n + zero = omega arith in e) there
  more_ways n (suc k) slot there =
      subst (λ (m : ℕ). In slot (ways m)) (let e : suc (n + k) ≡ n + suc k = omega arith in e)
      (subst (λ (l : List Origin). In slot l) (sym (grows (n + k))) (in_left slot (ways (n + k)) (part (n + k)) (more_ways n k slot there)))

  pub same_way : (n k i : ℕ) (slot : Origin) → slice_get (ways n) i ≡ Some slot → slice_get (ways (n + k)) i ≡ Some slot
  same_way n zero i slot at = subst (λ (m : ℕ). slice_get (ways m) i ≡ Some slot) (let e : n ≡ n + zero = omega arith in e) at
  same_way n (suc k) i slot at =
      subst (λ (m : ℕ). slice_get (ways m) i ≡ Some slot) (let e : suc (n + k) ≡ n + suc k = omega arith in e)
      (subst (λ (l : List Origin). slice_get l i ≡ Some slot) (sym (grows (n + k))) (in_front (ways (n + k)) (part (n + k)) i slot (same_way n k i slot at)))

  -- the ways of the first so many objects that want one
  unfoldable their_ways : (ℕ → Origin) → ℕ → List Origin
  their_ways way zero = []
  their_ways way (suc n) = if (known n).is_found then their_ways way n else way n ∷ their_ways way n

  their_number : (way : ℕ → Origin) (n : ℕ) → length (their_ways way n) ≡ missing_below known n
  unfolding their_ways
  their_number way zero = refl
  their_number way (suc n) = go (known n).is_found (their_number way n)
    where
      go : (b : Bool) → length (their_ways way n) ≡ missing_below known n → length (if b then their_ways way n else way n ∷ their_ways way n) ≡ missing_below known n + wanted b
      go true before = omega (arith, before)
      go false before = omega (arith, before)

  their_own : (way : ℕ → Origin) (n : ℕ) (slot : Origin) → In slot (their_ways way n) → (m : ℕ) × (m < n) × ((known m).is_found ≡ false) × (way m ≡ slot)
  unfolding their_ways
  their_own way zero slot there = absurd there
  their_own way (suc n) slot there = go (known n).is_found refl there (λ before. their_own way n slot before)
    where
      go : (b : Bool) → (known n).is_found ≡ b → In slot (if b then their_ways way n else way n ∷ their_ways way n) → (In slot (their_ways way n) → (m : ℕ) × (m < n) × ((known m).is_found ≡ false) × (way m ≡ slot))
          → (m : ℕ) × (m < suc n) × ((known m).is_found ≡ false) × (way m ≡ slot)
      go true p before again = let one = again before in (one.0, omega (arith, one.1), one.2, one.3)
      go false p (inl same) again = (n, omega arith, p, same)
      go false p (inr before) again = let one = again before in (one.0, omega (arith, one.1), one.2, one.3)

  module _ (count : ℕ) where
    abbrev pub Lost : ℕ → Type 0
    Lost n = (n < count) × ((known n).is_found ≡ false)

    -- each object that wants one has a way of its own
    pub record HaveWays (way : ℕ → Origin) : Type 0 where
      pub leads : (n : ℕ) → Lost n → In (way n) (ways n)
      pub apart : (one other : ℕ) → Lost one → Lost other → way one ≡ way other → one ≡ other

    their_once : (way : ℕ → Origin) → HaveWays way → (n : ℕ) → n ≤ count → IsOnce (their_ways way n)
    unfolding their_ways
    their_once way have zero within = tt
    their_once way have (suc n) within = go (known n).is_found refl (their_once way have n (omega (arith, within)))
      where
        never : (known n).is_found ≡ false → In (way n) (their_ways way n) → ⊥
        never lost there =
            let one = their_own way n (way n) there in
            let same : one.0 ≡ n = have.apart one.0 n (omega (arith, one.1, within), one.2) (omega (arith, within), lost) one.3 in
            omega (arith, same, one.1)

        go : (b : Bool) → (known n).is_found ≡ b → IsOnce (their_ways way n) → IsOnce (if b then their_ways way n else way n ∷ their_ways way n)
        go true p before = before
        go false p before = (never p, before)

    pub enough_of : (way : ℕ → Origin) → HaveWays way → (n : ℕ) → n < count → missing_below known (suc n) ≤ length (ways n)
    enough_of way have n inside =
        let fewer : length (their_ways way (suc n)) ≤ length (ways n) = no_longer (their_ways way (suc n)) (ways n) (their_once way have (suc n) (omega (arith, inside))) each in
        let many : length (their_ways way (suc n)) ≡ missing_below known (suc n) = their_number way (suc n) in
        omega (arith, fewer, many)
      where
        each : (slot : Origin) → In slot (their_ways way (suc n)) → In slot (ways n)
        each slot there =
            let one = their_own way (suc n) slot there in
            let place : one.0 + (n - one.0) ≡ n = (let low : one.0 < suc n = one.1 in omega (arith, low)) in
            subst (λ (m : ℕ). In slot (ways m)) place (more_ways one.0 (n - one.0) slot (subst (λ (o : Origin). In o (ways one.0)) one.3 (have.leads one.0 (let low : one.0 < suc n = one.1 in omega (arith, low, inside), one.2))))

    -- the way of an object is the one that has as many before it as objects want one
    abbrev pub next_way : ℕ → Origin
    next_way n = unwrap_or (slice_get (ways count) (missing_below known n)) (Arg 0)

    missing_rises : (one more : ℕ) → (known one).is_found ≡ false → missing_below known one < missing_below known (suc one + more)
    missing_rises one zero lost =
        let place : suc one ≡ suc one + zero = omega arith in
        let here : wanted (known one).is_found ≡ 1 = ap wanted lost in
        subst (λ (m : ℕ). missing_below known one < missing_below known m) place (let e : missing_below known one < missing_below known one + wanted (known one).is_found = omega (arith, here) in e)
    missing_rises one (suc more) lost =
        let place : suc (suc one + more) ≡ suc one + suc more = omega arith in
        let before : missing_below known one < missing_below known (suc one + more) = missing_rises one more lost in
        subst (λ (m : ℕ). missing_below known one < missing_below known m) place
        (let e : missing_below known one < missing_below known (suc one + more) + wanted (known (suc one + more)).is_found = omega (arith, before) in e)

    pub have_next : IsOnce (ways count) → ((n : ℕ) → n < count → missing_below known (suc n) ≤ length (ways n)) → HaveWays next_way
    have_next once enough = record { leads = leads; apart = apart }
      where
        at : (n : ℕ) → Lost n → (slot : Origin) × (slice_get (ways n) (missing_below known n) ≡ Some slot) × (slice_get (ways count) (missing_below known n) ≡ Some slot)
        at n lost =
            let fits : missing_below known (suc n) ≤ length (ways n) = enough n lost.0 in
            let here : wanted (known n).is_found ≡ 1 = ap wanted lost.1 in
            let one = place_there (ways n) (missing_below known n) (let e : missing_below known n < length (ways n) = omega (arith, fits, here) in e) in
            let place : n + (count - n) ≡ count = (let low : n < count = lost.0 in omega (arith, low)) in
            (one.0, one.1, subst (λ (m : ℕ). slice_get (ways m) (missing_below known n) ≡ Some one.0) place (same_way n (count - n) (missing_below known n) one.0 one.1))

        is_next : (n : ℕ) (lost : Lost n) → next_way n ≡ (at n lost).0
        is_next n lost = ap (λ (o : Option Origin). unwrap_or o (Arg 0)) (at n lost).2

        leads : (n : ℕ) → Lost n → In (next_way n) (ways n)
        leads n lost = subst (λ (o : Origin). In o (ways n)) (sym (is_next n lost)) (at_in (ways n) (missing_below known n) (at n lost).0 (at n lost).1)

        same_number : (one other : ℕ) → Lost one → Lost other → missing_below known one ≡ missing_below known other → one ≡ other
        same_number one other p q same = go (one == other) refl
          where
            less : (low high : ℕ) → (known low).is_found ≡ false → low < high → missing_below known low < missing_below known high
            less low high lost below =
                let place : suc low + (high - suc low) ≡ high = omega (arith, below) in
                subst (λ (m : ℕ). missing_below known low < missing_below known m) place (missing_rises low (high - suc low) lost)

            go : (b : Bool) → (one == other) ≡ b → one ≡ other
            go true e = eqb-true one other e
            go false e = absurd (last (nat_lt one other) refl (nat_lt other one) refl)
              where
                last : (a : Bool) → nat_lt one other ≡ a → (c : Bool) → nat_lt other one ≡ c → ⊥
                last true f c g = let up = less one other p.1 (ltb-true one other f) in omega (arith, up, same)
                last false f true g = let up = less other one q.1 (ltb-true other one g) in omega (arith, up, same)
                last false f false g = (let low = ltb-false one other f in let high = ltb-false other one g in let apart : one ≡ other → ⊥ = eqb-false one other e in apart (omega (arith, low, high)))

        apart : (one other : ℕ) → Lost one → Lost other → next_way one ≡ next_way other → one ≡ other
        apart one other p q same =
            let slots : (at one p).0 ≡ (at other q).0 = sym (is_next one p) ∙ same ∙ is_next other q in
            same_number one other p q (same_place (ways count) (missing_below known one) (missing_below known other) (at other q).0 once ((at one p).2 ∙ ap (λ (o : Origin). Some o) slots) (at other q).2)
