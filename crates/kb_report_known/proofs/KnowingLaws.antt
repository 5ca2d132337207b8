-- What is noted of objects is what the lines say, line by line.
use Rattle.std.proofs.Common.{◌≡◌, ◌⊎◌, ◌↔◌, inl, inr, ℕ, suc, ◌+◌, ◌-◌, ◌<◌, ◌≤◌, ◌==◌, ◌&&◌, max, Bool, true, false, true≢false, List, [], ◌∷◌, ◌++◌, length, length-append, Option, Some, None, refl, sym, ap, subst, ◌∙◌, arith, cond, if◌then◌else◌}
use Rattle.std.specs.Prelude.{slice_get, filter, is_none, nat_lt}
use Rattle.std.specs.BTreeMap.{insert_entry}
use Rattle.std.specs.Ordering.{is_eq, match_ordering, nat_cmp}
use Rattle.std.specs.declared.cmp.Ordering.{Ordering}
use Rattle.std.specs.declared.cmp.Ordering.TheVariants.{Less, Equal, Greater}
use Rattle.std.proofs.lemmas.Bool.{eqb-false, eqb-true, eq-eqb, ltb-false, ltb-true, lt-ltb}
use Rattle.std.proofs.lemmas.Option.{none-some, same_Some}
use Rattle.kb_class.specs.Naming.{Has}
use Rattle.kb_classes.specs.World.{World}
use Rattle.kb_names.specs.declared.types.ExactType.{ExactType}
use Rattle.kb_picture.specs.WellFormed.{IsLengthOf}
use Rattle.kb_picture.specs.declared.picture.Length.{Length}
use Rattle.kb_picture.specs.declared.picture.Origin.{Origin}
use Rattle.kb_picture.specs.declared.picture.Origin.TheVariants.{Arg}
use Rattle.kb_picture.specs.declared.picture.Seen.{Seen}
use Rattle.kb_picture.specs.declared.picture.Seen.TheVariants as seens
use Rattle.kb_picture.specs.declared.picture.Standing.{Standing}
use Rattle.kb_picture.specs.declared.picture.Standing.TheVariants as standings
use Rattle.kb_report_known.proofs.FindingLaws.{index_of, is_argument}
use Rattle.kb_report_known.proofs.TableLaws.{is_key}
use Rattle.kb_report_known.proofs.ListLaws.{In, at_either, filter_less, filter_more, filter_same, get_inside, get_next, get_past, has_before, has_either, has_last, in_at, in_front, one_if}
use Rattle.kb_report_known.proofs.WayLaws.{holder_left, holder_right, in_unseen, is_seen, seen_slot, slots_once, unseen, unseen_length}
use Rattle.kb_report_known.specs.Counts.{NamedObjects, SeesSlot, found_among, is_smaller, known_at, known_of, no_objects, now_found, seen_more, waiting_less, waiting_more, with_argument, with_known, with_lead, with_line, with_object, with_waiting}
use Rattle.kb_report_known.specs.Finding.{Holds, IsFound, IsNotSeen, IsSlotWith, IsSmaller, Knows, SeenSlot, holder_of, is_held_by, is_waiting, same_holder, waits_in}
use Rattle.kb_report_known.specs.Known.{FitsShape, IsShapeIn}
use Rattle.kb_report_known.specs.declared.known.Known.{Known}

-- ---- an entry more

at_inserted : (entries : List (ℕ × Known)) (number : ℕ) (known : Known) (other : ℕ) → found_among (insert_entry nat_cmp entries number known) other ≡ (if other == number then Some known else found_among entries other)
at_inserted [] number known other = ap (λ (b : Bool). cond b (Some known) None) (is_key other number)
at_inserted (e ∷ es) number known other = go (nat_cmp number e.0) refl (at_inserted es number known other)
  where
    Wanted : List (ℕ × Known) → Type 0
    Wanted entries = found_among entries other ≡ (if other == number then Some known else found_among (e ∷ es) other)

    equal : (number ≡ e.0) → (b : Bool) → (other == number) ≡ b → cond (is_eq (nat_cmp other e.0)) (Some known) (found_among es other) ≡ (if b then Some known else cond (is_eq (nat_cmp other e.0)) (Some e.1) (found_among es other))
    equal same true p = ap (λ (b : Bool). cond b (Some known) (found_among es other)) (is_key other e.0 ∙ ap (λ (n : ℕ). other == n) (sym same) ∙ p)
    equal same false p =
        let apart : is_eq (nat_cmp other e.0) ≡ false = is_key other e.0 ∙ ap (λ (n : ℕ). other == n) (sym same) ∙ p in
        ap (λ (b : Bool). cond b (Some known) (found_among es other)) apart ∙ sym (ap (λ (b : Bool). cond b (Some e.1) (found_among es other)) apart)

    behind : (number ≡ e.0 → ⊥) → found_among (insert_entry nat_cmp es number known) other ≡ (if other == number then Some known else found_among es other)
        → cond (is_eq (nat_cmp other e.0)) (Some e.1) (found_among (insert_entry nat_cmp es number known) other) ≡ (if other == number then Some known else cond (is_eq (nat_cmp other e.0)) (Some e.1) (found_among es other))
    behind apart more = pick (is_eq (nat_cmp other e.0)) refl (other == number) refl
      where
        pick : (a : Bool) → is_eq (nat_cmp other e.0) ≡ a → (b : Bool) → (other == number) ≡ b → cond a (Some e.1) (found_among (insert_entry nat_cmp es number known) other) ≡ (if b then Some known else cond a (Some e.1) (found_among es other))
        pick true p true q = absurd (apart (sym (eqb-true other number q) ∙ eqb-true other e.0 (sym (is_key other e.0) ∙ p)))
        pick true p false q = refl
        pick false p true q = more ∙ ap (λ (b : Bool). if b then Some known else found_among es other) q
        pick false p false q = more ∙ ap (λ (b : Bool). if b then Some known else found_among es other) q

    go : (o : Ordering) → nat_cmp number e.0 ≡ o → found_among (insert_entry nat_cmp es number known) other ≡ (if other == number then Some known else found_among es other)
        → Wanted (match_ordering o ((number, known) ∷ e ∷ es) ((e.0, known) ∷ es) (e ∷ insert_entry nat_cmp es number known))
    go Less p more = ap (λ (b : Bool). cond b (Some known) (found_among (e ∷ es) other)) (is_key other number)
    go Equal p more = equal (eqb-true number e.0 (sym (is_key number e.0) ∙ ap is_eq p)) (other == number) refl
    go Greater p more = behind (eqb-false number e.0 (sym (is_key number e.0) ∙ ap is_eq p)) more

module _ (objects : NamedObjects) (number : ℕ) (known : Known) where
  known_here : known_at (with_known objects number known) number ≡ known
  known_here = ap known_of (at_inserted objects.entries number known number ∙ ap (λ (b : Bool). if b then Some known else found_among objects.entries number) (eq-eqb number number refl))

  known_apart : (other : ℕ) → (other ≡ number → ⊥) → known_at (with_known objects number known) other ≡ known_at objects other
  known_apart other apart = ap known_of (at_inserted objects.entries number known other ∙ ap (λ (b : Bool). if b then Some known else found_among objects.entries other) (differ (other == number) refl))
    where
      differ : (b : Bool) → (other == number) ≡ b → (other == number) ≡ false
      differ true p = absurd (apart (eqb-true other number p))
      differ false p = p

  -- what an entry does not change stays
  known_same : {A : Type 0} (part : Known → A) → part known ≡ part (known_at objects number) → (other : ℕ) → part (known_at (with_known objects number known) other) ≡ part (known_at objects other)
  known_same part same other = go (other == number) refl
    where
      go : (b : Bool) → (other == number) ≡ b → part (known_at (with_known objects number known) other) ≡ part (known_at objects other)
      go true p =
          let here : other ≡ number = eqb-true other number p in
          ap (λ (n : ℕ). part (known_at (with_known objects number known) n)) here ∙ ap part known_here ∙ same ∙ ap (λ (n : ℕ). part (known_at objects n)) (sym here)
      go false p = ap part (known_apart other (eqb-false other number p))

-- it holds no object, and is no location without a line
pub record IsPlain (standing : List Standing) (held : Seen) : Type 0 where
  pub stays : is_waiting standing held ≡ false
  pub none : (number : ℕ) → Holds standing held number → ⊥

-- ---- no lines

pub knows_none : (world : World) (params : ℕ) → Knows world params [] [] (no_objects params)
knows_none world params = record {
  once = λ i j one other p q same. absurd cc;
  arguments = λ slot number there is. absurd (nowhere slot there);
  shapes = λ number kind length is. ((λ fits slot there holder. absurd (nowhere slot there)), (λ all. tt));
  theirs = λ number. tt;
  seen_are = λ number. refl;
  waiting_are = λ number. refl;
  arguments_seen = omega arith;
  arguments_waiting = refl;
  found = λ number. ((λ none. absurd cc), (λ found. absurd (nowhere found.slot found.is_seen)));
  holders = λ slot number there holder. absurd (nowhere slot there);
  helds = λ slot number there holds. absurd (nowhere slot there);
}
  where
    nowhere : (slot : SeenSlot) → Has {A = SeenSlot} [] slot → ⊥
    nowhere slot there = none-some slot there.1

-- ---- see lines

module _ (world : World) (params : ℕ) (seen : List SeenSlot) (standing : List Standing) (objects : NamedObjects) (knows : Knows world params seen standing objects) (slot : SeenSlot)
    (new : IsNotSeen seen slot.slot) (plain : IsPlain standing slot.held) where
  abbrev Now : List SeenSlot
  Now = seen ++ slot ∷ []

  once_now : (i j : ℕ) (one other : SeenSlot) → slice_get Now i ≡ Some one → slice_get Now j ≡ Some other → one.slot ≡ other.slot → i ≡ j
  once_now i j one other p q same = go (at_either seen slot i one p) (at_either seen slot j other q)
    where
      go : (slice_get seen i ≡ Some one) ⊎ ((i ≡ length seen) × (slot ≡ one)) → (slice_get seen j ≡ Some other) ⊎ ((j ≡ length seen) × (slot ≡ other)) → i ≡ j
      go (inl a) (inl b) = knows.once i j one other a b same
      go (inl a) (inr b) = absurd (new one (i, a) (same ∙ ap (λ (s : SeenSlot). s.slot) (sym b.1)))
      go (inr a) (inl b) = absurd (new other (j, b) (sym same ∙ ap (λ (s : SeenSlot). s.slot) (sym a.1)))
      go (inr a) (inr b) = a.0 ∙ sym b.0

  found_now : (number : ℕ) → IsFound Now standing number ↔ IsFound seen standing number
  found_now number = (back, onto)
    where
      onto : IsFound seen standing number → IsFound Now standing number
      onto found = record { slot = found.slot; is_seen = has_before seen slot found.slot found.is_seen; smaller = found.smaller; holds = found.holds }

      back : IsFound Now standing number → IsFound seen standing number
      back found = elim (has_either seen slot found.slot found.is_seen) [
        | inl before ↦ record { slot = found.slot; is_seen = before; smaller = found.smaller; holds = found.holds }
        | inr last ↦ absurd (plain.none number (subst (λ (s : SeenSlot). Holds standing s.held number) (sym last) found.holds))
      ]

  not_held : (holder other : Option ℕ) → holder_of slot.slot ≡ holder → (holder ≡ other → ⊥) → is_held_by other slot ≡ false
  not_held holder other is apart = go (is_held_by other slot) refl
    where
      go : (b : Bool) → is_held_by other slot ≡ b → is_held_by other slot ≡ false
      go true p = absurd (apart (sym is ∙ holder_right (holder_of slot.slot) other p))
      go false p = p

  none_waits : (holder : Option ℕ) → waits_in standing holder slot ≡ false
  none_waits holder = ap (λ (b : Bool). is_held_by holder slot && b) plain.stays ∙ never (is_held_by holder slot)
    where
      never : (a : Bool) → (a && false) ≡ false
      never true = refl
      never false = refl

  waiting_now : (holder : Option ℕ) → length (filter (waits_in standing holder) Now) ≡ length (filter (waits_in standing holder) seen)
  waiting_now holder =
      let more : length (filter (waits_in standing holder) Now) ≡ length (filter (waits_in standing holder) seen) + one_if (waits_in standing holder slot) = filter_more (waits_in standing holder) seen slot in
      let none : one_if (waits_in standing holder slot) ≡ 0 = ap one_if (none_waits holder) in
      omega (arith, more, none)

  held_now : (holder : Option ℕ) (b : Bool) → is_held_by holder slot ≡ b → length (filter (is_held_by holder) Now) ≡ length (filter (is_held_by holder) seen) + one_if b
  held_now holder b is = filter_more (is_held_by holder) seen slot ∙ ap (λ (t : Bool). length (filter (is_held_by holder) seen) + one_if t) is

  helds_now : (count : ℕ) → objects.count ≤ count → (other : SeenSlot) (number : ℕ) → Has Now other → Holds standing other.held number → number < count
  helds_now count more other number there holds = elim (has_either seen slot other there) [
    | inl before ↦ (let low : number < objects.count = knows.helds other number before holds in omega (arith, low, more))
    | inr last ↦ absurd (plain.none number (subst (λ (s : SeenSlot). Holds standing s.held number) (sym last) holds))
  ]

  -- an argument is seen
  pub knows_argument : (number : ℕ) → slot.slot ≡ Arg number → number < params → Knows world params Now standing (with_argument objects)
  knows_argument argument is inside = record {
    once = once_now;
    arguments = arguments_now;
    shapes = λ number kind length len. (
      (λ fits other there holder. elim (has_either seen slot other there) [
        | inl before ↦ (knows.shapes number kind length len).0 fits other before holder
        | inr last ↦ absurd (none-some number (sym none ∙ ap (λ (s : SeenSlot). holder_of s.slot) last ∙ holder))
      ]),
      (λ all. (knows.shapes number kind length len).1 (λ other there holder. all other (has_before seen slot other there) holder)),
    );
    theirs = knows.theirs;
    seen_are = λ number. knows.seen_are number ∙ (let more = held_now (Some number) false (not_held None (Some number) none (none-some number)) in omega (arith, more));
    waiting_are = λ number. knows.waiting_are number ∙ sym (waiting_now (Some number));
    arguments_seen = (let more = held_now None true (holder_left (holder_of slot.slot) None none) in omega (arith, more, knows.arguments_seen, some));
    arguments_waiting = knows.arguments_waiting ∙ sym (waiting_now None);
    found = λ number. ((λ is_found. (found_now number).1 ((knows.found number).0 is_found)), (λ found. (knows.found number).1 ((found_now number).0 found)));
    holders = λ other number there holder. elim (has_either seen slot other there) [
      | inl before ↦ knows.holders other number before holder
      | inr last ↦ absurd (none-some number (sym none ∙ ap (λ (s : SeenSlot). holder_of s.slot) last ∙ holder))
    ];
    helds = helds_now objects.count (omega arith);
  }
    where
      none : holder_of slot.slot ≡ None
      none = ap holder_of is

      arguments_now : (other : SeenSlot) (number : ℕ) → Has Now other → other.slot ≡ Arg number → number < params
      arguments_now other number there it = elim (has_either seen slot other there) [
        | inl before ↦ knows.arguments other number before it
        | inr last ↦ (
            let same : argument ≡ number = ap index_of (sym is ∙ ap (λ (s : SeenSlot). s.slot) last ∙ it) in
            subst (λ (n : ℕ). n < params) same inside)
      ]

      -- it was one of those that were not seen
      some : 0 < objects.unseen
      some =
          let all : length (unseen Arg seen params) + length (filter (is_held_by None) seen) ≡ params =
          unseen_length Arg index_of (λ i. refl) None (λ i. refl) params seen (slots_once seen knows.once)
          (λ other there holder. (let it = is_argument other.slot holder in (knows.arguments other (index_of other.slot) (in_at other seen there) it, it))) in
          let one : 0 < length (unseen Arg seen params) = has_some (unseen Arg seen params) (Arg argument) (in_unseen Arg seen params argument inside free) in
          omega (arith, all, one, knows.arguments_seen)
        where
          free : is_seen seen (Arg argument) ≡ false
          free = go (is_seen seen (Arg argument)) refl
            where
              go : (b : Bool) → is_seen seen (Arg argument) ≡ b → is_seen seen (Arg argument) ≡ false
              go false p = p
              go true p = let one = seen_slot seen (Arg argument) p in absurd (new one.0 (in_at one.0 seen one.1) (one.2 ∙ sym is))

          has_some : (l : List Origin) (o : Origin) → In o l → 0 < length l
          has_some [] o there = absurd there
          has_some (x ∷ l) o there = omega arith

  -- a slot of an object is seen
  pub knows_slot : (Has_it : ExactType → Length → Type 0) (Names : Type 0) (holder : ℕ) (after : NamedObjects) → holder_of slot.slot ≡ Some holder → SeesSlot world Has_it Names holder objects after true → Names
      → ((kind : ExactType) (length : Length) → IsLengthOf kind length → Has_it kind length ↔ IsSlotWith world kind length slot.slot slot.text) → Knows world params Now standing after
  knows_slot Has_it Names holder after is sees names means = subst (λ (o : NamedObjects). Knows world params Now standing o) (sym sees.2) (record {
    once = once_now;
    arguments = λ other number there it. elim (has_either seen slot other there) [
      | inl before ↦ knows.arguments other number before it
      | inr last ↦ absurd (none-some holder (sym (ap (λ (s : SeenSlot). holder_of s.slot) last ∙ ap holder_of it) ∙ is))
    ];
    shapes = λ number kind length len. shapes_now number kind length len (number == holder) refl;
    theirs = λ number. theirs_now number (number == holder) refl;
    seen_are = λ number. seen_now number (number == holder) refl;
    waiting_are = λ number. known_same objects holder later (λ (k : Known). k.waiting) refl number ∙ knows.waiting_are number ∙ sym (waiting_now (Some number));
    arguments_seen = (let more = held_now None false (not_held (Some holder) None is (λ e. none-some holder (sym e))) in omega (arith, more, knows.arguments_seen));
    arguments_waiting = knows.arguments_waiting ∙ sym (waiting_now None);
    found = λ number. (
      (λ is_found. (found_now number).1 ((knows.found number).0 (sym (known_same objects holder later (λ (k : Known). k.is_found) refl number) ∙ is_found))),
      (λ found. known_same objects holder later (λ (k : Known). k.is_found) refl number ∙ (knows.found number).1 ((found_now number).0 found)),
    );
    holders = λ other number there it. elim (has_either seen slot other there) [
      | inl before ↦ (let low : number < objects.count = knows.holders other number before it in omega (arith, low))
      | inr last ↦ (let same : holder ≡ number = same_Some holder number (sym is ∙ ap (λ (s : SeenSlot). holder_of s.slot) last ∙ it) in omega (arith, same))
    ];
    helds = helds_now (max objects.count (suc holder)) (omega arith);
  })
    where
      later : Known
      later = seen_more (known_at objects holder) sees.0

      After : NamedObjects
      After = with_known objects holder later

      shapes_now : (number : ℕ) (kind : ExactType) (len : Length) → IsLengthOf kind len → (b : Bool) → (number == holder) ≡ b
          → FitsShape world kind len (known_at After number).shape ↔ ((other : SeenSlot) → Has Now other → holder_of other.slot ≡ Some number → IsSlotWith world kind len other.slot other.text)
      shapes_now number kind len is_of true p = (onto, back)
        where
          same : number ≡ holder
          same = eqb-true number holder p

          shape_is : (known_at After number).shape ≡ sees.0
          shape_is = ap (λ (n : ℕ). (known_at After n).shape) same ∙ ap (λ (k : Known). k.shape) (known_here objects holder later)

          parts : FitsShape world kind len sees.0 ↔ (FitsShape world kind len (known_at objects holder).shape × Has_it kind len)
          parts = sees.1 kind len is_of

          onto : FitsShape world kind len (known_at After number).shape → (other : SeenSlot) → Has Now other → holder_of other.slot ≡ Some number → IsSlotWith world kind len other.slot other.text
          onto fits other there it =
              let both = parts.0 (subst (FitsShape world kind len) shape_is fits) in
              elim (has_either seen slot other there) [
                | inl before ↦ (knows.shapes holder kind len is_of).0 both.0 other before (it ∙ ap (λ (n : ℕ). Some n) same)
                | inr last ↦ subst (λ (s : SeenSlot). IsSlotWith world kind len s.slot s.text) last ((means kind len is_of).0 both.1)
              ]

          back : ((other : SeenSlot) → Has Now other → holder_of other.slot ≡ Some number → IsSlotWith world kind len other.slot other.text) → FitsShape world kind len (known_at After number).shape
          back all =
              subst (FitsShape world kind len) (sym shape_is) (parts.1 (
                (knows.shapes holder kind len is_of).1 (λ other there it. all other (has_before seen slot other there) (it ∙ ap (λ (n : ℕ). Some n) (sym same))),
                (means kind len is_of).1 (all slot (has_last seen slot) (is ∙ ap (λ (n : ℕ). Some n) (sym same))),
              ))
      shapes_now number kind len is_of false p = (onto, back)
        where
          apart : number ≡ holder → ⊥
          apart = eqb-false number holder p

          shape_is : (known_at After number).shape ≡ (known_at objects number).shape
          shape_is = ap (λ (k : Known). k.shape) (known_apart objects holder later number apart)

          onto : FitsShape world kind len (known_at After number).shape → (other : SeenSlot) → Has Now other → holder_of other.slot ≡ Some number → IsSlotWith world kind len other.slot other.text
          onto fits other there it = elim (has_either seen slot other there) [
            | inl before ↦ (knows.shapes number kind len is_of).0 (subst (FitsShape world kind len) shape_is fits) other before it
            | inr last ↦ absurd (apart (same_Some number holder (sym it ∙ ap (λ (s : SeenSlot). holder_of s.slot) (sym last) ∙ is)))
          ]

          back : ((other : SeenSlot) → Has Now other → holder_of other.slot ≡ Some number → IsSlotWith world kind len other.slot other.text) → FitsShape world kind len (known_at After number).shape
          back all = subst (FitsShape world kind len) (sym shape_is) ((knows.shapes number kind len is_of).1 (λ other there it. all other (has_before seen slot other there) it))

      theirs_now : (number : ℕ) (b : Bool) → (number == holder) ≡ b → IsShapeIn world (known_at After number).shape
      theirs_now number true p =
          subst (IsShapeIn world) (sym (ap (λ (n : ℕ). (known_at After n).shape) (eqb-true number holder p) ∙ ap (λ (k : Known). k.shape) (known_here objects holder later))) (sees.3 names (knows.theirs holder))
      theirs_now number false p = subst (IsShapeIn world) (sym (ap (λ (k : Known). k.shape) (known_apart objects holder later number (eqb-false number holder p)))) (knows.theirs number)

      seen_now : (number : ℕ) (b : Bool) → (number == holder) ≡ b → (known_at After number).seen ≡ length (filter (is_held_by (Some number)) Now)
      seen_now number true p =
          let same : number ≡ holder = eqb-true number holder p in
          let here : (known_at After number).seen ≡ suc (known_at objects holder).seen = ap (λ (n : ℕ). (known_at After n).seen) same ∙ ap (λ (k : Known). k.seen) (known_here objects holder later) in
          let before : (known_at objects holder).seen ≡ length (filter (is_held_by (Some number)) seen) = ap (λ (n : ℕ). (known_at objects n).seen) (sym same) ∙ knows.seen_are number in
          let more = held_now (Some number) true (holder_left (holder_of slot.slot) (Some number) (is ∙ ap (λ (n : ℕ). Some n) (sym same))) in
          omega (arith, here, before, more)
      seen_now number false p =
          let apart : number ≡ holder → ⊥ = eqb-false number holder p in
          let more = held_now (Some number) false (not_held (Some holder) (Some number) is (λ e. apart (sym (same_Some holder number e)))) in
          let here : (known_at After number).seen ≡ (known_at objects number).seen = ap (λ (k : Known). k.seen) (known_apart objects holder later number apart) in
          omega (arith, here, more, knows.seen_are number)

-- ---- an object is led to

smaller_right : (holder : Option ℕ) (number : ℕ) → is_smaller holder number ≡ true → IsSmaller holder number
smaller_right None number is = tt
smaller_right (Some holder) number is = ltb-true holder number is

smaller_left : (holder : Option ℕ) (number : ℕ) → IsSmaller holder number → is_smaller holder number ≡ true
smaller_left None number smaller = refl
smaller_left (Some holder) number smaller = lt-ltb holder number smaller

module _ (objects : NamedObjects) (holder : Option ℕ) (number : ℕ) where
  Led : NamedObjects
  Led = with_lead objects holder number

  led_by : Bool → NamedObjects
  led_by smaller = if smaller then with_known objects number (now_found (known_at objects number)) else with_object objects number

  -- what finding an object does not change stays
  lead_same : {A : Type 0} (part : Known → A) → ((known : Known) → part (now_found known) ≡ part known) → (other : ℕ) → part (known_at (with_lead objects holder number) other) ≡ part (known_at objects other)
  unfolding led_by
  lead_same part same other = go (is_smaller holder number)
    where
      go : (b : Bool) → part (known_at (led_by b) other) ≡ part (known_at objects other)
      go true = known_same objects number (now_found (known_at objects number)) part (same (known_at objects number)) other
      go false = refl

  lead_counts : {A : Type 0} (part : NamedObjects → A) → ((known : Known) → part (with_known objects number known) ≡ part (with_object objects number)) → part (with_lead objects holder number) ≡ part (with_object objects number)
  unfolding led_by
  lead_counts part same = go (is_smaller holder number)
    where
      go : (b : Bool) → part (led_by b) ≡ part (with_object objects number)
      go true = same (now_found (known_at objects number))
      go false = refl

  lead_found : (other : ℕ) → ((known_at (with_lead objects holder number) other).is_found ≡ true) ↔ (((known_at objects other).is_found ≡ true) ⊎ (IsSmaller holder number × (number ≡ other)))
  unfolding led_by
  lead_found other = (onto (is_smaller holder number) refl, back (is_smaller holder number) refl)
    where
      onto : (b : Bool) → is_smaller holder number ≡ b → (known_at (led_by b) other).is_found ≡ true → ((known_at objects other).is_found ≡ true) ⊎ (IsSmaller holder number × (number ≡ other))
      onto false p found = inl found
      onto true p found = at (other == number) refl
        where
          at : (b : Bool) → (other == number) ≡ b → ((known_at objects other).is_found ≡ true) ⊎ (IsSmaller holder number × (number ≡ other))
          at true q = inr (smaller_right holder number p, sym (eqb-true other number q))
          at false q = inl (sym (ap (λ (k : Known). k.is_found) (known_apart objects number (now_found (known_at objects number)) other (eqb-false other number q))) ∙ found)

      back : (b : Bool) → is_smaller holder number ≡ b → ((known_at objects other).is_found ≡ true) ⊎ (IsSmaller holder number × (number ≡ other)) → (known_at (led_by b) other).is_found ≡ true
      back false p (inl found) = found
      back false p (inr led) = absurd (true≢false (sym (smaller_left holder number led.0) ∙ p))
      back true p (inr led) =
          ap (λ (n : ℕ). (known_at (led_by true) n).is_found) (sym led.1) ∙ ap (λ (k : Known). k.is_found) (known_here objects number (now_found (known_at objects number)))
      back true p (inl found) = at (other == number) refl
        where
          at : (b : Bool) → (other == number) ≡ b → (known_at (led_by true) other).is_found ≡ true
          at true q =
              ap (λ (n : ℕ). (known_at (led_by true) n).is_found) (eqb-true other number q) ∙ ap (λ (k : Known). k.is_found) (known_here objects number (now_found (known_at objects number)))
          at false q = ap (λ (k : Known). k.is_found) (known_apart objects number (now_found (known_at objects number)) other (eqb-false other number q)) ∙ found

-- ---- what the last slot is seen to hold

module _ (world : World) (params : ℕ) (seen : List SeenSlot) (standing : List Standing) (objects : NamedObjects) (slot : Origin) (text : List ℕ) (plain_held : Seen) (plain : IsPlain standing plain_held)
    (knows : Knows world params (seen ++ record { slot = slot; text = text; held = plain_held } ∷ []) standing objects) where
  abbrev With : Seen → SeenSlot
  With held = record { slot = slot; text = text; held = held }

  abbrev Seens : Seen → List SeenSlot
  Seens held = seen ++ With held ∷ []

  place_same : (one other : Seen) (i : ℕ) (s : SeenSlot) → slice_get (Seens one) i ≡ Some s → (t : SeenSlot) × (slice_get (Seens other) i ≡ Some t) × (t.slot ≡ s.slot) × (t.text ≡ s.text)
  place_same one other i s at = elim (at_either seen (With one) i s at) [
    | inl before ↦ (s, in_front seen (With other ∷ []) i s before, refl, refl)
    | inr last ↦ (
      With other,
      ap (slice_get (Seens other)) last.0 ∙ get_next seen (With other),
      ap (λ (t : SeenSlot). t.slot) last.1,
      ap (λ (t : SeenSlot). t.text) last.1,
    )
  ]

  has_same : (one other : Seen) (s : SeenSlot) → Has (Seens one) s → (t : SeenSlot) × Has (Seens other) t × (t.slot ≡ s.slot) × (t.text ≡ s.text)
  has_same one other s there = let same = place_same one other there.0 s there.1 in (same.0, (there.0, same.1), same.2, same.3)

  held_same : (holder : Option ℕ) (held : Seen) → length (filter (is_held_by holder) (Seens held)) ≡ length (filter (is_held_by holder) (Seens plain_held))
  held_same holder held = filter_more (is_held_by holder) seen (With held) ∙ sym (filter_more (is_held_by holder) seen (With plain_held))

  plain_waits : (holder : Option ℕ) → length (filter (waits_in standing holder) (Seens plain_held)) ≡ length (filter (waits_in standing holder) seen)
  plain_waits holder =
      let more : length (filter (waits_in standing holder) (Seens plain_held)) ≡ length (filter (waits_in standing holder) seen) + one_if (waits_in standing holder (With plain_held)) = filter_more (waits_in standing holder) seen (With plain_held) in
      let none : one_if (waits_in standing holder (With plain_held)) ≡ 0 = ap (λ (b : Bool). one_if (same_holder (holder_of slot) holder && b)) plain.stays ∙ never (same_holder (holder_of slot) holder) in
      omega (arith, more, none)
    where
      never : (a : Bool) → one_if (a && false) ≡ 0
      never true = refl
      never false = refl

  -- what another held changes
  module _ (held : Seen) (after : NamedObjects) (shapes_stay : (number : ℕ) → (known_at after number).shape ≡ (known_at objects number).shape)
      (seen_stay : (number : ℕ) → (known_at after number).seen ≡ (known_at objects number).seen) (unseen_stay : after.unseen ≡ objects.unseen)
      (waiting_is : (number : ℕ) → (known_at after number).waiting ≡ length (filter (waits_in standing (Some number)) (Seens held)))
      (arguments_wait : after.waiting ≡ length (filter (waits_in standing None) (Seens held)))
      (found_is : (number : ℕ) → ((known_at after number).is_found ≡ true) ↔ IsFound (Seens held) standing number)
      (more : objects.count ≤ after.count) (held_inside : (number : ℕ) → Holds standing held number → number < after.count) where
    retold : Knows world params (Seens held) standing after
    retold = record {
      once = λ i j one other p q same. (
          let first = place_same held plain_held i one p in
          let second = place_same held plain_held j other q in
          knows.once i j first.0 second.0 first.1 second.1 (first.2 ∙ same ∙ sym second.2));
      arguments = λ s number there is. (let old = has_same held plain_held s there in knows.arguments old.0 number old.1 (old.2 ∙ is));
      shapes = λ number kind len is_of. (
        (λ fits s there holder. (
            let old = has_same held plain_held s there in
            let has = (knows.shapes number kind len is_of).0 (subst (FitsShape world kind len) (shapes_stay number) fits) old.0 old.1 (ap holder_of old.2 ∙ holder) in
            subst (λ (t : List ℕ). IsSlotWith world kind len s.slot t) old.3 (subst (λ (o : Origin). IsSlotWith world kind len o old.0.text) old.2 has))),
        (λ all. subst (FitsShape world kind len) (sym (shapes_stay number)) ((knows.shapes number kind len is_of).1 (λ s there holder. (
            let now = has_same plain_held held s there in
            let has = all now.0 now.1 (ap holder_of now.2 ∙ holder) in
            subst (λ (t : List ℕ). IsSlotWith world kind len s.slot t) now.3 (subst (λ (o : Origin). IsSlotWith world kind len o now.0.text) now.2 has))))),
      );
      theirs = λ number. subst (IsShapeIn world) (sym (shapes_stay number)) (knows.theirs number);
      seen_are = λ number. seen_stay number ∙ knows.seen_are number ∙ sym (held_same (Some number) held);
      waiting_are = waiting_is;
      arguments_seen = (let same = held_same None held in omega (arith, same, unseen_stay, knows.arguments_seen));
      arguments_waiting = arguments_wait;
      found = found_is;
      holders = λ s number there is. (
          let old = has_same held plain_held s there in
          let low : number < objects.count = knows.holders old.0 number old.1 (ap holder_of old.2 ∙ is) in
          omega (arith, low, more));
      helds = λ s number there holds. elim (has_either seen (With held) s there) [
        | inl before ↦ (let low : number < objects.count = knows.helds s number (has_before seen (With plain_held) s before) holds in omega (arith, low, more))
        | inr last ↦ held_inside number (subst (λ (t : SeenSlot). Holds standing t.held number) (sym last) holds)
      ];
    }

  found_before : (number : ℕ) (held : Seen) → IsFound (Seens held) standing number → IsFound (Seens plain_held) standing number ⊎ (IsSmaller (holder_of slot) number × Holds standing held number)
  found_before number held found = elim (has_either seen (With held) found.slot found.is_seen) [
    | inl before ↦ inl (record { slot = found.slot; is_seen = has_before seen (With plain_held) found.slot before; smaller = found.smaller; holds = found.holds })
    | inr last ↦ inr (
      subst (λ (t : SeenSlot). IsSmaller (holder_of t.slot) number) (sym last) found.smaller,
      subst (λ (t : SeenSlot). Holds standing t.held number) (sym last) found.holds,
    )
  ]

  found_after : (number : ℕ) (held : Seen) → IsFound (Seens plain_held) standing number → IsFound (Seens held) standing number
  found_after number held found = elim (has_either seen (With plain_held) found.slot found.is_seen) [
    | inl before ↦ record { slot = found.slot; is_seen = has_before seen (With held) found.slot before; smaller = found.smaller; holds = found.holds }
    | inr last ↦ absurd (plain.none number (subst (λ (t : SeenSlot). Holds standing t.held number) (sym last) found.holds))
  ]

  -- the slot is seen as an object
  pub knows_lead : (number : ℕ) → Knows world params (Seens (seens.Obj number)) standing (with_lead objects (holder_of slot) number)
  knows_lead number =
      retold (seens.Obj number) (with_lead objects (holder_of slot) number) (lead_same objects (holder_of slot) number (λ (k : Known). k.shape) (λ k. refl)) (lead_same objects (holder_of slot) number (λ (k : Known). k.seen) (λ k. refl))
      (lead_counts objects (holder_of slot) number (λ (o : NamedObjects). o.unseen) (λ k. refl))
      (λ other. lead_same objects (holder_of slot) number (λ (k : Known). k.waiting) (λ k. refl) other ∙ knows.waiting_are other ∙ waits_same (Some other))
      (lead_counts objects (holder_of slot) number (λ (o : NamedObjects). o.waiting) (λ k. refl) ∙ knows.arguments_waiting ∙ waits_same None) found_is
      (omega (arith, counts)) (λ other holds. subst (λ (n : ℕ). n < (with_lead objects (holder_of slot) number).count) holds (omega (arith, counts)))
    where
      counts : (with_lead objects (holder_of slot) number).count ≡ max objects.count (suc number)
      counts = lead_counts objects (holder_of slot) number (λ (o : NamedObjects). o.count) (λ k. refl)

      waits_same : (holder : Option ℕ) → length (filter (waits_in standing holder) (Seens plain_held)) ≡ length (filter (waits_in standing holder) (Seens (seens.Obj number)))
      waits_same holder =
          filter_more (waits_in standing holder) seen (With plain_held) ∙ ap (λ (b : Bool). length (filter (waits_in standing holder) seen) + one_if (same_holder (holder_of slot) holder && b)) plain.stays
          ∙ sym (filter_more (waits_in standing holder) seen (With (seens.Obj number)))

      found_is : (other : ℕ) → ((known_at (with_lead objects (holder_of slot) number) other).is_found ≡ true) ↔ IsFound (Seens (seens.Obj number)) standing other
      found_is other = (onto, back)
        where
          onto : (known_at (with_lead objects (holder_of slot) number) other).is_found ≡ true → IsFound (Seens (seens.Obj number)) standing other
          onto is_found = elim ((lead_found objects (holder_of slot) number other).0 is_found) [
            | inl before ↦ found_after other (seens.Obj number) ((knows.found other).0 before)
            | inr led ↦ record { slot = With (seens.Obj number); is_seen = has_last seen (With (seens.Obj number)); smaller = subst (IsSmaller (holder_of slot)) led.1 led.0; holds = led.1 }
          ]

          back : IsFound (Seens (seens.Obj number)) standing other → (known_at (with_lead objects (holder_of slot) number) other).is_found ≡ true
          back found = (lead_found objects (holder_of slot) number other).1 (told (found_before other (seens.Obj number) found))
            where
              told : IsFound (Seens plain_held) standing other ⊎ (IsSmaller (holder_of slot) other × Holds standing (seens.Obj number) other) → ((known_at objects other).is_found ≡ true) ⊎ (IsSmaller (holder_of slot) number × (number ≡ other))
              told (inl before) = inl ((knows.found other).1 before)
              told (inr last) = let same : number ≡ other = last.1 in inr (subst (IsSmaller (holder_of slot)) (sym same) last.0, same)

  -- the slot is seen as a location
  pub knows_wait : (location : ℕ) → slice_get standing location ≡ None → Knows world params (Seens (seens.Loc location)) standing (with_waiting objects (holder_of slot))
  knows_wait location none = go (holder_of slot) refl
    where
      held : Seen
      held = seens.Loc location

      waits : (holder : Option ℕ) (b : Bool) → same_holder (holder_of slot) holder ≡ b → length (filter (waits_in standing holder) (Seens (seens.Loc location))) ≡ length (filter (waits_in standing holder) (Seens plain_held)) + one_if b
      waits holder b is =
          let more : length (filter (waits_in standing holder) (Seens (seens.Loc location))) ≡ length (filter (waits_in standing holder) seen) + one_if (waits_in standing holder (With (seens.Loc location))) = filter_more (waits_in standing holder) seen (With (seens.Loc location)) in
          let one : one_if (waits_in standing holder (With (seens.Loc location))) ≡ one_if b = ap (λ (o : Option Standing). one_if (same_holder (holder_of slot) holder && is_none o)) none ∙ ap (λ (c : Bool). one_if (c && true)) is ∙ same b in
          omega (arith, more, one, plain_waits holder)
        where
          same : (c : Bool) → one_if (c && true) ≡ one_if c
          same true = refl
          same false = refl

      not_it : (number : ℕ) → Holds standing (seens.Loc location) number → ⊥
      not_it number holds = none-some (standings.Obj number) (sym none ∙ holds)

      found_same : (number : ℕ) → IsFound (Seens plain_held) standing number ↔ IsFound (Seens (seens.Loc location)) standing number
      found_same number = (found_after number (seens.Loc location), back)
        where
          back : IsFound (Seens (seens.Loc location)) standing number → IsFound (Seens plain_held) standing number
          back found = elim (found_before number (seens.Loc location) found) [
            | inl before ↦ before
            | inr last ↦ absurd (not_it number last.1)
          ]

      through : (after : NamedObjects) → ((number : ℕ) → (known_at after number).is_found ≡ (known_at objects number).is_found) → (number : ℕ) → ((known_at after number).is_found ≡ true) ↔ IsFound (Seens (seens.Loc location)) standing number
      through after same number = (
        (λ is_found. (found_same number).0 ((knows.found number).0 (sym (same number) ∙ is_found))),
        (λ found. same number ∙ (knows.found number).1 ((found_same number).1 found)),
      )

      go : (holder : Option ℕ) → holder_of slot ≡ holder → Knows world params (Seens (seens.Loc location)) standing (with_waiting objects holder)
      go None is =
          retold (seens.Loc location) (with_waiting objects None) (λ number. refl) (λ number. refl) refl
          (λ number. (let more = waits (Some number) false (ap (λ (o : Option ℕ). same_holder o (Some number)) is) in omega (arith, more, knows.waiting_are number)))
          (let more = waits None true (ap (λ (o : Option ℕ). same_holder o None) is) in omega (arith, more, knows.arguments_waiting)) (through (with_waiting objects None) (λ number. refl)) (omega arith) (λ number holds. absurd (not_it number holds))
      go (Some holder) is =
          retold (seens.Loc location) (with_known objects holder later) (known_same objects holder later (λ (k : Known). k.shape) refl) (known_same objects holder later (λ (k : Known). k.seen) refl) refl
          (λ number. waiting_at number (holder == number) refl) (let more = waits None false (ap (λ (o : Option ℕ). same_holder o None) is) in omega (arith, more, knows.arguments_waiting))
          (through (with_known objects holder later) (known_same objects holder later (λ (k : Known). k.is_found) refl)) (omega arith) (λ number holds. absurd (not_it number holds))
        where
          later : Known
          later = waiting_more (known_at objects holder)

          waiting_at : (number : ℕ) (b : Bool) → (holder == number) ≡ b → (known_at (with_known objects holder later) number).waiting ≡ length (filter (waits_in standing (Some number)) (Seens (seens.Loc location)))
          waiting_at number true p =
              let same : holder ≡ number = eqb-true holder number p in
              let here : (known_at (with_known objects holder later) number).waiting ≡ suc (known_at objects number).waiting =
              subst (λ (n : ℕ). (known_at (with_known objects holder later) n).waiting ≡ suc (known_at objects n).waiting) same (ap (λ (k : Known). k.waiting) (known_here objects holder later)) in
              let more = waits (Some number) true (ap (λ (o : Option ℕ). same_holder o (Some number)) is ∙ p) in
              omega (arith, here, more, knows.waiting_are number)
          waiting_at number false p =
              let here : (known_at (with_known objects holder later) number).waiting ≡ (known_at objects number).waiting = ap (λ (k : Known). k.waiting) (known_apart objects holder later number (λ e. eqb-false holder number p (sym e))) in
              let more = waits (Some number) false (ap (λ (o : Option ℕ). same_holder o (Some number)) is ∙ p) in
              omega (arith, here, more, knows.waiting_are number)

-- ---- loc lines

-- it is no object
abbrev pub IsNoObject : Standing → Type 0
IsNoObject standings.Open = Unit {0}
IsNoObject standings.Beyond = Unit {0}
IsNoObject (standings.Obj number) = ⊥

module _ (world : World) (params : ℕ) (seen : List SeenSlot) (standing : List Standing) (slot : SeenSlot) (there : Has seen slot) (held : slot.held ≡ seens.Loc (length standing))
    (alone : (other : SeenSlot) → Has seen other → other.held ≡ seens.Loc (length standing) → other.slot ≡ slot.slot) where
  -- a location that is not the next one is what it was
  waits_apart : (one : Standing) (other : Seen) → (other ≡ seens.Loc (length standing) → ⊥) → is_waiting (standing ++ one ∷ []) other ≡ is_waiting standing other
  waits_apart one (seens.Loc location) apart = go (nat_lt location (length standing)) refl (nat_lt (length standing) location) refl
    where
      go : (a : Bool) → nat_lt location (length standing) ≡ a → (b : Bool) → nat_lt (length standing) location ≡ b → is_none (slice_get (standing ++ one ∷ []) location) ≡ is_none (slice_get standing location)
      go true p b q = ap (λ (o : Option Standing). is_none o) (get_inside standing one location (ltb-true location (length standing) p))
      go false p true q =
          let high : length standing < location = ltb-true (length standing) location q in
          let both : length (standing ++ one ∷ []) ≡ length standing + 1 = length-append standing (one ∷ []) in
          ap (λ (o : Option Standing). is_none o) (get_past (standing ++ one ∷ []) location (omega (arith, both, high))) ∙ sym (ap (λ (o : Option Standing). is_none o) (get_past standing location (omega (arith, high))))
      go false p false q = absurd (apart (ap seens.Loc (let low = ltb-false location (length standing) p in let high = ltb-false (length standing) location q in omega (arith, low, high))))
  waits_apart one (seens.Int variable) apart = refl
  waits_apart one (seens.Obj object) apart = refl
  waits_apart one seens.Null apart = refl
  waits_apart one seens.Beyond apart = refl

  is_next : (other : Seen) → (other ≡ seens.Loc (length standing)) ⊎ (other ≡ seens.Loc (length standing) → ⊥)
  is_next (seens.Loc location) = go (location == length standing) refl
    where
      go : (b : Bool) → (location == length standing) ≡ b → (seens.Loc location ≡ seens.Loc (length standing)) ⊎ (seens.Loc location ≡ seens.Loc (length standing) → ⊥)
      go true p = inl (ap seens.Loc (eqb-true location (length standing) p))
      go false p = inr (λ e. eqb-false location (length standing) p (number_of e))
        where
          number_of : seens.Loc location ≡ seens.Loc (length standing) → location ≡ length standing
          number_of e = cc
  is_next (seens.Int variable) = inr (λ e. absurd cc)
  is_next (seens.Obj object) = inr (λ e. absurd cc)
  is_next seens.Null = inr (λ e. absurd cc)
  is_next seens.Beyond = inr (λ e. absurd cc)

  -- what holds an object behind the line
  holds_after : (one : Standing) (other : Seen) (number : ℕ) → Holds (standing ++ one ∷ []) other number → Holds standing other number ⊎ ((other ≡ seens.Loc (length standing)) × (one ≡ standings.Obj number))
  holds_after one (seens.Loc location) number holds = elim (at_either standing one location (standings.Obj number) holds) [
    | inl before ↦ inl before
    | inr last ↦ inr (ap seens.Loc last.0, last.1)
  ]
  holds_after one (seens.Obj object) number holds = inl holds
  holds_after one (seens.Int variable) number holds = absurd holds
  holds_after one seens.Null number holds = absurd holds
  holds_after one seens.Beyond number holds = absurd holds

  holds_before : (one : Standing) (other : Seen) (number : ℕ) → Holds standing other number → Holds (standing ++ one ∷ []) other number
  holds_before one (seens.Loc location) number holds = in_front standing (one ∷ []) location (standings.Obj number) holds
  holds_before one (seens.Obj object) number holds = holds
  holds_before one (seens.Int variable) number holds = absurd holds
  holds_before one seens.Null number holds = absurd holds
  holds_before one seens.Beyond number holds = absurd holds

  found_more : (one : Standing) (number : ℕ) → IsFound seen standing number → IsFound seen (standing ++ one ∷ []) number
  found_more one number found = record { slot = found.slot; is_seen = found.is_seen; smaller = found.smaller; holds = holds_before one found.slot.held number found.holds }

  found_either : (one : Standing) (number : ℕ) → IsFound seen (standing ++ one ∷ []) number → IsFound seen standing number ⊎ (IsSmaller (holder_of slot.slot) number × (one ≡ standings.Obj number))
  found_either one number found = elim (holds_after one found.slot.held number found.holds) [
    | inl before ↦ inl (record { slot = found.slot; is_seen = found.is_seen; smaller = found.smaller; holds = before })
    | inr last ↦ inr (subst (λ (o : Origin). IsSmaller (holder_of o) number) (alone found.slot found.is_seen last.0) found.smaller, last.1)
  ]

  -- the location's slot waits no more
  line_waits : (one : Standing) (holder : Option ℕ) (b : Bool) → ((i j : ℕ) (p q : SeenSlot) → slice_get seen i ≡ Some p → slice_get seen j ≡ Some q → p.slot ≡ q.slot → i ≡ j) → same_holder (holder_of slot.slot) holder ≡ b
      → length (filter (waits_in standing holder) seen) ≡ length (filter (waits_in (standing ++ one ∷ []) holder) seen) + one_if b
  line_waits one holder true once is =
      let less = filter_less (waits_in standing holder) (waits_in (standing ++ one ∷ []) holder) seen there.0 slot there.1 was now others in
      omega (arith, less)
    where
      was : waits_in standing holder slot ≡ true
      was = both (same_holder (holder_of slot.slot) holder) (is_waiting standing slot.held) is (ap (is_waiting standing) held ∙ ap (λ (o : Option Standing). is_none o) (get_past standing (length standing) (omega arith)))
        where
          both : (a b : Bool) → a ≡ true → b ≡ true → (a && b) ≡ true
          both a b p q = rw (p, q) refl

      now : waits_in (standing ++ one ∷ []) holder slot ≡ false
      now = ap (λ (b : Bool). same_holder (holder_of slot.slot) holder && b) (ap (is_waiting (standing ++ one ∷ [])) held ∙ ap (λ (o : Option Standing). is_none o) (get_next standing one)) ∙ never (same_holder (holder_of slot.slot) holder)
        where
          never : (a : Bool) → (a && false) ≡ false
          never true = refl
          never false = refl

      others : (j : ℕ) (other : SeenSlot) → slice_get seen j ≡ Some other → (j ≡ there.0 → ⊥) → waits_in (standing ++ one ∷ []) holder other ≡ waits_in standing holder other
      others j other at apart = ap (λ (b : Bool). is_held_by holder other && b) (waits_apart one other.held (λ e. apart (once j there.0 other slot at there.1 (alone other (j, at) e))))
  line_waits one holder false once is = (let same = filter_same (waits_in standing holder) (waits_in (standing ++ one ∷ []) holder) seen each in omega (arith, same))
    where
      each : (other : SeenSlot) → Has seen other → waits_in (standing ++ one ∷ []) holder other ≡ waits_in standing holder other
      each other at = elim (is_next other.held) [
        | inl it ↦ (
            let none : is_held_by holder other ≡ false = ap (λ (o : Origin). same_holder (holder_of o) holder) (alone other at it) ∙ is in
            ap (λ (b : Bool). b && is_waiting (standing ++ one ∷ []) other.held) none ∙ sym (ap (λ (b : Bool). b && is_waiting standing other.held) none))
        | inr apart ↦ ap (λ (b : Bool). is_held_by holder other && b) (waits_apart one other.held apart)
      ]

  -- the line says of no object
  pub knows_line : (objects : NamedObjects) (one : Standing) → IsNoObject one → Knows world params seen standing objects → Knows world params seen (standing ++ one ∷ []) (with_line objects (holder_of slot.slot))
  knows_line objects one of_none knows = go (holder_of slot.slot) refl
    where
      never : (one : Standing) → IsNoObject one → (number : ℕ) → one ≡ standings.Obj number → ⊥
      never standings.Open of_none number e = cc
      never standings.Beyond of_none number e = cc
      never (standings.Obj other) of_none number e = of_none

      found_same : (number : ℕ) → IsFound seen (standing ++ one ∷ []) number → IsFound seen standing number
      found_same number found = elim (found_either one number found) [
        | inl before ↦ before
        | inr last ↦ absurd (never one of_none number last.1)
      ]

      helds_now : (count : ℕ) → objects.count ≤ count → (other : SeenSlot) (number : ℕ) → Has seen other → Holds (standing ++ one ∷ []) other.held number → number < count
      helds_now count more other number at holds = elim (holds_after one other.held number holds) [
        | inl before ↦ (let low : number < objects.count = knows.helds other number at before in omega (arith, low, more))
        | inr last ↦ absurd (never one of_none number last.1)
      ]

      go : (holder : Option ℕ) → holder_of slot.slot ≡ holder → Knows world params seen (standing ++ one ∷ []) (with_line objects holder)
      go None is = record {
        once = knows.once;
        arguments = knows.arguments;
        shapes = knows.shapes;
        theirs = knows.theirs;
        seen_are = knows.seen_are;
        waiting_are = λ number. (let less = line_waits one (Some number) false knows.once (ap (λ (o : Option ℕ). same_holder o (Some number)) is) in omega (arith, less, knows.waiting_are number));
        arguments_seen = knows.arguments_seen;
        arguments_waiting = (let less = line_waits one None true knows.once (ap (λ (o : Option ℕ). same_holder o None) is) in omega (arith, less, knows.arguments_waiting));
        found = λ number. ((λ is_found. found_more one number ((knows.found number).0 is_found)), (λ found. (knows.found number).1 (found_same number found)));
        holders = knows.holders;
        helds = helds_now objects.count (omega arith);
      }
      go (Some holder) is = record {
        once = knows.once;
        arguments = knows.arguments;
        shapes = λ number kind len is_of. (
          (λ fits. (knows.shapes number kind len is_of).0 (subst (FitsShape world kind len) (shape_stays number) fits)),
          (λ all. subst (FitsShape world kind len) (sym (shape_stays number)) ((knows.shapes number kind len is_of).1 all)),
        );
        theirs = λ number. subst (IsShapeIn world) (sym (shape_stays number)) (knows.theirs number);
        seen_are = λ number. known_same objects holder later (λ (k : Known). k.seen) refl number ∙ knows.seen_are number;
        waiting_are = λ number. waiting_at number (holder == number) refl;
        arguments_seen = knows.arguments_seen;
        arguments_waiting = (let less = line_waits one None false knows.once (ap (λ (o : Option ℕ). same_holder o None) is) in omega (arith, less, knows.arguments_waiting));
        found = λ number. (
          (λ is_found. found_more one number ((knows.found number).0 (sym (known_same objects holder later (λ (k : Known). k.is_found) refl number) ∙ is_found))),
          (λ found. known_same objects holder later (λ (k : Known). k.is_found) refl number ∙ (knows.found number).1 (found_same number found)),
        );
        holders = λ other number at it. (let low : number < objects.count = knows.holders other number at it in omega (arith, low));
        helds = helds_now (max objects.count (suc holder)) (omega arith);
      }
        where
          later : Known
          later = waiting_less (known_at objects holder)

          shape_stays : (number : ℕ) → (known_at (with_known objects holder later) number).shape ≡ (known_at objects number).shape
          shape_stays = known_same objects holder later (λ (k : Known). k.shape) refl

          waiting_at : (number : ℕ) (b : Bool) → (holder == number) ≡ b → (known_at (with_known objects holder later) number).waiting ≡ length (filter (waits_in (standing ++ one ∷ []) (Some number)) seen)
          waiting_at number true p =
              let same : holder ≡ number = eqb-true holder number p in
              let here : (known_at (with_known objects holder later) number).waiting ≡ (known_at objects number).waiting - 1 =
              subst (λ (n : ℕ). (known_at (with_known objects holder later) n).waiting ≡ (known_at objects n).waiting - 1) same (ap (λ (k : Known). k.waiting) (known_here objects holder later)) in
              let less = line_waits one (Some number) true knows.once (ap (λ (o : Option ℕ). same_holder o (Some number)) is ∙ p) in
              omega (arith, here, less, knows.waiting_are number)
          waiting_at number false p =
              let here : (known_at (with_known objects holder later) number).waiting ≡ (known_at objects number).waiting = ap (λ (k : Known). k.waiting) (known_apart objects holder later number (λ e. eqb-false holder number p (sym e))) in
              let less = line_waits one (Some number) false knows.once (ap (λ (o : Option ℕ). same_holder o (Some number)) is ∙ p) in
              omega (arith, here, less, knows.waiting_are number)

  -- it says of an object: behind a line that says of none
  pub knows_line_of : (objects : NamedObjects) (one : Standing) (number : ℕ) → IsNoObject one → Knows world params seen (standing ++ one ∷ []) objects
      → Knows world params seen (standing ++ standings.Obj number ∷ []) (with_lead objects (holder_of slot.slot) number)
  knows_line_of objects one number of_none knows = record {
    once = knows.once;
    arguments = knows.arguments;
    shapes = λ other kind len is_of. (
      (λ fits. (knows.shapes other kind len is_of).0 (subst (FitsShape world kind len) (shape_stays other) fits)),
      (λ all. subst (FitsShape world kind len) (sym (shape_stays other)) ((knows.shapes other kind len is_of).1 all)),
    );
    theirs = λ other. subst (IsShapeIn world) (sym (shape_stays other)) (knows.theirs other);
    seen_are = λ other. lead_same objects holder number (λ (k : Known). k.seen) (λ k. refl) other ∙ knows.seen_are other;
    waiting_are = λ other. lead_same objects holder number (λ (k : Known). k.waiting) (λ k. refl) other ∙ knows.waiting_are other ∙ waits_same (Some other);
    arguments_seen = (let same = lead_counts objects holder number (λ (o : NamedObjects). o.unseen) (λ k. refl) in omega (arith, same, knows.arguments_seen));
    arguments_waiting = lead_counts objects holder number (λ (o : NamedObjects). o.waiting) (λ k. refl) ∙ knows.arguments_waiting ∙ waits_same None;
    found = λ other. (onto other, back other);
    holders = λ other at_number at it. (let low : at_number < objects.count = knows.holders other at_number at it in omega (arith, low, counts));
    helds = helds_now;
  }
    where
      holder : Option ℕ
      holder = holder_of slot.slot

      shape_stays : (other : ℕ) → (known_at (with_lead objects holder number) other).shape ≡ (known_at objects other).shape
      shape_stays = lead_same objects holder number (λ (k : Known). k.shape) (λ k. refl)

      counts : (with_lead objects holder number).count ≡ max objects.count (suc number)
      counts = lead_counts objects holder number (λ (o : NamedObjects). o.count) (λ k. refl)

      none_same : (other : Seen) → is_waiting (standing ++ standings.Obj number ∷ []) other ≡ is_waiting (standing ++ one ∷ []) other
      none_same other = elim (is_next other) [
        | inl it ↦ (
            ap (is_waiting (standing ++ standings.Obj number ∷ [])) it ∙ ap (λ (o : Option Standing). is_none o) (get_next standing (standings.Obj number))
            ∙ sym (ap (is_waiting (standing ++ one ∷ [])) it ∙ ap (λ (o : Option Standing). is_none o) (get_next standing one)))
        | inr apart ↦ waits_apart (standings.Obj number) other apart ∙ sym (waits_apart one other apart)
      ]

      waits_same : (who : Option ℕ) → length (filter (waits_in (standing ++ one ∷ []) who) seen) ≡ length (filter (waits_in (standing ++ standings.Obj number ∷ []) who) seen)
      waits_same who = filter_same (waits_in (standing ++ one ∷ []) who) (waits_in (standing ++ standings.Obj number ∷ []) who) seen (λ other at. ap (λ (b : Bool). is_held_by who other && b) (none_same other.held))

      never : (one : Standing) → IsNoObject one → (other : ℕ) → one ≡ standings.Obj other → ⊥
      never standings.Open of_none other e = cc
      never standings.Beyond of_none other e = cc
      never (standings.Obj another) of_none other e = of_none

      onto : (other : ℕ) → (known_at (with_lead objects holder number) other).is_found ≡ true → IsFound seen (standing ++ standings.Obj number ∷ []) other
      onto other is_found = elim ((lead_found objects holder number other).0 is_found) [
        | inl before ↦ (
            elim (found_either one other ((knows.found other).0 before)) [
              | inl earlier ↦ found_more (standings.Obj number) other earlier
              | inr last ↦ absurd (never one of_none other last.1)
            ])
        | inr led ↦ record {
          slot = slot;
          is_seen = there;
          smaller = subst (IsSmaller holder) led.1 led.0;
          holds = subst (λ (h : Seen). Holds (standing ++ standings.Obj number ∷ []) h other) (sym held) (get_next standing (standings.Obj number) ∙ ap (λ (n : ℕ). Some (standings.Obj n)) led.1);
        }
      ]

      back : (other : ℕ) → IsFound seen (standing ++ standings.Obj number ∷ []) other → (known_at (with_lead objects holder number) other).is_found ≡ true
      back other found = (lead_found objects holder number other).1 (told (found_either (standings.Obj number) other found))
        where
          told : IsFound seen standing other ⊎ (IsSmaller holder other × (standings.Obj number ≡ standings.Obj other)) → ((known_at objects other).is_found ≡ true) ⊎ (IsSmaller holder number × (number ≡ other))
          told (inl before) = inl ((knows.found other).1 (found_more one other before))
          told (inr last) = let same : number ≡ other = cc in inr (subst (IsSmaller holder) (sym same) last.0, same)

      helds_now : (other : SeenSlot) (at_number : ℕ) → Has seen other → Holds (standing ++ standings.Obj number ∷ []) other.held at_number → at_number < (with_lead objects holder number).count
      helds_now other at_number at holds = elim (holds_after (standings.Obj number) other.held at_number holds) [
        | inl before ↦ (let low : at_number < objects.count = knows.helds other at_number at (holds_before one other.held at_number before) in omega (arith, low, counts))
        | inr last ↦ (let same : standings.Obj number ≡ standings.Obj at_number = last.1 in let number_is : number ≡ at_number = cc in omega (arith, number_is, counts))
      ]
