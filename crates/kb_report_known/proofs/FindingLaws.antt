-- What the count over the objects means: there are enough ways exactly where each object may still be found.
use Rattle.std.proofs.Common.{◌≡◌, ◌⊎◌, ◌↔◌, inl, inr, ℕ, zero, suc, ◌+◌, ◌-◌, ◌^◌, ◌<◌, ◌≤◌, ◌==◌, ◌&&◌, Bool, true, false, true≢false, List, [], ◌∷◌, ◌++◌, length, length-append, Option, Some, None, refl, sym, ap, subst, ◌∙◌, arith, if◌then◌else◌}
use Rattle.std.specs.Prelude.{slice_get, filter, is_none}
use Rattle.std.proofs.lemmas.Bool.{and_parts, eqb-false, eqb-true}
use Rattle.std.proofs.lemmas.Option.{none-some, same_Some}
use Rattle.kb_classes.specs.World.{World}
use Rattle.kb_classes.specs.declared.slots.FieldSlot.{FieldSlot}
use Rattle.kb_link.specs.Links.{IsLinked}
use Rattle.kb_names.specs.declared.types.ExactType.{ExactType}
use Rattle.kb_names.specs.declared.types.ExactType.TheVariants as exact
use Rattle.kb_names.specs.declared.types.JType.TheVariants as types
use Rattle.kb_path_words.specs.Ranges.{LengthFits}
use Rattle.kb_picture.specs.WellFormed.{HasElement, HasSlot, IsLengthOf}
use Rattle.kb_picture.specs.declared.picture.Length.{Length}
use Rattle.kb_picture.specs.declared.picture.Length.TheVariants.{Plain, Is, Above}
use Rattle.kb_picture.specs.declared.picture.Origin.{Origin}
use Rattle.kb_picture.specs.declared.picture.Origin.TheVariants.{Arg, Field, Element}
use Rattle.kb_picture.specs.declared.picture.Seen.{Seen}
use Rattle.kb_picture.specs.declared.picture.Seen.TheVariants as seens
use Rattle.kb_picture.specs.declared.picture.Standing.{Standing}
use Rattle.kb_report_text.specs.Slots.{field_of_type}
use Rattle.kb_semantics.specs.Values.{slots_of_class}
use Rattle.kb_report_known.proofs.FieldLaws.{most_is}
use Rattle.kb_report_known.proofs.ListLaws.{In, IsOnce, at_in, in_at, in_either, in_left, in_right, once_append}
use Rattle.kb_report_known.proofs.WayLaws.{AreAmong, HaveWays, IsUnseen, SlotsOnce, Waits, enough_of, have_next, holder_left, in_part, is_seen, next_way, part, part_holder, part_in, part_length, part_once, seen_slot, seen_true, slots_once}
use Rattle.kb_report_known.specs.Counts.{AreEnough, NamedObjects, argument_ways, known_at, missing_below, ways_below}
use Rattle.kb_report_known.specs.Fields.{IsFieldAt, IsMost}
use Rattle.kb_report_known.specs.Finding.{IsFound, IsNotSeen, IsSlotWith, IsSmaller, IsThere, IsWaiting, Knows, MayBeFound, SeenSlot, holder_of, is_held_by, is_waiting, waits_in}
use Rattle.kb_report_known.specs.Known.{FitsShape, IsShapeIn, most_slots, ways_of}
use Rattle.kb_report_known.specs.Tables.{most_below}
use Rattle.kb_report_known.specs.declared.fields.FieldAt.{FieldAt}
use Rattle.kb_report_known.specs.declared.known.Shape.{Shape}
use Rattle.kb_report_known.specs.declared.known.Shape.TheVariants.{Any, Fields, Elements}

abbrev some_array : ExactType
some_array = exact.Array types.Int

-- ---- slots by their numbers

abbrev slots_of_kind : ExactType → ℕ → ℕ → Origin
slots_of_kind (exact.Class name) object slot = Field object slot
slots_of_kind (exact.Array component) object index = Element object index

abbrev pub index_of : Origin → ℕ
index_of (Arg number) = number
index_of (Field object slot) = slot
index_of (Element array index) = index

index_back : (kind : ExactType) (object i : ℕ) → index_of (slots_of_kind kind object i) ≡ i
index_back (exact.Class name) object i = refl
index_back (exact.Array component) object i = refl

holder_back : (kind : ExactType) (object i : ℕ) → holder_of (slots_of_kind kind object i) ≡ Some object
holder_back (exact.Class name) object i = refl
holder_back (exact.Array component) object i = refl

pub is_argument : (slot : Origin) → holder_of slot ≡ None → slot ≡ Arg (index_of slot)
is_argument (Arg number) is = refl
is_argument (Field object slot) is = absurd (none-some object (sym is))
is_argument (Element array index) is = absurd (none-some array (sym is))

inside_of : {A : Type 0} (xs : List A) (i : ℕ) (x : A) → slice_get xs i ≡ Some x → i < length xs
inside_of [] i x at = absurd cc
inside_of (y ∷ xs) zero x at = omega arith
inside_of (y ∷ xs) (suc i) x at = let before : i < length xs = inside_of xs i x at in omega (arith, before)

element_small : (len : Length) (index : ℕ) → LengthFits len → HasElement len index → index < 2 ^ 32
element_small Plain index fits has = absurd has
element_small (Is n) index fits has = omega (arith, fits, has)
element_small (Above n) index fits has = omega (arith, fits, has)

is_element : (kind : ExactType) (len : Length) (array index : ℕ) → IsLengthOf kind len → HasElement len index → Element array index ≡ slots_of_kind kind array index
is_element (exact.Array component) len array index is has = refl
is_element (exact.Class name) Plain array index is has = absurd has
is_element (exact.Class name) (Is n) array index is has = absurd is
is_element (exact.Class name) (Above n) array index is has = absurd is

-- an object of the exact type and that length has a slot of the number
abbrev HasSlotOf : World → ExactType → Length → ℕ → Type 0
HasSlotOf world (exact.Class name) len slot = slot < length (slots_of_class world name)
HasSlotOf world (exact.Array component) len index = HasElement len index

-- ---- what waits

wait_location : (standing : List Standing) (held : Seen) → is_waiting standing held ≡ true → (location : ℕ) × (held ≡ seens.Loc location) × (slice_get standing location ≡ None)
wait_location standing (seens.Loc location) is = (location, refl, none (slice_get standing location) is)
  where
    none : (o : Option Standing) → is_none o ≡ true → o ≡ None
    none None is = refl
    none (Some s) is = absurd cc
wait_location standing (seens.Int variable) is = absurd cc
wait_location standing (seens.Obj object) is = absurd cc
wait_location standing seens.Null is = absurd cc
wait_location standing seens.Beyond is = absurd cc

-- ---- one object

module _ (world : World) (links : 0 < length world.classes → IsLinked world) (few : (name : List ℕ) → length (slots_of_class world name) ≤ 2 ^ 32) where
  greatest_is : (lowest : FieldAt) (field : FieldSlot) → IsFieldAt world lowest field → IsMost world lowest (most_below world (length world.classes) lowest.class.0)
  greatest_is lowest field is = most_is world (links (let inside : lowest.class.0 < length world.classes = is.inside in omega (arith, inside))) lowest

  field_inside : (kind : ExactType) (len : Length) (shape : Shape) (slot : ℕ) → IsShapeIn world shape → FitsShape world kind len shape → HasSlot world kind slot → slot < most_slots world shape
  field_inside (exact.Array component) len shape slot is fits has = absurd has
  field_inside (exact.Class name) len Any slot is fits has = let all = few name in omega (arith, has, all)
  field_inside (exact.Class name) len (Fields lowest) slot is fits has = let all = (greatest_is lowest is.0 is.1).least is.0 is.1 name fits in omega (arith, has, all)
  field_inside (exact.Class name) len (Elements greatest) slot is fits has = let all = few name in omega (arith, has, all)

  is_field : (kind : ExactType) (object slot : ℕ) → HasSlot world kind slot → Field object slot ≡ slots_of_kind kind object slot
  is_field (exact.Class name) object slot has = refl
  is_field (exact.Array component) object slot has = absurd has

  element_inside : (kind : ExactType) (len : Length) (shape : Shape) (index : ℕ) → IsLengthOf kind len → LengthFits len → FitsShape world kind len shape → HasElement len index → index < most_slots world shape
  element_inside kind len Any index is range fits has = element_small len index range has
  element_inside kind len (Elements greatest) index is range fits has = element_small len index range has
  element_inside (exact.Array component) len (Fields lowest) index is range fits has = absurd cc
  element_inside (exact.Class name) Plain (Fields lowest) index is range fits has = absurd has
  element_inside (exact.Class name) (Is n) (Fields lowest) index is range fits has = absurd is
  element_inside (exact.Class name) (Above n) (Fields lowest) index is range fits has = absurd is

  -- types and lengths that have the most slots

  kind_for : (shape : Shape) → IsShapeIn world shape → ExactType
  kind_for Any is = some_array
  kind_for (Fields lowest) is = exact.Class ((greatest_is lowest is.0 is.1).some is.0 is.1).0
  kind_for (Elements greatest) is = some_array

  length_for : Shape → Length
  length_for Any = Above (2 ^ 32 - 1)
  length_for (Fields lowest) = Plain
  length_for (Elements greatest) = Above (2 ^ 32 - 1)

  for_length : (shape : Shape) (is : IsShapeIn world shape) → IsLengthOf (kind_for shape is) (length_for shape)
  unfolding kind_for length_for
  for_length Any is = tt
  for_length (Fields lowest) is = tt
  for_length (Elements greatest) is = tt

  for_range : (shape : Shape) → LengthFits (length_for shape)
  unfolding length_for
  for_range Any = omega arith
  for_range (Fields lowest) = tt
  for_range (Elements greatest) = omega arith

  for_fits : (shape : Shape) (is : IsShapeIn world shape) → FitsShape world (kind_for shape is) (length_for shape) shape
  unfolding kind_for length_for
  for_fits Any is = tt
  for_fits (Fields lowest) is = ((greatest_is lowest is.0 is.1).some is.0 is.1).1
  for_fits (Elements greatest) is = omega (arith, is)

  for_slots : (shape : Shape) (is : IsShapeIn world shape) (i : ℕ) → i < most_slots world shape → HasSlotOf world (kind_for shape is) (length_for shape) i
  unfolding kind_for length_for
  for_slots Any is i inside = omega (arith, inside)
  for_slots (Fields lowest) is i inside = let all = ((greatest_is lowest is.0 is.1).some is.0 is.1).2 in omega (arith, inside, all)
  for_slots (Elements greatest) is i inside = omega (arith, inside)

  -- ---- all objects

  module _ (params : ℕ) (seen : List SeenSlot) (standing : List Standing) (objects : NamedObjects) (knows : Knows world params seen standing objects) where
    shape_of : ℕ → Shape
    shape_of number = (known_at objects number).shape

    once : SlotsOnce seen
    once = slots_once seen knows.once

    -- as long as there may be see lines, or behind them
    abbrev Lines : Bool → Type 0
    Lines true = Unit {0}
    Lines false = ⊥

    abbrev fields_of : Bool → Option World
    fields_of true = Some world
    fields_of false = None

    lost_of : (number : ℕ) → number < objects.count → (IsFound seen standing number → ⊥) → (known_at objects number).is_found ≡ false
    lost_of number inside none = go (known_at objects number).is_found refl
      where
        go : (b : Bool) → (known_at objects number).is_found ≡ b → (known_at objects number).is_found ≡ false
        go false p = p
        go true p = absurd (none ((knows.found number).0 p))

    not_found : (number : ℕ) → number < objects.count → (known_at objects number).is_found ≡ false → IsFound seen standing number → ⊥
    not_found number inside lost found = true≢false (sym ((knows.found number).1 found) ∙ lost)

    module _ (is_open : Bool) (kinds : ℕ → ExactType) (lengths : ℕ → Length) (lengths_of : (number : ℕ) → number < objects.count → IsLengthOf (kinds number) (lengths number))
        (ranges : (number : ℕ) → number < objects.count → LengthFits (lengths number))
        (fits : (number : ℕ) → number < objects.count → FitsShape world (kinds number) (lengths number) (known_at objects number).shape) where
      -- a slot that is there is one of the first
      abbrev IsOneOf : ℕ → Origin → Type 0
      IsOneOf number slot = (index_of slot < most_slots world (known_at objects number).shape) × (slot ≡ slots_of_kind (kinds number) number (index_of slot))

      slot_there : (number : ℕ) (slot : Origin) → number < objects.count → holder_of slot ≡ Some number → IsThere world params kinds lengths slot → IsOneOf number slot
      slot_there number (Arg argument) inside holder there = absurd (none-some number holder)
      slot_there number (Field object slot) inside holder there =
          let same : object ≡ number = same_Some object number holder in
          let has : HasSlot world (kinds number) slot = subst (λ (n : ℕ). HasSlot world (kinds n) slot) same there in
          (field_inside (kinds number) (lengths number) (known_at objects number).shape slot (knows.theirs number) (fits number inside) has, ap (λ (n : ℕ). Field n slot) same ∙ is_field (kinds number) number slot has)
      slot_there number (Element array index) inside holder there =
          let same : array ≡ number = same_Some array number holder in
          let has : HasElement (lengths number) index = subst (λ (n : ℕ). HasElement (lengths n) index) same there in (
            element_inside (kinds number) (lengths number) (known_at objects number).shape index (lengths_of number inside) (ranges number inside) (fits number inside) has,
            ap (λ (n : ℕ). Element n index) same ∙ is_element (kinds number) (lengths number) number index (lengths_of number inside) has,
          )

      seen_there : (number : ℕ) (slot : Origin) (text : List ℕ) → holder_of slot ≡ Some number → IsSlotWith world (kinds number) (lengths number) slot text → IsThere world params kinds lengths slot
      seen_there number (Arg argument) text holder with_it = absurd (none-some number holder)
      seen_there number (Field object slot) text holder with_it =
          subst (λ (n : ℕ). HasSlot world (kinds n) slot) (sym (same_Some object number holder)) (has (kinds number) with_it.1)
        where
          has : (kind : ExactType) → field_of_type world slot kind ≡ Some with_it.0 → HasSlot world kind slot
          has (exact.Class name) at = inside_of (slots_of_class world name) slot with_it.0 at
          has (exact.Array component) at = absurd (none-some with_it.0 at)
      seen_there number (Element array index) text holder with_it = subst (λ (n : ℕ). HasElement (lengths n) index) (sym (same_Some array number holder)) with_it

      among : (number : ℕ) → number < objects.count
          → AreAmong (slots_of_kind (kinds number) number) index_of (index_back (kinds number) number) (Some number) (holder_back (kinds number) number) (most_slots world (known_at objects number).shape) seen
      among number inside slot there holder =
          slot_there number slot.slot inside holder (seen_there number slot.slot slot.text holder
          ((knows.shapes number (kinds number) (lengths number) (lengths_of number inside)).0 (fits number inside) slot (in_at slot seen there) holder))

      among_arguments : AreAmong Arg index_of (λ i. refl) None (λ i. refl) params seen
      among_arguments slot there holder =
          let is = is_argument slot.slot holder in
          (knows.arguments slot (index_of slot.slot) (in_at slot seen there) is, is)

      -- ---- the ways

      abbrev argument_part : List Origin
      argument_part = part is_open standing seen None Arg params

      abbrev object_part : ℕ → List Origin
      object_part number = part is_open standing seen (Some number) (slots_of_kind (kinds number) number) (most_slots world (known_at objects number).shape)

      unfoldable ways : ℕ → List Origin
      ways zero = argument_part
      ways (suc number) = ways number ++ object_part number

      grows : (number : ℕ) → ways (suc number) ≡ ways number ++ object_part number
      unfolding ways
      grows number = refl

      ways_length : (number : ℕ) → number ≤ objects.count → length (ways number) ≡ ways_below (fields_of is_open) objects number
      unfolding ways
      ways_length zero within = part_length is_open standing seen None Arg params index_of (λ i. refl) (λ i. refl) once among_arguments ∙ go is_open
        where
          go : (b : Bool) → length (filter (waits_in standing None) seen) + (if b then params - length (filter (is_held_by None) seen) else 0) ≡ argument_ways (fields_of b) objects.waiting objects.unseen
          go true = omega (arith, knows.arguments_seen, knows.arguments_waiting)
          go false = omega (arith, knows.arguments_waiting)
      ways_length (suc number) within =
          let before : length (ways number) ≡ ways_below (fields_of is_open) objects number = ways_length number (omega (arith, within)) in
          let here : length (object_part number) ≡ ways_of (fields_of is_open) (known_at objects number) = one in
          length-append (ways number) (object_part number) ∙ (let e : length (ways number) + length (object_part number) ≡ ways_below (fields_of is_open) objects number + ways_of (fields_of is_open) (known_at objects number) = omega (arith, before, here) in e)
        where
          go : (b : Bool) → length (filter (waits_in standing (Some number)) seen) + (if b then most_slots world (known_at objects number).shape - length (filter (is_held_by (Some number)) seen) else 0) ≡ ways_of (fields_of b) (known_at objects number)
          go true = omega (arith, knows.seen_are number, knows.waiting_are number)
          go false = omega (arith, knows.waiting_are number)

          one : length (object_part number) ≡ ways_of (fields_of is_open) (known_at objects number)
          one =
              part_length is_open standing seen (Some number) (slots_of_kind (kinds number) number) (most_slots world (known_at objects number).shape) index_of (index_back (kinds number) number) (holder_back (kinds number) number) once
              (among number (omega (arith, within))) ∙ go is_open

      -- a way is one of an argument or of a smaller object
      in_ways : (number : ℕ) (slot : Origin) → In slot (ways number) → In slot argument_part ⊎ ((holder : ℕ) × (holder < number) × In slot (object_part holder))
      unfolding ways
      in_ways zero slot there = inl there
      in_ways (suc number) slot there = elim (in_either slot (ways number) (object_part number) there) [
        | inl before ↦ (
            elim (in_ways number slot before) [
              | inl argument ↦ inl argument
              | inr object ↦ inr (object.0, omega (arith, object.1), object.2)
            ])
        | inr here ↦ inr (number, omega arith, here)
      ]

      argument_way : (number : ℕ) (slot : Origin) → In slot argument_part → In slot (ways number)
      unfolding ways
      argument_way zero slot there = there
      argument_way (suc number) slot there = in_left slot (ways number) (object_part number) (argument_way number slot there)

      object_way : (number holder : ℕ) (slot : Origin) → holder < number → In slot (object_part holder) → In slot (ways number)
      unfolding ways
      object_way zero holder slot below there = absurd (omega (arith, below))
      object_way (suc number) holder slot below there = go (holder == number) refl (λ less. object_way number holder slot less there)
        where
          go : (b : Bool) → (holder == number) ≡ b → (holder < number → In slot (ways number)) → In slot (ways number ++ object_part number)
          go true e before = in_right slot (ways number) (object_part number) (subst (λ (n : ℕ). In slot (object_part n)) (eqb-true holder number e) there)
          go false e before = in_left slot (ways number) (object_part number) (before (let other : holder ≡ number → ⊥ = eqb-false holder number e in omega (arith, below, other)))

      argument_holder : (slot : Origin) → In slot argument_part → holder_of slot ≡ None
      argument_holder slot there = part_holder is_open standing seen None Arg params index_of (λ i. refl) (λ i. refl) once slot there

      object_holder : (number : ℕ) (slot : Origin) → In slot (object_part number) → holder_of slot ≡ Some number
      object_holder number slot there =
          part_holder is_open standing seen (Some number) (slots_of_kind (kinds number) number) (most_slots world (known_at objects number).shape) index_of (index_back (kinds number) number) (holder_back (kinds number) number) once slot there

      ways_once : (number : ℕ) → IsOnce (ways number)
      unfolding ways
      ways_once zero = part_once is_open standing seen None Arg params index_of (λ i. refl) (λ i. refl) once
      ways_once (suc number) =
          once_append (ways number) (object_part number) (ways_once number)
          (part_once is_open standing seen (Some number) (slots_of_kind (kinds number) number) (most_slots world (known_at objects number).shape) index_of (index_back (kinds number) number) (holder_back (kinds number) number) once) apart
        where
          apart : (slot : Origin) → In slot (ways number) → In slot (object_part number) → ⊥
          apart slot before here = elim (in_ways number slot before) [
            | inl argument ↦ none-some number (sym (argument_holder slot argument) ∙ object_holder number slot here)
            | inr object ↦ (
                let same : object.0 ≡ number = same_Some object.0 number (sym (object_holder object.0 slot object.2) ∙ object_holder number slot here) in
                let below : object.0 < number = object.1 in
                omega (arith, same, below))
          ]

      -- ---- ways and what leads to objects

      abbrev Leads : Origin → Type 0
      Leads slot = IsWaiting seen standing slot ⊎ (Lines is_open × IsThere world params kinds lengths slot × IsNotSeen seen slot)

      open_lines : is_open ≡ true → Lines is_open
      open_lines is = subst Lines (sym is) tt

      lines_open : (b : Bool) → Lines b → b ≡ true
      lines_open true lines = refl
      lines_open false lines = absurd lines

      none_seen : (slot : Origin) → is_seen seen slot ≡ false → IsNotSeen seen slot
      none_seen slot none other there is = true≢false (sym (seen_true seen other slot (at_in seen there.0 other there.1) is) ∙ none)

      unseen_of : (slot : Origin) → IsNotSeen seen slot → is_seen seen slot ≡ false
      unseen_of slot none = go (is_seen seen slot) refl
        where
          go : (b : Bool) → is_seen seen slot ≡ b → is_seen seen slot ≡ false
          go false p = p
          go true p = let one = seen_slot seen slot p in absurd (none one.0 (in_at one.0 seen one.1) one.2)

      it_waits : (holder : Option ℕ) (slots : ℕ → Origin) (n : ℕ) (slot : Origin) → Waits is_open standing seen holder slots n slot → IsWaiting seen standing slot
      it_waits holder slots n slot wait =
          let one = wait.seen in
          let parts = and_parts (is_held_by holder one) (is_waiting standing one.held) wait.it_waits in
          let where_to = wait_location standing one.held parts.1 in
          let at = in_at one seen wait.there in
          let whole : one ≡ record { slot = slot; text = one.text; held = seens.Loc where_to.0 } = ap (λ (o : Origin). record { slot = o; text = one.text; held = one.held }) wait.is ∙ ap (λ (h : Seen). record { slot = slot; text = one.text; held = h }) where_to.1 in
          record { text = one.text; location = where_to.0; is_seen = (at.0, at.1 ∙ ap (λ (s : SeenSlot). Some s) whole); waits = where_to.2 }

      waits_there : (holder : Option ℕ) (slots : ℕ → Origin) (n : ℕ) (slot : Origin) → holder_of slot ≡ holder → IsWaiting seen standing slot → Waits is_open standing seen holder slots n slot
      waits_there holder slots n slot is wait =
          let one : SeenSlot = record { slot = slot; text = wait.text; held = seens.Loc wait.location } in
          record { seen = one; there = at_in seen wait.is_seen.0 one wait.is_seen.1; it_waits = both (is_held_by holder one) (is_waiting standing one.held) (holder_left (holder_of slot) holder is) (ap (λ (o : Option Standing). is_none o) wait.waits); is = refl }
        where
          both : (a b : Bool) → a ≡ true → b ≡ true → (a && b) ≡ true
          both a b p q = rw (p, q) refl

      -- what leads to an object is a way
      is_way : (number : ℕ) (slot : Origin) → number ≤ objects.count → IsSmaller (holder_of slot) number → Leads slot → In slot (ways number)
      is_way number slot within smaller leads = go (holder_of slot) refl smaller
        where
          free : (holder : Option ℕ) (slots : ℕ → Origin) (n : ℕ) → holder_of slot ≡ holder → (IsThere world params kinds lengths slot → (index_of slot < n) × (slot ≡ slots (index_of slot))) → Waits is_open standing seen holder slots n slot ⊎ IsUnseen is_open standing seen holder slots n slot
          free holder slots n is place = elim leads [
            | inl wait ↦ inl (waits_there holder slots n slot is wait)
            | inr opens ↦ (let at = place opens.1 in inr (record { opens = lines_open is_open opens.0; number = index_of slot; inside = at.0; is = sym at.1; none = unseen_of slot opens.2 }))
          ]

          argument_inside : (one : Origin) → holder_of one ≡ None → IsThere world params kinds lengths one → (index_of one < params) × (one ≡ Arg (index_of one))
          argument_inside (Arg argument) is there = (there, refl)
          argument_inside (Field object slot) is there = absurd (none-some object (sym is))
          argument_inside (Element array index) is there = absurd (none-some array (sym is))

          go : (holder : Option ℕ) → holder_of slot ≡ holder → IsSmaller holder number → In slot (ways number)
          go None is below = argument_way number slot (in_part is_open standing seen None Arg params slot (free None Arg params is (argument_inside slot is)))
          go (Some holder) is below =
              object_way number holder slot below
              (in_part is_open standing seen (Some holder) (slots_of_kind (kinds holder) holder) (most_slots world (known_at objects holder).shape) slot
              (free (Some holder) (slots_of_kind (kinds holder) holder) (most_slots world (known_at objects holder).shape) is (λ there. slot_there holder slot (let less : holder < number = below in omega (arith, less, within)) is there)))

      -- and a way leads to an object, where each first slot is there
      module _ (slots_there : (number i : ℕ) → number < objects.count → i < most_slots world (known_at objects number).shape → IsThere world params kinds lengths (slots_of_kind (kinds number) number i)) where
        way_leads : (number : ℕ) (slot : Origin) → number ≤ objects.count → In slot (ways number) → IsSmaller (holder_of slot) number × Leads slot
        way_leads number slot within there = elim (in_ways number slot there) [
          | inl argument ↦ (
            subst (λ (o : Option ℕ). IsSmaller o number) (sym (argument_holder slot argument)) tt,
            led None Arg params (λ i inside. inside) (part_in is_open standing seen None Arg params slot argument),
          )
          | inr object ↦ (
              let below : object.0 < number = object.1 in (
                subst (λ (o : Option ℕ). IsSmaller o number) (sym (object_holder object.0 slot object.2)) below,
                led (Some object.0) (slots_of_kind (kinds object.0) object.0) (most_slots world (known_at objects object.0).shape) (λ i inside. slots_there object.0 i (omega (arith, below, within)) inside)
                    (part_in is_open standing seen (Some object.0) (slots_of_kind (kinds object.0) object.0) (most_slots world (known_at objects object.0).shape) slot object.2),
              ))
        ]
          where
            led : (holder : Option ℕ) (slots : ℕ → Origin) (n : ℕ) → ((i : ℕ) → i < n → IsThere world params kinds lengths (slots i)) → Waits is_open standing seen holder slots n slot ⊎ IsUnseen is_open standing seen holder slots n slot → Leads slot
            led holder slots n each (inl wait) = inl (it_waits holder slots n slot wait)
            led holder slots n each (inr free) = inr (open_lines free.opens, subst (λ (o : Origin). IsThere world params kinds lengths o) free.is (each free.number free.inside), none_seen slot free.none)

        abbrev next : ℕ → Origin
        next = next_way (known_at objects) ways object_part grows objects.count

        have : AreEnough (fields_of is_open) objects → HaveWays (known_at objects) ways object_part grows objects.count next
        have enough =
            have_next (known_at objects) ways object_part grows objects.count (ways_once objects.count)
            (λ number inside. subst (λ (n : ℕ). missing_below (known_at objects) (suc number) ≤ n) (sym (ways_length number (omega (arith, inside)))) (enough number inside))

        found_by : AreEnough (fields_of is_open) objects → MayBeFound world params (Lines is_open) seen standing objects.count
        found_by enough =
            let own = have enough in
            record {
              kinds = kinds;
              lengths = lengths;
              may_be = λ number inside. record {
                length_of = lengths_of number inside;
                range = ranges number inside;
                slots = (knows.shapes number (kinds number) (lengths number) (lengths_of number inside)).0 (fits number inside);
              };
              way = next;
              smaller = λ number inside none. (way_leads number (next number) (omega (arith, inside)) (own.leads number (inside, lost_of number inside none))).0;
              leads = λ number inside none. (way_leads number (next number) (omega (arith, inside)) (own.leads number (inside, lost_of number inside none))).1;
              apart = λ one other p q none nor same. own.apart one other (p, lost_of one p none) (q, lost_of other q nor) same;
            }

      enough_by : (way : ℕ → Origin) → ((number : ℕ) → number < objects.count → (IsFound seen standing number → ⊥) → IsSmaller (holder_of (way number)) number)
          → ((number : ℕ) → number < objects.count → (IsFound seen standing number → ⊥) → Leads (way number))
          → ((one other : ℕ) → one < objects.count → other < objects.count → (IsFound seen standing one → ⊥) → (IsFound seen standing other → ⊥) → way one ≡ way other → one ≡ other)
          → AreEnough (fields_of is_open) objects
      enough_by way smaller leads apart number inside =
          subst (λ (n : ℕ). missing_below (known_at objects) (suc number) ≤ n) (ways_length number (omega (arith, inside)))
          (enough_of (known_at objects) ways object_part grows objects.count way own number inside)
        where
          own : HaveWays (known_at objects) ways object_part grows objects.count way
          own = record {
            leads = λ n lost. is_way n (way n) (let below : n < objects.count = lost.0 in omega (arith, below)) (smaller n lost.0 (not_found n lost.0 lost.1)) (leads n lost.0 (not_found n lost.0 lost.1));
            apart = λ one other p q same. apart one other p.0 q.0 (not_found one p.0 p.1) (not_found other q.0 q.1) same;
          }

    both : (is_open : Bool) → AreEnough (fields_of is_open) objects ↔ MayBeFound world params (Lines is_open) seen standing objects.count
    both is_open = (one_way, other_way)
      where
        kinds : ℕ → ExactType
        kinds number = kind_for (known_at objects number).shape (knows.theirs number)

        lengths : ℕ → Length
        lengths number = length_for (known_at objects number).shape

        slots_there : (number i : ℕ) → number < objects.count → i < most_slots world (known_at objects number).shape → IsThere world params kinds lengths (slots_of_kind (kinds number) number i)
        slots_there number i inside below = at_kind (kinds number) refl (for_slots (known_at objects number).shape (knows.theirs number) i below)
          where
            at_kind : (kind : ExactType) → kinds number ≡ kind → HasSlotOf world kind (lengths number) i → IsThere world params kinds lengths (slots_of_kind kind number i)
            at_kind (exact.Class name) is has = subst (λ (k : ExactType). HasSlot world k i) (sym is) has
            at_kind (exact.Array component) is has = has

        one_way : AreEnough (fields_of is_open) objects → MayBeFound world params (Lines is_open) seen standing objects.count
        one_way enough =
            found_by is_open kinds lengths (λ number inside. for_length (known_at objects number).shape (knows.theirs number)) (λ number inside. for_range (known_at objects number).shape)
            (λ number inside. for_fits (known_at objects number).shape (knows.theirs number)) slots_there enough

        other_way : MayBeFound world params (Lines is_open) seen standing objects.count → AreEnough (fields_of is_open) objects
        other_way may =
            enough_by is_open may.kinds may.lengths (λ number inside. (may.may_be number inside).length_of) (λ number inside. (may.may_be number inside).range)
            (λ number inside. (knows.shapes number (may.kinds number) (may.lengths number) (may.may_be number inside).length_of).1 (may.may_be number inside).slots) may.way may.smaller may.leads may.apart

    -- as long as there may be see lines
    pub may_be_found : AreEnough (Some world) objects ↔ MayBeFound world params (Unit {0}) seen standing objects.count
    may_be_found = both true

    -- and behind them
    pub may_be_found_behind : AreEnough None objects ↔ MayBeFound world params ⊥ seen standing objects.count
    may_be_found_behind = both false
