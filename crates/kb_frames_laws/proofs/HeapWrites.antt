-- What a heap holds after values were written into it, slot by slot.
use Rattle.std.proofs.Common.{◌≡◌, ◌≢◌, ◌⊎◌, inl, inr, ℕ, suc, ◌<◌, List, [], ◌∷◌, length, fold, Option, Some, None, option_map, option_and_then, slice_get, slice_set, refl, sym, ap, ◌∙◌, subst, arith}
use Rattle.std.proofs.lemmas.Bool.{cases_eq}
use Rattle.std.proofs.lemmas.Option.{slice_get_within}
use Rattle.kb_class.specs.Naming.{Has}
use Rattle.kb_class.proofs.Lists.{get_inside, has_cases, has_first, has_later, has_none, set_here, set_other, set_size}
use Rattle.kb_heap.specs.declared.heap.Heap.{Heap}
use Rattle.kb_heap.specs.declared.heap.Object.{Object}
use Rattle.kb_heap.specs.declared.heap.Value.{Value}
use Rattle.kb_heap.specs.Heap.{object_at, object_with, value_at, with_object_at, with_value}
use Rattle.kb_names.specs.declared.types.ExactType.{ExactType}
use Rattle.kb_picture.specs.declared.path.Write.{Write}
use Rattle.kb_picture.specs.declared.picture.Origin.{Origin}
use Rattle.kb_picture.specs.declared.picture.Origin.TheVariants.{Arg, Field, Element}
use Rattle.kb_picture.specs.Endings.{Reading, out_value, place_at, with_write, with_write_in}
use Rattle.kb_picture.specs.WellFormed.{written_slot}
use Rattle.kb_picture.proofs.GrownPictures.{item_there}
use Rattle.kb_frames.specs.StandsFor.{IsLike}

-- ---- lists

-- lists that have the same items at all places are one
pub same_items : {A : Type 0} (xs ys : List A) → ((i : ℕ) → slice_get xs i ≡ slice_get ys i) → xs ≡ ys
same_items [] [] h = refl
same_items [] (y ∷ ys) h = let first : slice_get [] 0 ≡ Some y = h 0 in absurd cc
same_items (x ∷ xs) [] h = let first : Some x ≡ slice_get [] 0 = h 0 in absurd cc
same_items {A} (x ∷ xs) (y ∷ ys) h =
    let first : Some x ≡ Some y = h 0 in
    let same : x ≡ y = cc in
    ap (λ (l : List A). x ∷ l) (same_items xs ys (λ i. h (suc i))) ∙ ap (λ (z : A). z ∷ ys) same

-- ---- objects

-- what a slot of an object holds that may be there
abbrev pub slot_of : ℕ → Option Object → Option Value
slot_of slot it = option_and_then (λ (object : Object). slice_get object.values slot) it

pub like_self : (it : Option Object) → IsLike it it
like_self None = tt
like_self (Some object) = (refl, refl)

-- two that are like a third one are like each other
pub like_both : (one other third : Option Object) → IsLike one third → IsLike other third → IsLike one other
like_both None None third a b = tt
like_both None (Some other) None a b = absurd b
like_both None (Some other) (Some third) a b = absurd a
like_both (Some one) None None a b = absurd a
like_both (Some one) None (Some third) a b = absurd b
like_both (Some one) (Some other) None a b = absurd a
like_both (Some one) (Some other) (Some third) a b = (a.0 ∙ sym b.0, a.1 ∙ sym b.1)

pub like_back : (one other : Option Object) → IsLike one other → IsLike other one
like_back one other like = like_both other one other (like_self other) like

abbrev object_of : ExactType → List Value → Option Object
object_of kind values = Some (record { kind = kind; values = values })

-- objects that are like each other and hold the same in each slot are one
pub same_object : (one other : Option Object) → IsLike one other → ((slot : ℕ) → slot_of slot one ≡ slot_of slot other)
    → one ≡ other
same_object None None like same = refl
same_object None (Some other) like same = absurd like
same_object (Some one) None like same = absurd like
same_object (Some one) (Some other) like same =
    ap (object_of one.kind) (same_items one.values other.values same)
    ∙ ap (λ (kind : ExactType). object_of kind other.values) like.0

-- where one has a slot, the other has it
pub like_slot : (one other : Option Object) (slot : ℕ) (value : Value) → IsLike one other → slot_of slot one ≡ Some value
    → (old : Value) × (slot_of slot other ≡ Some old)
like_slot None None slot value like e = absurd cc
like_slot None (Some other) slot value like e = absurd like
like_slot (Some one) None slot value like e = absurd like
like_slot (Some one) (Some other) slot value like e =
    let inside : slot < length one.values = slice_get_within one.values slot value e in
    item_there other.values slot (omega (arith, inside, like.1))

-- ---- one value

abbrev pair_at : ℕ → ℕ → Option (ℕ × ℕ)
pair_at place slot = Some (place, slot)

-- the heap with a value in a slot of the object at a place, where both are told
abbrev put : Heap → Option (ℕ × ℕ) → Value → Heap
put heap None value = heap
put heap (Some at) value = with_value heap at.0 at.1 value

same_slot : (at : Option (ℕ × ℕ)) (place slot : ℕ) → (at ≡ pair_at place slot) ⊎ (at ≢ pair_at place slot)
same_slot None place slot = inr (λ e. absurd cc)
same_slot (Some at) place slot =
    elim (cases_eq at.0 place) [
      | inl one ↦ elim (cases_eq at.1 slot) [
        | inl other ↦ inl (ap (λ (p : ℕ). pair_at p at.1) one ∙ ap (λ (q : ℕ). pair_at place q) other)
        | inr other ↦ inr (λ e. other (let same : at ≡ (place, slot) = cc in ap (λ (x : ℕ × ℕ). x.1) same))
      ]
      | inr one ↦ inr (λ e. one (let same : at ≡ (place, slot) = cc in ap (λ (x : ℕ × ℕ). x.0) same))
    ]

-- the slot that is written holds the value
put_here : (heap : Heap) (place slot : ℕ) (value old : Value) → value_at heap place slot ≡ Some old
    → value_at (with_value heap place slot value) place slot ≡ Some value
put_here heap place slot value old there = go (object_at heap place) refl there
  where
    go : (it : Option Object) → object_at heap place ≡ it → slot_of slot it ≡ Some old
        → value_at (with_object_at heap place slot value it) place slot ≡ Some value
    go None at e = absurd cc
    go (Some object) at e =
        ap (slot_of slot)
        (set_here heap.objects place (object_with object slot value) (get_inside heap.objects place object at))
        ∙ set_here object.values slot value (get_inside object.values slot old e)

-- every other one holds what it held
put_other : (heap : Heap) (at : Option (ℕ × ℕ)) (value : Value) (place slot : ℕ) → at ≢ pair_at place slot
    → value_at (put heap at value) place slot ≡ value_at heap place slot
put_other heap None value place slot apart = refl
put_other heap (Some at) value place slot apart = go (object_at heap at.0) refl
  where
    go : (it : Option Object) → object_at heap at.0 ≡ it
        → value_at (with_object_at heap at.0 at.1 value it) place slot ≡ value_at heap place slot
    go None e = refl
    go (Some object) e = elim (cases_eq at.0 place) [
      | inl same ↦
          let here : slice_get (slice_set heap.objects at.0 (object_with object at.1 value)) place ≡ Some (object_with object at.1 value) =
          ap (slice_get (slice_set heap.objects at.0 (object_with object at.1 value))) (sym same)
          ∙ set_here heap.objects at.0 (object_with object at.1 value) (get_inside heap.objects at.0 object e) in
          let there : object_at heap place ≡ Some object = ap (object_at heap) (sym same) ∙ e in
          let other : at.1 ≢ slot = λ is. apart (ap (λ (p : ℕ). pair_at p at.1) same ∙ ap (λ (q : ℕ). pair_at place q) is) in
          ap (slot_of slot) here ∙ set_other object.values at.1 slot value other ∙ sym (ap (slot_of slot) there)
      | inr different ↦ ap (slot_of slot) (set_other heap.objects at.0 place (object_with object at.1 value) different)
    ]

-- each object keeps its exact type and its length, and the heap as many objects
put_like : (heap : Heap) (at : Option (ℕ × ℕ)) (value : Value) (place : ℕ)
    → IsLike (object_at (put heap at value) place) (object_at heap place)
put_like heap None value place = like_self (object_at heap place)
put_like heap (Some at) value place = go (object_at heap at.0) refl
  where
    go : (it : Option Object) → object_at heap at.0 ≡ it
        → IsLike (object_at (with_object_at heap at.0 at.1 value it) place) (object_at heap place)
    go None e = like_self (object_at heap place)
    go (Some object) e = elim (cases_eq at.0 place) [
      | inl same ↦
          let here : slice_get (slice_set heap.objects at.0 (object_with object at.1 value)) place ≡ Some (object_with object at.1 value) =
          ap (slice_get (slice_set heap.objects at.0 (object_with object at.1 value))) (sym same)
          ∙ set_here heap.objects at.0 (object_with object at.1 value) (get_inside heap.objects at.0 object e) in
          let there : object_at heap place ≡ Some object = ap (object_at heap) (sym same) ∙ e in
          subst (λ (x : Option Object). IsLike x (object_at heap place)) (sym here)
          (subst (λ (y : Option Object). IsLike (Some (object_with object at.1 value)) y) (sym there) (refl, set_size object.values at.1 value))
      | inr different ↦
          subst (λ (x : Option Object). IsLike x (object_at heap place))
          (sym (set_other heap.objects at.0 place (object_with object at.1 value) different))
          (like_self (object_at heap place))
    ]

put_size : (heap : Heap) (at : Option (ℕ × ℕ)) (value : Value) → length (put heap at value).objects ≡ length heap.objects
put_size heap None value = refl
put_size heap (Some at) value = go (object_at heap at.0)
  where
    go : (it : Option Object) → length (with_object_at heap at.0 at.1 value it).objects ≡ length heap.objects
    go None = refl
    go (Some object) = set_size heap.objects at.0 (object_with object at.1 value)

-- ---- what a list of writes writes

module _ (r : Reading) where
  abbrev pub placed : ℕ × ℕ → ℕ × ℕ
  placed at = (place_at r.places.objects at.0, at.1)

  -- the place in the heap and the slot to which a write goes
  abbrev pub goes_to : Write → Option (ℕ × ℕ)
  goes_to write = option_map placed (written_slot write.slot)

  write_put : (heap : Heap) (write : Write) → with_write r heap write ≡ put heap (goes_to write) (out_value r write.value)
  write_put heap write = go write.slot
    where
      go : (slot : Origin)
          → with_write_in r heap slot (out_value r write.value) ≡ put heap (option_map placed (written_slot slot)) (out_value r write.value)
      go (Arg number) = refl
      go (Field object slot) = refl
      go (Element array index) = refl

  pub writes_size : (writes : List Write) (heap : Heap) → length (fold (with_write r) heap writes).objects ≡ length heap.objects
  writes_size [] heap = refl
  writes_size (write ∷ writes) heap =
      writes_size writes (with_write r heap write) ∙ ap (λ (h : Heap). length h.objects) (write_put heap write)
      ∙ put_size heap (goes_to write) (out_value r write.value)

  pub writes_like : (writes : List Write) (heap : Heap) (place : ℕ)
      → IsLike (object_at (fold (with_write r) heap writes) place) (object_at heap place)
  writes_like [] heap place = like_self (object_at heap place)
  writes_like (write ∷ writes) heap place =
      let later = writes_like writes (with_write r heap write) place in
      let one : IsLike (object_at (with_write r heap write) place) (object_at heap place) =
      subst (λ (h : Heap). IsLike (object_at h place) (object_at heap place)) (sym (write_put heap write))
      (put_like heap (goes_to write) (out_value r write.value) place) in
      like_both (object_at (fold (with_write r) (with_write r heap write) writes) place) (object_at heap place)
      (object_at (with_write r heap write) place) later
      (like_back (object_at (with_write r heap write) place) (object_at heap place) one)

  module _ (place slot : ℕ) where
    -- a slot to which none of them goes holds what it held
    pub not_written : (writes : List Write) (heap : Heap)
        → ((write : Write) → Has writes write → goes_to write ≢ Some (place, slot))
        → value_at (fold (with_write r) heap writes) place slot ≡ value_at heap place slot
    not_written [] heap none = refl
    not_written (write ∷ writes) heap none =
        not_written writes (with_write r heap write) (λ w has. none w (has_later write w writes has))
        ∙ ap (λ (h : Heap). value_at h place slot) (write_put heap write)
        ∙ put_other heap (goes_to write) (out_value r write.value) place slot (none write (has_first write writes))

    module _ (target : Value) where
      -- each of the writes that go to the slot writes that value
      abbrev pub AllWrite : List Write → Type 0
      AllWrite writes =
          (write : Write) → Has writes write → goes_to write ≡ Some (place, slot) → out_value r write.value ≡ target

      all_later : (write : Write) (writes : List Write) → AllWrite (write ∷ writes) → AllWrite writes
      all_later write writes all = λ w has. all w (has_later write w writes has)

      hits : (heap : Heap) (write : Write) (old : Value) → value_at heap place slot ≡ Some old
          → goes_to write ≡ Some (place, slot) → out_value r write.value ≡ target
          → value_at (with_write r heap write) place slot ≡ Some target
      hits heap write old there same value =
          ap (λ (h : Heap). value_at h place slot) (write_put heap write)
          ∙ ap (λ (at : Option (ℕ × ℕ)). value_at (put heap at (out_value r write.value)) place slot) same
          ∙ put_here heap place slot (out_value r write.value) old there
          ∙ ap (λ (v : Value). Some v) value

      passes : (heap : Heap) (write : Write) → goes_to write ≢ Some (place, slot)
          → value_at (with_write r heap write) place slot ≡ value_at heap place slot
      passes heap write apart =
          ap (λ (h : Heap). value_at h place slot) (write_put heap write)
          ∙ put_other heap (goes_to write) (out_value r write.value) place slot apart

      stays : (writes : List Write) (heap : Heap) → AllWrite writes → value_at heap place slot ≡ Some target
          → value_at (fold (with_write r) heap writes) place slot ≡ Some target
      stays [] heap all there = there
      stays (write ∷ writes) heap all there =
          let one : value_at (with_write r heap write) place slot ≡ Some target =
          elim (same_slot (goes_to write) place slot) [
            | inl same ↦ hits heap write target there same (all write (has_first write writes) same)
            | inr apart ↦ passes heap write apart ∙ there
          ] in
          stays writes (with_write r heap write) (all_later write writes all) one

      still_there : (heap : Heap) (write : Write) (old : Value) → value_at heap place slot ≡ Some old
          → (new : Value) × (value_at (with_write r heap write) place slot ≡ Some new)
      still_there heap write old there =
          let like : IsLike (object_at heap place) (object_at (with_write r heap write) place) =
          like_back (object_at (with_write r heap write) place) (object_at heap place) (writes_like (write ∷ []) heap place) in
          like_slot (object_at heap place) (object_at (with_write r heap write) place) slot old like there

      -- a slot that is there, and to which one of them goes, holds that value
      pub comes : (writes : List Write) (heap : Heap) (old : Value) → value_at heap place slot ≡ Some old → AllWrite writes
          → (write : Write) → Has writes write → goes_to write ≡ Some (place, slot)
          → value_at (fold (with_write r) heap writes) place slot ≡ Some target
      comes [] heap old there all write has same = absurd (has_none write has)
      comes (first ∷ writes) heap old there all write has same =
          elim (has_cases first write writes has) [
            | inl is ↦
                (let goes : goes_to first ≡ Some (place, slot) = ap (λ (w : Write). goes_to w) is ∙ same in
                stays writes (with_write r heap first) (all_later first writes all)
                (hits heap first old there goes (all first (has_first first writes) goes)))
            | inr later ↦
                (let still = still_there heap first old there in
                comes writes (with_write r heap first) still.0 still.1 (all_later first writes all) write later same)
          ]
