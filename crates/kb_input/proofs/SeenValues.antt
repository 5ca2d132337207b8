-- What the slots that were read hold in the emitted input: values of their types.
use Rattle.std.proofs.Common.{◌≡◌, ℕ, zero, suc, ◌+◌, ◌<◌, ◌⊎◌, inl, inr, ℤ, pos, Bool, true, false, true≢false, cond, List, [], ◌∷◌, ◌++◌, length, map, filter_map, find, Option, Some, None, slice_get, refl, sym, ap, subst, ◌∙◌, arith, length-append, option_map, option_and_then}
use Rattle.std.proofs.lemmas.List.{length-map}
use Rattle.std.proofs.lemmas.Option.{same_Some, slice_get_within, slice_get-map, get_or_from_slice_get}
use Rattle.std.specs.List.{cons_option}
use Rattle.std.specs.Option.{option_map_or}
use Rattle.kb_blast.specs.Meaning.{KindFits}
use Rattle.kb_class.proofs.Lists.{has_none, has_cases, filter_has}
use Rattle.kb_class.specs.Naming.{Has}
use Rattle.kb_class.specs.declared.ids.MethodId.{MethodId}
use Rattle.kb_heap.specs.declared.heap.Value.{Value}
use Rattle.kb_heap.specs.declared.heap.Value.TheVariants.{Int as IntValue, Null as NullValue, Ref}
use Rattle.kb_heap.specs.declared.heap.Heap.{Heap}
use Rattle.kb_heap.specs.Heap.{object_at}
use Rattle.kb_classes.proofs.MethodNumbers.{get_before, get_behind}
use Rattle.kb_classes.proofs.Places.{get_pushed}
use Rattle.kb_classes.specs.Subtypes.{fits}
use Rattle.kb_classes.specs.World.{World}
use Rattle.kb_names.specs.declared.types.ExactType.{ExactType}
use Rattle.kb_names.specs.declared.types.JType.{JType}
use Rattle.kb_names.specs.declared.types.JType.TheVariants as types
use Rattle.kb_semantics.specs.Looks.{numbers_below}
use Rattle.kb_semantics.specs.Values.{IsValueOf, IsObjectOf}
use Rattle.kb_terms.specs.Terms.{int_at}
use Rattle.kb_picture.proofs.GrownPictures.{item_there}
use Rattle.kb_picture.specs.declared.picture.Origin.{Origin}
use Rattle.kb_picture.specs.declared.picture.PicLoc.{PicLoc}
use Rattle.kb_picture.specs.declared.picture.PicObject.{PicObject}
use Rattle.kb_picture.specs.declared.picture.Picture.{Picture}
use Rattle.kb_picture.specs.declared.picture.Seen.{Seen}
use Rattle.kb_picture.specs.declared.picture.Seen.TheVariants.{Int, Null, Loc, Obj, Beyond}
use Rattle.kb_picture.specs.declared.picture.Standing.{Standing}
use Rattle.kb_picture.specs.declared.picture.Standing.TheVariants as standings
use Rattle.kb_picture.specs.Queries.{type_of_slot, kind_for, kind_seen, kinds_seen}
use Rattle.kb_picture.specs.WellFormed.{variable_seen, variables_seen, location_seen, locations_seen, IsStanding, LeadsTo}
use Rattle.kb_picture.specs.WellTyped.{IsWellTyped, SeenFits, LocFits, StandingFits, SomeFits, is_int_type, is_reference_type}
use Rattle.kb_input.proofs.Unread.{unread_kind}
use Rattle.kb_input.specs.Emitted.{unread_of, count_of, has_own, is_apart, location_number, own_kind, own_object, own_objects, first_fitting, unread_input, seen_value, location_number_at, number_behind, held_from}
use Rattle.kb_input.specs.Laws.{AreValuesFor}

-- ---- numbers

pub length_below : (n : ℕ) → length (numbers_below n) ≡ n
length_below zero = refl
length_below (suc n) = let before : length (numbers_below n) ≡ n = length_below n in omega (arith, before, length-append (numbers_below n) (n ∷ []))

pub below_at : (n i v : ℕ) → slice_get (numbers_below n) i ≡ Some v → v ≡ i
below_at zero i v at = absurd cc
below_at (suc n) i v at = go (λ (g : slice_get (numbers_below n) i ≡ Some v). below_at n i v g) (get_pushed (numbers_below n) n i v at)
  where
    go : (slice_get (numbers_below n) i ≡ Some v → v ≡ i) → (slice_get (numbers_below n) i ≡ Some v) ⊎ ((i ≡ length (numbers_below n)) × (n ≡ v)) → v ≡ i
    go again (inl g) = again g
    go again (inr g) = let len : length (numbers_below n) ≡ n = length_below n in let one = g.0 in let other = g.1 in omega (arith, len, one, other)

pub at_below : (n i : ℕ) → i < n → slice_get (numbers_below n) i ≡ Some i
at_below n i inside =
    let found = item_there (numbers_below n) i (let len : length (numbers_below n) ≡ n = length_below n in omega (arith, len, inside)) in
    found.1 ∙ ap (λ (v : ℕ). Some v) (below_at n i found.0 found.1)

-- ---- the numbers of objects of one's own

abbrev pub own_at : Picture → ℕ → List (Origin × Seen) → ℕ → ℕ
own_at picture own [] i = own
own_at picture own (x ∷ seen) zero = own
own_at picture own (x ∷ seen) (suc i) = own_at picture (number_behind picture own x.1) seen i

abbrev pub held_of : Picture → List ℤ → ℕ → Origin × Seen → Origin × Value
held_of picture values own x = (x.0, seen_value picture values own x.1)

pub held_at : (picture : Picture) (values : List ℤ) (own : ℕ) (seen : List (Origin × Seen)) (i : ℕ) (x : Origin × Seen) → slice_get seen i ≡ Some x
    → slice_get (held_from picture values own seen) i ≡ Some (held_of picture values (own_at picture own seen i) x)
held_at picture values own [] i x at = absurd cc
held_at picture values own (first ∷ seen) zero x at = ap (λ (y : Origin × Seen). Some (held_of picture values own y)) (same_Some first x at)
held_at picture values own (first ∷ seen) (suc i) x at = held_at picture values (number_behind picture own first.1) seen i x at

-- what is held at a place is that of the slot that was read there
pub record HeldOf (picture : Picture) (values : List ℤ) (own : ℕ) (seen : List (Origin × Seen)) (i : ℕ) (h : Origin × Value) : Type 0 where
  pub read : Origin × Seen
  pub at : slice_get seen i ≡ Some read
  pub is : held_of picture values (own_at picture own seen i) read ≡ h

pub held_back : (picture : Picture) (values : List ℤ) (own : ℕ) (seen : List (Origin × Seen)) (i : ℕ) (h : Origin × Value) → slice_get (held_from picture values own seen) i ≡ Some h
    → HeldOf picture values own seen i h
held_back picture values own [] i h at = absurd cc
held_back picture values own (first ∷ seen) zero h at = record { read = first; at = refl; is = same_Some (held_of picture values own first) h at }
held_back picture values own (first ∷ seen) (suc i) h at =
    let later = held_back picture values (number_behind picture own first.1) seen i h at in
    record { read = later.read; at = later.at; is = later.is }

-- the object of a slot that has one of its own
pub record OwnThere (world : World) (id : MethodId) (picture : Picture) (own : ℕ) (seen : List (Origin × Seen)) (i : ℕ) (slot : Origin) : Type 0 where
  pub place : ℕ
  pub number : own_at picture own seen i ≡ own + place
  pub there : slice_get (own_objects world id picture seen) place ≡ Some (own_object world id picture slot)

-- the same behind a slot that has an object of its own, or has none
record OwnBehind (world : World) (id : MethodId) (picture : Picture) (own : ℕ) (seen : List (Origin × Seen)) (i : ℕ) (first : Origin × Seen) (slot : Origin) (has : Bool) : Type 0 where
  place : ℕ
  number : own_at picture (cond has (suc own) own) seen i ≡ own + place
  there : slice_get (cond has (own_object world id picture first.0 ∷ []) [] ++ own_objects world id picture seen) place ≡ Some (own_object world id picture slot)

own_behind : (world : World) (id : MethodId) (picture : Picture) (own : ℕ) (seen : List (Origin × Seen)) (i : ℕ) (first : Origin × Seen) (slot : Origin) (has : Bool)
    → ((n : ℕ) → OwnThere world id picture n seen i slot) → OwnBehind world id picture own seen i first slot has
own_behind world id picture own seen i first slot true again =
    let found = again (suc own) in
    let number = found.number in
    record { place = suc found.place; number = omega (arith, number); there = found.there }
own_behind world id picture own seen i first slot false again =
    let found = again own in
    record { place = found.place; number = found.number; there = found.there }

pub own_there : (world : World) (id : MethodId) (picture : Picture) (own : ℕ) (seen : List (Origin × Seen)) (i : ℕ) (x : Origin × Seen) → slice_get seen i ≡ Some x → has_own picture x.1 ≡ true
    → OwnThere world id picture own seen i x.0
own_there world id picture own [] i x at e = absurd cc
own_there world id picture own (first ∷ seen) zero x at e =
    subst (λ (y : Origin × Seen). OwnThere world id picture own (first ∷ seen) zero y.0) same (record { place = 0; number = omega arith; there = here (has_own picture first.1) is })
  where
    same : first ≡ x
    same = same_Some first x at

    is : has_own picture first.1 ≡ true
    is = ap (λ (y : Origin × Seen). has_own picture y.1) same ∙ e

    here : (b : Bool) → b ≡ true → slice_get (cond b (own_object world id picture first.0 ∷ []) [] ++ own_objects world id picture seen) 0 ≡ Some (own_object world id picture first.0)
    here true f = refl
    here false f = absurd (true≢false (sym f))
own_there world id picture own (first ∷ seen) (suc i) x at e = behind (has_own picture first.1) (λ (n : ℕ). own_there world id picture n seen i x at e)
  where
    behind : Bool → ((n : ℕ) → OwnThere world id picture n seen i x.0) → OwnThere world id picture own (first ∷ seen) (suc i) x.0
    behind b again =
        let found = own_behind world id picture own seen i first x.0 (has_own picture first.1) again in
        record { place = found.place; number = found.number; there = found.there }

-- ---- the first exact type that fits

pub find_there : {A : Type 0} (test : A → Bool) (xs : List A) (x : A) → Has xs x → test x ≡ true → (y : A) × (find test xs ≡ Some y) × Has xs y × (test y ≡ true)
find_there test [] x h e = absurd (has_none x h)
find_there {A} test (first ∷ xs) x h e = go (λ (g : Has xs x). find_there test xs x g e) (test first) refl (has_cases first x xs h)
  where
    go : (Has xs x → (y : A) × (find test xs ≡ Some y) × Has xs y × (test y ≡ true)) → (b : Bool) → test first ≡ b → (first ≡ x) ⊎ Has xs x
        → (y : A) × (cond b (Some first) (find test xs) ≡ Some y) × Has (first ∷ xs) y × (test y ≡ true)
    go again true is at = (first, refl, (0, refl), is)
    go again false is (inl same) = absurd (true≢false (sym (sym is ∙ (ap test same ∙ e))))
    go again false is (inr later) = (let found = again later in (found.0, found.1, (suc found.2.0, found.2.1), found.3))

-- ---- variables

-- the kind of the variable of a slot that is seen as one
pub record KindThere (world : World) (id : MethodId) (picture : Picture) (seen : List (Origin × Seen)) (number : ℕ) (slot : Origin) : Type 0 where
  pub place : ℕ
  pub variable : slice_get (filter_map (λ (x : Origin × Seen). variable_seen x.1) seen) place ≡ Some number
  pub kind : slice_get (filter_map (kind_seen world id picture) seen) place ≡ Some (kind_for (type_of_slot world id picture.objects slot))

kind_there : (world : World) (id : MethodId) (picture : Picture) (seen : List (Origin × Seen)) (i number : ℕ) (slot : Origin) → slice_get seen i ≡ Some (slot, Int number)
    → KindThere world id picture seen number slot
kind_there world id picture [] i number slot at = absurd cc
kind_there world id picture (first ∷ seen) zero number slot at =
    subst (λ (x : Origin × Seen). KindThere world id picture (x ∷ seen) number slot) (sym (same_Some first (slot, Int number) at)) (record { place = 0; variable = refl; kind = refl })
kind_there world id picture (first ∷ seen) (suc i) number slot at = go first.1 refl (kind_there world id picture seen i number slot at)
  where
    skip : variable_seen first.1 ≡ None → KindThere world id picture seen number slot → KindThere world id picture (first ∷ seen) number slot
    skip none later = record { place = later.place; variable = rw none later.variable; kind = rw none later.kind }

    go : (how : Seen) → first.1 ≡ how → KindThere world id picture seen number slot → KindThere world id picture (first ∷ seen) number slot
    go (Int other) is later =
        let some : variable_seen first.1 ≡ Some other = ap variable_seen is in
        record { place = suc later.place; variable = rw some later.variable; kind = rw some later.kind }
    go Null is later = skip (ap variable_seen is) later
    go (Loc l) is later = skip (ap variable_seen is) later
    go (Obj o) is later = skip (ap variable_seen is) later
    go Beyond is later = skip (ap variable_seen is) later

module _ (world : World) (id : MethodId) (picture : Picture) (values : List ℤ) (typed : IsWellTyped world id picture) (are : AreValuesFor world id picture values) where
  pub int_fits : (i number : ℕ) (slot : Origin) → slice_get picture.seen i ≡ Some (slot, Int number) → KindFits (kind_for (type_of_slot world id picture.objects slot)) (int_at values number)
  int_fits i number slot at =
      let found = kind_there world id picture picture.seen i number slot at in
      let numbered : slice_get (numbers_below (length (variables_seen picture))) found.place ≡ Some number =
      ap (λ (vs : List ℕ). slice_get vs found.place) (sym typed.formed.variables) ∙ found.variable in
      let same : number ≡ found.place = below_at (length (variables_seen picture)) found.place number numbered in
      let kind : slice_get (kinds_seen world id picture) number ≡ Some (kind_for (type_of_slot world id picture.objects slot)) = ap (slice_get (kinds_seen world id picture)) same ∙ found.kind in
      let inside : number < length (kinds_seen world id picture) = slice_get_within (kinds_seen world id picture) number (kind_for (type_of_slot world id picture.objects slot)) kind in
      let count = are.count in
      let value = item_there values number (omega (arith, inside, count)) in
      subst (KindFits (kind_for (type_of_slot world id picture.objects slot))) (sym (get_or_from_slice_get values number value.0 (pos 0) value.1))
      (are.each number (kind_for (type_of_slot world id picture.objects slot)) value.0 kind value.1)

-- ---- locations

abbrev AllDifferent : List ℕ → Type 0
AllDifferent xs = (i j v : ℕ) → slice_get xs i ≡ Some v → slice_get xs j ≡ Some v → i ≡ j

abbrev locations_in : List (Origin × Seen) → List ℕ
locations_in seen = filter_map (λ (x : Origin × Seen). location_seen x.1) seen

seen_twice : (x : Origin × Seen) (seen : List (Origin × Seen)) (j n : ℕ) (one other : Origin) → AllDifferent (locations_in (x ∷ seen)) → Some x ≡ Some (one, Loc n) → slice_get seen j ≡ Some (other, Loc n) → ⊥
seen_twice x seen j n one other different a b =
    let same : x ≡ (one, Loc n) = same_Some x (one, Loc n) a in
    let first : location_seen x.1 ≡ Some n = ap (λ (y : Origin × Seen). location_seen y.1) same in
    let later : Has (locations_in seen) n = filter_has (λ (y : Origin × Seen). location_seen y.1) seen (other, Loc n) n (j, b) refl in
    let whole : AllDifferent (n ∷ locations_in seen) = subst (λ (o : Option ℕ). AllDifferent (cons_option o (locations_in seen))) first different in
    absurd (let e : zero ≡ suc later.0 = whole zero (suc later.0) n refl later.1 in cc)

different_rest : (x : Origin × Seen) (seen : List (Origin × Seen)) → AllDifferent (locations_in (x ∷ seen)) → AllDifferent (locations_in seen)
different_rest x seen different = go (location_seen x.1) different
  where
    go : (o : Option ℕ) → AllDifferent (cons_option o (locations_in seen)) → AllDifferent (locations_in seen)
    go None d = d
    go (Some v) d = λ i j w a b. (let e : suc i ≡ suc j = d (suc i) (suc j) w a b in cc)

-- no two slots are seen as one location
once_loc : (seen : List (Origin × Seen)) (i j n : ℕ) (one other : Origin) → AllDifferent (locations_in seen) → slice_get seen i ≡ Some (one, Loc n) → slice_get seen j ≡ Some (other, Loc n) → i ≡ j
once_loc [] i j n one other different a b = absurd cc
once_loc (x ∷ seen) zero zero n one other different a b = refl
once_loc (x ∷ seen) zero (suc j) n one other different a b = absurd (seen_twice x seen j n one other different a b)
once_loc (x ∷ seen) (suc i) zero n one other different a b = absurd (seen_twice x seen i n other one different b a)
once_loc (x ∷ seen) (suc i) (suc j) n one other different a b = ap suc (once_loc seen i j n one other (different_rest x seen different) a b)

loc_origin : (picture : Picture) (n i j : ℕ) (one other : Origin) → locations_seen picture ≡ numbers_below (length picture.locs) → slice_get picture.seen i ≡ Some (one, Loc n) → slice_get picture.seen j ≡ Some (other, Loc n)
    → one ≡ other
loc_origin picture n i j one other numbered a b =
    let same : i ≡ j = once_loc picture.seen i j n one other different a b in
    let both : Some (one, Loc n) ≡ Some (other, Loc n) = sym a ∙ (ap (slice_get picture.seen) same ∙ b) in
    ap (λ (x : Origin × Seen). x.0) (same_Some (one, Loc n) (other, Loc n) both)
  where
    different : AllDifferent (locations_in picture.seen)
    different k l v c d =
        let first : v ≡ k = below_at (length picture.locs) k v (ap (λ (xs : List ℕ). slice_get xs k) (sym numbered) ∙ c) in
        let second : v ≡ l = below_at (length picture.locs) l v (ap (λ (xs : List ℕ). slice_get xs l) (sym numbered) ∙ d) in
        sym first ∙ second

-- ---- values

null_typed : (world : World) (heap : Heap) (type : JType) → is_reference_type type ≡ true → IsValueOf world heap type NullValue
null_typed world heap (types.Class name) e = tt
null_typed world heap (types.Array component) e = tt
null_typed world heap _ e = absurd (true≢false (sym e))

ref_typed : (world : World) (heap : Heap) (type : JType) (o : ℕ) → is_reference_type type ≡ true → IsObjectOf world type (object_at heap o) → IsValueOf world heap type (Ref o)
ref_typed world heap (types.Class name) o e h = h
ref_typed world heap (types.Array component) o e h = h
ref_typed world heap _ o e h = absurd (true≢false (sym e))

int_typed : (world : World) (heap : Heap) (type : JType) (z : ℤ) → is_int_type type ≡ true → KindFits (kind_for (Some type)) z → IsValueOf world heap type (IntValue z)
int_typed world heap types.Bool z e h = h
int_typed world heap types.Int z e h = h
int_typed world heap _ z e h = absurd (true≢false (sym e))

module _ (world : World) (id : MethodId) (picture : Picture) (values : List ℤ) (typed : IsWellTyped world id picture) (are : AreValuesFor world id picture values) where
  abbrev base : Heap
  base = (unread_input world id picture).heap

  abbrev first_own : ℕ
  first_own = length picture.objects

  pub object_there : (o : ℕ) (object : PicObject) → slice_get picture.objects o ≡ Some object → object_at base o ≡ Some (unread_of world object)
  object_there o object at =
      get_before (map (unread_of world) picture.objects) (own_objects world id picture picture.seen) o (unread_of world object)
      (slice_get-map (unread_of world) picture.objects o ∙ ap (option_map (unread_of world)) at)

  pub own_object_there : (i : ℕ) (x : Origin × Seen) → slice_get picture.seen i ≡ Some x → has_own picture x.1 ≡ true
      → object_at base (own_at picture first_own picture.seen i) ≡ Some (own_object world id picture x.0)
  own_object_there i x at e =
      let found = own_there world id picture first_own picture.seen i x at e in
      let number : own_at picture first_own picture.seen i ≡ length (map (unread_of world) picture.objects) + found.place =
      found.number ∙ ap (λ (n : ℕ). n + found.place) (sym (length-map picture.objects (unread_of world))) in
      ap (object_at base) number
      ∙ (get_behind (map (unread_of world) picture.objects) (own_objects world id picture picture.seen) found.place ∙ found.there)

  -- an object of its own is of the declared type
  own_fits : (i : ℕ) (x : Origin × Seen) (type : JType) → slice_get picture.seen i ≡ Some x → has_own picture x.1 ≡ true → type_of_slot world id picture.objects x.0 ≡ Some type → SomeFits world type
      → IsObjectOf world type (object_at base (own_at picture first_own picture.seen i))
  own_fits i x type at e declared some =
      let found = find_there (λ (kind : ExactType). fits world kind type) world.universe some.0 some.1 some.2 in
      let kind : own_kind (option_and_then (first_fitting world) (type_of_slot world id picture.objects x.0)) ≡ found.0 =
      ap (λ (t : Option JType). own_kind (option_and_then (first_fitting world) t)) declared ∙ ap own_kind found.1 in
      let whole : (own_object world id picture x.0).kind ≡ found.0 = unread_kind world (own_kind (option_and_then (first_fitting world) (type_of_slot world id picture.objects x.0))) 0 ∙ kind in
      subst (IsObjectOf world type) (sym (own_object_there i x at e)) (ap (λ (k : ExactType). fits world k type) whole ∙ found.3)

  -- an object of the picture to which the slot leads is
  object_fits : (o : ℕ) (slot : Origin) (type : JType) → o < length picture.objects → LeadsTo picture slot o → type_of_slot world id picture.objects slot ≡ Some type → IsObjectOf world type (object_at base o)
  object_fits o slot type inside leads declared =
      let found = item_there picture.objects o inside in
      subst (IsObjectOf world type) (sym (object_there o found.0 found.1))
      (ap (λ (k : ExactType). fits world k type) (unread_kind world found.0.kind (count_of found.0.length)) ∙ typed.objects o found.0 slot type found.1 leads declared)

  -- the number of the object that a location is
  loc_typed : (i number : ℕ) (slot : Origin) (type : JType) (loc : PicLoc) → slice_get picture.seen i ≡ Some (slot, Loc number) → slice_get picture.locs number ≡ Some loc
      → type_of_slot world id picture.objects slot ≡ Some type → LocFits world type (slice_get picture.locs number)
      → IsObjectOf world type (object_at base (location_number_at picture.locs (own_at picture first_own picture.seen i) number))
  loc_typed i number slot type loc at there declared h = go loc.standing refl (subst (LocFits world type) there h)
    where
      origin : loc.origin ≡ slot
      origin =
          let read = (typed.formed.locs number loc there).0 in
          loc_origin picture number read.0 i loc.origin slot typed.formed.locations read.1 at

      own_of : (standing : Standing) → loc.standing ≡ standing → has_own picture (Loc number) ≡ is_apart standing
      own_of standing is = ap (λ (l : Option PicLoc). option_map_or (λ (x : PicLoc). is_apart x.standing) l false) there ∙ ap is_apart is

      number_of : (standing : Standing) → loc.standing ≡ standing
          → location_number_at picture.locs (own_at picture first_own picture.seen i) number ≡ location_number (own_at picture first_own picture.seen i) standing
      number_of standing is =
          ap (λ (l : Option PicLoc). option_map_or (λ (x : PicLoc). location_number (own_at picture first_own picture.seen i) x.standing) l (own_at picture first_own picture.seen i)) there
          ∙ ap (location_number (own_at picture first_own picture.seen i)) is

      go : (standing : Standing) → loc.standing ≡ standing → StandingFits world type loc.standing
          → IsObjectOf world type (object_at base (location_number_at picture.locs (own_at picture first_own picture.seen i) number))
      go standings.Open is some =
          subst (λ (n : ℕ). IsObjectOf world type (object_at base n)) (sym (number_of standings.Open is))
          (own_fits i (slot, Loc number) type at (own_of standings.Open is) declared (subst (StandingFits world type) is some))
      go standings.Beyond is some =
          subst (λ (n : ℕ). IsObjectOf world type (object_at base n)) (sym (number_of standings.Beyond is))
          (own_fits i (slot, Loc number) type at (own_of standings.Beyond is) declared (subst (StandingFits world type) is some))
      go (standings.Obj o) is some =
          let bound : slice_get picture.locs number ≡ Some (record { origin = slot; standing = standings.Obj o }) =
          there ∙ (ap (λ (s : Standing). Some (record { origin = loc.origin; standing = s })) is ∙ ap (λ (f : Origin). Some (record { origin = f; standing = standings.Obj o })) origin) in
          let inside : o < length picture.objects = subst (IsStanding picture) is (typed.formed.locs number loc there).1 in
          subst (λ (n : ℕ). IsObjectOf world type (object_at base n)) (sym (number_of (standings.Obj o) is))
          (object_fits o slot type inside (inr (record { loc = number; seen = (i, at); standing = bound })) declared)

  pub seen_typed : (i : ℕ) (slot : Origin) (how : Seen) (type : JType) → slice_get picture.seen i ≡ Some (slot, how) → type_of_slot world id picture.objects slot ≡ Some type → SeenFits world picture type how
      → IsValueOf world base type (seen_value picture values (own_at picture first_own picture.seen i) how)
  seen_typed i slot (Int number) type at declared h =
      int_typed world base type (int_at values number) h
      (subst (λ (t : Option JType). KindFits (kind_for t) (int_at values number)) declared (int_fits world id picture values typed are i number slot at))
  seen_typed i slot Null type at declared h = null_typed world base type h
  seen_typed i slot (Obj o) type at declared h =
      ref_typed world base type o h (object_fits o slot type (typed.formed.seen i (slot, Obj o) at) (inl (i, at)) declared)
  seen_typed i slot Beyond type at declared h =
      ref_typed world base type (own_at picture first_own picture.seen i) h.0 (own_fits i (slot, Beyond) type at refl declared h.1)
  seen_typed i slot (Loc number) type at declared h =
      let loc = item_there picture.locs number (typed.formed.seen i (slot, Loc number) at) in
      ref_typed world base type (location_number_at picture.locs (own_at picture first_own picture.seen i) number) h.0 (loc_typed i number slot type loc.0 at loc.1 declared h.1)
