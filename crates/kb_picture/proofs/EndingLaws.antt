-- The heap that an ended path states has the input's objects, the literals and what the run made, and names no others.
use Rattle.std.proofs.Common.{◌≡◌, ℕ, zero, suc, ◌+◌, ◌<◌, ◌≤◌, List, [], ◌∷◌, ◌++◌, length, map, fold, replicate, flat_map, Option, Some, None, slice_get, slice_set, refl, sym, ap, subst, ◌∙◌, arith, length-append}
use Rattle.std.specs.List.{AllByRecursion}
use Rattle.std.specs.Option.{option_map_or}
use Rattle.std.proofs.lemmas.List.{length-map, length-replicate}
use Rattle.std.proofs.lemmas.Option.{get_or_from_slice_get}
use Rattle.kb_names.specs.declared.types.ExactType.{ExactType}
use Rattle.kb_names.specs.declared.types.ExactType.TheVariants as exact
use Rattle.kb_names.specs.declared.types.JType.{JType}
use Rattle.kb_names.specs.declared.types.JType.TheVariants as types
use Rattle.kb_class.specs.Naming.{Has}
use Rattle.kb_class.specs.declared.ids.MethodId.{MethodId}
use Rattle.kb_class.proofs.Lists.{has_left, has_right, map_has, all_has, set_size, get_inside}
use Rattle.kb_heap.specs.declared.heap.Value.{Value}
use Rattle.kb_heap.specs.declared.heap.Value.TheVariants.{Int as IntValue, Null as NullValue, Ref}
use Rattle.kb_heap.specs.declared.heap.Object.{Object}
use Rattle.kb_heap.specs.declared.heap.Heap.{Heap}
use Rattle.kb_heap.specs.declared.heap.Input.{Input}
use Rattle.kb_heap.specs.Heap.{object_at, object_with, with_object_at, with_value, literal}
use Rattle.kb_classes.specs.World.{World}
use Rattle.kb_classes.specs.declared.slots.FieldSlot.{FieldSlot}
use Rattle.kb_semantics.specs.Inputs.{IsInputObject, HasValuesOf, IsTypeCorrect}
use Rattle.kb_semantics.specs.Values.{IsObjectOf, IsValueOf, AreValuesOf, slots_of_class}
use Rattle.kb_picture.specs.declared.picture.Origin.{Origin}
use Rattle.kb_picture.specs.declared.picture.Origin.TheVariants.{Arg, Field, Element}
use Rattle.kb_picture.specs.declared.picture.PlaceLists.{PlaceLists}
use Rattle.kb_picture.specs.declared.path.Out.{Out}
use Rattle.kb_picture.specs.declared.path.Out.TheVariants.{Int, Null, Loc, Obj, Literal, New}
use Rattle.kb_picture.specs.declared.path.Write.{Write}
use Rattle.kb_picture.specs.declared.path.Made.{Made}
use Rattle.kb_picture.specs.declared.path.SymEnding.{SymEnding}
use Rattle.kb_picture.specs.declared.path.SymEnding.TheVariants.{Returned, Threw, IllTyped}
use Rattle.kb_picture.specs.declared.path.Ended.{Ended}
use Rattle.kb_picture.specs.declared.path.Leaf.{Leaf}
use Rattle.kb_picture.specs.declared.path.Leaf.TheVariants.{Ended as EndedLeaf}
use Rattle.kb_picture.specs.declared.path.Path.{Path}
use Rattle.kb_picture.specs.Endings.{Reading, place_at, out_value, number_of, ending_at, with_write_in, with_write, made_object, heap_at, reading_of, ending_of, final_heap_of}
use Rattle.kb_picture.specs.Instances.{IsInstance}
use Rattle.kb_picture.specs.Laws.{form_of, form_of_made, IsEndingWithin, HasWholeHeap}
use Rattle.kb_picture.specs.Numbering.{ending_outs, ended_outs}
use Rattle.kb_picture.specs.Places.{no_places, places_found}
use Rattle.kb_picture.specs.Shapes.{HasShape}
use Rattle.kb_picture.specs.WellFormed.{IsOpenLoc, IsOut, IsObjectOut, IsThrown, IsWithin, IsEnded, IsLeaf, IsWellFormed}
use Rattle.kb_picture.proofs.ChainLaws.{loc_at, all_below, below_at, has_place, inside_there}
use Rattle.kb_picture.proofs.PlaceLaws.{placed_parts}
use Rattle.kb_picture.proofs.ShapeLaws.{place_inside}

-- ---- forms

forms_set : (objects : List Object) (i : ℕ) (old new : Object) → slice_get objects i ≡ Some old → form_of new ≡ form_of old → map form_of (slice_set objects i new) ≡ map form_of objects
forms_set [] i old new at same = refl
forms_set (first ∷ objects) zero old new at same =
    let one : first ≡ old = cc in
    ap (λ (f : ExactType × ℕ). f ∷ map form_of objects) (same ∙ ap form_of (sym one))
forms_set (first ∷ objects) (suc i) old new at same = ap (λ (fs : List (ExactType × ℕ)). form_of first ∷ fs) (forms_set objects i old new at same)

written_forms : (heap : Heap) (o slot : ℕ) (value : Value) → map form_of (with_value heap o slot value).objects ≡ map form_of heap.objects
written_forms heap o slot value = go (object_at heap o) refl
  where
    go : (of : Option Object) → object_at heap o ≡ of → map form_of (with_object_at heap o slot value of).objects ≡ map form_of heap.objects
    go None at = refl
    go (Some of) at = forms_set heap.objects o of (object_with of slot value) at (ap (λ (n : ℕ). (of.kind, n)) (set_size of.values slot value))

write_forms : (r : Reading) (heap : Heap) (slot : Origin) (value : Value) → map form_of (with_write_in r heap slot value).objects ≡ map form_of heap.objects
write_forms r heap (Arg number) value = refl
write_forms r heap (Field object slot) value = written_forms heap (place_at r.places.objects object) slot value
write_forms r heap (Element array index) value = written_forms heap (place_at r.places.objects array) index value

all_forms : (r : Reading) (heap : Heap) (writes : List Write) → map form_of (fold (with_write r) heap writes).objects ≡ map form_of heap.objects
all_forms r heap [] = refl
all_forms r heap (write ∷ writes) = all_forms r (with_write r heap write) writes ∙ write_forms r heap write.slot (out_value r write.value)

made_forms : (r : Reading) (made : List Made) → map form_of (map (made_object r) made) ≡ map form_of_made made
made_forms r [] = refl
made_forms r (one ∷ made) =
    let form : form_of (made_object r one) ≡ form_of_made one = ap (λ (n : ℕ). (one.kind, n)) (length-map one.values (out_value r)) in
    ap (λ (f : ExactType × ℕ). f ∷ map form_of (map (made_object r) made)) form ∙ ap (λ (fs : List (ExactType × ℕ)). form_of_made one ∷ fs) (made_forms r made)

-- ---- references

within_ref : (n o : ℕ) → o < n → IsWithin n (Ref o)
within_ref n o below = λ object e. subst (λ (p : ℕ). p < n) (let same : o ≡ object = cc in same) below

within_more : (n m : ℕ) (value : Value) → n ≤ m → IsWithin n value → IsWithin m value
within_more n m value less within = λ object e. (let below : object < n = within object e in omega (arith, below, less))

-- each value of an object is within so many objects, and so of each object
abbrev HasWithin : ℕ → Object → Type 0
HasWithin n object = AllByRecursion (IsWithin n) object.values

abbrev AreClosed : ℕ → List Object → Type 0
AreClosed n objects = AllByRecursion (HasWithin n) objects

module _ {A : Type 0} (P : A → Type 0) where
  all_set : (xs : List A) (i : ℕ) (y : A) → AllByRecursion P xs → P y → AllByRecursion P (slice_set xs i y)
  all_set [] i y all one = tt
  all_set (x ∷ xs) zero y all one = (one, all.1)
  all_set (x ∷ xs) (suc i) y all one = (all.0, all_set xs i y all.1 one)

  all_both : (xs ys : List A) → AllByRecursion P xs → AllByRecursion P ys → AllByRecursion P (xs ++ ys)
  all_both [] ys all also = also
  all_both (x ∷ xs) ys all also = (all.0, all_both xs ys all.1 also)

  all_same : (n : ℕ) (x : A) → P x → AllByRecursion P (replicate n x)
  all_same zero x one = tt
  all_same (suc n) x one = (one, all_same n x one)

  all_more : (Q : A → Type 0) (xs : List A) → ((x : A) → P x → Q x) → AllByRecursion P xs → AllByRecursion Q xs
  all_more Q [] each all = tt
  all_more Q (x ∷ xs) each all = (each x all.0, all_more Q xs each all.1)

module _ {A B : Type 0} (P : B → Type 0) (f : A → B) where
  all_made : (xs : List A) → ((x : A) → Has xs x → P (f x)) → AllByRecursion P (map f xs)
  all_made [] each = tt
  all_made (x ∷ xs) each = (each x (0, refl), all_made xs (λ y has. each y (suc has.0, has.1)))

closed_more : (n m : ℕ) (objects : List Object) → n ≤ m → AreClosed n objects → AreClosed m objects
closed_more n m objects less closed =
    all_more (HasWithin n) (HasWithin m) objects (λ object one. all_more (IsWithin n) (IsWithin m) object.values (λ value within. within_more n m value less within) one) closed

closed_written : (n : ℕ) (heap : Heap) (o slot : ℕ) (value : Value) → AreClosed n heap.objects → IsWithin n value → AreClosed n (with_value heap o slot value).objects
closed_written n heap o slot value closed within = go (object_at heap o) refl
  where
    go : (of : Option Object) → object_at heap o ≡ of → AreClosed n (with_object_at heap o slot value of).objects
    go None at = closed
    go (Some of) at =
        all_set (HasWithin n) heap.objects o (object_with of slot value) closed (all_set (IsWithin n) of.values slot value (all_has (HasWithin n) heap.objects of closed (o, at)) within)

closed_write : (n : ℕ) (r : Reading) (heap : Heap) (slot : Origin) (value : Value) → AreClosed n heap.objects → IsWithin n value → AreClosed n (with_write_in r heap slot value).objects
closed_write n r heap (Arg number) value closed within = closed
closed_write n r heap (Field object slot) value closed within = closed_written n heap (place_at r.places.objects object) slot value closed within
closed_write n r heap (Element array index) value closed within = closed_written n heap (place_at r.places.objects array) index value closed within

closed_writes : (n : ℕ) (r : Reading) (heap : Heap) (writes : List Write) → AreClosed n heap.objects → ((write : Write) → Has writes write → IsWithin n (out_value r write.value))
    → AreClosed n (fold (with_write r) heap writes).objects
closed_writes n r heap [] closed each = closed
closed_writes n r heap (write ∷ writes) closed each =
    closed_writes n r (with_write r heap write) writes (closed_write n r heap write.slot (out_value r write.value) closed (each write (0, refl))) (λ w has. each w (suc has.0, has.1))

-- ---- type-correct inputs name their own objects

object_inside : (world : World) (heap : Heap) (type : JType) (o : ℕ) → IsObjectOf world type (object_at heap o) → o < length heap.objects
object_inside world heap type o fits = go (object_at heap o) refl fits
  where
    go : (of : Option Object) → object_at heap o ≡ of → IsObjectOf world type of → o < length heap.objects
    go None at fits = absurd fits
    go (Some of) at fits = get_inside heap.objects o of at

value_within : (world : World) (heap : Heap) (type : JType) (value : Value) → IsValueOf world heap type value → IsWithin (length heap.objects) value
value_within world heap type (IntValue z) fits = λ object e. absurd cc
value_within world heap type NullValue fits = λ object e. absurd cc
value_within world heap types.Bool (Ref o) fits = absurd fits
value_within world heap types.Byte (Ref o) fits = absurd fits
value_within world heap types.Char (Ref o) fits = absurd fits
value_within world heap types.Short (Ref o) fits = absurd fits
value_within world heap types.Int (Ref o) fits = absurd fits
value_within world heap types.Long (Ref o) fits = absurd fits
value_within world heap types.Float (Ref o) fits = absurd fits
value_within world heap types.Double (Ref o) fits = absurd fits
value_within world heap (types.Class name) (Ref o) fits = within_ref (length heap.objects) o (object_inside world heap (types.Class name) o fits)
value_within world heap (types.Array of) (Ref o) fits = within_ref (length heap.objects) o (object_inside world heap (types.Array of) o fits)

values_within : (world : World) (heap : Heap) (of : List JType) (values : List Value) → AreValuesOf world heap of values → AllByRecursion (IsWithin (length heap.objects)) values
values_within world heap [] [] fit = tt
values_within world heap [] (value ∷ values) fit = absurd fit
values_within world heap (type ∷ of) [] fit = tt
values_within world heap (type ∷ of) (value ∷ values) fit = (value_within world heap type value fit.0, values_within world heap of values fit.1)

has_within : (world : World) (heap : Heap) (kind : ExactType) (values : List Value) → HasValuesOf world heap kind values → AllByRecursion (IsWithin (length heap.objects)) values
has_within world heap (exact.Class name) values fit = values_within world heap (map (λ (slot : FieldSlot). slot.kind) (slots_of_class world name)) values fit
has_within world heap (exact.Array of) values fit =
    all_more (IsValueOf world heap of) (IsWithin (length heap.objects)) values (λ value one. value_within world heap of value one) fit.1

input_closed : (world : World) (id : MethodId) (input : Input) → IsTypeCorrect world id input → AreClosed (length input.heap.objects) input.heap.objects
input_closed world id input correct =
    all_more (IsInputObject world input.heap) (HasWithin (length input.heap.objects)) input.heap.objects (λ object one. has_within world input.heap object.kind object.values one.values) correct.objects

-- ---- what a path states

-- what the values of a path at an input are read by
record ReadsAt (world : World) (path : Path) (input : Input) (shape : HasShape path.picture input) (r : Reading) : Type 0 where
  places : r.places ≡ shape.places
  inputs : r.inputs ≡ length input.heap.objects
  literals : r.literals ≡ length world.literals

reads_at : (world : World) (path : Path) (input : Input) (shape : HasShape path.picture input) → ReadsAt world path input shape (reading_of world path input)
unfolding reading_of
reads_at world path input shape = record { places = found; inputs = refl; literals = refl }
  where
    found : places_found path.picture input ≡ shape.places
    found = ap (λ (o : Option PlaceLists). option_map_or (λ (places : PlaceLists). places) o no_places) shape.placed

place_inside_at : (input : Input) (places : List ℕ) (number : ℕ) (n : ℕ) (place : ℕ) → slice_get places number ≡ Some place → place < n → place_at places number < n
place_inside_at input places number n place at below =
    let same : place_at places number ≡ place = get_or_from_slice_get places number place 0 at in
    omega (arith, same, below)

-- how many objects an ended path states, where the run has made so many
abbrev total : Reading → ℕ → ℕ
total r made = r.inputs + r.literals + made

module _ (world : World) (path : Path) (input : Input) (shape : HasShape path.picture input) (r : Reading) (reads : ReadsAt world path input shape r) (made : ℕ) where
  below_total : (o : ℕ) → o < length input.heap.objects → o < total r made
  below_total o below = (let more : o < r.inputs + r.literals + made = omega (arith, below, reads.inputs) in more)

  loc_below : (number : ℕ) → IsOpenLoc path.picture number → place_at r.places.locs number < length input.heap.objects
  loc_below number there =
      let parts = placed_parts path.picture input shape.places shape.placed in
      let found = loc_at input shape.places.objects path.picture.locs shape.places.locs number there.0 parts.locs there.1 in
      let inside = place_inside input shape.places.objects there.0.origin found.0 found.2 in
      subst (λ (p : PlaceLists). place_at p.locs number < length input.heap.objects) (sym reads.places)
      (place_inside_at input shape.places.locs number (length input.heap.objects) found.0 found.1 inside.1)

  object_below : (number : ℕ) → number < length path.picture.objects → place_at r.places.objects number < length input.heap.objects
  object_below number there =
      let parts = placed_parts path.picture input shape.places shape.placed in
      let size : length shape.places.objects ≡ 0 + length path.picture.objects = has_place input [] path.picture.objects shape.places.objects parts.objects in
      let placed = inside_there shape.places.objects number (let less : number < length shape.places.objects = omega (arith, size, there) in less) in
      let below = below_at (length input.heap.objects) shape.places.objects number placed.0 (all_below path.picture input shape) placed.1 in
      subst (λ (p : PlaceLists). place_at p.objects number < length input.heap.objects) (sym reads.places)
      (place_inside_at input shape.places.objects number (length input.heap.objects) placed.0 placed.1 below)

  out_within : (out : Out) → IsOut world path made out → IsWithin (total r made) (out_value r out)
  out_within (Int operand) is = λ object e. absurd cc
  out_within Null is = λ object e. absurd cc
  out_within (Loc number) is = within_ref (total r made) (place_at r.places.locs number) (below_total (place_at r.places.locs number) (loc_below number is))
  out_within (Obj number) is = within_ref (total r made) (place_at r.places.objects number) (below_total (place_at r.places.objects number) (object_below number is))
  out_within (Literal number) is = within_ref (total r made) (r.inputs + number) (let below : r.inputs + number < r.inputs + r.literals + made = omega (arith, is, reads.literals) in below)
  out_within (New number) is = within_ref (total r made) (r.inputs + r.literals + number) (let below : r.inputs + r.literals + number < r.inputs + r.literals + made = omega (arith, is) in below)

  thrown_below : (out : Out) → IsObjectOut out → IsWithin (total r made) (out_value r out) → number_of (out_value r out) < total r made
  thrown_below (Int operand) is within = absurd is
  thrown_below Null is within = absurd is
  thrown_below (Loc number) is within = within (place_at r.places.locs number) refl
  thrown_below (Obj number) is within = within (place_at r.places.objects number) refl
  thrown_below (Literal number) is within = within (r.inputs + number) refl
  thrown_below (New number) is within = within (r.inputs + r.literals + number) refl

  ending_within : (ending : SymEnding) → IsThrown ending → ((out : Out) → Has (ending_outs ending) out → IsOut world path made out) → IsEndingWithin (total r made) (ending_at r ending)
  ending_within (Returned None) thrown each = tt
  ending_within (Returned (Some out)) thrown each = out_within out (each out (0, refl))
  ending_within (Threw out) thrown each = thrown_below out thrown (out_within out (each out (0, refl)))
  ending_within (IllTyped place) thrown each = tt

-- ---- what an ended path lists

has_flat : {A B : Type 0} (f : A → List B) (xs : List A) (x : A) (y : B) → Has xs x → Has (f x) y → Has (flat_map f xs) y
has_flat f [] x y has of = absurd (let e : None ≡ Some x = has.1 in cc)
has_flat f (first ∷ xs) x y has of = go (λ (later : Has xs x). has_flat f xs x y later of) has.0 has.1
  where
    go : (Has xs x → Has (flat_map f xs) y) → (place : ℕ) → slice_get (first ∷ xs) place ≡ Some x → Has (f first ++ flat_map f xs) y
    go again zero at = has_left (f first) (flat_map f xs) y (subst (λ z. Has (f z) y) (sym (let same : first ≡ x = cc in same)) of)
    go again (suc place) at = has_right (f first) (flat_map f xs) y (again (place, at))

module _ (ended : Ended) where
  writes_listed : (write : Write) → Has ended.writes write → Has (ended_outs ended) write.value
  writes_listed write has =
      has_left (ending_outs ended.ending ++ map (λ (w : Write). w.value) ended.writes) (flat_map (λ (m : Made). m.values) ended.made) write.value
      (has_right (ending_outs ended.ending) (map (λ (w : Write). w.value) ended.writes) write.value (map_has (λ (w : Write). w.value) ended.writes write has))

  made_listed : (one : Made) (out : Out) → Has ended.made one → Has one.values out → Has (ended_outs ended) out
  made_listed one out has of =
      has_right (ending_outs ended.ending ++ map (λ (w : Write). w.value) ended.writes) (flat_map (λ (m : Made). m.values) ended.made) out
      (has_flat (λ (m : Made). m.values) ended.made one out has of)

  ending_listed : (out : Out) → Has (ending_outs ended.ending) out → Has (ended_outs ended) out
  ending_listed out has =
      has_left (ending_outs ended.ending ++ map (λ (w : Write). w.value) ended.writes) (flat_map (λ (m : Made). m.values) ended.made) out
      (has_left (ending_outs ended.ending) (map (λ (w : Write). w.value) ended.writes) out has)

-- ---- the whole heap

forms_size : (one other : List Object) → map form_of one ≡ map form_of other → length one ≡ length other
forms_size one other e = sym (length-map one form_of) ∙ ap length e ∙ length-map other form_of

module _ (world : World) (path : Path) (input : Input) (shape : HasShape path.picture input) (r : Reading) (reads : ReadsAt world path input shape r) (ended : Ended)
    (is : IsEnded world path ended) (closed : AreClosed (length input.heap.objects) input.heap.objects) where
  out_is : (out : Out) → Has (ended_outs ended) out → IsWithin (total r (length ended.made)) (out_value r out)
  out_is out has = out_within world path input shape r reads (length ended.made) out (is.outs has.0 out has.1)

  less_total : length input.heap.objects ≤ total r (length ended.made)
  less_total = (let less : length input.heap.objects ≤ r.inputs + r.literals + length ended.made = omega (arith, reads.inputs) in less)

  heap_closed : AreClosed (total r (length ended.made)) (heap_at r input.heap ended.writes ended.made).objects
  heap_closed =
      let n = total r (length ended.made) in
      let less : length input.heap.objects ≤ total r (length ended.made) = less_total in
      all_both (HasWithin n) ((fold (with_write r) input.heap ended.writes).objects ++ replicate r.literals literal) (map (made_object r) ended.made)
      (all_both (HasWithin n) (fold (with_write r) input.heap ended.writes).objects (replicate r.literals literal)
      (closed_writes n r input.heap ended.writes (closed_more (length input.heap.objects) n input.heap.objects less closed) (λ write has. out_is write.value (writes_listed ended write has)))
      (all_same (HasWithin n) r.literals literal tt))
      (all_made (HasWithin n) (made_object r) ended.made (λ one has. all_made (IsWithin n) (out_value r) one.values (λ out of. out_is out (made_listed ended one out has of))))

  heap_size : length (heap_at r input.heap ended.writes ended.made).objects ≡ total r (length ended.made)
  heap_size =
      let first : length (fold (with_write r) input.heap ended.writes).objects ≡ length input.heap.objects =
      forms_size (fold (with_write r) input.heap ended.writes).objects input.heap.objects (all_forms r input.heap ended.writes) in
      let literals : length (replicate r.literals literal) ≡ r.literals = length-replicate r.literals literal in
      let made : length (map (made_object r) ended.made) ≡ length ended.made = length-map ended.made (made_object r) in
      let front : length ((fold (with_write r) input.heap ended.writes).objects ++ replicate r.literals literal)
      ≡ length (fold (with_write r) input.heap ended.writes).objects + length (replicate r.literals literal) =
      length-append (fold (with_write r) input.heap ended.writes).objects (replicate r.literals literal) in
      let all : length (((fold (with_write r) input.heap ended.writes).objects ++ replicate r.literals literal) ++ map (made_object r) ended.made)
      ≡ length ((fold (with_write r) input.heap ended.writes).objects ++ replicate r.literals literal) + length (map (made_object r) ended.made) =
      length-append ((fold (with_write r) input.heap ended.writes).objects ++ replicate r.literals literal) (map (made_object r) ended.made) in
      let sum : length (((fold (with_write r) input.heap ended.writes).objects ++ replicate r.literals literal) ++ map (made_object r) ended.made)
      ≡ r.inputs + r.literals + length ended.made = omega (arith, first, literals, made, front, all, reads.inputs) in
      sum

ended_leaf : (world : World) (path : Path) (leaf : Leaf) (ended : Ended) → leaf ≡ EndedLeaf ended → IsLeaf world path leaf → IsEnded world path ended
ended_leaf world path leaf ended e is = subst (IsLeaf world path) e is

pub whole_heap : (world : World) (id other : MethodId) (path : Path) (ended : Ended) (input : Input) → IsWellFormed world id path → path.leaf ≡ EndedLeaf ended
    → IsTypeCorrect world other input → IsInstance path input → HasWholeHeap world path ended input
unfolding ending_of final_heap_of
whole_heap world id other path ended input formed leaf correct instance_of =
    let r = reading_of world path input in
    let reads = reads_at world path input instance_of.shape in
    let is = ended_leaf world path path.leaf ended leaf formed.leaf in
    let closed = heap_closed world path input instance_of.shape r reads ended is (input_closed world other input correct) in
    let size = heap_size world path input instance_of.shape r reads ended is (input_closed world other input correct) in
    let n = length (heap_at r input.heap ended.writes ended.made).objects in
    let bounded : AreClosed n (heap_at r input.heap ended.writes ended.made).objects =
    subst (λ (k : ℕ). AreClosed k (heap_at r input.heap ended.writes ended.made).objects) (sym size) closed in
    let ends = ending_within world path input instance_of.shape r reads (length ended.made) ended.ending is.thrown (λ out has. (let listed = ending_listed ended out has in is.outs listed.0 out listed.1)) in
    record {
      first = (fold (with_write r) input.heap ended.writes).objects;
      made = map (made_object r) ended.made;
      objects = ap (λ (k : ℕ). (fold (with_write r) input.heap ended.writes).objects ++ replicate k literal ++ map (made_object r) ended.made) reads.literals;
      kept = all_forms r input.heap ended.writes;
      new = made_forms r ended.made;
      values = λ object value has of. all_has (IsWithin n) object.values value (all_has (HasWithin n) (heap_at r input.heap ended.writes ended.made).objects object bounded has) of;
      ending = subst (λ (k : ℕ). IsEndingWithin k (ending_at r ended.ending)) (sym size) ends;
    }
