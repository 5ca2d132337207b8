-- That the test of an ended path has a text.
use Rattle.std.proofs.Common.{◌≡◌, ℕ, zero, suc, ◌+◌, ◌<◌, ◌≤◌, List, [], ◌∷◌, ◌++◌, length, map, take, drop, None, Some, refl, sym, ◌∙◌, ap, subst, arith, append_assoc, length-append}
use Rattle.std.specs.List.{AllByRecursion}
use Rattle.std.proofs.lemmas.List.{length-map, length-replicate}
use Rattle.kb_class.specs.declared.ids.MethodId.{MethodId}
use Rattle.kb_class.specs.Naming.{Has}
use Rattle.kb_class.proofs.Lists.{has_first, has_later}
use Rattle.kb_picture.specs.Carried.{input_carried}
use Rattle.kb_heap.specs.declared.ending.Ending.{Ending}
use Rattle.kb_heap.specs.declared.ending.Ending.TheVariants.{Returned, Threw, IllTyped, Past}
use Rattle.kb_heap.specs.declared.heap.Heap.{Heap}
use Rattle.kb_heap.specs.declared.heap.Input.{Input}
use Rattle.kb_heap.specs.declared.heap.Object.{Object}
use Rattle.kb_heap.specs.declared.heap.Value.{Value}
use Rattle.kb_heap.specs.declared.heap.Value.TheVariants.{Int, Null, Ref}
use Rattle.kb_classes.specs.World.{World}
use Rattle.kb_names.specs.declared.types.ExactType.{ExactType}
use Rattle.kb_names.specs.declared.types.Target.{Target}
use Rattle.kb_names.specs.Targets.{IsTarget}
use Rattle.kb_picture.specs.declared.path.Ended.{Ended}
use Rattle.kb_picture.specs.declared.path.Path.{Path}
use Rattle.kb_picture.specs.Endings.{ending_of, final_heap_of, stated_end}
use Rattle.kb_picture.specs.declared.path.Leaf.TheVariants.{Ended as EndedLeaf}
use Rattle.kb_picture.specs.declared.picture.PlaceLists.{PlaceLists}
use Rattle.kb_picture.specs.Laws.{FinalHeapsAreWhole, HasWholeHeap, IsEndingWithin, form_of}
use Rattle.kb_picture.specs.Places.{places_of}
use Rattle.kb_picture.specs.WellFormed.{IsClosed, IsLeaf, IsWithin}
use Rattle.kb_report_text.specs.declared.report.Report.{Report}
use Rattle.kb_heap_words.specs.Words.{IsExact}
use Rattle.kb_test_lines.specs.Lines.{IsRunBounds}
use Rattle.kb_test.specs.Tests.{AreObjects, AreValues, IsEnding, IsTest, IsValue, kinds_of, literal_objects}
use Rattle.kb_test_laws.specs.Texts.{EndHasTexts, EndingHasText}
use Rattle.kb_report_tests.specs.Tests.{IsCarried, literals_in, test_of}
use Rattle.kb_report_tests.specs.Ranges.{EndingHasRange, HasRange, HasRanges, HaveRanges}

-- ---- fronts of lists

take_front : {A : Type 0} (xs ys : List A) → take (length xs) (xs ++ ys) ≡ xs
take_front [] ys = refl
take_front (x ∷ xs) ys = ap (λ (zs : List _). x ∷ zs) (take_front xs ys)

drop_front : {A : Type 0} (xs ys : List A) → drop (length xs) (xs ++ ys) ≡ ys
drop_front [] ys = refl
drop_front (x ∷ xs) ys = drop_front xs ys

-- ---- the parts of a heap

-- the heap has so many objects of the input, then the literals, and then others
pub record HasParts (inputs literals : ℕ) (objects : List Object) : Type 0 where
  pub room : inputs + literals ≤ length objects
  pub parts : objects ≡ take inputs objects ++ (literal_objects literals ++ drop (inputs + literals) objects)
  pub literals_are : take literals (drop inputs objects) ≡ literal_objects literals

parts_of : (literals : ℕ) (first made : List Object) → HasParts (length first) literals (first ++ (literal_objects literals ++ made))
parts_of literals first made =
    let middle : List Object = literal_objects literals in
    let many : length middle ≡ literals = length-replicate literals _ in
    let all : first ++ (middle ++ made) ≡ (first ++ middle) ++ made = sym (append_assoc first middle made) in
    let both : length (first ++ middle) ≡ length first + literals = length-append first middle ∙ ap (λ (k : ℕ). length first + k) many in
    let last : drop (length first + literals) (first ++ (middle ++ made)) ≡ made =
    ap (drop (length first + literals)) all ∙ ap (λ (k : ℕ). drop k ((first ++ middle) ++ made)) (sym both) ∙ drop_front (first ++ middle) made in
    let long : length (first ++ (middle ++ made)) ≡ length first + (length middle + length made) = length-append first (middle ++ made) ∙ ap (λ (k : ℕ). length first + k) (length-append middle made) in
    record {
      room = omega (arith, long, many);
      parts = ap (λ (xs : List Object). xs ++ (middle ++ made)) (sym (take_front first (middle ++ made)))
          ∙ ap (λ (ys : List Object). take (length first) (first ++ (middle ++ made)) ++ (middle ++ ys)) (sym last);
      literals_are = ap (take literals) (drop_front first (middle ++ made)) ∙ ap (λ (k : ℕ). take k (middle ++ made)) (sym many) ∙ take_front middle made;
    }

-- ---- a heap that a path states

kinds_by_forms : (objects : List Object) → kinds_of objects ≡ map (λ (form : ExactType × ℕ). form.0) (map form_of objects)
kinds_by_forms [] = refl
kinds_by_forms (object ∷ objects) = ap (λ (kinds : List ExactType). object.kind ∷ kinds) (kinds_by_forms objects)

-- it begins with objects of the input's exact types, and goes on with the literals
pub record StatesParts (world : World) (path : Path) (ended : Ended) : Type 0 where
  pub has : HasParts (length ended.input.heap.objects) (literals_in world) (final_heap_of world path ended ended.input).objects
  pub kinds : kinds_of (take (length ended.input.heap.objects) (final_heap_of world path ended ended.input).objects) ≡ kinds_of ended.input.heap.objects

pub states_parts : (world : World) (path : Path) (ended : Ended) → HasWholeHeap world path ended ended.input → StatesParts world path ended
states_parts world path ended whole =
    let first = whole.first in
    let inputs = ended.input.heap.objects in
    let objects = (final_heap_of world path ended ended.input).objects in
    let rest : List Object = literal_objects (literals_in world) ++ whole.made in
    let is : objects ≡ first ++ rest = whole.objects ∙ append_assoc first (literal_objects (literals_in world)) whole.made in
    let many : length first ≡ length inputs = sym (length-map first form_of) ∙ ap length whole.kept ∙ length-map inputs form_of in
    let kinds : kinds_of first ≡ kinds_of inputs = kinds_by_forms first ∙ ap (map (λ (form : ExactType × ℕ). form.0)) whole.kept ∙ sym (kinds_by_forms inputs) in
    let front : take (length inputs) objects ≡ first = ap (take (length inputs)) is ∙ ap (λ (k : ℕ). take k (first ++ rest)) (sym many) ∙ take_front first rest in
    record {
      has = subst (λ (n : ℕ). HasParts n (literals_in world) objects) many
          (subst (HasParts (length first) (literals_in world)) (sym is) (parts_of (literals_in world) first whole.made));
      kinds = ap kinds_of front ∙ kinds;
    }

-- ---- values and objects that have texts

is_value : (count : ℕ) (value : Value) → IsWithin count value → HasRange value → IsValue count value
is_value count (Int number) within range = range
is_value count Null within range = tt
is_value count (Ref object) within range = within object refl

are_values : (count : ℕ) (values : List Value) → ((value : Value) → Has values value → IsWithin count value) → AllByRecursion HasRange values → AreValues count values
are_values count [] within ranges = tt
are_values count (value ∷ values) within ranges =
    (is_value count value (within value (has_first value values)) ranges.0, are_values count values (λ v has. within v (has_later value v values has)) ranges.1)

are_objects : (count : ℕ) (objects : List Object) → AllByRecursion IsExact (kinds_of objects) → ((object : Object) (value : Value) → Has objects object → Has object.values value → IsWithin count value) →
    AllByRecursion HasRanges objects → AreObjects count objects
are_objects count [] kinds within ranges = tt
are_objects count (object ∷ objects) kinds within ranges = (
  (kinds.0, are_values count object.values (λ value has. within object value (has_first object objects) has) ranges.0),
  are_objects count objects kinds.1 (λ o value has. within o value (has_later object o objects has)) ranges.1,
)

is_ending : (count : ℕ) (ending : Ending) → IsEndingWithin count ending → EndingHasText ending → EndingHasRange ending → IsEnding count ending
is_ending count (Returned None) within text range = tt
is_ending count (Returned (Some value)) within text range = is_value count value within range
is_ending count (Threw object) within text range = within
is_ending count (IllTyped place) within text range = (text, range)
is_ending count (Past bound) within text range = absurd within

within_more : (few many : ℕ) (value : Value) → few ≤ many → IsWithin few value → IsWithin many value
within_more few many value less within = λ object e. (let below : object < few = within object e in omega (arith, below, less))

exact_kinds : (objects : List Object) → AllByRecursion (λ (object : Object). IsExact object.kind) objects → AllByRecursion IsExact (kinds_of objects)
exact_kinds [] all = tt
exact_kinds (object ∷ objects) all = (all.0, exact_kinds objects all.1)

front_kinds : (n : ℕ) (objects : List Object) → AllByRecursion IsExact (kinds_of objects) → AllByRecursion IsExact (kinds_of (take n objects))
front_kinds zero objects all = tt
front_kinds (suc n) [] all = tt
front_kinds (suc n) (object ∷ objects) all = (all.0, front_kinds n objects all.1)

-- ---- the test of an ended path

-- what the path states of the input that it carries: its heap, that the input names its own objects, and that all names have texts
pub record StatesAll (world : World) (path : Path) (ended : Ended) : Type 0 where
  pub whole : HasWholeHeap world path ended ended.input
  pub closed : IsClosed ended.input
  pub texts : EndHasTexts (stated_end world path ended ended.input)

pub is_test : (world : World) (report : Report) (path : Path) (ended : Ended) → StatesAll world path ended → IsTarget report.target → IsRunBounds report.bounds.run →
    HaveRanges ended.input (ending_of world path ended ended.input) (final_heap_of world path ended ended.input) → IsTest (literals_in world) (test_of world report path ended)
is_test world report path ended states target bounds ranges =
    let parts = states_parts world path ended states.whole in
    let room = parts.has.room in
    let count : ℕ = length (final_heap_of world path ended ended.input).objects in
    let inputs : ℕ = length ended.input.heap.objects in
    let less : inputs ≤ count = omega (arith, room) in
    let kinds = exact_kinds (final_heap_of world path ended ended.input).objects states.texts.objects in
    record {
      target = target;
      bounds = bounds;
      args = are_values count ended.input.args (λ value has. within_more inputs count value less (states.closed.arguments has.0 value has.1)) ranges.args;
      inputs = are_objects count ended.input.heap.objects
          (subst (AllByRecursion IsExact) parts.kinds (front_kinds inputs (final_heap_of world path ended ended.input).objects kinds))
          (λ object value there has. within_more inputs count value less (states.closed.objects there.0 has.0 object value there.1 has.1)) ranges.inputs;
      kinds = parts.kinds;
      final = record {
        inputs_there = less;
        literals_there = parts.has.literals_are;
        objects = are_objects count (final_heap_of world path ended ended.input).objects kinds states.whole.values ranges.objects;
        ending = is_ending count (ending_of world path ended ended.input) states.whole.ending states.texts.ending ranges.ends;
      };
    }

-- ---- of a path that carries an instance

pub carried_all : FinalHeapsAreWhole → (world : World) (id : MethodId) (path : Path) (ended : Ended) → path.leaf ≡ EndedLeaf ended → IsCarried world id path →
    StatesAll world path ended
carried_all whole world id path ended leaf carried =
    let is = carried.0 ended.input (ap input_carried leaf) in
    let of_leaf : IsLeaf world path (EndedLeaf ended) = subst (IsLeaf world path) leaf carried.1.leaf in
    record { whole = whole world id id path ended ended.input carried.1 leaf is.0 is.1; closed = of_leaf.input; texts = carried.2 ended leaf }

pub carried_places : (world : World) (id : MethodId) (path : Path) (ended : Ended) → path.leaf ≡ EndedLeaf ended → IsCarried world id path →
    (places : PlaceLists) × (places_of path.picture ended.input ≡ Some places)
carried_places world id path ended leaf carried =
    let is = carried.0 ended.input (ap input_carried leaf) in
    (is.1.shape.places, is.1.shape.placed)

-- ---- a test that was made

pub parts_at : (world : World) (path : Path) (ended : Ended) (heap : Heap) (inputs : List Object) (literals : ℕ) → StatesAll world path ended →
    heap ≡ final_heap_of world path ended ended.input → inputs ≡ ended.input.heap.objects → literals ≡ literals_in world → HasParts (length inputs) literals heap.objects
parts_at world path ended heap inputs literals states e f g = rw (e, f, g) (states_parts world path ended states.whole).has

pub test_is : (world : World) (report : Report) (path : Path) (ended : Ended) (target : Target) (input : Input) (ending : Ending) (heap kept : Heap) → target ≡ report.target →
    input ≡ ended.input → ending ≡ ending_of world path ended ended.input → kept ≡ final_heap_of world path ended ended.input → heap ≡ kept → StatesAll world path ended →
    IsTarget report.target → IsRunBounds report.bounds.run → HaveRanges ended.input ending kept →
    IsTest (literals_in world) (record { target = target; bounds = report.bounds.run; input = input; ending = ending; heap = heap })
test_is world report path ended target input ending heap kept e f g h i states targets bounds ranges =
    let told : HaveRanges ended.input (ending_of world path ended ended.input) (final_heap_of world path ended ended.input) = rw (g, h) at ranges in
    let all : heap ≡ final_heap_of world path ended ended.input = i ∙ h in
    rw (e, f, g, all) (is_test world report path ended states targets bounds told)
