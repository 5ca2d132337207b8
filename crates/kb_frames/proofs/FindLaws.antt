-- Where a slot of the input is seen for the first time, the earlier values of a state keep their values, since the places of
-- the picture grow at their end. What the cells say then is learned.
use Rattle.std.proofs.Common.{◌≡◌, ℕ, ◌+◌, ◌<◌, ◌≤◌, inl, inr, List, [], ◌++◌, length, take, drop, take-append-drop, slice_get, Some, refl, sym, ap, subst, ◌∙◌, arith}
use Rattle.std.specs.List.{slice_index_or}
use Rattle.std.proofs.lemmas.Bool.Decides.{eqb_tells, leb_tells}
use Rattle.std.proofs.lemmas.List.{append-nil, get_or_append_left}
use Rattle.std.proofs.lemmas.Option.{slice_get_within}
use Rattle.kb_heap.specs.declared.heap.Heap.{Heap}
use Rattle.kb_heap.specs.declared.heap.Input.{Input}
use Rattle.kb_heap.specs.declared.heap.Value.TheVariants.{Int as IntValue, Ref}
use Rattle.kb_heap.specs.Heap.{value_at}
use Rattle.kb_classes.proofs.MethodNumbers.{get_before}
use Rattle.kb_classes.specs.World.{World}
use Rattle.kb_terms.specs.declared.node.TermId.{TermId}
use Rattle.kb_terms.specs.Terms.{IsTerm, int_at}
use Rattle.kb_terms.proofs.Entries.{slice_get-append-left}
use Rattle.kb_picture.specs.declared.choice.Choice.{Choice}
use Rattle.kb_picture.specs.declared.picture.Origin.{Origin}
use Rattle.kb_picture.specs.declared.picture.Picture.{Picture}
use Rattle.kb_picture.specs.declared.picture.PlaceLists.{PlaceLists}
use Rattle.kb_picture.specs.Endings.{Reading}
use Rattle.kb_picture.specs.Growing.{IsUnread, PlacesKept}
use Rattle.kb_picture.specs.Growth.{after_read}
use Rattle.kb_picture.specs.Shapes.{AreApart, HasShape, IsNoPlace}
use Rattle.kb_picture.proofs.GrownShapes.{choice_places, no_place, no_place_front}
use Rattle.kb_frames.specs.declared.value.Cell.{Cell}
use Rattle.kb_frames.specs.declared.value.Cell.TheVariants.{Untouched, Read}
use Rattle.kb_frames.specs.declared.value.SymValue.{SymValue}
use Rattle.kb_frames.specs.declared.value.SymValue.TheVariants.{Int, Null, Obj, Literal, New, Loc}
use Rattle.kb_frames.specs.Heaps.{find_cell, with_cell}
use Rattle.kb_frames.specs.StandsFor.{value_of_sym}
use Rattle.kb_frames.specs.State.{State, cell_at}
use Rattle.kb_frames.specs.States.{IsSymValue}
use Rattle.kb_frames.proofs.AlikeLaws.{AreAlike}
use Rattle.kb_frames.proofs.CellLaws.{behind, found_cell, front_cell, front_found, row_inside, with_here, with_other}
use Rattle.kb_frames.proofs.LearnLaws.{IsLearned, Learns}

-- ---- places

-- the later places are the earlier ones, and more behind them
pub record PlacesGrown (earlier later : PlaceLists) : Type 0 where
  pub more_objects : List ℕ
  pub objects : later.objects ≡ earlier.objects ++ more_objects
  pub more_locs : List ℕ
  pub locs : later.locs ≡ earlier.locs ++ more_locs

pub more_behind : (count : ℕ) (xs front : List ℕ) → take count xs ≡ front → xs ≡ front ++ drop count xs
more_behind count xs front e = sym (take-append-drop count xs) ∙ ap (λ (l : List ℕ). l ++ drop count xs) e

pub read_places : (world : World) (params : ℕ) (picture : Picture) (slot : Origin) (choice : Choice) (input : Input) → IsUnread world params picture slot
    → (earlier : HasShape picture input) (now : HasShape (after_read picture slot choice) input) → PlacesGrown earlier.places now.places
read_places world params picture slot choice input unread earlier now =
    let kept : PlacesKept picture earlier.places now.places = choice_places world params picture slot choice input unread earlier now in
    record {
      more_objects = drop (length picture.objects) now.places.objects;
      objects = more_behind (length picture.objects) now.places.objects earlier.places.objects kept.objects;
      more_locs = drop (length picture.locs) now.places.locs;
      locs = more_behind (length picture.locs) now.places.locs earlier.places.locs kept.locs;
    }

pub places_same : (earlier later : PlaceLists) → later ≡ earlier → PlacesGrown earlier later
places_same earlier later same = record {
  more_objects = [];
  objects = ap (λ (l : PlaceLists). l.objects) same ∙ sym (append-nil earlier.objects);
  more_locs = [];
  locs = ap (λ (l : PlaceLists). l.locs) same ∙ sym (append-nil earlier.locs);
}

-- the earlier values have the same value
pub grown_alike : (world : World) (old : State) (r later : Reading) → length r.places.objects ≡ length old.picture.objects → length r.places.locs ≡ length old.picture.locs
    → PlacesGrown r.places later.places → later.inputs ≡ r.inputs → later.literals ≡ r.literals → ((t : TermId) → IsTerm old.nodes t → int_at later.terms t.0 ≡ int_at r.terms t.0)
    → AreAlike world old r later
grown_alike world old r later objects locs grown inputs literals terms = go where
  go : (value : SymValue) → IsSymValue world old value → value_of_sym later value ≡ value_of_sym r value
  go (Int t) h = ap IntValue (terms t h)
  go Null h = refl
  go (Obj n) h = ap Ref (ap (λ (os : List ℕ). slice_index_or os n 0) grown.objects ∙ get_or_append_left r.places.objects grown.more_objects 0 n (omega (arith, objects, h)))
  go (Literal n) h = ap (λ (i : ℕ). Ref (i + n)) inputs
  go (New n) h = ap (λ (i : ℕ). Ref (i + later.literals + n)) inputs ∙ ap (λ (l : ℕ). Ref (r.inputs + l + n)) literals
  go (Loc n) h = ap Ref (ap (λ (ls : List ℕ). slice_index_or ls n 0) grown.locs ∙ get_or_append_left r.places.locs grown.more_locs 0 n (omega (arith, locs, h)))

-- ---- what is learned

-- the later reading has more places, each of them an object of the input, and no two of them the same
pub record Grows (world : World) (old : State) (r later : Reading) : Type 0 where
  pub places : PlacesGrown r.places later.places
  pub inputs : later.inputs ≡ r.inputs
  pub literals : later.literals ≡ r.literals
  pub alike : AreAlike world old r later
  pub apart : AreApart later.places.objects
  pub inside : (number place : ℕ) → slice_get later.places.objects number ≡ Some place → place < r.inputs
  pub count : length r.places.objects ≡ length old.cells

module _ (world : World) (old : State) (r later : Reading) (first : Heap) (grows : Grows world old r later) (extra : List (List Cell))
    (blank : (n slot : ℕ) → cell_at extra n slot ≡ Untouched) where
  abbrev cells : List (List Cell)
  cells = old.cells ++ extra

  more_places : (object place : ℕ) → slice_get r.places.objects object ≡ Some place → slice_get later.places.objects object ≡ Some place
  more_places object place at = ap (λ (os : List ℕ). slice_get os object) grows.places.objects ∙ get_before r.places.objects grows.places.more_objects object place at

  known : (object place : ℕ) → object < length old.cells → slice_get later.places.objects object ≡ Some place → slice_get r.places.objects object ≡ Some place
  known object place inside at =
      sym (slice_get-append-left r.places.objects grows.places.more_objects object (omega (arith, inside, grows.count)))
      ∙ ap (λ (os : List ℕ). slice_get os object) (sym grows.places.objects) ∙ at

  -- a new object is none of the earlier ones
  new_elsewhere : (object place : ℕ) → length old.cells ≤ object → slice_get later.places.objects object ≡ Some place → IsNoPlace r.places.objects place
  new_elsewhere object place past at = no_place r.places.objects place earlier where
    earlier : (n : ℕ) → slice_get r.places.objects n ≡ Some place → ⊥
    earlier n there =
        let within : n < length r.places.objects = slice_get_within r.places.objects n place there in
        let same : n ≡ object = grows.apart n object place (more_places n place there) at in
        omega (arith, within, same, past, grows.count)

  fewer_places : (place : ℕ) → IsNoPlace later.places.objects place → IsNoPlace r.places.objects place
  fewer_places place none =
      no_place_front r.places.objects grows.places.more_objects place (subst (λ (os : List ℕ). IsNoPlace os place) grows.places.objects none)

  learns_by : (now : List (List Cell)) → ((object slot place : ℕ) → slice_get later.places.objects object ≡ Some place → IsLearned r later old.cells now first object slot place)
      → Learns world old r later now first
  learns_by now slots = record {
    inputs = grows.inputs;
    literals = grows.literals;
    alike = grows.alike;
    places = more_places;
    elsewhere = fewer_places;
    slots = slots;
  }

  -- an argument is told: no slot of an object is
  pub learns_none : Learns world old r later cells first
  learns_none = learns_by cells slots where
    slots : (object slot place : ℕ) → slice_get later.places.objects object ≡ Some place → IsLearned r later old.cells cells first object slot place
    slots object slot place at = elim (leb_tells (length old.cells) object) [
      | inl past ↦ inr (inr (record {
        inside = grows.inside object place at;
        elsewhere = new_elsewhere object place past.1 at;
        untouched = behind old.cells extra object slot (λ n. blank n slot) past.1;
      }))
      | inr within ↦ inl (record { known = known object place within.1 at; same = front_cell old.cells extra object slot within.1 })
    ]

  -- a slot of an object is told, of which nothing was known
  module _ (o s : ℕ) (value : SymValue) (untouched : find_cell old.cells o s ≡ Some Untouched)
      (held : (place : ℕ) → slice_get later.places.objects o ≡ Some place → value_at first place s ≡ Some (value_of_sym later value)) where
    abbrev now : List (List Cell)
    now = with_cell cells o s (Read value)

    holder_inside : o < length old.cells
    holder_inside = row_inside old.cells o s Untouched untouched

    told : (object slot place : ℕ) → object < length old.cells → slice_get later.places.objects object ≡ Some place → o ≡ object → s ≡ slot
        → IsLearned r later old.cells now first object slot place
    told object slot place within at same also = inr (inl (record {
      known = known object place within at;
      untouched = ap (λ (n : ℕ). cell_at old.cells n slot) (sym same) ∙ ap (λ (n : ℕ). cell_at old.cells o n) (sym also) ∙ found_cell old.cells o s Untouched untouched;
      value = value;
      told = ap (λ (n : ℕ). cell_at now n slot) (sym same) ∙ ap (λ (n : ℕ). cell_at now o n) (sym also)
          ∙ with_here cells o s (Read value) Untouched (front_found old.cells extra o s Untouched untouched);
      held = ap (λ (n : ℕ). value_at first place n) (sym also) ∙ held place (ap (λ (n : ℕ). slice_get later.places.objects n) same ∙ at);
    }))

    stays : (object slot place : ℕ) → object < length old.cells → slice_get later.places.objects object ≡ Some place → ((o ≡ object) × (s ≡ slot) → ⊥)
        → IsLearned r later old.cells now first object slot place
    stays object slot place within at apart = inl (record {
      known = known object place within at;
      same = with_other cells o s (Read value) object slot (λ one other. apart (sym one, sym other)) ∙ front_cell old.cells extra object slot within;
    })

    old_slot : (object slot place : ℕ) → object < length old.cells → slice_get later.places.objects object ≡ Some place → IsLearned r later old.cells now first object slot place
    old_slot object slot place within at = elim (eqb_tells o object) [
      | inl same ↦ elim (eqb_tells s slot) [
        | inl also ↦ told object slot place within at same.1 also.1
        | inr other ↦ stays object slot place within at (λ both. other.1 both.1)
      ]
      | inr other ↦ stays object slot place within at (λ both. other.1 both.0)
    ]

    new_slot : (object slot place : ℕ) → length old.cells ≤ object → slice_get later.places.objects object ≡ Some place → IsLearned r later old.cells now first object slot place
    new_slot object slot place past at = inr (inr (record {
      inside = grows.inside object place at;
      elsewhere = new_elsewhere object place past at;
      untouched = with_other cells o s (Read value) object slot (λ one other. apart (sym one, sym other)) ∙ behind old.cells extra object slot (λ n. blank n slot) past;
    })) where
      apart : (o ≡ object) × (s ≡ slot) → ⊥
      apart both = (let same : o ≡ object = both.0 in omega (arith, same, past, holder_inside))

    pub learns_slot : Learns world old r later now first
    learns_slot = learns_by now slots where
      slots : (object slot place : ℕ) → slice_get later.places.objects object ≡ Some place → IsLearned r later old.cells now first object slot place
      slots object slot place at = elim (leb_tells (length old.cells) object) [
        | inl past ↦ new_slot object slot place past.1 at
        | inr within ↦ old_slot object slot place within.1 at
      ]
