-- The leaf of an ending is one that a path may have, and the path states that ending and the heap that the run leaves.
use Rattle.std.proofs.Common.{◌≡◌, ℕ, zero, suc, ◌<◌, ℤ, true, List, [], ◌∷◌, ◌++◌, length, map, fold, replicate, Option, Some, None, slice_get, refl, sym, ap, ◌∙◌, subst, inr}
use Rattle.std.specs.List.{flat_map}
use Rattle.std.specs.Option.{option_map_or}
use Rattle.std.proofs.lemmas.List.{length-map, map-append}
use Rattle.kb_blast.specs.Meaning.{listed_values}
use Rattle.kb_blast.specs.Query.{listed, roots_of as condition_roots}
use Rattle.kb_heap.specs.declared.ending.Ending.{Ending}
use Rattle.kb_heap.specs.declared.ending.Ending.TheVariants.{Returned as RunReturned, Threw as RunThrew}
use Rattle.kb_heap.specs.declared.heap.Heap.{Heap}
use Rattle.kb_heap.specs.declared.heap.Input.{Input}
use Rattle.kb_heap.specs.declared.heap.Object.{Object}
use Rattle.kb_heap.specs.declared.heap.Value.{Value}
use Rattle.kb_heap.specs.declared.heap.Value.TheVariants.{Int as IntValue}
use Rattle.kb_heap.specs.Heap.{with_value, literal}
use Rattle.kb_classes.specs.World.{World}
use Rattle.kb_semantics.specs.Config.{Ended as RunEnded}
use Rattle.kb_semantics.specs.Step.{first_heap}
use Rattle.kb_terms.specs.Numbering.{IsNumbering, is_operation, place_of}
use Rattle.kb_terms.specs.Terms.{IsTerm, node_at, value_of}
use Rattle.kb_terms.specs.declared.listing.Operand.TheVariants.{Const, Var, Term as TermOperand}
use Rattle.kb_terms.specs.declared.node.TermId.{TermId}
use Rattle.kb_terms.proofs.Order.{numbering-is, term-at}
use Rattle.kb_picture.specs.declared.path.Ended.{Ended}
use Rattle.kb_picture.specs.declared.path.Leaf.{Leaf}
use Rattle.kb_picture.specs.declared.path.Leaf.TheVariants.{Ended as EndedLeaf}
use Rattle.kb_picture.specs.declared.path.Made.{Made}
use Rattle.kb_picture.specs.declared.path.Out.{Out}
use Rattle.kb_picture.specs.declared.path.Out.TheVariants as outs
use Rattle.kb_picture.specs.declared.path.SymEnding.{SymEnding}
use Rattle.kb_picture.specs.declared.path.SymEnding.TheVariants.{Returned, Threw, IllTyped}
use Rattle.kb_picture.specs.declared.path.Write.{Write}
use Rattle.kb_picture.specs.declared.picture.Origin.{Origin}
use Rattle.kb_picture.specs.declared.picture.Origin.TheVariants.{Arg, Field, Element}
use Rattle.kb_picture.specs.declared.picture.PicLoc.{PicLoc}
use Rattle.kb_picture.specs.declared.picture.Picture.{Picture}
use Rattle.kb_picture.specs.declared.picture.PlaceLists.{PlaceLists}
use Rattle.kb_picture.specs.declared.picture.Standing.{Standing}
use Rattle.kb_picture.specs.declared.picture.Standing.TheVariants as standings
use Rattle.kb_picture.specs.Depths.{IsBeyond}
use Rattle.kb_picture.specs.Endings.{Reading, ending_at, ending_of, final_heap_of, heap_at, made_object, number_of, out_value, place_at, reading_of, stated_end, with_write, with_write_in}
use Rattle.kb_picture.specs.Instances.{term_values, variable_values}
use Rattle.kb_picture.specs.Numbering.{ended_outs, ending_outs, terms_of_out}
use Rattle.kb_picture.specs.Places.{no_places}
use Rattle.kb_picture.specs.WellFormed.{HasValues, IsClosed, IsStanding}
use Rattle.kb_picture.proofs.GrownPictures.{item_there}
use Rattle.kb_numbered.specs.Numbered.{numbered_ended, numbered_ending, numbered_made, numbered_out, numbered_write, term_id, terms_stated}
use Rattle.kb_frames.specs.declared.state.SymObject.{SymObject}
use Rattle.kb_frames.specs.declared.value.SymValue.{SymValue}
use Rattle.kb_frames.specs.declared.value.SymValue.TheVariants.{Int, Null, Obj, Literal, New, Loc}
use Rattle.kb_frames.specs.Bindings.{resolved_loc, standing_value}
use Rattle.kb_frames.specs.Paths.{path_numbering, path_of, path_roots}
use Rattle.kb_frames.specs.StandsFor.{HeapStandsFor, IsInstanceOf, made_at, out_of, reading_at, value_of_sym}
use Rattle.kb_frames.specs.State.{State}
use Rattle.kb_stated.specs.Stated.{made_of, stated, stated_object, writes_of}
use Rattle.kb_frames.specs.States.{Each, IsEndedIn, IsOutIn, IsState, IsSymValue}
use Rattle.kb_frames.proofs.FormedPaths.{roots_are_terms}
use Rattle.kb_frames_laws.specs.Endings.{EndingsMean, IsEndingIn, HasNoLocBeyond, ended_in}
use Rattle.kb_frames_laws.proofs.EachLaws.{each_append, each_flat, each_left, each_map, each_right}
use Rattle.kb_frames_laws.proofs.FinalHeaps.{ArePlaces, are_places, heap_is, stated_value}
use Rattle.kb_frames_laws.proofs.MeaningLaws.{operand_placed}
use Rattle.kb_frames_laws.proofs.WrittenLaws.{are_writes, of_written, written_value}

-- ---- heaps

abbrev heap_of : List Object → Heap
heap_of objects = record { objects = objects }

-- readings with the same places write a value to the same slot
written_same : (one other : Reading) (heap : Heap) (slot : Origin) (value : Value) → one.places ≡ other.places
    → with_write_in one heap slot value ≡ with_write_in other heap slot value
written_same one other heap (Arg number) value e = refl
written_same one other heap (Field object slot) value e =
    ap (λ (p : PlaceLists). with_value heap (place_at p.objects object) slot value) e
written_same one other heap (Element array index) value e =
    ap (λ (p : PlaceLists). with_value heap (place_at p.objects array) index value) e

-- ---- pictures without a location that is beyond

abbrev loc_with : Origin → Standing → PicLoc
loc_with origin standing = record { origin = origin; standing = standing }

-- without locations none is beyond
pub none_beyond : (picture : Picture) → picture.locs ≡ [] → HasNoLocBeyond picture
none_beyond picture e = subst (Each (λ (loc : PicLoc). loc.standing ≡ standings.Beyond → ⊥)) (sym e) (λ i item at. absurd cc)

-- nor where no slot and no location is
pub none_beyond_within : (picture : Picture) → ((slot : Origin) → IsBeyond picture slot → ⊥) → HasNoLocBeyond picture
none_beyond_within picture within number loc at standing =
    within loc.origin (inr (number, at ∙ ap (λ (s : Standing). Some (loc_with loc.origin s)) standing))

-- ---- states

module _ (world : World) (state : State) (formed : IsState world state) (none : HasNoLocBeyond state.picture) where
  -- ---- what is stated is there

  standing_in : (number : ℕ) (loc : PicLoc) → slice_get state.picture.locs number ≡ Some loc → (standing : Standing)
      → loc.standing ≡ standing
      → IsOutIn world state (length state.made) (out_of (standing_value number standing))
  standing_in number loc at (standings.Obj object) e = subst (IsStanding state.picture) e (formed.picture.locs number loc at).1
  standing_in number loc at standings.Open e = (loc, at, e)
  standing_in number loc at standings.Beyond e = absurd (none number loc at e)

  abbrev IsStatedIn : ℕ → Option PicLoc → Type 0
  IsStatedIn number it =
      IsOutIn world state (length state.made) (out_of (option_map_or (λ (loc : PicLoc). standing_value number loc.standing) it (Loc number)))

  loc_in : (number : ℕ) → number < length state.picture.locs
      → IsOutIn world state (length state.made) (out_of (resolved_loc state.picture.locs number))
  loc_in number inside =
      let there = item_there state.picture.locs number inside in
      subst (IsStatedIn number) (sym there.1)
      (standing_in number there.0 there.1 there.0.standing refl)

  stated_in : (value : SymValue) → IsSymValue world state value
      → IsOutIn world state (length state.made) (stated state.picture.locs value)
  stated_in (Int t) is = is
  stated_in Null is = tt
  stated_in (Obj number) is = is
  stated_in (Literal number) is = is
  stated_in (New number) is = is
  stated_in (Loc number) is = loc_in number is

  writes_in : Each (λ (write : Write). IsOutIn world state (length state.made) write.value) (writes_of state)
  writes_in i write e =
      let is = of_written state write (i, e) in
      subst (λ (w : Write). IsOutIn world state (length state.made) w.value) (sym is.write_is)
      (stated_in is.value (written_value world state formed.cells is.number is.slot is.object is.slots is.value is.there is.row is.cell))

  module _ (ending : SymEnding) (ends : IsEndingIn world state ending) (carried : Input) where
    abbrev ended : Ended
    ended = ended_in state ending carried

    abbrev write_outs : List Out
    write_outs = map (λ (write : Write). write.value) (writes_of state)

    outs_in : Each (IsOutIn world state (length state.made)) (ended_outs ended)
    outs_in =
        each_append (IsOutIn world state (length state.made)) (ending_outs ending ++ write_outs) _
        (each_append (IsOutIn world state (length state.made)) (ending_outs ending) write_outs ends.outs
        (each_map (IsOutIn world state (length state.made)) (λ (write : Write). write.value) (writes_of state) writes_in))
        (each_flat (IsOutIn world state (length state.made)) (λ (made : Made). made.values) (made_of state)
        (each_map (λ (made : Made). Each (IsOutIn world state (length state.made)) made.values) (stated_object state.picture.locs) state.made
        (λ i made at. each_map (IsOutIn world state (length state.made)) (stated state.picture.locs) made.values
        (λ j value there. stated_in value ((formed.made i made at).values j value there)))))

    leaf_in : IsClosed carried → IsEndedIn world state ended
    leaf_in closed = record {
      outs =
          subst (λ (n : ℕ). Each (IsOutIn world state n) (ended_outs ended))
          (sym (length-map state.made (stated_object state.picture.locs))) outs_in;
      thrown = ends.thrown;
      writes = are_writes world state formed.cells;
      made =
          each_map (λ (made : Made). HasValues world made.kind (length made.values))
          (stated_object state.picture.locs) state.made
          (λ i made at. subst (HasValues world made.kind) (sym (length-map made.values (stated state.picture.locs))) (formed.made i made at).count);
      input = closed;
    }

    -- ---- what the path states

    module _ (closed : IsClosed carried) (decisions : List ℕ) (input : Input) (instance_of : IsInstanceOf state input) where
      abbrev leaf : Leaf
      leaf = EndedLeaf ended

      abbrev numbered : List TermId
      numbered = path_numbering state leaf

      abbrev r : Reading
      r = reading_at world state input instance_of.shape.places

      abbrev variables : List ℤ
      variables = variable_values state.picture input instance_of.shape.places.objects

      -- the path reads the same places and variables, and its own terms
      abbrev own : PlaceLists → Reading
      own places = record {
        places = places;
        variables = variable_values state.picture input places.objects;
        terms = listed_values (variable_values state.picture input places.objects) (listed state.nodes numbered numbered);
        inputs = length input.heap.objects;
        literals = length world.literals;
      }

      abbrev mine : Reading
      mine = own instance_of.shape.places

      reads_own : reading_of world (path_of state decisions leaf) input ≡ mine
      unfolding reading_of path_of term_values
      reads_own =
          ap (λ (places : Option PlaceLists). own (option_map_or (λ (p : PlaceLists). p) places no_places)) instance_of.shape.placed

      are : ArePlaces state.picture r.inputs r.places
      unfolding reading_at
      are = are_places state.picture input instance_of.shape

      places_same : mine.places ≡ r.places
      unfolding reading_at
      places_same = refl

      inputs_same : r.inputs ≡ length input.heap.objects
      unfolding reading_at
      inputs_same = refl

      literals_same : r.literals ≡ length world.literals
      unfolding reading_at
      literals_same = refl

      -- ---- the terms that the leaf states

      abbrev IsNumbered : TermId → Type 0
      IsNumbered t = is_operation (node_at state.nodes t) ≡ true → (j : ℕ) × (place_of numbered t ≡ Some j)

      root_term : Each (IsTerm state.nodes) (path_roots state leaf)
      root_term i root at =
          term-at state.nodes (path_roots state leaf) i root (roots_are_terms world state leaf formed (leaf_in closed)) at

      is_numbering : IsNumbering state.nodes (path_roots state leaf) numbered
      is_numbering = numbering-is state.nodes formed.pool (path_roots state leaf) root_term

      roots_numbered : Each IsNumbered (terms_stated (ended_outs ended))
      roots_numbered =
          each_right IsNumbered (condition_roots state.when) (terms_stated (ended_outs ended))
          (λ i root at operation. is_numbering.rooted i root at operation)

      abbrev OutNumbered : Out → Type 0
      OutNumbered out = Each IsNumbered (map term_id (terms_of_out out))

      outs_numbered : (values : List Out) → Each IsNumbered (terms_stated values) → Each OutNumbered values
      outs_numbered [] h i item e = absurd cc
      outs_numbered (value ∷ others) h zero item e =
          let same : value ≡ item = cc in
          subst OutNumbered same (each_left IsNumbered (map term_id (terms_of_out value)) (terms_stated others)
          (subst (Each IsNumbered) (map-append term_id (terms_of_out value) (flat_map terms_of_out others)) h))
      outs_numbered (value ∷ others) h (suc i) item e =
          outs_numbered others (each_right IsNumbered (map term_id (terms_of_out value)) (terms_stated others)
          (subst (Each IsNumbered) (map-append term_id (terms_of_out value) (flat_map terms_of_out others)) h)) i item e

      each_numbered : Each OutNumbered (ended_outs ended)
      each_numbered = outs_numbered (ended_outs ended) roots_numbered

      -- a value that the leaf states has, by the path's own terms, the value that it has by the pool's
      out_same : (out : Out) → IsOutIn world state (length state.made) out → OutNumbered out
          → out_value mine (numbered_out state.nodes numbered out) ≡ out_value r out
      unfolding reading_at value_of
      out_same (outs.Int (Const c)) is has = refl
      out_same (outs.Int (Var v)) is has = refl
      out_same (outs.Int (TermOperand number)) is has =
          ap IntValue
          (operand_placed state.nodes formed.pool (path_roots state leaf) numbered is_numbering variables (term_id number) is (has 0 (term_id number) refl))
      out_same outs.Null is has = refl
      out_same (outs.Loc number) is has = refl
      out_same (outs.Obj number) is has = refl
      out_same (outs.Literal number) is has = refl
      out_same (outs.New number) is has = refl

      -- ---- the ending

      ending_same : (it : SymEnding) → Each (IsOutIn world state (length state.made)) (ending_outs it)
          → Each OutNumbered (ending_outs it)
          → ending_at mine (numbered_ending state.nodes numbered it) ≡ ending_at r it
      ending_same (Returned None) is has = refl
      ending_same (Returned (Some value)) is has =
          ap (λ (v : Value). RunReturned (Some v)) (out_same value (is 0 value refl) (has 0 value refl))
      ending_same (Threw value) is has =
          ap (λ (v : Value). RunThrew (number_of v)) (out_same value (is 0 value refl) (has 0 value refl))
      ending_same (IllTyped place) is has = refl

      -- ---- what the run wrote

      write_same : (heap : Heap) (write : Write) → IsOutIn world state (length state.made) write.value → OutNumbered write.value
          → with_write mine heap (numbered_write state.nodes numbered write) ≡ with_write r heap write
      write_same heap write is has =
          ap (λ (v : Value). with_write_in mine heap write.slot v) (out_same write.value is has)
          ∙ written_same mine r heap write.slot (out_value r write.value) places_same

      writes_same : (writes : List Write) (heap : Heap)
          → Each (λ (write : Write). IsOutIn world state (length state.made) write.value) writes
          → Each OutNumbered (map (λ (write : Write). write.value) writes)
          → fold (with_write mine) heap (map (numbered_write state.nodes numbered) writes) ≡ fold (with_write r) heap writes
      writes_same [] heap is has = refl
      writes_same (write ∷ writes) heap is has =
          ap (λ (h : Heap). fold (with_write mine) h (map (numbered_write state.nodes numbered) writes))
          (write_same heap write (is 0 write refl) (has 0 write.value refl))
          ∙ writes_same writes (with_write r heap write) (λ i it at. is (suc i) it at) (λ i it at. has (suc i) it at)

      front_numbered : Each OutNumbered (ending_outs ending ++ write_outs)
      front_numbered = each_left OutNumbered (ending_outs ending ++ write_outs) _ each_numbered

      -- ---- what the run made

      values_same : (made : List SymValue) → Each (IsSymValue world state) made
          → Each OutNumbered (map (stated state.picture.locs) made)
          → map (out_value mine) (map (numbered_out state.nodes numbered) (map (stated state.picture.locs) made)) ≡ map (value_of_sym r) made
      values_same [] is has = refl
      values_same (value ∷ others) is has =
          let first : out_value mine (numbered_out state.nodes numbered (stated state.picture.locs value)) ≡ value_of_sym r value =
          out_same (stated state.picture.locs value) (stated_in value (is 0 value refl))
          (has 0 (stated state.picture.locs value) refl)
          ∙ stated_value world state r are value in
          ap (λ (v : Value). v ∷ map (out_value mine) (map (numbered_out state.nodes numbered) (map (stated state.picture.locs) others))) first
          ∙ ap (λ (l : List Value). value_of_sym r value ∷ l)
          (values_same others (λ i it at. is (suc i) it at) (λ i it at. has (suc i) it at))

      made_same : (made : List SymObject) → Each (λ (object : SymObject). Each (IsSymValue world state) object.values) made
          → Each OutNumbered (flat_map (λ (object : Made). object.values) (map (stated_object state.picture.locs) made))
          → map (made_object mine) (map (numbered_made state.nodes numbered) (map (stated_object state.picture.locs) made)) ≡ map (made_at r) made
      made_same [] is has = refl
      made_same (object ∷ others) is has =
          let here = each_left OutNumbered (map (stated state.picture.locs) object.values) _ has in
          let later = each_right OutNumbered (map (stated state.picture.locs) object.values) _ has in
          ap (λ (values : List Value). record { kind = object.kind; values = values }
          ∷ map (made_object mine) (map (numbered_made state.nodes numbered) (map (stated_object state.picture.locs) others)))
          (values_same object.values (is 0 object refl) here)
          ∙ ap (λ (l : List Object). made_at r object ∷ l) (made_same others (λ i it at. is (suc i) it at) later)

      made_numbered : Each OutNumbered (flat_map (λ (object : Made). object.values) (made_of state))
      made_numbered = each_right OutNumbered (ending_outs ending ++ write_outs) _ each_numbered

      -- ---- the heap

      abbrev stated_as : Ended
      stated_as = numbered_ended state.nodes numbered ended

      -- the objects of the input with what was written
      abbrev wrote : List Object
      wrote = (fold (with_write r) input.heap (writes_of state)).objects

      abbrev whole : List Object → ℕ → List Object → Heap
      whole front literals made = heap_of ((front ++ replicate literals literal) ++ made)

      heap_same : heap_at mine input.heap stated_as.writes stated_as.made ≡ whole wrote r.literals (map (made_at r) state.made)
      heap_same =
          ap (λ (h : Heap). whole h.objects (length world.literals) (map (made_object mine) stated_as.made))
          (writes_same (writes_of state) input.heap writes_in (each_right OutNumbered (ending_outs ending) write_outs front_numbered))
          ∙ ap (λ (made : List Object). whole wrote (length world.literals) made)
          (made_same state.made (λ i made at. (formed.made i made at).values) made_numbered)
          ∙ ap (λ (n : ℕ). whole wrote n (map (made_at r) state.made)) (sym literals_same)

      abbrev end_of : Ending → Heap → RunEnded
      end_of e h = record { ending = e; heap = h }

      states : (heap : Heap) → HeapStandsFor r state (first_heap world input.heap) heap
          → stated_end world (path_of state decisions leaf) stated_as input ≡ end_of (ending_at r ending) heap
      unfolding ending_of final_heap_of
      states heap stands =
          let all : whole wrote r.literals (map (made_at r) state.made) ≡ heap =
          ap heap_of (sym (heap_is world state r are formed.cells input inputs_same literals_same heap stands)) in
          ap (λ (reading : Reading). end_of (ending_at reading stated_as.ending) (heap_at reading input.heap stated_as.writes stated_as.made)) reads_own
          ∙ ap (λ (e : Ending). end_of e (heap_at mine input.heap stated_as.writes stated_as.made))
          (ending_same ending ends.outs (each_left OutNumbered (ending_outs ending) write_outs front_numbered))
          ∙ ap (λ (h : Heap). end_of (ending_at r ending) h) (heap_same ∙ all)

pub endings_mean : EndingsMean
endings_mean world state decisions ending carried formed none ends closed = record {
  leaf = leaf_in world state formed none ending ends carried closed;
  states =
      λ input instance_of heap stands. states world state formed none ending ends carried closed decisions input instance_of heap stands;
}
