-- What the variables of a picture are at an input once a slot more is seen, and so which inputs are instances of a state that
-- was told what the slot holds.
use Rattle.std.proofs.Common.{◌≡◌, ℕ, suc, ℤ, false, List, [], ◌∷◌, ◌++◌, length, take, drop, filter_map, Option, Some, None, slice_get, refl, sym, ap, subst, ◌∙◌, ◌⊎◌, inl, inr, arith}
use Rattle.std.specs.List.{cons_option}
use Rattle.std.proofs.lemmas.List.{append-nil, take-append-drop}
use Rattle.std.proofs.lemmas.List.Elements.{filter_map-append}
use Rattle.kb_blast.specs.Meaning.{AreMetInPool}
use Rattle.kb_class.specs.declared.ids.MethodId.{MethodId}
use Rattle.kb_heap.specs.declared.heap.Input.{Input}
use Rattle.kb_heap.specs.declared.heap.Value.{Value}
use Rattle.kb_heap.specs.declared.heap.Value.TheVariants.{Int as IntValue}
use Rattle.kb_classes.specs.World.{World}
use Rattle.kb_names.specs.declared.types.JType.{JType}
use Rattle.kb_semantics.specs.Inputs.{IsTypeCorrect}
use Rattle.kb_terms.specs.declared.node.TermId.{TermId}
use Rattle.kb_terms.specs.Terms.{Extends, value_of, variables_of}
use Rattle.kb_picture.specs.declared.choice.Choice.{Choice}
use Rattle.kb_picture.specs.declared.choice.Choice.TheVariants as choices
use Rattle.kb_picture.specs.declared.picture.Origin.{Origin}
use Rattle.kb_picture.specs.declared.picture.Picture.{Picture}
use Rattle.kb_picture.specs.declared.picture.PlaceLists.{PlaceLists}
use Rattle.kb_picture.specs.declared.picture.Seen.{Seen}
use Rattle.kb_picture.specs.declared.picture.Seen.TheVariants as seens
use Rattle.kb_picture.specs.Growing.{IsUnread}
use Rattle.kb_picture.specs.Growth.{after_read, after_int_read}
use Rattle.kb_picture.specs.Instances.{variable_value, variable_values}
use Rattle.kb_picture.specs.Places.{slot_value}
use Rattle.kb_picture.specs.Queries.{type_of_slot}
use Rattle.kb_picture.specs.Shapes.{HasShape}
use Rattle.kb_picture.specs.WellFormed.{IsSeenAs, IsSlot, variables_seen}
use Rattle.kb_picture.proofs.GrownShapes.{as_many, choice_places, int_places, seen_each, slot_same}
use Rattle.kb_picture.proofs.HeldLaws.{HeldValue, held_value}
use Rattle.kb_picture.proofs.Taking.{seen_forth}
use Rattle.kb_picture.specs.WellTyped.{is_reference_type}
use Rattle.kb_frames.specs.StandsFor.{IsInstanceOf}
use Rattle.kb_frames.specs.State.{State}
use Rattle.kb_frames.specs.States.{IsState}
use Rattle.kb_ways.proofs.OneAsked.{conditions_there, met_later}
use Rattle.kb_ways.proofs.OneInstances.{enough_values, hold_last, int_argument, met_behind, same_variables, value_inputs, variables_many}
use Rattle.kb_ways.proofs.SoundLaws.{Sound}
use Rattle.kb_ways.proofs.ValueLaws.{VariablesBelow, enough_below}

-- ---- variables

-- a slot more that is seen as an int
pub int_values : (picture : Picture) (input : Input) (places : List ℕ) (slot : Origin) (z : ℤ) → slot_value input places slot ≡ Some (IntValue z)
    → variable_values (after_int_read picture slot) input places ≡ variable_values picture input places ++ z ∷ []
unfolding after_int_read variable_values
int_values picture input places slot z e =
    let how : Seen = seens.Int (length (variables_seen picture)) in
    filter_map-append (λ (s : Origin × Seen). variable_value (slot_value input places s.0) s.1) picture.seen ((slot, how) ∷ [])
    ∙ ap (λ (value : Option Value). filter_map (λ (s : Origin × Seen). variable_value (slot_value input places s.0) s.1) picture.seen
    ++ cons_option (variable_value value how) []) e

module _ (world : World) (params : ℕ) (picture : Picture) (slot : Origin) (input : Input) (unread : IsUnread world params picture slot) where
  -- with more places behind those that there were
  seen_values : (places more : List ℕ) (seen : List (Origin × Seen)) → length places ≡ length picture.objects
      → ((n : ℕ) (x : Origin × Seen) → slice_get seen n ≡ Some x → IsSlot world params picture.objects x.0 × IsSeenAs picture x.1)
      → filter_map (λ (s : Origin × Seen). variable_value (slot_value input (places ++ more) s.0) s.1) seen
      ≡ filter_map (λ (s : Origin × Seen). variable_value (slot_value input places s.0) s.1) seen
  seen_values places more [] many each = refl
  seen_values places more (x ∷ seen) many each =
      ap (λ (value : Option Value). cons_option (variable_value value x.1) (filter_map (λ (s : Origin × Seen). variable_value (slot_value input (places ++ more) s.0) s.1) seen))
      (slot_same world params picture.objects input places more x.0 many (each 0 x refl).0)
      ∙ ap (cons_option (variable_value (slot_value input places x.0) x.1)) (seen_values places more seen many (λ n y at. each (suc n) y at))

  earlier_values : (places more : List ℕ) → length places ≡ length picture.objects → variable_values picture input (places ++ more) ≡ variable_values picture input places
  unfolding variable_values
  earlier_values places more many = seen_values places more picture.seen many (seen_each world params picture slot input unread)

  -- with a slot more that is seen as no int
  no_int : (places : List ℕ) (how : Seen) → ((value : Option Value) → variable_value value how ≡ None)
      → filter_map (λ (s : Origin × Seen). variable_value (slot_value input places s.0) s.1) (picture.seen ++ (slot, how) ∷ [])
      ≡ filter_map (λ (s : Origin × Seen). variable_value (slot_value input places s.0) s.1) picture.seen
  no_int places how none =
      let of = λ (s : Origin × Seen). variable_value (slot_value input places s.0) s.1 in
      filter_map-append of picture.seen ((slot, how) ∷ [])
      ∙ (ap (λ (o : Option ℤ). filter_map of picture.seen ++ cons_option o []) (none (slot_value input places slot)) ∙ append-nil (filter_map of picture.seen))

  choice_values : (places : List ℕ) (choice : Choice) → variable_values (after_read picture slot choice) input places ≡ variable_values picture input places
  unfolding after_read variable_values
  choice_values places choices.Null = no_int places seens.Null (λ value. refl)
  choice_values places choices.Location = no_int places (seens.Loc (length picture.locs)) (λ value. refl)
  choice_values places (choices.Alias number) = no_int places (seens.Obj number) (λ value. refl)
  choice_values places (choices.Fresh kind len) = no_int places (seens.Obj (length picture.objects)) (λ value. refl)
  choice_values places choices.Beyond = no_int places seens.Beyond (λ value. refl)
  choice_values places _ = refl

  -- a reference that is read adds none, whatever is chosen
  pub told_values : (choice : Choice) (before : HasShape picture input) (after : HasShape (after_read picture slot choice) input)
      → variable_values (after_read picture slot choice) input after.places.objects ≡ variable_values picture input before.places.objects
  told_values choice before after =
      let kept : take (length picture.objects) after.places.objects ≡ before.places.objects = (choice_places world params picture slot choice input unread before after).objects in
      let more : List ℕ = drop (length picture.objects) after.places.objects in
      let whole : after.places.objects ≡ before.places.objects ++ more =
      sym (take-append-drop (length picture.objects) after.places.objects) ∙ ap (λ (ps : List ℕ). ps ++ more) kept in
      choice_values after.places.objects choice ∙ (ap (variable_values picture input) whole ∙ earlier_values before.places.objects more (as_many picture input before.places before.placed))

-- ---- an int more

-- where a slot more is seen as an int it holds one, and the variables are those from before, and that int
pub record SeesInt (picture grown : Picture) (slot : Origin) (input : Input) (before : HasShape picture input) (after : HasShape grown input) : Type 0 where
  pub int : ℤ
  pub held : slot_value input before.places.objects slot ≡ Some (IntValue int)
  pub values : variable_values grown input after.places.objects ≡ variable_values picture input before.places.objects ++ int ∷ []

module _ (picture : Picture) (slot : Origin) (input : Input) (before : HasShape picture input) where
  seen_int : (after : HasShape (after_int_read picture slot) input) → (z : ℤ) × (slot_value input after.places.objects slot ≡ Some (IntValue z))
  unfolding after_int_read
  seen_int after = hold_last input after.places.objects picture.seen (slot, seens.Int (length (variables_seen picture))) after.seen

  grown_int : (after : HasShape (after_int_read picture slot) input) → SeesInt picture (after_int_read picture slot) slot input before after
  grown_int after =
      let same : after.places ≡ before.places = int_places picture slot input before after in
      let int = seen_int after in
      let held : slot_value input before.places.objects slot ≡ Some (IntValue int.0) = ap (λ (l : PlaceLists). slot_value input l.objects slot) (sym same) ∙ int.1 in
      record {
        int = int.0;
        held = held;
        values = ap (λ (l : PlaceLists). variable_values (after_int_read picture slot) input l.objects) same ∙ int_values picture input before.places.objects slot int.0 held;
      }

  pub sees_int : (grown : Picture) → grown ≡ after_int_read picture slot → (after : HasShape grown input) → SeesInt picture grown slot input before after
  sees_int grown same = subst (λ (p : Picture). (after : HasShape p input) → SeesInt picture p slot input before after) (sym same) grown_int

-- a term of a state has the value that it had, where at most an int more is seen
module _ (world : World) (old : State) (sound : IsState world old) (input : Input) (shape : HasShape old.picture input) where
  abbrev earlier : List ℤ
  earlier = variable_values old.picture input shape.places.objects

  pub more_value : (t : TermId) (z : ℤ) → value_of old.nodes t (earlier ++ z ∷ []) ≡ value_of old.nodes t earlier
  more_value t z = value_inputs old.nodes t earlier (z ∷ []) sound.pool (enough_values world old input shape.places.objects sound)

  pub later_value : (new : Picture) (after : HasShape new input) → (new ≡ old.picture) ⊎ ((slot : Origin) × (new ≡ after_int_read old.picture slot)) → (t : TermId)
      → value_of old.nodes t (variable_values new input after.places.objects) ≡ value_of old.nodes t earlier
  later_value new after how t = elim how [
    | inl same ↦ ap (value_of old.nodes t) (sym (same_variables old.picture input shape new same after))
    | inr read ↦ (let int = sees_int old.picture read.0 input shape new read.1 after in ap (value_of old.nodes t) int.values ∙ more_value t int.int)
  ]

-- ---- instances

-- the new state has the conditions of the old one, and has all its terms
module _ (world : World) (old : State) (sound : Sound world old) (below : VariablesBelow (variables_of old.nodes) old.nodes) (params : ℕ) (slot : Origin) (unread : IsUnread world params old.picture slot) (input : Input) (i : IsInstanceOf old input)
    (new : State) (more : Extends old.nodes new.nodes) (alike : new.when ≡ old.when) where
  abbrev variables : List ℤ
  variables = variable_values old.picture input i.shape.places.objects

  met : (values : List ℤ) → AreMetInPool old.nodes values old.when → AreMetInPool new.nodes values new.when
  met values h = subst (AreMetInPool new.nodes values) (sym alike) (met_later old.nodes new.nodes values old.when more (conditions_there old.nodes old.when sound.conditions) h)

  instance_by : (values : List ℤ) → AreMetInPool old.nodes values old.when → (here : HasShape new.picture input) → variable_values new.picture input here.places.objects ≡ values → IsInstanceOf new input
  instance_by values h here e = record { shape = here; conditions = subst (λ (vs : List ℤ). AreMetInPool new.nodes vs new.when) (sym e) (met values h) }

  -- whoever has the shape after a reference was read
  pub choice_instance : (choice : Choice) → new.picture ≡ after_read old.picture slot choice → HasShape (after_read old.picture slot choice) input → IsInstanceOf new input
  choice_instance choice same shape =
      let here : HasShape new.picture input = subst (λ (p : Picture). HasShape p input) (sym same) shape in
      instance_by variables i.conditions here (values new.picture same here)
    where
      values : (p : Picture) → p ≡ after_read old.picture slot choice → (here : HasShape p input) → variable_values p input here.places.objects ≡ variables
      values p same =
          subst (λ (q : Picture). (here : HasShape q input) → variable_values q input here.places.objects ≡ variables) (sym same)
          (λ after. told_values world params old.picture slot input unread choice i.shape after)

  int_forth : (z : ℤ) → slot_value input i.shape.places.objects slot ≡ Some (IntValue z) → HasShape (after_int_read old.picture slot) input
  unfolding after_int_read
  int_forth z at = seen_forth world params old.picture slot input unread i.shape (seens.Int (length (variables_seen old.picture))) (z, at)

  -- whose slot holds an int that is read
  pub int_instance : (z : ℤ) → new.picture ≡ after_int_read old.picture slot → slot_value input i.shape.places.objects slot ≡ Some (IntValue z) → IsInstanceOf new input
  int_instance z same at =
      let shape : HasShape (after_int_read old.picture slot) input = int_forth z at in
      let here : HasShape new.picture input = subst (λ (p : Picture). HasShape p input) (sym same) shape in
      instance_by (variables ++ z ∷ [])
      (met_behind old.nodes variables (z ∷ []) old.when enough i.conditions) here (values new.picture same here)
    where
      enough : VariablesBelow (length variables) old.nodes
      enough = (let many = variables_many world old input i.shape.places.objects sound.kinds in enough_below (variables_of old.nodes) (length variables) old.nodes (omega (arith, many)) below)

      values : (p : Picture) → p ≡ after_int_read old.picture slot → (here : HasShape p input) → variable_values p input here.places.objects ≡ variables ++ z ∷ []
      values p same =
          subst (λ (q : Picture). (here : HasShape q input) → variable_values q input here.places.objects ≡ variables ++ z ∷ []) (sym same)
          (λ after. ap (λ (l : PlaceLists). variable_values (after_int_read old.picture slot) input l.objects) (int_places old.picture slot input i.shape after)
          ∙ int_values old.picture input i.shape.places.objects slot z at)

-- a slot of a type that is no reference's holds an int
pub int_held : (world : World) (id : MethodId) (picture : Picture) (input : Input) (correct : IsTypeCorrect world id input) (shape : HasShape picture input) (params : ℕ) (slot : Origin) (type : JType)
    → IsSlot world params picture.objects slot → type_of_slot world id picture.objects slot ≡ Some type → is_reference_type type ≡ false
    → (z : ℤ) × (slot_value input shape.places.objects slot ≡ Some (IntValue z))
int_held world id picture input correct shape params slot type there declared plain =
    let held : HeldValue world input shape.places.objects slot type = held_value world id picture input correct shape params slot type there declared in
    let int = int_argument world input.heap type held.value plain held.of_type in
    (int.0, held.there ∙ ap (λ (v : Value). Some v) int.1)
