-- Pictures that grow see what was found first: the new slot is that of an object that was there, and some slot led to it.
use Rattle.std.proofs.Common.{◌≡◌, ℕ, ◌<◌, inl, inr, List, [], ◌∷◌, ◌++◌, length, take, Some, slice_get, refl, sym, ap, subst, ◌∙◌, arith}
use Rattle.std.proofs.lemmas.List.{take-append-le, take_all}
use Rattle.std.proofs.lemmas.Option.{slice_get_within}
use Rattle.kb_classes.proofs.Places.{get_pushed}
use Rattle.kb_classes.specs.World.{World}
use Rattle.kb_picture.proofs.GrownPictures.{Extends, longer_front, same_front, leads_more, leads_seen, slots_grown}
use Rattle.kb_picture.specs.declared.choice.Choice.{Choice}
use Rattle.kb_picture.specs.declared.choice.Choice.TheVariants as choices
use Rattle.kb_picture.specs.declared.picture.Origin.{Origin}
use Rattle.kb_picture.specs.declared.picture.Origin.TheVariants.{Arg, Field, Element}
use Rattle.kb_picture.specs.declared.picture.PicLoc.{PicLoc}
use Rattle.kb_picture.specs.declared.picture.PicObject.{PicObject}
use Rattle.kb_picture.specs.declared.picture.Picture.{Picture}
use Rattle.kb_picture.specs.declared.picture.Seen.{Seen}
use Rattle.kb_picture.specs.declared.picture.Seen.TheVariants as seens
use Rattle.kb_picture.specs.declared.picture.Standing.TheVariants as standings
use Rattle.kb_picture.specs.Finding.{IsFound, IsFoundIn, IsFoundFirst}
use Rattle.kb_picture.specs.Growing.{IsUnread}
use Rattle.kb_picture.specs.Growth.{after_read, after_int_read, with_open_loc, with_fresh}
use Rattle.kb_picture.specs.Laws.{with_seen}
use Rattle.kb_picture.specs.WellFormed.{IsSlot, LeadsTo, slots_seen, variables_seen}

-- what leads to an object leads to it still
abbrev pub LeadStill : Picture → Picture → Type 0
LeadStill old new = (slot : Origin) (number : ℕ) → LeadsTo old slot number → LeadsTo new slot number

found_still : (old new : Picture) (before : List Origin) (number : ℕ) → LeadStill old new → IsFound old before number → IsFound new before number
found_still old new before number still f = (f.0, f.1, still f.0 number f.2)

pub found_in_still : (old new : Picture) (before : List Origin) (slot : Origin) → LeadStill old new → IsFoundIn old before slot → IsFoundIn new before slot
found_in_still old new before (Arg number) still f = tt
found_in_still old new before (Field number slot) still f = found_still old new before number still f
found_in_still old new before (Element number index) still f = found_still old new before number still f

module _ (world : World) (params : ℕ) (old new : Picture) (slot : Origin) (how : Seen) (more : Extends old new) (seen_is : new.seen ≡ old.seen ++ (slot, how) ∷ [])
    (unread : IsUnread world params old slot) where
  still : LeadStill old new
  still of number leads = leads_more old new of number more leads

  object_found : (number : ℕ) (object : PicObject) → slice_get old.objects number ≡ Some object → IsFound new (slots_seen old) number
  object_found number object at =
      let leads : LeadsTo old object.origin number = (unread.formed.origins number object at).1 in
      (object.origin, leads_seen old object.origin number leads, still object.origin number leads)

  slot_found : (of : Origin) → IsSlot world params old.objects of → IsFoundIn new (slots_seen old) of
  slot_found (Arg number) there = tt
  slot_found (Field number field) there = object_found number there.0 there.1
  slot_found (Element number index) there = object_found number there.0 there.1

  pub grown_found : IsFoundFirst old → IsFoundFirst new
  grown_found first i of at =
      subst (λ (seen : List Origin). IsFoundIn new (take i seen) of) (sym is)
      (elim (get_pushed (slots_seen old) slot i of (ap (λ (seen : List Origin). slice_get seen i) (sym is) ∙ at)) [
        | inl h ↦ earlier h
        | inr h ↦ last h.0 h.1
      ])
    where
      is : slots_seen new ≡ slots_seen old ++ slot ∷ []
      is = slots_grown old new slot how seen_is

      earlier : slice_get (slots_seen old) i ≡ Some of → IsFoundIn new (take i (slots_seen old ++ slot ∷ [])) of
      earlier h =
          let within : i < length (slots_seen old) = slice_get_within (slots_seen old) i of h in
          let front : take i (slots_seen old ++ slot ∷ []) ≡ take i (slots_seen old) = take-append-le i (slots_seen old) (slot ∷ []) (omega (arith, within)) in
          subst (λ (seen : List Origin). IsFoundIn new seen of) (sym front) (found_in_still old new (take i (slots_seen old)) of still (first i of h))

      last : i ≡ length (slots_seen old) → slot ≡ of → IsFoundIn new (take i (slots_seen old ++ slot ∷ [])) of
      last end same =
          let front : take i (slots_seen old ++ slot ∷ []) ≡ slots_seen old =
          take-append-le i (slots_seen old) (slot ∷ []) (omega (arith, end)) ∙ take_all i (slots_seen old) (omega (arith, end)) in
          subst (λ (o : Origin). IsFoundIn new (take i (slots_seen old ++ slot ∷ [])) o) same
          (subst (λ (seen : List Origin). IsFoundIn new seen slot) (sym front) (slot_found slot unread.there))

-- ---- each way to grow

module _ (world : World) (params : ℕ) (old : Picture) (slot : Origin) (unread : IsUnread world params old slot) (first : IsFoundFirst old) where
  seen_found : (how : Seen) → IsFoundFirst (with_seen old (slot, how))
  seen_found how =
      grown_found world params old (with_seen old (slot, how)) slot how
      (record { seen = longer_front old.seen (slot, how); locs = same_front old.locs; objects = same_front old.objects }) refl unread first

  location_found : (how : Seen) → IsFoundFirst (with_seen (with_open_loc old slot) (slot, how))
  location_found how =
      grown_found world params old (with_seen (with_open_loc old slot) (slot, how)) slot how
      (record { seen = longer_front old.seen (slot, how); locs = longer_front old.locs loc; objects = same_front old.objects }) refl unread first
    where
      loc : PicLoc
      loc = record { origin = slot; standing = standings.Open }

  pub choice_found : (choice : Choice) → IsFoundFirst (after_read old slot choice)
  unfolding after_read
  choice_found choices.Null = seen_found seens.Null
  choice_found choices.Location = location_found (seens.Loc (length old.locs))
  choice_found (choices.Alias number) = seen_found (seens.Obj number)
  choice_found (choices.Fresh kind len) =
      grown_found world params old (with_seen (with_fresh old slot kind len) (slot, seens.Obj (length old.objects))) slot (seens.Obj (length old.objects))
      (record {
        seen = longer_front old.seen (slot, seens.Obj (length old.objects));
        locs = same_front old.locs;
        objects = longer_front old.objects (record { kind = kind; length = len; origin = slot });
      }) refl unread first
  choice_found choices.Beyond = seen_found seens.Beyond
  choice_found _ = first

  pub int_found : IsFoundFirst (after_int_read old slot)
  unfolding after_int_read
  int_found = seen_found (seens.Int (length (variables_seen old)))
