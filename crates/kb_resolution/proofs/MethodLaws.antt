-- Methods by the classes that declare them.
use Rattle.std.proofs.Common.{◌≡◌, ◌<◌, ◌≤◌, ℕ, zero, suc, ◌+◌, inl, inr, Bool, true, false, ◌&&◌, ◌==◌, not, List, [], ◌∷◌, length, drop, filter, Option, Some, None, slice_get, refl, sym, ap, ◌∙◌, arith, if◌then◌else◌}
use Rattle.std.specs.Option.{option_map_or}
use Rattle.std.proofs.lemmas.List.{drop_all}
use Rattle.std.proofs.lemmas.Option.{slice_get_within, slice_get_cases}
use Rattle.kb_class.specs.Class.{Class}
use Rattle.kb_class.specs.Platform.{object_name}
use Rattle.kb_link.specs.Links.{IsLinked}
use Rattle.kb_classes.specs.Rules.{is_interface}
use Rattle.kb_classes.specs.Subtypes.{is_super}
use Rattle.kb_classes.specs.World.{World, methods_in}
use Rattle.kb_link.proofs.MemberNames.{declared_is}
use Rattle.kb_classes.proofs.Named.{number_inside}
use Rattle.kb_names.specs.declared.types.ExactType.{ExactType}
use Rattle.kb_names.specs.declared.types.ExactType.TheVariants as exact
use Rattle.kb_names.specs.declared.types.MethodType.{MethodType}
use Rattle.kb_resolution.specs.Lookup.{or_else, first_along, class_of, declares, declares_open, interfaces_from}
use Rattle.kb_resolution.specs.Tables.{open_if_above}

module _ (world : World) (linked : IsLinked world) (name : List ℕ) (kind : MethodType) (number : ℕ) where
  -- no class has the number
  pub declared_past : length world.classes ≤ number → declares world name kind number ≡ None
  declared_past past = go (declares world name kind number) refl where
    go : (o : Option ℕ) → declares world name kind number ≡ o → declares world name kind number ≡ None
    go None is = is
    go (Some id) is =
        let of = declared_is world.classes linked.loaded.methods number name kind id is in
        let within : number < length world.classes = slice_get_within world.classes number of.declaring of.class_is in
        absurd (omega (arith, past, within))

  -- the number is one of the methods
  pub declared_within : (id : ℕ) → declares world name kind number ≡ Some id → id < length (methods_in world.classes)
  declared_within id is =
      let of = declared_is world.classes linked.loaded.methods number name kind id is in
      slice_get_within (methods_in world.classes) id of.stands.method of.there

-- the class in which members are sought is one of the world
pub sought_inside : (world : World) (type : ExactType) (number : ℕ) → class_of world type ≡ Some number → number < length world.classes
sought_inside world (exact.Class name) number at = number_inside world.classes name number at
sought_inside world (exact.Array component) number at = number_inside world.classes object_name number at

-- ---- superinterfaces

module _ (world : World) (low : ℕ) (name : List ℕ) (kind : MethodType) where
  -- what is found in the superinterfaces among these classes, of which the first has that number
  abbrev pub found_from : ℕ → List Class → Option ℕ
  found_from number classes = first_along (declares_open world name kind) (filter (λ above. not (above == low) && is_super world.supers low above) (interfaces_from number classes))

  abbrev pub found_behind : ℕ → Option ℕ
  found_behind number = found_from number (drop number world.classes)

  filter_step : (f : ℕ → Option ℕ) (test : ℕ → Bool) (number : ℕ) (rest : List ℕ) (i t : Bool) → test number ≡ t
      → first_along f (filter test (if i then number ∷ rest else rest)) ≡ or_else (if i && t then f number else None) (first_along f (filter test rest))
  filter_step f test number rest true true e = rw e refl
  filter_step f test number rest true false e = rw e refl
  filter_step f test number rest false t e = refl

  found_step : (number : ℕ) (class : Class) (classes : List Class) → slice_get world.classes number ≡ Some class
      → found_from number (class ∷ classes) ≡ or_else (open_if_above world low name kind number) (found_from (suc number) classes)
  found_step number class classes there =
      filter_step (declares_open world name kind) (λ above. not (above == low) && is_super world.supers low above) number (interfaces_from (suc number) classes) (is_interface class)
      (not (number == low) && is_super world.supers low number) refl
      ∙ ap (λ (o : Option Class). or_else (if option_map_or is_interface o false && (not (number == low) && is_super world.supers low number) then declares_open world name kind number else None)
      (found_from (suc number) classes)) (sym there)

  at_place : (classes : List Class) (number : ℕ) (class : Class) → slice_get classes number ≡ Some class → drop number classes ≡ class ∷ drop (suc number) classes
  at_place [] number class there = absurd cc
  at_place (c ∷ classes) zero class there =
      let same : c ≡ class = cc in
      ap (λ (d : Class). d ∷ classes) same
  at_place (c ∷ classes) (suc number) class there = at_place classes number class there

  pub found_next : (number : ℕ) → number < length world.classes → found_behind number ≡ or_else (open_if_above world low name kind number) (found_behind (number + 1))
  found_next number inside =
      elim (slice_get_cases world.classes number).1 [
        | inl h ↦ there h.0 h.2
        | inr h ↦ absurd (omega (arith, inside, h.0))
      ]
    where
      there : (class : Class) → slice_get world.classes number ≡ Some class → found_behind number ≡ or_else (open_if_above world low name kind number) (found_behind (number + 1))
      there class at =
          let next : suc number ≡ number + 1 = omega arith in
          ap (found_from number) (at_place world.classes number class at)
          ∙ found_step number class (drop (suc number) world.classes) at
          ∙ ap (λ (n : ℕ). or_else (open_if_above world low name kind number) (found_behind n)) next

  pub found_last : (number : ℕ) → length world.classes ≤ number → found_behind number ≡ None
  found_last number past = ap (found_from number) (drop_all number world.classes past)

  -- the class of the number has the method
  pub found_here : (number id : ℕ) → number < length world.classes → Some id ≡ open_if_above world low name kind number → found_behind number ≡ Some id
  found_here number id inside is = found_next number inside ∙ ap (λ (o : Option ℕ). or_else o (found_behind (number + 1))) (sym is)

  -- it has none
  pub found_later : (number : ℕ) → number < length world.classes → None ≡ open_if_above world low name kind number → found_behind number ≡ found_behind (number + 1)
  found_later number inside is = found_next number inside ∙ ap (λ (o : Option ℕ). or_else o (found_behind (number + 1))) (sym is)
