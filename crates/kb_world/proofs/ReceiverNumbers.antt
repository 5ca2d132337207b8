-- The receivers of a call that are classes, by their numbers.
use Rattle.std.proofs.Common.{◌≡◌, ℕ, Bool, true, false, true≢false, ◌||◌, ◌&&◌, nat_lt, cond, List, [], ◌∷◌, map, filter_map, length, Option, Some, None, refl, sym, ap, subst, ◌∙◌}
use Rattle.std.specs.List.{cons_option, filter, list_all}
use Rattle.std.specs.Option.{option_and_then}
use Rattle.std.specs.Str.{bytes_eq}
use Rattle.std.proofs.lemmas.Bool.Decides.{Decides-ltb}
use Rattle.std.proofs.lemmas.Option.{same_Some, none-some}
use Rattle.std.proofs.lemmas.Slice.Eq.{bytes_eq-Decides}
use Rattle.kb_names.specs.declared.types.ExactType.{ExactType}
use Rattle.kb_names.specs.declared.types.ExactType.TheVariants as exact
use Rattle.kb_class.specs.Naming.{Has}
use Rattle.kb_class.proofs.Lists.{has_first, has_later}
use Rattle.kb_link.specs.Links.{IsLinked}
use Rattle.kb_classes.specs.Subtypes.{is_below, is_super}
use Rattle.kb_classes.specs.World.{World, number_in}
use Rattle.kb_classes.proofs.Named.{number_inside}
use Rattle.kb_universe.specs.Marks.{class_types}
use Rattle.kb_universe.proofs.Members.{class_named}
use Rattle.kb_world.specs.Calls.{receives, selected_on}
use Rattle.kb_resolution.specs.Lookup.{class_number, selected}
use Rattle.kb_world.specs.Receivers.{called_among, called_below, receivers_in, receives_at}
use Rattle.kb_world.proofs.ReceiverLaws.{among_is}

or_none : (b : Bool) → (b ≡ true → ⊥) → (b || false) ≡ false
or_none true h = absurd (h refl)
or_none false h = refl

or_same : (a b : Bool) → (a ≡ true → b ≡ true) → (a || b) ≡ b
or_same true b h = sym (h refl)
or_same false b h = refl

module _ (world : World) (linked : IsLinked world) where
  -- whether a class that is there is below another one
  below_at : (high low : List ℕ) (number : ℕ) → number_in world.classes low ≡ Some number → is_below world low high ≡ receives_at world (number_in world.classes high) number
  below_at high low number at = go (number_in world.classes high) refl where
    same_name : bytes_eq low high ≡ true → number_in world.classes high ≡ Some number
    same_name e = ap (λ (n : List ℕ). number_in world.classes n) (sym ((bytes_eq-Decides low high).0 e)) ∙ at

    itself : is_super world.supers number number ≡ true
    itself = (linked.supers.each number number (number_inside world.classes low number at)).1 ([], refl)

    with_none : number_in world.classes high ≡ None → is_below world low high ≡ (bytes_eq low high || false)
    with_none none = rw (at, none) refl

    with_some : (above : ℕ) → number_in world.classes high ≡ Some above → is_below world low high ≡ (bytes_eq low high || is_super world.supers number above)
    with_some above there = rw (at, there) refl

    go : (o : Option ℕ) → number_in world.classes high ≡ o → is_below world low high ≡ receives_at world (number_in world.classes high) number
    go None none =
        with_none none ∙ or_none (bytes_eq low high) (λ e. none-some number (sym none ∙ same_name e)) ∙ ap (λ (o : Option ℕ). receives_at world o number) (sym none)
    go (Some above) there =
        with_some above there
        ∙ or_same (bytes_eq low high) (is_super world.supers number above) (λ e.
        (let same : above ≡ number = same_Some above number (sym there ∙ same_name e) in subst (λ (n : ℕ). is_super world.supers number n ≡ true) (sym same) itself))
        ∙ ap (λ (o : Option ℕ). receives_at world o number) (sym there)

  module _ (type : ExactType) (method : ℕ) where
    receives_number : (low : List ℕ) (number : ℕ) → number_in world.classes low ≡ Some number → receives world type (exact.Class low) ≡ receives_at world (class_number world type) number
    receives_number low number at = go type where
      go : (t : ExactType) → receives world t (exact.Class low) ≡ receives_at world (class_number world t) number
      go (exact.Class high) = below_at high low number at
      go (exact.Array component) = refl

    below_is : (low : ℕ) (rest : List ℕ) (b : Bool) → receives_at world (class_number world type) low ≡ b
        → called_below world (class_number world type) method (low ∷ rest) ≡ cond b (selected world low method ∷ called_below world (class_number world type) method rest) (called_below world (class_number world type) method rest)
    below_is low rest true e =
        ap (λ (c : Bool). map (λ (n : ℕ). selected world n method) (cond c (low ∷ filter (receives_at world (class_number world type)) rest) (filter (receives_at world (class_number world type)) rest))) e
    below_is low rest false e =
        ap (λ (c : Bool). map (λ (n : ℕ). selected world n method) (cond c (low ∷ filter (receives_at world (class_number world type)) rest) (filter (receives_at world (class_number world type)) rest))) e

    abbrev numbers : List ExactType → List ℕ
    numbers types = filter_map (class_number world) (class_types types)

    among_numbers : (types : List ExactType) → ((name : List ℕ) → Has types (exact.Class name) → (number : ℕ) × (number_in world.classes name ≡ Some number))
        → called_among world type method (class_types types) ≡ called_below world (class_number world type) method (numbers types)
    among_numbers [] there = refl
    among_numbers (exact.Array component ∷ types) there = among_numbers types (λ name has. there name (has_later (exact.Array component) (exact.Class name) types has))
    among_numbers (exact.Class name ∷ types) there =
        go (there name (has_first (exact.Class name) types)) (among_numbers types (λ other has. there other (has_later (exact.Class name) (exact.Class other) types has)))
      where
        go : ((number : ℕ) × (number_in world.classes name ≡ Some number))
            → called_among world type method (class_types types) ≡ called_below world (class_number world type) method (numbers types)
            → called_among world type method (exact.Class name ∷ class_types types) ≡ called_below world (class_number world type) method (cons_option (number_in world.classes name) (numbers types))
        go found later = turn (receives_at world (class_number world type) number) refl where
          number : ℕ
          number = found.0

          at : number_in world.classes name ≡ Some number
          at = found.1

          back : called_below world (class_number world type) method (cons_option (number_in world.classes name) (numbers types)) ≡ called_below world (class_number world type) method (number ∷ numbers types)
          back = ap (λ (o : Option ℕ). called_below world (class_number world type) method (cons_option o (numbers types))) at

          selects : selected_on world method (exact.Class name) ≡ selected world number method
          selects = ap (λ (o : Option ℕ). option_and_then (λ (class : ℕ). selected world class method) o) at

          turn : (b : Bool) → receives_at world (class_number world type) number ≡ b
              → called_among world type method (exact.Class name ∷ class_types types) ≡ called_below world (class_number world type) method (cons_option (number_in world.classes name) (numbers types))
          turn true e =
              among_is world type method (exact.Class name) (class_types types) true (receives_number name number at ∙ e)
              ∙ ap (λ (o : Option ℕ). o ∷ called_among world type method (class_types types)) selects ∙ ap (λ (os : List (Option ℕ)). selected world number method ∷ os) later
              ∙ sym (back ∙ below_is number (numbers types) true e)
          turn false e =
              among_is world type method (exact.Class name) (class_types types) false (receives_number name number at ∙ e) ∙ later ∙ sym (back ∙ below_is number (numbers types) false e)

    -- each class of the universe is there
    there_all : (name : List ℕ) → Has world.universe (exact.Class name) → (number : ℕ) × (number_in world.classes name ≡ Some number)
    there_all name has = go (number_in world.classes name) refl where
      go : (o : Option ℕ) → number_in world.classes name ≡ o → (number : ℕ) × (number_in world.classes name ≡ Some number)
      go None none = absurd (class_named world linked.universe name has none)
      go (Some number) at = (number, at)

    -- the classes by their numbers call what they call by their names
    pub by_numbers : (owner : Option ℕ) → owner ≡ class_number world type → called_below world owner method (receivers_in world) ≡ called_among world type method (class_types world.universe)
    by_numbers owner is = ap (λ (o : Option ℕ). called_below world o method (receivers_in world)) is ∙ sym (among_numbers world.universe there_all)

-- the numbers are those of classes
and_true : (a b : Bool) → a ≡ true → b ≡ true → (a && b) ≡ true
and_true true b e f = f
and_true false b e f = absurd (true≢false (sym e))

all_inside : (world : World) (types : List ExactType) → list_all (λ n. nat_lt n (length world.classes)) (filter_map (class_number world) types) ≡ true
all_inside world [] = refl
all_inside world (exact.Array component ∷ types) = all_inside world types
all_inside world (exact.Class name ∷ types) = go (number_in world.classes name) refl (all_inside world types) where
  go : (o : Option ℕ) → number_in world.classes name ≡ o → list_all (λ n. nat_lt n (length world.classes)) (filter_map (class_number world) types) ≡ true
      → list_all (λ n. nat_lt n (length world.classes)) (cons_option (number_in world.classes name) (filter_map (class_number world) types)) ≡ true
  go None none later = ap (λ (o : Option ℕ). list_all (λ n. nat_lt n (length world.classes)) (cons_option o (filter_map (class_number world) types))) none ∙ later
  go (Some number) at later =
      ap (λ (o : Option ℕ). list_all (λ n. nat_lt n (length world.classes)) (cons_option o (filter_map (class_number world) types))) at
      ∙ and_true (nat_lt number (length world.classes)) (list_all (λ n. nat_lt n (length world.classes)) (filter_map (class_number world) types))
      ((Decides-ltb number (length world.classes)).1 (number_inside world.classes name number at)) later

pub receivers_inside : (world : World) → list_all (λ n. nat_lt n (length world.classes)) (receivers_in world) ≡ true
receivers_inside world = all_inside world (class_types world.universe)
