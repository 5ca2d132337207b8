-- The receivers of a call: its classes one by one, and one look for all arrays.
use Rattle.std.proofs.Common.{◌≡◌, ℕ, Bool, true, false, ◌&&◌, ◌||◌, cond, if◌then◌else◌, List, [], ◌∷◌, ◌++◌, map, filter_map, fold, Option, Some, None, refl, sym, ap, ◌∙◌}
use Rattle.std.specs.List.{list_any, filter, cons_option}
use Rattle.std.proofs.lemmas.Grind.{fold-append}
use Rattle.kb_names.specs.declared.types.ExactType.{ExactType}
use Rattle.kb_names.specs.declared.types.ExactType.TheVariants as exact
use Rattle.kb_names.specs.declared.types.JType.{JType}
use Rattle.kb_classes.specs.Universe.{IsUniverse}
use Rattle.kb_classes.specs.World.{World}
use Rattle.kb_universe.specs.Marks.{class_types, is_array_below}
use Rattle.kb_universe.proofs.Members.{split_is}
use Rattle.kb_world.specs.Calls.{receives, selected_on, called_on, if_code}
use Rattle.kb_universe.specs.Found.{FoundMethods, with_new}
use Rattle.kb_world.specs.Receivers.{called_among, selected_on_array}
use Rattle.kb_world.specs.Walks.{with_all}
use Rattle.kb_world.proofs.Settling.{new_twice}

or_assoc : (a b c : Bool) → (a || (b || c)) ≡ ((a || b) || c)
or_assoc true b c = refl
or_assoc false b c = refl

module _ (world : World) (type : ExactType) (method : ℕ) where
  pub among_is : (receiver : ExactType) (types : List ExactType) (b : Bool) → receives world type receiver ≡ b
      → called_among world type method (receiver ∷ types) ≡ cond b (selected_on world method receiver ∷ called_among world type method types) (called_among world type method types)
  among_is receiver types true e = ap (λ (c : Bool). map (selected_on world method) (cond c (receiver ∷ filter (receives world type) types) (filter (receives world type) types))) e
  among_is receiver types false e = ap (λ (c : Bool). map (selected_on world method) (cond c (receiver ∷ filter (receives world type) types) (filter (receives world type) types))) e

  -- ---- a test on what is called

  module _ (f : Option ℕ → Bool) where
    apart : (types : List ExactType)
        → list_any f (called_among world type method types)
        ≡ (list_any f (called_among world type method (class_types types)) || (list_any (is_array_below world type) types && f (selected_on_array world method)))
    apart [] = refl
    apart (exact.Class name ∷ types) = go (apart types) (receives world type (exact.Class name)) refl where
      go : list_any f (called_among world type method types)
          ≡ (list_any f (called_among world type method (class_types types)) || (list_any (is_array_below world type) types && f (selected_on_array world method)))
          → (b : Bool) → receives world type (exact.Class name) ≡ b
          → list_any f (called_among world type method (exact.Class name ∷ types))
          ≡ (list_any f (called_among world type method (exact.Class name ∷ class_types types)) || (list_any (is_array_below world type) types && f (selected_on_array world method)))
      go later true e =
          ap (list_any f) (among_is (exact.Class name) types true e) ∙ ap (λ (b : Bool). f (selected_on world method (exact.Class name)) || b) later
          ∙ or_assoc (f (selected_on world method (exact.Class name))) (list_any f (called_among world type method (class_types types))) (list_any (is_array_below world type) types && f (selected_on_array world method))
          ∙ ap (λ (os : List (Option ℕ)). list_any f os || (list_any (is_array_below world type) types && f (selected_on_array world method))) (sym (among_is (exact.Class name) (class_types types) true e))
      go later false e =
          ap (list_any f) (among_is (exact.Class name) types false e) ∙ later
          ∙ ap (λ (os : List (Option ℕ)). list_any f os || (list_any (is_array_below world type) types && f (selected_on_array world method))) (sym (among_is (exact.Class name) (class_types types) false e))
    apart (exact.Array component ∷ types) = go (apart types) (receives world type (exact.Array component)) refl where
      swap : (s one any : Bool) → (s || (one || (any && s))) ≡ (one || ((true || any) && s))
      swap true true any = refl
      swap true false any = refl
      swap false true any = refl
      swap false false true = refl
      swap false false false = refl

      go : list_any f (called_among world type method types)
          ≡ (list_any f (called_among world type method (class_types types)) || (list_any (is_array_below world type) types && f (selected_on_array world method)))
          → (b : Bool) → receives world type (exact.Array component) ≡ b
          → list_any f (called_among world type method (exact.Array component ∷ types))
          ≡ (list_any f (called_among world type method (class_types types)) || (list_any (is_array_below world type) (exact.Array component ∷ types) && f (selected_on_array world method)))
      go later true e =
          ap (list_any f) (among_is (exact.Array component) types true e) ∙ ap (λ (b : Bool). f (selected_on_array world method) || b) later
          ∙ swap (f (selected_on_array world method)) (list_any f (called_among world type method (class_types types))) (list_any (is_array_below world type) types)
          ∙ ap (λ (b : Bool). list_any f (called_among world type method (class_types types)) || ((b || list_any (is_array_below world type) types) && f (selected_on_array world method))) (sym e)
      go later false e =
          ap (list_any f) (among_is (exact.Array component) types false e) ∙ later
          ∙ ap (λ (b : Bool). list_any f (called_among world type method (class_types types)) || ((b || list_any (is_array_below world type) types) && f (selected_on_array world method))) (sym e)

    -- the three answers of the code
    pub by_class : list_any f (called_among world type method (class_types world.universe)) ≡ true → true ≡ list_any f (called_on world type method)
    by_class e = sym (apart world.universe ∙ ap (λ (b : Bool). b || (list_any (is_array_below world type) world.universe && f (selected_on_array world method))) e)

    pub by_none : list_any f (called_among world type method (class_types world.universe)) ≡ false → list_any (is_array_below world type) world.universe ≡ false → false ≡ list_any f (called_on world type method)
    by_none e none =
        sym (apart world.universe ∙ ap (λ (b : Bool). b || (list_any (is_array_below world type) world.universe && f (selected_on_array world method))) e
        ∙ ap (λ (b : Bool). b && f (selected_on_array world method)) none)

    pub by_array : list_any f (called_among world type method (class_types world.universe)) ≡ false → list_any (is_array_below world type) world.universe ≡ true
        → f (selected_on_array world method) ≡ list_any f (called_on world type method)
    by_array e some =
        sym (apart world.universe ∙ ap (λ (b : Bool). b || (list_any (is_array_below world type) world.universe && f (selected_on_array world method))) e
        ∙ ap (λ (b : Bool). b && f (selected_on_array world method)) some)

  -- ---- what is mentioned

  fold_cons : (found : List ℕ) (o : Option ℕ) (numbers : List ℕ) → fold with_new found (cons_option o numbers) ≡ fold with_new (fold with_new found (cons_option o [])) numbers
  fold_cons found None numbers = refl
  fold_cons found (Some n) numbers = refl

  once : (found : List ℕ) (o : Option ℕ) → fold with_new (fold with_new found (cons_option o [])) (cons_option o []) ≡ fold with_new found (cons_option o [])
  once found None = refl
  once found (Some n) = new_twice found n

  of_arrays : (found : List ℕ) (components : List JType)
      → fold with_new found (filter_map (if_code world) (called_among world type method (map exact.Array components)))
      ≡ (if list_any (is_array_below world type) (map exact.Array components) then fold with_new found (filter_map (if_code world) (selected_on_array world method ∷ [])) else found)
  of_arrays found [] = refl
  of_arrays found (c ∷ components) = go (λ fs. of_arrays fs components) (receives world type (exact.Array c)) refl where
    rest : List ℕ
    rest = filter_map (if_code world) (called_among world type method (map exact.Array components))

    next : List ℕ
    next = fold with_new found (cons_option (if_code world (selected_on_array world method)) [])

    same_if : (b : Bool) → (if b then fold with_new next (cons_option (if_code world (selected_on_array world method)) []) else next) ≡ next
    same_if true = once found (if_code world (selected_on_array world method))
    same_if false = refl

    go : ((fs : List ℕ) → fold with_new fs (filter_map (if_code world) (called_among world type method (map exact.Array components)))
        ≡ (if list_any (is_array_below world type) (map exact.Array components) then fold with_new fs (filter_map (if_code world) (selected_on_array world method ∷ [])) else fs))
        → (b : Bool) → receives world type (exact.Array c) ≡ b
        → fold with_new found (filter_map (if_code world) (called_among world type method (exact.Array c ∷ map exact.Array components)))
        ≡ (if list_any (is_array_below world type) (exact.Array c ∷ map exact.Array components) then fold with_new found (filter_map (if_code world) (selected_on_array world method ∷ [])) else found)
    go later true e =
        ap (λ (os : List (Option ℕ)). fold with_new found (filter_map (if_code world) os)) (among_is (exact.Array c) (map exact.Array components) true e)
        ∙ fold_cons found (if_code world (selected_on_array world method)) rest ∙ later next ∙ same_if (list_any (is_array_below world type) (map exact.Array components))
        ∙ ap (λ (b : Bool). if b || list_any (is_array_below world type) (map exact.Array components) then next else found) (sym e)
    go later false e =
        ap (λ (os : List (Option ℕ)). fold with_new found (filter_map (if_code world) os)) (among_is (exact.Array c) (map exact.Array components) false e) ∙ later found
        ∙ ap (λ (b : Bool). if b || list_any (is_array_below world type) (map exact.Array components) then next else found) (sym e)

  among_both : (xs ys : List ExactType)
      → filter_map (if_code world) (called_among world type method (xs ++ ys))
      ≡ filter_map (if_code world) (called_among world type method xs) ++ filter_map (if_code world) (called_among world type method ys)
  among_both [] ys = refl
  among_both (x ∷ xs) ys = go (among_both xs ys) (receives world type x) refl where
    joined : (o : Option ℕ) (front back : List ℕ) → cons_option o (front ++ back) ≡ cons_option o front ++ back
    joined None front back = refl
    joined (Some n) front back = refl

    go : filter_map (if_code world) (called_among world type method (xs ++ ys)) ≡ filter_map (if_code world) (called_among world type method xs) ++ filter_map (if_code world) (called_among world type method ys)
        → (b : Bool) → receives world type x ≡ b
        → filter_map (if_code world) (called_among world type method ((x ∷ xs) ++ ys))
        ≡ filter_map (if_code world) (called_among world type method (x ∷ xs)) ++ filter_map (if_code world) (called_among world type method ys)
    go later true e =
        ap (filter_map (if_code world)) (among_is x (xs ++ ys) true e) ∙ ap (cons_option (if_code world (selected_on world method x))) later
        ∙ joined (if_code world (selected_on world method x)) (filter_map (if_code world) (called_among world type method xs)) (filter_map (if_code world) (called_among world type method ys))
        ∙ ap (λ (os : List (Option ℕ)). filter_map (if_code world) os ++ filter_map (if_code world) (called_among world type method ys)) (sym (among_is x xs true e))
    go later false e =
        ap (filter_map (if_code world)) (among_is x (xs ++ ys) false e) ∙ later
        ∙ ap (λ (os : List (Option ℕ)). filter_map (if_code world) os ++ filter_map (if_code world) (called_among world type method ys)) (sym (among_is x xs false e))

  any_both : (p : ExactType → Bool) (xs ys : List ExactType) → list_any p (xs ++ ys) ≡ (list_any p xs || list_any p ys)
  any_both p [] ys = refl
  any_both p (x ∷ xs) ys = ap (λ (b : Bool). p x || b) (any_both p xs ys) ∙ or_assoc (p x) (list_any p xs) (list_any p ys)

  no_class : (types : List ExactType) → list_any (is_array_below world type) (class_types types) ≡ false
  no_class [] = refl
  no_class (exact.Class name ∷ types) = no_class types
  no_class (exact.Array component ∷ types) = no_class types

  module _ (universe : IsUniverse world.classes world.universe) (found : FoundMethods) where
    any_array : list_any (is_array_below world type) world.universe ≡ list_any (is_array_below world type) (map exact.Array universe.arrays)
    any_array =
        ap (list_any (is_array_below world type)) (split_is world universe) ∙ any_both (is_array_below world type) (class_types world.universe) (map exact.Array universe.arrays)
        ∙ ap (λ (b : Bool). b || list_any (is_array_below world type) (map exact.Array universe.arrays)) (no_class world.universe)

    -- what the classes mention is found
    abbrev among : List ℕ
    among = fold with_new found.numbers (filter_map (if_code world) (called_among world type method (class_types world.universe)))

    -- and what the arrays mention besides
    abbrev among_all : Bool → List ℕ
    among_all b = if b then fold with_new among (filter_map (if_code world) (selected_on_array world method ∷ [])) else among

    -- the classes first, and then the arrays
    in_turn : fold with_new found.numbers (filter_map (if_code world) (called_on world type method)) ≡ among_all (list_any (is_array_below world type) world.universe)
    in_turn =
        ap (λ (ts : List ExactType). fold with_new found.numbers (filter_map (if_code world) (called_among world type method ts))) (split_is world universe)
        ∙ ap (fold with_new found.numbers) (among_both (class_types world.universe) (map exact.Array universe.arrays))
        ∙ fold-append with_new found.numbers (filter_map (if_code world) (called_among world type method (class_types world.universe)))
        (filter_map (if_code world) (called_among world type method (map exact.Array universe.arrays)))
        ∙ of_arrays (fold with_new found.numbers (filter_map (if_code world) (called_among world type method (class_types world.universe)))) universe.arrays
        ∙ ap among_all (sym any_array)

    pub without_array : list_any (is_array_below world type) world.universe ≡ false
        → with_all found (filter_map (if_code world) (called_among world type method (class_types world.universe))) ≡ with_all found (filter_map (if_code world) (called_on world type method))
    without_array none = ap (λ (ns : List ℕ). record { all = found.all; numbers = ns }) (sym (in_turn ∙ ap among_all none))

    pub with_array : list_any (is_array_below world type) world.universe ≡ true
        → with_all (with_all found (filter_map (if_code world) (called_among world type method (class_types world.universe)))) (filter_map (if_code world) (selected_on_array world method ∷ []))
        ≡ with_all found (filter_map (if_code world) (called_on world type method))
    with_array some = ap (λ (ns : List ℕ). record { all = found.all; numbers = ns }) (sym (in_turn ∙ ap among_all some))
