-- The numbers of superclasses and interfaces, and chains that are walked up.
use Rattle.std.proofs.Common.{◌≡◌, ℕ, inl, inr, zero, suc, ◌+◌, ◌<◌, ◌==◌, ◌↔◌, Bool, true, false, List, [], ◌∷◌, ◌++◌, length, map, Option, Some, None, slice_get, slice_index_or, refl, sym, ap, subst, ◌∙◌, arith}
use Rattle.std.specs.Option.{option_and_then}
use Rattle.std.proofs.lemmas.List.{length-append}
use Rattle.std.proofs.lemmas.Bool.{eq-eqb, ne_eqb, cases_eq}
use Rattle.std.proofs.lemmas.Option.{same_Some, none-some}
use Rattle.kb_order.specs.Order.{stands, IsDirectlyAbove, IsComplete, Climbs, IsAbove, HasNoCircle, IsRank}
use Rattle.kb_order.proofs.RankLaws.{rank_falls}
use Rattle.kb_class.specs.Class.{Class}
use Rattle.kb_classes.specs.World.{number_in, parent_in}
use Rattle.kb_classes.specs.Subtypes.{parent_names, super_names, with_number, numbers_of, direct_supers, is_super, AreChains, IsChain}
use Rattle.kb_link.specs.ChainWalks.{parent_at, walk, AreWalks}
use Rattle.kb_classes.proofs.Named.{number_inside}

-- ---- numbers of names

module _ (classes : List Class) where
  pub numbers_more : (names more : List (List ℕ)) → numbers_of classes (names ++ more) ≡ numbers_of classes names ++ numbers_of classes more
  numbers_more [] more = refl
  numbers_more (name ∷ names) more = go (numbers_more names more) (number_in classes name) refl where
    go : numbers_of classes (names ++ more) ≡ numbers_of classes names ++ numbers_of classes more → (o : Option ℕ) → number_in classes name ≡ o
        → numbers_of classes ((name ∷ names) ++ more) ≡ numbers_of classes (name ∷ names) ++ numbers_of classes more
    go later o is = ap (λ (n : Option ℕ). with_number n (numbers_of classes (names ++ more))) is ∙ ap (with_number o) later ∙ joined o ∙ ap (λ (n : Option ℕ). with_number n (numbers_of classes names) ++ numbers_of classes more) (sym is)
      where
        joined : (n : Option ℕ) → with_number n (numbers_of classes names ++ numbers_of classes more) ≡ with_number n (numbers_of classes names) ++ numbers_of classes more
        joined None = refl
        joined (Some number) = refl

  stands_behind : (number high : ℕ) (numbers : List ℕ) → (number == high) ≡ false → stands high (number ∷ numbers) ≡ true → stands high numbers ≡ true
  stands_behind number high numbers other there = (let h : stands high (number ∷ numbers) ≡ stands high numbers = (rw other refl) in sym h ∙ there)

  pub numbers_inside : (names : List (List ℕ)) (high : ℕ) → stands high (numbers_of classes names) ≡ true → high < length classes
  numbers_inside [] high there = absurd cc
  numbers_inside (name ∷ names) high there = go (numbers_inside names high) (number_in classes name) refl where
    go : (stands high (numbers_of classes names) ≡ true → high < length classes) → (o : Option ℕ) → number_in classes name ≡ o → high < length classes
    go later None is =
        let same : numbers_of classes (name ∷ names) ≡ numbers_of classes names = ap (λ (o : Option ℕ). with_number o (numbers_of classes names)) is in
        later (sym (ap (stands high) same) ∙ there)
    go later (Some number) is =
        elim (cases_eq number high) [
          | inl equal ↦ subst (λ (n : ℕ). n < length classes) equal (number_inside classes name number is)
          | inr other ↦ later (stands_behind number high (numbers_of classes names) (ne_eqb number high other) (sym (ap (stands high) same) ∙ there))
        ]
      where
        same : numbers_of classes (name ∷ names) ≡ number ∷ numbers_of classes names
        same = ap (λ (o : Option ℕ). with_number o (numbers_of classes names)) is

-- what stands directly above a class is a class
pub supers_complete : (classes : List Class) → IsComplete (direct_supers classes)
supers_complete classes low high above =
    subst (λ (n : ℕ). high < n) (sym (as_many classes)) (go classes low above)
  where
    as_many : (cs : List Class) → length (map (λ (class : Class). numbers_of classes (super_names class)) cs) ≡ length cs
    as_many [] = refl
    as_many (c ∷ cs) = ap suc (as_many cs)

    go : (cs : List Class) (i : ℕ) → stands high (slice_index_or (map (λ (class : Class). numbers_of classes (super_names class)) cs) i []) ≡ true → high < length classes
    go [] i there = absurd cc
    go (class ∷ cs) zero there = numbers_inside classes (super_names class) high there
    go (class ∷ cs) (suc i) there = go cs i there

-- what stands above a class is a class
pub above_inside : (direct : List (List ℕ)) (low high : ℕ) → IsComplete direct → low < length direct → IsAbove direct low high → high < length direct
above_inside direct low high complete inside above = go above.0 low inside above.1 where
  go : (path : List ℕ) (from : ℕ) → from < length direct → Climbs direct from path high → high < length direct
  go [] from within climbs = subst (λ (n : ℕ). n < length direct) climbs within
  go (next ∷ path) from within climbs = go path next (complete from next climbs.0) climbs.1

-- the supers of a class
pub direct_at : (classes : List Class) (number : ℕ) (class : Class) → slice_get classes number ≡ Some class
    → slice_index_or (direct_supers classes) number [] ≡ numbers_of classes (super_names class)
direct_at classes number class there = go classes number there where
  go : (cs : List Class) (i : ℕ) → slice_get cs i ≡ Some class → slice_index_or (map (λ (c : Class). numbers_of classes (super_names c)) cs) i [] ≡ numbers_of classes (super_names class)
  go [] i at = absurd cc
  go (c ∷ cs) zero at =
      let same : c ≡ class = same_Some c class at in
      ap (λ (d : Class). numbers_of classes (super_names d)) same
  go (c ∷ cs) (suc i) at = go cs i at

-- the superclass of a class stands directly above it
pub parent_above : (classes : List Class) (number parent : ℕ) (class : Class) → slice_get classes number ≡ Some class → parent_in classes class ≡ Some parent
    → IsDirectlyAbove (direct_supers classes) number parent
parent_above classes number parent class there is = go class.parent refl where
  go : (o : Option (List ℕ)) → class.parent ≡ o → IsDirectlyAbove (direct_supers classes) number parent
  go None none =
      let no : parent_in classes class ≡ None = ap (λ (p : Option (List ℕ)). option_and_then (number_in classes) p) none in
      absurd (none-some parent (sym no ∙ is))
  go (Some name) some =
      let number_is : number_in classes name ≡ Some parent = sym (ap (λ (p : Option (List ℕ)). option_and_then (number_in classes) p) some) ∙ is in
      let rest = numbers_of classes class.interfaces in
      let named : numbers_of classes (super_names class) ≡ with_number (number_in classes name) rest = ap (λ (p : Option (List ℕ)). numbers_of classes (parent_names p ++ class.interfaces)) some in
      let first : numbers_of classes (super_names class) ≡ parent ∷ rest = named ∙ ap (λ (o : Option ℕ). with_number o rest) number_is in
      ap (stands parent) (direct_at classes number class there ∙ first) ∙ same_first parent rest
    where
      same_first : (p : ℕ) (rest : List ℕ) → stands p (p ∷ rest) ≡ true
      same_first p rest = (let e : (p == p) ≡ true = eq-eqb p p refl in rw e refl)

-- ---- chains

walk_none : (parent : ℕ → Option ℕ) (most : ℕ) → walk parent most None ≡ []
unfolding walk
walk_none parent zero = refl
walk_none parent (suc most) = refl

pub walk_some : (parent : ℕ → Option ℕ) (most number : ℕ) → walk parent (suc most) (Some number) ≡ number ∷ walk parent most (parent number)
unfolding walk
walk_some parent most number = refl

pub walk_end : (parent : ℕ → Option ℕ) (next : Option ℕ) → walk parent 0 next ≡ []
unfolding walk
walk_end parent next = refl

pub walk_stopped : (parent : ℕ → Option ℕ) (most : ℕ) → walk parent most None ≡ []
walk_stopped = walk_none

at_inside : (classes : List Class) (number : ℕ) → number < length classes → (class : Class) × (slice_get classes number ≡ Some class)
at_inside [] number inside = absurd (omega (arith, inside))
at_inside (class ∷ classes) zero inside = (class, refl)
at_inside (class ∷ classes) (suc number) inside = at_inside classes number (omega (arith, inside))

inside_at : (classes : List Class) (number : ℕ) (class : Class) → slice_get classes number ≡ Some class → number < length classes
inside_at [] number class there = absurd cc
inside_at (c ∷ classes) zero class there = omega arith
inside_at (c ∷ classes) (suc number) class there = (let h : number < length classes = inside_at classes number class there in omega (arith, h))

module _ (classes : List Class) (parents : List (Option ℕ)) (are : parents ≡ map (parent_in classes) classes) (apart : HasNoCircle (direct_supers classes)) where
  parent_is : (number : ℕ) (class : Class) → slice_get classes number ≡ Some class → parent_at parents number ≡ parent_in classes class
  parent_is number class there = subst (λ (ps : List (Option ℕ)). parent_at ps number ≡ parent_in classes class) (sym are) (go classes number there) where
    go : (cs : List Class) (i : ℕ) → slice_get cs i ≡ Some class → parent_at (map (parent_in classes) cs) i ≡ parent_in classes class
    go [] i at = absurd cc
    go (c ∷ cs) zero at = ap (parent_in classes) (same_Some c class at)
    go (c ∷ cs) (suc i) at = go cs i at

  -- a superclass stands directly above, and is a class
  parent_up : (number parent : ℕ) → number < length classes → parent_at parents number ≡ Some parent → IsDirectlyAbove (direct_supers classes) number parent × (parent < length classes)
  parent_up number parent inside at =
      let class = at_inside classes number inside in
      let above : IsDirectlyAbove (direct_supers classes) number parent = parent_above classes number parent class.0 class.1 (sym (parent_is number class.0 class.1) ∙ at) in
      let within : parent < length (direct_supers classes) = supers_complete classes number parent above in
      (above, subst (λ (n : ℕ). parent < n) (as_many classes) within)
    where
      as_many : (cs : List Class) → length (map (λ (class : Class). numbers_of classes (super_names class)) cs) ≡ length cs
      as_many [] = refl
      as_many (c ∷ cs) = ap suc (as_many cs)

  module _ (ranks : (number : ℕ) → number < length classes → (rank : ℕ) × IsRank (direct_supers classes) number rank) where
    -- two walks that are long enough are one
    enough : (one other number rank : ℕ) → number < length classes → IsRank (direct_supers classes) number rank → rank < one → rank < other
        → walk (parent_at parents) one (Some number) ≡ walk (parent_at parents) other (Some number)
    enough zero other number rank inside ranked low high = absurd (omega (arith, low))
    enough (suc one) zero number rank inside ranked low high = absurd (omega (arith, high))
    enough (suc one) (suc other) number rank inside ranked low high =
        walk_some (parent_at parents) one number
        ∙ ap (λ (chain : List ℕ). number ∷ chain) (next (λ n r a b c d. enough one other n r a b c d) (parent_at parents number) refl)
        ∙ sym (walk_some (parent_at parents) other number)
      where
        next : ((n r : ℕ) → n < length classes → IsRank (direct_supers classes) n r → r < one → r < other → walk (parent_at parents) one (Some n) ≡ walk (parent_at parents) other (Some n))
            → (o : Option ℕ) → parent_at parents number ≡ o → walk (parent_at parents) one o ≡ walk (parent_at parents) other o
        next later None is = walk_none (parent_at parents) one ∙ sym (walk_none (parent_at parents) other)
        next later (Some parent) is =
            let up = parent_up number parent inside is in
            let higher = ranks parent up.1 in
            let falls : higher.0 < rank = rank_falls (direct_supers classes) number parent rank higher.0 apart up.0 ranked higher.1 in
            later parent higher.0 up.1 higher.1 (omega (arith, falls, low)) (omega (arith, falls, high))

    -- the walks are the chains
    pub walks_are_chains : (chains : List (List ℕ)) → length chains ≡ length classes → AreWalks (direct_supers classes) (parent_at parents) chains → AreChains classes chains
    walks_are_chains chains len walks = record { len = len; each = each }
      where
        each : (number : ℕ) (class : Class) → slice_get classes number ≡ Some class → IsChain chains number (parent_in classes class) (slice_index_or chains number [])
        each number class there =
            let inside : number < length classes = inside_at classes number class there in
            let w = walks number (omega (arith, inside, len)) in
            subst (λ (o : Option ℕ). IsChain chains number o (slice_index_or chains number [])) (parent_is number class there)
            (go (parent_at parents number) refl inside w.0 w.1 (w.2 ∙ walk_some (parent_at parents) w.0 number))
          where
            go : (o : Option ℕ) → parent_at parents number ≡ o → number < length classes → (rank : ℕ) → IsRank (direct_supers classes) number rank
                → slice_index_or chains number [] ≡ number ∷ walk (parent_at parents) rank (parent_at parents number)
                → IsChain chains number o (slice_index_or chains number [])
            go None is inside rank ranked at = at ∙ ap (λ (next : Option ℕ). number ∷ walk (parent_at parents) rank next) is ∙ ap (λ (chain : List ℕ). number ∷ chain) (walk_none (parent_at parents) rank)
            go (Some parent) is inside rank ranked at =
                let up = parent_up number parent inside is in
                let w = walks parent (let within : parent < length classes = up.1 in omega (arith, within, len)) in
                let falls : w.0 < rank = rank_falls (direct_supers classes) number parent rank w.0 apart up.0 ranked w.1 in
                let higher : walk (parent_at parents) rank (Some parent) ≡ slice_index_or chains parent [] = enough rank (suc w.0) parent w.0 up.1 w.1 falls (omega arith) ∙ sym w.2 in
                at ∙ ap (λ (next : Option ℕ). number ∷ walk (parent_at parents) rank next) is ∙ ap (λ (chain : List ℕ). number ∷ chain) higher

-- ---- one walk more

pub walks_pushed : (direct : List (List ℕ)) (parent : ℕ → Option ℕ) (chains : List (List ℕ)) (chain : List ℕ) (number rank : ℕ) → length chains ≡ number
    → AreWalks direct parent chains → IsRank direct number rank → chain ≡ walk parent (suc rank) (Some number) → AreWalks direct parent (chains ++ chain ∷ [])
walks_pushed direct parent chains chain number rank many walks ranked is k inside =
    elim (cases_eq k number) [
      | inl e ↦ (
        rank,
        subst (λ (n : ℕ). IsRank direct n rank) (sym e) ranked,
        subst (λ (n : ℕ). slice_index_or (chains ++ chain ∷ []) n [] ≡ walk parent (suc rank) (Some n)) (sym e)
            (subst (λ (n : ℕ). slice_index_or (chains ++ chain ∷ []) n [] ≡ chain) many (last_of chains) ∙ is),
      )
      | inr n ↦ (
          let longer : length (chains ++ chain ∷ []) ≡ length chains + 1 = length-append chains (chain ∷ []) in
          let below : k < length chains = omega (arith, inside, longer, many, n) in
          let w = walks k below in
          (w.0, w.1, kept chains k below ∙ w.2))
    ]
  where
    last_of : (cs : List (List ℕ)) → slice_index_or (cs ++ chain ∷ []) (length cs) [] ≡ chain
    last_of [] = refl
    last_of (c ∷ cs) = last_of cs

    kept : (cs : List (List ℕ)) (i : ℕ) → i < length cs → slice_index_or (cs ++ chain ∷ []) i [] ≡ slice_index_or cs i []
    kept [] i below = absurd (omega (arith, below))
    kept (c ∷ cs) zero below = refl
    kept (c ∷ cs) (suc i) below = kept cs i (omega (arith, below))

pub direct_many : (classes : List Class) → length (direct_supers classes) ≡ length classes
direct_many classes = go classes where
  go : (cs : List Class) → length (map (λ (class : Class). numbers_of classes (super_names class)) cs) ≡ length cs
  go [] = refl
  go (c ∷ cs) = ap suc (go cs)

-- ---- one row of marks more

module _ (direct : List (List ℕ)) (rows : List (List Bool)) (marks : List Bool) (low : ℕ) (many : length rows ≡ low) where
  row_here : slice_index_or (rows ++ marks ∷ []) low [] ≡ marks
  row_here = subst (λ (n : ℕ). slice_index_or (rows ++ marks ∷ []) n [] ≡ marks) many (go rows) where
    go : (rs : List (List Bool)) → slice_index_or (rs ++ marks ∷ []) (length rs) [] ≡ marks
    go [] = refl
    go (r ∷ rs) = go rs

  row_kept : (k : ℕ) → k < low → slice_index_or (rows ++ marks ∷ []) k [] ≡ slice_index_or rows k []
  row_kept k below = go rows k (omega (arith, below, many)) where
    go : (rs : List (List Bool)) (i : ℕ) → i < length rs → slice_index_or (rs ++ marks ∷ []) i [] ≡ slice_index_or rs i []
    go [] i inside = absurd (omega (arith, inside))
    go (r ∷ rs) zero inside = refl
    go (r ∷ rs) (suc i) inside = go rs i (omega (arith, inside))

  pub rows_pushed : ((k : ℕ) → k < low → length (slice_index_or rows k []) ≡ length direct)
      → ((k high : ℕ) → k < low → (is_super rows k high ≡ true) ↔ IsAbove direct k high)
      → length marks ≡ length direct → ((high : ℕ) → (slice_index_or marks high false ≡ true) ↔ IsAbove direct low high)
      → (length (rows ++ marks ∷ []) ≡ low + 1)
      × ((k : ℕ) → k < low + 1 → length (slice_index_or (rows ++ marks ∷ []) k []) ≡ length direct)
      × ((k high : ℕ) → k < low + 1 → (is_super (rows ++ marks ∷ []) k high ≡ true) ↔ IsAbove direct k high)
  rows_pushed lengths each all right = (
    length-append rows (marks ∷ []) ∙ ap (λ (n : ℕ). n + 1) many,
    λ k inside. elim (cases_eq k low) [
      | inl e ↦ subst (λ (n : ℕ). length (slice_index_or (rows ++ marks ∷ []) n []) ≡ length direct) (sym e) (ap length row_here ∙ all)
      | inr n ↦ (let below : k < low = omega (arith, inside, n) in ap length (row_kept k below) ∙ lengths k below)
    ],
    λ k high inside. elim (cases_eq k low) [
      | inl e ↦ subst (λ (n : ℕ). (is_super (rows ++ marks ∷ []) n high ≡ true) ↔ IsAbove direct n high) (sym e)
          (subst (λ (row : List Bool). (slice_index_or row high false ≡ true) ↔ IsAbove direct low high) (sym row_here) (right high))
      | inr n ↦ (let below : k < low = omega (arith, inside, n) in
          subst (λ (row : List Bool). (slice_index_or row high false ≡ true) ↔ IsAbove direct k high) (sym (row_kept k below)) (each k high below))
    ],
  )
