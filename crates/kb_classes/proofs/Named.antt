-- Classes by their names: the number of a name, one class more, and different names.
use Rattle.std.proofs.Common.{◌≡◌, ◌≢◌, ℕ, zero, suc, ◌<◌, ◌+◌, ◌^◌, ◌⊎◌, inl, inr, Bool, true, false, List, [], ◌∷◌, ◌++◌, length, map, take, Option, Some, None, IsSome, slice_get, position, cond, not, nat_lt, refl, sym, ap, subst, ◌∙◌, true≢false, arith}
use Rattle.std.specs.List.{list_any, position_or_len}
use Rattle.indexmap.specs.IndexSet.{IndexSet, insert_key}
use Rattle.std.specs.Str.{bytes_eq}
use Rattle.std.specs.Option.{option_map}
use Rattle.std.proofs.lemmas.List.{map-append, length-append}
use Rattle.std.proofs.lemmas.Option.{same_Some, none-some}
use Rattle.std.proofs.lemmas.Bool.Decides.{Decides-ltb}
use Rattle.std.proofs.lemmas.Slice.Eq.{bytes_eq-Decides}
use Rattle.kb_class.specs.Class.{Class}
use Rattle.kb_classes.specs.World.{number_in}
use Rattle.kb_classes.specs.declared.refusal.LinkRefusal.{LinkRefusal}
use Rattle.kb_classes.specs.declared.refusal.LinkRefusal.TheVariants as refusals
use Rattle.kb_classes.specs.Rules.{name_of, HaveDifferentNames, IsGivenTwice}
use Rattle.kb_classes.specs.Refusals.{RefusesClasses, IsRefusalOf}
use Rattle.kb_classes.specs.Names.{HasNames, StopsAtAgain}
use Rattle.kb_classes.proofs.Places.{get_pushed}

-- ---- the number of a name

-- what stands behind a class of another name
number_behind : (class : Class) (classes : List Class) (name : List ℕ) → bytes_eq name class.name ≡ false → number_in (class ∷ classes) name ≡ option_map suc (number_in classes name)
number_behind class classes name other = rw other refl

none_behind : (class : Class) (classes : List Class) (name : List ℕ) → bytes_eq name class.name ≡ false → number_in (class ∷ classes) name ≡ None → number_in classes name ≡ None
none_behind class classes name other none = go (number_in classes name) refl where
  go : (o : Option ℕ) → number_in classes name ≡ o → number_in classes name ≡ None
  go None is = is
  go (Some n) is =
      let some : number_in (class ∷ classes) name ≡ Some (suc n) = number_behind class classes name other ∙ ap (option_map suc) is in
      absurd cc

-- it is that of a class of the name
pub number_right : (classes : List Class) (name : List ℕ) (number : ℕ) → number_in classes name ≡ Some number → slice_get (map name_of classes) number ≡ Some name
number_right [] name number at = absurd cc
number_right (class ∷ classes) name number at = go (λ n h. number_right classes name n h) (bytes_eq name class.name) refl where
  go : ((n : ℕ) → number_in classes name ≡ Some n → slice_get (map name_of classes) n ≡ Some name) → (b : Bool) → bytes_eq name class.name ≡ b → slice_get (map name_of (class ∷ classes)) number ≡ Some name
  go later true e =
      let first : number_in (class ∷ classes) name ≡ Some 0 = (rw e refl) in
      let zeroth : 0 ≡ number = same_Some 0 number (sym first ∙ at) in
      let same : name ≡ class.name = (bytes_eq-Decides name class.name).0 e in
      subst (λ (n : ℕ). slice_get (map name_of (class ∷ classes)) n ≡ Some name) zeroth (ap (λ (n : List ℕ). Some n) (sym same))
  go later false e = behind (number_in classes name) refl where
    behind : (o : Option ℕ) → number_in classes name ≡ o → slice_get (map name_of (class ∷ classes)) number ≡ Some name
    behind None none =
        let no : number_in (class ∷ classes) name ≡ None = number_behind class classes name e ∙ ap (option_map suc) none in
        absurd (none-some number (sym no ∙ at))
    behind (Some before) some =
        let there : number_in (class ∷ classes) name ≡ Some (suc before) = number_behind class classes name e ∙ ap (option_map suc) some in
        let next : suc before ≡ number = same_Some (suc before) number (sym there ∙ at) in
        subst (λ (n : ℕ). slice_get (map name_of (class ∷ classes)) n ≡ Some name) next (later before some)

-- where a class has the name, there is one
pub number_there : (classes : List Class) (name : List ℕ) (number : ℕ) → slice_get (map name_of classes) number ≡ Some name → number_in classes name ≡ None → ⊥
number_there [] name number at none = absurd cc
number_there (class ∷ classes) name number at none = go (λ n h k. number_there classes name n h k) (bytes_eq name class.name) refl number at where
  go : ((n : ℕ) → slice_get (map name_of classes) n ≡ Some name → number_in classes name ≡ None → ⊥) → (b : Bool) → bytes_eq name class.name ≡ b → (n : ℕ) → slice_get (map name_of (class ∷ classes)) n ≡ Some name → ⊥
  go later true e n there =
      let first : number_in (class ∷ classes) name ≡ Some 0 = (rw e refl) in
      none-some 0 (sym none ∙ first)
  go later false e zero there =
      let same : class.name ≡ name = same_Some class.name name there in
      absurd (true≢false (sym ((bytes_eq-Decides name class.name).1 (sym same)) ∙ e))
  go later false e (suc n) there = later n there (none_behind class classes name e none)

-- a number is that of a class
pub number_inside : (classes : List Class) (name : List ℕ) (number : ℕ) → number_in classes name ≡ Some number → number < length classes
number_inside classes name number at = inside (map name_of classes) number name (number_right classes name number at) (length_map classes)
  where
    length_map : (cs : List Class) → length (map name_of cs) ≡ length cs
    length_map [] = refl
    length_map (c ∷ cs) = ap suc (length_map cs)

    below : (xs : List (List ℕ)) (n : ℕ) (x : List ℕ) → slice_get xs n ≡ Some x → n < length xs
    below [] n x there = absurd cc
    below (y ∷ xs) zero x there = omega arith
    below (y ∷ xs) (suc n) x there = (let h : n < length xs = below xs n x there in omega (arith, h))

    inside : (xs : List (List ℕ)) (n : ℕ) (x : List ℕ) → slice_get xs n ≡ Some x → length xs ≡ length classes → n < length classes
    inside xs n x there same = subst (λ (k : ℕ). n < k) same (below xs n x there)

-- ---- one class more

pub number_pushed_same : (classes : List Class) (class : Class) (name : List ℕ) → number_in classes name ≡ None → name ≡ class.name → number_in (classes ++ class ∷ []) name ≡ Some (length classes)
number_pushed_same [] class name none same =
    let e : bytes_eq name class.name ≡ true = (bytes_eq-Decides name class.name).1 same in
    rw e refl
number_pushed_same (c ∷ classes) class name none same = go (λ h. number_pushed_same classes class name h same) (bytes_eq name c.name) refl where
  go : (number_in classes name ≡ None → number_in (classes ++ class ∷ []) name ≡ Some (length classes)) → (b : Bool) → bytes_eq name c.name ≡ b → number_in ((c ∷ classes) ++ class ∷ []) name ≡ Some (length (c ∷ classes))
  go later true e =
      let first : number_in (c ∷ classes) name ≡ Some 0 = (rw e refl) in
      absurd (none-some 0 (sym none ∙ first))
  go later false e = number_behind c (classes ++ class ∷ []) name e ∙ ap (option_map suc) (later (none_behind c classes name e none))

pub number_pushed_other : (classes : List Class) (class : Class) (name : List ℕ) → name ≢ class.name → number_in (classes ++ class ∷ []) name ≡ number_in classes name
number_pushed_other [] class name other = go (bytes_eq name class.name) refl where
  go : (b : Bool) → bytes_eq name class.name ≡ b → number_in (class ∷ []) name ≡ None
  go true e = absurd (other ((bytes_eq-Decides name class.name).0 e))
  go false e = rw e refl
number_pushed_other (c ∷ classes) class name other = go (number_pushed_other classes class name other) (bytes_eq name c.name) refl where
  go : number_in (classes ++ class ∷ []) name ≡ number_in classes name → (b : Bool) → bytes_eq name c.name ≡ b → number_in ((c ∷ classes) ++ class ∷ []) name ≡ number_in (c ∷ classes) name
  go later true e =
      let first : number_in (c ∷ classes) name ≡ Some 0 = (rw e refl) in
      let again : number_in ((c ∷ classes) ++ class ∷ []) name ≡ Some 0 = (rw e refl) in
      again ∙ sym first
  go later false e = number_behind c (classes ++ class ∷ []) name e ∙ ap (option_map suc) later ∙ sym (number_behind c classes name e)

-- ---- names in the order of the classes

module _ {X : Type 0} (p : X → Bool) where
  place_is : (xs : List X) → position_or_len p xs < length xs → position p xs ≡ Some (position_or_len p xs)
  place_is xs h = ap (λ b. cond b (Some (position_or_len p xs)) None) ((Decides-ltb (position_or_len p xs) (length xs)).1 h)

  no_place : (xs : List X) → nat_lt (position_or_len p xs) (length xs) ≡ false → position p xs ≡ None
  no_place xs e = ap (λ b. cond b (Some (position_or_len p xs)) None) e

  first_of : (x : X) (xs : List X) → p x ≡ true → position p (x ∷ xs) ≡ Some 0
  first_of x xs e =
      let here : position_or_len p (x ∷ xs) ≡ 0 = ap (λ b. cond (not b) (1 + position_or_len p xs) 0) e in
      let within : position_or_len p (x ∷ xs) < suc (length xs) = omega (arith, here) in
      place_is (x ∷ xs) within ∙ ap Some here

  behind_of : (x : X) (xs : List X) → p x ≡ false → position p (x ∷ xs) ≡ option_map suc (position p xs)
  behind_of x xs e = go (nat_lt (position_or_len p xs) (length xs)) refl where
    next : position_or_len p (x ∷ xs) ≡ 1 + position_or_len p xs
    next = ap (λ b. cond (not b) (1 + position_or_len p xs) 0) e

    go : (b : Bool) → nat_lt (position_or_len p xs) (length xs) ≡ b → position p (x ∷ xs) ≡ option_map suc (position p xs)
    go true below =
        let inside : position_or_len p xs < length xs = (Decides-ltb (position_or_len p xs) (length xs)).0 below in
        let within : position_or_len p (x ∷ xs) < suc (length xs) = omega (arith, inside, next) in
        let one : position_or_len p (x ∷ xs) ≡ suc (position_or_len p xs) = omega (arith, next) in
        place_is (x ∷ xs) within ∙ ap Some one ∙ sym (ap (option_map suc) (place_is xs inside))
    go false past = past_of (nat_lt (position_or_len p (x ∷ xs)) (suc (length xs))) refl where
      past_of : (b : Bool) → nat_lt (position_or_len p (x ∷ xs)) (suc (length xs)) ≡ b → position p (x ∷ xs) ≡ option_map suc (position p xs)
      past_of false out = no_place (x ∷ xs) out ∙ sym (ap (option_map suc) (no_place xs past))
      past_of true in_ =
          let within : position_or_len p (x ∷ xs) < suc (length xs) = (Decides-ltb (position_or_len p (x ∷ xs)) (suc (length xs))).0 in_ in
          let inside : position_or_len p xs < length xs = omega (arith, within, next) in
          absurd (true≢false (sym ((Decides-ltb (position_or_len p xs) (length xs)).1 inside) ∙ past))

-- the place of a name is the number of its class
pub place_of_name : (keys : List (List ℕ)) (classes : List Class) (name : List ℕ) → keys ≡ map name_of classes → position (bytes_eq name) keys ≡ number_in classes name
place_of_name [] [] name same = refl
place_of_name [] (class ∷ classes) name same = absurd cc
place_of_name (key ∷ keys) [] name same = absurd cc
place_of_name (key ∷ keys) (class ∷ classes) name same = go (place_of_name keys classes name cc) (bytes_eq name key) refl where
  head : key ≡ class.name
  head = cc

  go : position (bytes_eq name) keys ≡ number_in classes name → (b : Bool) → bytes_eq name key ≡ b → position (bytes_eq name) (key ∷ keys) ≡ number_in (class ∷ classes) name
  go later true e =
      let here : bytes_eq name class.name ≡ true = subst (λ (n : List ℕ). bytes_eq name n ≡ true) head e in
      let first : number_in (class ∷ classes) name ≡ Some 0 = (rw here refl) in
      first_of (bytes_eq name) key keys e ∙ sym first
  go later false e =
      let other : bytes_eq name class.name ≡ false = subst (λ (n : List ℕ). bytes_eq name n ≡ false) head e in
      behind_of (bytes_eq name) key keys e ∙ ap (option_map suc) later ∙ sym (number_behind class classes name other)

pub names_pushed : {S : Type 0} (old new : IndexSet (List ℕ) S) (key : List ℕ) (classes : List Class) (class : Class)
    → key ≡ class.name → number_in classes class.name ≡ None
    → new.keys ≡ insert_key bytes_eq old.keys key
    → length classes + 1 < 2 ^ 32 → HasNames old classes → HasNames new (classes ++ class ∷ [])
names_pushed old new key classes class keyed fresh inserted few has =
    record {
      each =
          inserted
          ∙ ap (λ (b : Bool). cond b old.keys (old.keys ++ key ∷ [])) absent
          ∙ ap (λ (ns : List (List ℕ)). ns ++ key ∷ []) has.each
          ∙ ap (λ (n : List ℕ). map name_of classes ++ n ∷ []) keyed
          ∙ sym (map-append name_of classes (class ∷ []));
      few = (let longer : length (classes ++ class ∷ []) ≡ length classes + 1 = length-append classes (class ∷ []) in omega (arith, longer, few));
    }
  where
    absent_in : (keys : List (List ℕ)) (cs : List Class) → keys ≡ map name_of cs → number_in cs class.name ≡ None → list_any (bytes_eq key) keys ≡ false
    absent_in [] cs same none = refl
    absent_in (k ∷ keys) [] same none = absurd cc
    absent_in (k ∷ keys) (c ∷ cs) same none = go (absent_in keys cs cc) (bytes_eq class.name c.name) refl where
      go : (number_in cs class.name ≡ None → list_any (bytes_eq key) keys ≡ false) → (b : Bool) → bytes_eq class.name c.name ≡ b → list_any (bytes_eq key) (k ∷ keys) ≡ false
      go later true e =
          let first : number_in (c ∷ cs) class.name ≡ Some 0 = (rw e refl) in
          absurd (none-some 0 (sym none ∙ first))
      go later false e =
          let head : k ≡ c.name = cc in
          let other : bytes_eq key k ≡ false = subst (λ (n : List ℕ). bytes_eq n k ≡ false) (sym keyed) (subst (λ (n : List ℕ). bytes_eq class.name n ≡ false) (sym head) e) in
          (rw other (later (none_behind c cs class.name e none)))

    absent : list_any (bytes_eq key) old.keys ≡ false
    absent = absent_in old.keys classes has.each fresh

-- ---- different names

pub differ_pushed : (classes : List Class) (class : Class) → HaveDifferentNames classes → number_in classes class.name ≡ None → HaveDifferentNames (classes ++ class ∷ [])
differ_pushed classes class differ fresh one other name first second =
    elim (at one first) [
      | inl old ↦ elim (at other second) [
        | inl older ↦ differ one other name old older
        | inr new ↦ absurd (number_there classes class.name one (subst (λ (n : List ℕ). slice_get (map name_of classes) one ≡ Some n) (sym new.1) old) fresh)
      ]
      | inr new ↦ elim (at other second) [
        | inl old ↦ absurd (number_there classes class.name other (subst (λ (n : List ℕ). slice_get (map name_of classes) other ≡ Some n) (sym new.1) old) fresh)
        | inr newer ↦ new.0 ∙ sym newer.0
      ]
    ]
  where
    at : (i : ℕ) → slice_get (map name_of (classes ++ class ∷ [])) i ≡ Some name → (slice_get (map name_of classes) i ≡ Some name) ⊎ ((i ≡ length (map name_of classes)) × (class.name ≡ name))
    at i there = get_pushed (map name_of classes) class.name i name (subst (λ (ns : List (List ℕ)). slice_get ns i ≡ Some name) (map-append name_of classes (class ∷ [])) there)

pub differ_none : HaveDifferentNames []
differ_none one other name first second = absurd cc

-- ---- a name that is given twice

-- where a class has the name of one before it, all of them are refused
pub again_refuses : (classes rest all : List Class) (class : Class) (told : LinkRefusal) → classes ++ class ∷ rest ≡ all → HaveDifferentNames classes → StopsAtAgain classes class told → RefusesClasses all told
again_refuses classes rest all class (refusals.Twice name) whole differ stops =
    let order : stops.1 < length classes = first_inside classes stops.1 name stops.2 in
    subst (λ (cs : List Class). IsGivenTwice cs name) whole
    (record {
      first = stops.1;
      second = length classes;
      order = order;
      at_first = kept classes stops.1 name stops.2;
      at_second = subst (λ (n : List ℕ). slice_get (map name_of (classes ++ class ∷ rest)) (length classes) ≡ Some n) (sym stops.0) (behind classes);
      before = subst HaveDifferentNames (sym (front classes)) differ;
    })
  where
    first_inside : (cs : List Class) (i : ℕ) (n : List ℕ) → slice_get (map name_of cs) i ≡ Some n → i < length cs
    first_inside [] i n there = absurd cc
    first_inside (c ∷ cs) zero n there = omega arith
    first_inside (c ∷ cs) (suc i) n there = (let h : i < length cs = first_inside cs i n there in omega (arith, h))

    kept : (cs : List Class) (i : ℕ) (n : List ℕ) → slice_get (map name_of cs) i ≡ Some n → slice_get (map name_of (cs ++ class ∷ rest)) i ≡ Some n
    kept [] i n there = absurd cc
    kept (c ∷ cs) zero n there = there
    kept (c ∷ cs) (suc i) n there = kept cs i n there

    behind : (cs : List Class) → slice_get (map name_of (cs ++ class ∷ rest)) (length cs) ≡ Some class.name
    behind [] = refl
    behind (c ∷ cs) = behind cs

    front : (cs : List Class) → take (length cs) (cs ++ class ∷ rest) ≡ cs
    front [] = refl
    front (c ∷ cs) = ap (λ (ds : List Class). c ∷ ds) (front cs)
again_refuses classes rest all class refusals.NoMemory whole differ stops = tt
again_refuses classes rest all class refusals.TooMany whole differ stops = absurd stops
again_refuses classes rest all class (refusals.BadName file entry) whole differ stops = absurd stops
again_refuses classes rest all class (refusals.BadDescriptor file entry) whole differ stops = absurd stops
again_refuses classes rest all class (refusals.TwoMembers file entry) whole differ stops = absurd stops
again_refuses classes rest all class (refusals.Missing name) whole differ stops = absurd stops
again_refuses classes rest all class (refusals.Circle name) whole differ stops = absurd stops
again_refuses classes rest all class (refusals.BadSuper name) whole differ stops = absurd stops
again_refuses classes rest all class (refusals.SplitPackage name method) whole differ stops = absurd stops
again_refuses classes rest all class (refusals.NoMethod target) whole differ stops = absurd stops
again_refuses classes rest all class (refusals.NoField method at) whole differ stops = absurd stops
again_refuses classes rest all class (refusals.Outside method at what) whole differ stops = absurd stops
again_refuses classes rest all class (refusals.Initialiser name) whole differ stops = absurd stops

-- a class has the name, by its number
pub again_stops : (classes : List Class) (class : Class) (number : ℕ) (told : LinkRefusal) → number_in classes class.name ≡ Some number → IsRefusalOf (λ name. refusals.Twice name) class.name told → StopsAtAgain classes class told
again_stops classes class number told at is =
    elim is [
      | inl e ↦ subst (StopsAtAgain classes class) (sym e) (refl, number, number_right classes class.name number at)
      | inr e ↦ subst (StopsAtAgain classes class) (sym e) tt
    ]

-- where the name has a number, a class has it
pub again_told : (classes : List Class) (class : Class) (found : Option ℕ) (told : LinkRefusal) → found ≡ number_in classes class.name → IsSome found → IsRefusalOf (λ name. refusals.Twice name) class.name told → StopsAtAgain classes class told
again_told classes class None told at some is = absurd cc
again_told classes class (Some number) told at some is = again_stops classes class number told (sym at) is
