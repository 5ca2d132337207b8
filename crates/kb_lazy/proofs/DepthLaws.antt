-- A slot of an object lies one deeper than the object's own slot among the objects before it; another one lies at depth 1.
use Rattle.std.proofs.Common.{◌≡◌, ℕ, zero, suc, ◌+◌, ◌-◌, ◌<◌, ◌≤◌, inl, inr, Bool, true, false, nat_lt, List, [], ◌∷◌, ◌++◌, length, take, drop, fold, get_or, Some, None, slice_get, refl, sym, ap, ◌∙◌, arith, length-append}
use Rattle.std.proofs.lemmas.Bool.{cases_lt, lt-ltb, le-ltb, ltb-false}
use Rattle.std.proofs.lemmas.Grind.{fold-append}
use Rattle.std.proofs.lemmas.List.{get_or_append_left, get_or_push}
use Rattle.std.proofs.lemmas.Option.{slice_get_within}
use Rattle.kb_terms.proofs.Entries.{split_at}
use Rattle.kb_semantics.specs.Looks.{only_where}
use Rattle.kb_picture.specs.declared.picture.Origin.{Origin}
use Rattle.kb_picture.specs.declared.picture.Origin.TheVariants.{Arg, Field, Element}
use Rattle.kb_picture.specs.declared.picture.PicObject.{PicObject}
use Rattle.kb_picture.specs.Depths.{depth_in, depths_of}
use Rattle.kb_lazy.specs.Holders.{holder_in}

abbrev deeper : List ℕ → PicObject → List ℕ
deeper depths object = depths ++ depth_in depths object.origin ∷ []

-- the depths that there are stay
stays : (depths : List ℕ) (objects : List PicObject) (i : ℕ) → i < length depths → get_or (fold deeper depths objects) i 0 ≡ get_or depths i 0
stays depths [] i inside = refl
stays depths (object ∷ objects) i inside =
    let one : length (deeper depths object) ≡ suc (length depths) = omega (arith, length-append depths (depth_in depths object.origin ∷ [])) in
    stays (deeper depths object) objects i (omega (arith, one, inside)) ∙ get_or_append_left depths (depth_in depths object.origin ∷ []) 0 i inside

-- there are as many depths as objects
as_many_depths : (depths : List ℕ) (objects : List PicObject) → length (fold deeper depths objects) ≡ length depths + length objects
as_many_depths depths [] = omega arith
as_many_depths depths (object ∷ objects) =
    let one : length (deeper depths object) ≡ suc (length depths) = omega (arith, length-append depths (depth_in depths object.origin ∷ [])) in
    let more = as_many_depths (deeper depths object) objects in
    omega (arith, one, more)

get_or_past : (xs : List ℕ) (i : ℕ) → length xs ≤ i → get_or xs i 0 ≡ 0
get_or_past [] i past = refl
get_or_past (x ∷ xs) zero past = absurd (omega (arith, past))
get_or_past (x ∷ xs) (suc i) past = get_or_past xs i (omega (arith, past))

length_front : (number : ℕ) (objects : List PicObject) → number ≤ length objects → length (take number objects) ≡ number
length_front zero objects inside = refl
length_front (suc number) [] inside = absurd (omega (arith, inside))
length_front (suc number) (o ∷ objects) inside = ap suc (length_front number objects (omega (arith, inside)))

-- an object's depth is that of a new object in its slot, by the objects before it
held_depth : (objects : List PicObject) (number : ℕ) (object : PicObject) → slice_get objects number ≡ Some object
    → get_or (depths_of objects) number 0 ≡ depth_in (depths_of (take number objects)) object.origin
unfolding depths_of
held_depth objects number object at =
    let before : List ℕ = fold deeper [] (take number objects) in
    let behind : List PicObject = drop (suc number) objects in
    let inside : number < length objects = slice_get_within objects number object at in
    let long : length (take number objects) ≡ number = length_front number objects (omega (arith, inside)) in
    let many : length before ≡ 0 + length (take number objects) = as_many_depths [] (take number objects) in
    let one : length (deeper before object) ≡ suc (length before) = omega (arith, length-append before (depth_in before object.origin ∷ [])) in
    ap (λ (os : List PicObject). get_or (fold deeper [] os) number 0) (sym (split_at objects number object at))
    ∙ (ap (λ (ds : List ℕ). get_or ds number 0) (fold-append deeper [] (take number objects) (object ∷ behind))
    ∙ (stays (deeper before object) behind number (omega (arith, one, many, long))
    ∙ get_or_push before (depth_in before object.origin) 0 number (omega (arith, many, long))))

past_depth : (objects : List PicObject) (number : ℕ) → length objects ≤ number → get_or (depths_of objects) number 0 ≡ 0
unfolding depths_of
past_depth objects number past =
    let many : length (fold deeper [] objects) ≡ 0 + length objects = as_many_depths [] objects in
    get_or_past (fold deeper [] objects) number (omega (arith, many, past))

-- ---- slots

chosen_number : (number count holder : ℕ) (b : Bool) → only_where b number ≡ Some holder → number ≡ holder
chosen_number number count holder true e = cc
chosen_number number count holder false e = absurd cc

none_number : (number count : ℕ) (b : Bool) → only_where b number ≡ None → b ≡ false
none_number number count true e = absurd cc
none_number number count false e = refl

depth_inside : (objects : List PicObject) (slot : Origin) (holder : ℕ) (object : PicObject) → holder_in (length objects) slot ≡ Some holder → slice_get objects holder ≡ Some object
    → depth_in (depths_of objects) slot ≡ suc (depth_in (depths_of (take holder objects)) object.origin)
depth_inside objects (Arg number) holder object e at = absurd cc
depth_inside objects (Field number slot) holder object e at =
    let same : number ≡ holder = chosen_number number (length objects) holder (nat_lt number (length objects)) e in
    ap suc (ap (λ (n : ℕ). get_or (depths_of objects) n 0) same ∙ held_depth objects holder object at)
depth_inside objects (Element number index) holder object e at =
    let same : number ≡ holder = chosen_number number (length objects) holder (nat_lt number (length objects)) e in
    ap suc (ap (λ (n : ℕ). get_or (depths_of objects) n 0) same ∙ held_depth objects holder object at)

depth_outside : (objects : List PicObject) (slot : Origin) → holder_in (length objects) slot ≡ None → depth_in (depths_of objects) slot ≡ 1
depth_outside objects (Arg number) e = refl
depth_outside objects (Field number slot) e =
    ap suc (past_depth objects number (ltb-false number (length objects) (none_number number (length objects) (nat_lt number (length objects)) e)))
depth_outside objects (Element number index) e =
    ap suc (past_depth objects number (ltb-false number (length objects) (none_number number (length objects) (nat_lt number (length objects)) e)))

-- ---- steps

-- a step from a slot to its object's own
pub step_deeper : (objects : List PicObject) (slot : Origin) (holder left : ℕ) (object : PicObject) → 0 < left → holder_in (length objects) slot ≡ Some holder → slice_get objects holder ≡ Some object
    → nat_lt (left - 1) (depth_in (depths_of (take holder objects)) object.origin) ≡ nat_lt left (depth_in (depths_of objects) slot)
step_deeper objects slot holder left object positive e at =
    one_less left (depth_in (depths_of (take holder objects)) object.origin) positive ∙ ap (nat_lt left) (sym (depth_inside objects slot holder object e at))
  where
    one_less : (n depth : ℕ) → 0 < n → nat_lt (n - 1) depth ≡ nat_lt n (suc depth)
    one_less n depth more = elim (cases_lt (n - 1) depth) [
      | inl below ↦ lt-ltb (n - 1) depth below ∙ sym (lt-ltb n (suc depth) (omega (arith, below, more)))
      | inr above ↦ le-ltb (n - 1) depth above ∙ sym (le-ltb n (suc depth) (omega (arith, above, more)))
    ]

-- there is no step from an argument
pub no_step : (objects : List PicObject) (slot : Origin) (left : ℕ) → 0 < left → holder_in (length objects) slot ≡ None → nat_lt left (depth_in (depths_of objects) slot) ≡ false
no_step objects slot left positive e = ap (nat_lt left) (depth_outside objects slot e) ∙ le-ltb left 1 (omega (arith, positive))

depth_positive : (objects : List PicObject) (slot : Origin) → 0 < depth_in (depths_of objects) slot
depth_positive objects (Arg number) = omega arith
depth_positive objects (Field object slot) = omega arith
depth_positive objects (Element array index) = omega arith

-- and nothing lies at depth 0
pub none_left : (objects : List PicObject) (slot : Origin) (left : ℕ) → left ≤ 0 → nat_lt left (depth_in (depths_of objects) slot) ≡ true
none_left objects slot left done = (let positive = depth_positive objects slot in lt-ltb left (depth_in (depths_of objects) slot) (omega (arith, done, positive)))
