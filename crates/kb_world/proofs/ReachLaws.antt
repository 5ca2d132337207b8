-- What is reached is one list, and what is reached first that has a fault is one.
use Rattle.std.proofs.Common.{◌≡◌, ℕ, zero, suc, ◌+◌, ◌<◌, ◌≤◌, ◌⊎◌, inl, inr, List, [], ◌∷◌, ◌++◌, length, take, Some, None, slice_get, refl, sym, ap, subst, ◌∙◌, arith}
use Rattle.std.specs.List.{AllByRecursion}
use Rattle.std.proofs.lemmas.List.{take_all, length-append}
use Rattle.std.proofs.lemmas.Option.{same_Some, none-some, some_pair_parts, slice_get_past}
use Rattle.kb_names.specs.declared.types.Target.{Target}
use Rattle.kb_class.specs.declared.ids.MethodId.{MethodId}
use Rattle.kb_class.specs.declared.members.MethodInfo.{MethodInfo}
use Rattle.kb_class.specs.Class.{Class}
use Rattle.kb_classes.specs.declared.refusal.LinkRefusal.{LinkRefusal}
use Rattle.kb_classes.specs.declared.refusal.LinkRefusal.TheVariants as refusals
use Rattle.kb_classes.specs.World.{World}
use Rattle.kb_link.specs.Links.{IsLinked}
use Rattle.kb_link.specs.Targets.{Declares, IsTargetOf}
use Rattle.kb_link.proofs.TargetLaws.{one_declared}
use Rattle.kb_classes.proofs.Places.{get_last}
use Rattle.kb_classes.proofs.MethodNumbers.{get_before}
use Rattle.kb_universe.specs.Faults.{Fault, NoField, Missing, Outside, Initialiser}
use Rattle.kb_world.specs.Reach.{found_by, method_fault, HasNoFault, IsFront, IsReached, IsFirstFault, OfTarget, OfMethod, IsFaultOf, HasNoFaults, IsAccepted, Refuses}
use Rattle.kb_world.specs.Walks.{Tells, StopsAt}
use Rattle.kb_classes.specs.Split.{is_special}

-- ---- lists by their places

-- the item at a place of the first list
some_at : (xs : List ℕ) (i : ℕ) → i < length xs → (x : ℕ) × (slice_get xs i ≡ Some x)
some_at [] i inside = absurd (omega (arith, inside))
some_at (x ∷ xs) zero inside = (x, refl)
some_at (x ∷ xs) (suc i) inside = let rest : i < length xs = omega (arith, inside) in some_at xs i rest

-- two lists have the same item at each place below a number
abbrev AgreeBelow : ℕ → List ℕ → List ℕ → Type 0
AgreeBelow n xs ys = (i : ℕ) → i < n → slice_get xs i ≡ slice_get ys i

agree_take : (n : ℕ) (xs ys : List ℕ) → AgreeBelow n xs ys → take n xs ≡ take n ys
agree_take zero xs ys same = refl
agree_take (suc n) [] [] same = refl
agree_take (suc n) [] (y ∷ ys) same = absurd (none-some y (same 0 (omega arith)))
agree_take (suc n) (x ∷ xs) [] same = absurd (none-some x (sym (same 0 (omega arith))))
agree_take (suc n) (x ∷ xs) (y ∷ ys) same =
    let head : x ≡ y = same_Some x y (same 0 (omega arith)) in
    let tail : take n xs ≡ take n ys = agree_take n xs ys (λ i inside. same (suc i) (let next : suc i < suc n = omega (arith, inside) in next)) in
    λ i. head i ∷ tail i

all_at : (P : ℕ → Type 0) (xs : List ℕ) (i x : ℕ) → AllByRecursion P xs → slice_get xs i ≡ Some x → P x
all_at P [] i x all at = absurd (none-some x at)
all_at P (y ∷ xs) zero x all at = subst P (same_Some y x at) all.0
all_at P (y ∷ xs) (suc i) x all at = all_at P xs i x all.1 at

order : (a b : ℕ) → (a < b) ⊎ ((a ≡ b) ⊎ (b < a))
order zero zero = inr (inl refl)
order zero (suc b) = inl (omega arith)
order (suc a) zero = inr (inr (omega arith))
order (suc a) (suc b) = elim (order a b) [
  | inl h ↦ inl (omega (arith, h))
  | inr h ↦ elim h [ inl e ↦ inr (inl (ap suc e)) | inr m ↦ inr (inr (omega (arith, m))) ]
]

module _ (world : World) (target : ℕ) where
  -- ---- fronts

  -- at the places of both, two fronts have one method
  agree : (n : ℕ) (xs ys : List ℕ) → IsFront world target xs → IsFront world target ys → n ≤ length xs → n ≤ length ys → AgreeBelow n xs ys
  agree zero xs ys f g up also = λ i inside. absurd (omega (arith, inside))
  agree (suc n) xs ys f g up also = go (agree n xs ys f g (omega (arith, up)) (omega (arith, also)))
    where
      last : AgreeBelow n xs ys → slice_get xs n ≡ slice_get ys n
      last before =
          let x = some_at xs n (omega (arith, up)) in
          let y = some_at ys n (omega (arith, also)) in
          let same : found_by world target (take n xs) ≡ found_by world target (take n ys) = ap (λ (ns : List ℕ). found_by world target ns) (agree_take n xs ys before) in
          x.1 ∙ sym (f n x.0 x.1) ∙ ap (λ (ns : List ℕ). slice_get ns n) same ∙ g n y.0 y.1 ∙ sym y.1

      go : AgreeBelow n xs ys → AgreeBelow (suc n) xs ys
      go before = λ i inside. elim (order i n) [
        | inl less ↦ before i less
        | inr h ↦ elim h [ inl e ↦ (ap (λ (k : ℕ). slice_get xs k) e ∙ last before ∙ ap (λ (k : ℕ). slice_get ys k) (sym e)) | inr more ↦ absurd (omega (arith, more, inside)) ]
      ]

  -- no front is longer than what is reached
  longest : (reached front : List ℕ) → IsReached world target reached → IsFront world target front → length reached < length front → ⊥
  longest reached front is f longer =
      let x = some_at front (length reached) longer in
      let same : take (length reached) front ≡ reached =
      sym (agree_take (length reached) reached front (agree (length reached) reached front is.front f (omega arith) (omega (arith, longer)))) ∙ take_all (length reached) reached (omega arith) in
      let found : slice_get reached (length reached) ≡ Some x.0 =
      ap (λ (ns : List ℕ). slice_get ns (length reached)) (sym is.closed ∙ ap (λ (ns : List ℕ). found_by world target ns) (sym same)) ∙ f (length reached) x.0 x.1 in
      none-some x.0 (sym (slice_get_past reached (length reached) (omega arith)) ∙ found)

  pub one_reached : (one other : List ℕ) → IsReached world target one → IsReached world target other → one ≡ other
  one_reached one other a b = go (order (length one) (length other)) where
    go : (length one < length other) ⊎ ((length one ≡ length other) ⊎ (length other < length one)) → one ≡ other
    go (inl less) = absurd (longest one other a b.front less)
    go (inr (inl same)) =
        sym (take_all (length one) one (omega arith)) ∙ agree_take (length one) one other (agree (length one) one other a.front b.front (omega arith) (omega (arith, same)))
        ∙ take_all (length one) other (omega (arith, same))
    go (inr (inr more)) = absurd (longest other one b a.front more)

  -- ---- first faults

  -- a method with a fault behind methods that have none
  abbrev IsStop : List ℕ → ℕ → Type 0
  IsStop before method = IsFront world target (before ++ method ∷ []) × AllByRecursion (HasNoFault world) before

  grown : (before : List ℕ) (method : ℕ) → length (before ++ method ∷ []) ≡ length before + 1
  grown before method = length-append before (method ∷ [])

  -- none stands before another
  no_earlier : (before : List ℕ) (method : ℕ) (others : List ℕ) (later at : ℕ) (fault : Fault) → IsStop before method → IsStop others later → method_fault world method ≡ Some (at, fault)
      → length before < length others → ⊥
  no_earlier before method others later at fault stop other broken less =
      let same : AgreeBelow (suc (length before)) (before ++ method ∷ []) (others ++ later ∷ []) =
      agree (suc (length before)) (before ++ method ∷ []) (others ++ later ∷ []) stop.0 other.0 (omega (arith, grown before method)) (omega (arith, grown others later, less)) in
      let x = some_at others (length before) less in
      let there : Some method ≡ Some x.0 = sym (get_last before method) ∙ same (length before) (omega arith) ∙ get_before others (later ∷ []) (length before) x.0 x.1 in
      let is : method ≡ x.0 = same_Some method x.0 there in
      let fine : method_fault world x.0 ≡ None = all_at (HasNoFault world) others (length before) x.0 other.1 x.1 in
      none-some {A = ℕ × Fault} (at, fault) (sym fine ∙ ap (λ (m : ℕ). method_fault world m) (sym is) ∙ broken)

  same_stop : (before : List ℕ) (method : ℕ) (others : List ℕ) (other : ℕ) → IsStop before method → IsStop others other → length before ≡ length others → method ≡ other
  same_stop before method others other a b same =
      let agreed : AgreeBelow (suc (length before)) (before ++ method ∷ []) (others ++ other ∷ []) =
      agree (suc (length before)) (before ++ method ∷ []) (others ++ other ∷ []) a.0 b.0 (omega (arith, grown before method)) (omega (arith, grown others other, same)) in
      same_Some method other (sym (get_last before method) ∙ agreed (length before) (omega arith) ∙ ap (λ (n : ℕ). slice_get (others ++ other ∷ []) n) same ∙ get_last others other)

  -- where, and which fault
  pub record AreSame (method at : ℕ) (fault : Fault) (second place : ℕ) (other : Fault) : Type 0 where
    pub methods : method ≡ second
    pub places : at ≡ place
    pub faults : fault ≡ other

  pub one_fault : (method at : ℕ) (fault : Fault) (second place : ℕ) (other : Fault) → IsFirstFault world target method at fault → IsFirstFault world target second place other
      → AreSame method at fault second place other
  one_fault method at fault second place other (OfTarget e m a) (OfTarget f n b) =
      record { methods = m ∙ sym n; places = a ∙ sym b; faults = same_Some fault other (sym e ∙ f) }
  one_fault method at fault second place other (OfTarget e m a) (OfMethod f before front none b) = absurd (none-some fault (sym f ∙ e))
  one_fault method at fault second place other (OfMethod f before front none b) (OfTarget e m a) = absurd (none-some other (sym f ∙ e))
  one_fault method at fault second place other (OfMethod e before front none a) (OfMethod f others ahead also b) = go (order (length before) (length others)) where
    go : (length before < length others) ⊎ ((length before ≡ length others) ⊎ (length others < length before)) → AreSame method at fault second place other
    go (inl less) = absurd (no_earlier before method others second at fault (front, none) (ahead, also) a less)
    go (inr (inr more)) = absurd (no_earlier others second before method place other (ahead, also) (front, none) b more)
    go (inr (inl same)) =
        let is : method ≡ second = same_stop before method others second (front, none) (ahead, also) same in
        let both = some_pair_parts at place fault other (sym a ∙ ap (λ (m : ℕ). method_fault world m) is ∙ b) in
        record { methods = is; places = both.0; faults = both.1 }

  -- where there is one, there are not none
  pub fault_or_none : (method at : ℕ) (fault : Fault) → IsFirstFault world target method at fault → HasNoFaults world target → ⊥
  fault_or_none method at fault (OfTarget e m a) none = none-some fault (sym none.itself ∙ e)
  fault_or_none method at fault (OfMethod e before front fine a) none = go (order (length before) (length none.reached)) where
    go : (length before < length none.reached) ⊎ ((length before ≡ length none.reached) ⊎ (length none.reached < length before)) → ⊥
    go (inl less) =
        let same : AgreeBelow (suc (length before)) (before ++ method ∷ []) none.reached =
        agree (suc (length before)) (before ++ method ∷ []) none.reached front none.are_reached.front (omega (arith, grown before method)) (omega (arith, less)) in
        let there : slice_get none.reached (length before) ≡ Some method = sym (same (length before) (omega arith)) ∙ get_last before method in
        none-some {A = ℕ × Fault} (at, fault) (sym (all_at (HasNoFault world) none.reached (length before) method none.no_faults there) ∙ a)
    go (inr h) = longest none.reached (before ++ method ∷ []) none.are_reached front (beyond h)
      where
        beyond : (length before ≡ length none.reached) ⊎ (length none.reached < length before) → length none.reached < length (before ++ method ∷ [])
        beyond (inl same) = omega (arith, same, grown before method)
        beyond (inr more) = omega (arith, more, grown before method)

-- ---- why a target is refused

module _ (world : World) (linked : IsLinked world) (target : Target) where
  -- the target that names a method is one
  one_name : (method : ℕ) (one other : Target) → Declares world (record { 0 = method }) one → Declares world (record { 0 = method }) other → one ≡ other
  one_name method one other a b =
      let methods : a.method ≡ b.method = same_Some a.method b.method (sym a.method_is ∙ b.method_is) in
      let classes : a.class ≡ b.class = same_Some a.class b.class (sym a.class_is ∙ ap (λ (m : MethodInfo). slice_get world.classes m.class.0) methods ∙ b.class_is) in
      let owns : one.class ≡ other.class = sym a.own ∙ ap (λ (c : Class). c.name) classes ∙ b.own in
      let names : one.name ≡ other.name = sym a.name ∙ ap (λ (m : MethodInfo). m.name) methods ∙ b.name in
      let kinds : one.kind ≡ other.kind = sym a.kind ∙ ap (λ (m : MethodInfo). m.kind) methods ∙ b.kind in
      λ i. record { class = owns i; name = names i; kind = kinds i }

  one_id : (one other : MethodId) → IsTargetOf world target one → IsTargetOf world target other → one ≡ other
  one_id one other a b = one_declared world linked.names linked.loaded.methods target one other a.declared b.declared

  -- two refusals that tell one fault are one
  one_told : (method at : ℕ) (fault : Fault) (r s : LinkRefusal) → Tells world method at fault r → Tells world method at fault s → r ≡ s
  one_told method at NoField r s a b = a.1 ∙ ap (λ (of : Target). refusals.NoField of at) (one_name method a.0 b.0 a.2 b.2) ∙ sym b.1
  one_told method at (Missing name) r s a b = a ∙ sym b
  one_told method at (Outside what) r s a b = a.1 ∙ ap (λ (of : Target). refusals.Outside of at what) (one_name method a.0 b.0 a.2 b.2) ∙ sym b.1
  one_told method at (Initialiser name) r s a b = a ∙ sym b

  -- ---- the reasons

  -- the target names no method
  pub record HasNone (refusal : LinkRefusal) : Type 0 where
    pub refusal_is : refusal ≡ refusals.NoMethod target
    pub none : (id : MethodId) → IsTargetOf world target id → ⊥

  -- what the target reaches has a first fault, and the refusal tells it
  pub record HasFault (refusal : LinkRefusal) : Type 0 where
    pub method : ℕ
    pub at : ℕ
    pub fault : Fault
    pub fault_is : IsFaultOf world target method at fault
    pub tells : Tells world method at fault refusal

  pub why : (r : LinkRefusal) → Refuses world target r → (r ≡ refusals.NoMemory → ⊥) → HasNone r ⊎ HasFault r
  why (refusals.NoMethod of) h other = inl (record { refusal_is = ap refusals.NoMethod h.0; none = h.1 })
  why (refusals.NoField of at) h other = inr (record { method = h.0; at = at; fault = NoField; fault_is = h.1; tells = (of, refl, h.2) })
  why (refusals.Missing name) h other = inr (record { method = h.0; at = h.1; fault = Missing name; fault_is = h.2; tells = refl })
  why (refusals.Outside of at what) h other = inr (record { method = h.0; at = at; fault = Outside what; fault_is = h.1; tells = (of, refl, h.2) })
  why (refusals.Initialiser name) h other = inr (record { method = h.0; at = h.1; fault = Initialiser name; fault_is = h.2; tells = refl })
  why refusals.NoMemory h other = absurd (other refl)
  why refusals.TooMany h other = absurd h
  why (refusals.BadName file entry) h other = absurd h
  why (refusals.BadDescriptor file entry) h other = absurd h
  why (refusals.TwoMembers file entry) h other = absurd h
  why (refusals.Twice name) h other = absurd h
  why (refusals.Circle name) h other = absurd h
  why (refusals.BadSuper name) h other = absurd h
  why (refusals.SplitPackage name method) h other = absurd h

  one_why : (r s : LinkRefusal) → HasNone r ⊎ HasFault r → HasNone s ⊎ HasFault s → r ≡ s
  one_why r s (inl a) (inl b) = a.refusal_is ∙ sym b.refusal_is
  one_why r s (inl a) (inr b) = absurd (a.none b.fault_is.id b.fault_is.found)
  one_why r s (inr a) (inl b) = absurd (b.none a.fault_is.id a.fault_is.found)
  one_why r s (inr a) (inr b) =
      let ids : a.fault_is.id ≡ b.fault_is.id = one_id a.fault_is.id b.fault_is.id a.fault_is.found b.fault_is.found in
      let first : IsFirstFault world b.fault_is.id.0 a.method a.at a.fault = subst (λ (id : MethodId). IsFirstFault world id.0 a.method a.at a.fault) ids a.fault_is.first in
      let same = one_fault world b.fault_is.id.0 a.method a.at a.fault b.method b.at b.fault first b.fault_is.first in
      let by_method : Tells world b.method a.at a.fault r = subst (λ (m : ℕ). Tells world m a.at a.fault r) same.methods a.tells in
      let by_place : Tells world b.method b.at a.fault r = subst (λ (p : ℕ). Tells world b.method p a.fault r) same.places by_method in
      one_told b.method b.at b.fault r s (subst (λ (f : Fault). Tells world b.method b.at f r) same.faults by_place) b.tells

  -- there is one reason but that memory ran out
  pub one_refusal : (r s : LinkRefusal) → Refuses world target r → Refuses world target s → (r ≡ refusals.NoMemory → ⊥) → (s ≡ refusals.NoMemory → ⊥) → r ≡ s
  one_refusal r s a b other also = one_why r s (why r a other) (why s b also)

  -- a target of an accepted method has no reason but that memory ran out
  pub refused_or_accepted : (r : LinkRefusal) (id : MethodId) → Refuses world target r → (r ≡ refusals.NoMemory → ⊥) → IsTargetOf world target id → IsAccepted world id → ⊥
  refused_or_accepted r id a other found accepted = go (why r a other) where
    go : HasNone r ⊎ HasFault r → ⊥
    go (inl none) = none.none id found
    go (inr told) =
        let ids : told.fault_is.id ≡ id = one_id told.fault_is.id id told.fault_is.found found in
        fault_or_none world id.0 told.method told.at told.fault (subst (λ (i : MethodId). IsFirstFault world i.0 told.method told.at told.fault) ids told.fault_is.first) accepted.faultless

-- ---- what is told of the walk

-- the refusal of the first fault refuses the target
pub refuses : (world : World) (target : Target) (id : MethodId) (refusal : LinkRefusal) → IsTargetOf world target id → StopsAt world (IsFirstFault world id.0) refusal → Refuses world target refusal
refuses world target id refusal found (inl memory) = subst (λ (r : LinkRefusal). Refuses world target r) (sym memory) tt
refuses world target id refusal found (inr told) = go told.fault (record { id = id; found = found; first = told.first }) told.tells where
  go : (fault : Fault) → IsFaultOf world target told.method told.at fault → Tells world told.method told.at fault refusal → Refuses world target refusal
  go NoField is tells = subst (λ (r : LinkRefusal). Refuses world target r) (sym tells.1) (told.method, is, tells.2)
  go (Missing name) is tells = subst (λ (r : LinkRefusal). Refuses world target r) (sym tells) (told.method, told.at, is)
  go (Outside what) is tells = subst (λ (r : LinkRefusal). Refuses world target r) (sym tells.1) (told.method, is, tells.2)
  go (Initialiser name) is tells = subst (λ (r : LinkRefusal). Refuses world target r) (sym tells) (told.method, told.at, is)

-- a method that is found and has no faults is accepted
pub accepts : (world : World) (target : Target) (id : MethodId) → IsTargetOf world target id → HasNoFaults world id.0 → IsAccepted world id
accepts world target id found none = record {
  method = found.declared.method;
  method_is = found.declared.method_is;
  code = found.code;
  ordinary = ap is_special found.declared.name ∙ found.ordinary;
  faultless = none;
}
