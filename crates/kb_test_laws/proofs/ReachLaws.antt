-- What is reached is closed: the target is reached, and so is what the code of a method that is reached mentions, none of which has a
-- fault.
use Rattle.std.proofs.Common.{◌≡◌, ℕ, inl, inr, Bool, true, false, ◌==◌, cond, nat_eq, List, [], ◌∷◌, fold, flat_map, Option, Some, None, option_and_then, option_map, refl, sym, ap, subst}
use Rattle.std.specs.List.{AllByRecursion, list_any}
use Rattle.std.specs.Option.{option_map_or}
use Rattle.std.proofs.lemmas.Bool.Decides.{Decides-eqb}
use Rattle.std.proofs.lemmas.Option.{same_Some}
use Rattle.kb_names.proofs.Choices.{passed}
use Rattle.kb_code.specs.Listing.{offset_of}
use Rattle.kb_code.specs.declared.instruction.Instr.{Instr}
use Rattle.kb_class.specs.declared.ids.MethodId.{MethodId}
use Rattle.kb_class.specs.declared.members.MethodCode.{MethodCode}
use Rattle.kb_class.specs.declared.members.MethodInfo.{MethodInfo}
use Rattle.kb_class.specs.Naming.{Has}
use Rattle.kb_class.proofs.Lists.{all_has, has_cases, has_first, has_later, has_left, has_none, has_right}
use Rattle.kb_classes.specs.World.{World}
use Rattle.kb_semantics.specs.Config.{class_number, code_of, info_of, instruction_at, instruction_in}
use Rattle.kb_world.specs.Calls.{fault_of, mentions}
use Rattle.kb_resolution.specs.Lookup.{or_else}
use Rattle.kb_world.specs.Reach.{fault_in, listing_of, mentions_in, method_mentions, HasNoFault, IsReached}
use Rattle.kb_universe.specs.Found.{with_new}
use Rattle.kb_test_laws.proofs.PlatformTable.{any_there}

-- ---- lists without repetitions

new_keeps : (found : List ℕ) (number x : ℕ) → Has found x → Has (with_new found number) x
new_keeps found number x has = go (list_any (λ other. other == number) found) refl where
  go : (b : Bool) → list_any (λ other. other == number) found ≡ b → Has (with_new found number) x
  go true e = rw e has
  go false e = rw e (has_left found (number ∷ []) x has)

new_has : (found : List ℕ) (number : ℕ) → Has (with_new found number) number
new_has found number = go (list_any (λ other. other == number) found) refl where
  go : (b : Bool) → list_any (λ other. other == number) found ≡ b → Has (with_new found number) number
  go true e =
      let there = any_there (λ (other : ℕ). other == number) found e in
      rw e (subst (λ (n : ℕ). Has found n) ((Decides-eqb there.0 number).0 there.2) there.1)
  go false e = rw e (has_right found (number ∷ []) number (has_first number []))

all_keep : (numbers found : List ℕ) (x : ℕ) → Has found x → Has (fold with_new found numbers) x
all_keep [] found x has = has
all_keep (n ∷ numbers) found x has = all_keep numbers (with_new found n) x (new_keeps found n x has)

all_there : (numbers found : List ℕ) (x : ℕ) → Has numbers x → Has (fold with_new found numbers) x
all_there [] found x has = absurd (has_none x has)
all_there (n ∷ numbers) found x has = elim (has_cases n x numbers has) [
  | inl same ↦ all_keep numbers (with_new found n) x (subst (λ (k : ℕ). Has (with_new found n) k) same (new_has found n))
  | inr later ↦ all_there numbers (with_new found n) x later
]

in_flat : {A B : Type 0} (f : A → List B) (xs : List A) (x : A) (y : B) → Has xs x → Has (f x) y → Has (flat_map f xs) y
in_flat f [] x y has there = absurd (has_none x has)
in_flat f (w ∷ xs) x y has there = elim (has_cases w x xs has) [
  | inl same ↦ has_left (f w) (flat_map f xs) y (subst (λ v. Has (f v) y) (sym same) there)
  | inr later ↦ has_right (f w) (flat_map f xs) y (in_flat f xs x y later there)
]

-- ---- instructions

-- the instruction at an offset stands in the listing
pub record IsListed (items : List (ℕ × Instr)) (instr : Instr) : Type 0 where
  pub item : ℕ × Instr
  pub there : Has items item
  pub is : item.1 ≡ instr

listed : (items : List (ℕ × Instr)) (size at : ℕ) (found : Instr × ℕ) → instruction_in items size at ≡ Some found → IsListed items found.0
listed [] size at found e = absurd cc
listed (item ∷ items) size at found e = go (λ h. listed items size at found h) (nat_eq item.0 at) e where
  go : (instruction_in items size at ≡ Some found → IsListed items found.0) → (b : Bool) → cond b (Some (item.1, offset_of items size)) (instruction_in items size at) ≡ Some found → IsListed (item ∷ items) found.0
  go later true e = record { item = item; there = has_first item items; is = (let same : (item.1, offset_of items size) ≡ found = same_Some (item.1, offset_of items size) found e in ap (λ (p : Instr × ℕ). p.0) same) }
  go later false e = (let rest = later e in record { item = rest.item; there = has_later item rest.item items rest.there; is = rest.is })

pub none_both : {A : Type 0} (one other : Option A) → or_else one other ≡ None → (one ≡ None) × (other ≡ None)
none_both None other e = (refl, e)
none_both (Some x) other e = absurd cc

none_mapped : {A B : Type 0} (f : A → B) (o : Option A) → option_map f o ≡ None → o ≡ None
none_mapped f None e = refl
none_mapped f (Some x) e = absurd cc

no_fault : (world : World) (class : ℕ) (items : List (ℕ × Instr)) (item : ℕ × Instr) → fault_in world class items ≡ None → Has items item → fault_of world class item.1 ≡ None
no_fault world class [] item none has = absurd (has_none item has)
no_fault world class (i ∷ items) item none has =
    let both = none_both (option_map (λ fault. (i.0, fault)) (fault_of world class i.1)) (fault_in world class items) none in
    elim (has_cases i item items has) [
      | inl same ↦ subst (λ (k : ℕ × Instr). fault_of world class k.1 ≡ None) same (none_mapped (λ fault. (i.0, fault)) (fault_of world class i.1) both.0)
      | inr later ↦ no_fault world class items item both.1 later
    ]

-- ---- what is reached

module _ (world : World) (target : ℕ) (reached : List ℕ) (is : IsReached world target reached) (none : AllByRecursion (HasNoFault world) reached) where
  pub target_reached : Has reached target
  target_reached = subst (λ (ns : List ℕ). Has ns target) is.closed (all_keep (flat_map (method_mentions world) reached) (target ∷ []) target (has_first target []))

  mentioned : (number other : ℕ) → Has reached number → Has (method_mentions world number) other → Has reached other
  mentioned number other has there =
      subst (λ (ns : List ℕ). Has ns other) is.closed (all_there (flat_map (method_mentions world) reached) (target ∷ []) other (in_flat (method_mentions world) reached number other has there))

  -- an instruction of a method that is reached has no fault, and the methods that it mentions are reached
  pub record IsSound (class : ℕ) (instr : Instr) : Type 0 where
    pub faultless : fault_of world class instr ≡ None
    pub mentions_reached : (other : ℕ) → Has (mentions world class instr) other → Has reached other

  sound_in : (id : MethodId) (method : MethodInfo) (instr : Instr) → Has reached id.0 → info_of world id ≡ Some method → IsListed (listing_of method) instr → IsSound method.class.0 instr
  sound_in id method instr has at listed =
      let class : ℕ = method.class.0 in
      let all : fault_in world class (listing_of method) ≡ None =
      subst (λ (o : Option MethodInfo). option_and_then (λ (m : MethodInfo). fault_in world m.class.0 (listing_of m)) o ≡ None) at (all_has (HasNoFault world) reached id.0 none has) in
      let here : (other : ℕ) → Has (mentions world class listed.item.1) other → Has reached other = λ other there. mentioned id.0 other has
      (subst (λ (o : Option MethodInfo). Has (option_map_or (λ (m : MethodInfo). mentions_in world m.class.0 (listing_of m)) o []) other) (sym at)
      (in_flat (λ (item : ℕ × Instr). mentions world class item.1) (listing_of method) listed.item other listed.there there)) in
      subst (IsSound class) listed.is (record { faultless = no_fault world class (listing_of method) listed.item all listed.there; mentions_reached = here })

  pub sound_at : (id : MethodId) (at : ℕ) (found : Instr × ℕ) → Has reached id.0 → instruction_at world id at ≡ Some found → IsSound (class_number world id) found.0
  sound_at id at found has e =
      let code = passed (λ (c : MethodCode). instruction_in c.listing.items c.size at) (code_of world id) found e in
      let method = passed (λ (m : MethodInfo). m.code) (info_of world id) code.0 code.1 in
      let items : listing_of method.0 ≡ code.0.listing.items = ap (λ (o : Option MethodCode). option_map_or (λ (c : MethodCode). c.listing.items) o []) method.2 in
      let in_listing : IsListed (listing_of method.0) found.0 = subst (λ (is : List (ℕ × Instr)). IsListed is found.0) (sym items) (listed code.0.listing.items code.0.size at found code.2) in
      subst (λ (o : Option MethodInfo). IsSound (option_map_or (λ (m : MethodInfo). m.class.0) o 0) found.0) (sym method.1) (sound_in id method.0 found.0 has method.1 in_listing)
