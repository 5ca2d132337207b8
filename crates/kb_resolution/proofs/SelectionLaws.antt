-- Signatures of methods, and the methods that are selected by them.
use Rattle.std.proofs.Common.{◌≡◌, ℕ, zero, suc, ◌+◌, ◌<◌, ◌≤◌, Bool, true, false, true≢false, ◌==◌, ◌&&◌, List, [], ◌∷◌, ◌++◌, length, length-append, ◌-◌, take, drop, Option, Some, None, slice_get, get_or, inl, inr, refl, sym, ap, subst, ◌∙◌, arith}
use Rattle.std.specs.Option.{option_and_then, option_map_or}
use Rattle.std.specs.Str.{bytes_eq}
use Rattle.std.proofs.lemmas.Bool.Decides.{Decides-eqb}
use Rattle.std.proofs.lemmas.List.{take_all}
use Rattle.std.proofs.lemmas.Option.{same_Some, none-some, slice_get_within, slice_get_cases}
use Rattle.std.proofs.lemmas.Slice.Eq.{bytes_eq-Decides}
use Rattle.kb_class.specs.Class.{Class}
use Rattle.kb_class.specs.declared.members.MethodInfo.{MethodInfo}
use Rattle.kb_names.specs.declared.types.MethodType.{MethodType}
use Rattle.kb_link.specs.Links.{IsLinked}
use Rattle.kb_link.specs.Members.{same_kind}
use Rattle.kb_link.specs.Tables.{IsNumberOf}
use Rattle.kb_classes.specs.World.{World, method_at, methods_in}
use Rattle.kb_link.proofs.MemberNames.{both_true, and_true, kind_is, place_there, declared_is, declared_there}
use Rattle.kb_classes.proofs.MethodNumbers.{number_of_place}
use Rattle.kb_resolution.specs.Lookup.{or_else, only_where, first_along, is_open, is_open_at, if_open, declares, declares_open}
use Rattle.kb_resolution.specs.Tables.{AddsClass, AddsOpen, HaveSignatures, first_of, has_signature, is_alike, open_from, signature_at, signature_of}
use Rattle.kb_resolution.proofs.MethodLaws.{declared_past}

-- ---- what is there, or else another

pub else_none : (one : Option ℕ) → or_else one None ≡ one
else_none None = refl
else_none (Some n) = refl

pub else_else : (one other last : Option ℕ) → or_else (or_else one other) last ≡ or_else one (or_else other last)
else_else None other last = refl
else_else (Some n) other last = refl

-- ---- signatures

pub alike_is : (name : List ℕ) (kind : MethodType) (method : MethodInfo) → is_alike name kind method ≡ true → (method.name ≡ name) × (method.kind ≡ kind)
alike_is name kind method e =
    let both = both_true (bytes_eq method.name name) (same_kind method.kind kind) e in ((bytes_eq-Decides method.name name).0 both.0, kind_is method.kind kind both.1)

module _ (world : World) where
  -- a signature is that of one name and type
  pub one_signature : (name : List ℕ) (kind : MethodType) (method : MethodInfo) (signature : ℕ) → signature_of world method.name method.kind ≡ Some signature → signature_of world name kind ≡ Some signature
      → (method.name ≡ name) × (method.kind ≡ kind)
  one_signature name kind method signature own other =
      let first = place_there (is_alike method.name method.kind) (methods_in world.classes) signature own in
      let again = place_there (is_alike name kind) (methods_in world.classes) signature other in
      let one = alike_is method.name method.kind first.0 first.2 in
      let two = alike_is name kind again.0 again.2 in
      let same : first.0 ≡ again.0 = same_Some first.0 again.0 (sym first.1 ∙ again.1) in
      (sym one.0 ∙ ap (λ (m : MethodInfo). m.name) same ∙ two.0, sym one.1 ∙ ap (λ (m : MethodInfo). m.kind) same ∙ two.1)

  -- that of the method of a number
  pub signature_there : (number : ℕ) (method : MethodInfo) → method_at world number ≡ Some method → signature_at world number ≡ signature_of world method.name method.kind
  signature_there number method there = ap (λ (o : Option MethodInfo). option_and_then (λ (m : MethodInfo). signature_of world m.name m.kind) o) there

-- ---- the methods of a class that have a signature

module _ (signatures : List ℕ) (signature : ℕ) where
  -- The method that is found.
  pub record IsOpenAt (number : ℕ) (methods : List MethodInfo) (found : ℕ) : Type 0 where
    pub place : ℕ
    pub method : MethodInfo
    pub there : slice_get methods place ≡ Some method
    pub sum : number + place ≡ found
    pub taken : is_open method ≡ true
    pub signed : has_signature signatures signature found ≡ true

  pub open_there : (number : ℕ) (methods : List MethodInfo) (found : ℕ) → open_from signatures signature number methods ≡ Some found → IsOpenAt number methods found
  open_there number [] found e = absurd (none-some found e)
  open_there number (method ∷ methods) found e = go (λ h. open_there (suc number) methods found h) (is_open method && has_signature signatures signature number) refl
    where
      go : (open_from signatures signature (suc number) methods ≡ Some found → IsOpenAt (suc number) methods found) → (b : Bool) → (is_open method && has_signature signatures signature number) ≡ b
          → IsOpenAt number (method ∷ methods) found
      go later true such =
          let both = both_true (is_open method) (has_signature signatures signature number) such in
          let first : open_from signatures signature number (method ∷ methods) ≡ Some number =
          ap (λ (b : Bool). or_else (only_where b number) (open_from signatures signature (suc number) methods)) such in
          let same : number ≡ found = same_Some number found (sym first ∙ e) in
          let sum : number + 0 ≡ found = omega (arith, same) in
          record { place = 0; method = method; there = refl; sum = sum; taken = both.0; signed = subst (λ (n : ℕ). has_signature signatures signature n ≡ true) same both.1 }
      go later false such =
          let first : open_from signatures signature number (method ∷ methods) ≡ open_from signatures signature (suc number) methods =
          ap (λ (b : Bool). or_else (only_where b number) (open_from signatures signature (suc number) methods)) such in
          let rest = later (sym first ∙ e) in
          let sum : number + suc rest.place ≡ found = omega (arith, rest.sum) in
          record { place = suc rest.place; method = rest.method; there = rest.there; sum = sum; taken = rest.taken; signed = rest.signed }

  pub open_nowhere : (number : ℕ) (methods : List MethodInfo) (place : ℕ) (method : MethodInfo) → open_from signatures signature number methods ≡ None → slice_get methods place ≡ Some method
      → is_open method ≡ true → has_signature signatures signature (number + place) ≡ true → ⊥
  open_nowhere number [] place method none there taken signed = absurd (none-some method there)
  open_nowhere number (first ∷ methods) place method none there taken signed =
      go (λ p h k. open_nowhere (suc number) methods p method h k taken) (is_open first && has_signature signatures signature number) refl place there signed
    where
      go : ((p : ℕ) → open_from signatures signature (suc number) methods ≡ None → slice_get methods p ≡ Some method → has_signature signatures signature (suc number + p) ≡ true → ⊥)
          → (b : Bool) → (is_open first && has_signature signatures signature number) ≡ b → (p : ℕ) → slice_get (first ∷ methods) p ≡ Some method → has_signature signatures signature (number + p) ≡ true → ⊥
      go later true such p at has =
          let here : open_from signatures signature number (first ∷ methods) ≡ Some number =
          ap (λ (b : Bool). or_else (only_where b number) (open_from signatures signature (suc number) methods)) such in
          none-some number (sym none ∙ here)
      go later false such zero at has =
          let same : first ≡ method = same_Some first method at in
          let sum : number + 0 ≡ number = omega arith in
          let own : has_signature signatures signature number ≡ true = subst (λ (n : ℕ). has_signature signatures signature n ≡ true) sum has in
          let is : is_open first ≡ true = ap is_open same ∙ taken in
          true≢false (sym (and_true (is_open first) (has_signature signatures signature number) is own) ∙ such)
      go later false such (suc p) at has =
          let here : open_from signatures signature number (first ∷ methods) ≡ open_from signatures signature (suc number) methods =
          ap (λ (b : Bool). or_else (only_where b number) (open_from signatures signature (suc number) methods)) such in
          let sum : number + suc p ≡ suc number + p = omega arith in
          later p (sym here ∙ none) at (subst (λ (n : ℕ). has_signature signatures signature n ≡ true) sum has)

signed_is : (signatures : List ℕ) (signature number : ℕ) → has_signature signatures signature number ≡ true → slice_get signatures number ≡ Some signature
signed_is signatures signature number e = go (slice_get signatures number) refl
  where
    go : (o : Option ℕ) → slice_get signatures number ≡ o → slice_get signatures number ≡ Some signature
    go None at = absurd (true≢false (sym e ∙ ap (λ (o : Option ℕ). option_map_or (λ (other : ℕ). other == signature) o false) at))
    go (Some other) at =
        let same : (other == signature) ≡ true = sym (ap (λ (o : Option ℕ). option_map_or (λ (other : ℕ). other == signature) o false) at) ∙ e in
        at ∙ ap (λ (n : ℕ). Some n) ((Decides-eqb other signature).0 same)

signed_there : (signatures : List ℕ) (signature number : ℕ) → slice_get signatures number ≡ Some signature → has_signature signatures signature number ≡ true
signed_there signatures signature number at =
    ap (λ (o : Option ℕ). option_map_or (λ (other : ℕ). other == signature) o false) at ∙ (Decides-eqb signature signature).1 refl

-- ---- a class's methods

module _ (world : World) (linked : IsLinked world) (signatures : List ℕ) (have : HaveSignatures world signatures) where
  pub signature_is : (number : ℕ) (method : MethodInfo) → method_at world number ≡ Some method → slice_get signatures number ≡ signature_of world method.name method.kind
  signature_is number method there =
      elim (slice_get_cases signatures number).1 [
        | inl h ↦ h.2 ∙ have.each number h.0 h.2 ∙ signature_there world number method there
        | inr h ↦ (let inside : number < length (methods_in world.classes) = slice_get_within (methods_in world.classes) number method there in
            absurd (omega (arith, h.0, inside, have.len)))
      ]

  module _ (class : ℕ) (of : Class) (class_is : slice_get world.classes class ≡ Some of) (name : List ℕ) (kind : MethodType) (signature : ℕ) (signed : signature_of world name kind ≡ Some signature) where
    found_open : (found : ℕ) → open_from signatures signature (first_of world class) of.methods ≡ Some found → declares_open world name kind class ≡ Some found
    found_open found e =
        let at = open_there signatures signature (first_of world class) of.methods found e in
        let there : method_at world found ≡ Some at.method =
        subst (λ (n : ℕ). method_at world n ≡ Some at.method) at.sum (number_of_place world.classes class at.place of at.method class_is at.there) in
        let own : signature_of world at.method.name at.method.kind ≡ Some signature = sym (signature_is found at.method there) ∙ signed_is signatures signature found at.signed in
        let is = one_signature world name kind at.method signature own signed in
        let number : IsNumberOf world.classes class name kind found = record {
          declaring = of;
          class_is = class_is;
          place = at.place;
          stands = record { method = at.method; there = at.there; named = is.0; typed = is.1 };
          there = there;
        } in
        let declared : declares world name kind class ≡ Some found = declared_there world.classes linked.loaded.methods class name kind found number in
        let taken : is_open_at world found ≡ true = ap (λ (o : Option MethodInfo). option_map_or is_open o false) there ∙ at.taken in
        ap (λ (o : Option ℕ). if_open world o) declared ∙ ap (λ (b : Bool). only_where b found) taken

    none_open : open_from signatures signature (first_of world class) of.methods ≡ None → declares_open world name kind class ≡ None
    none_open none = go (declares world name kind class) refl
      where
        closed : (found : ℕ) → declares world name kind class ≡ Some found → (b : Bool) → is_open_at world found ≡ b → only_where b found ≡ None
        closed found e false taken = refl
        closed found e true taken =
            let is = declared_is world.classes linked.loaded.methods class name kind found e in
            let method = is.stands.method in
            let declaring : is.declaring ≡ of = same_Some is.declaring of (sym is.class_is ∙ class_is) in
            let stands : slice_get of.methods is.place ≡ Some method = subst (λ (c : Class). slice_get c.methods is.place ≡ Some method) declaring is.stands.there in
            let there : method_at world (first_of world class + is.place) ≡ Some method = number_of_place world.classes class is.place of method class_is stands in
            let own : signature_of world method.name method.kind ≡ Some signature = (λ i. signature_of world (is.stands.named i) (is.stands.typed i)) ∙ signed in
            let has = signed_there signatures signature (first_of world class + is.place) (signature_is (first_of world class + is.place) method there ∙ own) in
            let such : is_open method ≡ true = sym (ap (λ (o : Option MethodInfo). option_map_or is_open o false) is.there) ∙ taken in
            absurd (open_nowhere signatures signature (first_of world class) of.methods is.place method none stands such has)

        go : (o : Option ℕ) → declares world name kind class ≡ o → declares_open world name kind class ≡ None
        go None e = ap (λ (o : Option ℕ). if_open world o) e
        go (Some found) e = ap (λ (o : Option ℕ). if_open world o) e ∙ closed found e (is_open_at world found) refl

    open_declared : open_from signatures signature (first_of world class) of.methods ≡ declares_open world name kind class
    open_declared = go (open_from signatures signature (first_of world class) of.methods) refl
      where
        go : (o : Option ℕ) → open_from signatures signature (first_of world class) of.methods ≡ o → open_from signatures signature (first_of world class) of.methods ≡ declares_open world name kind class
        go None e = e ∙ sym (none_open e)
        go (Some found) e = e ∙ sym (found_open found e)

  pub adds_class : (class : ℕ) (of : Class) (first : ℕ) (methods : List MethodInfo) (before after : ℕ → Option ℕ) → slice_get world.classes class ≡ Some of → first ≡ first_of world class
      → methods ≡ of.methods → AddsOpen signatures first methods before after → AddsClass world class before after
  adds_class class of first methods before after class_is first_is methods_are adds name kind signature signed =
      adds signature
      ∙ (λ i. or_else (before signature) (open_from signatures signature (first_is i) (methods_are i)))
      ∙ ap (λ (o : Option ℕ). or_else (before signature) o) (open_declared class of class_is name kind signature signed)

-- no class has the number
pub adds_nothing : (world : World) → IsLinked world → (class : ℕ) (table : ℕ → Option ℕ) → length world.classes ≤ class → AddsClass world class table table
adds_nothing world linked class table past name kind signature signed =
    let none : declares_open world name kind class ≡ None = ap (λ (o : Option ℕ). if_open world o) (declared_past world linked name kind class past) in
    sym (ap (λ (o : Option ℕ). or_else (table signature) o) none ∙ else_none (table signature))

-- ---- the walk upwards

module _ (world : World) (chain : List ℕ) where
  -- with what the rest of the chain declares, the table has what the chain declares
  abbrev pub IsLeft : (ℕ → Option ℕ) → List ℕ → Type 0
  IsLeft table rest =
      (name : List ℕ) (kind : MethodType) (signature : ℕ) → signature_of world name kind ≡ Some signature
      → or_else (table signature) (first_along (declares_open world name kind) rest) ≡ first_along (declares_open world name kind) chain

  pub left_next : (before after : ℕ → Option ℕ) (class : ℕ) (rest : List ℕ) → IsLeft before (class ∷ rest) → AddsClass world class before after → IsLeft after rest
  left_next before after class rest left adds name kind signature signed =
      ap (λ (o : Option ℕ). or_else o (first_along (declares_open world name kind) rest)) (adds name kind signature signed)
      ∙ else_else (before signature) (declares_open world name kind class) (first_along (declares_open world name kind) rest)
      ∙ left name kind signature signed

  -- the same of a rest as the code has it
  pub left_step : (before after : ℕ → Option ℕ) (rest : List ℕ) → 1 ≤ length rest → IsLeft before rest → AddsClass world (get_or rest 0 0) before after
      → IsLeft after (take (length rest - 1) (drop 1 rest))
  left_step before after [] some left adds = absurd (let no : ⊥ = omega (arith, some) in no)
  left_step before after (class ∷ rest) some left adds =
      let count : suc (length rest) - 1 ≡ length rest = omega arith in
      let whole : take (suc (length rest) - 1) rest ≡ rest = ap (λ (n : ℕ). take n rest) count ∙ take_all (length rest) rest (omega arith) in
      subst (λ (others : List ℕ). IsLeft after others) (sym whole) (left_next before after class rest left adds)

  -- nothing is left
  pub left_last : (table : ℕ → Option ℕ) (rest : List ℕ) → length rest < 1 → IsLeft table rest → (name : List ℕ) (kind : MethodType) (signature : ℕ) → signature_of world name kind ≡ Some signature
      → table signature ≡ first_along (declares_open world name kind) chain
  left_last table [] short left name kind signature signed = sym (else_none (table signature)) ∙ left name kind signature signed
  left_last table (class ∷ rest) short left name kind signature signed = absurd (let no : ⊥ = omega (arith, short) in no)

-- ---- one method more

module _ (signatures : List ℕ) where
  -- with the methods that are left, the table has the same
  abbrev pub IsOpenLeft : ℕ → List MethodInfo → (ℕ → Option ℕ) → ℕ → List MethodInfo → (ℕ → Option ℕ) → Type 0
  IsOpenLeft first methods before number rest table =
      (signature : ℕ) → or_else (table signature) (open_from signatures signature number rest) ≡ or_else (before signature) (open_from signatures signature first methods)

-- ---- the number of the first method of a class

firsts_next : (classes : List Class) (class : ℕ) (of : Class) → slice_get classes class ≡ Some of
    → length (methods_in (take (suc class) classes)) ≡ length (methods_in (take class classes)) + length of.methods
firsts_next [] class of there = absurd (none-some of there)
firsts_next (c ∷ classes) zero of there =
    let same : c ≡ of = same_Some c of there in
    let none : length (c.methods ++ []) ≡ length c.methods + 0 = length-append c.methods [] in
    let own : length c.methods ≡ length of.methods = ap (λ (d : Class). length d.methods) same in
    omega (arith, none, own)
firsts_next (c ∷ classes) (suc class) of there =
    let rest = firsts_next classes class of there in
    omega (arith, rest, length-append c.methods (methods_in (take (suc class) classes)), length-append c.methods (methods_in (take class classes)))

firsts_fit : (classes : List Class) (class : ℕ) (of : Class) → slice_get classes class ≡ Some of → length (methods_in (take class classes)) + length of.methods ≤ length (methods_in classes)
firsts_fit [] class of there = absurd (none-some of there)
firsts_fit (c ∷ classes) zero of there =
    let same : c ≡ of = same_Some c of there in
    let own : length c.methods ≡ length of.methods = ap (λ (d : Class). length d.methods) same in
    omega (arith, own, length-append c.methods (methods_in classes))
firsts_fit (c ∷ classes) (suc class) of there =
    let rest = firsts_fit classes class of there in
    omega (arith, rest, length-append c.methods (methods_in (take class classes)), length-append c.methods (methods_in classes))

module _ (world : World) (class : ℕ) (of : Class) (class_is : slice_get world.classes class ≡ Some of) where
  pub first_next : first_of world (class + 1) ≡ first_of world class + length of.methods
  first_next =
      let next : class + 1 ≡ suc class = omega arith in
      ap (first_of world) next ∙ firsts_next world.classes class of class_is

  pub first_fits : first_of world class + length of.methods ≤ length (methods_in world.classes)
  first_fits = firsts_fit world.classes class of class_is
