-- The number of a type's descriptor is told by the type's first part, also while types are added.
use Rattle.std.proofs.Common.{◌≡◌, ℕ, Bool, true, false, true≢false, cond, ◌==◌, is_some, List, Option, Some, None, IfSome, refl, sym, ap, subst, ◌∙◌}
use Rattle.std.proofs.lemmas.Bool.Decides.{Decides-eqb}
use Rattle.std.proofs.lemmas.Option.{same_Some}
use Rattle.kb_names.specs.declared.types.MethodType.{MethodType}
use Rattle.kb_class.specs.Loading.{SpellsKind}
use Rattle.kb_class.specs.declared.members.MemberKind.TheVariants as kinds
use Rattle.kb_class.proofs.Spellings.{one_kind}
use Rattle.kb_texts.specs.Texts.{AreDistinct, Keeps}
use Rattle.kb_numbers.specs.declared.types.Types.{Types}
use Rattle.kb_numbers.specs.Typed.{AreEnds, IsTyped, KeepsTypes, told_in}
use Rattle.kb_numbers.specs.Types.{HasTextAt, IsTypePath}
use Rattle.kb_numbers.proofs.NumberLaws.{method_type, one_text, text_on}
use Rattle.kb_numbers.proofs.TypeLaws.{path_on, same_kind}

pub stays_self : (types : Types) → KeepsTypes types types
stays_self types = record { parts = λ place x at. at; ends = λ first number at. at }

pub stays_both : (first second third : Types) → KeepsTypes first second → KeepsTypes second third → KeepsTypes first third
stays_both first second third one two = record { parts = λ place x at. two.parts place x (one.parts place x at); ends = λ n number at. two.ends n number (one.ends n number at) }

pub typed_on : (texts more : List (List ℕ)) → Keeps texts more → (old new : Types) → KeepsTypes old new → (kind : MethodType) (number : ℕ) → IsTyped texts old kind number → IsTyped more new kind number
typed_on texts more keeps old new stays kind number is =
    (is.0, path_on texts more keeps old.parts new.parts stays.parts kind.result kind.params is.0 is.1, stays.ends is.0 number is.2)

-- what the first part of a type tells
pub typed_by : (texts : List (List ℕ)) (types : Types) (kind : MethodType) (first : ℕ) → IsTypePath texts types.parts kind first → (answer : Option ℕ) → answer ≡ told_in types.ends first → IfSome answer (IsTyped texts types kind)
typed_by texts types kind first path None is = tt
typed_by texts types kind first path (Some number) is = (first, path, sym is)

-- ---- one descriptor

-- the number that is told by a type's parts is that of its descriptor
pub typed_spelled : (texts : List (List ℕ)) (types : Types) (kind : MethodType) (number : ℕ) → AreEnds texts types → IsTyped texts types kind number
    → HasTextAt texts number (SpellsKind (kinds.Method kind))
typed_spelled texts types kind number are is =
    let end = are.each_end is.0 number is.2 in
    let same : end.0 ≡ kind = same_kind texts types.parts end.0 kind is.0 end.1 is.1 in
    subst (λ (k : MethodType). HasTextAt texts number (SpellsKind (kinds.Method k))) same end.2

module _ (texts : List (List ℕ)) where
  -- one number is that of one type
  same_spelled : (number : ℕ) (one other : MethodType) → HasTextAt texts number (SpellsKind (kinds.Method one)) → HasTextAt texts number (SpellsKind (kinds.Method other)) → one ≡ other
  same_spelled number one other s t =
      let same : s.0 ≡ t.0 = same_Some s.0 t.0 (sym s.1 ∙ t.1) in
      method_type one other (one_kind (kinds.Method one) (kinds.Method other) t.0 (subst (SpellsKind (kinds.Method one)) same s.2) t.2)

  -- and one type has one number
  same_number : AreDistinct texts → (kind : MethodType) (one other : ℕ) → HasTextAt texts one (SpellsKind (kinds.Method kind)) → HasTextAt texts other (SpellsKind (kinds.Method kind)) → one ≡ other
  same_number distinct kind one other s t =
      let same : s.0 ≡ t.0 = one_text (kinds.Method kind) s.0 t.0 s.2 t.2 in
      distinct one other s.0 s.1 (t.1 ∙ ap (λ (x : List ℕ). Some x) (sym same))

  -- a number that was met
  pub met_before : (types : Types) (kind : MethodType) (number : ℕ) → AreEnds texts types → HasTextAt texts number (SpellsKind (kinds.Method kind)) → is_some (told_in types.seen number) ≡ true
      → IsTyped texts types kind number
  met_before types kind number are spelled some = go (told_in types.seen number) refl
    where
      go : (o : Option ℕ) → told_in types.seen number ≡ o → IsTyped texts types kind number
      go None e = absurd (true≢false (sym some ∙ ap is_some e))
      go (Some first) e =
          let seen = are.each_seen number first e in
          let same : seen.0 ≡ kind = same_spelled number seen.0 kind seen.1 spelled in
          (first, subst (λ (k : MethodType). IsTypePath texts types.parts k first) same seen.2, seen.3)

-- ---- one type more

module _ (texts more : List (List ℕ)) (keeps : Keeps texts more) (distinct : AreDistinct texts) (old new : Types) (adds : Keeps old.parts new.parts) (are : AreEnds texts old) (kind : MethodType) (first number : ℕ)
    (spelled : HasTextAt texts number (SpellsKind (kinds.Method kind))) (path : IsTypePath more new.parts kind first)
    (ends : (n : ℕ) → told_in new.ends n ≡ cond (first == n) (Some number) (told_in old.ends n)) (seen : (n : ℕ) → told_in new.seen n ≡ cond (number == n) (Some first) (told_in old.seen n)) where
  path_more : (k : MethodType) (n : ℕ) → IsTypePath texts old.parts k n → IsTypePath more new.parts k n
  path_more k n = path_on texts more keeps old.parts new.parts adds k.result k.params n

  spelled_more : (n : ℕ) (k : MethodType) → HasTextAt texts n (SpellsKind (kinds.Method k)) → HasTextAt more n (SpellsKind (kinds.Method k))
  spelled_more n k = text_on texts more keeps n (SpellsKind (kinds.Method k))

  -- what was told of the first part was the same
  told_same : (v : ℕ) → told_in old.ends first ≡ Some v → number ≡ v
  told_same v at =
      let end = are.each_end first v at in
      let same : end.0 ≡ kind = same_kind more new.parts end.0 kind first (path_more end.0 first end.1) path in
      same_number texts distinct kind number v spelled (subst (λ (k : MethodType). HasTextAt texts v (SpellsKind (kinds.Method k))) same end.2)

  ends_stay : (n v : ℕ) → told_in old.ends n ≡ Some v → told_in new.ends n ≡ Some v
  ends_stay n v at = go (first == n) refl (ends n)
    where
      go : (b : Bool) → (first == n) ≡ b → told_in new.ends n ≡ cond b (Some number) (told_in old.ends n) → told_in new.ends n ≡ Some v
      go true e now =
          let place : n ≡ first = sym ((Decides-eqb first n).0 e) in
          now ∙ ap (λ (m : ℕ). Some m) (told_same v (ap (told_in old.ends) (sym place) ∙ at))
      go false e now = now ∙ at

  first_told : told_in new.ends first ≡ Some number
  first_told = ends first ∙ ap (λ (b : Bool). cond b (Some number) (told_in old.ends first)) ((Decides-eqb first first).1 refl)

  pub types_stay : KeepsTypes old new
  types_stay = record { parts = adds; ends = ends_stay }

  pub type_there : IsTyped more new kind number
  type_there = (first, path, first_told)

  pub ends_more : AreEnds more new
  ends_more = record {
    each_end = λ n v at. end_at n v at (first == n) refl (ends n);
    each_seen = λ n f at. seen_at n f at (number == n) refl (seen n);
  }
    where
      end_at : (n v : ℕ) → told_in new.ends n ≡ Some v → (b : Bool) → (first == n) ≡ b → told_in new.ends n ≡ cond b (Some number) (told_in old.ends n)
          → (k : MethodType) × IsTypePath more new.parts k n × HasTextAt more v (SpellsKind (kinds.Method k))
      end_at n v at true e now =
          let place : first ≡ n = (Decides-eqb first n).0 e in
          let value : number ≡ v = same_Some number v (sym now ∙ at) in
          (kind, subst (λ (m : ℕ). IsTypePath more new.parts kind m) place path, subst (λ (m : ℕ). HasTextAt more m (SpellsKind (kinds.Method kind))) value (spelled_more number kind spelled))
      end_at n v at false e now = (let end = are.each_end n v (sym now ∙ at) in (end.0, path_more end.0 n end.1, spelled_more v end.0 end.2))

      seen_at : (n f : ℕ) → told_in new.seen n ≡ Some f → (b : Bool) → (number == n) ≡ b → told_in new.seen n ≡ cond b (Some first) (told_in old.seen n)
          → (k : MethodType) × HasTextAt more n (SpellsKind (kinds.Method k)) × IsTypePath more new.parts k f × (told_in new.ends f ≡ Some n)
      seen_at n f at true e now =
          let place : number ≡ n = (Decides-eqb number n).0 e in
          let value : first ≡ f = same_Some first f (sym now ∙ at) in (
            kind,
            subst (λ (m : ℕ). HasTextAt more m (SpellsKind (kinds.Method kind))) place (spelled_more number kind spelled),
            subst (λ (m : ℕ). IsTypePath more new.parts kind m) value path,
            ap (told_in new.ends) (sym value) ∙ first_told ∙ ap (λ (m : ℕ). Some m) place,
          )
      seen_at n f at false e now =
          let found = are.each_seen n f (sym now ∙ at) in
          (found.0, spelled_more n found.0 found.1, path_more found.0 f found.2, ends_stay f n found.3)
