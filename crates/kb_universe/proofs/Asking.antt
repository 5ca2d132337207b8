-- Entries that are asked for are told apart by their classes, their numbers and what they are used for.
use Rattle.std.proofs.Common.{◌≡◌, ◌↔◌, ◌⊎◌, inl, inr, Bool, true, false, true≢false, ◌&&◌, eqb, if◌then◌else◌, List, [], ◌∷◌, ◌++◌, refl, sym, ap, subst, ◌∙◌}
use Rattle.std.specs.List.{list_any}
use Rattle.std.proofs.lemmas.Bool.Decides.{Decides-eqb}
use Rattle.kb_class.specs.Naming.{Has}
use Rattle.kb_class.proofs.Lists.{has_left, has_right, has_either, has_cases, has_none, has_first}
use Rattle.kb_universe.proofs.Lists.{any_some, any_true}
use Rattle.kb_universe.specs.declared.calls.Call.{Call}
use Rattle.kb_universe.specs.declared.calls.Call.TheVariants as calls
use Rattle.kb_universe.specs.declared.looked.Use.{Use}
use Rattle.kb_universe.specs.declared.looked.Use.TheVariants as uses
use Rattle.kb_universe.specs.declared.looked.Asked.{Asked}
use Rattle.kb_universe.specs.contracts.calls.CallPartialEq.TheImpl.{eq-value as call-eq-value}
use Rattle.kb_universe.specs.contracts.looked.UsePartialEq.TheImpl.{eq-value as use-eq-value}
use Rattle.kb_universe.specs.contracts.looked.AskedPartialEq.TheImpl.{eq-value}

both : (a b : Bool) → (a && b) ≡ true → (a ≡ true) × (b ≡ true)
both true b e = (refl, e)
both false b e = absurd (true≢false (sym e))

same_call : (one other : Call) → (call-eq-value.it) one other ≡ true → one ≡ other
same_call calls.Virtual calls.Virtual e = refl
same_call calls.Interface calls.Interface e = refl
same_call calls.Special calls.Special e = refl
same_call calls.Static calls.Static e = refl
same_call one other e = absurd cc

call_self : (call : Call) → (call-eq-value.it) call call ≡ true
call_self calls.Virtual = refl
call_self calls.Interface = refl
call_self calls.Special = refl
call_self calls.Static = refl

same_use : (one other : Use) → (use-eq-value.it) one other ≡ true → one ≡ other
same_use (uses.Call one) (uses.Call other) e = ap uses.Call (same_call one other e)
same_use uses.Object uses.Object e = refl
same_use uses.Array uses.Array e = refl
same_use uses.Cast uses.Cast e = refl
same_use one other e = absurd cc

use_self : (usage : Use) → (use-eq-value.it) usage usage ≡ true
use_self (uses.Call call) = call_self call
use_self uses.Object = refl
use_self uses.Array = refl
use_self uses.Cast = refl

same_asked : (one other : Asked) → (eq-value.it) one other ≡ true → one ≡ other
same_asked one other e =
    let first = both (eqb one.class other.class) (eqb one.entry other.entry && (use-eq-value.it) one.usage other.usage) e in
    let rest = both (eqb one.entry other.entry) ((use-eq-value.it) one.usage other.usage) first.1 in
    let class : one.class ≡ other.class = (Decides-eqb one.class other.class).0 first.0 in
    let entry : one.entry ≡ other.entry = (Decides-eqb one.entry other.entry).0 rest.0 in
    let usage : one.usage ≡ other.usage = same_use one.usage other.usage rest.1 in
    λ i. record { class = class i; entry = entry i; usage = usage i }

and_true : (a b : Bool) → a ≡ true → b ≡ true → (a && b) ≡ true
and_true true b e f = f
and_true false b e f = absurd (true≢false (sym e))

asked_self : (asked : Asked) → (eq-value.it) asked asked ≡ true
asked_self asked =
    and_true (eqb asked.class asked.class) (eqb asked.entry asked.entry && (use-eq-value.it) asked.usage asked.usage) ((Decides-eqb asked.class asked.class).1 refl)
    (and_true (eqb asked.entry asked.entry) ((use-eq-value.it) asked.usage asked.usage) ((Decides-eqb asked.entry asked.entry).1 refl) (use_self asked.usage))

-- whether an entry is among others
pub asked_there : (keys : List Asked) (asked : Asked) (told : Bool) → told ≡ list_any ((eq-value.it) asked) keys → (told ≡ true) ↔ Has keys asked
asked_there keys asked told is = (λ t. there (sym is ∙ t), λ has. is ∙ any_true ((eq-value.it) asked) keys asked has (asked_self asked)) where
  there : list_any ((eq-value.it) asked) keys ≡ true → Has keys asked
  there e = (let found = any_some ((eq-value.it) asked) keys e in subst (Has keys) (sym (same_asked asked found.0 found.2)) found.1)

-- one entry more
pub asked_more : (old new : List Asked) (asked : Asked) → new ≡ (if list_any ((eq-value.it) asked) old then old else old ++ asked ∷ [])
    → (other : Asked) → Has new other ↔ (Has old other ⊎ (other ≡ asked))
asked_more old new asked is other = go (list_any ((eq-value.it) asked) old) refl where
  here : list_any ((eq-value.it) asked) old ≡ true → Has old asked
  here e = (let found = any_some ((eq-value.it) asked) old e in subst (Has old) (sym (same_asked asked found.0 found.2)) found.1)

  one : Has (asked ∷ []) other → other ≡ asked
  one has = elim (has_cases asked other [] has) [ inl same ↦ sym same | inr h ↦ absurd (has_none other h) ]

  go : (b : Bool) → list_any ((eq-value.it) asked) old ≡ b → Has new other ↔ (Has old other ⊎ (other ≡ asked))
  go true e =
      let same : new ≡ old = is ∙ ap (λ (b : Bool). if b then old else old ++ asked ∷ []) e in (
        λ has. inl (subst (λ (ks : List Asked). Has ks other) same has),
        λ h. subst (λ (ks : List Asked). Has ks other) (sym same) (elim h [ inl k ↦ k | inr k ↦ subst (Has old) (sym k) (here e) ]),
      )
  go false e =
      let same : new ≡ old ++ asked ∷ [] = is ∙ ap (λ (b : Bool). if b then old else old ++ asked ∷ []) e in (
        λ has. elim (has_either old (asked ∷ []) other (subst (λ (ks : List Asked). Has ks other) same has)) [ inl h ↦ inl h | inr h ↦ inr (one h) ],
        λ h. subst (λ (ks : List Asked). Has ks other) (sym same)
            (elim h [ inl k ↦ has_left old (asked ∷ []) other k | inr k ↦ has_right old (asked ∷ []) other (subst (Has (asked ∷ [])) (sym k) (has_first asked [])) ]),
      )
