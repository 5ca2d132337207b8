-- Entries that are looked at once: what they mention stays found.
use Rattle.std.proofs.Common.{◌≡◌, ◌↔◌, ℕ, ◌⊎◌, inl, inr, Bool, true, false, true≢false, ◌==◌, ◌||◌, List, [], ◌∷◌, ◌++◌, length, fold, Some, None, slice_get, refl, sym, ap, subst, ◌∙◌}
use Rattle.std.specs.List.{list_any}
use Rattle.kb_class.specs.Naming.{Has}
use Rattle.kb_classes.proofs.Places.{get_last}
use Rattle.kb_classes.specs.declared.refusal.LinkRefusal.{LinkRefusal}
use Rattle.kb_classes.specs.World.{World}
use Rattle.kb_world.specs.Calls.{use_fault, use_mentions}
use Rattle.kb_universe.specs.Faults.{Fault}
use Rattle.kb_universe.specs.Found.{FoundMethods, with_new}
use Rattle.kb_world.specs.Walks.{with_all, StopsAt, AreFound, IsSettled, AreSettled}
use Rattle.kb_universe.specs.declared.looked.Asked.{Asked}
use Rattle.kb_universe.proofs.FoundMarks.{any_there}
use Rattle.kb_world.proofs.Reaching.{all_front}

-- ---- one number

new_found : (found : List ℕ) (number : ℕ) → list_any (λ other. other == number) found ≡ true → with_new found number ≡ found
new_found found number e = rw e refl

new_pushed : (found : List ℕ) (number : ℕ) → list_any (λ other. other == number) found ≡ false → with_new found number ≡ found ++ number ∷ []
new_pushed found number e = rw e refl

-- what is added is there
found_new : (found : List ℕ) (number : ℕ) → list_any (λ other. other == number) (with_new found number) ≡ true
found_new found number = go (list_any (λ other. other == number) found) refl where
  go : (b : Bool) → list_any (λ other. other == number) found ≡ b → list_any (λ other. other == number) (with_new found number) ≡ true
  go true e = ap (list_any (λ other. other == number)) (new_found found number e) ∙ e
  go false e = ap (list_any (λ other. other == number)) (new_pushed found number e) ∙ any_there (found ++ number ∷ []) (length found) number (get_last found number)

-- and is not added again
pub new_twice : (found : List ℕ) (number : ℕ) → with_new (with_new found number) number ≡ with_new found number
new_twice found number = new_found (with_new found number) number (found_new found number)

-- ---- several numbers

kept : (found more : List ℕ) (number : ℕ) → list_any (λ other. other == number) found ≡ true → list_any (λ other. other == number) (found ++ more) ≡ true
kept [] more number e = absurd (true≢false (sym e))
kept (y ∷ ys) more number e = go (λ h. kept ys more number h) (y == number) refl where
  go : (list_any (λ other. other == number) ys ≡ true → list_any (λ other. other == number) (ys ++ more) ≡ true) → (b : Bool) → (y == number) ≡ b
      → list_any (λ other. other == number) ((y ∷ ys) ++ more) ≡ true
  go later true f = ap (λ (b : Bool). b || list_any (λ other. other == number) (ys ++ more)) f
  go later false f =
      ap (λ (b : Bool). b || list_any (λ other. other == number) (ys ++ more)) f ∙ later (sym (ap (λ (b : Bool). b || list_any (λ other. other == number) ys) f) ∙ e)

kept_found : (numbers found : List ℕ) (number : ℕ) → list_any (λ other. other == number) found ≡ true → list_any (λ other. other == number) (fold with_new found numbers) ≡ true
kept_found numbers found number e =
    let more = all_front numbers found in
    ap (list_any (λ other. other == number)) more.1 ∙ kept found more.0 number e

still_found : (numbers more found : List ℕ) → AreFound found numbers → AreFound (fold with_new found more) numbers
still_found [] more found all = tt
still_found (n ∷ numbers) more found all = (kept_found more found n all.0, still_found numbers more found all.1)

all_found : (numbers found : List ℕ) → AreFound (fold with_new found numbers) numbers
all_found [] found = tt
all_found (n ∷ numbers) found = (kept_found numbers (with_new found n) n (found_new found n), all_found numbers (with_new found n))

found_all : (numbers found : List ℕ) → AreFound found numbers → fold with_new found numbers ≡ found
found_all [] found all = refl
found_all (n ∷ numbers) found all = ap (λ (fs : List ℕ). fold with_new fs numbers) (new_found found n all.0) ∙ found_all numbers found all.1

-- ---- entries

module _ (world : World) where
  -- what a settled entry mentions is found
  pub settled_found : (found : FoundMethods) (looked : List Asked) (asked : Asked) → AreSettled world found.numbers looked → Has looked asked
      → found ≡ with_all found (use_mentions world asked.class asked.usage asked.entry)
  settled_found found looked asked settled has =
      ap (λ (ns : List ℕ). record { all = found.all; numbers = ns }) (sym (found_all (use_mentions world asked.class asked.usage asked.entry) found.numbers (settled asked has).mentioned))

  -- an entry that is looked at is settled, and those before it stay so
  pub settled_more : (before after : FoundMethods) (looked now : List Asked) (asked : Asked) → AreSettled world before.numbers looked
      → use_fault world asked.class asked.usage asked.entry ≡ None → after ≡ with_all before (use_mentions world asked.class asked.usage asked.entry)
      → ((other : Asked) → Has now other ↔ (Has looked other ⊎ (other ≡ asked))) → AreSettled world after.numbers now
  settled_more before after looked now asked settled none added same other has =
      elim ((same other).0 has) [
        | inl old ↦ record {
          faultless = (settled other old).faultless;
          mentioned = subst (λ (ns : List ℕ). AreFound ns (use_mentions world other.class other.usage other.entry)) (sym numbers)
              (still_found (use_mentions world other.class other.usage other.entry) (use_mentions world asked.class asked.usage asked.entry) before.numbers (settled other old).mentioned);
        }
        | inr is ↦ subst (IsSettled world after.numbers) (sym is) (record {
          faultless = none;
          mentioned = subst (λ (ns : List ℕ). AreFound ns (use_mentions world asked.class asked.usage asked.entry)) (sym numbers) (all_found (use_mentions world asked.class asked.usage asked.entry) before.numbers);
        })
      ]
    where
      numbers : after.numbers ≡ fold with_new before.numbers (use_mentions world asked.class asked.usage asked.entry)
      numbers = ap (λ (f : FoundMethods). f.numbers) added

  pub none_settled : (found : List ℕ) → AreSettled world found []
  none_settled found asked has = absurd (nowhere has.0 has.1) where
    nowhere : (place : ℕ) → slice_get [] place ≡ Some asked → ⊥
    nowhere place at = absurd cc

  -- the same fault, said in another way
  pub stops_as : (P Q : ℕ → ℕ → Fault → Type 0) (refusal : LinkRefusal) → ((method at : ℕ) (fault : Fault) → P method at fault → Q method at fault) → StopsAt world P refusal → StopsAt world Q refusal
  stops_as P Q refusal same (inl e) = inl e
  stops_as P Q refusal same (inr told) = inr (record {
    method = told.method;
    at = told.at;
    fault = told.fault;
    first = same told.method told.at told.fault told.first;
    tells = told.tells;
  })
