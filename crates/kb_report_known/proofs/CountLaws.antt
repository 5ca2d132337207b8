-- The count over the objects, one after the other, and the table of the objects.
use Rattle.std.proofs.Common.{◌≡◌, ◌↔◌, ℕ, zero, suc, ◌+◌, ◌-◌, ◌*◌, ◌^◌, ◌<◌, ◌≤◌, ◌==◌, min, max, Bool, true, false, IsTrue, List, [], ◌∷◌, map, Option, Some, None, Result, Ok, Err, IfOk, IfSome, OnOk, refl, sym, ap, subst, ◌∙◌, arith, cond, if◌then◌else◌}
use Rattle.std.specs.Prelude.{nat_le, nat_lt, All}
use Rattle.std.specs.BTreeMap.{is_at}
use Rattle.std.specs.List.{AllByRecursion}
use Rattle.std.specs.List.Sorted.{IsStrictlySortedBy}
use Rattle.std.specs.Map.{lookup}
use Rattle.std.specs.Ordering.{is_eq, nat_cmp}
use Rattle.std.specs.declared.alloc.AllocError.{AllocError}
use Rattle.std.specs.declared.cmp.Ordering.TheVariants.{Less, Equal, Greater}
use Rattle.std.proofs.lemmas.Bool.{eqb-false, eqb-true, leb-false, leb-true, ltb-false, ltb-true}
use Rattle.std.proofs.lemmas.Option.{none-some}
use Rattle.kb_classes.specs.World.{World}
use Rattle.kb_names.specs.declared.types.ExactType.{ExactType}
use Rattle.kb_picture.specs.declared.picture.Length.{Length}
use Rattle.kb_report_known.proofs.TableLaws.{is_key}
use Rattle.kb_report_known.specs.Counts.{argument_ways, AreEnough, NamedObjects, found_among, known_at, known_of, missing_below, seen_more, SeesSlot, wanted, ways_below, with_known, with_object}
use Rattle.kb_report_known.specs.Known.{IsShapeIn, IsShapeWith, nothing_known, ways_of}
use Rattle.kb_report_known.specs.Listing.{AreLeft, IsCount, IsKept, Passes}
use Rattle.kb_report_known.specs.declared.counting.Count.{Count}
use Rattle.kb_report_known.specs.declared.known.Known.{Known}
use Rattle.kb_report_known.specs.declared.known.Shape.{Shape}

-- ---- objects that are not found

pub missing_most : (known : ℕ → Known) (number : ℕ) → missing_below known number ≤ number
missing_most known zero = omega arith
missing_most known (suc number) = go (known number).is_found (missing_most known number)
  where
    go : (b : Bool) → missing_below known number ≤ number → missing_below known number + wanted b ≤ suc number
    go true less = omega (arith, less)
    go false less = omega (arith, less)

pub missing_same : (one other : ℕ → Known) (number : ℕ) → ((n : ℕ) → n < number → (one n).is_found ≡ (other n).is_found) → missing_below one number ≡ missing_below other number
missing_same one other zero same = refl
missing_same one other (suc number) same =
    let before : missing_below one number ≡ missing_below other number = missing_same one other number (λ n below. same n (omega (arith, below))) in
    let last : wanted (one number).is_found ≡ wanted (other number).is_found = ap wanted (same number (omega arith)) in
    omega (arith, before, last)

-- of objects of which nothing is known each is missing
pub missing_more : (known : ℕ → Known) (number more : ℕ) → ((n : ℕ) → number ≤ n → n < number + more → known n ≡ nothing_known) → missing_below known (number + more) ≡ missing_below known number + more
missing_more known number zero blank = let same : number + zero ≡ number = omega arith in ap (missing_below known) same ∙ (let e : missing_below known number ≡ missing_below known number + zero = omega arith in e)
missing_more known number (suc more) blank =
    let last : wanted (known (number + more)).is_found ≡ 1 = ap (λ (k : Known). wanted k.is_found) (blank (number + more) (omega arith) (omega arith)) in
    let before : missing_below known (number + more) ≡ missing_below known number + more = missing_more known number more (λ n low high. blank n low (omega (arith, high))) in
    let same : number + suc more ≡ suc (number + more) = omega arith in
    ap (missing_below known) same ∙ (let e : missing_below known (number + more) + wanted (known (number + more)).is_found ≡ missing_below known number + suc more = omega (arith, last, before) in e)

-- one of them that is found is one less
pub missing_less : (one other : ℕ → Known) (number count : ℕ) → number < count → ((n : ℕ) → (n ≡ number → ⊥) → (one n).is_found ≡ (other n).is_found) → (one number).is_found ≡ false → (other number).is_found ≡ true
    → missing_below one count ≡ suc (missing_below other count)
missing_less one other number zero inside same lost found = absurd (omega (arith, inside))
missing_less one other number (suc count) inside same lost found = go (λ h. missing_less one other number count h same lost found) (count == number) refl
  where
    go : (number < count → missing_below one count ≡ suc (missing_below other count)) → (b : Bool) → (count == number) ≡ b → missing_below one (suc count) ≡ suc (missing_below other (suc count))
    go again true e =
        let here : count ≡ number = eqb-true count number e in
        let before : missing_below one count ≡ missing_below other count = missing_same one other count (λ n below. same n (λ is. omega (arith, is, below, here))) in
        let first : wanted (one count).is_found ≡ 1 = ap wanted (ap (λ (n : ℕ). (one n).is_found) here ∙ lost) in
        let second : wanted (other count).is_found ≡ 0 = ap wanted (ap (λ (n : ℕ). (other n).is_found) here ∙ found) in
        omega (arith, before, first, second)
    go again false e =
        let apart : count ≡ number → ⊥ = eqb-false count number e in
        let before : missing_below one count ≡ suc (missing_below other count) = again (omega (arith, inside, apart)) in
        let last : wanted (one count).is_found ≡ wanted (other count).is_found = ap wanted (same count apart) in
        omega (arith, before, last)

-- ---- ways

ways_open : (world : World) (objects : NamedObjects) (number more : ℕ) → ((n : ℕ) → number ≤ n → n < number + more → known_at objects n ≡ nothing_known)
    → ways_below (Some world) objects (number + more) ≡ ways_below (Some world) objects number + more * 2 ^ 32
ways_open world objects number zero blank = let same : number + zero ≡ number = omega arith in ap (ways_below (Some world) objects) same ∙ (let e : ways_below (Some world) objects number ≡ ways_below (Some world) objects number + zero * 2 ^ 32 = omega arith in e)
ways_open world objects number (suc more) blank =
    let last : ways_of (Some world) (known_at objects (number + more)) ≡ 2 ^ 32 = ap (ways_of (Some world)) (blank (number + more) (omega arith) (omega arith)) in
    let before : ways_below (Some world) objects (number + more) ≡ ways_below (Some world) objects number + more * 2 ^ 32 = ways_open world objects number more (λ n low high. blank n low (omega (arith, high))) in
    let same : number + suc more ≡ suc (number + more) = omega arith in
    ap (ways_below (Some world) objects) same
    ∙ (let e : ways_below (Some world) objects (number + more) + ways_of (Some world) (known_at objects (number + more)) ≡ ways_below (Some world) objects number + suc more * 2 ^ 32 = omega (arith, last, before) in e)

ways_closed : (objects : NamedObjects) (number more : ℕ) → ((n : ℕ) → number ≤ n → n < number + more → known_at objects n ≡ nothing_known) → ways_below None objects (number + more) ≡ ways_below None objects number
ways_closed objects number zero blank = let same : number + zero ≡ number = omega arith in ap (ways_below None objects) same
ways_closed objects number (suc more) blank =
    let last : ways_of None (known_at objects (number + more)) ≡ 0 = ap (ways_of None) (blank (number + more) (omega arith) (omega arith)) in
    let before : ways_below None objects (number + more) ≡ ways_below None objects number = ways_closed objects number more (λ n low high. blank n low (omega (arith, high))) in
    let same : number + suc more ≡ suc (number + more) = omega arith in
    ap (ways_below None objects) same ∙ (let e : ways_below None objects (number + more) + ways_of None (known_at objects (number + more)) ≡ ways_below None objects number = omega (arith, last, before) in e)

-- ---- one object more

module _ (fields : Option World) (objects : NamedObjects) (count after : Count) (known : Known) where
  pub passes_one : (may : Bool) → known_at objects count.next ≡ known → IsCount fields objects count → count.next < 2 ^ 32 → after.next ≡ min (count.next + 1) (2 ^ 64 - 1)
      → after.missing ≡ min (count.missing + wanted known.is_found) (2 ^ 64 - 1) → after.ways ≡ min (count.ways + min (ways_of fields known) (2 ^ 64 - 1)) (2 ^ 64 - 1)
      → may ≡ nat_le after.missing count.ways → Passes fields objects (suc count.next) after may
  passes_one may is before range next_is missing_is ways_is may_is = go may may_is
    where
      next : ℕ
      next = count.next

      wants : missing_below (known_at objects) (suc next) ≡ count.missing + wanted known.is_found
      wants =
          let same : wanted (known_at objects next).is_found ≡ wanted known.is_found = ap (λ (k : Known). wanted k.is_found) is in
          omega (arith, same, before.missing_is)

      gives : ways_below fields objects (suc next) ≡ ways_below fields objects next + ways_of fields known
      gives = let same : ways_of fields (known_at objects next) ≡ ways_of fields known = ap (ways_of fields) is in omega (arith, same)

      go : (b : Bool) → b ≡ nat_le after.missing count.ways → Passes fields objects (suc next) after b
      go false told =
          let more : count.ways < after.missing = leb-false after.missing count.ways (sym told) in
          (next, omega arith, omega (arith, more, wants, missing_is, before.ways_are, missing_most (known_at objects) (suc next), range))
      go true told =
          let fits : after.missing ≤ count.ways = leb-true after.missing count.ways (sym told) in
          let next_of : after.next ≡ suc next = omega (arith, next_is, range) in
          let enough_here : missing_below (known_at objects) (suc next) ≤ ways_below fields objects next = omega (arith, fits, wants, missing_is, before.ways_are, missing_most (known_at objects) (suc next), range) in (
            next_of,
            record {
              range = omega (arith, next_of, range);
              missing_is = (let e : after.missing ≡ missing_below (known_at objects) (suc next) = omega (arith, missing_is, wants, missing_most (known_at objects) (suc next), range) in e) ∙ ap (missing_below (known_at objects)) (sym next_of);
              ways_are = (let e : after.ways ≡ min (ways_below fields objects (suc next)) (2 ^ 64 - 1) = omega (arith, ways_is, before.ways_are, gives) in e) ∙ ap (λ (n : ℕ). min (ways_below fields objects n) (2 ^ 64 - 1)) (sym next_of);
              enough = λ number below. last number (let inside : number < suc next = omega (arith, below, next_of) in inside) enough_here;
            },
          )
        where
          last : (number : ℕ) → number < suc next → missing_below (known_at objects) (suc next) ≤ ways_below fields objects next → missing_below (known_at objects) (suc number) ≤ ways_below fields objects number
          last number inside here = pick (number == next) refl
            where
              pick : (b : Bool) → (number == next) ≡ b → missing_below (known_at objects) (suc number) ≤ ways_below fields objects number
              pick true e = subst (λ (n : ℕ). missing_below (known_at objects) (suc n) ≤ ways_below fields objects n) (sym (eqb-true number next e)) here
              pick false e = before.enough number (let apart : number ≡ next → ⊥ = eqb-false number next e in omega (arith, inside, apart))

-- ---- objects of which nothing is known

module _ (objects : NamedObjects) (count after : Count) (number : ℕ) where
  abbrev Blank : Type 0
  Blank = (other : ℕ) → count.next ≤ other → other < number → known_at objects other ≡ nothing_known

  -- an object between is so many behind the next one
  behind : (P : ℕ → Type 0) → ((k : ℕ) → count.next + k < number → P (count.next + k)) → (one : ℕ) → count.next ≤ one → one < number → P one
  behind P each one low high =
      let place : count.next + (one - count.next) ≡ one = omega (arith, low) in
      subst P place (each (one - count.next) (omega (arith, low, high)))

  missing_at : Blank → (k : ℕ) → count.next + k ≤ number → missing_below (known_at objects) (count.next + k) ≡ missing_below (known_at objects) count.next + k
  missing_at blank k within = missing_more (known_at objects) count.next k (λ n low high. blank n low (omega (arith, high, within)))

  early : (fields : Option World) → IsCount fields objects count → ((k : ℕ) → count.next + k < number → missing_below (known_at objects) (suc (count.next + k)) ≤ ways_below fields objects (count.next + k))
      → (one : ℕ) → one < number → missing_below (known_at objects) (suc one) ≤ ways_below fields objects one
  early fields before each one inside = go (nat_lt one count.next) refl
    where
      go : (b : Bool) → nat_lt one count.next ≡ b → missing_below (known_at objects) (suc one) ≤ ways_below fields objects one
      go true e = before.enough one (ltb-true one count.next e)
      go false e = behind (λ (n : ℕ). missing_below (known_at objects) (suc n) ≤ ways_below fields objects n) each one (ltb-false one count.next e) inside

  pub passes_open : (world : World) (may : Bool) → Blank → IsCount (Some world) objects count → count.next < number → number ≤ 2 ^ 32 → after.next ≡ number
      → after.missing ≡ min (count.missing + (number - count.next)) (2 ^ 64 - 1) → after.ways ≡ min (count.ways + min ((number - count.next) * 2 ^ 32) (2 ^ 64 - 1)) (2 ^ 64 - 1)
      → may ≡ nat_lt count.missing count.ways → Passes (Some world) objects number after may
  passes_open world may blank before more range next_is missing_is ways_is may_is = go may may_is
    where
      start : count.missing ≤ count.next
      start = subst (λ (n : ℕ). n ≤ count.next) (sym before.missing_is) (missing_most (known_at objects) count.next)

      whole : missing_below (known_at objects) number ≡ missing_below (known_at objects) count.next + (number - count.next)
      whole = let place : count.next + (number - count.next) ≡ number = omega (arith, more) in ap (missing_below (known_at objects)) (sym place) ∙ missing_at blank (number - count.next) (omega (arith, more))

      all_ways : ways_below (Some world) objects number ≡ ways_below (Some world) objects count.next + (number - count.next) * 2 ^ 32
      all_ways =
          let place : count.next + (number - count.next) ≡ number = omega (arith, more) in
          ap (ways_below (Some world) objects) (sym place) ∙ ways_open world objects count.next (number - count.next) (λ n low high. blank n low (omega (arith, high, more)))

      each : count.missing < count.ways → (k : ℕ) → count.next + k < number → missing_below (known_at objects) (suc (count.next + k)) ≤ ways_below (Some world) objects (count.next + k)
      each fits k within =
          let one : missing_below (known_at objects) (count.next + suc k) ≡ missing_below (known_at objects) count.next + suc k = missing_at blank (suc k) (omega (arith, within)) in
          let same : count.next + suc k ≡ suc (count.next + k) = omega arith in
          let wants : missing_below (known_at objects) (suc (count.next + k)) ≡ missing_below (known_at objects) count.next + suc k = ap (missing_below (known_at objects)) (sym same) ∙ one in
          let gives : ways_below (Some world) objects (count.next + k) ≡ ways_below (Some world) objects count.next + k * 2 ^ 32 = ways_open world objects count.next k (λ n low high. blank n low (omega (arith, high, within))) in
          omega (arith, wants, gives, fits, before.missing_is, before.ways_are)

      go : (b : Bool) → b ≡ nat_lt count.missing count.ways → Passes (Some world) objects number after b
      go false told =
          let few : count.ways ≤ count.missing = ltb-false count.missing count.ways (sym told) in
          let one : missing_below (known_at objects) (count.next + 1) ≡ missing_below (known_at objects) count.next + 1 = missing_at blank 1 (omega (arith, more)) in
          let same : count.next + 1 ≡ suc count.next = omega arith in
          let wants : missing_below (known_at objects) (suc count.next) ≡ missing_below (known_at objects) count.next + 1 = ap (missing_below (known_at objects)) (sym same) ∙ one in
          (count.next, more, omega (arith, few, wants, before.missing_is, before.ways_are, start, more, range))
      go true told =
          let fits : count.missing < count.ways = ltb-true count.missing count.ways (sym told) in (
            next_is,
            record {
              range = omega (arith, next_is, range);
              missing_is = (let e : after.missing ≡ missing_below (known_at objects) number = omega (arith, missing_is, whole, before.missing_is, start, more, range) in e) ∙ ap (missing_below (known_at objects)) (sym next_is);
              ways_are = (let e : after.ways ≡ min (ways_below (Some world) objects number) (2 ^ 64 - 1) = omega (arith, ways_is, before.ways_are, all_ways) in e) ∙ ap (λ (n : ℕ). min (ways_below (Some world) objects n) (2 ^ 64 - 1)) (sym next_is);
              enough = λ one inside. early (Some world) before (each fits) one (let below : one < number = omega (arith, inside, next_is) in below);
            },
          )

  pub passes_closed : (may : Bool) → Blank → IsCount None objects count → count.next < number → number ≤ 2 ^ 32 → after.next ≡ number
      → after.missing ≡ min (count.missing + (number - count.next)) (2 ^ 64 - 1) → after.ways ≡ count.ways
      → may ≡ nat_le (min (count.missing + (number - count.next)) (2 ^ 64 - 1)) count.ways → Passes None objects number after may
  passes_closed may blank before more range next_is missing_is ways_is may_is = go may may_is
    where
      start : count.missing ≤ count.next
      start = subst (λ (n : ℕ). n ≤ count.next) (sym before.missing_is) (missing_most (known_at objects) count.next)

      whole : missing_below (known_at objects) number ≡ missing_below (known_at objects) count.next + (number - count.next)
      whole = let place : count.next + (number - count.next) ≡ number = omega (arith, more) in ap (missing_below (known_at objects)) (sym place) ∙ missing_at blank (number - count.next) (omega (arith, more))

      ways_at : (k : ℕ) → count.next + k ≤ number → ways_below None objects (count.next + k) ≡ ways_below None objects count.next
      ways_at k within = ways_closed objects count.next k (λ n low high. blank n low (omega (arith, high, within)))

      all_ways : ways_below None objects number ≡ ways_below None objects count.next
      all_ways = let place : count.next + (number - count.next) ≡ number = omega (arith, more) in ap (ways_below None objects) (sym place) ∙ ways_at (number - count.next) (omega (arith, more))

      wants : (k : ℕ) → count.next + k < number → missing_below (known_at objects) (suc (count.next + k)) ≡ missing_below (known_at objects) count.next + suc k
      wants k within =
          let one : missing_below (known_at objects) (count.next + suc k) ≡ missing_below (known_at objects) count.next + suc k = missing_at blank (suc k) (omega (arith, within)) in
          let same : count.next + suc k ≡ suc (count.next + k) = omega arith in
          ap (missing_below (known_at objects)) (sym same) ∙ one

      go : (b : Bool) → b ≡ nat_le (min (count.missing + (number - count.next)) (2 ^ 64 - 1)) count.ways → Passes None objects number after b
      go false told =
          let few : count.ways < min (count.missing + (number - count.next)) (2 ^ 64 - 1) = leb-false (min (count.missing + (number - count.next)) (2 ^ 64 - 1)) count.ways (sym told) in
          let last : ℕ = number - count.next - 1 in
          let inside : count.next + last < number = omega (arith, more) in
          let sought = wants last inside in
          let given = ways_at last (omega (arith, inside)) in
          (count.next + last, inside, omega (arith, few, sought, given, before.missing_is, before.ways_are, start, more, range))
      go true told =
          let fits : min (count.missing + (number - count.next)) (2 ^ 64 - 1) ≤ count.ways = leb-true (min (count.missing + (number - count.next)) (2 ^ 64 - 1)) count.ways (sym told) in (
            next_is,
            record {
              range = omega (arith, next_is, range);
              missing_is = (let e : after.missing ≡ missing_below (known_at objects) number = omega (arith, missing_is, whole, before.missing_is, start, more, range) in e) ∙ ap (missing_below (known_at objects)) (sym next_is);
              ways_are = ways_is ∙ before.ways_are ∙ ap (λ (n : ℕ). min n (2 ^ 64 - 1)) (sym all_ways) ∙ ap (λ (n : ℕ). min (ways_below None objects n) (2 ^ 64 - 1)) (sym next_is);
              enough = λ one inside. early None before (λ k within. (
                  let sought = wants k within in
                  let given = ways_at k (omega (arith, within)) in
                  omega (arith, sought, given, fits, before.missing_is, before.ways_are, start, within, more, range))) one (let below : one < number = omega (arith, inside, next_is) in below);
            },
          )

  -- the same as the function counts them
  pub passes_some : (fields : Option World) (world : World) (passed : ℕ) (may : Bool) → fields ≡ Some world → passed ≡ number - count.next → (passed ≡ 0 → ⊥)
      → after ≡ record { next = number; missing = min (count.missing + passed) (2 ^ 64 - 1); ways = min (count.ways + min (passed * 2 ^ 32) (2 ^ 64 - 1)) (2 ^ 64 - 1) } → may ≡ nat_lt count.missing count.ways
      → Blank → IsCount fields objects count → count.next ≤ number → number ≤ 2 ^ 32 → Passes fields objects number after may
  passes_some fields world passed may is passed_is some after_is may_is blank before low range =
      subst (λ (f : Option World). Passes f objects number after may) (sym is)
      (passes_open world may blank (subst (λ (f : Option World). IsCount f objects count) is before) (omega (arith, some, passed_is, low)) range (ap (λ (c : Count). c.next) after_is)
      (ap (λ (c : Count). c.missing) after_is ∙ ap (λ (n : ℕ). min (count.missing + n) (2 ^ 64 - 1)) passed_is)
      (ap (λ (c : Count). c.ways) after_is ∙ ap (λ (n : ℕ). min (count.ways + min (n * 2 ^ 32) (2 ^ 64 - 1)) (2 ^ 64 - 1)) passed_is) may_is)

  pub passes_none : (fields : Option World) (passed : ℕ) (may : Bool) → fields ≡ None → passed ≡ number - count.next → (passed ≡ 0 → ⊥)
      → after ≡ record { next = number; missing = min (count.missing + passed) (2 ^ 64 - 1); ways = count.ways } → may ≡ nat_le (min (count.missing + passed) (2 ^ 64 - 1)) count.ways
      → Blank → IsCount fields objects count → count.next ≤ number → number ≤ 2 ^ 32 → Passes fields objects number after may
  passes_none fields passed may is passed_is some after_is may_is blank before low range =
      subst (λ (f : Option World). Passes f objects number after may) (sym is)
      (passes_closed may blank (subst (λ (f : Option World). IsCount f objects count) is before) (omega (arith, some, passed_is, low)) range (ap (λ (c : Count). c.next) after_is)
      (ap (λ (c : Count). c.missing) after_is ∙ ap (λ (n : ℕ). min (count.missing + n) (2 ^ 64 - 1)) passed_is) (ap (λ (c : Count). c.ways) after_is)
      (may_is ∙ ap (λ (n : ℕ). nat_le (min (count.missing + n) (2 ^ 64 - 1)) count.ways) passed_is))

-- ---- all objects

pub counts_all : (fields : Option World) (objects : NamedObjects) (number : ℕ) (after : Count) (told : Bool) → objects.count ≡ number → Passes fields objects number after told → IsTrue told ↔ AreEnough fields objects
counts_all fields objects number after true same passes =
    ((λ told. (λ one inside. passes.1.enough one (let below : one < after.next = omega (arith, inside, same, passes.0) in below))), (λ enough. refl))
counts_all fields objects number after false same passes =
    ((λ none. absurd cc), (λ enough. absurd (let fits = enough passes.0 (let below : passes.0 < objects.count = omega (arith, passes.1, same) in below) in omega (arith, fits, passes.2))))

-- where one object may not be found, not each may
pub stops_at : (fields : Option World) (objects : NamedObjects) (number : ℕ) (after : Count) → number ≤ objects.count → Passes fields objects number after false → AreEnough fields objects → ⊥
stops_at fields objects number after within passes enough =
    let fits = enough passes.0 (let below : passes.0 < objects.count = omega (arith, passes.1, within) in below) in
    omega (arith, fits, passes.2)

-- ---- entry by entry

module _ (fields : Option World) (objects : NamedObjects) (number : ℕ) (count middle after : Count) (object : ℕ) (known : Known) (entries rest : List (ℕ × Known)) where
  -- what the two calls for an entry tell
  abbrev PassesBefore : Bool → Type 0
  PassesBefore told =
      ((other : ℕ) → count.next ≤ other → other < object → known_at objects other ≡ nothing_known) → IsCount fields objects count → count.next ≤ object → object ≤ 2 ^ 32 → Passes fields objects object middle told

  abbrev PassesIt : Bool → Type 0
  PassesIt may = known_at objects middle.next ≡ known → IsCount fields objects middle → middle.next < 2 ^ 32 → Passes fields objects (suc middle.next) after may

  abbrev Left : Type 0
  Left = AreLeft (known_at objects) number count.next entries

  whole : entries ≡ (object, known) ∷ rest → Left → AreLeft (known_at objects) number count.next ((object, known) ∷ rest)
  whole is all = subst (λ (es : List (ℕ × Known)). AreLeft (known_at objects) number count.next es) is all

  before : (told : Bool) → entries ≡ (object, known) ∷ rest → number ≤ 2 ^ 32 → Left → IsCount fields objects count → PassesBefore told → Passes fields objects object middle told
  before told is range all counts first =
      let parts = whole is all in
      first parts.2 counts parts.0 (let inside : object < number = parts.1 in omega (arith, inside, range))

  itself : (may : Bool) → entries ≡ (object, known) ∷ rest → number ≤ 2 ^ 32 → Left → IsCount fields objects count → PassesBefore true → PassesIt may → Passes fields objects (suc middle.next) after may
  itself may is range all counts first second =
      let parts = whole is all in
      let passed = before true is range all counts first in
      let next_is : middle.next ≡ object = passed.0 in
      second (ap (known_at objects) next_is ∙ parts.3) passed.1 (let inside : object < number = parts.1 in omega (arith, inside, range, next_is))

  pub one_entry : (told may : Bool) → entries ≡ (object, known) ∷ rest → told ≡ true → may ≡ true → number ≤ 2 ^ 32 → Left → IsCount fields objects count → PassesBefore told → PassesIt may
      → AreLeft (known_at objects) number after.next rest × (after.next ≤ number) × IsCount fields objects after
  one_entry told may is goes goes_on range all counts first second =
      let parts = whole is all in
      let passed = before true is range all counts (subst PassesBefore goes first) in
      let further = itself true is range all counts (subst PassesBefore goes first) (subst PassesIt goes_on second) in
      let next_is : middle.next ≡ object = passed.0 in
      let after_is : after.next ≡ suc middle.next = further.0 in
      let inside : object < number = parts.1 in
      let place : suc object ≡ after.next = omega (arith, next_is, after_is) in
      (subst (λ (n : ℕ). AreLeft (known_at objects) number n rest) place parts.4, omega (arith, inside, place), further.1)

  pub stops_before : (told : Bool) → entries ≡ (object, known) ∷ rest → told ≡ false → objects.count ≡ number → number ≤ 2 ^ 32 → Left → IsCount fields objects count → PassesBefore told → IsTrue false ↔ AreEnough fields objects
  stops_before told is stops same range all counts first =
      let parts = whole is all in
      let inside : object < number = parts.1 in
      ((λ none. absurd cc), (λ enough. absurd (stops_at fields objects object middle (omega (arith, inside, same)) (before false is range all counts (subst PassesBefore stops first)) enough)))

  pub stops_here : (told may : Bool) → entries ≡ (object, known) ∷ rest → told ≡ true → may ≡ false → objects.count ≡ number → number ≤ 2 ^ 32 → Left → IsCount fields objects count → PassesBefore told → PassesIt may
      → IsTrue false ↔ AreEnough fields objects
  stops_here told may is goes stops same range all counts first second =
      let parts = whole is all in
      let passed = before true is range all counts (subst PassesBefore goes first) in
      let next_is : middle.next ≡ object = passed.0 in
      let inside : object < number = parts.1 in (
        (λ none. absurd cc),
        (λ enough. absurd (stops_at fields objects (suc middle.next) after (omega (arith, inside, same, next_is)) (itself false is range all counts (subst PassesBefore goes first) (subst PassesIt stops second)) enough)),
      )

pub no_entry : (fields : Option World) (objects : NamedObjects) (number : ℕ) (count after : Count) (entries : List (ℕ × Known)) (told : Bool) → entries ≡ [] → objects.count ≡ number → number ≤ 2 ^ 32
    → AreLeft (known_at objects) number count.next entries → count.next ≤ number → IsCount fields objects count
    → (((other : ℕ) → count.next ≤ other → other < number → known_at objects other ≡ nothing_known) → IsCount fields objects count → count.next ≤ number → number ≤ 2 ^ 32 → Passes fields objects number after told)
    → IsTrue told ↔ AreEnough fields objects
no_entry fields objects number count after entries told none same range all low counts passes =
    let blank : AreLeft (known_at objects) number count.next [] = subst (λ (es : List (ℕ × Known)). AreLeft (known_at objects) number count.next es) none all in
    counts_all fields objects number after told same (passes (λ other from below. blank other from) counts low range)

-- ---- the table

absent : (number : ℕ) (entries : List (ℕ × Known)) → AllByRecursion (λ (key : ℕ). number < key) (map (λ (e : ℕ × Known). e.0) entries) → lookup (is_at (nat_cmp number)) entries ≡ None
absent number [] all = refl
absent number (e ∷ es) all =
    let other : is_eq (nat_cmp number e.0) ≡ false = is_key number e.0 ∙ apart (number == e.0) refl in
    ap (λ (b : Bool). cond b (Some e.1) (lookup (is_at (nat_cmp number)) es)) other ∙ absent number es all.1
  where
    apart : (b : Bool) → (number == e.0) ≡ b → b ≡ false
    apart true e2 = absurd (let same : number ≡ e.0 = eqb-true number e.0 e2 in let less : number < e.0 = all.0 in omega (arith, same, less))
    apart false e2 = refl

less_than : (one other : ℕ) → nat_cmp one other ≡ Less → one < other
less_than one other is = go (nat_lt one other) refl (one == other) refl
  where
    go : (a : Bool) → nat_lt one other ≡ a → (b : Bool) → (one == other) ≡ b → one < other
    go true p b q = ltb-true one other p
    go false p true q = absurd (let e : Equal ≡ Less = sym (rw (p, q) refl) ∙ is in cc)
    go false p false q = absurd (let e : Greater ≡ Less = sym (rw (p, q) refl) ∙ is in cc)

above_all : (one other : ℕ) (keys : List ℕ) → one ≤ other → AllByRecursion (λ (key : ℕ). nat_cmp other key ≡ Less) keys → AllByRecursion (λ (key : ℕ). one < key) keys
above_all one other [] low all = tt
above_all one other (key ∷ keys) low all = (let less : other < key = less_than other key all.0 in omega (arith, less, low), above_all one other keys low all.1)

abbrev pub keys_in : List (ℕ × Known) → List ℕ
keys_in entries = map (λ (e : ℕ × Known). e.0) entries

-- the entries of a table by rising key are all that is left from a number on
pub left : (entries : List (ℕ × Known)) (known : ℕ → Known) (count next : ℕ) → IsStrictlySortedBy nat_cmp (keys_in entries) → AllByRecursion (λ (key : ℕ). next ≤ key) (keys_in entries)
    → AllByRecursion (λ (key : ℕ). key < count) (keys_in entries) → ((number : ℕ) → next ≤ number → known number ≡ known_of (lookup (is_at (nat_cmp number)) entries)) → AreLeft known count next entries
unfolding IsStrictlySortedBy
left [] known count next sorted low high is = is
left (e ∷ es) known count next sorted low high is = (
  low.0,
  high.0,
  (λ number from below. is number from ∙ ap known_of (absent number (e ∷ es) (below, above_all number e.0 (keys_in es) (omega (arith, below)) sorted.0))),
  is e.0 low.0 ∙ ap (λ (b : Bool). known_of (cond b (Some e.1) (lookup (is_at (nat_cmp e.0)) es))) (is_key e.0 e.0 ∙ itself e.0),
  left es known count (suc e.0) sorted.1 (later (keys_in es) sorted.0) high.1 (λ number from. is number (let low_is : next ≤ e.0 = low.0 in omega (arith, from, low_is)) ∙ ap (λ (b : Bool). known_of (cond b (Some e.1) (lookup (is_at (nat_cmp number)) es))) (is_key number e.0 ∙ other number from)),
)
  where
    itself : (n : ℕ) → (n == n) ≡ true
    itself n = go (n == n) refl
      where
        go : (b : Bool) → (n == n) ≡ b → (n == n) ≡ true
        go true p = p
        go false p = absurd (eqb-false n n p refl)

    other : (number : ℕ) → suc e.0 ≤ number → (number == e.0) ≡ false
    other number from = go (number == e.0) refl
      where
        go : (b : Bool) → (number == e.0) ≡ b → (number == e.0) ≡ false
        go true p = absurd (let same : number ≡ e.0 = eqb-true number e.0 p in omega (arith, same, from))
        go false p = p

    later : (keys : List ℕ) → AllByRecursion (λ (key : ℕ). nat_cmp e.0 key ≡ Less) keys → AllByRecursion (λ (key : ℕ). suc e.0 ≤ key) keys
    later [] all = tt
    later (key ∷ keys) all = (let less : e.0 < key = less_than e.0 key all.0 in omega (arith, less), later keys all.1)

-- ---- the whole count

pub starts : (fields : Option World) (objects : NamedObjects) → IsCount fields objects (record { next = 0; missing = 0; ways = min (argument_ways fields objects.waiting objects.unseen) (2 ^ 64 - 1) })
starts fields objects = record { range = omega arith; missing_is = refl; ways_are = refl; enough = λ number below. absurd (omega (arith, below)) }

missing_grows : (known : ℕ → Known) (low more : ℕ) → missing_below known low ≤ missing_below known (low + more)
missing_grows known low zero = let same : low + zero ≡ low = omega arith in subst (λ (n : ℕ). missing_below known low ≤ missing_below known n) (sym same) (omega arith)
missing_grows known low (suc more) =
    let before : missing_below known low ≤ missing_below known (low + more) = missing_grows known low more in
    let same : low + suc more ≡ suc (low + more) = omega arith in
    subst (λ (n : ℕ). missing_below known low ≤ missing_below known n) (sym same) (omega (arith, before))

-- where each object is found, there are enough ways
pub all_found : (fields : Option World) (objects : NamedObjects) → missing_below (known_at objects) objects.count ≡ 0 → AreEnough fields objects
all_found fields objects none number inside =
    let place : suc number + (objects.count - suc number) ≡ objects.count = omega (arith, inside) in
    let most : missing_below (known_at objects) (suc number) ≤ missing_below (known_at objects) objects.count = subst (λ (n : ℕ). missing_below (known_at objects) (suc number) ≤ missing_below (known_at objects) n) place
    (missing_grows (known_at objects) (suc number) (objects.count - suc number)) in
    let some : missing_below (known_at objects) (suc number) ≤ 0 = subst (λ (n : ℕ). missing_below (known_at objects) (suc number) ≤ n) none most in
    omega (arith, some)

from_zero : (keys : List ℕ) → AllByRecursion (λ (key : ℕ). 0 ≤ key) keys
from_zero [] = tt
from_zero (key ∷ keys) = (omega arith, from_zero keys)

below_count : (all entries : List (ℕ × Known)) (count missing : ℕ) → IsKept (found_among all) count missing → All (λ (e : ℕ × Known). found_among all e.0 ≡ Some e.1) entries
    → AllByRecursion (λ (key : ℕ). key < count) (keys_in entries)
below_count all [] count missing kept each = tt
below_count all (e ∷ es) count missing kept each = (go (nat_lt e.0 count) refl, below_count all es count missing kept (λ k d inside. each (suc k) d (omega (arith, inside))))
  where
    go : (b : Bool) → nat_lt e.0 count ≡ b → e.0 < count
    go true p = ltb-true e.0 count p
    go false p =
        let here : found_among all e.0 ≡ Some e.1 = each 0 e (omega arith) in
        absurd (none-some e.1 (sym (kept.inside e.0 (ltb-false e.0 count p)) ∙ here))

pub found_all : (fields : Option World) (objects whole : NamedObjects) (before : Count) (entries : List (ℕ × Known)) (missing : ℕ) (told : Bool) → whole ≡ objects
    → before ≡ record { next = 0; missing = 0; ways = min (argument_ways fields whole.waiting whole.unseen) (2 ^ 64 - 1) } → entries ≡ whole.entries
    → IsStrictlySortedBy nat_cmp (keys_in whole.entries) → All (λ (e : ℕ × Known). found_among whole.entries e.0 ≡ Some e.1) whole.entries → IsKept (found_among whole.entries) whole.count missing
    → (whole.count ≡ whole.count → whole.count ≤ 2 ^ 32 → AreLeft (known_at whole) whole.count before.next entries → before.next ≤ whole.count → IsCount fields whole before → IsTrue told ↔ AreEnough fields whole)
    → IsTrue told ↔ AreEnough fields objects
found_all fields objects whole before entries missing told same before_is entries_are sorted each kept tells =
    let next_is : before.next ≡ 0 = ap (λ (c : Count). c.next) before_is in
    let all : AreLeft (known_at whole) whole.count 0 whole.entries = left whole.entries (known_at whole) whole.count 0 sorted (from_zero (keys_in whole.entries)) (below_count whole.entries whole.entries whole.count missing kept each) (λ n low. refl) in
    let from_next : AreLeft (known_at whole) whole.count before.next whole.entries = subst (λ (n : ℕ). AreLeft (known_at whole) whole.count n whole.entries) (sym next_is) all in
    subst (λ (o : NamedObjects). IsTrue told ↔ AreEnough fields o) same
    (tells refl kept.range (subst (λ (es : List (ℕ × Known)). AreLeft (known_at whole) whole.count before.next es) (sym entries_are) from_next) (omega (arith, next_is))
    (subst (λ (c : Count). IsCount fields whole c) (sym before_is) (starts fields whole)))

-- ---- what the table keeps

module _ (found : ℕ → Option Known) (count missing : ℕ) (kept : IsKept found count missing) where
  abbrev Known_of : ℕ → Known
  Known_of number = known_of (found number)

  blank_behind : (number : ℕ) → count ≤ number → known_of (found number) ≡ nothing_known
  blank_behind number from = ap known_of (kept.inside number from)

  -- with more objects
  pub kept_more : (number : ℕ) → number < 2 ^ 32 → count ≤ suc number → IsKept found (suc number) (missing + (suc number - count))
  kept_more number range more =
      let place : count + (suc number - count) ≡ suc number = omega (arith, more) in
      record {
        inside = λ n from. kept.inside n (omega (arith, from, more));
        range = omega (arith, range);
        missing_is = ap (λ (m : ℕ). m + (suc number - count)) kept.missing_is
            ∙ sym (missing_more (λ n. known_of (found n)) count (suc number - count) (λ n low high. blank_behind n low))
            ∙ ap (missing_below (λ n. known_of (found n))) place;
      }

  -- with something else known of an object that is there, which is found as it was
  pub kept_changed : (number : ℕ) (known : Known) (new : ℕ → Option Known) → number < count → ((n : ℕ) → new n ≡ (if n == number then Some known else found n)) → known.is_found ≡ (known_of (found number)).is_found
      → IsKept new count missing
  kept_changed number known new there is same = record {
    inside = λ n from. is n ∙ ap (λ (b : Bool). if b then Some known else found n) (apart n from) ∙ kept.inside n from;
    range = kept.range;
    missing_is = kept.missing_is ∙ missing_same (λ n. known_of (found n)) (λ n. known_of (new n)) count (λ n below. one n);
  }
    where
      apart : (n : ℕ) → count ≤ n → (n == number) ≡ false
      apart n from = go (n == number) refl
        where
          go : (b : Bool) → (n == number) ≡ b → (n == number) ≡ false
          go true p = absurd (let here : n ≡ number = eqb-true n number p in omega (arith, here, from, there))
          go false p = p

      one : (n : ℕ) → (known_of (found n)).is_found ≡ (known_of (new n)).is_found
      one n = go (n == number) refl
        where
          go : (b : Bool) → (n == number) ≡ b → (known_of (found n)).is_found ≡ (known_of (new n)).is_found
          go true p =
              let here : n ≡ number = eqb-true n number p in
              ap (λ (m : ℕ). (known_of (found m)).is_found) here ∙ sym same ∙ ap (λ (o : Option Known). (known_of o).is_found) (sym (is n ∙ ap (λ (b : Bool). if b then Some known else found n) p))
          go false p = ap (λ (o : Option Known). (known_of o).is_found) (sym (is n ∙ ap (λ (b : Bool). if b then Some known else found n) p))

  -- and with one that is found now
  pub kept_found : (number : ℕ) (known : Known) (new : ℕ → Option Known) → number < count → ((n : ℕ) → new n ≡ (if n == number then Some known else found n)) → known.is_found ≡ true
      → (known_of (found number)).is_found ≡ false → IsKept new count (missing - 1)
  kept_found number known new there is now before = record {
    inside = λ n from. is n ∙ ap (λ (b : Bool). if b then Some known else found n) (apart n from) ∙ kept.inside n from;
    range = kept.range;
    missing_is = (
        let less : missing_below (λ n. known_of (found n)) count ≡ suc (missing_below (λ n. known_of (new n)) count) = missing_less (λ n. known_of (found n)) (λ n. known_of (new n)) number count there one before here in
        omega (arith, less, kept.missing_is));
  }
    where
      apart : (n : ℕ) → count ≤ n → (n == number) ≡ false
      apart n from = go (n == number) refl
        where
          go : (b : Bool) → (n == number) ≡ b → (n == number) ≡ false
          go true p = absurd (let here : n ≡ number = eqb-true n number p in omega (arith, here, from, there))
          go false p = p

      one : (n : ℕ) → (n ≡ number → ⊥) → (known_of (found n)).is_found ≡ (known_of (new n)).is_found
      one n other = go (n == number) refl
        where
          go : (b : Bool) → (n == number) ≡ b → (known_of (found n)).is_found ≡ (known_of (new n)).is_found
          go true p = absurd (other (eqb-true n number p))
          go false p = ap (λ (o : Option Known). (known_of o).is_found) (sym (is n ∙ ap (λ (b : Bool). if b then Some known else found n) p))

      here : (known_of (new number)).is_found ≡ true
      here = go (number == number) refl
        where
          go : (b : Bool) → (number == number) ≡ b → (known_of (new number)).is_found ≡ true
          go true p = ap (λ (o : Option Known). (known_of o).is_found) (is number ∙ ap (λ (b : Bool). if b then Some known else found number) p) ∙ now
          go false p = absurd (eqb-false number number p refl)

-- ---- an entry more

pub put_in : (old new : ℕ → Option Known) (number : ℕ) (known : Known) → ((n : ℕ) → new n ≡ cond (is_eq (nat_cmp number n)) (Some known) (old n)) → (n : ℕ) → new n ≡ (if n == number then Some known else old n)
put_in old new number known is n = is n ∙ ap (λ (b : Bool). cond b (Some known) (old n)) (is_key number n ∙ turned (number == n) refl (n == number) refl)
  where
    turned : (a : Bool) → (number == n) ≡ a → (b : Bool) → (n == number) ≡ b → a ≡ b
    turned true p true q = refl
    turned true p false q = absurd (eqb-false n number q (sym (eqb-true number n p)))
    turned false p true q = absurd (eqb-false number n p (sym (eqb-true n number q)))
    turned false p false q = refl

-- ---- what the functions leave

-- a number of objects, as it is counted
pub kept_named : (found : ℕ → Option Known) (count missing number more after : ℕ) → IsKept found count missing → more ≡ number → number < 2 ^ 32 → count < more + 1 → after ≡ min (missing + (more + 1 - count)) (2 ^ 64 - 1)
    → IsKept found (more + 1) after
kept_named found count missing number more after kept more_is range low after_is =
    let place : suc number ≡ more + 1 = omega (arith, more_is) in
    let few : missing ≤ count = subst (λ (m : ℕ). m ≤ count) (sym kept.missing_is) (missing_most (λ n. known_of (found n)) count) in
    let now : missing + (suc number - count) ≡ after = omega (arith, place, after_is, few, range, low) in
    subst (λ (m : ℕ). IsKept found (more + 1) m) now (subst (λ (n : ℕ). IsKept found n (missing + (suc number - count))) place (kept_more found count missing kept number range (omega (arith, low, place))))

module _ (objects view : NamedObjects) (missing number : ℕ) (known : Known) (new : List (ℕ × Known)) (is : view ≡ with_object objects number) (kept : IsKept (found_among view.entries) view.count missing)
    (put : (n : ℕ) → found_among new n ≡ cond (is_eq (nat_cmp number n)) (Some known) (found_among view.entries n)) where
  there : number < view.count
  there = let count_is : view.count ≡ max objects.count (suc number) = ap (λ (o : NamedObjects). o.count) is in omega (arith, count_is)

  here : known_of (found_among view.entries number) ≡ known_at objects number
  here = ap (λ (o : NamedObjects). known_at o number) is

  -- with what is known of an object, which is found as it was
  pub kept_by_note : known.is_found ≡ (known_at objects number).is_found → IsKept (found_among new) view.count missing
  kept_by_note same =
      kept_changed (found_among view.entries) view.count missing kept number known (found_among new) there (put_in (found_among view.entries) (found_among new) number known put)
      (same ∙ ap (λ (k : Known). k.is_found) (sym here))

  -- with an object that is found now
  pub kept_by_find : (less : ℕ) → (known_at objects number).is_found ≡ false → known.is_found ≡ true → less ≡ missing - 1 → IsKept (found_among new) view.count less
  kept_by_find less lost found less_is =
      subst (λ (m : ℕ). IsKept (found_among new) view.count m) (sym less_is)
      (kept_found (found_among view.entries) view.count missing kept number known (found_among new) there (put_in (found_among view.entries) (found_among new) number known put) found
      (ap (λ (k : Known). k.is_found) here ∙ lost))

-- ---- what a slot tells that is seen

module _ (world : World) (Has : ExactType → Length → Type 0) (Names : Type 0) (number : ℕ) (before after : NamedObjects) (shape : Shape) where
  pub sees : (with_it : Option Shape) (told : Shape) (result : Result Bool AllocError) → shape ≡ (known_at before number).shape → with_it ≡ Some told → IsShapeWith world shape Has with_it
      → (Names → IsShapeIn world shape → IfSome with_it (IsShapeIn world)) → IfOk result (λ (seen : Bool). seen ≡ true)
      → OnOk result (after ≡ with_known before number (seen_more (known_at before number) told)) → IfOk result (SeesSlot world Has Names number before after)
  sees with_it told (Err e) is told_is fits names seen known = tt
  sees with_it told (Ok b) is told_is fits names seen known =
      subst (λ (b : Bool). SeesSlot world Has Names number before after b) (sym seen) (
        told,
        subst (λ (s : Shape). IsShapeWith world s Has (Some told)) is (subst (λ (o : Option Shape). IsShapeWith world shape Has o) told_is fits),
        known,
        (λ named there. subst (λ (o : Option Shape). IfSome o (IsShapeIn world)) told_is (names named (subst (IsShapeIn world) (sym is) there))),
      )

  pub sees_none : (with_it : Option Shape) → shape ≡ (known_at before number).shape → with_it ≡ None → IsShapeWith world shape Has with_it → SeesSlot world Has Names number before after false
  sees_none with_it is none fits = subst (λ (s : Shape). IsShapeWith world s Has None) is (subst (λ (o : Option Shape). IsShapeWith world shape Has o) none fits)
