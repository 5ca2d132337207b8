-- Laws of rows that are marked number by number.
use Rattle.std.proofs.Common.{◌≡◌, ℕ, ◌+◌, ◌<◌, ◌==◌, Bool, true, false, ◌||◌, List, length, get_or, set, take, refl, sym, ap, ◌∙◌, inl, inr, get_or-set_same, get_or-set_other, arith}
use Rattle.std.proofs.lemmas.Bool.{or_right, cases_eq, eq-eqb, ne_eqb}
use Rattle.std.proofs.lemmas.List.Folds.{list_any_at, list_any_more}
use Rattle.kb_order.specs.Order.{stands}

-- an item stands in its list
pub item_stands : (numbers : List ℕ) (i : ℕ) → i < length numbers → stands (get_or numbers i 0) numbers ≡ true
item_stands numbers i lt = list_any_at (λ n. n == get_or numbers i 0) numbers i 0 lt (eq-eqb (get_or numbers i 0) (get_or numbers i 0) refl)

-- and is within a row that has a place for each
pub item_inside : (row : List Bool) (numbers : List ℕ) (i size : ℕ) → length row ≡ size → ((number : ℕ) → stands number numbers ≡ true → number < size)
    → i < length numbers → get_or numbers i 0 < length row
item_inside row numbers i size e h lt =
    let inside : get_or numbers i 0 < size = h (get_or numbers i 0) (item_stands numbers i lt) in omega (arith, e, inside)

or_false : (b c : Bool) → c ≡ false → b ≡ (b || c)
or_false true c e = refl
or_false false c e = sym e

-- the marks of the first items, with one item more
pub row_more : (row : List Bool) (numbers : List ℕ) (i : ℕ) → i < length numbers → get_or numbers i 0 < length row
    → ((k : ℕ) → get_or row k false ≡ stands k (take i numbers))
    → (k : ℕ) → get_or (set row (get_or numbers i 0) true) k false ≡ stands k (take (i + 1) numbers)
row_more row numbers i lt inside h k =
    let number = get_or numbers i 0 in
    let more = list_any_more (λ n. n == k) numbers i 0 lt in
    elim (cases_eq number k) [
      | inl e ↦ ap (λ z. get_or (set row number true) z false) (sym e) ∙ (get_or-set_same row number true false inside
          ∙ sym (more ∙ or_right (stands k (take i numbers)) (number == k) (eq-eqb number k e)))
      | inr n ↦ get_or-set_other row number k true false (λ e. n (sym e)) ∙ (h k
          ∙ (or_false (stands k (take i numbers)) (number == k) (ne_eqb number k n) ∙ sym more))
    ]
