-- The walk over tasks meets the terms that the definition meets, in its order, and ends.
use Rattle.std.proofs.Common.{◌≡◌, ◌≢◌, ℕ, zero, suc, ◌+◌, ◌^◌, ◌<◌, ◌≤◌, ◌==◌, Bool, true, false, List, [], ◌∷◌, ◌++◌, length, length-append, append_assoc, append-nil, Option, Some, None, Result, Ok, Err, OnOk, refl, sym, ap, subst, ◌∙◌, arith, reverse, if◌then◌else◌}
use Rattle.std.specs.Prelude.{slice_get, nat_lt, fold, ◌||◌}
use Rattle.std.specs.Option.{option_map_or}
use Rattle.std.specs.declared.alloc.AllocError.{AllocError}
use Rattle.std.proofs.lemmas.Bool.{lt-ltb, ltb-true, ltb-false, eqb-true, eqb-false}
use Rattle.std.proofs.lemmas.List.{reverse-append}
use Rattle.std.proofs.lemmas.List.Folds.{list_any-append}
use Rattle.std.proofs.lemmas.List.Sums.{fold-append}
use Rattle.std.proofs.Math.Nat.{one-le-pow, pow-le-pow_right}
use Rattle.std.proofs.lemmas.Grind.{pow_more}
use Rattle.kb_terms.specs.declared.listing.Operand.{Operand}
use Rattle.kb_terms.specs.declared.listing.Operand.TheVariants.{Const, Var, Term as TermOperand}
use Rattle.kb_terms.specs.declared.listing.Term.{Term}
use Rattle.kb_picture.specs.Numbering.{met_below, has_number, terms_of_operand, terms_of_second, terms_below}
use Rattle.kb_picture.specs.WellFormed.{numbers_below}
use Rattle.kb_report_known.specs.Walk.{IsBefore, IsSecondBefore, AreFormed, operand_tasks, second_tasks, term_tasks, tasks_left, met_after, met_behind}
use Rattle.kb_report_known.specs.declared.terms.Task.{Task}
use Rattle.kb_report_known.specs.declared.terms.Task.TheVariants.{Enter, Meet}

-- ---- the numbers below one

not_below : (number met : ℕ) → met ≤ number → nat_lt number met ≡ false
not_below number met h = go (nat_lt number met) refl
  where
    go : (b : Bool) → nat_lt number met ≡ b → nat_lt number met ≡ false
    go true e = absurd (let below : number < met = ltb-true number met e in omega (arith, below, h))
    go false e = e

-- a number is one of those below n where it is below n
pub below_has : (n t : ℕ) → has_number (numbers_below n) t ≡ nat_lt t n
below_has zero t = sym (not_below t 0 (omega arith))
below_has (suc n) t = list_any-append (λ x. x == t) (numbers_below n) (n ∷ []) ∙ ap (λ (b : Bool). b || ((n == t) || false)) (below_has n t) ∙ go (nat_lt t n) refl (n == t) refl
  where
    last : (b : Bool) → nat_lt t (suc n) ≡ b → n ≤ t → (n ≡ t → ⊥) → false ≡ nat_lt t (suc n)
    last true e low other = absurd (other (let below : t < suc n = ltb-true t (suc n) e in omega (arith, low, below)))
    last false e low other = sym e

    go : (a : Bool) → nat_lt t n ≡ a → (b : Bool) → (n == t) ≡ b → (nat_lt t n || ((n == t) || false)) ≡ nat_lt t (suc n)
    go true p b q = rw p (sym (lt-ltb t (suc n) (let below : t < n = ltb-true t n p in omega (arith, below))))
    go false p true q = rw (p, q) (sym (lt-ltb t (suc n) (let same : n ≡ t = eqb-true n t q in omega (arith, same))))
    go false p false q = rw (p, q) (last (nat_lt t (suc n)) refl (ltb-false t n p) (eqb-false n t q))

beyond : (xs : List ℕ) (i : ℕ) → length xs ≤ i → (v : ℕ) → slice_get xs i ≡ Some v → ⊥
beyond [] i h v e = cc
beyond (x ∷ xs) zero h v e = omega (arith, h)
beyond (x ∷ xs) (suc i) h v e = beyond xs i (omega (arith, h)) v e

-- the number at a place is that place
length_below : (n : ℕ) → length (numbers_below n) ≡ n
length_below zero = refl
length_below (suc n) = let before : length (numbers_below n) ≡ n = length_below n in omega (arith, before, length-append (numbers_below n) (n ∷ []))

get_front : (xs ys : List ℕ) (i : ℕ) → i < length xs → slice_get (xs ++ ys) i ≡ slice_get xs i
get_front [] ys i h = absurd (omega (arith, h))
get_front (x ∷ xs) ys zero h = refl
get_front (x ∷ xs) ys (suc i) h = get_front xs ys i (omega (arith, h))

get_behind : (xs ys : List ℕ) → slice_get (xs ++ ys) (length xs) ≡ slice_get ys 0
get_behind [] ys = refl
get_behind (x ∷ xs) ys = get_behind xs ys

below_at : (n i v : ℕ) → slice_get (numbers_below n) i ≡ Some v → v ≡ i
below_at zero i v e = absurd cc
below_at (suc n) i v e = go (λ k. below_at n i v k) (nat_lt i n) refl
  where
    go : (slice_get (numbers_below n) i ≡ Some v → v ≡ i) → (b : Bool) → nat_lt i n ≡ b → v ≡ i
    go again true h =
        let inside : i < n = ltb-true i n h in
        again (sym (get_front (numbers_below n) (n ∷ []) i (omega (arith, inside, length_below n))) ∙ e)
    go again false h = last (nat_lt n i) refl
      where
        last : (b : Bool) → nat_lt n i ≡ b → v ≡ i
        last true k = absurd (beyond (numbers_below n ++ n ∷ []) i (let more : n < i = ltb-true n i k in omega (arith, more, length_below n, length-append (numbers_below n) (n ∷ []))) v e)
        last false k =
            let same : i ≡ length (numbers_below n) = (let low = ltb-false i n h in let high = ltb-false n i k in omega (arith, low, high, length_below n)) in
            let here : Some n ≡ Some v = sym (get_behind (numbers_below n) (n ∷ [])) ∙ ap (slice_get (numbers_below n ++ n ∷ [])) (sym same) ∙ e in
            let number : n ≡ v = cc in
            omega (arith, number, same, length_below n)

not_next : (met t : ℕ) (more : List ℕ) (after : ℕ) → t ≢ met → numbers_below met ++ (t ∷ more) ≡ numbers_below after → ⊥
not_next met t more after other e =
    let at : slice_get (numbers_below met ++ (t ∷ more)) (length (numbers_below met)) ≡ Some t = get_behind (numbers_below met) (t ∷ more) in
    let here : slice_get (numbers_below after) met ≡ Some t = ap (λ (l : List ℕ). slice_get l met) (sym e) ∙ ap (slice_get (numbers_below met ++ (t ∷ more))) (sym (length_below met)) ∙ at in
    other (below_at after met t here)

-- ---- operands stand before their term

abbrev AllBelow : ℕ → List ℕ → Type 0
AllBelow t [] = Unit {0}
AllBelow t (x ∷ xs) = (x < t) × AllBelow t xs

below-++ : (t : ℕ) (xs ys : List ℕ) → AllBelow t xs → AllBelow t ys → AllBelow t (xs ++ ys)
below-++ t [] ys p q = q
below-++ t (x ∷ xs) ys p q = (p.0, below-++ t xs ys p.1 q)

operand_below : (t : ℕ) (operand : Operand) → IsBefore t operand → AllBelow t (terms_of_operand operand)
operand_below t (Const c) h = tt
operand_below t (Var v) h = tt
operand_below t (TermOperand u) h = (h, tt)

second_below : (t : ℕ) (second : Option Operand) → IsSecondBefore t second → AllBelow t (terms_of_second second)
second_below t None h = tt
second_below t (Some operand) h = operand_below t operand h

module _ (terms : List Term) (formed : AreFormed terms) where
  abbrev Visit : ℕ → List ℕ → ℕ → List ℕ
  Visit depth done t = met_below depth terms done t

  there_below : (t : ℕ) (there : Option Term) → slice_get terms t ≡ there → AllBelow t (option_map_or terms_below there [])
  there_below t None e = tt
  there_below t (Some term) e =
      let operands = formed t term e in
      below-++ t (terms_of_operand term.left) (terms_of_second term.right) (operand_below t term.left operands.0) (second_below t term.right operands.1)

  fold_same : (f g : List ℕ → ℕ → List ℕ) (t : ℕ) (xs : List ℕ) (done : List ℕ) → AllBelow t xs → ((d : List ℕ) (u : ℕ) → u < t → f d u ≡ g d u) → fold f done xs ≡ fold g done xs
  fold_same f g t [] done below same = refl
  fold_same f g t (x ∷ xs) done below same = ap (λ (d : List ℕ). fold f d xs) (same done x below.0) ∙ fold_same f g t xs (g done x) below.1 same

  -- a visit looks no deeper than the term's number
  same_depth : (f g : ℕ) (done : List ℕ) (t : ℕ) → t < f → t < g → Visit f done t ≡ Visit g done t
  unfolding met_below
  same_depth zero g done t h k = absurd (omega (arith, h))
  same_depth (suc f) zero done t h k = absurd (omega (arith, k))
  same_depth (suc f) (suc g) done t h k =
      ap (λ (d : List ℕ). if has_number done t then done else d ++ t ∷ [])
      (fold_same (met_below f terms) (met_below g terms) t (option_map_or terms_below (slice_get terms t) []) done (there_below t (slice_get terms t) refl)
      (λ d u below. same_depth f g d u (omega (arith, below, h)) (omega (arith, below, k))))

  abbrev Walk : List ℕ → ℕ → List ℕ
  Walk done t = met_below (length terms) terms done t

  -- the definition of a visit, without the depth
  visit_is : (done : List ℕ) (t : ℕ) → t < length terms
      → Walk done t ≡ (if has_number done t then done else fold (met_below (length terms) terms) done (option_map_or terms_below (slice_get terms t) []) ++ t ∷ [])
  unfolding met_below
  visit_is done t inside = same_depth (length terms) (suc (length terms)) done t inside (omega (arith, inside))

  -- ---- tasks

  -- what is met behind all tasks, the first one first
  unfoldable pub finish : List Task → List ℕ → List ℕ
  finish [] done = done
  finish (Enter t ∷ tasks) done = finish tasks (Walk done t)
  finish (Meet t ∷ tasks) done = finish tasks (done ++ t ∷ [])

  finish-append : (ks ls : List Task) (done : List ℕ) → finish (ks ++ ls) done ≡ finish ls (finish ks done)
  unfolding finish
  finish-append [] ls done = refl
  finish-append (Enter t ∷ ks) ls done = finish-append ks ls (Walk done t)
  finish-append (Meet t ∷ ks) ls done = finish-append ks ls (done ++ t ∷ [])

  operand_finish : (number : ℕ) (operand : Operand) (done : List ℕ) → IsBefore number operand → finish (operand_tasks number operand) done ≡ fold (met_below (length terms) terms) done (terms_of_operand operand)
  unfolding finish
  operand_finish number (Const c) done h = refl
  operand_finish number (Var v) done h = refl
  operand_finish number (TermOperand u) done h = rw (lt-ltb u number h) refl

  second_finish : (number : ℕ) (second : Option Operand) (done : List ℕ) → IsSecondBefore number second → finish (second_tasks number second) done ≡ fold (met_below (length terms) terms) done (terms_of_second second)
  unfolding finish
  second_finish number None done h = refl
  second_finish number (Some operand) done h = operand_finish number operand done h

  term_finish : (number : ℕ) (there : Option Term) (done : List ℕ) → slice_get terms number ≡ there
      → finish (term_tasks number there) done ≡ fold (met_below (length terms) terms) done (option_map_or terms_below there []) ++ number ∷ []
  unfolding finish
  term_finish number None done e = refl
  term_finish number (Some term) done e =
      let operands = formed number term e in
      let step = met_below (length terms) terms in
      finish-append (operand_tasks number term.left) (second_tasks number term.right ++ Meet number ∷ []) done
      ∙ ap (finish (second_tasks number term.right ++ Meet number ∷ [])) (operand_finish number term.left done operands.0)
      ∙ finish-append (second_tasks number term.right) (Meet number ∷ []) (fold step done (terms_of_operand term.left))
      ∙ ap (finish (Meet number ∷ [])) (second_finish number term.right (fold step done (terms_of_operand term.left)) operands.1)
      ∙ ap (λ (d : List ℕ). d ++ number ∷ []) (sym (fold-append step done (terms_of_operand term.left) (terms_of_second term.right)))

  pub met_step : (t : ℕ) (tasks : List Task) (done : List ℕ) → finish tasks (done ++ t ∷ []) ≡ finish (Meet t ∷ tasks) done
  unfolding finish
  met_step t tasks done = refl

  -- coming to a term and the tasks that this leaves come to the same
  enter_finish : (met t : ℕ) → t < length terms → finish (tasks_left terms met (Enter t)) (numbers_below met) ≡ Walk (numbers_below met) t
  unfolding finish
  enter_finish met t inside = go (nat_lt t met) (below_has met t) ∙ sym (visit_is (numbers_below met) t inside)
    where
      go : (b : Bool) → has_number (numbers_below met) t ≡ b
          → finish (if b then [] else term_tasks t (slice_get terms t)) (numbers_below met)
          ≡ (if has_number (numbers_below met) t then numbers_below met else fold (met_below (length terms) terms) (numbers_below met) (option_map_or terms_below (slice_get terms t) []) ++ t ∷ [])
      go true e = rw e refl
      go false e = rw e (term_finish t (slice_get terms t) (numbers_below met) refl)

  pub turn_enter : (met t : ℕ) (rest : List Task) → t < length terms → finish (tasks_left terms met (Enter t) ++ rest) (numbers_below met) ≡ finish (Enter t ∷ rest) (numbers_below met)
  unfolding finish
  turn_enter met t rest inside = finish-append (tasks_left terms met (Enter t)) rest (numbers_below met) ∙ ap (finish rest) (enter_finish met t inside)

  -- a visit only adds to what is met
  folded_grown : (step : List ℕ → ℕ → List ℕ) → ((d : List ℕ) (u : ℕ) → (more : List ℕ) × (step d u ≡ d ++ more)) → (xs : List ℕ) (d : List ℕ) → (more : List ℕ) × (fold step d xs ≡ d ++ more)
  folded_grown step grows [] d = ([], sym (append-nil d))
  folded_grown step grows (x ∷ xs) d =
      let first = grows d x in
      let rest = folded_grown step grows xs (step d x) in
      (first.0 ++ rest.0, rest.1 ∙ ap (λ (l : List ℕ). l ++ rest.0) first.1 ∙ append_assoc d first.0 rest.0)

  visit_grown : (depth : ℕ) (done : List ℕ) (t : ℕ) → (more : List ℕ) × (met_below depth terms done t ≡ done ++ more)
  unfolding met_below
  visit_grown zero done t = ([], sym (append-nil done))
  visit_grown (suc depth) done t = go (folded_grown (met_below depth terms) (λ d u. visit_grown depth d u) (option_map_or terms_below (slice_get terms t) []) done) (has_number done t)
    where
      go : (more : List ℕ) × (fold (met_below depth terms) done (option_map_or terms_below (slice_get terms t) []) ≡ done ++ more) → (b : Bool)
          → (more : List ℕ) × ((if b then done else fold (met_below depth terms) done (option_map_or terms_below (slice_get terms t) []) ++ t ∷ []) ≡ done ++ more)
      go all true = ([], sym (append-nil done))
      go all false = (all.0 ++ t ∷ [], ap (λ (l : List ℕ). l ++ t ∷ []) all.1 ∙ append_assoc done all.0 (t ∷ []))

  -- tasks only add to what is met
  grown : (tasks : List Task) (done : List ℕ) → (more : List ℕ) × (finish tasks done ≡ done ++ more)
  unfolding finish
  grown [] done = ([], sym (append-nil done))
  grown (Enter t ∷ tasks) done =
      let first = visit_grown (length terms) done t in
      let rest = grown tasks (Walk done t) in
      (first.0 ++ rest.0, rest.1 ∙ ap (λ (d : List ℕ). d ++ rest.0) first.1 ∙ append_assoc done first.0 rest.0)
  grown (Meet t ∷ tasks) done =
      let rest = grown tasks (done ++ t ∷ []) in
      (t ∷ rest.0, rest.1 ∙ append_assoc done (t ∷ []) rest.0)

  -- where another term than the next one is met, what is met is no first terms
  pub out_of_order : (met t : ℕ) (tasks : List Task) (after : ℕ) → t ≢ met → finish (Meet t ∷ tasks) (numbers_below met) ≡ numbers_below after → ⊥
  out_of_order met t tasks after other e =
      let rest = grown tasks (numbers_below met ++ t ∷ []) in
      not_next met t rest.0 after other (sym (append_assoc (numbers_below met) (t ∷ []) rest.0) ∙ sym rest.1 ∙ met_step t tasks (numbers_below met) ∙ e)

-- ---- the loop, whose tasks stand in a stack

-- a term that is to be come to is there
abbrev IsTask : List Term → Task → Type 0
IsTask terms (Enter t) = t < length terms
IsTask terms (Meet t) = Unit {0}

unfoldable pub AreTasks : List Term → List Task → Type 0
AreTasks terms [] = Unit {0}
AreTasks terms (k ∷ ks) = IsTask terms k × AreTasks terms ks

AreTasks-append : (terms : List Term) (ks ls : List Task) → AreTasks terms ks → AreTasks terms ls → AreTasks terms (ks ++ ls)
unfolding AreTasks
AreTasks-append terms [] ls h g = g
AreTasks-append terms (k ∷ ks) ls h g = (h.0, AreTasks-append terms ks ls h.1 g)

operand_are : (terms : List Term) (number : ℕ) (operand : Operand) → number < length terms → AreTasks terms (operand_tasks number operand)
unfolding AreTasks
operand_are terms number (Const c) inside = tt
operand_are terms number (Var v) inside = tt
operand_are terms number (TermOperand u) inside = go (nat_lt u number) refl
  where
    go : (b : Bool) → nat_lt u number ≡ b → AreTasks terms (if b then Enter u ∷ [] else [])
    go true e = (let below : u < number = ltb-true u number e in omega (arith, below, inside), tt)
    go false e = tt

second_are : (terms : List Term) (number : ℕ) (second : Option Operand) → number < length terms → AreTasks terms (second_tasks number second)
unfolding AreTasks
second_are terms number None inside = tt
second_are terms number (Some operand) inside = operand_are terms number operand inside

term_are : (terms : List Term) (number : ℕ) (there : Option Term) → number < length terms → AreTasks terms (term_tasks number there)
unfolding AreTasks
term_are terms number None inside = (tt, tt)
term_are terms number (Some term) inside =
    AreTasks-append terms (operand_tasks number term.left) (second_tasks number term.right ++ Meet number ∷ []) (operand_are terms number term.left inside)
    (AreTasks-append terms (second_tasks number term.right) (Meet number ∷ []) (second_are terms number term.right inside) (tt, tt))

left_are : (terms : List Term) (met : ℕ) (task : Task) → IsTask terms task → AreTasks terms (tasks_left terms met task)
unfolding AreTasks
left_are terms met (Meet t) inside = tt
left_are terms met (Enter t) inside = go (nat_lt t met)
  where
    go : (b : Bool) → AreTasks terms (if b then [] else term_tasks t (slice_get terms t))
    go true = tt
    go false = term_are terms t (slice_get terms t) inside

-- a bound on the work that is left
unfoldable pub task_weight : Task → ℕ
task_weight (Enter t) = 4 ^ (t + 1)
task_weight (Meet t) = 1

unfoldable pub weight : List Task → ℕ
weight [] = 0
weight (k ∷ ks) = task_weight k + weight ks

weight-append : (ks ls : List Task) → weight (ks ++ ls) ≡ weight ks + weight ls
unfolding weight
weight-append [] ls = omega arith
weight-append (k ∷ ks) ls = omega (arith, weight-append ks ls)

power-positive : (n : ℕ) → 0 < 4 ^ n
power-positive n = omega (arith, one-le-pow n 4 (omega arith))

operand_weight : (number : ℕ) (operand : Operand) → weight (operand_tasks number operand) ≤ 4 ^ number
unfolding weight task_weight
operand_weight number (Const c) = omega (arith, power-positive number)
operand_weight number (Var v) = omega (arith, power-positive number)
operand_weight number (TermOperand u) = go (nat_lt u number) refl
  where
    go : (b : Bool) → nat_lt u number ≡ b → weight (if b then Enter u ∷ [] else []) ≤ 4 ^ number
    go true e =
        let below : u < number = ltb-true u number e in
        let four : 0 < 4 = omega arith in
        let within : 4 ^ (u + 1) ≤ 4 ^ number = pow-le-pow_right four {i = u + 1} {j = number} (omega (arith, below)) in
        omega (arith, within)
    go false e = omega (arith, power-positive number)

second_weight : (number : ℕ) (second : Option Operand) → weight (second_tasks number second) ≤ 4 ^ number
unfolding weight
second_weight number None = omega (arith, power-positive number)
second_weight number (Some operand) = operand_weight number operand

term_weight : (number : ℕ) (there : Option Term) → weight (term_tasks number there) < 4 ^ (number + 1)
unfolding weight task_weight
term_weight number None = omega (arith, power-positive number, pow_more 4 number)
term_weight number (Some term) =
    omega (
      arith,
      pow_more 4 number,
      power-positive number,
      operand_weight number term.left,
      second_weight number term.right,
      weight-append (operand_tasks number term.left) (second_tasks number term.right ++ Meet number ∷ []),
      weight-append (second_tasks number term.right) (Meet number ∷ []),
    )

left_weight : (terms : List Term) (met : ℕ) (task : Task) → weight (tasks_left terms met task) < task_weight task
unfolding weight task_weight
left_weight terms met (Meet t) = omega arith
left_weight terms met (Enter t) = go (nat_lt t met)
  where
    go : (b : Bool) → weight (if b then [] else term_tasks t (slice_get terms t)) < 4 ^ (t + 1)
    go true = power-positive (t + 1)
    go false = term_weight t (slice_get terms t)

popped : (tasks rest : List Task) (k : Task) → tasks ≡ rest ++ k ∷ [] → reverse tasks ≡ k ∷ reverse rest
popped tasks rest k e = ap reverse e ∙ reverse-append rest (k ∷ [])

pub smaller : (terms : List Term) (met : ℕ) (tasks rest new : List Task) (k : Task) → tasks ≡ rest ++ k ∷ [] → reverse new ≡ tasks_left terms met k ++ reverse rest → weight (reverse new) < weight (reverse tasks)
unfolding weight
smaller terms met tasks rest new k e left =
    omega (arith, ap weight left, ap weight (popped tasks rest k e), weight-append (tasks_left terms met k) (reverse rest), left_weight terms met k)

-- ---- the tasks of a term

pub entered : (number met : ℕ) (terms : List Term) (term : Term) (old pushed new : List Task) (r : Result (Unit {0}) AllocError) → met ≤ number → slice_get terms number ≡ Some term → pushed ≡ old ++ Meet number ∷ []
    → OnOk r (reverse new ≡ operand_tasks number term.left ++ (second_tasks number term.right ++ reverse pushed)) → OnOk r (reverse new ≡ tasks_left terms met (Enter number) ++ reverse old)
entered number met terms term old pushed new (Err e) h there more is = tt
entered number met terms term old pushed new (Ok v) h there more is =
    is ∙ ap (λ (ks : List Task). operand_tasks number term.left ++ (second_tasks number term.right ++ ks)) (ap reverse more ∙ reverse-append old (Meet number ∷ []))
    ∙ ap (λ (ks : List Task). operand_tasks number term.left ++ ks) (sym (append_assoc (second_tasks number term.right) (Meet number ∷ []) (reverse old)))
    ∙ sym (append_assoc (operand_tasks number term.left) (second_tasks number term.right ++ Meet number ∷ []) (reverse old))
    ∙ ap (λ (t : Option Term). term_tasks number t ++ reverse old) (sym there)
    ∙ ap (λ (b : Bool). (if b then [] else term_tasks number (slice_get terms number)) ++ reverse old) (sym (not_below number met h))

pub entered_none : (number met : ℕ) (terms : List Term) (old pushed : List Task) → met ≤ number → slice_get terms number ≡ None → pushed ≡ old ++ Meet number ∷ []
    → reverse pushed ≡ tasks_left terms met (Enter number) ++ reverse old
entered_none number met terms old pushed h none more =
    ap reverse more ∙ reverse-append old (Meet number ∷ [])
    ∙ ap (λ (t : Option Term). term_tasks number t ++ reverse old) (sym none)
    ∙ ap (λ (b : Bool). (if b then [] else term_tasks number (slice_get terms number)) ++ reverse old) (sym (not_below number met h))

-- what the tasks come to is what the walk from the root comes to
pub record IsOnWay (terms : List Term) (before root met : ℕ) (tasks : List Task) (formed : AreFormed terms) : Type 0 where
  pub are : AreTasks terms (reverse tasks)
  pub is : finish terms formed (reverse tasks) (numbers_below met) ≡ met_behind terms before (root ∷ [])

abbrev pub OnWay : List Term → ℕ → ℕ → ℕ → List Task → Type 0
OnWay terms before root met tasks = (formed : AreFormed terms) → root < length terms → IsOnWay terms before root met tasks formed

pub starts : (terms : List Term) (before root : ℕ) (old tasks : List Task) → old ≡ [] → tasks ≡ old ++ Enter root ∷ [] → OnWay terms before root before tasks
unfolding AreTasks finish
starts terms before root old tasks idle pushed formed inside =
    let e : tasks ≡ Enter root ∷ [] = pushed ∙ ap (λ (ks : List Task). ks ++ Enter root ∷ []) idle in
    record {
      are = subst (λ (ks : List Task). AreTasks terms (reverse ks)) (sym e) (inside, tt);
      is = ap (λ (ks : List Task). finish terms formed (reverse ks) (numbers_below before)) e;
    }

pub turn : (terms : List Term) (before root met next : ℕ) (tasks rest new : List Task) (k : Task) → tasks ≡ rest ++ k ∷ [] → reverse new ≡ tasks_left terms met k ++ reverse rest
    → Some next ≡ met_after met k → OnWay terms before root met tasks → OnWay terms before root next new
unfolding AreTasks
turn terms before root met next tasks rest new k e left goes way formed inside =
    let before_turn = way formed inside in
    let ks : reverse tasks ≡ k ∷ reverse rest = popped tasks rest k e in
    let both : AreTasks terms (k ∷ reverse rest) = subst (AreTasks terms) ks before_turn.are in
    record {
      are = subst (AreTasks terms) (sym left) (AreTasks-append terms (tasks_left terms met k) (reverse rest) (left_are terms met k both.0) both.1);
      is = ap (λ (xs : List Task). finish terms formed xs (numbers_below next)) left ∙ step k goes both.0
          ∙ ap (λ (xs : List Task). finish terms formed xs (numbers_below met)) (sym ks) ∙ before_turn.is;
    }
  where
    meet : (t : ℕ) (b : Bool) → (t == met) ≡ b → Some next ≡ (if b then Some (suc met) else None) → finish terms formed (reverse rest) (numbers_below next) ≡ finish terms formed (Meet t ∷ reverse rest) (numbers_below met)
    meet t true h goes =
        let same : t ≡ met = eqb-true t met h in
        let more : next ≡ suc met = cc in
        ap (λ (n : ℕ). finish terms formed (reverse rest) (numbers_below n)) more ∙ ap (λ (n : ℕ). finish terms formed (reverse rest) (numbers_below met ++ n ∷ [])) (sym same) ∙ met_step terms formed t (reverse rest) (numbers_below met)
    meet t false h goes = absurd cc

    step : (k : Task) → Some next ≡ met_after met k → IsTask terms k → finish terms formed (tasks_left terms met k ++ reverse rest) (numbers_below next) ≡ finish terms formed (k ∷ reverse rest) (numbers_below met)
    step (Enter t) goes there =
        let same : next ≡ met = cc in
        ap (λ (n : ℕ). finish terms formed (tasks_left terms met (Enter t) ++ reverse rest) (numbers_below n)) same ∙ turn_enter terms formed met t (reverse rest) there
    step (Meet t) goes there = meet t (t == met) refl goes

pub stops : (terms : List Term) (before root met : ℕ) (tasks rest : List Task) (k : Task) → tasks ≡ rest ++ k ∷ [] → None ≡ met_after met k → OnWay terms before root met tasks
    → AreFormed terms → root < length terms → (after : ℕ) → met_behind terms before (root ∷ []) ≡ numbers_below after → ⊥
stops terms before root met tasks rest (Enter t) e none way formed inside after all = absurd cc
stops terms before root met tasks rest (Meet t) e none way formed inside after all =
    go (t == met) refl none
  where
    go : (b : Bool) → (t == met) ≡ b → None ≡ (if b then Some (suc met) else None) → ⊥
    go true h n = cc
    go false h n = out_of_order terms formed met t (reverse rest) after (eqb-false t met h)
        (ap (λ (xs : List Task). finish terms formed xs (numbers_below met)) (sym (popped tasks rest (Meet t) e)) ∙ (way formed inside).is ∙ all)

pub ends : (terms : List Term) (before root met : ℕ) (tasks rest : List Task) → tasks ≡ rest ++ [] → length rest ≡ 0 → OnWay terms before root met tasks
    → AreFormed terms → root < length terms → met_behind terms before (root ∷ []) ≡ numbers_below met
unfolding finish
ends terms before root met tasks [] e none way formed inside = sym (way formed inside).is ∙ ap (λ (ks : List Task). finish terms formed (reverse ks) (numbers_below met)) e
ends terms before root met tasks (k ∷ ks) e none way formed inside = absurd (omega (arith, none))
