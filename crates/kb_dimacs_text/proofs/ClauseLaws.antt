-- Numbers behind a header, and the clauses that they write.
use Rattle.std.proofs.Common.{◌≡◌, ◌≢◌, ℕ, zero, suc, ◌+◌, ◌<◌, ◌≤◌, ◌^◌, ◌⊎◌, inl, inr, List, [], ◌∷◌, ◌++◌, length, map, refl, sym, ◌∙◌, ap, subst, arith, append_assoc, append-nil, length-append}
use Rattle.std.specs.Prelude.{ℤ, pos, negsuc, ◌==◌, Bool, true, false}
use Rattle.std.proofs.lemmas.Bool.Decides.{nat_tests}
use Rattle.std.proofs.lemmas.Bool.{cases_lt}
use Rattle.std.specs.Int.RustNames.{FitsSigned}
use Rattle.std.proofs.lemmas.Int.{ints}
use Rattle.std.proofs.lemmas.List.Concat.{flat_map-append}
use mir.Syntax.{w32}
use Rattle.kb_chain.specs.Literal.{Literal, literal_of}
use Rattle.kb_chain.specs.Clause.{clause_of}
use Rattle.kb_chain.specs.Cnf.{Cnf, IsWithin}
use Rattle.kb_chain.proofs.ChainLaws.{IsWithin-has, IsWithin-from}
use Rattle.kb_chain.proofs.OrderLaws.{has-clause_of}
use Rattle.kb_dimacs_text.specs.Numbers.{SpellsDimacsNumber, SpellNumbers}
use Rattle.kb_dimacs_text.specs.Dimacs.{IsLiteral, AreLiterals, AreClauses, written, all_written, clause_from, SpellClauses}
use Rattle.kb_dimacs_text.specs.Fronts.{HoldsWords, StopsAtWords, AreAllThere, IsWordCause, AreFine, HasBadWord}
use Rattle.kb_dimacs_text.specs.declared.refusal.Cause.{Cause}
use Rattle.kb_dimacs_text.specs.declared.refusal.Cause.TheVariants.{Header, NoNumber, HighVariable, MoreClauses, EarlyEnd}
use Rattle.kb_dimacs_text.specs.declared.refusal.ReadingStop.{ReadingStop}
use Rattle.kb_dimacs_text.specs.declared.refusal.ReadingStop.TheVariants.{Bad, NoMemory as no_memory}
use Rattle.kb_dimacs_text.specs.declared.body.Body.{Body}

pub same_number : (m n : ℤ) (word : List ℕ) → SpellsDimacsNumber m word → SpellsDimacsNumber n word → m ≡ n
same_number m n word p q = sym p.1 ∙ q.1

-- the numbers of words, behind those of the words in front
pub numbers_behind : (ns ms : List ℤ) (ws vs : List (List ℕ)) → SpellNumbers ns ws → SpellNumbers ms (ws ++ vs)
    → (ks : List ℤ) × (ms ≡ ns ++ ks) × SpellNumbers ks vs
numbers_behind [] ms [] vs p q = (ms, refl, q)
numbers_behind [] ms (w ∷ ws) vs p q = absurd p
numbers_behind (n ∷ ns) ms [] vs p q = absurd p
numbers_behind (n ∷ ns) [] (w ∷ ws) vs p q = absurd q
numbers_behind (n ∷ ns) (m ∷ ms) (w ∷ ws) vs p q =
    let rest = numbers_behind ns ms ws vs p.1 q.1 in
    let same : m ≡ n = same_number m n w q.0 p.0 in
    (rest.0, ap (λ (x : ℤ). x ∷ ms) same ∙ ap (λ (l : List ℤ). n ∷ l) rest.1, rest.2)

pub SpellNumbers-append : (ns ms : List ℤ) (ws vs : List (List ℕ)) → SpellNumbers ns ws → SpellNumbers ms vs → SpellNumbers (ns ++ ms) (ws ++ vs)
SpellNumbers-append [] ms [] vs p q = q
SpellNumbers-append [] ms (w ∷ ws) vs p q = absurd p
SpellNumbers-append (n ∷ ns) ms [] vs p q = absurd p
SpellNumbers-append (n ∷ ns) ms (w ∷ ws) vs p q = (p.0, SpellNumbers-append ns ms ws vs p.1 q)

zero_is_none : (vars : ℕ) (number : ℤ) → IsLiteral vars number → number ≡ pos 0 → ⊥
zero_is_none vars number p e =
    let same : (literal_of number).variable ≡ 0 = ap (λ (n : ℤ). (literal_of n).variable) e in
    omega (arith, p.0)

-- the literals before the first 0, and what stands behind it
pub same_clause : (vars : ℕ) (a b us vs : List ℤ) → AreLiterals vars a → AreLiterals vars b → a ++ pos 0 ∷ us ≡ b ++ pos 0 ∷ vs → (a ≡ b) × (us ≡ vs)
same_clause vars [] [] us vs p q e = (refl, cc)
same_clause vars [] (y ∷ b) us vs p q e = let h : y ≡ pos 0 = cc in absurd (zero_is_none vars y q.0 h)
same_clause vars (x ∷ a) [] us vs p q e = let h : x ≡ pos 0 = cc in absurd (zero_is_none vars x p.0 h)
same_clause vars (x ∷ a) (y ∷ b) us vs p q e =
    let tails : a ++ pos 0 ∷ us ≡ b ++ pos 0 ∷ vs = cc in
    let head : x ≡ y = cc in
    let rest : (a ≡ b) × (us ≡ vs) = same_clause vars a b us vs p.1 q.1 tails in
    (cc, rest.1)

written_first : (clause : List ℤ) (tail : List ℤ) → written clause ++ tail ≡ clause ++ pos 0 ∷ tail
written_first clause tail = append_assoc clause (pos 0 ∷ []) tail

-- clauses that begin with others
pub clauses_behind : (vars : ℕ) (done all : List (List ℤ)) (tail : List ℤ) → AreClauses vars done → AreClauses vars all → all_written all ≡ all_written done ++ tail
    → (more : List (List ℤ)) × (all ≡ done ++ more) × (all_written more ≡ tail) × AreClauses vars more
clauses_behind vars [] all tail p q e = (all, refl, e, q)
clauses_behind vars (clause ∷ done) [] tail p q e = absurd (none clause (all_written done ++ tail) (e ∙ append_assoc (written clause) (all_written done) tail ∙ written_first clause (all_written done ++ tail)))
  where
    none : (a us : List ℤ) → [] ≡ a ++ pos 0 ∷ us → ⊥
    none [] us k = cc
    none (x ∷ a) us k = cc
clauses_behind vars (clause ∷ done) (other ∷ all) tail p q e =
    let parts = same_clause vars other clause (all_written all) (all_written done ++ tail) q.0 p.0
    (sym (written_first other (all_written all)) ∙ (e ∙ (append_assoc (written clause) (all_written done) tail ∙ written_first clause (all_written done ++ tail)))) in
    let rest = clauses_behind vars done all tail p.1 q.1 parts.1 in
    (rest.0, ap (λ (c : List ℤ). c ∷ all) parts.0 ∙ ap (λ (l : List (List ℤ)). clause ∷ l) rest.1, rest.2, rest.3)

-- a number that clauses may have: a literal's, or 0
abbrev pub IsNumber : ℕ → ℤ → Type 0
IsNumber vars number = (number ≡ pos 0) ⊎ IsLiteral vars number

abbrev AreNumbers : ℕ → List ℤ → Type 0
AreNumbers vars [] = Unit {0}
AreNumbers vars (n ∷ ns) = IsNumber vars n × AreNumbers vars ns

clause_numbers : (vars : ℕ) (clause rest : List ℤ) → AreLiterals vars clause → AreNumbers vars rest → AreNumbers vars (clause ++ pos 0 ∷ rest)
clause_numbers vars [] rest p q = (inl refl, q)
clause_numbers vars (n ∷ clause) rest p q = (inr p.0, clause_numbers vars clause rest p.1 q)

are_numbers : (vars : ℕ) (clauses : List (List ℤ)) → AreClauses vars clauses → AreNumbers vars (all_written clauses)
are_numbers vars [] p = tt
are_numbers vars (clause ∷ clauses) p =
    subst (AreNumbers vars) (sym (written_first clause (all_written clauses))) (clause_numbers vars clause (all_written clauses) p.0 (are_numbers vars clauses p.1))

among : (vars : ℕ) (front : List ℤ) (n : ℤ) (back : List ℤ) → AreNumbers vars (front ++ n ∷ back) → IsNumber vars n
among vars [] n back p = p.0
among vars (m ∷ front) n back p = among vars front n back p.1

-- a clause that is begun is none that is whole
begun : (clauses : List (List ℤ)) (front : List ℤ) (n : ℤ) (back : List ℤ) → all_written clauses ≡ front ++ n ∷ back → 0 < length clauses
begun [] [] n back e = absurd cc
begun [] (m ∷ front) n back e = absurd cc
begun (clause ∷ clauses) front n back e = omega arith

-- what is known of a word that clauses have behind the words that are read
pub record NextNumber (body : Body) (word : List ℕ) : Type 0 where
  pub room : length body.formula.clauses < body.count
  pub number : ℤ
  pub spelled : SpellsDimacsNumber number word
  pub is : IsNumber body.formula.vars number

length-clauses : (xs : List (List ℤ)) → length (map clause_from xs) ≡ length xs
length-clauses [] = refl
length-clauses (x ∷ xs) = ap suc (length-clauses xs)

pub next_number : (body : Body) (read more : List (List ℕ)) (word : List ℕ) (clauses : List (List ℤ)) → HoldsWords body read
    → SpellClauses body.formula.vars body.count clauses (read ++ word ∷ more) → NextNumber body word
next_number body read more word clauses held spells =
    let behind = numbers_behind (all_written held.clauses ++ held.numbers) (all_written clauses) read (word ∷ more) held.words_are spells.words_are in
    go behind.0 behind.1 behind.2
  where
    go : (ks : List ℤ) → all_written clauses ≡ (all_written held.clauses ++ held.numbers) ++ ks → SpellNumbers ks (word ∷ more) → NextNumber body word
    go [] e p = absurd p
    go (k ∷ ks) e p =
        let rest = clauses_behind body.formula.vars held.clauses clauses (held.numbers ++ k ∷ ks) held.are_clauses spells.literals (e ∙ append_assoc (all_written held.clauses) held.numbers (k ∷ ks)) in
        let some = begun rest.0 held.numbers k ks rest.2 in
        let all : length clauses ≡ length held.clauses + length rest.0 = ap length rest.1 ∙ length-append held.clauses rest.0 in
        let done : length body.formula.clauses ≡ length held.clauses = ap length held.formula_is ∙ length-clauses held.clauses in
        record {
          room = omega (arith, spells.counted);
          number = k;
          spelled = p.0;
          is = among body.formula.vars held.numbers k ks (subst (AreNumbers body.formula.vars) rest.2 (are_numbers body.formula.vars rest.0 rest.3));
        }

-- where the words end: the clauses are those that are held, and as many as were announced
pub no_more : (body : Body) (read : List (List ℕ)) (clauses : List (List ℤ)) → (held : HoldsWords body read) → SpellClauses body.formula.vars body.count clauses read
    → (clauses ≡ held.clauses) × (length body.formula.clauses ≡ body.count)
no_more body read clauses held spells =
    let behind = numbers_behind (all_written held.clauses ++ held.numbers) (all_written clauses) read [] held.words_are
    (subst (SpellNumbers (all_written clauses)) (sym (append-nil read)) spells.words_are) in
    go behind.0 behind.1 behind.2
  where
    only : (more : List (List ℤ)) (numbers : List ℤ) → AreLiterals body.formula.vars numbers → all_written more ≡ numbers → more ≡ []
    only [] numbers p e = refl
    only (clause ∷ more) numbers p e = absurd (absent clause numbers (all_written more) p (sym (written_first clause (all_written more)) ∙ e))
      where
        absent : (a b us : List ℤ) → AreLiterals body.formula.vars b → a ++ pos 0 ∷ us ≡ b → ⊥
        absent [] [] us p e = cc
        absent [] (y ∷ b) us p e = let h : y ≡ pos 0 = cc in zero_is_none body.formula.vars y p.0 h
        absent (x ∷ a) [] us p e = cc
        absent (x ∷ a) (y ∷ b) us p e = let tails : a ++ pos 0 ∷ us ≡ b = cc in absent a b us p.1 tails

    go : (ks : List ℤ) → all_written clauses ≡ (all_written held.clauses ++ held.numbers) ++ ks → SpellNumbers ks [] → (clauses ≡ held.clauses) × (length body.formula.clauses ≡ body.count)
    go (k ∷ ks) e p = absurd p
    go [] e p =
        let rest = clauses_behind body.formula.vars held.clauses clauses (held.numbers ++ []) held.are_clauses spells.literals (e ∙ append_assoc (all_written held.clauses) held.numbers []) in
        let none = only rest.0 held.numbers held.are_literals (rest.2 ∙ append-nil held.numbers) in
        let same : clauses ≡ held.clauses = rest.1 ∙ ap (λ (l : List (List ℤ)). held.clauses ++ l) none ∙ append-nil held.clauses in
        let done : length body.formula.clauses ≡ length held.clauses = ap length held.formula_is ∙ length-clauses held.clauses in
        (same, done ∙ ap length (sym same) ∙ spells.counted)

pub number_fits : (vars : ℕ) (number : ℤ) → vars < 2 ^ 31 → IsNumber vars number → FitsSigned w32 number
number_fits vars (pos n) small (inl e) = let none : n ≡ 0 = cc in omega (arith, ints)
number_fits vars (pos n) small (inr is) = omega (arith, ints, is.1)
number_fits vars (negsuc n) small (inl e) = absurd cc
number_fits vars (negsuc n) small (inr is) = omega (arith, ints, is.1)

pub IsWithin-clause_of : (vars : ℕ) (literals : List Literal) → IsWithin vars literals → IsWithin vars (clause_of literals)
IsWithin-clause_of vars literals p = IsWithin-from vars (clause_of literals) (λ l e. IsWithin-has vars literals p l (sym (has-clause_of literals l) ∙ e))

pub all_written-push : (clauses : List (List ℤ)) (clause : List ℤ) → all_written (clauses ++ clause ∷ []) ≡ (all_written clauses ++ clause) ++ pos 0 ∷ []
all_written-push clauses clause = flat_map-append written clauses (clause ∷ []) ∙ ap (λ (l : List ℤ). all_written clauses ++ l) (append-nil (written clause)) ∙ sym (append_assoc (all_written clauses) clause (pos 0 ∷ []))

AreClauses-push : (vars : ℕ) (clauses : List (List ℤ)) (clause : List ℤ) → AreClauses vars clauses → AreLiterals vars clause → AreClauses vars (clauses ++ clause ∷ [])
AreClauses-push vars [] clause p q = (q, tt)
AreClauses-push vars (c ∷ clauses) clause p q = (p.0, AreClauses-push vars clauses clause p.1 q)

AreLiterals-push : (vars : ℕ) (numbers : List ℤ) (number : ℤ) → AreLiterals vars numbers → IsLiteral vars number → AreLiterals vars (numbers ++ number ∷ [])
AreLiterals-push vars [] number p q = (q, tt)
AreLiterals-push vars (n ∷ numbers) number p q = (p.0, AreLiterals-push vars numbers number p.1 q)

map-push : {A B : Type 0} (f : A → B) (xs : List A) (x : A) → map f (xs ++ x ∷ []) ≡ map f xs ++ f x ∷ []
map-push f [] x = refl
map-push f (y ∷ xs) x = ap (λ l. f y ∷ l) (map-push f xs x)

pub held_count : (body : Body) (read : List (List ℕ)) (held : HoldsWords body read) → length body.formula.clauses ≡ length held.clauses
held_count body read held = ap length held.formula_is ∙ length-clauses held.clauses

-- behind one more literal
pub next_literal : (old new : Body) (read : List (List ℕ)) (word : List ℕ) (number : ℤ) (literal : Literal) → HoldsWords old read → SpellsDimacsNumber number word
    → IsLiteral old.formula.vars number → literal ≡ literal_of number → new.formula ≡ old.formula → new.count ≡ old.count
    → new.literals.items ≡ old.literals.items ++ literal ∷ [] → (length old.formula.clauses ≡ old.count → ⊥) → HoldsWords new (read ++ word ∷ [])
next_literal old new read word number literal held spells is literal_is formula count literals room = record {
  clauses = held.clauses;
  numbers = held.numbers ++ number ∷ [];
  words_are = subst (λ (l : List ℤ). SpellNumbers l (read ++ word ∷ [])) (append_assoc (all_written held.clauses) held.numbers (number ∷ []))
      (SpellNumbers-append (all_written held.clauses ++ held.numbers) (number ∷ []) read (word ∷ []) held.words_are (spells, tt));
  count_fits = subst (λ (n : ℕ). n < 2 ^ 31) (sym count) held.count_fits;
  are_clauses = subst (λ (f : Cnf). AreClauses f.vars held.clauses) (sym formula) held.are_clauses;
  are_literals = subst (λ (f : Cnf). AreLiterals f.vars (held.numbers ++ number ∷ [])) (sym formula) (AreLiterals-push old.formula.vars held.numbers number held.are_literals is);
  formula_is = ap (λ (f : Cnf). f.clauses) formula ∙ held.formula_is;
  literals_are = literals ∙ ap (λ (l : List Literal). l ++ literal ∷ []) held.literals_are
      ∙ ap (λ (l : Literal). map literal_of held.numbers ++ l ∷ []) literal_is ∙ sym (map-push literal_of held.numbers number);
  few = let few : length held.clauses ≤ old.count = held.few in omega arith;
  full = λ e. absurd (room (held_count old read held ∙ e ∙ count));
}

-- behind the end of a clause
pub next_clause : (old new : Body) (read : List (List ℕ)) (word : List ℕ) → HoldsWords old read → SpellsDimacsNumber (pos 0) word
    → new.formula.vars ≡ old.formula.vars → new.formula.clauses ≡ old.formula.clauses ++ clause_of old.literals.items ∷ [] → new.count ≡ old.count
    → new.literals.items ≡ [] → (length old.formula.clauses ≡ old.count → ⊥) → HoldsWords new (read ++ word ∷ [])
next_clause old new read word held spells vars clauses count literals room = record {
  clauses = held.clauses ++ held.numbers ∷ [];
  numbers = [];
  words_are = subst (λ (l : List ℤ). SpellNumbers l (read ++ word ∷ [])) (sym (append-nil (all_written (held.clauses ++ held.numbers ∷ [])) ∙ all_written-push held.clauses held.numbers))
      (SpellNumbers-append (all_written held.clauses ++ held.numbers) (pos 0 ∷ []) read (word ∷ []) held.words_are (spells, tt));
  count_fits = subst (λ (n : ℕ). n < 2 ^ 31) (sym count) held.count_fits;
  are_clauses = subst (λ (n : ℕ). AreClauses n (held.clauses ++ held.numbers ∷ [])) (sym vars) (AreClauses-push old.formula.vars held.clauses held.numbers held.are_clauses held.are_literals);
  are_literals = tt;
  formula_is = clauses ∙ ap (λ (l : List Literal). old.formula.clauses ++ clause_of l ∷ []) held.literals_are
      ∙ ap (λ (l : List (List Literal)). l ++ clause_from held.numbers ∷ []) held.formula_is ∙ sym (map-push clause_from held.clauses held.numbers);
  literals_are = literals;
  few =
      let few : length held.clauses ≤ old.count = held.few in
      let open_one : length held.clauses ≢ old.count = λ e. room (held_count old read held ∙ e) in
      omega (arith, length-append held.clauses (held.numbers ∷ []));
  full = λ e. refl;
}

pub no_room : (body : Body) (full : Bool) → full ≡ (length body.formula.clauses == body.count) → full ≡ true → length body.formula.clauses < body.count → ⊥
no_room body full e f lt = grind (arith, nat_tests)

pub room_left : (body : Body) (full : Bool) → full ≡ (length body.formula.clauses == body.count) → full ≡ false → length body.formula.clauses ≡ body.count → ⊥
room_left body full e f same = grind (arith, nat_tests)

pub is_literal : (vars : ℕ) (number : ℤ) → IsNumber vars number → (number ≡ pos 0 → ⊥) → IsLiteral vars number
is_literal vars number (inl e) none = absurd (none e)
is_literal vars number (inr is) none = is

pub same_body : (vars vars' count count' : ℕ) (clauses : List (List ℤ)) (ws vs : List (List ℕ)) → vars' ≡ vars → count' ≡ count → ws ≡ vs
    → SpellClauses vars count clauses ws → SpellClauses vars' count' clauses vs
same_body vars vars' count count' clauses ws vs e f g spells = record {
  counted = spells.counted ∙ sym f;
  literals = subst (λ (n : ℕ). AreClauses n clauses) (sym e) spells.literals;
  words_are = subst (SpellNumbers (all_written clauses)) g spells.words_are;
}

front_and_word : (read done tail more : List (List ℕ)) (word : List ℕ) → read ++ ((done ++ word ∷ tail) ++ more) ≡ (read ++ done) ++ (word ∷ (tail ++ more))
front_and_word read done tail more word = simp append_assoc

around : (done before behind tail : List (List ℕ)) (word other : List ℕ) → word ∷ [] ≡ before ++ other ∷ behind → done ++ word ∷ tail ≡ (done ++ before) ++ other ∷ (behind ++ tail)
around done before behind tail word other e =
    ap (λ (l : List (List ℕ)). done ++ (l ++ tail)) e ∙ simp append_assoc

same_cause : (vars vars' count count' : ℕ) (read read' : List (List ℕ)) (word : List ℕ) (cause : Cause) → vars' ≡ vars → count' ≡ count → read' ≡ read
    → IsWordCause vars' count' read' word cause → IsWordCause vars count read word cause
same_cause vars vars' count count' read read' word cause e f g is =
    subst (λ (l : List (List ℕ)). IsWordCause vars count l word cause) g
    (subst (λ (n : ℕ). IsWordCause vars n read' word cause) f (subst (λ (n : ℕ). IsWordCause n count' read' word cause) e is))

-- where a list goes on behind a place in it
split : (xs ys before behind : List (List ℕ)) (word : List ℕ) → xs ++ ys ≡ before ++ word ∷ behind
    → ((rest : List (List ℕ)) × (xs ≡ before ++ word ∷ rest)) ⊎ ((front : List (List ℕ)) × (before ≡ xs ++ front) × (ys ≡ front ++ word ∷ behind))
split [] ys before behind word e = inr (before, refl, e)
split (x ∷ xs) ys [] behind word e = let head : x ≡ word = cc in inl (xs, ap (λ (w : List ℕ). w ∷ xs) head)
split (x ∷ xs) ys (b ∷ before) behind word e =
    let tails : xs ++ ys ≡ before ++ word ∷ behind = cc in
    let head : x ≡ b = cc in
    elim (split xs ys before behind word tails) [
      | inl s ↦ inl (s.0, ap (λ (w : List ℕ). w ∷ xs) head ∙ ap (λ (l : List (List ℕ)). b ∷ l) s.1)
      | inr s ↦ inr (s.0, ap (λ (l : List (List ℕ)). b ∷ l) s.1 ∙ ap (λ (w : List ℕ). w ∷ (xs ++ s.0)) (sym head), s.2)
    ]

pub fine_none : (vars count : ℕ) (read : List (List ℕ)) → AreFine vars count read []
fine_none vars count read [] word behind e cause is = cc
fine_none vars count read (b ∷ before) word behind e cause is = cc

pub fine_one : (vars count : ℕ) (read : List (List ℕ)) (word : List ℕ) → ((cause : Cause) → IsWordCause vars count read word cause → ⊥) → AreFine vars count read (word ∷ [])
fine_one vars count read word none [] other behind e cause is =
    let same : word ≡ other = cc in
    none cause (subst (λ (w : List ℕ). IsWordCause vars count read w cause) (sym same) (subst (λ (l : List (List ℕ)). IsWordCause vars count l other cause) (append-nil read) is))
fine_one vars count read word none (b ∷ []) other behind e cause is = cc
fine_one vars count read word none (b ∷ c ∷ before) other behind e cause is = cc

pub fine_append : (vars count : ℕ) (read xs ys : List (List ℕ)) → AreFine vars count read xs → AreFine vars count (read ++ xs) ys → AreFine vars count read (xs ++ ys)
fine_append vars count read xs ys f g before word behind e cause is =
    elim (split xs ys before behind word e) [
      | inl s ↦ f before word s.0 s.1 cause is
      | inr s ↦ g s.0 word behind s.2 cause
          (subst (λ (l : List (List ℕ)). IsWordCause vars count l word cause) (ap (λ (l : List (List ℕ)). read ++ l) s.1 ∙ sym (append_assoc read xs s.0)) is)
    ]

-- nothing is wrong with a word that was read
pub fine_word : (body : Body) (read : List (List ℕ)) (word : List ℕ) (number : ℤ) → HoldsWords body read → (length body.formula.clauses ≡ body.count → ⊥)
    → FitsSigned w32 number → SpellsDimacsNumber number word → (literal_of number).variable ≤ body.formula.vars → AreFine body.formula.vars body.count read (word ∷ [])
fine_word body read word number held room fits spells low = fine_one body.formula.vars body.count read word none
  where
    none : (cause : Cause) → IsWordCause body.formula.vars body.count read word cause → ⊥
    none MoreClauses is = room (no_more body read is.0 held is.1).1
    none NoNumber is = is.1 number fits spells
    none HighVariable is =
        let same : number ≡ is.1 = same_number number is.1 word spells is.3 in
        let high : body.formula.vars < (literal_of number).variable = subst (λ (n : ℤ). body.formula.vars < (literal_of n).variable) (sym same) is.4 in
        omega (arith, high, low)
    none Header is = is
    none EarlyEnd is = is

-- the clauses are not all there where there is room
pub not_all : (body : Body) (read : List (List ℕ)) → HoldsWords body read → (length body.formula.clauses ≡ body.count → ⊥) → AreAllThere body.formula.vars body.count read → ⊥
not_all body read held room all = room (no_more body read all.0 held all.1).1

-- words behind one that was not read
pub stops_behind : (old now : Body) (done tail : List (List ℕ)) (word : List ℕ) (stop : ReadingStop) → now.formula.vars ≡ old.formula.vars → now.count ≡ old.count
    → ((read : List (List ℕ)) → HoldsWords old read → HoldsWords now (read ++ done)) → ((read : List (List ℕ)) → HoldsWords old read → AreFine old.formula.vars old.count read done)
    → StopsAtWords now (word ∷ []) stop → StopsAtWords old (done ++ word ∷ tail) stop
stops_behind old now done tail word (Bad cause) vars count holds fine stops = λ read held.
    let stop = stops (read ++ done) (holds read held) in (
      record {
        before = done ++ stop.0.before;
        word = stop.0.word;
        behind = stop.0.behind ++ tail;
        words_are = around done stop.0.before stop.0.behind tail word stop.0.word stop.0.words_are;
        fine = fine_append old.formula.vars old.count read done stop.0.before (fine read held)
            (subst (λ (n : ℕ). AreFine old.formula.vars n (read ++ done) stop.0.before) count
            (subst (λ (n : ℕ). AreFine n now.count (read ++ done) stop.0.before) vars stop.0.fine));
        is = same_cause old.formula.vars now.formula.vars old.count now.count _ _ stop.0.word cause vars count (append_assoc read done stop.0.before) stop.0.is;
      },
      λ more clauses spells.
          stop.1 (tail ++ more) clauses (same_body old.formula.vars now.formula.vars old.count now.count clauses _ _ vars count (front_and_word read done tail more word) spells),
    )
stops_behind old now done tail word no_memory vars count holds fine stops = tt

-- nothing is wrong with words that were read and one more
pub fine_behind : (old now : Body) (done : List (List ℕ)) (word : List ℕ) → now.formula.vars ≡ old.formula.vars → now.count ≡ old.count
    → ((read : List (List ℕ)) → HoldsWords old read → HoldsWords now (read ++ done)) → ((read : List (List ℕ)) → HoldsWords old read → AreFine old.formula.vars old.count read done)
    → ((read : List (List ℕ)) → HoldsWords now read → AreFine now.formula.vars now.count read (word ∷ []))
    → (read : List (List ℕ)) → HoldsWords old read → AreFine old.formula.vars old.count read (done ++ word ∷ [])
fine_behind old now done word vars count holds fine next read held =
    fine_append old.formula.vars old.count read done (word ∷ []) (fine read held)
    (subst (λ (n : ℕ). AreFine old.formula.vars n (read ++ done) (word ∷ [])) count
    (subst (λ (n : ℕ). AreFine n now.count (read ++ done) (word ∷ [])) vars (next (read ++ done) (holds read held))))

-- words that were read and one more are held
pub held_behind : (old now next : Body) (done : List (List ℕ)) (word : List ℕ)
    → ((read : List (List ℕ)) → HoldsWords old read → HoldsWords now (read ++ done)) → ((read : List (List ℕ)) → HoldsWords now read → HoldsWords next (read ++ word ∷ []))
    → (read : List (List ℕ)) → HoldsWords old read → HoldsWords next (read ++ (done ++ word ∷ []))
held_behind old now next done word holds one read held =
    subst (HoldsWords next) (append_assoc read done (word ∷ [])) (one (read ++ done) (holds read held))

-- one word that is wrong
pub bad_word : (vars count : ℕ) (read : List (List ℕ)) (word : List ℕ) (cause : Cause) → IsWordCause vars count read word cause → HasBadWord vars count read (word ∷ []) cause
bad_word vars count read word cause is = record {
  before = [];
  word = word;
  behind = [];
  words_are = refl;
  fine = fine_none vars count read;
  is = subst (λ (l : List (List ℕ)). IsWordCause vars count l word cause) (sym (append-nil read)) is;
}

-- the clauses that are held, where there are as many as were announced
pub whole_clauses : (body : Body) (read : List (List ℕ)) (held : HoldsWords body read) → length body.formula.clauses ≡ body.count → SpellClauses body.formula.vars body.count held.clauses read
whole_clauses body read held full = record {
  counted = counted;
  literals = held.are_clauses;
  words_are = subst (λ (l : List ℤ). SpellNumbers l read) (ap (λ (l : List ℤ). all_written held.clauses ++ l) (held.full counted) ∙ append-nil (all_written held.clauses)) held.words_are;
}
  where
    counted : length held.clauses ≡ body.count
    counted = sym (held_count body read held) ∙ full

-- a variable that is none of the announced ones
pub high_variable : (vars : ℕ) (number : ℤ) → (number ≡ pos 0 → ⊥) → (IsLiteral vars number → ⊥) → vars < (literal_of number).variable
high_variable vars number some none = elim (cases_lt vars (literal_of number).variable) [
  | inl lt ↦ lt
  | inr le ↦ absurd (none (positive number some, le))
]
  where
    positive : (z : ℤ) → (z ≡ pos 0 → ⊥) → 0 < (literal_of z).variable
    positive (pos zero) none = absurd (none refl)
    positive (pos (suc n)) none = omega arith
    positive (negsuc n) none = omega arith

pub full_count : (body : Body) (full : Bool) → full ≡ (length body.formula.clauses == body.count) → full ≡ true → length body.formula.clauses ≡ body.count
full_count body full e f = grind (arith, nat_tests)

pub within : (m n : ℕ) (x y : ℤ) → m ≡ n → x ≡ y → IsLiteral m x → IsLiteral n y
within m n x y e f is = subst (λ (z : ℤ). IsLiteral n z) f (subst (λ (k : ℕ). IsLiteral k x) e is)
