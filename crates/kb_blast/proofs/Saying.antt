-- The conditions' formula says exactly what the conditions say.
use Rattle.std.proofs.Common.{◌≡◌, ℕ, zero, suc, ◌+◌, ◌<◌, ◌≤◌, ℤ, pos, Bool, true, false, not, ◌||◌, cond, List, [], ◌∷◌, length, map, fold, replicate, get_or, slice_get, refl, sym, ap, subst, ◌∙◌, arith, length-append}
use Rattle.std.proofs.lemmas.Bool.{false≢true}
use Rattle.std.proofs.Math.ListN.{get_or-map, get_or-append}
use Rattle.std.proofs.Math.Seq.{get_or-append_seam}
use Rattle.kb_arith.specs.Word.{truth as truth_value, word_eq, word_lt, word_ult}
use Rattle.kb_chain.specs.Literal.{Literal, is_true}
use Rattle.kb_chain.specs.Clause.{Satisfies}
use Rattle.kb_chain.specs.Cnf.{Cnf}
use Rattle.kb_circuit.specs.Circuit.{truth, falsity, IsCircuit}
use Rattle.kb_circuit.specs.Words.{false_bits}
use Rattle.kb_circuit.specs.Meaning.{int_under, Extends}
use Rattle.kb_circuit.proofs.Formulas.{satisfies-clauses, clauses-satisfied, truth-true}
use Rattle.kb_circuit.proofs.GateLaws.{is_true-negated}
use Rattle.kb_terms.specs.declared.op.Op.{Op}
use Rattle.kb_terms.specs.declared.op.Op.TheVariants.{Eq, Lt, Ult}
use Rattle.kb_terms.specs.declared.node.VarKind.{VarKind}
use Rattle.kb_terms.specs.declared.listing.Term.{Term}
use Rattle.kb_terms.specs.Op.{op_value}
use Rattle.kb_terms.specs.Terms.{int_at}
use Rattle.kb_blast.specs.Query.{Query, is_comparison}
use Rattle.kb_blast.specs.Conditions.{Words, occurring, occurring_kinds, with_kinds, term_word, term_words, variable_words, condition_literal, with_conditions, with_condition, first_formula, blasted, words_of, formula_of}
use Rattle.kb_blast.specs.Meaning.{term_value, with_value, listed_values, AreMet, Meets, Reads, SaysExactly, IsComparison, ConditionsFit, IsQuery, IsRising, AreReadable, read_into}
use Rattle.kb_blast.specs.Listing.{numbers_of, literals_of}
use Rattle.kb_blast.proofs.Ints.{AreWords, words-at, words-more, word-false, int-false, lowest-bit}
use Rattle.kb_blast.proofs.Building.{TermsIn, in-occurring, Builds, terms_build}
use Rattle.std.proofs.lemmas.List.{length-replicate}
use Rattle.kb_blast.proofs.Loops.{reads-read_into}
use Rattle.kb_blast.proofs.Listed.{AllBelow, occurring-rising, readable}
use Rattle.kb_blast.proofs.Choosing.{AllVary, variables_vary, reads-agree}

-- ---- unit clauses

abbrev pub AreTrue : (ℕ → Bool) → List (List Literal) → List (ℕ × Bool) → Type 0
AreTrue v words [] = Unit {0}
AreTrue v words (condition ∷ conditions) = (is_true v (condition_literal words condition) ≡ true) × AreTrue v words conditions

or-false : (b : Bool) → (b || false) ≡ b
or-false true = refl
or-false false = refl

pub conditions-satisfied : (v : ℕ → Bool) (words : List (List Literal)) (conditions : List (ℕ × Bool)) (f : Cnf) → Satisfies v (with_conditions words conditions f).clauses
    → Satisfies v f.clauses × AreTrue v words conditions
conditions-satisfied v words [] f s = (s, tt)
conditions-satisfied v words (condition ∷ conditions) f s =
    let l : Literal = condition_literal words condition in
    let rest = conditions-satisfied v words conditions (with_condition words f condition) s in
    let one = clauses-satisfied v f ((l ∷ []) ∷ []) rest.0 in
    (one.0, (sym (or-false (is_true v l)) ∙ one.1.0, rest.1))

pub satisfies-conditions : (v : ℕ → Bool) (words : List (List Literal)) (conditions : List (ℕ × Bool)) (f : Cnf) → Satisfies v f.clauses → AreTrue v words conditions
    → Satisfies v (with_conditions words conditions f).clauses
satisfies-conditions v words [] f s t = s
satisfies-conditions v words (condition ∷ conditions) f s t =
    let l : Literal = condition_literal words condition in
    satisfies-conditions v words conditions (with_condition words f condition) (satisfies-clauses v f ((l ∷ []) ∷ []) s (or-false (is_true v l) ∙ t.0, tt)) t.1

vars-conditions : (words : List (List Literal)) (conditions : List (ℕ × Bool)) (f : Cnf) → (with_conditions words conditions f).vars ≡ f.vars
vars-conditions words [] f = refl
vars-conditions words (condition ∷ conditions) f = vars-conditions words conditions (with_condition words f condition)

-- ---- comparisons are 0 or 1

comparison_truth : (op : Op) (a b : ℤ) → is_comparison op ≡ true → (x : Bool) × (op_value op a b ≡ truth_value x)
unfolding word_eq word_lt word_ult
comparison_truth Eq a b e = (_, refl)
comparison_truth Lt a b e = (_, refl)
comparison_truth Ult a b e = (_, refl)
comparison_truth op a b e = absurd (cc)

int_at-run : (inputs done : List ℤ) (terms : List Term) (i : ℕ) → i < length done → int_at (fold (with_value inputs) done terms) i ≡ int_at done i
int_at-run inputs done [] i h = refl
int_at-run inputs done (t ∷ ts) i h =
    int_at-run inputs (with_value inputs done t) ts i (omega (arith, length-append done (term_value inputs done t ∷ [])))
    ∙ get_or-append done (term_value inputs done t ∷ []) (pos 0) i h

comparison_value : (inputs done : List ℤ) (terms : List Term) (i : ℕ) → IsComparison (slice_get terms i)
    → (x : Bool) × (int_at (fold (with_value inputs) done terms) (length done + i) ≡ truth_value x)
comparison_value inputs done [] i h = absurd h
comparison_value inputs done (t ∷ ts) zero h =
    let c = comparison_truth t.op _ _ h in
    let more : length (with_value inputs done t) ≡ length done + 1 = length-append done (term_value inputs done t ∷ []) in (
      c.0,
      ap (int_at (fold (with_value inputs) (with_value inputs done t) ts)) (omega arith)
          ∙ int_at-run inputs (with_value inputs done t) ts (length done) (omega arith)
          ∙ get_or-append_seam done (term_value inputs done t) [] (pos 0)
          ∙ c.1,
    )
comparison_value inputs done (t ∷ ts) (suc i) h =
    let r = comparison_value inputs (with_value inputs done t) ts i h in
    let more : length (with_value inputs done t) ≡ length done + 1 = length-append done (term_value inputs done t ∷ []) in
    (r.0, ap (int_at (fold (with_value inputs) (with_value inputs done t) ts)) (omega arith) ∙ r.1)

-- ---- a condition's literal

same_truth : (x b : Bool) → cond b x (not x) ≡ true → truth_value x ≡ truth_value b
same_truth true true e = refl
same_truth true false e = absurd (false≢true e)
same_truth false true e = absurd (false≢true e)
same_truth false false e = refl

truth_same : (x b : Bool) → truth_value x ≡ truth_value b → cond b x (not x) ≡ true
truth_same true true e = refl
truth_same true false e = absurd (cc)
truth_same false true e = absurd (cc)
truth_same false false e = refl

literal_is : (v : ℕ → Bool) (vars : ℕ) (words : List (List Literal)) (t : ℕ) (b x : Bool) → 1 ≤ vars → AreWords vars words → int_under v (term_word words t) ≡ truth_value x
    → is_true v (condition_literal words (t, b)) ≡ cond b x (not x)
literal_is v vars words t true x low h e = lowest-bit v vars (term_word words t) x (words-at vars words t false_bits h (word-false vars low)) e
literal_is v vars words t false x low h e =
    is_true-negated v (get_or (term_word words t) 0 falsity)
    ∙ ap not (lowest-bit v vars (term_word words t) x (words-at vars words t false_bits h (word-false vars low)) e)

module _ (v : ℕ → Bool) (vars : ℕ) (words : List (List Literal)) (inputs : List ℤ) (terms : List Term) (low : 1 ≤ vars) (h : AreWords vars words) (e : is_true v truth ≡ true)
    (same : map (int_under v) words ≡ listed_values inputs terms) where
  term_int : (t : ℕ) → int_under v (term_word words t) ≡ int_at (listed_values inputs terms) t
  term_int t =
      sym (ap (λ d. get_or (map (int_under v) words) t d) (sym (int-false v e)) ∙ get_or-map (int_under v) words t false_bits) ∙ ap (λ xs. int_at xs t) same

  pub true-met : (conditions : List (ℕ × Bool)) → ConditionsFit terms conditions → AreTrue v words conditions → AreMet (listed_values inputs terms) conditions
  true-met [] fit t = tt
  true-met (condition ∷ conditions) fit t =
      let c = comparison_value inputs [] terms condition.0 fit.0 in
      let value : int_at (listed_values inputs terms) condition.0 ≡ truth_value c.0 = ap (int_at (listed_values inputs terms)) (omega arith) ∙ c.1 in
      let l = literal_is v vars words condition.0 condition.1 c.0 low h (term_int condition.0 ∙ value) in
      (value ∙ same_truth c.0 condition.1 (sym l ∙ t.0), true-met conditions fit.1 t.1)

  pub met-true : (conditions : List (ℕ × Bool)) → ConditionsFit terms conditions → AreMet (listed_values inputs terms) conditions → AreTrue v words conditions
  met-true [] fit m = tt
  met-true (condition ∷ conditions) fit m =
      let c = comparison_value inputs [] terms condition.0 fit.0 in
      let value : int_at (listed_values inputs terms) condition.0 ≡ truth_value c.0 = ap (int_at (listed_values inputs terms)) (omega arith) ∙ c.1 in
      let l = literal_is v vars words condition.0 condition.1 c.0 low h (term_int condition.0 ∙ value) in
      (l ∙ truth_same c.0 condition.1 (sym value ∙ m.0), met-true conditions fit.1 m.1)

-- ---- the law

first-circuit : IsCircuit first_formula
first-circuit = record { variable = omega arith; first = refl; within = refl }

pub numbers-with_kinds : (kinds : List VarKind) (ns : List ℕ) → numbers_of (with_kinds kinds ns) ≡ ns
numbers-with_kinds kinds [] = refl
numbers-with_kinds kinds (n ∷ ns) = ap (λ ms. n ∷ ms) (numbers-with_kinds kinds ns)

-- words of rising numbers can be read back
abbrev bound : List ℕ → ℕ
bound [] = 0
bound (n ∷ ns) = suc n + bound ns

bounded : (m : ℕ) (ns : List ℕ) → bound ns ≤ m → AllBelow m ns
bounded m [] le = tt
bounded m (n ∷ ns) le = (omega arith, bounded m ns (omega arith))

read-some : (v : ℕ → Bool) (vars : ℕ) (words : Words) → AreWords vars (literals_of words) → IsRising (numbers_of words) → (inputs : List ℤ) × Reads v words inputs
read-some v vars words h r =
    let places : ℕ = bound (numbers_of words) in
    let long : length (replicate places (pos 0)) ≡ places = length-replicate places (pos 0) in (
      read_into v words (replicate places (pos 0)),
      reads-read_into v vars words (replicate places (pos 0)) (subst (λ n. AreReadable vars n words) (sym long) (readable vars places words h r (bounded places (numbers_of words) (omega arith)))),
    )

module _ (q : Query) (fit : IsQuery q) where
  variables : Words × Cnf
  variables = variable_words (occurring_kinds q) first_formula

  vary : AllVary (occurring_kinds q) first_formula (variable_words (occurring_kinds q) first_formula)
  vary = variables_vary (occurring_kinds q) first_formula first-circuit

  inside : TermsIn (numbers_of (variable_words (occurring_kinds q) first_formula).0) q.terms
  inside = subst (λ ns. TermsIn ns q.terms) (sym (vary.numbers ∙ numbers-with_kinds q.kinds (occurring q.terms))) (in-occurring q.terms)

  built : Builds (variable_words (occurring_kinds q) first_formula).0 [] q.terms (variable_words (occurring_kinds q) first_formula).1
      (term_words (variable_words (occurring_kinds q) first_formula).0 [] q.terms (variable_words (occurring_kinds q) first_formula).1)
  built = terms_build _ [] q.terms _ vary.circuit vary.words tt fit.terms inside

  sound : (v : ℕ → Bool) (inputs : List ℤ) → Satisfies v (formula_of q).clauses → Reads v (words_of q) inputs → Meets q inputs
  unfolding blasted
  sound v inputs s r =
      let f : Cnf = (variable_words (occurring_kinds q) first_formula).1 in
      let vars : Words = (variable_words (occurring_kinds q) first_formula).0 in
      let out : List (List Literal) × Cnf = term_words vars [] q.terms f in
      let c = conditions-satisfied v out.0 q.conditions out.1 s in
      let e : is_true v truth ≡ true = truth-true v out.1 built.circuit c.0 in (
        vary.fits v inputs e r,
        true-met v out.1.vars out.0 inputs q.terms built.circuit.variable built.words e (built.defines.means v c.0 inputs r) q.conditions fit.conditions c.1,
      )

  complete : (inputs : List ℤ) → Meets q inputs → (v : ℕ → Bool) × Satisfies v (formula_of q).clauses × Reads v (words_of q) inputs
  unfolding blasted
  complete inputs m =
      let f : Cnf = (variable_words (occurring_kinds q) first_formula).1 in
      let vars : Words = (variable_words (occurring_kinds q) first_formula).0 in
      let out : List (List Literal) × Cnf = term_words vars [] q.terms f in
      let a = vary.choose (λ _. true) inputs refl m.0 in
      let one : is_true a.assignment truth ≡ true = sym (a.agrees 1 (omega arith)) in
      let s : Satisfies a.assignment f.clauses = subst (Satisfies a.assignment) (sym vary.same) (ap (λ b. b || false) one, tt) in
      let x : Extends f out.1 a.assignment = built.defines.extends vary.circuit.within a.assignment s in
      let w : ℕ → Bool = x.assignment in
      let r : Reads w vars inputs = reads-agree f.vars a.assignment w vars inputs x.agrees vary.words a.good in
      let e : is_true w truth ≡ true = truth-true w out.1 built.circuit x.satisfies in
      let t = met-true w out.1.vars out.0 inputs q.terms built.circuit.variable built.words e (built.defines.means w x.satisfies inputs r) q.conditions fit.conditions m.1 in
      (w, satisfies-conditions w out.0 q.conditions out.1 x.satisfies t, r)

  pub numbers-are : numbers_of (words_of q) ≡ occurring q.terms
  unfolding blasted
  numbers-are = vary.numbers ∙ numbers-with_kinds q.kinds (occurring q.terms)

  pub words-are : AreWords (formula_of q).vars (literals_of (words_of q))
  unfolding blasted
  words-are =
      let f : Cnf = (variable_words (occurring_kinds q) first_formula).1 in
      let vars : Words = (variable_words (occurring_kinds q) first_formula).0 in
      let out : List (List Literal) × Cnf = term_words vars [] q.terms f in
      let up : f.vars ≤ out.1.vars = built.defines.grows in
      words-more f.vars _ (literals_of vars) (omega (arith, up, vars-conditions out.0 q.conditions out.1)) vary.words

  pub says : SaysExactly (words_of q) (formula_of q) (Meets q)
  says = record { reads = λ v. read-some v (formula_of q).vars (words_of q) words-are (subst IsRising (sym numbers-are) (occurring-rising q.terms)); sound = sound; complete = complete }
