-- What the loops of the code make.
use Rattle.std.proofs.Common.{◌≡◌, ◌≢◌, ℕ, zero, suc, ◌+◌, ◌-◌, ◌*◌, ◌/◌, ◌%◌, ◌^◌, ◌<◌, ◌≤◌, ◌==◌, ℤ, Bool, true, false, cond, nat_eq, nat_lt, List, [], ◌∷◌, ◌++◌, length, map, take, drop, replicate, get_or, set, refl, sym, ap, subst, ◌∙◌, arith, Option, Some, None, length-drop}
use Rattle.std.specs.BTreeMap.{insert_entry, is_at}
use Rattle.std.specs.Map.{lookup}
use Rattle.std.specs.Ordering.{nat_cmp, match_ordering}
use Rattle.std.specs.Ordering.{is_eq}
use Rattle.std.proofs.Math.Seq.{drop-cons}
use Rattle.std.proofs.Math.Nat.{pow-le-pow_right}
use Rattle.std.proofs.lemmas.Bool.{and_parts, le-ltb, eqb-true, ltb-true}
use Rattle.std.proofs.lemmas.List.{take_more_set, append_assoc, map-append, take_all, append-nil, drop-replicate, length-map, length-set}
use Rattle.kb_chain.specs.Literal.{Literal, literal, is_true}
use Rattle.kb_chain.specs.Cnf.{Cnf, IsWithin, AllWithin}
use Rattle.kb_chain.proofs.CnfLaws.{AllWithin_more}
use Rattle.kb_circuit.specs.Circuit.{with_variable, next_literal}
use Rattle.kb_circuit.specs.Words.{in_front, false_bits}
use Rattle.kb_circuit.specs.Meaning.{bit, number, bits_under, int_under}
use Rattle.kb_circuit.proofs.Formulas.{all-more}
use Rattle.kb_circuit.proofs.WordLaws.{number-below}
use Rattle.kb_terms.specs.Terms.{int_at}
use Rattle.kb_terms.specs.declared.node.VarKind.{VarKind}
use Rattle.kb_terms.specs.declared.listing.Operand.{Operand}
use Rattle.kb_terms.specs.declared.listing.Operand.TheVariants.{Const, Var, Term as TermOperand}
use Rattle.kb_blast.specs.Conditions.{Words, bits, narrowed, new_bits, word_of, variable_word, variable_words, operand_word, second_word, built_term, term_words, occurring_kinds, with_conditions, first_formula, blasted}
use Rattle.kb_blast.specs.Meaning.{Reads, read_into, IsElsewhere, IsBelowAll, IsRising, AreReadable}
use Rattle.kb_blast.specs.Query.{Query}
use Rattle.kb_terms.specs.declared.listing.Term.{Term}
use Rattle.kb_blast.specs.Listing.{numbers_of, literals_of, words_in_front}
use Rattle.kb_blast.proofs.Ints.{word-constant, word-false}

-- ---- words

pub narrowed_is : (above : Literal) (n : ℕ) (word part : List Literal) → part ≡ take n word → part ++ drop n (replicate 32 above) ≡ narrowed n above word
narrowed_is above n word part e = ap (λ x. x ++ drop n (replicate 32 above)) e ∙ ap (λ x. take n word ++ x) (drop-replicate n 32 above)

bits-next : (i rest : ℕ) → i < 32 → bits (32 - i) rest ≡ (rest % 2 == 1) ∷ bits (32 - (i + 1)) (rest / 2)
bits-next i rest lt = let e : 32 - i ≡ suc (32 - (i + 1)) = omega arith in ap (λ n. bits n rest) e

pub constant_next : (out : List Literal) (i rest : ℕ) (l : Literal) → i < 32 → i < length out → l ≡ literal 1 (rest % 2 == 1)
    → take (i + 1) (set out i l) ++ map (literal 1) (bits (32 - (i + 1)) (rest / 2)) ≡ take i out ++ map (literal 1) (bits (32 - i) rest)
constant_next out i rest l lt ot e =
    ap (λ t. t ++ map (literal 1) (bits (32 - (i + 1)) (rest / 2))) (take_more_set out i l ot)
    ∙ append_assoc (take i out) (l ∷ []) (map (literal 1) (bits (32 - (i + 1)) (rest / 2)))
    ∙ ap (λ x. take i out ++ x ∷ map (literal 1) (bits (32 - (i + 1)) (rest / 2))) e
    ∙ sym (ap (λ bs. take i out ++ map (literal 1) bs) (bits-next i rest lt))

in_front-append : (xs ys : List Literal) (r : List Literal × Cnf) → in_front (xs ++ ys) r ≡ in_front xs (in_front ys r)
in_front-append xs ys r = ap (λ z. (z, r.1)) (append_assoc xs ys r.0)

new_bits-more : (i : ℕ) (f : Cnf) → i < 32 → new_bits (32 - i) f ≡ in_front (next_literal f ∷ []) (new_bits (32 - (i + 1)) (with_variable f))
unfolding new_bits
new_bits-more i f lt = let e : 32 - i ≡ suc (32 - (i + 1)) = omega arith in ap (λ n. new_bits n f) e

pub new_bits_next : (out : List Literal) (i : ℕ) (l : Literal) (f g : Cnf) → i < 32 → i < length out → l ≡ next_literal f → g ≡ with_variable f
    → in_front (take (i + 1) (set out i l)) (new_bits (32 - (i + 1)) g) ≡ in_front (take i out) (new_bits (32 - i) f)
new_bits_next out i l f g lt ot e d =
    ap (λ t. in_front t (new_bits (32 - (i + 1)) g)) (take_more_set out i l ot)
    ∙ in_front-append (take i out) (l ∷ []) (new_bits (32 - (i + 1)) g)
    ∙ ap (λ x. in_front (take i out) (in_front (x ∷ []) (new_bits (32 - (i + 1)) g))) e
    ∙ ap (λ h. in_front (take i out) (in_front (next_literal f ∷ []) (new_bits (32 - (i + 1)) h))) d
    ∙ sym (ap (in_front (take i out)) (new_bits-more i f lt))

pub new_bits_ends : (out : List Literal) (n : ℕ) (f : Cnf) → 32 ≤ n → length out ≤ n → in_front (take n out) (new_bits (32 - n) f) ≡ (out, f)
unfolding new_bits
new_bits_ends out n f le ot =
    let e : 32 - n ≡ 0 = omega arith in
    ap (λ m. in_front (take n out) (new_bits m f)) e ∙ ap (λ x. (x, f)) (append-nil (take n out) ∙ take_all n out ot)

-- ---- numbers read from the highest bit on

pub number_next : (v : ℕ → Bool) (word : List Literal) (i : ℕ) (d : Literal) → i < 32 → length word ≡ 32
    → number (bits_under v (drop (32 - (i + 1)) word)) ≡ 2 * number (bits_under v (drop (32 - i) word)) + bit (is_true v (get_or word (31 - i) d))
number_next v word i d lt long =
    let a : 32 - (i + 1) ≡ 31 - i = omega arith in
    let b : suc (31 - i) ≡ 32 - i = omega arith in
    let e : drop (32 - (i + 1)) word ≡ get_or word (31 - i) d ∷ drop (32 - i) word =
    ap (λ k. drop k word) a ∙ drop-cons word (31 - i) d (omega arith) ∙ ap (λ k. get_or word (31 - i) d ∷ drop k word) b in
    ap (λ ls. number (bits_under v ls)) e ∙ omega arith

two_powers : (i j : ℕ) → i ≤ j → 2 ^ i ≤ 2 ^ j
two_powers i j le = let two : 0 < 2 = omega arith in pow-le-pow_right {n = 2} two {i = i} {j = j} le

pub number_small : (v : ℕ → Bool) (word : List Literal) (i : ℕ) → i < 32 → length word ≡ 32 → number (bits_under v (drop (32 - i) word)) < 2 ^ 31
number_small v word i lt long =
    let part : List Literal = drop (32 - i) word in
    let l : length (bits_under v part) ≡ i = length-map part (is_true v) ∙ omega (arith, length-drop (32 - i) word) in
    let small : number (bits_under v part) < 2 ^ i = subst (λ n. number (bits_under v part) < 2 ^ n) l (number-below (bits_under v part)) in
    let more : 2 ^ i ≤ 2 ^ 31 = two_powers i 31 (omega arith) in
    omega arith

-- ---- reading back

int-set : (xs : List ℤ) (i : ℕ) (x : ℤ) → i < length xs → int_at (set xs i x) i ≡ x
int-set [] i x h = absurd (omega arith)
int-set (y ∷ xs) zero x h = refl
int-set (y ∷ xs) (suc i) x h = int-set xs i x (omega arith)

int-set-other : (xs : List ℤ) (i j : ℕ) (x : ℤ) → j ≢ i → int_at (set xs i x) j ≡ int_at xs j
int-set-other [] i j x h = refl
int-set-other (y ∷ xs) zero zero x h = absurd (h refl)
int-set-other (y ∷ xs) zero (suc j) x h = refl
int-set-other (y ∷ xs) (suc i) zero x h = refl
int-set-other (y ∷ xs) (suc i) (suc j) x h = int-set-other xs i j x (λ e. h (ap suc e))

pub elsewhere : (v : ℕ → Bool) (x : ℕ) (words : Words) (inputs : List ℤ) → IsElsewhere x words → int_at (read_into v words inputs) x ≡ int_at inputs x
elsewhere v x [] inputs h = refl
elsewhere v x (w ∷ words) inputs h =
    elsewhere v x words (set inputs w.0 (int_under v w.1)) h.1 ∙ int-set-other inputs w.0 x (int_under v w.1) h.0

below-elsewhere : (x : ℕ) (words : Words) → IsBelowAll x (map (λ w. w.0) words) → IsElsewhere x words
below-elsewhere x [] h = tt
below-elsewhere x (w ∷ words) h = (let lt : x < w.0 = h.0 in λ e. absurd (omega arith), below-elsewhere x words h.1)

pub reads-read_into : (v : ℕ → Bool) (vars : ℕ) (words : Words) (inputs : List ℤ) → AreReadable vars (length inputs) words → Reads v words (read_into v words inputs)
reads-read_into v vars [] inputs h = tt
reads-read_into v vars (w ∷ words) inputs h =
    let next : List ℤ = set inputs w.0 (int_under v w.1) in (
      elsewhere v w.0 words next (below-elsewhere w.0 words h.2) ∙ int-set inputs w.0 (int_under v w.1) h.0,
      reads-read_into v vars words next (subst (λ n. AreReadable vars n words) (sym (length-set inputs w.0 (int_under v w.1))) h.3),
    )

-- ---- words of variables in a map

abbrev word_or : Option (List Literal) → List Literal
word_or None = false_bits
word_or (Some word) = word

pub lookup-word : (entries : Words) (x : ℕ) (r : Option (List Literal)) → r ≡ lookup (is_at (nat_cmp x)) entries → word_of entries x ≡ word_or r
lookup-word entries x r e = go entries ∙ sym (ap word_or e)
  where
    go : (entries : Words) → word_of entries x ≡ word_or (lookup (is_at (nat_cmp x)) entries)
    go [] = refl
    go (w ∷ ws) = case (nat_lt x w.0) (nat_eq x w.0) refl refl (go ws)
      where
        case : (a b : Bool) → nat_lt x w.0 ≡ a → nat_eq x w.0 ≡ b → word_of ws x ≡ word_or (lookup (is_at (nat_cmp x)) ws)
            → cond b w.1 (word_of ws x) ≡ word_or (cond (is_eq (cond a (nat_cmp 0 1) (cond b (nat_cmp 0 0) (nat_cmp 1 0)))) (Some w.1) (lookup (is_at (nat_cmp x)) ws))
        case true true l k rec = absurd (omega (arith, ltb-true x w.0 l, eqb-true x w.0 k))
        case true false l k rec = rec
        case false true l k rec = refl
        case false false l k rec = rec

below-middle : (m : ℕ) (xs : List ℕ) (x : ℕ) (more : List ℕ) → IsBelowAll m (xs ++ x ∷ more) → m < x
below-middle m [] x more h = h.0
below-middle m (y ∷ xs) x more h = below-middle m xs x more h.1

apart : (a b : ℕ) → b < a → nat_eq a b ≡ false
apart a b lt = go (nat_eq a b) refl
  where
    go : (t : Bool) → nat_eq a b ≡ t → t ≡ false
    go true e = let same : a ≡ b = eqb-true a b e in absurd (omega arith)
    go false e = refl

insert-last : (xs : Words) (x : ℕ) (word : List Literal) (more : List ℕ) → IsRising (numbers_of xs ++ x ∷ more) → insert_entry nat_cmp xs x word ≡ xs ++ (x, word) ∷ []
insert-last [] x word more h = refl
insert-last (w ∷ ws) x word more h =
    let lt : w.0 < x = below-middle w.0 (numbers_of ws) x more h.0 in
    ap (λ a. match_ordering (cond a (nat_cmp 0 1) (cond (nat_eq x w.0) (nat_cmp 0 0) (nat_cmp 1 0))) ((x, word) ∷ w ∷ ws) ((w.0, word) ∷ ws) (w ∷ insert_entry nat_cmp ws x word)) (le-ltb x w.0 (omega arith))
    ∙ ap (λ b. match_ordering (cond b (nat_cmp 0 0) (nat_cmp 1 0)) ((x, word) ∷ w ∷ ws) ((w.0, word) ∷ ws) (w ∷ insert_entry nat_cmp ws x word)) (apart x w.0 lt)
    ∙ ap (λ ys. w ∷ ys) (insert-last ws x word more h.1)

words_in_front-append : (xs ys : Words) (r : Words × Cnf) → words_in_front (xs ++ ys) r ≡ words_in_front xs (words_in_front ys r)
words_in_front-append xs ys r = ap (λ z. (z, r.1)) (append_assoc xs ys r.0)

pub variables_next : (xs more : Words) (x : ℕ) (kind : VarKind) (rest : List (ℕ × VarKind)) (word : List Literal) (f g : Cnf) → IsRising (numbers_of xs ++ x ∷ numbers_of rest)
    → variable_word kind f ≡ (word, g) → more ≡ insert_entry nat_cmp xs x word
    → words_in_front more (variable_words rest g) ≡ words_in_front xs (variable_words ((x, kind) ∷ rest) f)
unfolding variable_words
variables_next xs more x kind rest word f g h built e =
    ap (λ ys. words_in_front ys (variable_words rest g)) (e ∙ insert-last xs x word (numbers_of rest) h)
    ∙ words_in_front-append xs ((x, word) ∷ []) (variable_words rest g)
    ∙ sym (ap (λ r. words_in_front xs (words_in_front ((x, r.0) ∷ []) (variable_words rest r.1))) built)

pub variables_end : (xs : Words) (f : Cnf) → words_in_front xs (variable_words [] f) ≡ (xs, f)
unfolding variable_words
variables_end xs f = ap (λ z. (z, f)) (append-nil xs)

pub numbers-next : (xs more : Words) (x : ℕ) (word : List Literal) (rest : List ℕ) → IsRising (numbers_of xs ++ x ∷ rest) → more ≡ insert_entry nat_cmp xs x word
    → numbers_of more ++ rest ≡ numbers_of xs ++ x ∷ rest
numbers-next xs more x word rest h e =
    ap (λ ys. numbers_of ys ++ rest) (e ∙ insert-last xs x word rest h)
    ∙ ap (λ ns. ns ++ rest) (map-append (λ (w : ℕ × List Literal). w.0) xs ((x, word) ∷ []))
    ∙ append_assoc (numbers_of xs) (x ∷ []) rest

all-within-push : (n : ℕ) (words : List (List Literal)) (word : List Literal) → AllWithin n words → IsWithin n word → AllWithin n (words ++ word ∷ [])
all-within-push n [] word h k = all-more n word [] k refl
all-within-push n (w ∷ words) word h k = let p = and_parts _ _ h in all-more n w (words ++ word ∷ []) p.0 (all-within-push n words word p.1 k)

pub words-next : (m n : ℕ) (words more : List (List Literal)) (word : List Literal) → m ≤ n → AllWithin m words → IsWithin n word → more ≡ words ++ word ∷ [] → AllWithin n more
words-next m n words more word le h k e = subst (AllWithin n) (sym e) (all-within-push n words word (AllWithin_more m n words le h) k)

pub within-next : (m n : ℕ) (xs more : Words) (x : ℕ) (word : List Literal) (rest : List ℕ) → IsRising (numbers_of xs ++ x ∷ rest) → more ≡ insert_entry nat_cmp xs x word
    → m ≤ n → AllWithin m (literals_of xs) → IsWithin n word → AllWithin n (literals_of more)
within-next m n xs more x word rest h e le all one =
    words-next m n (literals_of xs) (literals_of more) word le all one
    (ap literals_of (e ∙ insert-last xs x word rest h) ∙ map-append (λ (w : ℕ × List Literal). w.1) xs ((x, word) ∷ []))

-- ---- words of operands within

word_of-within : (n : ℕ) (vars : Words) (x : ℕ) → IsWithin n false_bits → AllWithin n (literals_of vars) → IsWithin n (word_of vars x)
word_of-within n [] x f h = f
word_of-within n (w ∷ vars) x f h =
    let p = and_parts _ _ h in go (nat_eq x w.0) p.0 (word_of-within n vars x f p.1)
  where
    go : (b : Bool) → IsWithin n w.1 → IsWithin n (word_of vars x) → IsWithin n (cond b w.1 (word_of vars x))
    go true one rest = one
    go false one rest = rest

word-at-within : (n : ℕ) (words : List (List Literal)) (i : ℕ) → IsWithin n false_bits → AllWithin n words → IsWithin n (get_or words i false_bits)
word-at-within n [] i f h = f
word-at-within n (w ∷ words) zero f h = (and_parts _ _ h).0
word-at-within n (w ∷ words) (suc i) f h = word-at-within n words i f (and_parts _ _ h).1

pub operand-within : (n : ℕ) (vars : Words) (words : List (List Literal)) (o : Operand) → 1 ≤ n → AllWithin n (literals_of vars) → AllWithin n words → IsWithin n (operand_word vars words o)
operand-within n vars words (Const c) low h k = (word-constant n c low).within
operand-within n vars words (Var x) low h k = word_of-within n vars x (word-false n low).within h
operand-within n vars words (TermOperand t) low h k = word-at-within n words t (word-false n low).within k

pub second-within : (n : ℕ) (vars : Words) (words : List (List Literal)) (o : Option Operand) → 1 ≤ n → AllWithin n (literals_of vars) → AllWithin n words → IsWithin n (second_word vars words o)
second-within n vars words None low h k = (word-false n low).within
second-within n vars words (Some o) low h k = operand-within n vars words o low h k

-- ---- lists taken from the front

pub rest-is : {A : Type 0} (x : A) (xs : List A) → take (length (x ∷ xs) - 1) (drop 1 (x ∷ xs)) ≡ xs
rest-is x xs = let n : length (x ∷ xs) - 1 ≡ length xs = omega arith in ap (λ k. take k xs) n ∙ take_all (length xs) xs (omega arith)

pub terms_next : (vars : Words) (words more : List (List Literal)) (rest : List Term) (d : Term) (word : List Literal) (f g : Cnf) → 1 ≤ length rest
    → built_term vars words (get_or rest 0 d) f ≡ (word, g) → more ≡ words ++ word ∷ [] → term_words vars more (take (length rest - 1) (drop 1 rest)) g ≡ term_words vars words rest f
unfolding term_words
terms_next vars words more [] d word f g le built e = absurd (omega arith)
terms_next vars words more (t ∷ ts) d word f g le built e =
    ap (λ ws. term_words vars ws (take (length (t ∷ ts) - 1) (drop 1 (t ∷ ts))) g) e
    ∙ ap (λ xs. term_words vars (words ++ word ∷ []) xs g) (rest-is t ts)
    ∙ sym (ap (λ r. term_words vars (words ++ r.0 ∷ []) ts r.1) built)

pub terms_end : (vars : Words) (words : List (List Literal)) (rest : List Term) (f : Cnf) → length rest < 1 → term_words vars words rest f ≡ (words, f)
unfolding term_words
terms_end vars words [] f lt = refl
terms_end vars words (t ∷ ts) f lt = absurd (omega arith)

pub read_end : (v : ℕ → Bool) (rest : Words) (inputs : List ℤ) → length rest < 1 → read_into v rest inputs ≡ inputs
read_end v [] inputs lt = refl
read_end v (w ∷ ws) inputs lt = absurd (omega arith)

-- ---- the formula from its parts

pub blasted_is : (q : Query) (kinds : List (ℕ × VarKind)) (terms : List Term) (vars : Words) (words ws : List (List Literal)) (conditions : List (ℕ × Bool)) (f1 f2 f3 f4 : Cnf)
    → f1 ≡ first_formula → kinds ≡ occurring_kinds q → variable_words kinds f1 ≡ (vars, f2) → terms ≡ q.terms → term_words vars [] terms f2 ≡ (words, f3) → ws ≡ words
    → conditions ≡ q.conditions → f4 ≡ with_conditions ws conditions f3 → (vars, f4) ≡ blasted q
unfolding blasted
blasted_is q kinds terms vars words ws conditions f1 f2 f3 f4 e1 ek ev et ew es ec e4 =
    let first : variable_words (occurring_kinds q) first_formula ≡ (vars, f2) =
    sym (ap (λ k. variable_words k f1) ek ∙ ap (variable_words (occurring_kinds q)) e1) ∙ ev in
    let second : term_words vars [] q.terms f2 ≡ (words, f3) = sym (ap (λ ts. term_words vars [] ts f2) et) ∙ ew in
    sym (ap (λ r. ((r.0, with_conditions (term_words r.0 [] q.terms r.1).0 q.conditions (term_words r.0 [] q.terms r.1).1))) first
    ∙ ap (λ r. (vars, with_conditions r.0 q.conditions r.1)) second
    ∙ ap (λ c. (vars, with_conditions words c f3)) (sym ec)
    ∙ ap (λ x. (vars, with_conditions x conditions f3)) (sym es)
    ∙ ap (λ f. (vars, f)) (sym e4))
