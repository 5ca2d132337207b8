-- One line says one thing.
use Rattle.std.proofs.Common.{◌≡◌, ℕ, ◌<◌, ◌^◌, List, [], ◌∷◌, ◌++◌, Option, None, Some, refl, sym, ◌∙◌, ap, arith}
use Rattle.std.specs.Prelude.{codes, slice_index}
use Rattle.std.specs.Fmt.{decimal}
use Rattle.std.proofs.lemmas.Option.{same_Some}
use Rattle.kb_names.specs.Targets.{target_text}
use Rattle.kb_names.specs.declared.types.ExactType.{ExactType}
use Rattle.kb_names.specs.declared.types.Target.{Target}
use Rattle.kb_heap.specs.declared.bounds.Bound.{Bound}
use Rattle.kb_heap.specs.declared.bounds.Bound.TheVariants as of_all
use Rattle.kb_heap.specs.declared.bounds.RunBounds.{RunBounds}
use Rattle.kb_heap.specs.declared.ending.Place.{Place}
use Rattle.kb_grammar.specs.Lines.{Lacks}
use Rattle.kb_grammar.proofs.WordLaws.{same_behind, same_first}
use Rattle.kb_grammar.proofs.NumberLaws.{same_numbered}
use Rattle.kb_heap_words.specs.Words.{exact_text, place_text, bound_name}
use Rattle.kb_heap_words.proofs.Lacking.{space, digits_lack}
use Rattle.kb_heap_words.proofs.NameLaws.{same_target}
use Rattle.kb_heap_words.proofs.WordLaws.{same_exact, exact_lacks, same_place, same_bound}
use Rattle.kb_test_lines.specs.declared.words.Word.{Word}
use Rattle.kb_test_lines.specs.declared.words.Reference.{Reference}
use Rattle.kb_test_lines.specs.declared.lines.Listed.{Listed}
use Rattle.kb_test_lines.specs.declared.outcomes.RunBound.{RunBound}
use Rattle.kb_test_lines.specs.declared.outcomes.RunBound.TheVariants.{Alloc, Loops, Depth, Steps}
use Rattle.kb_test_lines.specs.declared.outcomes.Outcome.{Outcome}
use Rattle.kb_test_lines.specs.declared.outcomes.Outcome.TheVariants.{Returns, Throws, IllTyped, Past}
use Rattle.kb_test_lines.specs.declared.lines.Line.{Line}
use Rattle.kb_test_lines.specs.declared.lines.Line.TheVariants.{Method, Limit, Arg, In, Ends, Out, New, End}
use Rattle.kb_test_lines.specs.Words.{reference_text, word_text, words_text}
use Rattle.kb_test_lines.specs.Lines.{listed_text, bounds_text, bound_of, outcome_text, line_text, IsListed, IsOutcome, IsLine, texts_of}
use Rattle.kb_test_lines.proofs.Texts.{AllLines}
use Rattle.kb_test_lines.proofs.SameWords.{unlike, same_reference, same_word, same_words, words_tail}
use Rattle.kb_test_lines.proofs.BoundsLine.{are_numbers, same_bounds}

pub same_listed : (a b : Listed) → IsListed a → IsListed b → listed_text a ≡ listed_text b → a ≡ b
same_listed a b p q e =
    let parts = same_first 32 (exact_text a.kind) (exact_text b.kind) (words_text a.values) (words_text b.values) (exact_lacks 32 space a.kind) (exact_lacks 32 space b.kind) (words_tail a.values) (words_tail b.values) e in
    made a b (same_exact a.kind b.kind parts.0) (same_words a.values b.values p.1 q.1 parts.1)
  where
    made : (a b : Listed) → a.kind ≡ b.kind → a.values ≡ b.values → a ≡ b
    made a b k v =
        ap (λ (kind : ExactType). (let listed : Listed = record { kind = kind; values = a.values } in listed)) k
        ∙ ap (λ (values : List Word). (let listed : Listed = record { kind = b.kind; values = values } in listed)) v

pub digits : (number : ℕ) → number < 2 ^ 32 → Lacks 32 (decimal number)
digits number small = digits_lack 32 number space.apart small

-- ---- endings

-- a bound of runs is one of all bounds
abbrev run_of : Bound → Option RunBound
run_of of_all.K = None
run_of of_all.Array = None
run_of of_all.Alloc = Some Alloc
run_of of_all.Loops = Some Loops
run_of of_all.Depth = Some Depth
run_of of_all.Steps = Some Steps

run_back : (bound : RunBound) → run_of (bound_of bound) ≡ Some bound
run_back Alloc = refl
run_back Loops = refl
run_back Depth = refl
run_back Steps = refl

pub same_run_bound : (a b : RunBound) → bound_name (bound_of a) ≡ bound_name (bound_of b) → a ≡ b
same_run_bound a b e =
    let runs : run_of (bound_of a) ≡ run_of (bound_of b) = ap run_of (same_bound (bound_of a) (bound_of b) e) in
    same_Some a b (sym (run_back a) ∙ runs ∙ run_back b)

-- the two ways to return
no_value : (word : Word) → codes "returns" ≡ codes "returns " ++ word_text word → ⊥
no_value word e = go (same_behind (codes "returns") [] (32 ∷ word_text word) e)
  where
    go : [] ≡ 32 ∷ word_text word → ⊥
    go h = cc

same_outcome : (a b : Outcome) → IsOutcome a → IsOutcome b → outcome_text a ≡ outcome_text b → a ≡ b
unfolding outcome_text
same_outcome (Returns None) (Returns None) p q e = refl
same_outcome (Returns None) (Returns (Some b)) p q e = absurd (no_value b e)
same_outcome (Returns None) (Throws b) p q e = absurd (unlike 114 116 (omega arith) (ap (λ (l : List ℕ). slice_index l 0) e))
same_outcome (Returns None) (IllTyped b) p q e = absurd (unlike 114 105 (omega arith) (ap (λ (l : List ℕ). slice_index l 0) e))
same_outcome (Returns None) (Past b) p q e = absurd (unlike 114 112 (omega arith) (ap (λ (l : List ℕ). slice_index l 0) e))
same_outcome (Returns (Some a)) (Returns None) p q e = absurd (no_value a (sym e))
same_outcome (Returns (Some a)) (Returns (Some b)) p q e = ap (λ (w : Word). Returns (Some w)) (same_word a b p q (same_behind (codes "returns ") (word_text a) (word_text b) e))
same_outcome (Returns (Some a)) (Throws b) p q e = absurd (unlike 114 116 (omega arith) (ap (λ (l : List ℕ). slice_index l 0) e))
same_outcome (Returns (Some a)) (IllTyped b) p q e = absurd (unlike 114 105 (omega arith) (ap (λ (l : List ℕ). slice_index l 0) e))
same_outcome (Returns (Some a)) (Past b) p q e = absurd (unlike 114 112 (omega arith) (ap (λ (l : List ℕ). slice_index l 0) e))
same_outcome (Throws a) (Returns None) p q e = absurd (unlike 116 114 (omega arith) (ap (λ (l : List ℕ). slice_index l 0) e))
same_outcome (Throws a) (Returns (Some b)) p q e = absurd (unlike 116 114 (omega arith) (ap (λ (l : List ℕ). slice_index l 0) e))
same_outcome (Throws a) (Throws b) p q e = ap (λ (r : Reference). Throws r) (same_reference a b p q (same_behind (codes "throws ") (reference_text a) (reference_text b) e))
same_outcome (Throws a) (IllTyped b) p q e = absurd (unlike 116 105 (omega arith) (ap (λ (l : List ℕ). slice_index l 0) e))
same_outcome (Throws a) (Past b) p q e = absurd (unlike 116 112 (omega arith) (ap (λ (l : List ℕ). slice_index l 0) e))
same_outcome (IllTyped a) (Returns None) p q e = absurd (unlike 105 114 (omega arith) (ap (λ (l : List ℕ). slice_index l 0) e))
same_outcome (IllTyped a) (Returns (Some b)) p q e = absurd (unlike 105 114 (omega arith) (ap (λ (l : List ℕ). slice_index l 0) e))
same_outcome (IllTyped a) (Throws b) p q e = absurd (unlike 105 116 (omega arith) (ap (λ (l : List ℕ). slice_index l 0) e))
same_outcome (IllTyped a) (IllTyped b) p q e = ap (λ (p : Place). IllTyped p) (same_place a b p.1 q.1 (same_behind (codes "illtyped ") (place_text a) (place_text b) e))
same_outcome (IllTyped a) (Past b) p q e = absurd (unlike 105 112 (omega arith) (ap (λ (l : List ℕ). slice_index l 0) e))
same_outcome (Past a) (Returns None) p q e = absurd (unlike 112 114 (omega arith) (ap (λ (l : List ℕ). slice_index l 0) e))
same_outcome (Past a) (Returns (Some b)) p q e = absurd (unlike 112 114 (omega arith) (ap (λ (l : List ℕ). slice_index l 0) e))
same_outcome (Past a) (Throws b) p q e = absurd (unlike 112 116 (omega arith) (ap (λ (l : List ℕ). slice_index l 0) e))
same_outcome (Past a) (IllTyped b) p q e = absurd (unlike 112 105 (omega arith) (ap (λ (l : List ℕ). slice_index l 0) e))
same_outcome (Past a) (Past b) p q e = ap (λ (b : RunBound). Past b) (same_run_bound a b (same_behind (codes "past ") (bound_name (bound_of a)) (bound_name (bound_of b)) e))

-- ---- lines

-- no other line is an ending's
no_ending-method : (a : Target) (b : Outcome) → line_text (Method a) ≡ outcome_text b → ⊥
unfolding line_text outcome_text
no_ending-method a (Returns None) e = unlike 116 114 (omega arith) (ap (λ (l : List ℕ). slice_index l 0) e)
no_ending-method a (Returns (Some b)) e = unlike 116 114 (omega arith) (ap (λ (l : List ℕ). slice_index l 0) e)
no_ending-method a (Throws b) e = unlike 101 104 (omega arith) (ap (λ (l : List ℕ). slice_index l 1) e)
no_ending-method a (IllTyped b) e = unlike 116 105 (omega arith) (ap (λ (l : List ℕ). slice_index l 0) e)
no_ending-method a (Past b) e = unlike 116 112 (omega arith) (ap (λ (l : List ℕ). slice_index l 0) e)

no_ending-limit : (a : RunBounds) (b : Outcome) → line_text (Limit a) ≡ outcome_text b → ⊥
unfolding line_text outcome_text bounds_text
no_ending-limit a (Returns None) e = unlike 98 114 (omega arith) (ap (λ (l : List ℕ). slice_index l 0) e)
no_ending-limit a (Returns (Some b)) e = unlike 98 114 (omega arith) (ap (λ (l : List ℕ). slice_index l 0) e)
no_ending-limit a (Throws b) e = unlike 98 116 (omega arith) (ap (λ (l : List ℕ). slice_index l 0) e)
no_ending-limit a (IllTyped b) e = unlike 98 105 (omega arith) (ap (λ (l : List ℕ). slice_index l 0) e)
no_ending-limit a (Past b) e = unlike 98 112 (omega arith) (ap (λ (l : List ℕ). slice_index l 0) e)

no_ending-arg : (a : Word) (b : Outcome) → line_text (Arg a) ≡ outcome_text b → ⊥
unfolding line_text outcome_text
no_ending-arg a (Returns None) e = unlike 97 114 (omega arith) (ap (λ (l : List ℕ). slice_index l 0) e)
no_ending-arg a (Returns (Some b)) e = unlike 97 114 (omega arith) (ap (λ (l : List ℕ). slice_index l 0) e)
no_ending-arg a (Throws b) e = unlike 97 116 (omega arith) (ap (λ (l : List ℕ). slice_index l 0) e)
no_ending-arg a (IllTyped b) e = unlike 97 105 (omega arith) (ap (λ (l : List ℕ). slice_index l 0) e)
no_ending-arg a (Past b) e = unlike 97 112 (omega arith) (ap (λ (l : List ℕ). slice_index l 0) e)

no_ending-in : (m : ℕ) (a : Listed) (b : Outcome) → line_text (In m a) ≡ outcome_text b → ⊥
unfolding line_text outcome_text
no_ending-in m a (Returns None) e = unlike 105 114 (omega arith) (ap (λ (l : List ℕ). slice_index l 0) e)
no_ending-in m a (Returns (Some b)) e = unlike 105 114 (omega arith) (ap (λ (l : List ℕ). slice_index l 0) e)
no_ending-in m a (Throws b) e = unlike 105 116 (omega arith) (ap (λ (l : List ℕ). slice_index l 0) e)
no_ending-in m a (IllTyped b) e = unlike 110 108 (omega arith) (ap (λ (l : List ℕ). slice_index l 1) e)
no_ending-in m a (Past b) e = unlike 105 112 (omega arith) (ap (λ (l : List ℕ). slice_index l 0) e)

no_ending-out : (m : ℕ) (a : List Word) (b : Outcome) → line_text (Out m a) ≡ outcome_text b → ⊥
unfolding line_text outcome_text
no_ending-out m a (Returns None) e = unlike 111 114 (omega arith) (ap (λ (l : List ℕ). slice_index l 0) e)
no_ending-out m a (Returns (Some b)) e = unlike 111 114 (omega arith) (ap (λ (l : List ℕ). slice_index l 0) e)
no_ending-out m a (Throws b) e = unlike 111 116 (omega arith) (ap (λ (l : List ℕ). slice_index l 0) e)
no_ending-out m a (IllTyped b) e = unlike 111 105 (omega arith) (ap (λ (l : List ℕ). slice_index l 0) e)
no_ending-out m a (Past b) e = unlike 111 112 (omega arith) (ap (λ (l : List ℕ). slice_index l 0) e)

no_ending-new : (m : ℕ) (a : Listed) (b : Outcome) → line_text (New m a) ≡ outcome_text b → ⊥
unfolding line_text outcome_text
no_ending-new m a (Returns None) e = unlike 110 114 (omega arith) (ap (λ (l : List ℕ). slice_index l 0) e)
no_ending-new m a (Returns (Some b)) e = unlike 110 114 (omega arith) (ap (λ (l : List ℕ). slice_index l 0) e)
no_ending-new m a (Throws b) e = unlike 110 116 (omega arith) (ap (λ (l : List ℕ). slice_index l 0) e)
no_ending-new m a (IllTyped b) e = unlike 110 105 (omega arith) (ap (λ (l : List ℕ). slice_index l 0) e)
no_ending-new m a (Past b) e = unlike 110 112 (omega arith) (ap (λ (l : List ℕ). slice_index l 0) e)

no_ending-end : (b : Outcome) → line_text End ≡ outcome_text b → ⊥
unfolding line_text outcome_text
no_ending-end (Returns None) e = unlike 101 114 (omega arith) (ap (λ (l : List ℕ). slice_index l 0) e)
no_ending-end (Returns (Some b)) e = unlike 101 114 (omega arith) (ap (λ (l : List ℕ). slice_index l 0) e)
no_ending-end (Throws b) e = unlike 101 116 (omega arith) (ap (λ (l : List ℕ). slice_index l 0) e)
no_ending-end (IllTyped b) e = unlike 101 105 (omega arith) (ap (λ (l : List ℕ). slice_index l 0) e)
no_ending-end (Past b) e = unlike 101 112 (omega arith) (ap (λ (l : List ℕ). slice_index l 0) e)

pub same_line : (a b : Line) → IsLine a → IsLine b → line_text a ≡ line_text b → a ≡ b
unfolding line_text bounds_text
same_line (Method a) (Method b) p q e = ap (λ (t : Target). Method t) (same_target a b (same_behind (codes "test ") (target_text a) (target_text b) e))
same_line (Method a) (Limit b) p q e = absurd (unlike 116 98 (omega arith) (ap (λ (l : List ℕ). slice_index l 0) e))
same_line (Method a) (Arg b) p q e = absurd (unlike 116 97 (omega arith) (ap (λ (l : List ℕ). slice_index l 0) e))
same_line (Method a) (In n b) p q e = absurd (unlike 116 105 (omega arith) (ap (λ (l : List ℕ). slice_index l 0) e))
same_line (Method a) (Ends b) p q e = absurd (no_ending-method a b e)
same_line (Method a) (Out n b) p q e = absurd (unlike 116 111 (omega arith) (ap (λ (l : List ℕ). slice_index l 0) e))
same_line (Method a) (New n b) p q e = absurd (unlike 116 110 (omega arith) (ap (λ (l : List ℕ). slice_index l 0) e))
same_line (Method a) End p q e = absurd (unlike 116 101 (omega arith) (ap (λ (l : List ℕ). slice_index l 0) e))
same_line (Limit a) (Method b) p q e = absurd (unlike 98 116 (omega arith) (ap (λ (l : List ℕ). slice_index l 0) e))
same_line (Limit a) (Limit b) p q e = ap (λ (r : RunBounds). Limit r) (same_bounds a b (are_numbers a p) (are_numbers b q) e)
same_line (Limit a) (Arg b) p q e = absurd (unlike 98 97 (omega arith) (ap (λ (l : List ℕ). slice_index l 0) e))
same_line (Limit a) (In n b) p q e = absurd (unlike 98 105 (omega arith) (ap (λ (l : List ℕ). slice_index l 0) e))
same_line (Limit a) (Ends b) p q e = absurd (no_ending-limit a b e)
same_line (Limit a) (Out n b) p q e = absurd (unlike 98 111 (omega arith) (ap (λ (l : List ℕ). slice_index l 0) e))
same_line (Limit a) (New n b) p q e = absurd (unlike 98 110 (omega arith) (ap (λ (l : List ℕ). slice_index l 0) e))
same_line (Limit a) End p q e = absurd (unlike 98 101 (omega arith) (ap (λ (l : List ℕ). slice_index l 0) e))
same_line (Arg a) (Method b) p q e = absurd (unlike 97 116 (omega arith) (ap (λ (l : List ℕ). slice_index l 0) e))
same_line (Arg a) (Limit b) p q e = absurd (unlike 97 98 (omega arith) (ap (λ (l : List ℕ). slice_index l 0) e))
same_line (Arg a) (Arg b) p q e = ap (λ (w : Word). Arg w) (same_word a b p q (same_behind (codes "arg ") (word_text a) (word_text b) e))
same_line (Arg a) (In n b) p q e = absurd (unlike 97 105 (omega arith) (ap (λ (l : List ℕ). slice_index l 0) e))
same_line (Arg a) (Ends b) p q e = absurd (no_ending-arg a b e)
same_line (Arg a) (Out n b) p q e = absurd (unlike 97 111 (omega arith) (ap (λ (l : List ℕ). slice_index l 0) e))
same_line (Arg a) (New n b) p q e = absurd (unlike 97 110 (omega arith) (ap (λ (l : List ℕ). slice_index l 0) e))
same_line (Arg a) End p q e = absurd (unlike 97 101 (omega arith) (ap (λ (l : List ℕ). slice_index l 0) e))
same_line (In m a) (Method b) p q e = absurd (unlike 105 116 (omega arith) (ap (λ (l : List ℕ). slice_index l 0) e))
same_line (In m a) (Limit b) p q e = absurd (unlike 105 98 (omega arith) (ap (λ (l : List ℕ). slice_index l 0) e))
same_line (In m a) (Arg b) p q e = absurd (unlike 105 97 (omega arith) (ap (λ (l : List ℕ). slice_index l 0) e))
same_line (In m a) (In n b) p q e =
    let parts = same_numbered 32 (codes "in i") m n (32 ∷ listed_text a) (32 ∷ listed_text b) (omega arith) p.0 q.0 refl refl e in
    ap (λ (k : ℕ). In k a) parts.0 ∙ ap (λ (l : Listed). In n l) (same_listed a b p.1 q.1 (same_behind (32 ∷ []) (listed_text a) (listed_text b) parts.1))
same_line (In m a) (Ends b) p q e = absurd (no_ending-in m a b e)
same_line (In m a) (Out n b) p q e = absurd (unlike 105 111 (omega arith) (ap (λ (l : List ℕ). slice_index l 0) e))
same_line (In m a) (New n b) p q e = absurd (unlike 105 110 (omega arith) (ap (λ (l : List ℕ). slice_index l 0) e))
same_line (In m a) End p q e = absurd (unlike 105 101 (omega arith) (ap (λ (l : List ℕ). slice_index l 0) e))
same_line (Ends a) (Method b) p q e = absurd (no_ending-method b a (sym e))
same_line (Ends a) (Limit b) p q e = absurd (no_ending-limit b a (sym e))
same_line (Ends a) (Arg b) p q e = absurd (no_ending-arg b a (sym e))
same_line (Ends a) (In n b) p q e = absurd (no_ending-in n b a (sym e))
same_line (Ends a) (Ends b) p q e = ap (λ (o : Outcome). Ends o) (same_outcome a b p q e)
same_line (Ends a) (Out n b) p q e = absurd (no_ending-out n b a (sym e))
same_line (Ends a) (New n b) p q e = absurd (no_ending-new n b a (sym e))
same_line (Ends a) End p q e = absurd (no_ending-end a (sym e))
same_line (Out m a) (Method b) p q e = absurd (unlike 111 116 (omega arith) (ap (λ (l : List ℕ). slice_index l 0) e))
same_line (Out m a) (Limit b) p q e = absurd (unlike 111 98 (omega arith) (ap (λ (l : List ℕ). slice_index l 0) e))
same_line (Out m a) (Arg b) p q e = absurd (unlike 111 97 (omega arith) (ap (λ (l : List ℕ). slice_index l 0) e))
same_line (Out m a) (In n b) p q e = absurd (unlike 111 105 (omega arith) (ap (λ (l : List ℕ). slice_index l 0) e))
same_line (Out m a) (Ends b) p q e = absurd (no_ending-out m a b e)
same_line (Out m a) (Out n b) p q e =
    let parts = same_numbered 32 (codes "out i") m n (words_text a) (words_text b) (omega arith) p.0 q.0 (words_tail a) (words_tail b) e in
    ap (λ (k : ℕ). Out k a) parts.0 ∙ ap (λ (l : List Word). Out n l) (same_words a b p.1 q.1 parts.1)
same_line (Out m a) (New n b) p q e = absurd (unlike 111 110 (omega arith) (ap (λ (l : List ℕ). slice_index l 0) e))
same_line (Out m a) End p q e = absurd (unlike 111 101 (omega arith) (ap (λ (l : List ℕ). slice_index l 0) e))
same_line (New m a) (Method b) p q e = absurd (unlike 110 116 (omega arith) (ap (λ (l : List ℕ). slice_index l 0) e))
same_line (New m a) (Limit b) p q e = absurd (unlike 110 98 (omega arith) (ap (λ (l : List ℕ). slice_index l 0) e))
same_line (New m a) (Arg b) p q e = absurd (unlike 110 97 (omega arith) (ap (λ (l : List ℕ). slice_index l 0) e))
same_line (New m a) (In n b) p q e = absurd (unlike 110 105 (omega arith) (ap (λ (l : List ℕ). slice_index l 0) e))
same_line (New m a) (Ends b) p q e = absurd (no_ending-new m a b e)
same_line (New m a) (Out n b) p q e = absurd (unlike 110 111 (omega arith) (ap (λ (l : List ℕ). slice_index l 0) e))
same_line (New m a) (New n b) p q e =
    let parts = same_numbered 32 (codes "new n") m n (32 ∷ listed_text a) (32 ∷ listed_text b) (omega arith) p.0 q.0 refl refl e in
    ap (λ (k : ℕ). New k a) parts.0 ∙ ap (λ (l : Listed). New n l) (same_listed a b p.1 q.1 (same_behind (32 ∷ []) (listed_text a) (listed_text b) parts.1))
same_line (New m a) End p q e = absurd (unlike 110 101 (omega arith) (ap (λ (l : List ℕ). slice_index l 0) e))
same_line End (Method b) p q e = absurd (unlike 101 116 (omega arith) (ap (λ (l : List ℕ). slice_index l 0) e))
same_line End (Limit b) p q e = absurd (unlike 101 98 (omega arith) (ap (λ (l : List ℕ). slice_index l 0) e))
same_line End (Arg b) p q e = absurd (unlike 101 97 (omega arith) (ap (λ (l : List ℕ). slice_index l 0) e))
same_line End (In n b) p q e = absurd (unlike 101 105 (omega arith) (ap (λ (l : List ℕ). slice_index l 0) e))
same_line End (Ends b) p q e = absurd (no_ending-end b e)
same_line End (Out n b) p q e = absurd (unlike 101 111 (omega arith) (ap (λ (l : List ℕ). slice_index l 0) e))
same_line End (New n b) p q e = absurd (unlike 101 110 (omega arith) (ap (λ (l : List ℕ). slice_index l 0) e))
same_line End End p q e = refl

pub same_lines : (xs ys : List Line) → AllLines xs → AllLines ys → texts_of xs ≡ texts_of ys → xs ≡ ys
same_lines [] [] p q e = refl
same_lines [] (y ∷ ys) p q e = cc
same_lines (x ∷ xs) [] p q e = cc
same_lines (x ∷ xs) (y ∷ ys) p q e =
    let head : line_text x ≡ line_text y = cc in
    let tails : texts_of xs ≡ texts_of ys = cc in
    ap (λ (l : Line). l ∷ xs) (same_line x y p.0 q.0 head) ∙ ap (λ (ls : List Line). y ∷ ls) (same_lines xs ys p.1 q.1 tails)
