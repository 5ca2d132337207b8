-- The parts of words that are read.
use Rattle.std.proofs.Common.{◌≡◌, ◌↔◌, IsTrue, Bool, false, ℕ, ◌<◌, ◌^◌, List, [], ◌∷◌, ◌++◌, Option, None, Some, MatchOption, refl, sym, ◌∙◌, ap, append-nil, arith, subst, inl, inr, length}
use Rattle.std.specs.Prelude.{codes}
use Rattle.std.specs.List.{flat_map}
use Rattle.std.specs.Fmt.{decimal}
use Rattle.std.proofs.lemmas.Fmt.{decimal_nonempty}
use Rattle.kb_heap.specs.declared.bounds.Bound.{Bound}
use Rattle.kb_heap.specs.declared.heap.Value.{Value}
use Rattle.kb_heap_words.specs.Words.{bound_name}
use Rattle.kb_heap_words.proofs.Lacking.{space}
use Rattle.kb_grammar.specs.Lines.{Lacks, IsTail, IsRead}
use Rattle.kb_grammar.proofs.WordLaws.{same_cut, same_behind, not_lacking}
use Rattle.kb_grammar.proofs.NumberLaws.{Lacks-decimal, same_numbered}
use Rattle.kb_grammar.proofs.ListLaws.{AreApart, IsReadSoFar, is_tail, same_items, nothing_read, one_more, no_item}
use Rattle.kb_terms.specs.Op.{op_name}
use Rattle.kb_terms.specs.declared.op.Op.{Op}
use Rattle.kb_terms.specs.declared.op.Op.TheVariants.{Add, Sub, Mul, Div, Rem, Neg, Shl, Shr, Ushr, And, Or, Xor, Byte, Char, Short, Eq, Lt, Ult}
use Rattle.kb_terms.specs.declared.listing.Operand.{Operand}
use Rattle.kb_terms.specs.declared.listing.Term.{Term}
use Rattle.kb_picture.specs.declared.path.Out.{Out}
use Rattle.kb_picture.specs.declared.picture.Seen.{Seen}
use Rattle.kb_picture.specs.declared.picture.Standing.{Standing}
use Rattle.kb_path_words.specs.Words.{operand_text, second_text, term_text}
use Rattle.kb_path_words.specs.Lines.{further_decisions, decisions_text}
use Rattle.kb_path_words.specs.Ranges.{IsSmall, IsOperandInRange}
use Rattle.kb_path_words.specs.Spelled.{IsAmong, SpellsSeen, SpellsStanding, SpellsOp, SpellsOperand, SpellsOperands, SpellsTerm, SpellsOut, SpellsValue, SpellsFurther, SpellsDecisions, SpellsCut}
use Rattle.kb_path_words.proofs.ReadBack.{same_seen, same_standing, same_out, same_value}
use Rattle.kb_path_words.proofs.WordLaws.{op_lacks, operand_lacks, same_term}

-- it is not that line
pub not_line : (told : Bool) (P : Type 0) → told ≡ false → IsTrue told ↔ P → P → ⊥
not_line told P is_false tells is = let yes : IsTrue told = tells.1 is in cc

-- ---- operations

-- all of them
abbrev pub ops : List Op
ops = Add ∷ Sub ∷ Mul ∷ Div ∷ Rem ∷ Neg ∷ Shl ∷ Shr ∷ Ushr ∷ And ∷ Or ∷ Xor ∷ Byte ∷ Char ∷ Short ∷ Eq ∷ Lt ∷ Ult ∷ []

pub is_among : (op : Op) → IsAmong op ops
is_among Add = inl refl
is_among Sub = inr (inl refl)
is_among Mul = inr (inr (inl refl))
is_among Div = inr (inr (inr (inl refl)))
is_among Rem = inr (inr (inr (inr (inl refl))))
is_among Neg = inr (inr (inr (inr (inr (inl refl)))))
is_among Shl = inr (inr (inr (inr (inr (inr (inl refl))))))
is_among Shr = inr (inr (inr (inr (inr (inr (inr (inl refl)))))))
is_among Ushr = inr (inr (inr (inr (inr (inr (inr (inr (inl refl))))))))
is_among And = inr (inr (inr (inr (inr (inr (inr (inr (inr (inl refl)))))))))
is_among Or = inr (inr (inr (inr (inr (inr (inr (inr (inr (inr (inl refl))))))))))
is_among Xor = inr (inr (inr (inr (inr (inr (inr (inr (inr (inr (inr (inl refl)))))))))))
is_among Byte = inr (inr (inr (inr (inr (inr (inr (inr (inr (inr (inr (inr (inl refl))))))))))))
is_among Char = inr (inr (inr (inr (inr (inr (inr (inr (inr (inr (inr (inr (inr (inl refl)))))))))))))
is_among Short = inr (inr (inr (inr (inr (inr (inr (inr (inr (inr (inr (inr (inr (inr (inl refl))))))))))))))
is_among Eq = inr (inr (inr (inr (inr (inr (inr (inr (inr (inr (inr (inr (inr (inr (inr (inl refl)))))))))))))))
is_among Lt = inr (inr (inr (inr (inr (inr (inr (inr (inr (inr (inr (inr (inr (inr (inr (inr (inl refl))))))))))))))))
is_among Ult = inr (inr (inr (inr (inr (inr (inr (inr (inr (inr (inr (inr (inr (inr (inr (inr (inr (inl refl)))))))))))))))))

-- one of which the word is no name is left aside
pub still_among : (word : List ℕ) (first op : Op) (others : List Op) → (word ≡ op_name first → ⊥) → word ≡ op_name op → IsAmong op (first ∷ others) → IsAmong op others
still_among word first op others not is (inl same) = absurd (not (is ∙ ap op_name same))
still_among word first op others not is (inr among) = among

pub op_read : (word : List ℕ) (read : Option Op) → MatchOption read ((op : Op) → IsAmong op ops → word ≡ op_name op → ⊥) (λ op. word ≡ op_name op) → IsRead SpellsOp word read
op_read word (Some op) h = h
op_read word None h = λ op is. h op (is_among op) is

-- ---- operands

-- two operands, or the first of them where there is no space
two_operands : (text left right : List ℕ) → Lacks 32 left → text ≡ left ++ 32 ∷ right → (operands : Operand × Option Operand) → SpellsOperands operands text
    → (second : Operand) × IsOperandInRange second × (left ≡ operand_text operands.0) × (right ≡ operand_text second)
unfolding second_text
two_operands text left right lacks e (first, None) spells =
    absurd (not_lacking 32 left right (operand_text first) (operand_lacks 32 space first spells.0.0) (sym e ∙ spells.1 ∙ append-nil (operand_text first)))
two_operands text left right lacks e (first, Some second) spells =
    let parts = same_cut 32 left (operand_text first) right (operand_text second) lacks (operand_lacks 32 space first spells.0.0) (sym e ∙ spells.1) in
    (second, spells.0.1, parts.0, parts.1)

pub no_left : (text left right : List ℕ) → Lacks 32 left → text ≡ left ++ 32 ∷ right → ((operand : Operand) → SpellsOperand operand left → ⊥) → (operands : Operand × Option Operand) → SpellsOperands operands text → ⊥
no_left text left right lacks e none operands spells =
    let parts = two_operands text left right lacks e operands spells in
    none operands.0 (spells.0.0, parts.2)

pub no_right : (text left right : List ℕ) → Lacks 32 left → text ≡ left ++ 32 ∷ right → ((operand : Operand) → SpellsOperand operand right → ⊥) → (operands : Operand × Option Operand) → SpellsOperands operands text → ⊥
no_right text left right lacks e none operands spells =
    let parts = two_operands text left right lacks e operands spells in
    none parts.0 (parts.1, parts.3)

pub no_operand : (text : List ℕ) → Lacks 32 text → ((operand : Operand) → SpellsOperand operand text → ⊥) → (operands : Operand × Option Operand) → SpellsOperands operands text → ⊥
unfolding second_text
no_operand text lacks none (first, None) spells = none first (spells.0.0, spells.1 ∙ append-nil (operand_text first))
no_operand text lacks none (first, Some second) spells = not_lacking 32 (operand_text first) (operand_text second) text lacks (sym spells.1)

pub both_operands : (text left right : List ℕ) (first second : Operand) → text ≡ left ++ 32 ∷ right → SpellsOperand first left → SpellsOperand second right → SpellsOperands (first, Some second) text
unfolding second_text
both_operands text left right first second e p q = ((p.0, q.0), e ∙ ap (λ (t : List ℕ). t ++ 32 ∷ right) p.1 ∙ ap (λ (t : List ℕ). operand_text first ++ 32 ∷ t) q.1)

pub one_operand : (text : List ℕ) (first : Operand) → SpellsOperand first text → SpellsOperands (first, None) text
unfolding second_text
one_operand text first p = ((p.0, tt), p.1 ∙ sym (append-nil (operand_text first)))

-- ---- terms

pub no_space : (text : List ℕ) → Lacks 32 text → (term : Term) → SpellsTerm term text → ⊥
unfolding term_text
no_space text lacks term spells = not_lacking 32 (op_name term.op) (operand_text term.left ++ second_text term.right) text lacks (sym spells.1)

term_parts : (text name operands : List ℕ) → Lacks 32 name → text ≡ name ++ 32 ∷ operands → (term : Term) → SpellsTerm term text → (name ≡ op_name term.op) × (operands ≡ operand_text term.left ++ second_text term.right)
unfolding term_text
term_parts text name operands lacks e term spells =
    same_cut 32 name (op_name term.op) operands (operand_text term.left ++ second_text term.right) lacks (op_lacks 32 space term.op) (sym e ∙ spells.1)

pub no_op : (text name operands : List ℕ) → Lacks 32 name → text ≡ name ++ 32 ∷ operands → ((op : Op) → SpellsOp op name → ⊥) → (term : Term) → SpellsTerm term text → ⊥
no_op text name operands lacks e none term spells = none term.op (term_parts text name operands lacks e term spells).0

pub no_operands : (text name operands : List ℕ) → Lacks 32 name → text ≡ name ++ 32 ∷ operands → ((both : Operand × Option Operand) → SpellsOperands both operands → ⊥) → (term : Term) → SpellsTerm term text → ⊥
no_operands text name operands lacks e none term spells =
    none (term.left, term.right) ((spells.0.left, spells.0.right), (term_parts text name operands lacks e term spells).1)

pub whole_term : (text name operands : List ℕ) (op : Op) (left : Operand) (right : Option Operand) → text ≡ name ++ 32 ∷ operands → SpellsOp op name → SpellsOperands (left, right) operands
    → SpellsTerm (record { op = op; left = left; right = right }) text
unfolding term_text
whole_term text name operands op left right e p q =
    (record { left = q.0.0; right = q.0.1 }, e ∙ ap (λ (t : List ℕ). t ++ 32 ∷ operands) p ∙ ap (λ (t : List ℕ). op_name op ++ 32 ∷ t) q.1)

-- ---- decisions

abbrev pub dotted : ℕ → List ℕ
dotted number = codes "." ++ decimal number

pub dots_apart : AreApart 46 IsSmall dotted
dots_apart = record { begins = λ number. (decimal number, refl); same = λ one other us vs p q h k e. same_numbered 46 (46 ∷ []) one other us vs (omega arith) p q h k e }

further_is : (numbers : List ℕ) → further_decisions numbers ≡ flat_map dotted numbers
unfolding further_decisions
further_is numbers = refl

-- the first decision and so many of the others are read
pub record AreReadBehind (first : ℕ) (decisions rest text : List ℕ) : Type 0 where
  pub read : List ℕ
  pub is : decisions ≡ first ∷ read
  pub so_far : IsReadSoFar IsSmall dotted read rest text

pub none_behind : (first : ℕ) (decisions text : List ℕ) → decisions ≡ first ∷ [] → AreReadBehind first decisions text text
none_behind first decisions text is = record { read = []; is = is; so_far = nothing_read IsSmall dotted text }

pub one_behind : (first : ℕ) (decisions longer : List ℕ) (decision : ℕ) (rest left text : List ℕ) → decision < 2 ^ 32 → IsTail 46 left → rest ≡ 46 ∷ (decimal decision ++ left)
    → longer ≡ decisions ++ decision ∷ [] → AreReadBehind first decisions rest text → AreReadBehind first longer left text
one_behind first decisions longer decision rest left text small tail e longer_is are = record {
  read = are.read ++ decision ∷ [];
  is = longer_is ∙ ap (λ (ds : List ℕ). ds ++ decision ∷ []) are.is;
  so_far = one_more 46 IsSmall dotted dots_apart are.read (are.read ++ decision ∷ []) decision rest left text small tail e refl are.so_far;
}

pub no_more : (first : ℕ) (decisions rest text : List ℕ) → ((number : ℕ) (left : List ℕ) → number < 2 ^ 32 → IsTail 46 left → rest ≡ 46 ∷ (decimal number ++ left) → ⊥) → (rest ≡ [] → ⊥)
    → AreReadBehind first decisions rest text → (others : List ℕ) → SpellsFurther others text → ⊥
no_more first decisions rest text none some are others spells =
    no_item 46 IsSmall dotted dots_apart are.read rest text (λ number left small tail e. none number left small tail e) some are.so_far others spells.0 (spells.1 ∙ further_is others)

pub all_read : (first : ℕ) (decisions rest text : List ℕ) → rest ≡ [] → AreReadBehind first decisions rest text
    → (others : List ℕ) × (decisions ≡ first ∷ others) × SpellsFurther others text
all_read first decisions rest text none are = (
  are.read,
  are.is,
  (are.so_far.are, are.so_far.is ∙ ap (λ (l : List ℕ). flat_map dotted are.read ++ l) none ∙ append-nil (flat_map dotted are.read) ∙ sym (further_is are.read)),
)

-- the word of some decisions begins with a number
pub no_first : (word : List ℕ) → (word ≡ codes "-" → ⊥) → ((number : ℕ) (rest : List ℕ) → number < 2 ^ 32 → IsTail 46 rest → word ≡ decimal number ++ rest → ⊥)
    → (decisions : List ℕ) → SpellsDecisions decisions word → ⊥
unfolding decisions_text
no_first word dash none [] spells = dash spells.1
no_first word dash none (first ∷ others) spells =
    none first (further_decisions others) spells.0.0 (further_tail others) spells.1
  where
    further_tail : (others : List ℕ) → IsTail 46 (further_decisions others)
    further_tail others = subst (IsTail 46) (sym (further_is others)) (is_tail 46 IsSmall dotted dots_apart others)

-- what is read behind the first
pub decisions_read : (word rest : List ℕ) (first : ℕ) (read : Option (List ℕ)) → (word ≡ codes "-" → ⊥) → first < 2 ^ 32 → IsTail 46 rest → word ≡ decimal first ++ rest
    → MatchOption read ((others : List ℕ) → SpellsFurther others rest → ⊥) (λ decisions. (others : List ℕ) × (decisions ≡ first ∷ others) × SpellsFurther others rest)
    → IsRead SpellsDecisions word read
unfolding decisions_text
decisions_read word rest first (Some decisions) dash small tail e h =
    subst (λ (ds : List ℕ). SpellsDecisions ds word) (sym h.1) ((small, h.2.0), e ∙ ap (λ (t : List ℕ). decimal first ++ t) h.2.1)
decisions_read word rest first None dash small tail e h = none
  where
    none : (decisions : List ℕ) → SpellsDecisions decisions word → ⊥
    none [] spells = dash spells.1
    none (other ∷ others) spells =
        let tails : IsTail 46 (further_decisions others) = subst (IsTail 46) (sym (further_is others)) (is_tail 46 IsSmall dotted dots_apart others) in
        let parts = same_numbered 46 [] first other rest (further_decisions others) (omega arith) small spells.0.0 tail tails (sym e ∙ spells.1) in
        h others (spells.0.1, parts.1)

no_dash : (first : ℕ) (others : List ℕ) → first < 2 ^ 32 → codes "-" ≡ decimal first ++ further_decisions others → ⊥
no_dash first others small e =
    let short : first < 2 ^ 64 = omega (arith, small) in
    go (decimal first) (Lacks-decimal 45 first (omega arith) short) (decimal_nonempty first short) e
  where
    go : (digits : List ℕ) → Lacks 45 digits → 0 < length digits → codes "-" ≡ digits ++ further_decisions others → ⊥
    go [] lacks some same = omega (arith, some)
    go (digit ∷ digits) lacks some same = let head : digit ≡ 45 = cc in lacks.0 head

pub same_decisions : (one other : List ℕ) (text : List ℕ) → SpellsDecisions one text → SpellsDecisions other text → one ≡ other
unfolding decisions_text
same_decisions [] [] text p q = refl
same_decisions [] (y ∷ ys) text p q = absurd (no_dash y ys q.0.0 (sym p.1 ∙ q.1))
same_decisions (x ∷ xs) [] text p q = absurd (no_dash x xs p.0.0 (sym q.1 ∙ p.1))
same_decisions (x ∷ xs) (y ∷ ys) text p q =
    let tail : (zs : List ℕ) → IsTail 46 (further_decisions zs) = λ zs. subst (IsTail 46) (sym (further_is zs)) (is_tail 46 IsSmall dotted dots_apart zs) in
    let parts = same_numbered 46 [] x y (further_decisions xs) (further_decisions ys) (omega arith) p.0.0 q.0.0 (tail xs) (tail ys) (sym p.1 ∙ q.1) in
    let rest = same_items 46 IsSmall dotted dots_apart xs ys p.0.1 q.0.1 (sym (further_is xs) ∙ parts.1 ∙ further_is ys) in
    λ i. parts.0 i ∷ rest i

-- ---- the first line of a leaf

pub cut_read : (line rest : List ℕ) (read : Option Bound) → line ≡ codes "cut " ++ rest → IsRead (λ bound text. text ≡ bound_name bound) rest read → IsRead SpellsCut line read
cut_read line rest (Some bound) e h = e ∙ ap (λ (t : List ℕ). codes "cut " ++ t) h
cut_read line rest None e h = λ bound spells. h bound (same_behind (codes "cut ") rest (bound_name bound) (sym e ∙ spells))

-- ---- each text is that of one word

pub one_seen : (one other : Seen) (text : List ℕ) → SpellsSeen one text → SpellsSeen other text → one ≡ other
one_seen one other text p q = same_seen one other p.0 q.0 (sym p.1 ∙ q.1)

pub one_standing : (one other : Standing) (text : List ℕ) → SpellsStanding one text → SpellsStanding other text → one ≡ other
one_standing one other text p q = same_standing one other p.0 q.0 (sym p.1 ∙ q.1)

pub one_term : (one other : Term) (text : List ℕ) → SpellsTerm one text → SpellsTerm other text → one ≡ other
one_term one other text p q = same_term one other p.0 q.0 (sym p.1 ∙ q.1)

pub one_out : (one other : Out) (text : List ℕ) → SpellsOut one text → SpellsOut other text → one ≡ other
one_out one other text p q = same_out one other p.0 q.0 (sym p.1 ∙ q.1)

pub one_value : (one other : Value) (text : List ℕ) → SpellsValue one text → SpellsValue other text → one ≡ other
one_value one other text p q = same_value one other p.0 q.0 (sym p.1 ∙ q.1)
