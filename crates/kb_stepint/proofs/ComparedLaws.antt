-- Each condition that a take adds is on a comparison that the step makes.
use Rattle.std.proofs.Common.{◌≡◌, ℕ, zero, suc, ℤ, pos, Bool, true, false, List, [], ◌∷◌, map, drop, slice_get, Option, Some, None, refl, sym, ap, subst, ◌∙◌}
use Rattle.std.specs.Option.{option_map, option_and_then}
use Rattle.kb_class.specs.Naming.{Has}
use Rattle.kb_code.specs.declared.instruction.Cond.{Cond}
use Rattle.kb_code.specs.declared.instruction.Cond.TheVariants as conds
use Rattle.kb_code.specs.declared.instruction.Instr.{Instr}
use Rattle.kb_code.specs.declared.instruction.Instr.TheVariants as instrs
use Rattle.kb_code.specs.declared.instruction.IntOp.{IntOp}
use Rattle.kb_code.specs.declared.instruction.IntOp.TheVariants as ops
use Rattle.kb_heap.specs.declared.heap.Value.{Value}
use Rattle.kb_heap.specs.declared.heap.Value.TheVariants.{Int as IntValue}
use Rattle.kb_semantics.specs.Config.{Setting, Config}
use Rattle.kb_semantics.specs.Comparisons.{Comparison, equal, compared, compared_keys, table_keys}
use Rattle.kb_semantics.specs.Looks.{compares, compared_by, compared_divisor, if_some, taken_up}
use Rattle.kb_semantics.specs.Operands.{Taken, an_int, int_of, taken, two_ints as two_of, behind_it}
use Rattle.kb_terms.specs.declared.node.TermId.{TermId}
use Rattle.kb_terms.specs.declared.node.Node.{Node}
use Rattle.kb_terms.specs.Terms.{IsTerm, value_of}
use Rattle.kb_picture.specs.declared.choice.Choice.{Choice}
use Rattle.kb_picture.specs.declared.choice.Choice.TheVariants as choices
use Rattle.kb_frames.specs.declared.value.SymValue.{SymValue}
use Rattle.kb_frames.specs.declared.value.SymValue.TheVariants.{Int, Null, Obj, Literal, New, Loc}
use Rattle.kb_ways.specs.declared.condition.Condition.{Condition}
use Rattle.kb_ways.specs.declared.condition.Side.{Side}
use Rattle.kb_ways.specs.declared.condition.Side.TheVariants.{Term, Number}
use Rattle.kb_ways.specs.Asked.{branch_condition, equal_sides}
use Rattle.kb_stepint.specs.Choices.{branch_conditions, conditions_of, division_conditions, divisor_conditions, key_conditions}
use Rattle.kb_ways.specs.Operands.{int_term, an_int as one_int, two_ints}
use Rattle.kb_ways.specs.Needs.{IsTermOf, IsSide}
use Rattle.kb_ways.specs.Simulation.{IsComparedBy}
use Rattle.kb_ways.proofs.AskedLaws.{AreAskable, asks_for, side_value}
use Rattle.kb_ways.proofs.SideLaws.{branch_sides, key_sides}
use Rattle.kb_frames.proofs.ItemLaws.{two_parts}
use Rattle.kb_ways.proofs.OperandLaws.{int_is_term}

-- ---- operands

-- the values of a stack whose ints have these values
module _ (f : SymValue → Value) (v : TermId → ℤ) (ints : (t : TermId) → f (Int t) ≡ IntValue (v t)) where
  int_on_top : (t : TermId) (rest : List Value) → an_int (f (Int t) ∷ rest) ≡ Some (record { it = v t; rest = rest })
  int_on_top t rest = ap (λ (x : Value). option_map (taken (f (Int t) ∷ rest)) (int_of (Some x))) (ints t)

  pub one_int_is : (stack : List SymValue) (x : TermId) → one_int stack ≡ Some x → an_int (map f stack) ≡ Some (record { it = v x; rest = drop 1 (map f stack) })
  one_int_is [] x e = absurd cc
  one_int_is (Int t ∷ stack) x e = let same : t ≡ x = cc in int_on_top t (map f stack) ∙ ap (λ (u : TermId). Some (record { it = v u; rest = map f stack })) same
  one_int_is (Null ∷ stack) x e = absurd cc
  one_int_is (Obj n ∷ stack) x e = absurd cc
  one_int_is (Literal n ∷ stack) x e = absurd cc
  one_int_is (New n ∷ stack) x e = absurd cc
  one_int_is (Loc n ∷ stack) x e = absurd cc

  pub two_ints_are : (stack : List SymValue) (p : TermId × TermId) → two_ints stack ≡ Some p → two_of (map f stack) ≡ Some (record { it = (v p.0, v p.1); rest = drop 2 (map f stack) })
  two_ints_are [] p e = absurd cc
  two_ints_are (Int r ∷ []) p e = absurd cc
  two_ints_are (Int r ∷ Int l ∷ stack) p e =
      let same : (l, r) ≡ p = cc in
      ap (option_and_then (behind_it an_int)) (int_on_top r (f (Int l) ∷ map f stack))
      ∙ ap (option_map (λ (t : Taken ℤ). record { it = (t.it, v r); rest = t.rest })) (int_on_top l (map f stack))
      ∙ ap (λ (q : TermId × TermId). Some (record { it = (v q.0, v q.1); rest = map f stack })) same
  two_ints_are (Int r ∷ Null ∷ stack) p e = absurd cc
  two_ints_are (Int r ∷ Obj n ∷ stack) p e = absurd cc
  two_ints_are (Int r ∷ Literal n ∷ stack) p e = absurd cc
  two_ints_are (Int r ∷ New n ∷ stack) p e = absurd cc
  two_ints_are (Int r ∷ Loc n ∷ stack) p e = absurd cc
  two_ints_are (Null ∷ stack) p e = absurd cc
  two_ints_are (Obj n ∷ stack) p e = absurd cc
  two_ints_are (Literal n ∷ stack) p e = absurd cc
  two_ints_are (New n ∷ stack) p e = absurd cc
  two_ints_are (Loc n ∷ stack) p e = absurd cc

-- ---- what is askable

module _ (s : Setting) (c : Config) (nodes : List Node) (variables : List ℤ) where
  abbrev V : TermId → ℤ
  V t = value_of nodes t variables

  abbrev Askable : List Condition → Type 0
  Askable cs = AreAskable (IsComparedBy s c) nodes variables cs

  branch_asks : (cond : Cond) (a b : Side) (so : Bool) → asks_for nodes variables (branch_condition cond a b so) ≡ Some (compared cond (side_value nodes variables a) (side_value nodes variables b))
  branch_asks conds.Eq a b so = refl
  branch_asks conds.Ne a b so = refl
  branch_asks conds.Lt a b so = refl
  branch_asks conds.Ge a b so = refl
  branch_asks conds.Gt a b so = refl
  branch_asks conds.Le a b so = refl

  branch_askable : (cond : Cond) (a b : Side) (choice : Choice) → IsSide nodes a → IsSide nodes b → Has (compares s c) (compared cond (side_value nodes variables a) (side_value nodes variables b))
      → Askable (branch_conditions cond a b choice)
  branch_askable cond a b (choices.Branch so) p q has = (branch_sides nodes cond a b so p q, subst (IsComparedBy s c) (sym (branch_asks cond a b so)) has, tt)
  branch_askable cond a b _ p q has = tt

  equal_askable : (x : TermId) (z : ℤ) (so : Bool) (cs : List Condition) → IsTerm nodes x → Has (compares s c) (equal (V x) z) → Askable cs → Askable (equal_sides (Term x) (Number z) so ∷ cs)
  equal_askable x z so cs is has rest = (key_sides nodes x z so is, has, rest)

  divisor_askable : (x : TermId) (choice : Choice) → IsTerm nodes x → Has (compares s c) (equal (V x) (pos 0)) → Askable (divisor_conditions x choice)
  divisor_askable x choices.Zero is has = equal_askable x (pos 0) true [] is has tt
  divisor_askable x choices.NotZero is has = equal_askable x (pos 0) false [] is has tt
  divisor_askable x _ is has = tt

  default_askable : (x : TermId) (keys : List (ℤ × ℕ)) → IsTerm nodes x → ((i : ℕ) (key : ℤ × ℕ) → slice_get keys i ≡ Some key → Has (compares s c) (equal (V x) key.0))
      → Askable (map (λ (key : ℤ × ℕ). equal_sides (Term x) (Number key.0) false) keys)
  default_askable x [] is each = tt
  default_askable x (key ∷ keys) is each =
      equal_askable x key.0 false (map (λ (k : ℤ × ℕ). equal_sides (Term x) (Number k.0) false) keys) is (each 0 key refl) (default_askable x keys is (λ i k e. each (suc i) k e))

  one_key : (x : TermId) (found : Option (ℤ × ℕ)) → IsTerm nodes x → ((key : ℤ × ℕ) → found ≡ Some key → Has (compares s c) (equal (V x) key.0))
      → Askable (if_some found (λ (key : ℤ × ℕ). equal_sides (Term x) (Number key.0) true ∷ []))
  one_key x None is each = tt
  one_key x (Some key) is each = equal_askable x key.0 true [] is (each key refl) tt

  keys_askable : (x : TermId) (keys : List (ℤ × ℕ)) (choice : Choice) → IsTerm nodes x → ((i : ℕ) (key : ℤ × ℕ) → slice_get keys i ≡ Some key → Has (compares s c) (equal (V x) key.0))
      → Askable (key_conditions x keys choice)
  keys_askable x keys (choices.Key place) is each = one_key x (slice_get keys place) is (each place)
  keys_askable x keys choices.Default is each = default_askable x keys is each
  keys_askable x keys _ is each = tt

  -- each key is compared
  has_key : (value : ℤ) (keys : List (ℤ × ℕ)) (i : ℕ) (key : ℤ × ℕ) → slice_get keys i ≡ Some key → slice_get (compared_keys value keys) i ≡ Some (equal value key.0)
  has_key value [] i key e = absurd cc
  has_key value (first ∷ keys) zero key e = let same : first ≡ key = cc in ap (λ (k : ℤ × ℕ). Some (equal value k.0)) same
  has_key value (first ∷ keys) (suc i) key e = has_key value keys i key e

  -- ---- an instruction that is taken up

  compares_is : (instr : Instr) → taken_up s c ≡ Some instr → compares s c ≡ compared_by instr s c
  unfolding compares
  compares_is instr up = ap (λ (o : Option Instr). if_some o (λ (i : Instr). compared_by i s c)) up

  module _ (f : SymValue → Value) (ints : (t : TermId) → f (Int t) ≡ IntValue (V t)) (stack : List SymValue) (frame : c.frame.stack ≡ map f stack) (terms : (depth : ℕ) → IsTermOf nodes (slice_get stack depth)) where
    one_here : (x : TermId) → one_int stack ≡ Some x → an_int c.frame.stack ≡ Some (record { it = V x; rest = drop 1 (map f stack) })
    one_here x e = ap an_int frame ∙ one_int_is f V ints stack x e

    two_here : (p : TermId × TermId) → two_ints stack ≡ Some p → two_of c.frame.stack ≡ Some (record { it = (V p.0, V p.1); rest = drop 2 (map f stack) })
    two_here p e = ap two_of frame ∙ two_ints_are f V ints stack p e

    one_term : (x : TermId) → one_int stack ≡ Some x → IsTerm nodes x
    one_term x e = int_is_term nodes (slice_get stack 0) x (terms 0) e

    two_terms : (p : TermId × TermId) → two_ints stack ≡ Some p → IsTerm nodes p.0 × IsTerm nodes p.1
    two_terms p e =
        let parts = two_parts (int_term (slice_get stack 0)) (int_term (slice_get stack 1)) p e in
        (int_is_term nodes (slice_get stack 1) p.0 (terms 1) parts.1, int_is_term nodes (slice_get stack 0) p.1 (terms 0) parts.0)

    -- with an int on the top
    by_one : (instr : Instr) (asks : TermId → List Condition) → ((x : TermId) → one_int stack ≡ Some x → Askable (asks x)) → Askable (if_some (one_int stack) asks)
    by_one instr asks h = go (one_int stack) refl where
      go : (it : Option TermId) → one_int stack ≡ it → Askable (if_some it asks)
      go None e = tt
      go (Some x) e = h x e

    by_two : (instr : Instr) (asks : TermId × TermId → List Condition) → ((p : TermId × TermId) → two_ints stack ≡ Some p → Askable (asks p)) → Askable (if_some (two_ints stack) asks)
    by_two instr asks h = go (two_ints stack) refl where
      go : (it : Option (TermId × TermId)) → two_ints stack ≡ it → Askable (if_some it asks)
      go None e = tt
      go (Some p) e = h p e

    switch_askable : (instr : Instr) (keys : List (ℤ × ℕ)) (choice : Choice) → taken_up s c ≡ Some instr
        → compared_by instr s c ≡ if_some (an_int c.frame.stack) (λ (a : Taken ℤ). compared_keys a.it keys) → Askable (if_some (one_int stack) (λ x. key_conditions x keys choice))
    switch_askable instr keys choice up by = by_one instr (λ x. key_conditions x keys choice) (λ x e.
        keys_askable x keys choice (one_term x e) (λ i key at.
        (i, ap (λ (l : List Comparison). slice_get l i) (compares_is instr up ∙ by ∙ ap (λ (a : Option (Taken ℤ)). if_some a (λ (t : Taken ℤ). compared_keys t.it keys)) (one_here x e)) ∙ has_key (V x) keys i key at)))

    division_askable : (op : IntOp) (p : TermId × TermId) (choice : Choice) → two_ints stack ≡ Some p → compares s c ≡ compared_divisor op (V p.1) → IsTerm nodes p.1 → Askable (division_conditions op p.1 choice)
    division_askable ops.Div p choice e by is = divisor_askable p.1 choice is (0, ap (λ (l : List Comparison). slice_get l 0) by)
    division_askable ops.Rem p choice e by is = divisor_askable p.1 choice is (0, ap (λ (l : List Comparison). slice_get l 0) by)
    division_askable _ p choice e by is = tt

    pub instr_askable : (instr : Instr) (choice : Choice) → taken_up s c ≡ Some instr → Askable (conditions_of instr stack choice)
    instr_askable (instrs.IfInt cond target) choice up =
        by_one (instrs.IfInt cond target) (λ x. branch_conditions cond (Term x) (Number (pos 0)) choice) (λ x e.
        branch_askable cond (Term x) (Number (pos 0)) choice (one_term x e) tt
        (0, ap (λ (l : List Comparison). slice_get l 0) (compares_is (instrs.IfInt cond target) up ∙ ap (λ (a : Option (Taken ℤ)). if_some a (λ (t : Taken ℤ). compared cond t.it (pos 0) ∷ [])) (one_here x e))))
    instr_askable (instrs.IfPair cond target) choice up =
        by_two (instrs.IfPair cond target) (λ p. branch_conditions cond (Term p.0) (Term p.1) choice) (λ p e.
        branch_askable cond (Term p.0) (Term p.1) choice (two_terms p e).0 (two_terms p e).1
        (0, ap (λ (l : List Comparison). slice_get l 0) (compares_is (instrs.IfPair cond target) up ∙ ap (λ (a : Option (Taken (ℤ × ℤ))). if_some a (λ (t : Taken (ℤ × ℤ)). compared cond t.it.0 t.it.1 ∷ [])) (two_here p e))))
    instr_askable (instrs.Table low default targets) choice up = switch_askable (instrs.Table low default targets) (table_keys low targets) choice up refl
    instr_askable (instrs.Lookup default keys) choice up = switch_askable (instrs.Lookup default keys) keys choice up refl
    instr_askable (instrs.Int2 op) choice up =
        by_two (instrs.Int2 op) (λ p. division_conditions op p.1 choice) (λ p e.
        division_askable op p choice e (compares_is (instrs.Int2 op) up ∙ ap (λ (a : Option (Taken (ℤ × ℤ))). if_some a (λ (t : Taken (ℤ × ℤ)). compared_divisor op t.it.1)) (two_here p e)) (two_terms p e).1)
    instr_askable _ choice up = tt
