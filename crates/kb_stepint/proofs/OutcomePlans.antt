-- What an instruction does to a state is what it does to the configuration, with each symbolic value in the place of its value:
-- one lemma for each kind of effect.
use Rattle.std.proofs.Common.{◌≡◌, ◌⊎◌, ℕ, zero, suc, ◌+◌, ℤ, pos, Bool, true, false, List, [], ◌∷◌, ◌++◌, length, map, drop, nat_le, nat_lt, slice_get, Option, Some, None, cond, refl, sym, ap, subst, ◌∙◌, inl, inr, if◌then◌else◌, is_some, true≢false, arith, int_eq}
use Rattle.std.specs.List.{cons_option, filter_map}
use Rattle.std.specs.Option.{option_map, option_map_or, option_and_then}
use Rattle.std.proofs.lemmas.List.{length-map, map-append, drop-map}
use Rattle.std.proofs.lemmas.Option.{slice_get-map}
use Rattle.kb_arith.specs.Word.{word_add, word_and, word_neg}
use Rattle.kb_class.specs.declared.ids.MethodId.{MethodId}
use Rattle.kb_class.specs.declared.members.MethodInfo.{MethodInfo}
use Rattle.kb_class.specs.Naming.{Has}
use Rattle.kb_code.specs.Listing.{HasRisingKeys}
use Rattle.kb_code.specs.declared.instruction.Cond.{Cond}
use Rattle.kb_code.specs.declared.instruction.Instr.{Instr}
use Rattle.kb_code.specs.declared.instruction.Instr.TheVariants as instrs
use Rattle.kb_code.specs.declared.instruction.IntCut.{IntCut}
use Rattle.kb_code.specs.declared.instruction.IntCut.TheVariants as cuts
use Rattle.kb_code.specs.declared.instruction.IntOp.{IntOp}
use Rattle.kb_code.specs.declared.instruction.IntOp.TheVariants as ops
use Rattle.kb_heap.specs.declared.heap.Value.{Value}
use Rattle.kb_heap.specs.declared.heap.Value.TheVariants.{Int as IntValue, Ref}
use Rattle.kb_classes.specs.World.{int_entry_of, literal_entry_of}
use Rattle.kb_resolution.specs.Lookup.{or_else}
use Rattle.kb_names.specs.declared.types.JType.{JType}
use Rattle.kb_names.specs.declared.types.JType.TheVariants as types
use Rattle.kb_semantics.specs.Comparisons.{holds, switch_target, table_keys}
use Rattle.kb_semantics.specs.Config.{Setting, Config, Outcome, class_number, info_of, local_of, max_locals_of, result_of}
use Rattle.kb_semantics.specs.Instructions.{with, nop, push_int, load_constant, constant_at, load_int, store_int, sets_local, increase, without, copied_below, exchanged, rearrange, int2_value, apply_two, negate, narrowed, narrow, if_int, if_ints, goto, switch, return_int, return_nothing}
use Rattle.kb_semantics.specs.Looks.{if_some}
use Rattle.kb_semantics.specs.Operands.{Taken, an_int, int_of, two_ints as two_of}
use Rattle.kb_semantics.specs.Step.{effect}
use Rattle.kb_semantics.specs.Values.{kept}
use Rattle.kb_semantics.specs.Ways.{ill_typed, goes, goes_on, jumps, branches, throws, arithmetic, hands_over, returns_value, returns_nothing}
use Rattle.kb_terms.specs.declared.op.Op.{Op}
use Rattle.kb_terms.specs.declared.op.Op.TheVariants.{Add, Neg}
use Rattle.kb_terms.specs.declared.node.TermId.{TermId}
use Rattle.kb_terms.specs.declared.node.Node.{Node}
use Rattle.kb_terms.specs.declared.node.Node.TheVariants.{Const}
use Rattle.kb_terms.specs.Op.{is_binary, op_value}
use Rattle.kb_terms.specs.Terms.{AreOperands, Extends, IsSecond, IsTerm, interned, value_of}
use Rattle.kb_terms.proofs.Values.{Extends-refl, Extends-trans, IsTerm-extends, value_of-extends}
use Rattle.kb_picture.specs.declared.choice.Choice.{Choice}
use Rattle.kb_picture.specs.declared.choice.Choice.TheVariants.{Only, Branch, Key, Default, Zero, NotZero}
use Rattle.kb_picture.specs.Endings.{Reading}
use Rattle.kb_frames.specs.declared.frame.SymFrame.{SymFrame}
use Rattle.kb_frames.specs.declared.state.Stage.TheVariants.{Runs}
use Rattle.kb_frames.specs.declared.value.SymValue.{SymValue}
use Rattle.kb_frames.specs.declared.value.SymValue.TheVariants.{Int, Null, Obj, Literal, New, Loc}
use Rattle.kb_frames.specs.Lent.{local_in, with_nodes}
use Rattle.kb_frames.specs.Next.{is_int_instruction}
use Rattle.kb_frames.specs.StandsFor.{FrameStandsFor, value_of_sym, values_of_sym}
use Rattle.kb_frames.specs.State.{State}
use Rattle.kb_ways.specs.declared.condition.Side.{Side}
use Rattle.kb_ways.specs.declared.condition.Side.TheVariants.{Term, Number}
use Rattle.kb_ways.specs.Asked.{interned_op}
use Rattle.kb_stepint.specs.Choices.{both_ways, branch_conditions, conditions_of, division_conditions, divisor_conditions, divisors, key_conditions, keys_from, listed}
use Rattle.kb_ways.specs.Kept.{kept as sym_kept, masked}
use Rattle.kb_ways.specs.Advancing.{only}
use Rattle.kb_ways.specs.Plans.{returns_value as returns_value_sym, leaves_with, Planned, plain, planned}
use Rattle.kb_stepint.specs.Effects.{pushes, pushes_int, int_local, loads, in_local, stores, adds, increases, picked, rearranges, op_of, op_of_cut, computes, computes_by, computes_two, branch_way, switch_way, switches, returns_int, branches as branches_sym, returns_nothing as returns_nothing_sym, effect_of}
use Rattle.kb_ways.specs.Ways.{with_stack, Goes, Jumps, Leaves, Fails}
use Rattle.kb_ways.specs.Needs.{IsTermOf}
use Rattle.kb_ways.specs.Operands.{int_term, an_int as one_int, two_ints}
use Rattle.kb_stepint.proofs.ComparedLaws.{one_int_is, two_ints_are}
use Rattle.kb_ways.proofs.TruthLaws.{equal_so}
use Rattle.kb_ways.proofs.GrowLaws.{interned_extends, op_extends}
use Rattle.kb_ways.proofs.AskedLaws.{interned_is_term, side_value}
use Rattle.kb_ways.proofs.OneAsked.{AllHold}
use Rattle.kb_stepint.proofs.OneListed.{AreRising, IsNoKey, branch_so, default_none, fits_key, rising_none, rising_rest, table_rising}
use Rattle.kb_ways.proofs.BegunLaws.{AreStackTerms}
use Rattle.kb_stepint.proofs.OneLaws.{one_term, two_terms}
use Rattle.kb_ways.proofs.ValueLaws.{IsOrdered, constant_made, interned_ordered, low_made, op_made}
use Rattle.kb_ways.proofs.LocalLaws.{led_to, local_value, local_set}

-- ---- lists

picks-map : {A B : Type 0} (f : A → B) (xs : List A) (picks : List ℕ) → filter_map (λ (place : ℕ). slice_get (map f xs) place) picks ≡ map f (filter_map (λ (place : ℕ). slice_get xs place) picks)
picks-map f xs [] = refl
picks-map {A} {B} f xs (place ∷ picks) =
    ap (λ (it : Option B). cons_option it (filter_map (λ (p : ℕ). slice_get (map f xs) p) picks)) (slice_get-map f xs place) ∙ go (slice_get xs place) (picks-map f xs picks)
  where
    go : (it : Option A) → filter_map (λ (p : ℕ). slice_get (map f xs) p) picks ≡ map f (filter_map (λ (p : ℕ). slice_get xs p) picks)
        → cons_option (option_map f it) (filter_map (λ (p : ℕ). slice_get (map f xs) p) picks) ≡ map f (cons_option it (filter_map (λ (p : ℕ). slice_get xs p) picks))
    go None rest = rest
    go (Some x) rest = ap (λ (l : List B). f x ∷ l) rest

picked-map : {A B : Type 0} (f : A → B) (depth : ℕ) (picks : List ℕ) (xs : List A) → picked depth picks (map f xs) ≡ option_map (map f) (picked depth picks xs)
picked-map {A} {B} f depth picks xs =
    ap (λ (n : ℕ). if nat_le depth n then Some (filter_map (λ (place : ℕ). slice_get (map f xs) place) picks ++ drop depth (map f xs)) else None) (length-map xs f)
    ∙ ap (λ (l : List B). if nat_le depth (length xs) then Some l else None) same ∙ go (nat_le depth (length xs))
  where
    same : filter_map (λ (place : ℕ). slice_get (map f xs) place) picks ++ drop depth (map f xs) ≡ map f (filter_map (λ (place : ℕ). slice_get xs place) picks ++ drop depth xs)
    same =
        ap (λ (l : List B). l ++ drop depth (map f xs)) (picks-map f xs picks)
        ∙ ap (λ (l : List B). map f (filter_map (λ (place : ℕ). slice_get xs place) picks) ++ l) (drop-map f depth xs)
        ∙ sym (map-append f (filter_map (λ (place : ℕ). slice_get xs place) picks) (drop depth xs))

    go : (b : Bool) → (if b then Some (map f (filter_map (λ (place : ℕ). slice_get xs place) picks ++ drop depth xs)) else None)
        ≡ option_map (map f) (if b then Some (filter_map (λ (place : ℕ). slice_get xs place) picks ++ drop depth xs) else None)
    go true = refl
    go false = refl

-- the machine's rearrangements
dup_is : (stack : List Value) → copied_below 1 1 stack ≡ picked 1 (0 ∷ 0 ∷ []) stack
dup_is [] = refl
dup_is (a ∷ rest) = refl

dup_x1_is : (stack : List Value) → copied_below 1 2 stack ≡ picked 2 (0 ∷ 1 ∷ 0 ∷ []) stack
dup_x1_is [] = refl
dup_x1_is (a ∷ []) = refl
dup_x1_is (a ∷ b ∷ rest) = refl

dup_x2_is : (stack : List Value) → copied_below 1 3 stack ≡ picked 3 (0 ∷ 1 ∷ 2 ∷ 0 ∷ []) stack
dup_x2_is [] = refl
dup_x2_is (a ∷ []) = refl
dup_x2_is (a ∷ b ∷ []) = refl
dup_x2_is (a ∷ b ∷ c ∷ rest) = refl

dup2_is : (stack : List Value) → copied_below 2 2 stack ≡ picked 2 (0 ∷ 1 ∷ 0 ∷ 1 ∷ []) stack
dup2_is [] = refl
dup2_is (a ∷ []) = refl
dup2_is (a ∷ b ∷ rest) = refl

dup2_x1_is : (stack : List Value) → copied_below 2 3 stack ≡ picked 3 (0 ∷ 1 ∷ 2 ∷ 0 ∷ 1 ∷ []) stack
dup2_x1_is [] = refl
dup2_x1_is (a ∷ []) = refl
dup2_x1_is (a ∷ b ∷ []) = refl
dup2_x1_is (a ∷ b ∷ c ∷ rest) = refl

dup2_x2_is : (stack : List Value) → copied_below 2 4 stack ≡ picked 4 (0 ∷ 1 ∷ 2 ∷ 3 ∷ 0 ∷ 1 ∷ []) stack
dup2_x2_is [] = refl
dup2_x2_is (a ∷ []) = refl
dup2_x2_is (a ∷ b ∷ []) = refl
dup2_x2_is (a ∷ b ∷ c ∷ []) = refl
dup2_x2_is (a ∷ b ∷ c ∷ d ∷ rest) = refl

swap_is : (stack : List Value) → exchanged stack ≡ picked 2 (1 ∷ 0 ∷ []) stack
swap_is [] = refl
swap_is (a ∷ []) = refl
swap_is (a ∷ b ∷ rest) = refl

-- ---- alternatives of a list

only_one : (choice : Choice) → Has only choice → choice ≡ Only
only_one choice (zero, e) = (let same : Only ≡ choice = cc in sym same)
only_one choice (suc n, e) = absurd cc

one_of_two : (a b choice : Choice) → Has (a ∷ b ∷ []) choice → (choice ≡ a) ⊎ (choice ≡ b)
one_of_two a b choice (zero, e) = inl (let same : a ≡ choice = cc in sym same)
one_of_two a b choice (suc zero, e) = inr (let same : b ≡ choice = cc in sym same)
one_of_two a b choice (suc (suc n), e) = absurd cc

-- a key of a switch
record IsKey (keys : List (ℤ × ℕ)) (place : ℕ) (choice : Choice) : Type 0 where
  i : ℕ
  n : ℕ
  key : ℤ × ℕ
  there : slice_get keys i ≡ Some key
  number : n ≡ place + i
  is : choice ≡ Key n

key_or_default : (keys : List (ℤ × ℕ)) (place : ℕ) (choice : Choice) → Has (keys_from place keys) choice → IsKey keys place choice ⊎ (choice ≡ Default)
key_or_default [] place choice (zero, e) = inr (let same : Default ≡ choice = cc in sym same)
key_or_default [] place choice (suc n, e) = absurd cc
key_or_default (key ∷ keys) place choice (zero, e) =
    inl (record { i = zero; n = place; key = key; there = refl; number = omega arith; is = (let same : Key place ≡ choice = cc in sym same) })
key_or_default (key ∷ keys) place choice (suc n, e) = elim (key_or_default keys (place + 1) choice (n, e)) [
  | inl k ↦ inl (record { i = suc k.i; n = k.n; key = k.key; there = k.there; number = omega (arith, k.number); is = k.is })
  | inr default ↦ inr default
]

-- the target of the key that the int is, which stands once
target_of_key : (z : ℤ) (keys : List (ℤ × ℕ)) (default i : ℕ) (key : ℤ × ℕ) → AreRising keys → slice_get keys i ≡ Some key → int_eq z key.0 ≡ true → switch_target z keys default ≡ key.1
target_of_key z [] default i key rising at e = absurd cc
target_of_key z (first ∷ keys) default zero key rising at e =
    let same : first ≡ key = cc in
    let here : int_eq z first.0 ≡ true = ap (λ (k : ℤ × ℕ). int_eq z k.0) same ∙ e in
    ap (λ (b : Bool). if b then first.1 else switch_target z keys default) here ∙ ap (λ (k : ℤ × ℕ). k.1) same
target_of_key z (first ∷ keys) default (suc i) key rising at e =
    go (target_of_key z keys default i key (rising_rest first keys rising) at e) (int_eq z first.0) refl
  where
    among : (ks : List (ℤ × ℕ)) (j : ℕ) → IsNoKey z ks → slice_get ks j ≡ Some key → ⊥
    among [] j none h = absurd cc
    among (k ∷ ks) zero none h = (let same : k ≡ key = cc in true≢false (sym e ∙ ap (λ (x : ℤ × ℕ). int_eq z x.0) (sym same) ∙ none.0))
    among (k ∷ ks) (suc j) none h = among ks j none.1 h

    go : switch_target z keys default ≡ key.1 → (b : Bool) → int_eq z first.0 ≡ b → (if b then first.1 else switch_target z keys default) ≡ key.1
    go later true same = absurd (among keys i (rising_none z first keys same rising) at)
    go later false other = later

target_of_none : (z : ℤ) (keys : List (ℤ × ℕ)) (default : ℕ) → IsNoKey z keys → switch_target z keys default ≡ default
target_of_none z [] default none = refl
target_of_none z (key ∷ keys) default none = ap (λ (b : Bool). if b then key.1 else switch_target z keys default) none.0 ∙ target_of_none z keys default none.1

-- ---- effects

-- what a reading of each pool that goes on has
pub record Reads (R : List Node → Reading) (nodes : List Node) (variables : List ℤ) (frame : SymFrame) (c : Config) : Type 0 where
  pub stands : (later : List Node) → Extends nodes later → FrameStandsFor (R later) frame c.frame
  pub ints : (later : List Node) (t : TermId) → value_of_sym (R later) (Int t) ≡ IntValue (value_of later t variables)

-- the ints of a frame are terms
pub record HasFrameTerms (nodes : List Node) (frame : SymFrame) : Type 0 where
  pub stack : AreStackTerms nodes frame.stack
  pub locals : (k : ℕ) (value : SymValue) → slice_get frame.locals k ≡ Some (Some value) → IsTermOf nodes (Some value)

module _ (s : Setting) (c : Config) (next : ℕ) (base : State) (frame : SymFrame) (callers : List SymFrame) (nodes : List Node) (variables : List ℤ) (R : List Node → Reading)
    (reads : Reads R nodes variables frame c) (ordered : IsOrdered nodes) (terms : HasFrameTerms nodes frame) where
  abbrev state : State
  state = record base { stage = Runs frame callers; nodes = nodes }

  abbrev V : TermId → ℤ
  V t = value_of nodes t variables

  abbrev IsPlan : Outcome → Planned → Type 0
  IsPlan outcome plan = outcome ≡ led_to s c next (R plan.state.nodes) plan.way

  itself : Extends nodes nodes
  itself = Extends-refl nodes

  rest_is : (later : List Node) → Extends nodes later → (n : ℕ) → drop n c.frame.stack ≡ values_of_sym (R later) (drop n frame.stack)
  rest_is later more n = ap (drop n) (reads.stands later more).stack ∙ drop-map (value_of_sym (R later)) n frame.stack

  -- ---- it goes on

  goes_is : (later : List Node) → Extends nodes later → (stack : List SymValue) (values : List Value) → values ≡ values_of_sym (R later) stack
      → IsPlan (goes s c next values) (record { state = with_nodes state later; way = Goes frame.locals stack })
  goes_is later more stack values e =
      ap (λ (l : List (Option Value)). goes_on s c next l values c.heap) (reads.stands later more).locals
      ∙ ap (λ (vs : List Value). goes_on s c next (map (option_map (value_of_sym (R later))) frame.locals) vs c.heap) e

  -- a term is pushed
  push_is : (made : List Node × TermId) → Extends nodes made.0 → (z : ℤ) → z ≡ value_of made.0 made.1 variables → (rest : List SymValue) (below : List Value) → below ≡ values_of_sym (R made.0) rest
      → IsPlan (goes s c next (IntValue z ∷ below)) (pushes state rest made)
  push_is made more z e rest below same =
      goes_is made.0 more (Int made.1 ∷ rest) (IntValue z ∷ below)
      (ap (λ (v : Value). v ∷ below) (ap IntValue e ∙ sym (reads.ints made.0 made.1)) ∙ ap (λ (l : List Value). value_of_sym (R made.0) (Int made.1) ∷ l) same)

  -- ---- operands

  no_int : (r : Reading) (stack : List SymValue) → one_int stack ≡ None → an_int (values_of_sym r stack) ≡ None
  no_int r [] e = refl
  no_int r (Int t ∷ stack) e = absurd cc
  no_int r (Null ∷ stack) e = refl
  no_int r (Obj n ∷ stack) e = refl
  no_int r (Literal n ∷ stack) e = refl
  no_int r (New n ∷ stack) e = refl
  no_int r (Loc n ∷ stack) e = refl

  no_two : (r : Reading) (stack : List SymValue) → two_ints stack ≡ None → two_of (values_of_sym r stack) ≡ None
  no_two r [] e = refl
  no_two r (Int x ∷ []) e = refl
  no_two r (Int x ∷ Int y ∷ stack) e = absurd cc
  no_two r (Int x ∷ Null ∷ stack) e = refl
  no_two r (Int x ∷ Obj n ∷ stack) e = refl
  no_two r (Int x ∷ Literal n ∷ stack) e = refl
  no_two r (Int x ∷ New n ∷ stack) e = refl
  no_two r (Int x ∷ Loc n ∷ stack) e = refl
  no_two r (Null ∷ stack) e = refl
  no_two r (Obj n ∷ stack) e = refl
  no_two r (Literal n ∷ stack) e = refl
  no_two r (New n ∷ stack) e = refl
  no_two r (Loc n ∷ stack) e = refl

  here : c.frame.stack ≡ values_of_sym (R nodes) frame.stack
  here = (reads.stands nodes itself).stack

  int_none : one_int frame.stack ≡ None → an_int c.frame.stack ≡ None
  int_none e = ap an_int here ∙ no_int (R nodes) frame.stack e

  int_some : (x : TermId) → one_int frame.stack ≡ Some x → an_int c.frame.stack ≡ Some (record { it = V x; rest = drop 1 c.frame.stack })
  int_some x e =
      ap an_int here ∙ one_int_is (value_of_sym (R nodes)) V (reads.ints nodes) frame.stack x e
      ∙ ap (λ (l : List Value). Some (record { it = V x; rest = drop 1 l })) (sym here)

  two_none : two_ints frame.stack ≡ None → two_of c.frame.stack ≡ None
  two_none e = ap two_of here ∙ no_two (R nodes) frame.stack e

  two_some : (p : TermId × TermId) → two_ints frame.stack ≡ Some p → two_of c.frame.stack ≡ Some (record { it = (V p.0, V p.1); rest = drop 2 c.frame.stack })
  two_some p e =
      ap two_of here ∙ two_ints_are (value_of_sym (R nodes)) V (reads.ints nodes) frame.stack p e
      ∙ ap (λ (l : List Value). Some (record { it = (V p.0, V p.1); rest = drop 2 l })) (sym here)

  with_one : (f : Taken ℤ → Outcome) (plan : Option TermId → Planned) → plan None ≡ plain state Fails
      → ((x : TermId) → one_int frame.stack ≡ Some x → IsPlan (f (record { it = V x; rest = drop 1 c.frame.stack })) (plan (Some x)))
      → IsPlan (with s c (an_int c.frame.stack) f) (plan (one_int frame.stack))
  with_one f plan fails h = go (one_int frame.stack) refl where
    go : (it : Option TermId) → one_int frame.stack ≡ it → IsPlan (with s c (an_int c.frame.stack) f) (plan it)
    go None e = ap (λ (a : Option (Taken ℤ)). with s c a f) (int_none e) ∙ ap (λ (p : Planned). led_to s c next (R p.state.nodes) p.way) (sym fails)
    go (Some x) e = ap (λ (a : Option (Taken ℤ)). with s c a f) (int_some x e) ∙ h x e

  with_two : (f : Taken (ℤ × ℤ) → Outcome) (plan : Option (TermId × TermId) → Planned) → plan None ≡ plain state Fails
      → ((p : TermId × TermId) → two_ints frame.stack ≡ Some p → IsPlan (f (record { it = (V p.0, V p.1); rest = drop 2 c.frame.stack })) (plan (Some p)))
      → IsPlan (with s c (two_of c.frame.stack) f) (plan (two_ints frame.stack))
  with_two f plan fails h = go (two_ints frame.stack) refl where
    go : (it : Option (TermId × TermId)) → two_ints frame.stack ≡ it → IsPlan (with s c (two_of c.frame.stack) f) (plan it)
    go None e = ap (λ (a : Option (Taken (ℤ × ℤ))). with s c a f) (two_none e) ∙ ap (λ (p : Planned). led_to s c next (R p.state.nodes) p.way) (sym fails)
    go (Some p) e = ap (λ (a : Option (Taken (ℤ × ℤ))). with s c a f) (two_some p e) ∙ h p e

  -- ---- constants

  pushes_int_is : (z : ℤ) → IsPlan (goes s c next (IntValue z ∷ c.frame.stack)) (pushes_int state z)
  pushes_int_is z =
      let more = interned_extends nodes (Const z) in
      push_is (interned nodes (Const z)) more z (sym (constant_made nodes z variables)) frame.stack c.frame.stack (reads.stands (interned nodes (Const z)).0 more).stack

  loads_constant_is : (entry : ℕ) → is_some (int_entry_of s.world (class_number s.world frame.method) entry) ≡ true
      → IsPlan (with s c (constant_at s.world (class_number s.world c.frame.method) entry c.inputs) (λ v. goes s c next (v ∷ c.frame.stack)))
      (planned state (int_entry_of s.world (class_number s.world frame.method) entry) (pushes_int state))
  loads_constant_is entry there = go (int_entry_of s.world (class_number s.world frame.method) entry) refl there where
    go : (it : Option ℤ) → int_entry_of s.world (class_number s.world frame.method) entry ≡ it → is_some it ≡ true
        → IsPlan (with s c (constant_at s.world (class_number s.world c.frame.method) entry c.inputs) (λ v. goes s c next (v ∷ c.frame.stack))) (planned state it (pushes_int state))
    go None e h = absurd (true≢false (sym h))
    go (Some z) e h =
        let found : int_entry_of s.world (class_number s.world c.frame.method) entry ≡ Some z =
        ap (λ (m : MethodId). int_entry_of s.world (class_number s.world m) entry) (reads.stands nodes itself).method ∙ e in
        ap (λ (it : Option ℤ). with s c (or_else (option_map IntValue it) (option_map (λ literal. Ref (c.inputs + literal)) (literal_entry_of s.world (class_number s.world c.frame.method) entry))) (λ v. goes s c next (v ∷ c.frame.stack))) found
        ∙ pushes_int_is z

  -- ---- locals

  abbrev local_sym : ℕ → Option SymValue
  local_sym k = cond (nat_lt k (max_locals_of s.world frame.method)) (local_in state.stage k) None

  local_is : (k : ℕ) → local_of s.world c.frame k ≡ option_map (value_of_sym (R nodes)) (local_sym k)
  local_is k = local_value s c next (R nodes) frame (reads.stands nodes itself) k

  int_of_sym : (it : Option SymValue) → int_of (option_map (value_of_sym (R nodes)) it) ≡ option_map V (int_term it)
  int_of_sym None = refl
  int_of_sym (Some (Int t)) = ap (λ (v : Value). int_of (Some v)) (reads.ints nodes t)
  int_of_sym (Some Null) = refl
  int_of_sym (Some (Obj n)) = refl
  int_of_sym (Some (Literal n)) = refl
  int_of_sym (Some (New n)) = refl
  int_of_sym (Some (Loc n)) = refl

  local_int : (k : ℕ) → int_of (local_of s.world c.frame k) ≡ option_map V (int_local s.world state k)
  local_int k = ap int_of (local_is k) ∙ int_of_sym (local_sym k)

  local_term : (k : ℕ) (t : TermId) → int_local s.world state k ≡ Some t → IsTerm nodes t
  local_term k t e = go (nat_lt k (max_locals_of s.world frame.method)) (slice_get frame.locals k) refl e where
    go : (b : Bool) (it : Option (Option SymValue)) → slice_get frame.locals k ≡ it → int_term (cond b (option_and_then (λ (v : Option SymValue). v) it) None) ≡ Some t → IsTerm nodes t
    go true None at h = absurd cc
    go true (Some None) at h = absurd cc
    go true (Some (Some (Int u))) at h = (let same : u ≡ t = cc in subst (IsTerm nodes) same (terms.locals k (Int u) at))
    go true (Some (Some Null)) at h = absurd cc
    go true (Some (Some (Obj n))) at h = absurd cc
    go true (Some (Some (Literal n))) at h = absurd cc
    go true (Some (Some (New n))) at h = absurd cc
    go true (Some (Some (Loc n))) at h = absurd cc
    go false it at h = absurd cc

  with_local_int : (k : ℕ) (f : ℤ → Outcome) (g : TermId → Planned) → ((t : TermId) → int_local s.world state k ≡ Some t → IsPlan (f (V t)) (g t))
      → IsPlan (with s c (int_of (local_of s.world c.frame k)) f) (planned state (int_local s.world state k) g)
  with_local_int k f g h = ap (λ (a : Option ℤ). with s c a f) (local_int k) ∙ go (int_local s.world state k) refl where
    go : (it : Option TermId) → int_local s.world state k ≡ it → IsPlan (with s c (option_map V it) f) (planned state it g)
    go None e = refl
    go (Some t) e = h t e

  loads_is : (k : ℕ) → IsPlan (with s c (int_of (local_of s.world c.frame k)) (λ z. goes s c next (IntValue z ∷ c.frame.stack))) (loads s.world state k)
  loads_is k =
      with_local_int k (λ z. goes s c next (IntValue z ∷ c.frame.stack)) (λ t. pushes state frame.stack (nodes, t))
      (λ t e. push_is (nodes, t) itself (V t) refl frame.stack c.frame.stack here)

  -- a local is set
  sets_is : (later : List Node) → Extends nodes later → (k : ℕ) (t : TermId) (z : ℤ) → z ≡ value_of later t variables → (stack : List SymValue) (values : List Value)
      → values ≡ values_of_sym (R later) stack → IsPlan (sets_local s next c k (IntValue z) values) (record { state = with_nodes state later; way = in_local s.world state k t stack })
  sets_is later more k t z e stack values same =
      local_set s c next (R later) frame (reads.stands later more) k (Int t) (IntValue z) (ap IntValue e ∙ sym (reads.ints later t)) stack values same

  stores_is : (k : ℕ) → IsPlan (with s c (an_int c.frame.stack) (λ z. sets_local s next c k (IntValue z.it) z.rest)) (stores s.world state k)
  stores_is k =
      with_one (λ z. sets_local s next c k (IntValue z.it) z.rest) (λ it. planned state it (λ t. plain state (in_local s.world state k t (drop 1 frame.stack)))) refl
      (λ t e. sets_is nodes itself k t (V t) refl (drop 1 frame.stack) (drop 1 c.frame.stack) (rest_is nodes itself 1))

  increases_is : (k : ℕ) (by : ℤ) → IsPlan (with s c (int_of (local_of s.world c.frame k)) (λ z. sets_local s next c k (IntValue (word_add z by)) c.frame.stack)) (increases s.world state k by)
  increases_is k by =
      with_local_int k (λ z. sets_local s next c k (IntValue (word_add z by)) c.frame.stack) (λ t. adds s.world state k t (interned nodes (Const by))) (λ t e. added t (local_term k t e))
    where
      added : (t : TermId) → IsTerm nodes t → IsPlan (sets_local s next c k (IntValue (word_add (V t) by)) c.frame.stack) (adds s.world state k t (interned nodes (Const by)))
      added t is =
          let one = interned nodes (Const by) in
          let made = interned_op one.0 Add t (Some one.1) in
          let first : Extends nodes one.0 = interned_extends nodes (Const by) in
          let more : Extends nodes made.0 = Extends-trans nodes one.0 made.0 first (op_extends one.0 Add t (Some one.1)) in
          let operands : AreOperands one.0 Add t (Some one.1) = record { first = IsTerm-extends nodes one.0 t first is; second = interned_is_term nodes (Const by) } in
          let value : word_add (V t) by ≡ value_of made.0 made.1 variables =
          sym (op_made one.0 Add t (Some one.1) variables (interned_ordered nodes (Const by) ordered tt) operands
          ∙ ap (λ (z : ℤ). word_add z (value_of one.0 one.1 variables)) (value_of-extends nodes one.0 t variables first is) ∙ ap (λ (z : ℤ). word_add (V t) z) (constant_made nodes by variables)) in
          sets_is made.0 more k made.1 (word_add (V t) by) value frame.stack c.frame.stack (reads.stands made.0 more).stack

  -- ---- the operand stack

  rearranges_is : (how : List Value → Option (List Value)) (depth : ℕ) (picks : List ℕ) → ((values : List Value) → how values ≡ picked depth picks values)
      → IsPlan (with s c (how c.frame.stack) (λ stack. goes s c next stack)) (rearranges state depth picks)
  rearranges_is how depth picks same =
      ap (λ (o : Option (List Value)). with s c o (λ stack. goes s c next stack)) (same c.frame.stack ∙ ap (picked depth picks) here ∙ picked-map (value_of_sym (R nodes)) depth picks frame.stack)
      ∙ go (picked depth picks frame.stack)
    where
      go : (it : Option (List SymValue)) → IsPlan (with s c (option_map (map (value_of_sym (R nodes))) it) (λ stack. goes s c next stack)) (planned state it (λ stack. plain state (with_stack state stack)))
      go None = refl
      go (Some stack) = goes_is nodes itself stack (values_of_sym (R nodes) stack) refl

  -- ---- arithmetic

  computes_is : (op : Op) (f : ℤ → ℤ) → is_binary op ≡ false → ((a : ℤ) → f a ≡ op_value op a (pos 0))
      → IsPlan (with s c (an_int c.frame.stack) (λ a. goes s c next (IntValue (f a.it) ∷ a.rest))) (computes state op)
  computes_is op f unary same =
      with_one (λ a. goes s c next (IntValue (f a.it) ∷ a.rest)) (λ it. planned state it (λ t. pushes state (drop 1 frame.stack) (interned_op nodes op t None))) refl
      (λ t e. made t (one_term nodes frame.stack t terms.stack e))
    where
      made : (t : TermId) → IsTerm nodes t → IsPlan (goes s c next (IntValue (f (V t)) ∷ drop 1 c.frame.stack)) (pushes state (drop 1 frame.stack) (interned_op nodes op t None))
      made t is =
          let term = interned_op nodes op t None in
          let more : Extends nodes term.0 = op_extends nodes op t None in
          let operands : AreOperands nodes op t None = record { first = is; second = subst (λ (b : Bool). IsSecond nodes b None) (sym unary) tt } in
          push_is term more (f (V t)) (same (V t) ∙ sym (op_made nodes op t None variables ordered operands)) (drop 1 frame.stack) (drop 1 c.frame.stack) (rest_is term.0 more 1)

  narrowed_is : (cut : IntCut) (a : ℤ) → narrowed cut a ≡ op_value (op_of_cut cut) a (pos 0)
  narrowed_is cuts.Byte a = refl
  narrowed_is cuts.Char a = refl
  narrowed_is cuts.Short a = refl

  cut_unary : (cut : IntCut) → is_binary (op_of_cut cut) ≡ false
  cut_unary cuts.Byte = refl
  cut_unary cuts.Char = refl
  cut_unary cuts.Short = refl

  op_binary : (op : IntOp) → is_binary (op_of op) ≡ true
  op_binary ops.Add = refl
  op_binary ops.Sub = refl
  op_binary ops.Mul = refl
  op_binary ops.Div = refl
  op_binary ops.Rem = refl
  op_binary ops.Shl = refl
  op_binary ops.Shr = refl
  op_binary ops.Ushr = refl
  op_binary ops.And = refl
  op_binary ops.Or = refl
  op_binary ops.Xor = refl

  -- what an operation on two ints leads to, where it has a value
  abbrev valued : Option ℤ → List Value → Outcome
  valued value rest = option_map_or (λ z. goes s c next (IntValue z ∷ rest)) value (throws s c arithmetic)

  -- it has the operation's value
  computed_is : (op : IntOp) (p : TermId × TermId) → two_ints frame.stack ≡ Some p → int2_value op (V p.0) (V p.1) ≡ Some (op_value (op_of op) (V p.0) (V p.1))
      → IsPlan (valued (int2_value op (V p.0) (V p.1)) (drop 2 c.frame.stack)) (pushes state (drop 2 frame.stack) (interned_op nodes (op_of op) p.0 (Some p.1)))
  computed_is op p e value =
      let both = two_terms nodes frame.stack p terms.stack e in
      let term = interned_op nodes (op_of op) p.0 (Some p.1) in
      let more : Extends nodes term.0 = op_extends nodes (op_of op) p.0 (Some p.1) in
      let operands : AreOperands nodes (op_of op) p.0 (Some p.1) = record { first = both.0; second = subst (λ (b : Bool). IsSecond nodes b (Some p.1)) (sym (op_binary op)) both.1 } in
      ap (λ (v : Option ℤ). valued v (drop 2 c.frame.stack)) value
      ∙ push_is term more (op_value (op_of op) (V p.0) (V p.1)) (sym (op_made nodes (op_of op) p.0 (Some p.1) variables ordered operands)) (drop 2 frame.stack) (drop 2 c.frame.stack) (rest_is term.0 more 2)

  -- a division, by what its divisor was chosen to be
  divides_is : (op : IntOp) (p : TermId × TermId) (choice : Choice) → two_ints frame.stack ≡ Some p → ((b : Bool) → int_eq (V p.1) (pos 0) ≡ b → int2_value op (V p.0) (V p.1) ≡ (if b then None else Some (op_value (op_of op) (V p.0) (V p.1))))
      → Has (Zero ∷ NotZero ∷ []) choice → AllHold nodes variables (divisor_conditions p.1 choice)
      → IsPlan (valued (int2_value op (V p.0) (V p.1)) (drop 2 c.frame.stack)) (computes_by state op p choice)
  divides_is op p choice e value has held = elim (one_of_two Zero NotZero choice has) [
    | inl is ↦ subst (λ (x : Choice). AllHold nodes variables (divisor_conditions p.1 x) → IsPlan (valued (int2_value op (V p.0) (V p.1)) (drop 2 c.frame.stack)) (computes_by state op p x)) (sym is) by_zero held
    | inr is ↦ subst (λ (x : Choice). AllHold nodes variables (divisor_conditions p.1 x) → IsPlan (valued (int2_value op (V p.0) (V p.1)) (drop 2 c.frame.stack)) (computes_by state op p x)) (sym is) not_by_zero held
  ] where
    by_zero : AllHold nodes variables (divisor_conditions p.1 Zero) → IsPlan (valued (int2_value op (V p.0) (V p.1)) (drop 2 c.frame.stack)) (computes_by state op p Zero)
    by_zero h = ap (λ (v : Option ℤ). valued v (drop 2 c.frame.stack)) (value true (equal_so nodes variables p.1 (pos 0) true h.0))

    not_by_zero : AllHold nodes variables (divisor_conditions p.1 NotZero) → IsPlan (valued (int2_value op (V p.0) (V p.1)) (drop 2 c.frame.stack)) (computes_by state op p NotZero)
    not_by_zero h = computed_is op p e (value false (equal_so nodes variables p.1 (pos 0) false h.0))

  -- any other operation, whose only alternative is the only way on
  plainly_is : (op : IntOp) (p : TermId × TermId) (choice : Choice) → two_ints frame.stack ≡ Some p → int2_value op (V p.0) (V p.1) ≡ Some (op_value (op_of op) (V p.0) (V p.1)) → Has only choice
      → IsPlan (valued (int2_value op (V p.0) (V p.1)) (drop 2 c.frame.stack)) (computes_by state op p choice)
  plainly_is op p choice e value has =
      subst (λ (x : Choice). IsPlan (valued (int2_value op (V p.0) (V p.1)) (drop 2 c.frame.stack)) (computes_by state op p x)) (sym (only_one choice has)) (computed_is op p e value)

  computes_by_is : (op : IntOp) (p : TermId × TermId) (choice : Choice) → two_ints frame.stack ≡ Some p → Has (divisors op) choice → AllHold nodes variables (division_conditions op p.1 choice)
      → IsPlan (valued (int2_value op (V p.0) (V p.1)) (drop 2 c.frame.stack)) (computes_by state op p choice)
  computes_by_is ops.Div p choice e has held = divides_is ops.Div p choice e (λ b same. ap (λ (x : Bool). if x then None else Some (op_value (op_of ops.Div) (V p.0) (V p.1))) same) has held
  computes_by_is ops.Rem p choice e has held = divides_is ops.Rem p choice e (λ b same. ap (λ (x : Bool). if x then None else Some (op_value (op_of ops.Rem) (V p.0) (V p.1))) same) has held
  computes_by_is ops.Add p choice e has held = plainly_is ops.Add p choice e refl has
  computes_by_is ops.Sub p choice e has held = plainly_is ops.Sub p choice e refl has
  computes_by_is ops.Mul p choice e has held = plainly_is ops.Mul p choice e refl has
  computes_by_is ops.Shl p choice e has held = plainly_is ops.Shl p choice e refl has
  computes_by_is ops.Shr p choice e has held = plainly_is ops.Shr p choice e refl has
  computes_by_is ops.Ushr p choice e has held = plainly_is ops.Ushr p choice e refl has
  computes_by_is ops.And p choice e has held = plainly_is ops.And p choice e refl has
  computes_by_is ops.Or p choice e has held = plainly_is ops.Or p choice e refl has
  computes_by_is ops.Xor p choice e has held = plainly_is ops.Xor p choice e refl has

  computes_two_is : (op : IntOp) (choice : Choice) → Has (if is_some (two_ints frame.stack) then divisors op else only) choice
      → AllHold nodes variables (if_some (two_ints frame.stack) (λ t. division_conditions op t.1 choice))
      → IsPlan (with s c (two_of c.frame.stack) (λ t. valued (int2_value op t.it.0 t.it.1) t.rest)) (computes_two state op choice)
  computes_two_is op choice has held =
      with_two (λ t. valued (int2_value op t.it.0 t.it.1) t.rest) (λ it. planned state it (λ t. computes_by state op t choice)) refl
      (λ p e. computes_by_is op p choice e (subst (λ (it : Option (TermId × TermId)). Has (if is_some it then divisors op else only) choice) e has)
      (subst (λ (it : Option (TermId × TermId)). AllHold nodes variables (if_some it (λ t. division_conditions op t.1 choice))) e held))

  -- ---- branches

  jumps_is : (target n : ℕ) → IsPlan (jumps s c target (drop n c.frame.stack)) (plain state (Jumps target (drop n frame.stack)))
  jumps_is target n = ap (λ (l : List Value). jumps s c target l) (rest_is nodes itself n)

  branch_is : (target n : ℕ) (so : Bool) → IsPlan (branches s c next target so (drop n c.frame.stack)) (plain state (branch_way state target (drop n frame.stack) (Branch so)))
  branch_is target n true = jumps_is target n
  branch_is target n false = goes_is nodes itself (drop n frame.stack) (drop n c.frame.stack) (rest_is nodes itself n)

  -- by the alternative that was chosen
  abbrev Branches : Cond → Side → Side → ℕ → ℕ → Choice → Type 0
  Branches cond a b target n choice =
      AllHold nodes variables (branch_conditions cond a b choice)
      → IsPlan (branches s c next target (holds cond (side_value nodes variables a) (side_value nodes variables b)) (drop n c.frame.stack)) (plain state (branch_way state target (drop n frame.stack) choice))

  so_is : (cond : Cond) (a b : Side) (target n : ℕ) (so : Bool) → Branches cond a b target n (Branch so)
  so_is cond a b target n so h = ap (λ (v : Bool). branches s c next target v (drop n c.frame.stack)) (branch_so nodes variables cond a b so h.0) ∙ branch_is target n so

  branched_is : (cond : Cond) (a b : Side) (target n : ℕ) (choice : Choice) → Has both_ways choice → Branches cond a b target n choice
  branched_is cond a b target n choice has = elim (one_of_two (Branch false) (Branch true) choice has) [
    | inl is ↦ subst (Branches cond a b target n) (sym is) (so_is cond a b target n false)
    | inr is ↦ subst (Branches cond a b target n) (sym is) (so_is cond a b target n true)
  ]

  if_int_is : (cond : Cond) (target : ℕ) (choice : Choice) → Has (if is_some (one_int frame.stack) then both_ways else only) choice
      → AllHold nodes variables (if_some (one_int frame.stack) (λ x. branch_conditions cond (Term x) (Number (pos 0)) choice))
      → IsPlan (with s c (an_int c.frame.stack) (λ a. branches s c next target (holds cond a.it (pos 0)) a.rest)) (branches_sym state (is_some (one_int frame.stack)) 1 target choice)
  if_int_is cond target choice has held =
      with_one (λ a. branches s c next target (holds cond a.it (pos 0)) a.rest) (λ it. branches_sym state (is_some it) 1 target choice) refl
      (λ x e. branched_is cond (Term x) (Number (pos 0)) target 1 choice (subst (λ (it : Option TermId). Has (if is_some it then both_ways else only) choice) e has)
      (subst (λ (it : Option TermId). AllHold nodes variables (if_some it (λ y. branch_conditions cond (Term y) (Number (pos 0)) choice))) e held))

  if_pair_is : (cond : Cond) (target : ℕ) (choice : Choice) → Has (if is_some (two_ints frame.stack) then both_ways else only) choice
      → AllHold nodes variables (if_some (two_ints frame.stack) (λ t. branch_conditions cond (Term t.0) (Term t.1) choice))
      → IsPlan (with s c (two_of c.frame.stack) (λ t. branches s c next target (holds cond t.it.0 t.it.1) t.rest)) (branches_sym state (is_some (two_ints frame.stack)) 2 target choice)
  if_pair_is cond target choice has held =
      with_two (λ t. branches s c next target (holds cond t.it.0 t.it.1) t.rest) (λ it. branches_sym state (is_some it) 2 target choice) refl
      (λ p e. branched_is cond (Term p.0) (Term p.1) target 2 choice (subst (λ (it : Option (TermId × TermId)). Has (if is_some it then both_ways else only) choice) e has)
      (subst (λ (it : Option (TermId × TermId)). AllHold nodes variables (if_some it (λ t. branch_conditions cond (Term t.0) (Term t.1) choice))) e held))

  -- ---- switches

  abbrev Switches : TermId → List (ℤ × ℕ) → ℕ → Choice → Type 0
  Switches x keys default choice =
      AllHold nodes variables (key_conditions x keys choice)
      → IsPlan (jumps s c (switch_target (V x) keys default) (drop 1 c.frame.stack)) (plain state (switch_way keys default (drop 1 frame.stack) choice))

  by_default : (x : TermId) (keys : List (ℤ × ℕ)) (default : ℕ) → Switches x keys default Default
  by_default x keys default h = ap (λ (t : ℕ). jumps s c t (drop 1 c.frame.stack)) (target_of_none (V x) keys default (default_none nodes variables x keys h)) ∙ jumps_is default 1

  by_key : (x : TermId) (keys : List (ℤ × ℕ)) (default n : ℕ) (key : ℤ × ℕ) → AreRising keys → slice_get keys n ≡ Some key → Switches x keys default (Key n)
  by_key x keys default n key rising at h =
      ap (λ (t : ℕ). jumps s c t (drop 1 c.frame.stack)) (target_of_key (V x) keys default n key rising at (fits_key nodes variables x keys n key at h))
      ∙ jumps_is key.1 1
      ∙ ap (λ (found : Option (ℤ × ℕ)). led_to s c next (R nodes) (option_map_or (λ (k : ℤ × ℕ). Jumps k.1 (drop 1 frame.stack)) found Fails)) (sym at)

  switched_is : (x : TermId) (keys : List (ℤ × ℕ)) (default : ℕ) (choice : Choice) → AreRising keys → Has (keys_from 0 keys) choice → Switches x keys default choice
  switched_is x keys default choice rising has = elim (key_or_default keys 0 choice has) [
    | inl k ↦ subst (Switches x keys default) (sym k.is) (by_key x keys default k.n k.key rising (ap (slice_get keys) (number k.n k.i k.number) ∙ k.there))
    | inr is ↦ subst (Switches x keys default) (sym is) (by_default x keys default)
  ] where
    number : (n i : ℕ) → n ≡ 0 + i → n ≡ i
    number n i e = omega (arith, e)

  switches_is : (keys : List (ℤ × ℕ)) (default : ℕ) (choice : Choice) → AreRising keys → Has (if is_some (one_int frame.stack) then keys_from 0 keys else only) choice
      → AllHold nodes variables (if_some (one_int frame.stack) (λ x. key_conditions x keys choice))
      → IsPlan (with s c (an_int c.frame.stack) (λ a. jumps s c (switch_target a.it keys default) a.rest)) (switches state keys default choice)
  switches_is keys default choice rising has held =
      with_one (λ a. jumps s c (switch_target a.it keys default) a.rest) (λ it. plain state (if is_some it then switch_way keys default (drop 1 frame.stack) choice else Fails)) refl
      (λ x e. switched_is x keys default choice rising (subst (λ (it : Option TermId). Has (if is_some it then keys_from 0 keys else only) choice) e has)
      (subst (λ (it : Option TermId). AllHold nodes variables (if_some it (λ y. key_conditions y keys choice))) e held))

  -- ---- returns

  returned_is : (t : TermId) → IsTerm nodes t
      → IsPlan (returns_value s c (IntValue (V t))) (returns_value_sym s.world state (Int t))
  unfolding returns_value
  returned_is t is =
      ap (λ (m : MethodId). option_map_or (λ v. hands_over s c (Some v)) (option_and_then (λ type. kept type (IntValue (V t))) (result_of s.world m)) (ill_typed s c)) (reads.stands nodes itself).method
      ∙ go (result_of s.world frame.method)
    where
      whole : hands_over s c (Some (IntValue (V t))) ≡ hands_over s c (Some (value_of_sym (R nodes) (Int t)))
      whole = ap (λ (v : Value). hands_over s c (Some v)) (sym (reads.ints nodes t))

      low : hands_over s c (Some (IntValue (word_and (V t) (pos 1)))) ≡ led_to s c next (R (masked state t (interned nodes (Const (pos 1)))).0) (Leaves (Some (Int (masked state t (interned nodes (Const (pos 1)))).1)))
      low =
          let made = masked state t (interned nodes (Const (pos 1))) in
          ap (λ (v : Value). hands_over s c (Some v)) (ap IntValue (sym (low_made nodes t variables ordered is)) ∙ sym (reads.ints made.0 made.1))

      go : (result : Option JType) → option_map_or (λ v. hands_over s c (Some v)) (option_and_then (λ type. kept type (IntValue (V t))) result) (ill_typed s c)
          ≡ led_to s c next (R (planned state (option_and_then (λ (type : JType). sym_kept type (Int t) state) result) leaves_with).state.nodes) (planned state (option_and_then (λ (type : JType). sym_kept type (Int t) state) result) leaves_with).way
      go None = refl
      go (Some types.Bool) = low
      go (Some types.Int) = whole
      go (Some _) = refl

  returns_int_is : IsPlan (with s c (an_int c.frame.stack) (λ a. returns_value s c (IntValue a.it))) (returns_int s.world state)
  returns_int_is =
      with_one (λ a. returns_value s c (IntValue a.it)) (λ it. planned state it (λ t. returns_value_sym s.world state (Int t))) refl
      (λ t e. returned_is t (one_term nodes frame.stack t terms.stack e))

  returns_nothing_is : IsPlan (returns_nothing s c) (returns_nothing_sym s.world state)
  unfolding returns_nothing
  returns_nothing_is =
      ap (λ (m : MethodId). if is_some (result_of s.world m) then ill_typed s c else hands_over s c None) (reads.stands nodes itself).method
      ∙ go (is_some (result_of s.world frame.method))
    where
      go : (b : Bool) → (if b then ill_typed s c else hands_over s c None) ≡ led_to s c next (R nodes) (if b then Fails else Leaves None)
      go true = refl
      go false = refl

  -- ---- the instructions

  entry_is : (entry : ℕ) → is_int_instruction s.world frame.method (instrs.Ldc entry) ≡ true → is_some (int_entry_of s.world (class_number s.world frame.method) entry) ≡ true
  entry_is entry e = go (info_of s.world frame.method) e where
    go : (info : Option MethodInfo) → is_some (option_and_then (λ (i : MethodInfo). int_entry_of s.world i.class.0 entry) info) ≡ true
        → is_some (int_entry_of s.world (option_map_or (λ (m : MethodInfo). m.class.0) info 0) entry) ≡ true
    go None h = absurd (true≢false (sym h))
    go (Some info) h = h

  pub plan_is : (instr : Instr) (choice : Choice) → is_int_instruction s.world frame.method instr ≡ true → Has (listed instr frame.stack) choice
      → AllHold nodes variables (conditions_of instr frame.stack choice) → HasRisingKeys instr → IsPlan (effect instr s next c) (effect_of s.world state choice instr)
  unfolding effect nop push_int load_constant load_int store_int increase rearrange apply_two negate narrow if_int if_ints goto switch return_int return_nothing
  plan_is instrs.Nop choice int has held rising = goes_is nodes itself frame.stack c.frame.stack here
  plan_is (instrs.PushInt z) choice int has held rising = pushes_int_is z
  plan_is (instrs.Ldc entry) choice int has held rising = loads_constant_is entry (entry_is entry int)
  plan_is (instrs.LoadInt k) choice int has held rising = loads_is k
  plan_is (instrs.StoreInt k) choice int has held rising = stores_is k
  plan_is (instrs.Inc k by) choice int has held rising = increases_is k by
  plan_is instrs.Pop choice int has held rising = rearranges_is (without 1) 1 [] (λ values. refl)
  plan_is instrs.Pop2 choice int has held rising = rearranges_is (without 2) 2 [] (λ values. refl)
  plan_is instrs.Dup choice int has held rising = rearranges_is (copied_below 1 1) 1 (0 ∷ 0 ∷ []) dup_is
  plan_is instrs.DupX1 choice int has held rising = rearranges_is (copied_below 1 2) 2 (0 ∷ 1 ∷ 0 ∷ []) dup_x1_is
  plan_is instrs.DupX2 choice int has held rising = rearranges_is (copied_below 1 3) 3 (0 ∷ 1 ∷ 2 ∷ 0 ∷ []) dup_x2_is
  plan_is instrs.Dup2 choice int has held rising = rearranges_is (copied_below 2 2) 2 (0 ∷ 1 ∷ 0 ∷ 1 ∷ []) dup2_is
  plan_is instrs.Dup2X1 choice int has held rising = rearranges_is (copied_below 2 3) 3 (0 ∷ 1 ∷ 2 ∷ 0 ∷ 1 ∷ []) dup2_x1_is
  plan_is instrs.Dup2X2 choice int has held rising = rearranges_is (copied_below 2 4) 4 (0 ∷ 1 ∷ 2 ∷ 3 ∷ 0 ∷ 1 ∷ []) dup2_x2_is
  plan_is instrs.Swap choice int has held rising = rearranges_is exchanged 2 (1 ∷ 0 ∷ []) swap_is
  plan_is (instrs.Int2 op) choice int has held rising = computes_two_is op choice has held
  plan_is instrs.Neg choice int has held rising = computes_is Neg word_neg refl (λ a. refl)
  plan_is (instrs.Narrow cut) choice int has held rising = computes_is (op_of_cut cut) (narrowed cut) (cut_unary cut) (narrowed_is cut)
  plan_is (instrs.IfInt cond target) choice int has held rising = if_int_is cond target choice has held
  plan_is (instrs.IfPair cond target) choice int has held rising = if_pair_is cond target choice has held
  plan_is (instrs.Goto target) choice int has held rising = ap (λ (l : List Value). jumps s c target l) here
  plan_is (instrs.Table low default targets) choice int has held rising = switches_is (table_keys low targets) default choice (table_rising low targets) has held
  plan_is (instrs.Lookup default keys) choice int has held rising = switches_is keys default choice rising has held
  plan_is instrs.ReturnInt choice int has held rising = returns_int_is
  plan_is instrs.Return choice int has held rising = returns_nothing_is
  plan_is _ choice int has held rising = absurd (true≢false (sym int))
