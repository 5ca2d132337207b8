-- What conditions and seen slots say of an input stays when a state grows: the variables that there were keep their values.
use Rattle.std.proofs.Common.{◌≡◌, ℕ, zero, suc, ◌<◌, ℤ, Bool, true, false, List, [], ◌∷◌, ◌++◌, length, take, fold, Option, Some, None, slice_get, refl, sym, ap, ◌∙◌, subst, arith, length-take}
use Rattle.std.specs.List.{filter_map}
use Rattle.std.proofs.lemmas.Option.{slice_get_within}
use Rattle.kb_blast.specs.Meaning.{AreMetInPool}
use Rattle.kb_blast.specs.Query.{AreConditions}
use Rattle.kb_class.specs.declared.ids.MethodId.{MethodId}
use Rattle.kb_heap.specs.declared.heap.Input.{Input}
use Rattle.kb_heap.specs.declared.heap.Value.{Value}
use Rattle.kb_classes.specs.World.{World}
use Rattle.kb_oracle.proofs.Queries.{length-kinds}
use Rattle.kb_terms.specs.Op.{is_binary}
use Rattle.kb_terms.specs.Terms.{Extends, IsPool, IsSecond, IsTerm, int_at, node_at, value_of, values, variables_of}
use Rattle.kb_terms.specs.declared.node.Node.{Node}
use Rattle.kb_terms.specs.declared.node.Node.TheVariants.{Const, Var, Op as Apply}
use Rattle.kb_terms.specs.declared.node.TermId.{TermId}
use Rattle.kb_terms.specs.declared.node.VarKind.{VarKind}
use Rattle.kb_terms.proofs.Values.{value_of-extends, with_value}
use Rattle.kb_picture.specs.declared.picture.Origin.{Origin}
use Rattle.kb_picture.specs.declared.picture.Origin.TheVariants.{Arg}
use Rattle.kb_picture.specs.declared.picture.Picture.{Picture}
use Rattle.kb_picture.specs.declared.picture.Seen.{Seen}
use Rattle.kb_picture.specs.declared.picture.Seen.TheVariants as seens
use Rattle.kb_picture.specs.Instances.{variable_value, variable_values}
use Rattle.kb_picture.specs.Places.{slot_value}
use Rattle.kb_picture.specs.Queries.{kind_seen}
use Rattle.kb_picture.specs.Shapes.{HasShape, HoldEach, HoldsSeen}
use Rattle.kb_picture.specs.WellFormed.{variable_seen, variables_seen}
use Rattle.kb_frames.specs.State.{State}
use Rattle.kb_frames.specs.States.{IsState}
use Rattle.kb_frames.specs.Comparing.{comparison_of}
use Rattle.kb_numbered.proofs.PathLaws.{variable-below}
use Rattle.kb_drive.specs.Steps.{StaysAtInputs}
use Rattle.kb_drive.proofs.FrontLaws.{conditions_both, front_at, passes_term}

-- ---- the values of terms hang on the first variables alone

agree_run : (xs ys done : List ℤ) (nodes : List Node) → ((i v : ℕ) (kind : VarKind) → slice_get nodes i ≡ Some (Var v kind) → int_at xs v ≡ int_at ys v)
    → fold (with_value xs) done nodes ≡ fold (with_value ys) done nodes
agree_run xs ys done [] agree = refl
agree_run xs ys done (n ∷ ns) agree =
    ap (λ (d : List ℤ). fold (with_value xs) d ns) (one n (λ v kind same. agree 0 v kind (ap Some same)))
    ∙ agree_run xs ys (with_value ys done n) ns (λ i v kind at. agree (suc i) v kind at)
  where
    one : (node : Node) → ((v : ℕ) (kind : VarKind) → node ≡ Var v kind → int_at xs v ≡ int_at ys v) → with_value xs done node ≡ with_value ys done node
    one (Const c) h = refl
    one (Var v kind) h = ap (λ (z : ℤ). done ++ z ∷ []) (h v kind refl)
    one (Apply op left right) h = refl

pub value_agrees : (nodes : List Node) (t : TermId) (xs ys : List ℤ) → IsPool nodes → ((v : ℕ) → v < variables_of nodes → int_at xs v ≡ int_at ys v)
    → value_of nodes t xs ≡ value_of nodes t ys
unfolding value_of values
value_agrees nodes t xs ys pool agree = ap (λ (vs : List ℤ). int_at vs t.0) (agree_run xs ys [] nodes (λ i v kind at. agree v (variable-below nodes pool i v kind at)))

-- ---- how many variables there are

seen_count : (world : World) (method : MethodId) (picture : Picture) (seen : List (Origin × Seen)) → length (filter_map (kind_seen world method picture) seen)
    ≡ length (filter_map (λ (slot : Origin × Seen). variable_seen slot.1) seen)
seen_count world method picture [] = refl
seen_count world method picture ((slot, seens.Int number) ∷ seen) = ap suc (seen_count world method picture seen)
seen_count world method picture ((slot, seens.Null) ∷ seen) = seen_count world method picture seen
seen_count world method picture ((slot, seens.Loc number) ∷ seen) = seen_count world method picture seen
seen_count world method picture ((slot, seens.Obj number) ∷ seen) = seen_count world method picture seen
seen_count world method picture ((slot, seens.Beyond) ∷ seen) = seen_count world method picture seen

value_count : (input : Input) (places : List ℕ) (seen : List (Origin × Seen)) → length (filter_map (λ (slot : Origin × Seen). variable_value (slot_value input places slot.0) slot.1) seen)
    ≡ length (filter_map (λ (slot : Origin × Seen). variable_seen slot.1) seen)
value_count input places [] = refl
value_count input places ((slot, seens.Int number) ∷ seen) = ap suc (value_count input places seen)
value_count input places ((slot, seens.Null) ∷ seen) = value_count input places seen
value_count input places ((slot, seens.Loc number) ∷ seen) = value_count input places seen
value_count input places ((slot, seens.Obj number) ∷ seen) = value_count input places seen
value_count input places ((slot, seens.Beyond) ∷ seen) = value_count input places seen

pub variables_counted : (picture : Picture) (input : Input) (places : List ℕ) → length (variable_values picture input places) ≡ length (variables_seen picture)
unfolding variable_values
variables_counted picture input places = value_count input places picture.seen

-- the variables of a state's terms are those that its picture shows
pub variables_of_state : (world : World) (state : State) → IsState world state → variables_of state.nodes ≡ length (variables_seen state.picture)
variables_of_state world state formed =
    sym (length-kinds state.nodes) ∙ ap length formed.kinds ∙ seen_count world state.method state.picture state.picture.seen

-- ---- conditions

module _ (old new : State) (input : Input) (terms : Extends old.nodes new.nodes) (stays : StaysAtInputs old.picture new.picture)
    (before : HasShape old.picture input) (now : HasShape new.picture input) where
  abbrev was : List ℤ
  was = variable_values old.picture input before.places.objects

  abbrev are : List ℤ
  are = variable_values new.picture input now.places.objects

  int_front : (xs ys : List ℤ) (v : ℕ) → take (length ys) xs ≡ ys → v < length ys → int_at xs v ≡ int_at ys v
  int_front xs [] v e less = absurd (omega (arith, less))
  int_front [] (y ∷ ys) v e less = absurd cc
  int_front (x ∷ xs) (y ∷ ys) zero e less = cc
  int_front (x ∷ xs) (y ∷ ys) (suc v) e less = int_front xs ys v (cc) (omega (arith, less))

  pub value_stays : (world : World) (t : TermId) → IsState world old → IsTerm old.nodes t → value_of new.nodes t are ≡ value_of old.nodes t was
  value_stays world t formed there =
      let count : variables_of old.nodes ≡ length was = variables_of_state world old formed ∙ sym (variables_counted old.picture input before.places.objects) in
      value_of-extends old.nodes new.nodes t are terms there
      ∙ value_agrees old.nodes t are was formed.pool (λ v less. int_front are was v (stays.variables input before now) (omega (arith, less, count)))

  pub all_met_before : (world : World) (when : List (TermId × Bool)) → IsState world old → AreConditions old.nodes when
      → AreMetInPool new.nodes are when → AreMetInPool old.nodes was when
  all_met_before world [] formed conditions met = tt
  all_met_before world (condition ∷ when) formed conditions met =
      let both = conditions_both old.nodes condition when conditions in
      (sym (value_stays world condition.0 formed (passes_term old.nodes condition.0 both.0)) ∙ met.0, all_met_before world when formed both.1 met.1)

-- conditions that are met behind a take were met before it
pub met_before : (world : World) (old new : State) (input : Input) → IsState world old → Extends old.nodes new.nodes → StaysAtInputs old.picture new.picture
    → (before : HasShape old.picture input) (now : HasShape new.picture input)
    → AreMetInPool new.nodes (variable_values new.picture input now.places.objects) old.when
    → AreMetInPool old.nodes (variable_values old.picture input before.places.objects) old.when
met_before world old new input formed terms stays before now met = all_met_before old new input terms stays before now world old.when formed formed.conditions met

pub slice_get_some : {A : Type 0} (xs : List A) (i : ℕ) → i < length xs → (x : A) × (slice_get xs i ≡ Some x)
slice_get_some [] i less = absurd (omega (arith, less))
slice_get_some (x ∷ xs) zero less = (x, refl)
slice_get_some (x ∷ xs) (suc i) less = slice_get_some xs i (omega (arith, less))

-- the second operand of a node that has one is a term
second_there : (binary : Bool) (before : List Node) (right : TermId) → IsSecond before binary (Some right) → IsTerm before right
second_there true before right is = is
second_there false before right is = absurd is

-- and make the same comparisons
pub comparison_stays : (world : World) (old new : State) (input : Input) → IsState world old → Extends old.nodes new.nodes → StaysAtInputs old.picture new.picture
    → (before : HasShape old.picture input) (now : HasShape new.picture input) (t : TermId) → IsTerm old.nodes t
    → comparison_of old.nodes (variable_values old.picture input before.places.objects) t ≡ comparison_of new.nodes (variable_values new.picture input now.places.objects) t
comparison_stays world old new input formed terms stays before now t there = go (node_at old.nodes t) refl
  where
    same_node : (node : Node) → node_at old.nodes t ≡ Some node → node_at new.nodes t ≡ Some node
    same_node node e = front_at new.nodes old.nodes t.0 node terms.kept e

    stays_at : (u : TermId) → IsTerm old.nodes u
        → value_of old.nodes u (variable_values old.picture input before.places.objects) ≡ value_of new.nodes u (variable_values new.picture input now.places.objects)
    stays_at u is = sym (value_stays old new input terms stays before now world u formed is)

    -- an operand is a term before its own
    earlier : (i : ℕ) (u : TermId) → IsTerm (take i old.nodes) u → IsTerm old.nodes u
    earlier i u is = let count = length-take i old.nodes in omega (arith, is, count)

    in_pool : (node : Node) × (node_at old.nodes t ≡ Some node) → node_at old.nodes t ≡ None → ⊥
    in_pool some none = cc

    go : (node : Option Node) → node_at old.nodes t ≡ node
        → comparison_of old.nodes (variable_values old.picture input before.places.objects) t ≡ comparison_of new.nodes (variable_values new.picture input now.places.objects) t
    go None e = absurd (in_pool (slice_get_some old.nodes t.0 there) e)
    go (Some (Const c)) e = let there = same_node (Const c) e in rw (e, there) refl
    go (Some (Var v kind)) e = let there = same_node (Var v kind) e in rw (e, there) refl
    go (Some (Apply op left None)) e = let there = same_node (Apply op left None) e in rw (e, there) refl
    -- both operands are earlier terms of the old pool
    go (Some (Apply op left (Some right))) e =
        let there = same_node (Apply op left (Some right)) e in
        let fits = (formed.pool.fits t.0 (Apply op left (Some right)) e).0 in
        let first = stays_at left (earlier t.0 left fits.first) in
        let second = stays_at right (earlier t.0 right (second_there (is_binary op) (take t.0 old.nodes) right fits.second)) in
        rw (e, there, first, second) refl

-- ---- slots

holds_some : (input : Input) (places : List ℕ) (number : ℕ) (value : Option Value) (seen : Seen) → slice_get input.args number ≡ value → HoldsSeen input.heap places value seen
    → number < length input.args
holds_some input places number (Some value) seen e holds = slice_get_within input.args number value e
holds_some input places number None (seens.Int v) e holds = absurd (cc)
holds_some input places number None seens.Null e holds = absurd (cc)
holds_some input places number None (seens.Loc l) e holds = absurd (cc)
holds_some input places number None (seens.Obj o) e holds = absurd (cc)
holds_some input places number None seens.Beyond e holds = absurd (cc)

held_at : (input : Input) (places : List ℕ) (seen : List (Origin × Seen)) (i : ℕ) (slot : Origin × Seen) → HoldEach input places seen → slice_get seen i ≡ Some slot
    → HoldsSeen input.heap places (slot_value input places slot.0) slot.1
held_at input places [] i slot each e = absurd cc
held_at input places (s ∷ seen) zero slot each e = let same : s ≡ slot = cc in subst (λ (x : Origin × Seen). HoldsSeen input.heap places (slot_value input places x.0) x.1) same each.0
held_at input places (s ∷ seen) (suc i) slot each e = held_at input places seen i slot each.1 e

-- an argument that is seen is one of the input's
pub seen_argument : (picture : Picture) (input : Input) (shape : HasShape picture input) (i number : ℕ) (seen : Seen) → slice_get picture.seen i ≡ Some (Arg number, seen)
    → number < length input.args
seen_argument picture input shape i number seen e =
    holds_some input shape.places.objects number (slice_get input.args number) seen refl (held_at input shape.places.objects picture.seen i (Arg number, seen) shape.seen e)
