-- The path of a state is well-formed, in the parts that the leaf adds.
use Rattle.std.proofs.Common.{◌≡◌, ◌≢◌, ℕ, zero, suc, ◌+◌, Bool, List, [], ◌∷◌, ◌++◌, length, map, slice_get, Option, Some, None, option_map, refl, sym, ap, subst, ◌∙◌, arith}
use Rattle.std.specs.List.{filter_map, cons_option}
use Rattle.std.proofs.lemmas.Bool.{and_parts}
use Rattle.std.proofs.lemmas.List.{length-map}
use Rattle.std.proofs.lemmas.Option.{slice_get-map, slice_get_within}
use Rattle.kb_class.specs.declared.ids.MethodId.{MethodId}
use Rattle.kb_classes.specs.World.{World}
use Rattle.kb_terms.specs.declared.node.TermId.{TermId}
use Rattle.kb_terms.specs.declared.node.VarKind.{VarKind}
use Rattle.kb_terms.specs.declared.node.Node.{Node}
use Rattle.kb_terms.specs.declared.node.Node.TheVariants.{Const, Var, Op as Apply}
use Rattle.kb_terms.specs.declared.listing.Operand.TheVariants.{Const as ConstOperand, Var as VarOperand, Term as TermOperand}
use Rattle.kb_terms.specs.Terms.{IsTerm, AreTerms, node_at, variables_of}
use Rattle.kb_terms.specs.Numbering.{IsNumbering}
use Rattle.kb_terms.proofs.Interned.{variables-append}
use Rattle.kb_terms.proofs.Order.{term-at, numbering-is}
use Rattle.kb_blast.specs.Query.{roots_of as condition_roots, kinds_of, listed, AreConditions}
use Rattle.kb_picture.specs.declared.picture.Origin.{Origin}
use Rattle.kb_picture.specs.declared.picture.Seen.{Seen}
use Rattle.kb_picture.specs.declared.picture.Picture.{Picture}
use Rattle.kb_picture.specs.declared.path.Out.{Out}
use Rattle.kb_picture.specs.declared.path.Out.TheVariants.{Int, Null, Loc, Obj, Literal, New}
use Rattle.kb_picture.specs.declared.path.Write.{Write}
use Rattle.kb_picture.specs.declared.path.Made.{Made}
use Rattle.kb_picture.specs.declared.path.SymEnding.{SymEnding}
use Rattle.kb_picture.specs.declared.path.SymEnding.TheVariants.{Returned, Threw, IllTyped}
use Rattle.kb_picture.specs.declared.path.Ended.{Ended}
use Rattle.kb_picture.specs.declared.path.Leaf.{Leaf}
use Rattle.kb_picture.specs.declared.path.Leaf.TheVariants.{Ended as EndedLeaf, Cut, Undecided, Open}
use Rattle.kb_picture.specs.declared.path.Path.{Path}
use Rattle.kb_picture.specs.Numbering.{ended_outs, leaf_outs, met_from}
use Rattle.kb_picture.specs.Queries.{kind_for, type_of_slot, kinds_seen}
use Rattle.kb_picture.specs.WellFormed.{variable_seen, variables_seen, IsSlot, IsOut, IsObjectOut, IsThrown, written_slot, written_slots, AreWrites, HasValues, IsEnded, IsLeaf, IsWellFormed}
use Rattle.kb_numbered.specs.Numbered.{term_id, terms_stated, numbered_out, numbered_ending, numbered_write, numbered_made, numbered_ended, numbered_leaf, numbered_path}
use Rattle.kb_numbered.proofs.Renumbering.{met-is}
use Rattle.kb_numbered.proofs.OnceLaws.{terms-once}
use Rattle.kb_numbered.proofs.PathLaws.{comparison-shape, operand-in, terms-there, root-below, conditions-there, ended-outs, roots-same}
use Rattle.kb_frames.specs.State.{State}
use Rattle.kb_frames.specs.States.{IsState, IsOutIn, IsEndedIn, IsLeafIn}
use Rattle.kb_frames.specs.Paths.{path_roots, path_numbering, path_of}

-- ---- the variables of a pool are those that are seen

count-kinds : (nodes : List Node) → length (kinds_of nodes) ≡ variables_of nodes
count-kinds [] = refl
count-kinds (Const c ∷ nodes) = let more = count-kinds nodes in omega (arith, more, variables-append (Const c ∷ []) nodes)
count-kinds (Var v kind ∷ nodes) = let more = count-kinds nodes in omega (arith, more, variables-append (Var v kind ∷ []) nodes)
count-kinds (Apply op left right ∷ nodes) = let more = count-kinds nodes in omega (arith, more, variables-append (Apply op left right ∷ []) nodes)

count-seen : (f : Origin × Seen → ℕ → VarKind) (seen : List (Origin × Seen))
    → length (filter_map (λ (slot : Origin × Seen). option_map (f slot) (variable_seen slot.1)) seen) ≡ length (filter_map (λ (slot : Origin × Seen). variable_seen slot.1) seen)
count-seen f [] = refl
count-seen f (slot ∷ others) = go (variable_seen slot.1) (count-seen f others)
  where
    go : (number : Option ℕ)
        → length (filter_map (λ (slot : Origin × Seen). option_map (f slot) (variable_seen slot.1)) others) ≡ length (filter_map (λ (slot : Origin × Seen). variable_seen slot.1) others)
        → length (cons_option (option_map (f slot) number) (filter_map (λ (slot : Origin × Seen). option_map (f slot) (variable_seen slot.1)) others))
        ≡ length (cons_option number (filter_map (λ (slot : Origin × Seen). variable_seen slot.1) others))
    go None rest = rest
    go (Some number) rest = ap suc rest

pub variables-same : (world : World) (id : MethodId) (nodes : List Node) (picture : Picture) → kinds_of nodes ≡ kinds_seen world id picture → variables_of nodes ≡ length (variables_seen picture)
variables-same world id nodes picture same =
    sym (count-kinds nodes) ∙ ap length same ∙ count-seen (λ slot number. kind_for (type_of_slot world id picture.objects slot.0)) picture.seen

-- ---- items of a list with each changed

-- an item of the changed list is a changed item
record IsFrom {A B : Type 0} (f : A → B) (xs : List A) (i : ℕ) (y : B) : Type 0 where
  item : A
  there : slice_get xs i ≡ Some item
  changed : f item ≡ y

from-map : {A B : Type 0} (f : A → B) (xs : List A) (i : ℕ) (y : B) → slice_get (map f xs) i ≡ Some y → IsFrom f xs i y
from-map {A} {B} f xs i y e = go (slice_get xs i) refl (sym (slice_get-map f xs i) ∙ e)
  where
    go : (o : Option A) → slice_get xs i ≡ o → option_map f o ≡ Some y → IsFrom f xs i y
    go None at h = absurd (cc)
    go (Some x) at h = record { item = x; there = at; changed = cc }

behind : {A : Type 0} (xs ys : List A) (i : ℕ) (y : A) → slice_get ys i ≡ Some y → slice_get (xs ++ ys) (length xs + i) ≡ Some y
behind [] ys i y e =
    let shift : 0 + i ≡ i = omega arith in
    ap (λ n. slice_get ys n) shift ∙ e
behind {A} (x ∷ xs) ys i y e =
    let shift : suc (length xs) + i ≡ suc (length xs + i) = omega arith in
    ap (λ n. slice_get (x ∷ (xs ++ ys)) n) shift ∙ behind xs ys i y e

-- a term that a value states is among those stated
stated-at : (outs : List Out) (i k : ℕ) → slice_get outs i ≡ Some (Int (TermOperand k)) → (j : ℕ) × (slice_get (terms_stated outs) j ≡ Some (term_id k))
stated-at [] i k e = absurd (cc)
stated-at (out ∷ others) zero k e = let same : out ≡ Int (TermOperand k) = cc in (0, ap (λ o. slice_get (terms_stated (o ∷ others)) 0) same)
stated-at (Int (ConstOperand c) ∷ others) (suc i) k e = stated-at others i k e
stated-at (Int (VarOperand v) ∷ others) (suc i) k e = stated-at others i k e
stated-at (Int (TermOperand t) ∷ others) (suc i) k e = let p = stated-at others i k e in (suc p.0, p.1)
stated-at (Null ∷ others) (suc i) k e = stated-at others i k e
stated-at (Loc number ∷ others) (suc i) k e = stated-at others i k e
stated-at (Obj number ∷ others) (suc i) k e = stated-at others i k e
stated-at (Literal number ∷ others) (suc i) k e = stated-at others i k e
stated-at (New number ∷ others) (suc i) k e = stated-at others i k e

-- ---- the leaf

module _ (nodes : List Node) (numbered : List TermId) where
  object-same : (out : Out) → IsObjectOut out → IsObjectOut (numbered_out nodes numbered out)
  object-same (Int operand) h = absurd h
  object-same Null h = absurd h
  object-same (Loc number) h = tt
  object-same (Obj number) h = tt
  object-same (Literal number) h = tt
  object-same (New number) h = tt

  thrown-same : (ending : SymEnding) → IsThrown ending → IsThrown (numbered_ending nodes numbered ending)
  thrown-same (Returned value) h = tt
  thrown-same (Threw value) h = object-same value h
  thrown-same (IllTyped place) h = tt

  slots-same : (writes : List Write) → written_slots (map (numbered_write nodes numbered) writes) ≡ written_slots writes
  slots-same [] = refl
  slots-same (write ∷ others) = ap (λ (l : List (Option (ℕ × ℕ))). written_slot write.slot ∷ l) (slots-same others)

  writes-same : (world : World) (picture : Picture) (writes : List Write) → AreWrites world picture writes → AreWrites world picture (map (numbered_write nodes numbered) writes)
  writes-same world picture writes h = record {
    there = λ i write at.
        let from = from-map (numbered_write nodes numbered) writes i write at in
        subst (λ (w : Write). (written_slot w.slot ≢ None) × IsSlot world 0 picture.objects w.slot) from.changed (h.there i from.item from.there);
    rising = λ i one other p q.
        h.rising i one other (ap (λ (l : List (Option (ℕ × ℕ))). slice_get l i) (sym (slots-same writes)) ∙ p)
        (ap (λ (l : List (Option (ℕ × ℕ))). slice_get l (suc i)) (sym (slots-same writes)) ∙ q);
  }

  made-same : (world : World) (made : List Made) → ((i : ℕ) (object : Made) → slice_get made i ≡ Some object → HasValues world object.kind (length object.values))
      → (i : ℕ) (object : Made) → slice_get (map (numbered_made nodes numbered) made) i ≡ Some object → HasValues world object.kind (length object.values)
  made-same world made h i object at =
      let from = from-map (numbered_made nodes numbered) made i object at in
      subst (λ (o : Made). HasValues world o.kind (length o.values)) from.changed
      (subst (HasValues world from.item.kind) (sym (length-map from.item.values (numbered_out nodes numbered))) (h i from.item from.there))

-- ---- from what the walk begins

-- the terms that conditions and values speak of are terms of the pool
condition-terms : (nodes : List Node) (when : List (TermId × Bool)) (rest : List TermId) → AreConditions nodes when → AreTerms nodes rest → AreTerms nodes (condition_roots when ++ rest)
condition-terms nodes [] rest all h = h
condition-terms nodes (w ∷ ws) rest all h =
    let parts = and_parts _ _ all in
    let t : TermId = w.0 in
    let shape = comparison-shape (node_at nodes t) parts.0 in
    (slice_get_within nodes t.0 (Apply shape.0 shape.1 shape.2) shape.3, condition-terms nodes ws rest parts.1 h)

value-terms : (world : World) (state : State) (made : ℕ) (values : List Out) → ((i : ℕ) (out : Out) → slice_get values i ≡ Some out → IsOutIn world state made out)
    → AreTerms state.nodes (terms_stated values)
value-terms world state made [] h = tt
value-terms world state made (Int (ConstOperand c) ∷ others) h = value-terms world state made others (λ i out at. h (suc i) out at)
value-terms world state made (Int (VarOperand v) ∷ others) h = value-terms world state made others (λ i out at. h (suc i) out at)
value-terms world state made (Int (TermOperand t) ∷ others) h = (h 0 (Int (TermOperand t)) refl, value-terms world state made others (λ i out at. h (suc i) out at))
value-terms world state made (Null ∷ others) h = value-terms world state made others (λ i out at. h (suc i) out at)
value-terms world state made (Loc number ∷ others) h = value-terms world state made others (λ i out at. h (suc i) out at)
value-terms world state made (Obj number ∷ others) h = value-terms world state made others (λ i out at. h (suc i) out at)
value-terms world state made (Literal number ∷ others) h = value-terms world state made others (λ i out at. h (suc i) out at)
value-terms world state made (New number ∷ others) h = value-terms world state made others (λ i out at. h (suc i) out at)

leaf-terms : (world : World) (state : State) (leaf : Leaf) → IsLeafIn world state leaf → AreTerms state.nodes (terms_stated (leaf_outs leaf))
leaf-terms world state (EndedLeaf ended) h = value-terms world state (length ended.made) (ended_outs ended) h.outs
leaf-terms world state (Cut bound input) h = tt
leaf-terms world state (Undecided log) h = tt
leaf-terms world state Open h = tt

pub roots_are_terms : (world : World) (state : State) (leaf : Leaf) → IsState world state → IsLeafIn world state leaf → AreTerms state.nodes (path_roots state leaf)
roots_are_terms world state leaf s h = condition-terms state.nodes state.when (terms_stated (leaf_outs leaf)) s.conditions (leaf-terms world state leaf h)

module _ (world : World) (state : State) (decisions : List ℕ) (leaf : Leaf) (s : IsState world state) (terms : AreTerms state.nodes (path_roots state leaf)) where
  abbrev numbered : List TermId
  numbered = path_numbering state leaf

  abbrev path : Path
  path = numbered_path state.picture state.nodes state.when decisions leaf numbered

  inside : (i : ℕ) (t : TermId) → slice_get (path_roots state leaf) i ≡ Some t → IsTerm state.nodes t
  inside i t at = term-at state.nodes (path_roots state leaf) i t terms at

  is : IsNumbering state.nodes (path_roots state leaf) numbered
  is = numbering-is state.nodes s.pool (path_roots state leaf) inside

  variables : variables_of state.nodes ≡ length (variables_seen state.picture)
  variables = variables-same world state.method state.nodes state.picture s.kinds

  out-there : (values : List Out) → leaf_outs leaf ≡ values → (i : ℕ) (made : ℕ) (out : Out) → slice_get values i ≡ Some out → IsOutIn world state made out
      → IsOut world path made (numbered_out state.nodes numbered out)
  out-there values same i made (Int (ConstOperand c)) at h = h
  out-there values same i made (Int (VarOperand v)) at h = h
  out-there values same i made (Int (TermOperand k)) at h =
      let stated = stated-at values i k at in
      let rooted : slice_get (path_roots state leaf) (length (condition_roots state.when) + stated.0) ≡ Some (term_id k) =
      behind (condition_roots state.when) (terms_stated (leaf_outs leaf)) stated.0 (term_id k) (ap (λ (l : List Out). slice_get (terms_stated l) stated.0) same ∙ stated.1) in
      operand-in state.nodes s.pool (path_roots state leaf) numbered is state.picture variables (length (listed state.nodes numbered numbered)) (term_id k)
      (root-below state.nodes s.pool (path_roots state leaf) numbered is state.picture variables (length (condition_roots state.when) + stated.0) (term_id k) rooted)
  out-there values same i made Null at h = tt
  out-there values same i made (Loc number) at h = h
  out-there values same i made (Obj number) at h = h
  out-there values same i made (Literal number) at h = h
  out-there values same i made (New number) at h = h

  ended-there : (ended : Ended) → leaf ≡ EndedLeaf ended → IsEndedIn world state ended → IsEnded world path (numbered_ended state.nodes numbered ended)
  ended-there ended same h = record {
    outs = λ i out at.
        let from = from-map (numbered_out state.nodes numbered) (ended_outs ended) i out (ap (λ (l : List Out). slice_get l i) (sym (ended-outs state.nodes numbered ended)) ∙ at) in
        subst (IsOut world path (length (map (numbered_made state.nodes numbered) ended.made))) from.changed
        (subst (λ n. IsOut world path n (numbered_out state.nodes numbered from.item)) (sym (length-map ended.made (numbered_made state.nodes numbered)))
        (out-there (ended_outs ended) (ap leaf_outs same) i (length ended.made) from.item from.there (h.outs i from.item from.there)));
    thrown = thrown-same state.nodes numbered ended.ending h.thrown;
    writes = writes-same state.nodes numbered world state.picture ended.writes h.writes;
    made = made-same state.nodes numbered world ended.made h.made;
    input = h.input;
  }

  leaf-there : (l : Leaf) → leaf ≡ l → IsLeafIn world state l → IsLeaf world path (numbered_leaf state.nodes numbered l)
  leaf-there (EndedLeaf ended) same h = ended-there ended same h
  leaf-there (Cut bound input) same h = h
  leaf-there (Undecided log) same h = tt
  leaf-there Open same h = tt

  formed : IsLeafIn world state leaf → IsWellFormed world state.method (path_of state decisions leaf)
  unfolding path_of
  formed h = record {
    method = s.info;
    method_is = s.info_is;
    picture = s.picture;
    terms = record {
      each = terms-there state.nodes s.pool (path_roots state leaf) numbered is state.picture variables;
      met = ap (met_from (listed state.nodes numbered numbered)) (roots-same state.nodes numbered state.when leaf s.conditions)
          ∙ met-is state.nodes (path_roots state leaf) s.pool inside is;
      conditions = conditions-there state.nodes s.pool (path_roots state leaf) numbered is state.picture variables state.when (terms_stated (leaf_outs leaf)) s.conditions refl;
      once = terms-once state.nodes s.pool (path_roots state leaf) numbered is;
    };
    leaf = leaf-there leaf refl h;
  }

pub well_formed : (world : World) (state : State) (decisions : List ℕ) (leaf : Leaf) → IsState world state → IsLeafIn world state leaf
    → IsWellFormed world state.method (path_of state decisions leaf)
well_formed world state decisions leaf s h = formed world state decisions leaf s (roots_are_terms world state leaf s h) h
