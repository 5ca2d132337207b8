-- The paths by hand are well-formed: each part by its items, one by one.
use Rattle.std.proofs.Common.{◌≡◌, ◌≢◌, ℕ, zero, suc, ◌+◌, ◌<◌, ℤ, inl, inr, Bool, List, [], ◌∷◌, length, take, Option, Some, None, slice_get, refl, sym, ap, subst, ◌∙◌, arith}
use Rattle.std.specs.Prelude.{codes, pos}
use Rattle.std.specs.Int.{w32}
use Rattle.std.specs.Int.RustNames.{FitsSigned}
use Rattle.std.proofs.lemmas.Int.{ints}
use Rattle.std.proofs.lemmas.Option.{same_Some}
use Rattle.kb_blast.specs.Meaning.{IsComparison}
use Rattle.kb_class.specs.Naming.{Has}
use Rattle.kb_heap.specs.declared.heap.Input.{Input}
use Rattle.kb_heap.specs.declared.heap.Object.{Object}
use Rattle.kb_heap.specs.declared.heap.Value.{Value}
use Rattle.kb_heap.specs.declared.heap.Value.TheVariants.{Int as IntValue, Null as NullValue, Ref}
use Rattle.kb_classes.specs.World.{World}
use Rattle.kb_semantics.specs.Looks.{numbers_below}
use Rattle.kb_semantics.specs.Values.{slots_of_class}
use Rattle.kb_terms.specs.declared.listing.Operand.TheVariants.{Var}
use Rattle.kb_terms.specs.declared.listing.Term.{Term}
use Rattle.kb_picture.specs.declared.path.Ended.{Ended}
use Rattle.kb_picture.specs.declared.path.Out.{Out}
use Rattle.kb_picture.specs.declared.path.Path.{Path}
use Rattle.kb_picture.specs.declared.path.Write.{Write}
use Rattle.kb_picture.specs.declared.picture.Origin.{Origin}
use Rattle.kb_picture.specs.declared.picture.Origin.TheVariants.{Arg, Field}
use Rattle.kb_picture.specs.declared.picture.PicLoc.{PicLoc}
use Rattle.kb_picture.specs.declared.picture.PicObject.{PicObject}
use Rattle.kb_picture.specs.declared.picture.Picture.{Picture}
use Rattle.kb_picture.specs.declared.picture.Seen.{Seen}
use Rattle.kb_picture.specs.declared.picture.Seen.TheVariants as seens
use Rattle.kb_picture.specs.declared.picture.Standing.TheVariants as standings
use Rattle.kb_picture.specs.Examples.{node_at, read_from, returns_int, one_node_picture, one_node_ended, one_node_path, open_picture, open_ended, open_path, beyond_picture, beyond_input, beyond_path, later_picture, later_ended, later_path, ExamplesAreFormed}
use Rattle.kb_picture.specs.Numbering.{met_below, met_from, roots_of, ended_outs}
use Rattle.kb_picture.specs.WellFormed.{IsSlot, IsSeenAs, IsStanding, LeadsTo, IsLengthOf, IsPicture, IsTermAt, AreTermsOf, IsOut, IsWithin, IsClosed, IsEnded, IsLeaf, IsWellFormed, slots_seen, variables_seen, locations_seen, written_slot}

-- ---- lists, item by item

-- it holds of each item and its number
abbrev AllFrom : {A : Type 0} → (ℕ → A → Type 0) → ℕ → List A → Type 0
AllFrom P n [] = Unit {0}
AllFrom P n (x ∷ xs) = P n x × AllFrom P (suc n) xs

from_each : {A : Type 0} (P : ℕ → A → Type 0) (n : ℕ) (xs : List A) → AllFrom P n xs → (i : ℕ) (x : A) → slice_get xs i ≡ Some x → P (n + i) x
from_each P n [] all i x at = absurd cc
from_each P n (y ∷ xs) all zero x at =
    let here : n ≡ n + 0 = omega arith in
    subst (P (n + 0)) (same_Some y x at) (subst (λ (m : ℕ). P m y) here all.0)
from_each P n (y ∷ xs) all (suc i) x at =
    let next : suc n + i ≡ n + suc i = omega arith in
    subst (λ (m : ℕ). P m x) next (from_each P (suc n) xs all.1 i x at)

each_at : {A : Type 0} (P : ℕ → A → Type 0) (xs : List A) → AllFrom P 0 xs → (i : ℕ) (x : A) → slice_get xs i ≡ Some x → P i x
each_at P xs all i x at =
    let same : 0 + i ≡ i = omega arith in
    subst (λ (m : ℕ). P m x) same (from_each P 0 xs all i x at)

-- no item stands twice
abbrev IsNone : {A : Type 0} → A → List A → Type 0
IsNone x [] = Unit {0}
IsNone x (y ∷ ys) = (x ≡ y → ⊥) × IsNone x ys

abbrev AreDifferent : {A : Type 0} → List A → Type 0
AreDifferent [] = Unit {0}
AreDifferent (x ∷ xs) = IsNone x xs × AreDifferent xs

none_at : {A : Type 0} (x : A) (xs : List A) → IsNone x xs → (i : ℕ) → slice_get xs i ≡ Some x → ⊥
none_at x [] none i at = absurd cc
none_at x (y ∷ ys) none zero at = none.0 (sym (same_Some y x at))
none_at x (y ∷ ys) none (suc i) at = none_at x ys none.1 i at

once_at : {A : Type 0} (xs : List A) → AreDifferent xs → (i j : ℕ) (x : A) → slice_get xs i ≡ Some x → slice_get xs j ≡ Some x → i ≡ j
once_at [] different i j x p q = absurd cc
once_at (y ∷ xs) different zero zero x p q = refl
once_at (y ∷ xs) different zero (suc j) x p q = absurd (none_at y xs different.0 j (q ∙ ap Some (sym (same_Some y x p))))
once_at (y ∷ xs) different (suc i) zero x p q = absurd (none_at y xs different.0 i (p ∙ ap Some (sym (same_Some y x q))))
once_at (y ∷ xs) different (suc i) (suc j) x p q = ap suc (once_at xs different.1 i j x p q)

-- ---- ints

zero_fits : FitsSigned w32 (pos 0)
zero_fits = omega (arith, ints)

one_fits : FitsSigned w32 (pos 1)
one_fits = omega (arith, ints)

-- ---- inputs

-- an int, null, or one of so many objects
int_within : (n : ℕ) (z : ℤ) → IsWithin n (IntValue z)
int_within n z object e = absurd cc

null_within : (n : ℕ) → IsWithin n NullValue
null_within n object e = absurd cc

ref_within : (n o : ℕ) → o < n → IsWithin n (Ref o)
ref_within n o inside object e =
    let same : o ≡ object = cc in
    subst (λ (m : ℕ). m < n) same inside

abbrev ValuesWithin : ℕ → List Value → Type 0
ValuesWithin n values = AllFrom (λ (i : ℕ) (value : Value). IsWithin n value) 0 values

closed_by : (input : Input) → ValuesWithin (length input.heap.objects) input.args
    → AllFrom (λ (i : ℕ) (object : Object). ValuesWithin (length input.heap.objects) object.values) 0 input.heap.objects → IsClosed input
closed_by input args objects = record {
  arguments = λ i value at. each_at (λ (n : ℕ) (v : Value). IsWithin (length input.heap.objects) v) input.args args i value at;
  objects = λ i j object value at there.
      each_at (λ (n : ℕ) (v : Value). IsWithin (length input.heap.objects) v) object.values
      (each_at (λ (n : ℕ) (o : Object). ValuesWithin (length input.heap.objects) o.values) input.heap.objects objects i object at) j value there;
}

-- ---- the parts of a path, item by item

record HasParts (world : World) (picture : Picture) : Type 0 where
  slots : AllFrom (λ (i : ℕ) (slot : Origin). IsSlot world 2 picture.objects slot) 0 (slots_seen picture)
  once : AreDifferent (slots_seen picture)
  seen : AllFrom (λ (i : ℕ) (slot : Origin × Seen). IsSeenAs picture slot.1) 0 picture.seen
  variables : variables_seen picture ≡ numbers_below (length (variables_seen picture))
  locations : locations_seen picture ≡ numbers_below (length picture.locs)
  locs : AllFrom (λ (n : ℕ) (loc : PicLoc). Has picture.seen (loc.origin, seens.Loc n) × IsStanding picture loc.standing) 0 picture.locs
  origins : AllFrom (λ (n : ℕ) (object : PicObject). IsSlot world 2 (take n picture.objects) object.origin × LeadsTo picture object.origin n) 0 picture.objects
  lengths : AllFrom (λ (n : ℕ) (object : PicObject). IsLengthOf object.kind object.length) 0 picture.objects

picture_by : (world : World) (picture : Picture) → HasParts world picture → IsPicture world 2 picture
picture_by world picture parts = record {
  slots = each_at (λ (i : ℕ) (slot : Origin). IsSlot world 2 picture.objects slot) (slots_seen picture) parts.slots;
  once = once_at (slots_seen picture) parts.once;
  seen = each_at (λ (i : ℕ) (slot : Origin × Seen). IsSeenAs picture slot.1) picture.seen parts.seen;
  variables = parts.variables;
  locations = parts.locations;
  locs = each_at (λ (n : ℕ) (loc : PicLoc). Has picture.seen (loc.origin, seens.Loc n) × IsStanding picture loc.standing) picture.locs parts.locs;
  origins = each_at (λ (n : ℕ) (object : PicObject). IsSlot world 2 (take n picture.objects) object.origin × LeadsTo picture object.origin n) picture.objects parts.origins;
  lengths = each_at (λ (n : ℕ) (object : PicObject). IsLengthOf object.kind object.length) picture.objects parts.lengths;
}

no_terms : (path : Path) → path.terms ≡ [] → path.when ≡ [] → met_from path.terms (roots_of path) ≡ [] → AreTermsOf path
no_terms path none free met = record {
  each = λ number term at. absurd (nothing term number (ap (λ (ts : List Term). slice_get ts number) (sym none) ∙ at));
  met = met ∙ ap (λ (ts : List Term). numbers_below (length ts)) (sym none);
  conditions = λ i condition at. absurd (nothing condition i (ap (λ (cs : List (ℕ × Bool)). slice_get cs i) (sym free) ∙ at));
  once = λ i j term p q. absurd (nothing term i (ap (λ (ts : List Term). slice_get ts i) (sym none) ∙ p));
}
  where
    nothing : {A : Type 0} (x : A) (n : ℕ) → slice_get [] n ≡ Some x → ⊥
    nothing x n at = absurd cc

-- ---- the pictures

module _ (world : World) (two : length (slots_of_class world (codes "Node")) ≡ 2) where
  -- a slot of a node is there
  node_slot : (objects : List PicObject) (number slot : ℕ) (origin : Origin) → slice_get objects number ≡ Some (node_at origin) → slot < 2 → IsSlot world 2 objects (Field number slot)
  node_slot objects number slot origin at inside = (node_at origin, at, omega (arith, two, inside))

  led_by : (picture : Picture) (origin : Origin) (loc place number : ℕ) → slice_get picture.seen place ≡ Some (origin, seens.Loc loc)
      → slice_get picture.locs loc ≡ Some (read_from origin (standings.Obj number)) → LeadsTo picture origin number
  led_by picture origin loc place number seen is = inr (record { loc = loc; seen = (place, seen); standing = is })

  one_node_is : IsPicture world 2 one_node_picture
  one_node_is = picture_by world one_node_picture (record {
    slots = (omega arith, (omega arith, tt));
    once = (((λ e. absurd cc), tt), (tt, tt));
    seen = (omega arith, (omega arith, tt));
    variables = refl;
    locations = refl;
    locs = (((0, refl), omega arith), (((1, refl), omega arith), tt));
    origins = ((omega arith, led_by one_node_picture (Arg 0) 0 0 0 refl refl), tt);
    lengths = (tt, tt);
  })

  open_is : IsPicture world 2 open_picture
  open_is = picture_by world open_picture (record {
    slots = (omega arith, (omega arith, (node_slot open_picture.objects 1 1 (Arg 1) refl (omega arith), tt)));
    once = (((λ e. absurd cc), ((λ e. absurd cc), tt)), (((λ e. absurd cc), tt), (tt, tt)));
    seen = (omega arith, (omega arith, (omega arith, tt)));
    variables = refl;
    locations = refl;
    locs = (((0, refl), omega arith), (((1, refl), omega arith), (((2, refl), tt), tt)));
    origins = ((omega arith, led_by open_picture (Arg 0) 0 0 0 refl refl), ((omega arith, led_by open_picture (Arg 1) 1 1 1 refl refl), tt));
    lengths = (tt, (tt, tt));
  })

  beyond_is : IsPicture world 2 beyond_picture
  beyond_is = picture_by world beyond_picture (record {
    slots = (
      omega arith,
      (
        omega arith,
        (
          node_slot beyond_picture.objects 0 0 (Arg 0) refl (omega arith),
          (
            node_slot beyond_picture.objects 0 1 (Arg 0) refl (omega arith),
            (node_slot beyond_picture.objects 1 0 (Field 0 1) refl (omega arith), (node_slot beyond_picture.objects 1 1 (Field 0 1) refl (omega arith), tt)),
          ),
        ),
      ),
    );
    once = (
      ((λ e. absurd cc), ((λ e. absurd cc), ((λ e. absurd cc), ((λ e. absurd cc), ((λ e. absurd cc), tt))))),
      (
        ((λ e. absurd cc), ((λ e. absurd cc), ((λ e. absurd cc), ((λ e. absurd cc), tt)))),
        (((λ e. absurd cc), ((λ e. absurd cc), ((λ e. absurd cc), tt))), (((λ e. absurd cc), ((λ e. absurd cc), tt)), (((λ e. absurd cc), tt), (tt, tt)))),
      ),
    );
    seen = (omega arith, (tt, (tt, (omega arith, (tt, (omega arith, tt))))));
    variables = refl;
    locations = refl;
    locs = (((0, refl), omega arith), (((3, refl), omega arith), (((5, refl), tt), tt)));
    origins = (
      (omega arith, led_by beyond_picture (Arg 0) 0 0 0 refl refl),
      ((node_slot (node_at (Arg 0) ∷ []) 0 1 (Arg 0) refl (omega arith), led_by beyond_picture (Field 0 1) 1 3 1 refl refl), tt),
    );
    lengths = (tt, (tt, tt));
  })

  later_is : IsPicture world 2 later_picture
  later_is = picture_by world later_picture (record {
    slots = (node_slot later_picture.objects 0 1 (Arg 0) refl (omega arith), (omega arith, tt));
    once = (((λ e. absurd cc), tt), (tt, tt));
    seen = (tt, (omega arith, tt));
    variables = refl;
    locations = refl;
    locs = tt;
    origins = ((omega arith, inl (1, refl)), tt);
    lengths = (tt, tt);
  })

  -- ---- terms and leaves

  -- an int is returned, and the next of o0 set
  int_ended : (path : Path) (ended : Ended) (z : ℤ) (input : Input) (origin : Origin) → ended ≡ returns_int z input → FitsSigned w32 z → slice_get path.picture.objects 0 ≡ Some (node_at origin)
      → IsClosed input → IsEnded world path ended
  int_ended path ended z input origin is fits there closed = subst (IsEnded world path) (sym is) (record {
    outs = each_at (λ (i : ℕ) (out : Out). IsOut world path 0 out) (ended_outs (returns_int z input)) (fits, (tt, tt));
    thrown = tt;
    writes = record { there = each_at (λ (i : ℕ) (write : Write). (written_slot write.slot ≢ None) × IsSlot world 0 path.picture.objects write.slot) (returns_int z input).writes (((λ e. absurd cc), next), tt); rising = λ i one other p q. absurd (alone i other q) };
    made = λ i made at. absurd cc;
    input = closed;
  })
    where
      next : IsSlot world 0 path.picture.objects (Field 0 1)
      next = (node_at origin, there, omega (arith, two))

      alone : (i : ℕ) (other : Option (ℕ × ℕ)) → slice_get (Some (0, 1) ∷ []) (suc i) ≡ Some other → ⊥
      alone i other at = absurd cc

  one_node_ends : IsEnded world one_node_path one_node_ended
  one_node_ends = int_ended one_node_path one_node_ended (pos 1) one_node_ended.input (Arg 0) refl one_fits refl
      (closed_by one_node_ended.input (ref_within 1 0 (omega arith), (ref_within 1 0 (omega arith), tt)) ((int_within 1 (pos 0), (null_within 1, tt)), tt))

  open_ends : IsEnded world open_path open_ended
  open_ends = int_ended open_path open_ended (pos 0) open_ended.input (Arg 0) refl zero_fits refl
      (closed_by open_ended.input (ref_within 3 0 (omega arith), (ref_within 3 1 (omega arith), tt))
      ((int_within 3 (pos 0), (null_within 3, tt)), ((int_within 3 (pos 0), (ref_within 3 2 (omega arith), tt)), ((int_within 3 (pos 0), (null_within 3, tt)), tt))))

  later_ends : IsEnded world later_path later_ended
  later_ends = int_ended later_path later_ended (pos 1) later_ended.input (Arg 0) refl one_fits refl
      (closed_by later_ended.input (ref_within 1 0 (omega arith), (null_within 1, tt)) ((int_within 1 (pos 0), (null_within 1, tt)), tt))

  beyond_closed : IsClosed beyond_input
  beyond_closed = closed_by beyond_input (ref_within 3 0 (omega arith), (int_within 3 (pos 0), tt))
      ((int_within 3 (pos 1), (ref_within 3 1 (omega arith), tt)), ((int_within 3 (pos 1), (ref_within 3 2 (omega arith), tt)), ((int_within 3 (pos 0), (null_within 3, tt)), tt)))

-- the paths without terms
one_node_terms : AreTermsOf one_node_path
unfolding met_from met_below
one_node_terms = no_terms one_node_path refl refl refl

open_terms : AreTermsOf open_path
unfolding met_from met_below
open_terms = no_terms open_path refl refl refl

later_terms : AreTermsOf later_path
unfolding met_from met_below
later_terms = no_terms later_path refl refl refl

other_left : Var 1 ≡ Var 2 → ⊥
other_left e = absurd cc

beyond_terms : AreTermsOf beyond_path
unfolding met_from met_below
beyond_terms = record {
  each = each_at (λ (n : ℕ) (term : Term). IsTermAt beyond_picture n term) beyond_path.terms
      (record { left = omega arith; right = omega arith }, (record { left = omega arith; right = omega arith }, tt));
  met = refl;
  conditions = each_at (λ (i : ℕ) (condition : ℕ × Bool). IsComparison (slice_get beyond_path.terms condition.0)) beyond_path.when (refl, (refl, tt));
  once = once_at beyond_path.terms (((λ e. other_left (ap (λ (t : Term). t.left) e)), tt), (tt, tt));
}

pub examples_are_formed : ExamplesAreFormed
examples_are_formed world id method is args two = record {
  one_node = formed one_node_path (one_node_is world two) one_node_terms (one_node_ends world two);
  open_node = formed open_path (open_is world two) open_terms (open_ends world two);
  beyond = formed beyond_path (beyond_is world two) beyond_terms (beyond_closed world two);
  later = formed later_path (later_is world two) later_terms (later_ends world two);
}
  where
    formed : (path : Path) → IsPicture world 2 path.picture → AreTermsOf path → IsLeaf world path path.leaf → IsWellFormed world id path
    formed path picture terms leaf = record {
      method = method;
      method_is = is;
      picture = subst (λ (n : ℕ). IsPicture world n path.picture) (sym args) picture;
      terms = terms;
      leaf = leaf;
    }
