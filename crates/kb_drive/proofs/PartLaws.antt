-- The parts of an exploration behind a step: the first alternative that waits is replaced by what follows it.
use Rattle.std.proofs.Common.{◌≡◌, ℕ, zero, suc, ◌<◌, ◌≤◌, Bool, true, false, List, [], ◌∷◌, ◌++◌, length, map, drop, Some, slice_get, nat_lt, inl, inr, refl, sym, ap, ◌∙◌, arith, append_assoc, append-nil}
use Rattle.std.proofs.lemmas.Bool.{leb-false, lt-ltb}
use Rattle.std.specs.Prelude.{flat_map, if◌then◌else◌}
use Rattle.kb_class.specs.Naming.{Has}
use Rattle.kb_heap.specs.declared.bounds.Bounds.{Bounds}
use Rattle.kb_heap.specs.declared.heap.Input.{Input}
use Rattle.kb_classes.specs.World.{World}
use Rattle.kb_picture.specs.declared.choice.Choice.{Choice}
use Rattle.kb_picture.specs.declared.path.Path.{Path}
use Rattle.kb_frames.specs.StandsFor.{IsInstanceOf}
use Rattle.kb_drive.specs.declared.piece.Piece.{Piece}
use Rattle.kb_drive.specs.declared.waiting.Waiting.{Waiting}
use Rattle.kb_drive.specs.declared.follow.Next.{Next}
use Rattle.kb_drive.specs.declared.follow.Next.TheVariants.{Lists, Waits as WaitsNext, Leaves}
use Rattle.kb_picture.specs.Exactly.{NoneHas, ExactlyOneHas}
use Rattle.kb_drive.specs.Division.{IsFrontOf}
use Rattle.kb_drive.specs.Following.{alternative_next, has_more, listed_with, waiting_with, waits_on}
use Rattle.kb_drive.specs.Parts.{Alternative, Part, Listed, Waits, IsInPart, alternatives_from, alternatives_left, decisions_of_part, parts_of}
use Rattle.kb_steps.specs.Taking.{taken_at}
use Rattle.kb_drive.specs.Walks.{AreRising, BeginWith, IsBelowEach}
use Rattle.kb_drive.proofs.OrderLaws.{next_below}

-- ---- the alternatives of a waiting choice

pub drop_at : {A : Type 0} (xs : List A) (n : ℕ) (x : A) → slice_get xs n ≡ Some x → drop n xs ≡ x ∷ drop (suc n) xs
drop_at [] n x e = absurd cc
drop_at (y ∷ ys) zero x e = let same : y ≡ x = cc in ap (λ z. z ∷ ys) same
drop_at (y ∷ ys) (suc n) x e = drop_at ys n x e

drop_past : {A : Type 0} (xs : List A) (n : ℕ) → length xs ≤ n → drop n xs ≡ []
drop_past [] zero le = refl
drop_past [] (suc n) le = refl
drop_past (x ∷ xs) zero le = absurd (omega (arith, le))
drop_past (x ∷ xs) (suc n) le = drop_past xs n (omega (arith, le))

pub drop_end : {A : Type 0} (xs : List A) (n : ℕ) → nat_lt n (length xs) ≡ false → drop n xs ≡ []
drop_end xs n e = drop_past xs n (let more = leb-false (suc n) (length xs) e in omega (arith, more))

left_on : (first : Waiting) (others : List Waiting) (more : Bool) → nat_lt (suc first.next) (length first.choices) ≡ more
    → flat_map alternatives_left (if more then record first { next = suc first.next } ∷ others else others)
    ≡ alternatives_from first.piece (length first.choices) (suc first.next) (drop (suc first.next) first.choices) ++ flat_map alternatives_left others
left_on first others true e = refl
left_on first others false e = let none = drop_end first.choices (suc first.next) e in rw none refl

-- the first alternative that waits, and those that wait behind it
pub left_first : (first : Waiting) (others : List Waiting) (choice : Choice) → slice_get first.choices first.next ≡ Some choice
    → flat_map alternatives_left (first ∷ others) ≡ alternative_next first choice ∷ flat_map alternatives_left (waits_on first others)
left_first first others choice e =
    let here = drop_at first.choices first.next choice e in
    ap (λ cs. alternatives_from first.piece (length first.choices) first.next cs ++ flat_map alternatives_left others) here
    ∙ ap (λ (those : List Alternative). alternative_next first choice ∷ those) (sym (left_on first others (has_more first) refl))

-- ---- what follows, as parts

abbrev pub parts_behind : Next → List Part
parts_behind (Lists path) = Listed path ∷ []
parts_behind (WaitsNext waiting) = map Waits (alternatives_left waiting)
parts_behind Leaves = []

pub map_append : {A B : Type 0} (f : A → B) (xs ys : List A) → map f (xs ++ ys) ≡ map f xs ++ map f ys
map_append f [] ys = refl
map_append f (x ∷ xs) ys = ap (λ l. f x ∷ l) (map_append f xs ys)

pub parts_with : (listed : List Path) (waiting : List Waiting) (next : Next)
    → parts_of (listed_with listed next) (waiting_with waiting next) ≡ map Listed listed ++ (parts_behind next ++ map Waits (flat_map alternatives_left waiting))
parts_with listed waiting (Lists path) =
    ap (λ l. l ++ map Waits (flat_map alternatives_left waiting)) (map_append Listed listed (path ∷ []))
    ∙ append_assoc (map Listed listed) (Listed path ∷ []) (map Waits (flat_map alternatives_left waiting))
parts_with listed waiting (WaitsNext one) =
    ap (λ l. map Listed listed ++ l) (map_append Waits (alternatives_left one) (flat_map alternatives_left waiting))
parts_with listed waiting Leaves = refl

-- ---- inputs of the alternatives of a piece

module _ (world : World) (bounds : Bounds) (piece : Piece) (input : Input) where
  abbrev Takes : Choice → Input → Type 0
  Takes choice i = IsInstanceOf (taken_at world bounds piece.state choice).state i

  pub none_of : (offered number : ℕ) (choices : List Choice) → NoneHas Takes choices input
      → NoneHas (IsInPart world bounds) (map Waits (alternatives_from piece offered number choices)) input
  none_of offered number [] none = tt
  none_of offered number (choice ∷ others) none = (none.0, none_of offered (suc number) others none.1)

  pub one_of : (offered number : ℕ) (choices : List Choice) → ExactlyOneHas Takes choices input
      → ExactlyOneHas (IsInPart world bounds) (map Waits (alternatives_from piece offered number choices)) input
  one_of offered number [] one = absurd one
  one_of offered number (choice ∷ others) one = elim one [
    | inl here ↦ inl (here.0, none_of offered (suc number) others here.1)
    | inr later ↦ inr (later.0, one_of offered (suc number) others later.1)
  ]

  -- where no alternative has it
  pub none_taken : (choices : List Choice) → ((choice : Choice) → Has choices choice → Takes choice input → ⊥) → NoneHas Takes choices input
  none_taken [] none = tt
  none_taken (choice ∷ others) none = (none choice (0, refl), none_taken others (λ other has. none other (suc has.0, has.1)))

-- ---- decisions of the alternatives of a piece

decided_on : (decisions : List ℕ) (offered number : ℕ) (many : Bool) → IsFrontOf decisions (if many then decisions ++ number ∷ [] else decisions)
decided_on decisions offered number true = (number ∷ [], refl)
decided_on decisions offered number false = ([], sym (append-nil decisions))

-- they go on from those of the piece
pub alternatives_begin : (piece : Piece) (offered number : ℕ) (choices : List Choice)
    → BeginWith piece.decisions (map decisions_of_part (map Waits (alternatives_from piece offered number choices)))
alternatives_begin piece offered number [] = tt
alternatives_begin piece offered number (choice ∷ others) =
    (decided_on piece.decisions offered number (nat_lt 1 offered), alternatives_begin piece offered (suc number) others)

several_below : (piece : Piece) (offered n m : ℕ) (choices : List Choice) → nat_lt 1 offered ≡ true → n < m
    → IsBelowEach (piece.decisions ++ n ∷ []) (map decisions_of_part (map Waits (alternatives_from piece offered m choices)))
several_below piece offered n m [] many less = tt
several_below piece offered n m (choice ∷ others) many less =
    (rw many (next_below piece.decisions n m less), several_below piece offered n (suc m) others many (omega (arith, less)))

several_rise : (piece : Piece) (offered number : ℕ) (choices : List Choice) → nat_lt 1 offered ≡ true
    → AreRising (map decisions_of_part (map Waits (alternatives_from piece offered number choices)))
several_rise piece offered number [] many = tt
several_rise piece offered number (choice ∷ others) many =
    (rw many (several_below piece offered number (suc number) others many (omega arith)), several_rise piece offered (suc number) others many)

-- and rise
pub alternatives_rise : (piece : Piece) (choices : List Choice)
    → AreRising (map decisions_of_part (map Waits (alternatives_from piece (length choices) 0 choices)))
alternatives_rise piece [] = tt
alternatives_rise piece (choice ∷ []) = (tt, tt)
alternatives_rise piece (choice ∷ other ∷ others) = several_rise piece (length (choice ∷ other ∷ others)) 0 (choice ∷ other ∷ others)
    (lt-ltb 1 (length (choice ∷ other ∷ others)) (omega arith))

-- ---- no parts but paths

pub none_listed : (world : World) (bounds : Bounds) (listed : List Path) (input : Input) → NoneHas (IsInPart world bounds) (map Listed listed) input
    → NoneHas (λ path. IsInPart world bounds (Listed path)) listed input
none_listed world bounds [] input none = tt
none_listed world bounds (path ∷ others) input none = (none.0, none_listed world bounds others input none.1)

pub one_listed : (world : World) (bounds : Bounds) (listed : List Path) (input : Input) → ExactlyOneHas (IsInPart world bounds) (map Listed listed) input
    → ExactlyOneHas (λ path. IsInPart world bounds (Listed path)) listed input
one_listed world bounds [] input one = absurd one
one_listed world bounds (path ∷ others) input one = elim one [
  | inl here ↦ inl (here.0, none_listed world bounds others input here.1)
  | inr later ↦ inr (later.0, one_listed world bounds others input later.1)
]
