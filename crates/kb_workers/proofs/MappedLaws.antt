-- What holds of answers of pieces.
use Rattle.std.proofs.Common.{◌≡◌, ℕ, zero, suc, ◌<◌, List, [], ◌∷◌, ◌++◌, length, map, Result, Ok, Err, IfOk, refl, sym, ap, ◌∙◌, subst, arith}
use Rattle.std.specs.Prelude.{slice_index_or}
use Rattle.std.specs.List.{All}
use Rattle.std.proofs.lemmas.List.{append-nil, append_assoc}
use Rattle.std.proofs.lemmas.List.Elements.{All-head, All-tail}
use Rattle.kb_workers.specs.Mapped.{AreMapped}

module _ {T R : Type 0} (work : T → R → Type 0) where
  -- one more answer, for one more piece, behind all
  pub mapped_more : (pieces : List T) (answers : List R) (piece : T) (answer : R) → AreMapped work pieces answers → work piece answer
      → AreMapped work (pieces ++ piece ∷ []) (answers ++ answer ∷ [])
  mapped_more [] [] piece answer a b = (b, tt)
  mapped_more [] (other ∷ others) piece answer a b = absurd a
  mapped_more (first ∷ pieces) [] piece answer a b = absurd a
  mapped_more (first ∷ pieces) (other ∷ others) piece answer a b = (a.0, mapped_more pieces others piece answer a.1 b)

  -- Whatever is answered for the rest of the pieces is, behind what is there, answered for all: so it is with one answer more,
  -- and where no piece is left.
  pub answered_more : (pieces rest all : List T) (piece : T) (answer : R) (before : List R) → pieces ≡ piece ∷ rest → work piece answer
      → ((more : List R) → AreMapped work pieces more → AreMapped work all (before ++ more)) → (more : List R) → AreMapped work rest more → AreMapped work all ((before ++ answer ∷ []) ++ more)
  answered_more pieces rest all piece answer before same says goes_on more m =
      subst (AreMapped work all) (sym (append_assoc before (answer ∷ []) more))
      (goes_on (answer ∷ more) (subst (λ (xs : List T). AreMapped work xs (answer ∷ more)) (sym same) (says, m)))

  pub answered_all : (pieces all : List T) (before : List R) → pieces ≡ [] → ((more : List R) → AreMapped work pieces more → AreMapped work all (before ++ more)) → AreMapped work all before
  answered_all pieces all before none goes_on =
      subst (AreMapped work all) (append-nil before) (goes_on [] (subst (λ (xs : List T). AreMapped work xs []) (sym none) tt))

  -- each answer is one of its piece, by their places
  pub mapped_by_place : (pieces : List T) (answers : List R) → length answers ≡ length pieces
      → ((i : ℕ) (d : T) (e : R) → i < length pieces → work (slice_index_or pieces i d) (slice_index_or answers i e)) → AreMapped work pieces answers
  mapped_by_place [] [] same each = tt
  mapped_by_place [] (answer ∷ answers) same each = absurd (omega (arith, same))
  mapped_by_place (piece ∷ pieces) [] same each = absurd (omega (arith, same))
  mapped_by_place (piece ∷ pieces) (answer ∷ answers) same each =
      (each 0 piece answer (omega arith), mapped_by_place pieces answers (omega (arith, same)) (λ i d e lt. each (suc i) d e (omega (arith, lt))))

module _ {T R : Type 0} (work : T → R) where
  pub mapped_values : (pieces : List T) (answers : List R) → AreMapped (λ (piece : T) (answer : R). answer ≡ work piece) pieces answers → answers ≡ map work pieces
  mapped_values [] [] m = refl
  mapped_values [] (answer ∷ answers) m = absurd m
  mapped_values (piece ∷ pieces) [] m = absurd m
  mapped_values (piece ∷ pieces) (answer ∷ answers) m = ap (λ (x : R). x ∷ answers) m.0 ∙ ap (λ (xs : List R). work piece ∷ xs) (mapped_values pieces answers m.1)

  are_values : (pieces : List T) → AreMapped (λ (piece : T) (answer : R). answer ≡ work piece) pieces (map work pieces)
  are_values [] = tt
  are_values (piece ∷ pieces) = (refl, are_values pieces)

  pub values_mapped : (pieces : List T) (answers : List R) → answers ≡ map work pieces → AreMapped (λ (piece : T) (answer : R). answer ≡ work piece) pieces answers
  values_mapped pieces answers same = subst (AreMapped (λ (piece : T) (answer : R). answer ≡ work piece) pieces) (sym same) (are_values pieces)

pub if_ok : {A E : Type 0} (P Q : A → Type 0) (result : Result A E) → ((a : A) → P a → Q a) → IfOk result P → IfOk result Q
if_ok P Q (Ok a) more h = more a h
if_ok P Q (Err e) more h = tt

-- of what workers answered, where each answered a list
pub mapped_lists : {T R E : Type 0} (work : T → R → Type 0) (pieces : List T) (done : List (Result R E)) (answers : List R) → done ≡ map Ok answers
    → AreMapped (λ (piece : T) (result : Result R E). IfOk result (work piece)) pieces done → AreMapped work pieces answers
mapped_lists {T} {R} {E} work pieces done answers same mapped = go pieces answers (subst (AreMapped (λ (piece : T) (result : Result R E). IfOk result (work piece)) pieces) same mapped)
  where
    go : (pieces : List T) (answers : List R) → AreMapped (λ (piece : T) (result : Result R E). IfOk result (work piece)) pieces (map (λ (answer : R). Ok answer) answers) → AreMapped work pieces answers
    go [] [] m = tt
    go [] (answer ∷ answers) m = absurd m
    go (piece ∷ pieces) [] m = absurd m
    go (piece ∷ pieces) (answer ∷ answers) m = (m.0, go pieces answers m.1)
