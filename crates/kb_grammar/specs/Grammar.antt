-- A grammar, stated apart from any reader: which bytes spell a value. A piece says which bytes may stand at an offset, so
-- that padding and targets can be told; most pieces are the same at each offset. A grammar of values of A has a piece for
-- each value.
use Rattle.std.specs.Prelude.{◌≡◌, ◌≢◌, ℕ, zero, suc, ◌+◌, ◌≤◌, List, [], ◌∷◌, ◌++◌, length, Result, Ok, Err}
use Rattle.kb_grammar.specs.Reading.{Place, Reader, big_endian}

abbrev pub Piece : Type 1
Piece = ℕ → List ℕ → Type 0

-- the bytes are a front and a back, each of its own kind
pub record IsJoined (Front Back : Piece) (at : ℕ) (bytes : List ℕ) : Type 0 where
  pub front : List ℕ
  pub back : List ℕ
  pub parts : bytes ≡ front ++ back
  pub begins : Front at front
  pub ends : Back (at + length front) back

infixr 20 ◌⊳◌
-- one piece, and then the next
abbrev pub ◌⊳◌ : Piece → Piece → Piece
(Front ⊳ Back) at bytes = IsJoined Front Back at bytes

-- no bytes
abbrev pub IsNothing : Piece
IsNothing at bytes = bytes ≡ []

-- no bytes may stand here
abbrev pub Never : Piece
Never at bytes = ⊥

-- the bytes are these
abbrev pub IsRun : List ℕ → Piece
IsRun text at bytes = bytes ≡ text

-- the bytes are these, and n of them
abbrev pub IsRunOf : ℕ → List ℕ → Piece
IsRunOf n text at bytes = (length text ≡ n) × (bytes ≡ text)

-- the number in that many bytes, the highest byte first
abbrev pub IsNumber : ℕ → ℕ → Piece
IsNumber width n at bytes = (length bytes ≡ width) × (big_endian bytes ≡ n)

-- what spells some value
abbrev pub IsAny : {A : Type 0} → (A → Piece) → Piece
IsAny {A = A} S at bytes = (x : A) × S x at bytes

-- the values, one after the other
abbrev pub Each : {A : Type 0} → (A → Piece) → List A → Piece
Each S [] = IsNothing
Each S (x ∷ xs) = S x ⊳ Each S xs

-- n steps from one value to another, each with a piece of its own
abbrev pub Steps : {A : Type 0} → (A → A → Piece) → ℕ → A → A → Piece
Steps S zero x y at bytes = (y ≡ x) × IsNothing at bytes
Steps {A = A} S (suc n) x y at bytes = (next : A) × (S x next ⊳ Steps S n next y) at bytes

-- what lies between two places
pub record Between (S : Piece) (from to : Place) : Type 0 where
  pub text : List ℕ
  pub spelled : S from.at text
  pub parts : from.rest ≡ text ++ to.rest
  pub after : to.at ≡ from.at + length text

-- the fault of an item that is not whole, at an offset between that of the text and the end of it
pub record IsCut {E A : Type 0} (short : ℕ → E) (at : ℕ) (text : List ℕ) (read : Result A E) : Type 0 where
  pub item : ℕ
  pub behind : at ≤ item
  pub within : item ≤ at + length text
  pub is : read ≡ Err (short item)

-- The reader and the grammar are of the same texts: what is read spells the value, what spells a value is read as that value,
-- whatever bytes follow it, and of a proper front of it an item is not whole.
pub record Exact {E A : Type 0} (short : ℕ → E) (r : Reader E A) (S : A → Piece) : Type 0 where
  pub found : (p q : Place) (x : A) → r p ≡ Ok (x, q) → Between (S x) p q
  pub only : (x : A) (text rest : List ℕ) (at : ℕ) → S x at text
      → r (record { rest = text ++ rest; at = at }) ≡ Ok (x, record { rest = rest; at = at + length text })
  pub cut : (x : A) (front back : List ℕ) (at : ℕ) → S x at (front ++ back) → back ≢ []
      → IsCut short at front (r (record { rest = front; at = at }))

-- what holds of each fault that the reader tells
abbrev pub Faults : {E A : Type 0} → (E → Type 0) → Reader E A → Type 0
Faults P r = (p : Place) (e : _) → r p ≡ Err e → P e

-- the number of bytes of a content, and the content
pub record IsSized (width : ℕ) (Content : Piece) (at : ℕ) (bytes : List ℕ) : Type 0 where
  pub content : List ℕ
  pub spelled : Content (at + width) content
  pub sized : (IsNumber width (length content) ⊳ IsRun content) at bytes
