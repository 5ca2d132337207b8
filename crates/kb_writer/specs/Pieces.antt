-- Bytes that spell a value at whatever offset they stand.
use Rattle.std.specs.Prelude.{ℕ, List}
use Rattle.std.specs.List.{AllByRecursion}
use Rattle.kb_grammar.specs.Grammar.{Piece}

-- the bytes are such a piece at each offset
abbrev pub Anywhere : Piece → List ℕ → Type 0
Anywhere S bytes = (at : ℕ) → S at bytes

-- the bytes of each value spell it
abbrev pub EachSpelled : {A : Type 0} → (A → Piece) → (A → List ℕ) → List A → Type 0
EachSpelled S f xs = AllByRecursion (λ x. Anywhere (S x) (f x)) xs
