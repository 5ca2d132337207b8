-- What the words of the command line ask for. A word is a list of bytes.
use Rattle.std.specs.Prelude.{◌≡◌, ℕ, ◌<◌, ◌^◌, List, [], ◌∷◌, codes, if◌then◌else◌}
use Rattle.std.specs.Str.Parse.{IsNumeral, without_leading_plus, digits_value}
use Rattle.kb_dimacs_text.specs.declared.request.Request.{Request}

-- a number from 1 to 2^32 - 1
abbrev pub SpellsBudget : ℕ → List ℕ → Type 0
SpellsBudget budget word = (0 < budget) × (budget < 2 ^ 32) × IsNumeral 10 (without_leading_plus word) × (digits_value 10 (without_leading_plus word) ≡ budget)

-- the words `BUDGET`, or `BUDGET check`
pub record AsksFor (words : List (List ℕ)) (request : Request) : Type 0 where
  pub word : List ℕ
  pub words_are : words ≡ word ∷ (if request.check then codes "check" ∷ [] else [])
  pub budget_is : SpellsBudget request.budget word
