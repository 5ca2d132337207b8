-- Pools that have what lines need.
use Rattle.std.specs.Prelude.{◌≡◌, ◌<◌, ◌≤◌, ℕ, Bool, true, List, [], ◌∷◌, length, slice_get, Some}
use Rattle.std.specs.List.{list_all, list_any, flat_map}
use Rattle.kb_asm_text.specs.declared.line.Line.{Line}
use Rattle.kb_asm_pool.specs.Says.{Says, text, class, string, name_type, member, same, all_added}
use Rattle.kb_asm_pool.specs.Needs.{line_needs}
use Rattle.kb_asm_check.specs.Limits.{is_short, ldc_says}
use Rattle.kb_asm.specs.Pool.{Has}

-- the entries that one names
abbrev pub named : Says → List Says
named (class name) = text name ∷ []
named (string of) = text of ∷ []
named (name_type name kind) = text name ∷ text kind ∷ []
named (member of owner name kind) = class owner ∷ name_type name kind ∷ []
named _ = []

-- whether these are all there
abbrev pub have : List Says → List Says → Bool
have says needs = list_all (λ one. list_any (same one) says) needs

-- whether all is there that the lines need
abbrev pub have_all : List Says → List Line → Bool
have_all says of = list_all (λ line. have says (line_needs line)) of

-- The entries are few enough to have numbers, with texts that are short enough, and those that they name are among them.
pub record IsWhole (says : List Says) : Type 0 where
  pub closed : (one : Says) → Has says one → have says (named one) ≡ true
  pub few : length says ≤ 65534
  pub short : list_all is_short says ≡ true

-- these stand nowhere but among the first 255 entries, whose numbers have one byte
abbrev pub AreFirst : List Says → List Says → Type 0
AreFirst says ones = (one : Says) (place : ℕ) → Has ones one → slice_get says place ≡ Some one → place < 255

-- what the entries of the pool of lines say: the constants of ldc lines, and then what else the lines need
abbrev pub says_of : List Line → List Says
says_of of = all_added (all_added [] (flat_map ldc_says of)) (flat_map line_needs of)
