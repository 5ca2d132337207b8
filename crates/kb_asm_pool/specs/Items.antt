-- Entries whose texts are told by their places in a list.
use Rattle.std.specs.Prelude.{◌≡◌, ℕ, List, [], Some, slice_get, unwrap_or}
use Rattle.kb_asm_pool.specs.declared.items.Item.{Item}
use Rattle.kb_asm_pool.specs.declared.items.Item.TheVariants as items
use Rattle.kb_asm_pool.specs.Says.{Says, text, int, class, string, name_type, member}

-- the entries, and the texts by their places
pub record Entries : Type 0 where
  pub texts : List (List ℕ)
  pub says : List Says

abbrev pub text_at : List (List ℕ) → ℕ → List ℕ
text_at texts place = unwrap_or (slice_get texts place) []

-- what the item says
abbrev pub said : List (List ℕ) → Item → Says
said texts (items.Text place) = text (text_at texts place)
said texts (items.Int number) = int number
said texts (items.Class name) = class (text_at texts name)
said texts (items.Str of) = string (text_at texts of)
said texts (items.NameType name kind) = name_type (text_at texts name) (text_at texts kind)
said texts (items.Member of owner name kind) = member of (text_at texts owner) (text_at texts name) (text_at texts kind)

abbrev pub IsPlace : List (List ℕ) → ℕ → Type 0
IsPlace texts place = (bytes : List ℕ) × (slice_get texts place ≡ Some bytes)

-- each place that the item tells has a text
abbrev pub IsWithin : List (List ℕ) → Item → Type 0
IsWithin texts (items.Text place) = IsPlace texts place
IsWithin texts (items.Int number) = Unit {0}
IsWithin texts (items.Class name) = IsPlace texts name
IsWithin texts (items.Str of) = IsPlace texts of
IsWithin texts (items.NameType name kind) = IsPlace texts name × IsPlace texts kind
IsWithin texts (items.Member of owner name kind) = IsPlace texts owner × IsPlace texts name × IsPlace texts kind
