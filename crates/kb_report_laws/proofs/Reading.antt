-- The name of a mode is read back: it is that of one mode alone.
use Rattle.std.proofs.Common.{◌≡◌, if◌then◌else◌, Option, Some, List, ℕ, refl}
use Rattle.std.specs.Prelude.{codes}
use Rattle.std.specs.Str.{bytes_eq}
use Rattle.kb_heap_words.proofs.WordLaws.{same_read}
use Rattle.kb_picture.specs.declared.choice.Init.{Init}
use Rattle.kb_picture.specs.declared.choice.Init.TheVariants.{Lazy, Lazier}
use Rattle.kb_report_text.specs.Report.{init_name}

abbrev init_of : List ℕ → Option Init
init_of text = if bytes_eq text (codes "lazy") then Some Lazy else Some Lazier

init_read : (init : Init) → init_of (init_name init) ≡ Some init
unfolding init_name
init_read Lazy = refl
init_read Lazier = refl

pub same_init : (one other : Init) → init_name one ≡ init_name other → one ≡ other
same_init one other e = same_read init_of one other (init_name one) (init_name other) (init_read one) (init_read other) e
