-- The words of the command line, and how a program ends that has none to go by.
use Rattle.std.specs.Prelude.{◌≡◌, ℕ, List, drop, Result, Ok, Err}
use Rattle.std.specs.Vec.Iter.{into_iter_items}
use Rattle.std.specs.IoError.{error_kind}
use Rattle.std.specs.declared.alloc.Global.{Global}
use Rattle.std.specs.declared.io.Error.{Error}
use Rattle.std.specs.declared.io.ErrorKind.{ErrorKind}
use Rattle.std.specs.declared.vec.IntoIter.{IntoIter}
use Rattle.std.specs.declared.vec.Vec.{Vec}
use Rattle.kb_outside.specs.declared.words.WordsStop.{WordsStop}
use Rattle.kb_outside.specs.declared.words.WordsStop.TheVariants.{NotUtf8, NoMemory}

-- of what the system says that the words are, these are the words: all but the first, which is the program's name
abbrev pub AreWordsOf : {W : Type 0} → Result (IntoIter W Global) Error → Vec W Global → Type 0
AreWordsOf (Ok all) words = words.items ≡ drop 1 (into_iter_items all)
AreWordsOf (Err error) words = ⊥

-- the system answers with an error of that kind
abbrev pub IsErrorOfKind : {W : Type 0} → Result W Error → ErrorKind → Type 0
IsErrorOfKind (Ok all) kind = ⊥
IsErrorOfKind (Err error) kind = error_kind error ≡ kind

-- the exit code of a program that has no words: 71 is no status
abbrev pub exit_code : WordsStop → ℕ
exit_code NotUtf8 = 71
exit_code NoMemory = 8
