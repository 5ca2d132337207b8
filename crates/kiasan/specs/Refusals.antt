-- What refusals come to, and the parts of an answer.
use Rattle.std.specs.Prelude.{ℕ, cond, Result, Ok, Err}
use Rattle.kb_classfile.specs.declared.refusal.ClassRefusal.{ClassRefusal}
use Rattle.kb_code.specs.declared.refusal.CodeRefusal.{CodeRefusal}
use Rattle.kb_classes.specs.declared.refusal.LinkRefusal.{LinkRefusal}
use Rattle.kb_refusals.specs.declared.refusal.Refusal.{Refusal}
use Rattle.kb_refusals.specs.declared.refusal.Refusal.TheVariants.{Words, Class, Code, Link, Text}
use Rattle.kb_refusals.specs.declared.refusal.TextRefusal.TheVariants as texts
use Rattle.kb_refusals.specs.Refusals.{is_refusal}
use Rattle.kb_test.specs.declared.reading.TestRefusal.{TestRefusal}
use Rattle.kb_test.specs.declared.reading.TestRefusal.TheVariants as tests
use Rattle.kb_words.specs.declared.orders.WordFault.{WordFault}
use Rattle.kiasan.specs.declared.refusals.Stop.{Stop}
use Rattle.kiasan.specs.declared.refusals.Stop.TheVariants.{Refused, ReadFault, NoMemory}

-- what is told as a refusal is one, unless it is that memory ran out
abbrev pub stop_of : Refusal → Stop
stop_of refusal = cond (is_refusal refusal) (Refused refusal) NoMemory

-- that of words that have a fault, of the class file of a number, of the code of a method in it, and of linking and reach
abbrev pub word_refusal : WordFault → Stop
word_refusal fault = stop_of (Words fault)

abbrev pub class_refusal : ℕ → ClassRefusal → Stop
class_refusal file found = stop_of (Class file found)

abbrev pub code_refusal : ℕ → ℕ → CodeRefusal → Stop
code_refusal file method found = stop_of (Code file method found)

abbrev pub link_refusal : LinkRefusal → Stop
link_refusal found = stop_of (Link found)

-- that of reading tests
abbrev pub tests_refusal : TestRefusal → Stop
tests_refusal (tests.TestLine number) = Refused (Text (texts.TestLine number))
tests_refusal tests.NoMemory = NoMemory

-- What a part of the answer comes to: something that passes, or a refusal, unless memory ran out. `Fault` is what is known
-- where a file could not be read.
abbrev pub Gives : {A : Type 0} → Type 0 → (Refusal → Type 0) → (A → Type 0) → Result A Stop → Type 0
Gives Fault Refuses Passes (Ok a) = Passes a
Gives Fault Refuses Passes (Err (Refused refusal)) = Refuses refusal
Gives Fault Refuses Passes (Err ReadFault) = Fault
Gives Fault Refuses Passes (Err NoMemory) = Unit {0}
