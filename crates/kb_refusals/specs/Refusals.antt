-- The refusals: the status and the line of each. That memory runs out is no refusal, though the crates below tell it among theirs.
use Rattle.std.specs.Prelude.{ℕ, Bool, true, false, List, [], ◌∷◌, ◌++◌, codes}
use Rattle.std.specs.Fmt.{decimal}
use Rattle.kb_classfile.specs.declared.refusal.ClassRefusal.{ClassRefusal}
use Rattle.kb_classfile.specs.declared.refusal.ClassRefusal.TheVariants as classes
use Rattle.kb_code.specs.declared.refusal.CodeRefusal.{CodeRefusal}
use Rattle.kb_code.specs.declared.refusal.CodeRefusal.TheVariants as codes_of
use Rattle.kb_names.specs.Targets.{target_text}
use Rattle.kb_classes.specs.declared.refusal.LinkRefusal.{LinkRefusal}
use Rattle.kb_classes.specs.declared.refusal.LinkRefusal.TheVariants as links
use Rattle.kb_words.specs.declared.orders.WordFault.{WordFault}
use Rattle.kb_words.specs.declared.orders.WordFault.TheVariants as faults
use Rattle.kb_refusals.specs.declared.refusal.Refusal.{Refusal}
use Rattle.kb_refusals.specs.declared.refusal.Refusal.TheVariants.{Words, Unbuilt, Class, Code, Link, Text}
use Rattle.kb_refusals.specs.declared.refusal.TextRefusal.{TextRefusal}
use Rattle.kb_refusals.specs.declared.refusal.TextRefusal.TheVariants as texts
use Rattle.kb_refusals.specs.declared.status.Status.{Status}
use Rattle.kb_refusals.specs.declared.status.Status.TheVariants as statuses
use Rattle.kb_refusals.specs.Lines.{file_line, offset_line, entry_line, code_line, opcode_line, target_line, handler_line, pool_line, class_line, method_line, instruction_front, word_line, what_text}
use Rattle.kb_refusals.specs.Texts.{line}

-- ---- what is a refusal

-- whether something was refused, and it is not that memory ran out
abbrev pub is_refusal : Refusal → Bool
is_refusal (Words faults.NoMemory) = false
is_refusal (Class file classes.NoMemory) = false
is_refusal (Code file method codes_of.NoMemory) = false
is_refusal (Link links.NoMemory) = false
is_refusal _ = true

-- ---- statuses

abbrev pub link_status : LinkRefusal → Status
link_status (links.TwoMembers file entry) = statuses.Link
link_status (links.BadName file entry) = statuses.Link
link_status (links.BadDescriptor file entry) = statuses.Link
link_status (links.Twice name) = statuses.Link
link_status (links.Missing name) = statuses.Link
link_status (links.Circle name) = statuses.Link
link_status (links.BadSuper name) = statuses.Link
link_status (links.SplitPackage name method) = statuses.Link
link_status (links.NoMethod target) = statuses.Link
link_status (links.NoField target at) = statuses.Link
link_status (links.Outside target at what) = statuses.Outside
link_status (links.Initialiser name) = statuses.Outside
link_status links.TooMany = statuses.Link
link_status links.NoMemory = statuses.Link

abbrev pub refusal_status : Refusal → Status
refusal_status (Words fault) = statuses.Words
refusal_status Unbuilt = statuses.Outside
refusal_status (Class file found) = statuses.Class
refusal_status (Code file method found) = statuses.Class
refusal_status (Link found) = link_status found
refusal_status (Text found) = statuses.Text

-- ---- lines, by rising number; that memory runs out has none

unfoldable pub class_refusal_line : ℕ → ClassRefusal → List ℕ
class_refusal_line file classes.Magic = file_line 10 file
class_refusal_line file (classes.Version major) = line (codes "refused 11 file " ∷ decimal file ∷ codes " version " ∷ decimal major ∷ [])
class_refusal_line file (classes.Short at) = offset_line 12 file at
class_refusal_line file (classes.Tag entry tag) = line (codes "refused 13 file " ∷ decimal file ∷ codes " entry " ∷ decimal entry ∷ codes " tag " ∷ decimal tag ∷ [])
class_refusal_line file (classes.PoolIndex at entry) = entry_line 14 file at entry
class_refusal_line file (classes.PoolKind at entry) = entry_line 15 file at entry
class_refusal_line file (classes.CodeLength at) = offset_line 16 file at
class_refusal_line file (classes.Extra at) = offset_line 17 file at
class_refusal_line file (classes.TwoCodes method) = line (codes "refused 18 file " ∷ decimal file ∷ codes " method " ∷ decimal method ∷ [])
class_refusal_line file classes.Long = file_line 19 file
class_refusal_line file classes.NoMemory = []

unfoldable pub code_refusal_line : ℕ → ℕ → CodeRefusal → List ℕ
code_refusal_line file method (codes_of.Opcode at op) = opcode_line file method at op
code_refusal_line file method (codes_of.Cut at) = code_line 21 file method at
code_refusal_line file method (codes_of.Target at to) = target_line file method at to
code_refusal_line file method (codes_of.Switch at) = code_line 23 file method at
code_refusal_line file method (codes_of.Range handler) = handler_line file method handler
code_refusal_line file method codes_of.NoMemory = []

unfoldable pub link_refusal_line : LinkRefusal → List ℕ
link_refusal_line (links.TwoMembers file entry) = pool_line 37 file entry
link_refusal_line (links.BadName file entry) = pool_line 38 file entry
link_refusal_line (links.BadDescriptor file entry) = pool_line 39 file entry
link_refusal_line (links.Twice name) = class_line 40 name
link_refusal_line (links.Missing name) = class_line 41 name
link_refusal_line (links.Circle name) = class_line 42 name
link_refusal_line (links.BadSuper name) = class_line 43 name
link_refusal_line (links.SplitPackage name method) = method_line 44 name method
link_refusal_line (links.NoMethod target) = line (codes "refused 45 " ∷ target_text target ∷ [])
link_refusal_line (links.NoField target at) = instruction_front 46 target at ++ codes "\n"
link_refusal_line (links.Outside target at what) = instruction_front 47 target at ++ (what_text what ++ codes "\n")
link_refusal_line (links.Initialiser name) = class_line 48 name
link_refusal_line links.TooMany = line (codes "refused 49" ∷ [])
link_refusal_line links.NoMemory = []

unfoldable pub unbuilt_line : List ℕ
unbuilt_line = line (codes "refused 50" ∷ [])

unfoldable pub text_refusal_line : TextRefusal → List ℕ
text_refusal_line (texts.AssemblyLine number) = line (codes "refused 30 line " ∷ decimal number ∷ [])
text_refusal_line (texts.TestLine number) = line (codes "refused 60 line " ∷ decimal number ∷ [])
text_refusal_line (texts.NoTestMethod number) = line (codes "refused 61 test " ∷ decimal number ∷ [])
text_refusal_line (texts.IllTypedTest number) = line (codes "refused 62 test " ∷ decimal number ∷ [])
text_refusal_line texts.Long = line (codes "refused 63" ∷ [])

unfoldable pub word_refusal_line : WordFault → List ℕ
word_refusal_line faults.NoTests = line (codes "refused 89" ∷ [])
word_refusal_line faults.NoCommand = line (codes "refused 90" ∷ [])
word_refusal_line (faults.Unknown word) = word_line 91 word
word_refusal_line (faults.NoValue word) = word_line 92 word
word_refusal_line (faults.BadNumber word) = word_line 93 word
word_refusal_line (faults.OutOfRange word) = word_line 94 word
word_refusal_line faults.NoMethod = line (codes "refused 95" ∷ [])
word_refusal_line faults.NoFiles = line (codes "refused 96" ∷ [])
word_refusal_line (faults.Repeated word) = word_line 97 word
word_refusal_line (faults.BadTarget word) = word_line 98 word
word_refusal_line faults.TooMuch = line (codes "refused 99" ∷ [])
word_refusal_line faults.NoMemory = []

-- the line of a refusal: its number, and its place
abbrev pub refusal_line : Refusal → List ℕ
refusal_line (Words fault) = word_refusal_line fault
refusal_line Unbuilt = unbuilt_line
refusal_line (Class file found) = class_refusal_line file found
refusal_line (Code file method found) = code_refusal_line file method found
refusal_line (Link found) = link_refusal_line found
refusal_line (Text found) = text_refusal_line found
