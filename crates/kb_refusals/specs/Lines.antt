-- The lines of refusals by their parts: a number, and a place.
use Rattle.std.specs.Prelude.{ℕ, ◌/◌, ◌%◌, ℤ, false, List, [], ◌∷◌, ◌++◌, codes}
use Rattle.std.specs.Fmt.{decimal, signed_decimal, digit_glyph}
use Rattle.kb_names.specs.Escapes.{name_text}
use Rattle.kb_names.specs.Targets.{target_text}
use Rattle.kb_names.specs.declared.types.Target.{Target}
use Rattle.kb_classes.specs.declared.refusal.What.{What}
use Rattle.kb_classes.specs.declared.refusal.What.TheVariants as whats
use Rattle.kb_refusals.specs.Texts.{line}

-- the line of a refusal in the class file of a number, of one at an offset in it, and of one at an entry that is named there
unfoldable pub file_line : ℕ → ℕ → List ℕ
file_line number file = line (codes "refused " ∷ decimal number ∷ codes " file " ∷ decimal file ∷ [])

unfoldable pub offset_line : ℕ → ℕ → ℕ → List ℕ
offset_line number file at = line (codes "refused " ∷ decimal number ∷ codes " file " ∷ decimal file ∷ codes " at " ∷ decimal at ∷ [])

unfoldable pub entry_line : ℕ → ℕ → ℕ → ℕ → List ℕ
entry_line number file at entry =
    line (codes "refused " ∷ decimal number ∷ codes " file " ∷ decimal file ∷ codes " at " ∷ decimal at ∷ codes " entry " ∷ decimal entry ∷ [])

-- an opcode as two hexadecimal digits in lower case
abbrev pub hexadecimal : ℕ → List ℕ
hexadecimal op = digit_glyph false (op / 16) ∷ digit_glyph false (op % 16) ∷ []

-- the line of a refusal at an instruction of a method, of an opcode there, of a target from there, and of a handler
unfoldable pub code_line : ℕ → ℕ → ℕ → ℕ → List ℕ
code_line number file method at =
    line (codes "refused " ∷ decimal number ∷ codes " file " ∷ decimal file ∷ codes " method " ∷ decimal method ∷ codes " at " ∷ decimal at ∷ [])

unfoldable pub opcode_front : ℕ → ℕ → ℕ → List ℕ
opcode_front file method at = codes "refused 20 file " ++ (decimal file ++ (codes " method " ++ (decimal method ++ (codes " at " ++ (decimal at ++ codes " opcode ")))))

unfoldable pub opcode_line : ℕ → ℕ → ℕ → ℕ → List ℕ
opcode_line file method at op = opcode_front file method at ++ (hexadecimal op ++ codes "\n")

unfoldable pub target_line : ℕ → ℕ → ℕ → ℤ → List ℕ
target_line file method at to =
    line (codes "refused 22 file " ∷ decimal file ∷ codes " method " ∷ decimal method ∷ codes " at " ∷ decimal at ∷ codes " to " ∷ signed_decimal to ∷ [])

unfoldable pub handler_line : ℕ → ℕ → ℕ → List ℕ
handler_line file method handler =
    line (codes "refused 24 file " ∷ decimal file ∷ codes " method " ∷ decimal method ∷ codes " handler " ∷ decimal handler ∷ [])

-- the line of a refusal at an entry of the constant pool of a class file, of one of a class, and of one of a class and a method
unfoldable pub pool_line : ℕ → ℕ → ℕ → List ℕ
pool_line number file entry = line (codes "refused " ∷ decimal number ∷ codes " file " ∷ decimal file ∷ codes " entry " ∷ decimal entry ∷ [])

unfoldable pub class_front : ℕ → List ℕ → List ℕ
class_front number name = codes "refused " ++ (decimal number ++ (codes " class " ++ name_text name))

unfoldable pub class_line : ℕ → List ℕ → List ℕ
class_line number name = class_front number name ++ codes "\n"

unfoldable pub method_line : ℕ → List ℕ → List ℕ → List ℕ
method_line number name method = class_front number name ++ (codes " method " ++ (name_text method ++ codes "\n"))

-- the line of a refusal at an instruction of a method that a target names, up to its end
unfoldable pub instruction_front : ℕ → Target → ℕ → List ℕ
instruction_front number target at = codes "refused " ++ (decimal number ++ (codes " " ++ (target_text target ++ (codes " at " ++ decimal at))))

-- the line of a refusal at a word of the command line
unfoldable pub word_line : ℕ → ℕ → List ℕ
word_line number word = line (codes "refused " ∷ decimal number ∷ codes " word " ∷ decimal word ∷ [])

-- what is told of an instruction that cannot be carried out
abbrev pub what_text : What → List ℕ
what_text (whats.Opcode op) = codes " opcode " ++ hexadecimal op
what_text whats.Constant = codes " constant"
what_text whats.Operand = codes " operand"
what_text whats.Kind = codes " kind"
what_text whats.Method = codes " method"
