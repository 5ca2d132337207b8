-- How many words the arguments of a method take (The Java Virtual Machine Specification, Java SE 8 Edition, sections 2.6.1 and
-- 6.5, invokeinterface).
use Rattle.std.specs.Prelude.{ℕ, ◌+◌, nat_le, List, [], ◌∷◌, Option, None, Some, if◌then◌else◌}
use Rattle.kb_names.specs.declared.types.JType.{JType}
use Rattle.kb_names.specs.declared.types.JType.TheVariants as types
use Rattle.kb_names.specs.declared.types.MethodType.{MethodType}

abbrev pub words_of : JType → ℕ
words_of types.Long = 2
words_of types.Double = 2
words_of _ = 1

-- so many words and those of the types, if no more than 255
abbrev pub with_words : ℕ → List JType → Option ℕ
with_words words [] = Some words
with_words words (type ∷ types) = if nat_le (words + words_of type) 255 then with_words (words + words_of type) types else None

-- those of the arguments, the receiver's among them
abbrev pub argument_words : MethodType → Option ℕ
argument_words kind = with_words 1 kind.params
