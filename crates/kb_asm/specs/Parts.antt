-- The parts of a class, told by its lines.
use Rattle.std.specs.Prelude.{List, [], ◌∷◌, Option}
use Rattle.std.specs.List.{cons_option}
use Rattle.kb_asm_text.specs.declared.line.Line.{Line}

-- what the lines have of a kind, each told by its line and the lines behind it
abbrev pub parts : {A : Type 0} → (Line → List Line → Option A) → List Line → List A
parts part [] = []
parts part (line ∷ others) = cons_option (part line others) (parts part others)
