-- What is wrong with the code of a class file's methods: the first fault, method by method.
use Rattle.std.specs.Prelude.{◌≡◌, ℕ, ◌+◌, List, [], ◌∷◌, Option, Some, None, option_and_then}
use Rattle.kb_class.specs.Given.{handlers_of}
use Rattle.kb_classfile.specs.declared.file.Method.{Method as ClassMethod}
use Rattle.kb_code.specs.declared.refusal.CodeRefusal.{CodeRefusal}
use Rattle.kb_code.specs.Answers.{first_fault}
use Rattle.kb_refusals.specs.declared.refusal.Refusal.{Refusal}
use Rattle.kiasan.specs.declared.refusals.Stop.TheVariants.{Refused}
use Rattle.kiasan.specs.Refusals.{code_refusal}

-- the first fault of a method's code and handlers, if it has code
abbrev pub fault_of : ClassMethod → Option CodeRefusal
fault_of method = option_and_then (λ code. first_fault code.bytes (handlers_of code)) method.code

-- the fault of the method of a number, or without one that of the methods behind it
abbrev pub fault_or : ℕ → Option CodeRefusal → Option (ℕ × CodeRefusal) → Option (ℕ × CodeRefusal)
fault_or number (Some fault) behind = Some (number, fault)
fault_or number None behind = behind

-- The first fault among methods, with its method's number, where the first method has the number `number`.
abbrev pub methods_fault : ℕ → List ClassMethod → Option (ℕ × CodeRefusal)
methods_fault number [] = None
methods_fault number (method ∷ methods) = fault_or number (fault_of method) (methods_fault (number + 1) methods)

-- what refuses the code of the method of that number, in the class file of a number, both from 0
abbrev pub CodeRefuses : ℕ → ℕ → ClassMethod → Refusal → Type 0
CodeRefuses file number method refusal = (found : CodeRefusal) × (fault_of method ≡ Some found) × (code_refusal file number found ≡ Refused refusal)

-- what refuses the methods of the class file of that number: the first fault of their code
abbrev pub MethodsRefuse : ℕ → List ClassMethod → Refusal → Type 0
MethodsRefuse file methods refusal = (found : ℕ × CodeRefusal) × (methods_fault 0 methods ≡ Some found) × (code_refusal file found.0 found.1 ≡ Refused refusal)
