-- What `decode` answers: the listing of the code, or the first fault. All instructions are read before the targets are
-- looked at, in the order of the code, and the handlers come last.
use Rattle.std.specs.Prelude.{◌≡◌, ℕ, ◌+◌, ℤ, pos, negsuc, Bool, false, List, [], ◌∷◌, length, Option, Some, None, Result, Ok, Err, nat_abs, nat_lt, nat_eq, ◌&&◌, ◌||◌, if◌then◌else◌}
use Rattle.kb_code.specs.declared.instruction.Instr.{Instr}
use Rattle.kb_code.specs.declared.instruction.Instr.TheVariants as instrs
use Rattle.kb_code.specs.declared.form.Loose.{Loose}
use Rattle.kb_code.specs.declared.form.Loose.TheVariants as looses
use Rattle.kb_code.specs.declared.listing.Handler.{Handler}
use Rattle.kb_code.specs.declared.refusal.CodeRefusal.{CodeRefusal}
use Rattle.kb_code.specs.declared.refusal.CodeRefusal.TheVariants as refusals
use Rattle.kb_code.specs.Forms.{branch_instr}
use Rattle.kb_code.specs.Listing.{begins}
use Rattle.kb_code.specs.Reading.{walk}

abbrev pub and_then : {A B : Type 0} → Result A CodeRefusal → (A → Result B CodeRefusal) → Result B CodeRefusal
and_then (Ok x) f = f x
and_then (Err refusal) f = Err refusal

-- what each of a list gives, or the first fault
abbrev pub each_of : {A B : Type 0} → (A → Result B CodeRefusal) → List A → Result (List B) CodeRefusal
each_of f [] = Ok []
each_of f (x ∷ xs) = and_then (f x) (λ y. and_then (each_of f xs) (λ ys. Ok (y ∷ ys)))

-- ---- targets

-- where instructions begin
abbrev pub Starts : Type 0
Starts = ℤ → Bool

abbrev pub starts_of : {A : Type 0} → List (ℕ × A) → Starts
starts_of items (pos at) = begins items at
starts_of items (negsuc below) = false

-- a target of the instruction at `at`, as an offset: an instruction must begin there
abbrev pub target_of : Starts → ℕ → ℤ → Result ℕ CodeRefusal
target_of starts at to = if starts to then Ok (nat_abs to) else Err (refusals.Target at to)

-- an int with its target
abbrev pub pair_of : Starts → ℕ → ℤ × ℤ → Result (ℤ × ℕ) CodeRefusal
pair_of starts at pair = and_then (target_of starts at pair.1) (λ t. Ok (pair.0, t))

-- the instruction at `at` with offsets as its targets; the default target of a switch is the first
abbrev pub placed : Starts → ℕ → Loose → Result Instr CodeRefusal
placed starts at (looses.Straight instr) = Ok instr
placed starts at (looses.Jump branch to) = and_then (target_of starts at to) (λ t. Ok (branch_instr branch t))
placed starts at (looses.Table low default targets) =
    and_then (target_of starts at default) (λ d. and_then (each_of (target_of starts at) targets) (λ ts. Ok (instrs.Table low d ts)))
placed starts at (looses.Lookup default pairs) =
    and_then (target_of starts at default) (λ d. and_then (each_of (pair_of starts at) pairs) (λ ps. Ok (instrs.Lookup d ps)))

abbrev pub placed_item : Starts → ℕ × Loose → Result (ℕ × Instr) CodeRefusal
placed_item starts item = and_then (placed starts item.0 item.1) (λ instr. Ok (item.0, instr))

-- ---- handlers

-- whether a handler is of a range, and its offsets are those of instructions; its end may be that of the code
abbrev pub is_in_range : Starts → ℕ → Handler → Bool
is_in_range starts size handler =
    nat_lt handler.start handler.end && starts (pos handler.start) && (starts (pos handler.end) || nat_eq handler.end size)
    && starts (pos handler.target)

-- the first fault of handlers, the first of which has the number `number`
abbrev pub handlers_fault : Starts → ℕ → ℕ → List Handler → Option CodeRefusal
handlers_fault starts size number [] = None
handlers_fault starts size number (handler ∷ others) =
    if is_in_range starts size handler then handlers_fault starts size (number + 1) others else Some (refusals.Range number)

-- ---- the listing

abbrev pub unless_fault : {A : Type 0} → Option CodeRefusal → A → Result A CodeRefusal
unless_fault None x = Ok x
unless_fault (Some refusal) x = Err refusal

-- the listing of instructions that were read, with these handlers
abbrev pub listing_of : ℕ → List Handler → List (ℕ × Loose) → Result (List (ℕ × Instr)) CodeRefusal
listing_of size handlers items =
    and_then (each_of (placed_item (starts_of items)) items) (λ listing. unless_fault (handlers_fault (starts_of items) size 0 handlers) listing)

-- The items of the listing of the code, or the first fault.
unfoldable pub decoding : List ℕ → List Handler → Result (List (ℕ × Instr)) CodeRefusal
decoding code handlers = and_then (walk code) (listing_of (length code) handlers)

abbrev pub fault_in : {A : Type 0} → Result A CodeRefusal → Option CodeRefusal
fault_in (Ok x) = None
fault_in (Err refusal) = Some refusal

-- the first fault of the code and its handlers, if there is one
abbrev pub first_fault : List ℕ → List Handler → Option CodeRefusal
first_fault code handlers = fault_in (decoding code handlers)

-- the refusal is the first fault, unless memory ran out
abbrev pub Refuses : List ℕ → List Handler → CodeRefusal → Type 0
Refuses code handlers refusals.NoMemory = Unit {0}
Refuses code handlers refusal = first_fault code handlers ≡ Some refusal
