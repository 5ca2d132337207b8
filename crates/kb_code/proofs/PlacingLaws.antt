-- Instructions that are placed by a table of starts.
use Rattle.std.proofs.Common.{◌≡◌, ℕ, ℤ, pos, negsuc, Bool, List, length, Option, Some, None, Ok, Err, refl, sym, subst, ap, ◌∙◌}
use mathlib.Core.Path.{fun_ext}
use Rattle.kb_code.specs.declared.instruction.Instr.{Instr}
use Rattle.kb_code.specs.declared.form.Loose.{Loose}
use Rattle.kb_code.specs.declared.listing.Handler.{Handler}
use Rattle.kb_code.specs.declared.refusal.CodeRefusal.{CodeRefusal}
use Rattle.kb_code.specs.declared.refusal.CodeRefusal.TheVariants as refusals
use Rattle.kb_code.specs.Reading.{Fails, walk}
use Rattle.kb_code.specs.Answers.{each_of, Starts, starts_of, placed, placed_item, handlers_fault, decoding}
use Rattle.kb_code.specs.Starts.{starts_in, IsTableOf}

pub item_is_placed : (starts : Starts) (at : ℕ) (loose : Loose) (instr : Instr) → placed starts at loose ≡ Ok instr → placed_item starts (at, loose) ≡ Ok (at, instr)
item_is_placed starts at loose instr h = rw h refl

pub item_fails : (starts : Starts) (at : ℕ) (loose : Loose) (refusal : CodeRefusal) → Fails refusal (placed starts at loose) → Fails refusal (placed_item starts (at, loose))
item_fails starts at loose refusals.NoMemory h = tt
item_fails starts at loose refusal h = rw h refl

-- ---- the table

table_starts : (items : List (ℕ × Loose)) (size : ℕ) (table : List Bool) → IsTableOf items size table → starts_in table ≡ starts_of items
table_starts items size table is = fun_ext (λ to. by to) where
  by : (to : ℤ) → starts_in table to ≡ starts_of items to
  by (pos at) = is.each at
  by (negsuc below) = refl

pub placing_fails : (refusal : CodeRefusal) (code : List ℕ) (handlers : List Handler) (items : List (ℕ × Loose)) (table : List Bool) → walk code ≡ Ok items → IsTableOf items (length code) table
    → Fails refusal (each_of (placed_item (starts_in table)) items) → Fails refusal (decoding code handlers)
unfolding decoding
placing_fails refusals.NoMemory code handlers items table read is fails = tt
placing_fails refusal code handlers items table read is fails =
    let same : each_of (placed_item (starts_of items)) items ≡ Err refusal = subst (λ (s : Starts). each_of (placed_item s) items ≡ Err refusal) (table_starts items (length code) table is) fails in
    rw (read, same) refl

handlers_same : (code : List ℕ) (handlers : List Handler) (items : List (ℕ × Loose)) (table : List Bool) (told : Option CodeRefusal) → IsTableOf items (length code) table
    → told ≡ handlers_fault (starts_in table) (length table) 0 handlers → handlers_fault (starts_of items) (length code) 0 handlers ≡ told
handlers_same code handlers items table told is h =
    let size : handlers_fault (starts_in table) (length code) 0 handlers ≡ told = ap (λ (n : ℕ). handlers_fault (starts_in table) n 0 handlers) (sym is.len) ∙ sym h in
    subst (λ (s : Starts). handlers_fault s (length code) 0 handlers ≡ told) (table_starts items (length code) table is) size

placing_same : (items : List (ℕ × Loose)) (size : ℕ) (table : List Bool) (placed : List (ℕ × Instr)) → IsTableOf items size table → each_of (placed_item (starts_in table)) items ≡ Ok placed
    → each_of (placed_item (starts_of items)) items ≡ Ok placed
placing_same items size table placed is h = subst (λ (s : Starts). each_of (placed_item s) items ≡ Ok placed) (table_starts items size table is) h

pub handler_fails : (refusal : CodeRefusal) (code : List ℕ) (handlers : List Handler) (items : List (ℕ × Loose)) (table : List Bool) (placed : List (ℕ × Instr)) → walk code ≡ Ok items → IsTableOf items (length code) table
    → each_of (placed_item (starts_in table)) items ≡ Ok placed → Some refusal ≡ handlers_fault (starts_in table) (length table) 0 handlers → Fails refusal (decoding code handlers)
unfolding decoding
handler_fails refusals.NoMemory code handlers items table placed read is each h = tt
handler_fails refusal code handlers items table placed read is each h =
    rw (read, placing_same items (length code) table placed is each, handlers_same code handlers items table (Some refusal) is h) refl

pub all_is_well : (code : List ℕ) (handlers : List Handler) (items : List (ℕ × Loose)) (table : List Bool) (placed : List (ℕ × Instr)) → walk code ≡ Ok items → IsTableOf items (length code) table
    → each_of (placed_item (starts_in table)) items ≡ Ok placed → None ≡ handlers_fault (starts_in table) (length table) 0 handlers → decoding code handlers ≡ Ok placed
unfolding decoding
all_is_well code handlers items table placed read is each h =
    rw (read, placing_same items (length code) table placed is each, handlers_same code handlers items table None is h) refl
