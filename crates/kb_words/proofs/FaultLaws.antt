-- Faults of words.
use Rattle.std.proofs.Common.{◌≡◌, ◌⊎◌, ℕ, List, Err, refl, inl, inr}
use Rattle.kb_words.specs.declared.orders.WordFault.{WordFault}
use Rattle.kb_words.specs.declared.orders.WordFault.TheVariants as faults
use Rattle.kb_words.specs.Orders.{IsFaultOf, Orders}

-- what is told as the fault of words is theirs, or memory ran out
pub fault_or_memory : (words : List (List ℕ)) (fault : WordFault) → IsFaultOf words fault → (fault ≡ faults.NoMemory) ⊎ Orders words (Err fault)
fault_or_memory words faults.NoCommand is = inr is
fault_or_memory words (faults.Unknown word) is = inr is
fault_or_memory words (faults.NoValue word) is = inr is
fault_or_memory words (faults.BadNumber word) is = inr is
fault_or_memory words (faults.OutOfRange word) is = inr is
fault_or_memory words (faults.Repeated word) is = inr is
fault_or_memory words (faults.BadTarget word) is = inr is
fault_or_memory words faults.NoMethod is = inr is
fault_or_memory words faults.NoTests is = inr is
fault_or_memory words faults.NoFiles is = inr is
fault_or_memory words faults.TooMuch is = inr is
fault_or_memory words faults.NoMemory is = inl refl
