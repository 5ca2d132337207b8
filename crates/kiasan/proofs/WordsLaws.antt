-- How words are answered.
use Rattle.std.proofs.Common.{◌≡◌, ◌⊎◌, ℕ, List, true, false, Result, Ok, Err, refl, sym, ◌∙◌, ap, inl, inr}
use Rattle.kb_picture.specs.declared.choice.Init.{Init}
use Rattle.kb_picture.specs.declared.choice.Init.TheVariants.{Lazy, Lazier}
use Rattle.kb_words.specs.declared.orders.Order.{Order}
use Rattle.kb_words.specs.declared.orders.Order.TheVariants.{Explore, Tests, Diagrams, Replay, Assemble, Sample}
use Rattle.kb_words.specs.declared.orders.WordFault.{WordFault}
use Rattle.kb_words.specs.declared.orders.WordFault.TheVariants as faults
use Rattle.kb_words.specs.Orders.{IsFaultOf, IsOrder, Orders}
use Rattle.kb_words.proofs.FaultLaws.{fault_or_memory}
use Rattle.kb_words.proofs.OneOrder.{orders_one}
use Rattle.kb_refusals.specs.declared.refusal.Refusal.TheVariants.{Words, Unbuilt}
use Rattle.kiasan.specs.Answers.{WordsRefuse}
use Rattle.kiasan.specs.Orders.{IsBuiltOrder, OrdersBuilt, OrdersUnbuilt, is_built, is_lazy}
use Rattle.kiasan.specs.Refusals.{Gives, word_refusal}
use Rattle.kiasan.proofs.StageLaws.{told_stops}

-- what the fault of words is refused as
pub words_stop : {A : Type 0} (words : List (List ℕ)) (fault : WordFault) (Passes : A → Type 0) → IsFaultOf words fault →
    Gives {A = A} ⊥ (WordsRefuse words) Passes (Err (word_refusal fault))
words_stop {A} words fault Passes is = go (fault_or_memory words fault is)
  where
    go : ((fault ≡ faults.NoMemory) ⊎ Orders words (Err fault)) → Gives {A = A} ⊥ (WordsRefuse words) Passes (Err (word_refusal fault))
    go (inl none) = rw none tt
    go (inr ordered) = told_stops ⊥ (Words fault) (WordsRefuse words) Passes (λ e. inl (fault, ordered, e))

-- the mode that is built for now is one alone
lazy_is : (init : Init) → is_lazy init ≡ true → init ≡ Lazy
lazy_is Lazy built = refl
lazy_is Lazier built = cc

-- an order that is built has what it needs
pub built_order : (order : Order) → IsOrder order → is_built order ≡ true → IsBuiltOrder order
built_order (Explore job) is built = record { numbers = is; lazy = lazy_is job.init built }
built_order (Tests job) is built = record { numbers = is; lazy = lazy_is job.init built }
built_order (Diagrams job) is built = record { numbers = is; lazy = lazy_is job.init built }
built_order (Replay tests files workers) is built = is
built_order (Assemble text) is built = tt
built_order (Sample blocks) is built = tt

-- what is ordered and not built is refused
pub not_built : (words : List (List ℕ)) (order : Order) → Orders words (Ok order) → is_built order ≡ false → WordsRefuse words Unbuilt
not_built words order ordered not = inr (refl, (order, ordered, not))

-- ---- words have one order or one fault

pub one_order : (words : List (List ℕ)) (one other : Order) → Orders words (Ok one) → Orders words (Ok other) → one ≡ other
one_order words one other a b =
    let same : ordered one ≡ ordered other = orders_one words (Ok one) (Ok other) a b in
    cc
  where
    ordered : Order → Result Order WordFault
    ordered order = Ok order

pub one_fault : (words : List (List ℕ)) (one other : WordFault) → Orders words (Err one) → Orders words (Err other) → one ≡ other
one_fault words one other a b =
    let same : faulty one ≡ faulty other = orders_one words (Err one) (Err other) a b in
    cc
  where
    faulty : WordFault → Result Order WordFault
    faulty fault = Err fault

pub fault_or_order : (words : List (List ℕ)) (fault : WordFault) (order : Order) → Orders words (Err fault) → Orders words (Ok order) → ⊥
fault_or_order words fault order a b =
    let same : faulty fault ≡ ordered order = orders_one words (Err fault) (Ok order) a b in
    cc
  where
    faulty : WordFault → Result Order WordFault
    faulty f = Err f

    ordered : Order → Result Order WordFault
    ordered o = Ok o

-- the words order what is built, or what is not
pub built_or_not : (words : List (List ℕ)) (order : Order) → OrdersUnbuilt words → OrdersBuilt words order → ⊥
built_or_not words order (other, ordered, not) built =
    let same : order ≡ other = one_order words order other built.0 ordered in
    let is : is_built order ≡ true = built.1 in
    let both : true ≡ false = sym is ∙ ap is_built same ∙ not in
    cc
