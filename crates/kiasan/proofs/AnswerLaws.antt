-- From an order's answer to that of its words.
use Rattle.std.proofs.Common.{◌≡◌, List, [], ◌∷◌, ℕ, length, Option, None, Some, Result, Ok, Err, ap, subst, inl, inr}
use Rattle.kb_outside.specs.Outside.{Rose}
use Rattle.kb_class.specs.declared.given.GivenClass.{GivenClass}
use Rattle.kb_link.specs.Links.{Links}
use Rattle.kb_classes.specs.World.{World}
use Rattle.kiasan.specs.declared.answer.Contents.{Contents}
use Rattle.kiasan.specs.declared.refusals.Answer.{Answer}
use Rattle.kiasan.specs.declared.refusals.Stop.{Stop}
use Rattle.kiasan.specs.declared.refusals.Stop.TheVariants.{Refused, ReadFault, NoMemory}
use Rattle.kb_words.specs.declared.orders.Order.{Order}
use Rattle.kb_words.specs.declared.orders.Order.TheVariants.{Explore, Tests, Diagrams, Replay, Assemble, Sample}
use Rattle.kb_sample.specs.Sample.{sample_text}
use Rattle.kb_class.specs.Given.{AreGivenBy}
use Rattle.kiasan.specs.Answers.{Carries, ContentsRefuse, HasContents, IsContentsBy, IsRead, IsReadFault, LineRefuses, RefusesBy, RefusesClasses, RefusesNothing, Replies, RepliesIn, RepliesOn, RepliesTo, SomeUnsound, WordsRefuse, WorldRefuses, text_limit}
use Rattle.kiasan.specs.Orders.{OrdersBuilt, blocks_of, files_of, texts_of}
use Rattle.kiasan.specs.Refusals.{Gives}
use Rattle.kiasan.specs.Samples.{IsSampleMade}
use Rattle.kiasan.proofs.ReadLaws.{read_as_many}
use Rattle.kiasan.proofs.StageLaws.{stage_goes, stage_stops}

pub words_go : (words : List (List ℕ)) (holds : List ℕ → Option (List ℕ)) (order : Order) (before now : ℕ) (sound : List ℕ → Type 0) (result : Result Answer Stop) → OrdersBuilt words order →
    Carries (IsReadFault before now (files_of order) sound) (RepliesTo order holds) result → Carries (Rose before now × SomeUnsound words sound) (Replies words holds) result
unfolding Replies
words_go words holds order before now sound result ordered given =
    stage_goes (IsReadFault before now (files_of order) sound) (Rose before now × SomeUnsound words sound) (WordsRefuse words) (OrdersBuilt words)
    (λ order. RepliesTo order holds) order result (λ fault. (fault.0, (order, ordered, fault.1))) ordered given

-- ---- what an order is carried out on

pub contents_made : (Fault : Type 0) (holds : List ℕ → Option (List ℕ)) (order : Order) (blocks : ℕ) (result : Result Contents Stop) → Some blocks ≡ blocks_of order →
    Gives {A = Contents} ⊥ (LineRefuses (sample_text blocks)) (IsSampleMade blocks) result → Gives {A = Contents} Fault (ContentsRefuse order) (HasContents holds order) result
contents_made Fault holds order blocks result is given =
    subst (λ (by : Option ℕ). Gives {A = Contents} Fault (RefusesBy by) (IsContentsBy by holds order) result) is (go result given)
  where
    go : (told : Result Contents Stop) → Gives {A = Contents} ⊥ (LineRefuses (sample_text blocks)) (IsSampleMade blocks) told →
        Gives {A = Contents} Fault (RefusesBy (Some blocks)) (IsContentsBy (Some blocks) holds order) told
    go (Ok contents) made = made
    go (Err (Refused refusal)) refuses = refuses
    go (Err ReadFault) wrong = absurd wrong
    go (Err NoMemory) none = tt

pub contents_read : (Fault : Type 0) (holds : List ℕ → Option (List ℕ)) (order : Order) (result : Result Contents Stop) → None ≡ blocks_of order →
    Gives {A = Contents} Fault RefusesNothing (IsRead holds order) result → Gives {A = Contents} Fault (ContentsRefuse order) (HasContents holds order) result
contents_read Fault holds order result is given =
    subst (λ (by : Option ℕ). Gives {A = Contents} Fault (RefusesBy by) (IsContentsBy by holds order) result) is (go result given)
  where
    go : (told : Result Contents Stop) → Gives {A = Contents} Fault RefusesNothing (IsRead holds order) told →
        Gives {A = Contents} Fault (RefusesBy None) (IsContentsBy None holds order) told
    go (Ok contents) read = read
    go (Err (Refused refusal)) wrong = absurd wrong
    go (Err ReadFault) fault = fault
    go (Err NoMemory) none = tt

-- there are as many texts as the order names
pub contents_texts : (holds : List ℕ → Option (List ℕ)) (order : Order) (contents : Contents) → HasContents holds order contents → length contents.texts ≡ length (texts_of order)
contents_texts holds (Explore job) contents is = read_as_many text_limit holds [] contents.texts is.texts
contents_texts holds (Tests job) contents is = read_as_many text_limit holds [] contents.texts is.texts
contents_texts holds (Diagrams job) contents is = read_as_many text_limit holds [] contents.texts is.texts
contents_texts holds (Replay tests files workers) contents is = read_as_many text_limit holds (tests ∷ []) contents.texts is.texts
contents_texts holds (Assemble text) contents is = read_as_many text_limit holds (text ∷ []) contents.texts is.texts
contents_texts holds (Sample blocks) contents is = ap length is.texts_are

pub contents_stop : (Fault : Type 0) (holds : List ℕ → Option (List ℕ)) (order : Order) (stop : Stop) →
    Gives {A = Contents} Fault (ContentsRefuse order) (HasContents holds order) (Err stop) → Carries Fault (RepliesTo order holds) (Err stop)
unfolding RepliesTo
contents_stop Fault holds order stop given = stage_stops Fault Fault (ContentsRefuse order) (HasContents holds order) (RepliesOn order) stop (λ fault. fault) given

pub contents_go : (Fault : Type 0) (holds : List ℕ → Option (List ℕ)) (order : Order) (contents : Contents) (result : Result Answer Stop) → HasContents holds order contents →
    Carries ⊥ (RepliesOn order contents) result → Carries Fault (RepliesTo order holds) result
unfolding RepliesTo
contents_go Fault holds order contents result has given =
    stage_goes ⊥ Fault (ContentsRefuse order) (HasContents holds order) (RepliesOn order) contents result (λ wrong. absurd wrong) has given

-- ---- from the classes' answer to that of an order's contents

pub classes_stop : {A : Type 0} (order : Order) (contents : Contents) (Passes : A → Type 0) (stop : Stop) → Gives {A = A} ⊥ (RefusesClasses contents.classes) Passes (Err stop) →
    Carries ⊥ (RepliesOn order contents) (Err stop)
unfolding RepliesOn
classes_stop order contents Passes (Refused refusal) given = inl given
classes_stop order contents Passes ReadFault given = given
classes_stop order contents Passes NoMemory given = tt

pub world_stops : {A : Type 0} (order : Order) (contents : Contents) (given : List GivenClass) (Passes : A → Type 0) (stop : Stop) → AreGivenBy contents.classes given →
    Gives {A = A} ⊥ (WorldRefuses given) Passes (Err stop) → Carries ⊥ (RepliesOn order contents) (Err stop)
unfolding RepliesOn
world_stops order contents given Passes (Refused refusal) are refuses = inr (given, are, inl refuses)
world_stops order contents given Passes ReadFault are refuses = refuses
world_stops order contents given Passes NoMemory are refuses = tt

pub world_goes : (order : Order) (contents : Contents) (given : List GivenClass) (world : World) (result : Result Answer Stop) → AreGivenBy contents.classes given → Links given world →
    Carries ⊥ (RepliesIn order contents.texts world) result → Carries ⊥ (RepliesOn order contents) result
unfolding RepliesOn
world_goes order contents given world (Ok answer) are is carried = (given, are, (world, is, carried))
world_goes order contents given world (Err (Refused refusal)) are is carried = inr (given, are, inr (world, is, carried))
world_goes order contents given world (Err ReadFault) are is carried = carried
world_goes order contents given world (Err NoMemory) are is carried = tt
