-- A replay has one reply, whatever the number of its workers.
use Rattle.std.proofs.Common.{◌≡◌, ℕ, List, [], ◌∷◌, Option, refl, ap, subst, inl, inr}
use Rattle.kb_refusals.specs.declared.refusal.Refusal.{Refusal}
use Rattle.kb_class.specs.Given.{AreGivenBy}
use Rattle.kb_link.specs.Links.{Links}
use Rattle.kb_classes.specs.World.{World}
use Rattle.kb_words.specs.declared.orders.Order.{Order}
use Rattle.kb_words.specs.declared.orders.Order.TheVariants.{Replay, Sample}
use Rattle.kiasan.specs.declared.answer.Contents.{Contents}
use Rattle.kiasan.specs.Answers.{Reply, refuses, ends, AreTold, ContentsRefuse, HasContents, IsReplay, IsSample, RefusesClasses, Replies, RepliesIn, RepliesOn, RepliesTo, Stage, WorldRefuses}
use Rattle.kiasan.specs.Orders.{OrdersBuilt}
use Rattle.kiasan.proofs.OneReply.{SameEnd, to_one, words_apart}
use Rattle.kiasan.proofs.StageLaws.{AreOne}
use Rattle.kiasan.proofs.WordsLaws.{one_order}

-- a stage that passes the same, with what follows behind it
stage_as : {A : Type 0} (Refuses : Refusal → Type 0) (Passes Also : A → Type 0) (Next Then : A → Reply → Type 0) → ((a : A) → Passes a → Also a) →
    ((a : A) (reply : Reply) → Next a reply → Then a reply) → (reply : Reply) → Stage Refuses Passes Next reply → Stage Refuses Also Then reply
stage_as Refuses Passes Also Next Then pass next (refuses r) (inl bad) = inl bad
stage_as Refuses Passes Also Next Then pass next (refuses r) (inr (a, p, x)) = inr (a, pass a p, next a (refuses r) x)
stage_as Refuses Passes Also Next Then pass next (ends s t) (a, p, x) = (a, pass a p, next a (ends s t) x)

-- ---- the number of workers is no part of a reply

in_as : (name : List ℕ) (files : List (List ℕ)) (n m : ℕ) (texts : List (List ℕ)) (world : World) (reply : Reply) → RepliesIn (Replay name files n) texts world reply →
    RepliesIn (Replay name files m) texts world reply
in_as name files n m [] world reply p = absurd p
in_as name files n m (bytes ∷ []) world reply p = p
in_as name files n m (bytes ∷ more ∷ texts) world reply p = absurd p

on_as : (name : List ℕ) (files : List (List ℕ)) (n m : ℕ) (contents : Contents) (reply : Reply) → RepliesOn (Replay name files n) contents reply →
    RepliesOn (Replay name files m) contents reply
unfolding RepliesOn
on_as name files n m contents =
    stage_as (RefusesClasses contents.classes) (AreGivenBy contents.classes) (AreGivenBy contents.classes) _ _ (λ given are. are) (λ given.
    stage_as (WorldRefuses given) (Links given) (Links given) (λ world. RepliesIn (Replay name files n) contents.texts world) (λ world. RepliesIn (Replay name files m) contents.texts world)
    (λ world links. links) (λ world reply. in_as name files n m contents.texts world reply))

to_as : (name : List ℕ) (files : List (List ℕ)) (n m : ℕ) (holds : List ℕ → Option (List ℕ)) (reply : Reply) → RepliesTo (Replay name files n) holds reply →
    RepliesTo (Replay name files m) holds reply
unfolding RepliesTo
to_as name files n m holds =
    stage_as (ContentsRefuse (Replay name files n)) (HasContents holds (Replay name files n)) (HasContents holds (Replay name files m)) (RepliesOn (Replay name files n)) (RepliesOn (Replay name files m))
    (λ contents is. record { texts = is.texts; classes = is.classes }) (λ contents reply. on_as name files n m contents reply)

-- ---- words that order it

-- a reply to words is one to what they order
ordered_to : (words : List (List ℕ)) (holds : List ℕ → Option (List ℕ)) (order : Order) → OrdersBuilt words order → (reply : Reply) → Replies words holds reply → RepliesTo order holds reply
unfolding Replies
ordered_to words holds order ordered (refuses r) (inl bad) = absurd (words_apart words r order bad ordered)
ordered_to words holds order ordered (refuses r) (inr (o, built, next)) = subst (λ (x : Order). RepliesTo x holds (refuses r)) (one_order words o order built.0 ordered.0) next
ordered_to words holds order ordered (ends s t) (o, built, next) = subst (λ (x : Order). RepliesTo x holds (ends s t)) (one_order words o order built.0 ordered.0) next

is_no_sample : (name : List ℕ) (files : List (List ℕ)) (n blocks : ℕ) → Replay name files n ≡ Sample blocks → ⊥
is_no_sample name files n blocks e = cc

-- two words that order the same replay, by whatever numbers of workers, have the same reply
pub workers_alike : (words others : List (List ℕ)) (holds : List ℕ → Option (List ℕ)) (tests : List ℕ) (files : List (List ℕ)) (n m : ℕ) → OrdersBuilt words (Replay tests files n) →
    OrdersBuilt others (Replay tests files m) → AreTold words holds → (one other : Reply) → Replies words holds one → Replies others holds other → one ≡ other
workers_alike words others holds tests files n m ordered also told one other p q =
    same one other
    (to_one words holds (Replay tests files n) ordered told none one other (ordered_to words holds (Replay tests files n) ordered one p)
    (to_as tests files m n holds other (ordered_to others holds (Replay tests files m) also other q)))
  where
    none : IsSample words → ⊥
    none (blocks, sample) = is_no_sample tests files n blocks (one_order words (Replay tests files n) (Sample blocks) ordered.0 sample.0)

    replay : IsReplay words
    replay = (tests, files, n, ordered)

    same : (a b : Reply) → AreOne (SameEnd words) a b → a ≡ b
    same (refuses r) (refuses s) e = ap (λ (x : Refusal). refuses x) e
    same (refuses r) (ends u v) wrong = absurd wrong
    same (ends s t) (refuses r) wrong = absurd wrong
    same (ends s t) (ends u v) agree = let both = agree replay in rw (both.0, both.1) refl
