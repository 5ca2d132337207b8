-- Stages: how their parts give a reply, and that a reply is one.
use Rattle.std.proofs.Common.{◌≡◌, ℕ, Bool, true, false, cond, List, Result, Ok, Err, refl, ap, subst, inl, inr}
use Rattle.kiasan.specs.declared.refusals.Answer.{Answer}
use Rattle.kb_refusals.specs.declared.refusal.Refusal.{Refusal}
use Rattle.kiasan.specs.declared.refusals.Stop.{Stop}
use Rattle.kiasan.specs.declared.refusals.Stop.TheVariants.{Refused, ReadFault, NoMemory}
use Rattle.kb_refusals.specs.declared.status.Status.{Status}
use Rattle.kiasan.specs.Answers.{Reply, refuses, ends, Stage, Carries}
use Rattle.kb_refusals.specs.Refusals.{is_refusal}
use Rattle.kiasan.specs.Refusals.{Gives, stop_of}

-- ---- how a stage is carried out

-- what a part refuses or stops at, the stage does
pub stage_stops : {A : Type 0} (Fault Wider : Type 0) (Refuses : Refusal → Type 0) (Passes : A → Type 0) (Next : A → Reply → Type 0) (stop : Stop) →
    (Fault → Wider) → Gives Fault Refuses Passes (Err stop) → Carries Wider (Stage Refuses Passes Next) (Err stop)
stage_stops Fault Wider Refuses Passes Next (Refused refusal) wider given = inl given
stage_stops Fault Wider Refuses Passes Next ReadFault wider given = wider given
stage_stops Fault Wider Refuses Passes Next NoMemory wider given = tt

-- what passes goes on
pub stage_goes : {A : Type 0} (Fault Wider : Type 0) (Refuses : Refusal → Type 0) (Passes : A → Type 0) (Next : A → Reply → Type 0) (a : A)
    (result : Result Answer Stop) → (Fault → Wider) → Passes a → Carries Fault (Next a) result → Carries Wider (Stage Refuses Passes Next) result
stage_goes Fault Wider Refuses Passes Next a (Ok answer) wider passed given = (a, passed, given)
stage_goes Fault Wider Refuses Passes Next a (Err (Refused refusal)) wider passed given = inr (a, passed, given)
stage_goes Fault Wider Refuses Passes Next a (Err ReadFault) wider passed given = wider given
stage_goes Fault Wider Refuses Passes Next a (Err NoMemory) wider passed given = tt

-- a part with the same outcome in other words
pub gives_by : {A B : Type 0} (Fault Wider : Type 0) (Refuses More : Refusal → Type 0) (Passes : A → Type 0) (Also : B → Type 0) (stop : Stop) →
    (Fault → Wider) → ((refusal : Refusal) → Refuses refusal → More refusal) → Gives {A = A} Fault Refuses Passes (Err stop) → Gives {A = B} Wider More Also (Err stop)
gives_by Fault Wider Refuses More Passes Also (Refused refusal) wider more given = more refusal given
gives_by Fault Wider Refuses More Passes Also ReadFault wider more given = wider given
gives_by Fault Wider Refuses More Passes Also NoMemory wider more given = tt

-- what is told as a refusal, where it may be that memory ran out
pub told_stops : {A : Type 0} (Fault : Type 0) (refusal : Refusal) (Refuses : Refusal → Type 0) (Passes : A → Type 0) →
    (stop_of refusal ≡ Refused refusal → Refuses refusal) → Gives {A = A} Fault Refuses Passes (Err (stop_of refusal))
told_stops {A} Fault refusal Refuses Passes is = go (is_refusal refusal) refl
  where
    go : (b : Bool) → is_refusal refusal ≡ b → Gives {A = A} Fault Refuses Passes (Err (cond b (Refused refusal) NoMemory))
    go true e = is (ap (λ (b : Bool). cond b (Refused refusal) NoMemory) e)
    go false e = tt

pub nothing_wrong : ⊥ → (P : Type 0) → P
nothing_wrong wrong P = absurd wrong

-- ---- a reply is one

-- Two replies are the same refusal, or none is one, and then they are as Same says.
abbrev pub AreOne : (Status → List ℕ → Status → List ℕ → Type 0) → Reply → Reply → Type 0
AreOne Same (refuses one) (refuses other) = one ≡ other
AreOne Same (ends one text) (ends other lines) = Same one text other lines
AreOne Same (refuses one) (ends other lines) = ⊥
AreOne Same (ends one text) (refuses other) = ⊥

-- a reply of which the one holds and a reply of which the other holds are one
abbrev pub Agree : (Status → List ℕ → Status → List ℕ → Type 0) → (Reply → Type 0) → (Reply → Type 0) → Type 0
Agree Same Replied Also = (one other : Reply) → Replied one → Also other → AreOne Same one other

-- any two replies of which that holds are one
abbrev pub HasOne : (Status → List ℕ → Status → List ℕ → Type 0) → (Reply → Type 0) → Type 0
HasOne Same Replied = Agree Same Replied Replied

-- Two stages agree where they refuse by one refusal, neither refuses what passes the other, and what is behind them agrees.
pub stages_agree : {A : Type 0} (Same : Status → List ℕ → Status → List ℕ → Type 0) (Refuses More : Refusal → Type 0) (Passes Also : A → Type 0) (Next Then : A → Reply → Type 0) →
    ((one other : Refusal) → Refuses one → More other → one ≡ other) → ((refusal : Refusal) (a : A) → Refuses refusal → Also a → ⊥) →
    ((refusal : Refusal) (a : A) → More refusal → Passes a → ⊥) → ((a b : A) → Passes a → Also b → Agree Same (Next a) (Then b)) →
    Agree Same (Stage Refuses Passes Next) (Stage More Also Then)
stages_agree Same Refuses More Passes Also Next Then single either other next (refuses r) (refuses s) (inl x) (inl y) = single r s x y
stages_agree Same Refuses More Passes Also Next Then single either other next (refuses r) (refuses s) (inl x) (inr (b, q, y)) = absurd (either r b x q)
stages_agree Same Refuses More Passes Also Next Then single either other next (refuses r) (refuses s) (inr (a, p, x)) (inl y) = absurd (other s a y p)
stages_agree Same Refuses More Passes Also Next Then single either other next (refuses r) (refuses s) (inr (a, p, x)) (inr (b, q, y)) = next a b p q (refuses r) (refuses s) x y
stages_agree Same Refuses More Passes Also Next Then single either other next (refuses r) (ends t u) (inl x) (b, q, y) = either r b x q
stages_agree Same Refuses More Passes Also Next Then single either other next (refuses r) (ends t u) (inr (a, p, x)) (b, q, y) = next a b p q (refuses r) (ends t u) x y
stages_agree Same Refuses More Passes Also Next Then single either other next (ends t u) (refuses r) (a, p, x) (inl y) = other r a y p
stages_agree Same Refuses More Passes Also Next Then single either other next (ends t u) (refuses r) (a, p, x) (inr (b, q, y)) = next a b p q (ends t u) (refuses r) x y
stages_agree Same Refuses More Passes Also Next Then single either other next (ends t u) (ends v w) (a, p, x) (b, q, y) = next a b p q (ends t u) (ends v w) x y

-- A stage has one reply where it refuses by one refusal, refuses nothing that passes, passes one thing, and the next has one.
pub stage_one : {A : Type 0} (Same : Status → List ℕ → Status → List ℕ → Type 0) (Refuses : Refusal → Type 0) (Passes : A → Type 0) (Next : A → Reply → Type 0) →
    ((one other : Refusal) → Refuses one → Refuses other → one ≡ other) → ((refusal : Refusal) (a : A) → Refuses refusal → Passes a → ⊥) →
    ((a b : A) → Passes a → Passes b → a ≡ b) → ((a : A) → Passes a → HasOne Same (Next a)) → HasOne Same (Stage Refuses Passes Next)
stage_one Same Refuses Passes Next single either same next =
    stages_agree Same Refuses Refuses Passes Passes Next Next single either either (λ a b p q. subst (λ c. Agree Same (Next a) (Next c)) (same a b p q) (next a p))
