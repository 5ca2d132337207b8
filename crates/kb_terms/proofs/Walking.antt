-- The walk that numbers terms does what the definition says, and ends.
use Rattle.std.proofs.Common.{◌≡◌, ℕ, zero, suc, ◌+◌, ◌^◌, ◌<◌, ◌≤◌, List, [], ◌∷◌, ◌++◌, length, take, Option, Some, None, Bool, true, false, refl, sym, ap, subst, ◌∙◌, arith, length-take, if◌then◌else◌, reverse}
use Rattle.std.proofs.lemmas.List.{reverse-append}
use Rattle.std.proofs.Math.Nat.{one-le-pow, pow-le-pow_right}
use Rattle.std.proofs.lemmas.Grind.{pow_more}
use Rattle.kb_terms.specs.declared.op.Op.{Op}
use Rattle.kb_terms.specs.declared.node.TermId.{TermId}
use Rattle.kb_terms.specs.declared.node.Node.{Node}
use Rattle.kb_terms.specs.declared.node.Node.TheVariants.{Const, Var, Op as Apply}
use Rattle.kb_terms.specs.declared.numbering.Task.{Task}
use Rattle.kb_terms.specs.declared.numbering.Task.TheVariants.{Enter, Emit}
use Rattle.kb_terms.specs.Op.{is_binary}
use Rattle.kb_terms.specs.Terms.{IsTerm, IsSecond, AreOperands, node_at, IsPool}
use Rattle.kb_terms.specs.Numbering.{has_term, with_term, visit_node, visit}
use Rattle.kb_terms.specs.Walk.{task_term, node_tasks, tasks_left, terms_after}

-- ---- operands stand before their operation

pub first-before : (nodes : List Node) (t : TermId) (op : Op) (left : TermId) (right : Option TermId) → IsPool nodes → node_at nodes t ≡ Some (Apply op left right) → left.0 < t.0
first-before nodes t op left right formed e =
    let operands : AreOperands (take t.0 nodes) op left right = (formed.fits t.0 (Apply op left right) e).0 in
    omega (arith, operands.first, length-take t.0 nodes)

second-within : (nodes : List Node) (b : Bool) (r : TermId) → IsSecond nodes b (Some r) → IsTerm nodes r
second-within nodes true r h = h
second-within nodes false r h = absurd h

pub second-before : (nodes : List Node) (t : TermId) (op : Op) (left right : TermId) → IsPool nodes → node_at nodes t ≡ Some (Apply op left (Some right)) → right.0 < t.0
second-before nodes t op left right formed e =
    let operands : AreOperands (take t.0 nodes) op left (Some right) = (formed.fits t.0 (Apply op left (Some right)) e).0 in
    omega (arith, second-within (take t.0 nodes) (is_binary op) right operands.second, length-take t.0 nodes)

-- ---- a visit looks no deeper than the term's number

module _ (nodes : List Node) (formed : IsPool nodes) where
  visit_node-same : (walk go : List TermId → TermId → List TermId) (done : List TermId) (t : TermId) (n : Option Node) → node_at nodes t ≡ n
      → ((d : List TermId) (u : TermId) → u.0 < t.0 → walk d u ≡ go d u) → visit_node walk done t n ≡ visit_node go done t n
  visit_node-same walk go done t None e same = refl
  visit_node-same walk go done t (Some (Const c)) e same = refl
  visit_node-same walk go done t (Some (Var v kind)) e same = refl
  visit_node-same walk go done t (Some (Apply op left None)) e same = ap (λ d. with_term d t) (same done left (first-before nodes t op left None formed e))
  visit_node-same walk go done t (Some (Apply op left (Some right))) e same =
      ap (λ d. with_term d t)
      (ap (λ d. walk d right) (same done left (first-before nodes t op left (Some right) formed e))
      ∙ same (go done left) right (second-before nodes t op left right formed e))

  same_depth : (f g : ℕ) (done : List TermId) (t : TermId) → t.0 < f → t.0 < g → visit f nodes done t ≡ visit g nodes done t
  unfolding visit
  same_depth zero g done t h k = absurd (omega arith)
  same_depth (suc f) zero done t h k = absurd (omega arith)
  same_depth (suc f) (suc g) done t h k =
      ap (λ d. if has_term done t then done else d)
      (visit_node-same (visit f nodes) (visit g nodes) done t (node_at nodes t) refl (λ d u below. same_depth f g d u (omega arith) (omega arith)))

  -- the definition of a visit, without the depth
  pub visit_is : (done : List TermId) (t : TermId) → IsTerm nodes t
      → visit (length nodes) nodes done t ≡ (if has_term done t then done else visit_node (visit (length nodes) nodes) done t (node_at nodes t))
  unfolding visit
  visit_is done t inside = same_depth (length nodes) (suc (length nodes)) done t inside (omega arith)

-- ---- tasks

-- the terms after all tasks, the first one first
unfoldable pub finish : List Node → List Task → List TermId → List TermId
finish nodes [] done = done
finish nodes (Enter t ∷ tasks) done = finish nodes tasks (visit (length nodes) nodes done t)
finish nodes (Emit t ∷ tasks) done = finish nodes tasks (with_term done t)

-- each task is on a term of the pool
unfoldable pub AreTasks : List Node → List Task → Type 0
AreTasks nodes [] = Unit {0}
AreTasks nodes (k ∷ ks) = IsTerm nodes (task_term k) × AreTasks nodes ks

-- a bound on the work that is left
unfoldable pub task_weight : Task → ℕ
task_weight (Enter t) = 3 ^ (t.0 + 1)
task_weight (Emit t) = 1

unfoldable pub weight : List Task → ℕ
weight [] = 0
weight (k ∷ ks) = task_weight k + weight ks

finish-append : (nodes : List Node) (ks ls : List Task) (done : List TermId) → finish nodes (ks ++ ls) done ≡ finish nodes ls (finish nodes ks done)
unfolding finish
finish-append nodes [] ls done = refl
finish-append nodes (Enter t ∷ ks) ls done = finish-append nodes ks ls (visit (length nodes) nodes done t)
finish-append nodes (Emit t ∷ ks) ls done = finish-append nodes ks ls (with_term done t)

AreTasks-append : (nodes : List Node) (ks ls : List Task) → AreTasks nodes ks → AreTasks nodes ls → AreTasks nodes (ks ++ ls)
unfolding AreTasks
AreTasks-append nodes [] ls h g = g
AreTasks-append nodes (k ∷ ks) ls h g = (h.0, AreTasks-append nodes ks ls h.1 g)

weight-append : (ks ls : List Task) → weight (ks ++ ls) ≡ weight ks + weight ls
unfolding weight
weight-append [] ls = omega arith
weight-append (k ∷ ks) ls = omega (arith, weight-append ks ls)

power-positive : (n : ℕ) → 0 < 3 ^ n
power-positive n = omega (arith, one-le-pow n 3 (omega arith))

-- the work of two operands and of the operation is below that of the term
two-powers : (l r t : ℕ) → l < t → r < t → 3 ^ (l + 1) + 3 ^ (r + 1) + 1 < 3 ^ (t + 1)
two-powers l r t h k =
    let three : 0 < 3 = omega arith in
    let left : 3 ^ (l + 1) ≤ 3 ^ t = pow-le-pow_right three {i = l + 1} {j = t} (omega arith) in
    let right : 3 ^ (r + 1) ≤ 3 ^ t = pow-le-pow_right three {i = r + 1} {j = t} (omega arith) in
    let low : 3 ^ 1 ≤ 3 ^ t = pow-le-pow_right three {i = 1} {j = t} (omega arith) in
    omega (arith, pow_more 3 t)

pub task-positive : (k : Task) → 0 < task_weight k
unfolding task_weight
task-positive (Enter t) = power-positive (t.0 + 1)
task-positive (Emit t) = omega arith

module _ (nodes : List Node) (formed : IsPool nodes) where
  node-finish : (done : List TermId) (t : TermId) (n : Option Node) → finish nodes (node_tasks t n) done ≡ visit_node (visit (length nodes) nodes) done t n
  unfolding finish
  node-finish done t None = refl
  node-finish done t (Some (Const c)) = refl
  node-finish done t (Some (Var v kind)) = refl
  node-finish done t (Some (Apply op left None)) = refl
  node-finish done t (Some (Apply op left (Some right))) = refl

  left-finish : (done : List TermId) (k : Task) → IsTerm nodes (task_term k) → finish nodes (tasks_left nodes done k) (terms_after done k) ≡ finish nodes (k ∷ []) done
  unfolding finish
  left-finish done (Emit t) inside = refl
  left-finish done (Enter t) inside = go (has_term done t) ∙ sym (visit_is nodes formed done t inside)
    where
      go : (b : Bool) → finish nodes (if b then [] else node_tasks t (node_at nodes t)) done ≡ (if b then done else visit_node (visit (length nodes) nodes) done t (node_at nodes t))
      go true = refl
      go false = node-finish done t (node_at nodes t)

  -- a task and those that it leaves come to the same terms
  pub task-finish : (done : List TermId) (k : Task) (rest : List Task) → IsTerm nodes (task_term k)
      → finish nodes (tasks_left nodes done k ++ rest) (terms_after done k) ≡ finish nodes (k ∷ rest) done
  task-finish done k rest inside =
      finish-append nodes (tasks_left nodes done k) rest (terms_after done k)
      ∙ ap (finish nodes rest) (left-finish done k inside)
      ∙ sym (finish-append nodes (k ∷ []) rest done)

  left-tasks : (done : List TermId) (k : Task) → IsTerm nodes (task_term k) → AreTasks nodes (tasks_left nodes done k)
  unfolding AreTasks
  left-tasks done (Emit t) inside = tt
  left-tasks done (Enter t) inside = go (has_term done t)
    where
      node-fits : (n : Option Node) → node_at nodes t ≡ n → AreTasks nodes (node_tasks t n)
      node-fits None e = tt
      node-fits (Some (Const c)) e = tt
      node-fits (Some (Var v kind)) e = tt
      node-fits (Some (Apply op left None)) e = (omega (arith, first-before nodes t op left None formed e), (inside, tt))
      node-fits (Some (Apply op left (Some right))) e =
          (omega (arith, first-before nodes t op left (Some right) formed e), (omega (arith, second-before nodes t op left right formed e), (inside, tt)))

      go : (b : Bool) → AreTasks nodes (if b then [] else node_tasks t (node_at nodes t))
      go true = tt
      go false = node-fits (node_at nodes t) refl

  pub task-tasks : (done : List TermId) (k : Task) (rest : List Task) → IsTerm nodes (task_term k) → AreTasks nodes rest → AreTasks nodes (tasks_left nodes done k ++ rest)
  task-tasks done k rest inside h = AreTasks-append nodes (tasks_left nodes done k) rest (left-tasks done k inside) h

  left-weight : (done : List TermId) (k : Task) → weight (tasks_left nodes done k) < task_weight k
  unfolding weight task_weight
  left-weight done (Emit t) = omega arith
  left-weight done (Enter t) = go (has_term done t)
    where
      node-less : (n : Option Node) → node_at nodes t ≡ n → weight (node_tasks t n) < 3 ^ (t.0 + 1)
      node-less None e = power-positive (t.0 + 1)
      node-less (Some (Const c)) e = power-positive (t.0 + 1)
      node-less (Some (Var v kind)) e = power-positive (t.0 + 1)
      node-less (Some (Apply op left None)) e =
          let below : left.0 < t.0 = first-before nodes t op left None formed e in
          omega (arith, two-powers left.0 left.0 t.0 below below)
      node-less (Some (Apply op left (Some right))) e =
          omega (arith, two-powers left.0 right.0 t.0 (first-before nodes t op left (Some right) formed e) (second-before nodes t op left right formed e))

      go : (b : Bool) → weight (if b then [] else node_tasks t (node_at nodes t)) < 3 ^ (t.0 + 1)
      go true = power-positive (t.0 + 1)
      go false = node-less (node_at nodes t) refl

  pub task-weight : (done : List TermId) (k : Task) (rest : List Task) → weight (tasks_left nodes done k ++ rest) < weight (k ∷ rest)
  unfolding weight
  task-weight done k rest = omega (arith, weight-append (tasks_left nodes done k) rest, left-weight done k)

-- ---- the walk's loop, whose tasks stand in a stack

popped : (tasks rest : List Task) (k : Task) → tasks ≡ rest ++ k ∷ [] → reverse tasks ≡ k ∷ reverse rest
popped tasks rest k e = ap reverse e ∙ reverse-append rest (k ∷ [])

pub starts : (nodes : List Node) (root : TermId) (done : List TermId) (old tasks : List Task) → IsTerm nodes root → old ≡ [] → tasks ≡ old ++ Enter root ∷ []
    → AreTasks nodes (reverse tasks) × (finish nodes (reverse tasks) done ≡ visit (length nodes) nodes done root)
unfolding AreTasks finish
starts nodes root done old tasks inside idle pushed =
    let e : tasks ≡ Enter root ∷ [] = pushed ∙ ap (λ ks. ks ++ Enter root ∷ []) idle in
    (subst (λ ks. AreTasks nodes (reverse ks)) (sym e) (inside, tt), ap (λ ks. finish nodes (reverse ks) done) e)

pub top_is_term : (nodes : List Node) (tasks rest : List Task) (k : Task) → tasks ≡ rest ++ k ∷ [] → AreTasks nodes (reverse tasks) → IsTerm nodes (task_term k)
unfolding AreTasks
top_is_term nodes tasks rest k e h = (subst (AreTasks nodes) (popped tasks rest k e) h).0

pub turn : (nodes : List Node) (tasks rest new : List Task) (k : Task) (done after all : List TermId) → IsPool nodes
    → tasks ≡ rest ++ k ∷ [] → reverse new ≡ tasks_left nodes done k ++ reverse rest → after ≡ terms_after done k
    → AreTasks nodes (reverse tasks) × (finish nodes (reverse tasks) done ≡ all) → AreTasks nodes (reverse new) × (finish nodes (reverse new) after ≡ all)
unfolding AreTasks
turn nodes tasks rest new k done after all formed e left terms h =
    let ks : reverse tasks ≡ k ∷ reverse rest = popped tasks rest k e in
    let both : AreTasks nodes (k ∷ reverse rest) = subst (AreTasks nodes) ks h.0 in (
      subst (AreTasks nodes) (sym left) (task-tasks nodes formed done k (reverse rest) both.0 both.1),
      ap (λ xs. finish nodes xs after) left ∙ ap (finish nodes (tasks_left nodes done k ++ reverse rest)) terms
          ∙ task-finish nodes formed done k (reverse rest) both.0 ∙ ap (λ xs. finish nodes xs done) (sym ks) ∙ h.1,
    )

pub turn-smaller : (nodes : List Node) (tasks rest new : List Task) (k : Task) (done : List TermId) → IsPool nodes
    → tasks ≡ rest ++ k ∷ [] → reverse new ≡ tasks_left nodes done k ++ reverse rest → weight (reverse new) < weight (reverse tasks)
turn-smaller nodes tasks rest new k done formed e left =
    omega (arith, ap weight left, ap weight (popped tasks rest k e), task-weight nodes formed done k (reverse rest))

pub ends : (nodes : List Node) (tasks rest : List Task) (done all : List TermId) → tasks ≡ rest ++ [] → length rest ≡ 0 → finish nodes (reverse tasks) done ≡ all → done ≡ all
unfolding finish
ends nodes tasks [] done all e none h = sym (ap (λ ks. finish nodes (reverse ks) done) e) ∙ h
ends nodes tasks (k ∷ ks) done all e none h = absurd (omega (arith, none))
