-- The walk that numbers terms, as a list of tasks, the next one first.
use Rattle.std.specs.Prelude.{List, [], ◌∷◌, Option, Some, None, if◌then◌else◌}
use Rattle.kb_terms.specs.declared.node.TermId.{TermId}
use Rattle.kb_terms.specs.declared.node.Node.{Node}
use Rattle.kb_terms.specs.declared.node.Node.TheVariants.{Const, Var, Op as Apply}
use Rattle.kb_terms.specs.declared.numbering.Task.{Task}
use Rattle.kb_terms.specs.declared.numbering.Task.TheVariants.{Enter, Emit}
use Rattle.kb_terms.specs.Terms.{node_at}
use Rattle.kb_terms.specs.Numbering.{has_term, with_term}

-- the term of a task
abbrev pub task_term : Task → TermId
task_term (Enter t) = t
task_term (Emit t) = t

-- the tasks of a term with this node: its operands, the left one first, and then itself
abbrev pub node_tasks : TermId → Option Node → List Task
node_tasks t None = []
node_tasks t (Some (Const c)) = []
node_tasks t (Some (Var v kind)) = []
node_tasks t (Some (Apply op left None)) = Enter left ∷ Emit t ∷ []
node_tasks t (Some (Apply op left (Some right))) = Enter left ∷ Enter right ∷ Emit t ∷ []

-- the tasks that a task leaves in its place
abbrev pub tasks_left : List Node → List TermId → Task → List Task
tasks_left nodes done (Enter t) = if has_term done t then [] else node_tasks t (node_at nodes t)
tasks_left nodes done (Emit t) = []

-- the terms after a task
abbrev pub terms_after : List TermId → Task → List TermId
terms_after done (Enter t) = done
terms_after done (Emit t) = with_term done t
