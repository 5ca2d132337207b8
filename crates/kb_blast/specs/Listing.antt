-- What the lists that are made on the way to a formula are.
use Rattle.std.specs.Prelude.{ℕ, List, ◌++◌, map, Option, Some, None}
use Rattle.std.specs.Ordering.{nat_cmp}
use Rattle.std.specs.BTreeMap.{insert_entry}
use Rattle.kb_chain.specs.Literal.{Literal}
use Rattle.kb_chain.specs.Cnf.{Cnf}
use Rattle.kb_terms.specs.declared.node.TermId.{TermId}
use Rattle.kb_terms.specs.declared.node.VarKind.{VarKind}
use Rattle.kb_terms.specs.declared.node.Node.{Node}
use Rattle.kb_terms.specs.declared.node.Node.TheVariants.{Const, Var, Op as Apply}
use Rattle.kb_terms.specs.Terms.{node_at}
use Rattle.kb_blast.specs.Conditions.{Words}

-- the kinds by number, with that of a node that is a variable
abbrev pub noted : List (ℕ × VarKind) → Option Node → List (ℕ × VarKind)
noted kinds (Some (Const c)) = kinds
noted kinds (Some (Var v kind)) = insert_entry nat_cmp kinds v kind
noted kinds (Some (Apply op left right)) = kinds
noted kinds None = kinds

-- and with that of a term, where there is one
abbrev pub noted_all : List Node → List (ℕ × VarKind) → Option TermId → List (ℕ × VarKind)
noted_all nodes kinds (Some t) = noted kinds (node_at nodes t)
noted_all nodes kinds None = kinds

-- the numbers of numbered things
abbrev pub numbers_of : {A : Type 0} → List (ℕ × A) → List ℕ
numbers_of xs = map (λ x. x.0) xs

abbrev pub literals_of : Words → List (List Literal)
literals_of words = map (λ w. w.1) words

-- words in front of what is left to make
abbrev pub words_in_front : Words → Words × Cnf → Words × Cnf
words_in_front words out = (words ++ out.0, out.1)
