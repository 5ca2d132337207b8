-- Clauses within variables.
use Rattle.std.proofs.Common.{ℕ, ◌≤◌, List, [], ◌∷◌, arith, refl}
use Rattle.std.proofs.lemmas.Bool.{and_parts, and_from, leb-true, le-leb}
use Rattle.kb_chain.specs.Literal.{Literal}
use Rattle.kb_chain.specs.Cnf.{IsWithin, AllWithin}

pub IsWithin_more : (m n : ℕ) (clause : List Literal) → m ≤ n → IsWithin m clause → IsWithin n clause
IsWithin_more m n [] le h = refl
IsWithin_more m n (l ∷ ls) le h =
    let p = and_parts _ _ h in
    let below : l.variable ≤ m = leb-true _ _ p.0 in
    and_from _ _ (le-leb l.variable n (omega arith)) (IsWithin_more m n ls le p.1)

pub AllWithin_more : (m n : ℕ) (clauses : List (List Literal)) → m ≤ n → AllWithin m clauses → AllWithin n clauses
AllWithin_more m n [] le h = refl
AllWithin_more m n (clause ∷ clauses) le h =
    let p = and_parts _ _ h in
    and_from _ _ (IsWithin_more m n clause le p.0) (AllWithin_more m n clauses le p.1)
