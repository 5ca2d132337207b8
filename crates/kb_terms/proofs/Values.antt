-- The values of terms: of each node, and as the pool grows.
use Rattle.std.proofs.Common.{◌≡◌, ℕ, suc, ◌+◌, ◌<◌, ◌≤◌, ℤ, pos, List, [], ◌∷◌, ◌++◌, length, take, drop, fold, Option, Some, None, refl, sym, ap, subst, ◌∙◌, arith, length-append}
use Rattle.std.proofs.lemmas.List.Sums.{fold-append}
use Rattle.std.proofs.lemmas.List.{take-append-drop, take-append-le}
use Rattle.std.proofs.Math.ListN.{get_or-append}
use Rattle.kb_terms.specs.declared.op.Op.{Op}
use Rattle.kb_terms.specs.declared.node.TermId.{TermId}
use Rattle.kb_terms.specs.declared.node.VarKind.{VarKind}
use Rattle.kb_terms.specs.declared.node.Node.{Node}
use Rattle.kb_terms.specs.declared.node.Node.TheVariants.{Const, Var, Op as Apply}
use Rattle.kb_terms.specs.Op.{is_binary, op_value}
use Rattle.kb_terms.specs.Terms.{IsTerm, node_at, IsSecond, AreOperands, IsPool, Extends, HasNode, int_at, second_value, node_value, values, value_of, operand_value, AreTerms, values_of, made_node, folded, constant_at, constant_of, second_constant}
use Rattle.kb_terms.proofs.Growth.{extends-same}
use Rattle.kb_terms.proofs.Entries.{split_at}
use Rattle.std.proofs.lemmas.Option.{slice_get_within}
use Rattle.std.proofs.Math.Seq.{get_or-append_seam}
use Rattle.std.proofs.Common.{length-take, Bool, true, false, Result, Ok, Err, IfOk}

-- the values with that of one more node
abbrev pub with_value : List ℤ → List ℤ → Node → List ℤ
with_value inputs done node = done ++ node_value inputs done node ∷ []

length-run : (inputs done : List ℤ) (nodes : List Node) → length (fold (with_value inputs) done nodes) ≡ length done + length nodes
length-run inputs done [] = omega arith
length-run inputs done (n ∷ ns) = omega (arith, length-run inputs (with_value inputs done n) ns, length-append done (node_value inputs done n ∷ []))

int_at-run : (inputs done : List ℤ) (nodes : List Node) (i : ℕ) → i < length done → int_at (fold (with_value inputs) done nodes) i ≡ int_at done i
int_at-run inputs done [] i h = refl
int_at-run inputs done (n ∷ ns) i h =
    int_at-run inputs (with_value inputs done n) ns i (omega (arith, length-append done (node_value inputs done n ∷ [])))
    ∙ get_or-append done (node_value inputs done n ∷ []) (pos 0) i h

pub length-values : (inputs : List ℤ) (nodes : List Node) → length (values inputs nodes) ≡ length nodes
unfolding values
length-values inputs nodes = omega (arith, length-run inputs [] nodes)

pub values-append : (inputs : List ℤ) (nodes more : List Node) → values inputs (nodes ++ more) ≡ fold (with_value inputs) (values inputs nodes) more
unfolding values
values-append inputs nodes more = fold-append (with_value inputs) [] nodes more

-- the value of a term stays as it is when more terms come after it
pub int_at-values-append : (inputs : List ℤ) (nodes more : List Node) (i : ℕ) → i < length nodes → int_at (values inputs (nodes ++ more)) i ≡ int_at (values inputs nodes) i
int_at-values-append inputs nodes more i h =
    ap (λ vs. int_at vs i) (values-append inputs nodes more)
    ∙ int_at-run inputs (values inputs nodes) more i (omega (arith, length-values inputs nodes))

-- a term keeps its value as the pool grows
pub value_of-extends : (old new : List Node) (t : TermId) (inputs : List ℤ) → Extends old new → IsTerm old t → value_of new t inputs ≡ value_of old t inputs
unfolding value_of
value_of-extends old new t inputs e h =
    let parts : new ≡ old ++ drop (length old) new = sym (take-append-drop (length old) new) ∙ ap (λ xs. xs ++ drop (length old) new) e.kept in
    ap (λ ns. int_at (values inputs ns) t.0) parts ∙ int_at-values-append inputs old (drop (length old) new) t.0 h

-- a term stays a term, and so do those of a stack, with their values
pub IsTerm-extends : (old new : List Node) (t : TermId) → Extends old new → IsTerm old t → IsTerm new t
IsTerm-extends old new t e h = omega (arith, h, ap length e.kept, length-take (length old) new)

pub AreTerms-extends : (old new : List Node) (ts : List TermId) → Extends old new → AreTerms old ts → AreTerms new ts
AreTerms-extends old new [] e h = tt
AreTerms-extends old new (t ∷ ts) e h = (IsTerm-extends old new t e h.0, AreTerms-extends old new ts e h.1)

pub values_of-extends : (old new : List Node) (ts : List TermId) (inputs : List ℤ) → Extends old new → AreTerms old ts → values_of new ts inputs ≡ values_of old ts inputs
values_of-extends old new [] inputs e h = refl
values_of-extends old new (t ∷ ts) inputs e h = (λ j. value_of-extends old new t inputs e h.0 j ∷ values_of-extends old new ts inputs e h.1 j)

-- a pool extends itself, and extends what an earlier pool of it extends
pub Extends-refl : (nodes : List Node) → Extends nodes nodes
Extends-refl nodes = extends-same nodes nodes refl

pub Extends-trans : (a b c : List Node) → Extends a b → Extends b c → Extends a c
Extends-trans a b c e f =
    let within : length a ≤ length b = omega (arith, ap length e.kept, length-take (length a) b) in
    let parts : c ≡ b ++ drop (length b) c = sym (take-append-drop (length b) c) ∙ ap (λ xs. xs ++ drop (length b) c) f.kept in
    record { kept = ap (take (length a)) parts ∙ take-append-le (length a) b (drop (length b) c) within ∙ e.kept }

-- the value of a term, from its node and the values before it
pub value_of-node : (nodes : List Node) (t : TermId) (node : Node) (inputs : List ℤ) → node_at nodes t ≡ Some node
    → value_of nodes t inputs ≡ node_value inputs (values inputs (take t.0 nodes)) node
unfolding value_of
value_of-node nodes t node inputs e =
    let before : List Node = take t.0 nodes in
    let inside : t.0 < length nodes = slice_get_within nodes t.0 node e in
    let count : length before ≡ t.0 = omega (arith, length-take t.0 nodes) in
    let parts : nodes ≡ before ++ node ∷ drop (suc t.0) nodes = sym (split_at nodes t.0 node e) in
    let done : List ℤ = values inputs before in
    let many : length done ≡ t.0 = length-values inputs before ∙ count in
    ap (λ ns. int_at (values inputs ns) t.0) parts
    ∙ ap (λ vs. int_at vs t.0) (values-append inputs before (node ∷ drop (suc t.0) nodes))
    ∙ int_at-run inputs (with_value inputs done node) (drop (suc t.0) nodes) t.0 (omega (arith, length-append done (node_value inputs done node ∷ [])))
    ∙ subst (λ i. int_at (done ++ node_value inputs done node ∷ []) i ≡ node_value inputs done node) many (get_or-append_seam done (node_value inputs done node) [] (pos 0))

-- an entry among the values before term n is the value of its term
pub before-value : (nodes : List Node) (n : ℕ) (l : TermId) (inputs : List ℤ) → n ≤ length nodes → l.0 < n → int_at (values inputs (take n nodes)) l.0 ≡ value_of nodes l inputs
unfolding value_of
before-value nodes n l inputs h below =
    sym (ap (λ ns. int_at (values inputs ns) l.0) (sym (take-append-drop n nodes))
    ∙ int_at-values-append inputs (take n nodes) (drop n nodes) l.0 (omega (arith, length-take n nodes)))

-- a constant's value, and a variable's
pub value_of-constant : (nodes : List Node) (t : TermId) (c : ℤ) (inputs : List ℤ) → node_at nodes t ≡ Some (Const c) → value_of nodes t inputs ≡ c
value_of-constant nodes t c inputs e = value_of-node nodes t (Const c) inputs e

pub value_of-variable : (nodes : List Node) (t : TermId) (v : ℕ) (kind : VarKind) (inputs : List ℤ) → node_at nodes t ≡ Some (Var v kind) → value_of nodes t inputs ≡ int_at inputs v
value_of-variable nodes t v kind inputs e = value_of-node nodes t (Var v kind) inputs e

-- the value of an operation's term is the operation at the values of its operands
second-before : (nodes : List Node) (n : ℕ) (b : Bool) (right : Option TermId) (inputs : List ℤ) → n ≤ length nodes → IsSecond (take n nodes) b right
    → second_value (values inputs (take n nodes)) right ≡ operand_value nodes right inputs
second-before nodes n b None inputs h s = refl
second-before nodes n true (Some r) inputs h s = before-value nodes n r inputs h (omega (arith, length-take n nodes))
second-before nodes n false (Some r) inputs h s = absurd s

pub value_of-operation : (nodes : List Node) (t : TermId) (op : Op) (left : TermId) (right : Option TermId) (inputs : List ℤ) → IsPool nodes → node_at nodes t ≡ Some (Apply op left right)
    → value_of nodes t inputs ≡ op_value op (value_of nodes left inputs) (operand_value nodes right inputs)
value_of-operation nodes t op left right inputs formed e =
    let inside : t.0 < length nodes = slice_get_within nodes t.0 (Apply op left right) e in
    let operands : AreOperands (take t.0 nodes) op left right = (formed.fits t.0 (Apply op left right) e).0 in
    let first : left.0 < t.0 = omega (arith, length-take t.0 nodes, operands.first) in
    value_of-node nodes t (Apply op left right) inputs e
    ∙ ap (λ a. op_value op a (second_value (values inputs (take t.0 nodes)) right)) (before-value nodes t.0 left inputs (omega arith) first)
    ∙ ap (λ b. op_value op (value_of nodes left inputs) b) (second-before nodes t.0 (is_binary op) right inputs (omega arith) operands.second)

-- what a constant's int says of the node
pub constant-node : (n : Option Node) (c : ℤ) → constant_of n ≡ Some c → n ≡ Some (Const c)
constant-node None c e = absurd (cc)
constant-node (Some (Const d)) c e = let s : d ≡ c = cc in ap (λ z. Some (Const z)) s
constant-node (Some (Var v kind)) c e = absurd (cc)
constant-node (Some (Apply op left right)) c e = absurd (cc)

pub value_of-constant_at : (nodes : List Node) (t : TermId) (c : ℤ) (inputs : List ℤ) → constant_at nodes t ≡ Some c → value_of nodes t inputs ≡ c
value_of-constant_at nodes t c inputs e = value_of-constant nodes t c inputs (constant-node (node_at nodes t) c e)

second-constant-value : (nodes : List Node) (right : Option TermId) (c : ℤ) (inputs : List ℤ) → second_constant nodes right ≡ Some c → operand_value nodes right inputs ≡ c
second-constant-value nodes None c inputs e = cc
second-constant-value nodes (Some r) c inputs e = value_of-constant_at nodes r c inputs e

operand_value-extends : (old new : List Node) (b : Bool) (right : Option TermId) (inputs : List ℤ) → Extends old new → IsSecond old b right → operand_value new right inputs ≡ operand_value old right inputs
operand_value-extends old new b None inputs e s = refl
operand_value-extends old new true (Some r) inputs e s = value_of-extends old new r inputs e s
operand_value-extends old new false (Some r) inputs e s = absurd s

-- the value of the term that has the node of an operation, folded or not
pub value_of-made : (old new : List Node) (t : TermId) (op : Op) (left : TermId) (right : Option TermId) (inputs : List ℤ)
    → IsPool new → Extends old new → AreOperands old op left right → node_at new t ≡ Some (made_node old op left right)
    → value_of new t inputs ≡ op_value op (value_of old left inputs) (operand_value old right inputs)
unfolding made_node
value_of-made old new t op left right inputs formed grown operands e = go (constant_at old left) (second_constant old right) refl refl e
  where
    open_case : node_at new t ≡ Some (Apply op left right) → value_of new t inputs ≡ op_value op (value_of old left inputs) (operand_value old right inputs)
    open_case h =
        value_of-operation new t op left right inputs formed h
        ∙ ap (λ a. op_value op a (operand_value new right inputs)) (value_of-extends old new left inputs grown operands.first)
        ∙ ap (λ b. op_value op (value_of old left inputs) b) (operand_value-extends old new (is_binary op) right inputs grown operands.second)

    go : (x y : Option ℤ) → constant_at old left ≡ x → second_constant old right ≡ y → node_at new t ≡ Some (folded op left right x y)
        → value_of new t inputs ≡ op_value op (value_of old left inputs) (operand_value old right inputs)
    go (Some a) (Some b) p q h =
        value_of-constant new t (op_value op a b) inputs h
        ∙ ap (λ z. op_value op z b) (sym (value_of-constant_at old left a inputs p))
        ∙ ap (λ z. op_value op (value_of old left inputs) z) (sym (second-constant-value old right b inputs q))
    go (Some a) None p q h = open_case h
    go None y p q h = open_case h

-- ---- the same of the term that a call gives

pub constant_value : {E : Type 0} (r : Result TermId E) (old new : List Node) (c d : ℤ) → d ≡ c → IfOk r (λ t. HasNode old new t (Const d)) → IfOk r (λ t. (inputs : List ℤ) → value_of new t inputs ≡ c)
constant_value (Ok t) old new c d e h = λ inputs. value_of-constant new t d inputs h.node_is ∙ e
constant_value (Err x) old new c d e h = h

pub made_value : {E : Type 0} (r : Result TermId E) (old new : List Node) (op : Op) (left : TermId) (right : Option TermId) (node : Node)
    → node ≡ made_node old op left right → IsPool new → Extends old new → AreOperands old op left right → IfOk r (λ t. HasNode old new t node)
    → IfOk r (λ t. (inputs : List ℤ) → value_of new t inputs ≡ op_value op (value_of old left inputs) (operand_value old right inputs))
made_value (Ok t) old new op left right node e formed grown operands h = λ inputs. value_of-made old new t op left right inputs formed grown operands (h.node_is ∙ ap Some e)
made_value (Err x) old new op left right node e formed grown operands h = h
