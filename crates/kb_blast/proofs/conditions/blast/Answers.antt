use Rattle.std.proofs.Common.{◌≡◌, ◌∙◌, sym, ap, subst}
use Rattle.kb_chain.specs.Cnf.{Cnf}
use Rattle.kb_terms.specs.Terms.{AreTerms, IsPool, variables_of}
use Rattle.kb_terms.specs.Numbering.{numbering, IsNumbering}
use Rattle.kb_blast.specs.Query.{listed, kinds_of, numbered_conditions, query_of, roots_of, is_comparison}
use Rattle.kb_blast.specs.Conditions.{Words, occurring, with_kinds, blasted}
use Rattle.kb_blast.specs.Meaning.{IsRising, MeetsInPool, SaysExactly, AreReadable}
use Rattle.kb_blast.specs.Listing.{numbers_of}
use Rattle.kb_blast.proofs.Listed.{occurring-rising}
use Rattle.kb_blast.proofs.Saying.{numbers-with_kinds}
use Rattle.kb_blast.proofs.Pooled.{all-any, are-terms, pool-meets, pool-says, pool-readable}
use Rattle.kb_blast.proofs.conditions.blast.Goals as goal
use Rattle.kb_blast.proofs.conditions.blast.Goals.{After-drop-roots-2}

pub numbering-requires : goal.numbering-requires
numbering-requires c =
    let nodes = c.args.pool.now in
    subst (AreTerms nodes) (sym (c.deref.ensures.value ∙ c.in_ok-roots.ensures)) (are-terms nodes is_comparison (roots_of c.args.when.now) c.requires)

pub listed-requires : goal.listed-requires
listed-requires c = all-any c.args.pool.now c.in_ok-numbering.numbering c.in_ok-numbering.ensures.numbered.operation

pub built-requires : goal.built-requires
built-requires c =
    let terms = c.in_ok-listing.listing.terms.items in
    subst (λ kinds. IsRising (numbers_of kinds)) (sym c.in_ok-listing.ensures.kinds)
    (subst IsRising (sym (numbers-with_kinds (kinds_of c.args.pool.now) (occurring terms))) (occurring-rising terms))

whole : (c : After-drop-roots-2) → (c.in_ok-blasted.blasted.vars, c.in_ok-blasted.blasted.formula) ≡ blasted (query_of c.args.pool.now c.args.when.now)
whole c =
    let nodes = c.args.pool.now in
    let when = c.args.when.now in
    let order : c.in_ok-numbering.numbering ≡ numbering nodes (roots_of when) =
    c.in_ok-numbering.ensures.order ∙ ap (numbering nodes) (c.deref.ensures.value ∙ c.in_ok-roots.ensures) in
    let terms : c.in_ok-listing.listing.terms.items ≡ listed nodes (numbering nodes (roots_of when)) (numbering nodes (roots_of when)) =
    c.in_ok-listing.ensures.terms ∙ ap (λ m. listed nodes m m) order in
    c.in_ok-blasted.ensures (query_of nodes when)
    (c.in_ok-listing.ensures.kinds ∙ ap (λ ts. with_kinds (kinds_of nodes) (occurring ts)) terms) terms
    (ap (λ m. numbered_conditions m when) order)

formula-is : (c : After-drop-roots-2) → c.in_ok-blasted.blasted.formula ≡ (blasted (query_of c.args.pool.now c.args.when.now)).1
formula-is c = ap (λ (r : Words × Cnf). r.1) (whole c)

vars-are : (c : After-drop-roots-2) → c.in_ok-blasted.blasted.vars ≡ (blasted (query_of c.args.pool.now c.args.when.now)).0
vars-are c = ap (λ (r : Words × Cnf). r.0) (whole c)

formed-pool : (c : After-drop-roots-2) → IsPool c.args.pool.now
formed-pool c = subst IsPool c.nodes-nodes.ensures.nodes c.nodes-nodes.ensures.formed

is-numbering : (c : After-drop-roots-2) → IsNumbering c.args.pool.now (roots_of c.args.when.now) (numbering c.args.pool.now (roots_of c.args.when.now))
is-numbering c =
    let nodes = c.args.pool.now in
    let roots : c.deref.result.now ≡ roots_of c.args.when.now = c.deref.ensures.value ∙ c.in_ok-roots.ensures in
    subst (λ rs. IsNumbering nodes rs (numbering nodes rs)) roots (subst (IsNumbering nodes c.deref.result.now) c.in_ok-numbering.ensures.order c.in_ok-numbering.ensures.numbered)

pub returns-clause-formula : goal.returns-clause-formula
returns-clause-formula c = formula-is c

pub returns-clause-vars : goal.returns-clause-vars
returns-clause-vars c = vars-are c

pub returns-clause-law : goal.returns-clause-law
returns-clause-law c =
    let nodes = c.args.pool.now in
    let when = c.args.when.now in
    subst (λ vars. SaysExactly vars c.in_ok-blasted.blasted.formula (MeetsInPool nodes when)) (sym (vars-are c))
    (subst (λ f. SaysExactly (blasted (query_of nodes when)).0 f (MeetsInPool nodes when)) (sym (formula-is c))
    (pool-says nodes when (formed-pool c) c.requires (is-numbering c)))

pub returns-clause-listed : goal.returns-clause-listed
returns-clause-listed c = pool-meets c.args.pool.now c.args.when.now (formed-pool c) c.requires (is-numbering c)

pub returns-clause-readable : goal.returns-clause-readable
returns-clause-readable c =
    let nodes = c.args.pool.now in
    let when = c.args.when.now in
    subst (AreReadable c.in_ok-blasted.blasted.formula.vars (variables_of nodes)) (sym (vars-are c))
    (subst (λ f. AreReadable f.vars (variables_of nodes) (blasted (query_of nodes when)).0) (sym (formula-is c))
    (pool-readable nodes when (formed-pool c) c.requires (is-numbering c)))
