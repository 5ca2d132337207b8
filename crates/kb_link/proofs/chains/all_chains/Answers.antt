use Rattle.std.proofs.Common.{◌≡◌, ◌∷◌, ◌+◌, [], List, ℕ, Option, Some, suc, length, sym, ap, ◌∙◌, subst, arith}
use Rattle.std.proofs.lemmas.List.{length-append}
use Rattle.kb_order.specs.Order.{HasNoCircle}
use Rattle.kb_classes.specs.Subtypes.{direct_supers}
use Rattle.kb_link.specs.ChainWalks.{parent_at, walk, AreWalks}
use Rattle.kb_link.proofs.Above.{walks_pushed, walks_are_chains, direct_many}
use Rattle.kb_link.proofs.chains.all_chains.Goals as goal

pub loop-number-preserved : goal.loop-number-preserved
loop-number-preserved c =
    let parents = c.in_ok-parents.parents.items in
    let same = c.as_slice.ensures.value in
    let chains = c.loop-number.chains.items in
    let number = c.loop-number.number in
    let items = c.in_ok-push.ensures.items in
    let next : c.rank.result + 1 ≡ suc c.rank.result = omega arith in
    let chain : c.in_ok-chain.chain ≡ walk (parent_at parents) (suc c.rank.result) (Some number) =
    c.in_ok-chain.ensures ∙ ap (λ (ps : List (Option ℕ)). walk (parent_at ps) (c.rank.result + 1) (Some number)) same ∙ ap (λ (n : ℕ). walk (parent_at parents) n (Some number)) next in
    subst (λ (cs : List (List ℕ)). AreWalks c.args.order.now (parent_at parents) cs × (length cs ≡ number + 1)) (sym items) (
      walks_pushed c.args.order.now (parent_at parents) chains c.in_ok-chain.chain number c.rank.result c.loop-number.invariant.1 c.loop-number.invariant.0 c.rank.ensures.rank chain,
      length-append chains (c.in_ok-chain.chain ∷ []) ∙ ap (λ (n : ℕ). n + 1) c.loop-number.invariant.1,
    )

pub returns : goal.returns
returns c =
    let classes = c.args.classes.now in
    let parents = c.in_ok-parents.parents.items in
    let chains = c.loop-number.chains.items in
    let apart : HasNoCircle (direct_supers classes) = c.requires.1 in
    let count = c.len-number-end.ensures.count in
    let ordered : length c.args.order.now ≡ length classes = ap length c.requires.0 ∙ direct_many classes in
    let many : length chains ≡ length classes = (let counted = c.loop-number.invariant.1 in let low = c.loop-number-test.false in let high = c.loop-number.auto.number-end in omega (arith, count, ordered, counted, low, high)) in
    let walks : AreWalks (direct_supers classes) (parent_at parents) chains = subst (λ (direct : List (List ℕ)). AreWalks direct (parent_at parents) chains) c.requires.0 c.loop-number.invariant.0 in
    walks_are_chains classes parents c.in_ok-parents.ensures apart
    (λ number inside. (let w = walks number (omega (arith, many, inside)) in (w.0, w.1)))
    chains many walks
