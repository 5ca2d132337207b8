use Rattle.std.proofs.Common.{◌≡◌, sym, subst, ◌∙◌, OnOk}
use Rattle.kb_terms.specs.contracts.node.TermIdPartialEq.TheImpl.{eq-value}
use Rattle.indexmap.specs.IndexMap.{insert_entry}
use Rattle.kb_numbered.proofs.TruthLaws.{added}
use Rattle.kb_numbered.proofs.conditions.Conditions.add.Goals as goal

pub invariant_of-self-2 : goal.invariant_of-self-2
invariant_of-self-2 c =
    let before = c.reserve.new.self.entries in
    let inserted : c.insert.new.self.entries ≡ insert_entry eq-value.it before c.args.term c.args.truth =
    subst (λ r. OnOk r (c.insert.new.self.entries ≡ insert_entry eq-value.it before c.args.term c.args.truth)) c.unwrap.ensures c.insert.ensures.entries in
    added eq-value.it c.args.term c.args.truth c.self.inside.truths.entries c.self.inside.list c.push.new.self c.insert.new.self.entries
    c.self.invariant
    (sym c.contains_key.ensures ∙ c.if-contains_key.false)
    (subst (λ es. c.insert.new.self.entries ≡ insert_entry eq-value.it es c.args.term c.args.truth) c.in_ok-reserve.ensures.entries inserted)
    c.in_ok-push.ensures.ok
