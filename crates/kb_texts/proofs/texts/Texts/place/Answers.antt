use Rattle.std.proofs.Common.{List, ℕ, sym, ap, ◌∙◌, subst}
use Rattle.kb_texts.specs.Texts.{with_text, Keeps, AreDistinct}
use Rattle.kb_texts.proofs.TextLaws.{items_of, distinct_more, keeps_more, key_added, key_there}
use Rattle.kb_texts.proofs.texts.Texts.place.Goals as goal

pub returns-clause-texts : goal.returns-clause-texts
returns-clause-texts c =
    ap items_of c.in_ok-place.ensures.keys
    ∙ key_added c.self.inside.set.keys c.in_ok-key.key c.args.bytes.now c.in_ok-key.ensures
    ∙ ap (λ (t : List (List ℕ)). with_text t c.args.bytes.now) c.self.view_is

pub invariant_of-self-2 : goal.invariant_of-self-2
invariant_of-self-2 c =
    subst AreDistinct (sym (ap items_of c.in_ok-place.ensures.keys ∙ key_added c.self.inside.set.keys c.in_ok-key.key c.args.bytes.now c.in_ok-key.ensures))
    (distinct_more (items_of c.self.inside.set.keys) c.args.bytes.now c.self.invariant)

pub returns-clause-distinct : goal.returns-clause-distinct
returns-clause-distinct c =
    subst AreDistinct (sym (ap items_of c.in_ok-place.ensures.keys ∙ key_added c.self.inside.set.keys c.in_ok-key.key c.args.bytes.now c.in_ok-key.ensures))
    (distinct_more (items_of c.self.inside.set.keys) c.args.bytes.now c.self.invariant)

pub returns-clause-place : goal.returns-clause-place
returns-clause-place c =
    key_there c.insert_full.new.self.keys c.in_ok-key.key c.in_ok-place.ensures.stored.0 c.args.bytes.now c.in_ok-place.place c.in_ok-key.ensures c.in_ok-place.ensures.stored.1
    c.in_ok-place.ensures.stored.2

pub returns-clause-keeps : goal.returns-clause-keeps
returns-clause-keeps c =
    subst (Keeps c.args.self.now)
    (sym (ap items_of c.in_ok-place.ensures.keys
    ∙ key_added c.self.inside.set.keys c.in_ok-key.key c.args.bytes.now c.in_ok-key.ensures
    ∙ ap (λ (t : List (List ℕ)). with_text t c.args.bytes.now) c.self.view_is))
    (keeps_more c.args.self.now c.args.bytes.now)
