use Rattle.std.proofs.Common.{◌↔◌, [], List, ℕ, subst}
use Rattle.kb_class.specs.Naming.{Has}
use Rattle.kb_classes.specs.Mentions.{AddsTexts, AnyOf, IsPartOf, IsOwnPartOf}
use Rattle.kb_classes.proofs.Firsts.{on_if}
use Rattle.kb_classes.proofs.OwnParts.{own_set}
use Rattle.kb_classes.proofs.universe.arrays_in.Goals as goal

pub returns-clause-same : goal.returns-clause-same
returns-clause-same c =
    let classes = c.args.classes.now in
    let named = c.args.named.now in
    on_if c.set_of.result (λ (set : List (List ℕ)). (text : List ℕ) → Has set text ↔ Has c.in_ok-texts.texts.items text)
    (λ (set : List (List ℕ)). (text : List ℕ) → Has set text ↔ AnyOf (IsPartOf classes) named text)
    (λ set same. own_set classes named c.in_ok-texts.texts.items set
    (subst (λ (ts : List (List ℕ)). AddsTexts [] c.in_ok-texts.texts.items (AnyOf (IsOwnPartOf classes named) ts)) c.as_slice.ensures.value c.in_ok-texts.ensures) same)
    c.set_of.ensures.same
