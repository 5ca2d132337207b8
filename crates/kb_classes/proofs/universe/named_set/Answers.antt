use Rattle.std.proofs.Common.{◌↔◌, List, ℕ}
use Rattle.kb_class.specs.Naming.{Has}
use Rattle.kb_classes.specs.Mentions.{AnyOf, IsTextGiven}
use Rattle.kb_classes.proofs.Firsts.{on_if}
use Rattle.kb_classes.proofs.LiteralLaws.{set_is}
use Rattle.kb_classes.proofs.universe.named_set.Goals as goal

pub returns-clause-same : goal.returns-clause-same
returns-clause-same c =
    on_if c.set_of.result (λ (set : List (List ℕ)). (text : List ℕ) → Has set text ↔ Has c.in_ok-texts.texts.items text) (λ (set : List (List ℕ)). (text : List ℕ) → Has set text ↔ (AnyOf IsTextGiven c.args.classes.now) text)
    (λ set same. set_is c.in_ok-texts.texts.items set (AnyOf IsTextGiven c.args.classes.now) c.in_ok-texts.ensures same) c.set_of.ensures.same
