use Rattle.std.proofs.Common.{◌↔◌, List, ℕ, subst}
use Rattle.kb_class.specs.Class.{Class}
use Rattle.kb_class.specs.Naming.{Has}
use Rattle.kb_classes.specs.Mentions.{AnyOf, IsTextGiven}
use Rattle.kb_classes.proofs.universe.universe_of.Goals as goal

pub universe_with-requires : goal.universe_with-requires
universe_with-requires c = (
  c.in_ok-named.ensures.rises,
  c.in_ok-arrays.ensures.rises,
  subst (λ (cs : List Class). (text : List ℕ) → Has c.in_ok-named.named text ↔ AnyOf IsTextGiven cs text) c.as_slice.ensures.same c.in_ok-named.ensures.same,
  c.in_ok-arrays.ensures.same,
)
