use Rattle.std.proofs.Common.{◌≡◌, length, ap, ◌∙◌, arith}
use Rattle.kb_classes.specs.World.{World, methods_in}
use Rattle.kb_classes.proofs.MethodNumbers.{same_lengths}
use Rattle.kb_link.proofs.linked.Linked.method_count.Goals as goal

pub returns : goal.returns
returns c =
    let many : length c.self.inside.places.items ≡ length (methods_in c.args.self.now.classes) =
    same_lengths c.self.inside.classes c.self.inside.places.items c.self.invariant.2 ∙ ap (λ (w : World). length (methods_in w.classes)) c.self.view_is in
    let told = c.len.ensures in
    omega (arith, told, many)
