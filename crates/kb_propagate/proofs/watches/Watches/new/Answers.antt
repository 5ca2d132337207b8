use Rattle.std.proofs.Common.{◌≡◌, ◌+◌, ◌∙◌, ap, sym, subst, length, arith, ◌++◌, ◌∷◌, []}
use Rattle.std.proofs.lemmas.List.{length_push}
use Rattle.kb_propagate.specs.Watches.{AreEmpty}
use Rattle.kb_propagate.proofs.BeginLaws.{AreEmpty-push}
use Rattle.kb_propagate.proofs.watches.Watches.new.Goals as goal

pub loop-place-preserved : goal.loop-place-preserved
loop-place-preserved c =
    let after : c.push.new.self.items ≡ c.loop-place.lists.items ++ c.new.result ∷ [] = c.in_ok-push.ensures.items in
    let more : length c.push.new.self.items ≡ length c.loop-place.lists.items + 1 = ap length after ∙ length_push c.loop-place.lists.items c.new.result in
    let count : length c.loop-place.lists.items ≡ c.loop-place._place = c.loop-place.invariant.places in
    record {
      places = omega (arith, more, count);
      empty = subst (λ z. AreEmpty z) (sym after) (AreEmpty-push c.loop-place.lists.items c.new.result c.loop-place.invariant.empty c.new.ensures);
    }
