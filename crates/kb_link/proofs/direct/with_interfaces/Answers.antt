use Rattle.std.proofs.Common.{◌≡◌, ◌++◌, ◌∷◌, ◌+◌, [], List, ℕ, take, drop, sym, ap, ◌∙◌, subst, append_assoc}
use Rattle.kb_classes.specs.Subtypes.{numbers_of}
use Rattle.kb_classes.specs.Rules.{IsFirst, IsNoneSuch, IsMissing}
use Rattle.kb_link.specs.Stops.{StopsAtMissing}
use Rattle.kb_link.proofs.Above.{numbers_more}
use Rattle.kb_classes.proofs.Firsts.{handed_on, first_before, first_behind, none_joined}
use Rattle.kb_classes.proofs.Walks.{taken_next, cut_at}
use Rattle.kb_link.proofs.Claiming.{stops_missing}
use Rattle.kb_link.proofs.direct.with_interfaces.Goals as goal

pub returns-in_err-numbers-clause-refused : goal.returns-in_err-numbers-clause-refused
returns-in_err-numbers-clause-refused c =
    let classes = c.args.classes.now in
    let names = c.args.class.now.interfaces in
    let place = c.loop-place.place in
    let name = c.interface_at-name.result.now in
    let refusal = c.in_err-numbers.field-0.0 in
    handed_on (StopsAtMissing classes names) c.from_residual.result refusal c.from_residual.ensures.1
    (stops_missing classes (name ∷ []) names refusal
    (λ n first.
    subst (λ (ns : List (List ℕ)). IsFirst (IsMissing classes) ns n) (sym (cut_at names place name c.interface_at-name.ensures))
    (first_before (IsMissing classes) (take place names ++ name ∷ []) (drop (place + 1) names) n
    (first_behind (IsMissing classes) (take place names) (name ∷ []) n c.loop-place.invariant.1 first)))
    c.in_err-numbers.ensures.refused)

pub loop-place-preserved : goal.loop-place-preserved
loop-place-preserved c =
    let classes = c.args.classes.now in
    let names = c.args.class.now.interfaces in
    let place = c.loop-place.place in
    let name = c.interface_at-name.result.now in
    let next : take (place + 1) names ≡ take place names ++ name ∷ [] = taken_next names place name c.interface_at-name.ensures in
    let one = c.in_ok-numbers.ensures.one in (
      one.0
          ∙ ap (λ (ns : List ℕ). ns ++ numbers_of classes (name ∷ [])) c.loop-place.invariant.0
          ∙ append_assoc c.args.numbers (numbers_of classes (take place names)) (numbers_of classes (name ∷ []))
          ∙ ap (λ (ns : List ℕ). c.args.numbers ++ ns) (sym (numbers_more classes (take place names) (name ∷ [])))
          ∙ ap (λ (ns : List (List ℕ)). c.args.numbers ++ numbers_of classes ns) (sym next),
      subst (IsNoneSuch (IsMissing classes)) (sym next) (none_joined (IsMissing classes) (take place names) (name ∷ []) c.loop-place.invariant.1 one.1),
    )
