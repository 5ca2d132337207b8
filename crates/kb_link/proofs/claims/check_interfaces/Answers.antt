use Rattle.std.proofs.Common.{◌≡◌, ◌++◌, ◌∷◌, ◌+◌, [], List, map, take, drop, sym, ap, ◌∙◌, subst}
use Rattle.std.proofs.lemmas.List.{map-append}
use Rattle.kb_classes.specs.Subtypes.{Claim, interface_claim}
use Rattle.kb_classes.specs.Rules.{IsFirst, IsNoneSuch, IsBad}
use Rattle.kb_link.specs.Stops.{StopsAtBad}
use Rattle.kb_classes.proofs.Firsts.{handed_on, first_before, first_behind, none_joined}
use Rattle.kb_classes.proofs.Walks.{taken_next, cut_at}
use Rattle.kb_link.proofs.Claiming.{stops_bad}
use Rattle.kb_link.proofs.claims.check_interfaces.Goals as goal

pub returns-in_err-check_claim-clause-refused : goal.returns-in_err-check_claim-clause-refused
returns-in_err-check_claim-clause-refused c =
    let classes = c.args.classes.now in
    let names = c.args.class.now.interfaces in
    let place = c.loop-place.place in
    let name = c.interface_at-name.result.now in
    let refusal = c.in_err-check_claim.field-0.0 in
    let front = map interface_claim (take place names) in
    let rest = map interface_claim (drop (place + 1) names) in
    let whole : map interface_claim names ≡ (front ++ interface_claim name ∷ []) ++ rest =
    ap (map interface_claim) (cut_at names place name c.interface_at-name.ensures)
    ∙ map-append interface_claim (take place names ++ name ∷ []) (drop (place + 1) names)
    ∙ ap (λ (cs : List Claim). cs ++ rest) (map-append interface_claim (take place names) (name ∷ [])) in
    handed_on (StopsAtBad classes (map interface_claim names)) c.from_residual.result refusal c.from_residual.ensures.1
    (stops_bad classes (interface_claim name ∷ []) (map interface_claim names) refusal
    (λ claim first.
    subst (λ (cs : List Claim). IsFirst (IsBad classes) cs claim) (sym whole)
    (first_before (IsBad classes) (front ++ interface_claim name ∷ []) rest claim
    (first_behind (IsBad classes) front (interface_claim name ∷ []) claim c.loop-place.invariant first)))
    c.in_err-check_claim.ensures.refused)

pub loop-place-preserved : goal.loop-place-preserved
loop-place-preserved c =
    let classes = c.args.classes.now in
    let names = c.args.class.now.interfaces in
    let place = c.loop-place.place in
    let name = c.interface_at-name.result.now in
    let next : map interface_claim (take (place + 1) names) ≡ map interface_claim (take place names) ++ interface_claim name ∷ [] =
    ap (map interface_claim) (taken_next names place name c.interface_at-name.ensures) ∙ map-append interface_claim (take place names) (name ∷ []) in
    subst (IsNoneSuch (IsBad classes)) (sym next)
    (none_joined (IsBad classes) (map interface_claim (take place names)) (interface_claim name ∷ []) c.loop-place.invariant c.in_ok-check_claim.ensures.good)
