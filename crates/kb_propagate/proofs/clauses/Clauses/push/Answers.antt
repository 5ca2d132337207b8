use Rattle.std.proofs.Common.{arith, ap, ◌∙◌, ◌≡◌, ◌<◌, [], ◌∷◌, ◌++◌, length, ◌+◌, ◌^◌}
use Rattle.kb_propagate.specs.Rows.{stored_of, awake_clause}
use Rattle.kb_propagate.proofs.ClausesLaws.{within_longer, within_next, apart_next, named_longer, named_pushed, stored_pushed}
use Rattle.kb_propagate.proofs.clauses.Clauses.push.Goals as goal

pub invariant_of-self-in_err-push : goal.invariant_of-self-in_err-push
invariant_of-self-in_err-push c =
    let flat = c.self.inside.flat.items in
    let slots = c.self.inside.slots.items in
    let more = c.args.literals.now in
    rw (c.in_ok-extend_from_slice.ensures.items, c.in_err-push.ensures.items) record {
      few = c.self.invariant.few;
      within = within_longer flat more slots c.self.invariant.within;
      apart = c.self.invariant.apart;
      named = named_longer flat more slots c.self.invariant.within c.self.invariant.named;
    }

pub invariant_of-self-2 : goal.invariant_of-self-2
invariant_of-self-2 c =
    let flat = c.self.inside.flat.items in
    let slots = c.self.inside.slots.items in
    let more = c.args.literals.now in
    let start : c.len-start.result ≡ length flat = omega (arith, c.len-start.ensures) in
    let end : c.len-start.result + length more ≡ length flat + length more = omega (arith, start) in
    let few : length c.push.new.self.items < 2 ^ 32 = omega (arith, c.len.ensures, c.if-len.false, c.in_ok-push.ensures.len) in
    record {
      few = few;
      within = rw (c.in_ok-extend_from_slice.ensures.items, c.in_ok-push.ensures.items) (within_next flat more slots _ c.self.invariant.within start end);
      apart = rw c.in_ok-push.ensures.items (apart_next flat slots _ c.self.invariant.within c.self.invariant.apart start);
      named = rw (c.in_ok-extend_from_slice.ensures.items, c.in_ok-push.ensures.items) (named_pushed flat more slots _ c.self.invariant.within start end c.self.invariant.named c.named.ensures);
    }

pub returns : goal.returns
returns c =
    let flat = c.self.inside.flat.items in
    let slots = c.self.inside.slots.items in
    let more = c.args.literals.now in
    let start : c.len-start.result ≡ length flat = omega (arith, c.len-start.ensures) in
    let end : c.len-start.result + length more ≡ length flat + length more = omega (arith, start) in
    ap (λ items. stored_of items c.push.new.self.items) c.in_ok-extend_from_slice.ensures.items
    ∙ ap (stored_of (flat ++ more)) c.in_ok-push.ensures.items
    ∙ stored_pushed flat more slots _ c.self.invariant.within start end
    ∙ ap (λ z. z ++ awake_clause more ∷ []) c.self.view_is
