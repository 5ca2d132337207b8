use Rattle.kb_test.proofs.SameHeaps.{next_alike, next_counted, compared}
use Rattle.kb_test.proofs.final_heap.FinalHeap.is_heap.Goals as goal

pub loop-rest-preserved : goal.loop-rest-preserved
loop-rest-preserved c =
    let mine = c.args.self.now.objects in
    let theirs = c.args.other.now.objects in
    record {
      alike = next_alike mine theirs c.loop-rest.number c.loop-rest.rest.now c.in-Some.object.now c.first-item.result c.in-len1-up.len_at_least c.first-item.is c.loop-rest.invariant.alike c.in-Some.ensures
          (c.is_same.ensures.0 c.if-not-is_same.false);
      counted = next_counted mine theirs c.loop-rest.number c.loop-rest.rest.now c.in-len1-up.len_at_least c.loop-rest.invariant.counted;
    }

pub returns : goal.returns
returns c =
    compared c.args.self.now c.args.other.now c.loop-rest.number c.loop-rest.rest.now c.is_none.result c.in_default.len_below c.loop-rest.invariant.alike c.object-2.result (λ o. o.now) c.object-2.ensures c.is_none.ensures
