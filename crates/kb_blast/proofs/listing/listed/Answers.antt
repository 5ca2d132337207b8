use Rattle.std.proofs.Common.{◌∙◌, ap, Some}
use Rattle.kb_blast.proofs.Listed.{first-term, second-term, all-rest, listed_next, kinds_next}
use Rattle.kb_blast.proofs.listing.listed.Goals as goal

pub operand-requires : goal.operand-requires
operand-requires c = first-term c.args.pool.now _ c.in-Op.op c.in-Op.left c.in-Op.right c.node.ensures.formed (c.node.ensures.node ∙ ap Some c.in-Op.is)

pub second-requires : goal.second-requires
second-requires c = second-term c.args.pool.now _ c.in-Op.op c.in-Op.left c.in-Op.right c.node.ensures.formed (c.node.ensures.node ∙ ap Some c.in-Op.is)

pub loop-rest-preserved-in_ok-push : goal.loop-rest-preserved-in_ok-push
loop-rest-preserved-in_ok-push c =
    let nodes = c.args.pool.now in
    let numbered = c.args.numbering.now in
    record {
      operations = all-rest nodes c.loop-rest.rest.now c.in-len1-up.len_at_least c.loop-rest.invariant.operations;
      terms = listed_next nodes c.node.ensures.formed numbered c.loop-rest.terms.items c.push.new.self.items c.loop-rest.rest.now _ c.in-Op.op c.in-Op.left c.in-Op.right
          c.in_ok-left.left c.in_ok-right.right c.in-len1-up.len_at_least (c.node.ensures.node ∙ ap Some c.in-Op.is) c.in_ok-left.ensures.operand c.in_ok-right.ensures.operand
          c.in_ok-push.ensures.items
          ∙ c.loop-rest.invariant.terms;
      kinds = kinds_next nodes c.node.ensures.formed numbered c.loop-rest.terms.items c.push.new.self.items c.loop-rest.kinds.entries c.operand.new.kinds.entries c.second.new.kinds.entries
          c.in-Op.op c.in-Op.left c.in-Op.right c.in_ok-left.left c.in_ok-right.right c.loop-rest.invariant.kinds c.in_ok-left.ensures.kinds c.in_ok-right.ensures.kinds
          c.in_ok-left.ensures.operand c.in_ok-right.ensures.operand c.in_ok-push.ensures.items;
    }
