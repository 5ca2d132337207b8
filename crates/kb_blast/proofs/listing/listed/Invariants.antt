use Rattle.std.proofs.Common.{◌≡◌, ◌++◌, true, length}
use Rattle.std.specs.List.{list_all}
use Rattle.kb_terms.specs.Terms.{node_at}
use Rattle.kb_blast.specs.Query.{listed, kinds_of, node_passes, is_any}
use Rattle.kb_blast.specs.Conditions.{occurring, with_kinds}
use Rattle.kb_blast.proofs.listing.listed.Given as goal

abbrev pub invariant-loop-rest : goal.invariant-loop-rest
invariant-loop-rest l = record {
  operations : list_all (λ t. node_passes is_any (node_at l.pool t)) l.rest ≡ true;
  terms : l.terms.items ++ listed l.pool l.numbering l.rest ≡ listed l.pool l.numbering l.numbering;
  kinds : l.kinds.entries ≡ with_kinds (kinds_of l.pool) (occurring l.terms.items);
}

abbrev pub decreases-loop-rest : goal.decreases-loop-rest
decreases-loop-rest l = length l.rest
