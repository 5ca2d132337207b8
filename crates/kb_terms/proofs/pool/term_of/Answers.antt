use Rattle.std.proofs.Common.{refl, sym, inl, arith}
use Rattle.kb_terms.proofs.Equality.{found-node}
use Rattle.kb_terms.proofs.Interned.{has_node, formed}
use Rattle.kb_terms.proofs.pool.term_of.Goals as goal

pub returns-in-Some-clause-node : goal.returns-in-Some-clause-node
returns-in-Some-clause-node c = record { node_is = found-node _ _ _ (sym c.in-Some.ensures.index); added = inl refl }

pub returns-in-Ok-clause-node : goal.returns-in-Ok-clause-node
returns-in-Ok-clause-node c =
    has_node _ _ _ (sym c.in_default.ensures.found) c.in-Ok.ensures.keys _ (c.len-number.ensures.len)

pub returns-in-Ok-clause-formed : goal.returns-in-Ok-clause-formed
returns-in-Ok-clause-formed c =
    formed _ _ _ (sym c.in_default.ensures.found) c.in-Ok.ensures.keys c.requires.formed c.requires.fits (omega (arith, c.len-number.ensures.len))
