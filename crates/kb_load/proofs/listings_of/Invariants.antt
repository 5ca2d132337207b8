use Rattle.std.proofs.Common.{take}
use Rattle.kb_class.specs.Given.{AreListings}
use Rattle.kb_load.proofs.listings_of.Given as goal

abbrev pub invariant-loop-method : goal.invariant-loop-method
invariant-loop-method l = AreListings (take l.method-index l.method-items) l.listings.items
