use Rattle.std.proofs.Common.{List, ◌++◌}
use Rattle.std.specs.List.{AllByRecursion}
use Rattle.kb_class.specs.declared.members.MethodInfo.{MethodInfo}
use Rattle.kb_class.specs.Given.{AreListings}
use Rattle.kb_class.specs.Loading.{AreMethodsOf}
use Rattle.kb_class.specs.Tables.{IsMethodTold}
use Rattle.kb_class.proofs.loading.methods_of.Given as goal

abbrev pub invariant-loop-listing : goal.invariant-loop-listing
invariant-loop-listing l = record {
  told : AllByRecursion (IsMethodTold l.file l.names l.kinds) l.rest;
  listed : AreListings l.rest l.listing-iterator.rest.items;
  made : (more : List MethodInfo) → AreMethodsOf l.id.0 l.file l.rest l.listing-iterator.rest.items more → AreMethodsOf l.id.0 l.file l.file.methods l.fn.listings.items (l.infos ++ more);
}
