use Rattle.std.proofs.Common.{◌≡◌, [], length, append-nil, subst, arith}
use Rattle.kb_class.specs.Loading.{AreMethodsOf}
use Rattle.kb_class.proofs.MemberLaws.{no_methods}
use Rattle.kb_class.proofs.loading.methods_of.Goals as goal

pub returns : goal.returns
returns c =
    let file = c.args.file.now in
    let rest = c.loop-listing.listing-iterator.rest.items in
    let none : length rest ≡ 0 = omega (arith, c.in-None.ensures.steps.0) in
    let made = c.loop-listing.invariant.made [] (no_methods c.args.id.0 file c.loop-listing.rest.now rest none c.loop-listing.invariant.listed) in
    subst (AreMethodsOf c.args.id.0 file file.methods c.args.listings.items) (append-nil c.loop-listing.infos) made
