use Rattle.std.proofs.Common.{◌≡◌, ◌+◌, take, List, ◌∷◌, ◌++◌, [], sym, ap, ◌∙◌, subst}
use Rattle.std.proofs.lemmas.List.{take_all}
use Rattle.std.proofs.lemmas.Grind.{take_at_read}
use Rattle.kb_classfile.specs.declared.file.Method.{Method}
use Rattle.kb_class.specs.Given.{AreListings}
use Rattle.kb_class.proofs.Listings.{listings_pushed}
use Rattle.kb_load.proofs.listings_of.Goals as goal

pub loop-method-preserved : goal.loop-method-preserved
loop-method-preserved c =
    let methods = c.as_slice-method-items.result.now in
    let taken : take (c.loop-method.method-index + 1) methods ≡ take c.loop-method.method-index methods ++ c.method-item.result ∷ [] =
    (take_at_read methods c.loop-method.method-index c.method-item.result c.loop-method-test.true).1 ∙ ap (λ (m : Method). take c.loop-method.method-index methods ++ m ∷ []) (sym c.method-item.is) in
    rw (taken, c.in_ok-push.ensures.items)
    (listings_pushed (take c.loop-method.method-index methods) c.loop-method.listings.items c.method-item.result c.in_ok-listing.listing c.loop-method.invariant c.in_ok-listing.ensures)

pub returns : goal.returns
returns c =
    let methods = c.as_slice-method-items.result.now in
    let all : take c.loop-method.method-index methods ≡ c.args.file.now.methods = take_all c.loop-method.method-index methods c.loop-method-test.false ∙ c.as_slice-method-items.ensures in
    subst (λ (ms : List Method). AreListings ms c.loop-method.listings.items) all c.loop-method.invariant
