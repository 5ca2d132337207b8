use Rattle.std.proofs.Common.{[], ◌∷◌, rules, Vec, Global, Option}
use Rattle.std.proofs.lemmas.Result.{err_from_is_err_and}
use Rattle.kb_code.specs.declared.listing.Listing.{Listing}
use Rattle.kb_class.specs.Given.{AreListings}
use Rattle.kiasan.proofs.ClassLaws.{first_code, one_listed, all_listed}
use Rattle.kiasan.proofs.classes.list_methods.Goals as goal

pub returns-in_err-listing : goal.returns-in_err-listing
returns-in_err-listing c =
    let p = err_from_is_err_and c.from_residual.result c.from_residual.ensures.1 in
    rw (p.1, p.2)
    (first_code c.args.file c.args.methods.now c.loop-method.method-index c.method-item.result c.loop-method.listings.items c.len.result c.in_err-listing.field-0.0
    (λ (listing : Option Listing). AreListings (c.method-item.result ∷ []) (listing ∷ []))
    (λ (listings : Vec (Option Listing) Global). AreListings c.args.methods.now listings.items)
    c.loop-method-test.true c.method-item.is c.loop-method.invariant (search rules) c.in_err-listing.ensures)

pub loop-method-preserved : goal.loop-method-preserved
loop-method-preserved c =
    one_listed c.args.methods.now c.loop-method.method-index c.method-item.result c.loop-method.listings.items c.push.new.self.items c.in_ok-listing.listing
    c.loop-method-test.true c.method-item.is c.loop-method.invariant c.in_ok-listing.ensures c.in_ok-push.ensures.items

pub returns : goal.returns
returns c = all_listed c.args.methods.now c.loop-method.method-index c.loop-method.listings.items c.loop-method.invariant c.loop-method-test.false
