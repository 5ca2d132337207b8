use Rattle.std.proofs.Common.{Vec, Global, List, Option, Err, ◌∙◌, ap, subst}
use Rattle.std.proofs.lemmas.Result.{err_from_is_err_and}
use Rattle.kb_classfile.specs.declared.file.ClassFile.{ClassFile}
use Rattle.kb_classfile.specs.declared.file.Method.{Method}
use Rattle.kb_classfile.specs.Spelling.{IsClassFile}
use Rattle.kb_code.specs.declared.listing.Listing.{Listing}
use Rattle.kb_class.specs.Given.{AreListings, IsGivenBy}
use Rattle.kiasan.specs.CodeFaults.{MethodsRefuse}
use Rattle.kiasan.specs.Refusals.{Gives}
use Rattle.kiasan.proofs.ClassLaws.{file_stops, methods_stop}
use Rattle.kiasan.proofs.classes.read_one.Goals as goal

pub returns-in_err-file : goal.returns-in_err-file
returns-in_err-file c =
    let p = err_from_is_err_and c.from_residual.result c.from_residual.ensures.1 in
    rw (p.1, p.2) (file_stops c.args.number c.args.bytes.now c.in_err-file.field-0.0 (λ (file : ClassFile). IsClassFile file c.args.bytes.now) (IsGivenBy c.args.bytes.now) c.in_err-file.ensures)

pub returns-in_err-listings : goal.returns-in_err-listings
returns-in_err-listings c =
    let p = err_from_is_err_and c.from_residual-in_err-listings.result c.from_residual-in_err-listings.ensures.1 in
    rw (p.1, p.2)
    (methods_stop c.args.number c.args.bytes.now c.in_ok-file.file c.in_err-listings.field-0.0
    (λ (listings : Vec (Option Listing) Global). AreListings c.in_ok-file.file.methods listings.items) (IsGivenBy c.args.bytes.now) c.in_ok-file.ensures
    (subst (λ (ms : List Method). Gives {A = Vec (Option Listing) Global} ⊥ (MethodsRefuse c.args.number ms) (λ listings. AreListings ms listings.items) (Err c.in_err-listings.field-0.0))
    (c.as_slice.ensures ∙ ap (λ (file : ClassFile). file.methods) c.get.ensures) c.in_err-listings.ensures))
