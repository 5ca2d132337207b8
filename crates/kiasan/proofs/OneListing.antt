-- Code has one listing.
use Rattle.std.proofs.Common.{◌≡◌, List, [], ◌∷◌, ℕ, Option, Some, None, Result, Ok, refl, sym, ◌∙◌, ap}
use Rattle.kb_classfile.specs.declared.file.Code.{Code}
use Rattle.kb_classfile.specs.declared.file.Method.{Method as ClassMethod}
use Rattle.kb_code.specs.declared.instruction.Instr.{Instr}
use Rattle.kb_code.specs.declared.listing.Handler.{Handler}
use Rattle.kb_code.specs.declared.listing.Listing.{Listing}
use Rattle.kb_code.specs.declared.refusal.CodeRefusal.{CodeRefusal}
use Rattle.kb_code.specs.Listing.{Lists}
use Rattle.kb_code.proofs.ListingLaws.{listed_decodes}
use Rattle.kb_class.specs.Given.{AreListings, handlers_of}

listing_one : (one other : Listing) (code : List ℕ) (handlers : List Handler) → Lists one code handlers → Lists other code handlers → one ≡ other
listing_one one other code handlers a b =
    let same : items_of one ≡ items_of other = sym (listed_decodes one code handlers a) ∙ listed_decodes other code handlers b in
    let items : one.items ≡ other.items = cc in
    ap (λ items. record { items = items }) items
  where
    items_of : Listing → Result (List (ℕ × Instr)) CodeRefusal
    items_of listing = Ok listing.items

one_listing : (method : ClassMethod) (one other : Option Listing) → AreListings (method ∷ []) (one ∷ []) → AreListings (method ∷ []) (other ∷ []) → one ≡ other
one_listing method None None a b = refl
one_listing method (Some l) (Some m) a b = go method.code refl
  where
    go : (code : Option Code) → method.code ≡ code → Some l ≡ Some m
    go (Some code) e = ap Some (listing_one l m code.bytes (handlers_of code) (rw e at a.0) (rw e at b.0))
    go None e = absurd (rw e at a.0)
one_listing method (Some l) None a b = absurd (go method.code refl)
  where
    go : (code : Option Code) → method.code ≡ code → ⊥
    go (Some code) e = rw e at b.0
    go None e = rw e at a.0
one_listing method None (Some l) a b = absurd (go method.code refl)
  where
    go : (code : Option Code) → method.code ≡ code → ⊥
    go (Some code) e = rw e at a.0
    go None e = rw e at b.0

-- methods have one list of listings
pub listings_one : (methods : List ClassMethod) (one other : List (Option Listing)) → AreListings methods one → AreListings methods other → one ≡ other
listings_one [] [] [] a b = refl
listings_one [] (l ∷ ls) other a b = absurd a
listings_one [] [] (m ∷ ms) a b = absurd b
listings_one (method ∷ methods) [] other a b = absurd a
listings_one (method ∷ methods) (l ∷ ls) [] a b = absurd b
listings_one (method ∷ methods) (l ∷ ls) (m ∷ ms) a b =
    let first : l ≡ m = one_listing method l m (a.0, tt) (b.0, tt) in
    let rest : ls ≡ ms = listings_one methods ls ms a.1 b.1 in
    rw (first, rest) refl
