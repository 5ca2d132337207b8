-- The listings of some methods, one after another.
use Rattle.std.proofs.Common.{List, [], ◌∷◌, ◌++◌, Option}
use Rattle.kb_classfile.specs.declared.file.Method.{Method as ClassMethod}
use Rattle.kb_code.specs.declared.listing.Listing.{Listing}
use Rattle.kb_class.specs.Given.{AreListings}

-- one more method and its listing
pub listings_pushed : (methods : List ClassMethod) (listings : List (Option Listing)) (method : ClassMethod) (listing : Option Listing) → AreListings methods listings → AreListings (method ∷ []) (listing ∷ [])
    → AreListings (methods ++ method ∷ []) (listings ++ listing ∷ [])
listings_pushed [] [] method listing are one = one
listings_pushed [] (l ∷ listings) method listing are one = absurd are
listings_pushed (m ∷ methods) [] method listing are one = absurd are
listings_pushed (m ∷ methods) (l ∷ listings) method listing are one = (are.0, listings_pushed methods listings method listing are.1 one)
