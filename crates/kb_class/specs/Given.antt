-- What a class file with its listings must be to become a class (The Java Virtual Machine Specification, Java SE 8 Edition,
-- chapter 4).
use Rattle.std.specs.Prelude.{ℕ, List, [], ◌∷◌, Option, Some, None, map}
use Rattle.std.specs.List.{AllByRecursion}
use Rattle.kb_classfile.specs.declared.file.ClassFile.{ClassFile}
use Rattle.kb_classfile.specs.declared.file.Method.{Method as ClassMethod}
use Rattle.kb_classfile.specs.declared.file.Code.{Code}
use Rattle.kb_classfile.specs.declared.file.Handler.{Handler as ClassHandler}
use Rattle.kb_classfile.specs.Spelling.{Spells, IsClassFile}
use Rattle.kb_code.specs.declared.listing.Handler.{Handler}
use Rattle.kb_code.specs.declared.listing.Listing.{Listing}
use Rattle.kb_code.specs.Listing.{Lists}
use Rattle.kb_class.specs.declared.given.GivenClass.{GivenClass}

-- a row of a handler table, as code is read
abbrev pub handler_of : ClassHandler → Handler
handler_of row = record { start = row.start; end = row.end; target = row.target; catch = row.catch }

abbrev pub handlers_of : Code → List Handler
handlers_of code = map handler_of code.handlers

-- the listing of the code is given, and none where there is no code
abbrev pub IsListing : Option Code → Option Listing → Type 0
IsListing (Some code) (Some listing) = Lists listing code.bytes (handlers_of code)
IsListing (Some code) None = ⊥
IsListing None (Some listing) = ⊥
IsListing None None = Unit {0}

-- The listing of each method's code is given, and none where a method has no code.
abbrev pub AreListings : List ClassMethod → List (Option Listing) → Type 0
AreListings [] [] = Unit {0}
AreListings (method ∷ methods) (listing ∷ listings) = IsListing method.code listing × AreListings methods listings
AreListings [] (listing ∷ listings) = ⊥
AreListings (method ∷ methods) [] = ⊥

-- the class that is given so
abbrev pub given_of : ClassFile → List (Option Listing) → GivenClass
given_of file listings = record { file = file; listings = listings }

-- What a class must be to be given: a file that some bytes spell, with the listings of its methods.
pub record IsGiven (class : GivenClass) : Type 0 where
  pub bytes : List ℕ
  pub spelled : Spells class.file bytes
  pub listed : AreListings class.file.methods class.listings

abbrev pub AreGiven : List GivenClass → Type 0
AreGiven classes = AllByRecursion IsGiven classes

-- The class is given by the bytes: they are its class file, and its methods have their listings.
pub record IsGivenBy (bytes : List ℕ) (class : GivenClass) : Type 0 where
  pub file : IsClassFile class.file bytes
  pub listed : AreListings class.file.methods class.listings

-- the classes are given by the bytes of files, one each, in order
abbrev pub AreGivenBy : List (List ℕ) → List GivenClass → Type 0
AreGivenBy [] [] = Unit {0}
AreGivenBy (bytes ∷ files) (class ∷ classes) = IsGivenBy bytes class × AreGivenBy files classes
AreGivenBy [] (class ∷ classes) = ⊥
AreGivenBy (bytes ∷ files) [] = ⊥
