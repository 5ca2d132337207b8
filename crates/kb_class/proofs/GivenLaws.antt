-- Classes that are given by the bytes of files.
use Rattle.std.proofs.Common.{ℕ, List, [], ◌∷◌, ◌++◌}
use Rattle.kb_class.specs.declared.given.GivenClass.{GivenClass}
use Rattle.kb_class.specs.Given.{IsGivenBy, AreGivenBy, AreGiven}

-- one class more
pub given_pushed : (files : List (List ℕ)) (classes : List GivenClass) (bytes : List ℕ) (class : GivenClass) → AreGivenBy files classes → IsGivenBy bytes class
    → AreGivenBy (files ++ bytes ∷ []) (classes ++ class ∷ [])
given_pushed [] [] bytes class are is = (is, tt)
given_pushed [] (one ∷ classes) bytes class are is = absurd are
given_pushed (file ∷ files) [] bytes class are is = absurd are
given_pushed (file ∷ files) (one ∷ classes) bytes class are is = (are.0, given_pushed files classes bytes class are.1 is)

-- they may be given
pub are_given : (files : List (List ℕ)) (classes : List GivenClass) → AreGivenBy files classes → AreGiven classes
are_given [] [] are = tt
are_given [] (class ∷ classes) are = absurd are
are_given (bytes ∷ files) [] are = absurd are
are_given (bytes ∷ files) (class ∷ classes) are = (record { bytes = bytes; spelled = are.0.file.spelled; listed = are.0.listed }, are_given files classes are.1)
