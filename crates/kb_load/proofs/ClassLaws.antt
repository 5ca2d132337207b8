-- Classes that files spell.
use Rattle.std.proofs.Common.{◌≡◌, ℕ, ◌+◌, ◌<◌, List, [], ◌∷◌, ◌++◌, length, take, get_or, map, sym, ap, subst, ◌∙◌, Result, Ok, Err, IfOk, IfSome}
use Rattle.std.specs.Result.{result_ok}
use Rattle.std.specs.declared.vec.Vec.{Vec}
use Rattle.std.specs.declared.alloc.Global.{Global}
use Rattle.std.proofs.lemmas.List.{map-append}
use Rattle.std.proofs.lemmas.Grind.{take_at_read}
use Rattle.kb_class.specs.declared.given.GivenClass.{GivenClass}
use Rattle.kb_class.specs.Given.{IsGivenBy, AreGivenBy}
use Rattle.kb_class.proofs.GivenLaws.{given_pushed}
use Rattle.kb_load.specs.Worlds.{contents_of}

-- what follows from each answer holds of the answer that is left where the reason of a refusal is left out
pub told_of : {A E : Type 0} (P Q : A → Type 0) → ((value : A) → P value → Q value) → (result : Result A E) → IfOk result P → IfSome (result_ok result) Q
told_of P Q gives (Ok value) holds = gives value holds
told_of P Q gives (Err refusal) holds = tt

-- that of the next file
pub classes_next : (files : List (Vec ℕ Global)) (i : ℕ) (file : Vec ℕ Global) (given : List GivenClass) (class : GivenClass) → i < length files → file ≡ get_or files i file
    → AreGivenBy (contents_of (take i files)) given → IsGivenBy file.items class → AreGivenBy (contents_of (take (i + 1) files)) (given ++ class ∷ [])
classes_next files i file given class inside is are one =
    let taken : take (i + 1) files ≡ take i files ++ file ∷ [] = (take_at_read files i file inside).1 ∙ ap (λ (f : Vec ℕ Global). take i files ++ f ∷ []) (sym is) in
    let more : contents_of (take (i + 1) files) ≡ contents_of (take i files) ++ file.items ∷ [] =
    ap contents_of taken ∙ map-append (λ (bytes : Vec ℕ Global). bytes.items) (take i files) (file ∷ []) in
    subst (λ (fs : List (List ℕ)). AreGivenBy fs (given ++ class ∷ [])) (sym more) (given_pushed (contents_of (take i files)) given file.items class are one)
