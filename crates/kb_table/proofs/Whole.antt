-- Files that were read whole.
use Rattle.std.proofs.Common.{◌≡◌, ℕ, ◌+◌, ◌<◌, ◌≤◌, Option, Some, None, IfSome, List, [], ◌∷◌, ◌++◌, length, map, take, get_or, ◌∙◌, sym, ap, subst, arith}
use Rattle.std.specs.Prelude.{String, string_bytes}
use Rattle.std.specs.declared.vec.Vec.{Vec}
use Rattle.std.specs.declared.alloc.Global.{Global}
use Rattle.std.proofs.lemmas.List.{take_all, length-take, map-append}
use Rattle.std.proofs.lemmas.Grind.{take_at_read}
use Rattle.kb_table.specs.Files.{AreWhole, IsWhole}

-- the bytes up to the first one past the most are all of them, where they are no more than the most
whole : (most : ℕ) (all : List ℕ) → length (take (most + 1) all) ≤ most → take (most + 1) all ≡ all
whole most all few = take_all (most + 1) all (omega (arith, few, length-take (most + 1) all))

-- a read that appends these to nothing gives the whole file, where it is told
pub whole_told : (most : ℕ) (told : Option (List ℕ)) (read front : List ℕ) → front ≡ []
    → IfSome told (λ all. read ≡ front ++ take (most + 1) all) → length read ≤ most → IsWhole told read
whole_told most None read front empty appended few = appended
whole_told most (Some all) read front empty appended few =
    let same : read ≡ take (most + 1) all = rw empty at appended in
    same ∙ whole most all (rw same at few)

-- one file more
whole_more : (holds : List ℕ → Option (List ℕ)) (names files : List (List ℕ)) (name bytes : List ℕ) → AreWhole holds names files → IsWhole (holds name) bytes
    → AreWhole holds (names ++ name ∷ []) (files ++ bytes ∷ [])
whole_more holds [] [] name bytes are is = (is, tt)
whole_more holds (n ∷ names) (b ∷ files) name bytes are is = (are.0, whole_more holds names files name bytes are.1 is)
whole_more holds [] (b ∷ files) name bytes are is = absurd are
whole_more holds (n ∷ names) [] name bytes are is = absurd are

abbrev bytes_of : List (Vec ℕ Global) → List (List ℕ)
bytes_of files = map (λ (file : Vec ℕ Global). file.items) files

-- that of the next name
pub whole_next : (holds later_of : List ℕ → Option (List ℕ)) (names : List (String Global)) (i : ℕ) (name : String Global) (text : List ℕ) (read : Vec ℕ Global)
    (files now : List (Vec ℕ Global)) → i < length names → name ≡ get_or names i name → text ≡ string_bytes name
    → AreWhole holds (map string_bytes (take i names)) (bytes_of files) → ((other : List ℕ) → later_of other ≡ holds other) → IsWhole (later_of text) read.items
    → now ≡ files ++ read ∷ [] → AreWhole holds (map string_bytes (take (i + 1) names)) (bytes_of now)
whole_next holds later_of names i name text read files now inside at spelled are same is e =
    let taken : take (i + 1) names ≡ take i names ++ name ∷ [] =
    (take_at_read names i name inside).1 ∙ ap (λ (n : String Global). take i names ++ n ∷ []) (sym at) in
    let front : map string_bytes (take (i + 1) names) ≡ map string_bytes (take i names) ++ string_bytes name ∷ [] =
    ap (map string_bytes) taken ∙ map-append string_bytes (take i names) (name ∷ []) in
    let all : bytes_of now ≡ bytes_of files ++ read.items ∷ [] = ap bytes_of e ∙ map-append (λ (file : Vec ℕ Global). file.items) files (read ∷ []) in
    let here : IsWhole (holds (string_bytes name)) read.items =
    subst (λ (told : Option (List ℕ)). IsWhole told read.items) (same (string_bytes name)) (subst (λ (t : List ℕ). IsWhole (later_of t) read.items) spelled is) in
    let more : AreWhole holds (map string_bytes (take i names) ++ string_bytes name ∷ []) (bytes_of files ++ read.items ∷ []) =
    whole_more holds (map string_bytes (take i names)) (bytes_of files) (string_bytes name) read.items are here in
    subst (λ (ns : List (List ℕ)). AreWhole holds ns (bytes_of now)) (sym front)
    (subst (λ (fs : List (List ℕ)). AreWhole holds (map string_bytes (take i names) ++ string_bytes name ∷ []) fs) (sym all) more)

-- all of the names
pub whole_all : (holds : List ℕ → Option (List ℕ)) (names : List (String Global)) (i : ℕ) (files : List (Vec ℕ Global)) → length names ≤ i
    → AreWhole holds (map string_bytes (take i names)) (bytes_of files) → AreWhole holds (map string_bytes names) (bytes_of files)
whole_all holds names i files past are = subst (λ (ns : List (String Global)). AreWhole holds (map string_bytes ns) (bytes_of files)) (take_all i names past) are

-- what stays from the first moment to the second and on to the third
pub same_held : (first second third : List ℕ → Option (List ℕ)) → ((other : List ℕ) → second other ≡ first other) → ((other : List ℕ) → third other ≡ second other)
    → (other : List ℕ) → third other ≡ first other
same_held first second third a b other = b other ∙ a other
