-- Lemmas on lists of bytes.
use Rattle.std.proofs.Common.{ℕ, suc, ◌<◌, List, [], ◌∷◌, ◌++◌, length, take, get_or, subst, sym}
use Rattle.std.proofs.Math.Seq.{take-suc}
use Rattle.kb_names.specs.Bytes.{AreBytes}

pub AreBytes-push : (n : List ℕ) (b : ℕ) → AreBytes n → b < 256 → AreBytes (n ++ b ∷ [])
AreBytes-push [] b h lt = (lt, tt)
AreBytes-push (x ∷ xs) b h lt = (h.0, AreBytes-push xs b h.1 lt)

-- a front of bytes, and the byte behind it
pub AreBytes-take : (xs : List ℕ) (i : ℕ) → i < length xs → AreBytes (take i xs) → get_or xs i 0 < 256 → AreBytes (take (suc i) xs)
AreBytes-take xs i lt front byte = subst AreBytes (sym (take-suc xs i 0 lt)) (AreBytes-push (take i xs) (get_or xs i 0) front byte)
