-- The numbers of `byteorder` are those of the grammar.
use Rattle.std.proofs.Common.{◌≡◌, ℕ, zero, suc, List, [], ◌∷◌, length, get_or, refl, arith}
use Rattle.kb_grammar.specs.Reading.{big_endian}
use Rattle.byteorder.specs.Endian.{big_number}
use Rattle.byteorder.specs.Numbers.{big_from-cons}

-- all of the bytes, as one number
pub big_number_is : (n : ℕ) (bytes : List ℕ) → length bytes ≡ n → big_number n bytes ≡ big_endian bytes
big_number_is zero [] len = refl
big_number_is zero (b ∷ bytes) len = absurd (omega (arith, len))
big_number_is (suc n) [] len = absurd (omega (arith, len))
big_number_is (suc n) (b ∷ bytes) len =
    let shorter : length bytes ≡ n = omega (arith, len) in
    rw (big_from-cons 0 n b bytes, big_number_is n bytes shorter, shorter) refl

-- one byte is its own number
pub byte_is : (bytes : List ℕ) → length bytes ≡ 1 → get_or bytes 0 0 ≡ big_endian bytes
byte_is [] len = absurd (omega (arith, len))
byte_is (b ∷ []) len = omega arith
byte_is (b ∷ c ∷ bytes) len = absurd (omega (arith, len))
