-- Numbers that stand for texts.
use Rattle.std.proofs.Common.{◌≡◌, ◌↔◌, ℕ, zero, suc, ◌+◌, ◌<◌, Bool, true, false, List, [], ◌∷◌, ◌++◌, length, take, get_or, Option, Some, None, map, slice_get, if◌then◌else◌, refl, sym, ap, subst, ◌∙◌, append-nil}
use Rattle.std.specs.Borrow.{Bor}
use Rattle.std.specs.Bool.{nat_eq}
use Rattle.std.specs.Cmp.Lexicographic.{pointwise}
use Rattle.std.specs.List.{list_any, AllZip}
use Rattle.std.proofs.lemmas.Grind.{take_at_read}
use Rattle.std.proofs.lemmas.List.{map_push}
use Rattle.std.proofs.lemmas.Slice.Eq.{bytes_eq-Decides}
use Rattle.kb_classfile.specs.declared.file.PoolEntry.{PoolEntry}
use Rattle.kb_classfile.specs.Pool.{text_of, utf8_in}
use Rattle.kb_format.specs.Rules.{IsNoneOf, AllDiffer}
use Rattle.kb_format.specs.Members.{texts_of, IsNumberOf, number_at, TellsTextsApart}
use Rattle.kb_format.proofs.Differing.{absent, differ_pushed}

-- ---- the set of texts

abbrev pub Text : Type 0
Text = Bor (List ℕ)

-- what `==` of two texts computes
abbrev pub text_eq : Text → Text → Bool
text_eq x y = pointwise nat_eq x.now y.now

-- the keys after the text was put in
abbrev pub with_text : List Text → Text → List Text
with_text keys text = if list_any (text_eq text) keys then keys else keys ++ text ∷ []

-- texts that differ, of which the others are the first
pub record Grown (old new : List (List ℕ)) : Type 0 where
  pub more : List (List ℕ)
  pub parts : new ≡ old ++ more
  pub differ : AllDiffer new

pub grown : (keys : List Text) (text : Text) → AllDiffer (texts_of keys) → Grown (texts_of keys) (texts_of (with_text keys text))
grown keys text differ = go (list_any (text_eq text) keys) refl where
  go : (b : Bool) → list_any (text_eq text) keys ≡ b → Grown (texts_of keys) (texts_of (if b then keys else keys ++ text ∷ []))
  go true is = record { more = []; parts = sym (append-nil (texts_of keys)); differ = differ }
  go false is =
      let longer : texts_of (keys ++ text ∷ []) ≡ texts_of keys ++ text.now ∷ [] = map_push (λ (t : Text). t.now) keys text in
      let none : IsNoneOf (texts_of keys) text.now = absent (text_eq text) (λ (t : Text). t.now) text.now (λ y. bytes_eq-Decides text.now y.now) keys is in
      record { more = text.now ∷ []; parts = longer; differ = subst AllDiffer (sym longer) (differ_pushed (texts_of keys) text.now differ none) }

made_at : {A B : Type 0} (f : A → B) (xs : List A) (i : ℕ) (x : A) → slice_get xs i ≡ Some x → slice_get (map f xs) i ≡ Some (f x)
made_at f [] i x e = absurd cc
made_at {A} f (y ∷ xs) zero x e = let same : y ≡ x = cc in ap (λ (z : A). Some (f z)) same
made_at f (y ∷ xs) (suc i) x e = made_at f xs i x e

-- the place at which the set has the text
pub stands_at : (keys : List Text) (text key : Text) (i : ℕ) → slice_get keys i ≡ Some key → text_eq text key ≡ true → slice_get (texts_of keys) i ≡ Some text.now
stands_at keys text key i at same =
    let is : text.now ≡ key.now = (bytes_eq-Decides text.now key.now).0 same in
    made_at (λ (t : Text). t.now) keys i key at ∙ ap (λ (t : List ℕ). Some t) (sym is)

-- ---- numbers of the entries

front_at : (texts more : List (List ℕ)) (i : ℕ) (text : List ℕ) → slice_get texts i ≡ Some text → slice_get (texts ++ more) i ≡ Some text
front_at [] more i text e = absurd cc
front_at (t ∷ texts) more zero text e = e
front_at (t ∷ texts) more (suc i) text e = front_at texts more i text e

wider : (texts more : List (List ℕ)) (found : Option (List ℕ)) (number : Option ℕ) → IsNumberOf texts found number → IsNumberOf (texts ++ more) found number
wider texts more None None is = tt
wider texts more (Some text) (Some number) is = front_at texts more number text is
wider texts more None (Some number) is = absurd is
wider texts more (Some text) None is = absurd is

all_wider : (texts more : List (List ℕ)) (founds : List (Option (List ℕ))) (numbers : List (Option ℕ)) → AllZip (IsNumberOf texts) founds numbers → AllZip (IsNumberOf (texts ++ more)) founds numbers
all_wider texts more [] [] all = tt
all_wider texts more [] (n ∷ numbers) all = absurd all
all_wider texts more (f ∷ founds) [] all = absurd all
all_wider texts more (f ∷ founds) (n ∷ numbers) all = (wider texts more f n all.0, all_wider texts more founds numbers all.1)

zip_pushed : {A B : Type 0} (R : A → B → Type 0) (xs : List A) (ys : List B) (x : A) (y : B) → AllZip R xs ys → R x y → AllZip R (xs ++ x ∷ []) (ys ++ y ∷ [])
zip_pushed R [] [] x y all one = (one, tt)
zip_pushed R [] (v ∷ ys) x y all one = absurd all
zip_pushed R (w ∷ xs) [] x y all one = absurd all
zip_pushed R (w ∷ xs) (v ∷ ys) x y all one = (all.0, zip_pushed R xs ys x y all.1 one)

-- the numbers of entries are those of their texts among these
abbrev pub AreNumbersOf : List (List ℕ) → List PoolEntry → List (Option ℕ) → Type 0
AreNumbersOf texts entries numbers = AllZip (IsNumberOf texts) (map text_of entries) numbers

-- one entry more
pub more_numbers : (old new : List (List ℕ)) (pool : List PoolEntry) (i : ℕ) (entry : PoolEntry) (numbers : List (Option ℕ)) (number : Option ℕ)
    → i < length pool → entry ≡ get_or pool i entry → ((more : List (List ℕ)) × (new ≡ old ++ more)) → AreNumbersOf old (take i pool) numbers → IsNumberOf new (text_of entry) number
    → AreNumbersOf new (take (i + 1) pool) (numbers ++ number ∷ [])
more_numbers old new pool i entry numbers number inside is grows all one =
    let taken : take (i + 1) pool ≡ take i pool ++ entry ∷ [] = (take_at_read pool i entry inside).1 ∙ ap (λ (e : PoolEntry). take i pool ++ e ∷ []) (sym is) in
    let founds : map text_of (take (i + 1) pool) ≡ map text_of (take i pool) ++ text_of entry ∷ [] = ap (map text_of) taken ∙ map_push text_of (take i pool) entry in
    let before : AllZip (IsNumberOf new) (map text_of (take i pool)) numbers =
    subst (λ (texts : List (List ℕ)). AllZip (IsNumberOf texts) (map text_of (take i pool)) numbers) (sym grows.1) (all_wider old grows.0 (map text_of (take i pool)) numbers all) in
    subst (λ (fs : List (Option (List ℕ))). AllZip (IsNumberOf new) fs (numbers ++ number ∷ [])) (sym founds)
    (zip_pushed (IsNumberOf new) (map text_of (take i pool)) numbers (text_of entry) number before one)

-- ---- numbers tell texts apart

number_is : (texts : List (List ℕ)) (pool : List PoolEntry) (numbers : List (Option ℕ)) (i : ℕ) → AreNumbersOf texts pool numbers → IsNumberOf texts (utf8_in pool i) (number_at numbers i)
number_is texts [] [] i all = tt
number_is texts [] (n ∷ numbers) i all = absurd all
number_is texts (e ∷ pool) [] i all = absurd all
number_is texts (e ∷ pool) (n ∷ numbers) zero all = all.0
number_is texts (e ∷ pool) (n ∷ numbers) (suc i) all = number_is texts pool numbers i all.1

not_at : {A : Type 0} (xs : List A) (i : ℕ) (x : A) → IsNoneOf xs x → slice_get xs i ≡ Some x → ⊥
not_at [] i x none e = absurd cc
not_at (y ∷ xs) zero x none e = none.0 (let same : y ≡ x = cc in sym same)
not_at (y ∷ xs) (suc i) x none e = not_at xs i x none.1 e

one_place : {A : Type 0} (xs : List A) (i j : ℕ) (x : A) → AllDiffer xs → slice_get xs i ≡ Some x → slice_get xs j ≡ Some x → i ≡ j
one_place [] i j x differ at there = absurd cc
one_place (y ∷ xs) zero zero x differ at there = refl
one_place (y ∷ xs) zero (suc j) x differ at there = let same : y ≡ x = cc in absurd (not_at xs j x (subst (IsNoneOf xs) same differ.0) there)
one_place (y ∷ xs) (suc i) zero x differ at there = let same : y ≡ x = cc in absurd (not_at xs i x (subst (IsNoneOf xs) same differ.0) at)
one_place (y ∷ xs) (suc i) (suc j) x differ at there = ap suc (one_place xs i j x differ.1 at there)

alike : (texts : List (List ℕ)) (f g : Option (List ℕ)) (m n : Option ℕ) → AllDiffer texts → IsNumberOf texts f m → IsNumberOf texts g n → (m ≡ n) ↔ (f ≡ g)
alike texts None None None None differ one other = ((λ e. refl), (λ e. refl))
alike texts None (Some g) None (Some n) differ one other = ((λ e. absurd cc), (λ e. absurd cc))
alike texts (Some f) None (Some m) None differ one other = ((λ e. absurd cc), (λ e. absurd cc))
alike texts (Some f) (Some g) (Some m) (Some n) differ one other =
    ((λ e. let same : m ≡ n = cc in sym one ∙ ap (slice_get texts) same ∙ other), (λ e. ap (λ (k : ℕ). Some k) (one_place texts m n g differ (one ∙ e) other)))
alike texts None g (Some m) n differ one other = absurd one
alike texts (Some f) g None n differ one other = absurd one
alike texts None None None (Some n) differ one other = absurd other
alike texts None (Some g) None None differ one other = absurd other
alike texts (Some f) None (Some m) (Some n) differ one other = absurd other
alike texts (Some f) (Some g) (Some m) None differ one other = absurd other

pub told_apart : (texts : List (List ℕ)) (pool : List PoolEntry) (numbers : List (Option ℕ)) → AllDiffer texts → AreNumbersOf texts pool numbers → TellsTextsApart pool numbers
told_apart texts pool numbers differ all = λ one other.
    alike texts (utf8_in pool one) (utf8_in pool other) (number_at numbers one) (number_at numbers other) differ (number_is texts pool numbers one all) (number_is texts pool numbers other all)
