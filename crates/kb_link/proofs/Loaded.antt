-- Classes that are loaded one after the other, and those of the platform behind them.
use Rattle.std.proofs.Common.{◌≡◌, ℕ, zero, suc, ◌+◌, ◌≤◌, ◌<◌, List, [], ◌∷◌, ◌++◌, length, take, Some, Result, Ok, Err, IfOk, slice_get, refl, sym, ap, subst, ◌∙◌, arith}
use Rattle.std.specs.List.{AllByRecursion}
use Rattle.std.proofs.lemmas.List.{append-nil}
use Rattle.kb_class.specs.declared.given.GivenClass.{GivenClass}
use Rattle.kb_class.specs.Class.{Class}
use Rattle.kb_class.specs.Loading.{IsClassOf}
use Rattle.kb_class.specs.Platform.{PlatformClass, IsPlatform, platform_table}
use Rattle.std.specs.declared.vec.Vec.{Vec}
use Rattle.std.specs.declared.alloc.Global.{Global}
use Rattle.std.specs.declared.alloc.AllocError.{AllocError as NoMemory}
use Rattle.kb_class.specs.Given.{AreGiven}
use Rattle.kb_link.specs.Links.{KeepsFormat, most_classes, AreClassesOf, ArePlatform, Loads}

-- ---- as many of each

pub classes_many : (number : ℕ) (given : List GivenClass) (classes : List Class) → AreClassesOf number given classes → length classes ≡ length given
classes_many number [] [] are = refl
classes_many number [] (class ∷ classes) are = absurd are
classes_many number (one ∷ given) [] are = absurd are
classes_many number (one ∷ given) (class ∷ classes) are = ap suc (classes_many (suc number) given classes are.1)

pub platform_many : (number : ℕ) (rows : List PlatformClass) (classes : List Class) → ArePlatform number rows classes → length classes ≡ length rows
platform_many number [] [] are = refl
platform_many number [] (class ∷ classes) are = absurd are
platform_many number (row ∷ rows) [] are = absurd are
platform_many number (row ∷ rows) (class ∷ classes) are = ap suc (platform_many (suc number) rows classes are.1)

pub table_many : length platform_table ≡ 20
unfolding platform_table
table_many = refl

pub taken_most : {A : Type 0} (n : ℕ) (xs : List A) → length (take n xs) ≤ n
taken_most zero xs = omega arith
taken_most (suc n) [] = omega arith
taken_most (suc n) (x ∷ xs) = (let h : length (take n xs) ≤ n = taken_most n xs in omega (arith, h))

-- ---- one more

pub classes_pushed : (number : ℕ) (given : List GivenClass) (classes : List Class) (one : GivenClass) (class : Class) → AreClassesOf number given classes
    → IsClassOf (number + length given) one class → AreClassesOf number (given ++ one ∷ []) (classes ++ class ∷ [])
classes_pushed number [] [] one class are is = (let same : number + 0 ≡ number = omega arith in (subst (λ (n : ℕ). IsClassOf n one class) same is, tt))
classes_pushed number [] (c ∷ classes) one class are is = absurd are
classes_pushed number (g ∷ given) [] one class are is = absurd are
classes_pushed number (g ∷ given) (c ∷ classes) one class are is =
    let same : number + suc (length given) ≡ suc number + length given = omega arith in
    (are.0, classes_pushed (suc number) given classes one class are.1 (subst (λ (n : ℕ). IsClassOf n one class) same is))

pub platform_pushed : (number : ℕ) (rows : List PlatformClass) (classes : List Class) (row : PlatformClass) (class : Class) → ArePlatform number rows classes
    → IsPlatform (number + length rows) row class → ArePlatform number (rows ++ row ∷ []) (classes ++ class ∷ [])
platform_pushed number [] [] row class are is = (let same : number + 0 ≡ number = omega arith in (subst (λ (n : ℕ). IsPlatform n row class) same is, tt))
platform_pushed number [] (c ∷ classes) row class are is = absurd are
platform_pushed number (r ∷ rows) [] row class are is = absurd are
platform_pushed number (r ∷ rows) (c ∷ classes) row class are is =
    let same : number + suc (length rows) ≡ suc number + length rows = omega arith in
    (are.0, platform_pushed (suc number) rows classes row class are.1 (subst (λ (n : ℕ). IsPlatform n row class) same is))

-- ---- items of a list

pub there_below : {A : Type 0} (xs : List A) (n : ℕ) → n < length xs → (x : A) × (slice_get xs n ≡ Some x)
there_below [] n below = absurd (omega (arith, below))
there_below (x ∷ xs) zero below = (x, refl)
there_below (x ∷ xs) (suc n) below = there_below xs n (omega (arith, below))

pub all_middle : {A : Type 0} (P : A → Type 0) (xs : List A) (x : A) (ys : List A) → AllByRecursion P (xs ++ x ∷ ys) → P x
all_middle P [] x ys all = all.0
all_middle P (w ∷ xs) x ys all = all_middle P xs x ys all.1

pub no_items : {A : Type 0} (xs : List A) → length xs ≡ 0 → xs ≡ []
no_items [] none = refl
no_items (x ∷ xs) none = absurd (omega (arith, none))

-- ---- all of them

pub loads_all : (given done rest : List GivenClass) (own : List Class) (result : Result (Vec Class Global) NoMemory) → AreGiven given × AllByRecursion KeepsFormat given × (length given ≤ most_classes)
    → rest ≡ [] → done ++ rest ≡ given → AreClassesOf 0 done own
    → IfOk result (λ all. (platform : List Class) × (all.items ≡ own ++ platform) × ArePlatform (length own) platform_table platform)
    → IfOk result (λ all. Loads given all.items)
loads_all given done rest own (Err refusal) required over whole are platform = tt
loads_all given done rest own (Ok all) required over whole are platform =
    let same : done ≡ given = sym (append-nil done) ∙ ap (λ (gs : List GivenClass). done ++ gs) (sym over) ∙ whole in
    let own_are : AreClassesOf 0 given own = subst (λ (gs : List GivenClass). AreClassesOf 0 gs own) same are in
    let many : length own ≡ length given = classes_many 0 given own own_are in
    record {
      most = required.2;
      format = required.1;
      own = own;
      platform = platform.0;
      parts = platform.1;
      are_own = own_are;
      are_platform = subst (λ (n : ℕ). ArePlatform n platform_table platform.0) many platform.2;
    }
