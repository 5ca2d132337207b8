-- Laws of tests.
use Rattle.std.proofs.Common.{◌≡◌, Bool, true, false, if◌then◌else◌, ◌⊎◌, inl, inr, refl, Option, Some, None, IsSome, is_some, ◌&&◌, Result, Ok, Err, OnOk}
use Rattle.std.specs.Option.{option_map, option_and_then}

-- which way a test went
pub chosen : {A : Type 0} (b : Bool) (x y z : A) → (if b then x else y) ≡ z → ((b ≡ true) × (x ≡ z)) ⊎ ((b ≡ false) × (y ≡ z))
chosen true x y z e = inl (refl, e)
chosen false x y z e = inr (refl, e)

-- what was mapped
pub mapped : {A B : Type 0} (f : A → B) (o : Option A) (y : B) → option_map f o ≡ Some y → (x : A) × (o ≡ Some x) × (f x ≡ y)
mapped f None y e = cc
mapped f (Some x) y e = (x, refl, cc)

-- what was passed on
pub passed : {A B : Type 0} (f : A → Option B) (o : Option A) (y : B) → option_and_then f o ≡ Some y → (x : A) × (o ≡ Some x) × (f x ≡ Some y)
passed f None y e = cc
passed f (Some x) y e = (x, refl, e)

pub some_value : {A : Type 0} (o : Option A) → IsSome o → (x : A) × (o ≡ Some x)
some_value None h = cc
some_value (Some x) h = (x, refl)

pub is_some-IsSome : {A : Type 0} (o : Option A) → is_some o ≡ true → IsSome o
is_some-IsSome None e = cc
is_some-IsSome (Some x) e = refl

-- both tests
pub and_true : (a b : Bool) → a ≡ true → b ≡ true → (a && b) ≡ true
and_true true b p q = q
and_true false b p q = cc

pub true_and : (a b : Bool) → (a && b) ≡ true → (a ≡ true) × (b ≡ true)
true_and true b e = (refl, e)
true_and false b e = cc

-- a fact holds where all is well
pub on_ok : {T E : Type 0} {P : Type 0} (r : Result T E) → P → OnOk r P
on_ok (Ok x) p = p
on_ok (Err e) p = tt
