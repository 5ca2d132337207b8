-- How a reader is exact for a grammar, piece by piece.
use Rattle.std.proofs.Common.{◌≡◌, ◌≢◌, ◌⊎◌, inl, inr, ℕ, zero, suc, ◌+◌, ◌≤◌, ◌<◌, Bool, true, false, cond, ltb, eqb, List, [], ◌∷◌, ◌++◌, length, take, drop, Option, None, Some, Result, Ok, Err, refl, sym, ap, subst, ◌∙◌, append_assoc, arith, length-append, eq-eqb}
use Rattle.std.proofs.lemmas.Bool.{ltb-false, le-ltb, lt-ltb, eqb-true, ne_eqb}
use Rattle.std.proofs.lemmas.List.{take_at, drop_at, take-append-drop, length-take, append-nil, nil_from_length}
use Rattle.kb_grammar.specs.Reading.{Place, Reader, follow, ◌>>=◌, done, fault, here, guard, unless, judged, told_as, telling, run, number, folded, one_more, repeated, big_endian, settled, whole, given, sized}
use Rattle.kb_grammar.specs.Grammar.{Piece, ◌⊳◌, IsNothing, IsRun, IsRunOf, IsNumber, IsAny, Each, Steps, Between, IsCut, Exact, IsSized}

-- ---- tools

-- a reader that went on to the next
pub follow_ok : {E A B : Type 0} (r : Result (A × Place) E) (f : A → Reader E B) (y : B) (q : Place) → follow r f ≡ Ok (y, q)
    → (x : A) × (m : Place) × (r ≡ Ok (x, m)) × (f x m ≡ Ok (y, q))
follow_ok (Ok x) f y q e = (x.0, x.1, refl, e)
follow_ok (Err d) f y q e = absurd cc

-- a test that let the reader go on
pub guard_ok : {A E : Type 0} (b : Bool) (e : E) (r : Result A E) (x : A) → cond b r (Err e) ≡ Ok x → (b ≡ true) × (r ≡ Ok x)
guard_ok true e r x h = (refl, h)
guard_ok false e r x h = absurd cc

-- what a reader without fault gives
ok_is : {E A : Type 0} (z x : A) (p q : Place) → done {E = E} z p ≡ Ok (x, q) → (z ≡ x) × (p ≡ q)
ok_is {E} {A} z x p q e =
    let pair : (z, p) ≡ (x, q) = cc in
    (ap (λ (w : A × Place). w.0) pair, ap (λ (w : A × Place). w.1) pair)

-- no text lies between a place and itself
pub between_nothing : (p : Place) → Between IsNothing p p
between_nothing p = record { text = []; spelled = refl; parts = refl; after = omega arith }

-- one text behind the other
pub between_joined : (S T : Piece) (p q m : Place) → Between S p m → Between T m q → Between (S ⊳ T) p q
between_joined S T p q m a b = record {
  text = a.text ++ b.text;
  spelled = record { front = a.text; back = b.text; parts = refl; begins = a.spelled; ends = subst (λ (at : ℕ). T at b.text) a.after b.spelled };
  parts = a.parts ∙ ap (λ (t : List ℕ). a.text ++ t) b.parts ∙ sym (append_assoc a.text b.text q.rest);
  after = omega (arith, a.after, b.after, length-append a.text b.text);
}

-- the same text, told in another way
pub between_same : (S T : Piece) (p q : Place) → ((text : List ℕ) → S p.at text → T p.at text) → Between S p q → Between T p q
between_same S T p q same a = record { text = a.text; spelled = same a.text a.spelled; parts = a.parts; after = a.after }

-- a text that is cut is cut in its front or behind it
cut_place : (f b front back : List ℕ) → f ++ b ≡ front ++ back
    → ((more : List ℕ) × (more ≢ []) × (f ≡ front ++ more)) ⊎ ((more : List ℕ) × (front ≡ f ++ more) × (b ≡ more ++ back))
cut_place [] b front back e = inr (front, refl, e)
cut_place (x ∷ f) b [] back e = inl (x ∷ f, (λ h. absurd cc), refl)
cut_place (x ∷ f) b (y ∷ front) back e =
    let tails : f ++ b ≡ front ++ back = cc in
    let heads : x ≡ y = cc in
    go heads (cut_place f b front back tails)
  where
    go : x ≡ y → ((more : List ℕ) × (more ≢ []) × (f ≡ front ++ more)) ⊎ ((more : List ℕ) × (front ≡ f ++ more) × (b ≡ more ++ back))
        → ((more : List ℕ) × (more ≢ []) × (x ∷ f ≡ y ∷ front ++ more)) ⊎ ((more : List ℕ) × (y ∷ front ≡ x ∷ f ++ more) × (b ≡ more ++ back))
    go heads (inl c) = inl (c.0, c.1, rw (heads, ← c.2) refl)
    go heads (inr c) = inr (c.0, rw (heads, ← c.1) refl, c.2)

-- no text is cut where there is none
nothing_cut : {A : Type 0} (front back : List ℕ) → front ++ back ≡ [] → back ≢ [] → A
nothing_cut [] back e some = absurd (some e)
nothing_cut (x ∷ front) back e some = absurd cc

-- what a cut front says of the whole
cut_first : {E A B : Type 0} (short : ℕ → E) (at : ℕ) (text : List ℕ) (read : Result (A × Place) E) (f : A → Reader E B)
    → IsCut short at text read → IsCut short at text (follow read f)
cut_first short at text read f c = record { item = c.item; behind = c.behind; within = c.within; is = rw c.is refl }

-- ---- laws

-- another grammar of the same texts
pub exact_same : {E A : Type 0} (short : ℕ → E) (r : Reader E A) (S T : A → Piece) → Exact short r S
    → ((x : A) (at : ℕ) (text : List ℕ) → S x at text → T x at text) → ((x : A) (at : ℕ) (text : List ℕ) → T x at text → S x at text) → Exact short r T
exact_same short r S T exact to from = record {
  found = λ p q x e. between_same (S x) (T x) p q (to x p.at) (exact.found p q x e);
  only = λ x text rest at s. exact.only x text rest at (from x at text s);
  cut = λ x front back at s some. exact.cut x front back at (from x at (front ++ back) s) some;
}

-- A reader that takes nothing and gives z, where what is known of a value makes it z.
pub done_exact : {E A : Type 0} (short : ℕ → E) (z : A) (K : A → Type 0) → ((y : A) → K y → y ≡ z) → K z → Exact short (done z) (λ y at bytes. K y × IsNothing at bytes)
done_exact {E} {A} short z K is known = record { found = done_found; only = done_only; cut = λ x front back at s some. nothing_cut front back s.1 some } where
  done_found : (p q : Place) (x : A) → done {E = E} z p ≡ Ok (x, q) → Between (λ at bytes. K x × IsNothing at bytes) p q
  done_found p q x e =
      let same = ok_is {E = E} z x p q e in
      subst (λ (m : Place). Between (λ at bytes. K x × IsNothing at bytes) p m) same.1
      (between_same IsNothing (λ at bytes. K x × IsNothing at bytes) p p (λ text s. (subst K same.0 known, s)) (between_nothing p))

  done_only : (x : A) (text rest : List ℕ) (at : ℕ) → K x × IsNothing at text
      → done {E = E} z (record { rest = text ++ rest; at = at }) ≡ Ok (x, record { rest = rest; at = at + length text })
  done_only x text rest at s =
      let same : x ≡ z = is x s.0 in
      let len : at + length text ≡ at = omega (arith, ap length s.1) in
      rw (same, len, s.1) refl

-- a reader that only tells a fault, where no text spells a value
pub fault_exact : {E A : Type 0} (short : ℕ → E) (e : E) (S : A → Piece) → ((y : A) (at : ℕ) (text : List ℕ) → S y at text → ⊥) → Exact short (fault {A = A} e) S
fault_exact short e S none = record {
  found = λ p q x h. absurd cc;
  only = λ x text rest at s. absurd (none x at text s);
  cut = λ x front back at s some. absurd (none x at (front ++ back) s);
}

-- What was read first decides how to go on.
pub bind_exact : {E X A : Type 0} (short : ℕ → E) (r : Reader E X) (f : X → Reader E A) (S : X → Piece) (T : X → A → Piece)
    → Exact short r S → ((x : X) → Exact short (f x) (T x)) → Exact short (r >>= f) (λ y at bytes. (x : X) × (S x ⊳ T x y) at bytes)
bind_exact {E} {X} {A} short r f S T exact next = record { found = bind_found; only = bind_only; cut = bind_cut } where
  bind_found : (p q : Place) (y : A) → (r >>= f) p ≡ Ok (y, q) → Between (λ at bytes. (x : X) × (S x ⊳ T x y) at bytes) p q
  bind_found p q y e =
      let a = follow_ok (r p) f y q e in
      let first : Between (S a.0) p a.1 = exact.found p a.1 a.0 a.2 in
      let second : Between (T a.0 y) a.1 q = (next a.0).found a.1 q y a.3 in
      between_same (S a.0 ⊳ T a.0 y) (λ at bytes. (x : X) × (S x ⊳ T x y) at bytes) p q (λ text s. (a.0, s))
      (between_joined (S a.0) (T a.0 y) p q a.1 first second)

  bind_only : (y : A) (text rest : List ℕ) (at : ℕ) → (x : X) × (S x ⊳ T x y) at text
      → (r >>= f) (record { rest = text ++ rest; at = at }) ≡ Ok (y, record { rest = rest; at = at + length text })
  bind_only y text rest at s =
      let j = s.1 in
      let regrouped : text ++ rest ≡ j.front ++ (j.back ++ rest) = rw j.parts (append_assoc j.front j.back rest) in
      let len : at + length text ≡ at + length j.front + length j.back = omega (arith, ap length j.parts, length-append j.front j.back) in
      let one = exact.only s.0 j.front (j.back ++ rest) at j.begins in
      let two = (next s.0).only y j.back rest (at + length j.front) j.ends in
      rw (regrouped, len, one) two

  bind_cut : (y : A) (front back : List ℕ) (at : ℕ) → (x : X) × (S x ⊳ T x y) at (front ++ back) → back ≢ []
      → IsCut short at front ((r >>= f) (record { rest = front; at = at }))
  bind_cut y front back at s some = go (cut_place s.1.front s.1.back front back (sym s.1.parts)) where
    go : ((more : List ℕ) × (more ≢ []) × (s.1.front ≡ front ++ more)) ⊎ ((more : List ℕ) × (front ≡ s.1.front ++ more) × (s.1.back ≡ more ++ back))
        → IsCut short at front (follow (r (record { rest = front; at = at })) f)
    go (inl c) =
        cut_first short at front (r (record { rest = front; at = at })) f (exact.cut s.0 front c.0 at (subst (S s.0 at) c.2 s.1.begins) c.1)
    go (inr c) =
        let one = exact.only s.0 s.1.front c.0 at s.1.begins in
        let k = (next s.0).cut y c.0 back (at + length s.1.front) (subst (T s.0 y (at + length s.1.front)) c.2 s.1.ends) some in
        record {
          item = k.item;
          behind = omega (arith, k.behind);
          within = omega (arith, k.within, ap length c.1, length-append s.1.front c.0);
          is = rw (c.1, one) k.is;
        }

-- A value of which a reader reads one part first. K is what is known of the value before.
pub field_exact : {E X A : Type 0} (short : ℕ → E) (r : Reader E X) (f : X → Reader E A) (get : A → X) (S : X → Piece) (K : A → Type 0) (T : A → Piece)
    → Exact short r S → ((x : X) → Exact short (f x) (λ y at bytes. (K y × (get y ≡ x)) × T y at bytes))
    → Exact short (r >>= f) (λ y at bytes. K y × (S (get y) ⊳ T y) at bytes)
field_exact {E} {X} {A} short r f get S K T exact next =
    exact_same short (r >>= f) (λ y at bytes. (x : X) × (S x ⊳ (λ o back. (K y × (get y ≡ x)) × T y o back)) at bytes) (λ y at bytes. K y × (S (get y) ⊳ T y) at bytes)
    (bind_exact short r f S (λ x y at back. (K y × (get y ≡ x)) × T y at back) exact next)
    (λ y at text s. (s.1.ends.0.0, record { front = s.1.front; back = s.1.back; parts = s.1.parts; begins = subst (λ (x : X). S x at s.1.front) (sym s.1.ends.0.1) s.1.begins; ends = s.1.ends.1 }))
    (λ y at text s. (get y, record { front = s.1.front; back = s.1.back; parts = s.1.parts; begins = s.1.begins; ends = ((s.0, refl), s.1.ends) }))

-- nothing behind a piece
pub joined_nothing : (S : Piece) (at : ℕ) (text : List ℕ) → (S ⊳ IsNothing) at text → S at text
joined_nothing S at text j = subst (S at) (sym (j.parts ∙ ap (λ (t : List ℕ). j.front ++ t) j.ends ∙ append-nil j.front)) j.begins

pub nothing_joined : (S : Piece) (at : ℕ) (text : List ℕ) → S at text → (S ⊳ IsNothing) at text
nothing_joined S at text s = record { front = text; back = []; parts = sym (append-nil text); begins = s; ends = refl }

-- a reader of the last part of a value
pub last_exact : {E X A : Type 0} (short : ℕ → E) (r : Reader E X) (g : X → A) (get : A → X) (S : X → Piece) (K : A → Type 0)
    → Exact short r S → ((y : A) (x : X) → K y → get y ≡ x → y ≡ g x) → ((x : X) → K (g x) × (get (g x) ≡ x))
    → Exact short (r >>= λ x. done (g x)) (λ y at bytes. K y × S (get y) at bytes)
last_exact {E} {X} {A} short r g get S K exact is known =
    exact_same short (r >>= λ x. done (g x)) (λ y at bytes. K y × (S (get y) ⊳ IsNothing) at bytes) (λ y at bytes. K y × S (get y) at bytes)
    (field_exact short r (λ x. done (g x)) get S K (λ y. IsNothing) exact (λ x. done_exact short (g x) (λ y. K y × (get y ≡ x)) (λ y k. is y x k.0 k.1) (known x)))
    (λ y at text s. (s.0, joined_nothing (S (get y)) at text s.1)) (λ y at text s. (s.0, nothing_joined (S (get y)) at text s.1))

-- a value made of what a reader gives
pub made_exact : {E X A : Type 0} (short : ℕ → E) (r : Reader E X) (g : X → A) (S : X → Piece)
    → Exact short r S → Exact short (r >>= λ x. done (g x)) (λ y at bytes. (x : X) × (y ≡ g x) × S x at bytes)
made_exact {E} {X} {A} short r g S exact =
    exact_same short (r >>= λ x. done (g x)) (λ y at bytes. (x : X) × (S x ⊳ (λ o back. (y ≡ g x) × IsNothing o back)) at bytes) (λ y at bytes. (x : X) × (y ≡ g x) × S x at bytes)
    (bind_exact short r (λ x. done (g x)) S (λ x y at back. (y ≡ g x) × IsNothing at back) exact (λ x. done_exact short (g x) (λ y. y ≡ g x) (λ y e. e) refl))
    (λ y at text s. (s.0, s.1.ends.0, joined_nothing (S s.0) at text (record { front = s.1.front; back = s.1.back; parts = s.1.parts; begins = s.1.begins; ends = s.1.ends.1 })))
    (λ y at text s. let j = nothing_joined (S s.0) at text s.2 in (s.0, record { front = j.front; back = j.back; parts = j.parts; begins = j.begins; ends = (s.1, j.ends) }))

-- something that is read and let go
pub skip_exact : {E X A : Type 0} (short : ℕ → E) (r : Reader E X) (next : Reader E A) (S : X → Piece) (K : A → Type 0) (T : A → Piece)
    → Exact short r S → Exact short next (λ y at bytes. K y × T y at bytes) → Exact short (r >>= λ x. next) (λ y at bytes. K y × (IsAny S ⊳ T y) at bytes)
skip_exact {E} {X} {A} short r next S K T exact follows =
    exact_same short (r >>= λ x. next) (λ y at bytes. (x : X) × (S x ⊳ (λ o back. K y × T y o back)) at bytes) (λ y at bytes. K y × (IsAny S ⊳ T y) at bytes)
    (bind_exact short r (λ x. next) S (λ x y at back. K y × T y at back) exact (λ x. follows))
    (λ y at text s. (s.1.ends.0, record { front = s.1.front; back = s.1.back; parts = s.1.parts; begins = (s.0, s.1.begins); ends = s.1.ends.1 }))
    (λ y at text s. (s.1.begins.0, record { front = s.1.front; back = s.1.back; parts = s.1.parts; begins = s.1.begins.1; ends = (s.0, s.1.ends) }))

-- A test that what is known of the value decides.
pub guard_exact : {E A : Type 0} (short : ℕ → E) (test : Bool) (e : E) (r : Reader E A) (K : A → Type 0) (T : A → Piece)
    → ((y : A) → K y → test ≡ true) → (test ≡ true → Exact short r (λ y at bytes. K y × T y at bytes)) → Exact short (guard test e r) (λ y at bytes. K y × T y at bytes)
guard_exact {E} {A} short test e r K T known next = record {
  found = λ p q x h. let g = guard_ok test e (r p) (x, q) h in (next g.0).found p q x g.1;
  only = λ x text rest at s. rw (known x s.0) ((next (known x s.0)).only x text rest at s);
  cut = λ x front back at s some. let c = (next (known x s.0)).cut x front back at s some in record { item = c.item; behind = c.behind; within = c.within; is = rw (known x s.0) c.is };
}

-- a reader that asks where it stands
pub here_exact : {E A : Type 0} (short : ℕ → E) (f : ℕ → Reader E A) (S : ℕ → A → Piece) → ((at : ℕ) → Exact short (f at) (S at)) → Exact short (here >>= f) (λ y at bytes. S at y at bytes)
here_exact short f S exact = record {
  found = λ p q x e. let b = (exact p.at).found p q x e in record { text = b.text; spelled = b.spelled; parts = b.parts; after = b.after };
  only = λ x text rest at s. (exact at).only x text rest at s;
  cut = λ x front back at s some. (exact at).cut x front back at s some;
}

-- a value that has no fault
pub unless_exact : {E A : Type 0} (short : ℕ → E) (refused : Option E) (z : A) (K : A → Type 0) → (refused ≡ None → K z) → ((y : A) → K y → (y ≡ z) × (refused ≡ None))
    → Exact short (unless refused z) (λ y at bytes. K y × IsNothing at bytes)
unless_exact {E} {A} short None z K known is = exact_same short (unless None z) (λ y at bytes. K y × IsNothing at bytes) (λ y at bytes. K y × IsNothing at bytes)
    (done_exact short z K (λ y k. (is y k).0) (known refl)) (λ y at text s. s) (λ y at text s. s)
unless_exact short (Some e) z K known is = fault_exact short e (λ y at bytes. K y × IsNothing at bytes) (λ y at text s. (let no = (is y s.0).1 in absurd cc))

-- a value that may have a fault: it has none exactly where it is what it must be
pub judged_exact : {E A : Type 0} (short : ℕ → E) (judge : ℕ → A → Option E) (r : Reader E A) (S : A → Piece) (K : A → Type 0)
    → Exact short r S → ((at : ℕ) (x : A) → judge at x ≡ None → K x) → ((at : ℕ) (x : A) → K x → judge at x ≡ None)
    → Exact short (judged judge r) (λ y at bytes. K y × S y at bytes)
judged_exact {E} {A} short judge r S K exact passes fails =
    here_exact short (λ at. r >>= λ x. unless (judge at x) x) (λ at y o bytes. K y × S y o bytes)
    (λ at. exact_same short (r >>= λ x. unless (judge at x) x) (λ y o bytes. (x : A) × (S x ⊳ (λ b back. ((x ≡ y) × K y) × IsNothing b back)) o bytes) (λ y o bytes. K y × S y o bytes)
    (bind_exact short r (λ x. unless (judge at x) x) S (λ x y o back. ((x ≡ y) × K y) × IsNothing o back) exact
    (λ x. unless_exact short (judge at x) x (λ y. (x ≡ y) × K y) (λ none. (refl, passes at x none)) (λ y k. (sym k.0, subst (λ (z : A). judge at z ≡ None) (sym k.0) (fails at y k.1)))))
    (λ y o text s. (s.1.ends.0.1, subst (λ (x : A). S x o text) s.1.ends.0.0 (joined_nothing (S s.0) o text (record { front = s.1.front; back = s.1.back; parts = s.1.parts; begins = s.1.begins; ends = s.1.ends.1 }))))
    (λ y o text s. let j = nothing_joined (S y) o text s.1 in (y, record { front = j.front; back = j.back; parts = j.parts; begins = j.begins; ends = ((refl, s.0), j.ends) })))

-- faults that are told as others
told_ok : {E F A : Type 0} (f : E → F) (read : Result A E) (x : A) → told_as f read ≡ Ok x → read ≡ Ok x
told_ok f (Ok y) x e = let same : y ≡ x = cc in rw same refl
told_ok f (Err d) x e = absurd cc

pub telling_exact : {E F A : Type 0} (short : ℕ → E) (f : E → F) (r : Reader E A) (S : A → Piece) → Exact short r S → Exact (λ at. f (short at)) (telling f r) S
telling_exact short f r S exact = record {
  found = λ p q x e. exact.found p q x (told_ok f (r p) (x, q) e);
  only = λ x text rest at s. rw (exact.only x text rest at s) refl;
  cut = λ x front back at s some. let c = exact.cut x front back at s some in record { item = c.item; behind = c.behind; within = c.within; is = rw c.is refl };
}

-- A value of many items, of which the fault of an item that is not whole has the offset at which the value begins.
pub begun_exact : {E F A : Type 0} (short : ℕ → E) (start : ℕ → F) (told : ℕ → E → F) (r : Reader E A) (S : A → Piece) → Exact short r S → ((at item : ℕ) → told at (short item) ≡ start at)
    → Exact start (here >>= λ at. telling (told at) r) S
begun_exact short start told r S exact same = record {
  found = λ p q x e. exact.found p q x (told_ok (told p.at) (r p) (x, q) e);
  only = λ x text rest at s. rw (exact.only x text rest at s) refl;
  cut = λ x front back at s some. let c = exact.cut x front back at s some in record { item = at; behind = omega arith; within = omega arith; is = rw (c.is, same at c.item) refl };
}

-- a test that chooses between two readers
pub if_exact : {E A : Type 0} (short : ℕ → E) (test : Bool) (r s : Reader E A) (S : A → Piece)
    → (test ≡ true → Exact short r S) → (test ≡ false → Exact short s S) → Exact short (λ p. cond test (r p) (s p)) S
if_exact short true r s S first second = first refl
if_exact short false r s S first second = second refl

-- a number that must be k
pub expect_exact : {E A : Type 0} (short : ℕ → E) (r : Reader E ℕ) (k : ℕ) (e : E) (next : Reader E A) (S : ℕ → Piece) (K : A → Type 0) (T : A → Piece)
    → Exact short r S → Exact short next (λ y at bytes. K y × T y at bytes)
    → Exact short (r >>= λ x. guard (eqb x k) e next) (λ y at bytes. K y × (S k ⊳ T y) at bytes)
expect_exact short r k e next S K T exact follows =
    exact_same short (r >>= λ x. guard (eqb x k) e next) (λ y at bytes. (x : ℕ) × (S x ⊳ (λ o back. (K y × (x ≡ k)) × T y o back)) at bytes) (λ y at bytes. K y × (S k ⊳ T y) at bytes)
    (bind_exact short r (λ x. guard (eqb x k) e next) S (λ x y o back. (K y × (x ≡ k)) × T y o back) exact
    (λ x. guard_exact short (eqb x k) e next (λ y. K y × (x ≡ k)) T (λ y known. eq-eqb x k known.1)
    (λ is. exact_same short next (λ y at bytes. K y × T y at bytes) (λ y at bytes. (K y × (x ≡ k)) × T y at bytes) follows
    (λ y at text s. ((s.0, eqb-true x k is), s.1)) (λ y at text s. (s.0.0, s.1)))))
    (λ y at text s. (s.1.ends.0.0, record { front = s.1.front; back = s.1.back; parts = s.1.parts; begins = subst (λ (x : ℕ). S x at s.1.front) s.1.ends.0.1 s.1.begins; ends = s.1.ends.1 }))
    (λ y at text s. (k, record { front = s.1.front; back = s.1.back; parts = s.1.parts; begins = s.1.begins; ends = ((s.0, refl), s.1.ends) }))

-- ---- runs and numbers

-- a test that failed lets a reader go on
short_ok : {A E : Type 0} (b : Bool) (e : E) (r : Result A E) (x : A) → cond b (Err e) r ≡ Ok x → (b ≡ false) × (r ≡ Ok x)
short_ok true e r x h = absurd cc
short_ok false e r x h = (refl, h)

some_longer : (back : List ℕ) → back ≢ [] → 1 ≤ length back
some_longer [] some = absurd (some refl)
some_longer (x ∷ back) some = omega arith

pub run_exact : {E : Type 0} (short : ℕ → E) (n : ℕ) → Exact short (run short n) (IsRunOf n)
unfolding run
run_exact {E} short n = record { found = run_found; only = run_only; cut = run_cut } where
  run_found : (p q : Place) (x : List ℕ) → run short n p ≡ Ok (x, q) → Between (IsRunOf n x) p q
  run_found p q x e =
      let g = short_ok (ltb (length p.rest) n) (short p.at) (Ok (take n p.rest, record { rest = drop n p.rest; at = p.at + n })) (x, q) e in
      let long : n ≤ length p.rest = ltb-false _ _ g.0 in
      let same = ok_is {E = E} (take n p.rest) x (record { rest = drop n p.rest; at = p.at + n }) q g.1 in
      let len : length (take n p.rest) ≡ n = omega (arith, length-take n p.rest) in
      subst (λ (m : Place). Between (IsRunOf n x) p m) same.1
      (subst (λ (y : List ℕ). Between (IsRunOf n y) p (record { rest = drop n p.rest; at = p.at + n })) same.0
      (record { text = take n p.rest; spelled = (len, refl); parts = sym (take-append-drop n p.rest); after = rw len refl }))

  run_only : (x text rest : List ℕ) (at : ℕ) → IsRunOf n x at text
      → run short n (record { rest = text ++ rest; at = at }) ≡ Ok (x, record { rest = rest; at = at + length text })
  run_only x text rest at s =
      let len : length text ≡ n = ap length s.1 ∙ s.0 in
      let long : ltb (length (text ++ rest)) n ≡ false = le-ltb _ _ (omega (arith, length-append text rest)) in
      rw (long, take_at text rest n len, drop_at text rest n len, s.1, s.0) refl

  run_cut : (x front back : List ℕ) (at : ℕ) → IsRunOf n x at (front ++ back) → back ≢ [] → IsCut short at front (run short n (record { rest = front; at = at }))
  run_cut x front back at s some =
      let shorter : length front < n = omega (arith, length-append front back, some_longer back some, ap length s.1, s.0) in
      record { item = at; behind = omega arith; within = omega arith; is = rw (lt-ltb (length front) n shorter) refl }

-- a run that is not whole
pub run_short : {E : Type 0} (short : ℕ → E) (n at : ℕ) (front : List ℕ) → length front < n → run short n (record { rest = front; at = at }) ≡ Err (short at)
unfolding run
run_short short n at front few = rw (lt-ltb (length front) n few) refl

-- a number that is not whole
pub number_short : {E : Type 0} (short : ℕ → E) (width at : ℕ) (front : List ℕ) → length front < width → number short width (record { rest = front; at = at }) ≡ Err (short at)
unfolding number
number_short short width at front few = rw (run_short short width at front few) refl

pub number_exact : {E : Type 0} (short : ℕ → E) (width : ℕ) → Exact short (number short width) (IsNumber width)
unfolding number
number_exact short width =
    exact_same short (run short width >>= λ bytes. done (big_endian bytes)) (λ n at bytes. (text : List ℕ) × (n ≡ big_endian text) × IsRunOf width text at bytes) (IsNumber width)
    (made_exact short (run short width) big_endian (IsRunOf width) (run_exact short width))
    (λ n at bytes s. (ap length s.2.1 ∙ s.2.0, ap big_endian s.2.1 ∙ sym s.1))
    (λ n at bytes s. (bytes, sym s.1, (s.0, refl)))

-- ---- steps

pub folded_exact : {E A : Type 0} (short : ℕ → E) (step : A → Reader E A) (S : A → A → Piece) → ((x : A) → Exact short (step x) (S x))
    → (n : ℕ) (x : A) → Exact short (folded step n x) (Steps S n x)
unfolding folded
folded_exact short step S exact zero x = done_exact short x (λ y. y ≡ x) (λ y e. e) refl
folded_exact short step S exact (suc n) x =
    bind_exact short (step x) (folded step n) (S x) (Steps S n) (exact x) (λ next. folded_exact short step S exact n next)

-- one value more
abbrev pub OneMore : {A : Type 0} → (A → Piece) → List A → List A → Piece
OneMore {A = A} S xs ys at bytes = (x : A) × (ys ≡ xs ++ x ∷ []) × S x at bytes

-- values behind those that are there
abbrev pub Longer : {A : Type 0} → (A → Piece) → ℕ → List A → List A → Piece
Longer {A = A} S n xs all at bytes = (ys : List A) × (all ≡ xs ++ ys) × ((length ys ≡ n) × Each S ys at bytes)

longer_to : {A : Type 0} (S : A → Piece) (n : ℕ) (xs all : List A) (at : ℕ) (bytes : List ℕ) → Steps (OneMore S) n xs all at bytes → Longer S n xs all at bytes
longer_to S zero xs all at bytes s = ([], s.0 ∙ sym (append-nil xs), (refl, s.1))
longer_to {A} S (suc n) xs all at bytes s =
    let j = s.1 in
    let more = longer_to S n s.0 all (at + length j.front) j.back j.ends in
    let first = j.begins in (
      first.0 ∷ more.0,
      more.1 ∙ ap (λ (l : List A). l ++ more.0) first.1 ∙ append_assoc xs (first.0 ∷ []) more.0,
      (ap (λ k. suc k) more.2.0, record { front = j.front; back = j.back; parts = j.parts; begins = first.2; ends = more.2.1 }),
    )

longer_from : {A : Type 0} (S : A → Piece) (n : ℕ) (xs all ys : List A) (at : ℕ) (bytes : List ℕ) → all ≡ xs ++ ys → length ys ≡ n → Each S ys at bytes → Steps (OneMore S) n xs all at bytes
longer_from S zero xs all [] at bytes is len each = (is ∙ append-nil xs, each)
longer_from S zero xs all (y ∷ ys) at bytes is len each = absurd (omega (arith, len))
longer_from S (suc n) xs all [] at bytes is len each = absurd (omega (arith, len))
longer_from S (suc n) xs all (y ∷ ys) at bytes is len each =
    let shorter : length ys ≡ n = omega (arith, len) in (
      xs ++ y ∷ [],
      record {
        front = each.front;
        back = each.back;
        parts = each.parts;
        begins = (y, refl, each.begins);
        ends = longer_from S n (xs ++ y ∷ []) all ys (at + length each.front) each.back (is ∙ sym (append_assoc xs (y ∷ []) ys)) shorter each.ends;
      },
    )

pub repeated_exact : {E A : Type 0} (short : ℕ → E) (r : ℕ → Reader E A) (S : A → Piece) (n : ℕ) → ((number : ℕ) → Exact short (r number) S)
    → Exact short (repeated r n) (λ xs at bytes. (length xs ≡ n) × Each S xs at bytes)
repeated_exact {E} {A} short r S n exact =
    exact_same short (repeated r n) (Steps (OneMore S) n []) (λ xs at bytes. (length xs ≡ n) × Each S xs at bytes)
    (folded_exact short (one_more r) (OneMore S) (λ xs. made_exact short (r (length xs)) (λ x. xs ++ x ∷ []) S (exact (length xs))) n [])
    (λ xs at bytes s. let l = longer_to S n [] xs at bytes s in subst (λ (zs : List A). (length zs ≡ n) × Each S zs at bytes) (sym l.1) l.2)
    (λ xs at bytes s. longer_from S n [] xs xs at bytes refl s.0 s.1)

-- how many values there are, and then the values
pub counted_exact : {E A : Type 0} (short : ℕ → E) (count : Reader E ℕ) (r : ℕ → Reader E A) (N : ℕ → Piece) (S : A → Piece)
    → Exact short count N → ((number : ℕ) → Exact short (r number) S) → Exact short (count >>= repeated r) (λ xs. N (length xs) ⊳ Each S xs)
counted_exact {E} {A} short count r N S many each =
    exact_same short (count >>= repeated r) (λ xs at bytes. Unit {0} × (N (length xs) ⊳ Each S xs) at bytes) (λ xs. N (length xs) ⊳ Each S xs)
    (field_exact short count (repeated r) (λ xs. length xs) N (λ xs. Unit {0}) (λ xs. Each S xs) many
    (λ n. exact_same short (repeated r n) (λ xs at bytes. (length xs ≡ n) × Each S xs at bytes) (λ xs at bytes. (Unit {0} × (length xs ≡ n)) × Each S xs at bytes)
    (repeated_exact short r S n each) (λ xs at bytes s. ((tt, s.0), s.1)) (λ xs at bytes s. (s.0.1, s.1))))
    (λ xs at bytes s. s.1) (λ xs at bytes s. (tt, s))

-- ---- all of the bytes

-- a reader that came to the end
pub settled_ok : {E A : Type 0} (extra : ℕ → E) (read : Result (A × Place) E) (x : A) → settled extra read ≡ Ok x
    → (q : Place) × (read ≡ Ok (x, q)) × (q.rest ≡ [])
settled_ok extra (Err f) x e = absurd cc
settled_ok {E} {A} extra (Ok y) x e =
    let g = guard_ok (eqb (length y.1.rest) 0) (extra y.1.at) (result_of y.0) x e in
    let same : y.0 ≡ x = cc (g.1) in
    (y.1, ap (λ (v : A). done {E = E} v y.1) same, nil_from_length y.1.rest (eqb-true (length y.1.rest) 0 g.0)) where
      result_of : A → Result A E
      result_of v = Ok v

-- what is read of all the bytes is spelled by all of them
pub whole_found : {E A : Type 0} (short extra : ℕ → E) (r : Reader E A) (S : A → Piece) → Exact short r S
    → (bytes : List ℕ) (from : ℕ) (x : A) → whole extra r bytes from ≡ Ok x → S x from bytes
whole_found short extra r S exact bytes from x e =
    let s = settled_ok extra (r (record { rest = bytes; at = from })) x e in
    let b = exact.found (record { rest = bytes; at = from }) s.0 x s.1 in
    let all : bytes ≡ b.text = b.parts ∙ ap (λ (t : List ℕ). b.text ++ t) s.2 ∙ append-nil b.text in
    subst (S x from) (sym all) b.spelled

-- what all the bytes spell is read
pub whole_only : {E A : Type 0} (short extra : ℕ → E) (r : Reader E A) (S : A → Piece) → Exact short r S
    → (bytes : List ℕ) (from : ℕ) (x : A) → S x from bytes → whole extra r bytes from ≡ Ok x
whole_only short extra r S exact bytes from x s = rw (← append-nil bytes, exact.only x bytes [] from s) refl

-- where a fault is told, all the bytes spell nothing
pub whole_none : {E A : Type 0} (short extra : ℕ → E) (r : Reader E A) (S : A → Piece) → Exact short r S
    → (bytes : List ℕ) (from : ℕ) (e : E) → whole extra r bytes from ≡ Err e → (x : A) → S x from bytes → ⊥
whole_none short extra r S exact bytes from e h x s = let one = whole_only short extra r S exact bytes from x s in cc

-- bytes that go on behind what a front of them spells
pub whole_extra : {E A : Type 0} (short extra : ℕ → E) (r : Reader E A) (S : A → Piece) → Exact short r S
    → (front back : List ℕ) (from : ℕ) (x : A) → S x from front → back ≢ [] → whole extra r (front ++ back) from ≡ Err (extra (from + length front))
whole_extra short extra r S exact front back from x s some =
    let left_over : eqb (length back) 0 ≡ false = ne_eqb (length back) 0 (λ none. some (nil_from_length back none)) in
    rw (exact.only x front back from s, left_over) refl

-- a proper front of what spells a value
pub whole_cut : {E A : Type 0} (short extra : ℕ → E) (r : Reader E A) (S : A → Piece) → Exact short r S
    → (front back : List ℕ) (from : ℕ) (x : A) → S x from (front ++ back) → back ≢ [] → IsCut short from front (whole extra r front from)
whole_cut short extra r S exact front back from x s some =
    let c = exact.cut x front back from s some in
    record { item = c.item; behind = c.behind; within = c.within; is = rw c.is refl }

given_ok : {E A : Type 0} (r : Result A E) (p q : Place) (x : A) → given r p ≡ Ok (x, q) → (r ≡ Ok x) × (p ≡ q)
given_ok (Err f) p q x e = absurd cc
given_ok {E} (Ok y) p q x e = let same = ok_is {E = E} y x p q e in (rw same.0 refl, same.1)

-- a content that a reader of its own takes whole
pub given_exact : {E A : Type 0} (short outer extra : ℕ → E) (r : Reader E A) (S : A → Piece) → Exact short r S
    → (content : List ℕ) (from : ℕ) → Exact outer (given (whole extra r content from)) (λ y at bytes. S y from content × IsNothing at bytes)
given_exact {E} {A} short outer extra r S exact content from = record { found = given_found; only = given_only; cut = λ x front back at s some. nothing_cut front back s.1 some } where
  given_found : (p q : Place) (x : A) → given (whole extra r content from) p ≡ Ok (x, q) → Between (λ at bytes. S x from content × IsNothing at bytes) p q
  given_found p q x e =
      let g = given_ok (whole extra r content from) p q x e in
      subst (λ (m : Place). Between (λ at bytes. S x from content × IsNothing at bytes) p m) g.1
      (between_same IsNothing (λ at bytes. S x from content × IsNothing at bytes) p p (λ text s. (whole_found short extra r S exact content from x g.0, s)) (between_nothing p))

  given_only : (x : A) (text rest : List ℕ) (at : ℕ) → S x from content × IsNothing at text
      → given (whole extra r content from) (record { rest = text ++ rest; at = at }) ≡ Ok (x, record { rest = rest; at = at + length text })
  given_only x text rest at s =
      let len : at + length text ≡ at = omega (arith, ap length s.1) in
      rw (whole_only short extra r S exact content from x s.0, len, s.1) refl

-- the content and what is in it, in the order of the reader
abbrev ContentOf : {A : Type 0} → (A → Piece) → ℕ → ℕ → A → Piece
ContentOf S n from y at bytes = (content : List ℕ) × (IsRunOf n content ⊳ (λ o back. S y from content × IsNothing o back)) at bytes

abbrev SizedBy : {A : Type 0} → ℕ → (A → Piece) → A → Piece
SizedBy width S y at bytes = (n : ℕ) × (IsNumber width n ⊳ (λ o back. ContentOf S n o y o back)) at bytes

sized_to : {A : Type 0} (width : ℕ) (S : A → Piece) (y : A) (at : ℕ) (bytes : List ℕ) → SizedBy width S y at bytes → IsSized width (S y) at bytes
sized_to width S y at bytes s =
    let j = s.1 in
    let k = j.ends.1 in
    let all : j.back ≡ k.front = joined_nothing (λ o back. back ≡ k.front) (at + length j.front) j.back (record { front = k.front; back = k.back; parts = k.parts; begins = refl; ends = k.ends.1 }) in
    let from : at + length j.front ≡ at + width = omega (arith, j.begins.0) in
    record {
      content = j.ends.0;
      spelled = subst (λ (o : ℕ). S y o j.ends.0) from k.ends.0;
      sized = record {
        front = j.front;
        back = j.back;
        parts = j.parts;
        begins = subst (λ (n : ℕ). IsNumber width n at j.front) (sym k.begins.0) j.begins;
        ends = all ∙ k.begins.1;
      };
    }

sized_from : {A : Type 0} (width : ℕ) (S : A → Piece) (y : A) (at : ℕ) (bytes : List ℕ) → IsSized width (S y) at bytes → SizedBy width S y at bytes
sized_from width S y at bytes s =
    let j = s.sized in
    let k = nothing_joined (IsRun s.content) (at + length j.front) j.back j.ends in
    let from : at + width ≡ at + length j.front = omega (arith, j.begins.0) in (
      length s.content,
      record {
        front = j.front;
        back = j.back;
        parts = j.parts;
        begins = j.begins;
        ends = (s.content, record { front = k.front; back = k.back; parts = k.parts; begins = (refl, k.begins); ends = (subst (λ (o : ℕ). S y o s.content) from s.spelled, k.ends) });
      },
    )

-- a content behind its length
pub sized_exact : {E A : Type 0} (short : ℕ → E) (width : ℕ) (inner extra : ℕ → ℕ → E) (r : ℕ → Reader E A) (S : A → Piece) → ((from : ℕ) → Exact (inner from) (r from) S)
    → Exact short (sized short width extra r) (λ y. IsSized width (S y))
unfolding sized
sized_exact {E} {A} short width inner extra r S exact =
    exact_same short (number short width >>= λ n. here >>= λ from. run short n >>= λ content. given (whole (extra from) (r from) content from)) (SizedBy width S) (λ y. IsSized width (S y))
    (bind_exact short (number short width) (λ n. here >>= λ from. run short n >>= λ content. given (whole (extra from) (r from) content from)) (IsNumber width) (λ n y o back. ContentOf S n o y o back) (number_exact short width)
    (λ n. here_exact short (λ from. run short n >>= λ content. given (whole (extra from) (r from) content from)) (ContentOf S n)
    (λ from. bind_exact short (run short n) (λ content. given (whole (extra from) (r from) content from)) (IsRunOf n) (λ content y o back. S y from content × IsNothing o back) (run_exact short n)
    (λ content. given_exact (inner from) short (extra from) (r from) S (exact from) content from))))
    (sized_to width S) (sized_from width S)

-- ---- values of which nothing is known before

pub with_unit : {E A : Type 0} (short : ℕ → E) (r : Reader E A) (S : A → Piece) → Exact short r S → Exact short r (λ y at bytes. Unit {0} × S y at bytes)
with_unit short r S exact = exact_same short r S (λ y at bytes. Unit {0} × S y at bytes) exact (λ y at bytes s. (tt, s)) (λ y at bytes s. s.1)

pub without_unit : {E A : Type 0} (short : ℕ → E) (r : Reader E A) (S : A → Piece) → Exact short r (λ y at bytes. Unit {0} × S y at bytes) → Exact short r S
without_unit short r S exact = exact_same short r (λ y at bytes. Unit {0} × S y at bytes) S exact (λ y at bytes s. s.1) (λ y at bytes s. (tt, s))

-- the first part of a value
pub first_exact : {E X A : Type 0} (short : ℕ → E) (r : Reader E X) (f : X → Reader E A) (get : A → X) (S : X → Piece) (T : A → Piece)
    → Exact short r S → ((x : X) → Exact short (f x) (λ y at bytes. (get y ≡ x) × T y at bytes)) → Exact short (r >>= f) (λ y. S (get y) ⊳ T y)
first_exact short r f get S T exact next =
    without_unit short (r >>= f) (λ y. S (get y) ⊳ T y)
    (field_exact short r f get S (λ y. Unit {0}) T exact
    (λ x. exact_same short (f x) (λ y at bytes. (get y ≡ x) × T y at bytes) (λ y at bytes. (Unit {0} × (get y ≡ x)) × T y at bytes) (next x)
    (λ y at bytes s. ((tt, s.0), s.1)) (λ y at bytes s. (s.0.1, s.1))))

-- a last piece of which nothing is kept
pub end_exact : {E X A : Type 0} (short : ℕ → E) (r : Reader E X) (x : X) (z : A) (S : Piece) (K : A → Type 0)
    → Exact short r (λ x. S) → ((y : A) → K y → y ≡ z) → K z → Exact short (r >>= λ x. done z) (λ y at bytes. K y × S at bytes)
end_exact {E} {X} {A} short r x z S K exact is known =
    exact_same short (r >>= λ x. done z) (λ y at bytes. (x : X) × (S ⊳ (λ o back. K y × IsNothing o back)) at bytes) (λ y at bytes. K y × S at bytes)
    (bind_exact short r (λ x. done z) (λ x. S) (λ x y o back. K y × IsNothing o back) exact (λ x. done_exact short z K is known))
    (λ y at text s. (s.1.ends.0, joined_nothing S at text (record { front = s.1.front; back = s.1.back; parts = s.1.parts; begins = s.1.begins; ends = s.1.ends.1 })))
    (λ y at text s. let j = nothing_joined S at text s.1 in (x, record { front = j.front; back = j.back; parts = j.parts; begins = j.begins; ends = (s.0, j.ends) }))
