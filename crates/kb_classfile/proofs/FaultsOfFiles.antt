-- Which faults bytes have, in words about the bytes.
use Rattle.std.proofs.Common.{◌≡◌, ◌≢◌, ◌⊎◌, inl, inr, ℕ, ◌+◌, ◌≤◌, ◌<◌, Bool, true, false, ◌&&◌, leb, ltb, eqb, cond, List, [], ◌++◌, length, take, drop, Option, Some, None, Result, Ok, Err, refl, subst, sym, ap, ◌∙◌, arith, length-append}
use Rattle.std.proofs.lemmas.Bool.{ltb-true, ltb-false, lt-ltb, le-ltb, le-leb, leb-true, eqb-true, eqb-false, ne_eqb}
use Rattle.std.proofs.lemmas.List.{take_at, take-append-drop, length-take-le, length-take, length-drop, drop-drop}
use Rattle.kb_grammar.specs.Reading.{Place, Reader, follow, guard, unless, judged, number, settled, whole, big_endian}
use Rattle.kb_grammar.specs.Grammar.{Faults, IsNumber}
use Rattle.kb_grammar.proofs.Laws.{whole_extra, whole_cut, number_exact, number_short}
use Rattle.kb_grammar.proofs.FaultLaws.{bind_faults, guard_faults, judged_faults, number_faults}
use Rattle.kb_classfile.specs.declared.file.ClassFile.{ClassFile}
use Rattle.kb_classfile.specs.declared.refusal.ClassRefusal.{ClassRefusal}
use Rattle.kb_classfile.specs.declared.refusal.ClassRefusal.TheVariants as refusals
use Rattle.kb_classfile.specs.Spelling.{IsU2, IsU4, SpellsClass, magic, most_bytes, IsClassFile}
use Rattle.kb_classfile.specs.Reading.{short, u2, u4, version, version_fault, class_body, class_file, extra, reading, fault_in, first_fault}
use Rattle.kb_classfile.specs.Answers.{BeginsAsClass, IsRead, HasOtherMagic, HasOtherVersion, HasExtra, IsShort}
use Rattle.kb_classfile.proofs.MemberLaws.{class_file_exact}
use Rattle.kb_classfile.proofs.FaultsOfItems.{IsInner, behind_version, behind_version_inner}

-- the faults of a class file that goes on to its end
abbrev IsOfClass : ClassRefusal → Type 0
IsOfClass refusals.Magic = Unit {0}
IsOfClass (refusals.Version major) = Unit {0}
IsOfClass e = IsInner e

inner_of_class : (e : ClassRefusal) → IsInner e → IsOfClass e
inner_of_class refusals.Magic i = tt
inner_of_class (refusals.Version major) i = tt
inner_of_class e i = i

weaker : {A : Type 0} (r : Reader ClassRefusal A) → Faults IsInner r → Faults IsOfClass r
weaker r inner p e h = inner_of_class e (inner p e h)

-- the fault of a version is that version, which is not read
version_is : (at major : ℕ) (e : ClassRefusal) → version_fault at major ≡ Some e → (e ≡ refusals.Version major) × (IsRead major → ⊥)
version_is at major e h = go (leb 45 major && leb major 52) refl h where
  go : (b : Bool) → (leb 45 major && leb major 52) ≡ b → cond b None (Some (refusals.Version major)) ≡ Some e → (e ≡ refusals.Version major) × (IsRead major → ⊥)
  go true is h = absurd cc
  go false is h =
      let not_read : IsRead major → ⊥ = λ r. (let low = le-leb 45 major r.0 in let high = le-leb major 52 r.1 in let both : (leb 45 major && leb major 52) ≡ true = rw (low, high) refl in cc) in
      (cc, not_read)

class_file_faults : Faults IsOfClass class_file
unfolding class_file class_body version
class_file_faults =
    bind_faults IsOfClass u4 _ (number_faults IsOfClass short (λ at. tt) 4)
    (λ first. guard_faults IsOfClass (eqb first magic) refusals.Magic class_body tt
    (bind_faults IsOfClass version behind_version
    (bind_faults IsOfClass u2 _ (number_faults IsOfClass short (λ at. tt) 2)
    (λ minor. judged_faults IsOfClass version_fault u2 (number_faults IsOfClass short (λ at. tt) 2)
    (λ at major d h. subst IsOfClass (sym (version_is at major d h).0) tt)))
    (λ major. weaker (behind_version major) (behind_version_inner major))))

-- ---- from the fault of all bytes to that of the reader

abbrev start : List ℕ → Place
start bytes = record { rest = bytes; at = 0 }

some_same : (read : Result ClassFile ClassRefusal) (e : ClassRefusal) → fault_in read ≡ Some e → read ≡ Err e
some_same (Ok file) e h = absurd cc
some_same (Err d) e h = let same : d ≡ e = cc in rw same refl

-- the fault of bytes is that they are too many, or that of the class
limited : (b : Bool) (read : Result ClassFile ClassRefusal) (e : ClassRefusal) → e ≢ refusals.Long → cond b (Err refusals.Long) read ≡ Err e → (b ≡ false) × (read ≡ Err e)
limited true read e other h = absurd (other (let same : e ≡ refusals.Long = cc in same))
limited false read e other h = (refl, h)

within_limit : (bytes : List ℕ) (e : ClassRefusal) → e ≢ refusals.Long → first_fault bytes ≡ Some e → (length bytes ≤ most_bytes) × (whole extra class_file bytes 0 ≡ Err e)
unfolding reading
within_limit bytes e other h =
    let l = limited (ltb most_bytes (length bytes)) (whole extra class_file bytes 0) e other (some_same (reading bytes) e h) in
    (ltb-false most_bytes (length bytes) l.0, l.1)

from_whole : (bytes : List ℕ) (e : ClassRefusal) → length bytes ≤ most_bytes → whole extra class_file bytes 0 ≡ Err e → first_fault bytes ≡ Some e
unfolding reading
from_whole bytes e few h = rw (le-ltb most_bytes (length bytes) few, h) refl

-- what a class that has a fault came to
abbrev Came : List ℕ → ClassRefusal → Result (ClassFile × Place) ClassRefusal → Type 0
Came bytes e read = (class_file (start bytes) ≡ read) × (settled extra read ≡ Err e)

-- the fault is that of the reader, where it is none of bytes that are left over
inside : (read : Result (ClassFile × Place) ClassRefusal) (e : ClassRefusal) → ((at : ℕ) → e ≢ refusals.Extra at) → settled extra read ≡ Err e → read ≡ Err e
inside (Err d) e other h = let same : d ≡ e = cc in rw same refl
inside (Ok x) e other h = go (eqb (length x.1.rest) 0) h where
  go : (b : Bool) → (let told : Result ClassFile ClassRefusal = cond b (Ok x.0) (Err (refusals.Extra x.1.at)) in told ≡ Err e) → (let read : Result (ClassFile × Place) ClassRefusal = Ok x in read ≡ Err e)
  go true h = absurd cc
  go false h = absurd (other x.1.at (let same : e ≡ refusals.Extra x.1.at = cc in same))

-- ---- bytes in front

-- as many bytes as were taken are there
pub taken_whole : (n : ℕ) (bytes : List ℕ) → length (take n bytes) ≡ n → n ≤ length bytes
taken_whole n bytes len = omega (arith, len, length-take n bytes)

-- bytes that stand two further on
longer : (n k : ℕ) (bytes : List ℕ) → length (take 2 (drop (k + n) bytes)) ≡ 2 → n ≤ length (drop k bytes)
longer n k bytes len =
    let two : 2 ≤ length (drop (k + n) bytes) = taken_whole 2 (drop (k + n) bytes) len in
    omega (arith, two, length-drop (k + n) bytes, length-drop k bytes)

-- ---- too many

pub long_is : (bytes : List ℕ) → first_fault bytes ≡ Some refusals.Long → most_bytes < length bytes
unfolding reading
long_is bytes h = go (ltb most_bytes (length bytes)) refl (some_same (reading bytes) refusals.Long h) where
  go : (b : Bool) → ltb most_bytes (length bytes) ≡ b → cond b (Err refusals.Long) (whole extra class_file bytes 0) ≡ Err refusals.Long → most_bytes < length bytes
  go true is h = ltb-true most_bytes (length bytes) is
  go false is h =
      absurd (class_file_faults (start bytes) refusals.Long (inside (class_file (start bytes)) refusals.Long (λ at same. absurd cc) h))

pub is_long : (bytes : List ℕ) → most_bytes < length bytes → first_fault bytes ≡ Some refusals.Long
unfolding reading
is_long bytes many = rw (lt-ltb most_bytes (length bytes) many) refl

-- ---- left over

pub extra_is : (at : ℕ) (bytes : List ℕ) → first_fault bytes ≡ Some (refusals.Extra at) → HasExtra at bytes
extra_is at bytes h = go (class_file (start bytes)) refl w.1 where
  w : (length bytes ≤ most_bytes) × (whole extra class_file bytes 0 ≡ Err (refusals.Extra at))
  w = within_limit bytes (refusals.Extra at) (λ same. absurd cc) h

  go : (read : Result (ClassFile × Place) ClassRefusal) → class_file (start bytes) ≡ read → settled extra read ≡ Err (refusals.Extra at) → HasExtra at bytes
  go (Err d) is h =
      let same : d ≡ refusals.Extra at = cc in
      absurd (class_file_faults (start bytes) (refusals.Extra at) (is ∙ rw same refl))
  go (Ok x) is h = left (eqb (length x.1.rest) 0) refl h where
    left : (b : Bool) → eqb (length x.1.rest) 0 ≡ b → (let told : Result ClassFile ClassRefusal = cond b (Ok x.0) (Err (refusals.Extra x.1.at)) in told ≡ Err (refusals.Extra at)) → HasExtra at bytes
    left true none h = absurd cc
    left false some h =
        let b = class_file_exact.found (start bytes) x.1 x.0 is in
        let same : x.1.at ≡ at = cc in
        record {
          front = b.text;
          back = x.1.rest;
          parts = b.parts;
          length_is = omega (arith, same, b.after);
          some = λ none. eqb-false (length x.1.rest) 0 some (ap length none);
          file = x.0;
          spelled = b.spelled;
          limit = w.0;
        }

pub is_extra : (at : ℕ) (bytes : List ℕ) → HasExtra at bytes → first_fault bytes ≡ Some (refusals.Extra at)
is_extra at bytes x =
    let left : whole extra class_file (x.front ++ x.back) 0 ≡ Err (refusals.Extra (0 + length x.front)) = whole_extra short extra class_file SpellsClass class_file_exact x.front x.back 0 x.file x.spelled x.some in
    let same : 0 + length x.front ≡ at = omega (arith, x.length_is) in
    from_whole bytes (refusals.Extra at) x.limit (ap (λ (t : List ℕ). whole extra class_file t 0) x.parts ∙ left ∙ ap (λ (n : ℕ). error (refusals.Extra n)) same) where
      error : ClassRefusal → Result ClassFile ClassRefusal
      error e = Err e

-- ---- not whole

pub front_is_short : (file : ClassFile) (front back : List ℕ) → IsClassFile file (front ++ back) → back ≢ [] → IsShort front
front_is_short file front back s some =
    let c = whole_cut short extra class_file SpellsClass class_file_exact front back 0 file s.spelled some in
    let few : length front ≤ most_bytes = omega (arith, s.limit, length-append front back) in
    record { item = c.item; within = omega (arith, c.within); is = from_whole front (refusals.Short c.item) few c.is }

pub no_magic_is_short : (bytes : List ℕ) → length bytes < 4 → first_fault bytes ≡ Some (refusals.Short 0)
unfolding class_file
no_magic_is_short bytes few =
    let limit : length bytes ≤ most_bytes = omega (arith, few) in
    from_whole bytes (refusals.Short 0) limit (rw (number_short short 4 0 bytes few) refl)

-- ---- the magic number and the version

-- a number that stands in front
number_at : (width n : ℕ) (bytes : List ℕ) (at : ℕ) → IsNumber width n at (take width bytes) → number short width (record { rest = bytes; at = at }) ≡ Ok (n, record { rest = drop width bytes; at = at + width })
number_at width n bytes at s =
    let read = (number_exact short width).only n (take width bytes) (drop width bytes) at s in
    ap (λ (t : List ℕ). number short width (record { rest = t; at = at })) (sym (take-append-drop width bytes)) ∙ read ∙ rw s.0 refl

ok_pair : (a b : ℕ × Place) → (let one : Result (ℕ × Place) ClassRefusal = Ok a in one ≡ Ok b) → a ≡ b
ok_pair a b h = cc

-- the number that was read stands in front
at_number : (width n : ℕ) (bytes : List ℕ) (at : ℕ) (q : Place) → number short width (record { rest = bytes; at = at }) ≡ Ok (n, q)
    → IsNumber width n at (take width bytes) × (q ≡ record { rest = drop width bytes; at = at + width })
at_number width n bytes at q read =
    let b = (number_exact short width).found (record { rest = bytes; at = at }) q n read in
    let front : take width bytes ≡ b.text = ap (λ (t : List ℕ). take width t) b.parts ∙ take_at b.text q.rest width b.spelled.0 in
    let s : IsNumber width n at (take width bytes) = subst (IsNumber width n at) (sym front) b.spelled in
    let pair = ok_pair (n, q) (n, record { rest = drop width bytes; at = at + width }) (sym read ∙ number_at width n bytes at s) in
    (s, ap (λ (w : ℕ × Place). w.1) pair)

-- a reader that stopped at the first part, or behind it
follow_err : {A B : Type 0} (r : Result (A × Place) ClassRefusal) (f : A → Reader ClassRefusal B) (e : ClassRefusal) → follow r f ≡ Err e
    → (let stopped : Result (A × Place) ClassRefusal = Err e in r ≡ stopped) ⊎ ((x : A) × (m : Place) × (r ≡ Ok (x, m)) × (f x m ≡ Err e))
follow_err (Ok x) f e h = inr (x.0, x.1, refl, h)
follow_err (Err d) f e h = inl (let same : d ≡ e = cc in rw same refl)

guard_err : (b : Bool) (d e : ClassRefusal) (r : Result (ClassFile × Place) ClassRefusal) → cond b r (Err d) ≡ Err e → d ≢ e → (b ≡ true) × (r ≡ Err e)
guard_err true d e r h other = (refl, h)
guard_err false d e r h other = absurd (other (let same : d ≡ e = cc in same))

unless_err : (refused : Option ClassRefusal) (x : ℕ) (p : Place) (e : ClassRefusal) → unless refused x p ≡ Err e → refused ≡ Some e
unless_err None x p e h = absurd cc
unless_err (Some d) x p e h = let same : d ≡ e = cc in rw same refl

-- a number has no other fault than that it is not whole
number_other : (width : ℕ) (p : Place) (e : ClassRefusal) → ((at : ℕ) → refusals.Short at ≢ e) → number short width p ≡ Err e → ⊥
number_other width p e other h = number_faults (λ d. d ≢ e) short other width p e h refl

-- the magic number is there, and what stands behind it has the fault
behind_magic : (bytes : List ℕ) (e : ClassRefusal) → ((at : ℕ) → refusals.Short at ≢ e) → refusals.Magic ≢ e → class_file (start bytes) ≡ Err e
    → BeginsAsClass bytes × (class_body (record { rest = drop 4 bytes; at = 0 + 4 }) ≡ Err e)
unfolding class_file
behind_magic bytes e whole_item other h = go (follow_err (u4 (start bytes)) (λ first. guard (eqb first magic) refusals.Magic class_body) e h) where
  go : (u4 (start bytes) ≡ Err e) ⊎ ((x : ℕ) × (m : Place) × (u4 (start bytes) ≡ Ok (x, m)) × (guard (eqb x magic) refusals.Magic class_body m ≡ Err e))
      → BeginsAsClass bytes × (class_body (record { rest = drop 4 bytes; at = 0 + 4 }) ≡ Err e)
  go (inl stopped) = absurd (number_other 4 (start bytes) e whole_item stopped)
  go (inr f) =
      let n = at_number 4 f.0 bytes 0 f.1 f.2 in
      let g = guard_err (eqb f.0 magic) refusals.Magic e (class_body f.1) f.3 other in
      (subst (λ (k : ℕ). IsU4 k 0 (take 4 bytes)) (eqb-true f.0 magic g.0) n.0, subst (λ (m : Place). class_body m ≡ Err e) n.1 g.1)

pub version_told : (major : ℕ) (bytes : List ℕ) → first_fault bytes ≡ Some (refusals.Version major) → HasOtherVersion major bytes
unfolding class_body version
version_told major bytes h = go (follow_err (version (record { rest = drop 4 bytes; at = 0 + 4 })) behind_version (refusals.Version major) body.1) where
  told : ClassRefusal
  told = refusals.Version major

  w : (length bytes ≤ most_bytes) × (whole extra class_file bytes 0 ≡ Err told)
  w = within_limit bytes told (λ same. absurd cc) h

  body : BeginsAsClass bytes × (class_body (record { rest = drop 4 bytes; at = 0 + 4 }) ≡ Err told)
  body = behind_magic bytes told (λ at same. absurd cc) (λ same. absurd cc) (inside (class_file (start bytes)) told (λ at same. absurd cc) w.1)

  last : (m : Place) → m ≡ record { rest = drop 2 (drop 4 bytes); at = 0 + 4 + 2 } → judged version_fault u2 m ≡ Err told → HasOtherVersion major bytes
  last m place h = then (follow_err (u2 m) (λ x. unless (version_fault m.at x) x) told h) where
    then : (u2 m ≡ Err told) ⊎ ((x : ℕ) × (n : Place) × (u2 m ≡ Ok (x, n)) × (unless (version_fault m.at x) x n ≡ Err told)) → HasOtherVersion major bytes
    then (inl stopped) = absurd (number_other 2 m told (λ at same. absurd cc) stopped)
    then (inr f) =
        let n = at_number 2 f.0 m.rest m.at f.1 f.2 in
        let v = version_is m.at f.0 told (unless_err (version_fault m.at f.0) f.0 f.1 told f.3) in
        let same : major ≡ f.0 = (let e = v.0 in cc) in
        let rest : m.rest ≡ drop 6 bytes = ap (λ (p : Place). p.rest) place ∙ drop-drop 2 4 bytes in
        record {
          begins = body.0;
          version = (subst (λ (k : ℕ). IsU2 k 6 (take 2 (drop 6 bytes))) (sym same) (subst (λ (t : List ℕ). IsU2 f.0 6 (take 2 t)) rest n.0));
          other = λ r. v.1 (subst IsRead same r);
          limit = w.0;
        }

  go : (version (record { rest = drop 4 bytes; at = 0 + 4 }) ≡ Err told)
      ⊎ ((x : ℕ) × (m : Place) × (version (record { rest = drop 4 bytes; at = 0 + 4 }) ≡ Ok (x, m)) × (behind_version x m ≡ Err told)) → HasOtherVersion major bytes
  go (inr f) = absurd (behind_version_inner f.0 f.1 told f.3)
  go (inl stopped) = then (follow_err (u2 (record { rest = drop 4 bytes; at = 0 + 4 })) (λ minor. judged version_fault u2) told stopped) where
    then : (u2 (record { rest = drop 4 bytes; at = 0 + 4 }) ≡ Err told)
        ⊎ ((x : ℕ) × (m : Place) × (u2 (record { rest = drop 4 bytes; at = 0 + 4 }) ≡ Ok (x, m)) × (judged version_fault u2 m ≡ Err told)) → HasOtherVersion major bytes
    then (inl none) = absurd (number_other 2 (record { rest = drop 4 bytes; at = 0 + 4 }) told (λ at same. absurd cc) none)
    then (inr f) = last f.1 (at_number 2 f.0 (drop 4 bytes) (0 + 4) f.1 f.2).1 f.3

-- a version that is not read has its fault
not_read : (at major : ℕ) → (IsRead major → ⊥) → version_fault at major ≡ Some (refusals.Version major)
not_read at major other = go (leb 45 major) refl (leb major 52) refl where
  go : (a : Bool) → leb 45 major ≡ a → (b : Bool) → leb major 52 ≡ b → cond (leb 45 major && leb major 52) None (Some (refusals.Version major)) ≡ Some (refusals.Version major)
  go true low true high = absurd (other (leb-true 45 major low, leb-true major 52 high))
  go true low false high = rw (low, high) refl
  go false low b high = rw low refl

pub is_version : (major : ℕ) (bytes : List ℕ) → HasOtherVersion major bytes → first_fault bytes ≡ Some (refusals.Version major)
unfolding class_file class_body version
is_version major bytes v =
    let two : length (take 2 (drop 6 bytes)) ≡ 2 = v.version.0 in
    let rest : drop 2 (drop 4 bytes) ≡ drop 6 bytes = drop-drop 2 4 bytes in
    let some : 2 ≤ length (drop 4 bytes) = longer 2 4 bytes two in
    let first = number_at 4 magic bytes 0 v.begins in
    let minor = number_at 2 (big_endian (take 2 (drop 4 bytes))) (drop 4 bytes) (0 + 4) (length-take-le 2 (drop 4 bytes) some, refl) in
    let own : number short 2 (record { rest = drop 2 (drop 4 bytes); at = 0 + 4 + 2 }) ≡ Ok (major, record { rest = drop 2 (drop 2 (drop 4 bytes)); at = 0 + 4 + 2 + 2 }) =
    number_at 2 major (drop 2 (drop 4 bytes)) (0 + 4 + 2) (subst (λ (t : List ℕ). IsU2 major 6 (take 2 t)) (sym rest) v.version) in
    from_whole bytes (refusals.Version major) v.limit (rw (first, minor, own, not_read (0 + 4 + 2) major v.other) refl)

pub magic_told : (bytes : List ℕ) → first_fault bytes ≡ Some refusals.Magic → HasOtherMagic bytes
unfolding class_file class_body version
magic_told bytes h = go (follow_err (u4 (start bytes)) (λ first. guard (eqb first magic) refusals.Magic class_body) told (inside (class_file (start bytes)) told (λ at same. absurd cc) w.1)) where
  told : ClassRefusal
  told = refusals.Magic

  w : (length bytes ≤ most_bytes) × (whole extra class_file bytes 0 ≡ Err told)
  w = within_limit bytes told (λ same. absurd cc) h

  body_other : Faults (λ d. d ≢ told) class_body
  body_other =
      bind_faults (λ d. d ≢ told) version behind_version
      (bind_faults (λ d. d ≢ told) u2 _ (number_faults (λ d. d ≢ told) short (λ at same. absurd cc) 2)
      (λ minor. judged_faults (λ d. d ≢ told) version_fault u2 (number_faults (λ d. d ≢ told) short (λ at same. absurd cc) 2)
      (λ at major d h same. (let v = (version_is at major d h).0 in absurd cc))))
      (λ major p e h same. absurd (subst IsInner same (behind_version_inner major p e h)))

  go : (u4 (start bytes) ≡ Err told) ⊎ ((x : ℕ) × (m : Place) × (u4 (start bytes) ≡ Ok (x, m)) × (guard (eqb x magic) refusals.Magic class_body m ≡ Err told)) → HasOtherMagic bytes
  go (inl stopped) = absurd (number_other 4 (start bytes) told (λ at same. absurd cc) stopped)
  go (inr f) = test (eqb f.0 magic) refl f.3 where
    n : IsU4 f.0 0 (take 4 bytes) × (f.1 ≡ record { rest = drop 4 bytes; at = 0 + 4 })
    n = at_number 4 f.0 bytes 0 f.1 f.2

    test : (b : Bool) → eqb f.0 magic ≡ b → cond b (class_body f.1) (Err refusals.Magic) ≡ Err told → HasOtherMagic bytes
    test true is h = absurd (body_other f.1 told h refl)
    test false is h = record {
      whole = taken_whole 4 bytes n.0.0;
      other = λ begins. eqb-false f.0 magic is (sym n.0.1 ∙ begins.1);
      limit = w.0;
    }

pub is_magic : (bytes : List ℕ) → HasOtherMagic bytes → first_fault bytes ≡ Some refusals.Magic
unfolding class_file
is_magic bytes m =
    let first = number_at 4 (big_endian (take 4 bytes)) bytes 0 (length-take-le 4 bytes m.whole, refl) in
    let other : eqb (big_endian (take 4 bytes)) magic ≡ false = ne_eqb (big_endian (take 4 bytes)) magic (λ same. m.other (length-take-le 4 bytes m.whole, same)) in
    from_whole bytes refusals.Magic m.limit (rw (first, other) refl)
