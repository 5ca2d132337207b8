-- Items and what they say.
use Rattle.std.proofs.Common.{◌≡◌, ℕ, zero, suc, ◌+◌, Bool, true, false, true≢false, ◌&&◌, ◌||◌, eqb, if◌then◌else◌, List, [], ◌∷◌, ◌++◌, map, slice_get, take, length, position, Option, Some, Result, Ok, Err, OnOk, refl, sym, ap, ◌∙◌, subst}
use Rattle.std.specs.List.{list_any, AllByRecursion, position_or_len}
use Rattle.std.specs.Option.{option_map}
use Rattle.std.specs.Prelude.{unwrap_or, not, nat_lt, None}
use Rattle.std.specs.Str.{bytes_eq}
use Rattle.std.proofs.lemmas.Bool.Decides.{Decides-int_eq, Decides-eqb}
use Rattle.std.proofs.lemmas.List.{map-append, length-map}
use Rattle.std.proofs.lemmas.Option.{slice_get-map}
use Rattle.std.proofs.lemmas.Slice.Eq.{bytes_eq-Decides}
use Rattle.kb_asm_pool.specs.contracts.items.ItemPartialEq.TheImpl.{eq-value}
use Rattle.kb_asm_pool.specs.contracts.items.ReferenceKindPartialEq.TheImpl.{eq-value as kind-eq-value}
use Rattle.kb_texts.proofs.TextLaws.{distinct_if_new}
use Rattle.kb_asm_pool.specs.declared.items.ReferenceKind.{ReferenceKind}
use Rattle.kb_asm_pool.specs.declared.items.ReferenceKind.TheVariants as kinds
use Rattle.kb_asm_pool.specs.declared.items.Item.{Item}
use Rattle.kb_asm_pool.specs.declared.items.Item.TheVariants as items
use Rattle.kb_texts.specs.Texts.{AreDistinct, Keeps}
use Rattle.kb_asm_pool.specs.Says.{Says, text, int, class, string, name_type, member, same_kind, same, added, all_added}
use Rattle.kb_asm_pool.specs.Entries.{number_at, number_in}
use Rattle.kb_asm_pool.specs.Items.{text_at, said, IsPlace, IsWithin}

-- ---- entries that say the same

both : (a b : Bool) → (a && b) ≡ true → (a ≡ true) × (b ≡ true)
both true b e = (refl, e)
both false b e = absurd cc

same_kind-true : (k l : ReferenceKind) → same_kind k l ≡ true → k ≡ l
same_kind-true kinds.Field kinds.Field e = refl
same_kind-true kinds.Method kinds.Method e = refl
same_kind-true kinds.InterfaceMethod kinds.InterfaceMethod e = refl
same_kind-true k l e = absurd cc

pub same-true : (a b : Says) → same a b ≡ true → a ≡ b
same-true (text a) (text b) e = ap text ((bytes_eq-Decides a b).0 e)
same-true (int a) (int b) e = ap int ((Decides-int_eq a b).0 e)
same-true (class a) (class b) e = ap class ((bytes_eq-Decides a b).0 e)
same-true (string a) (string b) e = ap string ((bytes_eq-Decides a b).0 e)
same-true (name_type a c) (name_type b d) e =
    let h = both (bytes_eq a b) (bytes_eq c d) e in
    ap (λ (n : List ℕ). name_type n c) ((bytes_eq-Decides a b).0 h.0) ∙ ap (name_type b) ((bytes_eq-Decides c d).0 h.1)
same-true (member k a c e) (member l b d f) h =
    let p = both (same_kind k l) (bytes_eq a b && (bytes_eq c d && bytes_eq e f)) h in
    let q = both (bytes_eq a b) (bytes_eq c d && bytes_eq e f) p.1 in
    let r = both (bytes_eq c d) (bytes_eq e f) q.1 in
    ap (λ (m : ReferenceKind). member m a c e) (same_kind-true k l p.0)
    ∙ ap (λ (n : List ℕ). member l n c e) ((bytes_eq-Decides a b).0 q.0)
    ∙ ap (λ (n : List ℕ). member l b n e) ((bytes_eq-Decides c d).0 r.0)
    ∙ ap (λ (n : List ℕ). member l b d n) ((bytes_eq-Decides e f).0 r.1)
same-true a b e = absurd cc

-- ---- items are the same where they say the same

same_kinds : (k l : ReferenceKind) → (kind-eq-value.it) k l ≡ same_kind k l
same_kinds kinds.Field kinds.Field = refl
same_kinds kinds.Method kinds.Method = refl
same_kinds kinds.InterfaceMethod kinds.InterfaceMethod = refl
same_kinds k l = refl

module _ (texts : List (List ℕ)) (distinct : AreDistinct texts) where
  text_there : (place : ℕ) (p : IsPlace texts place) → text_at texts place ≡ p.0
  text_there place p = ap (λ (o : Option (List ℕ)). unwrap_or o []) p.1

  same_place : (p q : ℕ) → IsPlace texts p → IsPlace texts q → eqb p q ≡ bytes_eq (text_at texts p) (text_at texts q)
  same_place p q a b = go (eqb p q) refl (bytes_eq (text_at texts p) (text_at texts q)) refl
    where
      go : (s : Bool) → eqb p q ≡ s → (t : Bool) → bytes_eq (text_at texts p) (text_at texts q) ≡ t → s ≡ t
      go true e true f = refl
      go false e false f = refl
      go true e false f =
          let is : text_at texts p ≡ text_at texts q = ap (text_at texts) ((Decides-eqb p q).0 e) in
          absurd (true≢false (sym ((bytes_eq-Decides (text_at texts p) (text_at texts q)).1 is) ∙ f))
      go false e true f =
          let is : text_at texts p ≡ text_at texts q = (bytes_eq-Decides (text_at texts p) (text_at texts q)).0 f in
          let one : slice_get texts q ≡ Some a.0 = b.1 ∙ ap (λ (t : List ℕ). Some t) (sym (text_there q b) ∙ sym is ∙ text_there p a) in
          absurd (true≢false (sym ((Decides-eqb p q).1 (distinct p q a.0 a.1 one)) ∙ e))

  two-and : (a b c d : Bool) → a ≡ b → c ≡ d → (a && c) ≡ (b && d)
  two-and a b c d e f = ap (λ (x : Bool). x && c) e ∙ ap (λ (x : Bool). b && x) f

  same_said : (a b : Item) → IsWithin texts a → IsWithin texts b → (eq-value.it) a b ≡ same (said texts a) (said texts b)
  same_said (items.Text p) (items.Text q) v w = same_place p q v w
  same_said (items.Int y) (items.Int z) v w = refl
  same_said (items.Class p) (items.Class q) v w = same_place p q v w
  same_said (items.Str p) (items.Str q) v w = same_place p q v w
  same_said (items.NameType p r) (items.NameType q s) v w =
      two-and (eqb p q) (bytes_eq (text_at texts p) (text_at texts q)) (eqb r s) (bytes_eq (text_at texts r) (text_at texts s)) (same_place p q v.0 w.0) (same_place r s v.1 w.1)
  same_said (items.Member k p r t) (items.Member l q s u) v w =
      two-and ((kind-eq-value.it) k l) (same_kind k l) (eqb p q && (eqb r s && eqb t u))
      (bytes_eq (text_at texts p) (text_at texts q) && (bytes_eq (text_at texts r) (text_at texts s) && bytes_eq (text_at texts t) (text_at texts u)))
      (same_kinds k l)
      (two-and (eqb p q) (bytes_eq (text_at texts p) (text_at texts q)) (eqb r s && eqb t u) (bytes_eq (text_at texts r) (text_at texts s) && bytes_eq (text_at texts t) (text_at texts u))
      (same_place p q v.0 w.0)
      (two-and (eqb r s) (bytes_eq (text_at texts r) (text_at texts s)) (eqb t u) (bytes_eq (text_at texts t) (text_at texts u)) (same_place r s v.1 w.1) (same_place t u v.2 w.2)))
  same_said a b v w = refl

  any_said : (item : Item) (keys : List Item) → IsWithin texts item → AllByRecursion (IsWithin texts) keys → list_any ((eq-value.it) item) keys ≡ list_any (same (said texts item)) (map (said texts) keys)
  any_said item [] v all = refl
  any_said item (key ∷ keys) v all =
      ap (λ (b : Bool). b || list_any ((eq-value.it) item) keys) (same_said item key v all.0)
      ∙ ap (λ (b : Bool). same (said texts item) (said texts key) || b) (any_said item keys v all.1)

  pub added_said : (item : Item) (old new : List Item) → IsWithin texts item → AllByRecursion (IsWithin texts) old
      → new ≡ (if list_any ((eq-value.it) item) old then old else old ++ item ∷ []) → map (said texts) new ≡ added (map (said texts) old) (said texts item)
  added_said item old new v all is =
      ap (map (said texts)) is ∙ go (list_any ((eq-value.it) item) old)
      ∙ ap (λ (b : Bool). if b then map (said texts) old else map (said texts) old ++ said texts item ∷ []) (any_said item old v all)
    where
      go : (b : Bool) → map (said texts) (if b then old else old ++ item ∷ []) ≡ (if b then map (said texts) old else map (said texts) old ++ said texts item ∷ [])
      go true = refl
      go false = map-append (said texts) old (item ∷ [])

  all_more : (item : Item) (old : List Item) → IsWithin texts item → AllByRecursion (IsWithin texts) old → AllByRecursion (IsWithin texts) (old ++ item ∷ [])
  all_more item [] v all = (v, tt)
  all_more item (key ∷ old) v all = (all.0, all_more item old v all.1)

  pub all_added_within : (item : Item) (old new : List Item) → IsWithin texts item → AllByRecursion (IsWithin texts) old
      → new ≡ (if list_any ((eq-value.it) item) old then old else old ++ item ∷ []) → AllByRecursion (IsWithin texts) new
  all_added_within item old new v all is = subst (AllByRecursion (IsWithin texts)) (sym is) (go (list_any ((eq-value.it) item) old))
    where
      go : (b : Bool) → AllByRecursion (IsWithin texts) (if b then old else old ++ item ∷ [])
      go true = all
      go false = all_more item old v all

  pub within_at : (keys : List Item) (place : ℕ) (key : Item) → AllByRecursion (IsWithin texts) keys → slice_get keys place ≡ Some key → IsWithin texts key
  within_at [] place key all e = absurd cc
  within_at (k ∷ keys) zero key all e = let is : k ≡ key = cc in subst (IsWithin texts) is all.0
  within_at (k ∷ keys) (suc place) key all e = within_at keys place key all.1 e

  pub entered : (item key : Item) (keys : List Item) (place : ℕ) → IsWithin texts item → AllByRecursion (IsWithin texts) keys → slice_get keys place ≡ Some key → (eq-value.it) item key ≡ true
      → slice_get (map (said texts) keys) place ≡ Some (said texts item)
  entered item key keys place v all there equal =
      slice_get-map (said texts) keys place ∙ ap (λ (o : Option Item). option_map (said texts) o) there
      ∙ ap (λ (s : Says). Some s) (sym (same-true (said texts item) (said texts key) (sym (same_said item key v (within_at keys place key all there)) ∙ equal)))

  -- ---- the numbers of items

  first_said : (item : Item) (keys : List Item) → IsWithin texts item → AllByRecursion (IsWithin texts) keys
      → position_or_len ((eq-value.it) item) keys ≡ position_or_len (same (said texts item)) (map (said texts) keys)
  first_said item [] v all = refl
  first_said item (key ∷ keys) v all =
      ap (λ (b : Bool). if not b then 1 + position_or_len ((eq-value.it) item) keys else 0) (same_said item key v all.0)
      ∙ ap (λ (n : ℕ). if not (same (said texts item) (said texts key)) then 1 + n else 0) (first_said item keys v all.1)

  pub number_said : (item : Item) (keys : List Item) (found : Option ℕ) → IsWithin texts item → AllByRecursion (IsWithin texts) keys → found ≡ position ((eq-value.it) item) keys
      → number_at found ≡ number_in (map (said texts) keys) (said texts item)
  number_said item keys found v all is =
      ap number_at is
      ∙ ap (λ (n : ℕ). number_at (if nat_lt n (length keys) then Some n else None)) (first_said item keys v all)
      ∙ ap (λ (n : ℕ). number_at (if nat_lt (position_or_len (same (said texts item)) (map (said texts) keys)) n then Some (position_or_len (same (said texts item)) (map (said texts) keys)) else None)) (sym (length-map keys (said texts)))

-- ---- more texts

kept_place : (old new : List (List ℕ)) (place : ℕ) → Keeps old new → IsPlace old place → IsPlace new place
kept_place old new place keeps p = (p.0, keeps place p.0 p.1)

kept_text : (old new : List (List ℕ)) (place : ℕ) → Keeps old new → IsPlace old place → text_at new place ≡ text_at old place
kept_text old new place keeps p = ap (λ (o : Option (List ℕ)). unwrap_or o []) (keeps place p.0 p.1 ∙ sym p.1)

module _ (old new : List (List ℕ)) (keeps : Keeps old new) where
  kept_within : (item : Item) → IsWithin old item → IsWithin new item
  kept_within (items.Text p) v = kept_place old new p keeps v
  kept_within (items.Int z) v = tt
  kept_within (items.Class p) v = kept_place old new p keeps v
  kept_within (items.Str p) v = kept_place old new p keeps v
  kept_within (items.NameType p q) v = (kept_place old new p keeps v.0, kept_place old new q keeps v.1)
  kept_within (items.Member k p q r) v = (kept_place old new p keeps v.0, kept_place old new q keeps v.1, kept_place old new r keeps v.2)

  kept_said : (item : Item) → IsWithin old item → said new item ≡ said old item
  kept_said (items.Text p) v = ap text (kept_text old new p keeps v)
  kept_said (items.Int z) v = refl
  kept_said (items.Class p) v = ap class (kept_text old new p keeps v)
  kept_said (items.Str p) v = ap string (kept_text old new p keeps v)
  kept_said (items.NameType p q) v =
      ap (λ (n : List ℕ). name_type n (text_at new q)) (kept_text old new p keeps v.0) ∙ ap (name_type (text_at old p)) (kept_text old new q keeps v.1)
  kept_said (items.Member k p q r) v =
      ap (λ (n : List ℕ). member k n (text_at new q) (text_at new r)) (kept_text old new p keeps v.0)
      ∙ ap (λ (n : List ℕ). member k (text_at old p) n (text_at new r)) (kept_text old new q keeps v.1)
      ∙ ap (member k (text_at old p) (text_at old q)) (kept_text old new r keeps v.2)

  pub all_kept_within : (keys : List Item) → AllByRecursion (IsWithin old) keys → AllByRecursion (IsWithin new) keys
  all_kept_within [] all = tt
  all_kept_within (key ∷ keys) all = (kept_within key all.0, all_kept_within keys all.1)

  pub all_kept_said : (keys : List Item) → AllByRecursion (IsWithin old) keys → map (said new) keys ≡ map (said old) keys
  all_kept_said [] all = refl
  all_kept_said (key ∷ keys) all = ap (λ (s : Says). s ∷ map (said new) keys) (kept_said key all.0) ∙ ap (λ (l : List Says). said old key ∷ l) (all_kept_said keys all.1)

-- ---- items whose texts are known

text_is : (texts : List (List ℕ)) (place : ℕ) (bytes : List ℕ) → slice_get texts place ≡ Some bytes → text_at texts place ≡ bytes
text_is texts place bytes e = ap (λ (o : Option (List ℕ)). unwrap_or o []) e

pub said_pair : (texts : List (List ℕ)) (p q : ℕ) (a b : List ℕ) → slice_get texts p ≡ Some a → slice_get texts q ≡ Some b → said texts (items.NameType p q) ≡ name_type a b
said_pair texts p q a b e f = ap (λ (n : List ℕ). name_type n (text_at texts q)) (text_is texts p a e) ∙ ap (name_type a) (text_is texts q b f)

pub said_member : (texts : List (List ℕ)) (of : ReferenceKind) (p q r : ℕ) (a b d : List ℕ) → slice_get texts p ≡ Some a → slice_get texts q ≡ Some b → slice_get texts r ≡ Some d
    → said texts (items.Member of p q r) ≡ member of a b d
said_member texts of p q r a b d e f g =
    ap (λ (n : List ℕ). member of n (text_at texts q) (text_at texts r)) (text_is texts p a e)
    ∙ ap (λ (n : List ℕ). member of a n (text_at texts r)) (text_is texts q b f)
    ∙ ap (member of a b) (text_is texts r d g)

pub on_ok : {A E P Q : Type 0} (r : Result A E) → (P → Q) → OnOk r P → OnOk r Q
on_ok (Ok a) f p = f p
on_ok (Err e) f p = tt

-- ---- entries one by one

-- one more of the values of a list
pub one_more : {A B : Type 0} (f : A → B) (xs : List A) (place : ℕ) (y : B) → Some y ≡ option_map f (slice_get xs place) → map f (take (suc place) xs) ≡ map f (take place xs) ++ y ∷ []
one_more f [] place y e = absurd cc
one_more f (x ∷ xs) zero y e = let h : y ≡ f x = cc in rw h refl
one_more {B = B} f (x ∷ xs) (suc place) y e = ap (λ (l : List B). f x ∷ l) (one_more f xs place y e)

-- ---- entries that are added

same_kind-refl : (k : ReferenceKind) → same_kind k k ≡ true
same_kind-refl kinds.Field = refl
same_kind-refl kinds.Method = refl
same_kind-refl kinds.InterfaceMethod = refl

and-true : (a b : Bool) → a ≡ true → b ≡ true → (a && b) ≡ true
and-true true true e f = refl
and-true a b e f = absurd cc

same-refl : (s : Says) → same s s ≡ true
same-refl (text a) = (bytes_eq-Decides a a).1 refl
same-refl (int z) = (Decides-int_eq z z).1 refl
same-refl (class a) = (bytes_eq-Decides a a).1 refl
same-refl (string a) = (bytes_eq-Decides a a).1 refl
same-refl (name_type a b) = and-true (bytes_eq a a) (bytes_eq b b) ((bytes_eq-Decides a a).1 refl) ((bytes_eq-Decides b b).1 refl)
same-refl (member k a b d) =
    and-true (same_kind k k) (bytes_eq a a && (bytes_eq b b && bytes_eq d d)) (same_kind-refl k)
    (and-true (bytes_eq a a) (bytes_eq b b && bytes_eq d d) ((bytes_eq-Decides a a).1 refl)
    (and-true (bytes_eq b b) (bytes_eq d d) ((bytes_eq-Decides b b).1 refl) ((bytes_eq-Decides d d).1 refl)))

pub all_distinct : (says more : List Says) → AreDistinct says → AreDistinct (all_added says more)
all_distinct says [] distinct = distinct
all_distinct says (one ∷ more) distinct = all_distinct (added says one) more (distinct_if_new says one (same one) (same-refl one) distinct)
