-- The keys of slots, one class behind the other, and the places of a class's own.
use Rattle.std.proofs.Common.{◌≡◌, ℕ, zero, suc, ◌+◌, ◌-◌, ◌<◌, Bool, true, false, if◌then◌else◌, ◌&&◌, ◌==◌, List, [], ◌∷◌, ◌++◌, length, length-take, min, take, reverse, get_or, Option, Some, None, slice_get, refl, sym, ap, ◌∙◌, arith}
use Rattle.std.specs.List.{flat_map}
use Rattle.std.specs.Option.{option_or}
use Rattle.std.proofs.lemmas.Bool.Decides.{Decides-eqb}
use Rattle.std.proofs.lemmas.Grind.{take_at_read}
use Rattle.std.proofs.lemmas.List.{append_assoc}
use Rattle.std.proofs.lemmas.Option.{get_or_from_slice_get, none-some, same_Some}
use Rattle.kb_class.specs.declared.members.FieldInfo.{FieldInfo}
use Rattle.kb_numbers.specs.declared.pairs.Pair.{Pair}
use Rattle.kb_numbers.proofs.PlaceLaws.{place_pushed}
use Rattle.kb_link.specs.Members.{place_where}
use Rattle.kb_classes.specs.Slots.{has_slot}
use Rattle.kb_classes.proofs.SlotLaws.{along_last}
use Rattle.kb_resolution.specs.Tables.{is_key, own_keys}
use Rattle.kb_resolution.specs.declared.tables.SlotKey.{SlotKey}

-- the keys of a field, and of those behind it
pub own_first : (class : ℕ) (field : FieldInfo) (fields : List FieldInfo) (pair : Pair) (pairs : List Pair)
    → own_keys class (field ∷ fields) (pair ∷ pairs) ≡ own_keys class (field ∷ []) (pair ∷ []) ++ own_keys class fields pairs
own_first class field fields pair pairs = go (has_slot field)
  where
    go : (b : Bool) → (if b then record { class = class; pair = pair } ∷ own_keys class fields pairs else own_keys class fields pairs)
        ≡ (if b then record { class = class; pair = pair } ∷ [] else []) ++ own_keys class fields pairs
    go true = refl
    go false = refl

-- those of one field more
keys_more : (class : ℕ) (fields : List FieldInfo) (pairs : List Pair) (place : ℕ) (field : FieldInfo) (pair : Pair) → slice_get fields place ≡ Some field → slice_get pairs place ≡ Some pair
    → own_keys class (take (suc place) fields) (take (suc place) pairs) ≡ own_keys class (take place fields) (take place pairs) ++ own_keys class (field ∷ []) (pair ∷ [])
keys_more class [] pairs place field pair at beside = absurd (none-some field at)
keys_more class (f ∷ fields) [] place field pair at beside = absurd (none-some pair beside)
keys_more class (f ∷ fields) (p ∷ pairs) zero field pair at beside =
    let first : f ≡ field = same_Some f field at in
    let second : p ≡ pair = same_Some p pair beside in
    λ i. own_keys class (first i ∷ []) (second i ∷ [])
keys_more class (f ∷ fields) (p ∷ pairs) (suc place) field pair at beside =
    own_first class f (take (suc place) fields) p (take (suc place) pairs)
    ∙ ap (λ (ks : List SlotKey). own_keys class (f ∷ []) (p ∷ []) ++ ks) (keys_more class fields pairs place field pair at beside)
    ∙ sym (append_assoc (own_keys class (f ∷ []) (p ∷ [])) (own_keys class (take place fields) (take place pairs)) (own_keys class (field ∷ []) (pair ∷ [])))
    ∙ ap (λ (ks : List SlotKey). ks ++ own_keys class (field ∷ []) (pair ∷ [])) (sym (own_first class f (take place fields) p (take place pairs)))

pub keys_next : (class : ℕ) (fields : List FieldInfo) (pairs : List Pair) (place : ℕ) (field : FieldInfo) (pair : Pair) → slice_get fields place ≡ Some field → slice_get pairs place ≡ Some pair
    → (start keys after : List SlotKey) → keys ≡ start ++ own_keys class (take place fields) (take place pairs) → after ≡ keys ++ own_keys class (field ∷ []) (pair ∷ [])
    → after ≡ start ++ own_keys class (take (place + 1) fields) (take (place + 1) pairs)
keys_next class fields pairs place field pair at beside start keys after so_far is =
    let next : suc place ≡ place + 1 = omega arith in
    is
    ∙ ap (λ (ks : List SlotKey). ks ++ own_keys class (field ∷ []) (pair ∷ [])) so_far
    ∙ append_assoc start (own_keys class (take place fields) (take place pairs)) (own_keys class (field ∷ []) (pair ∷ []))
    ∙ ap (λ (ks : List SlotKey). start ++ ks) (sym (keys_more class fields pairs place field pair at beside))
    ∙ ap (λ (n : ℕ). start ++ own_keys class (take n fields) (take n pairs)) next

-- so many of each are all
pub keys_all : (class : ℕ) (fields : List FieldInfo) (pairs : List Pair) (count : ℕ) → count ≡ min (length fields) (length pairs)
    → own_keys class (take count fields) (take count pairs) ≡ own_keys class fields pairs
keys_all class [] pairs zero e = refl
keys_all class [] pairs (suc count) e = refl
keys_all class (f ∷ fields) [] zero e = refl
keys_all class (f ∷ fields) [] (suc count) e = refl
keys_all class (f ∷ fields) (p ∷ pairs) zero e =
    let none : 0 ≡ min (suc (length fields)) (suc (length pairs)) = e in
    absurd (omega (arith, none))
keys_all class (f ∷ fields) (p ∷ pairs) (suc count) e =
    let many : suc count ≡ min (suc (length fields)) (suc (length pairs)) = e in
    own_first class f (take count fields) p (take count pairs)
    ∙ ap (λ (ks : List SlotKey). own_keys class (f ∷ []) (p ∷ []) ++ ks) (keys_all class fields pairs count (omega (arith, many)))
    ∙ sym (own_first class f fields p pairs)

-- one number of a chain more
pub keys_step : (own : ℕ → List SlotKey) (chain : List ℕ) (back : ℕ) (keys after whole : List SlotKey) → back < length chain → keys ++ flat_map own (reverse (take (length chain - back) chain)) ≡ whole
    → after ≡ keys ++ own (get_or chain (length chain - 1 - back) 0) → after ++ flat_map own (reverse (take (length chain - (back + 1)) chain)) ≡ whole
keys_step own chain back keys after whole within before is =
    let rest : ℕ = length chain - 1 - back in
    let last : ℕ = get_or chain rest 0 in
    let inside : rest < length chain = omega (arith, within) in
    let many : length chain - back ≡ rest + 1 = omega (arith, within) in
    let fewer : length chain - (back + 1) ≡ rest = omega (arith, within) in
    let taken : take (length chain - back) chain ≡ take rest chain ++ last ∷ [] = ap (λ (n : ℕ). take n chain) many ∙ (take_at_read chain rest 0 inside).1 in
    let more : flat_map own (reverse (take (length chain - back) chain)) ≡ own last ++ flat_map own (reverse (take rest chain)) =
    ap (λ (ns : List ℕ). flat_map own (reverse ns)) taken ∙ along_last own (take rest chain) last in
    ap (λ (n : ℕ). after ++ flat_map own (reverse (take n chain))) fewer
    ∙ ap (λ (ks : List SlotKey). ks ++ flat_map own (reverse (take rest chain))) is
    ∙ append_assoc keys (own last) (flat_map own (reverse (take rest chain)))
    ∙ ap (λ (ks : List SlotKey). keys ++ ks) (sym more)
    ∙ before

-- one key more
pub key_next : (class : ℕ) (before after : Pair → Option ℕ) (keys : List SlotKey) (place : ℕ) (key : SlotKey) → place < length keys → slice_get keys place ≡ Some key
    → ((p : Pair) → before p ≡ place_where (is_key class p) (take place keys)) → ((p : Pair) → after p ≡ option_or (before p) (if is_key class p key then Some place else None))
    → (p : Pair) → after p ≡ place_where (is_key class p) (take (place + 1) keys)
key_next class before after keys place key inside there so_far added p =
    let is : key ≡ get_or keys place key = sym (get_or_from_slice_get keys place key key there) in
    let taken : take (place + 1) keys ≡ take place keys ++ key ∷ [] = (take_at_read keys place key inside).1 ∙ ap (λ (k : SlotKey). take place keys ++ k ∷ []) (sym is) in
    let many : length (take place keys) ≡ place = omega (arith, length-take place keys, inside) in
    added p
    ∙ ap (λ (o : Option ℕ). option_or o (if is_key class p key then Some place else None)) (so_far p)
    ∙ ap (λ (n : ℕ). option_or (place_where (is_key class p) (take place keys)) (if is_key class p key then Some n else None)) (sym many)
    ∙ sym (place_pushed (is_key class p) (take place keys) key)
    ∙ ap (λ (ks : List SlotKey). place_where (is_key class p) ks) (sym taken)

-- a key of another class is none of these
pub other_class : (class owner : ℕ) (b : Bool) (o : Option ℕ) (place : ℕ) → (owner ≡ class → ⊥) → o ≡ option_or o (if (owner == class) && b then Some place else None)
other_class class owner b o place differs = go (owner == class) refl o
  where
    go : (t : Bool) → (owner == class) ≡ t → (p : Option ℕ) → p ≡ option_or p (if t && b then Some place else None)
    go t e (Some n) = refl
    go false e None = refl
    go true e None = absurd (differs ((Decides-eqb owner class).0 e))

pub own_class : (class owner : ℕ) (b : Bool) (place : ℕ) → owner ≡ class → (if b then Some place else None) ≡ (if (owner == class) && b then Some place else None)
own_class class owner b place same = ap (λ (t : Bool). if t && b then Some place else None) (sym ((Decides-eqb owner class).1 same))
