-- The reader of classes' names in descriptors reads them as they are spelled.
use Rattle.std.proofs.Common.{◌≡◌, ◌≢◌, ℕ, Bool, true, false, Option, Some, None, List, [], ◌∷◌, ◌++◌, ◌⊎◌, refl, sym, ◌∙◌, ap, append_assoc, append-nil, subst, inl, inr, if◌then◌else◌, ◌+◌, ◌*◌}
use Rattle.std.specs.Option.{option_map, option_and_then}
use Rattle.std.specs.List.{list_all}
use Rattle.kb_names.specs.Reading.{reached}
use Rattle.kb_names.specs.Bytes.{AreBytes}
use Rattle.kb_names.specs.Escapes.{name_text, hex_value, with_escaped, name_step, name_read}
use Rattle.kb_names.specs.Descriptors.{may_stand, class_text, IsClassName}
use Rattle.kb_names.specs.Stages.{class_start, some_bytes, class_read, class_step}
use Rattle.kb_names.specs.declared.name_texts.NameStage.{NameStage}
use Rattle.kb_names.specs.declared.name_texts.NameStage.TheVariants.{Plain, Percent, High}
use Rattle.kb_names.specs.declared.class_names.Spelling.{Spelling}
use Rattle.kb_names.specs.declared.class_names.Spelling.TheVariants.{Raw, Escaped}
use Rattle.kb_names.specs.declared.class_names.ClassStage.{ClassStage}
use Rattle.kb_names.specs.declared.class_names.ClassStage.TheVariants.{RawName, EscapedName}
use Rattle.kb_names.proofs.Reading.{IsReader, reached-cons, reached-then}
use Rattle.kb_names.proofs.Choices.{chosen, mapped, passed, and_true, true_and}
use Rattle.kb_names.proofs.NameReader.{text_so_far, IsStage, name_reader, reads_text}

abbrev pub class_so_far : ClassStage → List ℕ
class_so_far (RawName name) = name
class_so_far (EscapedName stage) = text_so_far stage

abbrev pub IsClassStage : Spelling → ClassStage → Type 0
IsClassStage Raw (RawName name) = list_all may_stand name ≡ true
IsClassStage Escaped (EscapedName stage) = IsStage stage
IsClassStage spelling stage = ⊥

abbrev pub SpellsClass : Spelling → List ℕ → List ℕ → Type 0
SpellsClass spelling name text = IsClassName spelling name × (text ≡ class_text spelling name)

-- one byte more that may stand
all_more : (name : List ℕ) (byte : ℕ) → list_all may_stand name ≡ true → may_stand byte ≡ true → list_all may_stand (name ++ byte ∷ []) ≡ true
all_more [] byte ok p = and_true (may_stand byte) true p refl
all_more (x ∷ xs) byte ok p =
    let both = true_and (may_stand x) (list_all may_stand xs) ok in
    and_true (may_stand x) (list_all may_stand (xs ++ byte ∷ [])) both.0 (all_more xs byte both.1 p)

some_bytes-is : (n v : List ℕ) → some_bytes n ≡ Some v → (n ≡ v) × (v ≢ [])
some_bytes-is [] v e = cc
some_bytes-is (x ∷ xs) v e = let same : x ∷ xs ≡ v = cc in (same, λ none. cc)

pub some_bytes-of : (n : List ℕ) → n ≢ [] → some_bytes n ≡ Some n
some_bytes-of [] some = absurd (some refl)
some_bytes-of (x ∷ xs) some = refl

some_bytes-push : (n : List ℕ) (b : ℕ) → some_bytes (n ++ b ∷ []) ≡ Some (n ++ b ∷ [])
some_bytes-push [] b = refl
some_bytes-push (x ∷ xs) b = refl

-- an escaped name is read as any name
escaped_reads : (s t : NameStage) (xs : List ℕ) → reached name_step s xs ≡ Some t → reached class_step (EscapedName s) xs ≡ Some (EscapedName t)
unfolding class_step
escaped_reads s t [] e = let same : s ≡ t = cc in ap (λ (u : NameStage). Some (EscapedName u)) same
escaped_reads s t (x ∷ xs) e =
    let m = passed (λ (n : NameStage). reached name_step n xs) (name_step s x) t e in
    reached-cons class_step (EscapedName s) (EscapedName m.0) x xs (ap (option_map (λ (n : NameStage). EscapedName n)) m.1) ∙ escaped_reads m.0 t xs m.2

-- a raw name is read as it is
raw_reads : (name more : List ℕ) → list_all may_stand more ≡ true → reached class_step (RawName name) more ≡ Some (RawName (name ++ more))
unfolding class_step
raw_reads name [] ok = ap (λ (n : List ℕ). Some (RawName n)) (sym (append-nil name))
raw_reads name (b ∷ more) ok =
    let both = true_and (may_stand b) (list_all may_stand more) ok in
    reached-cons class_step (RawName name) (RawName (name ++ b ∷ [])) b more (ap (λ (t : Bool). if t then Some (RawName (name ++ b ∷ [])) else None) both.0)
    ∙ raw_reads (name ++ b ∷ []) more both.1
    ∙ ap (λ (n : List ℕ). Some (RawName n)) (append_assoc name (b ∷ []) more)

abbrev ClassFollows : Spelling → ClassStage → ℕ → ClassStage → Type 0
ClassFollows spelling s byte t = IsClassStage spelling t × (class_so_far t ≡ class_so_far s ++ byte ∷ [])

class_follows : (spelling : Spelling) (s t : ClassStage) (byte : ℕ) → IsClassStage spelling s → class_step s byte ≡ Some t → ClassFollows spelling s byte t
unfolding class_step
class_follows Raw (RawName name) t byte good e = go (chosen (may_stand byte) (Some (RawName (name ++ byte ∷ []))) None (Some t) e)
  where
    go : ((may_stand byte ≡ true) × (Some (RawName (name ++ byte ∷ [])) ≡ Some t)) ⊎ ((may_stand byte ≡ false) × (None ≡ Some t)) → ClassFollows Raw (RawName name) byte t
    go (inl (p, x)) =
        let same : RawName (name ++ byte ∷ []) ≡ t = cc in
        subst (ClassFollows Raw (RawName name) byte) same (all_more name byte good p, refl)
    go (inr (p, x)) = cc
class_follows Escaped (EscapedName stage) t byte good e =
    let m = mapped (λ (n : NameStage). EscapedName n) (name_step stage byte) t e in
    subst (ClassFollows Escaped (EscapedName stage) byte) m.2 (name_reader.follows stage m.0 byte good m.1)
class_follows Raw (EscapedName stage) t byte good e = absurd good
class_follows Escaped (RawName name) t byte good e = absurd good

pub name_read-plain : (t : NameStage) (v : List ℕ) → name_read t ≡ Some v → t ≡ Plain v
name_read-plain (Plain name) v e = let same : name ≡ v = cc in ap Plain same
name_read-plain (Percent name) v e = cc
name_read-plain (High name first) v e = cc

letter : (v : List ℕ) → reached name_step (Plain v) (97 ∷ []) ≡ Some (Plain (v ++ 97 ∷ []))
unfolding name_step
letter v = refl

class_live : (spelling : Spelling) (s : ClassStage) → IsClassStage spelling s → (more : List ℕ) × (t : ClassStage) × (v : List ℕ) × (reached class_step s more ≡ Some t) × (class_read t ≡ Some v)
unfolding class_step
class_live Raw (RawName []) good = (97 ∷ [], RawName (97 ∷ []), 97 ∷ [], refl, refl)
class_live Raw (RawName (first ∷ others)) good = ([], RawName (first ∷ others), first ∷ others, refl, refl)
class_live Escaped (EscapedName stage) good =
    let on = name_reader.live stage good in (
      on.0 ++ 97 ∷ [],
      EscapedName (Plain (on.2 ++ 97 ∷ [])),
      on.2 ++ 97 ∷ [],
      escaped_reads stage (Plain (on.2 ++ 97 ∷ [])) (on.0 ++ 97 ∷ [])
          (reached-then name_step stage (Plain on.2) on.0 (97 ∷ []) (on.3 ∙ ap Some (name_read-plain on.1 on.2 on.4)) ∙ letter on.2),
      some_bytes-push on.2 97,
    )
class_live Raw (EscapedName stage) good = absurd good
class_live Escaped (RawName name) good = absurd good

class_found : (spelling : Spelling) (s : ClassStage) (v : List ℕ) → IsClassStage spelling s → class_read s ≡ Some v → SpellsClass spelling v (class_so_far s)
class_found Raw (RawName name) v good e =
    let is = some_bytes-is name v e in
    ((is.1, subst (λ (n : List ℕ). list_all may_stand n ≡ true) is.0 good), is.0)
class_found Escaped (EscapedName stage) v good e =
    let m = passed some_bytes (name_read stage) v e in
    let is = some_bytes-is m.0 v m.2 in
    let read = name_reader.found stage m.0 good m.1 in
    ((is.1, subst AreBytes is.0 read.0), read.1 ∙ ap name_text is.0)
class_found Raw (EscapedName stage) v good e = absurd good
class_found Escaped (RawName name) v good e = absurd good

class_only : (spelling : Spelling) (v text : List ℕ) → SpellsClass spelling v text → (t : ClassStage) × (reached class_step (class_start spelling) text ≡ Some t) × (class_read t ≡ Some v)
class_only Raw v text spells =
    (RawName v, ap (reached class_step (RawName [])) spells.1 ∙ raw_reads [] v spells.0.1, some_bytes-of v spells.0.0)
class_only Escaped v text spells = (
  EscapedName (Plain v),
  ap (reached class_step (EscapedName (Plain []))) spells.1 ∙ escaped_reads (Plain []) (Plain v) (name_text v) (reads_text [] v spells.0.1),
  some_bytes-of v spells.0.0,
)

class_nothing : (spelling : Spelling) → class_so_far (class_start spelling) ≡ []
class_nothing Raw = refl
class_nothing Escaped = refl

class_good : (spelling : Spelling) → IsClassStage spelling (class_start spelling)
class_good Raw = refl
class_good Escaped = tt

pub class_reader : (spelling : Spelling) → IsReader class_step (class_start spelling) class_read (SpellsClass spelling) class_so_far (IsClassStage spelling)
class_reader spelling = record {
  nothing = class_nothing spelling;
  good = class_good spelling;
  follows = class_follows spelling;
  live = class_live spelling;
  found = class_found spelling;
  only = class_only spelling;
}

-- a semicolon stands in no name
pub class_semicolon : (c : ClassStage) → class_step c 59 ≡ None
unfolding class_step name_step
class_semicolon (RawName name) = refl
class_semicolon (EscapedName (Plain name)) = refl
class_semicolon (EscapedName (Percent name)) = refl
class_semicolon (EscapedName (High name first)) = go (hex_value first)
  where
    go : (o : Option ℕ) → option_map (λ (n : NameStage). EscapedName n)
        (option_and_then (λ (v : ℕ). with_escaped name v) (option_and_then (λ (h : ℕ). option_map (λ (l : ℕ). 16 * h + l) (hex_value 59)) o)) ≡ None
    go None = refl
    go (Some h) = refl
