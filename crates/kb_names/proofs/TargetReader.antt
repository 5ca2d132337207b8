-- The reader of targets reads their spelling.
use Rattle.std.proofs.Common.{◌≡◌, ◌≢◌, ℕ, ◌+◌, ◌*◌, Bool, true, false, Option, Some, None, List, [], ◌∷◌, ◌++◌, ◌⊎◌, refl, sym, ◌∙◌, ap, arith, append_assoc, subst, inl, inr, if◌then◌else◌, eqb, is_some}
use Rattle.std.specs.Option.{option_map, option_and_then}
use Rattle.std.proofs.lemmas.Bool.Decides.{nat_tests}
use Rattle.kb_names.specs.Reading.{reached}
use Rattle.kb_names.specs.Bytes.{AreBytes}
use Rattle.kb_names.specs.Escapes.{is_plain, hex_value, with_escaped, name_text, name_step, name_read}
use Rattle.kb_names.specs.Descriptors.{IsClassName, method_text}
use Rattle.kb_names.specs.Stages.{some_bytes, method_step, method_read}
use Rattle.kb_names.specs.Targets.{SpellsTarget, target_step, target_read}
use Rattle.kb_names.specs.declared.class_names.Spelling.TheVariants.{Escaped}
use Rattle.kb_names.specs.declared.class_names.ClassStage.TheVariants.{EscapedName}
use Rattle.kb_names.specs.declared.name_texts.NameStage.{NameStage}
use Rattle.kb_names.specs.declared.name_texts.NameStage.TheVariants.{Plain, Percent, High}
use Rattle.kb_names.specs.declared.types.MethodType.{MethodType}
use Rattle.kb_names.specs.declared.types.Target.{Target}
use Rattle.kb_names.specs.declared.descriptors.MethodStage.{MethodStage}
use Rattle.kb_names.specs.declared.descriptors.MethodStage.TheVariants.{Params, Method}
use Rattle.kb_names.specs.declared.targets.TargetStage.{TargetStage}
use Rattle.kb_names.specs.declared.targets.TargetStage.TheVariants.{InClass, InMethod, InKind}
use Rattle.kb_names.proofs.Reading.{IsReader, reached-cons, reached-then}
use Rattle.kb_names.proofs.Choices.{chosen, mapped, passed}
use Rattle.kb_names.proofs.NameReader.{text_so_far, IsStage, name_reader, reads_text}
use Rattle.kb_names.proofs.ClassReader.{class_reader, some_bytes-of, name_read-plain}
use Rattle.kb_names.proofs.MethodReader.{method_so_far, IsMethodStage, method_reader, reads_method}

abbrev pub target_so_far : TargetStage → List ℕ
target_so_far (InClass stage) = text_so_far stage
target_so_far (InMethod class stage) = name_text class ++ 46 ∷ text_so_far stage
target_so_far (InKind class name stage) = name_text class ++ 46 ∷ (name_text name ++ method_so_far Escaped stage)

abbrev pub IsTargetStage : TargetStage → Type 0
IsTargetStage (InClass stage) = IsStage stage
IsTargetStage (InMethod class stage) = IsClassName Escaped class × IsStage stage
IsTargetStage (InKind class name stage) = IsClassName Escaped class × (AreBytes name × IsMethodStage Escaped stage)

abbrev Follows : TargetStage → ℕ → TargetStage → Type 0
Follows s byte t = IsTargetStage t × (target_so_far t ≡ target_so_far s ++ byte ∷ [])

class_follows : (stage : NameStage) (t : TargetStage) (byte : ℕ) → IsStage stage → target_step (InClass stage) byte ≡ Some t → Follows (InClass stage) byte t
unfolding target_step
class_follows stage t byte good e =
    go (chosen (eqb byte 46) (option_map (λ (class : List ℕ). InMethod class (Plain [])) (option_and_then some_bytes (name_read stage))) (option_map (λ (next : NameStage). InClass next) (name_step stage byte)) (Some t) e)
  where
    ends : byte ≡ 46 → (class : List ℕ) → option_and_then some_bytes (name_read stage) ≡ Some class → InMethod class (Plain []) ≡ t → Follows (InClass stage) byte t
    ends is class read same =
        let spelled = (class_reader Escaped).found (EscapedName stage) class good read in
        subst (Follows (InClass stage) byte) same
        ((spelled.0, tt), ap (λ (y : List ℕ). y ++ 46 ∷ []) (sym spelled.1) ∙ ap (λ (b : ℕ). text_so_far stage ++ b ∷ []) (sym is))

    go : ((eqb byte 46 ≡ true) × (option_map (λ (class : List ℕ). InMethod class (Plain [])) (option_and_then some_bytes (name_read stage)) ≡ Some t))
        ⊎ ((eqb byte 46 ≡ false) × (option_map (λ (next : NameStage). InClass next) (name_step stage byte) ≡ Some t)) → Follows (InClass stage) byte t
    go (inl (p, x)) =
        let m = mapped (λ (class : List ℕ). InMethod class (Plain [])) (option_and_then some_bytes (name_read stage)) t x in
        ends (grind (arith, nat_tests, p)) m.0 m.1 m.2
    go (inr (p, x)) =
        let m = mapped (λ (next : NameStage). InClass next) (name_step stage byte) t x in
        subst (Follows (InClass stage) byte) m.2 (name_reader.follows stage m.0 byte good m.1)

method_follows : (class : List ℕ) (stage : NameStage) (t : TargetStage) (byte : ℕ) → IsClassName Escaped class → IsStage stage → target_step (InMethod class stage) byte ≡ Some t
    → Follows (InMethod class stage) byte t
unfolding target_step
method_follows class stage t byte is_class good e =
    go (chosen (eqb byte 40) (option_map (λ (name : List ℕ). InKind class name (Params Escaped [])) (name_read stage)) (option_map (λ (next : NameStage). InMethod class next) (name_step stage byte)) (Some t) e)
  where
    ends : byte ≡ 40 → (name : List ℕ) → name_read stage ≡ Some name → InKind class name (Params Escaped []) ≡ t → Follows (InMethod class stage) byte t
    ends is name read same =
        let spelled = name_reader.found stage name good read in
        subst (Follows (InMethod class stage) byte) same (
          (is_class, (spelled.0, (refl, tt))),
          ap (λ (y : List ℕ). name_text class ++ 46 ∷ (y ++ 40 ∷ [])) (sym spelled.1)
              ∙ sym (append_assoc (name_text class) (46 ∷ text_so_far stage) (40 ∷ []))
              ∙ ap (λ (b : ℕ). (name_text class ++ 46 ∷ text_so_far stage) ++ b ∷ []) (sym is),
        )

    goes : (next : NameStage) → name_step stage byte ≡ Some next → InMethod class next ≡ t → Follows (InMethod class stage) byte t
    goes next step same =
        let on = name_reader.follows stage next byte good step in
        subst (Follows (InMethod class stage) byte) same
        ((is_class, on.0), ap (λ (y : List ℕ). name_text class ++ 46 ∷ y) on.1 ∙ sym (append_assoc (name_text class) (46 ∷ text_so_far stage) (byte ∷ [])))

    go : ((eqb byte 40 ≡ true) × (option_map (λ (name : List ℕ). InKind class name (Params Escaped [])) (name_read stage) ≡ Some t))
        ⊎ ((eqb byte 40 ≡ false) × (option_map (λ (next : NameStage). InMethod class next) (name_step stage byte) ≡ Some t)) → Follows (InMethod class stage) byte t
    go (inl (p, x)) =
        let m = mapped (λ (name : List ℕ). InKind class name (Params Escaped [])) (name_read stage) t x in
        ends (grind (arith, nat_tests, p)) m.0 m.1 m.2
    go (inr (p, x)) =
        let m = mapped (λ (next : NameStage). InMethod class next) (name_step stage byte) t x in
        goes m.0 m.1 m.2

kind_follows : (class name : List ℕ) (stage : MethodStage) (t : TargetStage) (byte : ℕ) → IsClassName Escaped class → AreBytes name → IsMethodStage Escaped stage
    → target_step (InKind class name stage) byte ≡ Some t → Follows (InKind class name stage) byte t
unfolding target_step
kind_follows class name stage t byte is_class are good e =
    let m = mapped (λ (next : MethodStage). InKind class name next) (method_step stage byte) t e in
    let on = (method_reader Escaped).follows stage m.0 byte good m.1 in
    subst (Follows (InKind class name stage) byte) m.2 (
      (is_class, (are, on.0)),
      ap (λ (y : List ℕ). name_text class ++ 46 ∷ (name_text name ++ y)) on.1
          ∙ ap (λ (y : List ℕ). name_text class ++ 46 ∷ y) (sym (append_assoc (name_text name) (method_so_far Escaped stage) (byte ∷ [])))
          ∙ sym (append_assoc (name_text class) (46 ∷ (name_text name ++ method_so_far Escaped stage)) (byte ∷ [])),
    )

target_follows : (s t : TargetStage) (byte : ℕ) → IsTargetStage s → target_step s byte ≡ Some t → Follows s byte t
target_follows (InClass stage) t byte good e = class_follows stage t byte good e
target_follows (InMethod class stage) t byte good e = method_follows class stage t byte good.0 good.1 e
target_follows (InKind class name stage) t byte good e = kind_follows class name stage t byte good.0 good.1.0 good.1.1 e

-- a byte that is no part of the spelling of a name
no_place : (s : NameStage) (b : ℕ) → eqb b 37 ≡ false → is_plain b ≡ false → hex_value b ≡ None → name_step s b ≡ None
unfolding name_step
no_place (Plain name) b p q h =
    ap (λ (t : Bool). if t then Some (Percent name) else if is_plain b then Some (Plain (name ++ b ∷ [])) else None) p
    ∙ ap (λ (t : Bool). if t then Some (Plain (name ++ b ∷ [])) else None) q
no_place (Percent name) b p q h = ap (λ (o : Option ℕ). if is_some o then Some (High name b) else None) h
no_place (High name first) b p q h =
    ap (λ (o : Option ℕ). option_and_then (λ (v : ℕ). with_escaped name v) (option_and_then (λ (d : ℕ). option_map (λ (l : ℕ). 16 * d + l) o) (hex_value first))) h ∙ go (hex_value first)
  where
    go : (o : Option ℕ) → option_and_then (λ (v : ℕ). with_escaped name v) (option_and_then (λ (d : ℕ). option_map (λ (l : ℕ). 16 * d + l) None) o) ≡ None
    go None = refl
    go (Some d) = refl

-- a name is read here as it is by itself, up to the byte c that ends it
name_reads : (inside : NameStage → TargetStage) (ends : NameStage → Option TargetStage) (c : ℕ)
    → ((s : NameStage) (b : ℕ) → target_step (inside s) b ≡ (if eqb b c then ends s else option_map (λ (n : NameStage). inside n) (name_step s b)))
    → ((s : NameStage) → name_step s c ≡ None)
    → (s t : NameStage) (xs : List ℕ) → reached name_step s xs ≡ Some t → reached target_step (inside s) xs ≡ Some (inside t)
name_reads inside ends c steps none s t [] e = let same : s ≡ t = cc in ap (λ (n : NameStage). Some (inside n)) same
name_reads inside ends c steps none s t (x ∷ xs) e =
    let m = passed (λ (n : NameStage). reached name_step n xs) (name_step s x) t e in
    reached-cons target_step (inside s) (inside m.0) x xs (steps s x ∙ go m.0 m.1 (eqb x c) refl) ∙ name_reads inside ends c steps none m.0 t xs m.2
  where
    go : (n : NameStage) → name_step s x ≡ Some n → (b : Bool) → eqb x c ≡ b → (if eqb x c then ends s else option_map (λ (n : NameStage). inside n) (name_step s x)) ≡ Some (inside n)
    go n step true p =
        let is : x ≡ c = grind (arith, nat_tests, p) in
        let stuck : name_step s x ≡ None = ap (name_step s) is ∙ none s in
        cc
    go n step false p =
        ap (λ (b : Bool). if b then ends s else option_map (λ (n : NameStage). inside n) (name_step s x)) p ∙ ap (option_map (λ (n : NameStage). inside n)) step

class_reads : (s t : NameStage) (xs : List ℕ) → reached name_step s xs ≡ Some t → reached target_step (InClass s) xs ≡ Some (InClass t)
unfolding target_step
class_reads = name_reads InClass (λ s. option_map (λ (class : List ℕ). InMethod class (Plain [])) (option_and_then some_bytes (name_read s))) 46 (λ s b. refl) (λ s. no_place s 46 refl refl refl)

method_reads : (class : List ℕ) (s t : NameStage) (xs : List ℕ) → reached name_step s xs ≡ Some t → reached target_step (InMethod class s) xs ≡ Some (InMethod class t)
unfolding target_step
method_reads class = name_reads (InMethod class) (λ s. option_map (λ (name : List ℕ). InKind class name (Params Escaped [])) (name_read s)) 40 (λ s b. refl) (λ s. no_place s 40 refl refl refl)

kind_reads : (class name : List ℕ) (s t : MethodStage) (xs : List ℕ) → reached method_step s xs ≡ Some t → reached target_step (InKind class name s) xs ≡ Some (InKind class name t)
unfolding target_step
kind_reads class name s t [] e = let same : s ≡ t = cc in ap (λ (n : MethodStage). Some (InKind class name n)) same
kind_reads class name s t (x ∷ xs) e =
    let m = passed (λ (n : MethodStage). reached method_step n xs) (method_step s x) t e in
    reached-cons target_step (InKind class name s) (InKind class name m.0) x xs (ap (option_map (λ (n : MethodStage). InKind class name n)) m.1) ∙ kind_reads class name m.0 t xs m.2

-- the bytes that end a class's name and a method's
dot : (class : List ℕ) → class ≢ [] → target_step (InClass (Plain class)) 46 ≡ Some (InMethod class (Plain []))
unfolding target_step
dot class some = ap (option_map (λ (c : List ℕ). InMethod c (Plain []))) (some_bytes-of class some)

parenthesis : (class name : List ℕ) → target_step (InMethod class (Plain name)) 40 ≡ Some (InKind class name (Params Escaped []))
unfolding target_step
parenthesis class name = refl

void : (class name : List ℕ) → reached target_step (InKind class name (Params Escaped [])) (41 ∷ 86 ∷ []) ≡ Some (InKind class name (Method (record { params = []; result = None })))
unfolding target_step method_step
void class name = refl

abbrev void_target : List ℕ → List ℕ → Target
void_target class name = record { class = class; name = name; kind = record { params = []; result = None } }

method_live : (class : List ℕ) (stage : NameStage) → IsStage stage → (more : List ℕ) × (t : TargetStage) × (v : Target) × (reached target_step (InMethod class stage) more ≡ Some t) × (target_read t ≡ Some v)
method_live class stage good =
    let on = name_reader.live stage good in (
      on.0 ++ 40 ∷ 41 ∷ 86 ∷ [],
      InKind class on.2 (Method (record { params = []; result = None })),
      void_target class on.2,
      reached-then target_step (InMethod class stage) (InMethod class (Plain on.2)) on.0 (40 ∷ 41 ∷ 86 ∷ [])
          (method_reads class stage (Plain on.2) on.0 (on.3 ∙ ap Some (name_read-plain on.1 on.2 on.4)))
          ∙ reached-cons target_step (InMethod class (Plain on.2)) (InKind class on.2 (Params Escaped [])) 40 (41 ∷ 86 ∷ []) (parenthesis class on.2)
          ∙ void class on.2,
      refl,
    )

letter : (v : List ℕ) → target_step (InClass (Plain v)) 97 ≡ Some (InClass (Plain (v ++ 97 ∷ [])))
unfolding target_step name_step
letter v = refl

filled : (v : List ℕ) → v ++ 97 ∷ [] ≢ []
filled [] = λ e. cc
filled (x ∷ xs) = λ e. cc

class_live : (stage : NameStage) → IsStage stage → (more : List ℕ) × (t : TargetStage) × (v : Target) × (reached target_step (InClass stage) more ≡ Some t) × (target_read t ≡ Some v)
class_live stage good =
    let on = name_reader.live stage good in
    let class = on.2 ++ 97 ∷ [] in
    let next = method_live class (Plain []) tt in (
      on.0 ++ 97 ∷ 46 ∷ next.0,
      next.1,
      next.2,
      reached-then target_step (InClass stage) (InClass (Plain on.2)) on.0 (97 ∷ 46 ∷ next.0)
          (class_reads stage (Plain on.2) on.0 (on.3 ∙ ap Some (name_read-plain on.1 on.2 on.4)))
          ∙ reached-cons target_step (InClass (Plain on.2)) (InClass (Plain class)) 97 (46 ∷ next.0) (letter on.2)
          ∙ reached-cons target_step (InClass (Plain class)) (InMethod class (Plain [])) 46 next.0 (dot class (filled on.2))
          ∙ next.3,
      next.4,
    )

target_live : (s : TargetStage) → IsTargetStage s → (more : List ℕ) × (t : TargetStage) × (v : Target) × (reached target_step s more ≡ Some t) × (target_read t ≡ Some v)
target_live (InClass stage) good = class_live stage good
target_live (InMethod class stage) good = method_live class stage good.1
target_live (InKind class name stage) good =
    let on = (method_reader Escaped).live stage good.1.1 in (
      on.0,
      InKind class name on.1,
      record { class = class; name = name; kind = on.2 },
      kind_reads class name stage on.1 on.0 on.3,
      ap (option_map (λ (kind : MethodType). record { class = class; name = name; kind = kind })) on.4,
    )

target_found : (s : TargetStage) (v : Target) → IsTargetStage s → target_read s ≡ Some v → SpellsTarget v (target_so_far s)
target_found (InClass stage) v good e = cc
target_found (InMethod class stage) v good e = cc
target_found (InKind class name stage) v good e =
    let made : MethodType → Target = λ kind. record { class = class; name = name; kind = kind } in
    let m = mapped made (method_read stage) v e in
    let read = (method_reader Escaped).found stage m.0 good.1.1 m.1 in
    subst (λ (t : Target). SpellsTarget t (target_so_far (InKind class name stage))) m.2
    (record { class = good.0; name = good.1.0; kind = read.0 }, ap (λ (y : List ℕ). name_text class ++ 46 ∷ (name_text name ++ y)) read.1)

target_only : (v : Target) (text : List ℕ) → SpellsTarget v text → (t : TargetStage) × (reached target_step (InClass (Plain [])) text ≡ Some t) × (target_read t ≡ Some v)
unfolding method_step
target_only v text spells =
    let is = spells.0 in (
      InKind v.class v.name (Method v.kind),
      ap (reached target_step (InClass (Plain []))) spells.1
          ∙ reached-then target_step (InClass (Plain [])) (InClass (Plain v.class)) (name_text v.class) (46 ∷ (name_text v.name ++ method_text Escaped v.kind))
          (class_reads (Plain []) (Plain v.class) (name_text v.class) (reads_text [] v.class is.class.1))
          ∙ reached-cons target_step (InClass (Plain v.class)) (InMethod v.class (Plain [])) 46 (name_text v.name ++ method_text Escaped v.kind) (dot v.class is.class.0)
          ∙ reached-then target_step (InMethod v.class (Plain [])) (InMethod v.class (Plain v.name)) (name_text v.name) (method_text Escaped v.kind)
          (method_reads v.class (Plain []) (Plain v.name) (name_text v.name) (reads_text [] v.name is.name))
          ∙ reached-cons target_step (InMethod v.class (Plain v.name)) (InKind v.class v.name (Params Escaped [])) 40 _ (parenthesis v.class v.name)
          ∙ kind_reads v.class v.name (Params Escaped []) (Method v.kind) _ (reads_method Escaped v.kind is.kind),
      refl,
    )

pub target_reader : IsReader target_step (InClass (Plain [])) target_read SpellsTarget target_so_far IsTargetStage
target_reader = record {
  nothing = refl;
  good = tt;
  follows = target_follows;
  live = target_live;
  found = target_found;
  only = target_only;
}
