-- The reader of method types reads their descriptors.
use Rattle.std.proofs.Common.{◌≡◌, ℕ, Bool, true, false, Option, Some, None, List, [], ◌∷◌, ◌++◌, ◌⊎◌, refl, sym, ◌∙◌, ap, arith, append_assoc, append-nil, subst, inl, inr, if◌then◌else◌, eqb}
use Rattle.std.specs.Option.{option_map, option_and_then}
use Rattle.std.specs.List.{flat_map}
use Rattle.std.proofs.lemmas.Bool.Decides.{nat_tests}
use Rattle.std.proofs.lemmas.Grind.{flat_map-append}
use Rattle.kb_names.specs.Reading.{reached}
use Rattle.kb_names.specs.Descriptors.{type_text, result_text, method_text, IsType, AreTypes, IsResult, IsMethodType, SpellsMethod}
use Rattle.kb_names.specs.Stages.{type_step, type_read, after_param, after_result, method_step, method_read}
use Rattle.kb_names.specs.declared.types.JType.{JType}
use Rattle.kb_names.specs.declared.types.MethodType.{MethodType}
use Rattle.kb_names.specs.declared.class_names.Spelling.{Spelling}
use Rattle.kb_names.specs.declared.descriptors.TypeStage.{TypeStage}
use Rattle.kb_names.specs.declared.descriptors.TypeStage.TheVariants.{Dims, InName, Whole}
use Rattle.kb_names.specs.declared.descriptors.MethodStage.{MethodStage}
use Rattle.kb_names.specs.declared.descriptors.MethodStage.TheVariants.{Opening, Params, Param, Return, Returned, Method}
use Rattle.kb_names.proofs.Reading.{IsReader, reached-cons, reached-then}
use Rattle.kb_names.proofs.Choices.{chosen, mapped, passed}
use Rattle.kb_names.proofs.TypeReader.{type_so_far, IsTypeStage, TypeFollows, type_follows, type_live, reads_type}

-- a type that is not whole
abbrev pub IsOpen : TypeStage → Type 0
IsOpen (Whole type) = ⊥
IsOpen (Dims own dims) = Unit {0}
IsOpen (InName dims class) = Unit {0}

abbrev pub params_text : Spelling → List JType → List ℕ
params_text spelling params = 40 ∷ flat_map (type_text spelling) params

abbrev pub method_so_far : Spelling → MethodStage → List ℕ
method_so_far spelling (Opening own) = []
method_so_far spelling (Params own params) = params_text spelling params
method_so_far spelling (Param own params stage) = params_text spelling params ++ type_so_far spelling stage
method_so_far spelling (Return own params) = params_text spelling params ++ 41 ∷ []
method_so_far spelling (Returned params stage) = (params_text spelling params ++ 41 ∷ []) ++ type_so_far spelling stage
method_so_far spelling (Method kind) = method_text spelling kind

abbrev pub IsMethodStage : Spelling → MethodStage → Type 0
IsMethodStage spelling (Opening own) = own ≡ spelling
IsMethodStage spelling (Params own params) = (own ≡ spelling) × AreTypes spelling params
IsMethodStage spelling (Param own params stage) = (own ≡ spelling) × AreTypes spelling params × IsOpen stage × IsTypeStage spelling stage
IsMethodStage spelling (Return own params) = (own ≡ spelling) × AreTypes spelling params
IsMethodStage spelling (Returned params stage) = AreTypes spelling params × IsOpen stage × IsTypeStage spelling stage
IsMethodStage spelling (Method kind) = IsMethodType spelling kind

abbrev Follows : Spelling → List ℕ → ℕ → MethodStage → Type 0
Follows spelling front byte t = IsMethodStage spelling t × (method_so_far spelling t ≡ front ++ byte ∷ [])

AreTypes-push : (spelling : Spelling) (types : List JType) (type : JType) → AreTypes spelling types → IsType spelling type → AreTypes spelling (types ++ type ∷ [])
AreTypes-push spelling [] type are is = (is, tt)
AreTypes-push spelling (t ∷ ts) type are is = (are.0, AreTypes-push spelling ts type are.1 is)

params_text-push : (spelling : Spelling) (params : List JType) (type : JType) → params_text spelling (params ++ type ∷ []) ≡ params_text spelling params ++ type_text spelling type
params_text-push spelling params type =
    ap (λ (y : List ℕ). 40 ∷ y)
    (flat_map-append (type_text spelling) params (type ∷ []) ∙ ap (λ (y : List ℕ). flat_map (type_text spelling) params ++ y) (append-nil (type_text spelling type)))

-- the descriptor of a method, from the left
method_text-left : (spelling : Spelling) (params : List JType) (rest : List ℕ)
    → 40 ∷ (flat_map (type_text spelling) params ++ 41 ∷ rest) ≡ (params_text spelling params ++ 41 ∷ []) ++ rest
method_text-left spelling params rest = sym (append_assoc (params_text spelling params) (41 ∷ []) rest)

-- a part of a method's descriptor that is a type: behind front, as long as it is open and when it is whole
record IsPart (spelling : Spelling) (front : List ℕ) (inside : TypeStage → MethodStage) (done : JType → MethodStage) (after : TypeStage → MethodStage) : Type 0 where
  whole : (type : JType) → after (Whole type) ≡ done type
  open_part : (s : TypeStage) → IsOpen s → after s ≡ inside s
  steps : (s : TypeStage) (byte : ℕ) → method_step (inside s) byte ≡ option_map after (type_step s byte)
  is_inside : (s : TypeStage) → IsOpen s → IsTypeStage spelling s → IsMethodStage spelling (inside s) × (method_so_far spelling (inside s) ≡ front ++ type_so_far spelling s)
  is_done : (type : JType) → IsType spelling type → IsMethodStage spelling (done type) × (method_so_far spelling (done type) ≡ front ++ type_text spelling type)

module _ (spelling : Spelling) (front : List ℕ) (inside : TypeStage → MethodStage) (done : JType → MethodStage) (after : TypeStage → MethodStage)
    (part : IsPart spelling front inside done after) where
  part_follows : (s : TypeStage) (t : MethodStage) (byte : ℕ) → IsTypeStage spelling s → option_map after (type_step s byte) ≡ Some t
      → Follows spelling (front ++ type_so_far spelling s) byte t
  part_follows s t byte good e =
      let m = mapped after (type_step s byte) t e in
      go m.0 (type_follows spelling s m.0 byte good m.1) m.2
    where
      joins : (u : MethodStage) (text : List ℕ) → text ≡ type_so_far spelling s ++ byte ∷ [] → IsMethodStage spelling u × (method_so_far spelling u ≡ front ++ text) → u ≡ t
          → Follows spelling (front ++ type_so_far spelling s) byte t
      joins u text read is same =
          subst (Follows spelling (front ++ type_so_far spelling s) byte) same
          (is.0, is.1 ∙ ap (λ (y : List ℕ). front ++ y) read ∙ sym (append_assoc front (type_so_far spelling s) (byte ∷ [])))

      go : (u : TypeStage) → TypeFollows spelling s byte u → after u ≡ t → Follows spelling (front ++ type_so_far spelling s) byte t
      go (Whole type) read same = joins (done type) (type_text spelling type) read.1 (part.is_done type read.0) (sym (part.whole type) ∙ same)
      go (Dims own dims) read same =
          joins (inside (Dims own dims)) (type_so_far spelling (Dims own dims)) read.1 (part.is_inside (Dims own dims) tt read.0) (sym (part.open_part (Dims own dims) tt) ∙ same)
      go (InName dims class) read same =
          joins (inside (InName dims class)) (type_so_far spelling (InName dims class)) read.1 (part.is_inside (InName dims class) tt read.0) (sym (part.open_part (InName dims class) tt) ∙ same)

  -- a type that is read here is done
  part_reads : (s : TypeStage) (xs : List ℕ) (type : JType) → IsOpen s → reached type_step s xs ≡ Some (Whole type) → reached method_step (inside s) xs ≡ Some (done type)
  unfolding type_step
  part_reads s [] type is e = let same : s ≡ Whole type = cc in absurd (subst IsOpen same is)
  part_reads s (x ∷ xs) type is e =
      let m = passed (λ (n : TypeStage). reached type_step n xs) (type_step s x) (Whole type) e in
      reached-cons method_step (inside s) (after m.0) x xs (part.steps s x ∙ ap (option_map after) m.1)
      ∙ go (λ u open_u h. part_reads u xs type open_u h) m.0 m.2
    where
      ends : (t : JType) (ys : List ℕ) → reached type_step (Whole t) ys ≡ Some (Whole type) → reached method_step (done t) ys ≡ Some (done type)
      ends t [] h = let same : t ≡ type = cc in ap (λ (v : JType). Some (done v)) same
      ends t (y ∷ ys) h = cc

      go : ((u : TypeStage) → IsOpen u → reached type_step u xs ≡ Some (Whole type) → reached method_step (inside u) xs ≡ Some (done type))
          → (u : TypeStage) → reached type_step u xs ≡ Some (Whole type) → reached method_step (after u) xs ≡ Some (done type)
      go again (Whole t) h = ap (λ (v : MethodStage). reached method_step v xs) (part.whole t) ∙ ends t xs h
      go again (Dims own dims) h = ap (λ (v : MethodStage). reached method_step v xs) (part.open_part (Dims own dims) tt) ∙ again (Dims own dims) tt h
      go again (InName dims class) h = ap (λ (v : MethodStage). reached method_step v xs) (part.open_part (InName dims class) tt) ∙ again (InName dims class) tt h

param_part : (spelling own : Spelling) (params : List JType) → own ≡ spelling → AreTypes spelling params
    → IsPart spelling (params_text spelling params) (Param own params) (λ (type : JType). Params own (params ++ type ∷ [])) (after_param own params)
unfolding method_step
param_part spelling own params is_own are = record {
  whole = λ type. refl;
  open_part = opens;
  steps = λ s byte. refl;
  is_inside = λ s is good. ((is_own, are, is, good), refl);
  is_done = λ type is. ((is_own, AreTypes-push spelling params type are is), params_text-push spelling params type);
}
  where
    opens : (s : TypeStage) → IsOpen s → after_param own params s ≡ Param own params s
    opens (Whole type) is = absurd is
    opens (Dims other dims) is = refl
    opens (InName dims class) is = refl

result_part : (spelling : Spelling) (params : List JType) → AreTypes spelling params
    → IsPart spelling (params_text spelling params ++ 41 ∷ []) (Returned params) (λ (type : JType). Method (record { params = params; result = Some type })) (after_result params)
unfolding method_step
result_part spelling params are = record {
  whole = λ type. refl;
  open_part = opens;
  steps = λ s byte. refl;
  is_inside = λ s is good. ((are, is, good), refl);
  is_done = λ type is. (record { params = are; result = is }, method_text-left spelling params (type_text spelling type));
}
  where
    opens : (s : TypeStage) → IsOpen s → after_result params s ≡ Returned params s
    opens (Whole type) is = absurd is
    opens (Dims other dims) is = refl
    opens (InName dims class) is = refl

param_follows : (spelling own : Spelling) (params : List JType) (s : TypeStage) (t : MethodStage) (byte : ℕ) → own ≡ spelling → AreTypes spelling params → IsTypeStage spelling s
    → option_map (after_param own params) (type_step s byte) ≡ Some t → Follows spelling (params_text spelling params ++ type_so_far spelling s) byte t
param_follows spelling own params s t byte is_own are good e =
    part_follows spelling (params_text spelling params) (Param own params) (λ (type : JType). Params own (params ++ type ∷ [])) (after_param own params)
    (param_part spelling own params is_own are) s t byte good e

result_follows : (spelling : Spelling) (params : List JType) (s : TypeStage) (t : MethodStage) (byte : ℕ) → AreTypes spelling params → IsTypeStage spelling s
    → option_map (after_result params) (type_step s byte) ≡ Some t → Follows spelling ((params_text spelling params ++ 41 ∷ []) ++ type_so_far spelling s) byte t
result_follows spelling params s t byte are good e =
    part_follows spelling (params_text spelling params ++ 41 ∷ []) (Returned params) (λ (type : JType). Method (record { params = params; result = Some type })) (after_result params)
    (result_part spelling params are) s t byte good e

opening_follows : (spelling own : Spelling) (t : MethodStage) (byte : ℕ) → own ≡ spelling → method_step (Opening own) byte ≡ Some t → Follows spelling [] byte t
unfolding method_step
opening_follows spelling own t byte is_own e = go (chosen (eqb byte 40) (Some (Params own [])) None (Some t) e)
  where
    go : ((eqb byte 40 ≡ true) × (Some (Params own []) ≡ Some t)) ⊎ ((eqb byte 40 ≡ false) × (None ≡ Some t)) → Follows spelling [] byte t
    go (inl (p, x)) =
        let same : Params own [] ≡ t = cc in
        let is : byte ≡ 40 = grind (arith, nat_tests, p) in
        subst (Follows spelling [] byte) same ((is_own, tt), ap (λ (b : ℕ). b ∷ []) (sym is))
    go (inr (p, x)) = cc

params_follows : (spelling own : Spelling) (params : List JType) (t : MethodStage) (byte : ℕ) → own ≡ spelling → AreTypes spelling params → method_step (Params own params) byte ≡ Some t
    → Follows spelling (params_text spelling params) byte t
unfolding method_step
params_follows spelling own params t byte is_own are e =
    go (chosen (eqb byte 41) (Some (Return own params)) (option_map (after_param own params) (type_step (Dims own 0) byte)) (Some t) e)
  where
    go : ((eqb byte 41 ≡ true) × (Some (Return own params) ≡ Some t)) ⊎ ((eqb byte 41 ≡ false) × (option_map (after_param own params) (type_step (Dims own 0) byte) ≡ Some t))
        → Follows spelling (params_text spelling params) byte t
    go (inl (p, x)) =
        let same : Return own params ≡ t = cc in
        let is : byte ≡ 41 = grind (arith, nat_tests, p) in
        subst (Follows spelling (params_text spelling params) byte) same ((is_own, are), ap (λ (b : ℕ). params_text spelling params ++ b ∷ []) (sym is))
    go (inr (p, x)) =
        subst (λ (front : List ℕ). Follows spelling front byte t) (append-nil (params_text spelling params))
        (param_follows spelling own params (Dims own 0) t byte is_own are (is_own, omega arith) x)

return_follows : (spelling own : Spelling) (params : List JType) (t : MethodStage) (byte : ℕ) → own ≡ spelling → AreTypes spelling params → method_step (Return own params) byte ≡ Some t
    → Follows spelling (params_text spelling params ++ 41 ∷ []) byte t
unfolding method_step
return_follows spelling own params t byte is_own are e =
    go (chosen (eqb byte 86) (Some (Method (record { params = params; result = None }))) (option_map (after_result params) (type_step (Dims own 0) byte)) (Some t) e)
  where
    go : ((eqb byte 86 ≡ true) × (Some (Method (record { params = params; result = None })) ≡ Some t))
        ⊎ ((eqb byte 86 ≡ false) × (option_map (after_result params) (type_step (Dims own 0) byte) ≡ Some t)) → Follows spelling (params_text spelling params ++ 41 ∷ []) byte t
    go (inl (p, x)) =
        let same : Method (record { params = params; result = None }) ≡ t = cc in
        let is : byte ≡ 86 = grind (arith, nat_tests, p) in
        subst (Follows spelling (params_text spelling params ++ 41 ∷ []) byte) same
        (record { params = are; result = tt }, method_text-left spelling params (86 ∷ []) ∙ ap (λ (b : ℕ). (params_text spelling params ++ 41 ∷ []) ++ b ∷ []) (sym is))
    go (inr (p, x)) =
        subst (λ (front : List ℕ). Follows spelling front byte t) (append-nil (params_text spelling params ++ 41 ∷ []))
        (result_follows spelling params (Dims own 0) t byte are (is_own, omega arith) x)

method_follows : (spelling : Spelling) (s t : MethodStage) (byte : ℕ) → IsMethodStage spelling s → method_step s byte ≡ Some t → Follows spelling (method_so_far spelling s) byte t
unfolding method_step
method_follows spelling (Opening own) t byte good e = opening_follows spelling own t byte good e
method_follows spelling (Params own params) t byte good e = params_follows spelling own params t byte good.0 good.1 e
method_follows spelling (Param own params stage) t byte good e = param_follows spelling own params stage t byte good.0 good.1 good.3 e
method_follows spelling (Return own params) t byte good e = return_follows spelling own params t byte good.0 good.1 e
method_follows spelling (Returned params stage) t byte good e = result_follows spelling params stage t byte good.0 good.2 e
method_follows spelling (Method kind) t byte good e = cc

-- the stage from which a type is read is whole
read_whole : (t : TypeStage) (v : JType) → type_read t ≡ Some v → t ≡ Whole v
read_whole (Dims own dims) v e = cc
read_whole (InName dims class) v e = cc
read_whole (Whole type) v e = let same : type ≡ v = cc in ap Whole same

ended : (own : Spelling) (params : List JType) → reached method_step (Params own params) (41 ∷ 86 ∷ []) ≡ Some (Method (record { params = params; result = None }))
unfolding method_step
ended own params = refl

param_reads : (spelling own : Spelling) (params : List JType) (s : TypeStage) (xs : List ℕ) (type : JType) → own ≡ spelling → AreTypes spelling params → IsOpen s
    → reached type_step s xs ≡ Some (Whole type) → reached method_step (Param own params s) xs ≡ Some (Params own (params ++ type ∷ []))
param_reads spelling own params s xs type is_own are is e =
    part_reads spelling (params_text spelling params) (Param own params) (λ (t : JType). Params own (params ++ t ∷ [])) (after_param own params)
    (param_part spelling own params is_own are) s xs type is e

result_reads : (spelling : Spelling) (params : List JType) (s : TypeStage) (xs : List ℕ) (type : JType) → AreTypes spelling params → IsOpen s
    → reached type_step s xs ≡ Some (Whole type) → reached method_step (Returned params s) xs ≡ Some (Method (record { params = params; result = Some type }))
result_reads spelling params s xs type are is e =
    part_reads spelling (params_text spelling params ++ 41 ∷ []) (Returned params) (λ (t : JType). Method (record { params = params; result = Some t })) (after_result params)
    (result_part spelling params are) s xs type is e

method_live : (spelling : Spelling) (s : MethodStage) → IsMethodStage spelling s
    → (more : List ℕ) × (t : MethodStage) × (v : MethodType) × (reached method_step s more ≡ Some t) × (method_read t ≡ Some v)
unfolding method_step
method_live spelling (Opening own) good = (40 ∷ 41 ∷ 86 ∷ [], Method (record { params = []; result = None }), record { params = []; result = None }, refl, refl)
method_live spelling (Params own params) good = (41 ∷ 86 ∷ [], Method (record { params = params; result = None }), record { params = params; result = None }, refl, refl)
method_live spelling (Param own params stage) good =
    let on = type_live spelling stage good.3 in
    let all = params ++ on.2 ∷ [] in (
      on.0 ++ 41 ∷ 86 ∷ [],
      Method (record { params = all; result = None }),
      record { params = all; result = None },
      reached-then method_step (Param own params stage) (Params own all) on.0 (41 ∷ 86 ∷ [])
          (param_reads spelling own params stage on.0 on.2 good.0 good.1 good.2 (on.3 ∙ ap Some (read_whole on.1 on.2 on.4))) ∙ ended own all,
      refl,
    )
method_live spelling (Return own params) good = (86 ∷ [], Method (record { params = params; result = None }), record { params = params; result = None }, refl, refl)
method_live spelling (Returned params stage) good =
    let on = type_live spelling stage good.2 in (
      on.0,
      Method (record { params = params; result = Some on.2 }),
      record { params = params; result = Some on.2 },
      result_reads spelling params stage on.0 on.2 good.0 good.1 (on.3 ∙ ap Some (read_whole on.1 on.2 on.4)),
      refl,
    )
method_live spelling (Method kind) good = ([], Method kind, kind, refl, refl)

method_found : (spelling : Spelling) (s : MethodStage) (v : MethodType) → IsMethodStage spelling s → method_read s ≡ Some v → SpellsMethod spelling v (method_so_far spelling s)
method_found spelling (Opening own) v good e = cc
method_found spelling (Params own params) v good e = cc
method_found spelling (Param own params stage) v good e = cc
method_found spelling (Return own params) v good e = cc
method_found spelling (Returned params stage) v good e = cc
method_found spelling (Method kind) v good e = let same : kind ≡ v = cc in (subst (IsMethodType spelling) same good, ap (method_text spelling) same)

-- a type that is read begins with no byte that closes
begins : (at inside closed : MethodStage) (own : Spelling) (c : ℕ) (xs : List ℕ) (type : JType)
    → ((x : ℕ) → method_step at x ≡ (if eqb x c then Some closed else method_step inside x)) → type_step (Dims own 0) c ≡ None
    → reached type_step (Dims own 0) xs ≡ Some (Whole type) → reached method_step at xs ≡ reached method_step inside xs
begins at inside closed own c [] type steps none e = cc
begins at inside closed own c (x ∷ xs) type steps none e = go (eqb x c) refl
  where
    go : (t : Bool) → eqb x c ≡ t → reached method_step at (x ∷ xs) ≡ reached method_step inside (x ∷ xs)
    go true p =
        let is : x ≡ c = grind (arith, nat_tests, p) in
        let stuck : reached type_step (Dims own 0) (x ∷ xs) ≡ None = ap (option_and_then (λ (n : TypeStage). reached type_step n xs)) (ap (type_step (Dims own 0)) is ∙ none) in
        cc
    go false p =
        ap (option_and_then (λ (n : MethodStage). reached method_step n xs)) (steps x ∙ ap (λ (t : Bool). if t then Some closed else method_step inside x) p)

begins_param : (own : Spelling) (params : List JType) (xs : List ℕ) (type : JType) → reached type_step (Dims own 0) xs ≡ Some (Whole type)
    → reached method_step (Params own params) xs ≡ reached method_step (Param own params (Dims own 0)) xs
unfolding method_step type_step
begins_param own params xs type e = begins (Params own params) (Param own params (Dims own 0)) (Return own params) own 41 xs type (λ x. refl) refl e

begins_result : (own : Spelling) (params : List JType) (xs : List ℕ) (type : JType) → reached type_step (Dims own 0) xs ≡ Some (Whole type)
    → reached method_step (Return own params) xs ≡ reached method_step (Returned params (Dims own 0)) xs
unfolding method_step type_step
begins_result own params xs type e =
    begins (Return own params) (Returned params (Dims own 0)) (Method (record { params = params; result = None })) own 86 xs type (λ x. refl) refl e

-- parameters are read as they are written
reads_params : (spelling : Spelling) (front params : List JType) → AreTypes spelling front → AreTypes spelling params
    → reached method_step (Params spelling front) (flat_map (type_text spelling) params) ≡ Some (Params spelling (front ++ params))
reads_params spelling front [] are more = ap (λ (ps : List JType). Some (Params spelling ps)) (sym (append-nil front))
reads_params spelling front (type ∷ types) are more =
    reached-then method_step (Params spelling front) (Params spelling (front ++ type ∷ [])) (type_text spelling type) (flat_map (type_text spelling) types)
    (begins_param spelling front (type_text spelling type) type (reads_type spelling type more.0)
    ∙ param_reads spelling spelling front (Dims spelling 0) (type_text spelling type) type refl are tt (reads_type spelling type more.0))
    ∙ reads_params spelling (front ++ type ∷ []) types (AreTypes-push spelling front type are more.0) more.1
    ∙ ap (λ (ps : List JType). Some (Params spelling ps)) (append_assoc front (type ∷ []) types)

-- and so is the result
reads_result : (spelling : Spelling) (params : List JType) (result : Option JType) → AreTypes spelling params → IsResult spelling result
    → reached method_step (Return spelling params) (result_text spelling result) ≡ Some (Method (record { params = params; result = result }))
unfolding method_step
reads_result spelling params None are is = refl
reads_result spelling params (Some type) are is =
    begins_result spelling params (type_text spelling type) type (reads_type spelling type is)
    ∙ result_reads spelling params (Dims spelling 0) (type_text spelling type) type are tt (reads_type spelling type is)

pub reads_method : (spelling : Spelling) (kind : MethodType) → IsMethodType spelling kind → reached method_step (Opening spelling) (method_text spelling kind) ≡ Some (Method kind)
unfolding method_step
reads_method spelling kind is =
    reached-then method_step (Params spelling []) (Params spelling kind.params) (flat_map (type_text spelling) kind.params) (41 ∷ result_text spelling kind.result)
    (reads_params spelling [] kind.params tt is.params)
    ∙ reads_result spelling kind.params kind.result is.params is.result

pub method_reader : (spelling : Spelling) → IsReader method_step (Opening spelling) method_read (SpellsMethod spelling) (method_so_far spelling) (IsMethodStage spelling)
method_reader spelling = record {
  nothing = refl;
  good = refl;
  follows = method_follows spelling;
  live = method_live spelling;
  found = method_found spelling;
  only = λ v text spells. (Method v, ap (reached method_step (Opening spelling)) spells.1 ∙ reads_method spelling v spells.0, refl);
}
