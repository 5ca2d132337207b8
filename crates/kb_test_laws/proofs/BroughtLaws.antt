-- In code that reach accepts, what an instruction makes is of a type that has a text, and what it calls is reached.
use Rattle.std.proofs.Common.{◌≡◌, ℕ, ◌<◌, ◌⊎◌, inl, inr, Bool, true, false, ◌&&◌, not, ◌==◌, is_some, List, [], ◌∷◌, ◌++◌, map, filter, filter_map, Option, Some, None, slice_get, option_and_then, refl, sym, ap, subst, ◌∙◌, arith, leb-false, if◌then◌else◌}
use Rattle.std.specs.Option.{option_map_or}
use Rattle.std.proofs.lemmas.Option.{same_Some, none-some}
use Rattle.kb_names.specs.declared.types.ExactType.{ExactType}
use Rattle.kb_names.specs.declared.types.ExactType.TheVariants as exact
use Rattle.kb_names.specs.declared.types.JType.{JType}
use Rattle.kb_names.specs.declared.types.JType.TheVariants as types
use Rattle.kb_names.specs.declared.types.MethodType.{MethodType}
use Rattle.kb_names.proofs.Choices.{and_true, chosen, mapped, passed}
use Rattle.kb_code.specs.declared.instruction.Instr.{Instr}
use Rattle.kb_code.specs.declared.instruction.Instr.TheVariants as instrs
use Rattle.kb_class.specs.declared.ids.MethodId.{MethodId}
use Rattle.kb_class.specs.declared.entries.ReferenceKind.{ReferenceKind}
use Rattle.kb_class.specs.declared.entries.ReferenceKind.TheVariants as references
use Rattle.kb_class.specs.declared.members.MemberKind.{MemberKind}
use Rattle.kb_class.specs.declared.members.MemberKind.TheVariants as kinds
use Rattle.kb_class.specs.declared.members.MethodInfo.{MethodInfo}
use Rattle.kb_class.specs.Class.{Class, Sought}
use Rattle.kb_class.specs.Naming.{Has}
use Rattle.kb_class.proofs.Lists.{filter_has, has_first, has_left, map_has}
use Rattle.kb_classes.specs.declared.refusal.What.TheVariants as whats
use Rattle.kb_link.specs.Links.{IsLinked}
use Rattle.kb_classes.specs.Subtypes.{shape_of_exact, type_of_exact}
use Rattle.kb_classes.specs.Universe.{exact_class, given_types, is_concrete, is_given}
use Rattle.kb_classes.specs.World.{method_at, number_in, type_entry_of}
use Rattle.kb_classes.proofs.MethodNumbers.{named_at}
use Rattle.kb_link.proofs.SharingLaws.{has_filtered}
use Rattle.kb_world.specs.Calls.{called_on, fault_of, has_code_at, if_code, mentions, receives, selected_on}
use Rattle.kb_universe.specs.Faults.{Outside, component_of_code, fault_of_array, fault_of_new, fault_of_new_type, fault_of_object, is_deepest, missing_class}
use Rattle.kb_resolution.specs.LeftOut.{has_left_out}
use Rattle.kb_resolution.specs.Lookup.{method_of_sought, only_where, resolved_method, selected_special, sought_at, special_of_sought}
use Rattle.kb_semantics.specs.Config.{Setting, info_of}
use Rattle.kb_semantics.specs.Instructions.{BySelection, Callee, Special, Static, callee_of, component_of_entry}
use Rattle.kb_heap_words.specs.Words.{IsExact}
use Rattle.kb_test_laws.specs.Texts.{NamesHaveTexts}
use Rattle.kb_test_laws.proofs.CallLaws.{SelectsNoCode, arrays_select_none, row_selects_none}
use Rattle.kb_test_laws.proofs.PlatformLaws.{given_or_row}
use Rattle.kb_test_laws.proofs.ReachLaws.{none_both}
use Rattle.kb_test_laws.proofs.WithinEffects.{Brings, Calls}

-- ---- tests

none_where : {A : Type 0} (such : Bool) (x : A) → only_where such x ≡ None → such ≡ false
none_where false x e = refl
none_where true x e = absurd (none-some x (sym e))

none_through : {A B : Type 0} (f : A → Option B) (o : Option A) (x : A) → o ≡ Some x → option_and_then f o ≡ None → f x ≡ None
none_through f o x at none = subst (λ p. option_and_then f p ≡ None) at none

some_there : {A : Type 0} (o : Option A) → not (is_some o) ≡ false → (x : A) × (o ≡ Some x)
some_there None e = absurd cc
some_there (Some x) e = (x, refl)

not_false : (b : Bool) → not b ≡ false → b ≡ true
not_false true e = refl
not_false false e = absurd cc

-- ---- types

-- an array of booleans, ints, classes and of arrays of less than 255 dimensions has a descriptor
array_of_exact : (type : ExactType) → IsExact type → is_deepest type ≡ false → IsExact (exact.Array (type_of_exact type))
array_of_exact (exact.Class name) is less = record { base = is; dims = omega arith }
array_of_exact (exact.Array component) is less =
    let below : (shape_of_exact (exact.Array component)).dims < 255 = leb-false 255 (shape_of_exact (exact.Array component)).dims less in
    record { base = is.base; dims = omega (arith, below) }

module _ (s : Setting) (linked : IsLinked s.world) (names : NamesHaveTexts s.world) (reached : List ℕ) where
  -- ---- objects and frames of such a run

  -- a type of an object of the run: it is one that an object of the input may have, or its objects select no code
  pub record IsRunType (type : ExactType) : Type 0 where
    pub text : IsExact type
    pub selects : Has s.world.universe type ⊎ SelectsNoCode s.world linked type

  pub record IsReachedMethod (id : MethodId) : Type 0 where
    pub has : Has reached id.0
    pub method : MethodInfo
    pub there : info_of s.world id ≡ Some method

  -- ---- what is made

  concrete_class : (name : List ℕ) (number : ℕ) (class : Class) → number_in s.world.classes name ≡ Some number → slice_get s.world.classes number ≡ Some class → class.name ≡ name
      → is_concrete class ≡ true → Has s.world.universe (exact.Class name) ⊎ SelectsNoCode s.world linked (exact.Class name)
  concrete_class name number class at class_is named concrete =
      elim (given_or_row s.world.classes linked.loaded.platform number class class_is) [
        | inl file ↦ inl (let universe = linked.universe in
            let in_types : Has (given_types s.world.classes) (exact_class class) =
            map_has exact_class (filter (λ class. is_given class && is_concrete class) s.world.classes) class
            (has_filtered (λ class. is_given class && is_concrete class) s.world.classes class (number, class_is) (and_true (is_given class) (is_concrete class) file concrete)) in
            subst (λ (types : List ExactType). Has types (exact.Class name)) (sym universe.parts)
            (has_left (given_types s.world.classes ++ universe.platform) (map exact.Array universe.arrays) (exact.Class name)
            (has_left (given_types s.world.classes) universe.platform (exact.Class name)
            (subst (λ (n : List ℕ). Has (given_types s.world.classes) (exact.Class n)) named in_types))))
        | inr row ↦ inr (row_selects_none s.world linked name number class at class_is row)
      ]

  made_class : (name : List ℕ) → fault_of_new s.world (Some (exact.Class name)) ≡ None → IsExact (exact.Class name) → IsRunType (exact.Class name)
  made_class name none is =
      let both = none_both (missing_class s.world (exact.Class name)) (fault_of_new_type s.world (exact.Class name)) none in
      let number = some_there (number_in s.world.classes name) (none_where (not (is_some (number_in s.world.classes name))) _ both.0) in
      let class = named_at s.world.classes name number.0 number.1 in
      let of_object : fault_of_object s.world number.0 ≡ None = subst (λ (o : Option ℕ). option_and_then (fault_of_object s.world) o ≡ None) number.1 both.1 in
      let parts = none_both _ _ (none_through _ (slice_get s.world.classes number.0) class.0 class.1 of_object) in
      record { text = is; selects = concrete_class name number.0 class.0 number.1 class.1 class.2 (not_false (is_concrete class.0) (none_where (not (is_concrete class.0)) _ parts.0)) }

  made_array : (component : JType) → IsExact (exact.Array component) → IsRunType (exact.Array component)
  made_array component is = record { text = is; selects = inr (arrays_select_none s.world linked component) }

  array_of_code : (code : ℕ) (component : JType) → component_of_code code ≡ Some component → IsExact (exact.Array component)
  array_of_code code component e =
      elim (chosen (code == 4) (Some types.Bool) (if code == 10 then Some types.Int else None) (Some component) e) [
        | inl bool ↦ subst (λ (type : JType). IsExact (exact.Array type)) (same_Some types.Bool component bool.1) (record { base = tt; dims = omega arith })
        | inr other ↦ elim (chosen (code == 10) (Some types.Int) None (Some component) other.1) [
          | inl int ↦ subst (λ (type : JType). IsExact (exact.Array type)) (same_Some types.Int component int.1) (record { base = tt; dims = omega arith })
          | inr none ↦ absurd (none-some component none.1)
        ]
      ]

  array_of_entry : (class entry : ℕ) (component : JType) → fault_of_array s.world (type_entry_of s.world class entry) ≡ None → component_of_entry s.world class entry ≡ Some component
      → IsExact (exact.Array component)
  array_of_entry class entry component none e =
      let type = mapped type_of_exact (type_entry_of s.world class entry) component e in
      let of_type : fault_of_array s.world (Some type.0) ≡ None = subst (λ (o : Option ExactType). fault_of_array s.world o ≡ None) type.1 none in
      let parts = none_both (missing_class s.world type.0) (only_where (is_deepest type.0) _) of_type in
      subst (λ (t : JType). IsExact (exact.Array t)) type.2 (array_of_exact type.0 (names.entries class entry type.0 type.1) (none_where (is_deepest type.0) _ parts.1))

  -- ---- what is called

  code_there : (number : ℕ) → has_code_at s.world number ≡ true → (method : MethodInfo) × (method_at s.world number ≡ Some method)
  code_there number code = go (method_at s.world number) refl where
    go : (o : Option MethodInfo) → method_at s.world number ≡ o → (method : MethodInfo) × (method_at s.world number ≡ Some method)
    go None e = (let none : false ≡ true = ap (λ (o : Option MethodInfo). option_map_or (λ (m : MethodInfo). is_some m.code) o false) (sym e) ∙ code in absurd cc)
    go (Some method) e = (method, e)

  mentioned : (found : List (Option ℕ)) (number : ℕ) → Has found (Some number) → has_code_at s.world number ≡ true → Has (filter_map (if_code s.world) found) number
  mentioned found number has code = filter_has (if_code s.world) found (Some number) number has (ap (λ (b : Bool). only_where b number) code)

  -- the entry of a call, what it stands for, and of which kind that is
  module _ (class entry : ℕ) (sought : Sought) (at : sought_at s.world class entry ≡ Some sought) where
    abbrev IsMethod : Type 0
    IsMethod = (sought.what ≡ references.Method) ⊎ (sought.what ≡ references.InterfaceMethod)

    by_what : {P : Type 0} → (sought.what ≡ references.Field → P) → (sought.what ≡ references.Method → P) → (sought.what ≡ references.InterfaceMethod → P) → P
    by_what {P = P} f m i = go sought.what refl where
      go : (what : ReferenceKind) → sought.what ≡ what → P
      go references.Field e = f e
      go references.Method e = m e
      go references.InterfaceMethod e = i e

    resolved_is : resolved_method s.world class entry ≡ method_of_sought s.world sought
    resolved_is = ap (λ (o : Option Sought). option_and_then (method_of_sought s.world) o) at

    -- a field stands for no method
    no_field : sought.what ≡ references.Field → method_of_sought s.world sought ≡ None
    no_field what = rw what refl

    no_special : sought.what ≡ references.Field → selected_special s.world class entry ≡ None
    no_special what = rw (at, what) refl

    -- where invokevirtual names a method of an interface, and invokeinterface one of a class, it has a fault
    virtual_fault : sought.what ≡ references.InterfaceMethod → fault_of s.world class (instrs.Virtual entry) ≡ Some (Outside whats.Operand)
    unfolding fault_of
    virtual_fault what = rw (at, what) refl

    interface_fault : sought.what ≡ references.Method → fault_of s.world class (instrs.Interface entry) ≡ Some (Outside whats.Operand)
    unfolding fault_of
    interface_fault what = rw (at, what) refl

    -- and so has an invokespecial whose method is not there
    special_field : (type : JType) → IsMethod → sought.member.kind ≡ kinds.Field type → fault_of s.world class (instrs.Special entry) ≡ Some (Outside whats.Method)
    unfolding fault_of
    special_field type (inl what) kind = rw (at, what, kind) refl
    special_field type (inr what) kind = rw (at, what, kind) refl

    special_left_out : (kind : MethodType) → IsMethod → sought.member.kind ≡ kinds.Method kind → has_left_out kind ≡ true → fault_of s.world class (instrs.Special entry) ≡ Some (Outside whats.Kind)
    unfolding fault_of
    special_left_out kind (inl what) is left = rw (at, what, is, left) refl
    special_left_out kind (inr what) is left = rw (at, what, is, left) refl

    special_none : (kind : MethodType) → IsMethod → sought.member.kind ≡ kinds.Method kind → has_left_out kind ≡ false → resolved_method s.world class entry ≡ None
        → fault_of s.world class (instrs.Special entry) ≡ Some (Outside whats.Method)
    unfolding fault_of
    special_none kind (inl what) is left none = rw (at, what, is, left, none) refl
    special_none kind (inr what) is left none = rw (at, what, is, left, none) refl

    module _ (method : ℕ) (resolved : resolved_method s.world class entry ≡ Some method) where
      virtual_mentions : sought.what ≡ references.Method → mentions s.world class (instrs.Virtual entry) ≡ filter_map (if_code s.world) (called_on s.world sought.class method)
      unfolding mentions
      virtual_mentions what = rw (at, what, resolved) refl

      interface_mentions : sought.what ≡ references.InterfaceMethod
          → mentions s.world class (instrs.Interface entry) ≡ filter_map (if_code s.world) (called_on s.world sought.class method)
      unfolding mentions
      interface_mentions what = rw (at, what, resolved) refl

      static_mentions : IsMethod → mentions s.world class (instrs.Static entry) ≡ filter_map (if_code s.world) (Some method ∷ [])
      unfolding mentions
      static_mentions (inl what) = rw (at, what, resolved) refl
      static_mentions (inr what) = rw (at, what, resolved) refl

      special_mentions : (number : ℕ) → selected_special s.world class entry ≡ Some number → IsMethod
          → mentions s.world class (instrs.Special entry) ≡ filter_map (if_code s.world) (Some number ∷ [])
      unfolding mentions
      special_mentions number special (inl what) = rw (at, what, resolved, special) refl
      special_mentions number special (inr what) = rw (at, what, resolved, special) refl

  -- ---- what calls enter

  -- a method with code that an instruction mentions, where all those are reached
  enters : (class : ℕ) (instr : Instr) (found : List (Option ℕ)) (number : ℕ) → ((other : ℕ) → Has (mentions s.world class instr) other → Has reached other)
      → mentions s.world class instr ≡ filter_map (if_code s.world) found → Has found (Some number) → has_code_at s.world number ≡ true → IsReachedMethod (record { 0 = number })
  enters class instr found number more is has code =
      let method = code_there number code in
      record { has = more number (subst (λ (ns : List ℕ). Has ns number) (sym is) (mentioned found number has code)); method = method.0; there = method.1 }

  -- an instruction mentions what is called in place of the method that its entry names
  abbrev Selects : ℕ → ℕ → Instr → Type 0
  Selects class entry instr =
      (sought : Sought) (method : ℕ) → sought_at s.world class entry ≡ Some sought → resolved_method s.world class entry ≡ Some method
      → mentions s.world class instr ≡ filter_map (if_code s.world) (called_on s.world sought.class method)

  selects : (class entry : ℕ) (instr : Instr) → Selects class entry instr → ((other : ℕ) → Has (mentions s.world class instr) other → Has reached other)
      → Calls s IsRunType IsReachedMethod class entry BySelection
  selects class entry instr is more callee receiver number at of found code =
      let by = passed (λ (method : ℕ). selected_on s.world method receiver) (if receives s.world callee.class receiver then resolved_method s.world class entry else None) number found in
      let sought = passed callee_of (sought_at s.world class entry) callee at in
      let kind = mapped _ _ callee sought.2 in
      let classes : callee.class ≡ sought.0.class = ap (λ (c : Callee). c.class) (sym kind.2) in
      elim (chosen (receives s.world callee.class receiver) (resolved_method s.world class entry) None (Some by.0) by.1) [
        | inl fits ↦ elim of.selects [
          | inl has ↦ enters class instr (called_on s.world sought.0.class by.0) number more (is sought.0 by.0 sought.1 fits.1)
              (subst (λ (o : Option ℕ). Has (called_on s.world sought.0.class by.0) o) by.2
              (map_has (selected_on s.world by.0) (filter (receives s.world sought.0.class) s.world.universe) receiver
              (has_filtered (receives s.world sought.0.class) s.world.universe receiver has (subst (λ (t : ExactType). receives s.world t receiver ≡ true) classes fits.0)))) code
          | inr none ↦ absurd (none by.0 number by.2 code)
        ]
        | inr other ↦ absurd (none-some by.0 other.1)
      ]

  virtual_selects : (class entry : ℕ) → fault_of s.world class (instrs.Virtual entry) ≡ None → Selects class entry (instrs.Virtual entry)
  virtual_selects class entry none sought method at resolved =
      by_what class entry sought at
      (λ field. absurd (none-some method (sym (no_field class entry sought at field) ∙ sym (resolved_is class entry sought at) ∙ resolved)))
      (virtual_mentions class entry sought at method resolved) (λ interface. absurd (none-some _ (sym none ∙ virtual_fault class entry sought at interface)))

  interface_selects : (class entry : ℕ) → fault_of s.world class (instrs.Interface entry) ≡ None → Selects class entry (instrs.Interface entry)
  interface_selects class entry none sought method at resolved =
      by_what class entry sought at
      (λ field. absurd (none-some method (sym (no_field class entry sought at field) ∙ sym (resolved_is class entry sought at) ∙ resolved)))
      (λ plain. absurd (none-some _ (sym none ∙ interface_fault class entry sought at plain))) (interface_mentions class entry sought at method resolved)

  static_enters : (class entry : ℕ) → ((other : ℕ) → Has (mentions s.world class (instrs.Static entry)) other → Has reached other) → Calls s IsRunType IsReachedMethod class entry Static
  static_enters class entry more number resolved code =
      let found = passed (method_of_sought s.world) (sought_at s.world class entry) number resolved in
      let go : IsMethod class entry found.0 found.1 → IsReachedMethod (record { 0 = number }) = λ is.
      enters class (instrs.Static entry) (Some number ∷ []) number more (static_mentions class entry found.0 found.1 number resolved is) (has_first (Some number) []) code in
      by_what class entry found.0 found.1 (λ field. absurd (none-some number (sym (no_field class entry found.0 found.1 field) ∙ found.2))) (λ plain. go (inl plain)) (λ interface. go (inr interface))

  -- an invokespecial without fault names a method that is there
  special_resolves : (class entry : ℕ) (sought : Sought) (at : sought_at s.world class entry ≡ Some sought) → fault_of s.world class (instrs.Special entry) ≡ None → IsMethod class entry sought at
      → (method : ℕ) × (resolved_method s.world class entry ≡ Some method)
  special_resolves class entry sought at none is = go (resolved_method s.world class entry) refl
    where
      left : (kind : MethodType) → sought.member.kind ≡ kinds.Method kind → resolved_method s.world class entry ≡ None → (b : Bool) → has_left_out kind ≡ b → ⊥
      left kind e missing true out = none-some _ (sym none ∙ special_left_out class entry sought at kind is e out)
      left kind e missing false out = none-some _ (sym none ∙ special_none class entry sought at kind is e out missing)

      by_kind : (kind : MemberKind) → sought.member.kind ≡ kind → resolved_method s.world class entry ≡ None → ⊥
      by_kind (kinds.Field type) e missing = none-some _ (sym none ∙ special_field class entry sought at type is e)
      by_kind (kinds.Method kind) e missing = left kind e missing (has_left_out kind) refl

      go : (o : Option ℕ) → resolved_method s.world class entry ≡ o → (method : ℕ) × (resolved_method s.world class entry ≡ Some method)
      go None e = absurd (by_kind sought.member.kind refl e)
      go (Some method) e = (method, e)

  special_enters : (class entry : ℕ) → fault_of s.world class (instrs.Special entry) ≡ None
      → ((other : ℕ) → Has (mentions s.world class (instrs.Special entry)) other → Has reached other) → Calls s IsRunType IsReachedMethod class entry Special
  special_enters class entry none more number special code =
      let found = passed (special_of_sought s.world class) (sought_at s.world class entry) number special in
      let go : IsMethod class entry found.0 found.1 → IsReachedMethod (record { 0 = number }) = λ is.
      (let method = special_resolves class entry found.0 found.1 none is in
      enters class (instrs.Special entry) (Some number ∷ []) number more (special_mentions class entry found.0 found.1 method.0 method.1 number special is) (has_first (Some number) []) code) in
      by_what class entry found.0 found.1 (λ field. absurd (none-some number (sym (no_special class entry found.0 found.1 field) ∙ special))) (λ plain. go (inl plain)) (λ interface. go (inr interface))

  -- ---- instructions

  -- what an instruction without fault makes and calls, where all methods that it mentions are reached
  pub brought : (class : ℕ) (instr : Instr) → fault_of s.world class instr ≡ None → ((other : ℕ) → Has (mentions s.world class instr) other → Has reached other)
      → Brings s IsRunType IsReachedMethod class instr
  unfolding fault_of
  brought class (instrs.New entry) none more = λ name at.
      made_class name (subst (λ (o : Option ExactType). fault_of_new s.world o ≡ None) at none) (names.entries class entry (exact.Class name) at)
  brought class (instrs.NewPrim code) none more = λ component at. made_array component (array_of_code code component at)
  brought class (instrs.NewRefs entry) none more = λ component at. made_array component (array_of_entry class entry component none at)
  brought class (instrs.Virtual entry) none more = selects class entry (instrs.Virtual entry) (virtual_selects class entry none) more
  brought class (instrs.Interface entry) none more = selects class entry (instrs.Interface entry) (interface_selects class entry none) more
  brought class (instrs.Special entry) none more = special_enters class entry none more
  brought class (instrs.Static entry) none more = static_enters class entry more
  brought class _ none more = tt
