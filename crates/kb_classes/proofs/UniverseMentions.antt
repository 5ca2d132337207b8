-- The descriptors of the types that classes name.
use Rattle.std.proofs.Common.{◌≡◌, ◌↔◌, ℕ, ◌⊎◌, inl, inr, IsSome, List, [], ◌∷◌, ◌++◌, Option, Some, None, refl, sym, ap, subst, ◌∙◌}
use Rattle.std.proofs.lemmas.Bool.{true≢false}
use Rattle.kb_classfile.specs.declared.file.ClassFile.{ClassFile}
use Rattle.kb_names.specs.Shape.{Shape}
use Rattle.kb_names.specs.Types.{arrays_of}
use Rattle.kb_names.specs.Descriptors.{type_text}
use Rattle.kb_names.specs.declared.class_names.Spelling.TheVariants.{Raw}
use Rattle.kb_names.specs.declared.types.JType.{JType}
use Rattle.kb_names.specs.declared.types.JType.TheVariants as types
use Rattle.kb_names.specs.declared.types.ExactType.{ExactType}
use Rattle.kb_names.specs.declared.types.ExactType.TheVariants as exact
use Rattle.kb_names.specs.declared.types.MethodType.{MethodType}
use Rattle.kb_class.specs.declared.members.MemberKind.{MemberKind}
use Rattle.kb_class.specs.declared.members.MemberKind.TheVariants as kinds
use Rattle.kb_class.specs.Class.{Class, TypeEntry}
use Rattle.kb_class.specs.Naming.{Has, HasKind, HoldsType, Names, exact_of}
use Rattle.kb_classes.specs.Mentions.{AddsTexts, AnyOf, exact_text, IsTextOf, IsTextHeld, IsTextOfMethod, IsTextOfKind, IsTextNamed, IsTextGiven}
use Rattle.kb_classes.proofs.LiteralLaws.{adds_one, adds_none, adds_same, adds_both, any_has}
use Rattle.kb_classes.proofs.UniverseTexts.{part_text_is}

-- ---- one type

pub told : (before after : List (List ℕ)) (found : Option ExactType) (type : ExactType) → found ≡ Some type → after ≡ before ++ exact_text type ∷ [] → AddsTexts before after (IsTextOf found)
told before after found type e pushed = adds_same before after (λ t. t ≡ exact_text type) (IsTextOf found)
    (λ t. (λ same. (type, e, same), λ h. (let is : Some type ≡ Some h.0 = sym e ∙ h.1 in let same : h.0 ≡ type = cc in h.2 ∙ ap exact_text same))) (adds_one before after (exact_text type) pushed)

pub untold : (before : List (List ℕ)) (found : Option ExactType) → found ≡ None → AddsTexts before before (IsTextOf found)
untold before found e = adds_none before (IsTextOf found) (λ t h. (let is : None ≡ Some h.0 = sym e ∙ h.1 in absurd cc))

pub held_class : (before after : List (List ℕ)) (name : List ℕ) → after ≡ before ++ type_text Raw (types.Class name) ∷ [] → AddsTexts before after (IsTextHeld (types.Class name))
held_class before after name pushed = told before after (exact_of (types.Class name)) (exact.Class name) refl pushed

pub held_array : (before after : List (List ℕ)) (component : Shape) → after ≡ before ++ type_text Raw (types.Array component) ∷ [] → AddsTexts before after (IsTextHeld (types.Array component))
held_array before after component pushed =
    told before after (exact_of (types.Array component)) (exact.Array (arrays_of component.dims component.base)) refl
    (pushed ∙ ap (λ (t : List ℕ). before ++ t ∷ []) (sym (part_text_is component.dims component.base)))

-- a class or an array
pub held_object : (before after : List (List ℕ)) (held : JType) → ((name : List ℕ) × (held ≡ types.Class name)) ⊎ ((component : Shape) × (held ≡ types.Array component))
    → after ≡ before ++ type_text Raw held ∷ [] → AddsTexts before after (IsTextHeld held)
held_object before after held (inl h) pushed = subst (λ (of : JType). AddsTexts before after (IsTextHeld of)) (sym h.1) (held_class before after h.0 (pushed ∙ ap (λ (of : JType). before ++ type_text Raw of ∷ []) h.1))
held_object before after held (inr h) pushed = subst (λ (of : JType). AddsTexts before after (IsTextHeld of)) (sym h.1) (held_array before after h.0 (pushed ∙ ap (λ (of : JType). before ++ type_text Raw of ∷ []) h.1))

-- ---- what a descriptor holds

pub kind_field : (before after : List (List ℕ)) (found : Option MemberKind) (type : JType) → found ≡ Some (kinds.Field type) → AddsTexts before after (IsTextHeld type) → AddsTexts before after (IsTextOfKind found)
kind_field before after found type e adds = adds_same before after (IsTextHeld type) (IsTextOfKind found) (λ t. (λ h. (kinds.Field type, type, e, refl, h), λ h. back t h.0 h.1 (sym e ∙ h.2) h.3 h.4)) adds where
  back : (t : List ℕ) (kind : MemberKind) (held : JType) → Some (kinds.Field type) ≡ Some kind → HoldsType kind held → IsTextHeld held t → IsTextHeld type t
  back t (kinds.Field of) held is holds h = (let same : of ≡ type = cc in subst (λ (j : JType). IsTextHeld j t) (holds ∙ same) h)
  back t (kinds.Method of) held is holds h = absurd cc

pub kind_method : (before after : List (List ℕ)) (found : Option MemberKind) (method : MethodType) → found ≡ Some (kinds.Method method) → AddsTexts before after (IsTextOfMethod method) → AddsTexts before after (IsTextOfKind found)
kind_method before after found method e adds = adds_same before after (IsTextOfMethod method) (IsTextOfKind found) (λ t. (λ h. there t h, λ h. back t h.0 h.1 (sym e ∙ h.2) h.3 h.4)) adds where
  there : (t : List ℕ) → IsTextOfMethod method t → IsTextOfKind found t
  there t (inl any) = (let h : (held : JType) × Has method.params held × IsTextHeld held t = (any_has IsTextHeld method.params t).0 any in (kinds.Method method, h.0, e, inl h.1, h.2))
  there t (inr h) = (kinds.Method method, h.0, e, inr h.1, h.2)

  whole : (t : List ℕ) (held : JType) → HoldsType (kinds.Method method) held → IsTextHeld held t → IsTextOfMethod method t
  whole t held (inl has) h = inl ((any_has IsTextHeld method.params t).1 (held, has, h))
  whole t held (inr is) h = inr (held, is, h)

  back : (t : List ℕ) (kind : MemberKind) (held : JType) → Some (kinds.Method method) ≡ Some kind → HoldsType kind held → IsTextHeld held t → IsTextOfMethod method t
  back t (kinds.Field of) held is holds h = absurd cc
  back t (kinds.Method of) held is holds h = (let same : of ≡ method = cc in whole t held (subst (λ (m : MethodType). HoldsType (kinds.Method m) held) same holds) h)

pub kind_none : (before : List (List ℕ)) (found : Option MemberKind) → found ≡ None → AddsTexts before before (IsTextOfKind found)
kind_none before found e = adds_none before (IsTextOfKind found) (λ t h. (let is : None ≡ Some h.0 = sym e ∙ h.2 in absurd cc))

pub method_with : (before middle after : List (List ℕ)) (method : MethodType) (returned : JType) → method.result ≡ Some returned
    → AddsTexts before middle (AnyOf IsTextHeld method.params) → AddsTexts middle after (IsTextHeld returned) → AddsTexts before after (IsTextOfMethod method)
method_with before middle after method returned e first second =
    adds_both before middle after (AnyOf IsTextHeld method.params) (IsTextHeld returned) (IsTextOfMethod method)
    (λ t. (λ h. elim h [ inl any ↦ inl any | inr r ↦ inr (same t r.0 (sym e ∙ r.1) r.2) ], λ h. elim h [ inl any ↦ inl any | inr r ↦ inr (returned, e, r) ])) first second
  where
    same : (t : List ℕ) (held : JType) → Some returned ≡ Some held → IsTextHeld held t → IsTextHeld returned t
    same t held is h = (let one : held ≡ returned = cc in subst (λ (j : JType). IsTextHeld j t) one h)

pub method_without : (before after : List (List ℕ)) (method : MethodType) → method.result ≡ None → AddsTexts before after (AnyOf IsTextHeld method.params) → AddsTexts before after (IsTextOfMethod method)
method_without before after method e adds = adds_same before after (AnyOf IsTextHeld method.params) (IsTextOfMethod method)
    (λ t. (λ any. inl any, λ h. elim h [ inl any ↦ any | inr r ↦ absurd (none r.0 (sym e ∙ r.1)) ])) adds
  where
    none : (held : JType) → None ≡ Some held → ⊥
    none held is = absurd cc

-- ---- what a class names

pub named_both : (before middle after : List (List ℕ)) (class : Class) (types : List (Option ExactType)) (descriptors : List (Option MemberKind))
    → ((type : ExactType) → Has types (Some type) ↔ Has class.entries (TypeEntry type)) → ((kind : MemberKind) → Has descriptors (Some kind) ↔ HasKind class kind)
    → AddsTexts before middle (AnyOf IsTextOf types) → AddsTexts middle after (AnyOf IsTextOfKind descriptors) → AddsTexts before after (IsTextNamed class)
named_both before middle after class types descriptors named described first second =
    adds_both before middle after (AnyOf IsTextOf types) (AnyOf IsTextOfKind descriptors) (IsTextNamed class) (λ t. (λ h. there t h.0 h.1 h.2, λ h. elim h [ inl any ↦ of_type t any | inr any ↦ of_kind t any ])) first second
  where
    there : (t : List ℕ) (type : ExactType) → Names class type → t ≡ exact_text type → AnyOf IsTextOf types t ⊎ AnyOf IsTextOfKind descriptors t
    there t type (inl has) is = inl ((any_has IsTextOf types t).1 (Some type, (named type).1 has, (type, refl, is)))
    there t type (inr h) is = inr ((any_has IsTextOfKind descriptors t).1 (Some h.0, (described h.0).1 h.2, (h.0, h.1, refl, h.3, (type, h.4, is))))

    of_type : (t : List ℕ) → AnyOf IsTextOf types t → IsTextNamed class t
    of_type t any =
        let h : (found : Option ExactType) × Has types found × IsTextOf found t = (any_has IsTextOf types t).0 any in
        (h.2.0, inl ((named h.2.0).0 (subst (Has types) h.2.1 h.1)), h.2.2)

    of_kind : (t : List ℕ) → AnyOf IsTextOfKind descriptors t → IsTextNamed class t
    of_kind t any =
        let h : (found : Option MemberKind) × Has descriptors found × IsTextOfKind found t = (any_has IsTextOfKind descriptors t).0 any in
        let kind : MemberKind = h.2.0 in
        let held : JType = h.2.1 in
        (h.2.4.0, inr (kind, held, (described kind).0 (subst (Has descriptors) h.2.2 h.1), h.2.3, h.2.4.1), h.2.4.2)

pub given_some : (before after : List (List ℕ)) (class : Class) → IsSome class.file → AddsTexts before after (IsTextNamed class) → AddsTexts before after (IsTextGiven class)
given_some before after class some adds = adds_same before after (IsTextNamed class) (IsTextGiven class) (λ t. (λ h. (some, h), λ h. h.1)) adds

pub given_none : (before : List (List ℕ)) (class : Class) → class.file ≡ None → AddsTexts before before (IsTextGiven class)
given_none before class none = adds_none before (IsTextGiven class) (λ t h. no_file (subst IsSome none h.0)) where
  no_file : IsSome {T = ClassFile} None → ⊥
  no_file some = true≢false (sym some)
