-- The methods of classes by their pairs of numbers.
use Rattle.std.proofs.Common.{◌≡◌, ℕ, ◌+◌, ◌≤◌, inl, inr, List, length, Option, Some, None, IfSome, IfNone, slice_get, refl, sym, ap, subst, ◌∙◌, arith}
use Rattle.std.specs.Option.{option_map, option_and_then}
use Rattle.std.proofs.lemmas.Option.{same_Some, none-some, slice_get_cases, slice_get_past}
use Rattle.kb_names.specs.declared.types.MethodType.{MethodType}
use Rattle.kb_class.specs.Class.{Class}
use Rattle.kb_class.specs.declared.members.MemberKind.TheVariants as kinds
use Rattle.kb_numbers.specs.declared.numbering.Numbers.{Numbers}
use Rattle.kb_numbers.specs.declared.pairs.Pair.{Pair}
use Rattle.kb_numbers.specs.Members.{MemberNumbers, method_pairs, method_place, method_number}
use Rattle.kb_numbers.specs.Numbers.{StandsFor, IsMethodPair, IsPairOf, AreNumbered}
use Rattle.kb_numbers.specs.Pairs.{first_place}
use Rattle.kb_numbers.specs.Typed.{IsTyped, IsTypedMethod}
use Rattle.kb_numbers.proofs.MemberLaws.{numbered_long, method_here, no_method_here, number_by_place, pairs_beside}
use Rattle.kb_numbers.proofs.TypedLaws.{typed_spelled}
use Rattle.kb_numbers.proofs.ZipLaws.{zip_there}
use Rattle.kb_link.specs.Members.{declared_method}
use Rattle.kb_classes.specs.Rules.{HaveOwnMethods}
use Rattle.kb_link.specs.Tables.{IsNumberOf}
use Rattle.kb_classes.specs.World.{methods_in}
use Rattle.kb_link.proofs.MemberNames.{declared_there, declared_told}
use Rattle.kb_classes.proofs.MethodNumbers.{methods_before, number_of_place}

module _ (classes : List Class) (numbers : Numbers) (are : AreNumbered classes numbers) (own : HaveOwnMethods classes) where
  -- a number that is no class's has no methods
  no_class : (number : ℕ) (pair : Pair) → slice_get classes number ≡ None → length classes ≤ number → method_number numbers.classes.items number pair ≡ None
  no_class number pair none past =
      let long : length numbers.classes.items ≡ length classes = numbered_long numbers.texts 0 classes numbers.classes.items are.each in
      let beyond : slice_get numbers.classes.items number ≡ None = slice_get_past numbers.classes.items number (omega (arith, past, long)) in
      ap (λ (o : Option MemberNumbers). option_and_then (λ (n : MemberNumbers). option_map (λ (place : ℕ). n.first + place) (first_place n.methods pair)) o) beyond

  module _ (number : ℕ) (pair : Pair) (name : List ℕ) (kind : MethodType) (stands : StandsFor numbers.texts pair name (kinds.Method kind)) where
    -- the method that has a number by its pair
    number_is : (class : Class) → slice_get classes number ≡ Some class → (id : ℕ) → method_number numbers.classes.items number pair ≡ Some id → IsNumberOf classes number name kind id
    number_is class at id e = go (method_place numbers.classes.items number pair) refl
      where
        by : method_number numbers.classes.items number pair ≡ option_map (λ (place : ℕ). methods_before classes number + place) (method_place numbers.classes.items number pair)
        by = number_by_place classes numbers are number class at pair

        go : (o : Option ℕ) → method_place numbers.classes.items number pair ≡ o → IsNumberOf classes number name kind id
        go None f = absurd (none-some id (sym (by ∙ ap (λ (o : Option ℕ). option_map (λ (place : ℕ). methods_before classes number + place) o) f) ∙ e))
        go (Some place) f =
            let same : methods_before classes number + place ≡ id =
            same_Some (methods_before classes number + place) id (sym (by ∙ ap (λ (o : Option ℕ). option_map (λ (place : ℕ). methods_before classes number + place) o) f) ∙ e) in
            let here = method_here classes numbers are number class at pair name kind stands place f in
            record {
              declaring = class;
              class_is = at;
              place = place;
              stands = record { method = here.method; there = here.there; named = here.named; typed = here.typed };
              there = subst (λ (n : ℕ). slice_get (methods_in classes) n ≡ Some here.method) same (number_of_place classes number place class here.method at here.there);
            }

    -- where no method has a number by it, the class declares none
    no_number : (class : Class) → slice_get classes number ≡ Some class → method_number numbers.classes.items number pair ≡ None → (id : ℕ) → IsNumberOf classes number name kind id → ⊥
    no_number class at e id is = go (method_place numbers.classes.items number pair) refl
      where
        by : method_number numbers.classes.items number pair ≡ option_map (λ (place : ℕ). methods_before classes number + place) (method_place numbers.classes.items number pair)
        by = number_by_place classes numbers are number class at pair

        same : is.declaring ≡ class
        same = same_Some is.declaring class (sym is.class_is ∙ at)

        go : (o : Option ℕ) → method_place numbers.classes.items number pair ≡ o → ⊥
        go None f =
            no_method_here classes numbers are number class at pair name kind stands f is.place
            (record { method = is.stands.method; there = ap (λ (c : Class). slice_get c.methods is.place) (sym same) ∙ is.stands.there; named = is.stands.named; typed = is.stands.typed })
        go (Some place) f =
            none-some (methods_before classes number + place) (sym e ∙ (by ∙ ap (λ (o : Option ℕ). option_map (λ (p : ℕ). methods_before classes number + p) o) f))

    some_told : (o : Option ℕ) → method_number numbers.classes.items number pair ≡ o → IfSome o (IsNumberOf classes number name kind)
    some_told None e = tt
    some_told (Some id) e =
        elim (slice_get_cases classes number).1 [
          | inl h ↦ number_is h.0 h.2 id e
          | inr h ↦ absurd (none-some id (sym (no_class number pair h.1 h.0) ∙ e))
        ]

    none_told : (o : Option ℕ) → method_number numbers.classes.items number pair ≡ o → IfNone o ((id : ℕ) → IsNumberOf classes number name kind id → ⊥)
    none_told (Some id) e = tt
    none_told None e = λ id is. no_number is.declaring is.class_is e id is

    -- the method of the name and type that the class declares
    pub declared_by_pair : method_number numbers.classes.items number pair ≡ declared_method classes number name kind
    declared_by_pair =
        declared_told classes own number name kind (method_number numbers.classes.items number pair) (some_told (method_number numbers.classes.items number pair) refl)
        (none_told (method_number numbers.classes.items number pair) refl)

  -- the method that has a number by the pair of a name and a type
  pub number_by_pair : (number : ℕ) (pair : Pair) (name : List ℕ) (kind : MethodType) (id : ℕ) → IsPairOf numbers name kind pair → method_number numbers.classes.items number pair ≡ Some id
      → IsNumberOf classes number name kind id
  number_by_pair number pair name kind id is e =
      some_told number pair name kind (record { named = is.0; typed = typed_spelled numbers.texts numbers.types kind pair.kind are.ends is.1 }) (Some id) e

  -- the pair of a method that a class declares
  pub pair_of_number : (number : ℕ) (name : List ℕ) (kind : MethodType) (id : ℕ) → IsNumberOf classes number name kind id
      → (pair : Pair) × StandsFor numbers.texts pair name (kinds.Method kind) × (method_number numbers.classes.items number pair ≡ Some id) × IsTyped numbers.texts numbers.types kind pair.kind
  pair_of_number number name kind id is =
      let beside = zip_there (IsMethodPair numbers.texts) (methods_in classes) (method_pairs numbers.classes.items) id is.stands.method (pairs_beside numbers.texts 0 classes numbers.classes.items are.each) is.there in
      let typed = zip_there (IsTypedMethod numbers.texts numbers.types) (methods_in classes) (method_pairs numbers.classes.items) id is.stands.method are.typed is.there in
      let same : typed.0 ≡ beside.0 = same_Some typed.0 beside.0 (sym typed.1 ∙ beside.1) in
      let told : IsTyped numbers.texts numbers.types is.stands.method.kind beside.0.kind = subst (λ (p : Pair). IsTyped numbers.texts numbers.types is.stands.method.kind p.kind) same typed.2 in
      let named : StandsFor numbers.texts beside.0 name (kinds.Method is.stands.method.kind) = subst (λ (n : List ℕ). StandsFor numbers.texts beside.0 n (kinds.Method is.stands.method.kind)) is.stands.named beside.2 in
      let stands : StandsFor numbers.texts beside.0 name (kinds.Method kind) = subst (λ (k : MethodType). StandsFor numbers.texts beside.0 name (kinds.Method k)) is.stands.typed named in (
        beside.0,
        stands,
        declared_by_pair number beside.0 name kind stands ∙ declared_there classes own number name kind id is,
        subst (λ (k : MethodType). IsTyped numbers.texts numbers.types k beside.0.kind) is.stands.typed told,
      )
