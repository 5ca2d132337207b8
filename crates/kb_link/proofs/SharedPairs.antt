-- Methods of a package that are shared, by the pairs of their names and types.
use Rattle.std.proofs.Common.{◌≡◌, ◌↔◌, ℕ, ◌||◌, zero, suc, Bool, true, false, true≢false, List, [], ◌∷◌, Option, Some, None, IsTrue, slice_get, refl, sym, ap, subst, ◌∙◌}
use Rattle.std.specs.List.{AllZip, list_any}
use Rattle.std.specs.Option.{option_map_or}
use Rattle.std.proofs.lemmas.Option.{same_Some, none-some}
use Rattle.kb_class.specs.Class.{Class}
use Rattle.kb_class.specs.declared.members.MethodInfo.{MethodInfo}
use Rattle.kb_numbers.specs.declared.numbering.Numbers.{Numbers}
use Rattle.kb_numbers.specs.declared.pairs.Pair.{Pair}
use Rattle.kb_numbers.specs.Members.{MemberNumbers, method_place, methods_at, own_methods}
use Rattle.kb_numbers.specs.Numbers.{IsMethodPair, AreNumbered}
use Rattle.kb_numbers.proofs.MemberLaws.{own_numbers, method_here, no_method_here}
use Rattle.kb_classes.specs.Rules.{HaveOwnMethods}
use Rattle.kb_link.specs.Sharing.{SharesMethod, SharesAbove, shares_at, shares_in}
use Rattle.kb_classes.specs.Split.{is_of_package}

module _ (classes : List Class) (numbers : Numbers) (are : AreNumbered classes numbers) (own : HaveOwnMethods classes) where
  -- the pairs of a class's methods stand beside them
  pub pairs_of : (number : ℕ) (class : Class) → slice_get classes number ≡ Some class → AllZip (IsMethodPair numbers.texts) class.methods (methods_at numbers.classes.items number)
  pairs_of number class at =
      let found = own_numbers classes numbers are number class at in
      subst (λ (o : Option MemberNumbers). AllZip (IsMethodPair numbers.texts) class.methods (own_methods o)) (sym found.there) found.is.numbers.each_method

  -- ---- methods that are shared

  module _ (number : ℕ) (class : Class) (at : slice_get classes number ≡ Some class) (method : MethodInfo) (pair : Pair) (stands : IsMethodPair numbers.texts method pair) where
    shares_there : (o : Option ℕ) → method_place numbers.classes.items number pair ≡ o → shares_at class.methods o ≡ true → SharesMethod classes method number
    shares_there None e yields = absurd (true≢false (sym yields))
    shares_there (Some place) e yields =
        let here = method_here classes numbers are number class at pair method.name method.kind stands place e in
        let such : is_of_package here.method ≡ true = sym (ap (λ (o : Option MethodInfo). option_map_or is_of_package o false) here.there) ∙ yields in
        record {
          class = class;
          class_is = at;
          shares = record { other = here.method; declared = (place, here.there); of_package = such; name = here.named; kind = here.typed };
        }

    there_shares : (o : Option ℕ) → method_place numbers.classes.items number pair ≡ o → SharesMethod classes method number → shares_at class.methods o ≡ true
    there_shares None e shares =
        let same : shares.class ≡ class = same_Some shares.class class (sym shares.class_is ∙ at) in
        let there : slice_get class.methods shares.shares.declared.0 ≡ Some shares.shares.other = ap (λ (c : Class). slice_get c.methods shares.shares.declared.0) (sym same) ∙ shares.shares.declared.1 in
        absurd (no_method_here classes numbers are number class at pair method.name method.kind stands e shares.shares.declared.0
        (record { method = shares.shares.other; there = there; named = shares.shares.name; typed = shares.shares.kind }))
    there_shares (Some place) e shares =
        let same : shares.class ≡ class = same_Some shares.class class (sym shares.class_is ∙ at) in
        let there : slice_get class.methods shares.shares.declared.0 ≡ Some shares.shares.other = ap (λ (c : Class). slice_get c.methods shares.shares.declared.0) (sym same) ∙ shares.shares.declared.1 in
        let here = method_here classes numbers are number class at pair method.name method.kind stands place e in
        let places : place ≡ shares.shares.declared.0 =
        own.differ class place shares.shares.declared.0 here.method shares.shares.other (number, at) here.there there (here.named ∙ sym shares.shares.name) (here.typed ∙ sym shares.shares.kind) in
        ap (λ (p : ℕ). shares_at class.methods (Some p)) places ∙ ap (λ (o : Option MethodInfo). option_map_or is_of_package o false) there ∙ shares.shares.of_package

    shares_told : (told : Option ℕ) → told ≡ method_place numbers.classes.items number pair → IsTrue (shares_at class.methods told) ↔ SharesMethod classes method number
    shares_told told is = (λ yields. shares_there told (sym is) yields, λ shares. there_shares told (sym is) shares)

  -- ---- one of several classes shares it

  module _ (method : MethodInfo) (pair : Pair) (stands : IsMethodPair numbers.texts method pair) where
    in_told : (number : ℕ) → (shares_in classes numbers.classes.items pair number ≡ true) ↔ SharesMethod classes method number
    in_told number = go (slice_get classes number) refl
      where
        go : (o : Option Class) → slice_get classes number ≡ o → (shares_in classes numbers.classes.items pair number ≡ true) ↔ SharesMethod classes method number
        go None at =
            let is : shares_in classes numbers.classes.items pair number ≡ false =
            ap (λ (o : Option Class). option_map_or (λ (class : Class). shares_at class.methods (method_place numbers.classes.items number pair)) o false) at in
            ((λ t. absurd (true≢false (sym t ∙ is))), (λ shares. absurd (none-some shares.class (sym at ∙ shares.class_is))))
        go (Some class) at =
            let is : shares_in classes numbers.classes.items pair number ≡ shares_at class.methods (method_place numbers.classes.items number pair) =
            ap (λ (o : Option Class). option_map_or (λ (k : Class). shares_at k.methods (method_place numbers.classes.items number pair)) o false) at in
            let told = shares_told number class at method pair stands (method_place numbers.classes.items number pair) refl in
            ((λ t. told.0 (sym is ∙ t)), (λ shares. is ∙ told.1 shares))

    any_to : (above : List ℕ) → list_any (shares_in classes numbers.classes.items pair) above ≡ true → SharesAbove classes above method
    any_to [] e = absurd (true≢false (sym e))
    any_to (n ∷ above) e = go (λ h. any_to above h) (shares_in classes numbers.classes.items pair n) refl
      where
        go : (list_any (shares_in classes numbers.classes.items pair) above ≡ true → SharesAbove classes above method) → (b : Bool) → shares_in classes numbers.classes.items pair n ≡ b → SharesAbove classes (n ∷ above) method
        go later true f = (n, (0, refl), (in_told n).0 f)
        go later false f =
            let rest = later (sym (ap (λ (b : Bool). b || list_any (shares_in classes numbers.classes.items pair) above) f) ∙ e) in
            (rest.0, (suc rest.1.0, rest.1.1), rest.2)

    any_from : (above : List ℕ) → SharesAbove classes above method → list_any (shares_in classes numbers.classes.items pair) above ≡ true
    any_from [] shares = absurd (none-some shares.0 shares.1.1)
    any_from (n ∷ above) shares = go (λ p at. any_from above (shares.0, (p, at), shares.2)) shares.1.0 shares.1.1
      where
        or_true : (b : Bool) → (b || true) ≡ true
        or_true true = refl
        or_true false = refl

        go : ((p : ℕ) → slice_get above p ≡ Some shares.0 → list_any (shares_in classes numbers.classes.items pair) above ≡ true) → (place : ℕ) → slice_get (n ∷ above) place ≡ Some shares.0
            → list_any (shares_in classes numbers.classes.items pair) (n ∷ above) ≡ true
        go later zero at =
            let same : shares.0 ≡ n = sym (same_Some n shares.0 at) in
            let here : shares_in classes numbers.classes.items pair n ≡ true = ap (shares_in classes numbers.classes.items pair) (sym same) ∙ (in_told shares.0).1 shares.2 in
            ap (λ (b : Bool). b || list_any (shares_in classes numbers.classes.items pair) above) here
        go later (suc place) at = ap (λ (b : Bool). shares_in classes numbers.classes.items pair n || b) (later place at) ∙ or_true (shares_in classes numbers.classes.items pair n)

    pub any_shares : (above : List ℕ) → (list_any (shares_in classes numbers.classes.items pair) above ≡ true) ↔ SharesAbove classes above method
    any_shares above = ((λ t. any_to above t), (λ shares. any_from above shares))
