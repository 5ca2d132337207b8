-- The number of the first method of a pair is that of the first method of its name and type.
use Rattle.std.proofs.Common.{◌≡◌, ℕ, zero, suc, ◌<◌, true, List, [], ◌∷◌, length, Option, Some, slice_get, refl, sym, ap, ◌∙◌, arith}
use Rattle.std.specs.List.{AllZip}
use Rattle.std.specs.Option.{option_and_then}
use Rattle.std.specs.Str.{bytes_eq}
use Rattle.std.proofs.lemmas.Option.{slice_get_within}
use Rattle.std.proofs.lemmas.Slice.Eq.{bytes_eq-Decides}
use Rattle.kb_texts.specs.Texts.{AreDistinct}
use Rattle.kb_names.specs.declared.types.MethodType.{MethodType}
use Rattle.kb_class.specs.declared.members.MemberKind.TheVariants as kinds
use Rattle.kb_class.specs.declared.members.MethodInfo.{MethodInfo}
use Rattle.kb_numbers.specs.declared.numbering.Numbers.{Numbers}
use Rattle.kb_numbers.specs.declared.pairs.Pair.{Pair}
use Rattle.kb_numbers.specs.Members.{method_pairs}
use Rattle.kb_numbers.specs.Numbers.{AreNumbered, IsMethodPair}
use Rattle.kb_numbers.specs.Pairs.{is_pair, first_place, AreFirsts}
use Rattle.kb_numbers.proofs.MemberLaws.{pairs_beside}
use Rattle.kb_numbers.proofs.NumberLaws.{method_type, same_member, same_pair}
use Rattle.kb_numbers.proofs.PlaceLaws.{place_beside}
use Rattle.kb_numbers.proofs.ZipLaws.{zip_as, zip_from, zip_long}
use Rattle.kb_link.specs.Members.{place_where, same_kind}
use Rattle.kb_classes.specs.World.{World, methods_in}
use Rattle.kb_link.proofs.MemberNames.{and_true, kind_self}
use Rattle.kb_resolution.specs.Tables.{is_alike, HaveSignatures}
use Rattle.kb_resolution.proofs.SelectionLaws.{alike_is}
use Rattle.kb_classes.proofs.Walks.{same_test}

-- methods of one name and type are alike
alike_same : (method other : MethodInfo) → other.name ≡ method.name → other.kind ≡ method.kind → is_alike method.name method.kind other ≡ true
alike_same method other name kind =
    and_true (bytes_eq other.name method.name) (same_kind other.kind method.kind) ((bytes_eq-Decides other.name method.name).1 name) (sym (ap (λ (k : MethodType). same_kind other.kind k) kind) ∙ kind_self other.kind)

module _ (texts : List (List ℕ)) (distinct : AreDistinct texts) where
  -- two methods are alike where they have one pair
  alike : (method other : MethodInfo) (pair second : Pair) → IsMethodPair texts method pair → IsMethodPair texts other second → is_alike method.name method.kind other ≡ is_pair second pair
  alike method other pair second one two = same_test (is_alike method.name method.kind other) (is_pair second pair) to back
    where
      to : is_alike method.name method.kind other ≡ true → is_pair second pair ≡ true
      to e =
          let are = alike_is method.name method.kind other e in
          same_pair texts distinct second pair other.name method.name (kinds.Method other.kind) (kinds.Method method.kind) two one are.0 (ap (λ (k : MethodType). kinds.Method k) are.1)

      back : is_pair second pair ≡ true → is_alike method.name method.kind other ≡ true
      back e =
          let are = same_member texts second pair other.name method.name (kinds.Method other.kind) (kinds.Method method.kind) two one e in
          alike_same method other are.0 (method_type other.kind method.kind are.1)

  first_alike : (methods : List MethodInfo) (pairs : List Pair) (method : MethodInfo) (pair : Pair) → AllZip (IsMethodPair texts) methods pairs → IsMethodPair texts method pair
      → place_where (is_alike method.name method.kind) methods ≡ first_place pairs pair
  first_alike methods pairs method pair each one =
      place_beside (is_alike method.name method.kind) (λ (other : Pair). is_pair other pair) methods pairs
      (zip_as (IsMethodPair texts) (λ (m : MethodInfo) (p : Pair). is_alike method.name method.kind m ≡ is_pair p pair) methods pairs (λ m p is. alike method m pair p one is) each)

there_is : {A : Type 0} (xs : List A) (i : ℕ) → i < length xs → (x : A) × (slice_get xs i ≡ Some x)
there_is [] i inside = absurd (let no : ⊥ = omega (arith, inside) in no)
there_is (x ∷ xs) zero inside = (x, refl)
there_is (x ∷ xs) (suc i) inside = there_is xs i (omega (arith, inside))

pub have_signatures : (world : World) (numbers : Numbers) (firsts : List ℕ) → AreNumbered world.classes numbers → AreFirsts (method_pairs numbers.classes.items) firsts → HaveSignatures world firsts
have_signatures world numbers firsts are first = record {
  len = first.many ∙ zip_long (IsMethodPair numbers.texts) (methods_in world.classes) (method_pairs numbers.classes.items) beside;
  each = λ number signature at. (
      let within : number < length firsts = slice_get_within firsts number signature at in
      let pair = there_is (method_pairs numbers.classes.items) number (omega (arith, within, first.many)) in
      let method = zip_from (IsMethodPair numbers.texts) (methods_in world.classes) (method_pairs numbers.classes.items) number pair.0 beside pair.1 in
      let same = first_alike numbers.texts are.distinct (methods_in world.classes) (method_pairs numbers.classes.items) method.0 pair.0 beside method.2 in
      sym (ap (λ (o : Option MethodInfo). option_and_then (λ (m : MethodInfo). place_where (is_alike m.name m.kind) (methods_in world.classes)) o) method.1 ∙ same
      ∙ first.first number pair.0 signature pair.1 at)
      );
} where
  beside : AllZip (IsMethodPair numbers.texts) (methods_in world.classes) (method_pairs numbers.classes.items)
  beside = pairs_beside numbers.texts 0 world.classes numbers.classes.items are.each
