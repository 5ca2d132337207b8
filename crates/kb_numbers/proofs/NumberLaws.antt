-- A pair stands for one name and type, and these have one pair, also while texts are added.
use Rattle.std.proofs.Common.{◌≡◌, ℕ, ◌+◌, true, List, [], ◌∷◌, length, Some, sym, ap, subst, ◌∙◌}
use Rattle.std.proofs.lemmas.Option.{same_Some}
use Rattle.kb_names.specs.declared.types.MethodType.{MethodType}
use Rattle.kb_names.specs.declared.types.JType.{JType}
use Rattle.kb_texts.specs.Texts.{AreDistinct, Keeps}
use Rattle.kb_class.specs.Class.{Class, Sought}
use Rattle.kb_class.specs.Loading.{SpellsKind, SpellsExact}
use Rattle.kb_class.specs.declared.members.MemberKind.{MemberKind}
use Rattle.kb_class.specs.declared.members.MemberKind.TheVariants as kinds
use Rattle.kb_class.proofs.Spellings.{one_kind}
use Rattle.kb_numbers.specs.declared.pairs.Pair.{Pair}
use Rattle.kb_numbers.specs.declared.pairs.EntryNumbers.{EntryNumbers}
use Rattle.kb_numbers.specs.Members.{MemberNumbers}
use Rattle.kb_numbers.specs.Numbers.{HasTextAt, StandsFor, IsMethodPair, IsFieldPair, Names, AreNumbers, IsNumbered, AreNumberedFrom}
use Rattle.kb_numbers.specs.Pairs.{is_pair}
use Rattle.kb_numbers.proofs.PairLaws.{pair_is, pair_same}
use Rattle.kb_numbers.proofs.ZipLaws.{zip_as}

-- ---- more texts

pub keeps_self : (texts : List (List ℕ)) → Keeps texts texts
keeps_self texts place x at = at

pub keeps_both : (first second third : List (List ℕ)) → Keeps first second → Keeps second third → Keeps first third
keeps_both first second third one two place x at = two place x (one place x at)

module _ (before after : List (List ℕ)) (keeps : Keeps before after) where
  pub text_on : (number : ℕ) (Is : List ℕ → Type 0) → HasTextAt before number Is → HasTextAt after number Is
  text_on number Is has = (has.0, keeps number has.0 has.1, has.2)

  pub stands_on : (pair : Pair) (name : List ℕ) (kind : MemberKind) → StandsFor before pair name kind → StandsFor after pair name kind
  stands_on pair name kind stands = record { named = keeps pair.name name stands.named; typed = text_on pair.kind (SpellsKind kind) stands.typed }

  names_on : (told : EntryNumbers) (sought : Sought) → Names before told sought → Names after told sought
  names_on told sought names = record {
    class = text_on told.class (SpellsExact sought.class) names.class;
    member = stands_on told.member sought.member.name sought.member.kind names.member;
  }

  numbers_on : (class : Class) (own : MemberNumbers) → AreNumbers before class own → AreNumbers after class own
  numbers_on class own are = record {
    each_method = zip_as (IsMethodPair before) (IsMethodPair after) class.methods own.methods (λ method pair is. stands_on pair method.name (kinds.Method method.kind) is) are.each_method;
    each_field = zip_as (IsFieldPair before) (IsFieldPair after) class.fields own.fields (λ field pair is. stands_on pair field.name (kinds.Field field.kind) is) are.each_field;
    each_entry = λ entry sought at. (let found = are.each_entry entry sought at in (found.0, found.1, names_on found.0 sought found.2));
  }

  numbered_on : (first : ℕ) (class : Class) (own : MemberNumbers) → IsNumbered before first class own → IsNumbered after first class own
  numbered_on first class own is = record { first_is = is.first_is; numbers = numbers_on class own is.numbers }

  pub all_numbered_on : (first : ℕ) (classes : List Class) (numbers : List MemberNumbers) → AreNumberedFrom before first classes numbers → AreNumberedFrom after first classes numbers
  all_numbered_on first [] [] are = tt
  all_numbered_on first [] (n ∷ numbers) are = absurd are
  all_numbered_on first (c ∷ classes) [] are = absurd are
  all_numbered_on first (c ∷ classes) (n ∷ numbers) are = (numbered_on first c n are.0, all_numbered_on (first + length c.methods) classes numbers are.1)

-- ---- one pair

-- a type has one descriptor
pub one_text : (kind : MemberKind) (one other : List ℕ) → SpellsKind kind one → SpellsKind kind other → one ≡ other
one_text (kinds.Field type) one other s t = s.1 ∙ sym t.1
one_text (kinds.Method kind) one other s t = s.1 ∙ sym t.1

module _ (texts : List (List ℕ)) where
  -- one name and type have one pair
  pub one_pair : AreDistinct texts → (one other : Pair) (name : List ℕ) (kind : MemberKind) → StandsFor texts one name kind → StandsFor texts other name kind → one ≡ other
  one_pair distinct one other name kind s t =
      let names : one.name ≡ other.name = distinct one.name other.name name s.named t.named in
      let same : s.typed.0 ≡ t.typed.0 = one_text kind s.typed.0 t.typed.0 s.typed.2 t.typed.2 in
      let types : one.kind ≡ other.kind = distinct one.kind other.kind s.typed.0 s.typed.1 (t.typed.1 ∙ ap (λ (x : List ℕ). Some x) (sym same)) in
      λ i. record { name = names i; kind = types i }

  -- and a pair stands for one name and type
  pub one_name : (pair : Pair) (name other : List ℕ) (kind second : MemberKind) → StandsFor texts pair name kind → StandsFor texts pair other second → name ≡ other
  one_name pair name other kind second s t = same_Some name other (sym s.named ∙ t.named)

  pub one_type : (pair : Pair) (name other : List ℕ) (kind second : MemberKind) → StandsFor texts pair name kind → StandsFor texts pair other second → kind ≡ second
  one_type pair name other kind second s t =
      let same : s.typed.0 ≡ t.typed.0 = same_Some s.typed.0 t.typed.0 (sym s.typed.1 ∙ t.typed.1) in
      one_kind kind second t.typed.0 (subst (SpellsKind kind) same s.typed.2) t.typed.2

  -- two pairs are one where they stand for one name and type
  pub same_member : (one other : Pair) (name second : List ℕ) (kind last : MemberKind) → StandsFor texts one name kind → StandsFor texts other second last → is_pair one other ≡ true
      → (name ≡ second) × (kind ≡ last)
  same_member one other name second kind last s t e =
      let same : one ≡ other = pair_is one other e in
      let here : StandsFor texts other name kind = subst (λ (p : Pair). StandsFor texts p name kind) same s in
      (one_name other name second kind last here t, one_type other name second kind last here t)

  pub same_pair : AreDistinct texts → (one other : Pair) (name second : List ℕ) (kind last : MemberKind) → StandsFor texts one name kind → StandsFor texts other second last → name ≡ second → kind ≡ last
      → is_pair one other ≡ true
  same_pair distinct one other name second kind last s t names types =
      let named : StandsFor texts one second kind = subst (λ (n : List ℕ). StandsFor texts one n kind) names s in
      let here : StandsFor texts one second last = subst (λ (k : MemberKind). StandsFor texts one second k) types named in
      pair_same one other (one_pair distinct one other second last here t)

-- ---- what two members are

pub method_type : (one other : MethodType) → kinds.Method one ≡ kinds.Method other → one ≡ other
method_type one other e = ap type_in e
  where
    type_in : MemberKind → MethodType
    type_in (kinds.Field type) = one
    type_in (kinds.Method kind) = kind

pub field_type : (one other : JType) → kinds.Field one ≡ kinds.Field other → one ≡ other
field_type one other e = ap type_in e
  where
    type_in : MemberKind → JType
    type_in (kinds.Field type) = type
    type_in (kinds.Method kind) = one
