-- What is found once is found again.
use Rattle.std.proofs.Common.{◌≡◌, ℕ, Bool, true, false, true≢false, ◌==◌, cond, if◌then◌else◌, List, Option, Some, refl, sym, ap, subst, ◌∙◌}
use Rattle.std.specs.HashMap.{HashMap}
use Rattle.std.proofs.lemmas.Bool.Decides.{Decides-eqb}
use Rattle.std.proofs.lemmas.Option.{same_Some}
use Rattle.kb_names.specs.declared.types.ExactType.{ExactType}
use Rattle.kb_names.specs.declared.types.ExactType.TheVariants as exact
use Rattle.kb_names.specs.declared.types.MethodType.{MethodType}
use Rattle.kb_class.specs.Class.{Sought}
use Rattle.kb_class.specs.Loading.{SpellsExact, SpellsKind}
use Rattle.kb_class.specs.declared.entries.ReferenceKind.{ReferenceKind}
use Rattle.kb_class.specs.declared.entries.ReferenceKind.TheVariants as references
use Rattle.kb_class.specs.declared.members.MemberKind.{MemberKind}
use Rattle.kb_class.specs.declared.members.MemberKind.TheVariants as kinds
use Rattle.kb_class.proofs.Spellings.{one_exact, one_kind}
use Rattle.kb_numbers.specs.declared.pairs.EntryNumbers.{EntryNumbers}
use Rattle.kb_numbers.specs.Numbers.{HasTextAt, Names}
use Rattle.kb_numbers.specs.Pairs.{is_pair}
use Rattle.kb_numbers.proofs.NumberLaws.{method_type, one_name, one_type}
use Rattle.kb_numbers.proofs.PairLaws.{pair_is}
use Rattle.kb_link.proofs.MemberNames.{both_true}
use Rattle.kb_classes.specs.World.{World}
use Rattle.kb_resolution.specs.LeftOut.{has_left_out}
use Rattle.kb_resolution.specs.Lookup.{class_of}
use Rattle.kb_resolution.specs.Tables.{KnowsClasses, KnowsLeftOut, KnowsMembers, StandsFor, found_in, is_named, is_proper, nothing, told_in}
use Rattle.kb_resolution.specs.declared.resolved.Resolved.{Resolved}

-- ---- one text names one type

one_text : (texts : List (List ℕ)) (text : ℕ) (one other : ExactType) → HasTextAt texts text (SpellsExact one) → HasTextAt texts text (SpellsExact other) → one ≡ other
one_text texts text one other s t =
    let same : s.0 ≡ t.0 = same_Some s.0 t.0 (sym s.1 ∙ t.1) in
    one_exact one other t.0 (subst (SpellsExact one) same s.2) t.2

one_descriptor : (texts : List (List ℕ)) (text : ℕ) (one other : MethodType) → HasTextAt texts text (SpellsKind (kinds.Method one)) → HasTextAt texts text (SpellsKind (kinds.Method other)) → one ≡ other
one_descriptor texts text one other s t =
    let same : s.0 ≡ t.0 = same_Some s.0 t.0 (sym s.1 ∙ t.1) in
    method_type one other (one_kind (kinds.Method one) (kinds.Method other) t.0 (subst (SpellsKind (kinds.Method one)) same s.2) t.2)

-- ---- one more in a table

module _ {V : Type 0} (P : ℕ → V → Type 0) where
  -- what holds of all that a table has holds with one more
  more_told : {S : Type 0} (before after : HashMap ℕ V S) (key : ℕ) (value : V) → ((n : ℕ) → told_in after n ≡ cond (key == n) (Some value) (told_in before n))
      → ((n : ℕ) (v : V) → told_in before n ≡ Some v → P n v) → P key value → (n : ℕ) (v : V) → told_in after n ≡ Some v → P n v
  more_told before after key value put each one n v at = go (key == n) refl (put n)
    where
      go : (b : Bool) → (key == n) ≡ b → told_in after n ≡ cond b (Some value) (told_in before n) → P n v
      go true e now =
          let same : key ≡ n = (Decides-eqb key n).0 e in
          let values : value ≡ v = same_Some value v (sym now ∙ at) in
          subst (λ (u : V). P n u) values (subst (λ (m : ℕ). P m value) same one)
      go false e now = each n v (sym now ∙ at)

pub classes_more : {S : Type 0} (world : World) (texts : List (List ℕ)) (before after : HashMap ℕ (Option ℕ) S) (text : ℕ) (told : Option ℕ) (type : ExactType)
    → ((n : ℕ) → told_in after n ≡ cond (text == n) (Some told) (told_in before n)) → KnowsClasses world texts before → HasTextAt texts text (SpellsExact type) → told ≡ class_of world type
    → KnowsClasses world texts after
classes_more world texts before after text told type put knows spelled is =
    more_told (λ (n : ℕ) (v : Option ℕ). (other : ExactType) → HasTextAt texts n (SpellsExact other) → v ≡ class_of world other) before after text told put knows
    (λ other has. is ∙ ap (class_of world) (one_text texts text type other spelled has))

pub left_out_more : {S : Type 0} (texts : List (List ℕ)) (before after : HashMap ℕ Bool S) (text : ℕ) (told : Bool) (kind : MethodType)
    → ((n : ℕ) → told_in after n ≡ cond (text == n) (Some told) (told_in before n)) → KnowsLeftOut texts before → HasTextAt texts text (SpellsKind (kinds.Method kind)) → told ≡ has_left_out kind
    → KnowsLeftOut texts after
left_out_more texts before after text told kind put knows spelled is =
    more_told (λ (n : ℕ) (v : Bool). (other : MethodType) → HasTextAt texts n (SpellsKind (kinds.Method other)) → v ≡ has_left_out other) before after text told put knows
    (λ other has. is ∙ ap has_left_out (one_descriptor texts text kind other spelled has))

-- ---- what is sought

named_is : (one other : EntryNumbers) → is_named one other ≡ true → one ≡ other
named_is one other e =
    let both = both_true (one.class == other.class) (is_pair one.member other.member) e in
    let class : one.class ≡ other.class = (Decides-eqb one.class other.class).0 both.0 in
    let member : one.member ≡ other.member = pair_is one.member other.member both.1 in
    λ i. record { class = class i; member = member i }

module _ (world : World) (current : ℕ) where
  -- nothing stands for what an entry of another kind names
  pub nothing_stands : (what : ReferenceKind) (class : ExactType) (name : List ℕ) (kind : MemberKind) → is_proper what kind ≡ false
      → StandsFor world current (record { what = what; class = class; member = record { name = name; kind = kind } }) nothing
  nothing_stands references.Field class name (kinds.Field type) e = absurd (true≢false e)
  nothing_stands references.Field (exact.Class class) name (kinds.Method kind) e = record { is_declaring = refl; is_slot = refl; is_method = refl; is_special = refl; is_left_out = refl; is_owner = refl }
  nothing_stands references.Field (exact.Array component) name (kinds.Method kind) e = record { is_declaring = refl; is_slot = refl; is_method = refl; is_special = refl; is_left_out = refl; is_owner = refl }
  nothing_stands references.Method class name (kinds.Field type) e = record { is_declaring = refl; is_slot = refl; is_method = refl; is_special = refl; is_left_out = refl; is_owner = refl }
  nothing_stands references.Method class name (kinds.Method kind) e = absurd (true≢false e)
  nothing_stands references.InterfaceMethod class name (kinds.Field type) e = record { is_declaring = refl; is_slot = refl; is_method = refl; is_special = refl; is_left_out = refl; is_owner = refl }
  nothing_stands references.InterfaceMethod class name (kinds.Method kind) e = absurd (true≢false e)

  -- a Methodref and an InterfaceMethodref stand for the same
  other_stands : (one other : ReferenceKind) (class : ExactType) (name : List ℕ) (kind : MemberKind) (told : Resolved) → is_proper one kind ≡ true → is_proper other kind ≡ true
      → StandsFor world current (record { what = one; class = class; member = record { name = name; kind = kind } }) told
      → StandsFor world current (record { what = other; class = class; member = record { name = name; kind = kind } }) told
  other_stands references.Field references.Field class name kind told e f is = is
  other_stands references.Field references.Method class name (kinds.Field type) told e f is = absurd (true≢false (sym f))
  other_stands references.Field references.Method class name (kinds.Method kind) told e f is = absurd (true≢false (sym e))
  other_stands references.Field references.InterfaceMethod class name (kinds.Field type) told e f is = absurd (true≢false (sym f))
  other_stands references.Field references.InterfaceMethod class name (kinds.Method kind) told e f is = absurd (true≢false (sym e))
  other_stands references.Method references.Field class name (kinds.Field type) told e f is = absurd (true≢false (sym e))
  other_stands references.Method references.Field class name (kinds.Method kind) told e f is = absurd (true≢false (sym f))
  other_stands references.Method references.Method class name kind told e f is = is
  other_stands references.Method references.InterfaceMethod class name (kinds.Field type) told e f is = absurd (true≢false (sym e))
  other_stands references.Method references.InterfaceMethod class name (kinds.Method kind) told e f is =
      record { is_declaring = is.is_declaring; is_slot = is.is_slot; is_method = is.is_method; is_special = is.is_special; is_left_out = is.is_left_out; is_owner = is.is_owner }
  other_stands references.InterfaceMethod references.Field class name (kinds.Field type) told e f is = absurd (true≢false (sym e))
  other_stands references.InterfaceMethod references.Field class name (kinds.Method kind) told e f is = absurd (true≢false (sym f))
  other_stands references.InterfaceMethod references.Method class name (kinds.Field type) told e f is = absurd (true≢false (sym e))
  other_stands references.InterfaceMethod references.Method class name (kinds.Method kind) told e f is =
      record { is_declaring = is.is_declaring; is_slot = is.is_slot; is_method = is.is_method; is_special = is.is_special; is_left_out = is.is_left_out; is_owner = is.is_owner }
  other_stands references.InterfaceMethod references.InterfaceMethod class name kind told e f is = is

  -- what entries of the same numbers name stands for the same
  same_stands : (texts : List (List ℕ)) (named : EntryNumbers) (one other : Sought) (told : Resolved) → Names texts named one → Names texts named other → is_proper one.what one.member.kind ≡ true
      → is_proper other.what other.member.kind ≡ true → StandsFor world current one told → StandsFor world current other told
  same_stands texts named one other told names others e f is =
      let class : one.class ≡ other.class = one_text texts named.class one.class other.class names.class others.class in
      let name : one.member.name ≡ other.member.name = one_name texts named.member one.member.name other.member.name one.member.kind other.member.kind names.member others.member in
      let kind : one.member.kind ≡ other.member.kind = one_type texts named.member one.member.name other.member.name one.member.kind other.member.kind names.member others.member in
      let moved : StandsFor world current (record { what = one.what; class = other.class; member = record { name = other.member.name; kind = other.member.kind } }) told =
      subst (λ (s : Sought). StandsFor world current s told) (λ i. record { what = one.what; class = class i; member = record { name = name i; kind = kind i } }) is in
      other_stands one.what other.what other.class other.member.name other.member.kind told (ap (is_proper one.what) (sym kind) ∙ e) f moved

  pub members_more : {S : Type 0} (texts : List (List ℕ)) (before after : HashMap EntryNumbers Resolved S) (named : EntryNumbers) (told : Resolved) (sought : Sought)
      → ((other : EntryNumbers) → found_in after other ≡ (if is_named named other then Some told else found_in before other)) → KnowsMembers world current texts before → Names texts named sought
      → is_proper sought.what sought.member.kind ≡ true → StandsFor world current sought told → KnowsMembers world current texts after
  members_more texts before after named told sought put knows names proper stands n t at other others e = go (is_named named n) refl (put n)
    where
      go : (b : Bool) → is_named named n ≡ b → found_in after n ≡ (if b then Some told else found_in before n) → StandsFor world current other t
      go true f now =
          let same : named ≡ n = named_is named n f in
          let values : told ≡ t = same_Some told t (sym now ∙ at) in
          let here : Names texts named other = subst (λ (m : EntryNumbers). Names texts m other) (sym same) others in
          subst (λ (r : Resolved). StandsFor world current other r) values (same_stands texts named sought other told names here proper e stands)
      go false f now = knows n t (sym now ∙ at) other others e
