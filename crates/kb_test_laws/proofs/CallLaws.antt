-- Classes of the platform have no code to call: an object of such a class, or an array, selects no method with code. So whatever a call
-- enters is a method that the method of the call mentions.
use Rattle.std.proofs.Common.{◌≡◌, ℕ, inl, inr, Bool, true, false, is_some, List, [], ◌∷◌, Option, Some, None, slice_get, refl, sym, ap, subst, ◌∙◌}
use Rattle.std.specs.Option.{option_map_or}
use Rattle.std.proofs.lemmas.Option.{same_Some, none-some}
use Rattle.kb_names.specs.declared.types.ExactType.{ExactType}
use Rattle.kb_names.specs.declared.types.ExactType.TheVariants as exact
use Rattle.kb_names.specs.declared.types.JType.{JType}
use Rattle.kb_names.specs.declared.types.MethodType.{MethodType}
use Rattle.kb_names.proofs.Choices.{passed}
use Rattle.kb_class.specs.declared.members.MethodCode.{MethodCode}
use Rattle.kb_class.specs.declared.members.MethodInfo.{MethodInfo}
use Rattle.kb_class.specs.Class.{Class}
use Rattle.kb_class.specs.Naming.{Has}
use Rattle.kb_class.specs.Platform.{IsPlatformMethod, object_name}
use Rattle.kb_class.proofs.Lists.{has_cases, has_none, has_first, has_later, has_zipped}
use Rattle.kb_link.specs.Links.{IsLinked}
use Rattle.kb_classes.specs.Subtypes.{IsChain}
use Rattle.kb_classes.specs.World.{World, chain_of, method_at, number_in, parent_in}
use Rattle.kb_link.proofs.MemberNames.{declared_is}
use Rattle.kb_world.specs.Calls.{has_code_at, selected_on}
use Rattle.kb_resolution.specs.Lookup.{class_of, declares, declares_open, first_along, is_open_at, only_where, or_else, selected, selected_for}
use Rattle.kb_test_laws.proofs.PlatformTable.{IsTableName, object_in_table, parent_in_table}
use Rattle.kb_test_laws.proofs.PlatformLaws.{IsRow, named_row}

-- ---- looking along a way

-- what is found is found at a number of the way
along : {A : Type 0} (look : ℕ → Option A) (way : List ℕ) (x : A) → first_along look way ≡ Some x → (number : ℕ) × Has way number × (look number ≡ Some x)
along look [] x at = absurd cc
along {A = A} look (n ∷ way) x at = go (λ h. along look way x h) (look n) refl at where
  go : (first_along look way ≡ Some x → (number : ℕ) × Has way number × (look number ≡ Some x)) → (o : Option A) → look n ≡ o → or_else o (first_along look way) ≡ Some x
      → (number : ℕ) × Has (n ∷ way) number × (look number ≡ Some x)
  go later (Some y) e at = (n, has_first n way, e ∙ at)
  go later None e at = (let found = later at in (found.0, has_later n found.0 way found.1, found.2))

where_is : {A : Type 0} (such : Bool) (x y : A) → only_where such x ≡ Some y → x ≡ y
where_is true x y e = same_Some x y e
where_is false x y e = absurd (none-some y e)

-- ---- classes of the platform

module _ (world : World) (linked : IsLinked world) where
  -- the class with that number is a row of the table
  pub record IsOfPlatform (number : ℕ) : Type 0 where
    pub class : Class
    pub class_is : slice_get world.classes number ≡ Some class
    pub row : IsRow number class

  table_named : (name : List ℕ) → IsTableName name → (number : ℕ) → number_in world.classes name ≡ Some number → IsOfPlatform number
  table_named name is number at =
      let found = named_row world.classes linked.loaded.platform linked.names name is number at in
      record { class = found.0; class_is = found.1; row = found.2 }

  parent_platform : (number above : ℕ) (of : IsOfPlatform number) → parent_in world.classes of.class ≡ Some above → IsOfPlatform above
  parent_platform number above of at =
      let found = passed (number_in world.classes) of.class.parent above at in
      let parent : of.row.row.parent ≡ Some found.0 = sym of.row.is.parent ∙ found.1 in
      table_named found.0 (parent_in_table of.row.row found.0 of.row.in_table parent) above found.2

  -- all classes on the chain of one are
  chain_platform : (chain : List ℕ) (number : ℕ) → chain_of world number ≡ chain → IsOfPlatform number → (n : ℕ) → Has chain n → IsOfPlatform n
  chain_platform [] number is of n has = absurd (has_none n has)
  chain_platform (m ∷ rest) number is of n has =
      go (λ above e up. chain_platform rest above e up n) (parent_in world.classes of.class) refl (linked.chains.each number of.class of.class_is)
    where
      go : ((above : ℕ) → chain_of world above ≡ rest → IsOfPlatform above → Has rest n → IsOfPlatform n) → (o : Option ℕ) → parent_in world.classes of.class ≡ o
          → IsChain world.chains number o (chain_of world number) → IsOfPlatform n
      go up None e chain =
          let whole : m ∷ rest ≡ number ∷ [] = sym is ∙ chain in
          let first : m ≡ number = cc in
          let none : rest ≡ [] = cc in
          elim (has_cases m n rest has) [
            | inl same ↦ subst IsOfPlatform (sym first ∙ same) of
            | inr later ↦ absurd (has_none n (subst (λ (ns : List ℕ). Has ns n) none later))
          ]
      go up (Some above) e chain =
          let whole : m ∷ rest ≡ number ∷ chain_of world above = sym is ∙ chain in
          let first : m ≡ number = cc in
          let others : rest ≡ chain_of world above = cc in
          elim (has_cases m n rest has) [
            | inl same ↦ subst IsOfPlatform (sym first ∙ same) of
            | inr later ↦ up above (sym others) (parent_platform number above of e) later
          ]

  -- ---- methods of the platform

  no_code : (class id : ℕ) (name : List ℕ) (kind : MethodType) → IsOfPlatform class → declares world name kind class ≡ Some id → has_code_at world id ≡ true → ⊥
  no_code class id name kind of at code =
      let is = declared_is world.classes linked.loaded.methods class name kind id at in
      let same : is.declaring ≡ of.class = same_Some is.declaring of.class (sym is.class_is ∙ of.class_is) in
      let method : MethodInfo = is.stands.method in
      let has : Has of.class.methods method = (is.place, ap (λ (c : Class). slice_get c.methods is.place) (sym same) ∙ is.stands.there) in
      let found = has_zipped (IsPlatformMethod class) of.row.row.methods of.class.methods method of.row.is.methods has in
      let coded : is_some method.code ≡ true = subst (λ (o : Option MethodInfo). option_map_or (λ (m : MethodInfo). is_some m.code) o false ≡ true) is.there code in
      let none : is_some (let o : Option MethodCode = None in o) ≡ true = subst (λ (o : Option MethodCode). is_some o ≡ true) found.2.code coded in
      absurd cc

  no_open : (class id : ℕ) (name : List ℕ) (kind : MethodType) → IsOfPlatform class → declares_open world name kind class ≡ Some id → has_code_at world id ≡ true → ⊥
  no_open class id name kind of at code =
      let found = passed (λ (number : ℕ). only_where (is_open_at world number) number) (declares world name kind class) id at in
      let same : found.0 ≡ id = where_is (is_open_at world found.0) found.0 id found.2 in
      no_code class id name kind of (subst (λ (n : ℕ). declares world name kind class ≡ Some n) same found.1) code

  no_selected : (class method id : ℕ) → IsOfPlatform class → selected world class method ≡ Some id → has_code_at world id ≡ true → ⊥
  no_selected class method id of at code =
      let found = passed (λ (m : MethodInfo). selected_for world m.name m.kind class) (method_at world method) id at in
      let on = along (declares_open world found.0.name found.0.kind) (chain_of world class) id found.2 in
      no_open on.0 id found.0.name found.0.kind (chain_platform (chain_of world class) class refl of on.0 on.1) on.2 code

  -- ---- types whose objects select no code

  abbrev pub SelectsNoCode : ExactType → Type 0
  SelectsNoCode type = (method id : ℕ) → selected_on world method type ≡ Some id → has_code_at world id ≡ true → ⊥

  selects_none : (type : ExactType) → ((class : ℕ) → class_of world type ≡ Some class → IsOfPlatform class) → SelectsNoCode type
  selects_none type of method id at code =
      let found = passed (λ (class : ℕ). selected world class method) (class_of world type) id at in
      no_selected found.0 method id (of found.0 found.1) found.2 code

  pub table_selects_none : (name : List ℕ) → IsTableName name → SelectsNoCode (exact.Class name)
  table_selects_none name is = selects_none (exact.Class name) (λ class at. table_named name is class at)

  pub arrays_select_none : (component : JType) → SelectsNoCode (exact.Array component)
  arrays_select_none component = selects_none (exact.Array component) (λ class at. table_named object_name object_in_table class at)

  pub row_selects_none : (name : List ℕ) (number : ℕ) (class : Class) → number_in world.classes name ≡ Some number → slice_get world.classes number ≡ Some class → IsRow number class
      → SelectsNoCode (exact.Class name)
  row_selects_none name number class at class_is row =
      selects_none (exact.Class name) (λ other also. subst IsOfPlatform (same_Some number other (sym at ∙ also)) (record { class = class; class_is = class_is; row = row }))
