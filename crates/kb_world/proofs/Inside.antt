-- What resolution and selection find is a method of the world, and the class that declares a method is a class of it.
use Rattle.std.proofs.Common.{◌≡◌, ℕ, ◌<◌, Bool, true, false, List, [], ◌∷◌, length, Option, Some, None, IfSome, slice_get, refl, sym, ap, subst, ◌∙◌}
use Rattle.std.specs.Option.{option_map, option_and_then}
use Rattle.std.proofs.lemmas.Option.{same_Some, none-some, slice_get_within}
use Rattle.kb_names.specs.declared.types.ExactType.{ExactType}
use Rattle.kb_names.specs.declared.types.ExactType.TheVariants as exact
use Rattle.kb_names.specs.declared.types.MethodType.{MethodType}
use Rattle.kb_class.specs.declared.entries.ReferenceKind.{ReferenceKind}
use Rattle.kb_class.specs.declared.entries.ReferenceKind.TheVariants as references
use Rattle.kb_class.specs.declared.members.MemberKind.{MemberKind}
use Rattle.kb_class.specs.declared.members.MemberKind.TheVariants as kinds
use Rattle.kb_class.specs.declared.members.MethodInfo.{MethodInfo}
use Rattle.kb_class.specs.declared.ids.MethodId.{MethodId}
use Rattle.kb_class.specs.declared.ids.ClassId.{ClassId}
use Rattle.kb_class.specs.Platform.{object_name}
use Rattle.kb_classes.specs.World.{World, number_in, method_at, methods_in, chain_of}
use Rattle.kb_link.specs.Members.{declared_method, is_method}
use Rattle.kb_link.specs.Links.{IsLinked}
use Rattle.kb_link.proofs.MemberNames.{place_there}
use Rattle.kb_classes.proofs.MethodNumbers.{stands_in}
use Rattle.kb_classes.proofs.Named.{number_inside}
use Rattle.kb_resolution.specs.Lookup.{or_else, only_where, first_along, class_of, sought_at, declares, is_open_at, if_open, declares_open, first_sought, superinterfaces, resolved_in, method_sought, method_of_sought, resolved_method, selected_for, selected, special_start, special_for, special_sought, special_of_sought, selected_special}
use Rattle.kb_world.specs.Receivers.{selected_on_array}

-- ---- what holds of each number that is told holds of the first

module _ (P : ℕ → Type 0) where
  else_such : (one other : Option ℕ) → IfSome one P → IfSome other P → IfSome (or_else one other) P
  else_such (Some n) other h k = h
  else_such None other h k = k

  first_such : (look : ℕ → Option ℕ) → ((n : ℕ) → IfSome (look n) P) → (way : List ℕ) → IfSome (first_along look way) P
  first_such look each [] = tt
  first_such look each (n ∷ way) = else_such (look n) (first_along look way) (each n) (first_such look each way)

  then_such : {A : Type 0} (f : A → Option ℕ) → ((x : A) → IfSome (f x) P) → (o : Option A) → IfSome (option_and_then f o) P
  then_such f each None = tt
  then_such f each (Some x) = each x

  where_such : (b : Bool) (n : ℕ) → P n → IfSome (only_where b n) P
  where_such true n h = h
  where_such false n h = tt

-- it holds of what is told
of_some : (P : ℕ → Type 0) (n : ℕ) (o : Option ℕ) → Some n ≡ o → IfSome o P → P n
of_some P n None e h = absurd (none-some n (sym e))
of_some P n (Some m) e h = subst P (same_Some m n (sym e)) h

of_told : (P : ℕ → Type 0) (told : Option MethodId) (o : Option ℕ) → option_map (λ (id : MethodId). id.0) told ≡ o → IfSome o P → IfSome told (λ id. P id.0)
of_told P None o e h = tt
of_told P (Some id) None e h = absurd (none-some id.0 (sym e))
of_told P (Some id) (Some n) e h = subst P (same_Some n id.0 (sym e)) h

of_told_class : (P : ℕ → Type 0) (told : Option ClassId) (o : Option ℕ) → option_map (λ (id : ClassId). id.0) told ≡ o → IfSome o P → IfSome told (λ id. P id.0)
of_told_class P None o e h = tt
of_told_class P (Some id) None e h = absurd (none-some id.0 (sym e))
of_told_class P (Some id) (Some n) e h = subst P (same_Some n id.0 (sym e)) h

-- ---- methods

module _ (world : World) where
  abbrev pub IsInside : ℕ → Type 0
  IsInside number = number < length (methods_in world.classes)

  declares_inside : (name : List ℕ) (kind : MethodType) (number : ℕ) → IfSome (declares world name kind number) IsInside
  declares_inside name kind number = go (declared_method world.classes number name kind) refl where
    go : (o : Option ℕ) → declared_method world.classes number name kind ≡ o → IfSome o IsInside
    go None e = tt
    go (Some id) e =
        let found = place_there (is_method number name kind) (methods_in world.classes) id e in
        slice_get_within (methods_in world.classes) id found.0 found.1

  if_open_inside : (o : Option ℕ) → IfSome o IsInside → IfSome (if_open world o) IsInside
  if_open_inside None h = tt
  if_open_inside (Some id) h = where_such IsInside (is_open_at world id) id h

  open_inside : (name : List ℕ) (kind : MethodType) (number : ℕ) → IfSome (declares_open world name kind number) IsInside
  open_inside name kind number = if_open_inside (declares world name kind number) (declares_inside name kind number)

  in_class : (name : List ℕ) (kind : MethodType) (number : ℕ) → IfSome (resolved_in world name kind number) IsInside
  in_class name kind number =
      else_such IsInside (first_along (declares world name kind) (first_sought world number (slice_get world.classes number)))
      (first_along (declares_open world name kind) (superinterfaces world number))
      (first_such IsInside (declares world name kind) (declares_inside name kind) (first_sought world number (slice_get world.classes number)))
      (first_such IsInside (declares_open world name kind) (open_inside name kind) (superinterfaces world number))

  in_sought : (what : ReferenceKind) (class : ExactType) (name : List ℕ) (kind : MemberKind) → IfSome (method_sought world what class name kind) IsInside
  in_sought references.Field class name kind = tt
  in_sought references.Method class name (kinds.Field type) = tt
  in_sought references.Method class name (kinds.Method kind) = then_such IsInside (resolved_in world name kind) (in_class name kind) (class_of world class)
  in_sought references.InterfaceMethod class name (kinds.Field type) = tt
  in_sought references.InterfaceMethod class name (kinds.Method kind) = then_such IsInside (resolved_in world name kind) (in_class name kind) (class_of world class)

  resolved_inside : (class entry : ℕ) → IfSome (resolved_method world class entry) IsInside
  resolved_inside class entry =
      then_such IsInside (method_of_sought world) (λ sought. in_sought sought.what sought.class sought.member.name sought.member.kind) (sought_at world class entry)

  for_inside : (name : List ℕ) (kind : MethodType) (class : ℕ) → IfSome (selected_for world name kind class) IsInside
  for_inside name kind class = first_such IsInside (declares_open world name kind) (open_inside name kind) (chain_of world class)

  selected_inside : (class method : ℕ) → IfSome (selected world class method) IsInside
  selected_inside class method = then_such IsInside (λ (m : MethodInfo). selected_for world m.name m.kind class) (λ m. for_inside m.name m.kind class) (method_at world method)

  special_class : (current : ℕ) (name : List ℕ) (kind : MethodType) (named : ℕ) → IfSome (special_for world current name kind named) IsInside
  special_class current name kind named = first_such IsInside (declares world name kind) (declares_inside name kind) (chain_of world (special_start world current name named))

  in_special : (current : ℕ) (what : ReferenceKind) (class : ExactType) (name : List ℕ) (kind : MemberKind) → IfSome (special_sought world current what class name kind) IsInside
  in_special current references.Field class name kind = tt
  in_special current references.Method class name (kinds.Field type) = tt
  in_special current references.Method class name (kinds.Method kind) = then_such IsInside (special_for world current name kind) (special_class current name kind) (class_of world class)
  in_special current references.InterfaceMethod class name (kinds.Field type) = tt
  in_special current references.InterfaceMethod class name (kinds.Method kind) = then_such IsInside (special_for world current name kind) (special_class current name kind) (class_of world class)

  special_inside : (class entry : ℕ) → IfSome (selected_special world class entry) IsInside
  special_inside class entry =
      then_such IsInside (special_of_sought world class) (λ sought. in_special class sought.what sought.class sought.member.name sought.member.kind) (sought_at world class entry)

  pub resolved_at : (class entry number : ℕ) → Some number ≡ resolved_method world class entry → IsInside number
  resolved_at class entry number e = of_some IsInside number (resolved_method world class entry) e (resolved_inside class entry)

  pub special_at : (class entry number : ℕ) → Some number ≡ selected_special world class entry → IsInside number
  special_at class entry number e = of_some IsInside number (selected_special world class entry) e (special_inside class entry)

  pub special_told : (class entry : ℕ) (told : Option MethodId) → option_map (λ (id : MethodId). id.0) told ≡ selected_special world class entry → IfSome told (λ id. IsInside id.0)
  special_told class entry told e = of_told IsInside told (selected_special world class entry) e (special_inside class entry)

  pub selected_told : (class method : ℕ) (told : Option MethodId) → option_map (λ (id : MethodId). id.0) told ≡ selected world class method → IfSome told (λ id. IsInside id.0)
  selected_told class method told e = of_told IsInside told (selected world class method) e (selected_inside class method)

  pub array_told : (method : ℕ) (told : Option MethodId) → option_map (λ (id : MethodId). id.0) told ≡ selected_on_array world method → IfSome told (λ id. IsInside id.0)
  array_told method told e =
      of_told IsInside told (selected_on_array world method) e (then_such IsInside (λ class. selected world class method) (λ class. selected_inside class method) (number_in world.classes object_name))

  -- ---- classes

  pub class_there : IsLinked world → (number : ℕ) (method : MethodInfo) → method_at world number ≡ Some method → method.class.0 < length world.classes
  class_there linked number method at =
      let stands = stands_in world.classes number method at in
      let own : method.class.0 ≡ stands.number = linked.loaded.methods.numbered stands.number stands.class method stands.class_is (stands.place, stands.there) in
      slice_get_within world.classes method.class.0 stands.class (ap (λ (n : ℕ). slice_get world.classes n) own ∙ stands.class_is)

  named_inside : (name : List ℕ) → IfSome (number_in world.classes name) (λ n. n < length world.classes)
  named_inside name = go (number_in world.classes name) refl where
    go : (o : Option ℕ) → number_in world.classes name ≡ o → IfSome o (λ n. n < length world.classes)
    go None e = tt
    go (Some n) e = number_inside world.classes name n e

  class_inside : (type : ExactType) → IfSome (class_of world type) (λ n. n < length world.classes)
  class_inside (exact.Class name) = named_inside name
  class_inside (exact.Array component) = named_inside object_name

  pub class_told : (type : ExactType) (told : Option ClassId) → option_map (λ (id : ClassId). id.0) told ≡ class_of world type → IfSome told (λ id. id.0 < length world.classes)
  class_told type told e = of_told_class (λ n. n < length world.classes) told (class_of world type) e (class_inside type)
