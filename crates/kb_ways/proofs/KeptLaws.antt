-- What a type keeps of a symbolic value: the state has more terms at most, and the value is one of it.
use Rattle.std.proofs.Common.{◌≡◌, pos, Bool, true, false, Option, Some, None, refl, sym, ap, ◌∙◌}
use Rattle.std.specs.Option.{option_and_then}
use Rattle.std.proofs.lemmas.Option.{none-some, same_Some}
use Rattle.kb_classes.specs.World.{World}
use Rattle.kb_names.specs.declared.types.JType.{JType}
use Rattle.kb_names.specs.declared.types.JType.TheVariants as types
use Rattle.kb_resolution.specs.Lookup.{only_where}
use Rattle.kb_semantics.specs.Config.{result_of}
use Rattle.kb_terms.specs.declared.op.Op.TheVariants.{And}
use Rattle.kb_terms.specs.declared.node.Node.TheVariants.{Const}
use Rattle.kb_terms.specs.Terms.{interned, made_node}
use Rattle.kb_frames.specs.declared.value.SymValue.{SymValue}
use Rattle.kb_frames.specs.declared.value.SymValue.TheVariants.{Int, Null, Obj, Literal, New, Loc}
use Rattle.kb_frames.specs.Next.{method_now}
use Rattle.kb_frames.specs.State.{State}
use Rattle.kb_frames.specs.States.{IsSymValue}
use Rattle.kb_ways.specs.Kept.{is_of_kind, kept, kept_in, masked}
use Rattle.kb_ways.specs.Operands.{of_kind, reference}
use Rattle.kb_ways.specs.Plans.{Planned, leaves_with, plain, planned, returns_value}
use Rattle.kb_ways.specs.Ways.{Fails}
use Rattle.kb_ways.proofs.AskedLaws.{interned_is_term}
use Rattle.kb_ways.proofs.GrowLaws.{HasMore, goes_on_behind, interned_goes_on, more_itself, more_terms, op_goes_on}
use Rattle.kb_frames.proofs.ItemLaws.{only_has}

-- ---- values of a kind

-- a value of the kind is the value that was there
pub of_kind_is : (type : JType) (it : Option SymValue) (value : SymValue) → of_kind type it ≡ Some value → (it ≡ Some value) × (is_of_kind type value ≡ true)
of_kind_is type None value e = absurd (none-some value e)
of_kind_is type (Some v) value e = go (is_of_kind type v) refl e where
  go : (b : Bool) → is_of_kind type v ≡ b → only_where b v ≡ Some value → (Some v ≡ Some value) × (is_of_kind type value ≡ true)
  go true is e = (e, ap (is_of_kind type) (sym (same_Some v value e)) ∙ is)
  go false is e = absurd (none-some value e)

-- ---- what is kept

pub kept_more : (type : JType) (value : SymValue) (state : State) → HasMore state (kept_in type value state).0
kept_more types.Bool (Int term) state =
    let one = interned state.nodes (Const (pos 1)) in
    more_terms state (masked state term one).0
    (goes_on_behind state.nodes one.0 (masked state term one).0 (interned_goes_on state.nodes (Const (pos 1)) refl) (op_goes_on one.0 And term (Some one.1)))
kept_more types.Bool Null state = more_itself state
kept_more types.Bool (Obj number) state = more_itself state
kept_more types.Bool (Literal number) state = more_itself state
kept_more types.Bool (New number) state = more_itself state
kept_more types.Bool (Loc number) state = more_itself state
kept_more _ value state = more_itself state

pub kept_there : (world : World) (state : State) (type : JType) (value : SymValue) → IsSymValue world state value → IsSymValue world (kept_in type value state).0 (kept_in type value state).1
kept_there world state types.Bool (Int term) is =
    let one = interned state.nodes (Const (pos 1)) in
    interned_is_term one.0 (made_node one.0 And term (Some one.1))
kept_there world state types.Bool Null is = is
kept_there world state types.Bool (Obj number) is = is
kept_there world state types.Bool (Literal number) is = is
kept_there world state types.Bool (New number) is = is
kept_there world state types.Bool (Loc number) is = is
kept_there world state _ value is = is

-- what is kept of a value is kept of one of the kind
pub kept_is_in : (type : JType) (value : SymValue) (state : State) (it : State × SymValue) → kept type value state ≡ Some it → kept_in type value state ≡ it
kept_is_in type value state it e = go (is_of_kind type value) e where
  go : (b : Bool) → only_where b (kept_in type value state) ≡ Some it → kept_in type value state ≡ it
  go true e = same_Some {A = State × SymValue} (kept_in type value state) it e
  go false e = absurd (none-some it e)

-- ---- what is returned

-- a return has what each result that is kept gives it
pub returns_has : (P : Planned → Type 0) (world : World) (state : State) (value : SymValue) → ((type : JType) → P (leaves_with (kept_in type value state))) → P (plain state Fails)
    → P (returns_value world state value)
returns_has P world state value h fails = go (result_of world (method_now state.method state.stage)) where
  go : (type : Option JType) → P (planned state (option_and_then (λ (t : JType). kept t value state) type) leaves_with)
  go None = fails
  go (Some type) = only_has P (is_of_kind type value) (kept_in type value state) leaves_with (plain state Fails) (h type) fails

-- ---- operands

-- a reference is the value that was there
pub reference_is : (it : Option SymValue) (value : SymValue) → reference it ≡ Some value → it ≡ Some value
reference_is None value e = e
reference_is (Some (Int term)) value e = absurd (none-some value e)
reference_is (Some Null) value e = e
reference_is (Some (Obj number)) value e = e
reference_is (Some (Literal number)) value e = e
reference_is (Some (New number)) value e = e
reference_is (Some (Loc number)) value e = e
