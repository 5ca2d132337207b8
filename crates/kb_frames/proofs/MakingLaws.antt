-- The default of a type as a symbolic value, by its default in the machine.
use Rattle.std.proofs.Common.{◌≡◌, ℕ, ℤ, refl}
use Rattle.kb_heap.specs.declared.heap.Value.TheVariants as values
use Rattle.kb_names.specs.declared.types.JType.{JType}
use Rattle.kb_names.specs.declared.types.JType.TheVariants as types
use Rattle.kb_semantics.specs.Values.{default_of}
use Rattle.kb_terms.specs.declared.node.TermId.{TermId}
use Rattle.kb_frames.specs.declared.value.SymValue.TheVariants.{Int, Null}
use Rattle.kb_frames.specs.Making.{default_sym}

pub default_null : (zero : TermId) (type : JType) → default_of type ≡ values.Null → default_sym zero type ≡ Null
default_null zero (types.Class name) e = refl
default_null zero (types.Array component) e = refl
default_null zero _ e = absurd cc

pub default_int : (zero : TermId) (type : JType) (z : ℤ) → default_of type ≡ values.Int z → default_sym zero type ≡ Int zero
default_int zero (types.Class name) z e = absurd cc
default_int zero (types.Array component) z e = absurd cc
default_int zero _ z e = refl

-- no default is an object
pub default_object : (zero : TermId) (type : JType) (o : ℕ) → default_of type ≡ values.Ref o → default_sym zero type ≡ Int zero
default_object zero (types.Class name) o e = absurd cc
default_object zero (types.Array component) o e = absurd cc
default_object zero _ o e = absurd cc
