-- The comparisons of numbers by which instructions go on (JVMS 8 section 6.5; which comparison an instruction makes is an own
-- rule).
use Rattle.std.specs.Prelude.{ℕ, ℤ, pos, ◌+ℤ◌, Bool, not, List, [], ◌∷◌, map, int_lt, nat_lt, if◌then◌else◌}
use Rattle.std.specs.Ordering.{int_eq}
use Rattle.kb_arith.specs.Word.{bits_of}
use Rattle.kb_code.specs.declared.instruction.Cond.{Cond}
use Rattle.kb_code.specs.declared.instruction.Cond.TheVariants as conds

-- equal; less, with sign; less, without sign
pub data Relation : Type 0 where
  Equal : Relation
  Less : Relation
  LessUnsigned : Relation

pub record Comparison : Type 0 where
  pub relation : Relation
  pub left : ℤ
  pub right : ℤ

abbrev pub relates : Relation → ℤ → ℤ → Bool
relates Equal a b = int_eq a b
relates Less a b = int_lt a b
relates LessUnsigned a b = nat_lt (bits_of a) (bits_of b)

-- whether the comparison is so
abbrev pub is_so : Comparison → Bool
is_so c = relates c.relation c.left c.right

abbrev pub equal : ℤ → ℤ → Comparison
equal a b = record { relation = Equal; left = a; right = b }

abbrev pub less : ℤ → ℤ → Comparison
less a b = record { relation = Less; left = a; right = b }

abbrev pub less_unsigned : ℤ → ℤ → Comparison
less_unsigned a b = record { relation = LessUnsigned; left = a; right = b }

-- what a condition on two ints compares: the three others are the contrary of one of these
abbrev pub compared : Cond → ℤ → ℤ → Comparison
compared conds.Eq a b = equal a b
compared conds.Ne a b = equal a b
compared conds.Lt a b = less a b
compared conds.Ge a b = less a b
compared conds.Gt a b = less b a
compared conds.Le a b = less b a

-- whether the condition is the comparison, or its contrary
abbrev pub is_plain : Cond → Bool → Bool
is_plain conds.Eq so = so
is_plain conds.Ne so = not so
is_plain conds.Lt so = so
is_plain conds.Ge so = not so
is_plain conds.Gt so = so
is_plain conds.Le so = not so

-- whether the condition holds of two ints
abbrev pub holds : Cond → ℤ → ℤ → Bool
holds cond a b = is_plain cond (is_so (compared cond a b))

-- ---- switches

-- the keys of tableswitch, from the lowest on, with their targets
abbrev pub table_keys : ℤ → List ℕ → List (ℤ × ℕ)
table_keys low [] = []
table_keys low (target ∷ targets) = (low, target) ∷ table_keys (low +ℤ pos 1) targets

-- where a switch goes on: at the target of the key that the int is, else at the default one
abbrev pub switch_target : ℤ → List (ℤ × ℕ) → ℕ → ℕ
switch_target value [] default = default
switch_target value (key ∷ keys) default = if int_eq value key.0 then key.1 else switch_target value keys default

abbrev pub compared_keys : ℤ → List (ℤ × ℕ) → List Comparison
compared_keys value keys = map (λ (key : ℤ × ℕ). equal value key.0) keys
