-- What a type of the Java virtual machine is (JVMS 8 section 4.3.2).
use Rattle.std.specs.Prelude.{ℕ, List}

-- a type that is no array; a class by its name
pub data Base : Type 0 where
  bool_base : Base
  byte_base : Base
  char_base : Base
  short_base : Base
  int_base : Base
  long_base : Base
  float_base : Base
  double_base : Base
  class_base : List ℕ → Base

-- an array of so many dimensions of a base; the base itself where there are none
pub record Shape : Type 0 where
  pub dims : ℕ
  pub base : Base
