-- Targets: a class, a method's name and its type, as Node.swapNode()LNode; is one. Names are spelled as in
-- texts, also inside the descriptor.
use Rattle.std.specs.Prelude.{◌≡◌, ℕ, Option, None, List, [], ◌++◌, ◌==◌, if◌then◌else◌, codes, Result, Ok, Err}
use Rattle.std.specs.Option.{option_map, option_and_then}
use Rattle.kb_names.specs.Reading.{IsFirstBad}
use Rattle.kb_names.specs.Bytes.{AreBytes}
use Rattle.kb_names.specs.Escapes.{name_text, name_step, name_read}
use Rattle.kb_names.specs.Descriptors.{MayStand, IsClassName, method_text, IsMethodType, CanSpellMethod}
use Rattle.kb_names.specs.Stages.{some_bytes, method_step, method_read}
use Rattle.kb_names.specs.declared.class_names.Spelling.TheVariants.{Escaped}
use Rattle.kb_names.specs.declared.name_texts.NameStage.TheVariants.{Plain}
use Rattle.kb_names.specs.declared.descriptors.MethodStage.TheVariants.{Params}
use Rattle.kb_names.specs.declared.types.Target.{Target}
use Rattle.kb_names.specs.declared.targets.TargetRefusal.{TargetRefusal}
use Rattle.kb_names.specs.declared.targets.TargetRefusal.TheVariants.{BadTarget, NoMemory as no_memory}
use Rattle.kb_names.specs.declared.targets.TargetStage.{TargetStage}
use Rattle.kb_names.specs.declared.targets.TargetStage.TheVariants.{InClass, InMethod, InKind}

-- the one spelling of a target
abbrev pub target_text : Target → List ℕ
target_text target = name_text target.class ++ (codes "." ++ (name_text target.name ++ method_text Escaped target.kind))

-- a target that has a text: its class's name is not empty, and its type has a descriptor
pub record IsTarget (target : Target) : Type 0 where
  pub class : IsClassName Escaped target.class
  pub name : AreBytes target.name
  pub kind : IsMethodType Escaped target.kind

-- a target that can be spelled, as far as it is not known that its names are of bytes
pub record CanSpellTarget (target : Target) : Type 0 where
  pub class : MayStand Escaped target.class
  pub kind : CanSpellMethod Escaped target.kind

abbrev pub SpellsTarget : Target → List ℕ → Type 0
SpellsTarget target text = IsTarget target × (text ≡ target_text target)

abbrev pub IsTargetText : List ℕ → Type 0
IsTargetText text = (target : Target) × SpellsTarget target text

-- that target was read, unless memory ran out
abbrev pub ReadsTarget : Result Target TargetRefusal → Target → Type 0
ReadsTarget (Ok read) target = read ≡ target
ReadsTarget (Err (BadTarget at)) target = ⊥
ReadsTarget (Err no_memory) target = Unit {0}

-- the text is no target from that offset on, unless memory ran out
abbrev pub RefusesTarget : List ℕ → TargetRefusal → Type 0
RefusesTarget text (BadTarget at) = IsFirstBad IsTargetText text at
RefusesTarget text no_memory = Unit {0}

-- how a reader of targets goes on from byte to byte
unfoldable pub target_step : TargetStage → ℕ → Option TargetStage
target_step (InClass stage) byte =
    if byte == 46 then option_map (λ class. InMethod class (Plain [])) (option_and_then some_bytes (name_read stage))
    else option_map (λ next. InClass next) (name_step stage byte)
target_step (InMethod class stage) byte =
    if byte == 40 then option_map (λ name. InKind class name (Params Escaped [])) (name_read stage)
    else option_map (λ next. InMethod class next) (name_step stage byte)
target_step (InKind class name stage) byte = option_map (λ next. InKind class name next) (method_step stage byte)

-- the target that is read, if the text may end here
abbrev pub target_read : TargetStage → Option Target
target_read (InClass stage) = None
target_read (InMethod class stage) = None
target_read (InKind class name stage) = option_map (λ kind. record { class = class; name = name; kind = kind }) (method_read stage)
