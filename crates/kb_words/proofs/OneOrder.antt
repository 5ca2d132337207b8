-- Words have one order or one fault.
use Rattle.std.proofs.Common.{◌≡◌, ℕ, List, Option, Some, None, Result, refl, sym, ◌∙◌, ap}
use Rattle.kb_names.specs.declared.types.Target.{Target}
use Rattle.kb_names.specs.Targets.{SpellsTarget, target_read}
use Rattle.kb_names.proofs.TargetReader.{target_reader}
use Rattle.kb_words.specs.declared.orders.Order.{Order}
use Rattle.kb_words.specs.declared.orders.WordFault.{WordFault}
use Rattle.kb_words.specs.Orders.{IsTargetIn, Orders, behind_command, order_of}
use Rattle.kb_words.specs.Settings.{method_word}

-- a text spells one target
spells_one : (text : List ℕ) (target other : Target) → SpellsTarget target text → SpellsTarget other text → target ≡ other
spells_one text target other one two =
    let first = target_reader.only target text one in
    let second = target_reader.only other text two in
    let reached-first = first.1 in
    let reached-second = second.1 in
    let same : first.0 ≡ second.0 = cc in
    let read-first = first.2 in
    let read-second = second.2 in
    let targets : read_as target ≡ read_as other = sym read-first ∙ ap target_read same ∙ read-second in
    cc
  where
    read_as : Target → Option Target
    read_as t = Some t

one_target : (word : Option (List ℕ)) (one other : Option Target) → IsTargetIn word one → IsTargetIn word other → one ≡ other
one_target None one other a b = a ∙ sym b
one_target (Some word) None None a b = refl
one_target (Some word) None (Some t) a b = absurd (a (t, b))
one_target (Some word) (Some t) None a b = absurd (b (t, a))
one_target (Some word) (Some t) (Some u) a b = ap Some (spells_one word t u a b)

pub orders_one : (words : List (List ℕ)) (one other : Result Order WordFault) → Orders words one → Orders words other → one ≡ other
orders_one words one other a b =
    let targets : a.target ≡ b.target = one_target (method_word (behind_command words)) a.target b.target a.target_is b.target_is in
    sym a.is ∙ ap (λ (target : Option Target). order_of target words) targets ∙ b.is
