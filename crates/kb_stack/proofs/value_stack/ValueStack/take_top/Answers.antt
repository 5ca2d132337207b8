use Rattle.std.proofs.Common.{rules, ◌≡◌, ◌-◌, ◌≤◌, length, reverse, take, drop, nat_le, true, Some, refl, sym, ap, ◌∙◌, arith}
use Rattle.std.proofs.lemmas.Bool.{le-leb}
use Rattle.std.proofs.lemmas.List.{length-drop, length-reverse, take_all}
use Rattle.kb_stack.proofs.Stacks.{top_taken}
use Rattle.kb_stack.proofs.value_stack.ValueStack.take_top.Goals as goal

pub returns-clause-top : goal.returns-clause-top
returns-clause-top c =
    let xs = c.self.inside.values.items in
    let n = c.args.count in
    let place = length xs - n in
    let within : n ≤ length xs = omega (arith, c.len.ensures) in
    let enough : nat_le n (length (reverse xs)) ≡ true = le-leb n (length (reverse xs)) (omega (arith, within, length-reverse xs)) in
    let slice = c.deref.result.now in
    let from = c.len-2.result - n in
    let same : c.in_ok-top.top.items ≡ take (length slice - from) (drop from slice) = c.in_ok-top.ensures.items_if_clones_equal (search rules) in
    let all : take (length slice - from) (drop from slice) ≡ drop from slice = take_all (length slice - from) (drop from slice) (omega (arith, length-drop from slice)) in
    let there : c.len-2.result - n ≡ place = omega (arith, c.len-2.ensures) in
    let copied : c.in_ok-top.top.items ≡ drop place xs = same ∙ all ∙ rw (there, c.deref.ensures.value) refl in
    let top : c.from_vec.result ≡ reverse (take n (reverse xs)) = c.from_vec.ensures ∙ copied ∙ sym (top_taken xs n place within (omega arith)) in
    rw (← c.self.view_is) (rw enough (ap Some top))
