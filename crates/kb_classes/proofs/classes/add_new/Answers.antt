use Rattle.std.proofs.Common.{◌≡◌, ℕ, List, None, sym, subst, ◌∙◌}
use Rattle.kb_classes.specs.World.{number_in}
use Rattle.kb_classes.proofs.Named.{differ_pushed, names_pushed}
use Rattle.kb_classes.proofs.classes.add_new.Goals as goal

pub returns : goal.returns
returns c = λ classes class named fresh few differ has.
    let keyed : c.in_ok-key.key ≡ class.name = c.in_ok-key.ensures ∙ sym named in
    let free : number_in classes class.name ≡ None = subst (λ (n : List ℕ). number_in classes n ≡ None) (sym named) fresh in
    (differ_pushed classes class differ free, names_pushed c.args.names.now c.insert.new.self c.in_ok-key.key classes class keyed free c.in_ok-insert.ensures.keys few has)
