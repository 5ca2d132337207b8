use Rattle.std.proofs.Common.{◌≡◌, ℕ, List, IfOk, sym, subst}
use Rattle.kb_machine.proofs.NameLaws.{found_name}
use Rattle.kb_machine.proofs.names.Names.look_up.Goals as goal

pub returns-in-Some : goal.returns-in-Some
returns-in-Some c =
    subst (λ (name : List ℕ). IfOk c.copied.result (λ own. own ≡ name)) (found_name c.self.inside.named.keys c.args.name.now c.in-Some.own.now (sym c.in-Some.ensures.key))
    c.copied.ensures
