use Rattle.std.proofs.Common.{List, ℕ, Some, None, sym, ap, ◌∙◌, subst}
use Rattle.kb_asm_pool.specs.Items.{Entries, IsWithin, said}
use Rattle.kb_asm_pool.specs.Entries.{number_in}
use Rattle.kb_asm_pool.proofs.ItemLaws.{number_said}
use Rattle.kb_asm_pool.proofs.items.Items.number.Goals as goal

pub returns-in-Some : goal.returns-in-Some
returns-in-Some c =
    let texts = ap (λ (e : Entries). e.texts) c.self.view_is in
    let within = subst (λ (t : List (List ℕ)). IsWithin t c.args.item) (sym texts) c.requires.within in
    number_said c.self.inside.table c.self.invariant.0 c.args.item c.self.inside.set.keys (Some c.in-Some.place) within c.self.invariant.1 c.in-Some.ensures.index
    ∙ ap (λ (e : Entries). number_in e.says (said e.texts c.args.item)) c.self.view_is

pub returns-in-None : goal.returns-in-None
returns-in-None c =
    let texts = ap (λ (e : Entries). e.texts) c.self.view_is in
    let within = subst (λ (t : List (List ℕ)). IsWithin t c.args.item) (sym texts) c.requires.within in
    number_said c.self.inside.table c.self.invariant.0 c.args.item c.self.inside.set.keys None within c.self.invariant.1 c.in-None.ensures.index
    ∙ ap (λ (e : Entries). number_in e.says (said e.texts c.args.item)) c.self.view_is
