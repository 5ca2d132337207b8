use Rattle.std.proofs.Common.{◌≡◌, List, ℕ, Some, slice_get, map, sym, ap, ◌∙◌, subst}
use Rattle.kb_asm_pool.specs.Items.{Entries, IsWithin, said}
use Rattle.kb_asm_pool.specs.Says.{added}
use Rattle.kb_asm_pool.proofs.ItemLaws.{added_said, entered, all_added_within}
use Rattle.kb_asm_pool.proofs.items.Items.add.Goals as goal

pub returns-clause-says : goal.returns-clause-says
returns-clause-says c =
    let texts = ap (λ (e : Entries). e.texts) c.self.view_is in
    let within = subst (λ (t : List (List ℕ)). IsWithin t c.args.item) (sym texts) c.requires in
    added_said c.self.inside.table c.self.invariant.0 c.args.item c.self.inside.set.keys c.insert_full.new.self.keys within c.self.invariant.1 c.in_ok-entry.ensures.keys
    ∙ ap (λ (e : Entries). added e.says (said e.texts c.args.item)) c.self.view_is

pub returns-clause-entry : goal.returns-clause-entry
returns-clause-entry c =
    let texts = ap (λ (e : Entries). e.texts) c.self.view_is in
    let within = subst (λ (t : List (List ℕ)). IsWithin t c.args.item) (sym texts) c.requires in
    let all = all_added_within c.self.inside.table c.self.invariant.0 c.args.item c.self.inside.set.keys c.insert_full.new.self.keys within c.self.invariant.1 c.in_ok-entry.ensures.keys in
    subst (λ (t : List (List ℕ)). slice_get (map (said c.self.inside.table) c.insert_full.new.self.keys) c.in_ok-entry.entry ≡ Some (said t c.args.item)) texts
    (entered c.self.inside.table c.self.invariant.0 c.args.item c.in_ok-entry.ensures.stored.0 c.insert_full.new.self.keys c.in_ok-entry.entry within all c.in_ok-entry.ensures.stored.1 c.in_ok-entry.ensures.stored.2)
