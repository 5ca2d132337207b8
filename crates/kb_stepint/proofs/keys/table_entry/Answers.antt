use Rattle.std.proofs.Common.{◌≡◌, ◌+ℤ◌, ℤ, pos, length, Some, slice_get, w32, to_z, of_z, refl, sym, ap, ◌∙◌}
use Rattle.std.proofs.lemmas.Int.{to_z-of_z}
use Rattle.std.proofs.lemmas.Option.{slice_get_read}
use Rattle.kb_stepint.proofs.KeyLaws.{table_at}
use Rattle.kb_stepint.proofs.keys.table_entry.Goals as goal

pub returns-clause-key : goal.returns-clause-key
returns-clause-key c =
    let key : to_z w32 (of_z w32 c.in_ok-key.key) ≡ c.args.low +ℤ pos c.args.place = to_z-of_z w32 c.in_ok-key.key c.in_ok-key.ensures.range ∙ c.in_ok-key.ensures.key
    ∙ ap (λ (z : ℤ). z +ℤ pos c.args.place) (to_z-of_z w32 c.args.low c.ranges.low) in
    let there : slice_get c.args.targets.now c.args.place ≡ Some c.in-Some.target.now =
    slice_get_read c.args.targets.now (length c.args.targets.now) c.args.place c.in-Some.target.now refl c.in-Some.ensures.lookup.3.0 c.in-Some.ensures.lookup.1 in
    table_at c.args.targets.now c.args.low c.args.place c.in-Some.target.now there ∙ ap (λ (z : ℤ). Some (z, c.in-Some.target.now)) (sym key)
