use Rattle.std.proofs.Common.{◌≡◌, ◌∙◌, sym, ap, subst, [], ◌∷◌, ◌++◌, is_ok, slice_set, if◌then◌else◌}
use Rattle.kb_trail.specs.Trail.{Reaches, undone, with_entry}
use Rattle.kb_trail.proofs.TrailLaws.{undone-set, reaches-entry}
use Rattle.kb_trail.proofs.trail.Trail.set.Given as given
use Rattle.kb_trail.proofs.trail.Trail.set.Goals as goal

-- the trail has one entry more
entry : (g : given.Over) (c : goal.After-unwrap g) → c.push.new.self.items ≡ with_entry c.args.self.now c.args.cells.now.items c.args.place c.index_mut.result.now
entry g c =
    c.push.ensures.items
    ∙ ap (λ b. if b then c.reserve.new.self.items ++ (c.args.place, c.replace-replaced.result) ∷ [] else c.reserve.new.self.items) (ap is_ok c.unwrap.ensures)
    ∙ ap (λ es. es ++ (c.args.place, c.replace-replaced.result) ∷ []) (c.in-Ok.ensures.items ∙ c.self.view_is)
    ∙ ap (λ v. c.args.self.now ++ (c.args.place, v) ∷ []) (c.replace-replaced.ensures.value ∙ c.index_mut.ensures.value)

pub returns-in-Ok-clause-marks : goal.returns-in-Ok-clause-marks
returns-in-Ok-clause-marks g c = λ mark below.
    ap (λ es. undone es (slice_set c.args.cells.now.items c.args.place c.replace-replaced.new.dest) mark) (entry g c)
    ∙ undone-set c.args.self.now c.args.cells.now.items c.args.place c.replace-replaced.new.dest c.index_mut.result.now mark below

pub returns-in-Ok-clause-places : goal.returns-in-Ok-clause-places
returns-in-Ok-clause-places g c = λ reach.
    subst (Reaches (slice_set c.args.cells.now.items c.args.place c.replace-replaced.new.dest)) (sym (entry g c))
    (reaches-entry c.args.self.now c.args.cells.now.items c.args.place c.replace-replaced.new.dest c.index_mut.result.now c.requires reach)
