-- One more slot that is seen, and how many variables are seen then.
use Rattle.std.proofs.Common.{◌≡◌, ◌+◌, [], ◌∷◌, length, length-append, ap, ◌∙◌}
use Rattle.std.proofs.lemmas.List.Elements.{filter_map-append}
use Rattle.std.specs.List.{cons_option}
use Rattle.kb_picture.specs.declared.picture.Origin.{Origin}
use Rattle.kb_picture.specs.declared.picture.Picture.{Picture}
use Rattle.kb_picture.specs.declared.picture.Seen.{Seen}
use Rattle.kb_picture.specs.Laws.{with_seen}
use Rattle.kb_picture.specs.WellFormed.{variable_seen, variables_seen}

pub variables_more : (picture : Picture) (slot : Origin) (seen : Seen)
    → length (variables_seen (with_seen picture (slot, seen))) ≡ length (variables_seen picture) + length (cons_option (variable_seen seen) [])
variables_more picture slot seen =
    ap length (filter_map-append (λ (s : Origin × Seen). variable_seen s.1) picture.seen ((slot, seen) ∷ []))
    ∙ length-append (variables_seen picture) (cons_option (variable_seen seen) [])
