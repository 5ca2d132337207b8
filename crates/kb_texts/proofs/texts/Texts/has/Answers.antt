use Rattle.std.proofs.Common.{ℕ, sym, ap, ◌∙◌}
use Rattle.std.specs.List.{list_any}
use Rattle.std.specs.Str.{bytes_eq}
use Rattle.std.specs.declared.vec.Vec.{Vec}
use Rattle.std.specs.declared.alloc.Global.{Global}
use Rattle.kb_texts.proofs.TextLaws.{any-map}
use Rattle.kb_texts.proofs.texts.Texts.has.Goals as goal

pub returns : goal.returns
returns c =
    c.contains.ensures
    ∙ sym (any-map (bytes_eq c.args.bytes.now) (λ (k : Vec ℕ Global). k.items) c.self.inside.set.keys)
    ∙ ap (list_any (bytes_eq c.args.bytes.now)) c.self.view_is
