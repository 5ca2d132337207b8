use Rattle.std.proofs.Common.{ℕ, List, map, subst}
use Rattle.std.specs.Prelude.{string_bytes}
use Rattle.std.specs.declared.vec.Vec.{Vec}
use Rattle.std.specs.declared.alloc.Global.{Global}
use Rattle.std.proofs.lemmas.Result.{IfOk-weaker}
use Rattle.kb_load.specs.Worlds.{IsWorldIn, IsWorldOf, contents_of}
use Rattle.kb_load.proofs.worlds.read_world.Goals as goal

pub returns : goal.returns
returns g c =
    let files = c.in_ok-files.files.items in
    IfOk-weaker c.held_world_of.result (IsWorldOf (contents_of c.as_slice.result.now)) (IsWorldIn (g.S.Shelf.holds c.args.shelf.now) (map string_bytes c.args.names.now))
    (λ world is. record {
      files = contents_of files;
      whole = c.in_ok-files.ensures.read;
      is = subst (λ (fs : List (Vec ℕ Global)). IsWorldOf (contents_of fs) world) c.as_slice.ensures.value is;
    }) c.held_world_of.ensures
