use Rattle.std.proofs.Common.{IfSome, sym, subst}
use Rattle.kb_class.proofs.GivenLaws.{are_given}
use Rattle.kb_link.specs.Links.{Links}
use Rattle.kb_load.specs.Worlds.{IsWorldOf, contents_of}
use Rattle.kb_load.proofs.ClassLaws.{told_of}
use Rattle.kb_load.proofs.world_of.Goals as goal

pub link-requires : goal.link-requires
link-requires c = are_given (contents_of c.args.files.now) c.in_ok-classes.classes.items c.in_ok-classes.ensures

pub returns : goal.returns
returns c =
    let given = c.in_ok-classes.classes.items in
    subst (λ told. IfSome told (IsWorldOf (contents_of c.args.files.now))) (sym c.ok.ensures.value)
    (told_of (Links given) (IsWorldOf (contents_of c.args.files.now)) (λ world links. record { given = given; spelled = c.in_ok-classes.ensures; links = links }) c.link.result c.link.ensures.linked)
