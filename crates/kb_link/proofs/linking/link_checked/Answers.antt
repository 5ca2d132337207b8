use Rattle.kb_link.proofs.HavingTexts.{have_texts}
use Rattle.kb_link.proofs.OwnMethods.{are_loaded}
use Rattle.kb_link.proofs.linking.link_checked.Goals as goal

pub link_classes-requires : goal.link_classes-requires
link_classes-requires c = (are_loaded c.args.given.items c.in-Ok.classes.items c.requires.0 c.in-Ok.ensures, have_texts c.args.given.items c.in-Ok.classes.items c.in-Ok.ensures)
