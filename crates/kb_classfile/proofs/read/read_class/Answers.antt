use Rattle.kb_classfile.proofs.Answering.{found_is_spelled, spelled_is_found, refused_is_first}
use Rattle.kb_classfile.proofs.read.read_class.Goals as goal

pub returns-clause-found : goal.returns-clause-found
returns-clause-found c = found_is_spelled c.class_of.result c.args.bytes.now c.class_of.ensures

pub returns-clause-only : goal.returns-clause-only
returns-clause-only c = spelled_is_found c.class_of.result c.args.bytes.now c.class_of.ensures

pub returns-clause-refused : goal.returns-clause-refused
returns-clause-refused c = refused_is_first c.class_of.result c.args.bytes.now c.class_of.ensures
