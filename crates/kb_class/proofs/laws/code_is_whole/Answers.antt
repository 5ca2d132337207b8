use Rattle.kb_class.proofs.MemberLaws.{given_code_whole}
use Rattle.kb_class.proofs.laws.code_is_whole.Goals as goal

pub returns : goal.returns
returns c = λ id given class is loaded. given_code_whole id given class is loaded
