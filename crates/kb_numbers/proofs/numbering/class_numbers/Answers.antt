use Rattle.std.proofs.Common.{◌≡◌, [], List, None, sym, subst}
use Rattle.std.specs.List.{AllByRecursion}
use Rattle.std.proofs.lemmas.Result.{IfOk-weaker}
use Rattle.kb_class.specs.Class.{Class}
use Rattle.kb_class.specs.declared.members.MethodInfo.{MethodInfo}
use Rattle.kb_numbers.specs.Numbers.{HasTextsBy, IsNumbered, IsOfFile, IsWritten}
use Rattle.kb_numbers.proofs.numbering.class_numbers.Goals as goal

pub returns-in-Some-clause-numbers : goal.returns-in-Some-clause-numbers
returns-in-Some-clause-numbers c =
    let class = c.args.class.now in
    let texts = c.given_numbers.new.texts in
    let of : IsOfFile class c.in-Some.file.now = subst (HasTextsBy class) (sym c.in-Some.ensures) c.requires in
    IfOk-weaker c.given_numbers.result (λ own. (k : Class) → IsOfFile k c.in-Some.file.now → IsNumbered texts c.args.first k own) (IsNumbered texts c.args.first class) (λ own is. is class of)
    c.given_numbers.ensures.numbers

pub written_numbers-requires : goal.written_numbers-requires
written_numbers-requires c =
    let parts : HasTextsBy c.args.class.now None = subst (HasTextsBy c.args.class.now) (sym c.in-None.ensures) c.requires in
    subst (λ (ms : List MethodInfo). AllByRecursion IsWritten ms) (sym c.methods.ensures) parts.2

pub returns-in-None-clause-numbers : goal.returns-in-None-clause-numbers
returns-in-None-clause-numbers c =
    let class = c.args.class.now in
    let texts = c.written_numbers.new.texts in
    let parts : HasTextsBy class None = subst (HasTextsBy class) (sym c.in-None.ensures) c.requires in
    IfOk-weaker c.written_numbers.result (λ own. (k : Class) → k.methods ≡ c.methods.result.now → k.fields ≡ [] → k.entries ≡ [] → IsNumbered texts c.args.first k own) (IsNumbered texts c.args.first class)
    (λ own is. is class (sym c.methods.ensures) parts.0 parts.1) c.written_numbers.ensures.numbers
