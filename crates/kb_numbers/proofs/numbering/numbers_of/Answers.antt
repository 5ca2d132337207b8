use Rattle.std.proofs.Common.{List, sym, subst, arith}
use Rattle.std.specs.List.{AllZip}
use Rattle.kb_numbers.specs.Members.{MemberNumbers, method_pairs, methods_of}
use Rattle.kb_numbers.specs.Numbers.{AreNumberedFrom}
use Rattle.kb_numbers.specs.Typed.{IsTypedMethod}
use Rattle.kb_numbers.proofs.NumberLaws.{all_numbered_on}
use Rattle.kb_numbers.proofs.numbering.numbers_of.Goals as goal

pub types_of-requires : goal.types_of-requires
types_of-requires c = subst (λ (ns : List MemberNumbers). AreNumberedFrom c.number_all.new.texts 0 c.args.classes.now ns) (sym c.as_slice.ensures.value) c.in_ok-numbers.ensures

pub returns : goal.returns
returns c = record {
  distinct = c.tell_distinct.ensures;
  few = omega (arith, c.count.ensures, c.if-count.false);
  each = all_numbered_on c.number_all.new.texts c.types_of.new.texts c.in_ok-types.ensures.keeps 0 c.args.classes.now c.in_ok-numbers.numbers.items c.in_ok-numbers.ensures;
  typed = subst (λ (ns : List MemberNumbers). AllZip (IsTypedMethod c.types_of.new.texts c.in_ok-types.types) (methods_of c.args.classes.now) (method_pairs ns)) c.as_slice.ensures.value c.in_ok-types.ensures.typed;
  ends = c.in_ok-types.ensures.ends;
}
