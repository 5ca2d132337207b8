use Rattle.std.proofs.Common.{◌≡◌, ◌+◌, ◌≤◌, ℕ, List, [], ◌∷◌, ◌++◌, length, take, sym, ap, subst, ◌∙◌, arith}
use Rattle.std.proofs.lemmas.Grind.{take_at_read}
use Rattle.std.proofs.lemmas.List.{take_all}
use Rattle.kb_class.specs.Class.{Class}
use Rattle.kb_class.specs.declared.members.MethodInfo.{MethodInfo}
use Rattle.kb_numbers.specs.Members.{MemberNumbers, methods_of}
use Rattle.kb_numbers.specs.Numbers.{AreNumberedFrom, HasTexts, IsNumbered}
use Rattle.kb_numbers.proofs.MemberLaws.{methods_pushed, numbered_pushed}
use Rattle.kb_numbers.proofs.NumberLaws.{all_numbered_on}
use Rattle.kb_numbers.proofs.ZipLaws.{all_read}
use Rattle.kb_numbers.proofs.numbering.number_all.Goals as goal

pub class_numbers-requires : goal.class_numbers-requires
class_numbers-requires c = all_read HasTexts c.args.classes.now c.loop-class.class-index c.class-item.result c.loop-class-test.true c.class-item.is c.requires

pub loop-class-preserved : goal.loop-class-preserved
loop-class-preserved c =
    let classes = c.args.classes.now in
    let i = c.loop-class.class-index in
    let class = c.class-item.result in
    let own = c.in_ok-own.own in
    let before = c.loop-class.texts in
    let after = c.class_numbers.new.texts in
    let taken : take (i + 1) classes ≡ take i classes ++ class ∷ [] = (take_at_read classes i class c.loop-class-test.true).1 ∙ ap (λ (k : Class). take i classes ++ k ∷ []) (sym c.class-item.is) in
    let first : c.loop-class.first ≡ 0 + length (methods_of (take i classes)) = omega (arith, c.loop-class.invariant.first_is) in
    let one : IsNumbered after (0 + length (methods_of (take i classes))) class own = subst (λ (n : ℕ). IsNumbered after n class own) first c.in_ok-own.ensures.numbers in
    let are : AreNumberedFrom after 0 (take i classes ++ class ∷ []) (c.loop-class.numbers.items ++ own ∷ []) =
    numbered_pushed after 0 (take i classes) c.loop-class.numbers.items class own (all_numbered_on before after c.in_ok-own.ensures.keeps 0 (take i classes) c.loop-class.numbers.items c.loop-class.invariant.each) one in
    let many : length c.methods.result.now ≡ length class.methods = ap (λ (ms : List MethodInfo). length ms) c.methods.ensures in
    let next : c.in_ok-next.next ≡ length (methods_of (take i classes ++ class ∷ [])) = omega (arith, c.in_ok-next.ensures, c.loop-class.invariant.first_is, many, methods_pushed (take i classes) class) in
    record {
      each = subst (λ (ns : List MemberNumbers). AreNumberedFrom after 0 (take (i + 1) classes) ns) (sym c.in_ok-push.ensures.items)
          (subst (λ (cs : List Class). AreNumberedFrom after 0 cs (c.loop-class.numbers.items ++ own ∷ [])) (sym taken) are);
      first_is = next ∙ ap (λ (cs : List Class). length (methods_of cs)) (sym taken);
    }

pub returns : goal.returns
returns c =
    let classes = c.args.classes.now in
    let past : length classes ≤ c.loop-class.class-index = omega (arith, c.loop-class-test.false) in
    subst (λ (cs : List Class). AreNumberedFrom c.loop-class.texts 0 cs c.loop-class.numbers.items) (take_all c.loop-class.class-index classes past) c.loop-class.invariant.each
