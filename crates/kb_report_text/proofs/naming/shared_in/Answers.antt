use Rattle.std.proofs.Common.{rules, ◌≡◌, ◌+◌, List, ℕ, Some, None, slice_get, sym, subst, take}
use Rattle.kb_class.specs.declared.members.FieldInfo.{FieldInfo}
use Rattle.kb_report_text.specs.Tables.{AreNamesOfMore, AreShared}
use Rattle.kb_report_text.proofs.NameLaws.{shared_pushed, shared_all}
use Rattle.kb_report_text.proofs.naming.shared_in.Goals as goal

pub loop-class-preserved : goal.loop-class-preserved
loop-class-preserved c =
    let classes = c.args.world.now.classes in
    let class = c.in-Some.class.now in
    let there : slice_get classes c.loop-class.number ≡ Some class = search rules in
    let next : c.in-Some-checked_add.next ≡ c.loop-class.number + 1 = search rules in
    let names : AreNamesOfMore 1 class.fields c.in_ok-names.names = subst (λ (fs : List FieldInfo). AreNamesOfMore 1 fs c.in_ok-names.names) c.fields.ensures c.in_ok-names.ensures in
    subst (λ (n : ℕ). AreShared (take n classes) c.push.new.self.items) (sym next)
    (shared_pushed classes c.loop-class.number class c.loop-class.tables.items c.push.new.self.items c.in_ok-names.names there c.loop-class.invariant names c.in_ok-push.ensures.items)

pub returns : goal.returns
returns c =
    let classes = c.args.world.now.classes in
    let none : slice_get classes c.loop-class.number ≡ None = search rules in
    shared_all classes c.loop-class.number c.loop-class.tables.items none c.loop-class.invariant
