use Rattle.std.proofs.Common.{ℕ, ◌+◌, List, take, sym, subst}
use Rattle.std.specs.declared.vec.Vec.{Vec}
use Rattle.std.specs.declared.alloc.Global.{Global}
use Rattle.std.proofs.lemmas.List.{take_all}
use Rattle.kb_class.specs.declared.given.GivenClass.{GivenClass}
use Rattle.kb_class.specs.Given.{IsGivenBy, AreGivenBy}
use Rattle.kb_load.specs.Worlds.{contents_of}
use Rattle.kb_load.proofs.ClassLaws.{classes_next}
use Rattle.kb_load.proofs.given_classes.Goals as goal

pub loop-bytes-preserved : goal.loop-bytes-preserved
loop-bytes-preserved c =
    let i = c.loop-bytes.bytes-index in
    let files = c.args.files.now in
    let added = c.in_ok-add_class.ensures in
    let is = subst (λ (text : List ℕ). IsGivenBy text added.0) c.as_slice.ensures.value added.1 in
    subst (λ (given : List GivenClass). AreGivenBy (contents_of (take (i + 1) files)) given) (sym added.2)
    (classes_next files i c.bytes-item.result c.loop-bytes.classes.items added.0 c.loop-bytes-test.true c.bytes-item.is c.loop-bytes.invariant is)

pub returns : goal.returns
returns c =
    subst (λ (files : List (Vec ℕ Global)). AreGivenBy (contents_of files) c.loop-bytes.classes.items) (take_all c.loop-bytes.bytes-index c.args.files.now c.loop-bytes-test.false) c.loop-bytes.invariant
