use Rattle.std.proofs.Common.{◌<◌, ◌≡◌, ◌∙◌, length, ap, refl, arith, List}
use Rattle.kb_picture.specs.declared.path.Out.{Out}
use Rattle.kb_picture.specs.declared.path.Made.{Made}
use Rattle.kb_numbered.specs.Numbered.{numbered_made}
use Rattle.kb_numbered.proofs.SetLaws.{changed_next}
use Rattle.kb_numbered.proofs.leaf.numbered_made.Goals as goal

pub loop-i-preserved : goal.loop-i-preserved
loop-i-preserved c =
    let f : Made → Made = numbered_made c.args.nodes.now c.args.numbering.now in
    let old : Made = c.index_mut-object.result.now in
    let many : length c.into_vec-objects.result.items ≡ length c.args.made = ap length c.into_vec-objects.ensures in
    let new : Made = record { kind = old.kind; values = c.number_outs.new.values } in
    let item : new ≡ f old = ap (λ (values : List Out). record { kind = old.kind; values = values }) c.number_outs.ensures in
    let inside : c.loop-i.i < length c.args.made = omega (arith, c.loop-i-test.true, c.len-i-end.ensures, many) in
    changed_next f c.args.made c.loop-i.objects.items c.loop-i.objects.items _ c.loop-i.i _ new c.loop-i.invariant refl (item ∙ ap f c.index_mut-object.ensures.value) refl inside
