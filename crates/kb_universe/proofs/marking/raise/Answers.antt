use Rattle.std.proofs.Common.{◌≡◌, ◌<◌, ◌≤◌, ◌+◌, max, length, get_or, sym, ap, ◌∙◌, arith}
use Rattle.kb_names.specs.Types.{shape_of}
use Rattle.kb_names.specs.declared.types.ExactType.{ExactType}
use Rattle.kb_universe.specs.Marks.{dims_over}
use Rattle.kb_universe.proofs.MarkLaws.{element_inside, raised_over, unraised_over, same_default}
use Rattle.kb_universe.proofs.marking.raise.Goals as goal

pub index-requires : goal.index-requires
index-requires c =
    let inside : c.in-Some.element < length c.args.linked.now.classes + 2 = element_inside c.args.linked.now.classes (shape_of c.in-Array.component).base c.in-Some.element (sym c.in-Some.ensures) in
    omega (arith, inside, c.requires)

pub index_mut-requires : goal.index_mut-requires
index_mut-requires c =
    let inside : c.in-Some.element < length c.args.linked.now.classes + 2 = element_inside c.args.linked.now.classes (shape_of c.in-Array.component).base c.in-Some.element (sym c.in-Some.ensures) in
    omega (arith, inside, c.requires)

pub returns-then-index-dims-clause-raised : goal.returns-then-index-dims-clause-raised
returns-then-index-dims-clause-raised c =
    let most = c.args.most.now.items in
    let classes = c.args.linked.now.classes in
    let below : c.in-Some.element < length classes + 2 = element_inside classes (shape_of c.in-Array.component).base c.in-Some.element (sym c.in-Some.ensures) in
    let inside : c.in-Some.element < length most = omega (arith, below, c.requires) in
    let read : c.index.result.now ≡ get_or most c.in-Some.element 0 = c.index.ensures ∙ same_default most c.in-Some.element c.index.result.now inside in
    let told = c.if-index-dims.true in
    let less : get_or most c.in-Some.element 0 < c.in_ok-dims.dims = omega (arith, told, read) in
    λ e. raised_over classes most c.in-Array.component c.in-Some.element c.in_ok-dims.dims (sym c.in-Some.ensures) c.in_ok-dims.ensures inside less e
    ∙ ap (λ (t : ExactType). max (get_or most e 0) (dims_over classes e t)) (sym c.in-Array.is)

pub returns-else-index-dims-clause-raised : goal.returns-else-index-dims-clause-raised
returns-else-index-dims-clause-raised c =
    let most = c.args.most.now.items in
    let classes = c.args.linked.now.classes in
    let below : c.in-Some.element < length classes + 2 = element_inside classes (shape_of c.in-Array.component).base c.in-Some.element (sym c.in-Some.ensures) in
    let inside : c.in-Some.element < length most = omega (arith, below, c.requires) in
    let read : c.index.result.now ≡ get_or most c.in-Some.element 0 = c.index.ensures ∙ same_default most c.in-Some.element c.index.result.now inside in
    let told = c.if-index-dims.false in
    let enough : c.in_ok-dims.dims ≤ get_or most c.in-Some.element 0 = omega (arith, told, read) in
    λ e. unraised_over classes most c.in-Array.component c.in-Some.element c.in_ok-dims.dims (sym c.in-Some.ensures) c.in_ok-dims.ensures enough e
    ∙ ap (λ (t : ExactType). max (get_or most e 0) (dims_over classes e t)) (sym c.in-Array.is)
