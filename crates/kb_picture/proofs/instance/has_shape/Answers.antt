use Rattle.std.proofs.Common.{◌≡◌, IsTrue, length, Some, None, sym, ◌∙◌}
use Rattle.kb_picture.specs.Tables.{marks_of}
use Rattle.kb_picture.proofs.ShapeLaws.{not_apart, parts_of_shape, shape_of_parts}
use Rattle.kb_picture.proofs.TableLaws.{marks_tell}
use Rattle.kb_picture.proofs.instance.has_shape.Goals as goal

-- no table: two objects of the picture have one place
pub returns-in_default : goal.returns-in_default
returns-in_default c =
    let told = rw (c.as_slice.ensures, c.as_slice-objects.ensures) at c.in_ok-table.ensures in
    let none : marks_of (length c.args.input.now.heap.objects) c.args.places.now.objects ≡ None = sym told ∙ c.in_default.is in
    ((λ h. absurd cc), (λ shape. absurd (not_apart c.args.picture.now c.args.input.now c.args.places.now c.requires none shape)))

pub hold_each-requires : goal.hold_each-requires
hold_each-requires c =
    let told = rw (c.as_slice.ensures, c.as_slice-objects.ensures) at c.in_ok-table.ensures in
    let some : marks_of (length c.args.input.now.heap.objects) c.args.places.now.objects ≡ Some c.in-Some.table = sym told ∙ c.in-Some.is in
    rw (c.as_slice-2.ensures, c.as_slice-objects.ensures) (marks_tell (length c.args.input.now.heap.objects) c.args.places.now.objects c.in-Some.table some).0

pub returns-then-not-are_such : goal.returns-then-not-are_such
returns-then-not-are_such c =
    let such = rw (c.as_slice-4.ensures, c.as_slice-objects.ensures) at c.are_such.ensures in (
      (λ h. absurd cc),
      (λ shape. (let told : IsTrue c.are_such.result = such.1 (parts_of_shape c.args.picture.now c.args.input.now c.args.places.now c.requires shape).such in
          absurd cc)),
    )

pub each_stands-requires : goal.each_stands-requires
each_stands-requires c =
    let told = rw (c.as_slice.ensures, c.as_slice-objects.ensures) at c.in_ok-table.ensures in
    let some : marks_of (length c.args.input.now.heap.objects) c.args.places.now.objects ≡ Some c.in-Some.table = sym told ∙ c.in-Some.is in
    rw (c.as_slice-5.ensures, c.as_slice-objects.ensures) (marks_tell (length c.args.input.now.heap.objects) c.args.places.now.objects c.in-Some.table some).0

pub returns : goal.returns
returns c =
    let told = rw (c.as_slice.ensures, c.as_slice-objects.ensures) at c.in_ok-table.ensures in
    let some : marks_of (length c.args.input.now.heap.objects) c.args.places.now.objects ≡ Some c.in-Some.table = sym told ∙ c.in-Some.is in
    let seen = rw (c.as_slice-3.ensures, c.as_slice-objects.ensures) at c.hold_each.ensures in
    let such = rw (c.as_slice-4.ensures, c.as_slice-objects.ensures) at c.are_such.ensures in
    let stands = rw (c.as_slice-6.ensures, c.as_slice-7.ensures, c.as_slice-objects.ensures) at c.each_stands.ensures in (
      (λ h. shape_of_parts c.args.picture.now c.args.input.now c.args.places.now c.requires (record {
        seen = seen.0 c.if-not-hold_each.false;
        apart = (marks_tell (length c.args.input.now.heap.objects) c.args.places.now.objects c.in-Some.table some).1;
        such = such.0 c.if-not-are_such.false;
        stands = stands.0 h;
      })),
      (λ shape. stands.1 (parts_of_shape c.args.picture.now c.args.input.now c.args.places.now c.requires shape).stands),
    )
