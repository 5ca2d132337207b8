use Rattle.std.proofs.Common.{◌≡◌, ◌≤◌, ◌^◌, length}
use Rattle.std.specs.Option.{option_copied}
use Rattle.kb_report_known.specs.Counts.{NamedObjects, known_at}
use Rattle.kb_report_known.specs.Listing.{AreLeft, IsCount}
use Rattle.kb_report_known.proofs.objects.pass_all.Given as goal

abbrev pub invariant-loop-object : goal.invariant-loop-object
invariant-loop-object l =
    (objects : NamedObjects) → objects.count ≡ l.number → l.number ≤ 2 ^ 32 → AreLeft (known_at objects) l.number l.fn.before.next l.fn.entries → l.fn.before.next ≤ l.number → IsCount (option_copied l.fields) objects l.fn.before
    → AreLeft (known_at objects) l.number l.count.next l.rest × (l.count.next ≤ l.number) × IsCount (option_copied l.fields) objects l.count

abbrev pub decreases-loop-object : goal.decreases-loop-object
decreases-loop-object l = length l.rest
