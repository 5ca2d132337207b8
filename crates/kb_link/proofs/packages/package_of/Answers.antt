use Rattle.kb_classes.specs.Split.{package_of}
use Rattle.kb_link.proofs.SharingLaws.{package_found, package_less}
use Rattle.kb_link.proofs.packages.package_of.Goals as goal

pub returns-then-name-last-eq47 : goal.returns-then-name-last-eq47
returns-then-name-last-eq47 c = package_found c.args.name.now c.loop-back.back (package_of c.args.name.now) c.loop-back-test.true c.loop-back.invariant c.if-name-last-eq47.true

pub loop-back-preserved : goal.loop-back-preserved
loop-back-preserved c = package_less c.args.name.now c.loop-back.back (package_of c.args.name.now) c.loop-back-test.true c.loop-back.invariant c.if-name-last-eq47.false
