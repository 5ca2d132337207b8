use Rattle.std.proofs.Common.{◌≡◌, List, ◌++◌, take, length}
use Rattle.kb_class.specs.Class.{Class}
use Rattle.kb_class.specs.Platform.{platform_table}
use Rattle.kb_link.specs.Links.{ArePlatform}
use Rattle.kb_link.proofs.loading.with_platform.Given as goal

abbrev pub invariant-loop-place : goal.invariant-loop-place
invariant-loop-place l =
    (platform : List Class) × (l.classes.items ≡ l.fn.classes.items ++ platform) × ArePlatform (length l.fn.classes.items) (take l.place platform_table) platform
