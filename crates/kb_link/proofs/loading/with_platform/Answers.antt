use Rattle.std.proofs.Common.{◌≡◌, ◌++◌, ◌∷◌, ◌+◌, ◌≤◌, [], List, ℕ, length, take, sym, ap, ◌∙◌, subst, append_assoc, arith}
use Rattle.std.proofs.lemmas.List.{length-append}
use Rattle.kb_class.specs.Class.{Class}
use Rattle.kb_class.specs.Platform.{PlatformClass, IsPlatform, platform_table}
use Rattle.kb_link.specs.Links.{ArePlatform}
use Rattle.kb_classes.proofs.Walks.{taken_next, all_taken}
use Rattle.kb_link.proofs.Loaded.{platform_many, table_many, taken_most, platform_pushed, there_below}
use Rattle.kb_link.proofs.loading.with_platform.Goals as goal

pub overflow_cast-id : goal.overflow_cast-id
overflow_cast-id c =
    let many : length c.loop-place.invariant.0 ≡ length (take c.loop-place.place platform_table) = platform_many (length c.args.classes.items) (take c.loop-place.place platform_table) c.loop-place.invariant.0 c.loop-place.invariant.2 in
    let most : length (take c.loop-place.place platform_table) ≤ c.loop-place.place = taken_most c.loop-place.place platform_table in
    let both : length c.loop-place.classes.items ≡ length c.args.classes.items + length c.loop-place.invariant.0 = ap length c.loop-place.invariant.1 ∙ length-append c.args.classes.items c.loop-place.invariant.0 in
    let len = c.len.ensures in
    omega (arith, many, most, both, len, c.requires, c.loop-place-test.true)

pub platform-requires : goal.platform-requires
platform-requires c = (let many : length platform_table ≡ 20 = table_many in omega (arith, many, c.loop-place-test.true))

pub loop-place-preserved : goal.loop-place-preserved
loop-place-preserved c =
    let own = c.args.classes.items in
    let platform = c.loop-place.invariant.0 in
    let far = take c.loop-place.place platform_table in
    let row = there_below platform_table c.loop-place.place (let many : length platform_table ≡ 20 = table_many in omega (arith, many, c.loop-place-test.true)) in
    let many : length platform ≡ length far = platform_many (length own) far platform c.loop-place.invariant.2 in
    let both : length c.loop-place.classes.items ≡ length own + length platform = ap length c.loop-place.invariant.1 ∙ length-append own platform in
    let len : c.len.result ≡ length own + length far = (let told = c.len.ensures in omega (arith, told, many, both)) in
    let class = c.in_ok-platform.field-0 in
    let is : IsPlatform (length own + length far) row.0 class = subst (λ (n : ℕ). IsPlatform n row.0 class) len (c.in_ok-platform.ensures row.0 row.1) in (
      platform ++ class ∷ [],
      c.in_ok-push.ensures.items ∙ ap (λ (cs : List Class). cs ++ class ∷ []) c.loop-place.invariant.1 ∙ append_assoc own platform (class ∷ []),
      subst (λ (rows : List PlatformClass). ArePlatform (length own) rows (platform ++ class ∷ [])) (sym (taken_next platform_table c.loop-place.place row.0 row.1))
          (platform_pushed (length own) far platform row.0 class c.loop-place.invariant.2 is),
    )

pub returns : goal.returns
returns c =
    let all : take c.loop-place.place platform_table ≡ platform_table = all_taken platform_table c.loop-place.place (let many : length platform_table ≡ 20 = table_many in omega (arith, many, c.loop-place-test.false)) in
    (c.loop-place.invariant.0, c.loop-place.invariant.1, subst (λ (rows : List PlatformClass). ArePlatform (length c.args.classes.items) rows c.loop-place.invariant.0) all c.loop-place.invariant.2)
