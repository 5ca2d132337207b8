use Rattle.std.proofs.Common.{◌≡◌, ◌++◌, ◌∷◌, ◌+◌, [], List, ℕ, length, sym, ap, ◌∙◌, subst, append_assoc, arith}
use Rattle.std.specs.List.{AllByRecursion}
use Rattle.std.proofs.lemmas.List.{length-append}
use Rattle.kb_class.specs.declared.given.GivenClass.{GivenClass}
use Rattle.kb_class.specs.Given.{IsGiven}
use Rattle.kb_link.specs.Links.{KeepsFormat, AreClassesOf}
use Rattle.kb_class.specs.Loading.{IsClassOf}
use Rattle.kb_link.proofs.Loaded.{loads_all, no_items, classes_many, classes_pushed, all_middle}
use Rattle.kb_link.proofs.loading.load_all.Goals as goal

pub overflow_cast-id : goal.overflow_cast-id
overflow_cast-id c =
    let done = c.loop-class.invariant.0 in
    let many : length c.loop-class.classes.items ≡ length done = classes_many 0 done c.loop-class.classes.items c.loop-class.invariant.2 in
    let whole : length done + length c.loop-class.class-iterator.rest.items ≡ length c.args.given.items = sym (length-append done c.loop-class.class-iterator.rest.items) ∙ ap length c.loop-class.invariant.1 in
    let len = c.len.ensures in
    omega (arith, many, whole, len, c.requires.2)

pub load-requires-clause-given : goal.load-requires-clause-given
load-requires-clause-given c =
    let rest = c.next.new.self.rest.items in
    let whole : c.loop-class.invariant.0 ++ c.in-Some.class ∷ rest ≡ c.args.given.items = ap (λ (gs : List GivenClass). c.loop-class.invariant.0 ++ gs) (sym c.in-Some.ensures.steps.0) ∙ c.loop-class.invariant.1 in
    all_middle IsGiven c.loop-class.invariant.0 c.in-Some.class rest (subst (AllByRecursion IsGiven) (sym whole) c.requires.0)

pub load-requires-clause-rules : goal.load-requires-clause-rules
load-requires-clause-rules c =
    let rest = c.next.new.self.rest.items in
    let whole : c.loop-class.invariant.0 ++ c.in-Some.class ∷ rest ≡ c.args.given.items = ap (λ (gs : List GivenClass). c.loop-class.invariant.0 ++ gs) (sym c.in-Some.ensures.steps.0) ∙ c.loop-class.invariant.1 in
    all_middle KeepsFormat c.loop-class.invariant.0 c.in-Some.class rest (subst (AllByRecursion KeepsFormat) (sym whole) c.requires.1)

pub loop-class-preserved : goal.loop-class-preserved
loop-class-preserved c =
    let done = c.loop-class.invariant.0 in
    let rest = c.next.new.self.rest.items in
    let classes = c.loop-class.classes.items in
    let many : length classes ≡ length done = classes_many 0 done classes c.loop-class.invariant.2 in
    let len : c.len.result ≡ 0 + length done = (let told = c.len.ensures in omega (arith, told, many)) in
    let whole : (done ++ c.in-Some.class ∷ []) ++ rest ≡ c.args.given.items = append_assoc done (c.in-Some.class ∷ []) rest ∙ ap (λ (gs : List GivenClass). done ++ gs) (sym c.in-Some.ensures.steps.0) ∙ c.loop-class.invariant.1 in (
      done ++ c.in-Some.class ∷ [],
      whole,
      subst (AreClassesOf 0 (done ++ c.in-Some.class ∷ [])) (sym c.in_ok-push.ensures.items)
          (classes_pushed 0 done classes c.in-Some.class c.in_ok-load.field-0 c.loop-class.invariant.2 (subst (λ (n : ℕ). IsClassOf n c.in-Some.class c.in_ok-load.field-0) len c.in_ok-load.ensures)),
    )

pub with_platform-requires : goal.with_platform-requires
with_platform-requires c =
    let done = c.loop-class.invariant.0 in
    let many : length c.loop-class.classes.items ≡ length done = classes_many 0 done c.loop-class.classes.items c.loop-class.invariant.2 in
    let whole : length done + length c.loop-class.class-iterator.rest.items ≡ length c.args.given.items = sym (length-append done c.loop-class.class-iterator.rest.items) ∙ ap length c.loop-class.invariant.1 in
    omega (arith, many, whole, c.requires.2)

pub returns : goal.returns
returns c =
    let none : length c.loop-class.class-iterator.rest.items ≡ 0 = (let over = c.in-None.ensures.steps.0 in omega (arith, over)) in
    loads_all c.args.given.items c.loop-class.invariant.0 c.loop-class.class-iterator.rest.items c.loop-class.classes.items c.with_platform.result c.requires (no_items c.loop-class.class-iterator.rest.items none) c.loop-class.invariant.1 c.loop-class.invariant.2 c.with_platform.ensures
