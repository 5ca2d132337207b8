use Rattle.std.proofs.Common.{◌≡◌, ◌-◌, true, List, ◌∷◌, length, take, drop, sym, ◌∙◌, subst}
use Rattle.std.specs.List.{AllByRecursion, AllZip}
use Rattle.std.proofs.lemmas.Bool.{and_parts}
use Rattle.kb_asm_text.specs.declared.line.Line.{Line}
use Rattle.kb_asm_pool.specs.Says.{Says}
use Rattle.kb_asm_pool.specs.Needs.{line_needs}
use Rattle.kb_asm.specs.Parts.{parts}
use Rattle.kb_asm.specs.Needs.{have, have_all, IsWhole}
use Rattle.kb_asm.specs.Class.{method_in}
use Rattle.kb_asm.specs.Working.{Agree, IsFitLine, AreSound, IsReadyMethod}
use Rattle.kb_asm.proofs.LoopLaws.{walks, part_next, part_end}
use Rattle.kb_asm.proofs.methods.methods_of.Goals as goal

pub method_in-requires-clause-whole : goal.method_in-requires-clause-whole
method_in-requires-clause-whole c = subst IsWhole (sym c.loop-rest.invariant.same) c.requires.whole

pub method_in-requires-clause-there : goal.method_in-requires-clause-there
method_in-requires-clause-there c =
    let says = c.args.pool.now.says in
    let line = c.line-item.result in
    let rest = c.loop-rest.rest.now in
    let others = take (length rest - 1) (drop 1 rest) in
    let split : rest ≡ line ∷ others = walks rest line c.in-len1-up.len_at_least c.line-item.is in
    let there = and_parts (have says (line_needs line)) (have_all says others) (subst (λ (l : List Line). have_all says l ≡ true) split c.loop-rest.invariant.there) in
    subst (λ (s : List Says). have_all s others ≡ true) (sym c.loop-rest.invariant.same) there.1

pub method_in-requires-clause-needed : goal.method_in-requires-clause-needed
method_in-requires-clause-needed c =
    let says = c.args.pool.now.says in
    let line = c.line-item.result in
    let rest = c.loop-rest.rest.now in
    let others = take (length rest - 1) (drop 1 rest) in
    let split : rest ≡ line ∷ others = walks rest line c.in-len1-up.len_at_least c.line-item.is in
    let there = and_parts (have says (line_needs line)) (have_all says others) (subst (λ (l : List Line). have_all says l ≡ true) split c.loop-rest.invariant.there) in
    subst (λ (s : List Says). have s (line_needs line) ≡ true) (sym c.loop-rest.invariant.same) there.0

pub method_in-requires-clause-fit : goal.method_in-requires-clause-fit
method_in-requires-clause-fit c =
    let says = c.args.pool.now.says in
    let line = c.line-item.result in
    let rest = c.loop-rest.rest.now in
    let others = take (length rest - 1) (drop 1 rest) in
    let split : rest ≡ line ∷ others = walks rest line c.in-len1-up.len_at_least c.line-item.is in
    let fit = (subst (λ (l : List Line). AllByRecursion (IsFitLine says) l) split c.loop-rest.invariant.fit).1 in
    subst (λ (s : List Says). AllByRecursion (IsFitLine s) others) (sym c.loop-rest.invariant.same) fit

pub method_in-requires-clause-sound : goal.method_in-requires-clause-sound
method_in-requires-clause-sound c =
    let line = c.line-item.result in
    let rest = c.loop-rest.rest.now in
    let others = take (length rest - 1) (drop 1 rest) in
    let split : rest ≡ line ∷ others = walks rest line c.in-len1-up.len_at_least c.line-item.is in
    (subst AreSound split c.loop-rest.invariant.sound).0

pub loop-rest-preserved : goal.loop-rest-preserved
loop-rest-preserved c =
    let says = c.args.pool.now.says in
    let line = c.line-item.result in
    let rest = c.loop-rest.rest.now in
    let others = take (length rest - 1) (drop 1 rest) in
    let R = IsReadyMethod says in
    let split : rest ≡ line ∷ others = walks rest line c.in-len1-up.len_at_least c.line-item.is in
    let there = and_parts (have says (line_needs line)) (have_all says others) (subst (λ (l : List Line). have_all says l ≡ true) split c.loop-rest.invariant.there) in
    let agree = subst (λ (s : List Says). Agree (IsReadyMethod s) (method_in line others) c.in_ok-method.method) c.loop-rest.invariant.same c.in_ok-method.ensures.method in
    record {
      same = c.in_ok-method.ensures.same ∙ c.loop-rest.invariant.same;
      there = there.1;
      fit = (subst (λ (l : List Line). AllByRecursion (IsFitLine says) l) split c.loop-rest.invariant.fit).1;
      sound = (subst AreSound split c.loop-rest.invariant.sound).1;
      made = part_next method_in R rest others line c.loop-rest.methods c.push_part.new.row c.in_ok-method.method (AllZip R (parts method_in c.args.lines.now)) split
          c.in_ok-push_part.ensures c.loop-rest.invariant.made agree;
    }

pub returns-clause-methods : goal.returns-clause-methods
returns-clause-methods c =
    let R = IsReadyMethod c.args.pool.now.says in
    part_end method_in R c.loop-rest.rest.now c.loop-rest.methods (AllZip R (parts method_in c.args.lines.now)) c.in_default.len_below c.loop-rest.invariant.made
