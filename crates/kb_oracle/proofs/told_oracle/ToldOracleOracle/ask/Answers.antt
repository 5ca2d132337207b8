use Rattle.std.proofs.Common.{rules, ◌≡◌, ◌∙◌, ap, subst, Err, [], ◌∷◌, ◌++◌}
use Rattle.std.specs.Option.{option_copied}
use Rattle.kb_outside.specs.Outside.{next_count}
use Rattle.kb_blast.specs.Query.{query_of}
use Rattle.kb_oracle.specs.Answers.{unsure_after}
use Rattle.kb_oracle.specs.States.{ToldState, told_at, DoesAsTold}
use Rattle.kb_oracle.proofs.ToldLaws.{unserved, unfit-kept}
use Rattle.kb_oracle.proofs.told_oracle.ToldOracleOracle.ask.Goals as goal

pub returns-in_ok-push-in-Ok-clause-same_unfit : goal.returns-in_ok-push-in-Ok-clause-same_unfit
returns-in_ok-push-in-Ok-clause-same_unfit c = unfit-kept c.args.self.now.told c.self.inside.told.items (ap (λ (s : ToldState). s.told) c.self.view_is)

pub returns-in_err-copy-in-Ok-clause-same_unfit : goal.returns-in_err-copy-in-Ok-clause-same_unfit
returns-in_err-copy-in-Ok-clause-same_unfit c = unfit-kept c.args.self.now.told c.self.inside.told.items (ap (λ (s : ToldState). s.told) c.self.view_is)

pub returns-in_err-push-in-Ok-clause-same_unfit : goal.returns-in_err-push-in-Ok-clause-same_unfit
returns-in_err-push-in-Ok-clause-same_unfit c = unfit-kept c.args.self.now.told c.self.inside.told.items (ap (λ (s : ToldState). s.told) c.self.view_is)

pub returns-in-Err-clause-same_unfit : goal.returns-in-Err-clause-same_unfit
returns-in-Err-clause-same_unfit c = unfit-kept c.args.self.now.told c.self.inside.told.items (ap (λ (s : ToldState). s.told) c.self.view_is)

pub returns-in_ok-push-in-Ok-clause-after : goal.returns-in_ok-push-in-Ok-clause-after
returns-in_ok-push-in-Ok-clause-after c =
    let s = c.args.self.now in
    let budget : c.self.inside.budget ≡ s.budget = ap (λ (s : ToldState). s.budget) c.self.view_is in
    let told : c.self.inside.told.items ≡ s.told = ap (λ (s : ToldState). s.told) c.self.view_is in
    let calls : c.saturating_add-self-inside.result ≡ next_count s.calls = rw (← c.self.view_is) (search rules) in
    let bad : c.self.inside.bad ≡ s.bad = ap (λ (s : ToldState). s.bad) c.self.view_is in
    let unsure : c.unsure_after-self-inside.result ≡ unsure_after s.unsure c.in-Ok.answer = rw (← c.self.view_is) (search rules) in
    let given : c.push.new.self.items ≡ s.given ++ c.in-Ok.answer ∷ [] = rw (← c.self.view_is, ← c.in_ok-copy-in-Ok.ensures) c.in_ok-push-in-Ok.ensures.items in
    cc

pub returns-in-Err-clause-unserved : goal.returns-in-Err-clause-unserved
returns-in-Err-clause-unserved c =
    let all : c.deref.result.now ≡ c.args.self.now.told = c.deref.ensures.value ∙ ap (λ (s : ToldState). s.told) c.self.view_is in
    let told : option_copied c.told_at.result ≡ told_at c.args.self.now.told c.self.inside.calls = c.told_at.ensures ∙ ap (λ ts. told_at ts c.self.inside.calls) all in
    let q = query_of c.args.pool.now c.args.when.now in
    unserved q c.self.inside.budget c.args.self.now.told c.self.inside.calls c.in-Err.stop
    (subst (λ t. DoesAsTold q c.self.inside.budget t (Err c.in-Err.stop)) told c.in-Err.ensures.told)
