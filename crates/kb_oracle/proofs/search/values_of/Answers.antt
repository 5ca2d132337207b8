use Rattle.std.proofs.Common.{rules, ◌≡◌, ◌∙◌, ap, pos, length}
use Rattle.std.specs.Prelude.{replicate}
use Rattle.kb_terms.specs.Terms.{int_at}
use Rattle.kb_oracle.proofs.AnswerLaws.{int_at-zeros, take-front}
use Rattle.kb_oracle.proofs.search.values_of.Goals as goal

pub returns-clause-others : goal.returns-clause-others
returns-clause-others c = λ v away.
    let items : c.in_ok-values.values.items ≡ replicate c.args.variables (pos 0) = c.in_ok-values.ensures.items_if_clones_equal (search rules) in
    let start : int_at c.deref_mut.result.now v ≡ pos 0 = ap (λ xs. int_at xs v) (c.deref_mut.ensures.value ∙ items) ∙ int_at-zeros c.args.variables v in
    let kept : int_at c.read_back.new.into v ≡ int_at c.deref_mut.result.now v = c.read_back.ensures.others v away in
    let long : length c.read_back.new.into ≡ c.in_ok-values.values.len = c.read_back.ensures.length ∙ c.deref_mut.ensures.len in
    let written : c.from_vec.result ≡ c.read_back.new.into = c.from_vec.ensures ∙ take-front c.read_back.new.into _ c.in_ok-values.values.len long in
    ap (λ xs. int_at xs v) written ∙ (kept ∙ start)
