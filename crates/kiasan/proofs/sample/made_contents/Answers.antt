use Rattle.std.proofs.Common.{Vec, Global, List, ℕ, Err, subst, ◌∙◌}
use Rattle.std.proofs.lemmas.Result.{err_from_is_err_and}
use Rattle.kb_asm.specs.Class.{IsAssembled}
use Rattle.kb_sample.specs.Sample.{sample_text}
use Rattle.kiasan.specs.declared.answer.Contents.{Contents}
use Rattle.kiasan.specs.Answers.{LineRefuses}
use Rattle.kiasan.specs.Refusals.{Gives}
use Rattle.kiasan.specs.Samples.{IsSampleMade}
use Rattle.kiasan.proofs.StageLaws.{gives_by}
use Rattle.kiasan.proofs.sample.made_contents.Goals as goal

pub returns-in_err-class : goal.returns-in_err-class
returns-in_err-class c =
    let p = err_from_is_err_and c.from_residual-in_err-class.result c.from_residual-in_err-class.ensures.1 in
    rw (p.1, p.2)
    (gives_by {A = Vec ℕ Global} {B = Contents} ⊥ ⊥ (LineRefuses (sample_text c.args.blocks)) (LineRefuses (sample_text c.args.blocks))
    (λ (bytes : Vec ℕ Global). IsAssembled (sample_text c.args.blocks) bytes.items) (IsSampleMade c.args.blocks) c.in_err-class.field-0.0 (λ wrong. wrong) (λ refusal refuses. refuses)
    (subst (λ (text : List ℕ). Gives {A = Vec ℕ Global} ⊥ (LineRefuses text) (λ bytes. IsAssembled text bytes.items) (Err c.in_err-class.field-0.0))
    (c.as_bytes.ensures.value ∙ c.in_ok-text.ensures) c.in_err-class.ensures))

pub returns : goal.returns
returns c = record {
  bytes = c.in_ok-class.class.items;
  assembled = subst (λ (text : List ℕ). IsAssembled text c.in_ok-class.class.items) (c.as_bytes.ensures.value ∙ c.in_ok-text.ensures) c.in_ok-class.ensures;
  texts_are = c.new.ensures;
  classes_are = c.in_ok-classes.ensures;
}
