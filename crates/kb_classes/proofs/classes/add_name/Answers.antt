use Rattle.std.proofs.Common.{◌≡◌, ℕ, List, true, false, Option, Some, None, is_some, refl, sym, ap, subst, ◌∙◌}
use Rattle.kb_classes.specs.World.{number_in}
use Rattle.kb_classes.specs.declared.refusal.LinkRefusal.TheVariants as refusals
use Rattle.kb_classes.specs.Refusals.{IsRefusalOf}
use Rattle.kb_classes.proofs.Named.{place_of_name, again_told}
use Rattle.kb_classes.proofs.classes.add_name.Goals as goal

none_of : (found : Option ℕ) → is_some found ≡ false → found ≡ None
none_of None e = refl
none_of (Some number) e = absurd cc

pub returns-then-is_some-clause-refused : goal.returns-then-is_some-clause-refused
returns-then-is_some-clause-refused c = λ classes class named has.
    again_told classes class c.get_index_of.result c.twice.result
    (c.get_index_of.ensures.index ∙ place_of_name c.args.names.now.keys classes c.args.name.now has.each ∙ ap (number_in classes) (sym named))
    (sym c.is_some.ensures ∙ c.if-is_some.true)
    (subst (λ (n : List ℕ). IsRefusalOf (λ m. refusals.Twice m) n c.twice.result) (sym named) c.twice.ensures)

pub returns-in-Ok-clause-more : goal.returns-in-Ok-clause-more
returns-in-Ok-clause-more c = λ classes class named few differ has.
    let found : c.get_index_of.result ≡ number_in classes c.args.name.now =
    c.get_index_of.ensures.index ∙ place_of_name c.args.names.now.keys classes c.args.name.now has.each in
    let fresh : number_in classes c.args.name.now ≡ None = sym found ∙ none_of c.get_index_of.result (sym c.is_some.ensures ∙ c.if-is_some.false) in
    c.in-Ok.ensures classes class named fresh few differ has
