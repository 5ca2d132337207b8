use Rattle.std.proofs.Common.{◌≡◌, Some, sym, ap, subst, ◌∙◌, arith}
use Rattle.std.proofs.lemmas.Option.{none-some, same_Some}
use Rattle.kb_names.specs.Shape.{Base}
use Rattle.kb_numbers.specs.Types.{IsNameOf, code_of}
use Rattle.kb_numbers.proofs.parts.symbol_of.Goals as goal

pub returns-in_err-dims-clause-whole : goal.returns-in_err-dims-clause-whole
returns-in_err-dims-clause-whole c = λ symbol is.
    let few = is.few in
    let dims = is.dims_are in
    absurd (let no : ⊥ = omega (arith, c.in_err-dims.ensures.none, few, dims) in no)

pub returns-in_err-name-clause-whole : goal.returns-in_err-name-clause-whole
returns-in_err-name-clause-whole c = λ symbol is.
    let bases = c.in_ok-dims.ensures.found.2 in
    absurd (none-some symbol.name (c.in_err-name.ensures.whole symbol.name is.fits (subst (λ (b : Base). IsNameOf c.args.texts.now b symbol.name) (sym bases) is.name_is)))

pub returns-clause-found : goal.returns-clause-found
returns-clause-found c =
    let element = c.in_ok-dims.ensures.found in
    let name = c.in_ok-name.ensures.found in
    record {
      dims_are = element.0;
      base_is = c.code_of.ensures ∙ ap code_of element.2;
      name_is = subst (λ (b : Base). IsNameOf c.args.texts.now b c.in_ok-name.name) element.2 name.0;
      few = element.1;
      fits = name.1;
    }

pub returns-clause-whole : goal.returns-clause-whole
returns-clause-whole c = λ symbol is.
    let element = c.in_ok-dims.ensures.found in
    let dims : c.in_ok-dims.dims ≡ symbol.dims = element.0 ∙ sym is.dims_are in
    let base : c.code_of.result ≡ symbol.base = c.code_of.ensures ∙ ap code_of element.2 ∙ sym is.base_is in
    let name : c.in_ok-name.name ≡ symbol.name =
    same_Some c.in_ok-name.name symbol.name (c.in_ok-name.ensures.whole symbol.name is.fits (subst (λ (b : Base). IsNameOf c.args.texts.now b symbol.name) (sym element.2) is.name_is)) in
    λ i. Some (record { dims = dims i; base = base i; name = name i })
