use Rattle.std.proofs.Common.{◌≡◌, ◌<◌, ◌^◌, ℕ, List, Some, length, sym, ap, ◌∙◌, arith}
use Rattle.std.proofs.lemmas.Option.{none-some, same_Some, slice_get_within}
use Rattle.kb_numbers.proofs.numbering.Numbers.pair_of.Goals as goal

pub returns-in_err-name-clause-whole : goal.returns-in_err-name-clause-whole
returns-in_err-name-clause-whole c = λ pair is.
    let texts = c.args.self.now.texts in
    let within : pair.name < length texts = slice_get_within texts pair.name c.args.name.now is.0 in
    let fits : pair.name < 2 ^ 32 = omega (arith, within, c.requires) in
    absurd (none-some pair.name (c.in_err-name.ensures.whole pair.name fits (is.0 ∙ ap (λ (t : List ℕ). Some t) (sym c.as_slice.ensures.same))))

pub returns-in_err-kind-clause-whole : goal.returns-in_err-kind-clause-whole
returns-in_err-kind-clause-whole c = λ pair is. absurd (none-some pair.kind (c.in_err-kind.ensures.whole pair.kind is.1))

pub returns-clause-found : goal.returns-clause-found
returns-clause-found c = (c.in_ok-name.ensures.found.0 ∙ ap (λ (t : List ℕ). Some t) c.as_slice.ensures.same, c.in_ok-kind.ensures.found)

pub returns-clause-whole : goal.returns-clause-whole
returns-clause-whole c = λ pair is.
    let texts = c.args.self.now.texts in
    let within : pair.name < length texts = slice_get_within texts pair.name c.args.name.now is.0 in
    let fits : pair.name < 2 ^ 32 = omega (arith, within, c.requires) in
    let name : c.in_ok-name.name ≡ pair.name =
    same_Some c.in_ok-name.name pair.name (c.in_ok-name.ensures.whole pair.name fits (is.0 ∙ ap (λ (t : List ℕ). Some t) (sym c.as_slice.ensures.same))) in
    let kind : c.in_ok-kind.kind ≡ pair.kind = same_Some c.in_ok-kind.kind pair.kind (c.in_ok-kind.ensures.whole pair.kind is.1) in
    λ i. Some (record { name = name i; kind = kind i })
