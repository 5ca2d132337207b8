use Rattle.std.proofs.Common.{rules, nat_cmp, sym, subst}
use Rattle.std.proofs.lemmas.Fn.{always_returns_same}
use Rattle.std.specs.Cmp.Lexicographic.{slice_cmp}
use Rattle.kb_order.specs.Texts.{IsPlace}
use Rattle.kb_order.proofs.TextLaws.{place_found}
use Rattle.kb_order.proofs.texts.search.Goals as goal

pub returns : goal.returns
returns c =
    let texts = c.args.texts.now in
    let text = c.args.text.now in
    subst (λ z. IsPlace texts text z) (sym c.ok.ensures.value)
    (place_found texts text c.binary_search_by.result c.requires c.binary_search_by.ensures.bound
    (c.binary_search_by.ensures.position (λ one. slice_cmp nat_cmp one text) (always_returns_same _ _ _ (λ a r q h. search rules))))
