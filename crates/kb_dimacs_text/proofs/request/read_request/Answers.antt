use Rattle.std.proofs.Common.{[], ◌∷◌, List, ℕ, sym, ◌∙◌, ap, map, get_or, arith, refl, string_bytes}
use Rattle.kb_dimacs_text.proofs.WordLaws.{two_words, order_with_check}
use Rattle.kb_dimacs_text.proofs.request.read_request.Goals as goal

pub returns-in-len2 : goal.returns-in-len2
returns-in-len2 c =
    let word = ap string_bytes (sym c.word-item-then-words-lt3.is) ∙ sym c.as_str-in-len2.ensures.value in
    let check = ap string_bytes (sym c.check-item.is) ∙ (sym c.as_str-then-words-lt3.ensures.value ∙ c.if-is_check.ensures.0 refl) in
    let words = two_words c.args.words.now c.word-item-then-words-lt3.result c.check-item.result (omega arith) (omega arith)
    ∙ (ap (λ (w : List ℕ). w ∷ string_bytes (get_or c.args.words.now 1 c.check-item.result) ∷ []) word ∙ ap (λ (w : List ℕ). c.as_str-in-len2.result.now ∷ w ∷ []) check) in
    order_with_check c.request_of-in-len2.result c.as_str-in-len2.result.now (map string_bytes c.args.words.now) words c.request_of-in-len2.ensures
