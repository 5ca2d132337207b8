-- Lemmas on bytes that grow.
use Rattle.std.proofs.Common.{◌≡◌, ℕ, ◌+◌, ◌-◌, Option, Some, None, List, ◌++◌, length, take, drop, ◌∙◌, ap, append_assoc, length-drop, arith}
use Rattle.std.proofs.Math.Seq.{take-add}
use Rattle.std.proofs.lemmas.List.{take_all}
use Rattle.std.specs.Option.{option_map}
use Rattle.kb_outside.specs.Outside.{Grows}

-- what has gained one piece and then another has gained both
Grows-++ : (a b c : Option (List ℕ)) (xs ys : List ℕ) → Grows a b xs → Grows b c ys → Grows a c (xs ++ ys)
Grows-++ None b c xs ys g h = h ∙ ap (option_map (λ (v : List ℕ). v ++ ys)) g
Grows-++ (Some w) b c xs ys g h = h ∙ ap (option_map (λ (v : List ℕ). v ++ ys)) g ∙ ap Some (append_assoc w xs ys)

-- the front of a text, and then a front of the rest
pub Grows-further : (a b c : Option (List ℕ)) (text : List ℕ) (i n : ℕ)
    → Grows a b (take i text) → Grows b c (take n (take (length text - i) (drop i text))) → Grows a c (take (i + n) text)
Grows-further a b c text i n g h =
    let rest : take (length text - i) (drop i text) ≡ drop i text = take_all _ (drop i text) (omega (arith, length-drop i text)) in
    rw (take-add i n text) (Grows-++ a b c _ _ g (rw rest at h))
