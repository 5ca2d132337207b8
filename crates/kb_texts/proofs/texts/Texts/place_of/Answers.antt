use Rattle.std.proofs.Common.{◌≡◌, ℕ, List, Some, IfSome, IfNone, slice_get, subst}
use Rattle.kb_texts.proofs.TextLaws.{text_found, text_missing}
use Rattle.kb_texts.proofs.texts.Texts.place_of.Goals as goal

pub returns-clause-found : goal.returns-clause-found
returns-clause-found c =
    subst (λ (ts : List (List ℕ)). IfSome c.get_index_of.result (λ place. slice_get ts place ≡ Some c.args.bytes.now)) c.self.view_is
    (text_found c.self.inside.set.keys c.args.bytes.now c.get_index_of.result c.get_index_of.ensures.index)

pub returns-clause-none : goal.returns-clause-none
returns-clause-none c =
    subst (λ (ts : List (List ℕ)). IfNone c.get_index_of.result ((place : ℕ) → slice_get ts place ≡ Some c.args.bytes.now → ⊥)) c.self.view_is
    (text_missing c.self.inside.set.keys c.args.bytes.now c.get_index_of.result c.get_index_of.ensures.found)
