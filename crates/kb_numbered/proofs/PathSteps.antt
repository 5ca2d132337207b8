-- Steps of the loops that gather a path.
use Rattle.std.proofs.Common.{◌≡◌, List, [], ◌∷◌, ◌++◌, Option, Some, None, map, sym, ap, ◌∙◌, append_assoc}
use Rattle.std.specs.List.{flat_map, cons_option}
use Rattle.std.proofs.lemmas.List.{append-nil, map-append}
use Rattle.kb_terms.specs.declared.node.TermId.{TermId}
use Rattle.kb_picture.specs.declared.path.Out.{Out}
use Rattle.kb_picture.specs.Numbering.{terms_of_out}
use Rattle.kb_numbered.specs.Numbered.{term_id, terms_stated}

-- an item that may be there, at the end of those before it
pub push_option : {A : Type 0} (before : List A) (item : Option A) (rest : List A) → (before ++ cons_option item []) ++ rest ≡ before ++ cons_option item rest
push_option {A} before None rest = ap (λ (l : List A). l ++ rest) (append-nil before)
push_option before (Some item) rest = append_assoc before (item ∷ []) rest

-- the terms of one value more
pub next_stated : (before : List TermId) (value : Out) (rest : List Out) → (before ++ map term_id (terms_of_out value)) ++ terms_stated rest ≡ before ++ terms_stated (value ∷ rest)
next_stated before value rest =
    append_assoc before (map term_id (terms_of_out value)) (terms_stated rest)
    ∙ ap (λ (l : List TermId). before ++ l) (sym (map-append term_id (terms_of_out value) (flat_map terms_of_out rest)))
