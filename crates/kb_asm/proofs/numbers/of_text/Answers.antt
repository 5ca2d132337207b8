use Rattle.std.proofs.Common.{ℕ, [], ◌∷◌, true, refl, sym, subst}
use Rattle.std.specs.List.{list_any}
use Rattle.std.proofs.lemmas.Bool.{and_from}
use Rattle.kb_asm_pool.specs.Says.{text, same}
use Rattle.kb_asm_pool.specs.Entries.{entries_of}
use Rattle.kb_asm.specs.Entries.{SaysText}
use Rattle.kb_asm.proofs.EntryLaws.{is_number}
use Rattle.kb_asm.proofs.numbers.of_text.Goals as goal

pub returns-clause-number : goal.returns-clause-number
returns-clause-number c =
    let says = c.args.pool.now.says in
    let one = text c.args.bytes.now in
    subst (λ (number : ℕ). SaysText (entries_of c.args.pool.now.says) c.args.bytes.now number) (sym c.number_of.ensures)
    (is_number says c.text.new.self.says (one ∷ []) one c.in_ok-place.place c.requires.whole (and_from (list_any (same one) says) true c.requires.there refl)
    c.in_ok-place.ensures.says c.in_ok-place.ensures.entry)
