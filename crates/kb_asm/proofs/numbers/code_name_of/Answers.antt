use Rattle.std.proofs.Common.{ℕ, ◌<◌, ◌≤◌, ◌+◌, [], ◌∷◌, length, true, refl, sym, subst, codes, arith}
use Rattle.std.specs.List.{list_any}
use Rattle.std.proofs.lemmas.Bool.{and_from}
use Rattle.std.proofs.lemmas.Option.{slice_get_within}
use Rattle.kb_asm_pool.specs.Says.{text, same}
use Rattle.kb_asm_pool.specs.Entries.{entries_of}
use Rattle.kb_asm.specs.Entries.{SaysText}
use Rattle.kb_asm.proofs.SaysLaws.{added_few}
use Rattle.kb_asm.proofs.EntryLaws.{is_number}
use Rattle.kb_asm.proofs.numbers.code_name_of.Goals as goal

pub number_of-requires : goal.number_of-requires
number_of-requires c =
    let one = text (codes "Code") in
    let within : c.in_ok-place.place < length c.text.new.self.says = slice_get_within c.text.new.self.says c.in_ok-place.place one c.in_ok-place.ensures.entry in
    let longer : length c.text.new.self.says ≤ length c.args.pool.now.says + 1 = added_few c.args.pool.now.says c.text.new.self.says one c.in_ok-place.ensures.says in
    let few : length c.args.pool.now.says ≤ 65534 = c.requires.few in
    omega arith

pub returns : goal.returns
returns c = λ there.
    let says = c.args.pool.now.says in
    let one = text (codes "Code") in
    subst (λ (number : ℕ). SaysText (entries_of c.args.pool.now.says) (codes "Code") number) (sym c.number_of.ensures)
    (is_number says c.text.new.self.says (one ∷ []) one c.in_ok-place.place c.requires (and_from (list_any (same one) says) true there refl)
    c.in_ok-place.ensures.says c.in_ok-place.ensures.entry)
