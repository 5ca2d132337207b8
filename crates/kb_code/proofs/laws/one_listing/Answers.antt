use Rattle.std.proofs.Common.{◌≡◌, ℕ, List, Ok, Result, sym, ap, ◌∙◌}
use Rattle.kb_code.specs.Answers.{decoding}
use Rattle.kb_code.specs.declared.instruction.Instr.{Instr}
use Rattle.kb_code.specs.declared.listing.Listing.{Listing}
use Rattle.kb_code.specs.declared.refusal.CodeRefusal.{CodeRefusal}
use Rattle.kb_code.proofs.ListingLaws.{listed_decodes}
use Rattle.kb_code.proofs.laws.one_listing.Goals as goal

same_items : (xs ys : List (ℕ × Instr)) → (let one : Result (List (ℕ × Instr)) CodeRefusal = Ok xs in one ≡ Ok ys) → xs ≡ ys
same_items xs ys e = cc

abbrev listing_of : List (ℕ × Instr) → Listing
listing_of items = record { items = items }

pub returns : goal.returns
returns c = λ one other code handlers s t.
    ap listing_of (same_items one.items other.items (sym (listed_decodes one code handlers s) ∙ listed_decodes other code handlers t))
