-- From what the reading definition gives to what a result says of the code.
use Rattle.std.proofs.Common.{◌≡◌, ℕ, List, length, Result, Ok, Err, IfOk, IfErr, ap, subst}
use Rattle.kb_code.specs.declared.listing.Listing.{Listing}
use Rattle.kb_code.specs.declared.listing.Handler.{Handler}
use Rattle.kb_code.specs.declared.instruction.Instr.{Instr}
use Rattle.kb_code.specs.declared.refusal.CodeRefusal.{CodeRefusal}
use Rattle.kb_code.specs.declared.refusal.CodeRefusal.TheVariants as refusals
use Rattle.kb_code.specs.Listing.{Lists, IsLaidOut}
use Rattle.kb_code.specs.Reading.{Gives, Fails}
use Rattle.kb_code.specs.Answers.{decoding, Refuses, fault_in}
use Rattle.kb_code.proofs.ListingLaws.{decoded_lists, listed_decodes}
use Rattle.kb_code.proofs.Listings.{listed_laid_out}

-- the result is that of the definition
abbrev pub IsDecoded : Result Listing CodeRefusal → List ℕ → List Handler → Type 0
IsDecoded result code handlers = Gives (λ (listing : Listing). listing.items) result (decoding code handlers)

pub decoded_is_listed : (result : Result Listing CodeRefusal) (code : List ℕ) (handlers : List Handler) → IsDecoded result code handlers
    → IfOk result (λ listing. Lists listing code handlers)
decoded_is_listed (Ok listing) code handlers is = decoded_lists listing code handlers is
decoded_is_listed (Err refusal) code handlers is = tt

pub decoded_is_laid_out : (result : Result Listing CodeRefusal) (code : List ℕ) (handlers : List Handler) → IsDecoded result code handlers
    → IfOk result (λ listing. IsLaidOut listing.items (length code))
decoded_is_laid_out (Ok listing) code handlers is = listed_laid_out listing.items code (decoded_lists listing code handlers is).instructions
decoded_is_laid_out (Err refusal) code handlers is = tt

same_items : (listing other : Listing) → (let told : Result (List (ℕ × Instr)) CodeRefusal = Ok listing.items in told ≡ Ok other.items)
    → (let told : Result Listing CodeRefusal = Ok listing in told ≡ Ok other)
same_items listing other h = let same : listing.items ≡ other.items = cc in ap (λ (items : List (ℕ × Instr)). Ok (record { items = items })) same

pub listed_is_decoded : (result : Result Listing CodeRefusal) (code : List ℕ) (handlers : List Handler) → IsDecoded result code handlers
    → (listing : Listing) → Lists listing code handlers → Gives (λ (found : Listing). found) result (Ok listing)
listed_is_decoded result code handlers is listing lists =
    only result (subst (λ (read : Result (List (ℕ × Instr)) CodeRefusal). Gives (λ (l : Listing). l.items) result read) (listed_decodes listing code handlers lists) is)
  where
    fails : (refusal : CodeRefusal) → (let told : Result (List (ℕ × Instr)) CodeRefusal = Ok listing.items in Fails refusal told) → (let told : Result Listing CodeRefusal = Ok listing in Fails refusal told)
    fails refusals.NoMemory h = tt
    fails refusal h = absurd cc

    only : (result : Result Listing CodeRefusal) → Gives (λ (l : Listing). l.items) result (Ok listing.items) → Gives (λ (found : Listing). found) result (Ok listing)
    only (Ok found) h = same_items listing found h
    only (Err refusal) h = fails refusal h

refusal_is_first : (refusal : CodeRefusal) (code : List ℕ) (handlers : List Handler) → IsDecoded (Err refusal) code handlers → Refuses code handlers refusal
refusal_is_first refusals.NoMemory code handlers is = tt
refusal_is_first refusal code handlers is = ap fault_in is

pub refused_is_first : (result : Result Listing CodeRefusal) (code : List ℕ) (handlers : List Handler) → IsDecoded result code handlers
    → IfErr result (Refuses code handlers)
refused_is_first (Ok listing) code handlers is = tt
refused_is_first (Err refusal) code handlers is = refusal_is_first refusal code handlers is
