-- The ints of each lookupswitch of a listing rise.
use Rattle.std.proofs.Common.{◌≡◌, ℕ, ◌+◌, List, [], ◌∷◌, length, sym, subst}
use Rattle.std.specs.List.{AllByRecursion}
use Rattle.kb_grammar.specs.Grammar.{Each}
use Rattle.kb_code.specs.declared.instruction.Instr.{Instr}
use Rattle.kb_code.specs.declared.instruction.Instr.TheVariants as instrs
use Rattle.kb_code.specs.declared.form.Branch.{Branch}
use Rattle.kb_code.specs.declared.form.Branch.TheVariants as branches
use Rattle.kb_code.specs.declared.form.Loose.{Loose}
use Rattle.kb_code.specs.declared.form.Loose.TheVariants as looses
use Rattle.kb_code.specs.Forms.{branch_instr}
use Rattle.kb_code.specs.Listing.{IsIncreasing, SpellsItem, Stands, targets_of, HasRisingKeys}
use Rattle.kb_code.proofs.ListingLaws.{IsRead, loose_is_read}

branch_rises : (branch : Branch) (to : ℕ) → HasRisingKeys (branch_instr branch to)
branch_rises (branches.IfInt c) to = tt
branch_rises (branches.IfPair c) to = tt
branch_rises (branches.IfSame same) to = tt
branch_rises (branches.IfNull null) to = tt
branch_rises branches.Goto to = tt

straight_rises : (instr : Instr) → targets_of instr ≡ [] → HasRisingKeys instr
straight_rises (instrs.Lookup default pairs) none = absurd cc
straight_rises _ none = tt

stands_rises : (loose : Loose) (instr : Instr) → IsRead loose → Stands loose instr → HasRisingKeys instr
stands_rises (looses.Straight straight) instr read s = subst HasRisingKeys (sym s) (straight_rises straight read)
stands_rises (looses.Jump branch to) instr read s = subst HasRisingKeys (sym s.2) (branch_rises branch s.0)
stands_rises (looses.Table low default targets) instr read s = subst HasRisingKeys (sym s.4) tt
stands_rises (looses.Lookup default pairs) instr read s = subst HasRisingKeys (sym s.4) (subst IsIncreasing s.3 read)

pub items_rise : (items : List (ℕ × Instr)) (at : ℕ) (bytes : List ℕ) → Each SpellsItem items at bytes → AllByRecursion (λ item. HasRisingKeys item.1) items
items_rise [] at bytes each = tt
items_rise (item ∷ items) at bytes each =
    let spelled = each.begins.1 in
    (stands_rises spelled.loose item.1 (loose_is_read spelled.loose at each.front spelled.spelled) spelled.stands, items_rise items (at + length each.front) each.back each.ends)
