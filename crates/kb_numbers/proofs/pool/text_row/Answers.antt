use Rattle.std.proofs.Common.{◌≤◌, ℕ, List, [], length, take, sym, subst, arith}
use Rattle.std.specs.List.{AllZip}
use Rattle.std.proofs.lemmas.List.{take_all}
use Rattle.kb_classfile.specs.declared.file.PoolEntry.{PoolEntry}
use Rattle.kb_numbers.specs.Pools.{HasNumber}
use Rattle.kb_numbers.proofs.NumberLaws.{keeps_self, keeps_both}
use Rattle.kb_numbers.proofs.PoolLaws.{number_on, row_whole}
use Rattle.kb_numbers.proofs.ZipLaws.{zip_as, zip_next}
use Rattle.kb_numbers.proofs.pool.text_row.Goals as goal

pub loop-entry-init : goal.loop-entry-init
loop-entry-init c = record { each = subst (λ (row : List ℕ). AllZip (HasNumber c.args.texts.now) [] row) (sym c.new-row.ensures.items) tt; keeps = keeps_self c.args.texts.now }

pub loop-entry-preserved : goal.loop-entry-preserved
loop-entry-preserved c =
    let pool = c.args.pool.now in
    let before = c.loop-entry.texts in
    let after = c.entry_text.new.texts in
    let keeps = c.in_ok-number.ensures.keeps in
    record {
      each = zip_next (HasNumber after) pool c.loop-entry.row.items c.push.new.self.items c.loop-entry.entry-index c.entry-item.result c.in_ok-number.number c.loop-entry-test.true c.entry-item.is
          c.in_ok-push.ensures.items
          (zip_as (HasNumber before) (HasNumber after) (take c.loop-entry.entry-index pool) c.loop-entry.row.items (λ entry number is. number_on before after entry number keeps is) c.loop-entry.invariant.each)
          c.in_ok-number.ensures.number;
      keeps = keeps_both c.args.texts.now before after c.loop-entry.invariant.keeps keeps;
    }

pub returns-clause-row : goal.returns-clause-row
returns-clause-row c =
    let pool = c.args.pool.now in
    let past : length pool ≤ c.loop-entry.entry-index = omega (arith, c.loop-entry-test.false) in
    row_whole c.loop-entry.texts pool c.loop-entry.row.items
    (subst (λ (ps : List PoolEntry). AllZip (HasNumber c.loop-entry.texts) ps c.loop-entry.row.items) (take_all c.loop-entry.entry-index pool past) c.loop-entry.invariant.each)
