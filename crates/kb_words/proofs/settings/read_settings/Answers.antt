use Rattle.std.proofs.Common.{sym, ◌∙◌, arith, rules}
use Rattle.std.specs.Prelude.{string_bytes}
use Rattle.kb_words.specs.Settings.{settings_of}
use Rattle.kb_words.proofs.SettingLaws.{goes_at, stops_at, told_fault}
use Rattle.kb_words.proofs.settings.read_settings.Goals as goal

pub returns-in-Err : goal.returns-in-Err
unfolding settings_of
returns-in-Err c =
    told_fault c.in-Err.fault _
    (sym c.loop-rest.invariant.0
    ∙ stops_at string_bytes c.args.is_target c.args.command c.loop-rest.settings c.loop-rest.place c.loop-rest.rest.now c.name-item.result c.in-Err.fault c.in-len1-up.len_at_least
    c.name-item.is (search rules) (search rules))

pub loop-rest-preserved : goal.loop-rest-preserved
loop-rest-preserved c = (
  goes_at string_bytes c.args.is_target c.args.command c.loop-rest.settings _ c.loop-rest.place c.loop-rest.rest.now c.name-item.result c.word-item.result c.in-Ok.option
      c.in_ok-setting_at.field-0 _ c.in-len1-up.len_at_least c.in-len1-up-behind.len_at_least c.name-item.is c.word-item.is (search rules) (search rules) (search rules) (search rules)
      c.loop-rest.invariant.0,
  omega (arith, c.loop-rest.invariant.1, c.in-len1-up.len_at_least, c.in-len1-up-behind.len_at_least),
)
