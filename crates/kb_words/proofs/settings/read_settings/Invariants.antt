use Rattle.std.proofs.Common.{◌≡◌, ◌+◌, [], length, map}
use Rattle.std.specs.Prelude.{string_bytes}
use Rattle.kb_words.specs.Settings.{settings_from}
use Rattle.kb_words.proofs.settings.read_settings.Given as goal

abbrev pub invariant-loop-rest : goal.invariant-loop-rest
invariant-loop-rest l =
    (settings_from l.is_target l.command l.settings l.place (map string_bytes l.rest) ≡ settings_from l.is_target l.command [] 1 (map string_bytes l.words))
    × (l.place + length l.rest ≡ 1 + length l.words)

abbrev pub decreases-loop-rest : goal.decreases-loop-rest
decreases-loop-rest l = length l.rest
