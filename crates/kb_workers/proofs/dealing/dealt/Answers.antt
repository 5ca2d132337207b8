use Rattle.std.proofs.Common.{◌≡◌, suc, ◌-◌, [], replicate, sym, ap, ◌∙◌, ℕ, List, arith}
use Rattle.std.proofs.lemmas.List.{append-nil}
use Rattle.kb_workers.proofs.TurnLaws.{nothing_dealt}
use Rattle.kb_workers.proofs.dealing.dealt.Goals as goal

pub loop-piece-init : goal.loop-piece-init
loop-piece-init g c =
    let some : c.args.workers ≡ suc (c.args.workers - 1) = omega (arith, c.requires) in (
      [],
      sym (append-nil c.args.pieces.items),
      c.in_ok-hands.ensures ∙ ap (λ (n : ℕ). replicate n []) some ∙ sym (nothing_dealt (c.args.workers - 1)),
    )
