use Rattle.std.proofs.Common.{◌≡◌, ◌∙◌, Bool, false, true, sym, ap, ◌++◌, ◌∷◌, [], cond}
use Rattle.std.specs.List.{list_any}
use Rattle.kb_format.specs.declared.place.Member.{Member}
use Rattle.kb_format.proofs.Again.{Key, key_eq, one_more, met_again, not_in, is_in}
use Rattle.kb_format.proofs.members.first_again.Goals as goal

pub returns-then-not-is_new : goal.returns-then-not-is_new
returns-then-not-is_new c =
    let none : Member = record { name = 0; kind = 0 } in
    let keys = c.loop-member.met.keys in
    let old : list_any (key_eq c.key_of.result) keys ≡ true = is_in (list_any (key_eq c.key_of.result) keys) (sym c.in_ok-is_new.ensures.added ∙ c.if-not-is_new.true) in
    met_again c.args.numbers.now c.args.members.now c.loop-member.member-index none c.loop-member-test.true keys c.loop-member.invariant.0 c.loop-member.invariant.1
    (ap (λ (k : Key). list_any (key_eq k) keys) (sym c.key_of.ensures) ∙ old)

pub loop-member-preserved : goal.loop-member-preserved
loop-member-preserved c =
    let none : Member = record { name = 0; kind = 0 } in
    let keys = c.loop-member.met.keys in
    let new : list_any (key_eq c.key_of.result) keys ≡ false = not_in (list_any (key_eq c.key_of.result) keys) (sym c.in_ok-is_new.ensures.added ∙ c.if-not-is_new.false) in
    let grown : c.insert.new.self.keys ≡ keys ++ c.key_of.result ∷ [] = c.in_ok-is_new.ensures.keys ∙ ap (λ (b : Bool). cond b keys (keys ++ c.key_of.result ∷ [])) new in
    let more =
    one_more c.args.numbers.now c.args.members.now c.loop-member.member-index none c.loop-member-test.true keys c.loop-member.invariant.0 c.loop-member.invariant.1
    (ap (λ (k : Key). list_any (key_eq k) keys) (sym c.key_of.ensures) ∙ new) in
    (grown ∙ ap (λ (k : Key). keys ++ k ∷ []) c.key_of.ensures ∙ more.0, more.1)
