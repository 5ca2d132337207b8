-- The verdicts of a pool, entry by entry.
use Rattle.std.proofs.Common.{◌≡◌, ◌↔◌, ℕ, zero, suc, ◌+◌, ◌<◌, List, [], ◌∷◌, ◌++◌, length, take, get_or, slice_get, IsTrue, sym, ap, subst, ◌∙◌}
use Rattle.std.proofs.lemmas.Grind.{take_at_read}
use Rattle.kb_classfile.specs.declared.file.PoolEntry.{PoolEntry}
use Rattle.kb_classfile.specs.Pool.{text_of, utf8_in}
use Rattle.kb_format.specs.declared.place.Demand.{Demand}
use Rattle.kb_format.specs.declared.verdicts.Verdict.{Verdict}
use Rattle.kb_format.specs.Rules.{IsFound}
use Rattle.kb_format.specs.Places.{Meets}
use Rattle.kb_format.specs.Verdicts.{meets_with, Judges, AreVerdicts}

-- each entry has its verdict
abbrev pub AreJudged : List PoolEntry → List Verdict → Type 0
AreJudged [] [] = Unit {0}
AreJudged [] (v ∷ verdicts) = ⊥
AreJudged (e ∷ pool) [] = ⊥
AreJudged (e ∷ pool) (v ∷ verdicts) = Judges (text_of e) v × AreJudged pool verdicts

judged_pushed : (pool : List PoolEntry) (verdicts : List Verdict) (e : PoolEntry) (v : Verdict) → AreJudged pool verdicts → Judges (text_of e) v → AreJudged (pool ++ e ∷ []) (verdicts ++ v ∷ [])
judged_pushed [] [] e v all one = (one, tt)
judged_pushed [] (w ∷ verdicts) e v all one = absurd all
judged_pushed (d ∷ pool) [] e v all one = absurd all
judged_pushed (d ∷ pool) (w ∷ verdicts) e v all one = (all.0, judged_pushed pool verdicts e v all.1 one)

-- one entry more
pub more_judged : (pool : List PoolEntry) (i : ℕ) (entry : PoolEntry) (verdicts : List Verdict) (verdict : Verdict) → i < length pool → entry ≡ get_or pool i entry
    → AreJudged (take i pool) verdicts → Judges (text_of entry) verdict → AreJudged (take (i + 1) pool) (verdicts ++ verdict ∷ [])
more_judged pool i entry verdicts verdict inside is all one =
    let taken : take (i + 1) pool ≡ take i pool ++ entry ∷ [] = (take_at_read pool i entry inside).1 ∙ ap (λ (e : PoolEntry). take i pool ++ e ∷ []) (sym is) in
    subst (λ (es : List PoolEntry). AreJudged es (verdicts ++ verdict ∷ [])) (sym taken) (judged_pushed (take i pool) verdicts entry verdict all one)

at_place : (pool : List PoolEntry) (verdicts : List Verdict) (i : ℕ) (demand : Demand) → AreJudged pool verdicts → IsTrue (meets_with (slice_get verdicts i) demand) ↔ IsFound (Meets demand) (utf8_in pool i)
at_place [] [] i demand all = ((λ h. absurd cc), (λ h. absurd h))
at_place [] (v ∷ verdicts) i demand all = absurd all
at_place (e ∷ pool) [] i demand all = absurd all
at_place (e ∷ pool) (v ∷ verdicts) zero demand all = all.0 demand
at_place (e ∷ pool) (v ∷ verdicts) (suc i) demand all = at_place pool verdicts i demand all.1

pub judged : (pool : List PoolEntry) (verdicts : List Verdict) → AreJudged pool verdicts → AreVerdicts pool verdicts
judged pool verdicts all = λ place. at_place pool verdicts place.text place.demand all
