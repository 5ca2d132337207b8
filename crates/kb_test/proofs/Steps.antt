-- How fronts go on from line to line over what a text of tests says.
use Rattle.std.proofs.Common.{◌≡◌, ◌≢◌, ◌⊎◌, inl, inr, ℕ, zero, suc, ◌+◌, ◌-◌, ◌<◌, ◌≤◌, ◌^◌, Bool, true, false, ◌==◌, ◌&&◌, eqb, Option, None, Some, List, [], ◌∷◌, ◌++◌, length, length-append, map, refl, sym, ◌∙◌, ap, arith, append_assoc, append-nil, subst}
use Rattle.std.specs.Prelude.{nat_lt, IsTrue}
use Rattle.std.specs.Option.{option_and_then}
use Rattle.std.specs.List.{list_all, flat_map}
use Rattle.std.proofs.lemmas.Bool.{eq-eqb, lt-ltb, ltb-true}
use Rattle.kb_names.specs.declared.types.Target.{Target}
use Rattle.kb_heap.specs.declared.bounds.RunBounds.{RunBounds}
use Rattle.kb_test_lines.specs.declared.words.Reference.{Reference}
use Rattle.kb_test_lines.specs.declared.words.Reference.TheVariants.{Input, Literal, Made}
use Rattle.kb_test_lines.specs.declared.words.Word.{Word}
use Rattle.kb_test_lines.specs.declared.words.Word.TheVariants.{Int, Null, Object}
use Rattle.kb_test_lines.specs.declared.words.Limits.{Limits}
use Rattle.kb_test_lines.specs.declared.lines.Listed.{Listed}
use Rattle.kb_test_lines.specs.declared.outcomes.Outcome.{Outcome}
use Rattle.kb_test_lines.specs.declared.outcomes.Outcome.TheVariants.{Returns, Throws, IllTyped, Past}
use Rattle.kb_test_lines.specs.declared.lines.Line.{Line}
use Rattle.kb_test_lines.specs.declared.lines.Line.TheVariants.{Method, Limit, Arg, In, Ends, Out, New, End}
use Rattle.kb_test.specs.declared.script.Script.{Script}
use Rattle.kb_test.specs.declared.script.Begun.{Begun}
use Rattle.kb_test.specs.declared.test_case.Test.{Test}
use Rattle.kb_test.specs.declared.fronts.Open.{Open}
use Rattle.kb_test.specs.declared.fronts.Open.TheVariants.{Between, Named, Started, Ended}
use Rattle.kb_test.specs.declared.fronts.Front.{Front}
use Rattle.kb_test_lines.specs.Words.{is_below, word_below, words_below}
use Rattle.kb_test_lines.specs.Lines.{listed_below, outcome_below}
use Rattle.kb_test.specs.Scripts.{in_lines, out_lines, new_lines, last_lines, script_lines, script_below, limits_of, IsScript, AreScripts, scripts_lines}
use Rattle.kb_test.specs.Tests.{test_of, tests_of}
use Rattle.kb_test.specs.Fronts.{open_limits, ended_limits, with_arg, with_input, with_outcome, with_out, with_new, may_have_arg, may_have_input, may_end_so, may_have_out, may_have_new, may_be_whole, if_may, begun_step, ended_step, between_step, named_step, with_open, step, begun_lines, ended_lines, open_lines, IsBegun, IsEnded, IsOpen}

-- ---- limits

pub both : (a b : Bool) → (a && b) ≡ true → (a ≡ true) × (b ≡ true)
both true b h = (refl, h)
both false b h = cc

pub and_both : (a b : Bool) → a ≡ true → b ≡ true → (a && b) ≡ true
and_both a b p q = rw (p, q) refl

pub record IsWider (narrow wide : Limits) : Type 0 where
  pub inputs : narrow.inputs ≤ wide.inputs
  pub literals : narrow.literals ≤ wide.literals
  pub made : narrow.made ≤ wide.made

lt_wider : (number low high : ℕ) → low ≤ high → nat_lt number low ≡ true → nat_lt number high ≡ true
lt_wider number low high le h = lt-ltb number high (let less : number < low = ltb-true number low h in omega (arith, le))

pub below_wider : (narrow wide : Limits) → IsWider narrow wide → (reference : Reference) → is_below narrow reference ≡ true → is_below wide reference ≡ true
below_wider narrow wide w (Input number) h = lt_wider number narrow.inputs wide.inputs w.inputs h
below_wider narrow wide w (Literal number) h = lt_wider number narrow.literals wide.literals w.literals h
below_wider narrow wide w (Made number) h = lt_wider number narrow.made wide.made w.made h

pub word_wider : (narrow wide : Limits) → IsWider narrow wide → (word : Word) → word_below narrow word ≡ true → word_below wide word ≡ true
word_wider narrow wide w (Int number) h = refl
word_wider narrow wide w Null h = refl
word_wider narrow wide w (Object reference) h = below_wider narrow wide w reference h

pub all_wider : {A : Type 0} (p q : A → Bool) → ((x : A) → p x ≡ true → q x ≡ true) → (xs : List A) → list_all p xs ≡ true → list_all q xs ≡ true
all_wider p q f [] h = refl
all_wider p q f (x ∷ xs) h =
    let parts = both (p x) (list_all p xs) h in
    and_both (q x) (list_all q xs) (f x parts.0) (all_wider p q f xs parts.1)

pub words_wider : (narrow wide : Limits) → IsWider narrow wide → (words : List Word) → words_below narrow words ≡ true → words_below wide words ≡ true
words_wider narrow wide w words h = all_wider (word_below narrow) (word_below wide) (word_wider narrow wide w) words h

pub listed_wider : (narrow wide : Limits) → IsWider narrow wide → (listed : Listed) → listed_below narrow listed ≡ true → listed_below wide listed ≡ true
listed_wider narrow wide w listed h = words_wider narrow wide w listed.values h

pub outcome_wider : (narrow wide : Limits) → IsWider narrow wide → (outcome : Outcome) → outcome_below narrow outcome ≡ true → outcome_below wide outcome ≡ true
outcome_wider narrow wide w (Returns None) h = refl
outcome_wider narrow wide w (Returns (Some word)) h = word_wider narrow wide w word h
outcome_wider narrow wide w (Throws reference) h = below_wider narrow wide w reference h
outcome_wider narrow wide w (IllTyped place) h = refl
outcome_wider narrow wide w (Past bound) h = refl

-- the parts of a text that name objects
pub record AreBelow (limits : Limits) (script : Script) : Type 0 where
  pub args : words_below limits script.args ≡ true
  pub inputs : list_all (listed_below limits) script.inputs ≡ true
  pub outcome : outcome_below limits script.outcome ≡ true
  pub outs : list_all (words_below limits) script.outs ≡ true
  pub news : list_all (listed_below limits) script.news ≡ true

pub are_below : (limits : Limits) (script : Script) → script_below limits script ≡ true → AreBelow limits script
are_below limits script h =
    let one = both (words_below limits script.args) _ h in
    let two = both (list_all (listed_below limits) script.inputs) _ one.1 in
    let three = both (outcome_below limits script.outcome) _ two.1 in
    let four = both (list_all (words_below limits) script.outs) _ three.1 in
    record { args = one.0; inputs = two.0; outcome = three.0; outs = four.0; news = four.1 }

pub is_below_all : (limits : Limits) (script : Script) → AreBelow limits script → script_below limits script ≡ true
is_below_all limits script are =
    and_both (words_below limits script.args) _ are.args
    (and_both (list_all (listed_below limits) script.inputs) _ are.inputs
    (and_both (outcome_below limits script.outcome) _ are.outcome (and_both (list_all (words_below limits) script.outs) _ are.outs are.news)))

pub are_wider : (narrow wide : Limits) (script : Script) → IsWider narrow wide → AreBelow narrow script → AreBelow wide script
are_wider narrow wide script w are = record {
  args = words_wider narrow wide w script.args are.args;
  inputs = all_wider (listed_below narrow) (listed_below wide) (listed_wider narrow wide w) script.inputs are.inputs;
  outcome = outcome_wider narrow wide w script.outcome are.outcome;
  outs = all_wider (words_below narrow) (words_below wide) (words_wider narrow wide w) script.outs are.outs;
  news = all_wider (listed_below narrow) (listed_below wide) (listed_wider narrow wide w) script.news are.news;
}

-- ---- steps

pub if_yes : {A : Type 0} (test : Bool) (value : A) → test ≡ true → if_may test value ≡ Some value
if_yes true value h = refl
if_yes false value h = cc

abbrev pub front_of : List Test → Open → Front
front_of tests open_test = record { tests = tests; open_test = open_test }

module _ (literals : ℕ) where
  abbrev pub steps : Front → List Line → Option Front
  steps front [] = Some front
  steps front (line ∷ lines) = option_and_then (λ (next : Front). steps next lines) (step literals front line)

  pub one_step : (front next : Front) (line : Line) (lines : List Line) → step literals front line ≡ Some next → steps front (line ∷ lines) ≡ steps next lines
  one_step front next line lines e = ap (option_and_then (λ (f : Front). steps f lines)) e

  pub steps_then : (front next : Front) (xs ys : List Line) → steps front xs ≡ Some next → steps front (xs ++ ys) ≡ steps next ys
  steps_then front next [] ys e = let same : front ≡ next = cc in ap (λ (f : Front). steps f ys) same
  steps_then front next (x ∷ xs) ys e = go (λ (f : Front). steps_then f next xs ys) (step literals front x) e
    where
      go : ((f : Front) → steps f xs ≡ Some next → steps f (xs ++ ys) ≡ steps next ys)
          → (o : Option Front) → option_and_then (λ (f : Front). steps f xs) o ≡ Some next → option_and_then (λ (f : Front). steps f (xs ++ ys)) o ≡ steps next ys
      go more None h = cc
      go more (Some f) h = more f h

  abbrev started : Target → RunBounds → List Word → List Listed → Open
  started target bounds args inputs = Started (record { target = target; bounds = bounds; args = args; inputs = inputs })

  abbrev ended : Begun → Outcome → List (List Word) → List Listed → Open
  ended begun outcome outs news =
      Ended (record { target = begun.target; bounds = begun.bounds; args = begun.args; inputs = begun.inputs; outcome = outcome; outs = outs; news = news })

  pub args_run : (tests : List Test) (target : Target) (bounds : RunBounds) (before words : List Word) (rest : List Line) → words_below (open_limits literals) words ≡ true
      → steps (front_of tests (started target bounds before [])) (map Arg words ++ rest) ≡ steps (front_of tests (started target bounds (before ++ words) [])) rest
  unfolding begun_step
  args_run tests target bounds before [] rest h = ap (λ (args : List Word). steps (front_of tests (started target bounds args [])) rest) (sym (append-nil before))
  args_run tests target bounds before (word ∷ words) rest h =
      let parts = both (word_below (open_limits literals) word) (words_below (open_limits literals) words) h in
      let begun : Begun = record { target = target; bounds = bounds; args = before; inputs = [] } in
      one_step (front_of tests (started target bounds before [])) (front_of tests (started target bounds (before ++ word ∷ []) [])) (Arg word) (map Arg words ++ rest)
      (ap (with_open tests) (if_yes (word_below (open_limits literals) word) (Started (with_arg begun word)) parts.0))
      ∙ args_run tests target bounds (before ++ word ∷ []) words rest parts.1
      ∙ ap (λ (args : List Word). steps (front_of tests (started target bounds args [])) rest) (append_assoc before (word ∷ []) words)

  pub inputs_run : (tests : List Test) (target : Target) (bounds : RunBounds) (args : List Word) (number : ℕ) (before listeds : List Listed) (rest : List Line)
      → number ≡ length before → list_all (listed_below (open_limits literals)) listeds ≡ true
      → steps (front_of tests (started target bounds args before)) (in_lines number listeds ++ rest) ≡ steps (front_of tests (started target bounds args (before ++ listeds))) rest
  unfolding begun_step
  inputs_run tests target bounds args number before [] rest e h = ap (λ (inputs : List Listed). steps (front_of tests (started target bounds args inputs)) rest) (sym (append-nil before))
  inputs_run tests target bounds args number before (listed ∷ others) rest e h =
      let parts = both (listed_below (open_limits literals) listed) (list_all (listed_below (open_limits literals)) others) h in
      let begun : Begun = record { target = target; bounds = bounds; args = args; inputs = before } in
      one_step (front_of tests (started target bounds args before)) (front_of tests (started target bounds args (before ++ listed ∷ []))) (In number listed) (in_lines (suc number) others ++ rest)
      (ap (with_open tests) (if_yes (may_have_input literals begun number listed) (Started (with_input begun listed))
      (and_both (number == length before) (listed_below (open_limits literals) listed) (eq-eqb number (length before) e) parts.0)))
      ∙ inputs_run tests target bounds args (suc number) (before ++ listed ∷ []) others rest (omega (arith, e, length-append before (listed ∷ []))) parts.1
      ∙ ap (λ (inputs : List Listed). steps (front_of tests (started target bounds args inputs)) rest) (append_assoc before (listed ∷ []) others)

  pub ending_run : (tests : List Test) (begun : Begun) (outcome : Outcome) (rest : List Line) → may_end_so literals begun outcome ≡ true
      → steps (front_of tests (Started begun)) (Ends outcome ∷ rest) ≡ steps (front_of tests (ended begun outcome [] [])) rest
  unfolding begun_step
  ending_run tests begun outcome rest h =
      one_step (front_of tests (Started begun)) (front_of tests (ended begun outcome [] [])) (Ends outcome) rest
      (ap (with_open tests) (if_yes (may_end_so literals begun outcome) (Ended (with_outcome begun outcome)) h))

  pub outs_run : (tests : List Test) (begun : Begun) (outcome : Outcome) (number : ℕ) (before lists : List (List Word)) (rest : List Line)
      → number ≡ length before → length before + length lists ≤ length begun.inputs → list_all (words_below (ended_limits literals (length begun.inputs))) lists ≡ true
      → steps (front_of tests (ended begun outcome before [])) (out_lines number lists ++ rest) ≡ steps (front_of tests (ended begun outcome (before ++ lists) [])) rest
  unfolding ended_step
  outs_run tests begun outcome number before [] rest e few h = ap (λ (outs : List (List Word)). steps (front_of tests (ended begun outcome outs [])) rest) (sym (append-nil before))
  outs_run tests begun outcome number before (words ∷ others) rest e few h =
      let limits : Limits = ended_limits literals (length begun.inputs) in
      let parts = both (words_below limits words) (list_all (words_below limits) others) h in
      let script : Script = with_outs before in
      one_step (front_of tests (ended begun outcome before [])) (front_of tests (ended begun outcome (before ++ words ∷ []) [])) (Out number words) (out_lines (suc number) others ++ rest)
      (if_yes (may_have_out literals script number words) (front_of tests (Ended (with_out script words)))
      (and_both (number == length before) _ (eq-eqb number (length before) e)
      (and_both (nat_lt (length before) (length begun.inputs)) _ (lt-ltb (length before) (length begun.inputs) (omega (arith, few))) parts.0)))
      ∙ outs_run tests begun outcome (suc number) (before ++ words ∷ []) others rest (omega (arith, e, length-append before (words ∷ []))) (omega (arith, few, length-append before (words ∷ []))) parts.1
      ∙ ap (λ (outs : List (List Word)). steps (front_of tests (ended begun outcome outs [])) rest) (append_assoc before (words ∷ []) others)
    where
      with_outs : List (List Word) → Script
      with_outs outs = record { target = begun.target; bounds = begun.bounds; args = begun.args; inputs = begun.inputs; outcome = outcome; outs = outs; news = [] }

  pub news_run : (tests : List Test) (begun : Begun) (outcome : Outcome) (outs : List (List Word)) (number : ℕ) (before listeds : List Listed) (rest : List Line)
      → number ≡ length before → length outs ≡ length begun.inputs → list_all (listed_below (ended_limits literals (length begun.inputs))) listeds ≡ true
      → steps (front_of tests (ended begun outcome outs before)) (new_lines number listeds ++ rest) ≡ steps (front_of tests (ended begun outcome outs (before ++ listeds))) rest
  unfolding ended_step
  news_run tests begun outcome outs number before [] rest e many h = ap (λ (news : List Listed). steps (front_of tests (ended begun outcome outs news)) rest) (sym (append-nil before))
  news_run tests begun outcome outs number before (listed ∷ others) rest e many h =
      let limits : Limits = ended_limits literals (length begun.inputs) in
      let parts = both (listed_below limits listed) (list_all (listed_below limits) others) h in
      let script : Script = with_news before in
      one_step (front_of tests (ended begun outcome outs before)) (front_of tests (ended begun outcome outs (before ++ listed ∷ []))) (New number listed) (new_lines (suc number) others ++ rest)
      (if_yes (may_have_new literals script number listed) (front_of tests (Ended (with_new script listed)))
      (and_both (number == length before) _ (eq-eqb number (length before) e)
      (and_both (length outs == length begun.inputs) _ (eq-eqb (length outs) (length begun.inputs) many) parts.0)))
      ∙ news_run tests begun outcome outs (suc number) (before ++ listed ∷ []) others rest (omega (arith, e, length-append before (listed ∷ []))) many parts.1
      ∙ ap (λ (news : List Listed). steps (front_of tests (ended begun outcome outs news)) rest) (append_assoc before (listed ∷ []) others)
    where
      with_news : List Listed → Script
      with_news news = record { target = begun.target; bounds = begun.bounds; args = begun.args; inputs = begun.inputs; outcome = outcome; outs = outs; news = news }

  pub end_run : (tests : List Test) (script : Script) (rest : List Line) → may_be_whole literals script ≡ true
      → steps (front_of tests (Ended script)) (End ∷ rest) ≡ steps (front_of (tests ++ test_of literals script ∷ []) Between) rest
  unfolding ended_step
  end_run tests script rest h =
      one_step (front_of tests (Ended script)) (front_of (tests ++ test_of literals script ∷ []) Between) End rest
      (if_yes (may_be_whole literals script) (front_of (tests ++ test_of literals script ∷ []) Between) h)

  pub head_run : (tests : List Test) (target : Target) (bounds : RunBounds) (rest : List Line)
      → steps (front_of tests Between) (Method target ∷ Limit bounds ∷ rest) ≡ steps (front_of tests (started target bounds [] [])) rest
  unfolding between_step named_step
  head_run tests target bounds rest = refl
