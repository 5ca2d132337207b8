-- What is read of a test after one line more.
use Rattle.std.proofs.Common.{◌≡◌, ◌⊎◌, inl, inr, ℕ, suc, ◌+◌, ◌<◌, Bool, true, false, ◌==◌, ◌&&◌, Option, None, Some, List, [], ◌∷◌, ◌++◌, length, length-append, map, refl, sym, ◌∙◌, ap, arith, append_assoc, append-nil, subst}
use Rattle.std.specs.Prelude.{nat_lt}
use Rattle.std.specs.List.{list_all}
use Rattle.std.proofs.lemmas.Bool.{eqb-true, ltb-true}
use Rattle.std.proofs.lemmas.List.{nil_from_length}
use Rattle.std.proofs.lemmas.List.Folds.{list_all-append}
use Rattle.kb_names.specs.Targets.{IsTarget}
use Rattle.kb_names.specs.declared.types.Target.{Target}
use Rattle.kb_test_lines.specs.declared.words.Word.{Word}
use Rattle.kb_test_lines.specs.declared.words.Limits.{Limits}
use Rattle.kb_test_lines.specs.declared.lines.Listed.{Listed}
use Rattle.kb_test_lines.specs.declared.outcomes.Outcome.{Outcome}
use Rattle.kb_test_lines.specs.declared.lines.Line.{Line}
use Rattle.kb_test_lines.specs.declared.lines.Line.TheVariants.{Method, Limit, Arg, In, Ends, Out, New, End}
use Rattle.kb_test.specs.declared.script.Script.{Script}
use Rattle.kb_test.specs.declared.script.Begun.{Begun}
use Rattle.kb_test.specs.declared.test_case.Test.{Test}
use Rattle.kb_test.specs.declared.fronts.Open.{Open}
use Rattle.kb_test.specs.declared.fronts.Open.TheVariants.{Between, Named, Started, Ended}
use Rattle.kb_test.specs.declared.fronts.Front.{Front}
use Rattle.kb_test_lines.specs.Words.{AreWordLists, IsWord, word_below, words_below}
use Rattle.kb_test_lines.specs.Lines.{AreListed, IsLine, listed_below}
use Rattle.kb_test.specs.Scripts.{in_lines, out_lines, new_lines, script_lines, script_below, limits_of, IsScript, AreScripts, scripts_lines}
use Rattle.kb_test.specs.Tests.{test_of, tests_of}
use Rattle.kb_test.specs.Fronts.{open_limits, ended_limits, with_arg, with_input, with_outcome, with_out, with_new, may_have_arg, may_have_input, may_end_so, may_have_out, may_have_new, may_be_whole, if_may, begun_step, ended_step, between_step, named_step, with_open, step, begun_lines, ended_lines, open_lines, IsBegun, IsEnded, IsOpen}
use Rattle.kb_grammar.proofs.ListLaws.{All-++}
use Rattle.kb_test.proofs.Steps.{both, and_both, AreBelow, are_below, is_below_all, front_of}
use Rattle.kb_test.proofs.Accepts.{whole_lines}

-- ---- lists of lines

pub args-++ : (xs ys : List Word) → map Arg (xs ++ ys) ≡ map Arg xs ++ map Arg ys
args-++ [] ys = refl
args-++ (x ∷ xs) ys = ap (λ (ls : List Line). Arg x ∷ ls) (args-++ xs ys)

pub in_lines-++ : (number : ℕ) (xs ys : List Listed) → in_lines number (xs ++ ys) ≡ in_lines number xs ++ in_lines (number + length xs) ys
in_lines-++ number [] ys = ap (λ (n : ℕ). in_lines n ys) (omega arith)
in_lines-++ number (x ∷ xs) ys =
    ap (λ (ls : List Line). In number x ∷ ls) (in_lines-++ (suc number) xs ys ∙ ap (λ (n : ℕ). in_lines (suc number) xs ++ in_lines n ys) (omega arith))

pub out_lines-++ : (number : ℕ) (xs ys : List (List Word)) → out_lines number (xs ++ ys) ≡ out_lines number xs ++ out_lines (number + length xs) ys
out_lines-++ number [] ys = ap (λ (n : ℕ). out_lines n ys) (omega arith)
out_lines-++ number (x ∷ xs) ys =
    ap (λ (ls : List Line). Out number x ∷ ls) (out_lines-++ (suc number) xs ys ∙ ap (λ (n : ℕ). out_lines (suc number) xs ++ out_lines n ys) (omega arith))

pub new_lines-++ : (number : ℕ) (xs ys : List Listed) → new_lines number (xs ++ ys) ≡ new_lines number xs ++ new_lines (number + length xs) ys
new_lines-++ number [] ys = ap (λ (n : ℕ). new_lines n ys) (omega arith)
new_lines-++ number (x ∷ xs) ys =
    ap (λ (ls : List Line). New number x ∷ ls) (new_lines-++ (suc number) xs ys ∙ ap (λ (n : ℕ). new_lines (suc number) xs ++ new_lines n ys) (omega arith))

pub AreListed-++ : (xs ys : List Listed) → AreListed xs → AreListed ys → AreListed (xs ++ ys)
AreListed-++ [] ys p q = q
AreListed-++ (x ∷ xs) ys p q = (p.0, AreListed-++ xs ys p.1 q)

pub AreWordLists-++ : (xs ys : List (List Word)) → AreWordLists xs → AreWordLists ys → AreWordLists (xs ++ ys)
AreWordLists-++ [] ys p q = q
AreWordLists-++ (x ∷ xs) ys p q = (p.0, AreWordLists-++ xs ys p.1 q)

pub all-++ : {A : Type 0} (p : A → Bool) (xs ys : List A) → list_all p xs ≡ true → list_all p ys ≡ true → list_all p (xs ++ ys) ≡ true
all-++ p xs ys h k = list_all-append p xs ys ∙ and_both (list_all p xs) (list_all p ys) h k

pub one_all : {A : Type 0} (p : A → Bool) (x : A) → p x ≡ true → list_all p (x ∷ []) ≡ true
one_all p x h = and_both (p x) true h refl

-- the lines with more input objects, from the ending on, with more last values, with more objects of the run
pub more_inputs : (begun : Begun) (more : List Listed)
    → begun_lines (record { target = begun.target; bounds = begun.bounds; args = begun.args; inputs = begun.inputs ++ more }) ≡ begun_lines begun ++ in_lines (length begun.inputs) more
more_inputs begun more =
    ap (λ (ls : List Line). Method begun.target ∷ Limit begun.bounds ∷ (map Arg begun.args ++ ls)) (in_lines-++ 0 begun.inputs more ∙ ap (λ (n : ℕ). in_lines 0 begun.inputs ++ in_lines n more) (omega arith))
    ∙ sym (ap (λ (ls : List Line). Method begun.target ∷ Limit begun.bounds ∷ ls) (append_assoc (map Arg begun.args) (in_lines 0 begun.inputs) (in_lines (length begun.inputs) more)))

pub more_ending : (begun : Begun) (outcome : Outcome) → ended_lines (with_outcome begun outcome) ≡ begun_lines begun ++ Ends outcome ∷ []
more_ending begun outcome = sym (ap (λ (ls : List Line). Method begun.target ∷ Limit begun.bounds ∷ ls) (append_assoc (map Arg begun.args) (in_lines 0 begun.inputs) (Ends outcome ∷ [])))

ended_more : (script : Script) (last more : List Line) → out_lines 0 script.outs ++ new_lines 0 script.news ≡ last
    → ended_lines script ++ more ≡ Method script.target ∷ Limit script.bounds ∷ (map Arg script.args ++ (in_lines 0 script.inputs ++ (Ends script.outcome ∷ (last ++ more))))
ended_more script last more e =
    ap (λ (ls : List Line). Method script.target ∷ Limit script.bounds ∷ ls)
    (append_assoc (map Arg script.args) _ more ∙ ap (λ (ls : List Line). map Arg script.args ++ ls)
    (append_assoc (in_lines 0 script.inputs) _ more ∙ ap (λ (ls : List Line). in_lines 0 script.inputs ++ Ends script.outcome ∷ (ls ++ more)) e))

pub more_outs : (script : Script) (more : List (List Word)) → script.news ≡ []
    → ended_lines (record { target = script.target; bounds = script.bounds; args = script.args; inputs = script.inputs; outcome = script.outcome; outs = script.outs ++ more; news = script.news })
    ≡ ended_lines script ++ out_lines (length script.outs) more
more_outs script more none =
    ap (λ (ls : List Line). Method script.target ∷ Limit script.bounds ∷ (map Arg script.args ++ (in_lines 0 script.inputs ++ (Ends script.outcome ∷ ls))))
    (ap (λ (news : List Listed). out_lines 0 (script.outs ++ more) ++ new_lines 0 news) none ∙ append-nil (out_lines 0 (script.outs ++ more))
    ∙ out_lines-++ 0 script.outs more ∙ ap (λ (n : ℕ). out_lines 0 script.outs ++ out_lines n more) (omega arith))
    ∙ sym (ended_more script (out_lines 0 script.outs) (out_lines (length script.outs) more)
    (ap (λ (news : List Listed). out_lines 0 script.outs ++ new_lines 0 news) none ∙ append-nil (out_lines 0 script.outs)))

pub more_news : (script : Script) (more : List Listed)
    → ended_lines (record { target = script.target; bounds = script.bounds; args = script.args; inputs = script.inputs; outcome = script.outcome; outs = script.outs; news = script.news ++ more })
    ≡ ended_lines script ++ new_lines (length script.news) more
more_news script more =
    ap (λ (ls : List Line). Method script.target ∷ Limit script.bounds ∷ (map Arg script.args ++ (in_lines 0 script.inputs ++ (Ends script.outcome ∷ ls))))
    (ap (λ (ls : List Line). out_lines 0 script.outs ++ ls) (new_lines-++ 0 script.news more ∙ ap (λ (n : ℕ). new_lines 0 script.news ++ new_lines n more) (omega arith))
    ∙ sym (append_assoc (out_lines 0 script.outs) (new_lines 0 script.news) (new_lines (length script.news) more)))
    ∙ sym (ended_more script (out_lines 0 script.outs ++ new_lines 0 script.news) (new_lines (length script.news) more) refl)

-- ---- one line more

if_some : {A : Type 0} (test : Bool) (x y : A) → if_may test x ≡ Some y → (test ≡ true) × (x ≡ y)
if_some true x y h = (refl, cc)
if_some false x y h = cc

-- the next one is behind one line more
pub record OpenNext (literals : ℕ) (of : Open) (line : Line) (next : Open) : Type 0 where
  pub is : IsOpen literals next
  pub lines : open_lines next ≡ open_lines of ++ line ∷ []

same_next : (literals : ℕ) (of x y : Open) (line : Line) → x ≡ y → OpenNext literals of line x → OpenNext literals of line y
same_next literals of x y line e h = subst (OpenNext literals of line) e h

between_next : (literals : ℕ) (line : Line) (next : Open) → IsLine line → between_step line ≡ Some next → OpenNext literals Between line next
unfolding between_step
between_next literals (Method target) next is e = let same : Named target ≡ next = cc in same_next literals Between (Named target) next (Method target) same (record { is = is; lines = refl })
between_next literals (Limit bounds) next is e = absurd cc
between_next literals (Arg word) next is e = absurd cc
between_next literals (In number listed) next is e = absurd cc
between_next literals (Ends outcome) next is e = absurd cc
between_next literals (Out number words) next is e = absurd cc
between_next literals (New number listed) next is e = absurd cc
between_next literals End next is e = absurd cc

named_next : (literals : ℕ) (target : Target) (line : Line) (next : Open) → IsTarget target → IsLine line → named_step target line ≡ Some next → OpenNext literals (Named target) line next
unfolding named_step
named_next literals target (Method other) next good is e = absurd cc
named_next literals target (Limit bounds) next good is e =
    let first : Open = Started (record { target = target; bounds = bounds; args = []; inputs = [] }) in
    let same : first ≡ next = cc in
    same_next literals (Named target) first next (Limit bounds) same
    (record { is = record { target = good; bounds = is; args = tt; inputs = tt; numbered_inputs = omega arith; args_there = refl; inputs_there = refl }; lines = refl })
named_next literals target (Arg word) next good is e = absurd cc
named_next literals target (In number listed) next good is e = absurd cc
named_next literals target (Ends outcome) next good is e = absurd cc
named_next literals target (Out number words) next good is e = absurd cc
named_next literals target (New number listed) next good is e = absurd cc
named_next literals target End next good is e = absurd cc

arg_next : (literals : ℕ) (begun : Begun) (word : Word) → IsBegun literals begun → IsLine (Arg word) → may_have_arg literals begun word ≡ true → OpenNext literals (Started begun) (Arg word) (Started (with_arg begun word))
arg_next literals begun word good is h = record {
  is = record {
    target = good.target;
    bounds = good.bounds;
    args = All-++ IsWord begun.args (word ∷ []) good.args (is, tt);
    inputs = good.inputs;
    numbered_inputs = good.numbered_inputs;
    args_there = all-++ (word_below (open_limits literals)) begun.args (word ∷ []) good.args_there (one_all (word_below (open_limits literals)) word parts.1);
    inputs_there = good.inputs_there;
  };
  lines = ap (λ (ls : List Line). Method begun.target ∷ Limit begun.bounds ∷ ls) (with_none begun.inputs none);
}
  where
    parts : ((length begun.inputs == 0) ≡ true) × (word_below (open_limits literals) word ≡ true)
    parts = both (length begun.inputs == 0) (word_below (open_limits literals) word) h

    none : begun.inputs ≡ []
    none = nil_from_length begun.inputs (eqb-true (length begun.inputs) 0 parts.0)

    with_none : (inputs : List Listed) → inputs ≡ [] → map Arg (begun.args ++ word ∷ []) ++ in_lines 0 inputs ≡ (map Arg begun.args ++ in_lines 0 inputs) ++ Arg word ∷ []
    with_none [] e = append-nil (map Arg (begun.args ++ word ∷ [])) ∙ args-++ begun.args (word ∷ []) ∙ ap (λ (ls : List Line). ls ++ Arg word ∷ []) (sym (append-nil (map Arg begun.args)))
    with_none (input ∷ inputs) e = absurd cc

input_next : (literals : ℕ) (begun : Begun) (number : ℕ) (listed : Listed) → IsBegun literals begun → IsLine (In number listed) → may_have_input literals begun number listed ≡ true
    → OpenNext literals (Started begun) (In number listed) (Started (with_input begun listed))
input_next literals begun number listed good is h = record {
  is = record {
    target = good.target;
    bounds = good.bounds;
    args = good.args;
    inputs = AreListed-++ begun.inputs (listed ∷ []) good.inputs (is.1, tt);
    numbered_inputs = omega (arith, same, is.0, length-append begun.inputs (listed ∷ []));
    args_there = good.args_there;
    inputs_there = all-++ (listed_below (open_limits literals)) begun.inputs (listed ∷ []) good.inputs_there (one_all (listed_below (open_limits literals)) listed parts.1);
  };
  lines = more_inputs begun (listed ∷ []) ∙ ap (λ (n : ℕ). begun_lines begun ++ In n listed ∷ []) (sym same);
}
  where
    parts : ((number == length begun.inputs) ≡ true) × (listed_below (open_limits literals) listed ≡ true)
    parts = both (number == length begun.inputs) (listed_below (open_limits literals) listed) h

    same : number ≡ length begun.inputs
    same = eqb-true number (length begun.inputs) parts.0

ending_next : (literals : ℕ) (begun : Begun) (outcome : Outcome) → IsBegun literals begun → IsLine (Ends outcome) → may_end_so literals begun outcome ≡ true
    → OpenNext literals (Started begun) (Ends outcome) (Ended (with_outcome begun outcome))
ending_next literals begun outcome good is h = record {
  is = record {
    target = good.target;
    bounds = good.bounds;
    args = good.args;
    inputs = good.inputs;
    outcome = is;
    outs = tt;
    news = tt;
    numbered_inputs = good.numbered_inputs;
    numbered_news = omega arith;
    not_more = omega arith;
    in_order = inl refl;
    there = h;
  };
  lines = more_ending begun outcome;
}

begun_next : (literals : ℕ) (begun : Begun) (line : Line) (next : Open) → IsBegun literals begun → IsLine line → begun_step literals begun line ≡ Some next → OpenNext literals (Started begun) line next
unfolding begun_step
begun_next literals begun (Method target) next good is e = absurd cc
begun_next literals begun (Limit bounds) next good is e = absurd cc
begun_next literals begun (Arg word) next good is e =
    let h = if_some (may_have_arg literals begun word) (Started (with_arg begun word)) next e in
    same_next literals (Started begun) (Started (with_arg begun word)) next (Arg word) h.1 (arg_next literals begun word good is h.0)
begun_next literals begun (In number listed) next good is e =
    let h = if_some (may_have_input literals begun number listed) (Started (with_input begun listed)) next e in
    same_next literals (Started begun) (Started (with_input begun listed)) next (In number listed) h.1 (input_next literals begun number listed good is h.0)
begun_next literals begun (Ends outcome) next good is e =
    let h = if_some (may_end_so literals begun outcome) (Ended (with_outcome begun outcome)) next e in
    same_next literals (Started begun) (Ended (with_outcome begun outcome)) next (Ends outcome) h.1 (ending_next literals begun outcome good is h.0)
begun_next literals begun (Out number words) next good is e = absurd cc
begun_next literals begun (New number listed) next good is e = absurd cc
begun_next literals begun End next good is e = absurd cc

out_next : (literals : ℕ) (script : Script) (number : ℕ) (words : List Word) → IsEnded literals script → IsLine (Out number words) → may_have_out literals script number words ≡ true
    → OpenNext literals (Ended script) (Out number words) (Ended (with_out script words))
out_next literals script number words good is h = record {
  is = record {
    target = good.target;
    bounds = good.bounds;
    args = good.args;
    inputs = good.inputs;
    outcome = good.outcome;
    outs = AreWordLists-++ script.outs (words ∷ []) good.outs (is.1, tt);
    news = good.news;
    numbered_inputs = good.numbered_inputs;
    numbered_news = good.numbered_news;
    not_more = omega (arith, fewer, length-append script.outs (words ∷ []));
    in_order = inl none;
    there = is_below_all limits (with_out script words)
        (record { args = are.args; inputs = are.inputs; outcome = are.outcome; outs = all-++ (words_below limits) script.outs (words ∷ []) are.outs (one_all (words_below limits) words rest.1); news = are.news });
  };
  lines = more_outs script (words ∷ []) none ∙ ap (λ (n : ℕ). ended_lines script ++ Out n words ∷ []) (sym same);
}
  where
    limits : Limits
    limits = ended_limits literals (length script.inputs)

    are : AreBelow limits script
    are = are_below limits script good.there

    parts : ((number == length script.outs) ≡ true) × ((nat_lt (length script.outs) (length script.inputs) && words_below limits words) ≡ true)
    parts = both (number == length script.outs) _ h

    rest : (nat_lt (length script.outs) (length script.inputs) ≡ true) × (words_below limits words ≡ true)
    rest = both (nat_lt (length script.outs) (length script.inputs)) (words_below limits words) parts.1

    same : number ≡ length script.outs
    same = eqb-true number (length script.outs) parts.0

    fewer : length script.outs < length script.inputs
    fewer = ltb-true (length script.outs) (length script.inputs) rest.0

    go : script.news ≡ [] ⊎ (length script.outs ≡ length script.inputs) → script.news ≡ []
    go (inl e) = e
    go (inr many) = absurd (omega (arith, many, fewer))

    none : script.news ≡ []
    none = go good.in_order

new_next : (literals : ℕ) (script : Script) (number : ℕ) (listed : Listed) → IsEnded literals script → IsLine (New number listed) → may_have_new literals script number listed ≡ true
    → OpenNext literals (Ended script) (New number listed) (Ended (with_new script listed))
new_next literals script number listed good is h = record {
  is = record {
    target = good.target;
    bounds = good.bounds;
    args = good.args;
    inputs = good.inputs;
    outcome = good.outcome;
    outs = good.outs;
    news = AreListed-++ script.news (listed ∷ []) good.news (is.1, tt);
    numbered_inputs = good.numbered_inputs;
    numbered_news = omega (arith, same, is.0, length-append script.news (listed ∷ []));
    not_more = good.not_more;
    in_order = inr many;
    there = is_below_all limits (with_new script listed)
        (record { args = are.args; inputs = are.inputs; outcome = are.outcome; outs = are.outs; news = all-++ (listed_below limits) script.news (listed ∷ []) are.news (one_all (listed_below limits) listed rest.1) });
  };
  lines = more_news script (listed ∷ []) ∙ ap (λ (n : ℕ). ended_lines script ++ New n listed ∷ []) (sym same);
}
  where
    limits : Limits
    limits = ended_limits literals (length script.inputs)

    are : AreBelow limits script
    are = are_below limits script good.there

    parts : ((number == length script.news) ≡ true) × ((length script.outs == length script.inputs && listed_below limits listed) ≡ true)
    parts = both (number == length script.news) _ h

    rest : ((length script.outs == length script.inputs) ≡ true) × (listed_below limits listed ≡ true)
    rest = both (length script.outs == length script.inputs) (listed_below limits listed) parts.1

    same : number ≡ length script.news
    same = eqb-true number (length script.news) parts.0

    many : length script.outs ≡ length script.inputs
    many = eqb-true (length script.outs) (length script.inputs) rest.0

-- the test is whole
is_whole : (literals : ℕ) (script : Script) → IsEnded literals script → may_be_whole literals script ≡ true → IsScript literals script
is_whole literals script good h =
    let parts = both (length script.outs == length script.inputs) (script_below (limits_of literals script) script) h in
    record {
      target = good.target;
      bounds = good.bounds;
      args = good.args;
      inputs = good.inputs;
      outcome = good.outcome;
      outs = good.outs;
      news = good.news;
      numbered_inputs = good.numbered_inputs;
      numbered_news = good.numbered_news;
      as_many = eqb-true (length script.outs) (length script.inputs) parts.0;
      there = parts.1;
    }

-- the tests that are read, what is read of the next one, and the lines of both
pub record Stands (literals : ℕ) (front : Front) (lines : List Line) : Type 0 where
  pub scripts : List Script
  pub are : AreScripts literals scripts
  pub tests_are : front.tests ≡ tests_of literals scripts
  pub open_test : IsOpen literals front.open_test
  pub lines_are : lines ≡ scripts_lines scripts ++ open_lines front.open_test

opens : (literals : ℕ) (tests : List Test) (of open_test : Open) (lines : List Line) (line : Line) → Stands literals (front_of tests of) lines → OpenNext literals of line open_test
    → Stands literals (front_of tests open_test) (lines ++ line ∷ [])
opens literals tests of open_test lines line at next = record {
  scripts = at.scripts;
  are = at.are;
  tests_are = at.tests_are;
  open_test = next.is;
  lines_are = ap (λ (ls : List Line). ls ++ line ∷ []) at.lines_are ∙ append_assoc (scripts_lines at.scripts) (open_lines of) (line ∷ []) ∙ ap (λ (ls : List Line). scripts_lines at.scripts ++ ls) (sym next.lines);
}

pub AreScripts-++ : (literals : ℕ) (xs ys : List Script) → AreScripts literals xs → AreScripts literals ys → AreScripts literals (xs ++ ys)
AreScripts-++ literals [] ys p q = q
AreScripts-++ literals (x ∷ xs) ys p q = (p.0, AreScripts-++ literals xs ys p.1 q)

pub scripts_lines-++ : (xs ys : List Script) → scripts_lines (xs ++ ys) ≡ scripts_lines xs ++ scripts_lines ys
scripts_lines-++ [] ys = refl
scripts_lines-++ (x ∷ xs) ys = ap (λ (ls : List Line). script_lines x ++ ls) (scripts_lines-++ xs ys) ∙ sym (append_assoc (script_lines x) (scripts_lines xs) (scripts_lines ys))

pub tests_of-++ : (literals : ℕ) (xs ys : List Script) → tests_of literals (xs ++ ys) ≡ tests_of literals xs ++ tests_of literals ys
tests_of-++ literals [] ys = refl
tests_of-++ literals (x ∷ xs) ys = ap (λ (ts : List Test). test_of literals x ∷ ts) (tests_of-++ literals xs ys)

-- one test more
pub one_script : (scripts : List Script) (script : Script) → scripts_lines (scripts ++ script ∷ []) ≡ scripts_lines scripts ++ script_lines script
one_script scripts script = scripts_lines-++ scripts (script ∷ []) ∙ ap (λ (ls : List Line). scripts_lines scripts ++ ls) (append-nil (script_lines script))

pub with_script : (literals : ℕ) (scripts : List Script) (script : Script) → AreScripts literals scripts → IsScript literals script → AreScripts literals (scripts ++ script ∷ [])
with_script literals scripts script are is = AreScripts-++ literals scripts (script ∷ []) are (is, tt)

closes : (literals : ℕ) (tests : List Test) (script : Script) (lines : List Line) → Stands literals (front_of tests (Ended script)) lines → IsScript literals script
    → Stands literals (front_of (tests ++ test_of literals script ∷ []) Between) (lines ++ End ∷ [])
closes literals tests script lines at is = record {
  scripts = at.scripts ++ script ∷ [];
  are = with_script literals at.scripts script at.are is;
  tests_are = ap (λ (ts : List Test). ts ++ test_of literals script ∷ []) at.tests_are ∙ sym (tests_of-++ literals at.scripts (script ∷ []));
  open_test = tt;
  lines_are = ap (λ (ls : List Line). ls ++ End ∷ []) at.lines_are ∙ append_assoc (scripts_lines at.scripts) (ended_lines script) (End ∷ [])
      ∙ ap (λ (ls : List Line). scripts_lines at.scripts ++ ls) (sym (whole_lines literals script)) ∙ sym (one_script at.scripts script)
      ∙ sym (append-nil (scripts_lines (at.scripts ++ script ∷ [])));
}

ended_next : (literals : ℕ) (tests : List Test) (script : Script) (line : Line) (next : Front) (lines : List Line) → Stands literals (front_of tests (Ended script)) lines → IsLine line
    → ended_step literals tests script line ≡ Some next → Stands literals next (lines ++ line ∷ [])
unfolding ended_step
ended_next literals tests script (Method target) next lines good is e = absurd cc
ended_next literals tests script (Limit bounds) next lines good is e = absurd cc
ended_next literals tests script (Arg word) next lines good is e = absurd cc
ended_next literals tests script (In number listed) next lines good is e = absurd cc
ended_next literals tests script (Ends outcome) next lines good is e = absurd cc
ended_next literals tests script (Out number words) next lines good is e =
    let h = if_some (may_have_out literals script number words) (front_of tests (Ended (with_out script words))) next e in
    subst (λ (f : Front). Stands literals f (lines ++ Out number words ∷ [])) h.1
    (opens literals tests (Ended script) (Ended (with_out script words)) lines (Out number words) good (out_next literals script number words good.open_test is h.0))
ended_next literals tests script (New number listed) next lines good is e =
    let h = if_some (may_have_new literals script number listed) (front_of tests (Ended (with_new script listed))) next e in
    subst (λ (f : Front). Stands literals f (lines ++ New number listed ∷ [])) h.1
    (opens literals tests (Ended script) (Ended (with_new script listed)) lines (New number listed) good (new_next literals script number listed good.open_test is h.0))
ended_next literals tests script End next lines good is e =
    let h = if_some (may_be_whole literals script) (front_of (tests ++ test_of literals script ∷ []) Between) next e in
    subst (λ (f : Front). Stands literals f (lines ++ End ∷ [])) h.1 (closes literals tests script lines good (is_whole literals script good.open_test h.0))

-- what stands before the tests that were read
opened : (literals : ℕ) (tests : List Test) (of : Open) (taken : Option Open) (line : Line) (next : Front) (lines : List Line) → Stands literals (front_of tests of) lines
    → ((open_test : Open) → taken ≡ Some open_test → OpenNext literals of line open_test) → with_open tests taken ≡ Some next → Stands literals next (lines ++ line ∷ [])
opened literals tests of None line next lines good f e = absurd cc
opened literals tests of (Some open_test) line next lines good f e =
    let same : front_of tests open_test ≡ next = cc in
    subst (λ (x : Front). Stands literals x (lines ++ line ∷ [])) same (opens literals tests of open_test lines line good (f open_test refl))

pub next_stands : (literals : ℕ) (tests : List Test) (of : Open) (line : Line) (next : Front) (lines : List Line) → Stands literals (front_of tests of) lines → IsLine line
    → step literals (front_of tests of) line ≡ Some next → Stands literals next (lines ++ line ∷ [])
next_stands literals tests Between line next lines good is e =
    opened literals tests Between (between_step line) line next lines good (λ open_test h. between_next literals line open_test is h) e
next_stands literals tests (Named target) line next lines good is e =
    opened literals tests (Named target) (named_step target line) line next lines good (λ open_test h. named_next literals target line open_test good.open_test is h) e
next_stands literals tests (Started begun) line next lines good is e =
    opened literals tests (Started begun) (begun_step literals begun line) line next lines good (λ open_test h. begun_next literals begun line open_test good.open_test is h) e
next_stands literals tests (Ended script) line next lines good is e = ended_next literals tests script line next lines good is e
