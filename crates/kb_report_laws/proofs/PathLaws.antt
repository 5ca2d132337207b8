-- The lines of a path's block are those of one path.
use Rattle.std.proofs.Common.{◌≡◌, ◌≢◌, ◌⊎◌, inl, inr, ℕ, zero, suc, Bool, true, false, List, [], ◌∷◌, ◌++◌, length, map, take, Some, None, refl, sym, ap, ◌∙◌, arith, subst, append_assoc}
use Rattle.std.specs.Prelude.{slice_get, codes, ◌==◌, ◌||◌, if◌then◌else◌}
use Rattle.std.specs.List.{AllByRecursion}
use Rattle.kb_class.specs.declared.ids.MethodId.{MethodId}
use Rattle.kb_heap.specs.declared.bounds.Bound.{Bound}
use Rattle.kb_heap.specs.declared.heap.Input.{Input}
use Rattle.kb_heap.specs.declared.heap.Object.{Object}
use Rattle.kb_heap.specs.declared.heap.Value.{Value}
use Rattle.kb_chain.specs.declared.log.Chain.{Chain}
use Rattle.kb_chain.specs.declared.log.Log.{Log}
use Rattle.kb_terms.specs.declared.listing.Term.{Term}
use Rattle.kb_classes.specs.World.{World}
use Rattle.kb_link.specs.Links.{IsLinked}
use Rattle.kb_log_text.specs.Lines.{learn_line, learn_lines, IsChain}
use Rattle.kb_log_text.proofs.LogLaws.{same_chains}
use Rattle.kb_semantics.specs.Inputs.{argument_types}
use Rattle.kb_picture.specs.WellFormed.{IsSlot, IsPicture, IsWellFormed, IsLeaf, AreWrites}
use Rattle.kb_picture.specs.declared.path.Write.{Write}
use Rattle.kb_picture.specs.declared.path.Made.{Made}
use Rattle.kb_picture.specs.declared.path.SymEnding.{SymEnding}
use Rattle.kb_picture.specs.declared.path.SymEnding.TheVariants.{Returned, Threw, IllTyped}
use Rattle.kb_picture.specs.declared.path.Ended.{Ended}
use Rattle.kb_picture.specs.declared.path.Leaf.{Leaf}
use Rattle.kb_picture.specs.declared.path.Leaf.TheVariants.{Ended as EndedLeaf, Cut, Undecided, Open}
use Rattle.kb_picture.specs.declared.path.Path.{Path}
use Rattle.kb_picture.specs.declared.picture.Origin.{Origin}
use Rattle.kb_picture.specs.declared.picture.Origin.TheVariants.{Arg, Field, Element}
use Rattle.kb_picture.specs.declared.picture.PicLoc.{PicLoc}
use Rattle.kb_picture.specs.declared.picture.PicObject.{PicObject}
use Rattle.kb_picture.specs.declared.picture.Picture.{Picture}
use Rattle.kb_picture.specs.declared.picture.Seen.{Seen}
use Rattle.kb_heap_words.specs.Words.{bound_name}
use Rattle.kb_path_words.specs.Lines.{numbered_lines, ending_line, leaf_line}
use Rattle.kb_report_text.specs.Blocks.{path_line, see_line, loc_line, obj_line, picture_lines, let_line, when_line, set_line, new_line, arg_line, in_line, input_lines, further_lines, leaf_lines, path_lines}
use Rattle.kb_report_text.specs.Ranges.{SlotFits, IsLocInRange, ObjectFits, ConditionFits, WriteFits, MadeFits, InputObjectFits, InputFits, EndedFits, LeafFits, PathFits}
use Rattle.kb_path_words.specs.Ranges.{IsTermInRange, ValueFits}
use Rattle.kb_heap_words.proofs.WordLaws.{same_bound}
use Rattle.kb_report_laws.proofs.FieldLaws.{all_at}
use Rattle.kb_report_laws.proofs.WordLaws.{kinds_of, map_at, same_slot}
use Rattle.kb_grammar.proofs.WordLaws.{same_behind}
use Rattle.kb_report_laws.proofs.Sections.{heads, beginning, BeginsOther, cut_section, skip_section, mapped_begin, numbered_begin, same_mapped, EachPair, pairs_numbered, pairs_same, pairs_mapped}
use Rattle.kb_report_laws.proofs.LineLaws.{same_path_line, IsSeenThere, IsFoundThere, IsWrittenThere, IsOfLength, same_see_line, same_set_line, IsObjectAlike, same_obj_line, same_loc_line, same_let_line, same_when_line, same_arg_line, same_in_line, same_new_line, same_ending}
use Rattle.kb_report_laws.proofs.LocLaws.{one_origin, same_locs}

-- ---- how lines begin

abbrev see_b : ℕ
see_b = beginning (codes "see")

abbrev loc_b : ℕ
loc_b = beginning (codes "loc")

abbrev obj_b : ℕ
obj_b = beginning (codes "obj")

abbrev let_b : ℕ
let_b = beginning (codes "let")

abbrev when_b : ℕ
when_b = beginning (codes "whe")

abbrev set_b : ℕ
set_b = beginning (codes "set")

abbrev new_b : ℕ
new_b = beginning (codes "new")

abbrev arg_b : ℕ
arg_b = beginning (codes "arg")

abbrev in_b : ℕ
in_b = beginning (codes "in ")

abbrev learn_b : ℕ
learn_b = beginning (codes "lea")

abbrev pub path_b : ℕ
path_b = beginning (codes "pat")

abbrev pub total_b : ℕ
total_b = beginning (codes "tot")

see_begins : (world : World) (objects : List PicObject) (slot : Origin × Seen) → beginning (see_line world objects slot) ≡ see_b
unfolding see_line
see_begins world objects slot = refl

loc_begins : (number : ℕ) (loc : PicLoc) → beginning (loc_line number loc) ≡ loc_b
unfolding loc_line
loc_begins number loc = refl

obj_begins : (world : World) (objects : List PicObject) (number : ℕ) (object : PicObject) → beginning (obj_line world objects number object) ≡ obj_b
unfolding obj_line
obj_begins world objects number object = refl

let_begins : (number : ℕ) (term : Term) → beginning (let_line number term) ≡ let_b
unfolding let_line
let_begins number term = refl

when_begins : (condition : ℕ × Bool) → beginning (when_line condition) ≡ when_b
unfolding when_line
when_begins condition = refl

set_begins : (world : World) (objects : List PicObject) (write : Write) → beginning (set_line world objects write) ≡ set_b
unfolding set_line
set_begins world objects write = refl

new_begins : (number : ℕ) (made : Made) → beginning (new_line number made) ≡ new_b
unfolding new_line
new_begins number made = refl

arg_begins : (value : Value) → beginning (arg_line value) ≡ arg_b
unfolding arg_line
arg_begins value = refl

in_begins : (number : ℕ) (object : Object) → beginning (in_line number object) ≡ in_b
unfolding in_line
in_begins number object = refl

learn_begins : (chain : Chain) → beginning (learn_line chain) ≡ learn_b
unfolding learn_line
learn_begins chain = refl

pub path_begins : (decisions : List ℕ) → beginning (path_line decisions) ≡ path_b
unfolding path_line
path_begins decisions = refl

-- what may stand behind a block: the next one, or the last line
abbrev pub IsNext : List (List ℕ) → Type 0
IsNext [] = Unit {0}
IsNext (line ∷ lines) = (beginning line ≡ path_b) ⊎ (beginning line ≡ total_b)

next_other : (n : ℕ) (lines : List (List ℕ)) → path_b ≢ n → total_b ≢ n → IsNext lines → BeginsOther n lines
next_other n [] p q next = tt
next_other n (line ∷ lines) p q (inl is) = λ same. p (sym is ∙ same)
next_other n (line ∷ lines) p q (inr is) = λ same. q (sym is ∙ same)

-- ---- how leaves begin

abbrev is_leaf : ℕ → Bool
is_leaf n =
    n == beginning (codes "ret") || n == beginning (codes "thr") || n == beginning (codes "ill")
    || n == beginning (codes "cut") || n == beginning (codes "und") || n == beginning (codes "ope")

abbrev leaf_kind : ℕ → ℕ
leaf_kind n =
    if n == beginning (codes "cut") then 1
    else if n == beginning (codes "und") then 2
    else if n == beginning (codes "ope") then 3
    else 0

ending_begins : (ending : SymEnding) → (is_leaf (beginning (ending_line ending)) ≡ true) × (leaf_kind (beginning (ending_line ending)) ≡ 0)
unfolding ending_line
ending_begins (Returned None) = (refl, refl)
ending_begins (Returned (Some value)) = (refl, refl)
ending_begins (Threw value) = (refl, refl)
ending_begins (IllTyped place) = (refl, refl)

abbrev number_of_leaf : Leaf → ℕ
number_of_leaf (EndedLeaf ended) = 0
number_of_leaf (Cut bound input) = 1
number_of_leaf (Undecided log) = 2
number_of_leaf Open = 3

leaf_begins : (leaf : Leaf) → (is_leaf (beginning (leaf_line leaf)) ≡ true) × (leaf_kind (beginning (leaf_line leaf)) ≡ number_of_leaf leaf)
unfolding leaf_line
leaf_begins (EndedLeaf ended) = ending_begins ended.ending
leaf_begins (Cut bound input) = (refl, refl)
leaf_begins (Undecided log) = (refl, refl)
leaf_begins Open = (refl, refl)

not_leaf : (n : ℕ) → is_leaf n ≡ false → (leaf : Leaf) → beginning (leaf_line leaf) ≢ n
not_leaf n is leaf same =
    let there = (leaf_begins leaf).0 in
    let other : is_leaf (beginning (leaf_line leaf)) ≡ false = ap is_leaf same ∙ is in
    cc

same_leaf_kind : (one other : Leaf) → leaf_line one ≡ leaf_line other → number_of_leaf one ≡ number_of_leaf other
same_leaf_kind one other e = sym (leaf_begins one).1 ∙ ap (λ (line : List ℕ). leaf_kind (beginning line)) e ∙ (leaf_begins other).1

-- ---- inputs

input_behind : (input : Input) (more : List (List ℕ)) → input_lines input ++ more ≡ map arg_line input.args ++ (numbered_lines in_line 0 input.heap.objects ++ more)
unfolding input_lines
input_behind input more = append_assoc (map arg_line input.args) (numbered_lines in_line 0 input.heap.objects) more

other_than_input : (n : ℕ) (input : Input) (more : List (List ℕ)) → arg_b ≢ n → in_b ≢ n → BeginsOther n more → BeginsOther n (input_lines input ++ more)
other_than_input n input more p q h =
    subst (BeginsOther n) (sym (input_behind input more))
    (skip_section n arg_b (map arg_line input.args) (numbered_lines in_line 0 input.heap.objects ++ more) p (mapped_begin arg_line arg_b arg_begins input.args)
    (skip_section n in_b (numbered_lines in_line 0 input.heap.objects) more q (numbered_begin in_line in_b in_begins 0 input.heap.objects) h))

same_input : (one other : Input) (us vs : List (List ℕ)) → InputFits one → InputFits other → IsNext us → IsNext vs → input_lines one ++ us ≡ input_lines other ++ vs → (one ≡ other) × (us ≡ vs)
same_input one other us vs p q h k e =
    let args = cut_section arg_b (map arg_line one.args) (map arg_line other.args) (numbered_lines in_line 0 one.heap.objects ++ us) (numbered_lines in_line 0 other.heap.objects ++ vs)
    (mapped_begin arg_line arg_b arg_begins one.args) (mapped_begin arg_line arg_b arg_begins other.args)
    (skip_section arg_b in_b (numbered_lines in_line 0 one.heap.objects) us (omega arith) (numbered_begin in_line in_b in_begins 0 one.heap.objects) (next_other arg_b us (omega arith) (omega arith) h))
    (skip_section arg_b in_b (numbered_lines in_line 0 other.heap.objects) vs (omega arith) (numbered_begin in_line in_b in_begins 0 other.heap.objects) (next_other arg_b vs (omega arith) (omega arith) k))
    (sym (input_behind one us) ∙ e ∙ input_behind other vs) in
    let ins = cut_section in_b (numbered_lines in_line 0 one.heap.objects) (numbered_lines in_line 0 other.heap.objects) us vs
    (numbered_begin in_line in_b in_begins 0 one.heap.objects) (numbered_begin in_line in_b in_begins 0 other.heap.objects)
    (next_other in_b us (omega arith) (omega arith) h) (next_other in_b vs (omega arith) (omega arith) k) args.1 in
    let values = same_mapped arg_line arg_line ValueFits ValueFits same_arg_line one.args other.args p.args q.args args.0 in
    let objects = pairs_same InputObjectFits InputObjectFits (λ (x y : Object). x ≡ y) (λ x y a b same. same) one.heap.objects other.heap.objects p.objects q.objects
    (pairs_numbered in_line in_line InputObjectFits InputObjectFits (λ (x y : Object). x ≡ y) same_in_line 0 one.heap.objects other.heap.objects p.objects q.objects ins.0) in
    ((λ i. record { heap = record { objects = objects i }; args = values i }), ins.1)

-- ---- pictures

all_from : {A : Type 0} (P : A → Type 0) (xs : List A) → ((place : ℕ) (x : A) → slice_get xs place ≡ Some x → P x) → AllByRecursion P xs
all_from P [] each = tt
all_from P (x ∷ xs) each = (each zero x refl, all_from P xs (λ place y at. each (suc place) y at))

taken_at : {A : Type 0} (n : ℕ) (xs : List A) (place : ℕ) (x : A) → slice_get (take n xs) place ≡ Some x → slice_get xs place ≡ Some x
taken_at zero xs place x at = absurd cc
taken_at (suc n) [] place x at = absurd cc
taken_at (suc n) (y ∷ ys) zero x at = at
taken_at (suc n) (y ∷ ys) (suc place) x at = taken_at n ys place x at

slot_of_all : (world : World) (params n : ℕ) (objects : List PicObject) (slot : Origin) → IsSlot world params (take n objects) slot → IsSlot world params objects slot
slot_of_all world params n objects (Arg number) is = is
slot_of_all world params n objects (Field object slot) is = (is.0, taken_at n objects object is.0 is.1, is.2)
slot_of_all world params n objects (Element array index) is = (is.0, taken_at n objects array is.0 is.1, is.2)

module _ (world : World) where
  pub seen_there : (params : ℕ) (picture : Picture) → IsPicture world params picture → AllByRecursion SlotFits picture.seen → AllByRecursion (IsSeenThere world params picture.objects) picture.seen
  seen_there params picture is all =
      all_from (IsSeenThere world params picture.objects) picture.seen
      (λ place slot at. (is.slots place slot.0 (map_at (λ (s : Origin × Seen). s.0) picture.seen place slot at), all_at SlotFits picture.seen place slot all at))

  pub found_there : (params : ℕ) (picture : Picture) → IsPicture world params picture → AllByRecursion ObjectFits picture.objects → AllByRecursion (IsFoundThere world params picture.objects) picture.objects
  found_there params picture is all =
      all_from (IsFoundThere world params picture.objects) picture.objects
      (λ place object at. ((slot_of_all world params place picture.objects object.origin (is.origins place object at).0, is.lengths place object at), all_at ObjectFits picture.objects place object all at))

  of_length : (params : ℕ) (objects all : List PicObject) → AllByRecursion (IsFoundThere world params all) objects → AllByRecursion IsOfLength objects
  of_length params [] all is = tt
  of_length params (x ∷ xs) all is = ((is.0.0.1, is.0.1), of_length params xs all is.1)

  written_there : (objects : List PicObject) (picture : Picture) (writes : List Write) → picture.objects ≡ objects → AreWrites world picture writes → AllByRecursion WriteFits writes → AllByRecursion (IsWrittenThere world objects) writes
  written_there objects picture writes same are all =
      all_from (IsWrittenThere world objects) writes
      (λ place write at. (subst (λ (os : List PicObject). IsSlot world 0 os write.slot) same (are.there place write at).1, all_at WriteFits writes place write all at))

-- ---- pictures that have one text

alike_kinds : (world : World) (objects others : List PicObject) → EachPair (IsObjectAlike world objects others) objects others → kinds_of objects ≡ kinds_of others
alike_kinds world objects others pairs = pairs_mapped (IsObjectAlike world objects others) (λ (o : PicObject). o.kind) (λ x y alike. alike.kind) objects others pairs

module _ (world : World) (linked : IsLinked world) where
  alike_same : (params many : ℕ) (objects others : List PicObject) → kinds_of objects ≡ kinds_of others → (x y : PicObject) → IsFoundThere world params objects x → IsFoundThere world many others y
      → IsObjectAlike world objects others x y → x ≡ y
  alike_same params many objects others kinds x y p q alike =
      let origin = same_slot world linked objects others kinds params many x.origin y.origin p.0.0 q.0.0 p.1.origin q.1.origin alike.slot in
      λ i. record { kind = alike.kind i; length = alike.length i; origin = origin i }

  -- the three sections of a picture's lines
  same_picture : (params many : ℕ) (one other : Picture) → IsPicture world params one → IsPicture world many other
      → AllByRecursion SlotFits one.seen → AllByRecursion SlotFits other.seen → AllByRecursion IsLocInRange one.locs → AllByRecursion IsLocInRange other.locs
      → AllByRecursion ObjectFits one.objects → AllByRecursion ObjectFits other.objects
      → map (see_line world one.objects) one.seen ≡ map (see_line world other.objects) other.seen → numbered_lines loc_line 0 one.locs ≡ numbered_lines loc_line 0 other.locs
      → numbered_lines (obj_line world one.objects) 0 one.objects ≡ numbered_lines (obj_line world other.objects) 0 other.objects → one ≡ other
  same_picture params many one other p q sp sq lp lq op oq sees locs objs =
      let found = found_there world params one p op in
      let found_too = found_there world many other q oq in
      let pairs = pairs_numbered (obj_line world one.objects) (obj_line world other.objects) IsOfLength IsOfLength (IsObjectAlike world one.objects other.objects)
      (λ n x y a b e. same_obj_line world one.objects other.objects n x y a b e) 0 one.objects other.objects
      (of_length world params one.objects one.objects found) (of_length world many other.objects other.objects found_too) objs in
      let kinds = alike_kinds world one.objects other.objects pairs in
      let objects = pairs_same (IsFoundThere world params one.objects) (IsFoundThere world many other.objects) (IsObjectAlike world one.objects other.objects)
      (alike_same params many one.objects other.objects kinds) one.objects other.objects found found_too pairs in
      let seen = same_mapped (see_line world one.objects) (see_line world other.objects) (IsSeenThere world params one.objects) (IsSeenThere world many other.objects)
      (λ x y a b e. same_see_line world linked one.objects other.objects kinds params many x y a b e) one.seen other.seen (seen_there world params one p sp) (seen_there world many other q sq) sees in
      let standings = pairs_numbered loc_line loc_line IsLocInRange IsLocInRange (λ (x y : PicLoc). x.standing ≡ y.standing) same_loc_line 0 one.locs other.locs lp lq locs in
      let locations = same_locs one.locs other.locs standings (λ n x y a b.
      let first = (p.locs n x a).0 in
      let second = (q.locs n y b).0 in
      one_origin one.seen (length one.locs) p.locations first.0 second.0 x.origin y.origin n first.1 (ap (λ (s : List (Origin × Seen)). slice_get s second.0) seen ∙ second.1)) in
      λ i. record { seen = seen i; locs = locations i; objects = objects i }

  -- ---- leaves

  ended_behind : (objects : List PicObject) (ended : Ended) (more : List (List ℕ)) → further_lines world objects (EndedLeaf ended) ++ more
      ≡ map (set_line world objects) ended.writes ++ (numbered_lines new_line 0 ended.made ++ (input_lines ended.input ++ more))
  unfolding further_lines
  ended_behind objects ended more =
      append_assoc (map (set_line world objects) ended.writes) (numbered_lines new_line 0 ended.made ++ input_lines ended.input) more
      ∙ ap (λ (rest : List (List ℕ)). map (set_line world objects) ended.writes ++ rest) (append_assoc (numbered_lines new_line 0 ended.made) (input_lines ended.input) more)

  set_other : (ended : Ended) (more : List (List ℕ)) → IsNext more → BeginsOther set_b (numbered_lines new_line 0 ended.made ++ (input_lines ended.input ++ more))
  set_other ended more next =
      skip_section set_b new_b (numbered_lines new_line 0 ended.made) (input_lines ended.input ++ more) (omega arith) (numbered_begin new_line new_b new_begins 0 ended.made)
      (other_than_input set_b ended.input more (omega arith) (omega arith) (next_other set_b more (omega arith) (omega arith) next))

  new_other : (ended : Ended) (more : List (List ℕ)) → IsNext more → BeginsOther new_b (input_lines ended.input ++ more)
  new_other ended more next = other_than_input new_b ended.input more (omega arith) (omega arith) (next_other new_b more (omega arith) (omega arith) next)

  same_ended : (objects others : List PicObject) → kinds_of objects ≡ kinds_of others → (one other : Ended) (us vs : List (List ℕ))
      → AllByRecursion (IsWrittenThere world objects) one.writes → AllByRecursion (IsWrittenThere world others) other.writes → EndedFits one → EndedFits other → IsNext us → IsNext vs
      → ending_line one.ending ≡ ending_line other.ending
      → further_lines world objects (EndedLeaf one) ++ us ≡ further_lines world others (EndedLeaf other) ++ vs → (one ≡ other) × (us ≡ vs)
  same_ended objects others kinds one other us vs wp wq p q h k ends e =
      let sets = cut_section set_b (map (set_line world objects) one.writes) (map (set_line world others) other.writes)
      (numbered_lines new_line 0 one.made ++ (input_lines one.input ++ us)) (numbered_lines new_line 0 other.made ++ (input_lines other.input ++ vs))
      (mapped_begin (set_line world objects) set_b (set_begins world objects) one.writes) (mapped_begin (set_line world others) set_b (set_begins world others) other.writes)
      (set_other one us h) (set_other other vs k) (sym (ended_behind objects one us) ∙ e ∙ ended_behind others other vs) in
      let news = cut_section new_b (numbered_lines new_line 0 one.made) (numbered_lines new_line 0 other.made) (input_lines one.input ++ us) (input_lines other.input ++ vs)
      (numbered_begin new_line new_b new_begins 0 one.made) (numbered_begin new_line new_b new_begins 0 other.made) (new_other one us h) (new_other other vs k) sets.1 in
      let inputs = same_input one.input other.input us vs p.input q.input h k news.1 in
      let writes = same_mapped (set_line world objects) (set_line world others) (IsWrittenThere world objects) (IsWrittenThere world others)
      (λ x y a b s. same_set_line world linked objects others kinds x y a b s) one.writes other.writes wp wq sets.0 in
      let made = pairs_same MadeFits MadeFits (λ (x y : Made). x ≡ y) (λ x y a b same. same) one.made other.made p.made q.made
      (pairs_numbered new_line new_line MadeFits MadeFits (λ (x y : Made). x ≡ y) same_new_line 0 one.made other.made p.made q.made news.0) in
      let ending = same_ending one.ending other.ending p.ending q.ending ends in
      ((λ i. record { ending = ending i; writes = writes i; made = made i; input = inputs.0 i }), inputs.1)

  same_log : (one other : Log) (us vs : List (List ℕ)) → AllByRecursion IsChain one.entries → AllByRecursion IsChain other.entries → IsNext us → IsNext vs
      → learn_lines one ++ us ≡ learn_lines other ++ vs → (one ≡ other) × (us ≡ vs)
  same_log one other us vs p q h k e =
      let parts = cut_section learn_b (map learn_line one.entries) (map learn_line other.entries) us vs (mapped_begin learn_line learn_b learn_begins one.entries) (mapped_begin learn_line learn_b learn_begins other.entries)
      (next_other learn_b us (omega arith) (omega arith) h) (next_other learn_b vs (omega arith) (omega arith) k) e in
      let entries = same_chains one.entries other.entries p q parts.0 in
      ((λ i. record { entries = entries i }), parts.1)

  cut_further : (objects : List PicObject) (bound : Bound) (input : Input) (more : List (List ℕ)) → input_lines input ++ more ≡ further_lines world objects (Cut bound input) ++ more
  unfolding further_lines
  cut_further objects bound input more = refl

  log_further : (objects : List PicObject) (log : Log) (more : List (List ℕ)) → learn_lines log ++ more ≡ further_lines world objects (Undecided log) ++ more
  unfolding further_lines
  log_further objects log more = refl

  open_further : (objects : List PicObject) (more : List (List ℕ)) → more ≡ further_lines world objects Open ++ more
  unfolding further_lines
  open_further objects more = refl

  -- what a leaf needs of its path
  abbrev pub LeafThere : List PicObject → Leaf → Type 0
  LeafThere objects (EndedLeaf ended) = AllByRecursion (IsWrittenThere world objects) ended.writes
  LeafThere objects (Cut bound input) = Unit {0}
  LeafThere objects (Undecided log) = Unit {0}
  LeafThere objects Open = Unit {0}

  same_leaf : (objects others : List PicObject) → kinds_of objects ≡ kinds_of others → (one other : Leaf) (us vs : List (List ℕ)) → LeafThere objects one → LeafThere others other → LeafFits one → LeafFits other
      → IsNext us → IsNext vs → number_of_leaf one ≡ number_of_leaf other → leaf_line one ≡ leaf_line other → further_lines world objects one ++ us ≡ further_lines world others other ++ vs → (one ≡ other) × (us ≡ vs)
  unfolding leaf_line
  same_leaf objects others kinds (EndedLeaf one) (EndedLeaf other) us vs wp wq p q h k number first e =
      let parts = same_ended objects others kinds one other us vs wp wq p q h k first e in
      (ap (λ (ended : Ended). EndedLeaf ended) parts.0, parts.1)
  same_leaf objects others kinds (EndedLeaf one) (Cut bound input) us vs wp wq p q h k number first e = absurd (omega (arith, number))
  same_leaf objects others kinds (EndedLeaf one) (Undecided log) us vs wp wq p q h k number first e = absurd (omega (arith, number))
  same_leaf objects others kinds (EndedLeaf one) Open us vs wp wq p q h k number first e = absurd (omega (arith, number))
  same_leaf objects others kinds (Cut bound input) (EndedLeaf other) us vs wp wq p q h k number first e = absurd (omega (arith, number))
  same_leaf objects others kinds (Cut bound input) (Cut limit more) us vs wp wq p q h k number first e =
      let bounds = same_bound bound limit (same_behind (codes "cut ") (bound_name bound) (bound_name limit) first) in
      let inputs = same_input input more us vs p q h k (cut_further objects bound input us ∙ e ∙ sym (cut_further others limit more vs)) in
      ((λ i. Cut (bounds i) (inputs.0 i)), inputs.1)
  same_leaf objects others kinds (Cut bound input) (Undecided log) us vs wp wq p q h k number first e = absurd (omega (arith, number))
  same_leaf objects others kinds (Cut bound input) Open us vs wp wq p q h k number first e = absurd (omega (arith, number))
  same_leaf objects others kinds (Undecided log) (EndedLeaf other) us vs wp wq p q h k number first e = absurd (omega (arith, number))
  same_leaf objects others kinds (Undecided log) (Cut bound input) us vs wp wq p q h k number first e = absurd (omega (arith, number))
  same_leaf objects others kinds (Undecided log) (Undecided more) us vs wp wq p q h k number first e =
      let parts = same_log log more us vs p.0 q.0 h k (log_further objects log us ∙ e ∙ sym (log_further others more vs)) in
      (ap (λ (l : Log). Undecided l) parts.0, parts.1)
  same_leaf objects others kinds (Undecided log) Open us vs wp wq p q h k number first e = absurd (omega (arith, number))
  same_leaf objects others kinds Open (EndedLeaf other) us vs wp wq p q h k number first e = absurd (omega (arith, number))
  same_leaf objects others kinds Open (Cut bound input) us vs wp wq p q h k number first e = absurd (omega (arith, number))
  same_leaf objects others kinds Open (Undecided log) us vs wp wq p q h k number first e = absurd (omega (arith, number))
  same_leaf objects others kinds Open Open us vs wp wq p q h k number first e = (refl, open_further objects us ∙ e ∙ sym (open_further others vs))

  -- ---- blocks

  abbrev behind_when : Path → List (List ℕ) → List (List ℕ)
  behind_when path more = leaf_line path.leaf ∷ (further_lines world path.picture.objects path.leaf ++ more)

  abbrev behind_let : Path → List (List ℕ) → List (List ℕ)
  behind_let path more = map when_line path.when ++ behind_when path more

  abbrev behind_obj : Path → List (List ℕ) → List (List ℕ)
  behind_obj path more = numbered_lines let_line 0 path.terms ++ behind_let path more

  abbrev behind_loc : Path → List (List ℕ) → List (List ℕ)
  behind_loc path more = numbered_lines (obj_line world path.picture.objects) 0 path.picture.objects ++ behind_obj path more

  abbrev behind_see : Path → List (List ℕ) → List (List ℕ)
  behind_see path more = numbered_lines loc_line 0 path.picture.locs ++ behind_loc path more

  pub block_is : (path : Path) (more : List (List ℕ)) → path_lines world path ++ more ≡ path_line path.decisions ∷ (map (see_line world path.picture.objects) path.picture.seen ++ behind_see path more)
  unfolding path_lines picture_lines leaf_lines
  block_is path more = simp append_assoc

  let_other : (n : ℕ) → is_leaf n ≡ false → when_b ≢ n → (path : Path) (more : List (List ℕ)) → BeginsOther n (behind_let path more)
  let_other n leaf whens path more = skip_section n when_b (map when_line path.when) (behind_when path more) whens (mapped_begin when_line when_b when_begins path.when) (not_leaf n leaf path.leaf)

  obj_other : (n : ℕ) → is_leaf n ≡ false → when_b ≢ n → let_b ≢ n → (path : Path) (more : List (List ℕ)) → BeginsOther n (behind_obj path more)
  obj_other n leaf whens lets path more =
      skip_section n let_b (numbered_lines let_line 0 path.terms) (behind_let path more) lets (numbered_begin let_line let_b let_begins 0 path.terms) (let_other n leaf whens path more)

  loc_other : (n : ℕ) → is_leaf n ≡ false → when_b ≢ n → let_b ≢ n → obj_b ≢ n → (path : Path) (more : List (List ℕ)) → BeginsOther n (behind_loc path more)
  loc_other n leaf whens lets objs path more =
      skip_section n obj_b (numbered_lines (obj_line world path.picture.objects) 0 path.picture.objects) (behind_obj path more) objs
      (numbered_begin (obj_line world path.picture.objects) obj_b (obj_begins world path.picture.objects) 0 path.picture.objects) (obj_other n leaf whens lets path more)

  see_other : (n : ℕ) → is_leaf n ≡ false → when_b ≢ n → let_b ≢ n → obj_b ≢ n → loc_b ≢ n → (path : Path) (more : List (List ℕ)) → BeginsOther n (behind_see path more)
  see_other n leaf whens lets objs locs path more =
      skip_section n loc_b (numbered_lines loc_line 0 path.picture.locs) (behind_loc path more) locs (numbered_begin loc_line loc_b loc_begins 0 path.picture.locs) (loc_other n leaf whens lets objs path more)

  pub leaf_there : (path : Path) (leaf : Leaf) → IsLeaf world path leaf → LeafFits leaf → LeafThere path.picture.objects leaf
  leaf_there path (EndedLeaf ended) is all = written_there world path.picture.objects path.picture ended.writes refl is.writes all.writes
  leaf_there path (Cut bound input) is all = tt
  leaf_there path (Undecided log) is all = tt
  leaf_there path Open is all = tt

  pub same_block : (one other : Path) (us vs : List (List ℕ)) (id method : MethodId) → IsWellFormed world id one → IsWellFormed world method other → PathFits one → PathFits other → IsNext us → IsNext vs
      → path_lines world one ++ us ≡ path_lines world other ++ vs → (one ≡ other) × (us ≡ vs)
  same_block one other us vs id method wp wq p q h k e =
      let first = heads (path_line one.decisions) (path_line other.decisions) (map (see_line world one.picture.objects) one.picture.seen ++ behind_see one us) (map (see_line world other.picture.objects) other.picture.seen ++ behind_see other vs)
      (sym (block_is one us) ∙ e ∙ block_is other vs) in
      let sees = cut_section see_b (map (see_line world one.picture.objects) one.picture.seen) (map (see_line world other.picture.objects) other.picture.seen) (behind_see one us) (behind_see other vs)
      (mapped_begin (see_line world one.picture.objects) see_b (see_begins world one.picture.objects) one.picture.seen) (mapped_begin (see_line world other.picture.objects) see_b (see_begins world other.picture.objects) other.picture.seen)
      (see_other see_b refl (omega arith) (omega arith) (omega arith) (omega arith) one us) (see_other see_b refl (omega arith) (omega arith) (omega arith) (omega arith) other vs) first.1 in
      let locs = cut_section loc_b (numbered_lines loc_line 0 one.picture.locs) (numbered_lines loc_line 0 other.picture.locs) (behind_loc one us) (behind_loc other vs)
      (numbered_begin loc_line loc_b loc_begins 0 one.picture.locs) (numbered_begin loc_line loc_b loc_begins 0 other.picture.locs)
      (loc_other loc_b refl (omega arith) (omega arith) (omega arith) one us) (loc_other loc_b refl (omega arith) (omega arith) (omega arith) other vs) sees.1 in
      let objs = cut_section obj_b (numbered_lines (obj_line world one.picture.objects) 0 one.picture.objects) (numbered_lines (obj_line world other.picture.objects) 0 other.picture.objects) (behind_obj one us) (behind_obj other vs)
      (numbered_begin (obj_line world one.picture.objects) obj_b (obj_begins world one.picture.objects) 0 one.picture.objects) (numbered_begin (obj_line world other.picture.objects) obj_b (obj_begins world other.picture.objects) 0 other.picture.objects)
      (obj_other obj_b refl (omega arith) (omega arith) one us) (obj_other obj_b refl (omega arith) (omega arith) other vs) locs.1 in
      let lets = cut_section let_b (numbered_lines let_line 0 one.terms) (numbered_lines let_line 0 other.terms) (behind_let one us) (behind_let other vs)
      (numbered_begin let_line let_b let_begins 0 one.terms) (numbered_begin let_line let_b let_begins 0 other.terms) (let_other let_b refl (omega arith) one us) (let_other let_b refl (omega arith) other vs) objs.1 in
      let whens = cut_section when_b (map when_line one.when) (map when_line other.when) (behind_when one us) (behind_when other vs)
      (mapped_begin when_line when_b when_begins one.when) (mapped_begin when_line when_b when_begins other.when) (not_leaf when_b refl one.leaf) (not_leaf when_b refl other.leaf) lets.1 in
      let last = heads (leaf_line one.leaf) (leaf_line other.leaf) (further_lines world one.picture.objects one.leaf ++ us) (further_lines world other.picture.objects other.leaf ++ vs) whens.1 in
      let picture = same_picture (length (argument_types world wp.method)) (length (argument_types world wq.method)) one.picture other.picture wp.picture wq.picture
      p.seen q.seen p.locs q.locs p.objects q.objects sees.0 locs.0 objs.0 in
      let kinds : kinds_of one.picture.objects ≡ kinds_of other.picture.objects = ap (λ (pic : Picture). kinds_of pic.objects) picture in
      let leaf = same_leaf one.picture.objects other.picture.objects kinds one.leaf other.leaf us vs (leaf_there one one.leaf wp.leaf p.leaf) (leaf_there other other.leaf wq.leaf q.leaf) p.leaf q.leaf h k
      (same_leaf_kind one.leaf other.leaf last.0) last.0 last.1 in
      let decisions = same_path_line one.decisions other.decisions p.decisions q.decisions first.0 in
      let terms = pairs_same IsTermInRange IsTermInRange (λ (x y : Term). x ≡ y) (λ x y a b same. same) one.terms other.terms p.terms q.terms
      (pairs_numbered let_line let_line IsTermInRange IsTermInRange (λ (x y : Term). x ≡ y) same_let_line 0 one.terms other.terms p.terms q.terms lets.0) in
      let when = same_mapped when_line when_line ConditionFits ConditionFits same_when_line one.when other.when p.when q.when whens.0 in
      ((λ i. record { decisions = decisions i; picture = picture i; terms = terms i; when = when i; leaf = leaf.0 i }), leaf.1)
