-- The lines of a path's block: what each begins with, that none has a line feed in it, and that each is that of one thing.
use Rattle.std.proofs.Common.{◌≡◌, ◌≢◌, ℕ, ◌<◌, Bool, true, false, cond, List, [], ◌∷◌, ◌++◌, length, Option, Some, None, refl, sym, ap, ◌∙◌, arith, subst, append-nil}
use Rattle.std.specs.Prelude.{codes, slice_index}
use Rattle.std.specs.List.{AllByRecursion}
use Rattle.std.specs.Fmt.{decimal}
use Rattle.kb_grammar.specs.Lines.{Lacks}
use Rattle.kb_grammar.proofs.WordLaws.{Lacks-++, same_cut, same_behind, not_lacking}
use Rattle.kb_grammar.proofs.NumberLaws.{Lacks-decimal}
use Rattle.std.proofs.lemmas.Fmt.{decimal_nonempty}
use Rattle.kb_names.specs.declared.types.ExactType.{ExactType}
use Rattle.kb_names.specs.declared.types.ExactType.TheVariants as exact
use Rattle.kb_names.specs.Targets.{target_text}
use Rattle.kb_heap.specs.declared.bounds.Bound.{Bound}
use Rattle.kb_heap.specs.declared.bounds.Bound.TheVariants.{K, Array as ArrayBound, Alloc, Loops, Depth, Steps}
use Rattle.kb_heap.specs.declared.ending.Place.{Place}
use Rattle.kb_heap.specs.declared.heap.Value.{Value}
use Rattle.kb_heap.specs.declared.heap.Object.{Object}
use Rattle.kb_classes.specs.World.{World}
use Rattle.kb_link.specs.Links.{IsLinked}
use Rattle.kb_terms.specs.declared.listing.Operand.{Operand}
use Rattle.kb_terms.specs.declared.listing.Term.{Term}
use Rattle.kb_picture.specs.WellFormed.{IsSlot, IsLengthOf}
use Rattle.kb_picture.specs.declared.path.Out.{Out}
use Rattle.kb_picture.specs.declared.path.Write.{Write}
use Rattle.kb_picture.specs.declared.path.Made.{Made}
use Rattle.kb_picture.specs.declared.path.SymEnding.{SymEnding}
use Rattle.kb_picture.specs.declared.path.SymEnding.TheVariants.{Returned, Threw, IllTyped}
use Rattle.kb_picture.specs.declared.picture.Length.{Length}
use Rattle.kb_picture.specs.declared.picture.Length.TheVariants.{Plain, Is, Above}
use Rattle.kb_picture.specs.declared.picture.Origin.{Origin}
use Rattle.kb_picture.specs.declared.picture.PicLoc.{PicLoc}
use Rattle.kb_picture.specs.declared.picture.PicObject.{PicObject}
use Rattle.kb_picture.specs.declared.picture.Seen.{Seen}
use Rattle.kb_heap_words.specs.Words.{exact_text, place_text, bound_name}
use Rattle.kb_path_words.specs.Words.{seen_text, standing_text, length_text, term_text, operand_text, second_text, out_text, value_text}
use Rattle.kb_report_text.specs.Slots.{slot_text}
use Rattle.kb_path_words.specs.Lines.{spaced, further_decisions, decisions_text, ending_line}
use Rattle.kb_report_text.specs.Blocks.{path_line, see_line, loc_line, obj_line, let_line, when_line, set_line, new_line, arg_line, in_line}
use Rattle.kb_terms.specs.Op.{op_name}
use Rattle.kb_path_words.specs.Ranges.{IsSmall, LengthFits, IsTermInRange, SecondFits, OutFits, ValueFits}
use Rattle.kb_report_text.specs.Ranges.{IsCount, SlotFits, IsLocInRange, ObjectFits, ConditionFits, WriteFits, MadeFits, InputObjectFits, EndingFits, PlaceFits}
use Rattle.kb_heap_words.proofs.Lacking.{digits_lack, count_lacks, target_lacks, lacks_is, space, line_feed, dot}
use Rattle.kb_path_words.proofs.ReadBack.{same_seen, same_standing, same_out, same_value}
use Rattle.kb_heap_words.proofs.WordLaws.{place_lacks, same_digits, same_exact, same_place, exact_lacks}
use Rattle.kb_path_words.proofs.WordLaws.{same_term, op_lacks, operand_lacks, out_lacks, value_lacks, seen_lacks, standing_lacks}
use Rattle.kb_report_laws.proofs.WordLaws.{same_slot, kinds_of, slot_lacks}
use Rattle.kb_report_laws.proofs.Sections.{unlike, same_words, spaced_lacks, beginning}

-- ---- decisions

same_further : (m n : ℕ) (xs ys : List ℕ) → IsSmall m → IsSmall n → AllByRecursion IsSmall xs → AllByRecursion IsSmall ys
    → decimal m ++ further_decisions xs ≡ decimal n ++ further_decisions ys → (m ≡ n) × (xs ≡ ys)
unfolding further_decisions
same_further m n [] [] p q h k e = (same_digits m n p q (sym (append-nil (decimal m)) ∙ e ∙ append-nil (decimal n)), refl)
same_further m n [] (y ∷ ys) p q h k e = absurd (not_lacking 46 (decimal n) (decimal y ++ further_decisions ys) (decimal m) (digits_lack 46 m dot p) (sym e ∙ append-nil (decimal m)))
same_further m n (x ∷ xs) [] p q h k e = absurd (not_lacking 46 (decimal m) (decimal x ++ further_decisions xs) (decimal n) (digits_lack 46 n dot q) (e ∙ append-nil (decimal n)))
same_further m n (x ∷ xs) (y ∷ ys) p q h k e =
    let parts = same_cut 46 (decimal m) (decimal n) (decimal x ++ further_decisions xs) (decimal y ++ further_decisions ys) (digits_lack 46 m dot p) (digits_lack 46 n dot q) e in
    let rest = same_further x y xs ys h.0 k.0 h.1 k.1 parts.1 in
    (same_digits m n p q parts.0, λ i. rest.0 i ∷ rest.1 i)

-- no number begins with a dash
no_dash : (n : ℕ) (rest : List ℕ) → IsSmall n → decimal n ++ rest ≡ 45 ∷ [] → ⊥
no_dash n rest small e = go (decimal n) refl (decimal_nonempty n (omega (arith, small))) e
  where
    go : (digits : List ℕ) → decimal n ≡ digits → 0 < length digits → digits ++ rest ≡ 45 ∷ [] → ⊥
    go [] is some e = omega (arith, some)
    go (first ∷ others) is some e =
        let dash : first ≡ 45 = cc in
        let lacks : Lacks 45 (first ∷ others) = subst (Lacks 45) is (Lacks-decimal 45 n (omega arith) (omega (arith, small))) in
        lacks.0 dash

decisions_same : (xs ys : List ℕ) → AllByRecursion IsSmall xs → AllByRecursion IsSmall ys → decisions_text xs ≡ decisions_text ys → xs ≡ ys
unfolding decisions_text
decisions_same [] [] p q e = refl
decisions_same [] (y ∷ ys) p q e = absurd (no_dash y (further_decisions ys) q.0 (sym e))
decisions_same (x ∷ xs) [] p q e = absurd (no_dash x (further_decisions xs) p.0 e)
decisions_same (x ∷ xs) (y ∷ ys) p q e =
    let parts = same_further x y xs ys p.0 q.0 p.1 q.1 e in
    λ i. parts.0 i ∷ parts.1 i

pub same_path_line : (xs ys : List ℕ) → AllByRecursion IsSmall xs → AllByRecursion IsSmall ys → path_line xs ≡ path_line ys → xs ≡ ys
unfolding path_line
same_path_line xs ys p q e = decisions_same xs ys p q (same_behind (codes "path ") (decisions_text xs) (decisions_text ys) e)

further_lacks : (xs : List ℕ) → AllByRecursion IsSmall xs → Lacks 10 (further_decisions xs)
unfolding further_decisions
further_lacks [] all = tt
further_lacks (x ∷ xs) all = (omega arith, Lacks-++ 10 (decimal x) (further_decisions xs) (digits_lack 10 x line_feed.apart all.0) (further_lacks xs all.1))

decisions_lack : (xs : List ℕ) → AllByRecursion IsSmall xs → Lacks 10 (decisions_text xs)
unfolding decisions_text
decisions_lack [] all = lacks_is 10 (codes "-") refl
decisions_lack (x ∷ xs) all = Lacks-++ 10 (decimal x) (further_decisions xs) (digits_lack 10 x line_feed.apart all.0) (further_lacks xs all.1)

pub path_line_lacks : (xs : List ℕ) → AllByRecursion IsSmall xs → Lacks 10 (path_line xs)
unfolding path_line
path_line_lacks xs all = Lacks-++ 10 (codes "path ") (decisions_text xs) (lacks_is 10 (codes "path ") refl) (decisions_lack xs all)

-- ---- what is seen

module _ (world : World) where
  -- a slot that is seen is there
  abbrev pub IsSeenThere : ℕ → List PicObject → Origin × Seen → Type 0
  IsSeenThere params objects slot = IsSlot world params objects slot.0 × SlotFits slot

  pub see_line_lacks : (params : ℕ) (objects : List PicObject) (slot : Origin × Seen) → IsSeenThere params objects slot → Lacks 10 (see_line world objects slot)
  unfolding see_line
  see_line_lacks params objects slot is =
      Lacks-++ 10 (codes "see ") (slot_text world objects slot.0 ++ (codes " " ++ seen_text slot.1)) (lacks_is 10 (codes "see ") refl)
      (Lacks-++ 10 (slot_text world objects slot.0) (codes " " ++ seen_text slot.1) (slot_lacks 10 line_feed world params objects slot.0 is.1.0 is.0) (omega arith, seen_lacks 10 line_feed slot.1 is.1.1))

  -- the text of the slot of an object that is there
  abbrev pub IsFoundThere : ℕ → List PicObject → PicObject → Type 0
  IsFoundThere params objects object = (IsSlot world params objects object.origin × IsLengthOf object.kind object.length) × ObjectFits object

  abbrev pub IsWrittenThere : List PicObject → Write → Type 0
  IsWrittenThere objects write = IsSlot world 0 objects write.slot × WriteFits write

  length_lacks : (length : Length) → LengthFits length → Lacks 10 (length_text length)
  unfolding length_text
  length_lacks Plain small = tt
  length_lacks (Is n) small = Lacks-++ 10 (codes " length ") (decimal n) (lacks_is 10 (codes " length ") refl) (digits_lack 10 n line_feed.apart small)
  length_lacks (Above n) small = Lacks-++ 10 (codes " above ") (decimal n) (lacks_is 10 (codes " above ") refl) (digits_lack 10 n line_feed.apart small)

  module _ (linked : IsLinked world) (objects others : List PicObject) (kinds : kinds_of objects ≡ kinds_of others) where
    pub same_see_line : (params many : ℕ) (one other : Origin × Seen) → IsSeenThere params objects one → IsSeenThere many others other → see_line world objects one ≡ see_line world others other → one ≡ other
    unfolding see_line
    same_see_line params many one other p q e =
        let parts = same_cut 32 (slot_text world objects one.0) (slot_text world others other.0) (seen_text one.1) (seen_text other.1)
        (slot_lacks 32 space world params objects one.0 p.1.0 p.0) (slot_lacks 32 space world many others other.0 q.1.0 q.0)
        (same_behind (codes "see ") (slot_text world objects one.0 ++ 32 ∷ seen_text one.1) (slot_text world others other.0 ++ 32 ∷ seen_text other.1) e) in
        let slot = same_slot world linked objects others kinds params many one.0 other.0 p.0 q.0 p.1.0 q.1.0 parts.0 in
        let seen = same_seen one.1 other.1 p.1.1 q.1.1 parts.1 in
        λ i. (slot i, seen i)

    pub same_set_line : (one other : Write) → IsWrittenThere objects one → IsWrittenThere others other → set_line world objects one ≡ set_line world others other → one ≡ other
    unfolding set_line
    same_set_line one other p q e =
        let parts = same_cut 32 (slot_text world objects one.slot) (slot_text world others other.slot) (out_text one.value) (out_text other.value)
        (slot_lacks 32 space world 0 objects one.slot p.1.0 p.0) (slot_lacks 32 space world 0 others other.slot q.1.0 q.0)
        (same_behind (codes "set ") (slot_text world objects one.slot ++ 32 ∷ out_text one.value) (slot_text world others other.slot ++ 32 ∷ out_text other.value) e) in
        let slot = same_slot world linked objects others kinds 0 0 one.slot other.slot p.0 q.0 p.1.0 q.1.0 parts.0 in
        let value = same_out one.value other.value p.1.1 q.1.1 parts.1 in
        λ i. record { slot = slot i; value = value i }

  pub set_line_lacks : (objects : List PicObject) (write : Write) → IsWrittenThere objects write → Lacks 10 (set_line world objects write)
  unfolding set_line
  set_line_lacks objects write is =
      Lacks-++ 10 (codes "set ") (slot_text world objects write.slot ++ (codes " " ++ out_text write.value)) (lacks_is 10 (codes "set ") refl)
      (Lacks-++ 10 (slot_text world objects write.slot) (codes " " ++ out_text write.value) (slot_lacks 10 line_feed world 0 objects write.slot is.1.0 is.0) (omega arith, out_lacks 10 line_feed write.value is.1.1))

  pub obj_line_lacks : (params : ℕ) (objects : List PicObject) (number : ℕ) (object : PicObject) → IsCount number → IsFoundThere params objects object → Lacks 10 (obj_line world objects number object)
  unfolding obj_line
  obj_line_lacks params objects number object small is =
      let behind = slot_text world objects object.origin in
      Lacks-++ 10 (codes "obj o") (decimal number ++ (codes " " ++ (exact_text object.kind ++ (length_text object.length ++ (codes " " ++ behind))))) (lacks_is 10 (codes "obj o") refl)
      (Lacks-++ 10 (decimal number) (codes " " ++ (exact_text object.kind ++ (length_text object.length ++ (codes " " ++ behind)))) (count_lacks 10 number line_feed.apart small) (
        omega arith,
        Lacks-++ 10 (exact_text object.kind) (length_text object.length ++ (codes " " ++ behind)) (exact_lacks 10 line_feed object.kind)
            (Lacks-++ 10 (length_text object.length) (codes " " ++ behind) (length_lacks object.length is.1.length) (omega arith, slot_lacks 10 line_feed world params objects object.origin is.1.origin is.0.0)),
      ))

-- ---- objects

-- a length and the slot behind it, without the space before them
abbrev rest_of : Length → List ℕ → List ℕ
rest_of Plain slot = slot
rest_of (Is n) slot = codes "length " ++ (decimal n ++ 32 ∷ slot)
rest_of (Above n) slot = codes "above " ++ (decimal n ++ 32 ∷ slot)

rest_is : (length : Length) (slot : List ℕ) → length_text length ++ (codes " " ++ slot) ≡ 32 ∷ rest_of length slot
unfolding length_text
rest_is Plain slot = refl
rest_is (Is n) slot = refl
rest_is (Above n) slot = refl

same_rest : (kind : ExactType) (length other : Length) (slot text : List ℕ) → IsLengthOf kind length → IsLengthOf kind other → LengthFits length → LengthFits other
    → rest_of length slot ≡ rest_of other text → (length ≡ other) × (slot ≡ text)
same_rest kind Plain Plain slot text p q h k e = (refl, e)
same_rest (exact.Class name) Plain (Is n) slot text p q h k e = absurd q
same_rest (exact.Array component) Plain (Is n) slot text p q h k e = absurd p
same_rest (exact.Class name) Plain (Above n) slot text p q h k e = absurd q
same_rest (exact.Array component) Plain (Above n) slot text p q h k e = absurd p
same_rest (exact.Class name) (Is m) Plain slot text p q h k e = absurd p
same_rest (exact.Array component) (Is m) Plain slot text p q h k e = absurd q
same_rest kind (Is m) (Is n) slot text p q h k e =
    let parts = same_cut 32 (decimal m) (decimal n) slot text (digits_lack 32 m space.apart h) (digits_lack 32 n space.apart k) (same_behind (codes "length ") (decimal m ++ 32 ∷ slot) (decimal n ++ 32 ∷ text) e) in
    (ap (λ (i : ℕ). Is i) (same_digits m n h k parts.0), parts.1)
same_rest kind (Is m) (Above n) slot text p q h k e = absurd (unlike 108 97 (omega arith) (ap (λ (l : List ℕ). slice_index l 0) e))
same_rest (exact.Class name) (Above m) Plain slot text p q h k e = absurd p
same_rest (exact.Array component) (Above m) Plain slot text p q h k e = absurd q
same_rest kind (Above m) (Is n) slot text p q h k e = absurd (unlike 97 108 (omega arith) (ap (λ (l : List ℕ). slice_index l 0) e))
same_rest kind (Above m) (Above n) slot text p q h k e =
    let parts = same_cut 32 (decimal m) (decimal n) slot text (digits_lack 32 m space.apart h) (digits_lack 32 n space.apart k) (same_behind (codes "above ") (decimal m ++ 32 ∷ slot) (decimal n ++ 32 ∷ text) e) in
    (ap (λ (i : ℕ). Above i) (same_digits m n h k parts.0), parts.1)

-- behind the number, which is the same
behind_number : (front : List ℕ) (number : ℕ) (us vs : List ℕ) → front ++ (decimal number ++ 32 ∷ us) ≡ front ++ (decimal number ++ 32 ∷ vs) → us ≡ vs
behind_number front number us vs e =
    let whole = same_behind (decimal number) (32 ∷ us) (32 ∷ vs) (same_behind front (decimal number ++ 32 ∷ us) (decimal number ++ 32 ∷ vs) e) in
    cc

-- two objects that have one text
pub record IsObjectAlike (world : World) (objects others : List PicObject) (one other : PicObject) : Type 0 where
  pub kind : one.kind ≡ other.kind
  pub length : one.length ≡ other.length
  pub slot : slot_text world objects one.origin ≡ slot_text world others other.origin

abbrev pub IsOfLength : PicObject → Type 0
IsOfLength object = IsLengthOf object.kind object.length × ObjectFits object

pub same_obj_line : (world : World) (objects others : List PicObject) (number : ℕ) (one other : PicObject) → IsOfLength one → IsOfLength other
    → obj_line world objects number one ≡ obj_line world others number other → IsObjectAlike world objects others one other
unfolding obj_line
same_obj_line world objects others number one other p q e =
    let slot = slot_text world objects one.origin in
    let text = slot_text world others other.origin in
    let behind = behind_number (codes "obj o") number (exact_text one.kind ++ (length_text one.length ++ (codes " " ++ slot))) (exact_text other.kind ++ (length_text other.length ++ (codes " " ++ text))) e in
    let whole = sym (ap (λ (rest : List ℕ). exact_text one.kind ++ rest) (rest_is one.length slot)) ∙ behind ∙ ap (λ (rest : List ℕ). exact_text other.kind ++ rest) (rest_is other.length text) in
    let parts = same_cut 32 (exact_text one.kind) (exact_text other.kind) (rest_of one.length slot) (rest_of other.length text) (exact_lacks 32 space one.kind) (exact_lacks 32 space other.kind) whole in
    let kind = same_exact one.kind other.kind parts.0 in
    let rest = same_rest one.kind one.length other.length slot text p.0 (subst (λ (k : ExactType). IsLengthOf k other.length) (sym kind) q.0) p.1.length q.1.length parts.1 in
    record { kind = kind; length = rest.0; slot = rest.1 }

-- ---- locations, terms, conditions

pub same_loc_line : (number : ℕ) (one other : PicLoc) → IsLocInRange one → IsLocInRange other → loc_line number one ≡ loc_line number other → one.standing ≡ other.standing
unfolding loc_line
same_loc_line number one other p q e = same_standing one.standing other.standing p q (behind_number (codes "loc l") number (standing_text one.standing) (standing_text other.standing) e)

pub loc_line_lacks : (number : ℕ) (loc : PicLoc) → IsCount number → IsLocInRange loc → Lacks 10 (loc_line number loc)
unfolding loc_line
loc_line_lacks number loc small fits =
    Lacks-++ 10 (codes "loc l") (decimal number ++ (codes " " ++ standing_text loc.standing)) (lacks_is 10 (codes "loc l") refl)
    (Lacks-++ 10 (decimal number) (codes " " ++ standing_text loc.standing) (count_lacks 10 number line_feed.apart small) (omega arith, standing_lacks 10 line_feed loc.standing fits))

pub same_let_line : (number : ℕ) (one other : Term) → IsTermInRange one → IsTermInRange other → let_line number one ≡ let_line number other → one ≡ other
unfolding let_line
same_let_line number one other p q e = same_term one other p q (behind_number (codes "let t") number (term_text one) (term_text other) e)

second_lacks : (second : Option Operand) → SecondFits second → Lacks 10 (second_text second)
unfolding second_text
second_lacks None fits = tt
second_lacks (Some operand) fits = (omega arith, operand_lacks 10 line_feed operand fits)

term_lacks : (term : Term) → IsTermInRange term → Lacks 10 (term_text term)
unfolding term_text
term_lacks term fits =
    Lacks-++ 10 (op_name term.op) (codes " " ++ (operand_text term.left ++ second_text term.right)) (op_lacks 10 line_feed term.op)
    (omega arith, Lacks-++ 10 (operand_text term.left) (second_text term.right) (operand_lacks 10 line_feed term.left fits.left) (second_lacks term.right fits.right))

pub let_line_lacks : (number : ℕ) (term : Term) → IsCount number → IsTermInRange term → Lacks 10 (let_line number term)
unfolding let_line
let_line_lacks number term small fits =
    Lacks-++ 10 (codes "let t") (decimal number ++ (codes " " ++ term_text term)) (lacks_is 10 (codes "let t") refl)
    (Lacks-++ 10 (decimal number) (codes " " ++ term_text term) (count_lacks 10 number line_feed.apart small) (omega arith, term_lacks term fits))

same_truth : (a b : Bool) (m n : ℕ) → IsSmall m → IsSmall n → cond a [] (codes "not ") ++ (codes "t" ++ decimal m) ≡ cond b [] (codes "not ") ++ (codes "t" ++ decimal n) → (m ≡ n) × (a ≡ b)
same_truth true true m n p q e = (same_digits m n p q (same_behind (codes "t") (decimal m) (decimal n) e), refl)
same_truth true false m n p q e = absurd (unlike 116 110 (omega arith) (ap (λ (l : List ℕ). slice_index l 0) e))
same_truth false true m n p q e = absurd (unlike 110 116 (omega arith) (ap (λ (l : List ℕ). slice_index l 0) e))
same_truth false false m n p q e = (same_digits m n p q (same_behind (codes "not t") (decimal m) (decimal n) e), refl)

pub same_when_line : (one other : ℕ × Bool) → ConditionFits one → ConditionFits other → when_line one ≡ when_line other → one ≡ other
unfolding when_line
same_when_line one other p q e =
    let parts = same_truth one.1 other.1 one.0 other.0 p q (same_behind (codes "when ") (cond one.1 [] (codes "not ") ++ (codes "t" ++ decimal one.0)) (cond other.1 [] (codes "not ") ++ (codes "t" ++ decimal other.0)) e) in
    λ i. (parts.0 i, parts.1 i)

truth_lacks : (truth : Bool) → Lacks 10 (cond truth [] (codes "not "))
truth_lacks true = tt
truth_lacks false = lacks_is 10 (codes "not ") refl

pub when_line_lacks : (condition : ℕ × Bool) → ConditionFits condition → Lacks 10 (when_line condition)
unfolding when_line
when_line_lacks condition small =
    Lacks-++ 10 (codes "when ") (cond condition.1 [] (codes "not ") ++ (codes "t" ++ decimal condition.0)) (lacks_is 10 (codes "when ") refl)
    (Lacks-++ 10 (cond condition.1 [] (codes "not ")) (codes "t" ++ decimal condition.0) (truth_lacks condition.1) (omega arith, digits_lack 10 condition.0 line_feed.apart small))

-- ---- inputs and made objects

pub same_arg_line : (one other : Value) → ValueFits one → ValueFits other → arg_line one ≡ arg_line other → one ≡ other
unfolding arg_line
same_arg_line one other p q e = same_value one other p q (same_behind (codes "arg ") (value_text one) (value_text other) e)

pub arg_line_lacks : (value : Value) → ValueFits value → Lacks 10 (arg_line value)
unfolding arg_line
arg_line_lacks value fits = Lacks-++ 10 (codes "arg ") (value_text value) (lacks_is 10 (codes "arg ") refl) (value_lacks 10 line_feed value fits)

pub same_in_line : (number : ℕ) (one other : Object) → InputObjectFits one → InputObjectFits other → in_line number one ≡ in_line number other → one ≡ other
unfolding in_line
same_in_line number one other p q e =
    let behind = behind_number (codes "in i") number (exact_text one.kind ++ spaced value_text one.values) (exact_text other.kind ++ spaced value_text other.values) e in
    let parts = same_words value_text ValueFits (value_lacks 32 space) same_value (exact_text one.kind) (exact_text other.kind) one.values other.values (exact_lacks 32 space one.kind) (exact_lacks 32 space other.kind) p q behind in
    let kind = same_exact one.kind other.kind parts.0 in
    λ i. record { kind = kind i; values = parts.1 i }

pub in_line_lacks : (number : ℕ) (object : Object) → IsCount number → InputObjectFits object → Lacks 10 (in_line number object)
unfolding in_line
in_line_lacks number object small fits =
    Lacks-++ 10 (codes "in i") (decimal number ++ (codes " " ++ (exact_text object.kind ++ spaced value_text object.values))) (lacks_is 10 (codes "in i") refl)
    (Lacks-++ 10 (decimal number) (codes " " ++ (exact_text object.kind ++ spaced value_text object.values)) (count_lacks 10 number line_feed.apart small)
    (omega arith, Lacks-++ 10 (exact_text object.kind) (spaced value_text object.values) (exact_lacks 10 line_feed object.kind) (spaced_lacks 10 value_text ValueFits (omega arith) (value_lacks 10 line_feed) object.values fits)))

pub same_new_line : (number : ℕ) (one other : Made) → MadeFits one → MadeFits other → new_line number one ≡ new_line number other → one ≡ other
unfolding new_line
same_new_line number one other p q e =
    let behind = behind_number (codes "new n") number (exact_text one.kind ++ spaced out_text one.values) (exact_text other.kind ++ spaced out_text other.values) e in
    let parts = same_words out_text OutFits (out_lacks 32 space) same_out (exact_text one.kind) (exact_text other.kind) one.values other.values (exact_lacks 32 space one.kind) (exact_lacks 32 space other.kind) p q behind in
    let kind = same_exact one.kind other.kind parts.0 in
    λ i. record { kind = kind i; values = parts.1 i }

pub new_line_lacks : (number : ℕ) (made : Made) → IsCount number → MadeFits made → Lacks 10 (new_line number made)
unfolding new_line
new_line_lacks number made small fits =
    Lacks-++ 10 (codes "new n") (decimal number ++ (codes " " ++ (exact_text made.kind ++ spaced out_text made.values))) (lacks_is 10 (codes "new n") refl)
    (Lacks-++ 10 (decimal number) (codes " " ++ (exact_text made.kind ++ spaced out_text made.values)) (count_lacks 10 number line_feed.apart small)
    (omega arith, Lacks-++ 10 (exact_text made.kind) (spaced out_text made.values) (exact_lacks 10 line_feed made.kind) (spaced_lacks 10 out_text OutFits (omega arith) (out_lacks 10 line_feed) made.values fits)))

-- ---- endings

differ_at : (s t : List ℕ) → beginning s ≢ beginning t → s ≡ t → ⊥
differ_at s t ne e = ne (ap beginning e)

pub same_ending : (one other : SymEnding) → EndingFits one → EndingFits other → ending_line one ≡ ending_line other → one ≡ other
unfolding ending_line
same_ending (Returned None) (Returned None) p q e = refl
same_ending (Returned None) (Returned (Some b)) p q e = absurd (unlike 0 32 (omega arith) (ap (λ (l : List ℕ). slice_index l 7) e))
same_ending (Returned None) (Threw b) p q e = absurd (unlike 114 116 (omega arith) (ap (λ (l : List ℕ). slice_index l 0) e))
same_ending (Returned None) (IllTyped b) p q e = absurd (unlike 114 105 (omega arith) (ap (λ (l : List ℕ). slice_index l 0) e))
same_ending (Returned (Some a)) (Returned None) p q e = absurd (unlike 32 0 (omega arith) (ap (λ (l : List ℕ). slice_index l 7) e))
same_ending (Returned (Some a)) (Returned (Some b)) p q e = ap (λ (out : Out). Returned (Some out)) (same_out a b p q (same_behind (codes "returns ") (out_text a) (out_text b) e))
same_ending (Returned (Some a)) (Threw b) p q e = absurd (unlike 114 116 (omega arith) (ap (λ (l : List ℕ). slice_index l 0) e))
same_ending (Returned (Some a)) (IllTyped b) p q e = absurd (unlike 114 105 (omega arith) (ap (λ (l : List ℕ). slice_index l 0) e))
same_ending (Threw a) (Returned None) p q e = absurd (unlike 116 114 (omega arith) (ap (λ (l : List ℕ). slice_index l 0) e))
same_ending (Threw a) (Returned (Some b)) p q e = absurd (unlike 116 114 (omega arith) (ap (λ (l : List ℕ). slice_index l 0) e))
same_ending (Threw a) (Threw b) p q e = ap (λ (out : Out). Threw out) (same_out a b p q (same_behind (codes "throws ") (out_text a) (out_text b) e))
same_ending (Threw a) (IllTyped b) p q e = absurd (unlike 116 105 (omega arith) (ap (λ (l : List ℕ). slice_index l 0) e))
same_ending (IllTyped a) (Returned None) p q e = absurd (unlike 105 114 (omega arith) (ap (λ (l : List ℕ). slice_index l 0) e))
same_ending (IllTyped a) (Returned (Some b)) p q e = absurd (unlike 105 114 (omega arith) (ap (λ (l : List ℕ). slice_index l 0) e))
same_ending (IllTyped a) (Threw b) p q e = absurd (unlike 105 116 (omega arith) (ap (λ (l : List ℕ). slice_index l 0) e))
same_ending (IllTyped a) (IllTyped b) p q e = ap (λ (place : Place). IllTyped place) (same_place a b p q (same_behind (codes "illtyped ") (place_text a) (place_text b) e))

pub ending_lacks : (ending : SymEnding) → EndingFits ending → Lacks 10 (ending_line ending)
unfolding ending_line
ending_lacks (Returned None) fits = lacks_is 10 (codes "returns") refl
ending_lacks (Returned (Some value)) fits = Lacks-++ 10 (codes "returns ") (out_text value) (lacks_is 10 (codes "returns ") refl) (out_lacks 10 line_feed value fits)
ending_lacks (Threw value) fits = Lacks-++ 10 (codes "throws ") (out_text value) (lacks_is 10 (codes "throws ") refl) (out_lacks 10 line_feed value fits)
ending_lacks (IllTyped place) fits = Lacks-++ 10 (codes "illtyped ") (place_text place) (lacks_is 10 (codes "illtyped ") refl) (place_lacks 10 line_feed (omega arith) place fits)

pub bound_lacks : (bound : Bound) → Lacks 10 (codes "cut " ++ bound_name bound)
unfolding bound_name
bound_lacks K = lacks_is 10 (codes "cut k") refl
bound_lacks ArrayBound = lacks_is 10 (codes "cut array") refl
bound_lacks Alloc = lacks_is 10 (codes "cut alloc") refl
bound_lacks Loops = lacks_is 10 (codes "cut loops") refl
bound_lacks Depth = lacks_is 10 (codes "cut depth") refl
bound_lacks Steps = lacks_is 10 (codes "cut steps") refl
