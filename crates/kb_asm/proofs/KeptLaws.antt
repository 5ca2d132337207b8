-- What holds of lines that keep the limits of class files: how many their parts are, and how their pool is.
use Rattle.std.proofs.Common.{◌≡◌, ℕ, suc, ◌+◌, ◌^◌, ◌<◌, ◌≤◌, Bool, true, false, ◌&&◌, eqb, nat_le, if◌then◌else◌, List, [], ◌∷◌, length, map, Option, refl, sym, subst, ◌∙◌, arith, flat_map}
use Rattle.std.specs.List.{list_all, AllByRecursion}
use Rattle.std.proofs.lemmas.Bool.{and_parts, and_from, leb-true}
use Rattle.std.proofs.lemmas.List.Folds.{list_all-append}
use Rattle.std.proofs.lemmas.Option.{slice_get_within}
use Rattle.kb_asm_text.specs.declared.line.Constant.{Constant}
use Rattle.kb_asm_text.specs.declared.line.Constant.TheVariants as constants
use Rattle.kb_asm_text.specs.declared.line.Operand.TheVariants as operands
use Rattle.kb_asm_text.specs.declared.line.BodyLine.TheVariants as bodies
use Rattle.kb_asm_text.specs.declared.line.Line.{Line}
use Rattle.kb_asm_text.specs.declared.line.Line.TheVariants as lines
use Rattle.kb_texts.specs.Texts.{AreDistinct}
use Rattle.kb_asm_pool.specs.Says.{Says, all_added}
use Rattle.kb_asm_pool.specs.Needs.{constant_says, line_needs}
use Rattle.kb_asm_check.specs.Limits.{Standing, ldc_says, is_short, is_sound, has_few_words, is_new, are_few, counted, has_room, fits_behind, with_line, nothing, kept_behind}
use Rattle.kb_asm_check.specs.Faults.{IsSound, body_of}
use Rattle.kb_asm.specs.Parts.{parts}
use Rattle.kb_asm.specs.Needs.{IsWhole, AreFirst, says_of}
use Rattle.kb_asm.specs.Class.{interface_in, field_in, method_in, handler_in}
use Rattle.kb_asm.specs.Working.{AreCounted}
use Rattle.kb_asm.proofs.SaysLaws.{each_there, all_have, all_pass, placed, keeps_all, distinct_all, distinct_none}
use Rattle.kb_asm.proofs.PoolLaws.{more_added, firsts_of, is_closed}
use Rattle.kb_asm.proofs.OnceLaws.{is_needed}
use Rattle.kb_asm.proofs.CountLaws.{within_length}

-- each line keeps the limits behind those before it
abbrev pub AllKept : Standing → List Line → Type 0
AllKept before [] = Unit {0}
AllKept before (line ∷ of) = (fits_behind before line ≡ true) × AllKept (with_line before line) of

all_kept : (before : Standing) (of : List Line) → kept_behind before of ≡ length of → AllKept before of
all_kept before [] e = tt
all_kept before (line ∷ of) e = go (fits_behind before line) refl e (λ k. all_kept (with_line before line) of k)
  where
    go : (b : Bool) → fits_behind before line ≡ b → (if b then 1 + kept_behind (with_line before line) of else 0) ≡ length (line ∷ of)
        → (kept_behind (with_line before line) of ≡ length of → AllKept (with_line before line) of)
        → (fits_behind before line ≡ true) × AllKept (with_line before line) of
    go true fits k more = (fits, more (omega (arith, k)))
    go false fits k more = absurd (omega (arith, k))

pub lines_kept : (of : List Line) → IsSound of → AllKept nothing of
lines_kept of sound = all_kept nothing of sound.kept

module _ (before : Standing) (line : Line) (fits : fits_behind before line ≡ true) where
  fit_parts : (is_sound before.labels line ≡ true) × ((are_few (counted before.counts line) && has_room (with_line before line)) ≡ true)
  fit_parts = and_parts (is_sound before.labels line) (are_few (counted before.counts line) && has_room (with_line before line)) fits

  sound_parts : (list_all is_short (line_needs line) ≡ true) × ((has_few_words line && is_new before.labels line) ≡ true)
  sound_parts = and_parts (list_all is_short (line_needs line)) (has_few_words line && is_new before.labels line) fit_parts.0

  fits_words : has_few_words line ≡ true
  fits_words = (and_parts (has_few_words line) (is_new before.labels line) sound_parts.1).0

  pub fits_few : are_few (counted before.counts line) ≡ true
  fits_few = (and_parts (are_few (counted before.counts line)) (has_room (with_line before line)) fit_parts.1).0

  fits_room : has_room (with_line before line) ≡ true
  fits_room = (and_parts (are_few (counted before.counts line)) (has_room (with_line before line)) fit_parts.1).1

-- ---- the arguments of calls take few words

pub words_kept : (before : Standing) (of : List Line) → AllKept before of → AllByRecursion (λ (line : Line). has_few_words line ≡ true) of
words_kept before [] k = tt
words_kept before (line ∷ of) k = (fits_words before line k.0, words_kept (with_line before line) of k.1)

-- ---- the texts of the pool are short

short_kept : (before : Standing) (of : List Line) → AllKept before of → list_all (λ (line : Line). list_all is_short (line_needs line)) of ≡ true
short_kept before [] k = refl
short_kept before (line ∷ of) k =
    and_from (list_all is_short (line_needs line)) (list_all (λ (l : Line). list_all is_short (line_needs l)) of) (sound_parts before line k.0).0 (short_kept (with_line before line) of k.1)

all_short : (f : Line → List Says) (of : List Line) → ((line : Line) → list_all is_short (line_needs line) ≡ true → list_all is_short (f line) ≡ true)
    → list_all (λ (line : Line). list_all is_short (line_needs line)) of ≡ true → list_all is_short (flat_map f of) ≡ true
all_short f [] each h = refl
all_short f (line ∷ of) each h =
    let p = and_parts (list_all is_short (line_needs line)) (list_all (λ (l : Line). list_all is_short (line_needs l)) of) h in
    list_all-append is_short (f line) (flat_map f of) ∙ and_from (list_all is_short (f line)) (list_all is_short (flat_map f of)) (each line p.0) (all_short f of each p.1)

short_constant : (of : Constant) → list_all is_short (constant_says of ∷ []) ≡ true
short_constant (constants.Int z) = refl
short_constant (constants.Text bytes) = refl

short_ldc : (line : Line) → list_all is_short (ldc_says line) ≡ true
short_ldc (lines.Body (bodies.Instr op (operands.Constant of))) = go (eqb op 0x12)
  where
    go : (b : Bool) → list_all is_short (map constant_says (if b then of ∷ [] else [])) ≡ true
    go true = short_constant of
    go false = refl
short_ldc line = refl

are_short : (of : List Line) → IsSound of → list_all is_short (says_of of) ≡ true
are_short of sound =
    let each = short_kept nothing of (lines_kept of sound) in
    all_pass is_short (firsts_of of) (flat_map line_needs of)
    (all_pass is_short [] (flat_map ldc_says of) refl (all_short ldc_says of (λ line h. short_ldc line) each))
    (all_short line_needs of (λ line h. h) each)

-- ---- the pool has room, and the constants of ldc lines are the first

room_kept : (before : Standing) (of : List Line) → has_room before ≡ true → AllKept before of
    → (length (all_added before.pool (flat_map line_needs of)) ≤ 65534) × (length (all_added before.constants (flat_map ldc_says of)) ≤ 255)
room_kept before [] room k =
    let p = and_parts (nat_le (length before.pool) 65534) (nat_le (length before.constants) 255) room in
    (leb-true (length before.pool) 65534 p.0, leb-true (length before.constants) 255 p.1)
room_kept before (line ∷ of) room k =
    let next = room_kept (with_line before line) of (fits_room before line k.0) k.1 in
    (subst (λ (l : List Says). length l ≤ 65534) (sym (more_added line_needs line of before.pool)) next.0, subst (λ (l : List Says). length l ≤ 255) (sym (more_added ldc_says line of before.constants)) next.1)

module _ (of : List Line) (sound : IsSound of) where
  rooms : (length (all_added [] (flat_map line_needs of)) ≤ 65534) × (length (firsts_of of) ≤ 255)
  rooms = room_kept nothing of refl (lines_kept of sound)

  distinct_says : AreDistinct (says_of of)
  distinct_says = distinct_all (firsts_of of) (flat_map line_needs of) (distinct_all [] (flat_map ldc_says of) distinct_none)

  few_says : length (says_of of) ≤ 65534
  few_says =
      let needs : List Says = flat_map line_needs of in
      let room : length (all_added [] needs) ≤ 65534 = rooms.0 in
      let within : length (says_of of) ≤ length (all_added [] needs) =
      within_length (says_of of) (all_added [] needs) distinct_says (λ one h. each_there (all_added [] needs) needs one (all_have [] needs) (is_needed of one h)) in
      omega arith

  pub is_whole : IsWhole (says_of of)
  is_whole = record { closed = is_closed of; few = few_says; short = are_short of sound }

  pub are_first : AreFirst (says_of of) (flat_map ldc_says of)
  are_first one place h e =
      let p = placed (firsts_of of) one (each_there (firsts_of of) (flat_map ldc_says of) one (all_have [] (flat_map ldc_says of)) h) in
      let within : p.0 < length (firsts_of of) = slice_get_within (firsts_of of) p.0 one p.1 in
      let same : place ≡ p.0 = distinct_says place p.0 one e (keeps_all (firsts_of of) (flat_map line_needs of) p.0 one p.1) in
      let room : length (firsts_of of) ≤ 255 = rooms.1 in
      omega arith

-- ---- two bytes count the parts

few_parts : (before : Standing) → are_few before.counts ≡ true
    → (before.counts.interfaces ≤ 65535) × (before.counts.fields ≤ 65535) × (before.counts.methods ≤ 65535) × (before.counts.handlers ≤ 65535)
few_parts before few =
    let counts = before.counts in
    let p = and_parts (nat_le counts.interfaces 65535) (nat_le counts.fields 65535 && (nat_le counts.methods 65535 && nat_le counts.handlers 65535)) few in
    let q = and_parts (nat_le counts.fields 65535) (nat_le counts.methods 65535 && nat_le counts.handlers 65535) p.1 in
    let r = and_parts (nat_le counts.methods 65535) (nat_le counts.handlers 65535) q.1 in
    (leb-true counts.interfaces 65535 p.0, leb-true counts.fields 65535 q.0, leb-true counts.methods 65535 r.0, leb-true counts.handlers 65535 r.1)

none_more : (count : ℕ) → count ≤ 65535 → count + 0 ≤ 65535
none_more count h = omega (arith, h)

one_more : (count rest : ℕ) → count + 1 + rest ≤ 65535 → count + suc rest ≤ 65535
one_more count rest h = omega (arith, h)

-- parts of a kind that has a count
module _ {A : Type 0} (part : Line → List Line → Option A) (count : Standing → ℕ) (few_of : (before : Standing) → are_few before.counts ≡ true → count before ≤ 65535)
    (more : (before : Standing) (line : Line) (of : List Line) → count (with_line before line) + length (parts part of) ≤ 65535 → count before + length (parts part (line ∷ of)) ≤ 65535) where
  count_kept : (before : Standing) (of : List Line) → are_few before.counts ≡ true → AllKept before of → count before + length (parts part of) ≤ 65535
  count_kept before [] few k = none_more (count before) (few_of before few)
  count_kept before (line ∷ of) few k = more before line of (count_kept (with_line before line) of (fits_few before line k.0) k.1)

interfaces_more : (before : Standing) (line : Line) (of : List Line) → (with_line before line).counts.interfaces + length (parts interface_in of) ≤ 65535
    → before.counts.interfaces + length (parts interface_in (line ∷ of)) ≤ 65535
interfaces_more before (lines.Implements name) of h = one_more before.counts.interfaces (length (parts interface_in of)) h
interfaces_more before (lines.Body (bodies.Catch row)) of h = h
interfaces_more before line of h = h

fields_more : (before : Standing) (line : Line) (of : List Line) → (with_line before line).counts.fields + length (parts field_in of) ≤ 65535
    → before.counts.fields + length (parts field_in (line ∷ of)) ≤ 65535
fields_more before (lines.Field head) of h = one_more before.counts.fields (length (parts field_in of)) h
fields_more before (lines.Body (bodies.Catch row)) of h = h
fields_more before line of h = h

methods_more : (before : Standing) (line : Line) (of : List Line) → (with_line before line).counts.methods + length (parts method_in of) ≤ 65535
    → before.counts.methods + length (parts method_in (line ∷ of)) ≤ 65535
methods_more before (lines.Method head) of h = one_more before.counts.methods (length (parts method_in of)) h
methods_more before (lines.Body (bodies.Catch row)) of h = h
methods_more before line of h = h

module _ (of : List Line) (sound : IsSound of) where
  pub few_interfaces : AreCounted (parts interface_in of)
  few_interfaces =
      let h : 0 + length (parts interface_in of) ≤ 65535 =
      count_kept interface_in (λ (before : Standing). before.counts.interfaces) (λ before few. (few_parts before few).0) interfaces_more nothing of refl (lines_kept of sound) in
      let counted_few : length (parts interface_in of) < 2 ^ 16 = omega arith in
      counted_few

  pub few_fields : AreCounted (parts field_in of)
  few_fields =
      let h : 0 + length (parts field_in of) ≤ 65535 =
      count_kept field_in (λ (before : Standing). before.counts.fields) (λ before few. (few_parts before few).1) fields_more nothing of refl (lines_kept of sound) in
      let counted_few : length (parts field_in of) < 2 ^ 16 = omega arith in
      counted_few

  pub few_methods : AreCounted (parts method_in of)
  few_methods =
      let h : 0 + length (parts method_in of) ≤ 65535 =
      count_kept method_in (λ (before : Standing). before.counts.methods) (λ before few. (few_parts before few).2) methods_more nothing of refl (lines_kept of sound) in
      let counted_few : length (parts method_in of) < 2 ^ 16 = omega arith in
      counted_few

-- the handlers of the body that begins the lines
pub handlers_kept : (before : Standing) (of : List Line) → are_few before.counts ≡ true → AllKept before of → before.counts.handlers + length (parts handler_in (body_of of)) ≤ 65535
handlers_kept before [] few k = none_more before.counts.handlers (few_parts before few).3
handlers_kept before (lines.Body (bodies.Catch row) ∷ of) few k =
    one_more before.counts.handlers (length (parts handler_in (body_of of)))
    (handlers_kept (with_line before (lines.Body (bodies.Catch row))) of (fits_few before (lines.Body (bodies.Catch row)) k.0) k.1)
handlers_kept before (lines.Body (bodies.Label label) ∷ of) few k =
    handlers_kept (with_line before (lines.Body (bodies.Label label))) of (fits_few before (lines.Body (bodies.Label label)) k.0) k.1
handlers_kept before (lines.Body (bodies.Instr op operand) ∷ of) few k =
    handlers_kept (with_line before (lines.Body (bodies.Instr op operand))) of (fits_few before (lines.Body (bodies.Instr op operand)) k.0) k.1
handlers_kept before (lines.Body (bodies.Raw byte) ∷ of) few k =
    handlers_kept (with_line before (lines.Body (bodies.Raw byte))) of (fits_few before (lines.Body (bodies.Raw byte)) k.0) k.1
handlers_kept before (line ∷ of) few k = none_more before.counts.handlers (few_parts before few).3
