-- The reader is exact for the grammar: attributes and code.
use Rattle.std.proofs.Common.{◌≡◌, ◌≢◌, ◌⊎◌, inl, inr, ℕ, zero, suc, ◌+◌, ◌≤◌, Bool, true, false, ◌&&◌, leb, eqb, cond, List, [], ◌∷◌, Option, Some, None, length, refl, subst, sym, ap, arith, codes}
use Rattle.std.proofs.lemmas.Bool.{eqb-true, le-leb, leb-true}
use Rattle.std.specs.List.{AllByRecursion}
use Rattle.kb_grammar.specs.Reading.{◌>>=◌, done, run, folded, judged, telling}
use Rattle.kb_grammar.specs.Grammar.{Piece, ◌⊳◌, IsRun, IsRunOf, IsAny, Each, Steps, Exact, IsSized}
use Rattle.kb_grammar.proofs.Laws.{exact_same, bind_exact, made_exact, fault_exact, if_exact, folded_exact, judged_exact, first_exact, field_exact, last_exact, end_exact, counted_exact, run_exact, telling_exact, sized_exact}
use Rattle.kb_classfile.specs.declared.file.PoolEntry.{PoolEntry}
use Rattle.kb_classfile.specs.declared.file.Code.{Code}
use Rattle.kb_classfile.specs.declared.pool.EntryKind.TheVariants as kinds
use Rattle.kb_classfile.specs.declared.refusal.ClassRefusal.{ClassRefusal}
use Rattle.kb_classfile.specs.declared.refusal.ClassRefusal.TheVariants as refusals
use Rattle.kb_classfile.specs.Pool.{utf8_in, NamesEntry}
use Rattle.kb_classfile.specs.Spelling.{IsU2, IsU4, SpellsTable, SpellsIndex, Attribute, SpellsAttribute, SpellsAttributes, SpellsInstructions, SpellsCatch, SpellsHandler, SpellsCode, SpellsMethodAttribute, SpellsMethodAttributes, IsNone, HaveCode}
use Rattle.kb_classfile.specs.Reading.{short, u2, u4, index_of, index_fault, content, skipped_attribute, skipped_attributes, length_fault, instructions, catch_fault, catch, handler, handlers, code_content, in_content, behind_items, code, says_code, code_attribute, named_attribute, method_attribute, method_attributes}
use Rattle.kb_classfile.proofs.Texts.{is_the_text, text_is}
use Rattle.kb_classfile.proofs.EntryLaws.{u2_exact, u4_exact}
use Rattle.kb_classfile.proofs.PoolLaws.{index_exact, no_fault_names, names_no_fault}

-- ---- contents and attributes that are skipped

abbrev AnyContent : Piece
AnyContent = IsSized 4 (IsAny IsRun)

abbrev ContentRead : Unit {0} → Piece
ContentRead y at bytes = (n : ℕ) × (IsU4 n ⊳ (λ o back. (text : List ℕ) × (y ≡ tt) × IsRunOf n text o back)) at bytes

content_to : (y : Unit {0}) (at : ℕ) (bytes : List ℕ) → ContentRead y at bytes → AnyContent at bytes
content_to y at bytes s =
    let j = s.1 in
    record {
      content = j.ends.0;
      spelled = (j.ends.0, refl);
      sized = record { front = j.front; back = j.back; parts = j.parts; begins = subst (λ (n : ℕ). IsU4 n at j.front) (sym j.ends.2.0) j.begins; ends = j.ends.2.1 };
    }

content_from : (y : Unit {0}) (at : ℕ) (bytes : List ℕ) → AnyContent at bytes → ContentRead y at bytes
content_from y at bytes s =
    let j = s.sized in
    (length s.content, record { front = j.front; back = j.back; parts = j.parts; begins = j.begins; ends = (s.content, refl, (refl, j.ends)) })

content_exact : Exact short content (λ none. AnyContent)
unfolding content
content_exact =
    exact_same short (u4 >>= λ n. run short n >>= λ text. done tt) ContentRead (λ none. AnyContent)
    (bind_exact short u4 (λ n. run short n >>= λ text. done tt) IsU4 (λ n y o back. (text : List ℕ) × (y ≡ tt) × IsRunOf n text o back) u4_exact
    (λ n. made_exact short (run short n) (λ text. tt) (IsRunOf n) (run_exact short n)))
    content_to content_from

abbrev AnyAttribute : List PoolEntry → Piece
AnyAttribute all = IsAny (SpellsAttribute all)

attribute_exact : (all : List PoolEntry) → Exact short (skipped_attribute all) (λ none. AnyAttribute all)
unfolding skipped_attribute
attribute_exact all =
    exact_same short (index_of kinds.Text all >>= λ name. content) (λ none at bytes. (name : ℕ) × (SpellsIndex kinds.Text all name ⊳ AnyContent) at bytes) (λ none. AnyAttribute all)
    (bind_exact short (index_of kinds.Text all) (λ name. content) (SpellsIndex kinds.Text all) (λ name none. AnyContent) (index_exact kinds.Text all) (λ name. content_exact))
    (λ none at bytes s. (
      record { name = s.0; content = s.1.ends.content },
      record { front = s.1.front; back = s.1.back; parts = s.1.parts; begins = s.1.begins; ends = record { content = s.1.ends.content; spelled = refl; sized = s.1.ends.sized } },
    ))
    (λ none at bytes s. (
      s.0.name,
      record { front = s.1.front; back = s.1.back; parts = s.1.parts; begins = s.1.begins; ends = record { content = s.1.ends.content; spelled = (s.1.ends.content, refl); sized = s.1.ends.sized } },
    ))

-- attributes, as steps of which nothing is kept
abbrev Listed : List PoolEntry → ℕ → Piece
Listed all n at bytes = (attributes : List Attribute) × (length attributes ≡ n) × Each (SpellsAttribute all) attributes at bytes

listed_to : (all : List PoolEntry) (n : ℕ) (x y : Unit {0}) (at : ℕ) (bytes : List ℕ) → Steps (λ x y. AnyAttribute all) n x y at bytes → Listed all n at bytes
listed_to all zero x y at bytes s = ([], refl, s.1)
listed_to all (suc n) x y at bytes s =
    let j = s.1 in
    let more = listed_to all n s.0 y (at + length j.front) j.back j.ends in
    (j.begins.0 ∷ more.0, ap (λ k. suc k) more.1, record { front = j.front; back = j.back; parts = j.parts; begins = j.begins.1; ends = more.2 })

listed_from : (all : List PoolEntry) (n : ℕ) (x y : Unit {0}) (attributes : List Attribute) (at : ℕ) (bytes : List ℕ) → length attributes ≡ n → Each (SpellsAttribute all) attributes at bytes → Steps (λ x y. AnyAttribute all) n x y at bytes
listed_from all zero x y [] at bytes len s = (refl, s)
listed_from all zero x y (a ∷ attributes) at bytes len s = absurd (omega (arith, len))
listed_from all (suc n) x y [] at bytes len s = absurd (omega (arith, len))
listed_from all (suc n) x y (a ∷ attributes) at bytes len s =
    let shorter : length attributes ≡ n = omega (arith, len) in
    (tt, record { front = s.front; back = s.back; parts = s.parts; begins = (a, s.begins); ends = listed_from all n tt y attributes (at + length s.front) s.back shorter s.ends })

abbrev AttributesRead : List PoolEntry → Unit {0} → Piece
AttributesRead all y at bytes = (count : ℕ) × (IsU2 count ⊳ Steps (λ x y. AnyAttribute all) count tt y) at bytes

attributes_to : (all : List PoolEntry) (y : Unit {0}) (at : ℕ) (bytes : List ℕ) → AttributesRead all y at bytes → SpellsAttributes all at bytes
attributes_to all y at bytes s =
    let j = s.1 in
    let l = listed_to all s.0 tt y (at + length j.front) j.back j.ends in
    (l.0, record { front = j.front; back = j.back; parts = j.parts; begins = subst (λ (n : ℕ). IsU2 n at j.front) (sym l.1) j.begins; ends = l.2 })

attributes_from : (all : List PoolEntry) (y : Unit {0}) (at : ℕ) (bytes : List ℕ) → SpellsAttributes all at bytes → AttributesRead all y at bytes
attributes_from all y at bytes s =
    let j = s.1 in
    (length s.0, record { front = j.front; back = j.back; parts = j.parts; begins = j.begins; ends = listed_from all (length s.0) tt y s.0 (at + length j.front) j.back refl j.ends })

pub attributes_exact : (all : List PoolEntry) → Exact short (skipped_attributes all) (λ none. SpellsAttributes all)
unfolding skipped_attributes
attributes_exact all =
    exact_same short (u2 >>= λ count. folded (λ none. skipped_attribute all) count tt) (AttributesRead all) (λ none. SpellsAttributes all)
    (bind_exact short u2 (λ count. folded (λ none. skipped_attribute all) count tt) IsU2 (λ count. Steps (λ x y. AnyAttribute all) count tt) u2_exact
    (λ count. folded_exact short (λ none. skipped_attribute all) (λ x y. AnyAttribute all) (λ x. attribute_exact all) count tt))
    (attributes_to all) (attributes_from all)

-- ---- instructions and handlers

pub both : (a b : Bool) → (a && b) ≡ true → (a ≡ true) × (b ≡ true)
both true true e = (refl, refl)
both true false e = absurd cc
both false b e = absurd cc

-- a test that gives no fault
pub no_fault : (b : Bool) (f : ClassRefusal) → cond b None (Some f) ≡ None → b ≡ true
no_fault true f h = refl
no_fault false f h = absurd cc

abbrev CanBeCode : ℕ → Type 0
CanBeCode n = (1 ≤ n) × (n ≤ 65535)

length_passes : (from at n : ℕ) → length_fault from at n ≡ None → CanBeCode n
length_passes from at n h =
    let b = both (leb 1 n) (leb n 65535) (no_fault (leb 1 n && leb n 65535) (refusals.CodeLength from) h) in
    (leb-true 1 n b.0, leb-true n 65535 b.1)

passes_length : (from at n : ℕ) → CanBeCode n → length_fault from at n ≡ None
passes_length from at n c = rw (le-leb 1 n c.0, le-leb n 65535 c.1) refl

instructions_exact : (from : ℕ) → Exact short (instructions from) SpellsInstructions
unfolding instructions
instructions_exact from =
    exact_same short (judged (length_fault from) u4 >>= λ n. run short n) (λ code. (λ at bytes. CanBeCode (length code) × IsU4 (length code) at bytes) ⊳ IsRun code) SpellsInstructions
    (first_exact short (judged (length_fault from) u4) (λ n. run short n) (λ code. length code) (λ n at bytes. CanBeCode n × IsU4 n at bytes) IsRun
    (judged_exact short (length_fault from) u4 IsU4 CanBeCode u4_exact (length_passes from) (passes_length from)) (λ n. run_exact short n))
    (λ code at bytes j. record { some = j.begins.0.0; most = j.begins.0.1; items = record { front = j.front; back = j.back; parts = j.parts; begins = j.begins.1; ends = j.ends } })
    (λ code at bytes s. record { front = s.items.front; back = s.items.back; parts = s.items.parts; begins = ((s.some, s.most), s.items.begins); ends = s.items.ends })

abbrev CanBeCaught : List PoolEntry → ℕ → Type 0
CanBeCaught all index = (index ≡ 0) ⊎ NamesEntry kinds.Class all index

catch_passes : (all : List PoolEntry) (at index : ℕ) → catch_fault all at index ≡ None → CanBeCaught all index
catch_passes all at index h = go (eqb index 0) refl h where
  go : (b : Bool) → eqb index 0 ≡ b → cond b None (index_fault kinds.Class all at index) ≡ None → CanBeCaught all index
  go true is h = inl (eqb-true index 0 is)
  go false is h = inr (no_fault_names kinds.Class all at index h)

passes_catch : (all : List PoolEntry) (at index : ℕ) → CanBeCaught all index → catch_fault all at index ≡ None
passes_catch all at index (inl is) = rw is refl
passes_catch all at index (inr n) = go (eqb index 0) where
  go : (b : Bool) → cond b None (index_fault kinds.Class all at index) ≡ None
  go true = refl
  go false = names_no_fault kinds.Class all at index n

catch_exact : (all : List PoolEntry) → Exact short (catch all) (SpellsCatch all)
unfolding catch
catch_exact all = judged_exact short (catch_fault all) u2 IsU2 (CanBeCaught all) u2_exact (catch_passes all) (passes_catch all)

handler_exact : (all : List PoolEntry) → Exact short (handler all) (SpellsHandler all)
unfolding handler
handler_exact all =
    first_exact short u2 _ (λ y. y.start) IsU2 (λ y. IsU2 y.end ⊳ IsU2 y.target ⊳ SpellsCatch all y.catch) u2_exact
    (λ start. field_exact short u2 _ (λ y. y.end) IsU2 (λ y. y.start ≡ start) (λ y. IsU2 y.target ⊳ SpellsCatch all y.catch) u2_exact
    (λ end. field_exact short u2 _ (λ y. y.target) IsU2 (λ y. (y.start ≡ start) × (y.end ≡ end)) (λ y. SpellsCatch all y.catch) u2_exact
    (λ target. last_exact short (catch all) (λ caught. record { start = start; end = end; target = target; catch = caught }) (λ y. y.catch) (SpellsCatch all)
    (λ y. ((y.start ≡ start) × (y.end ≡ end)) × (y.target ≡ target))
    (catch_exact all) (λ y caught k e. rw (← k.0.0, ← k.0.1, ← k.1, ← e) refl) (λ caught. (((refl, refl), refl), refl)))))

handlers_exact : (all : List PoolEntry) → Exact short (handlers all) (SpellsTable (SpellsHandler all))
unfolding handlers
handlers_exact all = counted_exact short u2 (λ number. handler all) IsU2 (SpellsHandler all) u2_exact (λ number. handler_exact all)

-- ---- code

code_content_exact : (all : List PoolEntry) (from : ℕ) → Exact short (code_content all from) (SpellsCode all)
unfolding code_content
code_content_exact all from =
    first_exact short u2 _ (λ y. y.max_stack) IsU2 (λ y. IsU2 y.max_locals ⊳ SpellsInstructions y.bytes ⊳ SpellsTable (SpellsHandler all) y.handlers ⊳ SpellsAttributes all) u2_exact
    (λ stack. field_exact short u2 _ (λ y. y.max_locals) IsU2 (λ y. y.max_stack ≡ stack) (λ y. SpellsInstructions y.bytes ⊳ SpellsTable (SpellsHandler all) y.handlers ⊳ SpellsAttributes all) u2_exact
    (λ locals. field_exact short (instructions from) _ (λ y. y.bytes) SpellsInstructions (λ y. (y.max_stack ≡ stack) × (y.max_locals ≡ locals)) (λ y. SpellsTable (SpellsHandler all) y.handlers ⊳ SpellsAttributes all) (instructions_exact from)
    (λ code. field_exact short (handlers all) _ (λ y. y.handlers) (SpellsTable (SpellsHandler all)) (λ y. ((y.max_stack ≡ stack) × (y.max_locals ≡ locals)) × (y.bytes ≡ code)) (λ y. SpellsAttributes all) (handlers_exact all)
    (λ table. end_exact short (skipped_attributes all) tt (record { max_stack = stack; max_locals = locals; bytes = code; handlers = table }) (SpellsAttributes all)
    (λ y. (((y.max_stack ≡ stack) × (y.max_locals ≡ locals)) × (y.bytes ≡ code)) × (y.handlers ≡ table)) (attributes_exact all)
    (λ y k. rw (← k.0.0.0, ← k.0.0.1, ← k.0.1, ← k.1) refl) (((refl, refl), refl), refl)))))

code_exact : (all : List PoolEntry) → Exact short (code all) (λ found. IsSized 4 (SpellsCode all found))
unfolding code
code_exact all =
    sized_exact short 4 (λ from at. in_content from (short at)) behind_items (λ from. telling (in_content from) (code_content all from)) (SpellsCode all)
    (λ from. telling_exact short (in_content from) (code_content all from) (SpellsCode all) (code_content_exact all from))

-- ---- attributes of a method

-- what one attribute makes of the code that was found before
abbrev Found : Option Code → Option Code → Option Code → Type 0
Found None x y = y ≡ x
Found (Some code) x y = (x ≡ None) × (y ≡ Some code)

abbrev StepRead : List PoolEntry → Option Code → Option Code → Piece
StepRead all x y at bytes = (attribute : Option Code) × Found attribute x y × SpellsMethodAttribute all attribute at bytes

-- behind the name of a Code attribute
abbrev CodeRead : List PoolEntry → Option Code → Option Code → Piece
CodeRead all x y at bytes = (found : Code) × ((x ≡ None) × (y ≡ Some found)) × IsSized 4 (SpellsCode all found) at bytes

code_attribute_exact : (all : List PoolEntry) (number : ℕ) (x : Option Code) → Exact short (code_attribute all number x) (CodeRead all x)
unfolding code_attribute
code_attribute_exact all number None =
    exact_same short (code all >>= λ found. done (Some found)) (λ y at bytes. (found : Code) × (y ≡ Some found) × IsSized 4 (SpellsCode all found) at bytes) (CodeRead all None)
    (made_exact short (code all) (λ found. Some found) (λ found. IsSized 4 (SpellsCode all found)) (code_exact all))
    (λ y at bytes s. (s.0, (refl, s.1), s.2)) (λ y at bytes s. (s.0, s.1.1, s.2))
code_attribute_exact all number (Some before) =
    fault_exact short (refusals.TwoCodes number) (CodeRead all (Some before)) (λ y at bytes s. (let no : Some before ≡ None = s.1.0 in cc))

-- behind the name of any attribute
abbrev NamedRead : List PoolEntry → Option Code → Bool → Option Code → Piece
NamedRead all x true y at bytes = CodeRead all x y at bytes
NamedRead all x false y at bytes = (y ≡ x) × AnyContent at bytes

named_exact : (all : List PoolEntry) (number : ℕ) (x : Option Code) (name : ℕ) → Exact short (named_attribute all number x name) (NamedRead all x (says_code all name))
unfolding named_attribute
named_exact all number x name =
    if_exact short (says_code all name) (code_attribute all number x) (content >>= λ none. done x) (NamedRead all x (says_code all name))
    (λ is. let P : Bool → Type 0 = λ b. Exact short (code_attribute all number x) (NamedRead all x b) in subst P (sym is) (code_attribute_exact all number x))
    (λ is. let P : Bool → Type 0 = λ b. Exact short (content >>= λ none. done x) (NamedRead all x b) in
    subst P (sym is)
    (exact_same short (content >>= λ none. done x) (λ y at bytes. (none : Unit {0}) × (y ≡ x) × AnyContent at bytes) (λ y at bytes. (y ≡ x) × AnyContent at bytes)
    (made_exact short content (λ none. x) (λ none. AnyContent) content_exact) (λ y at bytes s. (s.1, s.2)) (λ y at bytes s. (tt, s.0, s.1))))

abbrev AttributeRead : List PoolEntry → Option Code → Option Code → Piece
AttributeRead all x y at bytes = (name : ℕ) × (SpellsIndex kinds.Text all name ⊳ NamedRead all x (says_code all name) y) at bytes

not_text : (all : List PoolEntry) (name : ℕ) → says_code all name ≡ false → utf8_in all name ≢ Some (codes "Code")
not_text all name other is = (let text = is_the_text (codes "Code") (utf8_in all name) is in cc)

step_to : (all : List PoolEntry) (x y : Option Code) (at : ℕ) (bytes : List ℕ) → AttributeRead all x y at bytes → StepRead all x y at bytes
step_to all x y at bytes s = go (says_code all s.0) refl s.1.ends where
  go : (b : Bool) → says_code all s.0 ≡ b → NamedRead all x b y (at + length s.1.front) s.1.back → StepRead all x y at bytes
  go true is e = (
    Some e.0,
    e.1,
    record { front = s.1.front; back = s.1.back; parts = s.1.parts; begins = (s.0, (text_is (codes "Code") (utf8_in all s.0) is, s.1.begins)); ends = e.2 },
  )
  go false is e =
      (None, e.0, record { front = s.1.front; back = s.1.back; parts = s.1.parts; begins = (s.0, (not_text all s.0 is, s.1.begins)); ends = e.1 })

step_from : (all : List PoolEntry) (x y : Option Code) (at : ℕ) (bytes : List ℕ) → StepRead all x y at bytes → AttributeRead all x y at bytes
step_from all x y at bytes s = go s.0 s.1 s.2 where
  code_named : (found : Code) (b : Bool) (o : ℕ) (back : List ℕ) → b ≡ true → CodeRead all x y o back → NamedRead all x b y o back
  code_named found true o back is e = e
  code_named found false o back is e = absurd cc

  other_named : (b : Bool) (o : ℕ) (back : List ℕ) → b ≢ true → (y ≡ x) × AnyContent o back → NamedRead all x b y o back
  other_named true o back not_code e = absurd (not_code refl)
  other_named false o back not_code e = e

  go : (attribute : Option Code) → Found attribute x y → SpellsMethodAttribute all attribute at bytes → AttributeRead all x y at bytes
  go (Some found) f j =
      let name = j.begins.0 in (
        name,
        record {
          front = j.front;
          back = j.back;
          parts = j.parts;
          begins = j.begins.1.1;
          ends = code_named found (says_code all name) (at + length j.front) j.back (is_the_text (codes "Code") (utf8_in all name) j.begins.1.0) (found, f, j.ends);
        },
      )
  go None f j =
      let name = j.begins.0 in (
        name,
        record {
          front = j.front;
          back = j.back;
          parts = j.parts;
          begins = j.begins.1.1;
          ends = other_named (says_code all name) (at + length j.front) j.back (λ is. j.begins.1.0 (text_is (codes "Code") (utf8_in all name) is)) (f, j.ends);
        },
      )

step_exact : (all : List PoolEntry) (number : ℕ) (x : Option Code) → Exact short (method_attribute all number x) (StepRead all x)
unfolding method_attribute
step_exact all number x =
    exact_same short (index_of kinds.Text all >>= named_attribute all number x) (AttributeRead all x) (StepRead all x)
    (bind_exact short (index_of kinds.Text all) (named_attribute all number x) (SpellsIndex kinds.Text all) (λ name. NamedRead all x (says_code all name)) (index_exact kinds.Text all) (named_exact all number x))
    (step_to all x) (step_from all x)

-- the code behind further attributes
abbrev HaveCodeFrom : Option Code → List (Option Code) → Option Code → Type 0
HaveCodeFrom None attributes y = HaveCode attributes y
HaveCodeFrom (Some found) attributes y = (y ≡ Some found) × AllByRecursion IsNone attributes

abbrev ListRead : List PoolEntry → ℕ → Option Code → Option Code → Piece
ListRead all n x y at bytes = (attributes : List (Option Code)) × (length attributes ≡ n) × HaveCodeFrom x attributes y × Each (SpellsMethodAttribute all) attributes at bytes

found_first : (attribute x z y : Option Code) (others : List (Option Code)) → Found attribute x z → HaveCodeFrom z others y → HaveCodeFrom x (attribute ∷ others) y
found_first None None z y others f h = let P : Option Code → Type 0 = λ c. HaveCodeFrom c others y in subst P f h
found_first None (Some c) z y others f h = let P : Option Code → Type 0 = λ c. HaveCodeFrom c others y in let k : HaveCodeFrom (Some c) others y = subst P f h in (k.0, (refl, k.1))
found_first (Some found) x z y others f h =
    let P : Option Code → Type 0 = λ c. HaveCodeFrom c others y in
    let k : HaveCodeFrom (Some found) others y = subst P f.1 h in
    let Q : Option Code → Type 0 = λ c. HaveCodeFrom c (Some found ∷ others) y in
    subst Q (sym f.0) (k.0, k.1)

list_to : (all : List PoolEntry) (n : ℕ) (x y : Option Code) (at : ℕ) (bytes : List ℕ) → Steps (StepRead all) n x y at bytes → ListRead all n x y at bytes
list_to all zero x y at bytes s = ([], refl, no_more x s.0, s.1) where
  no_more : (x : Option Code) → y ≡ x → HaveCodeFrom x [] y
  no_more None is = is
  no_more (Some c) is = (is, tt)
list_to all (suc n) x y at bytes s =
    let j = s.1 in
    let more = list_to all n s.0 y (at + length j.front) j.back j.ends in (
      j.begins.0 ∷ more.0,
      ap (λ k. suc k) more.1,
      found_first j.begins.0 x s.0 y more.0 j.begins.1 more.2,
      record { front = j.front; back = j.back; parts = j.parts; begins = j.begins.2; ends = more.3 },
    )

-- what the first attribute makes of the code that was found before
first_found : (attribute x y : Option Code) (others : List (Option Code)) → HaveCodeFrom x (attribute ∷ others) y → (z : Option Code) × Found attribute x z × HaveCodeFrom z others y
first_found None None y others h = (None, refl, h)
first_found (Some found) None y others h = (Some found, (refl, refl), h)
first_found None (Some c) y others h = (Some c, refl, (h.0, h.1.1))
first_found (Some found) (Some c) y others h = absurd (let no : Some found ≡ None = h.1.0 in cc)

list_from : (all : List PoolEntry) (n : ℕ) (x y : Option Code) (attributes : List (Option Code)) (at : ℕ) (bytes : List ℕ) → length attributes ≡ n → HaveCodeFrom x attributes y
    → Each (SpellsMethodAttribute all) attributes at bytes → Steps (StepRead all) n x y at bytes
list_from all zero x y [] at bytes len h s = (no_more x h, s) where
  no_more : (x : Option Code) → HaveCodeFrom x [] y → y ≡ x
  no_more None h = h
  no_more (Some c) h = h.0
list_from all zero x y (a ∷ attributes) at bytes len h s = absurd (omega (arith, len))
list_from all (suc n) x y [] at bytes len h s = absurd (omega (arith, len))
list_from all (suc n) x y (a ∷ attributes) at bytes len h s =
    let shorter : length attributes ≡ n = omega (arith, len) in
    let f = first_found a x y attributes h in
    (f.0, record { front = s.front; back = s.back; parts = s.parts; begins = (a, f.1, s.begins); ends = list_from all n f.0 y attributes (at + length s.front) s.back shorter f.2 s.ends })

abbrev MethodAttributesRead : List PoolEntry → Option Code → Piece
MethodAttributesRead all y at bytes = (count : ℕ) × (IsU2 count ⊳ Steps (StepRead all) count None y) at bytes

pub method_attributes_exact : (all : List PoolEntry) (number : ℕ) → Exact short (method_attributes all number) (SpellsMethodAttributes all)
unfolding method_attributes
method_attributes_exact all number =
    exact_same short (u2 >>= λ count. folded (method_attribute all number) count None) (MethodAttributesRead all) (SpellsMethodAttributes all)
    (bind_exact short u2 (λ count. folded (method_attribute all number) count None) IsU2 (λ count. Steps (StepRead all) count None) u2_exact
    (λ count. folded_exact short (method_attribute all number) (StepRead all) (step_exact all number) count None))
    (λ y at bytes s.
    let j = s.1 in
    let l = list_to all s.0 None y (at + length j.front) j.back j.ends in
    record { attributes = l.0; items = record { front = j.front; back = j.back; parts = j.parts; begins = subst (λ (n : ℕ). IsU2 n at j.front) (sym l.1) j.begins; ends = l.3 }; has_code = l.2 })
    (λ y at bytes s.
    let j = s.items in
    (length s.attributes, record { front = j.front; back = j.back; parts = j.parts; begins = j.begins; ends = list_from all (length s.attributes) None y s.attributes (at + length j.front) j.back refl s.has_code j.ends }))
