-- A text spells one line.
use Rattle.std.proofs.Common.{◌≡◌, ℕ, Bool, true, false, if◌then◌else◌, List, [], ◌∷◌, ◌++◌, Option, None, Some, get_or, refl, sym, ◌∙◌, ap, arith, subst}
use Rattle.std.specs.Prelude.{ℤ, ◌/◌, ◌%◌, nat_lt, replicate}
use Rattle.kb_grammar.specs.Numbers.{SpellsWithin}
use Rattle.kb_names.specs.Escapes.{is_plain, hex_digit, name_text}
use Rattle.kb_names.specs.Descriptors.{base_text}
use Rattle.kb_names.specs.declared.class_names.Spelling.TheVariants.{Escaped}
use Rattle.kb_names.specs.declared.types.JType.{JType}
use Rattle.kb_names.specs.declared.types.JType.TheVariants as types
use Rattle.kb_names.specs.declared.types.MethodType.{MethodType}
use Rattle.kb_names.specs.declared.types.Target.{Target}
use Rattle.kb_code.specs.Forms.{form_of}
use Rattle.kb_asm_text.specs.declared.keyword.Keyword.{Keyword}
use Rattle.kb_asm_text.specs.declared.keyword.Keyword.TheVariants as keywords
use Rattle.kb_asm_text.specs.declared.shape.Shape.{Shape}
use Rattle.kb_asm_text.specs.declared.shape.Shape.TheVariants as shapes
use Rattle.kb_asm_text.specs.declared.line.Sizes.{Sizes}
use Rattle.kb_asm_text.specs.declared.line.ClassHead.{ClassHead}
use Rattle.kb_asm_text.specs.declared.line.FieldHead.{FieldHead}
use Rattle.kb_asm_text.specs.declared.line.MethodHead.{MethodHead}
use Rattle.kb_asm_text.specs.declared.line.Constant.{Constant}
use Rattle.kb_asm_text.specs.declared.line.Constant.TheVariants as constants
use Rattle.kb_asm_text.specs.declared.line.FieldName.{FieldName}
use Rattle.kb_asm_text.specs.declared.line.ClassRef.{ClassRef}
use Rattle.kb_asm_text.specs.declared.line.ClassRef.TheVariants as refs
use Rattle.kb_asm_text.specs.declared.line.Case.{Case}
use Rattle.kb_asm_text.specs.declared.line.Catch.{Catch}
use Rattle.kb_asm_text.specs.declared.line.Operand.{Operand}
use Rattle.kb_asm_text.specs.declared.line.Operand.TheVariants as operands
use Rattle.kb_asm_text.specs.declared.line.BodyLine.TheVariants as bodies
use Rattle.kb_asm_text.specs.declared.line.Line.{Line}
use Rattle.kb_asm_text.specs.declared.line.Line.TheVariants as lines
use Rattle.kb_asm_text.specs.Words.{OneWord, TwoWords}
use Rattle.kb_asm_text.specs.Tokens.{IsDigit, IsPair, SpellsByteHex, SpellsFlags, SpellsLabel, SpellsText, SpellsAny, SpellsByteInt, SpellsShortInt, SpellsClassRef}
use Rattle.kb_asm_text.specs.Shapes.{shape_of}
use Rattle.kb_asm_text.specs.Lines.{Made, SpellsClassHead, SpellsFieldHead, SpellsMember, SpellsSized, SpellsMethodHead, SpellsConstant, SpellsFieldName, SpellsMethodName, SpellsTable, SpellsLookup, SpellsOperand, SpellsCase, SpellsCaught, SpellsCatch, keyword_of, SpellsBehind, SpellsWords, SpellsLine}
use Rattle.kb_asm_text.proofs.WordLaws.{same_words}
use Rattle.kb_asm_text.proofs.TokenLaws.{same_int, same_within, same_label, same_text, same_type, same_method, same_case}
use Rattle.kb_asm_text.proofs.EachLaws.{each_same}
use Rattle.kb_asm_text.proofs.HeadLaws.{same_op}

-- ---- values that are made of others

two_same : {A B C : Type 0} (f : A → B → C) (a b : A) (c d : B) → a ≡ b → c ≡ d → f a c ≡ f b d
two_same f a b c d p q = ap (λ x. f x c) p ∙ ap (f b) q

three_same : {A B C D : Type 0} (f : A → B → C → D) (a b : A) (c d : B) (e g : C) → a ≡ b → c ≡ d → e ≡ g → f a c e ≡ f b d g
three_same f a b c d e g p q r = ap (λ x. f x c e) p ∙ two_same (f b) c d e g q r

one_same : {A : Type 0} (S : A → List ℕ → Type 0) → ((a b : A) (word : List ℕ) → S a word → S b word → a ≡ b) → (a b : A) (words : List (List ℕ))
    → OneWord (S a) words → OneWord (S b) words → a ≡ b
one_same S one a b (word ∷ []) p q = one a b word p q
one_same S one a b words p q = absurd p

made_same : {A B : Type 0} (make : A → B) (S : A → List (List ℕ) → Type 0) → ((x y : A) (words : List (List ℕ)) → S x words → S y words → x ≡ y)
    → (a b : B) (words : List (List ℕ)) → Made make S a words → Made make S b words → a ≡ b
made_same make S one a b words p q = p.1 ∙ ap make (one p.0 q.0 words p.2 q.2) ∙ sym q.1

-- ---- words

same_digit : (a b letter : ℕ) → IsDigit a letter → IsDigit b letter → a ≡ b
same_digit a b letter p q = go (nat_lt a 10) refl (nat_lt b 10) refl
  where
    go : (s : Bool) → nat_lt a 10 ≡ s → (t : Bool) → nat_lt b 10 ≡ t → a ≡ b
    go s e t f = grind (arith, p.0, q.0, p.1, q.1, e, f)

same_pair : (a b first second : ℕ) → IsPair a first second → IsPair b first second → a ≡ b
same_pair a b first second p q =
    let high = same_digit p.high q.high first p.first_is q.first_is in
    let low = same_digit p.low q.low second p.second_is q.second_is in
    omega (arith, p.is, q.is, high, low)

same_byte : (a b : ℕ) (word : List ℕ) → SpellsByteHex a word → SpellsByteHex b word → a ≡ b
same_byte a b (first ∷ second ∷ []) p q = same_pair a b first second p q
same_byte a b word p q = absurd p

same_flags : (a b : ℕ) (word : List ℕ) → SpellsFlags a word → SpellsFlags b word → a ≡ b
same_flags a b (first ∷ second ∷ third ∷ fourth ∷ []) p q =
    let high = same_pair p.high q.high first second p.high_is q.high_is in
    let low = same_pair p.low q.low third fourth p.low_is q.low_is in
    omega (arith, p.is, q.is, high, low)
same_flags a b word p q = absurd p

same_short : (a b : ℤ) (word : List ℕ) → SpellsShortInt a word → SpellsShortInt b word → a ≡ b
same_short a b word p q = same_int a b word p.1 q.1

same_small : (a b : ℤ) (word : List ℕ) → SpellsByteInt a word → SpellsByteInt b word → a ≡ b
same_small a b word p q = same_int a b word p.1 q.1

abbrev first : List ℕ → ℕ
first bytes = get_or bytes 0 0

-- no name begins with a bracket, as each array type does
no_bracket : (name rest : List ℕ) → 91 ∷ rest ≡ name_text name → ⊥
no_bracket [] rest e = cc
no_bracket (byte ∷ name) rest e = go (is_plain byte) refl e
  where
    go : (b : Bool) → is_plain byte ≡ b → 91 ∷ rest ≡ (if b then byte ∷ [] else 37 ∷ hex_digit (byte / 16) ∷ hex_digit (byte % 16) ∷ []) ++ name_text name → ⊥
    go true plain e = let is : byte ≡ 91 = cc in let no : true ≡ false = sym plain ∙ ap is_plain is in cc
    go false plain e = let no = ap first e in omega (arith, no)

same_ref : (a b : ClassRef) (word : List ℕ) → SpellsClassRef a word → SpellsClassRef b word → a ≡ b
same_ref (refs.Class a) (refs.Class b) word p q = ap (λ (n : List ℕ). refs.Class n) (same_text a b word p q)
same_ref (refs.Array a) (refs.Array b) word p q = ap (λ (t : JType). refs.Array t) (same_type a b word p.0 q.0)
same_ref (refs.Class a) (refs.Array (types.Array of)) word p q = absurd (no_bracket a (replicate of.dims 91 ++ base_text Escaped of.base) (sym q.0.1 ∙ p.0.1))
same_ref (refs.Array (types.Array of)) (refs.Class b) word p q = absurd (no_bracket b (replicate of.dims 91 ++ base_text Escaped of.base) (sym p.0.1 ∙ q.0.1))
same_ref (refs.Class a) (refs.Array of) word p q = absurd q.1
same_ref (refs.Array of) (refs.Class b) word p q = absurd p.1

named_any : (name word : List ℕ) → SpellsText name word → SpellsAny word → SpellsAny name
named_any name word p any = same_text name (97 ∷ 110 ∷ 121 ∷ []) word p (subst (SpellsText (97 ∷ 110 ∷ 121 ∷ [])) (sym any) spelled)
  where
    spelled : SpellsText (97 ∷ 110 ∷ 121 ∷ []) (97 ∷ 110 ∷ 121 ∷ [])
    spelled = ((search arith, refl), λ e. cc)

same_caught : (a b : Option (List ℕ)) (word : List ℕ) → SpellsCaught a word → SpellsCaught b word → a ≡ b
same_caught None None word p q = refl
same_caught None (Some b) word p q = absurd (q.1 (named_any b word q.0 p))
same_caught (Some a) None word p q = absurd (p.1 (named_any a word p.0 q))
same_caught (Some a) (Some b) word p q = ap (λ (n : List ℕ). Some n) (same_text a b word p.0 q.0)

-- ---- operands

same_constant : (a b : Constant) (words : List (List ℕ)) → SpellsConstant a words → SpellsConstant b words → a ≡ b
same_constant (constants.Int a) (constants.Int b) (kind ∷ word ∷ []) p q = ap (λ (z : ℤ). constants.Int z) (same_int a b word p.1 q.1)
same_constant (constants.Text a) (constants.Text b) (kind ∷ word ∷ []) p q = ap (λ (t : List ℕ). constants.Text t) (same_text a b word p.1 q.1)
same_constant (constants.Int a) (constants.Text b) (kind ∷ word ∷ []) p q = absurd (let no = ap first (sym p.0 ∙ q.0) in omega (arith, no))
same_constant (constants.Text a) (constants.Int b) (kind ∷ word ∷ []) p q = absurd (let no = ap first (sym p.0 ∙ q.0) in omega (arith, no))
same_constant (constants.Int a) b words p q = absurd p
same_constant (constants.Text a) b words p q = absurd p

same_increment : (a b : ℕ) (c d : ℤ) (words : List (List ℕ)) → TwoWords (λ first second. SpellsWithin 255 a first × SpellsByteInt c second) words
    → TwoWords (λ first second. SpellsWithin 255 b first × SpellsByteInt d second) words → operands.Increment a c ≡ operands.Increment b d
same_increment a b c d (first ∷ second ∷ []) p q = two_same (λ (n : ℕ) (z : ℤ). operands.Increment n z) a b c d (same_within 255 a b first (omega arith) p.0 q.0) (same_small c d second p.1 q.1)
same_increment a b c d words p q = absurd p

same_field_name : (a b : FieldName) (words : List (List ℕ)) → SpellsFieldName a words → SpellsFieldName b words → a ≡ b
same_field_name a b (first ∷ second ∷ third ∷ []) p q =
    three_same made a.class b.class a.name b.name a.kind b.kind (same_text a.class b.class first p.0 q.0) (same_text a.name b.name second p.1 q.1) (same_type a.kind b.kind third p.2 q.2)
  where
    made : List ℕ → List ℕ → JType → FieldName
    made class name kind = record { class = class; name = name; kind = kind }
same_field_name a b words p q = absurd p

same_method_name : (a b : Target) (words : List (List ℕ)) → SpellsMethodName a words → SpellsMethodName b words → a ≡ b
same_method_name a b (first ∷ second ∷ third ∷ []) p q =
    three_same made a.class b.class a.name b.name a.kind b.kind (same_text a.class b.class first p.0 q.0) (same_text a.name b.name second p.1 q.1) (same_method a.kind b.kind third p.2 q.2)
  where
    made : List ℕ → List ℕ → MethodType → Target
    made class name kind = record { class = class; name = name; kind = kind }
same_method_name a b words p q = absurd p

same_table : (a b : ℤ) (c d : List ℕ) (xs ys : List (List ℕ)) (words : List (List ℕ)) → SpellsTable a c xs words → SpellsTable b d ys words → operands.Table a c xs ≡ operands.Table b d ys
same_table a b c d xs ys [] p q = absurd p.spelled
same_table a b c d xs ys (first ∷ []) p q = absurd p.spelled.1
same_table a b c d xs ys (first ∷ second ∷ words) p q =
    three_same (λ (low : ℤ) (default : List ℕ) (targets : List (List ℕ)). operands.Table low default targets) a b c d xs ys
    (same_int a b first p.spelled.0 q.spelled.0) (same_label c d second p.spelled.1.0 q.spelled.1.0) (each_same SpellsLabel same_label xs ys words p.spelled.1.1 q.spelled.1.1)

same_lookup : (a b : List ℕ) (xs ys : List Case) (words : List (List ℕ)) → SpellsLookup a xs words → SpellsLookup b ys words → operands.Lookup a xs ≡ operands.Lookup b ys
same_lookup a b xs ys [] p q = absurd p.spelled
same_lookup a b xs ys (first ∷ words) p q =
    two_same (λ (default : List ℕ) (cases : List Case). operands.Lookup default cases) a b xs ys
    (same_label a b first p.spelled.0 q.spelled.0) (each_same SpellsCase same_case xs ys words p.spelled.1 q.spelled.1)

same_operand : (shape : Shape) (a b : Operand) (words : List (List ℕ)) → SpellsOperand shape a words → SpellsOperand shape b words → a ≡ b
same_operand shapes.Unwritten a b words p q = absurd p
same_operand shapes.Alone a b words p q = p.0 ∙ sym q.0
same_operand shapes.Byte a b words p q = made_same (λ (x : ℤ). operands.Byte x) (λ (x : ℤ). OneWord (SpellsByteInt x)) (one_same SpellsByteInt same_small) a b words p q
same_operand shapes.Short a b words p q = made_same (λ (x : ℤ). operands.Short x) (λ (x : ℤ). OneWord (SpellsShortInt x)) (one_same SpellsShortInt same_short) a b words p q
same_operand shapes.Constant a b words p q = made_same (λ (x : Constant). operands.Constant x) SpellsConstant same_constant a b words p q
same_operand shapes.Local a b words p q = made_same (λ (x : ℕ). operands.Local x) (λ (x : ℕ). OneWord (SpellsWithin 65535 x)) (one_same (SpellsWithin 65535) (λ a b word. same_within 65535 a b word (omega arith))) a b words p q
same_operand shapes.Increment a b words p q = p.2 ∙ same_increment p.0 q.0 p.1 q.1 words p.3 q.3 ∙ sym q.2
same_operand shapes.Field a b words p q = made_same (λ (x : FieldName). operands.Field x) SpellsFieldName same_field_name a b words p q
same_operand shapes.Method a b words p q = made_same (λ (x : Target). operands.Method x) SpellsMethodName same_method_name a b words p q
same_operand shapes.New a b words p q = made_same (λ (x : List ℕ). operands.New x) (λ (x : List ℕ). OneWord (SpellsText x)) (one_same SpellsText same_text) a b words p q
same_operand shapes.Type a b words p q = made_same (λ (x : ClassRef). operands.Type x) (λ (x : ClassRef). OneWord (SpellsClassRef x)) (one_same SpellsClassRef same_ref) a b words p q
same_operand shapes.Primitive a b words p q = made_same (λ (x : ℕ). operands.Primitive x) (λ (x : ℕ). OneWord (SpellsWithin 255 x)) (one_same (SpellsWithin 255) (λ a b word. same_within 255 a b word (omega arith))) a b words p q
same_operand shapes.Branch a b words p q = made_same (λ (x : List ℕ). operands.Target x) (λ (x : List ℕ). OneWord (SpellsLabel x)) (one_same SpellsLabel same_label) a b words p q
same_operand shapes.Table a b words p q = p.3 ∙ same_table p.0 q.0 p.1 q.1 p.2 q.2 words p.4 q.4 ∙ sym q.3
same_operand shapes.Lookup a b words p q = p.2 ∙ same_lookup p.0 q.0 p.1 q.1 words p.3 q.3 ∙ sym q.2

-- ---- the class and its members, and rows of handler tables

same_class : (a b : ClassHead) (words : List (List ℕ)) → SpellsClassHead a words → SpellsClassHead b words → a ≡ b
same_class a b (first ∷ second ∷ third ∷ []) p q =
    three_same made a.access b.access a.name b.name a.parent b.parent (same_flags a.access b.access first p.0 q.0) (same_text a.name b.name second p.1 q.1) (same_text a.parent b.parent third p.2 q.2)
  where
    made : ℕ → List ℕ → List ℕ → ClassHead
    made access name parent = record { access = access; name = name; parent = parent }
same_class a b words p q = absurd p

same_field : (a b : FieldHead) (words : List (List ℕ)) → SpellsFieldHead a words → SpellsFieldHead b words → a ≡ b
same_field a b (first ∷ second ∷ third ∷ []) p q =
    three_same made a.access b.access a.name b.name a.kind b.kind (same_flags a.access b.access first p.0 q.0) (same_text a.name b.name second p.1 q.1) (same_type a.kind b.kind third p.2 q.2)
  where
    made : ℕ → List ℕ → JType → FieldHead
    made access name kind = record { access = access; name = name; kind = kind }
same_field a b words p q = absurd p

abbrev made_method : Option Sizes → ℕ → List ℕ → MethodType → MethodHead
made_method sizes access name kind = record { access = access; name = name; kind = kind; sizes = sizes }

same_member : (sizes : Option Sizes) (a b : MethodHead) (flags name kind : List ℕ) → SpellsMember a flags name kind → SpellsMember b flags name kind
    → made_method sizes a.access a.name a.kind ≡ made_method sizes b.access b.name b.kind
same_member sizes a b flags name kind p q =
    three_same (made_method sizes) a.access b.access a.name b.name a.kind b.kind
    (same_flags a.access b.access flags p.0 q.0) (same_text a.name b.name name p.1 q.1) (same_method a.kind b.kind kind p.2 q.2)

-- three words and five are not the same
same_sized : (s t : Option Sizes) (a b : MethodHead) (words : List (List ℕ)) → SpellsSized s a words → SpellsSized t b words
    → made_method s a.access a.name a.kind ≡ made_method t b.access b.name b.kind
same_sized None None a b (one ∷ two ∷ three ∷ []) p q = same_member None a b one two three p q
same_sized (Some s) (Some t) a b (one ∷ two ∷ three ∷ four ∷ five ∷ []) p q =
    same_member (Some s) a b one two three p.0 q.0
    ∙ two_same (λ (stack locals : ℕ). made_method (Some (made stack locals)) b.access b.name b.kind) s.max_stack t.max_stack s.max_locals t.max_locals
    (same_within 65535 s.max_stack t.max_stack four (omega arith) p.1 q.1) (same_within 65535 s.max_locals t.max_locals five (omega arith) p.2 q.2)
  where
    made : ℕ → ℕ → Sizes
    made stack locals = record { max_stack = stack; max_locals = locals }
same_sized None (Some t) a b (one ∷ two ∷ three ∷ []) p q = absurd q
same_sized (Some s) None a b (one ∷ two ∷ three ∷ []) p q = absurd p
same_sized None t a b words p q = absurd p
same_sized (Some s) (Some t) a b words p q = absurd p
same_sized (Some s) None a b words p q = absurd q

same_method_head : (a b : MethodHead) (words : List (List ℕ)) → SpellsMethodHead a words → SpellsMethodHead b words → a ≡ b
same_method_head a b words p q = same_sized a.sizes b.sizes a b words p q

same_catch : (a b : Catch) (words : List (List ℕ)) → SpellsCatch a words → SpellsCatch b words → a ≡ b
same_catch a b (first ∷ second ∷ third ∷ fourth ∷ []) p q =
    ap (λ (c : Option (List ℕ)). made c a.start a.end a.target) (same_caught a.class b.class fourth p.3 q.3)
    ∙ three_same (made b.class) a.start b.start a.end b.end a.target b.target
    (same_label a.start b.start first p.0 q.0) (same_label a.end b.end second p.1 q.1) (same_label a.target b.target third p.2 q.2)
  where
    made : Option (List ℕ) → List ℕ → List ℕ → List ℕ → Catch
    made class start end target = record { start = start; end = end; target = target; class = class }
same_catch a b words p q = absurd p

-- ---- lines

same_instr : (a b : ℕ) (x y : Operand) (first : List ℕ) (words : List (List ℕ)) → a ≡ b → SpellsOperand (shape_of (form_of a)) x words → SpellsOperand (shape_of (form_of b)) y words
    → lines.Body (bodies.Instr a x) ≡ lines.Body (bodies.Instr b y)
same_instr a b x y first words e p q =
    two_same (λ (op : ℕ) (operand : Operand). lines.Body (bodies.Instr op operand)) a b x y e
    (same_operand (shape_of (form_of a)) x y words p (subst (λ (op : ℕ). SpellsOperand (shape_of (form_of op)) y words) (sym e) q))

same_behind : (keyword : Keyword) (first : List ℕ) (a b : Line) (words : List (List ℕ)) → SpellsBehind keyword a first words → SpellsBehind keyword b first words → a ≡ b
same_behind keywords.Class first a b words p q = made_same (λ (x : ClassHead). lines.Class x) SpellsClassHead same_class a b words p q
same_behind keywords.Implements first a b words p q = made_same (λ (x : List ℕ). lines.Implements x) (λ (x : List ℕ). OneWord (SpellsText x)) (one_same SpellsText same_text) a b words p q
same_behind keywords.Field first a b words p q = made_same (λ (x : FieldHead). lines.Field x) SpellsFieldHead same_field a b words p q
same_behind keywords.Method first a b words p q = made_same (λ (x : MethodHead). lines.Method x) SpellsMethodHead same_method_head a b words p q
same_behind keywords.End first a b words p q = p.0 ∙ sym q.0
same_behind keywords.Raw first a b words p q = made_same (λ (x : ℕ). lines.Body (bodies.Raw x)) (λ (x : ℕ). OneWord (SpellsByteHex x)) (one_same SpellsByteHex same_byte) a b words p q
same_behind keywords.Catch first a b words p q = made_same (λ (x : Catch). lines.Body (bodies.Catch x)) SpellsCatch same_catch a b words p q
same_behind keywords.Label first a b words p q =
    let word : p.2 ≡ q.2 = (let both : 58 ∷ p.2 ≡ 58 ∷ q.2 = sym p.3 ∙ q.3 in cc) in
    p.1 ∙ ap (λ (label : List ℕ). lines.Body (bodies.Label label)) (sym p.4.is ∙ word ∙ q.4.is) ∙ sym q.1
same_behind keywords.Other first a b words p q = p.2 ∙ same_instr p.0 q.0 p.1 q.1 first words (same_op p.0 q.0 first p.3 q.3) p.4 q.4 ∙ sym q.2

same_spelled : (a b : Line) (words : List (List ℕ)) → SpellsWords a words → SpellsWords b words → a ≡ b
same_spelled a b [] p q = absurd p
same_spelled a b (first ∷ words) p q = same_behind (keyword_of first) first a b words p q

-- a text spells one line
pub same_line : (a b : Line) (text : List ℕ) → SpellsLine a text → SpellsLine b text → a ≡ b
same_line a b text p q = same_spelled a b p.words p.says (subst (SpellsWords b) (same_words q.words p.words text q.are p.are) q.says)
