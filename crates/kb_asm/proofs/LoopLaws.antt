-- Lists that loops make, an item at a time.
use Rattle.std.proofs.Common.{◌≡◌, ℕ, ◌+◌, List, [], ◌∷◌, ◌++◌, length, Option, None, Some, refl, sym, ap, subst, ◌∙◌, append_assoc, append-nil, length-append, ◌-◌, ◌^◌, ◌<◌, ◌≤◌, take, drop, get_or, take_all, arith}
use Rattle.std.specs.List.{cons_option, AllZip}
use Rattle.kb_grammar.specs.Grammar.{Piece, Each}
use Rattle.kb_asm_text.specs.declared.line.Line.{Line}
use Rattle.kb_asm_text.specs.declared.line.BodyLine.TheVariants as bodies
use Rattle.kb_asm_text.specs.declared.line.Line.TheVariants as lines
use Rattle.kb_asm.specs.Parts.{parts}
use Rattle.kb_asm.specs.Class.{interface_in, field_in, handler_in}
use Rattle.kb_asm.specs.Working.{Appends, Agree, AreCounted}

-- ---- as many as there are parts

pub zip_length : {A B : Type 0} (R : A → B → Type 0) (xs : List A) (ys : List B) → AllZip R xs ys → length xs ≡ length ys
zip_length R [] [] h = refl
zip_length R [] (y ∷ ys) h = absurd h
zip_length R (x ∷ xs) [] h = absurd h
zip_length R (x ∷ xs) (y ∷ ys) h = omega (arith, zip_length R xs ys h.1)

pub counted_zip : {A B : Type 0} (R : A → B → Type 0) (xs : List A) (ys : List B) → AllZip R xs ys → AreCounted xs → AreCounted ys
counted_zip R xs ys h few =
    let many : length xs ≡ length ys = zip_length R xs ys h in
    let less : length xs < 2 ^ 16 = few in
    let counted : length ys < 2 ^ 16 = omega arith in
    counted

-- ---- one more

-- one more value
pub zip_on : {A B : Type 0} (R : A → B → Type 0) (x : A) (xs : List A) (front : List B) (y : B) (T : List B → Type 0)
    → ((more : List B) → AllZip R (x ∷ xs) more → T (front ++ more)) → R x y → (more : List B) → AllZip R xs more → T ((front ++ y ∷ []) ++ more)
zip_on R x xs front y T before r more m = rw append_assoc (before (y ∷ more) (r, m))

-- one more part, if there is one
pub part_on : {A B : Type 0} (part : Line → List Line → Option A) (R : A → B → Type 0) (line : Line) (others : List Line) (front : List B) (made : Option B) (T : List B → Type 0)
    → ((more : List B) → AllZip R (parts part (line ∷ others)) more → T (front ++ more)) → Agree R (part line others) made
    → (more : List B) → AllZip R (parts part others) more → T ((front ++ cons_option made []) ++ more)
part_on {A} {B} part R line others front made T = go (part line others) made
  where
    go : (found : Option A) (made : Option B) → ((more : List B) → AllZip R (cons_option found (parts part others)) more → T (front ++ more)) → Agree R found made
        → (more : List B) → AllZip R (parts part others) more → T ((front ++ cons_option made []) ++ more)
    go None None before r more m = rw append-nil (before more m)
    go None (Some y) before r more m = absurd r
    go (Some x) None before r more m = absurd r
    go (Some x) (Some y) before r more m = rw append_assoc (before (y ∷ more) (r, m))

-- one more piece
pub piece_on : {A : Type 0} (S : A → Piece) (x : A) (xs : List A) (front new : List ℕ) (T : List ℕ → Type 0)
    → ((more : List ℕ) → Each S (x ∷ xs) (length front) more → T (front ++ more)) → Appends (S x) front new
    → (more : List ℕ) → Each S xs (length new) more → T (new ++ more)
piece_on S x xs front new T before a more m =
    let longer : length new ≡ length front + length a.piece = ap length a.is ∙ length-append front a.piece in
    let all : T (front ++ (a.piece ++ more)) =
    before (a.piece ++ more) (record { front = a.piece; back = more; parts = refl; begins = a.spelled; ends = subst (λ (n : ℕ). Each S xs n more) longer m }) in
    let same : front ++ (a.piece ++ more) ≡ new ++ more = sym (append_assoc front a.piece more) ∙ ap (λ (l : List ℕ). l ++ more) (sym a.is) in
    subst T same all

-- ---- walking along a list

-- the first item, and the others
pub walks : {A : Type 0} (rest : List A) (x : A) → 1 ≤ length rest → x ≡ get_or rest 0 x → rest ≡ x ∷ take (length rest - 1) (drop 1 rest)
walks {A} [] x some at = absurd (omega (arith, some))
walks {A} (y ∷ others) x some at =
    let long : length others ≤ length (y ∷ others) - 1 = omega arith in
    let same : take (length (y ∷ others) - 1) others ≡ others = take_all (length (y ∷ others) - 1) others long in
    let is : x ≡ y = at in
    ap (λ (l : List A). y ∷ l) (sym same) ∙ ap (λ (z : A). z ∷ take (length (y ∷ others) - 1) others) (sym is)

-- at the end all values are made
pub zip_end : {A B : Type 0} (R : A → B → Type 0) (rest : List A) (front : List B) (T : List B → Type 0) → length rest < 1
    → ((more : List B) → AllZip R rest more → T (front ++ more)) → T front
zip_end R [] front T few before = subst T (append-nil front) (before [] tt)
zip_end R (x ∷ rest) front T few before = absurd (omega (arith, few))

pub part_end : {A B : Type 0} (part : Line → List Line → Option A) (R : A → B → Type 0) (rest : List Line) (front : List B) (T : List B → Type 0) → length rest < 1
    → ((more : List B) → AllZip R (parts part rest) more → T (front ++ more)) → T front
part_end part R [] front T few before = subst T (append-nil front) (before [] tt)
part_end part R (line ∷ rest) front T few before = absurd (omega (arith, few))

pub piece_end : {A : Type 0} (S : A → Piece) (rest : List A) (front : List ℕ) (T : List ℕ → Type 0) → length rest < 1
    → ((more : List ℕ) → Each S rest (length front) more → T (front ++ more)) → T front
piece_end S [] front T few before = subst T (append-nil front) (before [] refl)
piece_end S (x ∷ rest) front T few before = absurd (omega (arith, few))

-- one more, of which the loop knows
pub part_next : {A B : Type 0} (part : Line → List Line → Option A) (R : A → B → Type 0) (rest others : List Line) (line : Line) (old new : List B) (made : Option B) (T : List B → Type 0)
    → rest ≡ line ∷ others → new ≡ old ++ cons_option made [] → ((more : List B) → AllZip R (parts part rest) more → T (old ++ more)) → Agree R (part line others) made
    → (more : List B) → AllZip R (parts part others) more → T (new ++ more)
part_next {A} {B} part R rest others line old new made T split grown before agree more m =
    subst (λ (l : List B). T (l ++ more)) (sym grown)
    (part_on part R line others old made T (λ next h. before next (subst (λ (l : List Line). AllZip R (parts part l) next) (sym split) h)) agree more m)

pub piece_next : {A : Type 0} (S : A → Piece) (rest others : List A) (x : A) (old new : List ℕ) (T : List ℕ → Type 0)
    → rest ≡ x ∷ others → ((more : List ℕ) → Each S rest (length old) more → T (old ++ more)) → Appends (S x) old new
    → (more : List ℕ) → Each S others (length new) more → T (new ++ more)
piece_next {A} S rest others x old new T split before a more m =
    piece_on S x others old new T (λ next h. before next (subst (λ (l : List A). Each S l (length old) next) (sym split) h)) a more m

-- ---- parts that are told by their line alone

pub interface_in_alone : (line : Line) (others : List Line) → interface_in line [] ≡ interface_in line others
interface_in_alone (lines.Implements name) others = refl
interface_in_alone line others = refl

pub field_in_alone : (line : Line) (others : List Line) → field_in line [] ≡ field_in line others
field_in_alone (lines.Field head) others = refl
field_in_alone line others = refl

pub handler_in_alone : (line : Line) (others : List Line) → handler_in line [] ≡ handler_in line others
handler_in_alone (lines.Body (bodies.Catch row)) others = refl
handler_in_alone line others = refl
