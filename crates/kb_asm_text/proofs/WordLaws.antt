-- Words that are joined by spaces, and lists of so many words.
use Rattle.std.proofs.Common.{◌≡◌, ◌≢◌, ℕ, List, [], ◌∷◌, ◌++◌, refl, sym, ◌∙◌, ap, append_assoc, subst}
use Rattle.kb_grammar.specs.Lines.{Lacks}
use Rattle.kb_grammar.proofs.WordLaws.{same_cut, not_lacking}
use Rattle.kb_asm_text.specs.Words.{joined, AreWords, IsOfWords, ThreeWords}

-- each word with a space behind it
abbrev pub led : List (List ℕ) → List ℕ
led [] = []
led (word ∷ words) = word ++ 32 ∷ led words

led-more : (words : List (List ℕ)) (word : List ℕ) → led (words ++ word ∷ []) ≡ led words ++ (word ++ 32 ∷ [])
led-more [] word = refl
led-more (first ∷ words) word = ap (λ (r : List ℕ). first ++ 32 ∷ r) (led-more words word) ∙ sym (append_assoc first (32 ∷ led words) (word ++ 32 ∷ []))

joined-led : (words : List (List ℕ)) (word : List ℕ) → joined (words ++ word ∷ []) ≡ led words ++ word
joined-led [] word = refl
joined-led (first ∷ []) word = sym (append_assoc first (32 ∷ []) word)
joined-led (first ∷ next ∷ words) word =
    ap (λ (r : List ℕ). first ++ 32 ∷ r) (joined-led (next ∷ words) word) ∙ sym (append_assoc first (32 ∷ led (next ∷ words)) word)

AreWords-more : (words : List (List ℕ)) (word : List ℕ) → AreWords words → Lacks 32 word → AreWords (words ++ word ∷ [])
AreWords-more [] word are lacks = (lacks, tt)
AreWords-more (first ∷ words) word are lacks = (are.0, AreWords-more words word are.1 lacks)

-- the line is words, each with a space behind it, and a rest
pub record AreLed (words : List (List ℕ)) (line rest : List ℕ) : Type 0 where
  pub are_words : AreWords words
  pub is : line ≡ led words ++ rest

pub led_none : (line : List ℕ) → AreLed [] line line
led_none line = record { are_words = tt; is = refl }

pub led_next : (words more : List (List ℕ)) (line rest word others : List ℕ) → AreLed words line rest → Lacks 32 word → rest ≡ word ++ 32 ∷ others → more ≡ words ++ word ∷ []
    → AreLed more line others
led_next words more line rest word others at lacks begins is = record {
  are_words = subst AreWords (sym is) (AreWords-more words word at.are_words lacks);
  is = at.is ∙ ap (λ (r : List ℕ). led words ++ r) (begins ∙ sym (append_assoc word (32 ∷ []) others)) ∙ sym (append_assoc (led words) (word ++ 32 ∷ []) others)
      ∙ ap (λ (l : List ℕ). l ++ others) (sym (led-more words word) ∙ ap led (sym is));
}

more_than_none : (words : List (List ℕ)) (word : List ℕ) → words ++ word ∷ [] ≢ []
more_than_none [] word = λ e. cc
more_than_none (first ∷ words) word = λ e. cc

pub led_last : (words more : List (List ℕ)) (line rest : List ℕ) → AreLed words line rest → Lacks 32 rest → more ≡ words ++ rest ∷ [] → IsOfWords more line
led_last words more line rest at lacks is = record {
  some = λ e. more_than_none words rest (sym is ∙ e);
  are_words = subst AreWords (sym is) (AreWords-more words rest at.are_words lacks);
  is = at.is ∙ sym (joined-led words rest) ∙ ap joined (sym is);
}

same_joined : (ws vs : List (List ℕ)) → AreWords ws → AreWords vs → ws ≢ [] → vs ≢ [] → joined ws ≡ joined vs → ws ≡ vs
same_joined [] vs p q n m e = absurd (n refl)
same_joined (w ∷ ws) [] p q n m e = absurd (m refl)
same_joined (w ∷ []) (v ∷ []) p q n m e = ap (λ (x : List ℕ). x ∷ []) e
same_joined (w ∷ []) (v ∷ next ∷ vs) p q n m e = absurd (not_lacking 32 v (joined (next ∷ vs)) w p.0 (sym e))
same_joined (w ∷ next ∷ ws) (v ∷ []) p q n m e = absurd (not_lacking 32 w (joined (next ∷ ws)) v q.0 e)
same_joined (w ∷ first ∷ ws) (v ∷ second ∷ vs) p q n m e =
    let cuts = same_cut 32 w v (joined (first ∷ ws)) (joined (second ∷ vs)) p.0 q.0 e in
    let one : first ∷ ws ≢ [] = λ h. cc in
    let two : second ∷ vs ≢ [] = λ h. cc in
    let rest = same_joined (first ∷ ws) (second ∷ vs) p.1 q.1 one two cuts.1 in
    ap (λ (x : List ℕ). x ∷ first ∷ ws) cuts.0 ∙ ap (λ (xs : List (List ℕ)). v ∷ xs) rest

-- a line has one list of words
pub same_words : (ws vs : List (List ℕ)) (line : List ℕ) → IsOfWords ws line → IsOfWords vs line → ws ≡ vs
same_words ws vs line p q = same_joined ws vs p.are_words q.are_words p.some q.some (sym p.is ∙ q.is)

-- ---- lists of another length

pub not_three : (S : List ℕ → List ℕ → List ℕ → Type 0) (words : List (List ℕ)) → ((a b c : List ℕ) → words ≡ a ∷ b ∷ c ∷ [] → ⊥) → ThreeWords S words → ⊥
not_three S [] none h = h
not_three S (a ∷ []) none h = h
not_three S (a ∷ b ∷ []) none h = h
not_three S (a ∷ b ∷ c ∷ []) none h = none a b c refl
not_three S (a ∷ b ∷ c ∷ d ∷ words) none h = h
