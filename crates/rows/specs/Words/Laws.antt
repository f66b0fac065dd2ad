-- A text's words one after the other, as SplitWords gives them: the first word with its separator, and the words of the rest.
use Rattle.std.specs.Prelude.{◌≡◌, ℕ, Bool, cond, not, ◌&&◌, List, [], ◌∷◌, ◌++◌}
use Rattle.std.proofs.Math.Path.{refl}
use Rattle.std.proofs.Common.{sym, ap, ◌∙◌, arith, true≢false, append_assoc, append-nil, eqb→eq}
use Rattle.std.proofs.Math.Bool.{true, false}
use Rattle.std.proofs.Math.Dec.{eqb}
use Rattle.text.specs.Tests.{cases, true_T}
use Rattle.text.specs.Utf8.{Scalar}
use Rattle.text.specs.Class.{whitespace}
use Rattle.text.specs.Class.Ranges.{printable_no_space}
use Rattle.rows.specs.Words.{Word, a_word, join_space, add_space, add_letter, words}

-- a scalar of a separator, or of a word before a `-`
unfoldable pub belongs : Bool → ℕ → Bool
belongs true v = whitespace v
belongs false v = not (whitespace v) && not (eqb v 0x2D)

-- the leading scalars that belong, and what is behind them
unfoldable pub leading : Bool → List Scalar → List Scalar
unfolding belongs
leading sep [] = []
leading sep (c ∷ s) = cond (belongs sep c.code) (c ∷ leading sep s) []

unfoldable pub beyond : Bool → List Scalar → List Scalar
unfolding belongs
beyond sep [] = []
beyond sep (c ∷ s) = cond (belongs sep c.code) (beyond sep s) (c ∷ s)

-- the word that begins with w, and what is behind it and its separator
unfoldable pub word_from : List Scalar → List Scalar → Word
unfolding leading
word_from w [] = a_word w []
word_from w (c ∷ s) = cond (eqb c.code 0x2D) (a_word (w ++ c ∷ []) []) (a_word w (leading true (c ∷ s)))

unfoldable pub rest_from : List Scalar → List Scalar
unfolding beyond
rest_from [] = []
rest_from (c ∷ s) = cond (eqb c.code 0x2D) s (beyond true (c ∷ s))

unfoldable pub first_word : List Scalar → Word
unfolding word_from leading beyond
first_word s = word_from (leading false s) (beyond false s)

unfoldable pub rest_words : List Scalar → List Scalar
unfolding rest_from beyond
rest_words s = rest_from (beyond false s)

pub leading_beyond : (sep : Bool) (s : List Scalar) → s ≡ leading sep s ++ beyond sep s
unfolding leading beyond
leading_beyond sep [] = refl
leading_beyond sep (c ∷ s) =
    cases (belongs sep c.code)
    (λ e. rw e (ap (λ (l : List Scalar). c ∷ l) (leading_beyond sep s)))
    (λ e. rw e)

word_from_all : (w s : List Scalar) → w ++ s ≡ ((word_from w s).word ++ (word_from w s).sep) ++ rest_from s
unfolding word_from rest_from
word_from_all w [] = sym (append-nil (w ++ []) ∙ refl)
word_from_all w (c ∷ s) =
    cases (eqb c.code 0x2D)
    (λ e. rw (e, append-nil, append_assoc))
    (λ e. rw (e, append_assoc) (ap (λ (l : List Scalar). w ++ l) (leading_beyond true (c ∷ s))))

-- the text is the first word, its separator and the rest
pub first_word_all : (s : List Scalar) → s ≡ ((first_word s).word ++ (first_word s).sep) ++ rest_words s
unfolding first_word rest_words
first_word_all s = leading_beyond false s ∙ word_from_all (leading false s) (beyond false s)

-- ---- whitespace, a `-`, a letter

space_not_hyphen : (v : ℕ) → whitespace v ≡ true → eqb v 0x2D ≡ false
space_not_hyphen v e =
    cases (eqb v 0x2D)
    (λ h. let k : v ≡ 0x2D = eqb→eq v 0x2D (true_T h) in absurd (true≢false (sym e ∙ printable_no_space v (omega arith) (omega arith))))
    (λ h. h)

word_from_letter : (c : Scalar) (w s : List Scalar) → word_from (c ∷ w) s ≡ a_word (c ∷ (word_from w s).word) (word_from w s).sep
unfolding word_from
word_from_letter c w [] = refl
word_from_letter c w (d ∷ s) = cases (eqb d.code 0x2D) (λ e. rw e) (λ e. rw e)

module _ (c : Scalar) (s : List Scalar) where
  space_first : whitespace c.code ≡ true → (first_word (c ∷ s) ≡ a_word [] (c ∷ leading true s)) × (rest_words (c ∷ s) ≡ beyond true s)
  unfolding first_word rest_words word_from rest_from leading beyond belongs
  space_first e = (simp (e, space_not_hyphen c.code e), simp (e, space_not_hyphen c.code e))

  hyphen_first : whitespace c.code ≡ false → eqb c.code 0x2D ≡ true → (first_word (c ∷ s) ≡ a_word (c ∷ []) []) × (rest_words (c ∷ s) ≡ s)
  unfolding first_word rest_words word_from rest_from leading beyond belongs
  hyphen_first e h = (simp (e, h), simp (e, h))

  letter_first : whitespace c.code ≡ false → eqb c.code 0x2D ≡ false
      → (first_word (c ∷ s) ≡ a_word (c ∷ (first_word s).word) (first_word s).sep) × (rest_words (c ∷ s) ≡ rest_words s)
  unfolding first_word rest_words leading beyond belongs
  letter_first e h = (simp (e, h) (word_from_letter c (leading false s) (beyond false s)), simp (e, h))

  -- more of a separator, or none
  space_on : whitespace c.code ≡ true → (leading true (c ∷ s) ≡ c ∷ leading true s) × (beyond true (c ∷ s) ≡ beyond true s)
  unfolding leading beyond belongs
  space_on e = (rw e, rw e)

  space_off : whitespace c.code ≡ false → (leading true (c ∷ s) ≡ []) × (beyond true (c ∷ s) ≡ c ∷ s)
  unfolding leading beyond belongs
  space_off e = (rw e, rw e)

  by_space : whitespace c.code ≡ true → words (c ∷ s) ≡ add_space c (words s)
  unfolding words
  by_space e = rw e

  by_hyphen : whitespace c.code ≡ false → eqb c.code 0x2D ≡ true → words (c ∷ s) ≡ a_word (c ∷ []) [] ∷ words s
  unfolding words
  by_hyphen e h = rw (e, h)

  by_letter : whitespace c.code ≡ false → eqb c.code 0x2D ≡ false → words (c ∷ s) ≡ add_letter c (words s)
  unfolding words
  by_letter e h = rw (e, h)

space_alone : (c : Scalar) → add_space c (words []) ≡ a_word [] (c ∷ leading true []) ∷ words (beyond true [])
unfolding words add_space leading beyond
space_alone c = refl

letter_alone : (c : Scalar) → add_letter c (words []) ≡ a_word (c ∷ (first_word []).word) (first_word []).sep ∷ words (rest_words [])
unfolding words add_letter first_word rest_words word_from rest_from leading beyond
letter_alone c = refl

-- the first word of words that are not empty, in front of them
abbrev Found : List Scalar → Type 0
Found s = (d : Scalar) (t : List Scalar) → s ≡ d ∷ t → words s ≡ first_word s ∷ words (rest_words s)

-- whitespace before the words that follow it
add_space_law : (c : Scalar) (s : List Scalar) → Found s → add_space c (words s) ≡ a_word [] (c ∷ leading true s) ∷ words (beyond true s)
unfolding add_space join_space
add_space_law c [] ih = space_alone c
add_space_law c (d ∷ t) ih =
    cases (whitespace d.code)
    (λ e. let w = space_first d t e in let v = space_on d t e in ap (add_space c) (rw (w.0, w.1) at (ih d t refl)) ∙ rw (v.0, v.1))
    (λ e. let v = space_off d t e in
    cases (eqb d.code 0x2D)
    (λ h. let w = hyphen_first d t e h in let f = rw (w.0, w.1) at (ih d t refl) in ap (add_space c) f ∙ rw (v.0, v.1, f))
    (λ h. let w = letter_first d t e h in let f = rw (w.0, w.1) at (ih d t refl) in ap (add_space c) f ∙ rw (v.0, v.1, f)))

-- a letter before the words that follow it
add_letter_law : (c : Scalar) (s : List Scalar) → Found s → add_letter c (words s) ≡ a_word (c ∷ (first_word s).word) (first_word s).sep ∷ words (rest_words s)
unfolding add_letter
add_letter_law c [] ih = letter_alone c
add_letter_law c (d ∷ t) ih = ap (add_letter c) (ih d t refl)

words_one : (c : Scalar) (s : List Scalar) → Found s → words (c ∷ s) ≡ first_word (c ∷ s) ∷ words (rest_words (c ∷ s))
words_one c s ih =
    cases (whitespace c.code)
    (λ e. let w = space_first c s e in rw (w.0, w.1) (by_space c s e ∙ add_space_law c s ih))
    (λ e. cases (eqb c.code 0x2D)
    (λ h. let w = hyphen_first c s e h in rw (w.0, w.1) (by_hyphen c s e h))
    (λ h. let w = letter_first c s e h in rw (w.0, w.1) (by_letter c s e h ∙ add_letter_law c s ih)))

-- the first word, and the words of the rest
pub words_first : (s : List Scalar) (c : Scalar) (t : List Scalar) → s ≡ c ∷ t → words s ≡ first_word s ∷ words (rest_words s)
words_first [] c t e = let z : ◌≡◌ {A = ℕ} 0 1 = cc in absurd (omega arith)
words_first (d ∷ s) c t e = words_one d s (words_first s)

-- it holds the first scalar
pub first_word_some : (c : Scalar) (s : List Scalar) → (l : List Scalar) × ((first_word (c ∷ s)).word ++ (first_word (c ∷ s)).sep ≡ c ∷ l)
first_word_some c s =
    cases (whitespace c.code)
    (λ e. (leading true s, rw (space_first c s e).0))
    (λ e. cases (eqb c.code 0x2D)
    (λ h. ([], rw (hyphen_first c s e h).0))
    (λ h. ((first_word s).word ++ (first_word s).sep, rw (letter_first c s e h).0)))

-- ---- of a word with its separator, what is still to come: in the word, or in the separator

unfoldable pub still_of : Bool → List Scalar → List Scalar
unfolding first_word leading
still_of false s = (first_word s).word ++ (first_word s).sep
still_of true s = leading true s

pub still_none : (sep : Bool) → still_of sep [] ≡ []
unfolding still_of first_word word_from leading beyond
still_none true = refl
still_none false = refl

belongs_letter : (v : ℕ) → belongs false v ≡ true → (whitespace v ≡ false) × (eqb v 0x2D ≡ false)
unfolding belongs
belongs_letter v e =
    cases (whitespace v)
    (λ h. absurd (true≢false (sym e ∙ rw h)))
    (λ h. (h, cases (eqb v 0x2D) (λ k. absurd (true≢false (sym e ∙ rw (h, k)))) (λ k. k)))

module _ (c : Scalar) (s : List Scalar) where
  pub still_on : (sep : Bool) → belongs sep c.code ≡ true → still_of sep (c ∷ s) ≡ c ∷ still_of sep s
  unfolding still_of leading
  still_on true e = rw e
  still_on false e = let w = belongs_letter c.code e in rw (letter_first c s w.0 w.1).0

  pub still_ends : belongs true c.code ≡ false → still_of true (c ∷ s) ≡ []
  unfolding still_of leading
  still_ends e = rw e

  pub still_hyphen : c.code ≡ 0x2D → still_of false (c ∷ s) ≡ c ∷ []
  unfolding still_of
  still_hyphen e =
      let h : eqb c.code 0x2D ≡ true = rw e refl in
      let w : whitespace c.code ≡ false = cases (whitespace c.code) (λ k. absurd (true≢false (sym h ∙ space_not_hyphen c.code k))) (λ k. k) in
      rw (hyphen_first c s w h).0

  pub still_turns : belongs false c.code ≡ false → (c.code ≡ 0x2D → ⊥) → still_of false (c ∷ s) ≡ still_of true (c ∷ s)
  unfolding still_of belongs
  still_turns e h =
      cases (whitespace c.code)
      (λ k. rw (space_first c s k).0 (sym (space_on c s k).0))
      (λ k. cases (eqb c.code 0x2D) (λ y. absurd (h (eqb→eq c.code 0x2D (true_T y)))) (λ y. absurd (true≢false (rw (k, y) at e))))
