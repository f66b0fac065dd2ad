-- The first line, read in parts.
use Rattle.std.specs.Prelude.{◌≡◌, refl, ℕ, suc, ◌≤◌, Bool, true, false, cond, ◌&&◌, List, [], ◌∷◌, ◌++◌, length, drop, eqb}
use Rattle.std.proofs.Common.{sym, ap, ap₂, ◌∙◌, arith}
use Rattle.text.specs.Tests.{cases}
use Rattle.rows_io.specs.FirstLine.{digit, with_digit, with_byte, with_bytes, read_of, behind}
use Rattle.rows_io.specs.declared.first_line.FirstLine.{FirstLine}

-- ---- no byte

pub bytes_none : (f : FirstLine) → with_bytes f [] ≡ f
unfolding with_bytes
bytes_none f = refl

pub read_none : (f : FirstLine) → read_of f [] ≡ 0
unfolding read_of
read_none f = refl

-- ---- one byte more of a first line that has not ended

pub bytes_more : (f : FirstLine) (b : ℕ) (s : List ℕ) → f.ended ≡ false → with_bytes f (b ∷ s) ≡ with_bytes (with_byte f b) s
unfolding with_bytes
bytes_more f b s e = ap (λ (x : Bool). cond x f (with_bytes (with_byte f b) s)) e

pub read_more : (f : FirstLine) (b : ℕ) (s : List ℕ) → f.ended ≡ false → read_of f (b ∷ s) ≡ suc (read_of (with_byte f b) s)
unfolding read_of
read_more f b s e = ap (λ (x : Bool). cond x 0 (suc (read_of (with_byte f b) s))) e

pub behind_more : (f : FirstLine) (b : ℕ) (s : List ℕ) → f.ended ≡ false → behind f (b ∷ s) ≡ behind (with_byte f b) s
behind_more f b s e = ap (λ (n : ℕ). drop n (b ∷ s)) (read_more f b s e)

-- ---- one that has ended takes no more

pub bytes_ended : (s : List ℕ) (f : FirstLine) → f.ended ≡ true → with_bytes f s ≡ f
unfolding with_bytes
bytes_ended [] f e = refl
bytes_ended (b ∷ s) f e = ap (λ (x : Bool). cond x f (with_bytes (with_byte f b) s)) e

pub read_ended : (s : List ℕ) (f : FirstLine) → f.ended ≡ true → read_of f s ≡ 0
unfolding read_of
read_ended [] f e = refl
read_ended (b ∷ s) f e = ap (λ (x : Bool). cond x 0 (suc (read_of (with_byte f b) s))) e

pub behind_ended : (s : List ℕ) (f : FirstLine) → f.ended ≡ true → behind f s ≡ s
behind_ended s f e = ap (λ (n : ℕ). drop n s) (read_ended s f e)

-- ---- one part after the other

pub read_within : (s : List ℕ) (f : FirstLine) → read_of f s ≤ length s
read_within [] f = omega (arith, read_none f)
read_within (b ∷ s) f = cases f.ended (λ e. omega (arith, read_ended (b ∷ s) f e)) (λ e. omega (arith, read_more f b s e, read_within s (with_byte f b)))

pub bytes_append : (s t : List ℕ) (f : FirstLine) → with_bytes f (s ++ t) ≡ with_bytes (with_bytes f s) t
bytes_append [] t f = ap (λ (g : FirstLine). with_bytes g t) (sym (bytes_none f))
bytes_append (b ∷ s) t f = cases f.ended
    (λ e. bytes_ended (b ∷ s ++ t) f e ∙ sym (bytes_ended t f e) ∙ ap (λ (g : FirstLine). with_bytes g t) (sym (bytes_ended (b ∷ s) f e)))
    (λ e. bytes_more f b (s ++ t) e ∙ bytes_append s t (with_byte f b) ∙ ap (λ (g : FirstLine). with_bytes g t) (sym (bytes_more f b s e)))

pub behind_append : (s t : List ℕ) (f : FirstLine) → behind f (s ++ t) ≡ behind f s ++ behind (with_bytes f s) t
behind_append [] t f = ap (λ (g : FirstLine). behind g t) (sym (bytes_none f)) ∙ ap (λ (n : ℕ). drop n [] ++ behind (with_bytes f []) t) (sym (read_none f))
behind_append (b ∷ s) t f = cases f.ended
    (λ e. behind_ended (b ∷ s ++ t) f e ∙ ap₂ (λ (x y : List ℕ). x ++ y) (sym (behind_ended (b ∷ s) f e)) (sym (behind_ended t f e) ∙ ap (λ (g : FirstLine). behind g t) (sym (bytes_ended (b ∷ s) f e))))
    (λ e. behind_more f b (s ++ t) e ∙ behind_append s t (with_byte f b) ∙ sym (ap₂ (λ (x : List ℕ) (g : FirstLine). x ++ behind g t) (behind_more f b s e) (bytes_more f b s e)))

-- ---- the newline, and it alone, ends a first line

digit_ends : (f : FirstLine) (b : ℕ) → f.ended ≡ false → (with_digit f b).ended ≡ false
unfolding with_digit
digit_ends f b e = cases (eqb f.stage 0) (λ p. rw p) (λ p. cases (eqb f.stage 1) (λ q. rw (p, q)) (λ q. rw (p, q) e))

pub newline_ends : (f : FirstLine) (b : ℕ) → f.ended ≡ false → (with_byte f b).ended ≡ eqb b 0x0A
unfolding with_byte
newline_ends f b e =
    cases (eqb b 0x0A) (λ p. rw p)
    (λ p. cases (digit b) (λ q. rw (p, q) (digit_ends f b e))
    (λ q. cases (eqb b 0x20 && (eqb f.stage 0 && f.digits)) (λ r. rw (p, q, r)) (λ r. rw (p, q, r))))
