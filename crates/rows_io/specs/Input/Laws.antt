-- The input read in parts is the input read at once, and what stands behind a full buffer changes nothing.
use Rattle.std.specs.Prelude.{◌≡◌, refl, ℕ, ◌+◌, ◌-◌, ◌≤◌, ◌<◌, Bool, true, false, cond, List, [], ◌∷◌, ◌++◌, length, take, drop, eqb, leb}
use Rattle.std.proofs.Common.{sym, ap, ap₂, ◌∙◌, arith, append-nil, append_assoc, length-append, length-take, length-drop, take_all, take-take, drop-drop, length-take-le, ltb-false, lt-ltb, leb-true, leb-false}
use Rattle.std.proofs.Math.Seq.{take-nil, take-append_seam, drop-append-add}
use Rattle.std.proofs.lemmas.List.{take-append-le}
use Rattle.text.specs.Tests.{cases}
use Rattle.rows_io.specs.FirstLine.{empty, with_byte, with_bytes, read_of, behind}
use Rattle.rows_io.specs.FirstLine.Laws.{bytes_more, bytes_ended, bytes_append, behind_more, behind_ended, behind_append, newline_ends}
use Rattle.rows_io.specs.Input.{first_of, line_of, InputState, state_of, read_into, read_input, start, with_part}
use Rattle.rows_io.specs.declared.first_line.FirstLine.{FirstLine}

-- ---- the line stands behind the first line

line_ends : (b : ℕ) (s : List ℕ) → eqb b 0x0A ≡ true → line_of (b ∷ s) ≡ s
unfolding line_of
line_ends b s e = ap (λ (x : Bool). cond x s (line_of s)) e

line_more : (b : ℕ) (s : List ℕ) → eqb b 0x0A ≡ false → line_of (b ∷ s) ≡ line_of s
unfolding line_of
line_more b s e = ap (λ (x : Bool). cond x s (line_of s)) e

line_behind : (s : List ℕ) (f : FirstLine) → f.ended ≡ false → line_of s ≡ behind f s
unfolding line_of read_of
line_behind [] f e = refl
line_behind (b ∷ s) f e =
    let n : (with_byte f b).ended ≡ eqb b 0x0A = newline_ends f b e in
    cases (eqb b 0x0A) (λ p. line_ends b s p ∙ sym (behind_more f b s e ∙ behind_ended s (with_byte f b) (n ∙ p)))
    (λ p. line_more b s p ∙ line_behind s (with_byte f b) (n ∙ p) ∙ sym (behind_more f b s e))

line_append : (s t : List ℕ) → line_of (s ++ t) ≡ line_of s ++ behind (first_of s) t
line_append s t = rw (line_behind (s ++ t) empty refl, line_behind s empty refl) (behind_append s t empty)

-- ---- a line that was read into its buffer, and more of it

take_again : (n : ℕ) (l x : List ℕ) → take n (take n l ++ x) ≡ take n (l ++ x)
take_again n l x = cases (leb (length l) n)
    (λ p. rw (take_all n l (leb-true (length l) n p)))
    (λ p. let h : n ≤ length l = omega (arith, leb-false (length l) n p) in
    rw (take-append-le n l x h, take-append-le n (take n l) x (rw (length-take-le n l h) (omega arith)), take-take n n l (omega arith)))

drop_again : (n m : ℕ) (k b : List ℕ) → length k ≡ n → n ≤ m → drop m (k ++ drop n b) ≡ drop m b
drop_again n m k b e h =
    let q : m ≡ length k + (m - n) = omega arith in
    let q' : n + (m - n) ≡ m = omega arith in
    ap (λ (i : ℕ). drop i (k ++ drop n b)) q ∙ drop-append-add k (drop n b) (m - n) ∙ drop-drop (m - n) n b ∙ ap (λ (i : ℕ). drop i b) q'

into_length : (f : FirstLine) (l buffer : List ℕ) → length (read_into f l buffer).buffer ≡ length buffer
unfolding read_into
into_length f l buffer = simp (length-append, length-drop, length-take) (omega arith)

into_again : (f : FirstLine) (l x buffer : List ℕ) → read_into f (take (length buffer) l ++ x) (read_into f l buffer).buffer ≡ read_into f (l ++ x) buffer
unfolding read_into
into_again f l x buffer =
    let n : ℕ = length buffer in
    let h : length (take n l) ≤ length (take n (l ++ x)) = simp (length-take, length-append) (omega arith) in
    rw (into_length f l buffer, take_again n l x, drop_again (length (take n l)) (length (take n (l ++ x))) (take n l) buffer refl h)

-- ---- parts

pub nothing_read : (buffer : List ℕ) → 0 < length buffer → state_of start buffer ≡ read_input buffer []
unfolding read_into line_of with_bytes
nothing_read buffer h = rw (take-nil {A = ℕ} (length buffer), lt-ltb 0 (length buffer) h)

pub next_part : (buffer s t : List ℕ) → with_part (read_input buffer s) t ≡ read_input buffer (s ++ t)
unfolding with_part read_into
next_part buffer s t =
    let k : List ℕ = take (length buffer) (line_of s) in
    ap (λ (l : List ℕ). read_into (with_bytes (first_of s) t) (l ++ behind (first_of s) t) (read_into (first_of s) (line_of s) buffer).buffer) (take-append_seam k (drop (length k) buffer))
    ∙ into_again (with_bytes (first_of s) t) (line_of s) (behind (first_of s) t) buffer
    ∙ ap₂ (λ (f : FirstLine) (l : List ℕ). read_into f l buffer) (sym (bytes_append s t empty)) (sym (line_append s t))

unfoldable pub with_parts : InputState → List (List ℕ) → InputState
with_parts h [] = h
with_parts h (p ∷ ps) = with_parts (with_part h p) ps

unfoldable pub joined : List (List ℕ) → List ℕ
joined [] = []
joined (p ∷ ps) = p ++ joined ps

more_parts : (ps : List (List ℕ)) (buffer s : List ℕ) → with_parts (read_input buffer s) ps ≡ read_input buffer (s ++ joined ps)
unfolding with_parts joined
more_parts [] buffer s = ap (read_input buffer) (sym (append-nil s))
more_parts (p ∷ ps) buffer s =
    ap (λ (h : InputState). with_parts h ps) (next_part buffer s p) ∙ more_parts ps buffer (s ++ p) ∙ ap (read_input buffer) (append_assoc s p (joined ps))

-- the parts of an input, one after the other, are read as all their bytes at once
pub in_parts : (ps : List (List ℕ)) (buffer : List ℕ) → 0 < length buffer → with_parts (state_of start buffer) ps ≡ read_input buffer (joined ps)
in_parts ps buffer h = ap (λ (x : InputState). with_parts x ps) (nothing_read buffer h) ∙ more_parts ps buffer []

-- ---- a buffer that is full

no_line : length (line_of []) ≡ 0
unfolding line_of
no_line = refl

line_after : (s : List ℕ) (f : FirstLine) → f.ended ≡ false → 0 < length (line_of s) → (with_bytes f s).ended ≡ true
line_after [] f e h = absurd (omega (arith, no_line))
line_after (b ∷ s) f e h =
    let n : (with_byte f b).ended ≡ eqb b 0x0A = newline_ends f b e in
    cases (eqb b 0x0A) (λ p. ap (λ (g : FirstLine). g.ended) (bytes_more f b s e ∙ bytes_ended s (with_byte f b) (n ∙ p)) ∙ n ∙ p)
    (λ p. ap (λ (g : FirstLine). g.ended) (bytes_more f b s e) ∙ line_after s (with_byte f b) (n ∙ p) (rw (line_more b s p) at h))

into_full : (f : FirstLine) (l x buffer : List ℕ) → length buffer ≤ length l → read_into f (l ++ x) buffer ≡ read_into f l buffer
unfolding read_into
into_full f l x buffer h = rw (take-append-le (length buffer) l x h)

full : (f : FirstLine) (l buffer : List ℕ) → (read_into f l buffer).input.more ≡ false → length buffer ≤ length l
unfolding read_into
full f l buffer e = omega (arith, length-take (length buffer) l, ltb-false (length (take (length buffer) l)) (length buffer) e)

-- once no more is wanted, what follows changes nothing
pub enough : (buffer s t : List ℕ) → 0 < length buffer → (read_input buffer s).input.more ≡ false → read_input buffer (s ++ t) ≡ read_input buffer s
enough buffer s t h e =
    let w : length buffer ≤ length (line_of s) = full (first_of s) (line_of s) buffer e in
    let a : first_of (s ++ t) ≡ first_of s = bytes_append s t empty ∙ bytes_ended t (first_of s) (line_after s empty refl (omega arith)) in
    ap₂ (λ (f : FirstLine) (l : List ℕ). read_into f l buffer) a (line_append s t) ∙ into_full (first_of s) (line_of s) (behind (first_of s) t) buffer w
