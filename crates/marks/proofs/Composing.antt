-- A mark composed in memory: its bytes, and that they fit. The change list around it.
use Rattle.std.proofs.Common.{◌≡◌, ℕ, ◌+◌, ◌-◌, ◌/◌, ◌%◌, ◌<◌, ◌≤◌, true, false, cond, ◌&&◌, eqb, ltb, List, [], ◌∷◌, ◌++◌, length, take, drop, replicate, sym, ap, ◌∙◌, append_assoc, arith, length-append, length-take-le, le-ltb, lt-ltb, eq-eqb, ne_eqb}
use Rattle.buffer.specs.Numbers as numbers
use Rattle.buffer.specs.Numbers.{smaller_of, le2, le4}
use Rattle.buffer.specs.Numbers.Laws.{smaller_right}
use Rattle.buffer.specs.Sink.{Sink, sink, put, emit}
use Rattle.buffer.specs.Sink.Laws.{emit_none, then_emit, fitted, emit_put, then_put}
use Rattle.text.specs.Tests.{cases}
use Rattle.text.specs.Utf8.{asciis, bytes_of}
use Rattle.text.specs.Utf8.AsciiTexts.{asciis_append, asciis_bytes, asciis_cons, asciis_nil}
use Rattle.drawing.specs.Marks.{byte_mark, upper_digits, scalar_mark}
use Rattle.drawing.specs.Marks.Laws.{digit_is, byte_bytes}
use Rattle.marks.specs.Composed.{change, clipped_change, plain_change, arrow_changes, left_edge, letter_change, seen_changes, right_edge, shown_from, composed_list}

-- ---- digits

abbrev digit : ℕ → ℕ
digit n = numbers.hex_digit (n % 16)

pub digit_pushed : (s s' : Sink ℕ) (b n : ℕ) → b ≡ numbers.hex_digit (n % 16 % 16) → s' ≡ put s b → s' ≡ emit s (numbers.hex_digit (n % 16) ∷ [])
digit_pushed s s' b n e p = let m : n % 16 % 16 ≡ n % 16 = omega arith in rw (← m, ← e) (emit_put s s' b p)

-- ---- the mark of a scalar

unfoldable upper_bytes : ℕ → List ℕ
upper_bytes v = cond (ltb v 0x10000) [] (cond (ltb v 0x100000) (digit (v / 0x10000) ∷ []) (digit (v / 0x100000) ∷ digit (v / 0x10000) ∷ []))

unfoldable lower_bytes : ℕ → List ℕ
lower_bytes v = digit (v / 0x1000) ∷ digit (v / 0x100) ∷ digit (v / 0x10) ∷ digit v ∷ []

unfoldable mark_bytes : ℕ → List ℕ
mark_bytes v = 0x3C ∷ 0x55 ∷ 0x2B ∷ (upper_bytes v ++ (lower_bytes v ++ 0x3E ∷ []))

upper_is : (v : ℕ) → upper_digits v ≡ asciis (upper_bytes v)
unfolding upper_digits upper_bytes
upper_is v =
    cases (ltb v 0x10000) (λ e. rw e (sym asciis_nil))
    (λ e. cases (ltb v 0x100000) (λ f. rw (e, f) (simp (digit_is, asciis_cons, asciis_nil))) (λ f. rw (e, f) (simp (digit_is, asciis_cons, asciis_nil))))

mark_is : (v : ℕ) → scalar_mark v ≡ asciis (mark_bytes v)
unfolding scalar_mark mark_bytes lower_bytes
mark_is v = rw (upper_is v) (simp (digit_is, asciis_cons, asciis_append, asciis_nil))

mark_bytes_law : (v : ℕ) → bytes_of (scalar_mark v) ≡ mark_bytes v
mark_bytes_law v = ap bytes_of (mark_is v) ∙ asciis_bytes (mark_bytes v)

upper_bytes_law : (v : ℕ) → bytes_of (upper_digits v) ≡ upper_bytes v
upper_bytes_law v = ap bytes_of (upper_is v) ∙ asciis_bytes (upper_bytes v)

pub upper_none : (s : Sink ℕ) (v : ℕ) → v < 0x10000 → s ≡ emit s (bytes_of (upper_digits v))
unfolding upper_bytes
upper_none s v h = rw (upper_bytes_law v, lt-ltb v 0x10000 h) (sym (emit_none s))

pub upper_one : (s s' : Sink ℕ) (v : ℕ) → 0x10000 ≤ v → v < 0x100000 → s' ≡ emit s (digit (v / 0x10000) ∷ []) → s' ≡ emit s (bytes_of (upper_digits v))
unfolding upper_bytes
upper_one s s' v h k p = rw (upper_bytes_law v, le-ltb v 0x10000 h, lt-ltb v 0x100000 k) p

pub upper_two : (s s₁ s₂ : Sink ℕ) (v : ℕ) → 0x10000 ≤ v → 0x100000 ≤ v → s₁ ≡ emit s (digit (v / 0x100000) ∷ []) → s₂ ≡ emit s₁ (digit (v / 0x10000) ∷ []) → s₂ ≡ emit s (bytes_of (upper_digits v))
unfolding upper_bytes
upper_two s s₁ s₂ v h k p q = rw (upper_bytes_law v, le-ltb v 0x10000 h, le-ltb v 0x100000 k) (then_emit s s₁ s₂ (digit (v / 0x100000) ∷ []) (digit (v / 0x10000) ∷ []) p q)

pub lower_pushed : (s s₁ s₂ s₃ s₄ : Sink ℕ) (v : ℕ) → s₁ ≡ emit s (digit (v / 0x1000) ∷ []) → s₂ ≡ emit s₁ (digit (v / 0x100) ∷ []) → s₃ ≡ emit s₂ (digit (v / 0x10) ∷ []) → s₄ ≡ emit s₃ (digit v ∷ [])
    → s₄ ≡ emit s (digit (v / 0x1000) ∷ digit (v / 0x100) ∷ digit (v / 0x10) ∷ digit v ∷ [])
lower_pushed s s₁ s₂ s₃ s₄ v p q r t = then_emit s s₁ s₄ _ _ p (then_emit s₁ s₂ s₄ _ _ q (then_emit s₂ s₃ s₄ _ _ r t))

pub mark_pushed : (s s₁ s₂ s₃ s₄ : Sink ℕ) (v : ℕ) → s₁ ≡ emit s (0x3C ∷ 0x55 ∷ 0x2B ∷ []) → s₂ ≡ emit s₁ (bytes_of (upper_digits v))
    → s₃ ≡ emit s₂ (digit (v / 0x1000) ∷ digit (v / 0x100) ∷ digit (v / 0x10) ∷ digit v ∷ []) → s₄ ≡ put s₃ 0x3E → s₄ ≡ emit s (bytes_of (scalar_mark v))
unfolding mark_bytes lower_bytes
mark_pushed s s₁ s₂ s₃ s₄ v p q r t =
    let u : s₂ ≡ emit s₁ (upper_bytes v) = q ∙ ap (emit s₁) (upper_bytes_law v) in
    let w : s₄ ≡ emit s₂ (lower_bytes v ++ 0x3E ∷ []) = then_put s₂ s₃ s₄ (lower_bytes v) 0x3E r t in
    rw (mark_bytes_law v) (then_emit s s₁ s₄ (0x3C ∷ 0x55 ∷ 0x2B ∷ []) (upper_bytes v ++ (lower_bytes v ++ 0x3E ∷ [])) p (then_emit s₁ s₂ s₄ (upper_bytes v) (lower_bytes v ++ 0x3E ∷ []) u w))

mark_length : (v : ℕ) → length (mark_bytes v) ≤ 10
unfolding mark_bytes lower_bytes upper_bytes
mark_length v =
    rw (length-append (upper_bytes v) (lower_bytes v ++ 0x3E ∷ [])) (cases (ltb v 0x10000) (λ e. rw e (omega arith)) (λ e. cases (ltb v 0x100000) (λ f. rw (e, f) (omega arith)) (λ f. rw (e, f) (omega arith))))

-- ---- the mark of a byte

pub byte_pushed : (s s₁ s₂ s₃ s₄ : Sink ℕ) (b h l : ℕ) → b < 256 → h ≡ numbers.hex_digit (b / 16 % 16) → l ≡ numbers.hex_digit (b % 16 % 16) → s₁ ≡ put s 0x3C → s₂ ≡ put s₁ h → s₃ ≡ put s₂ l → s₄ ≡ put s₃ 0x3E → s₄ ≡ emit s (bytes_of (byte_mark b))
byte_pushed s s₁ s₂ s₃ s₄ b h l g e f p q r t =
    let m : numbers.hex_digit (b / 16) ≡ h = ap numbers.hex_digit (let x : b / 16 ≡ b / 16 % 16 = omega arith in x) ∙ sym e in
    let n : numbers.hex_digit (b % 16) ≡ l = ap numbers.hex_digit (let x : b % 16 ≡ b % 16 % 16 = omega arith in x) ∙ sym f in
    rw (byte_bytes b, m, n) (then_put s s₃ s₄ (0x3C ∷ h ∷ l ∷ []) 0x3E (then_put s s₂ s₃ (0x3C ∷ h ∷ []) l (then_put s s₁ s₂ (0x3C ∷ []) h (emit_put s s₁ 0x3C p) q) r) t)

-- ---- what was composed in ten bytes

module _ (mark : List ℕ) (n : ℕ) where
  fits : (bytes : List ℕ) → length bytes ≤ 10 → length mark ≡ 10 → sink mark n ≡ emit (sink (replicate 10 0) 0) bytes → n ≤ length mark
  fits bytes h l e = omega (arith, (fitted (replicate 10 0) bytes mark n e h).0)

  module _ (v : ℕ) (e : sink mark n ≡ emit (sink (replicate 10 0) 0) (bytes_of (scalar_mark v))) (l : length mark ≡ 10) where
    pub scalar_inside : n ≤ length mark
    scalar_inside = fits (mark_bytes v) (mark_length v) l (e ∙ ap (emit (sink (replicate 10 0) 0)) (mark_bytes_law v))

    pub scalar_fits : n ≡ length (take n mark)
    scalar_fits = sym (length-take-le n mark scalar_inside)

  module _ (b : ℕ) (e : sink mark n ≡ emit (sink (replicate 10 0) 0) (bytes_of (byte_mark b))) (l : length mark ≡ 10) where
    pub byte_inside : n ≤ length mark
    byte_inside = fits (0x3C ∷ numbers.hex_digit (b / 16) ∷ numbers.hex_digit (b % 16) ∷ 0x3E ∷ []) (omega arith) l (e ∙ ap (emit (sink (replicate 10 0) 0)) (byte_bytes b))

    pub byte_fits : n ≡ length (take n mark)
    byte_fits = sym (length-take-le n mark byte_inside)

-- ---- changes

pub change_pushed : (s s₁ s₂ s₃ : Sink ℕ) (kind : ℕ) (body : List ℕ) → s₁ ≡ emit s (le4 (length body)) → s₂ ≡ emit s₁ (le2 kind) → s₃ ≡ emit s₂ body → s₃ ≡ emit s (change kind body)
unfolding change
change_pushed s s₁ s₂ s₃ kind body p q r = then_emit s s₁ s₃ (le4 (length body)) (le2 kind ++ body) p (then_emit s₁ s₂ s₃ (le2 kind) body q r)

-- a part of a mark, from f to f + x
module _ (n from to f t x : ℕ) (a : f ≡ smaller_of from n) (b : t ≡ smaller_of to n) (d : x ≡ t - f) where
  pub part_inside : f + x ≤ n
  part_inside = omega (arith, smaller_right from n f a, smaller_right to n t b)

  part_size_law : f + x - f ≡ t - f
  part_size_law = omega arith

pub part_pushed : (mark : List ℕ) (from to f t x : ℕ) (s s' : Sink ℕ) → f ≡ smaller_of from (length mark) → t ≡ smaller_of to (length mark) → x ≡ t - f
    → s' ≡ emit s (change 1 (take (f + x - f) (drop f mark))) → s' ≡ emit s (clipped_change mark from to)
unfolding clipped_change
part_pushed mark from to f t x s s' a b d p = rw (← a, ← b) (rw (part_size_law (length mark) from to f t x a b d) at p)

pub plain_pushed : (s s' : Sink ℕ) → s' ≡ emit s (change 2 (replicate 25 0)) → s' ≡ emit s plain_change
unfolding plain_change
plain_pushed s s' p = p

pub arrow_pushed : (s s₁ s₂ : Sink ℕ) (b : ℕ) → s₁ ≡ emit s (change 2 (1 ∷ 0 ∷ 0 ∷ 0 ∷ 1 ∷ 4 ∷ replicate 19 0)) → s₂ ≡ emit s₁ (change 1 (b ∷ [])) → s₂ ≡ emit s (arrow_changes b)
unfolding arrow_changes
arrow_pushed s s₁ s₂ b p q = then_emit s s₁ s₂ _ _ p q

-- ---- the parts of a list

pub no_left : (s : Sink ℕ) (start : ℕ) → start ≡ 0 → s ≡ emit s (left_edge start)
unfolding left_edge
no_left s start e = rw (eq-eqb start 0 e) (sym (emit_none s))

pub left_pushed : (s s₁ s₂ : Sink ℕ) (start : ℕ) → (start ≡ 0 → ⊥) → s₁ ≡ emit s (arrow_changes 0x3C) → s₂ ≡ emit s₁ plain_change → s₂ ≡ emit s (left_edge start)
unfolding left_edge
left_pushed s s₁ s₂ start e p q = rw (ne_eqb start 0 e) (then_emit s s₁ s₂ _ _ p q)

pub letter_pushed : (s s' : Sink ℕ) (column start end : ℕ) → (eqb column 1 && (eqb start 0 && ltb 0 end)) ≡ true → s' ≡ emit s (change 1 (0x61 ∷ [])) → s' ≡ emit s (letter_change column start end)
unfolding letter_change
letter_pushed s s' column start end e p = rw e p

pub no_letter : (s : Sink ℕ) (column start end : ℕ) → (eqb column 1 && (eqb start 0 && ltb 0 end)) ≡ false → s ≡ emit s (letter_change column start end)
unfolding letter_change
no_letter s column start end e = rw e (sym (emit_none s))

module _ (mark : List ℕ) (from to : ℕ) where
  pub seen_pushed : (s s₁ s₂ : Sink ℕ) → (ltb from (length mark) && ltb 0 to) ≡ true → s₁ ≡ emit s (change 2 (0 ∷ 0 ∷ 0 ∷ 2 ∷ replicate 21 0)) → s₂ ≡ emit s₁ (clipped_change mark from to) → s₂ ≡ emit s (seen_changes mark from to)
  unfolding seen_changes
  seen_pushed s s₁ s₂ e p q = rw e (then_emit s s₁ s₂ _ _ p q)

  pub not_seen : (s : Sink ℕ) → (ltb from (length mark) && ltb 0 to) ≡ false → s ≡ emit s (seen_changes mark from to)
  unfolding seen_changes
  not_seen s e = rw e (sym (emit_none s))

module _ (columns to : ℕ) where
  pub edge_passed : (s s₁ s₂ s₃ : Sink ℕ) → to < columns → s₁ ≡ emit s (change 1 (0x08 ∷ [])) → s₂ ≡ emit s₁ (change 4 []) → s₃ ≡ emit s₂ (arrow_changes 0x3E) → s₃ ≡ emit s (right_edge columns to)
  unfolding right_edge
  edge_passed s s₁ s₂ s₃ h p q r = rw (lt-ltb to columns h) (then_emit s s₁ s₃ _ _ p (then_emit s₁ s₂ s₃ _ _ q r))

  pub edge_cleared : (s s' : Sink ℕ) → columns ≤ to → columns < to → s' ≡ emit s (change 3 (replicate 4 0)) → s' ≡ emit s (right_edge columns to)
  unfolding right_edge
  edge_cleared s s' g h p = rw (le-ltb to columns g, lt-ltb columns to h) p

  pub edge_met : (s : Sink ℕ) → columns ≤ to → to ≤ columns → s ≡ emit s (right_edge columns to)
  unfolding right_edge
  edge_met s g h = rw (le-ltb to columns g, le-ltb columns to h) (sym (emit_none s))

pub rest_pushed : (mark : List ℕ) (from to : ℕ) (s s₁ s₂ s₃ : Sink ℕ) → s₁ ≡ emit s (seen_changes mark from to) → s₂ ≡ emit s₁ (right_edge (length mark) to) → s₃ ≡ emit s₂ plain_change
    → s₃ ≡ emit s (seen_changes mark from to ++ (right_edge (length mark) to ++ plain_change))
rest_pushed mark from to s s₁ s₂ s₃ p q r = then_emit s s₁ s₃ _ _ p (then_emit s₁ s₂ s₃ _ _ q r)

pub drawing_pushed : (mark : List ℕ) (column start end from offset last : ℕ) (s s₁ s₂ : Sink ℕ) → from ≡ shown_from start → offset ≡ from - column → last ≡ end - column
    → s₁ ≡ emit s (left_edge start ++ letter_change column from end) → s₂ ≡ emit s₁ (seen_changes mark offset last ++ (right_edge (length mark) last ++ plain_change))
    → s₂ ≡ emit s (composed_list mark column start end)
unfolding composed_list
drawing_pushed mark column start end from offset last s s₁ s₂ a b d p q =
    rw (← a, ← b, ← d, ← (append_assoc (left_edge start) (letter_change column from end) (seen_changes mark offset last ++ (right_edge (length mark) last ++ plain_change)))) (then_emit s s₁ s₂ _ _ p q)
