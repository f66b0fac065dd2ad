-- Bytes written behind a text in a buffer.
use Prim.Native.Nat.{◌+◌, ◌≤◌, suc, zero, ℕ}
use native.Mathlib.Nat.{add-suc, add-zero}
use native.Mathlib.Omega.{arith}
use mathlib.Core.Bool.{Bool, ◌&&◌, beq, cond, false, not, true}
use mathlib.Core.List.{List, [], ◌++◌, ◌∷◌, append_assoc, append-nil, reverse, reverse_aux-append}
use mathlib.Core.Logic.{◌≢◌}
use mathlib.Core.Path.{◌∙◌, ◌≡◌, ap, ap₂, refl, sym}
use Rattle.text.specs.Tests.{and_T, is_true, true_T}
use lib.ListN.{drop, get_or, length, length-append, length-set, set, take}
use lib.Seq.{length-take-le, take_all, take_at, take-suc, take-suc-set}
use Rattle.buffer.specs.Sink.{Copied}
use Rattle.text.specs.Backward.{backward}
use Rattle.text.specs.Utf8.Code.{whole}
use Rattle.text.specs.Overstrike.Code.{Front, Pushed, order_of, style_of}
use Rattle.text.specs.Overstrike.{Style, bold, bold_underline, normal, order, push, underline}
use Rattle.text.specs.Utf8.{Scalar, decode, run_of}
use Rattle.text.specs.declared.overstrike.Overstrike.{Overstrike}
use Rattle.text.proofs.Texts.{run_append, whole_append}

-- a copy with room
pub push_copied : (l l' xs : List ℕ) (len r : ℕ) → len + length xs ≤ length l → length l' ≡ length l → Copied l l' len xs r → Pushed l l' len xs r
push_copied l l' xs len r h k c =
    let n : length (take len l ++ xs) ≡ len + length xs = length-append (take len l) xs ∙ ap (λ (m : ℕ). m + length xs) (length-take-le len l (omega arith)) in
    record {
      bytes = rw (c.bytes, c.end) (take_at (take len l ++ xs) (drop (len + length xs) l) (len + length xs) n);
      end = c.end;
      inside = omega (arith, c.end);
    }

-- a few bytes, one by one
module _ (l xs : List ℕ) (len : ℕ) where
  unfoldable wrote : ℕ → List ℕ
  wrote zero = l
  wrote (suc k) = set (wrote k) (len + k) (get_or xs k 0)

  length_wrote : (k : ℕ) → length (wrote k) ≡ length l
  unfolding wrote
  length_wrote zero = refl
  length_wrote (suc k) = rw length-set (length_wrote k)

  take_wrote : (k : ℕ) → k ≤ length xs → len + length xs ≤ length l → take (len + k) (wrote k) ≡ take len l ++ take k xs
  unfolding wrote
  take_wrote zero h r = rw (add-zero, append-nil) refl
  take_wrote (suc k) h r =
      ap (λ (n : ℕ). take n (set (wrote k) (len + k) (get_or xs k 0))) (add-suc len k)
      ∙ take-suc-set (wrote k) (len + k) (get_or xs k 0) (rw (length_wrote k) (omega arith))
      ∙ ap (λ (ys : List ℕ). ys ++ (get_or xs k 0 ∷ [])) (take_wrote k (omega arith) r)
      ∙ append_assoc (take len l) (take k xs) (get_or xs k 0 ∷ [])
      ∙ ap (λ (ys : List ℕ). take len l ++ ys) (sym (take-suc xs k 0 (omega arith)))

  push_wrote : (k : ℕ) → k ≡ length xs → len + length xs ≤ length l → Pushed l (wrote k) len xs (len + k)
  push_wrote k e h = record {
    bytes = take_wrote k (omega arith) h ∙ ap (λ (ys : List ℕ). take len l ++ ys) (take_all k xs (omega arith));
    end = ap (λ (n : ℕ). len + n) e;
    inside = rw (length_wrote k) (omega arith);
  }

  module _ (n : ℕ) (e : n ≡ length xs) (h : len + length xs ≤ length l) where
    pub push_zero : n ≡ 0 → Pushed l l len xs len
    unfolding wrote
    push_zero i = rw add-zero at (push_wrote 0 (omega arith) h)

    pub push_one : n ≡ 1 → Pushed l (set l len (get_or xs 0 0)) len xs (len + 1)
    unfolding wrote
    push_one i = rw add-zero at (push_wrote 1 (omega arith) h)

    pub push_two : n ≡ 2 → Pushed l (set (set l len (get_or xs 0 0)) (len + 1) (get_or xs 1 0)) len xs (len + 2)
    unfolding wrote
    push_two i = rw add-zero at (push_wrote 2 (omega arith) h)

    pub push_three : n ≡ 3 → Pushed l (set (set (set l len (get_or xs 0 0)) (len + 1) (get_or xs 1 0)) (len + 2) (get_or xs 2 0)) len xs (len + 3)
    unfolding wrote
    push_three i = rw add-zero at (push_wrote 3 (omega arith) h)

    pub push_four : n ≤ 4 → (n ≢ 0) → (n ≢ 1) → (n ≢ 2) → (n ≢ 3) → Pushed l (set (set (set (set l len (get_or xs 0 0)) (len + 1) (get_or xs 1 0)) (len + 2) (get_or xs 2 0)) (len + 3) (get_or xs 3 0)) len xs (len + 4)
    unfolding wrote
    push_four i n₀ n₁ n₂ n₃ = rw add-zero at (push_wrote 4 (omega arith) h)

pub push_none : (l : List ℕ) (len : ℕ) → len ≤ length l → Pushed l l len [] len
push_none l len h = push_zero l [] len 0 refl (omega arith) refl

-- a valid text behind a valid text
pub front_push : (l l' : List ℕ) (len r : ℕ) (xs : List ℕ) (out : List Scalar) → Front l len out → whole xs → Pushed l l' len xs r → Front l' r (push (run_of (decode xs)) out)
unfolding backward
front_push l l' len r xs out t v w = record {
  inside = w.inside;
  scalars =
      ap (λ (x : List ℕ). reverse (run_of (decode x))) w.bytes
      ∙ ap reverse (run_append (run_of (decode (take len l))) (take len l) xs refl t.valid)
      ∙ reverse_aux-append (run_of (decode (take len l))) (run_of (decode xs)) []
      ∙ ap (λ (x : List Scalar). push (run_of (decode xs)) x) t.scalars;
  valid = rw w.bytes (whole_append (take len l) xs t.valid v);
}

-- ---- style orders

-- the orders by what changes: bold off, bold on, underline off, underline on
unfoldable pub changes : Bool → Bool → Bool → Bool → List ℕ
changes bold_off bold_on underline_off underline_on =
    cond bold_off
    (cond underline_off (0x1B ∷ 0x5B ∷ 0x32 ∷ 0x32 ∷ 0x3B ∷ 0x32 ∷ 0x34 ∷ 0x6D ∷ [])
    (cond underline_on (0x1B ∷ 0x5B ∷ 0x32 ∷ 0x32 ∷ 0x3B ∷ 0x34 ∷ 0x6D ∷ [])
    (0x1B ∷ 0x5B ∷ 0x32 ∷ 0x32 ∷ 0x6D ∷ [])))
    (cond bold_on
    (cond underline_off (0x1B ∷ 0x5B ∷ 0x32 ∷ 0x34 ∷ 0x3B ∷ 0x31 ∷ 0x6D ∷ [])
    (cond underline_on (0x1B ∷ 0x5B ∷ 0x31 ∷ 0x3B ∷ 0x34 ∷ 0x6D ∷ [])
    (0x1B ∷ 0x5B ∷ 0x31 ∷ 0x6D ∷ [])))
    (cond underline_off (0x1B ∷ 0x5B ∷ 0x32 ∷ 0x34 ∷ 0x6D ∷ [])
    (cond underline_on (0x1B ∷ 0x5B ∷ 0x34 ∷ 0x6D ∷ []) [])))

unfoldable pub changed : Overstrike → Overstrike → List ℕ
unfolding changes
changed b s = changes (b.bold && not s.bold) (not b.bold && s.bold) (b.underline && not s.underline) (not b.underline && s.underline)

-- the sixteen transitions
changed_bits : (a b c d : Bool) → changed (record { bold = a; underline = b }) (record { bold = c; underline = d }) ≡ order_of (record { bold = a; underline = b }) (record { bold = c; underline = d })
unfolding changed order style_of
changed_bits true true true true = refl
changed_bits true true true false = refl
changed_bits true true false true = refl
changed_bits true true false false = refl
changed_bits true false true true = refl
changed_bits true false true false = refl
changed_bits true false false true = refl
changed_bits true false false false = refl
changed_bits false true true true = refl
changed_bits false true true false = refl
changed_bits false true false true = refl
changed_bits false true false false = refl
changed_bits false false true true = refl
changed_bits false false true false = refl
changed_bits false false false true = refl
changed_bits false false false false = refl

pub changed_order : (b s : Overstrike) → changed b s ≡ order_of b s
changed_order b s = changed_bits b.bold b.underline s.bold s.underline

pub order_room : (b s : Overstrike) (k len n : ℕ) → length (changed b s) ≡ k → len + length (order_of b s) ≤ n → len + k ≤ n
order_room b s k len n e h = rw (← e, changed_order b s) h

pub order_pushed : (b s : Overstrike) (xs l l' : List ℕ) (len r : ℕ) → xs ≡ changed b s → Pushed l l' len xs r → Pushed l l' len (order_of b s) r
order_pushed b s xs l l' len r e p = rw (e ∙ changed_order b s) at p

-- nothing changes
same_order : (t : Style) → order t t ≡ []
unfolding order
same_order normal = refl
same_order bold = refl
same_order underline = refl
same_order bold_underline = refl

-- ---- an order and a cluster

-- `==` of two flags
flags_same : (a b : Bool) → beq a b ≡ true → a ≡ b
flags_same true true e = refl
flags_same false false e = refl
flags_same true false e = cc
flags_same false true e = cc

same_style : (b s : Overstrike) → (beq b.bold s.bold && beq b.underline s.underline) ≡ true → b ≡ s
same_style b s e =
    let p = and_T (beq b.bold s.bold) (beq b.underline s.underline) (true_T e) in
    ap₂ (λ (x y : Bool). record { bold = x; underline = y }) (flags_same _ _ (is_true _ p.0)) (flags_same _ _ (is_true _ p.1))

pub styled_same : (b s : Overstrike) (c : Bool) (l l' xs : List ℕ) (len r : ℕ) → c ≡ (beq b.bold s.bold && beq b.underline s.underline) → c ≡ true → Pushed l l' len xs r → Pushed l l' len (order_of b s ++ xs) r
styled_same b s c l l' xs len r e f p = rw (same_style b s (sym e ∙ f), same_order (style_of s)) p

module _ (l l₁ xs ys : List ℕ) (len n : ℕ) (p : Pushed l l₁ len xs n) (room : len + (length xs + length ys) ≤ length l) (long : length l₁ ≡ length l) where
  pub styled_room : n + length ys ≤ length l₁
  styled_room = omega (arith, p.end)

  pub styled_both : (l₂ : List ℕ) (r : ℕ) → Pushed l₁ l₂ n ys r → Pushed l l₂ len (xs ++ ys) r
  styled_both l₂ r q = record {
    bytes = q.bytes ∙ ap (λ (x : List ℕ). x ++ ys) p.bytes ∙ append_assoc (take len l) xs ys;
    end = simp length-append (omega (arith, p.end, q.end));
    inside = q.inside;
  }
