-- The run that a text begins with, scalar by scalar, with its places in bytes.
-- ---- a scalar of the run
use Prim.Native.Nat.{◌+◌, ◌-◌, ◌<◌, ◌≤◌, suc, zero, ℕ}
use native.Mathlib.Nat.{add_comm, add-zero, sub-zero}
use native.Mathlib.Omega.{arith}
use mathlib.Core.List.{List, [], ◌∷◌, reverse, reverse_aux}
use mathlib.Core.Path.{◌∙◌, ◌≡◌, ap, refl, sym}
use lib.Dec.{leb}
use lib.ListN.{drop, length, take}
use lib.Seq.{drop-drop, get_or-drop, length-take-le, slice, take-nil}
use borrow.Author.Tests.{leb-false, leb-true}
use Rattle.text.specs.Backward.{back}
use Rattle.text.specs.Utf8.Code.{sequence_or_zero, run_of, size}
use Rattle.text.specs.Tests.{cases}
use Rattle.text.specs.Utf8.{Scalar, decode, decode_from, sequence, value}
use Rattle.text.specs.Utf8.Laws.{sequence_le}
use Rattle.text.specs.declared.utf8.Sequence.{Sequence}
use Rattle.text.proofs.ContinuationBytes.{back_to, seq_lead, seq_tails}
use Rattle.text.proofs.SequenceBytes.{run_more, run_none}
use Rattle.text.specs.Utf8.Code.FirstSequence.{first_by}
use Rattle.text.specs.Utf8.Code.Laws.{none_past}

pub record Head (s : List ℕ) (d : Scalar) (es : List Scalar) : Type 0 where
  pub some : 1 ≤ length d.bytes
  pub seq : sequence s ≡ length d.bytes
  pub next : run_of (decode (drop (length d.bytes) s)) ≡ es
  pub coded : (sequence_or_zero (decode s)).code ≡ d.code
  pub is : d ≡ record { code = value (take (length d.bytes) s); bytes = take (length d.bytes) s }

pub no_head : (d : Scalar) (es : List Scalar) → [] ≡ d ∷ es → ⊥
no_head d es e = let z : ◌≡◌ {A = ℕ} 0 1 = cc in let y : 0 < 0 = omega arith in absurd (omega arith)

pub run_nil : run_of (decode []) ≡ []
unfolding run_of decode decode_from
run_nil = refl

head_of : Scalar → List Scalar → Scalar
head_of d [] = d
head_of d (c ∷ s) = c

tail_of : List Scalar → List Scalar
tail_of [] = []
tail_of (c ∷ s) = s

head_by : (b : ℕ) (s : List ℕ) (n : ℕ) (d : Scalar) (es : List Scalar) → sequence (b ∷ s) ≡ suc n
    → record { code = value (take (suc n) (b ∷ s)); bytes = take (suc n) (b ∷ s) } ∷ run_of (decode (drop (suc n) (b ∷ s))) ≡ d ∷ es → Head (b ∷ s) d es
unfolding head_of tail_of
head_by b s n d es q e =
    let h : record { code = value (take (suc n) (b ∷ s)); bytes = take (suc n) (b ∷ s) } ≡ d = ap (head_of d) e in
    let t : run_of (decode (drop (suc n) (b ∷ s))) ≡ es = ap tail_of e in
    let w : length (take (suc n) (b ∷ s)) ≡ suc n = length-take-le (suc n) (b ∷ s) (rw q at (sequence_le (b ∷ s))) in
    let l : length d.bytes ≡ suc n = ap (λ (x : Scalar). length x.bytes) (sym h) ∙ w in
    record {
      some = omega arith;
      seq = q ∙ sym l;
      next = rw l t;
      coded = ap (λ (x : Sequence). x.code) (first_by b s (suc n) q) ∙ ap (λ (x : Scalar). x.code) h;
      is = rw l (sym h);
    }

pub run_head : (s : List ℕ) (d : Scalar) (es : List Scalar) → run_of (decode s) ≡ d ∷ es → Head s d es
run_head [] d es e = absurd (no_head d es (sym run_nil ∙ e))
run_head (b ∷ s) d es e = go (sequence (b ∷ s)) refl
  where
    go : (n : ℕ) → sequence (b ∷ s) ≡ n → Head (b ∷ s) d es
    go zero q = absurd (no_head d es (sym (run_none b s q) ∙ e))
    go (suc n) q = head_by b s n d es q (sym (run_more b s n q) ∙ e)

-- the run from the end of some of its scalars, which stand nearest first
pub run_drop : (rest es : List Scalar) (t : List ℕ) → run_of (decode t) ≡ reverse_aux rest es → run_of (decode (drop (size rest) t)) ≡ es
unfolding size
run_drop [] es t e = e
run_drop (d ∷ rest) es t e =
    let h = run_head (drop (size rest) t) d es (run_drop rest (d ∷ es) t e) in
    rw (add_comm (length d.bytes) (size rest), ← drop-drop (length d.bytes) (size rest) t) h.next

pub run_inside : (c : Scalar) (rest es : List Scalar) (t : List ℕ) → run_of (decode t) ≡ reverse_aux rest (c ∷ es) → size rest < length t
run_inside c rest es t e =
    cases (leb (length t) (size rest))
    (λ l. absurd (no_head c es (sym (none_past t (size rest) (leb-true (length t) (size rest) l)) ∙ run_drop rest (c ∷ es) t e)))
    (λ l. leb-false (length t) (size rest) l)

pub back_scalar : (d : Scalar) (rest es : List Scalar) (t : List ℕ) → run_of (decode t) ≡ reverse_aux rest (d ∷ es) → back t (size (d ∷ rest)) ≡ size rest
unfolding size
back_scalar d rest es t e = go (length d.bytes) refl
  where
    go : (n : ℕ) → length d.bytes ≡ n → back t (length d.bytes + size rest) ≡ size rest
    go zero q = let h = (run_head (drop (size rest) t) d es (run_drop rest (d ∷ es) t e)).some in absurd (omega arith)
    go (suc n) q =
        let h = run_head (drop (size rest) t) d es (run_drop rest (d ∷ es) t e) in
        let s : sequence (drop (size rest) t) ≡ suc n = h.seq ∙ q in
        back_to n t (size rest) (suc n) (length d.bytes + size rest) (omega arith) (omega arith)
        (rw (get_or-drop, add-zero) at (seq_lead (drop (size rest) t) n s))
        (λ i l. rw get_or-drop at (seq_tails (drop (size rest) t) i (suc n) s l))

pub size_pos : (d : Scalar) (rest es : List Scalar) (t : List ℕ) → run_of (decode t) ≡ reverse_aux rest (d ∷ es) → 1 ≤ size (d ∷ rest)
unfolding size
size_pos d rest es t e = let h = (run_head (drop (size rest) t) d es (run_drop rest (d ∷ es) t e)).some in omega arith

pub size_append : (a b : List Scalar) → size (reverse_aux a b) ≡ size a + size b
unfolding size
size_append [] b = omega arith
size_append (c ∷ a) b = size_append a (c ∷ b) ∙ omega arith

pub size_reverse : (s : List Scalar) → size (reverse s) ≡ size s
unfolding size
size_reverse s = size_append s [] ∙ add-zero (size s)

-- a part of a slice by its start and its length
pub part_slice : (f n : ℕ) (l : List ℕ) → take (n - f) (drop f l) ≡ slice f n l
part_slice zero n l = ap (λ (m : ℕ). take m l) (sub-zero n)
part_slice (suc f) n [] = take-nil (n - suc f) ∙ sym (ap (drop (suc f)) (take-nil n))
part_slice (suc f) zero (x ∷ l) = ap (λ (m : ℕ). take m (drop f l)) (let z : 0 - suc f ≡ 0 = omega arith in z)
part_slice (suc f) (suc n) (x ∷ l) = ap (λ (m : ℕ). take m (drop f l)) (let z : suc n - suc f ≡ n - f = omega arith in z) ∙ part_slice f n l
