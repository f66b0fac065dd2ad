-- A byte that is no continuation byte ends the sequence before it: a line is decoded up to it, and from it on.
use Rattle.std.specs.Prelude.{◌≡◌, take, drop, get_or, leb}
use Rattle.std.proofs.Math.Path.{refl, ap, ap₂}
use Rattle.std.proofs.Common.{sym, ◌∙◌, le_of_suc-le-suc, not-suc-le-zero, arith, take-append-drop, leb-true, leb-false}
use Prim.Native.Nat.{ℕ, zero, suc, ◌≤◌, ◌<◌, zero-le}
use mathlib.Core.List.{List, [], ◌∷◌, ◌++◌, append_assoc}
use Rattle.std.proofs.Math.ListN.{length}
use Rattle.std.proofs.lemmas.List.{take-append-le}
use Rattle.std.proofs.Math.Seq.{get_or-append_seam}
use Rattle.text.specs.Tests.{cases}
use Rattle.text.specs.Utf8.{sequence, decoded_as, decode_from, decode, Decoded, well_formed, ill_formed, scalar}
use Rattle.text.specs.Utf8.Laws.{sequence_le}
use Rattle.text.specs.Utf8.Valid.{sequence_take}
use Rattle.text.specs.Utf8.Ascii.{Continuation, sequence_tails}

module _ (c : ℕ) (t : List ℕ) (h : Continuation c → ⊥) where
  sequence_apart : (b : ℕ) (s : List ℕ) → sequence (b ∷ (s ++ c ∷ t)) ≡ sequence (b ∷ s)
  sequence_apart b s = go (sequence (b ∷ (s ++ c ∷ t))) (sequence (b ∷ s)) refl refl
    where
      more : (n : ℕ) → sequence (b ∷ s) ≡ suc n → sequence (b ∷ (s ++ c ∷ t)) ≡ suc n
      more n e = ap (λ (l : List ℕ). sequence (b ∷ l)) (ap (λ (l : List ℕ). l ++ c ∷ t) (sym (take-append-drop n s)) ∙ append_assoc (take n s) (drop n s) (c ∷ t)) ∙ sequence_take b n s (drop n s ++ c ∷ t) e

      less : (n : ℕ) → sequence (b ∷ (s ++ c ∷ t)) ≡ suc n → sequence (b ∷ s) ≡ suc n
      less n e =
          cases (leb n (length s))
          (λ l. ap (λ (x : List ℕ). sequence (b ∷ x)) (sym (ap (λ (x : List ℕ). x ++ drop n s) (take-append-le n s (c ∷ t) (leb-true n (length s) l)) ∙ take-append-drop n s)) ∙ sequence_take b n (s ++ c ∷ t) (drop n s) e)
          (λ l.
          let k : length s < n = leb-false n (length s) l in
          let q : Continuation (get_or (s ++ c ∷ t) (length s) 0) = sequence_tails (b ∷ (s ++ c ∷ t)) (length s) (suc n) e (omega arith) in
          absurd (h (rw (get_or-append_seam s c t 0) at q)))

      go : (m n : ℕ) → sequence (b ∷ (s ++ c ∷ t)) ≡ m → sequence (b ∷ s) ≡ n → sequence (b ∷ (s ++ c ∷ t)) ≡ sequence (b ∷ s)
      go zero zero e f = e ∙ sym f
      go zero (suc n) e f = more n f ∙ sym f
      go (suc m) n e f = e ∙ sym (less m e)

  decode_from_apart : (k : ℕ) (s : List ℕ) → k ≤ length s → decode_from k (s ++ c ∷ t) ≡ decode_from k s ++ decode (c ∷ t)
  unfolding decode decode_from
  decode_from_apart zero [] l = refl
  decode_from_apart (suc k) [] l = absurd (not-suc-le-zero l)
  decode_from_apart zero (b ∷ s) l =
      ap (λ (m : ℕ). decoded_as m b (s ++ c ∷ t) (λ k. decode_from k (s ++ c ∷ t))) (sequence_apart b s)
      ∙ go (sequence (b ∷ s)) (sequence_le (b ∷ s)) (λ k q. decode_from_apart k s q)
    where
      go : (m : ℕ) → m ≤ length (b ∷ s) → ((k : ℕ) → k ≤ length s → decode_from k (s ++ c ∷ t) ≡ decode_from k s ++ decode (c ∷ t))
          → decoded_as m b (s ++ c ∷ t) (λ k. decode_from k (s ++ c ∷ t)) ≡ decoded_as m b s (λ k. decode_from k s) ++ decode (c ∷ t)
      go zero q ih = ap (λ (us : List Decoded). ill_formed b ∷ us) (ih zero zero-le)
      go (suc m) q ih = ap₂ (λ (x : List ℕ) (us : List Decoded). well_formed (scalar (b ∷ x)) ∷ us) (take-append-le m s (c ∷ t) (le_of_suc-le-suc q)) (ih m (le_of_suc-le-suc q))
  decode_from_apart (suc k) (b ∷ s) l = decode_from_apart k s (le_of_suc-le-suc l)

  pub decode_apart : (s : List ℕ) → decode (s ++ c ∷ t) ≡ decode s ++ decode (c ∷ t)
  unfolding decode
  decode_apart s = decode_from_apart zero s zero-le
