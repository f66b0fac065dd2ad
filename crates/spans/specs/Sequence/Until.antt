-- A sequence ends before the next ESC, whatever stands after it, unless that is `\`.
use Rattle.std.specs.Prelude.{◌≡◌, Bool, true, cond, ◌&&◌, length, drop, get_or, eqb, ltb}
use Rattle.std.proofs.Math.Path.{refl, sym}
use Rattle.std.proofs.Common.{ap, ap₂, ◌∙◌, arith, get_or-append-add, ltb-true, ltb-false}
use Prim.Native.Nat.{ℕ, suc, ◌+◌, ◌-◌, ◌*◌, ◌≤◌, ◌<◌}
use Rattle.std.proofs.Math.Bool.{false}
use mathlib.Core.List.{List, [], ◌∷◌, ◌++◌}
use Rattle.std.proofs.Math.ListN.{length-drop, get_or-append, get_or-eq_default}
use Rattle.std.proofs.lemmas.List.{drop-append-le}
use Rattle.std.proofs.Math.Seq.{get_or-append_seam}
use Rattle.text.specs.Tests.{or_false, cases}
use Rattle.spans.specs.Sgr.{digit, parameters}
use Rattle.spans.specs.Sequence.{Found, missing, leading, past, parameter_byte, csi, charset, uri_byte, id_byte, closed, osc, parse}
use Rattle.spans.specs.Sequence.Laws.{leading_le}

leading_until : (p : ℕ → Bool) (a : List ℕ) (x : ℕ) (t : List ℕ) → p x ≡ false → leading p (a ++ x ∷ t) ≡ leading p a
unfolding leading
leading_until p [] x t e = rw e
leading_until p (b ∷ a) x t e = ap (λ (n : ℕ). cond (p b) (suc n) 0) (leading_until p a x t e)

pub parameters_until : (v : ℕ) (a : List ℕ) (x : ℕ) (t : List ℕ) → parameter_byte x ≡ false → parameters v (a ++ x ∷ t) ≡ parameters v a
unfolding parameters
parameters_until v [] x t e = let w = or_false (digit x) (eqb x 0x3B) e in rw (w.0, w.1)
parameters_until v (b ∷ a) x t e =
    ap₂ (λ (x y : List ℕ). cond (digit b) x (cond (eqb b 0x3B) (v ∷ y) (v ∷ []))) (parameters_until (v * 10 + (b - 0x30)) a x t e) (parameters_until 0 a x t e)

neither : (p q : Bool) (f : Found) → cond (p && (q && false)) f missing ≡ missing
neither true true f = refl
neither true false f = refl
neither false q f = refl

module _ (c : ℕ) (t : List ℕ) (other : eqb c 0x5C ≡ false) where
  abbrev stop : List ℕ
  stop = 0x1B ∷ c ∷ t

  -- the byte at a place up to there: the same, or ESC where it is missing
  data Until (a : List ℕ) (n : ℕ) : Type 0 where
    inside : n < length a → get_or (a ++ stop) n 0 ≡ get_or a n 0 → Until a n
    outside : n ≡ length a → get_or (a ++ stop) n 0 ≡ 0x1B → get_or a n 0 ≡ 0 → Until a n

  until : (a : List ℕ) (n : ℕ) → n ≤ length a → Until a n
  until a n h =
      cases (ltb n (length a))
      (λ l. let k = ltb-true n (length a) l in inside k (get_or-append a stop 0 n k))
      (λ l.
      let k = ltb-false n (length a) l in
      let e : n ≡ length a = omega arith in
      outside e (rw e (get_or-append_seam a 0x1B (c ∷ t) 0)) (get_or-eq_default a 0 k))

  csi_until : (a : List ℕ) → csi (a ++ stop) ≡ csi a
  unfolding csi leading
  csi_until [] = refl
  csi_until (b ∷ a) = go (until (b ∷ a) (leading parameter_byte (b ∷ a)) (leading_le parameter_byte (b ∷ a)))
    where
      go : Until (b ∷ a) (leading parameter_byte (b ∷ a)) → csi ((b ∷ a) ++ stop) ≡ csi (b ∷ a)
      go (inside k e) = rw (leading_until parameter_byte (b ∷ a) 0x1B (c ∷ t) refl, parameters_until 0 (b ∷ a) 0x1B (c ∷ t) refl, e)
      go (outside k e f) = rw (leading_until parameter_byte (b ∷ a) 0x1B (c ∷ t) refl, e, f)

  charset_until : (a : List ℕ) → charset (a ++ stop) ≡ charset a
  unfolding charset
  charset_until [] = refl
  charset_until (b ∷ a) = refl

  past_until : (p : ℕ → Bool) (a : List ℕ) (i : ℕ) → i ≤ length a → p 0x1B ≡ false → past p (a ++ stop) i ≡ past p a i
  unfolding past
  past_until p a i h e = rw (drop-append-le i a stop h, leading_until p (drop i a) 0x1B (c ∷ t) e)

  past_most : (p : ℕ → Bool) (a : List ℕ) (i : ℕ) → i ≤ length a → past p a i ≤ length a
  unfolding past
  past_most p a i h = omega (arith, leading_le p (drop i a), length-drop i a)

  closed_until : (a : List ℕ) (m e : ℕ) → e ≤ length a → closed m e (get_or (a ++ stop) e 0) (get_or (a ++ stop) (e + 1) 0) ≡ closed m e (get_or a e 0) (get_or a (e + 1) 0)
  unfolding closed
  closed_until a m e h = go (until a e h)
    where
      next : Until a (e + 1) → closed m e (get_or a e 0) (get_or (a ++ stop) (e + 1) 0) ≡ closed m e (get_or a e 0) (get_or a (e + 1) 0)
      next (inside k f) = rw f
      next (outside k f g) = rw (f, g)

      go : Until a e → closed m e (get_or (a ++ stop) e 0) (get_or (a ++ stop) (e + 1) 0) ≡ closed m e (get_or a e 0) (get_or a (e + 1) 0)
      go (inside k f) = rw f (next (until a (e + 1) (omega arith)))
      go (outside k f g) = rw (f, g, k, get_or-append-add a stop 1 0, other)

  osc_until : (a : List ℕ) → osc (a ++ stop) ≡ osc a
  unfolding osc
  osc_until [] = refl
  osc_until (x ∷ []) = neither (eqb x 0x38) false _ ∙ sym (neither (eqb x 0x38) false _)
  osc_until (x ∷ y ∷ b) = go (until a i (past_most id_byte a 2 two))
    where
      a : List ℕ
      a = x ∷ y ∷ b

      two : 2 ≤ length a
      two = omega arith

      i : ℕ
      i = past id_byte a 2

      go : Until a i → osc (a ++ stop) ≡ osc a
      go (inside k e) =
          rw (past_until id_byte a 2 two refl, e, past_until uri_byte a (i + 1) (omega arith) refl, closed_until a (i + 1) (past uri_byte a (i + 1)) (past_most uri_byte a (i + 1) (omega arith)))
      go (outside k e f) = rw (past_until id_byte a 2 two refl, e, f, neither (eqb x 0x38) (eqb y 0x3B) _) (sym (neither (eqb x 0x38) (eqb y 0x3B) _))

  pub parse_until : (a : List ℕ) → parse (a ++ stop) ≡ parse a
  unfolding parse
  parse_until [] = refl
  parse_until (b ∷ a) = rw (csi_until a, charset_until a, osc_until a)
