-- Printable bytes in front, the last of them left where a byte of 80 or above follows.
use mathlib.Core.Path.{◌≡◌, refl, sym, ap, ap₂, ◌∙◌}
use Prim.Native.Nat.{ℕ, suc, ◌+◌, ◌-◌, ◌≤◌, ◌<◌}
use native.Mathlib.Omega.{arith}
use mathlib.Core.Bool.{true, false, cond, ◌&&◌, and-false}
use mathlib.Core.List.{List, [], ◌∷◌}
use lib.ListN.{length, drop, get_or}
use lib.Seq.{get_or-drop}
use lib.Dec.{leb, ltb, ltb→lt}
use borrow.Author.Tests.{le-leb, lt-ltb, ltb-false, ltb-true, leb-true}
use Rattle.std.specs.List.{prefix_len}
use Rattle.text.specs.Tests.{cases, and_T, is_true, true_T}
use Rattle.text.specs.Class.Ascii.{printable_range}
use Rattle.text.specs.Class.Code.{profile_of, printable}
use Rattle.text.specs.declared.class.Profile as code
use Rattle.spans.specs.Reader.{PrintableTo, printable_size}
use Rattle.spans.proofs.PlainClusters.{printable_to}
use Rattle.spans.proofs.Parameters.{one_more}

-- of n printable bytes, which the byte b follows, so many are passed over
unfoldable pub passed : ℕ → ℕ → ℕ
passed n b = cond (ltb 0 n && leb 0x80 b) (n - 1) n

passed_one : (m b : ℕ) → (m ≡ 0 → b < 0x80) → suc (passed m b) ≡ passed (suc m) b
unfolding passed
passed_one m b h =
    cases (leb 0x80 b)
    (λ e. cases (ltb 0 m)
    (λ k. let q : suc (m - 1) ≡ suc m - 1 = omega (arith, ltb-true 0 m k) in rw (e, k, lt-ltb 0 (suc m) (omega arith)) q)
    (λ k. absurd (let z : m ≡ 0 = omega (arith, ltb-false 0 m k) in let l : b < 0x80 = h z in omega (arith, l, leb-true 0x80 b e))))
    (λ e. rw (e, and-false (ltb 0 m), and-false (ltb 0 (suc m))) refl)

printable_by : (s : List ℕ) → printable_size s ≡ passed (prefix_len printable s) (get_or s (prefix_len printable s) 0)
unfolding printable_size passed
printable_by [] = refl
printable_by (a ∷ []) = cases (printable a) (λ e. rw e refl) (λ e. rw e refl)
printable_by (a ∷ b ∷ s) =
    let m : ℕ = prefix_len printable (b ∷ s) in
    cases (printable a)
    (λ x. cases (ltb b 0x80)
    (λ y. rw (x, y, one_more m) (ap suc (printable_by (b ∷ s)) ∙ passed_one m (get_or (b ∷ s) m 0) (λ z. rw z (ltb-true b 0x80 y))))
    (λ y.
    let h : 0x80 ≤ b = ltb-false b 0x80 y in
    let q : printable b ≡ false = cases (printable b) (λ w. absurd (omega (arith, h, (printable_range b w).1))) (λ w. w) in
    rw (x, y, q, le-leb 0x80 b h) refl))
    (λ x. rw x refl)

module _ (p : code.Profile) (t : List ℕ) (at : ℕ) (h : at < length t) (u : List ℕ) (e : u ≡ drop at t) (n : ℕ) (f : n ≡ prefix_len printable u) (b : ℕ) (g : b ≡ get_or t (at + n) 0) where
  size_is : printable_size (drop at t) ≡ passed n b
  size_is =
      let k : get_or u (prefix_len printable u) 0 ≡ b = ap (λ (i : ℕ). get_or u i 0) (sym f) ∙ ap (λ (l : List ℕ). get_or l n 0) e ∙ get_or-drop at t n 0 ∙ sym g in
      ap printable_size (sym e) ∙ printable_by u ∙ ap₂ passed (sym f) k

  pub printable_left : (ltb at (at + n) && leb 0x80 b) ≡ true → PrintableTo (profile_of p) t at (at + n - 1)
  unfolding passed
  printable_left q =
      let w = and_T (ltb at (at + n)) (leb 0x80 b) (true_T q) in
      let k : at < at + n = ltb→lt at (at + n) w.0 in
      let r : passed n b ≡ n - 1 = rw (lt-ltb 0 n (omega arith), is_true (leb 0x80 b) w.1) refl in
      printable_to p t at (at + n - 1) (omega (arith, h)) (omega (arith, size_is, r, k))

  pub printable_all : (ltb at (at + n) && leb 0x80 b) ≡ false → PrintableTo (profile_of p) t at (at + n)
  unfolding passed
  printable_all q =
      let r : passed n b ≡ n =
      cases (ltb 0 n)
      (λ k. let o : leb 0x80 b ≡ false = rw (lt-ltb at (at + n) (omega (arith, ltb-true 0 n k))) at q in rw (k, o) refl)
      (λ k. rw k refl) in
      printable_to p t at (at + n) (omega (arith, h)) (omega (arith, size_is, r))
