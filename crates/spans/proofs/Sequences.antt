-- The ends of the functions that read a sequence at ESC.
use mathlib.Core.Path.{◌≡◌, refl, ap}
use Prim.Native.Nat.{ℕ, zero, suc, ◌+◌, ◌-◌, ◌≤◌}
use native.Mathlib.Nat.{sub-zero, zero-sub, suc-sub-suc}
use native.Mathlib.Omega.{arith}
use mathlib.Core.Bool.{Bool, true, false, cond, ◌&&◌, and-false, and-true}
use mathlib.Core.List.{List, [], ◌∷◌}
use lib.ListN.{length, take, drop, get_or, length-drop}
use lib.Seq.{slice, drop-nil, take-nil}
use lib.Dec.{eqb, leb}
use Rattle.text.specs.Tests.{cases}
use Rattle.spans.specs.Sgr.{parameters, orders}
use Rattle.spans.specs.Sequence.{ignored, Found, found, missing, leading, past, if_known, erase, final, csi, uri_byte, closed, osc, parse}
use Rattle.spans.specs.Sgr.Contracts.{Scanned}
use Rattle.spans.specs.Sequence.Contracts.{uri_byte_but, sequence_of, Skipped, uri_at}
use Rattle.spans.specs.declared.sequence.Sequence as code
use Rattle.spans.specs.declared.sequence.Sequence.TheVariants as sequence
use Rattle.spans.specs.declared.sgr.Scan.{Scan}
use Rattle.spans.specs.declared.sgr.Sgr.{Sgr}
use Rattle.std.specs.Prelude.{Option, Some, None}
use Rattle.std.specs.List.{prefix_len}
use Rattle.std.proofs.lemmas.List.Sums.{prefix_len-le-length}
use Rattle.spans.proofs.Parameters.{one_more}

pub found_true : (b : Bool) (x y : Found) (z : Option code.Sequence) → b ≡ true → z ≡ sequence_of x → z ≡ sequence_of (cond b x y)
found_true b x y z p q = rw p q

pub found_false : (b : Bool) (x y : Found) (z : Option code.Sequence) → b ≡ false → z ≡ sequence_of y → z ≡ sequence_of (cond b x y)
found_false b x y z p q = rw p q

-- ---- bytes that pass a test

pub leading_is : (p : ℕ → Bool) (s : List ℕ) → leading p s ≡ prefix_len p s
unfolding leading
leading_is p [] = refl
leading_is p (b ∷ s) = rw (leading_is p s, one_more (prefix_len p s)) refl

pub skipped : (p : ℕ → Bool) (s t : List ℕ) (at n : ℕ) → t ≡ drop at s → n ≡ prefix_len p t → Skipped p s at (at + n)
unfolding past
skipped p s t at n e f =
    let g : n ≤ length s = rw (f, e) (omega (arith, prefix_len-le-length p (drop at s), length-drop at s)) in
    record { len = rw (f, e, leading_is) refl; up = omega arith; low = omega (arith, g) }

-- ---- after `ESC [`

module _ (s : List ℕ) (n : ℕ) (os : List Sgr) (e : os ≡ orders (parameters 0 s)) where
  pub known_some : (o : Sgr) (rest : List Sgr) → os ≡ o ∷ rest → Some (sequence.Sgr (3 + n)) ≡ sequence_of (if_known (orders (parameters 0 s)) n)
  unfolding sequence_of if_known
  known_some o rest f = rw (← e, f) refl

  pub known_none : os ≡ [] → None ≡ sequence_of (if_known (orders (parameters 0 s)) n)
  unfolding sequence_of if_known
  known_none f = rw (← e, f) refl

-- `csi`, where the scan gave n, the final byte is f, and whether the parameters are allowed is w
unfoldable pub csi_of : List ℕ → ℕ → ℕ → Bool → Found
csi_of s n f w =
    cond (eqb f 0x6D) (cond w (if_known (orders (parameters 0 s)) n) missing)
    (cond (eqb f 0x4B) (erase n (get_or s 0 0)) (cond (final f) (found ignored (3 + n)) missing))

pub csi_is : (s : List ℕ) (p : Scan) (f : ℕ) (z : Option code.Sequence) → Scanned s p → f ≡ get_or s p.len 0 → z ≡ sequence_of (csi_of s p.len f p.fine) → z ≡ sequence_of (csi s)
unfolding csi csi_of
csi_is s p f z k e q = rw (← k.len, ← e, ← k.fine) q

pub erase_as : (n a b : ℕ) (z : Option code.Sequence) → z ≡ sequence_of (erase n a) → a ≡ b → z ≡ sequence_of (erase n b)
erase_as n a b z e q = rw (← q) e

-- ---- after `ESC ]`

-- 7F is no byte of a URI
leading_uri : (s : List ℕ) → leading (uri_byte_but 0x7F) s ≡ leading uri_byte s
unfolding leading
leading_uri [] = refl
leading_uri (b ∷ s) =
    cases (eqb b 0x7F)
    (λ e. rw (e, and-false (leb 0x20 b)) refl)
    (λ e. rw (e, and-true (leb 0x20 b), and-true (leb 0x20 b), leading_uri s) refl)

past_uri : (s : List ℕ) (m : ℕ) → past (uri_byte_but 0x7F) s m ≡ past uri_byte s m
unfolding past
past_uri s m = ap (λ (n : ℕ). m + n) (leading_uri (drop m s))

pub uri_is : (s : List ℕ) (m e b c : ℕ) (z : Option code.Sequence) → Skipped (uri_byte_but 0x7F) s m e → b ≡ get_or s e 0 → c ≡ get_or s (e + 1) 0 → z ≡ sequence_of (closed m e b c) → z ≡ sequence_of (uri_at s m)
unfolding uri_at
uri_is s m e b c z k q r p = rw (← past_uri s m, ← k.len, ← q, ← r) p

unfoldable pub osc_of : List ℕ → ℕ → ℕ → ℕ → ℕ → Found
osc_of s i a b c = cond (eqb a 0x38 && (eqb b 0x3B && eqb c 0x3B)) (uri_at s (i + 1)) missing

pub osc_is : (s : List ℕ) (i a b c : ℕ) (z : Option code.Sequence) → Skipped (uri_byte_but 0x3B) s 2 i → a ≡ get_or s 0 0 → b ≡ get_or s 1 0 → c ≡ get_or s i 0 → z ≡ sequence_of (osc_of s i a b c) → z ≡ sequence_of (osc s)
unfolding osc osc_of uri_at
osc_is s i a b c z k e f g p = rw (← k.len, ← e, ← f, ← g) p

-- `&s[a..e]` is the slice
pub part_slice : (l : List ℕ) (a e : ℕ) → take (e - a) (drop a l) ≡ slice a e l
part_slice [] a e = rw (drop-nil a, take-nil (e - a), take-nil e, drop-nil a)
part_slice (x ∷ l) zero e = rw sub-zero
part_slice (x ∷ l) (suc a) zero = rw zero-sub
part_slice (x ∷ l) (suc a) (suc e) = rw suc-sub-suc (part_slice l a e)

pub parse_part : (l : List ℕ) (a e : ℕ) (z : Option code.Sequence) → z ≡ sequence_of (parse (take (e - a) (drop a l))) → z ≡ sequence_of (parse (slice a e l))
parse_part l a e z q = rw (part_slice l a e) at q

pub ruleset telling = (found_false, found_true)
