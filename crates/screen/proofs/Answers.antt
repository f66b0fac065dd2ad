-- The answer of a call that wrote bytes.
use mathlib.Core.Path.{◌≡◌, refl, sym, ap, ◌∙◌}
use Prim.Native.Nat.{ℕ, ◌+◌, ◌-◌, ◌<◌, ◌≤◌}
use native.Mathlib.Omega.{arith}
use mathlib.Core.List.{List, ◌++◌}
use lib.ListN.{length, take, drop, replicate}
use lib.Seq.{take_at}
use lib.Dec.{leb}
use borrow.Author.Tests.{le-leb, lt-leb, leb-true, leb-false}
use Rattle.text.specs.Tests.{cases}
use Rattle.text.specs.Calls.Code.{written}
use Rattle.buffer.specs.Sink.{sink, emit}
use Rattle.buffer.specs.Sink.Laws.{fitted, overfull}
use Rattle.screen.specs.Calls.Code.{kept, in_room}

module _ (l : List ℕ) (n : ℕ) where
  pub bytes_lost : length l < n → written (record { number = 9; count = 0 }) (replicate (length l) 0) ≡ kept l n
  bytes_lost h = sym (rw (lt-leb n (length l) h) refl)

  pub bytes_kept : (l' : List ℕ) → n ≤ length l → l' ≡ take n l ++ replicate (length l - n) 0 → written (record { number = 0; count = n }) l' ≡ kept l n
  bytes_kept l' h e = rw (e, le-leb n (length l) h) refl

-- what is kept of bytes written from the front
pub kept_bytes : (l l' bytes : List ℕ) (n : ℕ) → sink l' n ≡ emit (sink l 0) bytes → length l' ≡ length l → kept l' n ≡ in_room bytes (length l)
kept_bytes l l' bytes n wrote long =
    cases (leb (length bytes) (length l))
    (λ f.
    let k = fitted l bytes l' n wrote (leb-true (length bytes) (length l) f) in
    let m : take n l' ≡ bytes = ap (take n) k.1 ∙ take_at bytes (drop (length bytes) l) n (sym k.0) in
    rw (m, long, k.0, f) refl)
    (λ f.
    let o : n ≡ length l + 1 = overfull l bytes l' n wrote (leb-false (length bytes) (length l) f) in
    rw (f, long, lt-leb n (length l) (omega (arith, o))) refl)
