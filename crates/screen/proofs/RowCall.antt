-- The call `screen_row`: refusals, and what an accepted call leaves.
use mathlib.Core.Path.{◌≡◌, refl, sym, ap, ◌∙◌}
use Prim.Native.Nat.{ℕ, ◌≤◌}
use native.Mathlib.Omega.{arith}
use mathlib.Core.Bool.{false, ◌&&◌}
use mathlib.Core.Logic.{◌≢◌}
use mathlib.Core.Option.{none, some, Option}
use mathlib.Core.List.{List}
use lib.ListN.{replicate, length}
use lib.Dec.{leb}
use borrow.Author.Tests.{ne_eqb, le-leb}
use Rattle.text.specs.Class.{Profile}
use Rattle.text.specs.Class.Code.{profile_of}
use Rattle.text.specs.Class.Profile01.{profile_is}
use Rattle.text.specs.Width.{profile01}
use Rattle.text.specs.declared.class.Profile as profile
use Rattle.text.specs.Calls.Code.{written}
use Rattle.buffer.specs.Sink.{sink, emit}
use Rattle.screen.specs.Row.{Screen, row_bytes}
use Rattle.text.specs.Calls.{Written}
use Rattle.screen.specs.Calls.{screen_call}
use Rattle.screen.specs.Calls.Code.{kept, shown_of}
use Rattle.screen.specs.Calls.Code.Laws.{width_refused, screen_shown}
use Rattle.std.specs.Prelude as std
use Rattle.std.specs.Prelude.{true, false}
use Rattle.screen.specs.Screen.{row_of, screen_at, screen_of, DrawReady, Drawn}
use Rattle.screen.specs.declared.screen.Screen as code
use Rattle.screen.proofs.Answers.{kept_bytes}

-- ---- finish

pub finish_malformed : (room : ℕ) → written (record { number = 10; count = 0 }) (replicate room 0) ≡ shown_of none room
unfolding shown_of
finish_malformed room = refl

module _ (list : List ℕ) (width : ℕ) (row : List ℕ) (t : code.Screen) (room : ℕ) where
  pub finish_passed : t.passed ≢ 0 → written (record { number = 11; count = 0 }) (replicate room 0) ≡ shown_of (some (screen_at list width row t)) room
  unfolding shown_of screen_at
  finish_passed z = sym (rw (ne_eqb t.passed 0 z) refl)

  pub finish_row : (l l' : List ℕ) (n : ℕ) (w : Written) → t.passed ≡ 0 → sink l' n ≡ emit (sink l 0) (row_bytes (row_of list width row t)) → length l' ≡ length l → room ≡ length l → w ≡ kept l' n
      → w ≡ shown_of (some (screen_at list width row t)) room
  unfolding shown_of screen_at
  finish_row l l' n w a wrote long is e = e ∙ kept_bytes l l' (row_bytes (row_of list width row t)) n wrote long ∙ sym (rw (a, is) refl)

-- ---- the call

module _ (row : List ℕ) (width : ℕ) where
  pub narrow_ready : 1 ≤ width → width ≤ 128 → length row ≡ 384 → DrawReady width row
  narrow_ready a b l = record { some = a; room = omega (arith, l) }

  pub wide_ready : 129 ≤ width → width ≤ 4096 → length row ≡ 12288 → DrawReady width row
  wide_ready a b l = record { some = omega arith; room = omega (arith, l) }

module _ (list : List ℕ) (width room : ℕ) where
  pub row_shown : (p : profile.Profile) (before row : List ℕ) (t : std.Option code.Screen) (s : Written) → DrawReady width before → width ≤ 4096 → Drawn (profile_of p) list width row t → s ≡ shown_of (screen_of list width row t) room → s ≡ screen_call profile01 width room list
  row_shown p before row t s w h d e =
      e ∙ ap (λ (o : Option Screen). shown_of o room) d.same ∙ screen_shown (profile_of p) width room list (rw (le-leb 1 width w.some, le-leb width 4096 h) refl) ∙ ap (λ (P : Profile). screen_call P width room list) (profile_is p)

module _ (P : Profile) (list : List ℕ) (width room : ℕ) where
  pub row_refused : (leb 1 width && leb width 4096) ≡ false → written (record { number = 5; count = 0 }) (replicate room 0) ≡ screen_call P width room list
  row_refused w = width_refused P width room list w
