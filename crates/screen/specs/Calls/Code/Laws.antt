-- A call's answer, by its questions; that of `screen_row`, by the screen that its list leaves.
use Rattle.std.specs.Prelude.{◌≡◌, Bool, false, ◌&&◌, List, [], ◌∷◌, ◌++◌, replicate, T, leb}
use Rattle.std.proofs.Math.Path.{refl, sym}
use Rattle.std.proofs.Common.{ap, ◌∙◌, arith, le-leb}
use Prim.Native.Nat.{ℕ, zero, suc, ◌-◌, ◌≤◌}
use Rattle.std.proofs.Math.Bool.{true, not}
use Rattle.std.proofs.Math.Option.{some}
use Rattle.std.proofs.Math.ListN.{length}
use Rattle.std.proofs.Math.Seq.{take-append_seam}
use Rattle.text.specs.Tests.{cases}
use Rattle.text.specs.Class.{Profile}
use Rattle.text.specs.Calls.{Question, ask, decide, lent, counted, Written}
use Rattle.text.specs.Calls.Laws.{numbered, decide_nil, decide_yes, decide_no, decided_before, decided_behind, lent_accepted, lent_refused, counted_accepted, counted_refused}
use Rattle.screen.specs.Records.{Record, records}
use Rattle.screen.specs.WellFormed.{body_sizes, well_formed, wide_texts}
use Rattle.screen.specs.Row.{Screen, blank_screen, row_bytes}
use Rattle.screen.specs.Calls.{writing, screen_of, screen_call}
use Rattle.screen.specs.Calls.Code.{refusal, accepted, in_room, left_by, shown_of}
use Rattle.screen.specs.Screen.{formed, records_on}

module _ (room : ℕ) (bytes : List ℕ) (qs : List Question) where
  -- what it leaves if it decides r
  abbrev by : ℕ → Written
  by r = record { number = r; count = counted (length bytes) r; out = lent 0 room bytes r }

  abbrev last : List Question
  last = ask 9 (leb (length bytes) room) ∷ []

  by_questions : writing room bytes qs ≡ by (decide (qs ++ last))
  unfolding writing
  by_questions = refl

  by_refused : (r : ℕ) → by (suc r) ≡ refusal (suc r) room
  by_refused r = rw (counted_refused (length bytes) r, lent_refused 0 room bytes r) refl

  pub writing_refused : (r : ℕ) → decide qs ≡ suc r → writing room bytes qs ≡ refusal (suc r) room
  writing_refused r e = by_questions ∙ ap by (decided_before qs last r e) ∙ by_refused r

  by_last : by (decide last) ≡ in_room bytes room
  by_last = cases (leb (length bytes) room)
      (λ l. ap by (decide_yes (ask 9 (leb (length bytes) room)) [] l ∙ decide_nil) ∙ rw (counted_accepted (length bytes), lent_accepted 0 room bytes) (sym (rw l refl)))
      (λ l. ap by (decide_no (ask 9 (leb (length bytes) room)) [] l) ∙ by_refused 8 ∙ sym (rw l refl))

  pub writing_accepted : T (numbered qs) → decide qs ≡ 0 → writing room bytes qs ≡ in_room bytes room
  writing_accepted t e = by_questions ∙ ap by (decided_behind qs last t e) ∙ by_last

  -- an accepted call: its questions, and what it leaves
  pub writing_yes : (writing room bytes qs).number ≡ 0 → decide qs ≡ 0
  unfolding writing
  writing_yes e = yes (decide qs) refl
    where
      yes : (n : ℕ) → decide qs ≡ n → decide qs ≡ 0
      yes zero d = d
      yes (suc r) d = absurd (omega (arith, decided_before qs last r d, e))

  pub writing_left : (writing room bytes qs).number ≡ 0 → left_by (writing room bytes qs) ≡ bytes
  unfolding writing
  writing_left e = rw (e, counted_accepted (length bytes), lent_accepted 0 room bytes) (take-append_seam bytes (replicate (room - length bytes) 0))

  pub writing_whole : T (numbered qs) → decide qs ≡ 0 → length bytes ≤ room → writing room bytes qs ≡ accepted bytes room
  writing_whole t e h = writing_accepted t e ∙ rw (le-leb (length bytes) room h) refl

module _ (P : Profile) (width room : ℕ) (list : List ℕ) where
  abbrev rs : List Record
  rs = records 4 list

  abbrev t : Screen
  t = screen_of P width rs

  abbrev formed_list : Bool
  formed_list = well_formed (body_sizes false) rs && wide_texts P rs

  -- the questions behind that of the width
  abbrev later : List Question
  later = ask 10 formed_list ∷ ask 11 (not t.passed) ∷ []

  abbrev all : List Question
  all = ask 5 (leb 1 width && leb width 4096) ∷ later

  decided : (r : ℕ) → decide all ≡ suc r → refusal (suc r) room ≡ screen_call P width room list
  unfolding screen_call
  decided r e = sym (writing_refused room (row_bytes t.cells) all r e)

  answered : decide all ≡ 0 → in_room (row_bytes t.cells) room ≡ screen_call P width room list
  unfolding screen_call
  answered e = sym (writing_accepted room (row_bytes t.cells) all tt e)

  pub width_refused : (leb 1 width && leb width 4096) ≡ false → refusal 5 room ≡ screen_call P width room list
  width_refused e = decided 4 (decide_no (ask 5 (leb 1 width && leb width 4096)) later e)

  module _ (wide : (leb 1 width && leb width 4096) ≡ true) where
    first : decide all ≡ decide later
    first = decide_yes (ask 5 (leb 1 width && leb width 4096)) later wide

    pub screen_shown : shown_of (records_on P width rs (some (blank_screen width))) room ≡ screen_call P width room list
    unfolding shown_of records_on formed screen_of
    screen_shown = cases formed_list fine (λ e. rw e (decided 9 (first ∙ decide_no (ask 10 formed_list) _ e)))
      where
        fine : formed_list ≡ true → shown_of (records_on P width rs (some (blank_screen width))) room ≡ screen_call P width room list
        fine e =
            let second : decide all ≡ decide (ask 11 (not t.passed) ∷ []) = first ∙ decide_yes (ask 10 formed_list) _ e in
            rw e (cases t.passed
            (λ p. rw p (decided 10 (second ∙ decide_no (ask 11 (not t.passed)) _ (ap not p))))
            (λ p. rw p (answered (second ∙ decide_yes (ask 11 (not t.passed)) _ (ap not p) ∙ decide_nil))))
