-- A part in turns, and part after part.
use Prim.Native.Nat.{ℕ, ◌+◌, ◌-◌, ◌≤◌, ◌<◌}
use native.Mathlib.Omega.{arith}
use mathlib.Core.Bool.{Bool, true, false, cond, ◌&&◌}
use mathlib.Core.List.{List, [], ◌∷◌, ◌++◌, append-nil, append_assoc}
use mathlib.Core.Path.{◌≡◌, refl, sym, ap, ap₂, ◌∙◌}
use mathlib.Core.Logic.{◌≢◌}
use lib.ListN.{length, take, drop, replicate, length-append, length-replicate, length-drop, drop_of_length-le}
use lib.Seq.{take_all}
use lib.Dec.{ltb}
use borrow.Author.Tests.{ltb-true, ltb-false}
use Rattle.text.specs.Tests.{cases, and_T, true_T, is_true}
use Rattle.show_io.specs.declared.lines.View.{View}
use Rattle.show_io.specs.Input.{State, line_length, pieces, with_pieces}
use Rattle.show_io.specs.Input.Contracts.{state_of, read_of}
use Rattle.show_io.specs.Input.Laws.{pieces_first, pieces_none}
use Rattle.show_io.specs.declared.input.Reading.{Reading}
use Rattle.show_io.specs.declared.input.Progress.{Progress}
use Rattle.show.specs.Parts.{Shown, shown, behind, Given, in_turns, with_part, with_parts}
use Rattle.show.specs.Parts.Laws.{turns_left, turns_none, turns_end, turns_more, part_ends, part_goes_on, parts_none, parts_more}
use Rattle.show.specs.Parts.Contracts.{Taken, written, Written, shown_of, start, InTurns, PartShown, MoreShown, AllShown}
use Rattle.show.specs.declared.file.Reach.{Reach}

pub all_printed : (out : List ℕ) (at : ℕ) → length out ≤ at → out ≡ take at out
all_printed out at h = sym (take_all at out h)

pub taken_is : (took : Bool) → Taken took
taken_is took = record { answer = took; says = refl }

pub written_is : (reading : Reading) (took : Bool) → Taken took → Written reading (written reading took)
written_is reading took t = record { answer = t.answer; says = ap (written reading) t.says }

-- ---- a part in turns

behind_behind : (a b : List ℕ) (s : Shown) → behind a (behind b s) ≡ behind (a ++ b) s
behind_behind a b s = ap (λ (h : List ℕ). shown s.state h s.on) (sym (append_assoc a b s.handed))

module _ (name : List ℕ) (view : View) (part line₀ out₀ : List ℕ) (before : Reading) where
  abbrev room : ℕ
  room = length line₀

  pub record Showing (line out : List ℕ) (state : Reach) (p turns : ℕ) : Type 0 where
    pub kept : length line ≡ length line₀
    pub long : length out ≡ length out₀
    pub taken : List Bool
    pub many : length taken + turns ≡ length part
    pub handed : List ℕ
    pub work : (tooks : List Bool) → in_turns name view room (taken ++ tooks) (state_of before line₀ out₀) (pieces part)
        ≡ behind handed (turns_left name view room state.on tooks (state_of state.reading line out) (pieces (drop p part)))

  pub showing_begins : Showing line₀ out₀ (record { reading = before; on = true }) 0 (length part)
  showing_begins = record { kept = refl; long = refl; taken = []; many = omega arith; handed = []; work = λ tooks. refl }

  module _ (line out : List ℕ) (state : Reach) (p turns : ℕ) (z : Showing line out state p turns) where
    abbrev t : State
    t = state_of state.reading line out

    -- the turns that are left change nothing
    shown_by : (tooks : List Bool) → length tooks ≡ turns → turns_left name view room state.on tooks t (pieces (drop p part)) ≡ shown t [] state.on → InTurns name view line₀ out₀ line out before part state
    shown_by tooks n e =
        record {
          taken = z.taken ++ tooks;
          many = omega (arith, z.many, length-append z.taken tooks);
          handed = z.handed ++ [];
          shows = sym (z.work tooks ∙ ap (behind z.handed) e);
        }

    left_shut : (tooks : List Bool) (ps : List (List ℕ)) → state.on ≡ false → turns_left name view room state.on tooks t ps ≡ shown t [] state.on
    left_shut tooks ps e = rw e refl

    left_end : (tooks : List Bool) (ps : List (List ℕ)) → ps ≡ [] → turns_left name view room state.on tooks t ps ≡ shown t [] state.on
    left_end tooks ps e = cases state.on (λ o. rw (o, e) (turns_end name view room tooks t)) (λ o. left_shut tooks ps o)

    left_none : (ps : List (List ℕ)) → turns_left name view room state.on [] t ps ≡ shown t [] state.on
    left_none ps = cases state.on (λ o. rw o (turns_none name view room t ps)) (λ o. left_shut [] ps o)

    pub showing_stops : (state.on && ltb p (length part)) ≡ false → InTurns name view line₀ out₀ line out before part state
    showing_stops e =
        let tooks : List Bool = replicate turns true in
        shown_by tooks (length-replicate {A = Bool} turns true)
        (cases state.on
        (λ o. left_end tooks (pieces (drop p part)) (ap pieces (drop_of_length-le part (ltb-false p (length part) (ap (λ (b : Bool). b && ltb p (length part)) (sym o) ∙ e))) ∙ pieces_none))
        (λ o. left_shut tooks (pieces (drop p part)) o))

    pub showing_ends : turns ≤ 0 → InTurns name view line₀ out₀ line out before part state
    showing_ends h = shown_by [] (omega arith) (left_none (pieces (drop p part)))

    pub showing_turn : (line' out' : List ℕ) (r : Progress) (s : Reach) → 0 < turns → (state.on && ltb p (length part)) ≡ true → length line' ≡ length line → length out' ≡ length out
        → read_of r part line' out' ≡ with_pieces name view (length line) 65536 t (pieces (drop p part)) → Written r.reading s → Showing line' out' s r.place (turns - 1)
    showing_turn line' out' r s some on k l e w =
        let both = and_T state.on (ltb p (length part)) (true_T on) in
        let less : p < length part = ltb-true p (length part) (is_true (ltb p (length part)) both.1) in
        let n : ℕ = line_length (drop p part) in
        let q : List ℕ = take n (drop p part) in
        let qs : List (List ℕ) = pieces (drop n (drop p part)) in
        let first : pieces (drop p part) ≡ q ∷ qs = pieces_first (drop p part) (rw length-drop (omega arith)) in
        let a : Bool = w.answer in
        let text : List ℕ = take r.reading.at out' in
        let next : Bool → List Bool → Shown = λ b tooks. turns_left name view room b tooks (state_of (written r.reading a).reading line' out') (pieces (drop r.place part)) in
        let read : read_of r part line' out' ≡ with_pieces name view room 65536 t (q ∷ qs) = e ∙ ap₂ (λ (i : ℕ) (ps : List (List ℕ)). with_pieces name view i 65536 t ps) z.kept first in
        record {
          kept = k ∙ z.kept;
          long = l ∙ z.long;
          taken = z.taken ++ (a ∷ []);
          many = omega (arith, z.many, length-append z.taken (a ∷ []));
          handed = z.handed ++ text;
          work = λ tooks.
              ap (λ (x : List Bool). in_turns name view room x (state_of before line₀ out₀) (pieces part)) (append_assoc z.taken (a ∷ []) tooks) ∙ z.work (a ∷ tooks)
              ∙ ap (behind z.handed) (ap₂ (λ (b : Bool) (ps : List (List ℕ)). turns_left name view room b (a ∷ tooks) t ps) (is_true state.on both.0) first
              ∙ turns_more name view room a tooks t q qs (read_of r part line' out') read)
              ∙ behind_behind z.handed text (next a tooks)
              ∙ ap (λ (x : Reach). behind (z.handed ++ text) (turns_left name view room x.on tooks (state_of x.reading line' out') (pieces (drop r.place part)))) (sym w.says);
        }

-- ---- one part

module _ (name : List ℕ) (view : View) (line out : List ℕ) (before : Reading) where
  pub part_none : (part : List ℕ) → length part ≡ 0 → PartShown name view line out line out before part (record { reading = before; on = false })
  part_none part e =
      let n : length (replicate (length part) true) ≡ length part = length-replicate {A = Bool} (length part) true in
      record {
        taken = replicate (length part) true;
        many = n;
        handed = [];
        shows = sym (part_ends name view (length line) (state_of before line out) (record { part = part; taken = replicate (length part) true; many = n }) e);
      }

  module _ (line' out' part : List ℕ) (r : Reach) where
    pub part_some : (length part ≢ 0) → InTurns name view line out line' out' before part r → PartShown name view line out line' out' before part r
    part_some some z =
        let g : Given = record { part = part; taken = z.taken; many = z.many } in
        record { taken = z.taken; many = z.many; handed = z.handed; shows = z.shows ∙ sym (part_goes_on name view (length line) (state_of before line out) g some) }

    pub more_shown : PartShown name view line out line' out' before part r → MoreShown name view line out line' out' before r
    more_shown z = record { given = record { part = part; taken = z.taken; many = z.many }; handed = z.handed; shows = z.shows }

-- ---- part after part

module _ (name : List ℕ) (view : View) (line₀ out₀ : List ℕ) where
  abbrev left : Bool → List Given → State → Shown
  left on gs t = cond on (with_parts name view (length line₀) t gs) (shown t [] false)

  left_behind : (gs : List Given) (on : Bool) (t : State) (h : List ℕ) → cond on (behind h (with_parts name view (length line₀) t gs)) (shown t h on) ≡ behind h (left on gs t)
  left_behind gs true t h = refl
  left_behind gs false t h = ap (λ (x : List ℕ). shown t x false) (sym (append-nil h))

  pub record Asking (line out : List ℕ) (state : Reach) (turns : ℕ) : Type 0 where
    pub kept : length line ≡ length line₀
    pub long : length out ≡ length out₀
    pub given : List Given
    pub many : length given + turns ≡ 18446744073709551615
    pub handed : List ℕ
    pub work : (gs : List Given) → with_parts name view (length line₀) (state_of start line₀ out₀) (given ++ gs) ≡ behind handed (left state.on gs (state_of state.reading line out))

  pub asking_begins : Asking line₀ out₀ (record { reading = start; on = true }) 18446744073709551615
  asking_begins = record { kept = refl; long = refl; given = []; many = omega arith; handed = []; work = λ gs. refl }

  module _ (line out : List ℕ) (state : Reach) (turns : ℕ) (z : Asking line out state turns) where
    abbrev here : State
    here = state_of state.reading line out

    all_by : (gs : List Given) → length gs ≡ turns → left state.on gs here ≡ shown here [] state.on → AllShown name view line₀ out₀ line out state.reading
    all_by gs n e =
        record {
          given = z.given ++ gs;
          many = omega (arith, z.many, length-append z.given gs);
          handed = z.handed ++ [];
          on = state.on;
          shows = sym (z.work gs ∙ ap (behind z.handed) e);
        }

    pub asking_stops : state.on ≡ false → AllShown name view line₀ out₀ line out state.reading
    asking_stops o =
        let none : Given = record { part = []; taken = []; many = refl } in
        all_by (replicate turns none) (length-replicate {A = Given} turns none) (rw o refl)

    pub asking_ends : turns ≤ 0 → AllShown name view line₀ out₀ line out state.reading
    asking_ends h = all_by [] (omega arith) (cases state.on (λ o. rw o (parts_none name view (length line₀) here)) (λ o. rw o refl))

    pub asking_turn : (line' out' : List ℕ) (r : Reach) → 0 < turns → state.on ≡ true → length line' ≡ length line → length out' ≡ length out → MoreShown name view line out line' out' state.reading r → Asking line' out' r (turns - 1)
    asking_turn line' out' r some o k l m =
        let g : Given = m.given in
        let s : Shown = shown_of r line' out' m.handed in
        let shows : s ≡ with_part name view (length line₀) here g = m.shows ∙ ap (λ (i : ℕ). with_part name view i here g) z.kept in
        record {
          kept = k ∙ z.kept;
          long = l ∙ z.long;
          given = z.given ++ (g ∷ []);
          many = omega (arith, z.many, length-append z.given (g ∷ []));
          handed = z.handed ++ m.handed;
          work = λ gs.
              ap (with_parts name view (length line₀) (state_of start line₀ out₀)) (append_assoc z.given (g ∷ []) gs) ∙ z.work (g ∷ gs)
              ∙ ap (λ (b : Bool). behind z.handed (left b (g ∷ gs) here)) o
              ∙ ap (behind z.handed) (parts_more name view (length line₀) here g gs s shows ∙ left_behind gs r.on (state_of r.reading line' out') m.handed)
              ∙ behind_behind z.handed m.handed (left r.on gs (state_of r.reading line' out'));
        }
