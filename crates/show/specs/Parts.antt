-- A file in the parts that the system hands over. What is printed is handed to the system whenever enough is, and at a part's end.
use Rattle.std.specs.Prelude.{ℕ, Bool, false, ◌≡◌, length, eqb}
use Rattle.std.proofs.Math.Bool.{true, cond}
use mathlib.Core.List.{List, [], ◌∷◌, ◌++◌}
use Rattle.buffer.specs.Sink.{sink}
use Rattle.show_io.specs.declared.lines.View.{View}
use Rattle.show_io.specs.Input.{State, state, Read, pieces, with_pieces}
use Rattle.show.specs.Whole.{text_of, list_of}
pub mod Contracts
pub mod Laws
pub mod File
pub mod Vectors

-- what was read, what was handed to the system, and whether to go on
pub record Shown : Type 0 where
  pub state : State
  pub handed : List ℕ
  pub on : Bool

abbrev pub shown : State → List ℕ → Bool → Shown
shown t h o = record { state = t; handed = h; on = o }

abbrev pub behind : List ℕ → Shown → Shown
behind h s = shown s.state (h ++ s.handed) s.on

-- the buffer is written from its front again
abbrev pub emptied : State → State
emptied t = state t.number t.line (sink (list_of t.printed) 0)

-- a part, and whether the system takes what it is handed for it, turn by turn: no part has more turns than bytes
pub record Given : Type 0 where
  pub part : List ℕ
  pub taken : List Bool
  pub many : length taken ≡ length part

module _ (name : List ℕ) (view : View) (room : ℕ) where
  -- the lines of a part in turns: each prints until enough is printed
  unfoldable pub in_turns : List Bool → State → List (List ℕ) → Shown
  unfolding with_pieces
  in_turns [] t ps = shown t [] true
  in_turns (took ∷ tooks) t [] = shown t [] true
  in_turns (took ∷ tooks) t (p ∷ ps) =
      let r : Read = with_pieces name view room 65536 t (p ∷ ps) in
      let next : State = emptied r.state in
      let further : Shown = in_turns tooks next r.rest in
      behind (text_of r.state.printed) (cond took further (shown next [] false))

  -- one part more; the input has ended where nothing is handed over
  unfoldable pub with_part : State → Given → Shown
  unfolding pieces in_turns
  with_part t g =
      let all : Shown = in_turns g.taken t (pieces g.part) in
      cond (eqb (length g.part) 0) (shown t [] false) all

  -- part after part, until the input ends or something is not taken
  unfoldable pub with_parts : State → List Given → Shown
  unfolding with_part
  with_parts t [] = shown t [] true
  with_parts t (g ∷ gs) =
      let s : Shown = with_part t g in
      let further : Shown = behind s.handed (with_parts s.state gs) in
      cond s.on further s
