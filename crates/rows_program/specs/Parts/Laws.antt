-- The parts that are asked for are read as the input up to its first short part, all at once.
use Rattle.std.specs.Prelude.{ℕ, ◌<◌, Bool, true, false, cond, ◌≡◌, refl, length, take, ltb}
use Rattle.std.proofs.Common.{arith, ◌∙◌}
use mathlib.Core.List.{List, [], ◌∷◌, ◌++◌, append-nil, append_assoc}
use Rattle.std.proofs.Math.Path.{sym, ap}
use Rattle.text.specs.Tests.{cases}
use Rattle.rows_io.specs.Input.{InputState, state_of, start, read_input, with_part}
use Rattle.rows_io.specs.Output.{printed, rows_program}
use Rattle.rows_io.specs.Output.Laws.{program_prints}
use Rattle.rows_io.specs.Input.Laws.{nothing_read, next_part, enough}
use Rattle.rows_program.specs.Parts.{asked}

pub asked_empty : (h : InputState) → asked h [] ≡ h
unfolding asked
asked_empty h = refl

pub asked_none : (h : InputState) (ps : List (List ℕ)) → h.input.more ≡ false → asked h ps ≡ h
unfolding asked
asked_none h [] e = refl
asked_none h (p ∷ ps) e = ap (λ (b : Bool). cond b (cond (ltb (length p) 4096) (with_part h p) (asked (with_part h p) ps)) h) e

pub asked_more : (h : InputState) (p : List ℕ) (ps : List (List ℕ)) → h.input.more ≡ true → asked h (p ∷ ps) ≡ cond (ltb (length p) 4096) (with_part h p) (asked (with_part h p) ps)
unfolding asked
asked_more h p ps e = ap (λ (b : Bool). cond b (cond (ltb (length p) 4096) (with_part h p) (asked (with_part h p) ps)) h) e

-- ---- the input: all bytes up to a part of fewer than 4,096, those included

unfoldable pub bytes_of : List (List ℕ) → List ℕ
bytes_of [] = []
bytes_of (p ∷ ps) = let further : List ℕ = p ++ bytes_of ps in cond (ltb (length p) 4096) p further

-- what is printed of what was read
abbrev printed_of : InputState → List ℕ
printed_of h = printed h.input.first (take h.input.count h.buffer)

module _ (buffer : List ℕ) (some : 0 < length buffer) where
  asked_on : (ps : List (List ℕ)) (s : List ℕ) → asked (read_input buffer s) ps ≡ read_input buffer (s ++ bytes_of ps)
  unfolding bytes_of
  asked_on [] s = asked_empty (read_input buffer s) ∙ ap (read_input buffer) (sym (append-nil s))
  asked_on (p ∷ ps) s =
      let h : InputState = read_input buffer s in
      cases h.input.more
      (λ e. asked_more h p ps e ∙ cases (ltb (length p) 4096) (λ l. rw l (next_part buffer s p))
      (λ l. rw l (ap (λ (g : InputState). asked g ps) (next_part buffer s p) ∙ asked_on ps (s ++ p) ∙ ap (read_input buffer) (append_assoc s p (bytes_of ps)))))
      (λ e. asked_none h (p ∷ ps) e ∙ sym (enough buffer s (bytes_of (p ∷ ps)) some e))

  pub asked_reads : (ps : List (List ℕ)) → asked (state_of start buffer) ps ≡ read_input buffer (bytes_of ps)
  asked_reads ps = ap (λ (h : InputState). asked h ps) (nothing_read buffer some) ∙ asked_on ps []

-- what is printed of them is what the program prints for that input
pub prints : (buffer : List ℕ) (ps : List (List ℕ)) → length buffer ≡ 4097 → printed_of (asked (state_of start buffer) ps) ≡ rows_program (bytes_of ps)
prints buffer ps n = ap printed_of (asked_reads buffer (omega arith) ps) ∙ program_prints buffer (bytes_of ps) n
