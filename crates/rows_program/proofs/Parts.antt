-- Parts of standard input, one after the other.
use mathlib.Core.Path.{◌≡◌, refl, sym, ap, ap₂, ◌∙◌}
use Prim.Native.Nat.{ℕ, ◌+◌, ◌-◌, ◌≤◌, ◌<◌}
use native.Mathlib.Omega.{arith}
use mathlib.Core.Bool.{Bool, true, false, cond, not, ◌||◌}
use mathlib.Core.List.{List, [], ◌∷◌, ◌++◌, append_assoc}
use lib.ListN.{length, take, replicate, length-append, length-replicate}
use lib.Dec.{ltb}
use Rattle.text.specs.Tests.{or_false}
use Rattle.buffer.specs.Sink.{sink, emit}
use Rattle.buffer.specs.Sink.Laws.{fitted}
use Rattle.rows_io.specs.Input.{InputState, state_of, start, with_part}
use Rattle.rows_io.specs.Output.{printed}
use Rattle.rows_io.specs.Output.Laws.{printed_length}
use Rattle.rows_io.specs.declared.first_line.FirstLine.{FirstLine}
use Rattle.rows_io.specs.declared.input.Input.{Input}
use Rattle.rows_program.specs.Parts.{asked, PartRead, PartsRead}
use Rattle.rows_program.specs.Parts.Laws.{asked_empty, asked_none, asked_more}
use Rattle.rows_program.specs.declared.input.Reading.{Reading}

pub part_read : (before after buf : List ℕ) (state input : Input) (n : ℕ) → n ≡ length (take n buf) → state_of input after ≡ with_part (state_of state before) (take n buf) → PartRead before state after (record { input = input; ended = ltb n 4096 })
part_read before after buf state input n e h = record { part = take n buf; read = h; ended = ap (λ (k : ℕ). ltb k 4096) e }

-- ---- the loop: so many parts were read, and the others are asked for from there

wanted : (b : Bool) → not b ≡ false → b ≡ true
wanted true e = refl
wanted false e = cc

unwanted : (b : Bool) → not b ≡ true → b ≡ false
unwanted true e = cc
unwanted false e = refl

abbrev left : InputState → Bool → List (List ℕ) → InputState
left h ended ps = cond ended h (asked h ps)

left_stops : (h : InputState) (ended : Bool) (ps : List (List ℕ)) → (ended || not h.input.more) ≡ true → left h ended ps ≡ h
left_stops h true ps e = refl
left_stops h false ps e = asked_none h ps (unwanted h.input.more e)

left_none : (h : InputState) (ended : Bool) → left h ended [] ≡ h
left_none h true = refl
left_none h false = asked_empty h

pub record Asking (before line : List ℕ) (state : Reading) (turns : ℕ) : Type 0 where
  pub parts : List (List ℕ)
  pub many : length parts + turns ≡ 18446744073709551615
  pub work : (ps : List (List ℕ)) → asked (state_of start before) (parts ++ ps) ≡ left (state_of state.input line) state.ended ps

pub asking_begins : (line : List ℕ) (first : Input) → first ≡ start → Asking line line (record { input = first; ended = false }) 18446744073709551615
asking_begins line first e = record { parts = []; many = omega arith; work = λ ps. ap (λ (i : Input). asked (state_of i line) ps) (sym e) }

module _ (before line : List ℕ) (state : Reading) (turns : ℕ) (z : Asking before line state turns) where
  pub asking_turn : (line' : List ℕ) (r : Reading) → 0 < turns → (state.ended || not state.input.more) ≡ false → PartRead line state.input line' r → Asking before line' r (turns - 1)
  asking_turn line' r some e p =
      let h : InputState = state_of state.input line in
      let on = or_false state.ended (not state.input.more) e in
      record {
        parts = z.parts ++ (p.part ∷ []);
        many = omega (arith, z.many, length-append z.parts (p.part ∷ []));
        work = λ ps.
            ap (asked (state_of start before)) (append_assoc z.parts (p.part ∷ []) ps) ∙ z.work (p.part ∷ ps) ∙ ap (λ (b : Bool). left h b (p.part ∷ ps)) on.0
            ∙ asked_more h p.part ps (wanted state.input.more on.1) ∙ ap₂ (λ (b : Bool) (g : InputState). cond b g (asked g ps)) (sym p.ended) (sym p.read);
      }

  pub asking_stops : (state.ended || not state.input.more) ≡ true → PartsRead before line state.input
  asking_stops e =
      let ps : List (List ℕ) = replicate turns [] in
      record {
        parts = z.parts ++ ps;
        many = omega (arith, z.many, length-append z.parts ps, length-replicate {A = List ℕ} turns []);
        read = sym (z.work ps ∙ left_stops (state_of state.input line) state.ended ps e);
      }

  pub asking_ends : turns ≤ 0 → PartsRead before line state.input
  asking_ends e =
      record {
        parts = z.parts ++ [];
        many = omega (arith, z.many, length-append z.parts []);
        read = sym (z.work [] ∙ left_none (state_of state.input line) state.ended);
      }

-- what is printed fits
pub printed_fits : (f : FirstLine) (line out out' : List ℕ) (n : ℕ) → length out ≡ 258048 → length out' ≡ length out → sink out' n ≡ emit (sink out 0) (printed f line) → n ≤ length out'
printed_fits f line out out' n h k e = omega (arith, printed_length f line, (fitted out (printed f line) out' n e (omega (arith, printed_length f line))).0)
