-- Where the system takes all that it is handed, that is what is shown of the file, however the file is cut into parts.
use Rattle.std.specs.Prelude.{ℕ, zero, suc, ◌≤◌, ◌<◌, Bool, cond, ◌≡◌, refl, length, take, replicate, eqb}
use Rattle.std.proofs.Common.{arith, ◌∙◌, length-take, eqb-true, eq-eqb, ne_eqb}
use Rattle.std.proofs.Math.Bool.{true, false}
use mathlib.Core.List.{List, [], ◌∷◌, ◌++◌, append-nil, append_assoc}
use Rattle.std.proofs.Math.Path.{sym, ap}
use Rattle.std.proofs.lemmas.List.{length-replicate}
use Rattle.std.proofs.lemmas.Bool.{eqb-false}
use Rattle.text.specs.Tests.{cases}
use Rattle.buffer.specs.Sink.{Sink, sink}
use Rattle.show_io.specs.declared.lines.View.{View}
use Rattle.show_io.specs.declared.input.Reading.{Reading}
use Rattle.show_io.specs.Input.{join_first, pieces, State, state, Read, count_of, with_line, with_pieces}
use Rattle.show_io.specs.Input.Contracts.{state_of, last_of}
use Rattle.show_io.specs.Input.Laws.{pieces_none}
use Rattle.show_io.specs.Input.Parts.{each_none}
use Rattle.show.specs.Whole.{text_of, file_shown}
use Rattle.show.specs.Whole.Buffers.{ShortName, short_name}
use Rattle.show.specs.Whole.Laws.{Told, told, told_of, Roomy, tell, with_told, tell_parts, with_line_law, Told_on, told_on, told_first, finished, told_file}
use Rattle.show.specs.Parts.{Shown, shown, emptied, Given, in_turns, with_part, with_parts}
use Rattle.show.specs.Parts.Laws.{turns_end, turns_more, part_ends, part_goes_on, parts_none, parts_more}

-- a part, of which all that is printed is taken
abbrev pub all_taken : List ℕ → Given
all_taken p = record { part = p; taken = replicate (length p) true; many = length-replicate {A = Bool} (length p) true }

unfoldable pub given : List (List ℕ) → List Given
given [] = []
given (p ∷ ps) = all_taken p ∷ given ps

-- the input, which ends where nothing more is handed over
unfoldable pub bytes_of : List (List ℕ) → List ℕ
bytes_of [] = []
bytes_of (p ∷ ps) = let further : List ℕ = p ++ bytes_of ps in cond (eqb (length p) 0) [] further

-- ---- no more pieces than bytes

joined_few : (b : ℕ) (ps : List (List ℕ)) → length (join_first b ps) ≤ suc (length ps)
unfolding join_first
joined_few b [] = omega arith
joined_few b (p ∷ ps) = omega arith

pieces_few : (s : List ℕ) → length (pieces s) ≤ length s
unfolding pieces
pieces_few [] = omega arith
pieces_few (b ∷ s) =
    let h : length (pieces s) ≤ length s = pieces_few s in
    cases (eqb b 0x0A) (λ e. rw e (omega arith)) (λ e. rw e (omega (arith, joined_few b (pieces s))))

-- with the last line, where no newline ends it
abbrev pub ended : List ℕ → View → State → Sink ℕ
ended name view t = cond (eqb (length t.line) 0) t.printed (with_line name view t t.line)

module _ (name : List ℕ) (view : View) (short : ShortName name) where
  abbrev turns : ℕ → State → List (List ℕ) → Shown
  turns n t ps = in_turns name view 4097 (replicate n true) t ps

  -- ---- a part in turns

  record Turned (h : List ℕ) (t : State) (ps : List (List ℕ)) (s : Shown) : Type 0 where
    same : told_of (h ++ s.handed) s.state ≡ tell name view (told_of h t) ps
    size : Roomy s.state.printed
    none : count_of s.state.printed ≡ 0
    on : s.on ≡ true

  turned_end : (tooks : List Bool) (t : State) (h : List ℕ) → Roomy t.printed → count_of t.printed ≡ 0 → Turned h t [] (in_turns name view 4097 tooks t [])
  turned_end tooks t h size none =
      rw (turns_end name view 4097 tooks t)
      (record { same = ap (λ (x : List ℕ). told_of x t) (append-nil h) ∙ sym (each_none Told (with_told name view) (told_of h t)); size = size; none = none; on = refl })

  turned : (n : ℕ) (ps : List (List ℕ)) (t : State) (h : List ℕ) → length ps ≤ n → Roomy t.printed → count_of t.printed ≡ 0 → Turned h t ps (turns n t ps)
  turned zero [] t h few size none = turned_end [] t h size none
  turned zero (p ∷ ps) t h few size none = absurd (omega arith)
  turned (suc n) [] t h few size none = turned_end (replicate (suc n) true) t h size none
  turned (suc n) (p ∷ ps) t h few size none =
      let r : Read = with_pieces name view 4097 65536 t (p ∷ ps) in
      let z : Told_on name view short h t (p ∷ ps) r = told_on name view short (p ∷ ps) t h size in
      let next : State = emptied r.state in
      let text : List ℕ = text_of r.state.printed in
      let less : length r.rest ≤ length ps = told_first name view short p ps t size (omega arith) in
      let s : Shown = turns n next r.rest in
      let w : Turned (h ++ text) next r.rest s = turned n r.rest next (h ++ text) (omega arith) z.size refl in
      rw (turns_more name view 4097 true (replicate n true) t p ps r refl)
      (record {
        same = ap (λ (x : List ℕ). told_of x s.state) (sym (append_assoc h text s.handed)) ∙ w.same
            ∙ ap (λ (x : List ℕ). tell name view (told r.state.number r.state.line x) r.rest) (append-nil (h ++ text)) ∙ z.same;
        size = w.size;
        none = w.none;
        on = w.on;
      })

  -- ---- part after part

  record Asked (h : List ℕ) (t : State) (s : List ℕ) (r : Shown) : Type 0 where
    same : told_of (h ++ r.handed) r.state ≡ tell name view (told_of h t) (pieces s)
    size : Roomy r.state.printed
    none : count_of r.state.printed ≡ 0

  abbrev all : State → List (List ℕ) → Shown
  all t ps = with_parts name view 4097 t (given ps)

  asked_end : (t : State) (h : List ℕ) (on : Bool) → Roomy t.printed → count_of t.printed ≡ 0 → Asked h t [] (shown t [] on)
  asked_end t h on size none =
      record {
        same = ap (λ (x : List ℕ). told_of x t) (append-nil h) ∙ sym (ap (tell name view (told_of h t)) pieces_none ∙ each_none Told (with_told name view) (told_of h t));
        size = size;
        none = none;
      }

  asked : (ps : List (List ℕ)) (t : State) (h : List ℕ) → Roomy t.printed → count_of t.printed ≡ 0 → Asked h t (bytes_of ps) (all t ps)
  unfolding given bytes_of
  asked [] t h size none = rw (parts_none name view 4097 t) (asked_end t h true size none)
  asked (p ∷ ps) t h size none = cases (eqb (length p) 0)
      (λ e. let s : Shown = shown t [] false in
      let same : s ≡ with_part name view 4097 t (all_taken p) = sym (part_ends name view 4097 t (all_taken p) (eqb-true (length p) 0 e)) in
      rw (e, parts_more name view 4097 t (all_taken p) (given ps) s same) (asked_end t h false size none))
      (λ e. let s : Shown = turns (length p) t (pieces p) in
      let same : s ≡ with_part name view 4097 t (all_taken p) = sym (part_goes_on name view 4097 t (all_taken p) (eqb-false (length p) 0 e)) in
      let z : Turned h t (pieces p) s = turned (length p) (pieces p) t h (pieces_few p) size none in
      let r : Shown = all s.state ps in
      let w : Asked (h ++ s.handed) s.state (bytes_of ps) r = asked ps s.state (h ++ s.handed) z.size z.none in
      rw (e, parts_more name view 4097 t (all_taken p) (given ps) s same, z.on)
      (record {
        same = ap (λ (x : List ℕ). told_of x r.state) (sym (append_assoc h s.handed r.handed)) ∙ w.same
            ∙ ap (λ (x : Told). tell name view x (pieces (bytes_of ps))) z.same ∙ sym (tell_parts name view p (bytes_of ps) (told_of h t));
        size = w.size;
        none = w.none;
      }))

  -- ---- all of the file

  ended_told : (t : State) (h : List ℕ) → Roomy t.printed → count_of t.printed ≡ 0 → h ++ text_of (ended name view t) ≡ finished name view (told_of h t)
  ended_told t h size none = cases (eqb (length t.line) 0) (λ e. rw e refl) (λ e. rw e (with_line_law name view short t h size (omega arith) t.line).0)

-- a file's name has at most 4,096 bytes
pub shows_file : (name : List ℕ) (view : View) (out : List ℕ) (ps : List (List ℕ)) → length name ≤ 4096 → length out ≡ 589824
    → let s : Shown = with_parts name view 4097 (state 0 [] (sink out 0)) (given ps) in s.handed ++ text_of (ended name view s.state) ≡ file_shown name view (bytes_of ps)
shows_file name view out ps few size =
    let short : ShortName name = short_name name few in
    let t : State = state 0 [] (sink out 0) in
    let s : Shown = all name view short t ps in
    let z : Asked name view short [] t (bytes_of ps) s = asked name view short ps t [] size refl in
    ended_told name view short s.state s.handed z.size z.none ∙ ap (finished name view) z.same ∙ told_file name view (bytes_of ps)

-- that is what with_last prints, in a buffer for the line as the program lends it
pub last_ended : (name : List ℕ) (view : View) (r : Reading) (line out : List ℕ) → 0 < length line → last_of name view r line out ≡ ended name view (state_of r line out)
last_ended name view r line out some =
    let t : State = state_of r line out in
    ap (λ (b : Bool). cond b t.printed (with_line name view t t.line))
    (cases (eqb r.kept 0)
    (λ e. let n : length (take r.kept line) ≡ 0 = simp length-take (omega (arith, eqb-true r.kept 0 e)) in e ∙ sym (eq-eqb (length (take r.kept line)) 0 n))
    (λ e. e ∙ sym (ne_eqb (length (take r.kept line)) 0 (λ (n : length (take r.kept line) ≡ 0). eqb-false r.kept 0 e (omega (arith, simp length-take at n))))))
