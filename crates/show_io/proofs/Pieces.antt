-- Lines found in a part, and put together from pieces.
use mathlib.Core.Path.{◌≡◌, refl, sym, ap, ap₂, ◌∙◌}
use mathlib.Core.Logic.{◌≢◌}
use Prim.Native.Nat.{ℕ, suc, ◌+◌, ◌-◌, ◌≤◌, ◌<◌}
use native.Mathlib.Omega.{arith}
use mathlib.Core.Bool.{Bool, true, false, cond, ◌||◌}
use mathlib.Core.List.{List, [], ◌∷◌, ◌++◌}
use lib.ListN.{length, take, drop, get_or, length-append, length-drop, drop_of_length-le}
use lib.Seq.{take_all, take-length, take_at, drop-cons, drop-drop, length-take-le}
use lib.Dec.{leb, ltb}
use borrow.Author.Tests.{eq-eqb, ne_eqb, le-ltb, le-leb, lt-leb, leb-true, leb-false}
use Rattle.text.specs.Tests.{cases}
use Rattle.buffer.specs.Sink.{Sink, sink, emit, written}
use Rattle.buffer.specs.Sink.Laws.{emit_room, written_length}
use Rattle.buffer.specs.Numbers.{smaller_of}
use Rattle.buffer.specs.Numbers.Laws.{smaller_left, smaller_right}
use Rattle.show_io.specs.Lines.{line_text, refusal_text}
use Rattle.show_io.specs.Input.{line_length, pieces, is_end, State, state, Read, read, next_number, count_of, fitted_of, with_line, begun, with_piece, with_pieces}
use Rattle.show_io.specs.Input.Laws.{length_within, length_some, pieces_first, pieces_none}
use Rattle.show_io.specs.Input.Contracts.{Kept, state_of, read_of, last_of}
use Rattle.show_io.specs.declared.lines.View.{View}
use Rattle.show_io.specs.declared.input.Reading.{Reading}
use Rattle.buffer.specs.Numbers.Parts.{take_smaller}

abbrev list_of : Sink ℕ → List ℕ
list_of (sink l r) = l

-- ---- line_end

length_newline : (b : ℕ) (s : List ℕ) → b ≡ 0x0A → line_length (b ∷ s) ≡ 1
unfolding line_length
length_newline b s e = rw (eq-eqb b 0x0A e) refl

length_other : (b : ℕ) (s : List ℕ) → (b ≢ 0x0A) → line_length (b ∷ s) ≡ suc (line_length s)
unfolding line_length
length_other b s e = rw (ne_eqb b 0x0A e) refl

length_none : line_length [] ≡ 0
unfolding line_length
length_none = refl

pub record Finding (part : List ℕ) (at i : ℕ) : Type 0 where
  pub work : i + line_length (drop i part) ≡ at + line_length (drop at part)

pub finding_begins : (part : List ℕ) (at : ℕ) → Finding part at at
finding_begins part at = record { work = refl }

module _ (part : List ℕ) (at i : ℕ) (w : Finding part at i) where
  pub finding_past : length part ≤ i → i ≡ at + line_length (drop at part)
  finding_past h =
      let none : line_length (drop i part) ≡ 0 = ap line_length (drop_of_length-le part h) ∙ length_none in
      let same = w.work in
      omega arith

  module _ (less : i < length part) where
    abbrev b : ℕ
    b = get_or part i 0

    here : drop i part ≡ b ∷ drop (suc i) part
    here = drop-cons part i 0 less

    pub finding_newline : b ≡ 0x0A → i + 1 ≡ at + line_length (drop at part)
    finding_newline e =
        let one : line_length (drop i part) ≡ 1 = ap line_length here ∙ length_newline b (drop (suc i) part) e in
        let same = w.work in
        omega arith

    pub finding_turn : (b ≢ 0x0A) → Finding part at (i + 1)
    finding_turn e =
        let more : line_length (drop i part) ≡ suc (line_length (drop (suc i) part)) = ap line_length here ∙ length_other b (drop (suc i) part) e in
        let next : drop (i + 1) part ≡ drop (suc i) part = ap (λ (k : ℕ). drop k part) (let f : i + 1 ≡ suc i = omega arith in f) in
        let same = w.work in
        record { work = rw next (let g : i + 1 + line_length (drop (suc i) part) ≡ at + line_length (drop at part) = omega arith in g) }

pub not_end : (piece : List ℕ) → length piece ≡ 0 → false ≡ is_end piece
not_end [] e = refl
not_end (x ∷ piece) e = absurd (omega arith)

-- ---- keep

take_within : (m : ℕ) (l : List ℕ) → take (smaller_of (length l) m) l ≡ take m l
take_within m l = cases (leb (length l) m)
    (λ e. let h = leb-true (length l) m e in let k : smaller_of (length l) m ≡ length l = omega arith in rw k (take-length l ∙ sym (take_all m l (omega arith))))
    (λ e. let h = leb-false (length l) m e in ap (λ (k : ℕ). take k l) (omega arith))

rest : (n m : ℕ) → m - smaller_of n m ≡ m - n
rest n m = omega arith

module _ (before piece : List ℕ) (kept from n : ℕ) (is : from ≡ smaller_of kept (length before)) (size : n ≡ smaller_of (length piece) (length before - from)) where
  from_within : from ≤ length before
  from_within = smaller_right kept (length before) from is

  pub piece_within : n ≤ length piece
  piece_within = smaller_left (length piece) (length before - from) n size

  room : from + n ≤ length before
  room = let a = from_within in let b = smaller_right (length piece) (length before - from) n size in omega arith

  taken : length (take n piece) ≡ n
  taken = length-take-le n piece piece_within

  pub kept_is : (after : List ℕ) (r : ℕ) → sink after r ≡ emit (sink before from) (take n piece) → Kept before kept piece after r
  kept_is after r e =
      let xs : List ℕ = take n piece in
      let fits : from + length xs ≤ length before = rw taken room in
      let all : sink after r ≡ sink (written before from xs) (from + length xs) = e ∙ emit_room before xs from fits in
      let front : List ℕ = take from before ++ xs in
      let long : length front ≡ from + length xs = length-append (take from before) xs ∙ ap (λ (k : ℕ). k + length xs) (length-take-le from before from_within) in
      let bytes : after ≡ front ++ drop (from + length xs) before = ap list_of all in
      let count : r ≡ from + length xs = ap count_of all in
      let same : front ≡ take kept before ++ take (length before - kept) piece =
      ap₂ (λ (x y : List ℕ). x ++ y) (take_smaller before kept from is)
      (ap (λ (k : ℕ). take k piece) size ∙ take_within (length before - from) piece ∙ ap (λ (k : ℕ). take k piece) (ap (λ (k : ℕ). length before - k) is ∙ rest kept (length before))) in
      record {
        line = ap₂ (λ (k : ℕ) (l : List ℕ). take k l) count bytes ∙ take_at front (drop (from + length xs) before) (from + length xs) long ∙ same;
        within = rw (ap list_of all, written_length before xs from fits, count) fits;
        long = ap length (ap list_of all) ∙ written_length before xs from fits;
      }

-- ---- fitted

pub not_long : (before at : ℕ) → at ≤ before → false ≡ ltb 524288 (at - before)
not_long before at h = sym (le-ltb 524288 (at - before) (omega arith))

module _ (name : List ℕ) (number before at : ℕ) (out : List ℕ) (long : Bool) (is : long ≡ ltb 524288 (at - before)) where
  abbrev refused : Sink ℕ
  refused = emit (sink out before) (refusal_text name number 9)

  pub fits_not : (z : Sink ℕ) → (ltb (length out) at || long) ≡ true → z ≡ refused → z ≡ fitted_of name number before (sink out at)
  unfolding fitted_of
  fits_not z h e = e ∙ sym (ap (λ (x : Bool). cond x refused (sink out at)) (ap (λ (x : Bool). ltb (length out) at || x) (sym is) ∙ h))

  pub fits : (ltb (length out) at || long) ≡ false → sink out at ≡ fitted_of name number before (sink out at)
  unfolding fitted_of
  fits h = sym (ap (λ (x : Bool). cond x refused (sink out at)) (ap (λ (x : Bool). ltb (length out) at || x) (sym is) ∙ h))

-- ---- with_piece

left_of : (n : ℕ) (l : List ℕ) → length l - length (take n l) ≡ length l - n
left_of n l = cases (leb n (length l))
    (λ e. let h = leb-true n (length l) e in ap (λ (k : ℕ). length l - k) (length-take-le n l h))
    (λ e. let h = leb-false n (length l) e in let k : length (take n l) ≡ length l = ap length (take_all n l (omega arith)) in omega arith)

module _ (name : List ℕ) (view : View) (room : ℕ) (t : State) (piece : List ℕ) where
  abbrev line : List ℕ
  line = begun name view room t.line piece

  abbrev ended : State
  ended = state (next_number t.number) [] (with_line name view t line)

  abbrev goes_on : State
  goes_on = state t.number line t.printed

  piece_end : is_end piece ≡ true → ended ≡ with_piece name view room t piece
  unfolding with_piece
  piece_end e = sym (ap (λ (x : Bool). cond x ended goes_on) e)

  piece_open : is_end piece ≡ false → goes_on ≡ with_piece name view room t piece
  unfolding with_piece
  piece_open e = sym (ap (λ (x : Bool). cond x ended goes_on) e)

module _ (name : List ℕ) (view : View) (t : State) (line : List ℕ) where
  pub line_printed : (number : ℕ) (s z : Sink ℕ) → number ≡ next_number t.number → s ≡ emit t.printed (line_text name number view line) → z ≡ fitted_of name number (count_of t.printed) s → z ≡ with_line name view t line
  unfolding with_line
  line_printed number s z e f g =
      g ∙ ap (fitted_of name number (count_of t.printed)) f
      ∙ ap (λ (n : ℕ). fitted_of name n (count_of t.printed) (emit t.printed (line_text name n view line))) e

module _ (name piece before after out₀ : List ℕ) (view : View) (st : Reading) (kept : ℕ) (is : Kept before st.kept piece after kept) (x : Bool) (test : x ≡ is_end piece) where
  abbrev t₀ : State
  t₀ = state_of st before out₀

  kept_line : take kept after ≡ begun name view (length before) (take st.kept before) piece
  kept_line = is.line ∙ ap (λ (k : ℕ). take st.kept before ++ take k piece) (sym (left_of st.kept before))

  pub piece_ends : (out₁ out : List ℕ) (number at r : ℕ) → x ≡ true → number ≡ next_number st.number → sink out₁ at ≡ emit (sink out₀ st.at) (line_text name number view (take kept after)) → sink out r ≡ fitted_of name number st.at (sink out₁ at)
      → state_of (record { number = number; kept = 0; at = r }) after out ≡ with_piece name view (length before) t₀ piece
  piece_ends out₁ out number at r e f g h =
      let l : List ℕ = begun name view (length before) (take st.kept before) piece in
      let z : sink out r ≡ with_line name view t₀ l = line_printed name view t₀ l number (sink out₁ at) (sink out r) f (g ∙ ap (λ (y : List ℕ). emit (sink out₀ st.at) (line_text name number view y)) kept_line) h in
      ap₂ (λ (n : ℕ) (y : Sink ℕ). state n [] y) f z ∙ piece_end name view (length before) t₀ piece (sym test ∙ e)

  pub piece_goes_on : x ≡ false → state_of (record { number = st.number; kept = kept; at = st.at }) after out₀ ≡ with_piece name view (length before) t₀ piece
  piece_goes_on e = ap (λ (y : List ℕ). state st.number y (sink out₀ st.at)) kept_line ∙ piece_open name view (length before) t₀ piece (sym test ∙ e)

-- ---- with_part

module _ (name : List ℕ) (view : View) (room : ℕ) where
  abbrev all : State → List (List ℕ) → Read
  all t ps = with_pieces name view room 65536 t ps

  all_none : (t : State) → all t [] ≡ read t []
  unfolding with_pieces
  all_none t = refl

  all_enough : (t : State) (ps : List (List ℕ)) → 65536 ≤ count_of t.printed → all t ps ≡ read t ps
  unfolding with_pieces
  all_enough t [] h = refl
  all_enough t (p ∷ ps) h = ap (λ (x : Bool). cond x (read t (p ∷ ps)) (with_pieces name view room 65536 (with_piece name view room t p) ps)) (le-leb 65536 (count_of t.printed) h)

  all_more : (t : State) (p : List ℕ) (ps : List (List ℕ)) → count_of t.printed < 65536 → all t (p ∷ ps) ≡ all (with_piece name view room t p) ps
  unfolding with_pieces
  all_more t p ps h = ap (λ (x : Bool). cond x (read t (p ∷ ps)) (with_pieces name view room 65536 (with_piece name view room t p) ps)) (lt-leb 65536 (count_of t.printed) h)

pub record Parting (name : List ℕ) (view : View) (part : List ℕ) (from : ℕ) (line₀ out₀ : List ℕ) (st : Reading) (line out : List ℕ) (reading : Reading) (p : ℕ) : Type 0 where
  pub kept : length line ≡ length line₀
  pub long : length out ≡ length out₀
  pub work : all name view (length line₀) (state_of reading line out) (pieces (drop p part)) ≡ all name view (length line₀) (state_of st line₀ out₀) (pieces (drop from part))

pub parting_begins : (name : List ℕ) (view : View) (part : List ℕ) (from : ℕ) (line out : List ℕ) (st : Reading) → Parting name view part from line out st line out st from
parting_begins name view part from line out st = record { kept = refl; long = refl; work = refl }

module _ (name : List ℕ) (view : View) (part : List ℕ) (from : ℕ) (line₀ out₀ : List ℕ) (st : Reading) (line out : List ℕ) (reading : Reading) (p : ℕ) (w : Parting name view part from line₀ out₀ st line out reading p) where
  pub parting_enough : 65536 ≤ reading.at → read_of (record { reading = reading; place = p }) part line out ≡ with_pieces name view (length line₀) 65536 (state_of st line₀ out₀) (pieces (drop from part))
  parting_enough h = sym (all_enough name view (length line₀) (state_of reading line out) (pieces (drop p part)) h) ∙ w.work

  pub parting_ends : length part ≤ p → read_of (record { reading = reading; place = p }) part line out ≡ with_pieces name view (length line₀) 65536 (state_of st line₀ out₀) (pieces (drop from part))
  parting_ends h =
      let none : pieces (drop p part) ≡ [] = ap pieces (drop_of_length-le part h) ∙ pieces_none in
      ap (read (state_of reading line out)) none
      ∙ sym (ap (all name view (length line₀) (state_of reading line out)) none ∙ all_none name view (length line₀) (state_of reading line out)) ∙ w.work

  module _ (less : p < length part) (e : ℕ) (is : e ≡ p + line_length (drop p part)) where
    some : 0 < length (drop p part)
    some = rw length-drop (omega arith)

    pub next_within : e ≤ length part
    next_within = omega (arith, length_within (drop p part), length-drop p part)

    pub next_further : p < e
    next_further = omega (arith, length_some (drop p part) some)

    pub next_less : length part - e < length part - p
    next_less = omega (arith, next_further)

    pub parting_turn : (line' out' : List ℕ) (r : Reading) → reading.at < 65536 → length line' ≡ length line → length out' ≡ length out
        → state_of r line' out' ≡ with_piece name view (length line) (state_of reading line out) (take (e - p) (drop p part)) → Parting name view part from line₀ out₀ st line' out' r e
    parting_turn line' out' r few k l s =
        let n : ℕ = line_length (drop p part) in
        let t : State = state_of reading line out in
        let size : e - p ≡ n = omega arith in
        let first : pieces (drop p part) ≡ take n (drop p part) ∷ pieces (drop e part) = pieces_first (drop p part) some ∙ ap (λ (y : List ℕ). take n (drop p part) ∷ pieces y) (drop-drop n p part ∙ ap (λ (i : ℕ). drop i part) (sym is)) in
        let same : state_of r line' out' ≡ with_piece name view (length line₀) t (take n (drop p part)) = s ∙ ap₂ (λ (i j : ℕ). with_piece name view i t (take j (drop p part))) w.kept size in
        record {
          kept = k ∙ w.kept;
          long = l ∙ w.long;
          work = ap (λ (y : State). all name view (length line₀) y (pieces (drop e part))) same
              ∙ sym (all_more name view (length line₀) t (take n (drop p part)) (pieces (drop e part)) few)
              ∙ ap (all name view (length line₀) t) (sym first) ∙ w.work;
        }

-- ---- with_last

module _ (name line out : List ℕ) (view : View) (st : Reading) where
  pub last_none : st.kept ≡ 0 → sink out st.at ≡ last_of name view st line out
  last_none e = sym (ap (λ (x : Bool). cond x (sink out st.at) (with_line name view (state_of st line out) (take st.kept line))) (eq-eqb st.kept 0 e))

  pub last_line : (kept number at : ℕ) (out₁ : List ℕ) (z : Sink ℕ) → (st.kept ≢ 0) → kept ≡ smaller_of st.kept (length line) → number ≡ next_number st.number → sink out₁ at ≡ emit (sink out st.at) (line_text name number view (take kept line)) → z ≡ fitted_of name number st.at (sink out₁ at) → z ≡ last_of name view st line out
  last_line kept number at out₁ z e f g h i =
      let t : State = state_of st line out in
      let l : List ℕ = take st.kept line in
      line_printed name view t l number (sink out₁ at) z g (h ∙ ap (λ (y : List ℕ). emit (sink out st.at) (line_text name number view y)) (take_smaller line st.kept kept f)) i
      ∙ sym (ap (λ (x : Bool). cond x (sink out st.at) (with_line name view t l)) (ne_eqb st.kept 0 e))
