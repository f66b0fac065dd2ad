-- What a part of the input leaves in the line's buffer: as much of the line as there is room for.
use mathlib.Core.Path.{◌≡◌, sym, ap, ap₂, ◌∙◌}
use Prim.Native.Nat.{ℕ, ◌+◌, ◌-◌, ◌≤◌, ◌<◌}
use native.Mathlib.Numerals.{add-one}
use native.Mathlib.Omega.{arith}
use mathlib.Core.Bool.{Bool}
use mathlib.Core.List.{List, [], ◌∷◌, ◌++◌, append-nil, append_assoc}
use lib.ListN.{length, set, take, drop, length-append, length-take, length-set, length-drop, drop_of_length-le}
use lib.Seq.{take_all, take-length, take-append-le, take-suc-set, length-take-le}
use lib.Dec.{leb, ltb}
use borrow.Author.Tests.{leb-true, leb-false, le-ltb}
use Rattle.text.specs.Tests.{cases}
use Rattle.buffer.specs.Sink.{Sink, sink, emit, written}
use Rattle.buffer.specs.Sink.Laws.{put_in, put_past, emit_room}
use Rattle.buffer.specs.Numbers.{smaller_of}
use Rattle.rows_io.specs.FirstLine.{with_bytes, behind, part_of}
use Rattle.rows_io.specs.FirstLine.Laws.{read_within}
use Rattle.rows_io.specs.Input.{state_of, read_into, with_part}
use Rattle.buffer.specs.Numbers.Laws.{smaller_first, smaller_second}
use Rattle.rows_io.specs.declared.first_line.Part.{Part}
use Rattle.rows_io.specs.declared.input.Input.{Input}
use Rattle.rows_io.specs.declared.first_line.FirstLine.{FirstLine}

abbrev count_of : Sink ℕ → ℕ
count_of (sink l r) = r

abbrev list_of : Sink ℕ → List ℕ
list_of (sink l r) = l

-- a buffer that takes only the front of xs
abbrev Filled : List ℕ → ℕ → List ℕ → Type 0
Filled l at xs = (list_of (emit (sink l at) xs) ≡ take (length l) (take at l ++ xs)) × (length l ≤ count_of (emit (sink l at) xs))

all_in : (l xs : List ℕ) (at : ℕ) → length l ≤ at → take (length l) (take at l ++ xs) ≡ l
all_in l xs at h = rw (take_all at l h, take-append-le (length l) l xs (omega arith), take-length l)

filled : (xs l : List ℕ) (at : ℕ) → length l < at + length xs → Filled l at xs
unfolding emit
filled [] l at h = (sym (all_in l [] at (omega arith)), omega arith)
filled (x ∷ xs) l at h = cases (leb (length l) at)
    (λ p. let q : length l ≤ at = leb-true (length l) at p in
    let again : Filled l (length l + 1) xs = filled xs l (length l + 1) (omega arith) in
    rw (← put_past l at x q) (again.0 ∙ all_in l xs (length l + 1) (omega arith) ∙ sym (all_in l (x ∷ xs) at q), again.1))
    (λ p. let q : at < length l = omega (arith, leb-false (length l) at p) in
    let n : length (set l at x) ≡ length l = length-set l at x in
    let front : take (at + 1) (set l at x) ≡ take at l ++ (x ∷ []) = ap (λ (k : ℕ). take k (set l at x)) (add-one at) ∙ take-suc-set l at x q in
    let turn : take (length (set l at x)) (take (at + 1) (set l at x) ++ xs) ≡ take (length l) (take at l ++ x ∷ xs) =
    ap₂ (λ (k : ℕ) (y : List ℕ). take k (y ++ xs)) n front ∙ ap (take (length l)) (append_assoc (take at l) (x ∷ []) xs) in
    let again : Filled (set l at x) (at + 1) xs = filled xs (set l at x) (at + 1) (omega arith) in
    rw (← put_in l at x q) (again.0 ∙ turn, omega (arith, again.1)))

same_state : (f : FirstLine) (c c' : ℕ) (m m' : Bool) (b b' : List ℕ) → c ≡ c' → m ≡ m' → b ≡ b' → state_of (record { first = f; count = c; more = m }) b ≡ state_of (record { first = f; count = c'; more = m' }) b'
same_state f c c' m m' b b' p q r = rw (p, q, r)

module _ (f : FirstLine) (l l' xs : List ℕ) (at end count : ℕ) (e : sink l' end ≡ emit (sink l at) xs) (c : count ≡ smaller_of end (length l)) where
  abbrev kept : List ℕ
  kept = take (length l) (take at l ++ xs)

  in_room_law : at + length xs ≤ length l → state_of (record { first = f; count = count; more = ltb end (length l) }) l' ≡ read_into f (take at l ++ xs) l
  unfolding read_into
  in_room_law h =
      let r : sink l' end ≡ sink (written l at xs) (at + length xs) = e ∙ emit_room l xs at h in
      let p : end ≡ at + length xs = ap count_of r in
      let n : length (take at l ++ xs) ≡ at + length xs = length-append (take at l) xs ∙ ap (λ (k : ℕ). k + length xs) (length-take-le at l (omega arith)) in
      let k : kept ≡ take at l ++ xs = take_all (length l) (take at l ++ xs) (omega arith) in
      let m : end ≡ length kept = p ∙ sym n ∙ ap length (sym k) in
      let b : l' ≡ (take at l ++ xs) ++ drop (at + length xs) l = ap list_of r in
      same_state f count (length kept) (ltb end (length l)) (ltb (length kept) (length l)) l' (kept ++ drop (length kept) l)
      (c ∙ smaller_first end (length l) (omega arith) ∙ m) (ap (λ (i : ℕ). ltb i (length l)) m) (b ∙ ap₂ (λ (y : List ℕ) (i : ℕ). y ++ drop i l) (sym k) (sym p ∙ m))

  overfull : length l < at + length xs → state_of (record { first = f; count = count; more = ltb end (length l) }) l' ≡ read_into f (take at l ++ xs) l
  unfolding read_into
  overfull h =
      let g : Filled l at xs = filled xs l at h in
      let p : length l ≤ end = omega (arith, ap count_of e, g.1) in
      let n : length kept ≡ length l = simp (length-take, length-append) (omega arith) in
      let all : length l ≤ length kept = omega arith in
      let d : drop (length kept) l ≡ [] = drop_of_length-le l all in
      same_state f count (length kept) (ltb end (length l)) (ltb (length kept) (length l)) l' (kept ++ drop (length kept) l)
      (c ∙ smaller_second end (length l) p ∙ sym n) (le-ltb end (length l) p ∙ sym (le-ltb (length kept) (length l) all))
      (ap list_of e ∙ g.0 ∙ sym (append-nil kept) ∙ ap (λ (y : List ℕ). kept ++ y) (sym d))

  line_read : state_of (record { first = f; count = count; more = ltb end (length l) }) l' ≡ read_into f (take at l ++ xs) l
  line_read = cases (leb (at + length xs) (length l)) (λ p. in_room_law (leb-true (at + length xs) (length l) p)) (λ p. overfull (omega (arith, leb-false (at + length xs) (length l) p)))

-- a part of the input, as its bytes are read and pushed
pub part_within : (f : FirstLine) (s : List ℕ) (p : Part) → p ≡ part_of f s → p.at ≤ length s
part_within f s p e = rw e (read_within s f)

pub part_pushed : (state : Input) (l l' s : List ℕ) (p : Part) (end count : ℕ) → p ≡ part_of state.first s → sink l' end ≡ emit (sink l state.count) (take (length s - p.at) (drop p.at s)) → length l' ≡ length l → count ≡ smaller_of end (length l')
    → state_of (record { first = p.first; count = count; more = ltb end (length l') }) l' ≡ with_part (state_of state l) s
unfolding with_part
part_pushed state l l' s p end count e w n c =
    let w' : sink l' end ≡ emit (sink l state.count) (behind state.first s) =
    w ∙ ap (emit (sink l state.count)) (take_all (length s - p.at) (drop p.at s) (rw (length-drop p.at s) (omega arith)) ∙ ap (λ (q : Part). drop q.at s) e) in
    ap₂ (λ (g : FirstLine) (k : ℕ). state_of (record { first = g; count = count; more = ltb end k }) l') (ap (λ (q : Part). q.first) e) n
    ∙ line_read (with_bytes state.first s) l l' (behind state.first s) state.count end count w' (c ∙ ap (smaller_of end) n)
