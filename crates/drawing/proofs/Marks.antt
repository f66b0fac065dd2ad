-- Marks byte by byte, and tabs.
use mathlib.Core.Path.{◌≡◌, refl, sym, ap, ap₂, ◌∙◌}
use mathlib.Core.Logic.{◌≢◌}
use Prim.Native.Nat.{ℕ, zero, suc, ◌+◌, ◌-◌, ◌*◌, ◌/◌, ◌%◌, ◌≤◌, ◌<◌, ◌^◌}
use native.Mathlib.Omega.{arith}
use mathlib.Core.Bool.{Bool, true, false, cond, ◌&&◌}
use mathlib.Core.List.{List, [], ◌∷◌, ◌++◌, append_assoc, append-nil}
use lib.ListN.{length, take, drop, replicate, length-drop, length-replicate, drop_of_length-le}
use lib.Seq.{length-take-le, take-nil, take_all}
use lib.Dec.{eqb, leb, ltb}
use borrow.Author.Tests.{ne_eqb, lt-leb, leb-true, leb-false}
use Rattle.buffer.specs.Numbers as numbers
use Rattle.buffer.specs.Numbers.{smaller_of, le2, le4}
use Rattle.buffer.specs.Numbers.Laws.{smaller_right}
use Rattle.buffer.specs.Sink.{Sink, sink, put, emit}
use Rattle.buffer.specs.Sink.Laws.{emit_none, then_emit}
use Rattle.text.specs.Tests.{cases, both, every}
use Rattle.text.specs.Utf8.{Scalar, asciis, bytes_of, decode}
use Rattle.text.specs.Utf8.AsciiTexts.{asciis_bytes, asciis_cons, asciis_nil, asciis_replicate}
use Rattle.text.specs.Cluster.Printable.{printable_width, run_printable}
use Rattle.text.specs.Class.Profile01.{ascii_classes}
use Rattle.text.specs.Width.{width_of}
use Rattle.text.specs.Utf8.Code.{first_sequence}
use Rattle.text.specs.Class.Code.{profile_of, printable}
use Rattle.text.specs.Utf8.Code.Laws.{some_at, nothing_at, none_past}
use Rattle.std.specs.Prelude.{Option, Some, None}
use Rattle.text.specs.TextParts.{text_at}
use Rattle.text.specs.Printable.{all_printable, BytesOf}
use Rattle.text.specs.Printable.Laws.{all_printable_law, spaces_printable}
use Rattle.text.specs.declared.utf8.Sequence.{Sequence}
use Rattle.drawing.specs.Clip.{spaces}
use Rattle.drawing.specs.Marks.{byte_mark, upper_digits, scalar_mark}
use Rattle.drawing.specs.Marks.Laws.{digit_is}
use Rattle.drawing.specs.Marks.Scalars.{digit_code}
use Rattle.drawing.specs.Attributes.{file, control}
use Rattle.drawing.specs.Change as change
use Rattle.drawing.specs.Change.{text, clipped, kind_of, body, encode_one}
use Rattle.drawing.specs.Draw.{write_marks}
use Rattle.drawing.specs.Attributes.Code.{style_of}
use Rattle.drawing.specs.State.{state_of, styling, moved, Wrote}
use Rattle.drawing.specs.Write.{ColumnsReady, windowed_text, writing_columns}
use Rattle.rows.specs.Marks.{mark_columns}
use Rattle.rows.specs.Marks.Laws.{mark_small}
use Rattle.drawing.specs.Marks.Contracts.{digit_of, mark_byte, mark_part, mark_text, marking, scalar_marking, tabbing, MarksWrote}
use Rattle.drawing.specs.declared.attributes.Style.TheVariants.{File, Control}
use Rattle.drawing.specs.declared.state.AttributeState.{AttributeState}
use Rattle.drawing.specs.declared.write.Window.{Window}
use Rattle.drawing.proofs.Columns.{clip_printable}
use Rattle.drawing.proofs.WindowTexts.{wrote_then, wrote_none, written_position, drawn_in, drawn_out}

-- ---- digits

digit_printable : (n : ℕ) → n < 16 → printable (numbers.hex_digit n) ≡ true
unfolding every
digit_printable n h = sym (ap (λ (c : Scalar). printable c.code) (digit_is n)) ∙ digit_code printable tt tt n h

small_digit : (v k : ℕ) → digit_of v k < 16
small_digit v k = both (λ (n : ℕ). n < 16) (eqb k 0) (omega arith) (both (λ (n : ℕ). n < 16) (eqb k 1) (omega arith) (both (λ (n : ℕ). n < 16) (eqb k 2) (omega arith) (both (λ (n : ℕ). n < 16) (eqb k 3) (omega arith) (both (λ (n : ℕ). n < 16) (eqb k 4) (omega arith) (omega arith)))))

-- ---- a mark's bytes

pub mark_digit : (v n i d r : ℕ) → (i ≢ 0) → i + 1 < n → (ltb 4 n && eqb i 1) ≡ false → (ltb 4 n && eqb i 2) ≡ false → d ≡ digit_of v (n - i - 2) → r ≡ numbers.hex_digit (d % 16) → r ≡ mark_byte v n i
mark_digit v n i d r z h a b e f = let m : d % 16 ≡ d = omega (arith, e, small_digit v (n - i - 2)) in rw (ne_eqb i 0 z, lt-leb n (i + 1) h, a, b) (f ∙ ap numbers.hex_digit (m ∙ e))

byte_printable : (v n i : ℕ) → printable (mark_byte v n i) ≡ true
byte_printable v n i =
    by (eqb i 0) 0x3C _ refl (by (leb n (i + 1)) 0x3E _ refl (by (ltb 4 n && eqb i 1) 0x55 _ refl (by (ltb 4 n && eqb i 2) 0x2B _ refl (digit_printable (digit_of v (n - i - 2)) (small_digit v (n - i - 2))))))
  where
    by : (b : Bool) (x y : ℕ) → printable x ≡ true → printable y ≡ true → printable (cond b x y) ≡ true
    by true x y e f = e
    by false x y e f = f

part_printable : (v n i k : ℕ) → all_printable (mark_part v n i k) ≡ true
unfolding mark_part all_printable
part_printable v n i zero = refl
part_printable v n i (suc k) = rw (byte_printable v n i) (part_printable v n (suc i) k)

part_length : (v n i k : ℕ) → length (mark_part v n i k) ≡ k
unfolding mark_part
part_length v n i zero = refl
part_length v n i (suc k) = ap suc (part_length v n (suc i) k)

part_take : (v n i k m : ℕ) → m ≤ k → take m (mark_part v n i k) ≡ mark_part v n i m
unfolding mark_part
part_take v n i k zero h = refl
part_take v n i zero (suc m) h = absurd (omega arith)
part_take v n i (suc k) (suc m) h = ap (λ (l : List ℕ). mark_byte v n i ∷ l) (part_take v n (suc i) k m (omega arith))

part_drop : (v n i k m : ℕ) → m ≤ k → drop m (mark_part v n i k) ≡ mark_part v n (i + m) (k - m)
unfolding mark_part
part_drop v n i k zero h = let a : i ≡ i + 0 = omega arith in let b : k ≡ k - 0 = omega arith in ap₂ (mark_part v n) a b
part_drop v n i zero (suc m) h = absurd (omega arith)
part_drop v n i (suc k) (suc m) h = let a : suc i + m ≡ i + suc m = omega arith in let b : k - m ≡ suc k - suc m = omega arith in part_drop v n (suc i) k m (omega arith) ∙ ap₂ (mark_part v n) a b

-- those between two columns
part_of : (v n from to : ℕ) → from ≤ to → to ≤ n → take (to - from) (drop from (mark_part v n 0 n)) ≡ mark_part v n from (to - from)
part_of v n from to h g = let a : 0 + from ≡ from = omega arith in rw (part_drop v n 0 n from (omega arith), a) (part_take v n from (n - from) (to - from) (omega arith))

-- ---- the loop

pub record MarkBytes (v n from to : ℕ) (l₀ : List ℕ) (start : ℕ) (l : List ℕ) (at i : ℕ) : Type 0 where
  pub long : length l ≡ length l₀
  pub work : emit (sink l at) (mark_part v n i (to - i)) ≡ emit (sink l₀ start) (mark_part v n from (to - from))

pub bytes_begin : (v n from to : ℕ) (l : List ℕ) (at : ℕ) → MarkBytes v n from to l at l at from
bytes_begin v n from to l at = record { long = refl; work = refl }

module _ (v n from to : ℕ) (l₀ : List ℕ) (start : ℕ) (l : List ℕ) (at i : ℕ) (b : MarkBytes v n from to l₀ start l at i) where
  pub bytes_turn : (l' : List ℕ) (at' x : ℕ) → i < to → x ≡ mark_byte v n i → sink l' at' ≡ put (sink l at) x → length l' ≡ length l → MarkBytes v n from to l₀ start l' at' (i + 1)
  unfolding mark_part emit
  bytes_turn l' at' x h e p q =
      let k : to - i ≡ suc (to - (i + 1)) = omega arith in
      let m : suc i ≡ i + 1 = omega arith in
      record {
        long = q ∙ b.long;
        work = rw (p, e) (ap (λ (j : ℕ). emit (put (sink l at) (mark_byte v n i)) (mark_part v n j (to - (i + 1)))) (sym m) ∙ ap (λ (j : ℕ). emit (sink l at) (mark_part v n i j)) (sym k) ∙ b.work);
      }

  pub bytes_end : to ≤ i → sink l at ≡ emit (sink l₀ start) (mark_part v n from (to - from))
  unfolding mark_part
  bytes_end h = let k : to - i ≡ 0 = omega arith in sym (ap (λ (j : ℕ). emit (sink l at) (mark_part v n i j)) k ∙ emit_none (sink l at)) ∙ b.work

-- ---- clipped to the window

module _ (w : Window) (p v n : ℕ) where
  abbrev offset : ℕ
  offset = w.start.0 - p

  abbrev last : ℕ
  last = w.end.0 - p

  windowed : windowed_text w p (mark_text v n) ≡ text (asciis (take (last - offset) (drop offset (mark_part v n 0 n))))
  unfolding clipped
  windowed = ap clipped (clip_printable w.profile offset (last - offset) (mark_part v n 0 n) (all_printable_law (mark_part v n 0 n) (part_printable v n 0 n)))

  module _ (o l from to : ℕ) (a : o ≡ offset) (b : l ≡ last) (c : from ≡ smaller_of o n) (d : to ≡ smaller_of l n) where
    sent_bytes : (s : List ℕ) → take (last - offset) (drop offset (mark_part v n 0 n)) ≡ s → (x : ℕ) → x ≡ length s → encode_one (windowed_text w p (mark_text v n)) ≡ (le4 x ++ le2 1) ++ s
    unfolding encode_one body kind_of
    sent_bytes s e x f = ap encode_one (windowed ∙ ap (λ (m : List ℕ). text (asciis m)) e) ∙ rw (asciis_bytes s, f) (sym (append_assoc (le4 (length s)) (le2 1) s))

    pub mark_empty : (k k' : Sink ℕ) → to < from → k' ≡ emit k (le4 0 ++ le2 1) → k' ≡ emit k (encode_one (windowed_text w p (mark_text v n)))
    mark_empty k k' h e = e ∙ ap (emit k) (sym (sent_bytes [] nothing 0 refl ∙ append-nil (le4 0 ++ le2 1)))
      where
        z : last - offset ≡ 0
        z = omega (arith, a, b, c, d, h)

        nothing : take (last - offset) (drop offset (mark_part v n 0 n)) ≡ []
        nothing = ap (λ (m : ℕ). take m (drop offset (mark_part v n 0 n))) z

    pub mark_part_law : (x : ℕ) (k k₁ k₂ : Sink ℕ) → from ≤ to → BytesOf (to - from) x → k₁ ≡ emit k (le4 x ++ le2 1) → k₂ ≡ emit k₁ (mark_part v n from (to - from)) → k₂ ≡ emit k (encode_one (windowed_text w p (mark_text v n)))
    mark_part_law x k k₁ k₂ h y e f = then_emit k k₁ k₂ (le4 x ++ le2 1) (mark_part v n from (to - from)) e f ∙ ap (emit k) (sym (sent_bytes (mark_part v n from (to - from)) (between ∙ part_of v n from to h upto) x (y.number ∙ sym (part_length v n from (to - from)))))
      where
        upto : to ≤ n
        upto = smaller_right l n to d

        -- more than there are is all that there are
        beyond_end : (m : ℕ) (s : List ℕ) → length s ≤ m → take m s ≡ take (length s) s
        beyond_end m s g = take_all m s g ∙ sym (take_all (length s) s (omega arith))

        between : take (last - offset) (drop offset (mark_part v n 0 n)) ≡ take (to - from) (drop from (mark_part v n 0 n))
        between = cases (leb o n)
            (λ e. cases (leb l n)
            (λ f.
            let x : from ≡ offset = omega (arith, a, c, leb-true o n e) in
            let y : to ≡ last = omega (arith, b, d, leb-true l n f) in
            rw (x, y) refl)
            (λ f.
            let x : from ≡ offset = omega (arith, a, c, leb-true o n e) in
            let y : to ≡ n = omega (arith, d, leb-false l n f) in
            let s : length (drop offset (mark_part v n 0 n)) ≡ to - from = length-drop offset (mark_part v n 0 n) ∙ omega (arith, part_length v n 0 n, x, y) in
            beyond_end (last - offset) (drop offset (mark_part v n 0 n)) (omega (arith, s, x, y, b, leb-false l n f)) ∙ ap (λ (m : ℕ). take m (drop offset (mark_part v n 0 n))) s ∙ ap (λ (m : ℕ). take (to - from) (drop m (mark_part v n 0 n))) (sym x)))
            (λ e.
            let x : from ≡ n = omega (arith, c, leb-false o n e) in
            let g : drop offset (mark_part v n 0 n) ≡ [] = drop_of_length-le (mark_part v n 0 n) (let r : length (mark_part v n 0 n) ≤ offset = omega (arith, part_length v n 0 n, a, leb-false o n e) in r) in
            let j : drop from (mark_part v n 0 n) ≡ [] = drop_of_length-le (mark_part v n 0 n) (let r : length (mark_part v n 0 n) ≤ from = omega (arith, part_length v n 0 n, x) in r) in
            rw (g, j, take-nil {A = ℕ} (last - offset), take-nil {A = ℕ} (to - from)) refl)

-- ---- the marks of the definitions

pub scalar_is : (v : ℕ) → scalar_mark v ≡ mark_text v (mark_columns v)
unfolding scalar_mark upper_digits mark_part mark_columns
scalar_is v =
    cases (ltb v 0x10000) (λ e. rw e (simp (digit_is, asciis_cons, asciis_nil)))
    (λ e. cases (ltb v 0x100000) (λ f. rw (e, f) (simp (digit_is, asciis_cons, asciis_nil))) (λ f. rw (e, f) (simp (digit_is, asciis_cons, asciis_nil))))

pub byte_is : (b : ℕ) → b < 256 → byte_mark b ≡ mark_text b 4
unfolding byte_mark mark_part
byte_is b h = let e : b / 16 % 16 ≡ b / 16 = omega arith in rw e (simp (digit_is, asciis_cons, asciis_nil) refl)

pub byte_pushed : (b : ℕ) (s z : Sink ℕ) → b < 256 → z ≡ emit s (mark_part b 4 0 4) → z ≡ emit s (bytes_of (byte_mark b))
byte_pushed b s z h p = rw (byte_is b h, asciis_bytes (mark_part b 4 0 4)) p

mark_columns_law : (w : Window) (v n : ℕ) → n ≡ width_of (profile_of w.profile) (mark_text v n)
mark_columns_law w v n = sym (printable_width (profile_of w.profile) (ascii_classes w.profile) (all_printable_law (mark_part v n 0 n) (part_printable v n 0 n)) ∙ part_length v n 0 n)

mark_width : (w : Window) (v : ℕ) → width_of (profile_of w.profile) (scalar_mark v) ≤ 10
mark_width w v = rw (scalar_is v, ← mark_columns_law w v (mark_columns v)) (mark_small v)

-- ---- a mark for each scalar

pub record MarksOn (w : Window) (s l₀ : List ℕ) (at₀ : ℕ) (t₀ : AttributeState) (p : ℕ) (l : List ℕ) (at : ℕ) (t : AttributeState) : Type 0 where
  pub inside : p ≤ length s
  pub near : t.position.0 ≤ t₀.position.0 + 20 * p
  pub work : (l' : List ℕ) (r : ℕ) (t' : AttributeState)
      → Wrote l at t (write_marks (profile_of w.profile) w.start.0 w.end.0 (state_of t) (text_at s p)) l' r t'
      → Wrote l₀ at₀ t₀ (write_marks (profile_of w.profile) w.start.0 w.end.0 (state_of t₀) (text_at s 0)) l' r t'

pub marks_begin : (w : Window) (s l : List ℕ) (at : ℕ) (t : AttributeState) → MarksOn w s l at t 0 l at t
marks_begin w s l at t = record { inside = omega arith; near = omega arith; work = λ l' r t' h. h }

module _ {w : Window} {s l₀ : List ℕ} {at₀ : ℕ} {t₀ : AttributeState} {p : ℕ} {l : List ℕ} {at : ℕ} {t : AttributeState} (k : MarksOn w s l₀ at₀ t₀ p l at t) where
  marks_done : text_at s p ≡ [] → MarksWrote w s l₀ at₀ t₀ l at t
  unfolding write_marks
  marks_done e = record { wrote = k.work l at t (rw e (wrote_none l at t t (state_of t) refl refl)); near = omega (arith, k.near, k.inside) }

  pub marks_end : length s ≤ p → MarksWrote w s l₀ at₀ t₀ l at t
  marks_end h = marks_done (none_past s p h)

  module _ (here : p < length s) (r : Option Sequence) (read : r ≡ first_sequence (decode (drop p s))) where
    pub marks_bad : r ≡ None → MarksWrote w s l₀ at₀ t₀ l at t
    marks_bad e = marks_done (nothing_at s p here r read e)

    module _ (u : Sequence) (some : r ≡ Some u) where
      pub marks_step : (1 ≤ u.len) × (p + u.len ≤ length s)
      marks_step = let a = some_at s p here r read u some in (a.some, a.fits)

      pub marks_turn : (l₁ : List ℕ) (at₁ : ℕ) (t₁ : AttributeState) → Wrote l at t (scalar_marking w u.code t) l₁ at₁ t₁ → MarksOn w s l₀ at₀ t₀ (p + u.len) l₁ at₁ t₁
      unfolding write_marks
      marks_turn l₁ at₁ t₁ h =
          let a = some_at s p here r read u some in
          let c : Wrote l at t (scalar_marking w a.scalar.code t) l₁ at₁ t₁ = rw a.code h in
          record {
            inside = a.fits;
            near = omega (arith, k.near, written_position w l l₁ at at₁ t t₁ control (scalar_mark u.code) h, mark_width w u.code, a.some);
            work = λ l' r t' m. k.work l' r t' (rw a.run (rw c.state at (wrote_then l l₁ l' at at₁ r t t₁ t' _ _ c m)));
          }

-- ---- a mark in a window

module _ (l : List ℕ) (at : ℕ) (w : Window) (t : AttributeState) (v n : ℕ) (b : Bool) (e : b ≡ (ltb w.start.0 (t.position.0 + n) && ltb t.position.0 w.end.0)) where
  pub mark_in : (l₁ l₂ : List ℕ) (a r : ℕ) (t₁ u : AttributeState) → b ≡ true → Wrote l at t (styling t Control) l₁ a t₁ → sink l₂ r ≡ emit (sink l₁ a) (encode_one (windowed_text w t.position.0 (mark_text v n))) → u ≡ moved t₁ n false → Wrote l at t (marking w v n t) l₂ r u
  unfolding style_of change.whole
  mark_in l₁ l₂ a r t₁ u h p q m = drawn_in l at w t Control (mark_text v n) n b (mark_columns_law w v n) e l₁ l₂ a t₁ u (record { at = r; torn = false }) h p (record { bytes = q; torn = rw (windowed w t.position.0 v n) refl }) m

  pub mark_out : (u : AttributeState) → b ≡ false → u ≡ moved t n false → Wrote l at t (marking w v n t) l at u
  unfolding style_of
  mark_out u h m = drawn_out l at w t Control (mark_text v n) n b (mark_columns_law w v n) e u h m

module _ (w : Window) (l : List ℕ) (at : ℕ) (t : AttributeState) (v n : ℕ) (l' : List ℕ) (r : ℕ) (t' : AttributeState) where
  pub scalar_wrote : n ≡ mark_columns v → Wrote l at t (marking w v n t) l' r t' → Wrote l at t (scalar_marking w v t) l' r t'
  scalar_wrote e h = rw (scalar_is v, ← e) h

pub scalar_room : (v n p : ℕ) → n ≡ mark_columns v → p + 20 < 2 ^ 64 → p + n < 2 ^ 64
scalar_room v n p e h = omega (arith, mark_small v)

-- ---- tabs, and the mark of a byte

take_spaces : (n m : ℕ) → n ≤ m → take n (replicate m 0x20) ≡ replicate {A = ℕ} n 0x20
take_spaces zero m h = refl
take_spaces (suc n) zero h = absurd (omega arith)
take_spaces (suc n) (suc m) h = ap (λ (l : List ℕ). 0x20 ∷ l) (take_spaces n m (omega arith))

module _ (p n : ℕ) (b : BytesOf (8 - p % 8) n) where
  pub tab_fits : n ≤ 8
  tab_fits = omega (arith, b.number)

  pub tab_slice : n ≡ length (take n (replicate {A = ℕ} 8 0x20))
  tab_slice = sym (length-take-le n (replicate {A = ℕ} 8 0x20) tab_fits)

module _ (t : AttributeState) (n : ℕ) (b : BytesOf (8 - t.position.0 % 8) n) where
  pub tab_ready : t.position.0 + 16 < 2 ^ 64 → ColumnsReady (take n (replicate {A = ℕ} 8 0x20)) t
  tab_ready h = record { printable = rw (take_spaces n 8 (tab_fits t.position.0 n b)) (spaces_printable n); room = rw (← tab_slice t.position.0 n b) (omega (arith, b.number)) }

  pub tab_wrote : (w : Window) (l : List ℕ) (at : ℕ) (l' : List ℕ) (r : ℕ) (t' : AttributeState) → Wrote l at t (writing_columns w (take n (replicate {A = ℕ} 8 0x20)) t File) l' r t' → Wrote l at t (tabbing w t) l' r t'
  unfolding style_of
  tab_wrote w l at l' r t' h =
      let e : text_at (take n (replicate {A = ℕ} 8 0x20)) 0 ≡ spaces n = rw (take_spaces n 8 (tab_fits t.position.0 n b)) (run_printable (all_printable_law (replicate n 0x20) (spaces_printable n)) ∙ asciis_replicate n 0x20) in
      rw (← b.number) (rw e at h)

module _ (w : Window) (l : List ℕ) (at : ℕ) (t : AttributeState) (l' : List ℕ) (r : ℕ) (t' : AttributeState) where
  pub tab_near : Wrote l at t (tabbing w t) l' r t' → t'.position.0 ≤ t.position.0 + 8
  tab_near h =
      let n : ℕ = 8 - t.position.0 % 8 in
      let m : width_of (profile_of w.profile) (spaces n) ≡ n = rw (← asciis_replicate n 0x20) (printable_width (profile_of w.profile) (ascii_classes w.profile) (all_printable_law (replicate n 0x20) (spaces_printable n)) ∙ length-replicate n 0x20) in
      omega (arith, written_position w l l' at r t t' file (spaces n) h, m)

  pub mark_near : (v n : ℕ) → Wrote l at t (marking w v n t) l' r t' → t'.position.0 ≤ t.position.0 + n
  mark_near v n h = omega (arith, written_position w l l' at r t t' control (mark_text v n) h, mark_columns_law w v n)
