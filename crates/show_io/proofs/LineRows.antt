-- The rows of a line, one after the other.
use mathlib.Core.Path.{◌≡◌, refl, sym, ap, ap₂, subst, ◌∙◌}
use mathlib.Core.Logic.{◌≢◌}
use Prim.Native.Nat.{ℕ, suc, min, ◌+◌, ◌-◌, ◌*◌, ◌/◌, ◌^◌, ◌≤◌, ◌<◌}
use native.Mathlib.Omega.{arith}
use mathlib.Core.Bool.{Bool, cond}
use mathlib.Core.List.{List, [], ◌++◌}
use mathlib.Core.Option.{none}
use lib.ListN.{length, take, get_or, get_or-eq_default}
use lib.Dec.{eqb, leb}
use borrow.Author.Tests.{eq-eqb, ne_eqb, le-leb, lt-leb, lt-ltb, le-ltb, leb-true, leb-false}
use Rattle.text.specs.Tests.{cases}
use Rattle.text.specs.Width.{profile01}
use Rattle.text.specs.declared.Answer.{Answer}
use Rattle.buffer.specs.Numbers.Parts.{take_smaller}
use Rattle.buffer.specs.Sink.{Sink, sink, put, emit}
use Rattle.buffer.specs.Sink.Laws.{emit_none, emit_append, then_put}
use Rattle.buffer.specs.Numbers.{smaller_of}
use Rattle.spans.specs.Calls.{Read}
use Rattle.spans.specs.Numbers.{places_in}
use Rattle.rows.specs.Calls.{rows_call, height_call}
use Rattle.rows.specs.Numbers.{RowsNumbers}
use Rattle.drawing.specs.Calls.{Drawn, window_call, row_call}
use Rattle.drawing.specs.Numbers.{DrawnNumbers}
use Rattle.screen.specs.Calls.{screen_call}
use Rattle.text.specs.Calls.{Written}
use Rattle.text.specs.Calls.Code.{written}
use Rattle.show_io.specs.Ansi.{cells, row_text}
use Rattle.show_io.specs.declared.lines.View.{View}
use Rattle.show_io.specs.Lines.{Printed, unless, bench, window_end, drawn_row, screen_text, list_text, row_of, columns_in, columns_of, small_row, large_row, line_row, height_of, rows_from, all_rows, line_text, refusal_text, spans_text}
use Rattle.show_io.specs.FewSpans.{DrawnTo}
use Rattle.std.specs.Prelude.{Result, Ok, Err}
use Rattle.show_io.specs.Lines.Contracts.{PrintedTo, AnswerOf}

-- ---- draw_small, draw_large

module _ (c p l : ℕ) (view : View) (first : ℕ) (line : List ℕ) where
  window_is : view.mode ≡ 0 → (end : ℕ) → end ≡ window_end view → window_call profile01 bench c p l view.start end none [] line ≡ drawn_row c p l view first line
  unfolding drawn_row
  window_is e end f = rw (eq-eqb view.mode 0 e, ← f) refl

  row_is : (view.mode ≢ 0) → row_call profile01 bench c p l first 1 view.width view.mode none [] line ≡ drawn_row c p l view first line
  unfolding drawn_row
  row_is e = rw (ne_eqb view.mode 0 e) refl

  module _ (r : Answer) (conv list : List ℕ) where
    pub small_window_drawn : view.mode ≡ 0 → (end : ℕ) → end ≡ window_end view → DrawnTo (window_call profile01 bench c p l view.start end none [] line) r conv list → DrawnTo (drawn_row c p l view first line) r conv list
    small_window_drawn e end f d = subst (λ (x : Drawn). DrawnTo x r conv list) (window_is e end f) d

    pub small_row_drawn : (view.mode ≢ 0) → DrawnTo (row_call profile01 bench c p l first 1 view.width view.mode none [] line) r conv list → DrawnTo (drawn_row c p l view first line) r conv list
    small_row_drawn e d = subst (λ (x : Drawn). DrawnTo x r conv list) (row_is e) d

    module _ (n : ℕ) (numbers : List ℕ) where
      pub window_drawn : view.mode ≡ 0 → (end : ℕ) → end ≡ window_end view → DrawnNumbers (window_call profile01 bench c p l view.start end none [] line) n r conv numbers list → DrawnNumbers (drawn_row c p l view first line) n r conv numbers list
      window_drawn e end f d = subst (λ (x : Drawn). DrawnNumbers x n r conv numbers list) (window_is e end f) d

      pub row_drawn : (view.mode ≢ 0) → DrawnNumbers (row_call profile01 bench c p l first 1 view.width view.mode none [] line) n r conv numbers list → DrawnNumbers (drawn_row c p l view first line) n r conv numbers list
      row_drawn e d = subst (λ (x : Drawn). DrawnNumbers x n r conv numbers list) (row_is e) d

numbers_drawn : {d : Drawn} {n : ℕ} {r : Answer} {conv numbers list : List ℕ} → DrawnNumbers d n r conv numbers list → DrawnTo d r conv list
numbers_drawn d = record { read = record { number = d.read.number; count = d.read.count; line = d.read.bytes }; changes = d.changes }

-- ---- print_list

module _ (line out₀ out : List ℕ) (at : ℕ) (t : Written) where
  screen_printed : (n z : ℕ) (a : Sink ℕ) → t.number ≡ 0 → n ≡ smaller_of t.count (length t.out) → a ≡ emit (sink out₀ at) (row_text line (cells (take n t.out))) → sink out z ≡ put a 0x0A → PrintedTo (screen_text line t) out₀ at out (Ok z)
  unfolding screen_text
  screen_printed n z a e m f g =
      let s : Sink ℕ = sink out₀ at in
      rw (eq-eqb t.number 0 e)
      (refl, then_put s a (sink out z) (row_text line (cells (take t.count t.out))) 0x0A (f ∙ ap (λ (l : List ℕ). emit s (row_text line (cells l))) (take_smaller t.out t.count n m)) g)

  screen_refused : (t.number ≢ 0) → PrintedTo (screen_text line t) out at out (Err t.number)
  unfolding screen_text
  screen_refused e = rw (ne_eqb t.number 0 e) (refl, e, refl)

module _ (room columns : ℕ) (line list out₀ out : List ℕ) (at : ℕ) (t : Answer) (after : List ℕ) (is : written t after ≡ screen_call profile01 columns room list) where
  pub list_printed : (n z : ℕ) (a : Sink ℕ) → t.number ≡ 0 → n ≡ smaller_of t.count (length after) → a ≡ emit (sink out₀ at) (row_text line (cells (take n after))) → sink out z ≡ put a 0x0A → PrintedTo (list_text room columns line list) out₀ at out (Ok z)
  unfolding list_text
  list_printed n z a e m f g = subst (λ (x : Written). PrintedTo (screen_text line x) out₀ at out (Ok z)) is (screen_printed line out₀ out at (written t after) n z a e m f g)

  pub list_refused : (t.number ≢ 0) → PrintedTo (list_text room columns line list) out at out (Err t.number)
  unfolding list_text
  list_refused e = subst (λ (x : Written). PrintedTo (screen_text line x) out at out (Err t.number)) is (screen_refused line out₀ out at (written t after) e)

-- ---- print_drawn

module _ (room columns : ℕ) (r : Answer) (conv list out : List ℕ) where
  abbrev drawn_text : Printed
  drawn_text = unless r.number (list_text room columns conv (take r.count list))

  pub drawn_printed : (k : ℕ) (out₀ : List ℕ) (at : ℕ) (q : Result ℕ ℕ) → r.number ≡ 0 → k ≡ smaller_of r.count (length list) → PrintedTo (list_text room columns conv (take k list)) out₀ at out q → PrintedTo drawn_text out₀ at out q
  drawn_printed k out₀ at q e m p = let same : take k list ≡ take r.count list = take_smaller list r.count k m in rw (eq-eqb r.number 0 e, ← same) p

  pub drawn_refused : (at : ℕ) → (r.number ≢ 0) → PrintedTo drawn_text out at out (Err r.number)
  drawn_refused at e = rw (ne_eqb r.number 0 e) (refl, e, refl)

  drawn_row_law : (d : Drawn) → DrawnTo d r conv list → drawn_text ≡ row_of room columns d
  unfolding row_of
  drawn_row_law d is = rw (is.read.number, is.read.count, is.read.line, is.changes) refl

-- ---- print_small, small_row, large_row, line_row

module _ (view : View) (first room : ℕ) (line out₀ out : List ℕ) (at : ℕ) (r : Result ℕ ℕ) where
  abbrev small_of : Drawn
  small_of = drawn_row 2048 64 2048 view first line

  module _ (c l : ℕ) (a : Answer) (conv list : List ℕ) where
    pub small_printed : c ≡ 2048 → l ≡ 2048 → DrawnTo (drawn_row c 64 l view first line) a conv list → PrintedTo (drawn_text room view.width a conv list out) out₀ at out r → PrintedTo (row_of room view.width small_of) out₀ at out r
    small_printed e f d p = subst (λ (x : Printed). PrintedTo x out₀ at out r) (drawn_row_law room view.width a conv list out small_of (rw (e, f) at d)) p

    pub large_printed : (columns n m : ℕ) (numbers : List ℕ) → columns ≡ columns_of view first line → c ≡ 32768 → n ≡ 8192 → l ≡ 131072 → room ≡ 262144 → DrawnNumbers (drawn_row c (places_in n) l view first line) m a conv numbers list
        → PrintedTo (drawn_text room columns a conv list out) out₀ at out r → PrintedTo (large_row view line first) out₀ at out r
    unfolding large_row
    large_printed columns n m numbers k e f g h d p =
        subst (λ (x : Printed). PrintedTo x out₀ at out r) (drawn_row_law room columns a conv list out (drawn_row 32768 2048 131072 view first line) (numbers_drawn (rw (e, f, g) at d)) ∙ ap₂ (λ (i j : ℕ). row_of i j (drawn_row 32768 2048 131072 view first line)) h k) p

  pub narrow_printed : view.width ≤ 128 → room ≡ 4096 → PrintedTo (row_of room view.width small_of) out₀ at out r → PrintedTo (small_row view line first) out₀ at out r
  unfolding small_row
  narrow_printed h e p = rw (le-leb view.width 128 h) (rw e at p)

  pub wide_printed : 128 < view.width → room ≡ 16384 → PrintedTo (row_of room view.width small_of) out₀ at out r → PrintedTo (small_row view line first) out₀ at out r
  unfolding small_row
  wide_printed h e p = rw (lt-leb view.width 128 h) (rw e at p)

module _ (view : View) (first : ℕ) (line out₀ out : List ℕ) (at n : ℕ) where
  pub line_small : length line ≤ 256 → PrintedTo (small_row view line first) out₀ at out (Ok n) → PrintedTo (line_row view line first) out₀ at out (Ok n)
  unfolding line_row
  line_small h p = rw (le-ltb 256 (length line) h, eq-eqb (small_row view line first).number 0 p.0) p

  pub line_large : (out' : List ℕ) (r : Result ℕ ℕ) → length line ≤ 256 → PrintedTo (small_row view line first) out₀ at out (Err n) → PrintedTo (large_row view line first) out at out' r → PrintedTo (line_row view line first) out₀ at out' r
  unfolding line_row
  line_large out' r h p q =
      let differs : (small_row view line first).number ≢ 0 = λ z. p.1 (sym p.0 ∙ z) in
      rw (le-ltb 256 (length line) h, ne_eqb (small_row view line first).number 0 differs) (rw p.2 at q)

pub line_long : (view : View) (first : ℕ) (line out₀ out : List ℕ) (at : ℕ) (r : Result ℕ ℕ) → 256 < length line → PrintedTo (large_row view line first) out₀ at out r → PrintedTo (line_row view line first) out₀ at out r
unfolding line_row
line_long view first line out₀ out at r h p = rw (lt-ltb 256 (length line) h) p

-- ---- window_end

pub window_sum : (v : View) (n : ℕ) → v.start < 2 ^ 64 → n ≡ min (v.start + v.width) 0xFFFFFFFFFFFFFFFF → n ≡ window_end v
window_sum v n h e = cases (leb v.width (0xFFFFFFFFFFFFFFFF - v.start))
    (λ f. let k : v.width ≤ 0xFFFFFFFFFFFFFFFF - v.start = leb-true _ _ f in rw f (omega arith))
    (λ f. let k : 0xFFFFFFFFFFFFFFFF - v.start < v.width = leb-false _ _ f in rw f (omega arith))

-- ---- columns

module _ (rows : List ℕ) (width first : ℕ) where
  abbrev columns : ℕ
  columns = get_or rows (2 * first + 1) 0 - get_or rows (2 * first) 0

  columns_few : columns ≤ width → width ≡ columns_in rows width first
  columns_few h = rw (le-leb columns width h) refl

  module _ (start end : ℕ) (s : start ≡ get_or rows (2 * first) 0) (e : end ≡ get_or rows (2 * first + 1) 0) where
    pub columns_more : start ≤ end → width < end - start → end - start ≡ columns_in rows width first
    columns_more h k = rw (s, e) (rw (lt-leb columns width (rw (← s, ← e) k)) refl)

    pub columns_less : start ≤ end → end - start ≤ width → width ≡ columns_in rows width first
    columns_less h k = columns_few (rw (← s, ← e) k)

    pub columns_back : end < start → width ≡ columns_in rows width first
    columns_back h = columns_few (rw (← s, ← e) (omega arith))

  pub columns_past : length rows / 2 ≤ first → width ≡ columns_in rows width first
  columns_past h =
      let z : get_or rows (2 * first + 1) 0 ≡ 0 = get_or-eq_default rows 0 {n = 2 * first + 1} (omega arith) in
      columns_few (rw z (omega arith))

module _ (view : View) (first : ℕ) (line : List ℕ) where
  pub columns_window : view.mode ≡ 0 → view.width ≡ columns_of view first line
  unfolding columns_of
  columns_window e = rw (eq-eqb view.mode 0 e) refl

  pub columns_row : (c n k m r : ℕ) (a : Answer) (conv numbers rows : List ℕ) → (view.mode ≢ 0) → c ≡ 32768 → n ≡ 8192 → k ≡ 16384 → RowsNumbers (rows_call profile01 c (places_in n) k view.width view.mode line) m a conv numbers rows → r ≡ columns_in rows view.width first → r ≡ columns_of view first line
  unfolding columns_of
  columns_row c n k m r a conv numbers rows e f g h w i =
      let v : RowsNumbers (rows_call profile01 32768 2048 16384 view.width view.mode line) m a conv numbers rows = rw (f, g, h) at w in
      i ∙ ap (λ (l : List ℕ). columns_in l view.width first) v.pairs
      ∙ sym (ap (λ (b : Bool). cond b view.width (columns_in (rows_call profile01 32768 2048 16384 view.width view.mode line).rows view.width first)) (ne_eqb view.mode 0 e))

-- ---- heights

module _ (view : View) (line : List ℕ) (a : Answer) (p : AnswerOf (height_call profile01 2048 64 view.width view.mode line) a) where
  pub height_small : length line ≤ 256 → a.number ≡ 0 → AnswerOf (height_of view line) a
  unfolding height_of
  height_small h e = rw (le-ltb 256 (length line) h, eq-eqb (height_call profile01 2048 64 view.width view.mode line).number 0 (sym p.number ∙ e)) p

  pub height_large : (r : Answer) → length line ≤ 256 → (a.number ≢ 0) → AnswerOf (height_call profile01 32768 2048 view.width view.mode line) r → AnswerOf (height_of view line) r
  unfolding height_of
  height_large r h e q = rw (le-ltb 256 (length line) h, ne_eqb (height_call profile01 2048 64 view.width view.mode line).number 0 (λ z. e (p.number ∙ z))) q

pub height_long : (view : View) (line : List ℕ) (r : Answer) → 256 < length line → AnswerOf (height_call profile01 32768 2048 view.width view.mode line) r → AnswerOf (height_of view line) r
unfolding height_of
height_long view line r h p = rw (lt-ltb 256 (length line) h) p

-- ---- all rows

module _ (name : List ℕ) (number : ℕ) (view : View) (line : List ℕ) where
  abbrev from : ℕ → ℕ → List ℕ
  from first n = rows_from name number view line first n

  from_none : (first n : ℕ) → n ≡ 0 → from first n ≡ []
  unfolding rows_from
  from_none first n e = rw e refl

  from_more : (first n m : ℕ) → n ≡ suc m → (line_row view line first).number ≡ 0 → from first n ≡ (line_row view line first).text ++ from (suc first) m
  unfolding rows_from
  from_more first n m e z = rw (e, eq-eqb (line_row view line first).number 0 z) refl

  from_refused : (first n m : ℕ) → n ≡ suc m → ((line_row view line first).number ≢ 0) → from first n ≡ refusal_text name number (line_row view line first).number
  unfolding rows_from
  from_refused first n m e z = rw (e, ne_eqb (line_row view line first).number 0 z) refl

  pub record Rows (out₀ : List ℕ) (at₀ count : ℕ) (out : List ℕ) (a i : ℕ) : Type 0 where
    pub within : i ≤ count
    pub long : length out ≡ length out₀
    pub work : emit (sink out a) (from i (count - i)) ≡ emit (sink out₀ at₀) (from 0 count)

  pub rows_begin : (out : List ℕ) (at count : ℕ) → Rows out at count out at 0
  rows_begin out at count = record { within = omega arith; long = refl; work = let e : count - 0 ≡ count = omega arith in rw e refl }

  module _ (out₀ : List ℕ) (at₀ count : ℕ) (out : List ℕ) (a i : ℕ) (w : Rows out₀ at₀ count out a i) where
    pub rows_end : count ≤ i → sink out a ≡ emit (sink out₀ at₀) (from 0 count)
    rows_end h = sym (ap (emit (sink out a)) (from_none i (count - i) (omega arith)) ∙ emit_none (sink out a)) ∙ w.work

    module _ (less : i < count) (out' : List ℕ) (n : ℕ) where
      pub rows_turn : PrintedTo (line_row view line i) out a out' (Ok n) → length out' ≡ length out → Rows out₀ at₀ count out' n (i + 1)
      rows_turn is l =
          let t : List ℕ = (line_row view line i).text in
          let next : i + 1 ≡ suc i = omega arith in
          record {
            within = omega arith;
            long = l ∙ w.long;
            work = ap (λ (x : Sink ℕ). emit x (from (i + 1) (count - (i + 1)))) is.1 ∙ sym (emit_append (sink out a) t (from (i + 1) (count - (i + 1))))
                ∙ ap (λ (k : ℕ). emit (sink out a) (t ++ from k (count - (i + 1)))) next
                ∙ ap (emit (sink out a)) (sym (from_more i (count - i) (count - (i + 1)) (omega arith) is.0)) ∙ w.work;
          }

      pub rows_refused : PrintedTo (line_row view line i) out a out' (Err n) → (out'' : List ℕ) (r : ℕ) → sink out'' r ≡ emit (sink out' a) (refusal_text name number n) → sink out'' r ≡ emit (sink out₀ at₀) (from 0 count)
      rows_refused is out'' r f =
          let differs : (line_row view line i).number ≢ 0 = λ z. is.1 (sym is.0 ∙ z) in
          f ∙ ap₂ (λ (o : List ℕ) (k : ℕ). emit (sink o a) (refusal_text name number k)) is.2 (sym is.0)
          ∙ ap (emit (sink out a)) (sym (from_refused i (count - i) (count - (i + 1)) (omega arith) differs)) ∙ w.work

-- ---- push_line

module _ (name : List ℕ) (number : ℕ) (view : View) (line : List ℕ) where
  abbrev window : List ℕ
  window = rows_from name number view line 0 1

  abbrev wrapped : Read → List ℕ
  wrapped h = all_rows name number view line h

  abbrev chosen : Bool → Bool → List ℕ
  chosen a b = cond a window (cond b (spans_text name number line) (wrapped (height_of view line)))

  line_chosen : {a b : Bool} → eqb view.mode 0 ≡ a → eqb view.mode 5 ≡ b → chosen a b ≡ line_text name number view line
  unfolding line_text
  line_chosen e f = sym (ap₂ chosen e f)

  rows_text : (h : Read) → h.number ≡ 0 → rows_from name number view line 0 h.count ≡ wrapped h
  unfolding all_rows
  rows_text h e = sym (ap (λ (b : Bool). cond b (rows_from name number view line 0 h.count) (refusal_text name number h.number)) (eq-eqb h.number 0 e))

  refusal_text_law : (h : Read) → (h.number ≢ 0) → refusal_text name number h.number ≡ wrapped h
  unfolding all_rows
  refusal_text_law h e = sym (ap (λ (b : Bool). cond b (rows_from name number view line 0 h.count) (refusal_text name number h.number)) (ne_eqb h.number 0 e))

  module _ (s z : Sink ℕ) where
    pub line_window : view.mode ≡ 0 → z ≡ emit s (rows_from name number view line 0 1) → z ≡ emit s (line_text name number view line)
    line_window e p = p ∙ ap (emit s) (line_chosen (eq-eqb view.mode 0 e) refl)

    pub line_spans : (view.mode ≢ 0) → view.mode ≡ 5 → z ≡ emit s (spans_text name number line) → z ≡ emit s (line_text name number view line)
    line_spans d e p = p ∙ ap (emit s) (line_chosen (ne_eqb view.mode 0 d) (eq-eqb view.mode 5 e))

    module _ (h : Answer) (is : AnswerOf (height_of view line) h) (d : view.mode ≢ 0) (d' : view.mode ≢ 5) where
      wrapped_text : wrapped (height_of view line) ≡ line_text name number view line
      wrapped_text = line_chosen (ne_eqb view.mode 0 d) (ne_eqb view.mode 5 d')

      pub line_rows : h.number ≡ 0 → z ≡ emit s (rows_from name number view line 0 h.count) → z ≡ emit s (line_text name number view line)
      line_rows e p =
          p ∙ ap (λ (n : ℕ). emit s (rows_from name number view line 0 n)) is.count
          ∙ ap (emit s) (rows_text (height_of view line) (sym is.number ∙ e) ∙ wrapped_text)

      pub line_refused : (h.number ≢ 0) → z ≡ emit s (refusal_text name number h.number) → z ≡ emit s (line_text name number view line)
      line_refused e p =
          p ∙ ap (λ (n : ℕ). emit s (refusal_text name number n)) is.number
          ∙ ap (emit s) (refusal_text_law (height_of view line) (λ x. e (is.number ∙ x)) ∙ wrapped_text)
