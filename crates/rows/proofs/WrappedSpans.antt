-- One span, by its kind; all spans, one after the other.
use mathlib.Core.Path.{◌≡◌, refl, sym, ap, ◌∙◌}
use mathlib.Core.Logic.{◌≢◌, ◌⊎◌, inl, inr}
use Prim.Native.Nat.{ℕ, ◌+◌, ◌*◌, ◌≤◌, ◌<◌}
use native.Mathlib.Numerals.{add-one}
use native.Mathlib.Omega.{arith}
use mathlib.Core.Bool.{true, false, ◌||◌}
use mathlib.Core.List.{List, [], ◌∷◌}
use lib.ListN.{length, drop, take, get_or, length-drop, length-take, drop_of_length-le}
use lib.Seq.{drop-cons}
use lib.Dec.{eqb}
use borrow.Author.Tests.{eq-eqb, ne_eqb, eqb-false}
use Rattle.text.specs.Tests.{cases}
use Rattle.text.specs.Class.{Profile}
use Rattle.spans.specs.Spans.{Record}
use Rattle.spans.specs.Spans.Kinds.{number_of_kind, NamesNoKind}
use Rattle.spans.specs.declared.kind.SpanKind.{SpanKind}
use Rattle.spans.specs.Spans.ContentLaw.{text_in}
use Rattle.spans.specs.Calls.{no_record}
use Rattle.rows.specs.Rows.{Wrap, tabbed}
use Rattle.rows.specs.Rows.Laws.{Natural, unbroken_over, tabbed_over, split_text_over}
use Rattle.text.specs.TextParts.{text_at}
use Rattle.rows.specs.Wrap.{wrap_rows, on, Stepped, unbroken_of, text_of, word_mode, count_of, record_in, span_of, spans_of, last_row_list, LastRow, SpanRoom, SpansRoom, MadeWrap}
use Rattle.rows.specs.declared.wrap.RowCounts.{RowCounts}
use Rattle.rows.specs.declared.wrap.WrapState.{WrapState}
use Rattle.rows.proofs.WrappedTexts.{renamed, on_id, turn, done}

-- ---- the bytes of a record

-- ---- one span

either : (n a : ℕ) → a ≤ n → n ≤ a + 1 → (eqb n a || eqb n (a + 1)) ≡ true
either n a h k = cases (eqb n a) (λ t. rw t) (λ t. rw (t, eq-eqb n (a + 1) (omega (arith, eqb-false n a t))))

neither : (n a : ℕ) → (n ≢ a) → (n ≢ a + 1) → (eqb n a || eqb n (a + 1)) ≡ false
neither n a h k = rw (ne_eqb n a h, ne_eqb n (a + 1) k)

-- a kind of which no row is made
record Silent (n : ℕ) : Type 0 where
  text : n ≢ 1
  matched : n ≢ 2
  control : n ≢ 3
  invalid : n ≢ 4
  unprintable : n ≢ 5
  tab : n ≢ 10

high : (n : ℕ) → 6 ≤ n → (n ≢ 10) → Silent n
high n h t = record { text = λ z. omega arith; matched = λ z. omega arith; control = λ z. omega arith; invalid = λ z. omega arith; unprintable = λ z. omega arith; tab = t }

silent : (k : SpanKind) (n : ℕ) → number_of_kind k ≡ n → (k ≡ SpanKind.Text → ⊥) → (k ≡ SpanKind.Match → ⊥) → (k ≡ SpanKind.Control → ⊥) → (k ≡ SpanKind.Invalid → ⊥) → (k ≡ SpanKind.Unprintable → ⊥) → (k ≡ SpanKind.Tab → ⊥) → Silent n
silent SpanKind.Text n q a b c d e f = absurd (a refl)
silent SpanKind.Match n q a b c d e f = absurd (b refl)
silent SpanKind.Control n q a b c d e f = absurd (c refl)
silent SpanKind.Invalid n q a b c d e f = absurd (d refl)
silent SpanKind.Unprintable n q a b c d e f = absurd (e refl)
silent SpanKind.SgrSequence n q a b c d e f = high n (omega arith) (λ z. omega arith)
silent SpanKind.Hyperlink n q a b c d e f = high n (omega arith) (λ z. omega arith)
silent SpanKind.LineDrawing n q a b c d e f = high n (omega arith) (λ z. omega arith)
silent SpanKind.Ignore n q a b c d e f = high n (omega arith) (λ z. omega arith)
silent SpanKind.Tab n q a b c d e f = absurd (f refl)
silent SpanKind.CrLf n q a b c d e f = high n (omega arith) (λ z. omega arith)
silent SpanKind.Lf n q a b c d e f = high n (omega arith) (λ z. omega arith)
silent SpanKind.EraseToEndOfLine n q a b c d e f = high n (omega arith) (λ z. omega arith)

module _ (P : Profile) (width mode : ℕ) (line : List ℕ) (r : Record) (l : List ℕ) (t : WrapState) (there : SpanRoom line t) where
  abbrev len : ℕ
  len = length line

  pub span_unwrapped : mode ≡ 0 → Stepped l t (span_of P width mode line r) (10 * len + 8) (2 * len + 1) l t
  unfolding span_of
  span_unwrapped e =
      record { same = sym (on_id (span_of P width mode line r) (wrap_rows l t) (λ w. rw (eq-eqb mode 0 e))); low = there.low; near = omega arith; more = omega arith }

  module _ (e : mode ≢ 0) where
    by_kind : (f : Wrap → Wrap) (n m : ℕ) (l' : List ℕ) (t' : WrapState) → ((w : Wrap) → f w ≡ record_in P (count_of mode) width (word_mode mode) line r w) → n ≤ 10 * len + 8 → m ≤ 2 * len + 1
        → Stepped l t f n m l' t' → Stepped l t (span_of P width mode line r) (10 * len + 8) (2 * len + 1) l' t'
    unfolding span_of
    by_kind f n m l' t' q a b s = renamed l l' t t' f (span_of P width mode line r) n m _ _ (λ w. q w ∙ rw (ne_eqb mode 0 e)) a b s

    pub span_text_law : (text l' : List ℕ) (t' : WrapState) → text ≡ take r.len (drop r.place.0 line) → 1 ≤ r.kind → r.kind ≤ 2
        → Stepped l t (text_of P width (word_mode mode) (text_at text 0)) (2 * length text) (2 * length text) l' t' → Stepped l t (span_of P width mode line r) (10 * len + 8) (2 * len + 1) l' t'
    unfolding record_in text_of text_in
    span_text_law text l' t' q h k s =
        let n : length text ≤ len = rw (q, length-take, length-drop) (omega arith) in
        by_kind (text_of P width (word_mode mode) (text_at text 0)) (2 * length text) (2 * length text) l' t' (λ w. rw (either r.kind 1 h k, q)) (omega arith) (omega arith) s

    pub span_mark : (l' : List ℕ) (t' : WrapState) → 3 ≤ r.kind → r.kind ≤ 4 → Stepped l t (unbroken_of width 4) 4 1 l' t' → Stepped l t (span_of P width mode line r) (10 * len + 8) (2 * len + 1) l' t'
    unfolding record_in unbroken_of
    span_mark l' t' h k s = by_kind (unbroken_of width 4) 4 1 l' t' (λ w. rw (neither r.kind 1 (λ x. omega arith) (λ x. omega arith), either r.kind 3 h k)) (omega arith) (omega arith) s

    pub span_unprintable : (text l' : List ℕ) (t' : WrapState) → text ≡ take r.len (drop r.place.0 line) → r.kind ≡ 5
        → Stepped l t (unbroken_of width (count_of mode (text_at text 0))) (10 * length text + 8) 1 l' t' → Stepped l t (span_of P width mode line r) (10 * len + 8) (2 * len + 1) l' t'
    unfolding record_in unbroken_of text_in
    span_unprintable text l' t' q k s =
        let n : length text ≤ len = rw (q, length-take, length-drop) (omega arith) in
        by_kind (unbroken_of width (count_of mode (text_at text 0))) (10 * length text + 8) 1 l' t' (λ w. rw (k, q)) (omega arith) (omega arith) s

    pub span_tab : (l' : List ℕ) (t' : WrapState) → r.kind ≡ 10 → Stepped l t (tabbed width) 8 1 l' t' → Stepped l t (span_of P width mode line r) (10 * len + 8) (2 * len + 1) l' t'
    unfolding record_in
    span_tab l' t' k s = by_kind (tabbed width) 8 1 l' t' (λ w. rw k) (omega arith) (omega arith) s

    span_none : Silent r.kind → Stepped l t (span_of P width mode line r) (10 * len + 8) (2 * len + 1) l t
    unfolding record_in
    span_none n =
        by_kind (λ w. w) 0 0 l t (λ w. rw (ne_eqb r.kind 1 n.text, ne_eqb r.kind 2 n.matched, ne_eqb r.kind 3 n.control, ne_eqb r.kind 4 n.invalid, ne_eqb r.kind 5 n.unprintable, ne_eqb r.kind 10 n.tab)) (omega arith) (omega arith)
        (record { same = sym (on_id (λ w. w) (wrap_rows l t) (λ w. refl)); low = there.low; near = omega arith; more = omega arith })

    -- the same by a kind's name
    module _ (k : SpanKind) (named : number_of_kind k ≡ r.kind) where
      pub in_text : (text l' : List ℕ) (t' : WrapState) → text ≡ take r.len (drop r.place.0 line) → (k ≡ SpanKind.Text) ⊎ (k ≡ SpanKind.Match)
          → Stepped l t (text_of P width (word_mode mode) (text_at text 0)) (2 * length text) (2 * length text) l' t' → Stepped l t (span_of P width mode line r) (10 * len + 8) (2 * len + 1) l' t'
      in_text text l' t' q o s =
          let h : (1 ≤ r.kind) × (r.kind ≤ 2) = elim o [ inl e ↦ (let n = rw e at named in (omega arith, omega arith)) | inr e ↦ (let n = rw e at named in (omega arith, omega arith)) ] in
          span_text_law text l' t' q h.0 h.1 s

      pub in_mark : (l' : List ℕ) (t' : WrapState) → (k ≡ SpanKind.Control) ⊎ (k ≡ SpanKind.Invalid) → Stepped l t (unbroken_of width 4) 4 1 l' t'
          → Stepped l t (span_of P width mode line r) (10 * len + 8) (2 * len + 1) l' t'
      in_mark l' t' o s =
          let h : (3 ≤ r.kind) × (r.kind ≤ 4) = elim o [ inl e ↦ (let n = rw e at named in (omega arith, omega arith)) | inr e ↦ (let n = rw e at named in (omega arith, omega arith)) ] in
          span_mark l' t' h.0 h.1 s

      pub in_unprintable : (text l' : List ℕ) (t' : WrapState) → text ≡ take r.len (drop r.place.0 line) → k ≡ SpanKind.Unprintable
          → Stepped l t (unbroken_of width (count_of mode (text_at text 0))) (10 * length text + 8) 1 l' t' → Stepped l t (span_of P width mode line r) (10 * len + 8) (2 * len + 1) l' t'
      in_unprintable text l' t' q e s = let n = rw e at named in span_unprintable text l' t' q (omega arith) s

      pub in_tab : (l' : List ℕ) (t' : WrapState) → k ≡ SpanKind.Tab → Stepped l t (tabbed width) 8 1 l' t' → Stepped l t (span_of P width mode line r) (10 * len + 8) (2 * len + 1) l' t'
      in_tab l' t' e s = let n = rw e at named in span_tab l' t' (omega arith) s

      pub in_others : (k ≡ SpanKind.Text → ⊥) → (k ≡ SpanKind.Match → ⊥) → (k ≡ SpanKind.Control → ⊥) → (k ≡ SpanKind.Invalid → ⊥) → (k ≡ SpanKind.Unprintable → ⊥) → (k ≡ SpanKind.Tab → ⊥)
          → Stepped l t (span_of P width mode line r) (10 * len + 8) (2 * len + 1) l t
      in_others a b c d e f = span_none (silent k r.kind named a b c d e f)

    pub in_none : NamesNoKind r.kind → Stepped l t (span_of P width mode line r) (10 * len + 8) (2 * len + 1) l t
    in_none h =
        span_none
        (record {
          text = λ z. (let g : 13 < r.kind = h (omega arith) in omega arith);
          matched = λ z. (let g : 13 < r.kind = h (omega arith) in omega arith);
          control = λ z. (let g : 13 < r.kind = h (omega arith) in omega arith);
          invalid = λ z. (let g : 13 < r.kind = h (omega arith) in omega arith);
          unprintable = λ z. (let g : 13 < r.kind = h (omega arith) in omega arith);
          tab = λ z. (let g : 13 < r.kind = h (omega arith) in omega arith);
        })

-- ---- all spans

module _ (P : Profile) (width mode : ℕ) (line : List ℕ) where
  span_of_over : (r : Record) → Natural (span_of P width mode line r)
  unfolding span_of record_in
  span_of_over r rs t =
      cases (eqb mode 0) (λ e. rw e)
      (λ e. cases (eqb r.kind 1 || eqb r.kind 2) (λ a. rw (e, a) (split_text_over P width (word_mode mode) _ rs t))
      (λ a. cases (eqb r.kind 3 || eqb r.kind 4) (λ b. rw (e, a, b) (unbroken_over width 4 rs t))
      (λ b. cases (eqb r.kind 5) (λ c. rw (e, a, b, c) (unbroken_over width _ rs t))
      (λ c. cases (eqb r.kind 10) (λ d. rw (e, a, b, c, d) (tabbed_over width rs t)) (λ d. rw (e, a, b, c, d))))))

  spans_of_over : (xs : List Record) → Natural (spans_of P width mode line xs)
  unfolding spans_of
  spans_of_over [] rs t = refl
  spans_of_over (r ∷ xs) rs t = ap (spans_of P width mode line xs) (span_of_over r rs t) ∙ spans_of_over xs rs (span_of P width mode line r t)

  spans_of_more : (xs ys : List Record) (r : Record) → xs ≡ r ∷ ys → (t : Wrap) → spans_of P width mode line xs t ≡ spans_of P width mode line ys (span_of P width mode line r t)
  unfolding spans_of
  spans_of_more xs ys r e t = rw e

  spans_of_none : (xs : List Record) → xs ≡ [] → (t : Wrap) → spans_of P width mode line xs t ≡ t
  unfolding spans_of
  spans_of_none xs e t = rw e

-- the loop over the spans
pub record Spanning (P : Profile) (width mode : ℕ) (line : List ℕ) (spans : List Record) (l₀ : List ℕ) (t₀ : WrapState) (i : ℕ) (l : List ℕ) (t : WrapState) : Type 0 where
  pub inside : i ≤ length spans
  pub work : on (spans_of P width mode line (drop i spans)) (wrap_rows l t) ≡ on (spans_of P width mode line spans) (wrap_rows l₀ t₀)
  pub low : t.start.0 ≤ t.position.0
  pub near : t.position.0 ≤ t₀.position.0 + 327688 * i
  pub more : t.tally.count ≤ t₀.tally.count + 65537 * i

module _ (P : Profile) (width mode : ℕ) (line : List ℕ) (spans : List Record) (l₀ : List ℕ) (t₀ : WrapState) (room : SpansRoom spans line t₀) where
  pub spans_begin : Spanning P width mode line spans l₀ t₀ 0 l₀ t₀
  spans_begin = record { inside = omega arith; work = refl; low = room.low; near = omega arith; more = omega arith }

  module _ (i : ℕ) (l : List ℕ) (t : WrapState) (s : Spanning P width mode line spans l₀ t₀ i l t) where
    pub turn_room : i < length spans → SpanRoom line t
    turn_room h = record { low = s.low; room = omega (arith, s.near, room.near, room.few, room.short) }

    next_span : i < length spans → drop i spans ≡ get_or spans i no_record ∷ drop (i + 1) spans
    next_span h = rw add-one (drop-cons spans i no_record h)

    pub spans_turn : (l' : List ℕ) (t' : WrapState) → i < length spans
        → Stepped l t (span_of P width mode line (get_or spans i no_record)) (10 * length line + 8) (2 * length line + 1) l' t'
        → Spanning P width mode line spans l₀ t₀ (i + 1) l' t'
    spans_turn l' t' h k =
        record {
          inside = omega arith;
          work = turn (spans_of P width mode line (drop i spans)) (wrap_rows l t) s.work (span_of P width mode line (get_or spans i no_record)) (spans_of P width mode line (drop (i + 1) spans)) (wrap_rows l' t')
              (spans_of_more P width mode line (drop i spans) (drop (i + 1) spans) (get_or spans i no_record) (next_span h)) (spans_of_over P width mode line (drop (i + 1) spans)) k.same;
          low = k.low;
          near = omega (arith, k.near, s.near, room.short);
          more = omega (arith, k.more, s.more, room.short);
        }

    pub spans_end : (l' : List ℕ) (r : RowCounts) → i ≡ length spans → LastRow l t mode l' r → MadeWrap P width mode line spans l₀ t₀ l' r
    spans_end l' r e k =
        let z : drop i spans ≡ [] = drop_of_length-le spans {i = i} (omega arith) in
        record {
          same = k.same ∙ ap (last_row_list mode) (done (spans_of P width mode line (drop i spans)) (wrap_rows l t) s.work (spans_of_none P width mode line (drop i spans) z));
          more = omega (arith, k.more, s.more, room.more, room.few);
        }
