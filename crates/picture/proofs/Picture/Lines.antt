-- The row picture of every accepted line, and paging: its spans are as the row picture asks, its columns fit mode 0's row, and its rows question 5.
use Rattle.std.specs.Prelude.{◌≡◌, ℕ, ◌+◌, ◌*◌, ◌≤◌}
use Rattle.std.proofs.Math.Path.{refl, sym}
use Rattle.std.proofs.Common.{ap, ◌∙◌, length-drop, length-take}
use native.Mathlib.Omega.{arith}
use mathlib.Core.List.{List, [], ◌∷◌}
use Rattle.std.proofs.Math.Option.{none, some}
use Rattle.std.proofs.Math.ListN.{length, get_or}
use Rattle.std.proofs.Math.Seq.{slice}
use Rattle.text.specs.Each.{All, all_nil, all_cons, all_both, all_map}
use Rattle.text.specs.Utf8.{Scalar, Piece, run, damaged}
use Rattle.text.specs.Utf8.Runs.{run_few}
use Rattle.text.specs.Class.{Profile}
use Rattle.text.specs.Width.{width_of}
use Rattle.text.specs.Width.Laws.{width_few}
use Rattle.text.specs.Overstrike.{convert}
use Rattle.text.specs.Overstrike.Bytes.{Byte, converted_bytes, byte_at}
use Rattle.text.specs.Overstrike.Length.{convert_size}
use Rattle.spans.specs.Spans.{Content, text, control, invalid, unprintable, escape, tab, crlf, lf, Span, spans, kind_of, record_of}
use Rattle.spans.specs.Spans.Laws.{unmatched_spans}
use Rattle.spans.specs.Spans.PlainClusters.{plain_wide}
use Rattle.spans.specs.Spans.TextClusters.{TextClusters, PlainPiece, spans_texts}
use Rattle.spans.specs.Spans.ContentLaw.{content_of, content}
use Rattle.spans.specs.Spans.ContentKinds.{scalars_of, text_content, match_content, control_content, invalid_content, unprintable_content}
use Rattle.spans.specs.Spans.SpanCount.{few}
use Rattle.spans.specs.Calls.Laws.{read_passed}
use Rattle.rows.specs.Marks.{drawn_columns}
use Rattle.rows.specs.Marks.Laws.{mark_small}
use Rattle.columns.specs.Columns.{span_columns, last_column_from}
use Rattle.columns.specs.Heights.Proof.{rows_of_bytes}
use Rattle.picture.specs.Conditions.{Unshared, UnsharedPiece, UnsharedLine, Drawable}
use Rattle.picture.specs.Picture.{RowsShowLines, PagingShowsLines}
use Rattle.picture.proofs.Picture.AnyProfile.{row_picture}
use Rattle.picture.specs.Picture.Calls.{paging}

-- ---- clusters

module _ (P : Profile) where
  -- a cluster of some width in which whitespace and hyphens are unshared
  abbrev Good : List Scalar → Type 0
  Good g = (1 ≤ width_of P g) × Unshared P g

  good_piece : (x : Piece) → UnsharedPiece P x → PlainPiece P Good x
  good_piece (run s) (UnsharedPiece.run u) = all_map (λ g h k. (plain_wide P g k, h)) u
  good_piece (damaged b) u = tt

  spans_good : (s : List ℕ) → UnsharedLine P s → All (TextClusters P Good) (spans P s)
  spans_good s u = spans_texts P Good s (all_map good_piece u)

-- ---- bytes

module _ (P : Profile) (line : List ℕ) (bytes : All Byte line) (x : Span) (held : content_of line (record_of x) ≡ x.content) where
  drawable : TextClusters P (Good P) x → Drawable P x.content
  unfolding record_of
  drawable t = record {
    wide = λ m s i. all_map (λ g h. h.0) (t m s i);
    unshared = λ m s i. all_map (λ g h. h.1) (t m s i);
    control = λ b i. let e : control (get_or line x.place 0) ≡ control b = sym (control_content line (record_of x) (ap kind_of i)) ∙ held ∙ i in let j : get_or line x.place 0 ≡ b = cc in rw (← j) (byte_at bytes x.place);
    invalid = λ b i. let e : invalid (get_or line x.place 0) ≡ invalid b = sym (invalid_content line (record_of x) (ap kind_of i)) ∙ held ∙ i in let j : get_or line x.place 0 ≡ b = cc in rw (← j) (byte_at bytes x.place);
  }

-- ---- columns

slice_few : (line : List ℕ) (a b : ℕ) → length (slice a b line) ≤ length line
slice_few line a b = simp (length-drop, length-take) (omega arith)

drawn_few : (s : List Scalar) → drawn_columns s ≤ 10 * length s
unfolding drawn_columns
drawn_few [] = omega arith
drawn_few (c ∷ s) = omega (arith, mark_small c.code, drawn_few s)

module _ (P : Profile) (narrow : (v : ℕ) → P.width v ≤ 2) where
  -- a span takes few columns
  span_few : (line : List ℕ) → length line ≤ 0x8000 → (x : Span) → content_of line (record_of x) ≡ x.content → (p : ℕ) → span_columns P drawn_columns p x.content ≤ 0x60000
  unfolding span_columns record_of
  span_few line h x held p = by x.content refl
    where
      scalars : (s : List Scalar) → scalars_of line (record_of x) ≡ s → length s ≤ 0x8000
      scalars s e = rw (← e) (omega (arith, run_few (slice x.place (x.place + x.len) line), slice_few line x.place (x.place + x.len)))

      by : (c : Content) → x.content ≡ c → span_columns P drawn_columns p c ≤ 0x60000
      by (text none s) i = let e : text none (scalars_of line (record_of x)) ≡ text none s = sym (text_content line (record_of x) (ap kind_of i)) ∙ held ∙ i in omega (arith, width_few P narrow s, scalars s (cc))
      by (text (some k) s) i = let e : text (some _) (scalars_of line (record_of x)) ≡ text (some k) s = sym (match_content line (record_of x) (ap kind_of i)) ∙ held ∙ i in omega (arith, width_few P narrow s, scalars s (cc))
      by (control b) i = omega arith
      by (invalid b) i = omega arith
      by (unprintable s) i = let e : unprintable (scalars_of line (record_of x)) ≡ unprintable s = sym (unprintable_content line (record_of x) (ap kind_of i)) ∙ held ∙ i in omega (arith, drawn_few s, scalars s (cc))
      by (escape e) i = omega arith
      by tab i = omega arith
      by crlf i = omega arith
      by lf i = omega arith

  last_few : {ss : List Span} → All (λ (x : Span). (p : ℕ) → span_columns P drawn_columns p x.content ≤ 0x60000) ss → (p : ℕ) → last_column_from P drawn_columns p ss ≤ p + 0x60000 * length ss
  unfolding last_column_from
  last_few all_nil p = omega arith
  last_few (all_cons {a = x} f a) p = omega (arith, f p, last_few a (p + span_columns P drawn_columns p x.content))

-- ---- lines

pub rows_show_lines : (P : Profile) → RowsShowLines P
rows_show_lines P composed classes narrow line bytes conv places e u =
    let s : List ℕ = convert P line in
    let y = read_passed P conv places [] line e in
    let l : length s ≤ 0x8000 = omega (arith, y.short, convert_size P line) in
    let held : All (λ (x : Span). content_of s (record_of x) ≡ x.content) (spans P s) = rw (unmatched_spans P s) at (content P [] s) in
    let k = rw (unmatched_spans P s) at (few P [] s y.ordered) in
    row_picture P composed classes (spans P s) (all_map (λ x h. drawable P s (converted_bytes P line bytes) x h.0 h.1) (all_both held (spans_good P s u)))
    (omega (arith, last_few P narrow (all_map (λ x h. span_few P narrow s l x h) held) 0))

-- a line has at most 8,193 rows, and question 5 admits 65,536
pub paging_shows_lines : (P : Profile) → PagingShowsLines P
paging_shows_lines P ascii composed classes narrow line bytes conv places e u =
    paging P conv places line e (rows_show_lines P composed classes narrow line bytes conv places e u) (λ width mode. omega (arith, (read_passed P conv places [] line e).short, rows_of_bytes P ascii width mode line))
