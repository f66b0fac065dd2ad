-- A hyperlink that was read has the form.
use Rattle.std.specs.Prelude.{◌≡◌, refl, ℕ, ◌+◌, ◌<◌, true, List, [], ◌∷◌, ◌++◌, length, take, drop, get_or}
use Rattle.std.proofs.Common.{sym, ap, ◌∙◌, arith, append_assoc, length-append, length-drop, take-append-drop, take_at, drop_at, length-take-le, get_or-append-add}
use Rattle.text.specs.Each.{All, all_cons, all_split, all_first}
use Rattle.text.specs.Utf8.{Scalar, bytes_of}
use Rattle.text.specs.Utf8.Ascii.{Split, ascii_splits}
use Rattle.text.specs.Utf8.Laws.{bytes_of_append}
use Rattle.text.specs.Utf8.Valid.{Valid, run_text}
use Rattle.text.specs.Class.{Profile}
use Rattle.text.specs.Class.Ascii.{printable_range}
use Rattle.text.specs.Cluster.Printable.{Printable}
use Rattle.spans.specs.Sequence.{Sequence, hyperlink, id_byte}
use Rattle.spans.specs.Sequence.Laws.{Terminator, bel, st, Hyperlink, parse_hyperlink}
use Rattle.spans.specs.Spans.{Span, span, escape}
use Rattle.spans.specs.Spans.ContentLaw.{SequenceAt, sequences}
use Rattle.crew.specs.Crew.Hyperlinks.{Linked, opening, Opening, Form}
use Rattle.crew.specs.Crew.SameSpans.{end_some}

same_parts : (a b x y : List ℕ) → a ++ x ≡ b ++ y → length a ≡ length b → (a ≡ b) × (x ≡ y)
same_parts a b x y e n = (
  sym (take_at a x (length a) refl) ∙ ap (take (length a)) e ∙ take_at b y (length a) (sym n),
  sym (drop_at a x (length a) refl) ∙ ap (drop (length a)) e ∙ drop_at b y (length a) (sym n),
)

-- ---- the text up to the URI

low_first : (u : List ℕ) {end : List ℕ} (rest : List ℕ) → Printable u → Terminator end → get_or (u ++ (end ++ rest)) 0 0 < 0x80
low_first [] rest h bel = omega arith
low_first [] rest h st = omega arith
low_first (b ∷ u) rest (all_cons e h) t = omega (arith, (printable_range b e).1)

opening_by : {t : List Scalar} {n b : ℕ} (id y : List ℕ) (x : Split t n b) → n ≡ length (opening id) → All Valid t → bytes_of t ≡ opening id ++ y → All (λ (b : ℕ). id_byte b ≡ true) id → Opening id
opening_by id y x n v e i =
    let z : List Scalar = x.here ∷ x.behind in
    record {
      text = x.before;
      bytes = (same_parts (bytes_of x.before) (opening id) (bytes_of z) y (sym (bytes_of_append x.before z) ∙ ap bytes_of (sym x.text) ∙ e) (x.size ∙ n)).0;
      valid = (all_split x.before (rw x.text at v)).0;
      ids = i;
    }

opening_of : (t : List Scalar) (id u : List ℕ) {end : List ℕ} (rest : List ℕ) → All Valid t → Printable u → Terminator end → bytes_of t ≡ opening id ++ (u ++ (end ++ rest)) → All (λ (b : ℕ). id_byte b ≡ true) id → Opening id
opening_of t id u {end} rest v h k e =
    let y : List ℕ = u ++ (end ++ rest) in
    let n : ℕ = length (opening id) + 0 in
    let b : get_or (bytes_of t) n 0 ≡ get_or y 0 0 = ap (λ (l : List ℕ). get_or l n 0) e ∙ get_or-append-add (opening id) y 0 0 in
    let i : n < length (bytes_of t) = omega (arith, simp length-append at (ap length e), length-append id (0x3B ∷ []), end_some k) in
    let x : Split t n (get_or (bytes_of t) n 0) = rw (run_text v) at (ascii_splits (bytes_of t) n (rw (run_text v) i) (rw b (low_first u rest h k))) in
    opening_by id y x (omega arith) v e

-- ---- the line

module _ (P : Profile) (p u s : List ℕ) (h : Printable u) where
  abbrev line : List ℕ
  line = p ++ (u ++ s)

  form_at : (place at n : ℕ) (o : SequenceAt line place (hyperlink at (length u))) → Hyperlink (bytes_of o.text) at (length u) n → place + at ≡ length p → Form p s
  form_at place at n o f e =
      let q : List ℕ = take place line in
      let a : List ℕ = opening f.id in
      let y : List ℕ = f.uri ++ (f.end ++ (f.rest ++ o.rest)) in
      let t : bytes_of o.text ≡ a ++ (f.uri ++ (f.end ++ f.rest)) = f.bytes ∙ simp append_assoc in
      let d : drop place line ≡ 0x1B ∷ (a ++ y) = o.bytes ∙ ap (λ (z : List ℕ). 0x1B ∷ (z ++ o.rest)) t ∙ simp append_assoc in
      let size : length q ≡ place = length-take-le place line (omega (arith, length-drop place line, ap length d)) in
      let whole : line ≡ (q ++ 0x1B ∷ a) ++ y = sym (take-append-drop place line) ∙ ap (λ (z : List ℕ). q ++ z) d ∙ sym (append_assoc q (0x1B ∷ a) y) in
      let b = same_parts p (q ++ 0x1B ∷ a) (u ++ s) y whole (simp length-append (omega (arith, f.place))) in
      let c = same_parts u f.uri s (f.end ++ (f.rest ++ o.rest)) b.1 f.size in
      record {
        before = q;
        id = f.id;
        end = f.end;
        rest = f.rest ++ o.rest;
        opens = opening_of o.text f.id f.uri f.rest o.valid (rw c.0 at h) f.terminator t f.ids;
        start = b.0;
        terminator = f.terminator;
        behind = c.1;
      }

  pub linked_form : Linked P line (length p) (length u) → Form p s
  linked_form x =
      let a : All (λ (s : Span). (e : Sequence) → s.content ≡ escape e → SequenceAt line s.place e) (x.before ++ span x.place x.len (escape (hyperlink x.at (length u))) ∷ x.behind) = rw x.read at (sequences P line) in
      let o = all_first (all_split x.before a).1 (hyperlink x.at (length u)) refl in
      form_at x.place x.at o.len o (parse_hyperlink (bytes_of o.text) x.at (length u) o.len o.parses) x.uri
