-- Another URI of the same length in a URI's stead changes no span.
use Rattle.std.specs.Prelude.{◌≡◌, refl, ℕ, suc, ◌+◌, ◌-◌, true, List, [], ◌∷◌, ◌++◌, length}
use Rattle.std.proofs.Common.{sym, ap, ap₂, ◌∙◌, zero-le, arith, append_assoc, length-append, le-leb, ne_eqb}
use Rattle.std.proofs.Math.Option.{none}
use Rattle.text.specs.Each.{All, all_cons, all_append, all_map}
use Rattle.text.specs.Utf8.{Scalar, ascii, asciis, decode, Decoded, run, runs, run_of, bytes_of}
use Rattle.text.specs.Utf8.Ascii.{ascii_run}
use Rattle.text.specs.Utf8.AsciiTexts.{ascii_valid, asciis_bytes, asciis_cons, asciis_nil, asciis_valid}
use Rattle.text.specs.Utf8.Laws.{bytes_cons, bytes_of_append}
use Rattle.text.specs.Utf8.Runs.{after_run, runs_around}
use Rattle.text.specs.Utf8.Separation.{decode_apart}
use Rattle.text.specs.Utf8.Valid.{decode_text}
use Rattle.text.specs.Class.{Profile}
use Rattle.text.specs.Class.Ascii.{AsciiClasses, printable_range}
use Rattle.text.specs.Cluster.{clusters, join_all}
use Rattle.text.specs.Cluster.Ascii.{c0_cluster}
use Rattle.text.specs.Cluster.Appended.{clusters_split}
use Rattle.text.specs.Cluster.Laws.{clusters_all}
use Rattle.text.specs.Cluster.Printable.{Printable}
use Rattle.text.specs.Segmentation.Boundaries.{lone_joins}
use Rattle.spans.specs.Sequence.{hyperlink, uri_byte, parse}
use Rattle.spans.specs.Sequence.Hyperlink.{parse_form}
use Rattle.spans.specs.Sequence.Laws.{Terminator, bel, st}
use Rattle.spans.specs.Spans.{Span, span, escape, read_from, spans}
use Rattle.spans.specs.Spans.AroundSequences.{esc, read_behind, read_sequence, read_before, spans_alike}
use Rattle.crew.specs.Crew.Hyperlinks.{opening, Form}

printable_uri : {u : List ℕ} → Printable u → All (λ (b : ℕ). uri_byte b ≡ true) u
printable_uri a = all_map (λ b e. let r = printable_range b e in rw (le-leb 0x20 b r.0, ne_eqb b 0x7F (λ z. omega (arith, r.1))) refl) a

-- ---- the terminator

end_run : {end : List ℕ} (rest : List ℕ) → Terminator end → run_of (decode (end ++ rest)) ≡ asciis end ++ run_of (decode rest)
end_run rest bel = rw (asciis_cons 0x07 [], asciis_nil) (ascii_run 0x07 rest (omega arith))
end_run rest st =
    rw (asciis_cons 0x1B (0x5C ∷ []), asciis_cons 0x5C [], asciis_nil) (ascii_run 0x1B (0x5C ∷ rest) (omega arith) ∙ ap (λ (t : List Scalar). ascii 0x1B ∷ t) (ascii_run 0x5C rest (omega arith)))

pub end_some : {end : List ℕ} → Terminator end → length end ≡ suc (length end - 1)
end_some bel = refl
end_some st = refl

module _ (P : Profile) (A : AsciiClasses P) where
  -- an ESC is a cluster by itself, and a terminator begins one
  escape_clusters : (w x : List Scalar) → clusters P (w ++ ascii 0x1B ∷ x) ≡ clusters P w ++ (esc ∷ clusters P x)
  escape_clusters w x =
      clusters_split P (ascii 0x1B) x (lone_joins P A (ascii 0x1B) refl) w ∙ ap (λ (gs : List (List Scalar)). clusters P w ++ gs) (c0_cluster P A 0x1B x (omega arith) (λ e. omega arith))

  end_clusters : {end : List ℕ} (x r : List Scalar) → Terminator end → clusters P (x ++ (asciis end ++ r)) ≡ clusters P x ++ clusters P (asciis end ++ r)
  end_clusters x r bel = rw (asciis_cons 0x07 []) (clusters_split P (ascii 0x07) (asciis [] ++ r) (lone_joins P A (ascii 0x07) refl) x)
  end_clusters x r st = rw (asciis_cons 0x1B (0x5C ∷ [])) (clusters_split P (ascii 0x1B) (asciis (0x5C ∷ []) ++ r) (lone_joins P A (ascii 0x1B) refl) x)

  module _ {p s : List ℕ} (f : Form p s) where
    -- behind the ESC, with the URI u
    abbrev link : List ℕ → List Scalar
    link u = f.opens.text ++ asciis u

    -- the terminator, and the rest of the run
    abbrev ending : List Scalar
    ending = asciis f.end ++ run_of (decode f.rest)

    link_bytes : (u : List ℕ) → bytes_of (link u) ≡ opening f.id ++ u
    link_bytes u = bytes_of_append f.opens.text (asciis u) ∙ ap₂ (λ (a b : List ℕ). a ++ b) f.opens.bytes (asciis_bytes u)

    run_bytes : (u : List ℕ) → bytes_of (link u ++ ending) ≡ 0x5D ∷ 0x38 ∷ 0x3B ∷ (f.id ++ 0x3B ∷ (u ++ (f.end ++ bytes_of (run_of (decode f.rest)))))
    run_bytes u =
        let t : List Scalar = run_of (decode f.rest) in
        bytes_of_append (link u) ending
        ∙ ap₂ (λ (a b : List ℕ). a ++ b) (link_bytes u) (bytes_of_append (asciis f.end) t ∙ ap (λ (l : List ℕ). l ++ bytes_of t) (asciis_bytes f.end))
        ∙ simp append_assoc

    -- the length of the sequence
    abbrev len : ℕ → ℕ
    len n = 5 + length f.id + n + length f.end

    -- it is found, and all behind it up to the terminator dropped
    link_read : (u : List ℕ) → Printable u → (n q : ℕ) → length u ≡ n
        → read_from P none q 0 (esc ∷ clusters P (link u ++ ending))
        ≡ span q (len n) (escape (hyperlink (5 + length f.id) n)) ∷ read_from P none (q + 1 + (4 + length f.id + n)) (suc (length f.end - 1)) (clusters P ending)
    link_read u h n q e =
        let size : length (bytes_of (join_all (clusters P (link u)))) ≡ 4 + length f.id + n = ap length (ap bytes_of (clusters_all P (link u)) ∙ link_bytes u) ∙ simp length-append (omega arith) in
        let z : len n - 1 ≡ 4 + length f.id + n + suc (length f.end - 1) = omega (arith, end_some f.terminator) in
        read_sequence P none q (clusters P (link u ++ ending)) (hyperlink (5 + length f.id) n) (len n)
        (ap (λ (t : List Scalar). parse (bytes_of t)) (clusters_all P (link u ++ ending)) ∙ ap parse (run_bytes u) ∙ rw (sym e) (parse_form (bytes_of (run_of (decode f.rest))) f.opens.ids (printable_uri h) f.terminator))
        ∙ ap (λ (l : List Span). span q (len n) (escape (hyperlink (5 + length f.id) n)) ∷ l)
        (ap₂ (λ (j : ℕ) (gs : List (List Scalar)). read_from P none (q + 1) j gs) z (end_clusters (link u) (run_of (decode f.rest)) f.terminator)
        ∙ rw size at (read_behind P none (clusters P (link u)) (clusters P ending) (q + 1) (length f.end - 1)))

    -- ---- the line

    line_bytes : (u : List ℕ) → p ++ (u ++ s) ≡ f.before ++ 0x1B ∷ (bytes_of (link u) ++ s)
    line_bytes u = rw (f.start, link_bytes u) (simp append_assoc)

    line_pieces : (u : List ℕ) → Printable u → let a = runs_around (decode f.before) in runs (decode (p ++ (u ++ s))) ≡ a.before ++ run (a.front ++ ascii 0x1B ∷ (link u ++ ending)) ∷ runs (after_run (decode s))
    line_pieces u h =
        let a = runs_around (decode f.before) in
        let v = all_cons {a = ascii 0x1B} (ascii_valid 0x1B (omega arith)) (all_append f.opens.valid (asciis_valid (all_map (λ b e. omega (arith, (printable_range b e).1)) h))) in
        ap runs (ap decode (line_bytes u) ∙ decode_apart 0x1B (bytes_of (link u) ++ s) (λ c. omega (arith, c.0)) f.before
        ∙ ap (λ (ds : List Decoded). decode f.before ++ ds) (rw (bytes_cons (ascii 0x1B) (link u)) at (decode_text v s)))
        ∙ a.pieces (ascii 0x1B) (link u) (decode s)
        ∙ ap (λ (t : List Scalar). a.before ++ run (a.front ++ ascii 0x1B ∷ (link u ++ t)) ∷ runs (after_run (decode s))) (ap (λ (l : List ℕ). run_of (decode l)) f.behind ∙ end_run f.rest f.terminator)

    run_size : (w : List Scalar) (u : List ℕ) → length (bytes_of (w ++ ascii 0x1B ∷ (link u ++ ending))) ≡ length (bytes_of w) + (5 + length f.id + length u + (length f.end + length (bytes_of (run_of (decode f.rest)))))
    run_size w u = rw (bytes_of_append w (ascii 0x1B ∷ (link u ++ ending)), bytes_cons (ascii 0x1B) (link u ++ ending), run_bytes u) (simp length-append (omega arith))

    pub same_spans : (u v : List ℕ) → Printable u → Printable v → length u ≡ length v → spans P (p ++ (u ++ s)) ≡ spans P (p ++ (v ++ s))
    same_spans u v h k e =
        let a = runs_around (decode f.before) in
        let w : List Scalar = a.front in
        let alike : (q : ℕ) → read_from P none q 0 (clusters P (w ++ ascii 0x1B ∷ (link u ++ ending))) ≡ read_from P none q 0 (clusters P (w ++ ascii 0x1B ∷ (link v ++ ending))) = λ q.
        rw (escape_clusters w (link u ++ ending), escape_clusters w (link v ++ ending))
        (read_before P none (clusters P (link u ++ ending)) (clusters P (link v ++ ending)) _ _ (ap bytes_of (clusters_all P (link u ++ ending)) ∙ run_bytes u) (ap bytes_of (clusters_all P (link v ++ ending)) ∙ run_bytes v)
        (λ i. link_read u h (length u) i refl ∙ sym (link_read v k (length u) i (sym e))) (clusters P w) q 0 zero-le) in
        spans_alike P (p ++ (u ++ s)) (p ++ (v ++ s)) a.before (runs (after_run (decode s))) (w ++ ascii 0x1B ∷ (link u ++ ending)) (w ++ ascii 0x1B ∷ (link v ++ ending)) (line_pieces u h) (line_pieces v k)
        (run_size w u ∙ ap (λ (n : ℕ). length (bytes_of w) + (5 + length f.id + n + (length f.end + length (bytes_of (run_of (decode f.rest)))))) e ∙ sym (run_size w v)) alike
