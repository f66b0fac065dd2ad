-- What a span holds is what its record says of the line: the code above has only the record and the converted line.
use Rattle.std.specs.Prelude.{◌≡◌, Bool, true, false, cond, ◌||◌, take, leb}
use Rattle.std.proofs.Math.Path.{refl, ap}
use Rattle.std.proofs.Common.{sym, ap₂, ◌∙◌, arith, length-append, take-append-drop, drop_of_length-le}
use Prim.Native.Nat.{ℕ, zero, suc, ◌+◌, ◌-◌}
use mathlib.Core.List.{List, [], ◌∷◌, ◌++◌, append_assoc, append-nil}
use Rattle.std.proofs.Math.Option.{Option, none, some}
use Rattle.std.proofs.Math.ListN.{length, drop, get_or}
use Rattle.std.proofs.Math.Seq.{take-append_seam, take-nil, drop-append-le}
use Rattle.std.proofs.Math.Dec.{eqb}
use borrow.Author.Tests.{leb-true, leb-false}
use Rattle.text.specs.Tests.{cases}
use Rattle.text.specs.Each.{All, all_nil, all_cons, all_append, all_split, all_map}
use Rattle.text.specs.Places.{behind, behind_byte}
use Rattle.text.specs.Utf8.{Scalar, decode, Piece, run_of, bytes_of, reads}
use Rattle.text.specs.Utf8.Laws.{bytes_of_append, piece_bytes, pieces_damaged, pieces_run, reads_is, piece_bytes_runs, decoded_bytes_decode}
use Rattle.text.specs.Utf8.Valid.{Valid, ValidPiece, runs_valid, run_text}
use Rattle.text.specs.Class.{Profile}
use Rattle.text.specs.Width.{width_of}
use Rattle.text.specs.Cluster.{clusters, join_all}
use Rattle.text.specs.Cluster.Laws.{clusters_all, join_bytes, join_cons}
use Rattle.spans.specs.Sequence.{Sequence, sgr, erase_to_end, ignored, hyperlink, line_drawing, Found, found, missing, parse}
use Rattle.spans.specs.Sequence.Laws.{parse_stable}
use Rattle.spans.specs.Search.{EscapeRange, offset_from, escapes, read_part, read_matches, read}
use Rattle.spans.specs.Spans.{Content, text, control, invalid, unprintable, escape, tab, crlf, lf, Span, span, ClusterKind, plain, special, escape_kind, control_kind, join_text, add_text, add_cluster, cluster_kind, read_from, read_pieces, spans_at, spans, Record, a_record, kind_of, match_of, record_of}

-- ---- what a record says of the bytes from its place on

unfoldable pub sequence_in : Found → Content
sequence_in (found e n) = escape e
sequence_in missing = control 0x1B

unfoldable pub text_in : ℕ → List ℕ → List Scalar
unfolding run_of decode
text_in n s = run_of (decode (take n s))

unfoldable pub content_in : Record → List ℕ → Content
unfolding sequence_in text_in parse
content_in r s =
    cond (eqb r.kind 1) (text none (text_in r.len s))
    (cond (eqb r.kind 2) (text (some r.matched) (text_in r.len s))
    (cond (eqb r.kind 3) (control (get_or s 0 0))
    (cond (eqb r.kind 4) (invalid (get_or s 0 0))
    (cond (eqb r.kind 5) (unprintable (text_in r.len s))
    (cond (eqb r.kind 10) tab
    (cond (eqb r.kind 11) crlf
    (cond (eqb r.kind 12) lf (sequence_in (parse (drop 1 s))))))))))

-- the content of the span that a record of the line stands for
unfoldable pub content_of : List ℕ → Record → Content
unfolding content_in
content_of line r = content_in r (drop r.place.0 line)

-- ---- a span stands in the line

-- n bytes from place p on are the valid text t
pub record TextAt (line : List ℕ) (p n : ℕ) (t : List Scalar) : Type 0 where
  pub bytes : drop p line ≡ bytes_of t ++ drop (p + n) line
  pub len : n ≡ length (bytes_of t)
  pub valid : All Valid t

-- a sequence at place p: an ESC, and behind it in its run the text that it was found in
pub record SequenceAt (line : List ℕ) (p : ℕ) (e : Sequence) : Type 0 where
  pub text : List Scalar
  pub valid : All Valid text
  pub len : ℕ
  pub parses : parse (bytes_of text) ≡ found e len
  pub rest : List ℕ
  pub bytes : drop p line ≡ 0x1B ∷ (bytes_of text ++ rest)

sequence_in_law : (line : List ℕ) (p : ℕ) (e : Sequence) → SequenceAt line p e → sequence_in (parse (drop 1 (drop p line))) ≡ escape e
unfolding sequence_in
sequence_in_law line p e h = rw (h.bytes, parse_stable (bytes_of h.text) h.rest e h.len h.parses)

-- the content c of n bytes at place p, in its own words
unfoldable Stands : List ℕ → ℕ → ℕ → Content → Type 0
Stands line p n (text m t) = TextAt line p n t
Stands line p n (control b) = get_or (drop p line) 0 0 ≡ b
Stands line p n (invalid b) = get_or (drop p line) 0 0 ≡ b
Stands line p n (unprintable t) = TextAt line p n t
Stands line p n (escape e) = SequenceAt line p e
Stands line p n tab = Unit {0}
Stands line p n crlf = Unit {0}
Stands line p n lf = Unit {0}

abbrev StandsIn : List ℕ → Span → Type 0
StandsIn line s = Stands line s.place s.len s.content

text_in_law : (line : List ℕ) (p n : ℕ) (t : List Scalar) → TextAt line p n t → text_in n (drop p line) ≡ t
unfolding text_in
text_in_law line p n t h =
    ap (λ (l : List ℕ). run_of (decode l)) (ap₂ take h.len h.bytes ∙ take-append_seam (bytes_of t) _) ∙ run_text h.valid

stands_content : (line : List ℕ) (p n : ℕ) (c : Content) → Stands line p n c → content_of line (a_record (kind_of c) p n (match_of c)) ≡ c
unfolding Stands content_of content_in kind_of match_of
stands_content line p n (text none t) h = ap (text none) (text_in_law line p n t h)
stands_content line p n (text (some k) t) h = ap (text (some k)) (text_in_law line p n t h)
stands_content line p n (control b) h = ap control h
stands_content line p n (invalid b) h = ap invalid h
stands_content line p n (unprintable t) h = ap unprintable (text_in_law line p n t h)
stands_content line p n (escape (sgr os)) h = sequence_in_law line p (sgr os) h
stands_content line p n (escape (hyperlink a m)) h = sequence_in_law line p (hyperlink a m) h
stands_content line p n (escape (line_drawing b)) h = sequence_in_law line p (line_drawing b) h
stands_content line p n (escape ignored) h = sequence_in_law line p ignored h
stands_content line p n (escape erase_to_end) h = sequence_in_law line p erase_to_end h
stands_content line p n tab h = refl
stands_content line p n crlf h = refl
stands_content line p n lf h = refl

-- ---- texts

module _ (line : List ℕ) where
  join_texts : (p n : ℕ) (g t : List Scalar) → drop p line ≡ bytes_of g ++ drop (p + length (bytes_of g)) line → All Valid g → TextAt line (p + length (bytes_of g)) n t
      → TextAt line p (length (bytes_of g) + n) (g ++ t)
  join_texts p n g t e v h =
      let q : p + length (bytes_of g) + n ≡ p + (length (bytes_of g) + n) = omega arith in
      record {
        bytes = e ∙ ap (λ (l : List ℕ). bytes_of g ++ l) (h.bytes ∙ ap (λ (k : ℕ). bytes_of t ++ drop k line) q) ∙ sym (append_assoc (bytes_of g) (bytes_of t) _) ∙ ap (λ (l : List ℕ). l ++ drop (p + (length (bytes_of g) + n)) line) (sym (bytes_of_append g t));
        len = ap (λ (k : ℕ). length (bytes_of g) + k) h.len ∙ sym (length-append (bytes_of g) (bytes_of t)) ∙ ap length (sym (bytes_of_append g t));
        valid = all_append v h.valid;
      }

  -- the spans begin at place p, if there are any
  Begins : ℕ → List Span → Type 0
  Begins p [] = Unit {0}
  Begins p (s ∷ ss) = s.place ≡ p

  join_text_begins : (m : Option ℕ) (p : ℕ) (g : List Scalar) (s : Span) (c : Content) (ss : List Span) → Begins p (join_text m p g s c ss)
  unfolding Begins join_text
  join_text_begins m p g s (text k t) ss = refl
  join_text_begins m p g s (control b) ss = refl
  join_text_begins m p g s (invalid b) ss = refl
  join_text_begins m p g s (unprintable t) ss = refl
  join_text_begins m p g s (escape e) ss = refl
  join_text_begins m p g s tab ss = refl
  join_text_begins m p g s crlf ss = refl
  join_text_begins m p g s lf ss = refl

  add_cluster_begins : (m : Option ℕ) (p : ℕ) (g : List Scalar) (n : ℕ) (w : ClusterKind) (go : ℕ → List Span) → Begins p (add_cluster m p g n w go)
  unfolding Begins add_cluster add_text
  add_cluster_begins m p g n plain go = begin (go zero)
    where
      begin : (ss : List Span) → Begins p (add_text m p g ss)
      begin [] = refl
      begin (s ∷ ss) = join_text_begins m p g s s.content ss
  add_cluster_begins m p g n (special c k) go = refl

  alone : (m : Option ℕ) (p : ℕ) (g : List Scalar) → drop p line ≡ bytes_of g ++ drop (p + length (bytes_of g)) line → All Valid g → StandsIn line (span p (length (bytes_of g)) (text m g))
  unfolding Stands
  alone m p g e v = record { bytes = e; len = refl; valid = v }

  join_text_stands : (m : Option ℕ) (p : ℕ) (g : List Scalar) (s : Span) (c : Content) (ss : List Span)
      → drop p line ≡ bytes_of g ++ drop (p + length (bytes_of g)) line → All Valid g → s.place ≡ p + length (bytes_of g)
      → Stands line s.place s.len c → StandsIn line s → All (StandsIn line) ss → All (StandsIn line) (join_text m p g s c ss)
  unfolding join_text Stands
  join_text_stands m p g s (text k t) ss e v q h i a = all_cons (join_texts p s.len g t e v (rw q at h)) a
  join_text_stands m p g s (control b) ss e v q h i a = all_cons (alone m p g e v) (all_cons i a)
  join_text_stands m p g s (invalid b) ss e v q h i a = all_cons (alone m p g e v) (all_cons i a)
  join_text_stands m p g s (unprintable t) ss e v q h i a = all_cons (alone m p g e v) (all_cons i a)
  join_text_stands m p g s (escape x) ss e v q h i a = all_cons (alone m p g e v) (all_cons i a)
  join_text_stands m p g s tab ss e v q h i a = all_cons (alone m p g e v) (all_cons i a)
  join_text_stands m p g s crlf ss e v q h i a = all_cons (alone m p g e v) (all_cons i a)
  join_text_stands m p g s lf ss e v q h i a = all_cons (alone m p g e v) (all_cons i a)

  add_text_stands : (m : Option ℕ) (p : ℕ) (g : List Scalar) (ss : List Span)
      → drop p line ≡ bytes_of g ++ drop (p + length (bytes_of g)) line → All Valid g → Begins (p + length (bytes_of g)) ss → All (StandsIn line) ss
      → All (StandsIn line) (add_text m p g ss)
  unfolding add_text Begins
  add_text_stands m p g [] e v b all_nil = all_cons (alone m p g e v) all_nil
  add_text_stands m p g (s ∷ ss) e v b (all_cons i a) = join_text_stands m p g s s.content ss e v b i i a

-- ---- clusters

-- what a cluster is, at place p
unfoldable KindStands : List ℕ → ℕ → ClusterKind → Type 0
KindStands line p plain = Unit {0}
KindStands line p (special c n) = Stands line p n c

cond_stands : (line : List ℕ) (p : ℕ) (b : Bool) (x y : ClusterKind) → (b ≡ true → KindStands line p x) → (b ≡ false → KindStands line p y) → KindStands line p (cond b x y)
cond_stands line p true x y f g = f refl
cond_stands line p false x y f g = g refl

module _ (line : List ℕ) (p : ℕ) (after : List ℕ) where
  escape_stands : (f : Found) (t : List Scalar) → parse (bytes_of t) ≡ f → All Valid t → drop p line ≡ 0x1B ∷ (bytes_of t ++ after) → KindStands line p (escape_kind f)
  unfolding KindStands escape_kind Stands
  escape_stands (found e n) t h v d = record { text = t; valid = v; len = n; parses = h; rest = after; bytes = d }
  escape_stands missing t h v d = rw d

  control_stands : (g : List ℕ) (w : ClusterKind) → drop p line ≡ g ++ after → KindStands line p w → KindStands line p (control_kind g w)
  unfolding control_kind KindStands Stands
  control_stands [] w d h = h
  control_stands (b ∷ []) w d h = cond_stands line p (leb b 0x1F || eqb b 0x7F) (special (control b) 1) w (λ e. rw d) (λ e. h)
  control_stands (b ∷ c ∷ g) w d h = h

module _ (P : Profile) (line : List ℕ) where
  kind_stands : (p : ℕ) (g t : List Scalar) (after : List ℕ) → drop p line ≡ bytes_of g ++ (bytes_of t ++ after) → All Valid g → All Valid t → KindStands line p (cluster_kind P g (bytes_of t))
  unfolding cluster_kind KindStands Stands
  kind_stands p g t after d v w =
      let s : List ℕ = bytes_of t in
      cond_stands line p (reads g (0x1B ∷ [])) _ _
      (λ e. escape_stands line p after (parse s) t refl w (d ∙ ap (λ (l : List ℕ). l ++ (s ++ after)) (reads_is g (0x1B ∷ []) e)))
      (λ e. cond_stands line p (reads g (0x0D ∷ 0x0A ∷ [])) _ _ (λ e. tt)
      (λ e. cond_stands line p (reads g (0x0A ∷ [])) _ _ (λ e. tt)
      (λ e. cond_stands line p (reads g (0x09 ∷ [])) _ _ (λ e. tt)
      (λ e. control_stands line p (s ++ after) (bytes_of g) _ d
      (cond_stands line p (eqb (width_of P g) 0) _ _
      (λ e. record { bytes = d ∙ ap (λ (l : List ℕ). bytes_of g ++ l) (sym (behind p line (bytes_of g) (s ++ after) d)); len = refl; valid = v })
      (λ e. tt))))))

  read_from_begins : (m : Option ℕ) (p : ℕ) (gs : List (List Scalar)) → Begins line p (read_from P m p zero gs)
  unfolding read_from Begins
  read_from_begins m p [] = tt
  read_from_begins m p (g ∷ gs) = add_cluster_begins line m p g (length (bytes_of g)) (cluster_kind P g (bytes_of (join_all gs))) (λ k. read_from P m (p + length (bytes_of g)) k gs)

  add_cluster_stands : (m : Option ℕ) (p : ℕ) (g : List Scalar) (w : ClusterKind) (go : ℕ → List Span)
      → drop p line ≡ bytes_of g ++ drop (p + length (bytes_of g)) line → All Valid g → KindStands line p w → Begins line (p + length (bytes_of g)) (go zero)
      → ((k : ℕ) → All (StandsIn line) (go k)) → All (StandsIn line) (add_cluster m p g (length (bytes_of g)) w go)
  unfolding add_cluster KindStands
  add_cluster_stands m p g plain go d v h b a = add_text_stands line m p g (go zero) d v b (a zero)
  add_cluster_stands m p g (special c k) go d v h b a = all_cons h (a (k - length (bytes_of g)))

  read_from_stands : (m : Option ℕ) (p k : ℕ) (gs : List (List Scalar)) (after : List ℕ) → drop p line ≡ bytes_of (join_all gs) ++ after → All Valid (join_all gs)
      → All (StandsIn line) (read_from P m p k gs)
  unfolding read_from
  read_from_stands m p k [] after d v = all_nil
  read_from_stands m p zero (g ∷ gs) after d v =
      let w = all_split g (rw (join_cons g gs) at v) in
      let e : drop p line ≡ bytes_of g ++ (bytes_of (join_all gs) ++ after) = d ∙ ap (λ (l : List ℕ). l ++ after) (join_bytes g gs) ∙ append_assoc (bytes_of g) (bytes_of (join_all gs)) after in
      let f = behind p line (bytes_of g) (bytes_of (join_all gs) ++ after) e in
      add_cluster_stands m p g (cluster_kind P g (bytes_of (join_all gs))) (λ k. read_from P m (p + length (bytes_of g)) k gs) (e ∙ ap (λ (l : List ℕ). bytes_of g ++ l) (sym f)) w.0 (kind_stands p g (join_all gs) after e w.0 w.1)
      (read_from_begins m (p + length (bytes_of g)) gs)
      (λ k. read_from_stands m (p + length (bytes_of g)) k gs after f w.1)
  read_from_stands m p (suc k) (g ∷ gs) after d v =
      let e : drop p line ≡ bytes_of g ++ (bytes_of (join_all gs) ++ after) = d ∙ ap (λ (l : List ℕ). l ++ after) (join_bytes g gs) ∙ append_assoc (bytes_of g) (bytes_of (join_all gs)) after in
      read_from_stands m (p + length (bytes_of g)) (suc k - length (bytes_of g)) gs after (behind p line (bytes_of g) (bytes_of (join_all gs) ++ after) e) (all_split g (rw (join_cons g gs) at v)).1

  -- ---- lines, and lines with matches

  read_pieces_stands : (m : Option ℕ) (p : ℕ) {ps : List Piece} (after : List ℕ) → drop p line ≡ piece_bytes ps ++ after → All ValidPiece ps → All (StandsIn line) (read_pieces P m p ps)
  unfolding read_pieces Stands
  read_pieces_stands m p after d all_nil = all_nil
  read_pieces_stands m p after d (all_cons {s = ps} (ValidPiece.valid {s = s} v) a) =
      let e : drop p line ≡ bytes_of s ++ (piece_bytes ps ++ after) = d ∙ ap (λ (l : List ℕ). l ++ after) (pieces_run s ps) ∙ append_assoc (bytes_of s) (piece_bytes ps) after in
      let c : join_all (clusters P s) ≡ s = clusters_all P s in
      all_append (read_from_stands m p zero (clusters P s) (piece_bytes ps ++ after) (rw c e) (rw c v))
      (read_pieces_stands m (p + length (bytes_of s)) after (behind p line (bytes_of s) (piece_bytes ps ++ after) e) a)
  read_pieces_stands m p after d (all_cons {s = ps} (ValidPiece.ill {b = b}) a) =
      let e : drop p line ≡ b ∷ (piece_bytes ps ++ after) = d ∙ ap (λ (l : List ℕ). l ++ after) (pieces_damaged b ps) in
      all_cons (ap (λ (l : List ℕ). get_or l 0 0) e) (read_pieces_stands m (suc p) after (behind_byte p line b (piece_bytes ps ++ after) e) a)

  spans_at_stands : (m : Option ℕ) (p : ℕ) (s after : List ℕ) → drop p line ≡ s ++ after → All (StandsIn line) (spans_at P m p s)
  unfolding spans_at
  spans_at_stands m p s after d =
      read_pieces_stands m p after (d ∙ ap (λ (l : List ℕ). l ++ after) (sym (piece_bytes_runs (decode s) ∙ decoded_bytes_decode s))) (runs_valid s)

  -- a line at the front of a buffer, with matches or without
  module _ (s after : List ℕ) (front : line ≡ s ++ after) where
    read_part_stands : (m : Option ℕ) (a b : ℕ) → All (StandsIn line) (read_part P m a b s)
    unfolding read_part
    read_part_stands m a b =
        cases (leb a (length s))
        (λ e. spans_at_stands m a (take (b - a) (drop a s)) (drop (b - a) (drop a s) ++ after)
        (ap (drop a) front ∙ drop-append-le a s after (leb-true a (length s) e) ∙ ap (λ (l : List ℕ). l ++ after) (sym (take-append-drop (b - a) (drop a s))) ∙ append_assoc (take (b - a) (drop a s)) (drop (b - a) (drop a s)) after))
        (λ e. rw (drop_of_length-le s {i = a} (omega (arith, leb-false a (length s) e)), take-nil {A = ℕ} (b - a)) (spans_at_stands m a [] (drop a line) refl))

    read_matches_stands : (es : List EscapeRange) (start k : ℕ) (ms : List ℕ) → All (StandsIn line) (read_matches P es start k ms s)
    unfolding read_matches
    read_matches_stands es start k [] = read_part_stands none start (length s)
    read_matches_stands es start k (a ∷ []) = all_nil
    read_matches_stands es start k (a ∷ b ∷ ms) =
        all_append (all_append (read_part_stands none start (offset_from 0 a es)) (read_part_stands (some k) (offset_from 0 a es) (offset_from 0 b es))) (read_matches_stands es (offset_from 0 b es) (suc k) ms)

    read_stands : (ms : List ℕ) → All (StandsIn line) (read P ms s)
    unfolding read spans
    read_stands [] = spans_at_stands none 0 s after front
    read_stands (m ∷ ms) = read_matches_stands (escapes s) 0 0 (m ∷ ms)

-- what each span of a converted line holds, read with or without matches, is what its record says of a buffer that the line stands at the front of
pub content_front : (P : Profile) (matches s after : List ℕ) → All (λ (x : Span). content_of (s ++ after) (record_of x) ≡ x.content) (read P matches s)
unfolding record_of
content_front P matches s after = all_map (λ x h. stands_content (s ++ after) x.place x.len x.content h) (read_stands P (s ++ after) s after refl matches)

-- and of the line itself
pub content : (P : Profile) (matches line : List ℕ) → All (λ (s : Span). content_of line (record_of s) ≡ s.content) (read P matches line)
content P matches line = rw (append-nil line) at (content_front P matches line [])

-- a text that was read stands in the line
pub texts : (P : Profile) (matches s after : List ℕ) → All (λ (x : Span). (m : Option ℕ) (t : List Scalar) → x.content ≡ text m t → TextAt (s ++ after) x.place x.len t) (read P matches s)
unfolding Stands
texts P matches s after = all_map (λ x h m t q. rw q at h) (read_stands P (s ++ after) s after refl matches)

-- a sequence that was read stands in its run
pub sequences : (P : Profile) (line : List ℕ) → All (λ (s : Span). (e : Sequence) → s.content ≡ escape e → SequenceAt line s.place e) (spans P line)
unfolding Stands spans
sequences P line = all_map (λ s h e q. rw q at h) (spans_at_stands P line none 0 line [] (sym (append-nil line)))
