-- Reading: noise bytes separate, and which ones they are does not matter.
use Rattle.std.specs.Prelude.{◌≡◌, refl, get_or, T}
use Rattle.std.proofs.Common.{sym, ◌∙◌, subst, add-zero, zero-add}
use Rattle.std.proofs.Math.Path.{ap}
use Prim.Native.Nat.{ℕ, zero, suc, ◌+◌}
use native.Mathlib.Omega.{arith}
use mathlib.Core.List.{List, [], ◌∷◌, ◌++◌, map}
use Rattle.std.proofs.Math.Option.{Option, none}
use Rattle.std.proofs.Math.ListN.{length, drop}
use Rattle.text.specs.Each.{Each, nil, cons, each_same, each_append}
use Rattle.text.specs.Places.{behind, byte_at, behind_byte}
use Rattle.text.specs.Utf8.{decode, Piece, run, damaged, runs, bytes_of, noise, all_noise}
use Rattle.text.specs.Class.{Profile}
use Rattle.text.specs.Cluster.{clusters}
use Rattle.text.specs.Utf8.Laws.{piece_bytes, pieces_damaged, pieces_run, piece_bytes_runs, decoded_bytes_decode}
use Rattle.text.specs.Utf8.Noise.{Byte, Twin, TwinPiece}
use Rattle.text.proofs.NoiseBytes.{noise_cons, runs_noise, runs_twin}
use Rattle.text.specs.Overstrike.{convert}
use Rattle.text.proofs.NoiseConversion.{convert_front, convert_noise}
use Rattle.spans.specs.Spans.{invalid, Span, span, read_from, read_pieces, spans_at, spans, Record, a_record, record_of, records, kind_of, match_of}
use Rattle.spans.specs.Spans.Laws.{shift, spans_at_shift, read_pieces_append}

-- ---- separation

module _ (P : Profile) where
  spans_at_noise : (m : Option ℕ) (p : ℕ) (a : List ℕ) (n : ℕ) (t : List ℕ) → T (noise n)
      → spans_at P m p (a ++ n ∷ t) ≡ spans_at P m p a ++ span (p + length a) 1 (invalid n) ∷ spans_at P m (suc (p + length a)) t
  unfolding spans_at read_pieces
  spans_at_noise m p a n t h =
      let all : piece_bytes (runs (decode a)) ≡ a = piece_bytes_runs (decode a) ∙ decoded_bytes_decode a in
      ap (read_pieces P m p) (runs_noise a n t h)
      ∙ read_pieces_append P m p (runs (decode a)) (damaged n ∷ runs (decode t))
      ∙ ap (λ (l : List ℕ). read_pieces P m p (runs (decode a)) ++ read_pieces P m (p + length l) (damaged n ∷ runs (decode t))) all

-- the spans of noise bytes from place p on
unfoldable pub damage : ℕ → List ℕ → List Span
damage p [] = []
damage p (n ∷ ns) = span p 1 (invalid n) ∷ damage (suc p) ns

module _ (P : Profile) where
  spans_at_front : (m : Option ℕ) (p : ℕ) (ns t : List ℕ) → T (all_noise ns) → spans_at P m p (ns ++ t) ≡ damage p ns ++ spans_at P m (p + length ns) t
  unfolding damage spans_at read_pieces
  spans_at_front m p [] t h = ap (λ (q : ℕ). spans_at P m q t) (sym (add-zero p))
  spans_at_front m p (n ∷ ns) t h =
      let q = noise_cons n ns h in
      let e : suc p + length ns ≡ p + suc (length ns) = omega arith in
      spans_at_noise P m p [] n (ns ++ t) q.0
      ∙ ap (λ (x : ℕ). span x 1 (invalid n) ∷ spans_at P m (suc x) (ns ++ t)) (add-zero p)
      ∙ ap (λ (l : List Span). span p 1 (invalid n) ∷ l) (spans_at_front m (suc p) ns t q.1 ∙ ap (λ (x : ℕ). damage (suc p) ns ++ spans_at P m x t) e)

  -- the spans of a line that is two parts with noise between them
  pub separation : (a : List ℕ) (n : ℕ) (ns b : List ℕ) → T (all_noise (n ∷ ns))
      → spans P (convert P (a ++ n ∷ (ns ++ b)))
      ≡ spans P (convert P a) ++ (damage (length (convert P a)) (n ∷ ns) ++ map (shift (length (convert P a) + length (n ∷ ns))) (spans P (convert P b)))
  unfolding spans damage
  separation a n ns b h =
      let q = noise_cons n ns h in
      let A : List ℕ = convert P a in
      let B : List ℕ = convert P b in
      let e : suc (length A) + length ns ≡ length A + suc (length ns) = omega arith in
      ap (spans_at P none 0) (convert_noise P a n (ns ++ b) q.0 ∙ ap (λ (l : List ℕ). A ++ n ∷ l) (convert_front P ns b q.1))
      ∙ spans_at_noise P none 0 A n (ns ++ B) q.0
      ∙ ap (λ (x : ℕ). spans_at P none 0 A ++ span x 1 (invalid n) ∷ spans_at P none (suc x) (ns ++ B)) (zero-add (length A))
      ∙ ap (λ (l : List Span). spans_at P none 0 A ++ span (length A) 1 (invalid n) ∷ l)
      (spans_at_front none (suc (length A)) ns B q.1
      ∙ ap (λ (l : List Span). damage (suc (length A)) ns ++ l) (ap (λ (x : ℕ). spans_at P none x B) e ∙ spans_at_shift P none (length A + suc (length ns)) B))

-- ---- exchange

-- two spans: the same, or those of the noise bytes at one place of the lines l and m
pub data TwinSpan (l m : List ℕ) : Span → Span → Type 0 where
  same : {s : Span} → TwinSpan l m s s
  exchanged : (p : ℕ) → T (noise (get_or l p 0)) → T (noise (get_or m p 0)) → TwinSpan l m (span p 1 (invalid (get_or l p 0))) (span p 1 (invalid (get_or m p 0)))

module _ (l m : List ℕ) where
  damaged_twin : (p : ℕ) {b c : ℕ} → get_or l p 0 ≡ b → get_or m p 0 ≡ c → Byte b c → TwinSpan l m (span p 1 (invalid b)) (span p 1 (invalid c))
  damaged_twin p e f Byte.same = same
  damaged_twin p {b} {c} e f (Byte.exchanged h k) =
      subst (λ (x : ℕ). TwinSpan l m (span p 1 (invalid x)) (span p 1 (invalid c))) e
      (subst (λ (y : ℕ). TwinSpan l m (span p 1 (invalid (get_or l p 0))) (span p 1 (invalid y))) f (exchanged p (rw e h) (rw f k)))

  read_pieces_twin : (P : Profile) (k : Option ℕ) (p : ℕ) {ps qs : List Piece} → drop p l ≡ piece_bytes ps → drop p m ≡ piece_bytes qs → Each TwinPiece ps qs
      → Each (TwinSpan l m) (read_pieces P k p ps) (read_pieces P k p qs)
  unfolding read_pieces
  read_pieces_twin P k p e f nil = nil
  read_pieces_twin P k p e f (cons {s = ps} {t = qs} (TwinPiece.same {p = run s}) d) =
      each_append (each_same (λ b. same) (read_from P k p zero (clusters P s)))
      (read_pieces_twin P k (p + length (bytes_of s)) (behind p l (bytes_of s) (piece_bytes ps) (e ∙ pieces_run s ps)) (behind p m (bytes_of s) (piece_bytes qs) (f ∙ pieces_run s qs)) d)
  read_pieces_twin P k p e f (cons {s = ps} {t = qs} (TwinPiece.same {p = damaged b}) d) =
      cons same (read_pieces_twin P k (suc p) (behind_byte p l b (piece_bytes ps) (e ∙ pieces_damaged b ps)) (behind_byte p m b (piece_bytes qs) (f ∙ pieces_damaged b qs)) d)
  read_pieces_twin P k p e f (cons {s = ps} {t = qs} (TwinPiece.exchanged {b = b} {c = c} h) d) =
      let x : drop p l ≡ b ∷ piece_bytes ps = e ∙ pieces_damaged b ps in
      let y : drop p m ≡ c ∷ piece_bytes qs = f ∙ pieces_damaged c qs in
      cons (damaged_twin p (byte_at p l b (piece_bytes ps) x) (byte_at p m c (piece_bytes qs) y) h)
      (read_pieces_twin P k (suc p) (behind_byte p l b (piece_bytes ps) x) (behind_byte p m c (piece_bytes qs) y) d)

pub spans_twin : (P : Profile) {l m : List ℕ} → Twin l m → Each (TwinSpan l m) (spans P l) (spans P m)
unfolding spans spans_at
spans_twin P {l} {m} e =
    read_pieces_twin l m P none 0 (sym (piece_bytes_runs (decode l) ∙ decoded_bytes_decode l)) (sym (piece_bytes_runs (decode m) ∙ decoded_bytes_decode m)) (runs_twin e)

pub records_twin : {l m : List ℕ} {ss ts : List Span} → Each (TwinSpan l m) ss ts → records ss ≡ records ts
unfolding records record_of kind_of match_of
records_twin nil = refl
records_twin (cons (TwinSpan.same {s = s}) e) = ap (λ (r : List Record). record_of s ∷ r) (records_twin e)
records_twin (cons (exchanged p h k) e) = ap (λ (r : List Record). a_record 4 p 1 0 ∷ r) (records_twin e)
