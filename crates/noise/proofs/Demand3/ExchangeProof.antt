-- Exchange: the proof.
use Rattle.std.specs.Prelude.{◌≡◌, ◌≢◌, cond, get_or, T, eqb, leb}
use Rattle.std.proofs.Math.Path.{refl, ap₂}
use Rattle.std.proofs.Common.{sym, ap, ◌∙◌, arith, true≢false, eqb→eq}
use Prim.Native.Nat.{ℕ, zero, suc}
use mathlib.Core.List.{List, [], ◌∷◌, ◌++◌, append-nil}
use Rattle.std.proofs.Math.ListN.{length}
use Rattle.std.proofs.Math.Dec.{eqb_refl, eqb-suc-zero}
use Rattle.text.specs.Tests.{cases, is_true, true_T}
use Rattle.text.specs.Each.{Each, nil, cons, each_length, each_map}
use Rattle.text.specs.Utf8.{noise, noises_of}
use Rattle.text.specs.Utf8.Noise.{Byte, Twin}
use Rattle.text.proofs.NoiseBytes.{noises_append, noises_zeros}
use Rattle.text.specs.Class.{Profile}
use Rattle.text.specs.Overstrike.{convert}
use Rattle.text.proofs.NoiseConversion.{convert_noises, convert_twin}
use Rattle.text.specs.Calls.{Question, ask, decide, lent, counted, question1, question2, convert_call}
use Rattle.text.specs.Calls.Laws.{lent_each}
use Rattle.spans.specs.Spans.{Span, spans, records}
use Rattle.spans.specs.Spans.Noise.{TwinSpan, spans_twin, records_twin}
use Rattle.spans.specs.Search as search
use Rattle.spans.specs.Calls.{read_call, question3, question4, no_record}
use Rattle.rows.specs.Rows.{Row, rows}
use Rattle.rows.specs.Rows.Noise.{rows_twin}
use Rattle.rows.specs.Calls.{mode_of, mode_and_width, numbers_of, question6, rows_call, height_call}
use Rattle.drawing.specs.Change.{Change, whole, encode}
use Rattle.drawing.specs.Draw.{render, render_wrapped}
use Rattle.drawing.specs.Draw.Noise.{PlainDigits, TwinChange, MarkByte, render_twin, render_wrapped_twin, seen_twin, whole_twin, encode_twin}
use Rattle.drawing.specs.Reader.{seen_by}
use Rattle.drawing.specs.Calls.{Drawn, question18, drawing, window_questions, row_questions, window_call, row_call}
use Rattle.drawing.specs.Calls.Laws.{none_torn, window_torn, row_torn}
use Rattle.noise.specs.Calls.{Call, answer, no_matches, without_matches, conv_of, changes_of}
use Rattle.noise.specs.Calls as calls
use Rattle.noise.specs.Demand3.{ExchangedByte, OwnNoises, Alike, Exchange}

-- ---- the demand's words, and lines byte by byte

byte_of : (a b : ℕ) → (a ≢ b → T (noise a) × T (noise b)) → Byte a b
byte_of a b f =
    cases (eqb a b)
    (λ e. rw (eqb→eq a b (true_T e)) Byte.same)
    (λ e. let h = f (λ q. true≢false (sym (is_true _ (eqb_refl b)) ∙ ap (λ (x : ℕ). eqb x b) (sym q) ∙ e)) in Byte.exchanged h.0 h.1)

twin_of : (s t : List ℕ) → length s ≡ length t → ((i : ℕ) → get_or s i 0 ≢ get_or t i 0 → T (noise (get_or s i 0)) × T (noise (get_or t i 0))) → Twin s t
twin_of [] [] e f = nil
twin_of [] (b ∷ t) e f = absurd (let z : 0 ≡ suc (length t) = e in omega arith)
twin_of (a ∷ s) [] e f = absurd (let z : suc (length s) ≡ 0 = e in omega arith)
twin_of (a ∷ s) (b ∷ t) e f = cons (byte_of a b (f 0)) (twin_of s t (omega arith) (λ i. f (suc i)))

-- ---- the noise bytes of two lines

further : {a b : ℕ} {s t : List ℕ} (x y : ℕ) → ExchangedByte s t x y → ExchangedByte (a ∷ s) (b ∷ t) x y
further x y ExchangedByte.same = ExchangedByte.same
further x y (ExchangedByte.exchanged i h k) = ExchangedByte.exchanged (suc i) h k

noise_pairs : {s t : List ℕ} → Twin s t → Each (ExchangedByte s t) (noises_of s) (noises_of t)
unfolding noises_of
noise_pairs nil = nil
noise_pairs (cons (Byte.same {b = b}) e) =
    cases (noise b) (λ q. rw q (cons ExchangedByte.same (each_map further (noise_pairs e)))) (λ q. rw q (each_map further (noise_pairs e)))
noise_pairs (cons (Byte.exchanged {b = b} {c = c} h k) e) = rw (is_true (noise b) h, is_true (noise c) k) (cons (ExchangedByte.exchanged 0 h k) (each_map further (noise_pairs e)))

apart : {R : ℕ → ℕ → Type 0} {a b : ℕ} {s t : List ℕ} → Each R (a ∷ s) (b ∷ t) → R a b × Each R s t
apart (cons r e) = (r, e)

-- what their noise bytes are in order, they are byte by byte
byte_pairs : {R : ℕ → ℕ → Type 0} → ((b : ℕ) → R b b) → {s t : List ℕ} → Twin s t → Each R (noises_of s) (noises_of t) → Each R s t
unfolding noises_of
byte_pairs f nil n = nil
byte_pairs f (cons (Byte.same {b = b}) e) n =
    cases (noise b) (λ q. cons (f b) (byte_pairs f e (apart (rw q at n)).1)) (λ q. cons (f b) (byte_pairs f e (rw q at n)))
byte_pairs f (cons (Byte.exchanged {b = b} {c = c} h k) e) n =
    let m = apart (rw (is_true (noise b) h, is_true (noise c) k) at n) in cons m.0 (byte_pairs f e m.1)

-- ---- what a call leaves in the conversion buffer

module _ (P : Profile) where
  converted_pairs : {s t : List ℕ} → Twin s t → Each (ExchangedByte s t) (convert P s) (convert P t)
  converted_pairs {s} {t} e = byte_pairs (λ b. ExchangedByte.same) (convert_twin P e) (rw (convert_noises P s, convert_noises P t) (noise_pairs e))

  conv_left : (c : Call) (s : List ℕ) → (answer P c s).conv ≡ lent 0 (conv_of c) (convert P s) (answer P c s).number
  unfolding answer conv_of convert_call read_call rows_call height_call window_call row_call drawing
  conv_left (calls.convert b) s = refl
  conv_left (calls.read b p ms) s = refl
  conv_left (calls.rows b p n w k) s = refl
  conv_left (calls.height b p w k) s = refl
  conv_left (calls.draw_window v b p r x y now ms) s = refl
  conv_left (calls.draw_row v b p r x n w k now ms) s = refl

  lent_noises : (n r : ℕ) (s : List ℕ) → noises_of (lent 0 n (convert P s) r) ≡ cond (eqb r 0) (noises_of s) []
  unfolding lent
  lent_noises n zero s = rw (noises_append (convert P s) _, convert_noises P s, noises_zeros) (append-nil (noises_of s))
  lent_noises n (suc r) s = rw (eqb-suc-zero r) (noises_zeros n)

  own_noises : (c : Call) (s : List ℕ) → OwnNoises P c s
  own_noises c s = rw (conv_left c s) (lent_noises (conv_of c) (answer P c s).number s)

module _ (P : Profile) (H : PlainDigits P) {s t : List ℕ} (e : Twin s t) where
  abbrev l : List ℕ
  l = convert P s

  abbrev m : List ℕ
  m = convert P t

  abbrev line : length s ≡ length t
  line = each_length e

  abbrev converted : Twin l m
  converted = convert_twin P e

  abbrev read : Each (TwinSpan l m) (spans P l) (spans P m)
  read = spans_twin P converted

  lent_conv : (n q r : ℕ) → q ≡ r → Each (ExchangedByte s t) (lent 0 n l q) (lent 0 n m r)
  lent_conv n q r d = lent_each (λ x. ExchangedByte.same) 0 n q r d (converted_pairs P e)

  lent_spans : (n q r : ℕ) → q ≡ r → lent no_record n (records (spans P l)) q ≡ lent no_record n (records (spans P m)) r
  lent_spans n q r d = ap₂ (lent no_record n) (records_twin read) d

  record TwinDrawn (a b : Drawn) : Type 0 where
    number : a.number ≡ b.number
    count : a.count ≡ b.count
    spans : a.spans ≡ b.spans
    list : Each (MarkByte l m) a.list b.list

  -- both kinds of drawing, with the questions qs between 4 and 8, and 8 asked of the changes
  drawn : (v b p r : ℕ) (qs : List Question) (draw : List Span → List Change) → Each (TwinChange P l m) (draw (spans P l)) (draw (spans P m))
      → TwinDrawn (drawing P v b p r [] qs (none_torn draw) draw s) (drawing P v b p r [] qs (none_torn draw) draw t)
  unfolding drawing search.read search.in_order
  drawn v b p r qs draw y =
      let z = encode_twin P H l m y in
      let d : decide (question18 v ∷ question1 s ∷ question2 b s ∷ question3 [] l ∷ question4 p (spans P l) ∷ qs ++ (ask 8 (whole (draw (spans P l))) ∷ ask 9 (leb (length (encode (draw (spans P l)))) r) ∷ []))
      ≡ decide (question18 v ∷ question1 t ∷ question2 b t ∷ question3 [] m ∷ question4 p (spans P m) ∷ qs ++ (ask 8 (whole (draw (spans P m))) ∷ ask 9 (leb (length (encode (draw (spans P m)))) r) ∷ [])) =
      rw (line, each_length read, whole_twin P H l m y, each_length z) in
      record { number = d; count = ap₂ counted (each_length z) d; spans = lent_spans p _ _ d; list = lent_each (λ x. MarkByte.same) 0 r _ _ d z }

  -- all but the converted lines
  record Answers (c : Call) : Type 0 where
    number : (answer P c s).number ≡ (answer P c t).number
    count : (answer P c s).count ≡ (answer P c t).count
    spans : (answer P c s).spans ≡ (answer P c t).spans
    rows : (answer P c s).rows ≡ (answer P c t).rows
    changes : Each (TwinChange P l m) (changes_of P c s) (changes_of P c t)
    list : Each (MarkByte l m) (answer P c s).list (answer P c t).list

  answers : (c : Call) → T (without_matches c) → Answers c
  unfolding without_matches no_matches answer changes_of convert_call read_call rows_call height_call search.read search.in_order
  answers (calls.convert b) h =
      let d : decide (question1 s ∷ question2 b s ∷ []) ≡ decide (question1 t ∷ question2 b t ∷ []) = rw line in
      record { number = d; count = ap₂ counted (each_length converted) d; spans = refl; rows = refl; changes = nil; list = nil }
  answers (calls.read b p []) h =
      let d : decide (question1 s ∷ question2 b s ∷ question3 [] l ∷ question4 p (spans P l) ∷ []) ≡ decide (question1 t ∷ question2 b t ∷ question3 [] m ∷ question4 p (spans P m) ∷ []) = rw (line, each_length read) in
      record { number = d; count = ap₂ counted (each_length read) d; spans = lent_spans p _ _ d; rows = refl; changes = nil; list = nil }
  answers (calls.read b p (x ∷ xs)) h = absurd h
  answers (calls.rows b p n w k) h =
      let g : rows P w (mode_of k) (spans P l) ≡ rows P w (mode_of k) (spans P m) = rows_twin P w (mode_of k) read in
      let d : decide (question1 s ∷ question2 b s ∷ question4 p (spans P l) ∷ ask 5 (mode_and_width k w) ∷ question6 n (rows P w (mode_of k) (spans P l)) ∷ [])
      ≡ decide (question1 t ∷ question2 b t ∷ question4 p (spans P m) ∷ ask 5 (mode_and_width k w) ∷ question6 n (rows P w (mode_of k) (spans P m)) ∷ []) = rw (line, each_length read, g) in
      record { number = d; count = ap₂ counted (ap length g) d; spans = lent_spans p _ _ d; rows = ap₂ (λ (x : List Row) (r : ℕ). lent 0 n (numbers_of x) r) g d; changes = nil; list = nil }
  answers (calls.height b p w k) h =
      let g : rows P w (mode_of k) (spans P l) ≡ rows P w (mode_of k) (spans P m) = rows_twin P w (mode_of k) read in
      let d : decide (question1 s ∷ question2 b s ∷ question4 p (spans P l) ∷ ask 5 (mode_and_width k w) ∷ []) ≡ decide (question1 t ∷ question2 b t ∷ question4 p (spans P m) ∷ ask 5 (mode_and_width k w) ∷ []) = rw (line, each_length read) in
      record { number = d; count = ap₂ counted (ap length g) d; spans = lent_spans p _ _ d; rows = refl; changes = nil; list = nil }
  answers (calls.draw_window v b p r x y now []) h =
      let c = seen_twin P H l m v (render_twin P H l m x y now read) in
      let f : TwinDrawn (window_call P v b p r x y now [] s) (window_call P v b p r x y now [] t) =
      rw (window_torn P v b p r x y now [] s, window_torn P v b p r x y now [] t) (drawn v b p r (window_questions x y) (λ ss. seen_by v (render P x y now ss)) c) in
      record { number = f.number; count = f.count; spans = f.spans; rows = refl; changes = c; list = f.list }
  answers (calls.draw_window v b p r x y now (k ∷ ks)) h = absurd h
  answers (calls.draw_row v b p r x n w k now []) h =
      let c = seen_twin P H l m v (render_wrapped_twin P H l m x n w (mode_of k) now read) in
      let f : TwinDrawn (row_call P v b p r x n w k now [] s) (row_call P v b p r x n w k now [] t) =
      rw (row_torn P v b p r x n w k now [] s, row_torn P v b p r x n w k now [] t) (drawn v b p r (row_questions x n w k) (λ ss. seen_by v (render_wrapped P x n w (mode_of k) now ss)) c) in
      record { number = f.number; count = f.count; spans = f.spans; rows = refl; changes = c; list = f.list }
  answers (calls.draw_row v b p r x n w k now (y ∷ ys)) h = absurd h

  alike : (c : Call) → T (without_matches c) → Alike P c s t
  alike c h =
      let a = answers c h in
      record {
        number = a.number;
        count = a.count;
        spans = a.spans;
        rows = a.rows;
        conv = rw (conv_left P c s, conv_left P c t) (lent_conv (conv_of c) _ _ a.number);
        first_noises = own_noises P c s;
        second_noises = own_noises P c t;
        changes = a.changes;
        list = a.list;
      }

pub exchange_of : (P : Profile) → PlainDigits P → Exchange P
exchange_of P H c h s t e = alike P H (twin_of s t e.length e.differ) c h
