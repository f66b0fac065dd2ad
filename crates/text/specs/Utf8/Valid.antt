-- A scalar that was decoded is decoded again from its bytes, whatever follows them.
use Rattle.std.specs.Prelude.{◌≡◌, refl, ℕ, zero, suc, ◌≤◌, ◌<◌, Bool, true, false, ◌&&◌, ◌||◌, List, [], ◌∷◌, ◌++◌, map, length, take, T, leb, ltb}
use Rattle.std.proofs.Common.{sym, ap, ◌∙◌, zero-le, suc-le-suc, le_of_suc-le-suc, arith, append_assoc, append-nil, length-take-le, take_at, drop_at, leb→le, ltb→lt}
use Rattle.std.proofs.Math.Seq.{take-length}
use Rattle.text.specs.Tests.{and_T, or_T, is_true, is_false, true_T, cases}
use Rattle.text.specs.Each.{All, all_nil, all_cons}
use Rattle.text.specs.Utf8.{Range, within, table, fits, length_in, sequence, decoded_as, decode_from, decode, Decoded, well_formed, ill_formed, scalar, Scalar, Piece, run, damaged, add_to_run, runs, run_of, bytes_of}
use Rattle.text.specs.Utf8.Laws.{sequence_le, decode_bad, decode_good}

-- ---- two rows of the table share no first byte

apart : List Range → List Range → Bool
apart [] b = false
apart (q ∷ qs) [] = false
apart (q ∷ qs) (r ∷ rs) = ◌||◌ (ltb q.high r.low) (ltb r.high q.low)

apart_all : List Range → List (List Range) → Bool
unfolding apart
apart_all q [] = true
apart_all q (r ∷ rs) = ◌&&◌ (apart q r) (apart_all q rs)

rows_apart : List (List Range) → Bool
unfolding apart_all
rows_apart [] = true
rows_apart (q ∷ qs) = ◌&&◌ (apart_all q qs) (rows_apart qs)

apart_fits : (q r : List Range) (b : ℕ) (s u : List ℕ) → T (apart q r) → T (fits r (b ∷ s)) → fits q (b ∷ u) ≡ false
unfolding apart fits
apart_fits [] r b s u t f = absurd t
apart_fits (q ∷ qs) [] b s u t f = absurd t
apart_fits (q ∷ qs) (r ∷ rs) b s u t f =
    let w = and_T (leb r.low b) (leb b r.high) (and_T (within r b) (fits rs s) f).0 in
    let h₁ : r.low ≤ b = leb→le _ _ w.0 in
    let h₂ : b ≤ r.high = leb→le _ _ w.1 in
    is_false _ (λ g.
    let x = and_T (leb q.low b) (leb b q.high) (and_T (within q b) (fits qs u) g).0 in
    let h₃ : q.low ≤ b = leb→le _ _ x.0 in
    let h₄ : b ≤ q.high = leb→le _ _ x.1 in
    or_T (ltb q.high r.low) _ t
    (λ v. let h : q.high < r.low = ltb→lt _ _ v in omega arith)
    (λ v. let h : r.high < q.low = ltb→lt _ _ v in omega arith))

apart_none : (rows : List (List Range)) (q : List Range) (b n : ℕ) (s u : List ℕ) → T (apart_all q rows) → length_in rows (b ∷ s) ≡ suc n → fits q (b ∷ u) ≡ false
unfolding apart_all length_in
apart_none [] q b n s u t e = absurd (omega arith)
apart_none (row ∷ rows) q b n s u t e =
    let w = and_T (apart q row) (apart_all q rows) t in
    cases (fits row (b ∷ s)) (λ f. apart_fits q row b s u w.0 (true_T f)) (λ f. apart_none rows q b n s u w.1 (rw f at e))

-- ---- a sequence stays one, whatever follows its bytes

fits_take : (row : List Range) (s t : List ℕ) → T (fits row s) → T (fits row (take (length row) s ++ t))
unfolding fits
fits_take [] s t f = tt
fits_take (r ∷ rs) [] t f = absurd f
fits_take (r ∷ rs) (b ∷ s) t f =
    let w = and_T (within r b) (fits rs s) f in
    rw (is_true (within r b) w.0) (fits_take rs s t w.1)

length_in_take : (rows : List (List Range)) (b n : ℕ) (s t : List ℕ) → T (rows_apart rows) → length_in rows (b ∷ s) ≡ suc n → length_in rows (b ∷ (take n s ++ t)) ≡ suc n
unfolding rows_apart length_in
length_in_take [] b n s t a e = e
length_in_take (row ∷ rows) b n s t a e =
    let w = and_T (apart_all row rows) (rows_apart rows) a in
    cases (fits row (b ∷ s))
    (λ f.
    let l : length row ≡ suc n = rw f at e in
    let g : T (fits row (b ∷ (take n s ++ t))) = rw l at (fits_take row (b ∷ s) t (true_T f)) in
    rw (is_true (fits row (b ∷ (take n s ++ t))) g) l)
    (λ f.
    let l : length_in rows (b ∷ s) ≡ suc n = rw f at e in
    rw (apart_none rows row b n s (take n s ++ t) w.0 l) (length_in_take rows b n s t w.1 l))

pub sequence_take : (b n : ℕ) (s t : List ℕ) → sequence (b ∷ s) ≡ suc n → sequence (b ∷ (take n s ++ t)) ≡ suc n
unfolding sequence rows_apart table
sequence_take b n s t e = length_in_take table b n s t tt e

-- ---- valid scalars

pub record Valid (c : Scalar) : Type 0 where
  pub some : 1 ≤ length c.bytes
  pub decodes : (t : List ℕ) → decode (c.bytes ++ t) ≡ well_formed c ∷ decode t

scalar_valid : (b n : ℕ) (s : List ℕ) → sequence (b ∷ s) ≡ suc n → Valid (scalar (b ∷ take n s))
unfolding scalar
scalar_valid b n s e =
    let l : suc n ≤ suc (length s) = rw e at (sequence_le (b ∷ s)) in
    let k : length (take n s) ≡ n = length-take-le n s (le_of_suc-le-suc l) in
    record {
      some = suc-le-suc zero-le;
      decodes = λ t. decode_good b (take n s ++ t) n (sequence_take b n s t e) ∙ rw (take_at (take n s) t n k, drop_at (take n s) t n k);
    }

pub sequence_valid : (s : List ℕ) → sequence s ≡ length s → 1 ≤ length s → Valid (scalar s)
sequence_valid [] e h = absurd (omega arith)
sequence_valid (b ∷ s) e h = rw (take-length s) at (scalar_valid b (length s) s e)

-- its bytes are one sequence, and it is what they stand for
pub record OneSequence (c : Scalar) : Type 0 where
  pub length : sequence c.bytes ≡ length c.bytes
  pub is : c ≡ scalar c.bytes

pub valid_sequence : (c : Scalar) → Valid c → OneSequence c
unfolding scalar
valid_sequence c v = go c.bytes refl
  where
    go : (l : List ℕ) → l ≡ c.bytes → OneSequence c
    go [] q = absurd (omega (arith, ap length q, v.some))
    go (b ∷ s) q = by (sequence (b ∷ s)) refl
      where
        alone : decode (b ∷ s) ≡ well_formed c ∷ decode []
        alone = ap decode (q ∙ sym (append-nil c.bytes)) ∙ v.decodes []

        by : (n : ℕ) → sequence (b ∷ s) ≡ n → OneSequence c
        by zero e = absurd (let f : ill_formed b ∷ decode s ≡ well_formed c ∷ decode [] = sym (decode_bad b s e) ∙ alone in let z : ◌≡◌ {A = ℕ} 0 1 = cc in omega arith)
        by (suc n) e =
            let f : well_formed (scalar (take (suc n) (b ∷ s))) ∷ _ ≡ well_formed c ∷ decode [] = sym (decode_good b s n e) ∙ alone in
            let k : scalar (take (suc n) (b ∷ s)) ≡ c = cc in
            let m : take (suc n) (b ∷ s) ≡ c.bytes = ap (λ (x : Scalar). x.bytes) k in
            record { length = rw (← q) e ∙ sym (ap length (sym m) ∙ length-take-le (suc n) (b ∷ s) (rw e at (sequence_le (b ∷ s)))); is = sym k ∙ ap scalar m }

pub data ValidDecoded : Decoded → Type 0 where
  valid : {c : Scalar} → Valid c → ValidDecoded (well_formed c)
  ill : {b : ℕ} → ValidDecoded (ill_formed b)

pub data ValidPiece : Piece → Type 0 where
  valid : {s : List Scalar} → All Valid s → ValidPiece (run s)
  ill : {b : ℕ} → ValidPiece (damaged b)

decode_from_valid : (k : ℕ) (s : List ℕ) → All ValidDecoded (decode_from k s)
unfolding decode_from
decode_from_valid k [] = all_nil
decode_from_valid zero (b ∷ s) = go (sequence (b ∷ s)) refl (λ k. decode_from_valid k s)
  where
    go : (m : ℕ) → sequence (b ∷ s) ≡ m → ((k : ℕ) → All ValidDecoded (decode_from k s)) → All ValidDecoded (decoded_as m b s (λ k. decode_from k s))
    go zero e ih = all_cons ill (ih zero)
    go (suc m) e ih = all_cons (valid (scalar_valid b m s e)) (ih m)
decode_from_valid (suc k) (b ∷ s) = decode_from_valid k s

add_to_run_valid : (c : Scalar) → Valid c → {ps : List Piece} → All ValidPiece ps → All ValidPiece (add_to_run c ps)
unfolding add_to_run
add_to_run_valid c h all_nil = all_cons (valid (all_cons h all_nil)) all_nil
add_to_run_valid c h (all_cons (ValidPiece.valid a) e) = all_cons (valid (all_cons h a)) e
add_to_run_valid c h (all_cons ValidPiece.ill e) = all_cons (valid (all_cons h all_nil)) (all_cons ill e)

runs_of_valid : {ds : List Decoded} → All ValidDecoded ds → All ValidPiece (runs ds)
unfolding runs
runs_of_valid all_nil = all_nil
runs_of_valid (all_cons (ValidDecoded.valid {c = c} h) e) = add_to_run_valid c h (runs_of_valid e)
runs_of_valid (all_cons ValidDecoded.ill e) = all_cons ill (runs_of_valid e)

-- what is decoded holds valid scalars
pub decode_valid : (s : List ℕ) → All ValidDecoded (decode s)
unfolding decode
decode_valid s = decode_from_valid zero s

-- the runs of a line hold valid scalars
pub runs_valid : (s : List ℕ) → All ValidPiece (runs (decode s))
runs_valid s = runs_of_valid (decode_valid s)

-- a valid text is decoded again from its bytes
pub decode_text : {s : List Scalar} → All Valid s → (t : List ℕ) → decode (bytes_of s ++ t) ≡ map well_formed s ++ decode t
unfolding bytes_of
decode_text all_nil t = refl
decode_text (all_cons {a = c} {s = s} h e) t =
    ap decode (append_assoc c.bytes (bytes_of s) t) ∙ h.decodes (bytes_of s ++ t) ∙ ap (λ (l : List Decoded). well_formed c ∷ l) (decode_text e t)

pub run_text : {s : List Scalar} → All Valid s → run_of (decode (bytes_of s)) ≡ s
unfolding run_of decode decode_from
run_text {s} e = ap (λ (l : List ℕ). run_of (decode l)) (sym (append-nil (bytes_of s))) ∙ ap run_of (decode_text e []) ∙ wells s
  where
    wells : (s : List Scalar) → run_of (map well_formed s ++ []) ≡ s
    wells [] = refl
    wells (c ∷ s) = ap (λ (l : List Scalar). c ∷ l) (wells s)
