-- A noise byte stands in no sequence: it separates what stands before it and behind it, and which one it is does not matter.
use Rattle.std.specs.Prelude.{◌≡◌, refl, ℕ, zero, suc, ◌≤◌, ◌<◌, Bool, false, cond, ◌&&◌, List, [], ◌∷◌, ◌++◌, length, take, replicate, T, leb, ltb, eqb}
use Rattle.std.proofs.Common.{sym, ap, ap₂, ◌∙◌, subst, arith, leb→le, ltb→lt, eqb→eq}
use Rattle.std.proofs.Math.Seq.{take-length}
use Rattle.text.specs.Tests.{and_T, or_T, is_false, true_T, cases}
use Rattle.text.specs.Each.{Each, nil, cons, All, all_nil, all_cons, all_append}
use Rattle.text.specs.Utf8.{Range, within, table, fits, length_in, sequence, decoded_as, decode_from, decode, Decoded, well_formed, ill_formed, scalar, Scalar, Piece, run, damaged, add_to_run, runs, bytes_of, noise, all_noise, noises_of}
use Rattle.text.specs.Utf8.Laws.{decode_bad}
use Rattle.text.specs.Utf8.Separation.{decode_apart}
use Rattle.text.specs.Utf8.Valid.{Valid, valid_sequence}
use Rattle.text.specs.Utf8.Noise.{clean, clean_row, clean_table, table_clean, NoNoise, Byte, Twin, TwinUnit, TwinPiece, same, exchanged}

-- ---- ranges in which no noise byte lies

pub noise_range : (n : ℕ) → T (noise n) → (0xC0 ≤ n) × (n ≤ 0xFF)
unfolding noise
noise_range n t =
    or_T (eqb n 0xC0) _ t
    (λ e. let h : n ≡ 0xC0 = eqb→eq n 0xC0 e in omega arith)
    (λ u. or_T (eqb n 0xC1) _ u
    (λ e. let h : n ≡ 0xC1 = eqb→eq n 0xC1 e in omega arith)
    (λ v. let p = and_T (leb 0xF5 n) (leb n 0xFF) v in
    let h₁ : 0xF5 ≤ n = leb→le _ _ p.0 in
    let h₂ : n ≤ 0xFF = leb→le _ _ p.1 in
    omega arith))

noise_either : (n : ℕ) → T (noise n) → 0xC2 ≤ n → 0xF5 ≤ n
unfolding noise
noise_either n t l =
    or_T (eqb n 0xC0) _ t
    (λ e. let h : n ≡ 0xC0 = eqb→eq n 0xC0 e in omega arith)
    (λ u. or_T (eqb n 0xC1) _ u
    (λ e. let h : n ≡ 0xC1 = eqb→eq n 0xC1 e in omega arith)
    (λ v. leb→le _ _ (and_T (leb 0xF5 n) (leb n 0xFF) v).0))

pub noise_cons : (n : ℕ) (ns : List ℕ) → T (all_noise (n ∷ ns)) → T (noise n) × T (all_noise ns)
unfolding all_noise
noise_cons n ns h = and_T (noise n) (all_noise ns) h

pub within_noise : (r : Range) (n : ℕ) → T (clean r) → T (noise n) → within r n ≡ false
unfolding clean
within_noise r n c t =
    is_false _ (λ w.
    let p = and_T (leb r.low n) (leb n r.high) w in
    let lo : r.low ≤ n = leb→le _ _ p.0 in
    let hi : n ≤ r.high = leb→le _ _ p.1 in
    let b = noise_range n t in
    or_T (ltb r.high 0xC0) _ c
    (λ u. let h : r.high < 0xC0 = ltb→lt _ _ u in omega arith)
    (λ u. let q = and_T (leb 0xC2 r.low) (ltb r.high 0xF5) u in
    let h₁ : 0xC2 ≤ r.low = leb→le _ _ q.0 in
    let h₂ : r.high < 0xF5 = ltb→lt _ _ q.1 in
    let h₃ : 0xF5 ≤ n = noise_either n t (omega arith) in
    omega arith))

-- ---- a noise byte begins no sequence

fits_noise : (row : List Range) (n : ℕ) (t : List ℕ) → T (clean_row row) → T (noise n) → fits row (n ∷ t) ≡ fits row []
unfolding fits clean_row
fits_noise [] n t c h = refl
fits_noise (r ∷ rs) n t c h = ap (λ (w : Bool). ◌&&◌ w (fits rs t)) (within_noise r n (and_T (clean r) (clean_row rs) c).0 h)

length_in_noise : (rows : List (List Range)) (n : ℕ) (t : List ℕ) → T (clean_table rows) → T (noise n) → length_in rows (n ∷ t) ≡ length_in rows []
unfolding length_in clean_table
length_in_noise [] n t c h = refl
length_in_noise (row ∷ rows) n t c h =
    let p = and_T (clean_row row) (clean_table rows) c in
    ap₂ (λ (w : Bool) (k : ℕ). cond w (length row) k) (fits_noise row n t p.0 h) (length_in_noise rows n t p.1 h)

sequence_noise : (n : ℕ) (t : List ℕ) → T (noise n) → sequence (n ∷ t) ≡ 0
unfolding sequence
sequence_noise n t h = length_in_noise table n t table_clean h

-- separation: the decode of the parts, and the noise byte between them
pub decode_noise : (a : List ℕ) (n : ℕ) (t : List ℕ) → T (noise n) → decode (a ++ n ∷ t) ≡ decode a ++ ill_formed n ∷ decode t
decode_noise a n t h =
    decode_apart n t (λ c. let r = noise_range n h in omega (arith, c.1)) a ∙ ap (λ (us : List Decoded). decode a ++ us) (decode_bad n t (sequence_noise n t h))

add_to_run_noise : (c : Scalar) (ps : List Piece) (n : ℕ) (qs : List Piece) → add_to_run c (ps ++ damaged n ∷ qs) ≡ add_to_run c ps ++ damaged n ∷ qs
unfolding add_to_run
add_to_run_noise c [] n qs = refl
add_to_run_noise c (run s ∷ ps) n qs = refl
add_to_run_noise c (damaged b ∷ ps) n qs = refl

runs_bad : (us : List Decoded) (n : ℕ) (vs : List Decoded) → runs (us ++ ill_formed n ∷ vs) ≡ runs us ++ damaged n ∷ runs vs
unfolding runs
runs_bad [] n vs = refl
runs_bad (well_formed c ∷ us) n vs = ap (add_to_run c) (runs_bad us n vs) ∙ add_to_run_noise c (runs us) n (runs vs)
runs_bad (ill_formed b ∷ us) n vs = ap (λ (l : List Piece). damaged b ∷ l) (runs_bad us n vs)

-- the runs of the parts, and the noise byte between them
pub runs_noise : (a : List ℕ) (n : ℕ) (t : List ℕ) → T (noise n) → runs (decode (a ++ n ∷ t)) ≡ runs (decode a) ++ damaged n ∷ runs (decode t)
runs_noise a n t h = ap runs (decode_noise a n t h) ∙ runs_bad (decode a) n (decode t)

-- ---- a valid text holds no noise byte

within_none : (r : Range) (b : ℕ) → T (clean r) → T (within r b) → NoNoise b
within_none r b c w = is_false (noise b) (λ t. absurd (rw (within_noise r b c t) at w))

fits_none : (row : List Range) (s : List ℕ) → T (clean_row row) → T (fits row s) → All NoNoise (take (length row) s)
unfolding fits clean_row
fits_none [] s c w = all_nil
fits_none (r ∷ rs) [] c w = absurd w
fits_none (r ∷ rs) (b ∷ s) c w =
    let p = and_T (clean r) (clean_row rs) c in
    let q = and_T (within r b) (fits rs s) w in
    all_cons (within_none r b p.0 q.0) (fits_none rs s p.1 q.1)

length_in_none : (rows : List (List Range)) (s : List ℕ) → T (clean_table rows) → All NoNoise (take (length_in rows s) s)
unfolding length_in clean_table
length_in_none [] s c = all_nil
length_in_none (row ∷ rows) s c =
    let p = and_T (clean_row row) (clean_table rows) c in
    cases (fits row s) (λ k. rw k (fits_none row s p.0 (true_T k))) (λ k. rw k (length_in_none rows s p.1))

scalar_none : (c : Scalar) → Valid c → All NoNoise c.bytes
unfolding sequence
scalar_none c v = rw ((valid_sequence c v).length, take-length c.bytes) at (length_in_none table c.bytes table_clean)

pub text_none : {s : List Scalar} → All Valid s → All NoNoise (bytes_of s)
unfolding bytes_of
text_none all_nil = all_nil
text_none (all_cons {a = c} v e) = all_append (scalar_none c v) (text_none e)

pub low_none : (b : ℕ) → b ≤ 0x7F → NoNoise b
low_none b h = is_false (noise b) (λ t. let r = noise_range b t in omega arith)

-- ---- the noise bytes of a line

pub noises_append : (s t : List ℕ) → noises_of (s ++ t) ≡ noises_of s ++ noises_of t
unfolding noises_of
noises_append [] t = refl
noises_append (b ∷ s) t = cases (noise b) (λ e. rw e (ap (λ (l : List ℕ). b ∷ l) (noises_append s t))) (λ e. rw e (noises_append s t))

pub noises_none : {s : List ℕ} → All NoNoise s → noises_of s ≡ []
unfolding noises_of
noises_none all_nil = refl
noises_none (all_cons h e) = rw h (noises_none e)

pub noises_zeros : (n : ℕ) → noises_of (replicate n 0) ≡ []
unfolding noises_of noise
noises_zeros zero = refl
noises_zeros (suc n) = noises_zeros n

-- ---- exchange

within_twin : (r : Range) {b c : ℕ} → T (clean r) → Byte b c → within r b ≡ within r c
within_twin r k same = refl
within_twin r k (exchanged {b = b} {c = c} h j) = within_noise r b k h ∙ sym (within_noise r c k j)

fits_twin : (row : List Range) {s t : List ℕ} → T (clean_row row) → Twin s t → fits row s ≡ fits row t
unfolding fits clean_row
fits_twin [] c e = refl
fits_twin (r ∷ rs) c nil = refl
fits_twin (r ∷ rs) c (cons h e) =
    let p = and_T (clean r) (clean_row rs) c in
    ap₂ ◌&&◌ (within_twin r p.0 h) (fits_twin rs p.1 e)

length_in_twin : (rows : List (List Range)) {s t : List ℕ} → T (clean_table rows) → Twin s t → length_in rows s ≡ length_in rows t
unfolding length_in clean_table
length_in_twin [] c e = refl
length_in_twin (row ∷ rows) c e =
    let p = and_T (clean_row row) (clean_table rows) c in
    ap₂ (λ (w : Bool) (k : ℕ). cond w (length row) k) (fits_twin row p.0 e) (length_in_twin rows p.1 e)

-- a sequence's own bytes are the same
same_within : (r : Range) {b c : ℕ} → T (clean r) → Byte b c → T (within r b) → b ≡ c
same_within r k same w = refl
same_within r k (exchanged {b = b} h j) w = absurd (rw (within_noise r b k h) at w)

fits_same : (row : List Range) {s t : List ℕ} → T (clean_row row) → Twin s t → T (fits row s) → take (length row) s ≡ take (length row) t
unfolding fits clean_row
fits_same [] c e w = refl
fits_same (r ∷ rs) c nil w = refl
fits_same (r ∷ rs) c (cons {a = a} {s = s} h e) w =
    let p = and_T (clean r) (clean_row rs) c in
    let q = and_T (within r a) (fits rs s) w in
    ap₂ (λ (x : ℕ) (l : List ℕ). x ∷ l) (same_within r p.0 h q.0) (fits_same rs p.1 e q.1)

length_in_same : (rows : List (List Range)) {s t : List ℕ} → T (clean_table rows) → Twin s t → take (length_in rows s) s ≡ take (length_in rows s) t
unfolding length_in clean_table
length_in_same [] c e = refl
length_in_same (row ∷ rows) {s} c e =
    let p = and_T (clean_row row) (clean_table rows) c in
    cases (fits row s) (λ k. rw k (fits_same row p.0 e (true_T k))) (λ k. rw k (length_in_same rows p.1 e))

decoded_as_twin : (m : ℕ) {b c : ℕ} (s t : List ℕ) → Byte b c → take m (b ∷ s) ≡ take m (c ∷ t) → ((k : ℕ) → Each TwinUnit (decode_from k s) (decode_from k t))
    → Each TwinUnit (decoded_as m b s (λ k. decode_from k s)) (decoded_as m c t (λ k. decode_from k t))
unfolding decoded_as
decoded_as_twin zero s t h e ih = cons (exchanged h) (ih zero)
decoded_as_twin (suc m) {b} s t h e ih =
    subst (λ (x : List ℕ). Each TwinUnit (well_formed (scalar (take (suc m) (b ∷ s))) ∷ decode_from m s) (well_formed (scalar x) ∷ decode_from m t)) e (cons same (ih m))

decode_from_twin : (k : ℕ) {s t : List ℕ} → Twin s t → Each TwinUnit (decode_from k s) (decode_from k t)
unfolding decode_from sequence
decode_from_twin k nil = nil
decode_from_twin zero (cons {a = a} {b = b} {s = s} {t = t} h e) =
    subst (λ (m : ℕ). Each TwinUnit (decoded_as (sequence (a ∷ s)) a s (λ k. decode_from k s)) (decoded_as m b t (λ k. decode_from k t))) (length_in_twin table table_clean (cons h e))
    (decoded_as_twin (sequence (a ∷ s)) s t h (length_in_same table table_clean (cons h e)) (λ k. decode_from_twin k e))
decode_from_twin (suc k) (cons h e) = decode_from_twin k e

-- ---- runs

add_to_run_twin : (c : Scalar) {ps qs : List Piece} → Each TwinPiece ps qs → Each TwinPiece (add_to_run c ps) (add_to_run c qs)
unfolding add_to_run
add_to_run_twin c nil = cons same nil
add_to_run_twin c (cons (same {p = run s}) e) = cons same e
add_to_run_twin c (cons (same {p = damaged b}) e) = cons same (cons same e)
add_to_run_twin c (cons (exchanged h) e) = cons same (cons (exchanged h) e)

runs_of_twin : {us vs : List Decoded} → Each TwinUnit us vs → Each TwinPiece (runs us) (runs vs)
unfolding runs
runs_of_twin nil = nil
runs_of_twin (cons (same {u = well_formed c}) e) = add_to_run_twin c (runs_of_twin e)
runs_of_twin (cons (same {u = ill_formed b}) e) = cons same (runs_of_twin e)
runs_of_twin (cons (exchanged h) e) = cons (exchanged h) (runs_of_twin e)

pub runs_twin : {s t : List ℕ} → Twin s t → Each TwinPiece (runs (decode s)) (runs (decode t))
unfolding decode
runs_twin e = runs_of_twin (decode_from_twin zero e)
