-- What is decoded holds the bytes that it was read from; a line is decoded one scalar or damaged byte after the other.
use Rattle.std.specs.Prelude.{◌≡◌, refl, ℕ, zero, suc, ◌≤◌, ◌<◌, Bool, true, false, ◌&&◌, ◌||◌, List, [], ◌∷◌, ◌++◌, length, take, drop, T, leb, ltb, eqb}
use Rattle.std.proofs.Common.{sym, ap, ap₂, ◌∙◌, zero-le, suc-le-suc, arith, append_assoc, append-nil, take-append-drop, leb→le, ltb→lt, eqb→eq}
use Rattle.text.specs.Tests.{and_T, or_T, is_true, is_false, true_T, cases}
use Rattle.text.specs.Utf8.{Range, within, table, fits, length_in, sequence, decoded_as, decode_from, decode, Decoded, well_formed, ill_formed, scalar, Scalar, Piece, run, damaged, add_to_run, runs, bytes_of, same_bytes, reads}

-- ---- a sequence lies within the bytes

fits_le : (row : List Range) (s : List ℕ) → fits row s ≡ true → length row ≤ length s
unfolding fits
fits_le [] s e = zero-le
fits_le (r ∷ rs) [] e = absurd (true_T e)
fits_le (r ∷ rs) (b ∷ s) e = suc-le-suc (fits_le rs s (is_true _ (and_T (within r b) (fits rs s) (true_T e)).1))

length_in_le : (rows : List (List Range)) (s : List ℕ) → length_in rows s ≤ length s
unfolding length_in
length_in_le [] s = zero-le
length_in_le (row ∷ rows) s =
    cases (fits row s) (λ e. rw e (fits_le row s e)) (λ e. rw e (length_in_le rows s))

pub sequence_le : (s : List ℕ) → sequence s ≤ length s
unfolding sequence
sequence_le s = length_in_le table s

-- ---- bytes

pub scalar_bytes : (s : List ℕ) → (scalar s).bytes ≡ s
unfolding scalar
scalar_bytes s = refl

pub bytes_nil : bytes_of [] ≡ []
unfolding bytes_of
bytes_nil = refl

pub bytes_cons : (c : Scalar) (s : List Scalar) → bytes_of (c ∷ s) ≡ c.bytes ++ bytes_of s
unfolding bytes_of
bytes_cons c s = refl

pub bytes_one : (c : Scalar) → bytes_of (c ∷ []) ≡ c.bytes
unfolding bytes_of
bytes_one c = append-nil c.bytes

pub bytes_of_append : (s t : List Scalar) → bytes_of (s ++ t) ≡ bytes_of s ++ bytes_of t
unfolding bytes_of
bytes_of_append [] t = refl
bytes_of_append (c ∷ s) t = ap (λ (l : List ℕ). c.bytes ++ l) (bytes_of_append s t) ∙ sym (append_assoc c.bytes (bytes_of s) (bytes_of t))

unfoldable pub decoded_bytes : List Decoded → List ℕ
decoded_bytes [] = []
decoded_bytes (well_formed c ∷ us) = c.bytes ++ decoded_bytes us
decoded_bytes (ill_formed b ∷ us) = b ∷ decoded_bytes us

unfoldable pub piece_bytes : List Piece → List ℕ
unfolding bytes_of
piece_bytes [] = []
piece_bytes (run s ∷ ps) = bytes_of s ++ piece_bytes ps
piece_bytes (damaged b ∷ ps) = b ∷ piece_bytes ps

pub pieces_nil : piece_bytes [] ≡ []
unfolding piece_bytes
pieces_nil = refl

pub pieces_run : (s : List Scalar) (ps : List Piece) → piece_bytes (run s ∷ ps) ≡ bytes_of s ++ piece_bytes ps
unfolding piece_bytes
pieces_run s ps = refl

pub pieces_damaged : (b : ℕ) (ps : List Piece) → piece_bytes (damaged b ∷ ps) ≡ b ∷ piece_bytes ps
unfolding piece_bytes
pieces_damaged b ps = refl

decoded_bytes_from : (k : ℕ) (s : List ℕ) → decoded_bytes (decode_from k s) ≡ drop k s
unfolding decoded_bytes decode_from
decoded_bytes_from zero [] = refl
decoded_bytes_from (suc k) [] = refl
decoded_bytes_from zero (b ∷ s) = go (sequence (b ∷ s)) (λ k. decoded_bytes_from k s)
  where
    go : (m : ℕ) → ((k : ℕ) → decoded_bytes (decode_from k s) ≡ drop k s) → decoded_bytes (decoded_as m b s (λ k. decode_from k s)) ≡ b ∷ s
    go zero ih = ap (λ (l : List ℕ). b ∷ l) (ih zero)
    go (suc m) ih = ap (λ (l : List ℕ). b ∷ (take m s ++ l)) (ih m) ∙ ap (λ (l : List ℕ). b ∷ l) (take-append-drop m s)
decoded_bytes_from (suc k) (b ∷ s) = decoded_bytes_from k s

pub decoded_bytes_decode : (s : List ℕ) → decoded_bytes (decode s) ≡ s
unfolding decode
decoded_bytes_decode s = decoded_bytes_from zero s

add_to_run_bytes : (c : Scalar) (ps : List Piece) → piece_bytes (add_to_run c ps) ≡ c.bytes ++ piece_bytes ps
unfolding add_to_run piece_bytes
add_to_run_bytes c [] = append-nil (c.bytes ++ [])
add_to_run_bytes c (run s ∷ ps) = append_assoc c.bytes (bytes_of s) (piece_bytes ps)
add_to_run_bytes c (damaged b ∷ ps) = ap (λ (l : List ℕ). l ++ b ∷ piece_bytes ps) (append-nil c.bytes)

pub piece_bytes_runs : (us : List Decoded) → piece_bytes (runs us) ≡ decoded_bytes us
unfolding runs piece_bytes decoded_bytes
piece_bytes_runs [] = refl
piece_bytes_runs (well_formed c ∷ us) = add_to_run_bytes c (runs us) ∙ ap (λ (l : List ℕ). c.bytes ++ l) (piece_bytes_runs us)
piece_bytes_runs (ill_formed b ∷ us) = ap (λ (l : List ℕ). b ∷ l) (piece_bytes_runs us)

-- ---- the bytes that a text reads as

same_bytes_is : (s t : List ℕ) → T (same_bytes s t) → s ≡ t
unfolding same_bytes
same_bytes_is [] [] h = refl
same_bytes_is [] (b ∷ t) h = absurd h
same_bytes_is (a ∷ s) [] h = absurd h
same_bytes_is (a ∷ s) (b ∷ t) h = let w = and_T (eqb a b) (same_bytes s t) h in ap₂ (λ (x : ℕ) (l : List ℕ). x ∷ l) (eqb→eq a b w.0) (same_bytes_is s t w.1)

pub reads_is : (g : List Scalar) (s : List ℕ) → reads g s ≡ true → bytes_of g ≡ s
unfolding reads
reads_is g s e = same_bytes_is (bytes_of g) s (true_T e)

-- ---- one after the other

-- bytes passed over are bytes dropped
decode_from_drop : (k : ℕ) (s : List ℕ) → decode_from k s ≡ decode (drop k s)
unfolding decode decode_from
decode_from_drop zero [] = refl
decode_from_drop (suc k) [] = refl
decode_from_drop zero (b ∷ s) = refl
decode_from_drop (suc k) (b ∷ s) = decode_from_drop k s

pub decode_bad : (b : ℕ) (s : List ℕ) → sequence (b ∷ s) ≡ 0 → decode (b ∷ s) ≡ ill_formed b ∷ decode s
unfolding decode decode_from
decode_bad b s e = ap (λ (m : ℕ). decoded_as m b s (λ k. decode_from k s)) e

pub decode_good : (b : ℕ) (s : List ℕ) (n : ℕ) → sequence (b ∷ s) ≡ suc n → decode (b ∷ s) ≡ well_formed (scalar (take (suc n) (b ∷ s))) ∷ decode (drop (suc n) (b ∷ s))
unfolding decode decode_from
decode_good b s n e = ap (λ (m : ℕ). decoded_as m b s (λ k. decode_from k s)) e ∙ ap (λ (us : List Decoded). well_formed (scalar (take (suc n) (b ∷ s))) ∷ us) (decode_from_drop n s)

-- ---- a continuation byte begins no sequence, so the bytes of from_utf8's error span are damaged one by one

lead : List Range → Bool
lead [] = false
lead (r ∷ rs) = ◌||◌ (ltb r.high 0x80) (ltb 0xBF r.low)

leads : List (List Range) → Bool
unfolding lead
leads [] = true
leads (r ∷ rs) = ◌&&◌ (lead r) (leads rs)

fits_lead : (row : List Range) (b : ℕ) (s : List ℕ) → T (lead row) → 0x80 ≤ b → b ≤ 0xBF → fits row (b ∷ s) ≡ false
unfolding lead fits
fits_lead [] b s t h k = absurd t
fits_lead (r ∷ rs) b s t h k =
    is_false _ (λ w.
    let p = and_T (leb r.low b) (leb b r.high) (and_T (◌&&◌ (leb r.low b) (leb b r.high)) (fits rs s) w).0 in
    let lo : r.low ≤ b = leb→le _ _ p.0 in
    let hi : b ≤ r.high = leb→le _ _ p.1 in
    or_T (ltb r.high 0x80) _ t
    (λ u. let q : r.high < 0x80 = ltb→lt _ _ u in omega arith)
    (λ u. let q : 0xBF < r.low = ltb→lt _ _ u in omega arith))

length_in_lead : (rows : List (List Range)) (b : ℕ) (s : List ℕ) → T (leads rows) → 0x80 ≤ b → b ≤ 0xBF → length_in rows (b ∷ s) ≡ 0
unfolding length_in leads
length_in_lead [] b s t h k = refl
length_in_lead (row ∷ rows) b s t h k =
    let p = and_T (lead row) (leads rows) t in
    rw (fits_lead row b s p.0 h k) (length_in_lead rows b s p.1 h k)

pub continuation_bad : (b : ℕ) (s : List ℕ) → 0x80 ≤ b → b ≤ 0xBF → sequence (b ∷ s) ≡ 0
unfolding sequence leads table
continuation_bad b s h k = length_in_lead table b s tt h k
