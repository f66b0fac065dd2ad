-- Texts of scalars below 80.
use Rattle.std.specs.Prelude.{◌≡◌, refl, ℕ, zero, suc, ◌<◌, true, List, [], ◌∷◌, ◌++◌, map, length, replicate}
use Rattle.std.proofs.Common.{sym, ap, ◌∙◌, arith}
use Rattle.text.specs.Each.{All, all_nil, all_cons}
use Rattle.text.specs.Utf8.{Decoded, Scalar, add_to_run, ascii, asciis, bytes_of, decode, reads, run, run_of, runs, scalar, value, well_formed}
use Rattle.text.specs.Utf8.Ascii.{low_sequence}
use Rattle.text.specs.Utf8.Laws.{decode_good, reads_is}
use Rattle.text.specs.Utf8.Valid.{Valid, run_text}
use Rattle.text.specs.Utf8.Code.{size}

pub ascii_valid : (b : ℕ) → b < 0x80 → Valid (ascii b)
unfolding scalar value
ascii_valid b h = record { some = omega arith; decodes = λ t. decode_good b t 0 (low_sequence b t h) }

pub asciis_nil : asciis [] ≡ []
unfolding asciis
asciis_nil = refl

pub asciis_cons : (b : ℕ) (s : List ℕ) → asciis (b ∷ s) ≡ ascii b ∷ asciis s
unfolding asciis
asciis_cons b s = refl

pub asciis_bytes : (s : List ℕ) → bytes_of (asciis s) ≡ s
unfolding bytes_of asciis
asciis_bytes [] = refl
asciis_bytes (b ∷ s) = ap (λ (l : List ℕ). b ∷ l) (asciis_bytes s)

pub asciis_append : (s t : List ℕ) → asciis (s ++ t) ≡ asciis s ++ asciis t
unfolding asciis
asciis_append [] t = refl
asciis_append (b ∷ s) t = ap (λ (l : List Scalar). ascii b ∷ l) (asciis_append s t)

pub asciis_replicate : (n b : ℕ) → asciis (replicate n b) ≡ replicate n (ascii b)
unfolding asciis
asciis_replicate zero b = refl
asciis_replicate (suc n) b = ap (λ (l : List Scalar). ascii b ∷ l) (asciis_replicate n b)

pub asciis_size : (s : List ℕ) → size (asciis s) ≡ length s
unfolding size asciis
asciis_size [] = refl
asciis_size (b ∷ s) = omega (arith, asciis_size s)

pub asciis_valid : {s : List ℕ} → All (λ (b : ℕ). b < 0x80) s → All Valid (asciis s)
unfolding asciis
asciis_valid all_nil = all_nil
asciis_valid (all_cons {a = b} h a) = all_cons (ascii_valid b h) (asciis_valid a)

-- bytes below 80 are such a text
pub run_asciis : {s : List ℕ} → All (λ (b : ℕ). b < 0x80) s → run_of (decode s) ≡ asciis s
run_asciis {s} a = ap (λ (l : List ℕ). run_of (decode l)) (sym (asciis_bytes s)) ∙ run_text (asciis_valid a)

-- a text that reads as one of them
pub reads_ascii : {g : List Scalar} (b : ℕ) → b < 0x80 → All Valid g → reads g (b ∷ []) ≡ true → g ≡ ascii b ∷ []
unfolding asciis
reads_ascii {g} b h v e = sym (run_text v) ∙ ap (λ (l : List ℕ). run_of (decode l)) (reads_is g (b ∷ []) e) ∙ run_asciis (all_cons h all_nil)

decode_asciis : {s : List ℕ} → All (λ (b : ℕ). b < 0x80) s → decode s ≡ map well_formed (asciis s)
unfolding asciis decode scalar value
decode_asciis all_nil = refl
decode_asciis (all_cons {a = b} {s = s} h a) = decode_good b s 0 (low_sequence b s h) ∙ ap (λ (l : List Decoded). well_formed (ascii b) ∷ l) (decode_asciis a)

runs_text : (c : Scalar) (s : List Scalar) → runs (map well_formed (c ∷ s)) ≡ run (c ∷ s) ∷ []
unfolding runs add_to_run
runs_text c [] = refl
runs_text c (d ∷ s) = ap (add_to_run c) (runs_text d s)

-- and one run
pub runs_asciis : (b : ℕ) (s : List ℕ) → All (λ (b : ℕ). b < 0x80) (b ∷ s) → runs (decode (b ∷ s)) ≡ run (asciis (b ∷ s)) ∷ []
unfolding asciis
runs_asciis b s a = ap runs (decode_asciis a) ∙ runs_text (ascii b) (asciis s)
