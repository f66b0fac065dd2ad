-- Conversion: noise bytes stay, each in its turn; they separate; and lines that differ only in which noise bytes they hold have converted lines that do so too.
use Rattle.std.specs.Prelude.{◌≡◌, ℕ, T}
use Rattle.std.proofs.Math.Path.{refl, sym, ap, ap₂}
use Rattle.std.proofs.Common.{◌∙◌}
use Rattle.std.proofs.Math.Bool.{cond}
use mathlib.Core.List.{List, [], ◌∷◌, ◌++◌}
use Rattle.text.specs.Each.{Each, nil, cons, each_same, each_append, All, all_nil, all_cons}
use Rattle.text.specs.Utf8.{decode, Piece, run, damaged, runs, bytes_of, noise, all_noise, noises_of}
use Rattle.text.specs.Utf8.Laws.{decoded_bytes_decode, piece_bytes, piece_bytes_runs}
use Rattle.text.specs.Utf8.Valid.{ValidPiece, runs_valid}
use Rattle.text.specs.Utf8.Runs.{runs_nil}
use Rattle.text.specs.Utf8.Noise.{NoNoise, same, exchanged, Twin, TwinPiece}
use Rattle.text.proofs.NoiseBytes.{text_none, low_none, noises_append, noises_none, noise_cons, runs_noise, runs_twin}
use Rattle.text.specs.Class.{Profile}
use Rattle.text.specs.Overstrike.{convert_run, convert_pieces, convert}
use Rattle.text.specs.Overstrike.Laws.{convert_pieces_law, convert_pieces_append}
use Rattle.text.specs.Overstrike.Bytes.{run_bytes}

module _ (P : Profile) where
  noises_pieces : {ps : List Piece} → All ValidPiece ps → noises_of (convert_pieces P ps) ≡ noises_of (piece_bytes ps)
  unfolding convert_pieces piece_bytes noises_of
  noises_pieces all_nil = refl
  noises_pieces (all_cons (ValidPiece.valid {s = s} v) e) =
      noises_append (bytes_of (convert_run P s)) _
      ∙ ap₂ (λ (x y : List ℕ). x ++ y) (noises_none (run_bytes NoNoise low_none P s (text_none v)) ∙ sym (noises_none (text_none v))) (noises_pieces e)
      ∙ sym (noises_append (bytes_of s) _)
  noises_pieces (all_cons (ValidPiece.ill {b = b}) e) = ap (λ (l : List ℕ). cond (noise b) (b ∷ l) l) (noises_pieces e)

  -- the noise bytes of a converted line are, in order, those of its line
  pub convert_noises : (s : List ℕ) → noises_of (convert P s) ≡ noises_of s
  convert_noises s = rw (convert_pieces_law P s) (noises_pieces (runs_valid s) ∙ ap noises_of (piece_bytes_runs (decode s) ∙ decoded_bytes_decode s))

  pub convert_noise : (a : List ℕ) (n : ℕ) (t : List ℕ) → T (noise n) → convert P (a ++ n ∷ t) ≡ convert P a ++ n ∷ convert P t
  unfolding convert_pieces
  convert_noise a n t h =
      convert_pieces_law P (a ++ n ∷ t)
      ∙ ap (convert_pieces P) (runs_noise a n t h)
      ∙ convert_pieces_append P (runs (decode a)) (damaged n ∷ runs (decode t))
      ∙ rw (convert_pieces_law P a, convert_pieces_law P t)

  convert_nil : convert P [] ≡ []
  unfolding convert_pieces
  convert_nil = convert_pieces_law P [] ∙ ap (convert_pieces P) runs_nil

  -- noise in front
  pub convert_front : (ns t : List ℕ) → T (all_noise ns) → convert P (ns ++ t) ≡ ns ++ convert P t
  convert_front [] t h = refl
  convert_front (n ∷ ns) t h =
      let p = noise_cons n ns h in
      convert_noise [] n (ns ++ t) p.0 ∙ ap₂ (λ (l m : List ℕ). l ++ n ∷ m) convert_nil (convert_front ns t p.1)

  convert_pieces_twin : {ps qs : List Piece} → Each TwinPiece ps qs → Twin (convert_pieces P ps) (convert_pieces P qs)
  unfolding convert_pieces
  convert_pieces_twin nil = nil
  convert_pieces_twin (cons (same {p = run s}) e) = each_append (each_same (λ b. same) (bytes_of (convert_run P s))) (convert_pieces_twin e)
  convert_pieces_twin (cons (same {p = damaged b}) e) = cons same (convert_pieces_twin e)
  convert_pieces_twin (cons (exchanged h) e) = cons h (convert_pieces_twin e)

  pub convert_twin : {s t : List ℕ} → Twin s t → Twin (convert P s) (convert P t)
  convert_twin {s} {t} e = rw (convert_pieces_law P s, convert_pieces_law P t) (convert_pieces_twin (runs_twin e))
