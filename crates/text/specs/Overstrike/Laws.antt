-- Conversion: a text without the byte 08 stays as it is, and a line is converted piece by piece.
use Rattle.std.specs.Prelude.{◌≡◌, ℕ, false, ◌||◌, eqb}
use Rattle.std.proofs.Math.Path.{refl, sym, ap, ap₂}
use Rattle.std.proofs.Common.{◌∙◌}
use mathlib.Core.List.{List, [], ◌∷◌, ◌++◌, append_assoc, append-nil, reverse, reverse_aux, reverse_aux-eq, reverse-append, reverse-reverse}
use Rattle.text.specs.Tests.{or_false, cases}
use Rattle.text.specs.Each.{All, all_nil, all_cons}
use Rattle.text.specs.Utf8.{Scalar, decode, Piece, run, damaged, runs, bytes_of, same_bytes, reads}
use Rattle.text.specs.Utf8.Laws.{bytes_of_append, decoded_bytes_decode, piece_bytes, piece_bytes_runs}
use Rattle.text.specs.Class.{Profile}
use Rattle.text.specs.Cluster.{clusters, join_all}
use Rattle.text.specs.Cluster.Laws.{clusters_all}
use Rattle.text.specs.Overstrike.{normal, Pending, none, held, struck, State, state, has_backspace, step, steps, finish, on_cluster, convert_run, convert_pieces, convert, order}

-- ---- a text without the byte 08

pub backspace_append : (s t : List ℕ) → has_backspace (s ++ t) ≡ (has_backspace s || has_backspace t)
unfolding has_backspace
backspace_append [] t = refl
backspace_append (b ∷ s) t = cases (eqb b 0x08) (λ e. rw e) (λ e. rw e (backspace_append s t))

pub no_backspace : {s : List ℕ} → All (λ (b : ℕ). eqb b 0x08 ≡ false) s → has_backspace s ≡ false
unfolding has_backspace
no_backspace all_nil = refl
no_backspace (all_cons e a) = rw (e, no_backspace a)

none_append : (s t : List ℕ) → has_backspace (s ++ t) ≡ false → (has_backspace s ≡ false) × (has_backspace t ≡ false)
none_append s t e = or_false (has_backspace s) (has_backspace t) (sym (backspace_append s t) ∙ e)

none_same : (s : List ℕ) → has_backspace s ≡ false → same_bytes s (0x08 ∷ []) ≡ false
unfolding has_backspace same_bytes
none_same [] e = refl
none_same (b ∷ s) e = rw (or_false (eqb b 0x08) (has_backspace s) e).0

-- what the machine has taken in, in order
abbrev taken : List Scalar → Pending → List Scalar
taken out none = reverse out
taken out (held g) = reverse out ++ g
taken out (struck g) = reverse out ++ g

-- push_str on the reversed result
pub push_reverse : (g out : List Scalar) → reverse (reverse_aux g out) ≡ reverse out ++ g
push_reverse g out = ap reverse (reverse_aux-eq g out) ∙ reverse-append (reverse g) out ∙ ap (λ (l : List Scalar). reverse out ++ l) (reverse-reverse g)

module _ (P : Profile) where
  end : State → List Scalar
  end t = reverse (finish P t.out t.pending t.before t.style)

  step_plain : (t : State) (g : List Scalar) → reads g (0x08 ∷ []) ≡ false → step P t g ≡ on_cluster P t.out t.pending t.before t.style g
  unfolding step
  step_plain t g e = rw e

  -- the first cluster of a text without 08 is no backspace, and the rest has none _||_
  quiet : (h : List Scalar) (gs : List (List Scalar)) → has_backspace (bytes_of (join_all (h ∷ gs))) ≡ false
      → (reads h (0x08 ∷ []) ≡ false) × (has_backspace (bytes_of (join_all gs)) ≡ false)
  unfolding join_all reads
  quiet h gs e =
      let q = none_append (bytes_of h) (bytes_of (join_all gs)) (rw bytes_of_append at e) in
      (none_same (bytes_of h) q.0, q.1)

  steps_held : (out g : List Scalar) (gs : List (List Scalar)) → has_backspace (bytes_of (join_all gs)) ≡ false
      → end (steps P (state out (held g) normal normal) gs) ≡ reverse out ++ g ++ join_all gs
  unfolding steps join_all end finish order on_cluster
  steps_held out g [] e = push_reverse g out ∙ sym (append-nil (reverse out ++ g))
  steps_held out g (h ∷ gs) e =
      let q = quiet h gs e in
      ap (λ (t : State). end (steps P t gs)) (step_plain (state out (held g) normal normal) h q.0)
      ∙ steps_held (reverse_aux g out) h gs q.1
      ∙ rw (push_reverse g out) (append_assoc (reverse out ++ g) h (join_all gs))

  steps_plain : (gs : List (List Scalar)) → has_backspace (bytes_of (join_all gs)) ≡ false → end (steps P (state [] none normal normal) gs) ≡ join_all gs
  unfolding steps join_all end finish order on_cluster
  steps_plain [] e = refl
  steps_plain (h ∷ gs) e =
      let q = quiet h gs e in
      ap (λ (t : State). end (steps P t gs)) (step_plain (state [] none normal normal) h q.0) ∙ steps_held [] h gs q.1

  -- a run without backspaces stays as it is
  pub convert_run_plain : (s : List Scalar) → has_backspace (bytes_of s) ≡ false → convert_run P s ≡ s
  unfolding convert_run end
  convert_run_plain s e = steps_plain (clusters P s) (rw (clusters_all P s) e) ∙ clusters_all P s

  convert_pieces_plain : (ps : List Piece) → has_backspace (piece_bytes ps) ≡ false → convert_pieces P ps ≡ piece_bytes ps
  unfolding convert_pieces piece_bytes has_backspace
  convert_pieces_plain [] e = refl
  convert_pieces_plain (run s ∷ ps) e =
      let q = none_append (bytes_of s) (piece_bytes ps) e in
      ap₂ (λ (x : List Scalar) (l : List ℕ). bytes_of x ++ l) (convert_run_plain s q.0) (convert_pieces_plain ps q.1)
  convert_pieces_plain (damaged b ∷ ps) e = ap (λ (l : List ℕ). b ∷ l) (convert_pieces_plain ps (or_false (eqb b 0x08) (has_backspace (piece_bytes ps)) e).1)

  -- a line without backspaces too
  pub convert_plain : (s : List ℕ) → has_backspace s ≡ false → convert P s ≡ s
  unfolding convert
  convert_plain s e = rw e

  -- the test for 08 over the whole line is a short cut: conversion is piece by piece
  pub convert_pieces_law : (s : List ℕ) → convert P s ≡ convert_pieces P (runs (decode s))
  unfolding convert
  convert_pieces_law s =
      let all : piece_bytes (runs (decode s)) ≡ s = piece_bytes_runs (decode s) ∙ decoded_bytes_decode s in
      cases (has_backspace s)
      (λ e. rw e)
      (λ e. rw e (sym (convert_pieces_plain (runs (decode s)) (rw all e) ∙ all)))

  pub convert_pieces_append : (ps qs : List Piece) → convert_pieces P (ps ++ qs) ≡ convert_pieces P ps ++ convert_pieces P qs
  unfolding convert_pieces
  convert_pieces_append [] qs = refl
  convert_pieces_append (run s ∷ ps) qs =
      ap (λ (l : List ℕ). bytes_of (convert_run P s) ++ l) (convert_pieces_append ps qs) ∙ sym (append_assoc (bytes_of (convert_run P s)) (convert_pieces P ps) (convert_pieces P qs))
  convert_pieces_append (damaged b ∷ ps) qs = ap (λ (l : List ℕ). b ∷ l) (convert_pieces_append ps qs)
