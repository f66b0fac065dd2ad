-- What every byte of a line has, and every byte below 80, every byte of its converted line has: a converted line of bytes is a line of bytes.
use Rattle.std.specs.Prelude.{ℕ, zero, suc, ◌≤◌, Bool, true, ◌&&◌, get_or, T, leb}
use Rattle.std.proofs.Common.{arith, leb→le}
use mathlib.Core.List.{List, [], ◌∷◌, ◌++◌, reverse_aux}
use Rattle.text.specs.Tests.{and_T}
use Rattle.text.specs.Each.{All, all_nil, all_cons, all_append, all_split}
use Rattle.text.specs.Utf8.{Scalar, decode, Piece, run, damaged, runs, bytes_of, ascii, asciis, same_bytes, reads}
use Rattle.text.specs.Utf8.Laws.{decoded_bytes_decode, piece_bytes, piece_bytes_runs}
use Rattle.text.specs.Class.{Profile, is_control}
use Rattle.text.specs.Cluster.{joins, clusters, join_all}
use Rattle.text.specs.Cluster.Laws.{clusters_all}
use Rattle.text.specs.Overstrike.{Style, normal, bold, underline, bold_underline, order, Pending, none, held, struck, State, state, erase_from, backspace, strike, on_backspace, on_cluster, step, steps, finish, convert_run, convert_pieces, convert}
use Rattle.text.specs.Overstrike.Laws.{convert_pieces_law}
use Rattle.text.specs.Tests.{both}

-- ---- style orders are of bytes below 80

unfoldable small : List ℕ → Bool
small [] = true
small (b ∷ s) = leb b 0x7F && small s

each_style : (Q : Style → Type 0) → Q normal → Q bold → Q underline → Q bold_underline → (s : Style) → Q s
each_style Q n b u v normal = n
each_style Q n b u v bold = b
each_style Q n b u v underline = u
each_style Q n b u v bold_underline = v

order_small : (a b : Style) → T (small (order a b))
unfolding order small
order_small = each_style (λ (a : Style). (b : Style) → T (small (order a b))) (all normal tt tt tt tt) (all bold tt tt tt tt) (all underline tt tt tt tt) (all bold_underline tt tt tt tt)
  where
    all : (a : Style) → T (small (order a normal)) → T (small (order a bold)) → T (small (order a underline)) → T (small (order a bold_underline)) → (b : Style) → T (small (order a b))
    all a = each_style (λ (b : Style). T (small (order a b)))

-- the scalars of a state
abbrev holding : List Scalar → Pending → List Scalar
holding out none = out
holding out (held g) = g ++ out
holding out (struck g) = g ++ out

module _ (Q : ℕ → Type 0) where
  -- ---- scalars of such bytes

  abbrev Bytes : Scalar → Type 0
  Bytes c = All Q c.bytes

  pushed : {s t : List Scalar} → All Bytes s → All Bytes t → All Bytes (reverse_aux s t)
  pushed all_nil b = b
  pushed (all_cons h a) b = pushed a (all_cons h b)

  scalars_bytes : {s : List Scalar} → All Bytes s → All Q (bytes_of s)
  unfolding bytes_of
  scalars_bytes all_nil = all_nil
  scalars_bytes (all_cons h a) = all_append h (scalars_bytes a)

  bytes_scalars : (s : List Scalar) → All Q (bytes_of s) → All Bytes s
  unfolding bytes_of
  bytes_scalars [] a = all_nil
  bytes_scalars (c ∷ s) a = let p = all_split c.bytes a in all_cons p.0 (bytes_scalars s p.1)

  abbrev StateBytes : State → Type 0
  StateBytes t = All Bytes (holding t.out t.pending)

  module _ (low : (b : ℕ) → b ≤ 0x7F → Q b) where
    asciis_small : (s : List ℕ) → T (small s) → All Bytes (asciis s)
    unfolding small asciis
    asciis_small [] t = all_nil
    asciis_small (b ∷ s) t = let p = and_T (leb b 0x7F) (small s) t in all_cons {a = ascii b} (all_cons (low b (leb→le b 0x7F p.0)) all_nil) (asciis_small s p.1)

    order_bytes : (a b : Style) → All Bytes (asciis (order a b))
    order_bytes a b = asciis_small (order a b) (order_small a b)

    added_backspace : {out : List Scalar} → All Bytes out → All Bytes (ascii 0x08 ∷ out)
    added_backspace a = all_cons {a = ascii 0x08} (all_cons (low 0x08 (omega arith)) all_nil) a

    -- ---- conversion

    module _ (P : Profile) where
      backspace_bytes : {out : List Scalar} → All Bytes out → {rest : List Scalar} → All Bytes rest → All Bytes (erase_from P out rest)
      unfolding erase_from
      backspace_bytes a all_nil = added_backspace a
      backspace_bytes a (all_cons {a = c} {s = rest} h b) =
          both (All Bytes) (joins P rest c) (backspace_bytes a b) (both (All Bytes) (is_control c.code) (added_backspace a) b)

      strike_bytes : (out : List Scalar) (b s : Style) (g h : List Scalar) → All Bytes (g ++ out) → All Bytes (h ++ out) → StateBytes (strike P out b s g h)
      unfolding strike
      strike_bytes out b s g h x y =
          both StateBytes (same_bytes (bytes_of g) (bytes_of h)) (both StateBytes (reads h (0x5F ∷ [])) x x) (both StateBytes (reads h (0x5F ∷ [])) x (both StateBytes (reads g (0x5F ∷ [])) y y))

      on_backspace_law : (out : List Scalar) (p : Pending) (b s : Style) → All Bytes (holding out p) → StateBytes (on_backspace P out p b s)
      unfolding on_backspace backspace
      on_backspace_law out none b s a = backspace_bytes a a
      on_backspace_law out (held g) b s a = a
      on_backspace_law out (struck g) b s a = let p = all_split g a in backspace_bytes p.1 p.1

      on_cluster_law : (out : List Scalar) (p : Pending) (b s : Style) (h : List Scalar) → All Bytes (holding out p) → All Bytes h → StateBytes (on_cluster P out p b s h)
      unfolding on_cluster
      on_cluster_law out none b s h a y = all_append y a
      on_cluster_law out (held g) b s h a y = let p = all_split g a in all_append y (pushed p.0 (pushed (order_bytes b s) p.1))
      on_cluster_law out (struck g) b s h a y = strike_bytes out b s g h a (all_append y (all_split g a).1)

      steps_bytes : (gs : List (List Scalar)) (t : State) → StateBytes t → All Bytes (join_all gs) → StateBytes (steps P t gs)
      unfolding steps step join_all
      steps_bytes [] t f a = f
      steps_bytes (g ∷ gs) t f a =
          let p = all_split g a in
          steps_bytes gs (step P t g) (both StateBytes (reads g (0x08 ∷ [])) (on_backspace_law t.out t.pending t.before t.style f) (on_cluster_law t.out t.pending t.before t.style g f p.0)) p.1

      finish_bytes : (out : List Scalar) (p : Pending) (b s : Style) → All Bytes (holding out p) → All Bytes (finish P out p b s)
      unfolding finish
      finish_bytes out none b s a = pushed (order_bytes b normal) a
      finish_bytes out (held g) b s a = let p = all_split g a in pushed (order_bytes s normal) (pushed p.0 (pushed (order_bytes b s) p.1))
      finish_bytes out (struck g) b s a = pushed (order_bytes b normal) (all_split g a).1

      pub run_bytes : (s : List Scalar) → All Q (bytes_of s) → All Q (bytes_of (convert_run P s))
      unfolding convert_run
      run_bytes s a =
          let t : State = steps P (state [] none normal normal) (clusters P s) in
          scalars_bytes (pushed (finish_bytes t.out t.pending t.before t.style (steps_bytes (clusters P s) (state [] none normal normal) all_nil (rw (clusters_all P s) (bytes_scalars s a)))) all_nil)

      pieces_bytes : (ps : List Piece) → All Q (piece_bytes ps) → All Q (convert_pieces P ps)
      unfolding convert_pieces piece_bytes
      pieces_bytes [] a = all_nil
      pieces_bytes (run s ∷ ps) a = let p = all_split (bytes_of s) a in all_append (run_bytes s p.0) (pieces_bytes ps p.1)
      pieces_bytes (damaged b ∷ ps) (all_cons h a) = all_cons h (pieces_bytes ps a)

      pub line_bytes : (line : List ℕ) → All Q line → All Q (convert P line)
      line_bytes line a = rw (convert_pieces_law P line) (pieces_bytes (runs (decode line)) (rw (piece_bytes_runs (decode line), decoded_bytes_decode line) a))

-- ---- bytes

abbrev pub Byte : ℕ → Type 0
Byte b = b ≤ 0xFF

pub byte_at : {s : List ℕ} → All Byte s → (i : ℕ) → Byte (get_or s i 0)
byte_at all_nil i = omega arith
byte_at (all_cons h a) zero = h
byte_at (all_cons h a) (suc i) = byte_at a i

pub converted_bytes : (P : Profile) (line : List ℕ) → All Byte line → All Byte (convert P line)
converted_bytes P line a = line_bytes Byte (λ b h. omega arith) P line a
