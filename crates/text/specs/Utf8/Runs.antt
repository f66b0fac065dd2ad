-- A line is its first run and what follows it.
use Rattle.std.specs.Prelude.{◌≡◌, refl, ℕ, zero, suc, ◌+◌, ◌-◌, ◌≤◌, List, [], ◌∷◌, ◌++◌, map, length, take, drop}
use Rattle.std.proofs.Common.{sym, ap, ◌∙◌, arith, append_assoc, append-nil, length-append, take_at}
use Rattle.std.proofs.lemmas.List.{append_cancel_left}
use Rattle.std.proofs.Math.Seq.{take-append_seam, drop-append_seam}
use Rattle.text.specs.Each.{All, all_nil, all_cons, all_split}
use Rattle.text.specs.Utf8.{Scalar, sequence, decode, decode_from, Decoded, well_formed, ill_formed, Piece, run, damaged, add_to_run, runs, run_of, bytes_of}
use Rattle.text.specs.Utf8.Laws.{bytes_of_append, decode_bad, decode_good, decoded_bytes, decoded_bytes_decode}
use Rattle.text.specs.Utf8.Valid.{Valid, ValidPiece, runs_valid, decode_text, run_text}

-- what follows the run
unfoldable pub after_run : List Decoded → List Decoded
after_run [] = []
after_run (well_formed c ∷ ds) = after_run ds
after_run (ill_formed b ∷ ds) = ill_formed b ∷ ds

decoded_split : (ds : List Decoded) → map well_formed (run_of ds) ++ after_run ds ≡ ds
unfolding run_of after_run
decoded_split [] = refl
decoded_split (well_formed c ∷ ds) = ap (λ (l : List Decoded). well_formed c ∷ l) (decoded_split ds)
decoded_split (ill_formed b ∷ ds) = refl

bytes_split : (ds : List Decoded) → bytes_of (run_of ds) ++ decoded_bytes (after_run ds) ≡ decoded_bytes ds
unfolding run_of after_run bytes_of decoded_bytes
bytes_split [] = refl
bytes_split (well_formed c ∷ ds) = append_assoc c.bytes (bytes_of (run_of ds)) (decoded_bytes (after_run ds)) ∙ ap (λ (l : List ℕ). c.bytes ++ l) (bytes_split ds)
bytes_split (ill_formed b ∷ ds) = refl

after_none : (ds : List Decoded) → run_of (after_run ds) ≡ []
unfolding run_of after_run
after_none [] = refl
after_none (well_formed c ∷ ds) = after_none ds
after_none (ill_formed b ∷ ds) = refl

-- a run, if it holds anything, in front of pieces
unfoldable pub with_run : List Scalar → List Piece → List Piece
with_run [] ps = ps
with_run (c ∷ s) ps = run (c ∷ s) ∷ ps

pub with_nil : (ps : List Piece) → with_run [] ps ≡ ps
unfolding with_run
with_nil ps = refl

pub with_cons : (c : Scalar) (s : List Scalar) (ps : List Piece) → with_run (c ∷ s) ps ≡ run (c ∷ s) ∷ ps
unfolding with_run
with_cons c s ps = refl

runs_more : (c : Scalar) (ds : List Decoded) → add_to_run c (runs ds) ≡ run (c ∷ run_of ds) ∷ runs (after_run ds)
unfolding add_to_run runs run_of after_run
runs_more c [] = refl
runs_more c (well_formed d ∷ ds) = ap (add_to_run c) (runs_more d ds)
runs_more c (ill_formed b ∷ ds) = refl

pub runs_split : (ds : List Decoded) → runs ds ≡ with_run (run_of ds) (runs (after_run ds))
unfolding runs with_run run_of after_run
runs_split [] = refl
runs_split (well_formed c ∷ ds) = runs_more c ds
runs_split (ill_formed b ∷ ds) = refl

with_valid : (s : List Scalar) (ps : List Piece) → All ValidPiece (with_run s ps) → All Valid s
unfolding with_run
with_valid [] ps a = all_nil
with_valid (c ∷ s) ps (all_cons (ValidPiece.valid v) a) = v

pub run_valid : (s : List ℕ) → All Valid (run_of (decode s))
run_valid s = with_valid (run_of (decode s)) (runs (after_run (decode s))) (rw (← runs_split (decode s)) (runs_valid s))

-- ---- the run that a line begins with, and the bytes behind it

pub run_bytes : (s : List ℕ) → bytes_of (run_of (decode s)) ++ drop (length (bytes_of (run_of (decode s)))) s ≡ s
run_bytes s =
    let e = bytes_split (decode s) ∙ decoded_bytes_decode s in
    let r : List ℕ = bytes_of (run_of (decode s)) in
    ap (λ (l : List ℕ). r ++ l) (ap (drop (length r)) (sym e) ∙ drop-append_seam r (decoded_bytes (after_run (decode s)))) ∙ e

after_decode : (s : List ℕ) → after_run (decode s) ≡ decode (drop (length (bytes_of (run_of (decode s)))) s)
after_decode s =
    let r : List Scalar = run_of (decode s) in
    let t : List ℕ = drop (length (bytes_of r)) s in
    append_cancel_left (map well_formed r) (after_run (decode s)) (decode t)
    (decoded_split (decode s) ∙ ap decode (sym (run_bytes s)) ∙ decode_text (run_valid s) t)

-- the pieces of a line: its run, and the pieces of what follows
pub runs_first : (s : List ℕ) → runs (decode s) ≡ with_run (run_of (decode s)) (runs (decode (drop (length (bytes_of (run_of (decode s)))) s)))
runs_first s = runs_split (decode s) ∙ ap (λ (ds : List Decoded). with_run (run_of (decode s)) (runs ds)) (after_decode s)

pub runs_nil : runs (decode []) ≡ []
unfolding runs decode decode_from
runs_nil = refl

-- a byte that begins no run is damaged
pub runs_damaged : (b : ℕ) (s : List ℕ) → run_of (decode (b ∷ s)) ≡ [] → runs (decode (b ∷ s)) ≡ damaged b ∷ runs (decode s)
unfolding run_of runs
runs_damaged b s e = go (sequence (b ∷ s)) refl
  where
    go : (n : ℕ) → sequence (b ∷ s) ≡ n → runs (decode (b ∷ s)) ≡ damaged b ∷ runs (decode s)
    go zero q = ap runs (decode_bad b s q)
    go (suc n) q = absurd (let y : suc (length (run_of (decode (drop (suc n) (b ∷ s))))) ≡ 0 = ap length (ap run_of (sym (decode_good b s n q)) ∙ e) in omega arith)

run_stops : (s : List ℕ) → run_of (decode (drop (length (bytes_of (run_of (decode s)))) s)) ≡ []
run_stops s = ap run_of (sym (after_decode s)) ∙ after_none (decode s)

pub run_of_wells : (s : List Scalar) (ds : List Decoded) → run_of (map well_formed s ++ ds) ≡ s ++ run_of ds
unfolding run_of
run_of_wells [] ds = refl
run_of_wells (c ∷ s) ds = ap (λ (l : List Scalar). c ∷ l) (run_of_wells s ds)

-- behind the scalars g that a run begins with stands the rest of it
module _ (s : List ℕ) (g r : List Scalar) (e : run_of (decode s) ≡ g ++ r) where
  behind_bytes : drop (length (bytes_of g)) s ≡ bytes_of r ++ drop (length (bytes_of (run_of (decode s)))) s
  behind_bytes =
      let t : List ℕ = drop (length (bytes_of (run_of (decode s)))) s in
      ap (drop (length (bytes_of g))) (sym (run_bytes s) ∙ ap (λ (l : List Scalar). bytes_of l ++ t) e ∙ ap (λ (l : List ℕ). l ++ t) (bytes_of_append g r) ∙ append_assoc (bytes_of g) (bytes_of r) t)
      ∙ drop-append_seam (bytes_of g) (bytes_of r ++ t)

  pub run_rest : run_of (decode (drop (length (bytes_of g)) s)) ≡ r
  run_rest =
      let t : List ℕ = drop (length (bytes_of (run_of (decode s)))) s in
      ap (λ (l : List ℕ). run_of (decode l)) behind_bytes
      ∙ ap run_of (decode_text (all_split g (rw e at (run_valid s))).1 t)
      ∙ run_of_wells r (decode t) ∙ ap (λ (l : List Scalar). r ++ l) (run_stops s) ∙ append-nil r

  pub front_bytes : take (length (bytes_of g)) s ≡ bytes_of g
  front_bytes =
      let t : List ℕ = drop (length (bytes_of (run_of (decode s)))) s in
      ap (take (length (bytes_of g))) (sym (run_bytes s) ∙ ap (λ (l : List Scalar). bytes_of l ++ t) e ∙ ap (λ (l : List ℕ). l ++ t) (bytes_of_append g r) ∙ append_assoc (bytes_of g) (bytes_of r) t)
      ∙ take-append_seam (bytes_of g) (bytes_of r ++ t)

  pub front_run : run_of (decode (take (length (bytes_of g)) s)) ≡ g
  front_run = ap (λ (l : List ℕ). run_of (decode l)) front_bytes ∙ run_text (all_split g (rw e at (run_valid s))).0

  -- the rest's bytes are those up to the run's end
  pub rest_bytes : (n : ℕ) → n ≡ length (bytes_of (run_of (decode s))) - length (bytes_of g) → take n (drop (length (bytes_of g)) s) ≡ bytes_of r
  rest_bytes n q =
      let t : List ℕ = drop (length (bytes_of (run_of (decode s)))) s in
      let k : length (bytes_of r) ≡ n = omega (arith, simp length-append at (ap length (ap bytes_of e ∙ bytes_of_append g r))) in
      ap (take n) behind_bytes ∙ take_at (bytes_of r) t n k

  pub run_length : length (bytes_of (run_of (decode s))) ≡ length (bytes_of g) + length (bytes_of (run_of (decode (drop (length (bytes_of g)) s))))
  run_length = ap (λ (l : List Scalar). length (bytes_of l)) e ∙ ap length (bytes_of_append g r) ∙ length-append (bytes_of g) (bytes_of r) ∙ ap (λ (l : List Scalar). length (bytes_of g) + length (bytes_of l)) (sym run_rest)

pub valid_few : {s : List Scalar} → All Valid s → length s ≤ length (bytes_of s)
unfolding bytes_of
valid_few all_nil = omega arith
valid_few (all_cons {a = c} {s = s} v a) = simp length-append (omega (arith, v.some, valid_few a))

pub run_fits : (s : List ℕ) → length (bytes_of (run_of (decode s))) ≤ length s
run_fits s = omega (arith, simp length-append at (ap length (run_bytes s)))

-- no more scalars than bytes
pub run_few : (s : List ℕ) → length (run_of (decode s)) ≤ length s
run_few s = omega (arith, valid_few (run_valid s), run_fits s)

-- ---- a text in a line

pub after_run_wells : (s : List Scalar) (ds : List Decoded) → after_run (map well_formed s ++ ds) ≡ after_run ds
unfolding after_run
after_run_wells [] ds = refl
after_run_wells (c ∷ s) ds = after_run_wells s ds

-- the pieces before the text's run, and the scalars of its run before it
pub record Around (ds : List Decoded) : Type 0 where
  pub before : List Piece
  pub front : List Scalar
  pub pieces : (c : Scalar) (s : List Scalar) (es : List Decoded) → runs (ds ++ (map well_formed (c ∷ s) ++ es)) ≡ before ++ run (front ++ c ∷ (s ++ run_of es)) ∷ runs (after_run es)

pub runs_around : (ds : List Decoded) → Around ds
unfolding runs add_to_run
runs_around [] = record { before = []; front = []; pieces = λ c s es. runs_more c (map well_formed s ++ es) ∙ rw (run_of_wells s es, after_run_wells s es) }
runs_around (ill_formed b ∷ ds) =
    let a = runs_around ds in
    record { before = damaged b ∷ a.before; front = a.front; pieces = λ c s es. ap (λ (ps : List Piece). damaged b ∷ ps) (a.pieces c s es) }
runs_around (well_formed d ∷ ds) = let a = runs_around ds in add a.before a.front a.pieces
  where
    add : (before : List Piece) (front : List Scalar)
        → ((c : Scalar) (s : List Scalar) (es : List Decoded) → runs (ds ++ (map well_formed (c ∷ s) ++ es)) ≡ before ++ run (front ++ c ∷ (s ++ run_of es)) ∷ runs (after_run es)) → Around (well_formed d ∷ ds)
    add [] front f = record { before = []; front = d ∷ front; pieces = λ c s es. ap (add_to_run d) (f c s es) }
    add (run t ∷ before) front f = record { before = run (d ∷ t) ∷ before; front = front; pieces = λ c s es. ap (add_to_run d) (f c s es) }
    add (damaged b ∷ before) front f = record { before = run (d ∷ []) ∷ damaged b ∷ before; front = front; pieces = λ c s es. ap (add_to_run d) (f c s es) }
