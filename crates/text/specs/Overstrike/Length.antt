-- A converted line has at most 8 times the line's bytes: the room that question 2 asks for is enough.
use Rattle.std.specs.Prelude.{◌≡◌, refl, ℕ, suc, ◌+◌, ◌*◌, ◌≤◌, Bool, cond, T, eqb}
use Rattle.std.proofs.Math.Path.{ap}
use Rattle.std.proofs.Common.{◌∙◌, zero-le, le_refl}
use Rattle.std.proofs.Math.Nat.{le_trans}
use native.Mathlib.Omega.{arith}
use Rattle.std.proofs.Math.Bool.{true, false}
use mathlib.Core.List.{List, [], ◌∷◌, ◌++◌, reverse_aux}
use Rattle.std.proofs.Math.ListN.{length, length-append}
use Rattle.text.specs.Tests.{cases, and_T, true_T}
use Rattle.text.specs.Each.{All, all_nil, all_cons}
use Rattle.text.specs.Utf8.{Scalar, decode, Piece, runs, bytes_of, ascii, asciis, same_bytes, reads}
use Rattle.text.specs.Utf8.Laws.{bytes_of_append, decoded_bytes_decode, piece_bytes, piece_bytes_runs}
use Rattle.text.specs.Utf8.Valid.{Valid, ValidPiece, runs_valid}
use Rattle.text.specs.Class.{Profile, is_control}
use Rattle.text.specs.Cluster.{joins, joins_next, add_to_cluster, clusters_after, clusters, join_all}
use Rattle.text.specs.Cluster.Laws.{clusters_all}
use Rattle.text.specs.Overstrike.{Style, normal, bold, underline, bold_underline, order, Pending, none, held, struck, State, state, ambiguous, bolded, underlined, erase_from, backspace, strike, on_backspace, on_cluster, step, steps, finish, convert_run, convert_pieces, convert}
use Rattle.text.specs.Overstrike.Laws.{convert_pieces_law}

-- ---- every cluster has a byte

abbrev size : List Scalar → ℕ
size s = length (bytes_of s)

size_cons : (c : Scalar) (s : List Scalar) → size (c ∷ s) ≡ length c.bytes + size s
unfolding bytes_of
size_cons c s = length-append c.bytes (bytes_of s)

pub size_append : (s t : List Scalar) → size (s ++ t) ≡ size s + size t
size_append s t = ap length (bytes_of_append s t) ∙ length-append (bytes_of s) (bytes_of t)

pub size_push : (s t : List Scalar) → size (reverse_aux s t) ≡ size s + size t
unfolding bytes_of
size_push [] t = omega arith
size_push (c ∷ s) t =
    let a = size_push s (c ∷ t) in
    let b = size_cons c t in
    let d = size_cons c s in
    omega arith

-- each cluster has a byte
abbrev Full : List Scalar → Type 0
Full g = 1 ≤ size g

one : (c : Scalar) → Valid c → (g : List Scalar) → Full (c ∷ g)
one c h g = let k = size_cons c g in omega arith

module _ (P : Profile) where
  add_to_cluster_full : (w : Bool) (c : Scalar) → Valid c → {gs : List (List Scalar)} → All Full gs → All Full (add_to_cluster P w c gs)
  unfolding add_to_cluster
  add_to_cluster_full false c h e = all_cons (one c h []) e
  add_to_cluster_full true c h all_nil = all_cons (one c h []) all_nil
  add_to_cluster_full true c h (all_cons {a = g} f e) = all_cons (one c h g) e

  clusters_full : (before : List Scalar) {s : List Scalar} → All Valid s → All Full (clusters_after P before s)
  unfolding clusters_after
  clusters_full before all_nil = all_nil
  clusters_full before (all_cons {a = c} {s = s} h e) = add_to_cluster_full (joins_next P (c ∷ before) s) c h (clusters_full (c ∷ before) e)

-- ---- what the machine may still write

-- a style order on one side of a styled cluster has at most 8 bytes
unfoldable pub cost : Style → ℕ
cost normal = 0
cost bold = 8
cost underline = 8
cost bold_underline = 8

cost_le : (s : Style) → cost s ≤ 8
unfolding cost
cost_le normal = zero-le
cost_le bold = le_refl 8
cost_le underline = le_refl 8
cost_le bold_underline = le_refl 8

pub order_size : (a b : Style) → size (asciis (order a b)) ≤ cost a + cost b
unfolding cost order asciis bytes_of
order_size normal normal = omega arith
order_size normal bold = omega arith
order_size normal underline = omega arith
order_size normal bold_underline = omega arith
order_size bold normal = omega arith
order_size bold bold = omega arith
order_size bold underline = omega arith
order_size bold bold_underline = omega arith
order_size underline normal = omega arith
order_size underline bold = omega arith
order_size underline underline = omega arith
order_size underline bold_underline = omega arith
order_size bold_underline normal = omega arith
order_size bold_underline bold = omega arith
order_size bold_underline underline = omega arith
order_size bold_underline bold_underline = omega arith

unfoldable pub waiting : Pending → ℕ
waiting none = 0
waiting (held g) = size g
waiting (struck g) = size g + 8

unfoldable pub weight : State → ℕ
unfolding waiting
weight t = size t.out + waiting t.pending + cost t.before + 2 * cost t.style

same_size : (s t : List ℕ) → T (same_bytes s t) → length s ≡ length t
unfolding same_bytes
same_size [] [] h = refl
same_size [] (b ∷ t) h = absurd h
same_size (a ∷ s) [] h = absurd h
same_size (a ∷ s) (b ∷ t) h = ap suc (same_size s t (and_T (eqb a b) (same_bytes s t) h).1)

pub cost_normal : cost normal ≡ 0
unfolding cost
cost_normal = refl

pub start_weight : weight (state [] none normal normal) ≡ 0
unfolding weight bytes_of cost
start_weight = refl

pick_weight : (w : Bool) (x y : State) (n : ℕ) → (w ≡ true → weight x ≤ n) → (w ≡ false → weight y ≤ n) → weight (cond w x y) ≤ n
pick_weight true x y n f g = f refl
pick_weight false x y n f g = g refl

kept : (out : List Scalar) (b s r : Style) (g h : List Scalar) → Full h → weight (state out (held g) b r) ≤ weight (state out (struck g) b s) + 8 * size h
unfolding weight waiting
kept out b s r g h f = let c = cost_le r in omega arith

replaced : (out : List Scalar) (b s r : Style) (g h : List Scalar) → Full h → 1 ≤ size g → weight (state out (held h) b r) ≤ weight (state out (struck g) b s) + 8 * size h
unfolding weight waiting
replaced out b s r g h f k = let c = cost_le r in omega arith

replaced_plain : (out : List Scalar) (b s : Style) (g h : List Scalar) → weight (state out (held h) b normal) ≤ weight (state out (struck g) b s) + 8 * size h
unfolding weight waiting
replaced_plain out b s g h = let c = cost_normal in omega arith

module _ (P : Profile) where
  erase_size : (out rest : List Scalar) → size rest ≤ size out → size (erase_from P out rest) ≤ size out + 1
  unfolding erase_from
  erase_size out [] h = let k = size_cons (ascii 8) out in omega arith
  erase_size out (c ∷ rest) h =
      let d = size_cons c rest in
      cases (joins P rest c)
      (λ e. rw e (erase_size out rest (omega arith)))
      (λ e. rw e (cases (is_control c.code) (λ f. rw f (let k = size_cons (ascii 8) out in omega arith)) (λ f. rw f (omega arith))))

  backspace_size : (out : List Scalar) → size (backspace P out) ≤ size out + 1
  unfolding backspace
  backspace_size out = erase_size out out (le_refl _)

  strike_weight : (out : List Scalar) (b s : Style) (g h : List Scalar) → Full h → weight (strike P out b s g h) ≤ weight (state out (struck g) b s) + 8 * size h
  unfolding strike reads
  strike_weight out b s g h f =
      pick_weight (same_bytes (bytes_of g) (bytes_of h)) _ _ _
      (λ e. pick_weight (same_bytes (bytes_of h) (0x5F ∷ [])) _ _ _ (λ k. kept out b s (ambiguous b s) g h f) (λ k. kept out b s (bolded s) g h f))
      (λ e. pick_weight (same_bytes (bytes_of h) (0x5F ∷ [])) _ _ _ (λ k. kept out b s (underlined s) g h f)
      (λ k. pick_weight (same_bytes (bytes_of g) (0x5F ∷ [])) _ _ _
      (λ u. let z : size g ≡ 1 = same_size (bytes_of g) (0x5F ∷ []) (true_T u) in replaced out b s (underlined s) g h f (omega arith))
      (λ u. replaced_plain out b s g h)))

  on_backspace_weight : (out : List Scalar) (p : Pending) (b s : Style) → weight (on_backspace P out p b s) ≤ weight (state out p b s) + 8
  unfolding on_backspace weight cost
  on_backspace_weight out none b s = let k = backspace_size out in omega arith
  on_backspace_weight out (held g) b s = omega arith
  on_backspace_weight out (struck g) b s = let k = backspace_size out in omega arith

  on_cluster_weight : (out : List Scalar) (p : Pending) (b s : Style) (h : List Scalar) → Full h → weight (on_cluster P out p b s h) ≤ weight (state out p b s) + 8 * size h
  unfolding on_cluster weight
  on_cluster_weight out none b s h f = let z : cost normal ≡ 0 = cost_normal in omega arith
  on_cluster_weight out (held g) b s h f =
      let z : cost normal ≡ 0 = cost_normal in
      let k = size_push g (reverse_aux (asciis (order b s)) out) in
      let l = size_push (asciis (order b s)) out in
      let o = order_size b s in
      omega arith
  on_cluster_weight out (struck g) b s h f = strike_weight out b s g h f

  pub step_weight : (t : State) (g : List Scalar) → Full g → weight (step P t g) ≤ weight t + 8 * size g
  unfolding step
  step_weight t g f =
      pick_weight (reads g (0x08 ∷ [])) _ _ _
      (λ e. let k = on_backspace_weight t.out t.pending t.before t.style in le_trans k (omega arith))
      (λ e. on_cluster_weight t.out t.pending t.before t.style g f)

  steps_weight : (t : State) {gs : List (List Scalar)} → All Full gs → weight (steps P t gs) ≤ weight t + 8 * size (join_all gs)
  unfolding steps join_all
  steps_weight t all_nil = omega arith
  steps_weight t (all_cons {a = g} {s = gs} f e) =
      let a = step_weight t g f in
      let b = steps_weight (step P t g) e in
      let c = size_append g (join_all gs) in
      omega arith

  pub finish_size : (out : List Scalar) (p : Pending) (b s : Style) → size (finish P out p b s) ≤ weight (state out p b s)
  unfolding finish weight
  finish_size out none b s = let k = size_push (asciis (order b normal)) out in let o = order_size b normal in let z = cost_normal in omega arith
  finish_size out (held g) b s =
      let k₁ = size_push (asciis (order s normal)) (reverse_aux g (reverse_aux (asciis (order b s)) out)) in
      let k₂ = size_push g (reverse_aux (asciis (order b s)) out) in
      let k₃ = size_push (asciis (order b s)) out in
      let o₁ = order_size b s in
      let o₂ = order_size s normal in
      let z = cost_normal in
      omega arith
  finish_size out (struck g) b s = let k = size_push (asciis (order b normal)) out in let o = order_size b normal in let z = cost_normal in omega arith

  pub convert_run_size : {s : List Scalar} → All Valid s → size (convert_run P s) ≤ 8 * size s
  unfolding convert_run clusters
  convert_run_size {s} e =
      let t : State = steps P (state [] none normal normal) (clusters P s) in
      let a = steps_weight (state [] none normal normal) (clusters_full P [] e) in
      let b = finish_size t.out t.pending t.before t.style in
      let c = size_push (finish P t.out t.pending t.before t.style) [] in
      let d : size (join_all (clusters P s)) ≡ size s = ap size (clusters_all P s) in
      let z = start_weight in
      omega arith

  convert_pieces_size : {ps : List Piece} → All ValidPiece ps → length (convert_pieces P ps) ≤ 8 * length (piece_bytes ps)
  unfolding convert_pieces piece_bytes
  convert_pieces_size all_nil = omega arith
  convert_pieces_size (all_cons {s = ps} (ValidPiece.valid {s = s} a) e) =
      let x = convert_run_size a in
      let y = convert_pieces_size e in
      simp length-append (omega arith)
  convert_pieces_size (all_cons ValidPiece.ill e) = let y = convert_pieces_size e in omega arith

  pub convert_size : (s : List ℕ) → length (convert P s) ≤ 8 * length s
  unfolding decode
  convert_size s =
      let a = convert_pieces_size (runs_valid s) in
      let b : length (piece_bytes (runs (decode s))) ≡ length s = ap length (piece_bytes_runs (decode s) ∙ decoded_bytes_decode s) in
      let c : length (convert P s) ≡ length (convert_pieces P (runs (decode s))) = ap length (convert_pieces_law P s) in
      omega arith
