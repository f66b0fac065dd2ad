-- A converted line is at most as many bytes as its line has, and whole style orders.
use Rattle.std.specs.Prelude.{◌≡◌, ◌⊎◌, ℕ, ◌+◌, ◌-◌, ◌≤◌}
use Rattle.std.proofs.Math.Path.{refl, ap, subst}
use Rattle.std.proofs.Common.{sym, ◌∙◌, inl, inr, ⊎_elim, length-append}
use native.Mathlib.Omega.{arith}
use mathlib.Core.List.{List, [], ◌∷◌, ◌++◌, append_assoc, reverse_aux}
use Rattle.std.proofs.Math.ListN.{length}
use Rattle.text.specs.Tests.{both, by_case}
use Rattle.text.specs.Each.{All, all_nil, all_cons}
use Rattle.text.specs.Utf8.{Scalar, decode, Piece, runs, bytes_of, ascii, asciis, same_bytes, reads}
use Rattle.text.specs.Utf8.AsciiTexts.{asciis_bytes}
use Rattle.text.specs.Utf8.Laws.{bytes_cons, bytes_of_append, decoded_bytes_decode, piece_bytes, piece_bytes_runs, reads_is}
use Rattle.text.specs.Utf8.Valid.{Valid, ValidPiece, runs_valid}
use Rattle.text.specs.Class.{Profile, is_control}
use Rattle.text.specs.Cluster.{joins, clusters, join_all}
use Rattle.text.specs.Cluster.Laws.{clusters_all, join_length}
use Rattle.text.specs.Cluster.Walk.{clusters_some}
use Rattle.text.specs.Overstrike.{Style, normal, bold, underline, bold_underline, order, Pending, none, held, struck, State, state, push, ambiguous, bolded, underlined, erase_from, backspace, strike, on_backspace, on_cluster, step, steps, finish, convert_run, convert_pieces, convert}
use Rattle.text.specs.Overstrike.Laws.{convert_pieces_law}

-- ---- bytes, and style orders between them

-- at most n bytes, and style orders before, between and after them
pub data WithOrders : ℕ → List ℕ → Type 0 where
  bytes : {n : ℕ} {s : List ℕ} → length s ≤ n → WithOrders n s
  ordered : {m n : ℕ} {s t : List ℕ} (x : List ℕ) (a b : Style) (o : List ℕ) → order a b ≡ 0x1B ∷ o → WithOrders m s → length x + m ≤ n → t ≡ x ++ (0x1B ∷ (o ++ s)) → WithOrders n t

with_more : {m n : ℕ} {s : List ℕ} → m ≤ n → WithOrders m s → WithOrders n s
with_more {n = n} {s = s} h (bytes k) = bytes {n = n} {s = s} (omega (arith, k))
with_more {n = n} h (ordered x a b o e w k q) = ordered {n = n} x a b o e w (omega (arith, k)) q

with_bytes_law : (y : List ℕ) {n : ℕ} {s : List ℕ} → WithOrders n s → WithOrders (length y + n) (y ++ s)
with_bytes_law y {n} {s} (bytes k) = bytes {n = length y + n} {s = y ++ s} (rw (length-append y s) (omega (arith, k)))
with_bytes_law y {n} (ordered x a b o e w k q) = ordered {n = length y + n} (y ++ x) a b o e w (rw (length-append y x) (omega (arith, k))) (ap (λ (l : List ℕ). y ++ l) q ∙ sym (append_assoc y x _))

with_append : {m n : ℕ} {s t : List ℕ} → WithOrders n s → WithOrders m t → WithOrders (n + m) (s ++ t)
with_append {m} {n} {s} (bytes k) v = with_more {n = n + m} (omega (arith, k)) (with_bytes_law s v)
with_append {m} {n} {t = t} (ordered {s = s} x a b o e w k q) v =
    ordered {n = n + m} x a b o e (with_append w v) (omega (arith, k))
    (ap (λ (l : List ℕ). l ++ t) q ∙ append_assoc x (0x1B ∷ (o ++ s)) t ∙ ap (λ (l : List ℕ). x ++ (0x1B ∷ l)) (append_assoc o s t))

-- a style order begins with ESC, or has no byte
escape_first : (a b : Style) → (order a b ≡ []) ⊎ ((o : List ℕ) × (order a b ≡ 0x1B ∷ o))
unfolding order
escape_first normal normal = inl refl
escape_first normal bold = inr (_, refl)
escape_first normal underline = inr (_, refl)
escape_first normal bold_underline = inr (_, refl)
escape_first bold normal = inr (_, refl)
escape_first bold bold = inl refl
escape_first bold underline = inr (_, refl)
escape_first bold bold_underline = inr (_, refl)
escape_first underline normal = inr (_, refl)
escape_first underline bold = inr (_, refl)
escape_first underline underline = inl refl
escape_first underline bold_underline = inr (_, refl)
escape_first bold_underline normal = inr (_, refl)
escape_first bold_underline bold = inr (_, refl)
escape_first bold_underline underline = inr (_, refl)
escape_first bold_underline bold_underline = inl refl

with_order : (a b : Style) {n : ℕ} {s : List ℕ} → WithOrders n s → WithOrders n (order a b ++ s)
with_order a b {n} {s} w = ⊎_elim
    (λ e. rw e w)
    (λ e. ordered [] a b e.0 e.1 w (omega arith) (ap (λ (l : List ℕ). l ++ s) e.1))
    (escape_first a b)

-- ---- the result, its last scalar first

-- n bytes and whole style orders; the bytes before an order and the order's own are together at most r
data Held (r : ℕ) : ℕ → List Scalar → Type 0 where
  empty : Held r 0 []
  one : {n : ℕ} {out : List Scalar} (c : Scalar) → Held r n out → Held r (n + length c.bytes) (c ∷ out)
  whole : {n : ℕ} {out all : List Scalar} (a b : Style) → Held r n out → n + length (order a b) ≤ r → all ≡ push (asciis (order a b)) out → Held r n all

held_more : {q r n : ℕ} {out : List Scalar} → q ≤ r → Held q n out → Held r n out
held_more h empty = empty
held_more h (one c k) = one c (held_more h k)
held_more h (whole a b k l e) = whole a b (held_more h k) (omega (arith, l)) e

held_push : (g : List Scalar) {r n : ℕ} {out : List Scalar} → Held r n out → Held r (n + length (bytes_of g)) (push g out)
unfolding bytes_of
held_push [] {r} {n} {out} h = subst (λ (k : ℕ). Held r k out) (omega arith) h
held_push (c ∷ g) {r} {n} {out} h =
    subst (λ (k : ℕ). Held r k (push g (c ∷ out))) (rw (length-append c.bytes (bytes_of g)) (omega arith)) (held_push g (one c h))

push_push : (o out t : List Scalar) → reverse_aux (reverse_aux o out) t ≡ reverse_aux out (o ++ t)
push_push [] out t = refl
push_push (c ∷ o) out t = push_push o (c ∷ out) t

-- in order again
turned : {r n m : ℕ} {out : List Scalar} → Held r n out → (t : List Scalar) → WithOrders m (bytes_of t) → WithOrders (n + m) (bytes_of (reverse_aux out t))
turned {n = n} {m = m} empty t w = with_more {m = m} {n = n + m} (omega arith) w
turned {n = n} {m = m} (one {n = k} c h) t w =
    with_more {m = k + (length c.bytes + m)} {n = n + m} (omega arith) (turned h (c ∷ t) (rw (bytes_cons c t) (with_bytes_law c.bytes w)))
turned (whole {out = out} a b h k e) t w =
    rw (e, push_push (asciis (order a b)) out t)
    (turned h (asciis (order a b) ++ t) (rw (bytes_of_append (asciis (order a b)) t, asciis_bytes (order a b)) (with_order a b w)))

-- ---- without its last scalars

-- at most n bytes and whole style orders
record Kept (r n : ℕ) (out : List Scalar) : Type 0 where
  count : ℕ
  held : Held r count out
  few : count ≤ n

-- an order without its last byte
broken : (l : List ℕ) (b : ℕ) {r n m : ℕ} {out : List Scalar} (c : Scalar) (rest : List Scalar) → Held r n out → n + length (b ∷ l) ≤ m + 1 → push (asciis (b ∷ l)) out ≡ c ∷ rest → Kept r m rest
unfolding asciis
broken [] b {r} {n} {m} {out} c rest h f e = let q : out ≡ rest = cc in record { count = n; held = subst (Held r n) q h; few = omega arith }
broken (d ∷ l) b {n = n} c rest h f e = broken l d {n = n + length (ascii b).bytes} c rest (one (ascii b) h) (omega (arith, f)) e

kept_tail : {r n m : ℕ} {out : List Scalar} (c : Scalar) (rest : List Scalar) → Held r n out → n ≤ m → r ≤ m + 1 → out ≡ c ∷ rest → Kept r m rest
unfolding asciis
kept_tail c rest empty h k e = absurd (let z : ◌≡◌ {A = ℕ} 0 1 = cc in omega arith)
kept_tail {r} {n} {m} c rest (one {n = j} {out = out} d u) h k e = let q : out ≡ rest = cc in record { count = j; held = subst (Held r j) q u; few = omega arith }
kept_tail {r} {n} {m} c rest (whole {out = out} {all = all} a b u l e') h k e = by (order a b) refl (λ q. kept_tail c rest u h k q)
  where
    by : (o : List ℕ) → order a b ≡ o → (out ≡ c ∷ rest → Kept r m rest) → Kept r m rest
    by [] q again = again (sym (ap (λ (x : List ℕ). push (asciis x) out) q) ∙ sym e' ∙ e)
    by (x ∷ o) q again = broken o x c rest u (omega (arith, l, k, ap length q)) (sym (ap (λ (x : List ℕ). push (asciis x) out) q) ∙ sym e' ∙ e)

kept_shorter : {r m : ℕ} {c : Scalar} {rest : List Scalar} → r ≤ m + 1 → Kept r m (c ∷ rest) → Kept r m rest
kept_shorter {c = c} {rest = rest} k w = kept_tail c rest w.held w.few k refl

module _ (P : Profile) where
  erase_kept : {r m : ℕ} (out rest : List Scalar) → r ≤ m + 1 → Kept r m (ascii 0x08 ∷ out) → Kept r m rest → Kept r m (erase_from P out rest)
  unfolding erase_from
  erase_kept out [] k b w = b
  erase_kept {r} {m} out (c ∷ rest) k b w =
      let v : Kept r m rest = kept_shorter k w in
      both (Kept r m) (joins P rest c) (erase_kept out rest k b v) (both (Kept r m) (is_control c.code) b v)

  backspace_kept : {r n : ℕ} (m : ℕ) (out : List Scalar) → Held r n out → n ≤ m → r ≤ m + 2 → Kept r (m + 1) (backspace P out)
  unfolding backspace
  backspace_kept {n = n} m out h k l =
      erase_kept out out (omega arith) (record { count = n + length (ascii 0x08).bytes; held = one (ascii 0x08) h; few = omega arith }) (record { count = n; held = h; few = omega arith })

-- ---- conversion

-- what striking over a cluster has taken of the line, as its style tells
unfoldable saved : Style → ℕ
saved normal = 0
saved bold = 2
saved underline = 2
saved bold_underline = 3

saved_bold : (s : Style) → saved (bolded s) ≤ saved s + 2
unfolding saved bolded
saved_bold normal = omega arith
saved_bold bold = omega arith
saved_bold underline = omega arith
saved_bold bold_underline = omega arith

saved_underline : (s : Style) → saved (underlined s) ≤ saved s + 2
unfolding saved underlined
saved_underline normal = omega arith
saved_underline bold = omega arith
saved_underline underline = omega arith
saved_underline bold_underline = omega arith

saved_ambiguous : (b s : Style) (n : ℕ) → saved b ≤ n → saved s ≤ n → saved (ambiguous b s) ≤ n + 2
unfolding saved ambiguous
saved_ambiguous normal normal n h k = omega arith
saved_ambiguous bold normal n h k = omega arith
saved_ambiguous underline normal n h k = omega arith
saved_ambiguous bold_underline normal n h k = omega arith
saved_ambiguous b bold n h k = omega arith
saved_ambiguous b underline n h k = omega arith
saved_ambiguous b bold_underline n h k = omega arith

-- an order has at most 5 bytes more than either style has saved
order_saved : (a b : Style) (n : ℕ) → saved a ≤ n → saved b ≤ n → length (order a b) ≤ 5 + n
unfolding saved order
order_saved normal normal n h k = omega arith
order_saved normal bold n h k = omega arith
order_saved normal underline n h k = omega arith
order_saved normal bold_underline n h k = omega arith
order_saved bold normal n h k = omega arith
order_saved bold bold n h k = omega arith
order_saved bold underline n h k = omega arith
order_saved bold bold_underline n h k = omega arith
order_saved underline normal n h k = omega arith
order_saved underline bold n h k = omega arith
order_saved underline underline n h k = omega arith
order_saved underline bold_underline n h k = omega arith
order_saved bold_underline normal n h k = omega arith
order_saved bold_underline bold n h k = omega arith
order_saved bold_underline underline n h k = omega arith
order_saved bold_underline bold_underline n h k = omega arith

abbrev size : List Scalar → ℕ
size g = length (bytes_of g)

-- of n bytes that were read, the result has `count`, m wait, and what the styles tell is left over; r is as in Held
record Fitting (n r m : ℕ) (out : List Scalar) (b s : Style) : Type 0 where
  count : ℕ
  held : Held r count out
  before : count + m + saved b ≤ n
  style : count + m + saved s ≤ n

-- the machine after n bytes: an order can lose its last byte to the second backspace after it at the earliest
unfoldable FitsAs : ℕ → List Scalar → Pending → Style → Style → Type 0
FitsAs n out none b s = Fitting n (n + 2) 0 out normal s
FitsAs n out (held g) b s = (1 ≤ size g) × Fitting n (n + 3) (size g) out b s
FitsAs n out (struck g) b s = (1 ≤ size g) × Fitting n (n + 2) (size g + 1) out b s

abbrev Fits : ℕ → State → Type 0
Fits n t = FitsAs n t.out t.pending t.before t.style

none_saved : saved normal ≡ 0
unfolding saved
none_saved = refl

module _ (P : Profile) where
  erased_fits : {r n : ℕ} (m : ℕ) (out : List Scalar) (b : Style) → Held r n out → n ≤ m → r ≤ m + 2 → FitsAs (m + 1) (backspace P out) none b normal
  unfolding FitsAs
  erased_fits m out b h k l =
      let w = backspace_kept P m out h k l in
      record { count = w.count; held = held_more (omega arith) w.held; before = omega (arith, w.few, none_saved); style = omega (arith, w.few, none_saved) }

  on_backspace_law : (n : ℕ) (out : List Scalar) (p : Pending) (b s : Style) → FitsAs n out p b s → Fits (n + 1) (on_backspace P out p b s)
  unfolding FitsAs on_backspace
  on_backspace_law n out none b s f = erased_fits n out b f.held (omega (arith, f.style)) (omega arith)
  on_backspace_law n out (held g) b s f = (f.0, record { count = f.1.count; held = held_more (omega arith) f.1.held; before = omega (arith, f.1.before); style = omega (arith, f.1.style) })
  on_backspace_law n out (struck g) b s f = erased_fits n out b f.1.held (omega (arith, f.1.style)) (omega arith)

  module _ (n : ℕ) (out : List Scalar) (b : Style) (g h : List Scalar) (some : 1 ≤ size h) where
    -- the cluster g goes on to wait, in another style, or h in its place
    stays : (s r : Style) → (1 ≤ size g) × Fitting n (n + 2) (size g + 1) out b s → ((k : ℕ) → saved b ≤ k → saved s ≤ k → saved r ≤ k + 2) → FitsAs (n + size h) out (held g) b r
    unfolding FitsAs
    stays s r f c =
        let i = f.1.before in
        let j = f.1.style in
        let k = c (n - (f.1.count + (size g + 1))) (omega arith) (omega arith) in
        (f.0, record { count = f.1.count; held = held_more (omega arith) f.1.held; before = omega arith; style = omega arith })

    gives_way : (s r : Style) → (1 ≤ size g) × Fitting n (n + 2) (size g + 1) out b s → saved r ≤ saved s + 2 → FitsAs (n + size h) out (held h) b r
    unfolding FitsAs
    gives_way s r f c =
        let e = f.0 in
        let i = f.1.before in
        let j = f.1.style in
        (some, record { count = f.1.count; held = held_more (omega arith) f.1.held; before = omega arith; style = omega arith })

    strike_fits : (s : Style) → (1 ≤ size g) × Fitting n (n + 2) (size g + 1) out b s → Fits (n + size h) (strike P out b s g h)
    unfolding strike
    strike_fits s f =
        let F : State → Type 0 = Fits (n + size h) in
        both F (same_bytes (bytes_of g) (bytes_of h))
        (both F (reads h (0x5F ∷ [])) (stays s (ambiguous b s) f (λ k i j. saved_ambiguous b s k i j)) (stays s (bolded s) f (λ k i j. omega (arith, saved_bold s))))
        (both F (reads h (0x5F ∷ [])) (stays s (underlined s) f (λ k i j. omega (arith, saved_underline s)))
        (both F (reads g (0x5F ∷ [])) (gives_way s (underlined s) f (saved_underline s)) (gives_way s normal f (omega (arith, none_saved)))))

  on_cluster_law : (n : ℕ) (out : List Scalar) (p : Pending) (b s : Style) (h : List Scalar) → 1 ≤ size h → FitsAs n out p b s → Fits (n + size h) (on_cluster P out p b s h)
  unfolding FitsAs on_cluster
  on_cluster_law n out none b s h k f =
      let j = f.style in
      (k, record { count = f.count; held = held_more (omega arith) f.held; before = omega arith; style = omega (arith, none_saved) })
  on_cluster_law n out (held g) b s h k f =
      let e = f.0 in
      let i = f.1.before in
      let j = f.1.style in
      let o = order_saved b s (n - (f.1.count + size g)) (omega arith) (omega arith) in (
        k,
        record {
          count = f.1.count + size g;
          held = held_push g (whole b s (held_more (omega arith) f.1.held) (omega arith) refl);
          before = omega arith;
          style = omega (arith, none_saved);
        },
      )
  on_cluster_law n out (struck g) b s h k f = strike_fits n out b g h k s f

  step_fits : (n : ℕ) (t : State) (g : List Scalar) → 1 ≤ size g → Fits n t → Fits (n + size g) (step P t g)
  unfolding step
  step_fits n t g k f = by_case (Fits (n + size g)) (reads g (0x08 ∷ []))
      (λ e. let z : size g ≡ 1 = ap length (reads_is g (0x08 ∷ []) e) in rw z (on_backspace_law n t.out t.pending t.before t.style f))
      (λ e. on_cluster_law n t.out t.pending t.before t.style g k f)

  steps_fit : (n : ℕ) (t : State) {gs : List (List Scalar)} → All (λ (g : List Scalar). 1 ≤ size g) gs → Fits n t → Fits (n + size (join_all gs)) (steps P t gs)
  unfolding steps join_all bytes_of
  steps_fit n t all_nil f = subst (λ (k : ℕ). Fits k t) (omega arith) f
  steps_fit n t (all_cons {a = g} {s = gs} k a) f =
      subst (λ (k : ℕ). Fits k (steps P (step P t g) gs)) (omega (arith, join_length g gs)) (steps_fit (n + size g) (step P t g) a (step_fits n t g k f))

  -- the run's end, after which nothing is erased
  read_out : {r k n : ℕ} {out : List Scalar} → Held r k out → k ≤ n → WithOrders n (bytes_of (reverse_aux out []))
  unfolding bytes_of
  read_out {k = k} h l = with_more {m = k + 0} (omega arith) (turned h [] (bytes {n = 0} {s = []} (omega arith)))

  last_order : {r k : ℕ} {out : List Scalar} (a b : Style) → Held r k out → Held (r + (k + length (order a b))) k (push (asciis (order a b)) out)
  last_order a b h = whole a b (held_more (omega arith) h) (omega arith) refl

  finished : (n : ℕ) (out : List Scalar) (p : Pending) (b s : Style) → FitsAs n out p b s → WithOrders n (bytes_of (reverse_aux (finish P out p b s) []))
  unfolding FitsAs finish
  finished n out none b s f = read_out (last_order b normal f.held) (omega (arith, f.style))
  finished n out (held g) b s f = read_out (last_order s normal (held_push g (last_order b s f.1.held))) (omega (arith, f.1.style))
  finished n out (struck g) b s f = read_out (last_order b normal f.1.held) (omega (arith, f.1.style))

  begun : Fits 0 (state [] none normal normal)
  unfolding FitsAs saved
  begun = record { count = 0; held = empty; before = omega arith; style = omega arith }

  run_orders : {s : List Scalar} → All Valid s → WithOrders (size s) (bytes_of (convert_run P s))
  unfolding convert_run
  run_orders {s} v =
      let t : State = steps P (state [] none normal normal) (clusters P s) in
      let e : 0 + size (join_all (clusters P s)) ≡ size s = omega (arith, ap size (clusters_all P s)) in
      finished (size s) t.out t.pending t.before t.style (subst (λ (n : ℕ). Fits n t) e (steps_fit 0 (state [] none normal normal) (clusters_some P (clusters P s) s refl v) begun))

  pieces_orders : {ps : List Piece} → All ValidPiece ps → WithOrders (length (piece_bytes ps)) (convert_pieces P ps)
  unfolding convert_pieces piece_bytes
  pieces_orders all_nil = bytes {n = 0} {s = []} (omega arith)
  pieces_orders (all_cons {s = ps} (ValidPiece.valid {s = s} v) a) = rw (length-append (bytes_of s) (piece_bytes ps)) (with_append (run_orders v) (pieces_orders a))
  pieces_orders (all_cons {s = ps} (ValidPiece.ill {b = b}) a) = with_more {m = 1 + length (piece_bytes ps)} {n = length (b ∷ piece_bytes ps)} (omega arith) (with_bytes_law (b ∷ []) (pieces_orders a))

  -- a converted line is at most as many bytes as its line has, and whole style orders
  pub convert_orders : (line : List ℕ) → WithOrders (length line) (convert P line)
  convert_orders line =
      rw (convert_pieces_law P line) (subst (λ (l : List ℕ). WithOrders (length l) (convert_pieces P (runs (decode line)))) (piece_bytes_runs (decode line) ∙ decoded_bytes_decode line) (pieces_orders (runs_valid line)))
