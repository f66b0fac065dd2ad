-- A line that is n bytes and style orders has at most n parts: an order is read as a sequence, and nothing before it reaches into it.
use Rattle.std.specs.Prelude.{◌≡◌, Bool, true, ◌&&◌, ◌||◌, drop, T, eqb, leb, ltb}
use Rattle.std.proofs.Math.Path.{refl, ap}
use Rattle.std.proofs.Common.{sym, subst, ◌∙◌, ltb→lt}
use Prim.Native.Nat.{ℕ, zero, suc, ◌+◌, ◌-◌, ◌≤◌, ◌<◌}
use native.Mathlib.Omega.{arith}
use mathlib.Core.List.{List, [], ◌∷◌, ◌++◌, map, append_assoc, append-nil}
use Rattle.std.proofs.Math.Option.{Option, none}
use Rattle.std.proofs.Math.ListN.{length, length-append}
use Rattle.text.specs.Tests.{and_T, by_case}
use Rattle.text.specs.Each.{All, all_nil, all_cons, all_append, all_both, all_map, all_split}
use Rattle.text.specs.Utf8.{Scalar, ascii, asciis, decode, Decoded, well_formed, ill_formed, runs, run_of, bytes_of, reads}
use Rattle.text.specs.Utf8.AsciiTexts.{asciis_bytes, asciis_cons, asciis_valid}
use Rattle.text.specs.Utf8.Laws.{bytes_of_append, decoded_bytes, decoded_bytes_decode}
use Rattle.text.specs.Utf8.Runs.{after_run, with_run, runs_split, run_of_wells, after_run_wells, valid_few}
use Rattle.text.specs.Utf8.Separation.{decode_apart}
use Rattle.text.specs.Utf8.Valid.{Valid, ValidDecoded, decode_valid, decode_text}
use Rattle.text.specs.Class.{Profile}
use Rattle.text.specs.Class.Ascii.{AsciiClasses}
use Rattle.text.specs.Width.{width_of}
use Rattle.text.specs.Cluster.{clusters, join_all}
use Rattle.text.specs.Cluster.Appended.{clusters_split}
use Rattle.text.specs.Cluster.Ascii.{c0_cluster}
use Rattle.text.specs.Cluster.Laws.{clusters_all, join_cons, join_length}
use Rattle.text.specs.Cluster.Walk.{clusters_some}
use Rattle.text.specs.Overstrike.{Style, normal, bold, underline, bold_underline, order}
use Rattle.text.specs.Overstrike.Orders.{WithOrders, bytes, ordered}
use Rattle.text.specs.Segmentation.Boundaries.{lone_joins}
use Rattle.spans.specs.Sequence.{Sequence, Found, found, missing, parse}
use Rattle.spans.specs.Sequence.Laws.{parse_stable}
use Rattle.spans.specs.Spans.{Content, text, control, invalid, unprintable, escape, tab, crlf, lf, Span, ClusterKind, plain, special, escape_kind, control_kind, join_text, add_text, add_cluster, cluster_kind, read_from, read_pieces, spans_at, spans}
use Rattle.spans.specs.Spans.AroundSequences.{esc, kind_before, read_sequence}
use Rattle.spans.specs.Spans.Inside.{AtMost, kind_most}
use Rattle.columns.specs.Heights.{parts_of, parts}

abbrev size : List Scalar → ℕ
size s = length (bytes_of s)

-- ---- spans

parts_append : (ss ts : List Span) → parts (ss ++ ts) ≡ parts ss + parts ts
unfolding parts
parts_append [] ts = omega arith
parts_append (s ∷ ss) ts = omega (arith, parts_append ss ts)

join_text_parts : (m : Option ℕ) (p : ℕ) (g : List Scalar) (s : Span) (c : Content) (ss : List Span) → s.content ≡ c → parts (join_text m p g s c ss) ≡ length g + parts (s ∷ ss)
unfolding join_text parts parts_of
join_text_parts m p g s (text k t) ss e = rw (e, length-append g t) (omega arith)
join_text_parts m p g s (control b) ss e = refl
join_text_parts m p g s (invalid b) ss e = refl
join_text_parts m p g s (unprintable t) ss e = refl
join_text_parts m p g s (escape x) ss e = refl
join_text_parts m p g s tab ss e = refl
join_text_parts m p g s crlf ss e = refl
join_text_parts m p g s lf ss e = refl

add_text_parts : (m : Option ℕ) (p : ℕ) (g : List Scalar) (ss : List Span) → parts (add_text m p g ss) ≡ length g + parts ss
unfolding add_text parts parts_of
add_text_parts m p g [] = refl
add_text_parts m p g (s ∷ ss) = join_text_parts m p g s s.content ss refl

-- ---- clusters

-- a span of its own is one part at most
unfoldable OnePart : ClusterKind → Type 0
OnePart plain = Unit {0}
OnePart (special c k) = parts_of c ≤ 1

escape_one : (f : Found) → OnePart (escape_kind f)
unfolding OnePart escape_kind parts_of
escape_one (found e n) = omega arith
escape_one missing = omega arith

control_one : (g : List ℕ) (w : ClusterKind) → OnePart w → OnePart (control_kind g w)
unfolding control_kind OnePart parts_of
control_one [] w h = h
control_one (b ∷ []) w h = by_case OnePart (leb b 0x1F || eqb b 0x7F) (λ e. omega arith) (λ e. h)
control_one (b ∷ c ∷ g) w h = h

-- a cluster has a byte, and no more scalars than bytes
abbrev Solid : List Scalar → Type 0
Solid g = (1 ≤ size g) × (length g ≤ size g)

join_all_law : {Q : Scalar → Type 0} (gs : List (List Scalar)) → All Q (join_all gs) → All (All Q) gs
join_all_law [] a = all_nil
join_all_law (g ∷ gs) a = let w = all_split g (rw (join_cons g gs) at a) in all_cons w.0 (join_all_law gs w.1)

module _ (P : Profile) where
  kind_one : (g : List Scalar) (s : List ℕ) → OnePart (cluster_kind P g s)
  unfolding cluster_kind OnePart parts_of
  kind_one g s =
      by_case OnePart (reads g (0x1B ∷ [])) (λ e. escape_one (parse s))
      (λ e. by_case OnePart (reads g (0x0D ∷ 0x0A ∷ [])) (λ e. omega arith)
      (λ e. by_case OnePart (reads g (0x0A ∷ [])) (λ e. omega arith)
      (λ e. by_case OnePart (reads g (0x09 ∷ [])) (λ e. omega arith)
      (λ e. control_one (bytes_of g) _ (by_case OnePart (eqb (width_of P g) 0) (λ e. omega arith) (λ e. tt))))))

  solid : (s : List Scalar) → All Valid s → All Solid (clusters P s)
  solid s v = all_both (clusters_some P (clusters P s) s refl v) (all_map (λ g h. valid_few h) (join_all_law (clusters P s) (rw (clusters_all P s) v)))

  -- a cluster of n bytes, with b bytes after it, and the spans of what follows these
  add_parts : (m : Option ℕ) (p : ℕ) (g : List Scalar) (n b more : ℕ) (w : ClusterKind) (go : ℕ → List Span) → OnePart w → AtMost (n + b) w → 1 ≤ n → length g ≤ n
      → ((j : ℕ) → j ≤ b → parts (go j) ≤ b - j + more) → parts (add_cluster m p g n w go) ≤ n + b + more
  unfolding add_cluster OnePart AtMost parts
  add_parts m p g n b more plain go o a h k f = omega (arith, add_text_parts m p g (go zero), f zero (omega arith))
  add_parts m p g n b more (special c j) go o a h k f = omega (arith, f (j - n) (omega arith))

  module _ (hs : List (List Scalar)) (more : ℕ) (same : (g : List Scalar) (gs : List (List Scalar)) → cluster_kind P g (bytes_of (join_all (gs ++ hs))) ≡ cluster_kind P g (bytes_of (join_all gs)))
      (rest : (p : ℕ) → parts (read_from P none p 0 hs) ≤ more) where
    -- clusters before others that they do not reach into, those that begin in the first k bytes being dropped
    read_parts : {gs : List (List Scalar)} → All Solid gs → (p k : ℕ) → k ≤ length (bytes_of (join_all gs)) → parts (read_from P none p k (gs ++ hs)) ≤ length (bytes_of (join_all gs)) - k + more
    unfolding read_from join_all bytes_of
    read_parts all_nil p zero h = omega (arith, rest p)
    read_parts all_nil p (suc k) h = absurd (omega arith)
    read_parts (all_cons {a = g} {s = gs} v a) p zero h =
        let n : ℕ = length (bytes_of g) in
        let b : ℕ = length (bytes_of (join_all gs)) in
        let go : ℕ → List Span = λ k. read_from P none (p + n) k (gs ++ hs) in
        let w = add_parts none p g n b more (cluster_kind P g (bytes_of (join_all gs))) go (kind_one g (bytes_of (join_all gs))) (kind_most P g (bytes_of (join_all gs))) v.0 v.1 (λ j l. read_parts a (p + n) j l) in
        rw (same g gs) (omega (arith, w, join_length g gs))
    read_parts (all_cons {a = g} {s = gs} v a) p (suc k) h =
        let n : ℕ = length (bytes_of g) in
        let l = join_length g gs in
        omega (arith, read_parts a (p + n) (suc k - n) (omega arith))

  text_parts : {s : List Scalar} → All Valid s → (p k : ℕ) → k ≤ size s → parts (read_from P none p k (clusters P s)) ≤ size s - k
  unfolding read_from parts
  text_parts {s} v p k h =
      let e : length (bytes_of (join_all (clusters P s))) ≡ size s = ap size (clusters_all P s) in
      let w = read_parts [] 0 (λ g gs. ap (λ (hs : List (List Scalar)). cluster_kind P g (bytes_of (join_all hs))) (append-nil gs)) (λ p. omega arith) (solid s v) p k (omega arith) in
      omega (arith, rw (append-nil (clusters P s)) at w)

-- ---- style orders

unfoldable low : List ℕ → Bool
low [] = true
low (b ∷ s) = ltb b 0x80 && low s

low_all : (s : List ℕ) → T (low s) → All (λ (b : ℕ). b < 0x80) s
unfolding low
low_all [] t = all_nil
low_all (b ∷ s) t = let w = and_T (ltb b 0x80) (low s) t in all_cons (ltb→lt b 0x80 w.0) (low_all s w.1)

-- what follows an order's ESC is read as a sequence
record Order (o : List ℕ) : Type 0 where
  bracket : o ≡ 0x5B ∷ drop 1 o
  sequence : Sequence
  parsed : parse o ≡ found sequence (1 + length o)
  small : T (low o)

order_is : (a b : Style) (o : List ℕ) → order a b ≡ 0x1B ∷ o → Order o
unfolding order parse low
order_is a b o e = subst Order (ap (drop 1) e) (by a b (ap length e))
  where
    none_left : 0 ≡ suc (length o) → Order (drop 1 [])
    none_left z = absurd (omega arith)

    by : (a b : Style) → length (order a b) ≡ suc (length o) → Order (drop 1 (order a b))
    by normal normal z = none_left z
    by normal bold z = record { bracket = refl; sequence = _; parsed = refl; small = tt }
    by normal underline z = record { bracket = refl; sequence = _; parsed = refl; small = tt }
    by normal bold_underline z = record { bracket = refl; sequence = _; parsed = refl; small = tt }
    by bold normal z = record { bracket = refl; sequence = _; parsed = refl; small = tt }
    by bold bold z = none_left z
    by bold underline z = record { bracket = refl; sequence = _; parsed = refl; small = tt }
    by bold bold_underline z = record { bracket = refl; sequence = _; parsed = refl; small = tt }
    by underline normal z = record { bracket = refl; sequence = _; parsed = refl; small = tt }
    by underline bold z = record { bracket = refl; sequence = _; parsed = refl; small = tt }
    by underline underline z = none_left z
    by underline bold_underline z = record { bracket = refl; sequence = _; parsed = refl; small = tt }
    by bold_underline normal z = record { bracket = refl; sequence = _; parsed = refl; small = tt }
    by bold_underline bold z = record { bracket = refl; sequence = _; parsed = refl; small = tt }
    by bold_underline underline z = record { bracket = refl; sequence = _; parsed = refl; small = tt }
    by bold_underline bold_underline z = none_left z

-- ---- what was decoded

module _ (P : Profile) (ascii_classes : AsciiClasses P) where
  -- the text z, of which k bytes are passed over, and what was decoded after it: no more parts than bytes of z that are left, and n
  record Few (n : ℕ) (ds : List Decoded) : Type 0 where
    most : (z : List Scalar) (k : ℕ) → All Valid z → k ≤ size z → (p q : ℕ) → parts (read_from P none p k (clusters P (z ++ run_of ds))) + parts (read_pieces P none q (runs (after_run ds))) ≤ size z - k + n

  -- pieces one after the other
  few_pieces : {n : ℕ} (ds : List Decoded) → Few n ds → (q : ℕ) → parts (read_pieces P none q (runs ds)) ≤ n
  unfolding with_run read_pieces bytes_of
  few_pieces {n} ds f q = rw (runs_split ds) (by (run_of ds) refl)
    where
      by : (s : List Scalar) → run_of ds ≡ s → parts (read_pieces P none q (with_run s (runs (after_run ds)))) ≤ n
      by [] e = omega (arith, f.most [] 0 all_nil (omega arith) q q)
      by (c ∷ s) e =
          rw (parts_append (read_from P none q 0 (clusters P (c ∷ s))) (read_pieces P none (q + length (bytes_of (c ∷ s))) (runs (after_run ds))))
          (omega (arith, rw e at (f.most [] 0 all_nil (omega arith) q (q + length (bytes_of (c ∷ s))))))

  few_none : Few 0 []
  unfolding run_of after_run runs read_pieces parts
  few_none = record { most = λ z k v h p q. rw (append-nil z) (omega (arith, text_parts P v p k h)) }

  few_damaged : {n : ℕ} (b : ℕ) (ds : List Decoded) → Few n ds → Few (1 + n) (ill_formed b ∷ ds)
  unfolding run_of after_run runs read_pieces parts parts_of
  few_damaged b ds f = record { most = λ z k v h p q. rw (append-nil z) (omega (arith, text_parts P v p k h, few_pieces ds f (suc q))) }

  few_scalar : {n : ℕ} (c : Scalar) (ds : List Decoded) → Valid c → Few n ds → Few (length c.bytes + n) (well_formed c ∷ ds)
  unfolding run_of after_run bytes_of
  few_scalar c ds u f = record {
    most = λ z k v h p q.
        let e : size (z ++ c ∷ []) ≡ size z + length c.bytes = ap length (bytes_of_append z (c ∷ [])) ∙ length-append (bytes_of z) (bytes_of (c ∷ [])) ∙ ap (λ (l : List ℕ). length (bytes_of z) + length l) (append-nil c.bytes) in
        omega (arith, rw (append_assoc z (c ∷ []) (run_of ds)) at (f.most (z ++ c ∷ []) k (all_append v (all_cons u all_nil)) (omega arith) p q));
  }

  few_more : {m n : ℕ} {ds : List Decoded} → m ≤ n → Few m ds → Few n ds
  few_more l f = record { most = λ z k v h p q. omega (arith, f.most z k v h p q) }

  few_front : {n : ℕ} {ds : List Decoded} (es : List Decoded) → All ValidDecoded ds → Few n es → Few (length (decoded_bytes ds) + n) (ds ++ es)
  unfolding decoded_bytes
  few_front {n} es all_nil f = few_more {m = n} (omega arith) f
  few_front {n} es (all_cons {s = ds} (ValidDecoded.valid {c = c} u) a) f =
      few_more {m = length c.bytes + (length (decoded_bytes ds) + n)} (rw (length-append c.bytes (decoded_bytes ds)) (omega arith)) (few_scalar c (ds ++ es) u (few_front es a f))
  few_front {n} es (all_cons {s = ds} (ValidDecoded.ill {b = b}) a) f = few_more {m = 1 + (length (decoded_bytes ds) + n)} (omega arith) (few_damaged b (ds ++ es) (few_front es a f))

  few_order : {n : ℕ} (o : List ℕ) (es : List Decoded) → Order o → Few n es → Few n (map well_formed (asciis (0x1B ∷ o)) ++ es)
  unfolding parts parts_of
  few_order {n} o es is f = record {
    most = λ z k v h p q.
        let y : List Scalar = asciis o ++ run_of es in
        let left : ℕ = n - parts (read_pieces P none q (runs (after_run es))) in
        let c : clusters P (z ++ run_of (map well_formed (asciis (0x1B ∷ o)) ++ es)) ≡ clusters P z ++ esc ∷ clusters P y =
        ap (λ (l : List Scalar). clusters P (z ++ l)) (run_of_wells (asciis (0x1B ∷ o)) es ∙ ap (λ (l : List Scalar). l ++ run_of es) (asciis_cons 0x1B o))
        ∙ clusters_split P (ascii 0x1B) y (lone_joins P ascii_classes (ascii 0x1B) refl) z
        ∙ ap (λ (gs : List (List Scalar)). clusters P z ++ gs) (c0_cluster P ascii_classes 0x1B y (omega arith) (λ i. omega (arith, i))) in
        let b : bytes_of (join_all (clusters P y)) ≡ o ++ bytes_of (run_of es) = ap bytes_of (clusters_all P y) ∙ bytes_of_append (asciis o) (run_of es) ∙ ap (λ (l : List ℕ). l ++ bytes_of (run_of es)) (asciis_bytes o) in
        let read = ap parse b ∙ parse_stable o (bytes_of (run_of es)) is.sequence (1 + length o) is.parsed in
        let m : size (asciis o) ≡ length o = ap length (asciis_bytes o) in
        let j : 1 + length o - 1 ≡ length o = omega arith in
        let further : (p : ℕ) → parts (read_from P none p (length o) (clusters P y)) + parts (read_pieces P none q (runs (after_run es))) ≤ n =
        λ p. omega (arith, f.most (asciis o) (length o) (asciis_valid (low_all o is.small)) (omega arith) p q) in
        let rest : (p : ℕ) → parts (read_from P none p 0 (esc ∷ clusters P y)) ≤ left =
        λ p. rw (read_sequence P none p (clusters P y) is.sequence (1 + length o) read, j) (omega (arith, further (p + 1))) in
        let l : length (bytes_of (join_all (clusters P z))) ≡ size z = ap size (clusters_all P z) in
        let r = read_parts P (esc ∷ clusters P y) left (kind_before P none 0x5B (drop 1 o ++ bytes_of (run_of es)) refl (clusters P y) (b ∙ ap (λ (l : List ℕ). l ++ bytes_of (run_of es)) is.bracket)) rest (solid P z v) p k (omega arith) in
        rw (c, after_run_wells (asciis (0x1B ∷ o)) es) (omega (arith, r, further p));
  }

  -- ---- lines

  few_line : {n : ℕ} {s : List ℕ} → WithOrders n s → Few n (decode s)
  few_line {n} {s} (bytes h) =
      few_more {m = length (decoded_bytes (decode s)) + 0} {n = n} (omega (arith, h, ap length (decoded_bytes_decode s))) (subst (Few (length (decoded_bytes (decode s)) + 0)) (append-nil (decode s)) (few_front [] (decode_valid s) few_none))
  few_line {n} {s = t} (ordered {m = m} {s = s} x a b o e w h q) =
      let is : Order o = order_is a b o e in
      let d : decode t ≡ decode x ++ (map well_formed (asciis (0x1B ∷ o)) ++ decode s) =
      ap decode q ∙ decode_apart 0x1B (o ++ s) (λ c. omega (arith, c.0)) x
      ∙ ap (λ (ds : List Decoded). decode x ++ ds) (ap decode (ap (λ (l : List ℕ). l ++ s) (sym (asciis_bytes (0x1B ∷ o)))) ∙ decode_text (asciis_valid (all_cons {a = 0x1B} (omega arith) (low_all o is.small))) s) in
      subst (Few n) (sym d)
      (few_more {m = length (decoded_bytes (decode x)) + m} {n = n} (omega (arith, h, ap length (decoded_bytes_decode x))) (few_front (map well_formed (asciis (0x1B ∷ o)) ++ decode s) (decode_valid x) (few_order o (decode s) is (few_line w))))

  pub parts_few : {n : ℕ} {s : List ℕ} → WithOrders n s → parts (spans P s) ≤ n
  unfolding spans spans_at
  parts_few {s = s} w = few_pieces (decode s) (few_line w) 0
