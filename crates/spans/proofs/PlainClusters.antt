-- Plain clusters of one scalar: printable bytes, and scalars of class LV, LVT and other. Controls are none.
use mathlib.Core.Path.{◌≡◌, refl, sym, ap, ◌∙◌}
use Prim.Native.Nat.{ℕ, suc, ◌+◌, ◌≤◌, ◌<◌}
use native.Mathlib.Omega.{arith}
use mathlib.Core.Bool.{Bool, true, false, not, ◌&&◌, ◌||◌, or-true}
use mathlib.Core.List.{List, [], ◌∷◌, ◌++◌}
use mathlib.Core.Logic.{◌≢◌}
use lib.ListN.{length, drop, get_or, length-drop}
use lib.Seq.{drop-drop}
use lib.Dec.{eqb, leb, leb→le, ltb, ltb→lt}
use borrow.Author.Tests.{eqb-false, lt-leb, lt-ltb, ltb-true, ne_eqb, not-true}
use Rattle.text.specs.Tests.{cases, and_T, is_true, true_T}
use Rattle.text.specs.Each.{All, all_nil, all_cons}
use Rattle.text.specs.Utf8.{Scalar, ascii, decode, run_of, bytes_of}
use Rattle.text.specs.Utf8.Laws.{bytes_one}
use Rattle.text.specs.Utf8.Ascii.{ascii_run, valid_low}
use Rattle.text.specs.Utf8.Valid.{Valid, run_text}
use Rattle.text.specs.Class.{Profile}
use Rattle.text.specs.Class.Ascii.{printable_class, printable_range, syllable_or_other}
use Rattle.text.specs.Width.{width_of}
use Rattle.text.specs.Cluster.{class_of, clusters}
use Rattle.text.specs.Cluster.Laws.{clusters_nil, clusters_one}
use Rattle.text.specs.Cluster.Ascii.{c0_cluster, control_width, syllable_cluster, syllable_width}
use Rattle.text.specs.Cluster.Walk.{first_size_law}
use Rattle.text.specs.Class.Code.{profile_of, printable}
use Rattle.text.specs.Utf8.Code.{size}
use Rattle.text.specs.Segmentation.{first_size}
use Rattle.text.specs.Utf8.Code.Laws.{run_behind, run_fits, run_nil, run_valid, size_cons, size_nil}
use Rattle.text.specs.Class.Profile01.{ascii_classes, syllable_columns}
use Rattle.text.specs.TextParts.{text_at}
use Rattle.text.specs.TextParts.Laws.{ascii_at}
use Rattle.text.specs.declared.class.Profile as code
use Rattle.spans.specs.Spans.FirstSpan.{plain_cluster, plain_size}
use Rattle.spans.specs.Reader.{c0_not_cr, clusters_at, PlainTo, PrintableTo, printable_size, leaves_syllable, syllables_size, run_at, SyllablesTo}
use Rattle.spans.proofs.ClusterBytes.{plain_width}

pub plain_here : (P : Profile) (t : List ℕ) (at : ℕ) → at ≤ length t → PlainTo P t at at
plain_here P t at h = record { same = refl; up = omega arith; low = h }

pub plain_on : (P : Profile) (t : List ℕ) (a b e : ℕ) → PlainTo P t a b → PlainTo P t b e → PlainTo P t a e
plain_on P t a b e x y = record { same = y.same ∙ x.same; up = omega (arith, x.up, y.up); low = y.low }

printable_fits : (s : List ℕ) → printable_size s ≤ length s
unfolding printable_size
printable_fits [] = omega arith
printable_fits (a ∷ []) = cases (printable a) (λ e. rw e (omega arith)) (λ e. rw e (omega arith))
printable_fits (a ∷ b ∷ s) = cases (printable a && ltb b 0x80) (λ e. rw e (omega (arith, printable_fits (b ∷ s)))) (λ e. rw e (omega arith))

module _ (p : code.Profile) where
  -- n plain bytes in front, with what is left of them and of the line
  front_plain : (t : List ℕ) (at n r : ℕ) → at + n ≤ length t → r ≡ at + n
      → plain_size (profile_of p) (clusters_at (profile_of p) (drop at t)) ≡ n + plain_size (profile_of p) (clusters_at (profile_of p) (drop n (drop at t))) → PlainTo (profile_of p) t at r
  front_plain t at n r h e q = rw e (record { same = omega (arith, rw (drop-drop n at t) at q); up = omega arith; low = h })

  -- a scalar with a width that is a cluster by itself
  one_plain : (s : List ℕ) (c : Scalar) (gs : List (List Scalar)) → clusters_at (profile_of p) s ≡ (c ∷ []) ∷ gs → 1 ≤ width_of (profile_of p) (c ∷ [])
      → plain_size (profile_of p) (clusters_at (profile_of p) s) ≡ length c.bytes + plain_size (profile_of p) gs
  unfolding plain_size
  one_plain s c gs e w =
      let b : plain_cluster (profile_of p) (c ∷ []) ≡ true = plain_width p s (c ∷ []) gs e ∙ rw (ne_eqb (width_of (profile_of p) (c ∷ [])) 0 (λ z. omega (arith, w, z))) refl in
      rw (e, b, bytes_one c) refl

  -- ---- printable bytes

  module _ (a : ℕ) (h : printable a ≡ true) where
    printable_other : syllable_or_other (class_of (profile_of p) (ascii a)) ≡ true
    printable_other = rw (printable_class (profile_of p) (ascii_classes p) a h) refl

    printable_one : (s : List ℕ) → clusters_at (profile_of p) (a ∷ s) ≡ (ascii a ∷ []) ∷ clusters_at (profile_of p) s → plain_size (profile_of p) (clusters_at (profile_of p) (a ∷ s)) ≡ suc (plain_size (profile_of p) (clusters_at (profile_of p) s))
    printable_one s e = one_plain (a ∷ s) (ascii a) (clusters_at (profile_of p) s) e (syllable_width (profile_of p) (syllable_columns p) (ascii a) printable_other) ∙ omega arith

    printable_low : a < 0x80
    printable_low = omega (arith, (printable_range a h).1)

    last_printable : clusters_at (profile_of p) (a ∷ []) ≡ (ascii a ∷ []) ∷ clusters_at (profile_of p) []
    last_printable = rw (ascii_run a [] printable_low, run_nil, clusters_nil (profile_of p)) (clusters_one (profile_of p) (ascii a))

    next_printable : (b : ℕ) (s : List ℕ) → b < 0x80 → clusters_at (profile_of p) (a ∷ b ∷ s) ≡ (ascii a ∷ []) ∷ clusters_at (profile_of p) (b ∷ s)
    next_printable b s l =
        rw (ascii_run a (b ∷ s) printable_low, ascii_run b s l)
        (syllable_cluster (profile_of p) (ascii_classes p) (ascii a) (ascii b) (run_of (decode s)) printable_other (rw (lt-ltb b 0x80 l) (or-true (syllable_or_other (class_of (profile_of p) (ascii b))))))

  printable_plain : (s : List ℕ) → plain_size (profile_of p) (clusters_at (profile_of p) s) ≡ printable_size s + plain_size (profile_of p) (clusters_at (profile_of p) (drop (printable_size s) s))
  unfolding printable_size
  printable_plain [] = omega arith
  printable_plain (a ∷ []) = cases (printable a) (λ e. rw e (omega (arith, printable_one a e [] (last_printable a e)))) (λ e. rw e (omega arith))
  printable_plain (a ∷ b ∷ s) =
      cases (printable a && ltb b 0x80)
      (λ e.
      let q = and_T (printable a) (ltb b 0x80) (true_T e) in
      let h : printable a ≡ true = is_true _ q.0 in
      rw e (omega (arith, printable_one a h (b ∷ s) (next_printable a h b s (ltb→lt _ _ q.1)), printable_plain (b ∷ s))))
      (λ e. rw e (omega arith))

  pub printable_to : (t : List ℕ) (at r : ℕ) → at ≤ length t → r ≡ at + printable_size (drop at t) → PrintableTo (profile_of p) t at r
  printable_to t at r h e =
      record { is = e; to = front_plain t at (printable_size (drop at t)) r (omega (arith, printable_fits (drop at t), length-drop at t)) e (printable_plain (drop at t)) }

  -- ---- scalars of class LV, LVT and other

  record SyllablesInFront (damaged : Bool) (r : List Scalar) : Type 0 where
    front : List Scalar
    rest : List Scalar
    text : r ≡ front ++ rest
    len : syllables_size (profile_of p) damaged r ≡ size front
    plain : plain_size (profile_of p) (clusters (profile_of p) r) ≡ size front + plain_size (profile_of p) (clusters (profile_of p) rest)

  leaves_code : (d : Scalar) → Valid d → (syllable_or_other (class_of (profile_of p) d) || ltb (get_or d.bytes 0 0) 0x80) ≡ true → (syllable_or_other (class_of (profile_of p) d) || ltb d.code 0x80) ≡ true
  leaves_code d v e =
      cases (syllable_or_other (class_of (profile_of p) d))
      (λ b. rw b refl)
      (λ b. let l : ltb (get_or d.bytes 0 0) 0x80 ≡ true = rw b at e in rw (b, valid_low d v (ltb-true _ _ l)) l)

  syllable_alone : (damaged : Bool) (c : Scalar) {s : List Scalar} → All Valid s → syllable_or_other (class_of (profile_of p) c) ≡ true → leaves_syllable (profile_of p) damaged s ≡ true
      → clusters (profile_of p) (c ∷ s) ≡ (c ∷ []) ∷ clusters (profile_of p) s
  unfolding leaves_syllable
  syllable_alone damaged c all_nil h l = rw (clusters_nil (profile_of p)) (clusters_one (profile_of p) c)
  syllable_alone damaged c (all_cons {a = d} {s = s} v e) h l = syllable_cluster (profile_of p) (ascii_classes p) c d s h (leaves_code d v l)

  in_front : (damaged : Bool) {r : List Scalar} → All Valid r → SyllablesInFront damaged r
  unfolding syllables_size
  in_front damaged all_nil = record { front = []; rest = []; text = refl; len = sym size_nil; plain = rw size_nil (omega arith) }
  in_front damaged (all_cons {a = c} {s = s} v e) =
      cases (syllable_or_other (class_of (profile_of p) c) && leaves_syllable (profile_of p) damaged s)
      (λ b.
      let q = and_T (syllable_or_other (class_of (profile_of p) c)) (leaves_syllable (profile_of p) damaged s) (true_T b) in
      let h : syllable_or_other (class_of (profile_of p) c) ≡ true = is_true _ q.0 in
      let w = in_front damaged e in
      let r : run_of (decode (bytes_of (c ∷ s))) ≡ c ∷ s = run_text (all_cons v e) in
      let k : plain_size (profile_of p) (clusters (profile_of p) (c ∷ s)) ≡ length c.bytes + plain_size (profile_of p) (clusters (profile_of p) s) =
      rw r at (one_plain (bytes_of (c ∷ s)) c (clusters (profile_of p) s) (rw r (syllable_alone damaged c e h (is_true _ q.1))) (syllable_width (profile_of p) (syllable_columns p) c h)) in
      record {
        front = c ∷ w.front;
        rest = w.rest;
        text = ap (λ (l : List Scalar). c ∷ l) w.text;
        len = rw (b, size_cons c w.front) (ap (λ (n : ℕ). length c.bytes + n) w.len);
        plain = omega (arith, k, w.plain, size_cons c w.front);
      })
      (λ b. record { front = []; rest = c ∷ s; text = refl; len = rw b (sym size_nil); plain = rw size_nil (omega arith) })

  pub syllables_to : (t : List ℕ) (at r : ℕ) → at ≤ length t → r ≡ at + syllables_size (profile_of p) (ltb (run_at t at) (length t)) (text_at t at) → SyllablesTo (profile_of p) t at r
  syllables_to t at r h e =
      let w = in_front (ltb (run_at t at) (length t)) (run_valid (drop at t)) in
      record {
        is = e;
        to = front_plain t at (size w.front) r (omega (arith, run_fits (drop at t) w.front w.rest w.text, length-drop at t)) (e ∙ ap (λ (n : ℕ). at + n) w.len)
            (rw (run_behind (drop at t) w.front w.rest w.text) w.plain);
      }

  -- ---- controls

  module _ (t : List ℕ) (at : ℕ) (h : at < length t) (c : c0_not_cr (get_or t at 0) ≡ true) where
    c0_low : (get_or t at 0 < 0x20) × (get_or t at 0 ≢ 0x0D)
    c0_low =
        let q = and_T (leb (get_or t at 0) 0x1F) (not (eqb (get_or t at 0) 0x0D)) (true_T c) in
        let l : get_or t at 0 ≤ 0x1F = leb→le _ _ q.0 in
        (omega arith, eqb-false (get_or t at 0) 0x0D (not-true _ (is_true _ q.1)))

    control_single : clusters_at (profile_of p) (drop at t) ≡ (ascii (get_or t at 0) ∷ []) ∷ clusters_at (profile_of p) (drop (at + 1) t)
    control_single =
        ap (clusters (profile_of p)) (ascii_at t at (get_or t at 0) h refl (omega (arith, c0_low.0)))
        ∙ c0_cluster (profile_of p) (ascii_classes p) (get_or t at 0) (text_at t (at + 1)) c0_low.0 c0_low.1

    pub control_size : plain_size (profile_of p) (clusters_at (profile_of p) (drop at t)) ≡ 0
    unfolding plain_size
    control_size =
        let w : width_of (profile_of p) (ascii (get_or t at 0) ∷ []) ≡ 0 = control_width (profile_of p) (ascii_classes p) (get_or t at 0) (omega (arith, c0_low.0)) (rw (lt-leb 0x20 (get_or t at 0) c0_low.0) refl) in
        let b : plain_cluster (profile_of p) (ascii (get_or t at 0) ∷ []) ≡ false = plain_width p (drop at t) (ascii (get_or t at 0) ∷ []) (clusters_at (profile_of p) (drop (at + 1) t)) control_single ∙ rw w refl in
        rw (control_single, b) refl

    pub control_end : at + 1 ≡ at + first_size (profile_of p) (text_at t at)
    control_end =
        ap (λ (n : ℕ). at + n) (sym (first_size_law (profile_of p) (text_at t at) (ascii (get_or t at 0) ∷ []) (clusters_at (profile_of p) (drop (at + 1) t)) control_single
        ∙ ap length (bytes_one (ascii (get_or t at 0)))))
