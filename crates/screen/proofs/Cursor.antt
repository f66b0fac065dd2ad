-- The cursor stands behind the columns of a list's texts, and a text would pass the last column exactly where they are more than the row's.
use Rattle.std.specs.Prelude.{◌≡◌, Bool, true, ltb}
use Rattle.std.proofs.Math.Path.{refl, sym, ap}
use Rattle.std.proofs.Common.{subst, ◌∙◌, zero-add, arith}
use Prim.Native.Nat.{ℕ, ◌+◌, ◌-◌, ◌≤◌, ◌<◌}
use Rattle.std.proofs.Math.Nat.{add-zero, add_assoc}
use Rattle.std.proofs.Math.Bool.{false, cond}
use mathlib.Core.List.{List, [], ◌∷◌, map}
use Rattle.std.proofs.Math.Dec.{eqb}
use borrow.Author.Tests.{eqb-false, ne_eqb, ltb-true, ltb-false, le-ltb}
use Rattle.text.specs.Tests.{cases, or_false, by_case}
use Rattle.text.specs.Each.{All, all_nil, all_cons, all_split}
use Rattle.text.specs.Utf8.{Scalar, ascii, bytes_of}
use Rattle.text.specs.Utf8.Valid.{Valid}
use Rattle.text.specs.Class.{Profile}
use Rattle.text.specs.Class.Ascii.{control_columns, printable_columns}
use Rattle.text.specs.Width.{width_of}
use Rattle.text.specs.Width.Laws.{width_append, width_nil}
use Rattle.text.specs.Cluster.{clusters, join_all}
use Rattle.text.specs.Cluster.Ascii.{wide_reads}
use Rattle.text.specs.Cluster.Laws.{clusters_all, join_cons, join_nil}
use Rattle.drawing.specs.Attributes.{plain, arrows}
use Rattle.drawing.specs.Change as change
use Rattle.drawing.specs.Change.{Change, all_attributes, cursor_right, kind_of, body, attribute_bytes, color_bytes}
use Rattle.screen.specs.Records.Laws.{record_of}
use Rattle.screen.specs.WellFormed.{clusters_in, is_backspace}
use Rattle.screen.specs.Row.{Screen, with_attributes, blank_screen, passes, write, clear, on_cluster, on_clusters, on_record, on_records}
use Rattle.screen.specs.Row.Laws.{passed_stays}
use Rattle.text.specs.Cluster.Parts.{Wide}
use Rattle.screen.specs.Drawn.{ProfileLaws, columns}
use Rattle.screen.specs.Drawn.Texts.{Text}
use Rattle.screen.specs.Drawn.WellFormed.{Sendable, text, torn, attributes, DrawnList, done, next, arrow, text_clusters}

module _ (P : Profile) (H : ProfileLaws P) (W : ℕ) (some : 1 ≤ W) where
  -- n columns are written: the cursor is behind them, or pending on the last
  record At (n : ℕ) (t : Screen) : Type 0 where
    passed : t.passed ≡ false
    pending : t.pending ≡ eqb n W
    cursor : t.cursor ≡ cond (eqb n W) (W - 1) n

  -- texts of n columns were met
  record Met (n : ℕ) (t : Screen) : Type 0 where
    inside : n ≤ W → At n t
    over : W < n → t.passed ≡ true

  blank_met : Met 0 (blank_screen W)
  unfolding blank_screen
  blank_met = record { inside = λ h. let e = ne_eqb 0 W (omega arith) in record { passed = refl; pending = sym e; cursor = rw e }; over = λ h. absurd (omega arith) }

  -- ---- texts

  -- byte 08 has no width
  not_backspace : (g : List Scalar) → All Valid g → 1 ≤ width_of P g → is_backspace g ≡ false
  unfolding is_backspace
  not_backspace g v h = wide_reads P H.ascii 0x08 (omega arith) refl g v h

  cluster_met : (n : ℕ) (t : Screen) (g : List Scalar) → Met n t → is_backspace g ≡ false → 1 ≤ width_of P g → Met (n + width_of P g) (on_cluster P W t g)
  unfolding on_cluster write
  cluster_met n t g m b h =
      let w : ℕ = width_of P g in
      rw b (record {
        inside = λ i.
            let a = m.inside (omega arith) in
            let e : eqb n W ≡ false = ne_eqb n W (omega arith) in
            let p : t.pending ≡ false = a.pending ∙ e in
            let c : t.cursor ≡ n = a.cursor ∙ ap (λ (b : Bool). cond b (W - 1) n) e in
            rw (p, c, le-ltb W (n + w) i) (record { passed = a.passed; pending = refl; cursor = refl });
        over = λ o. by_case (λ (t : Screen). t.passed ≡ true) (passes W t w) (λ q. refl) (λ q. cases (ltb W n)
            (λ l. m.over (ltb-true W n l))
            (λ l.
            let a = m.inside (ltb-false W n l) in
            let f = or_false t.pending (ltb W (t.cursor + w)) q in
            let e : eqb n W ≡ false = sym a.pending ∙ f.0 in
            let c : t.cursor ≡ n = a.cursor ∙ ap (λ (b : Bool). cond b (W - 1) n) e in
            absurd (omega (arith, ltb-false W (t.cursor + w) f.1))));
      })

  clusters_met : (n : ℕ) (t : Screen) (gs : List (List Scalar)) → Wide P gs → All Valid (join_all gs) → Met n t → Met (n + width_of P (join_all gs)) (on_clusters P W t gs)
  unfolding on_clusters
  clusters_met n t [] all_nil v m = rw (join_nil, width_nil P, add-zero n) m
  clusters_met n t (g ∷ gs) (all_cons h a) v m =
      let p = all_split g (rw (join_cons g gs) at v) in
      rw (join_cons g gs, width_append P g (join_all gs), ← add_assoc n (width_of P g) (width_of P (join_all gs)))
      (clusters_met (n + width_of P g) (on_cluster P W t g) gs a p.1 (cluster_met n t g m (not_backspace g p.0 h) h))

  text_met : (n : ℕ) (t : Screen) (s : List Scalar) → Text P s → Met n t → Met (n + width_of P s) (on_clusters P W t (clusters_in P (bytes_of s)))
  text_met n t s x m =
      rw (text_clusters P x.valid)
      (subst (λ (l : List Scalar). Met (n + width_of P l) (on_clusters P W t (clusters P s))) (clusters_all P s) (clusters_met n t (clusters P s) x.wide (rw (clusters_all P s) x.valid) m))

  -- ---- a right arrow passes nothing

  abbrev arrowed : Screen → Screen
  arrowed t = on_records P W t (map record_of (change.text (ascii 0x08 ∷ []) ∷ cursor_right ∷ all_attributes arrows ∷ change.text (ascii 0x3E ∷ []) ∷ all_attributes plain ∷ []))

  arrow_inside : (n : ℕ) (t : Screen) → n ≤ W → At n t → (arrowed t).passed ≡ false
  unfolding on_records on_record kind_of body
  arrow_inside n t h a =
      let c : t.cursor < W = cases (eqb n W) (λ e. rw (a.cursor, e) (omega arith)) (λ e. rw (a.cursor, e) (omega (arith, eqb-false n W e))) in
      rw (printable_columns P H.ascii 0x3E refl)
      (cases (ltb (t.cursor - 1 + 1) W)
      (λ e. rw (e, le-ltb W (t.cursor - 1 + 1 + 1) (omega (arith, ltb-true (t.cursor - 1 + 1) W e))) a.passed)
      (λ e. rw (e, le-ltb W (t.cursor - 1 + 1) (omega arith)) a.passed))

  -- ---- lists

  -- a change that leaves cursor and flag
  same_met : (n : ℕ) (t u : Screen) → u.passed ≡ t.passed → u.pending ≡ t.pending → u.cursor ≡ t.cursor → Met n t → Met n u
  same_met n t u x p c m = record { inside = λ h. let a = m.inside h in record { passed = x ∙ a.passed; pending = p ∙ a.pending; cursor = c ∙ a.cursor }; over = λ h. x ∙ m.over h }

  met_passed : (n : ℕ) (t : Screen) → Met n t → t.passed ≡ ltb W n
  met_passed n t m = cases (ltb W n) (λ e. m.over (ltb-true W n e) ∙ sym e) (λ e. (m.inside (ltb-false W n e)).passed ∙ sym e)

  passed_from : {cs : List Change} → DrawnList P cs → (n : ℕ) (t : Screen) → Met n t → (on_records P W t (map record_of cs)).passed ≡ ltb W (n + columns P cs)
  unfolding on_records on_record columns kind_of body
  passed_from done n t m = rw (add-zero n) (met_passed n t m)
  passed_from (next {cs = cs} (text {s = s} x h) d) n t m = rw (← add_assoc n (width_of P s) (columns P cs)) (passed_from d (n + width_of P s) (on_clusters P W t (clusters_in P (bytes_of s))) (text_met n t s x m))
  passed_from (next torn d) n t m = passed_from d n t m
  passed_from (next (attributes {a = a} f) d) n t m = passed_from d n (with_attributes t (attribute_bytes a)) (same_met n t _ refl refl refl m)
  passed_from (next (Sendable.clear {c = c}) d) n t m = passed_from d n (clear W t (color_bytes c)) (same_met n t _ refl refl refl m)
  passed_from arrow n t m =
      let z : n + (P.width 0x08 + 0 + 0) ≡ n = omega (arith, control_columns P H.ascii 0x08 (omega arith) refl) in
      rw z (cases (ltb W n)
      (λ e. rw e (passed_stays P W (map record_of (change.text (ascii 0x08 ∷ []) ∷ cursor_right ∷ all_attributes arrows ∷ change.text (ascii 0x3E ∷ []) ∷ all_attributes plain ∷ [])) t (m.over (ltb-true W n e))))
      (λ e. rw e (arrow_inside n t (ltb-false W n e) (m.inside (ltb-false W n e)))))

  pub list_passed : {cs : List Change} → DrawnList P cs → (on_records P W (blank_screen W) (map record_of cs)).passed ≡ ltb W (columns P cs)
  list_passed {cs} d = rw (zero-add (columns P cs)) at (passed_from d 0 (blank_screen W) blank_met)
