-- A cluster cut keeps its number of cells, and a text that would have passed the last column is not forgotten.
use Rattle.std.specs.Prelude.{◌≡◌, Bool, true, false, cond, length, eqb}
use Rattle.std.proofs.Math.Path.{refl}
use Rattle.std.proofs.Common.{ap}
use Prim.Native.Nat.{ℕ, suc}
use mathlib.Core.List.{List, [], ◌∷◌}
use Rattle.text.specs.Utf8.{Scalar, bytes_of}
use Rattle.text.specs.Class.{Profile}
use Rattle.text.specs.Width.{width_of}
use Rattle.screen.specs.Records.{Record}
use Rattle.screen.specs.WellFormed.{clusters_in, is_backspace}
use Rattle.screen.specs.Row.{Cell, lost_end, Screen, back, with_attributes, passes, write, clear, right, on_cluster, on_clusters, on_record, on_records}

-- ---- the number of cells

pub lost_end_length : (cs : List Cell) → length (lost_end cs) ≡ length cs
unfolding lost_end
lost_end_length [] = refl
lost_end_length (c ∷ cs) = ap suc (lost_end_length cs)

-- ---- what is passed stays so

cond_passed : (b : Bool) (x y : Screen) → x.passed ≡ true → y.passed ≡ true → (cond b x y).passed ≡ true
cond_passed true x y e f = e
cond_passed false x y e f = f

module _ (P : Profile) (width : ℕ) where
  clusters_stay : (gs : List (List Scalar)) (t : Screen) → t.passed ≡ true → (on_clusters P width t gs).passed ≡ true
  unfolding on_clusters on_cluster back write
  clusters_stay [] t e = e
  clusters_stay (g ∷ gs) t e =
      let w : ℕ = width_of P g in
      clusters_stay gs (on_cluster P width t g) (cond_passed (is_backspace g) (back t) _ e (cond_passed (passes width t w) _ (write width t (bytes_of g) w) refl e))

  record_stays : (r : Record) (t : Screen) → t.passed ≡ true → (on_record P width t r).passed ≡ true
  unfolding on_record with_attributes clear right
  record_stays r t e =
      cond_passed (eqb r.kind 1) _ _ (clusters_stay (clusters_in P r.body) t e)
      (cond_passed (eqb r.kind 2) (with_attributes t r.body) _ e (cond_passed (eqb r.kind 3) (clear width t r.body) (right width t) e e))

  pub passed_stays : (rs : List Record) (t : Screen) → t.passed ≡ true → (on_records P width t rs).passed ≡ true
  unfolding on_records
  passed_stays [] t e = e
  passed_stays (r ∷ rs) t e = passed_stays rs (on_record P width t r) (record_stays r t e)
