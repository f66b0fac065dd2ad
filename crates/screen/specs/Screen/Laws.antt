-- Changes one after the other, none behind what is malformed.
use Rattle.std.specs.Prelude.{◌≡◌, ℕ, ◌+◌, ◌≤◌, ◌<◌, ◌≢◌, false, ◌&&◌, ◌||◌, drop}
use Rattle.std.proofs.Math.Path.{refl, sym, ap}
use Rattle.std.proofs.Common.{◌∙◌, arith}
use Rattle.std.proofs.Math.Bool.{Bool, true, cond, and-true}
use Rattle.std.proofs.Math.Option.{Option, none, some}
use mathlib.Core.List.{List, [], ◌∷◌, ◌++◌}
use Rattle.std.proofs.Math.ListN.{length, length-append, length-drop}
use Rattle.std.proofs.Math.Dec.{eqb, ltb}
use borrow.Author.Tests.{eq-eqb, ne_eqb, eqb-true, eqb-false}
use Rattle.text.specs.Tests.{cases}
use Rattle.text.specs.Utf8.{Scalar, decode, decode_from, run_of, bytes_of, reads}
use Rattle.text.specs.Utf8.Laws.{bytes_of_append}
use Rattle.text.specs.Class.{Profile}
use Rattle.text.specs.Width.{width_of}
use Rattle.text.specs.Cluster.{clusters}
use Rattle.text.specs.Cluster.Laws.{clusters_nil}
use Rattle.text.specs.Utf8.Code.Laws.{run_nil}
use Rattle.screen.specs.Records.{Record}
use Rattle.screen.specs.WellFormed.{body_sizes, of_kind, utf8, wide, clusters_in, is_backspace, well_formed, wide_texts}
use Rattle.screen.specs.Row.{Screen, on_cluster, on_clusters, on_record, on_records}
use Rattle.screen.specs.Screen.{formed, cluster_on, text_on, record_on, records_on}

-- one change, then others
formed_then : (a b : Bool) (f g : Screen → Screen) (o : Option Screen) → formed (a && b) (λ t. g (f t)) o ≡ formed b g (formed a f o)
unfolding formed
formed_then a b f g none = refl
formed_then true b f g (some t) = refl
formed_then false b f g (some t) = refl

formed_same : (o : Option Screen) → formed true (λ t. t) o ≡ o
unfolding formed
formed_same none = refl
formed_same (some t) = refl

formed_not : (f : Screen → Screen) (o : Option Screen) → formed false f o ≡ none
unfolding formed
formed_not f none = refl
formed_not f (some t) = refl

turned : (a b c : Bool) → (a && (b && c)) ≡ (b && (a && c))
turned true b c = refl
turned false true c = refl
turned false false c = refl

module _ (P : Profile) (width : ℕ) where
  -- ---- a text

  cluster_on_law : (g : List Scalar) (o : Option Screen) → cluster_on width (bytes_of g) (width_of P g) o ≡ formed (is_backspace g || ltb 0 (width_of P g)) (λ t. on_cluster P width t g) o
  unfolding cluster_on is_backspace reads on_cluster
  cluster_on_law g o = refl

  text_as : (s : List ℕ) (gs : List (List Scalar)) → clusters P (run_of (decode s)) ≡ gs → (o : Option Screen) → text_on P width s o ≡ formed (utf8 s && wide P gs) (λ t. on_clusters P width t gs) o
  unfolding text_on clusters_in
  text_as s gs e o = ap (λ (hs : List (List Scalar)). formed (utf8 s && wide P hs) (λ t. on_clusters P width t hs) o) e

  same_rest : (n a b : ℕ) → eqb (n + a) (n + b) ≡ eqb a b
  same_rest n a b = cases (eqb a b) (λ e. rw e (eq-eqb (n + a) (n + b) (let h = eqb-true a b e in omega arith))) (λ e. rw e (ne_eqb (n + a) (n + b) (λ z. let h = eqb-false a b e in h (omega arith))))

  module _ (s : List ℕ) (g rest : List Scalar) (n : ℕ) (text : run_of (decode s) ≡ g ++ rest) (behind : run_of (decode (drop n s)) ≡ rest) (size : length (bytes_of g) ≡ n) (inside : n ≤ length s) where
    utf8_rest : utf8 s ≡ utf8 (drop n s)
    unfolding utf8
    utf8_rest =
        let l : length (bytes_of (run_of (decode s))) ≡ n + length (bytes_of (run_of (decode (drop n s)))) = ap (λ (t : List Scalar). length (bytes_of t)) text ∙ ap length (bytes_of_append g rest) ∙ length-append (bytes_of g) (bytes_of rest) ∙ rw (size, behind) refl in
        let m : length s ≡ n + length (drop n s) = omega (arith, inside, length-drop n s) in
        ap (λ (k : ℕ). eqb k (length s)) l ∙ ap (eqb (n + length (bytes_of (run_of (decode (drop n s)))))) m ∙ same_rest n (length (bytes_of (run_of (decode (drop n s))))) (length (drop n s))

    pub text_step : clusters P (run_of (decode s)) ≡ g ∷ clusters P rest → (o : Option Screen) → text_on P width s o ≡ text_on P width (drop n s) (cluster_on width (bytes_of g) (width_of P g) o)
    unfolding wide on_clusters
    text_step c o =
        let ok : Bool = is_backspace g || ltb 0 (width_of P g) in
        text_as s (g ∷ clusters P rest) c o
        ∙ ap (λ (b : Bool). formed b (λ t. on_clusters P width (on_cluster P width t g) (clusters P rest)) o) (ap (λ (b : Bool). b && (ok && wide P (clusters P rest))) utf8_rest ∙ turned (utf8 (drop n s)) ok (wide P (clusters P rest)))
        ∙ formed_then ok (utf8 (drop n s) && wide P (clusters P rest)) (λ t. on_cluster P width t g) (λ t. on_clusters P width t (clusters P rest)) o
        ∙ ap (λ (x : Option Screen). formed (utf8 (drop n s) && wide P (clusters P rest)) (λ t. on_clusters P width t (clusters P rest)) x) (sym (cluster_on_law g o))
        ∙ sym (text_as (drop n s) (clusters P rest) (ap (clusters P) behind) (cluster_on width (bytes_of g) (width_of P g) o))

  pub text_end : (s : List ℕ) → length s ≡ 0 → (o : Option Screen) → text_on P width s o ≡ o
  unfolding utf8 wide on_clusters run_of decode decode_from bytes_of
  text_end [] e o = text_as [] [] (ap (clusters P) run_nil ∙ clusters_nil P) o ∙ formed_same o
  text_end (b ∷ s) e o = absurd (omega arith)

  -- after what is malformed nothing is
  pub text_none : (s : List ℕ) → text_on P width s none ≡ none
  unfolding text_on formed
  text_none s = refl

  pub text_damaged : (s : List ℕ) → run_of (decode s) ≡ [] → 0 < length s → (o : Option Screen) → text_on P width s o ≡ none
  unfolding text_on utf8 bytes_of
  text_damaged s e h o = rw (e, ne_eqb 0 (length s) (λ z. omega (arith, z, h))) (formed_not (λ (t : Screen). on_clusters P width t (clusters P [])) o)

  -- ---- records

  pub records_none : (o : Option Screen) → records_on P width [] o ≡ o
  unfolding records_on well_formed wide_texts on_records
  records_none o = formed_same o

  shuffle : (a b c d e : Bool) → ((a && (b && c)) && (d && e)) ≡ ((a && (b && d)) && (c && e))
  shuffle false b c d e = refl
  shuffle true false c d e = refl
  shuffle true true true d e = cases d (λ z. rw z refl) (λ z. rw z refl)
  shuffle true true false true e = refl
  shuffle true true false false e = refl

  pub records_step : (r : Record) (rs : List Record) (o : Option Screen) → records_on P width (r ∷ rs) o ≡ records_on P width rs (record_on P width r o)
  unfolding records_on record_on well_formed wide_texts on_records
  records_step r rs o =
      let own : Bool = cond (eqb r.kind 1) (wide P (clusters_in P r.body)) true in
      ap (λ (b : Bool). formed b (λ t. on_records P width (on_record P width t r) rs) o) (shuffle r.whole (of_kind (body_sizes false) r.kind r.body) (well_formed (body_sizes false) rs) own (wide_texts P rs))
      ∙ formed_then (r.whole && (of_kind (body_sizes false) r.kind r.body && own)) (well_formed (body_sizes false) rs && wide_texts P rs) (λ t. on_record P width t r) (λ t. on_records P width t rs) o

  pub record_cut : (r : Record) → r.whole ≡ false → (o : Option Screen) → record_on P width r o ≡ none
  unfolding record_on
  record_cut r e o = rw e (formed_not (λ (t : Screen). on_record P width t r) o)

  pub records_malformed : (rs : List Record) → records_on P width rs none ≡ none
  unfolding records_on formed
  records_malformed rs = refl

  -- ---- one record, by its kind

  module _ (b : List ℕ) (o : Option Screen) where
    pub text_record_law : record_on P width (record { whole = true; kind = 1; body = b }) o ≡ text_on P width b o
    unfolding record_on text_on of_kind on_record
    text_record_law = refl

    pub body_record : (k : ℕ) → (k ≢ 1) → let r : Record = record { whole = true; kind = k; body = b } in record_on P width r o ≡ formed (of_kind (body_sizes false) k b) (λ t. on_record P width t r) o
    unfolding record_on
    body_record k n =
        let e : cond (eqb k 1) (wide P (clusters_in P b)) true ≡ true = rw (ne_eqb k 1 n) refl in
        ap (λ (x : Bool). formed x (λ t. on_record P width t (record { whole = true; kind = k; body = b })) o) (ap (λ (x : Bool). of_kind (body_sizes false) k b && x) e ∙ and-true (of_kind (body_sizes false) k b))
