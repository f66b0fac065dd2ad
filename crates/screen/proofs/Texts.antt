-- A text, cluster by cluster.
use mathlib.Core.Path.{◌≡◌, refl, sym, ap, ap₂, ◌∙◌}
use Prim.Native.Nat.{ℕ, ◌+◌, ◌-◌, ◌<◌, ◌≤◌}
use native.Mathlib.Omega.{arith}
use mathlib.Core.Logic.{◌≢◌}
use Rattle.std.proofs.Math.Option.{some}
use Rattle.std.specs.Prelude as std
use Rattle.std.specs.Prelude.{None, Some, is_some, true, false}
use mathlib.Core.List.{List}
use lib.ListN.{length, take, drop, length-drop}
use lib.Seq.{length-take-le, take-take, drop-drop}
use Rattle.text.specs.Utf8.{Scalar, bytes_of}
use Rattle.text.specs.Utf8.Code.{size}
use Rattle.text.specs.Utf8.Code.Laws.{front_bytes}
use Rattle.text.specs.Class.{Profile}
use Rattle.text.specs.Width.{width_of}
use Rattle.text.specs.Cluster.{clusters}
use Rattle.text.specs.Cluster.Walk.{size_is}
use Rattle.text.specs.Segmentation.{first_of, NextCluster, NextClusterReady}
use Rattle.text.specs.Segmentation.Laws.{FirstCluster}
use Rattle.text.specs.Scalar.{packed_at, scalar_here}
use Rattle.text.specs.declared.scalar.Scalar as scalar
use Rattle.text.specs.Scalar.Laws.{packed_inside, first_some, none_text, no_scalar, scalar_there}
use Rattle.text.specs.TextParts.{text_at, place}
use Rattle.text.specs.TextParts.Laws.{first_there, behind_part}
use Rattle.text.specs.declared.BytePlace.{BytePlace}
use Rattle.text.specs.declared.segmentation.ClusterStep.{ClusterStep}
use Rattle.screen.specs.Row.Contracts.{part}
use Rattle.screen.specs.Row.Put.{drop_take}
use Rattle.screen.specs.Screen.{screen_at, screen_of, cluster_on, text_on, RowReady, ClusterOnReady, TextReady, Stepped}
use Rattle.screen.specs.Screen.Laws.{text_step, text_end, text_damaged, text_none}
use Rattle.screen.specs.declared.screen.Screen as code

-- the part that a text ends with, and a part before its end
part_drop : (list : List ℕ) (start end : ℕ) → drop start (take end list) ≡ part list start (end - start)
part_drop list start end = drop_take start end list

part_inside : (list : List ℕ) (p n end : ℕ) → p + n ≤ end → take n (drop p (take end list)) ≡ part list p n
part_inside list p n end h = ap (take n) (drop_take p end list) ∙ take-take n (end - p) (drop p list) (omega arith)

pub record Texting (P : Profile) (width : ℕ) (list row₀ : List ℕ) (t₀ : code.Screen) (start end : ℕ) (text : List ℕ) (p : BytePlace) (u : std.Option scalar.Scalar) (row : List ℕ) (t : code.Screen) : Type 0 where
  pub part : text ≡ take end list
  pub room : end ≤ length list
  pub low : start ≤ p.0
  pub place : 0 < start
  pub inside : p.0 ≤ end
  pub work : text_on P width (drop p.0 text) (some (screen_at list width row t)) ≡ text_on P width (drop start text) (some (screen_at list width row₀ t₀))
  pub ready : RowReady width row t
  pub scalar : u ≡ scalar_here P text p.0
  pub long : length row ≡ length row₀

module _ (width : ℕ) (list row : List ℕ) (t : code.Screen) (start end : ℕ) (ready : TextReady list width row t start end) where
  pub text_length : end ≡ length (take end list)
  text_length = sym (length-take-le end list ready.inside)

  pub text_some : (start ≢ end) → start < length (take end list)
  text_some n = omega (arith, n, text_length, ready.order)

module _ (P : Profile) (width : ℕ) (list row : List ℕ) (t : code.Screen) (start end : ℕ) (ready : TextReady list width row t start end) where
  pub texting_begin : (u : std.Option scalar.Scalar) → u ≡ scalar_here P (take end list) start → Texting P width list row t start end (take end list) (place start) u row t
  texting_begin u e = record { part = refl; room = ready.inside; low = omega arith; place = ready.place; inside = ready.order; work = refl; ready = ready.ready; scalar = e; long = refl }

  pub text_empty : start ≡ end → Stepped list width row t (text_on P width (part list start (end - start))) row (Some t)
  text_empty e =
      let n : length (part list start (end - start)) ≡ 0 = length-take-le (end - start) (drop start list) (omega (arith, e)) ∙ omega (arith, e) in
      record { same = sym (text_end P width (part list start (end - start)) n (some (screen_at list width row t))); ready = ready.ready }

module _ (P : Profile) (width : ℕ) (list row₀ : List ℕ) (t₀ : code.Screen) (start end : ℕ) (text : List ℕ) (p : BytePlace) (u : std.Option scalar.Scalar) (row : List ℕ) (t : code.Screen) (b : Texting P width list row₀ t₀ start end text p u row t) where
  all_length : length text ≡ end
  all_length = ap length b.part ∙ length-take-le end list b.room

  whole : text_on P width (drop p.0 text) (some (screen_at list width row t)) ≡ text_on P width (part list start (end - start)) (some (screen_at list width row₀ t₀))
  whole = b.work ∙ ap (λ (s : List ℕ). text_on P width s (some (screen_at list width row₀ t₀))) (ap (drop start) b.part ∙ part_drop list start end)

  left : length (drop p.0 text) ≡ end - p.0
  left = length-drop p.0 text ∙ ap (λ (n : ℕ). n - p.0) all_length

  some_scalar : is_some u ≡ true → (packed_at P text p.0 ≢ 0)
  some_scalar = scalar_there P text p.0 u b.scalar

  pub text_ready : is_some u ≡ true → NextClusterReady P text p.0 u
  text_ready z = record { inside = packed_inside P text p.0 (packed_at P text p.0) refl (some_scalar z); scalar = b.scalar }

  pub text_done : end ≤ p.0 → Stepped list width row₀ t₀ (text_on P width (part list start (end - start))) row (Some t)
  text_done h = record { same = sym (text_end P width (drop p.0 text) (left ∙ omega arith) (some (screen_at list width row t))) ∙ whole; ready = b.ready }

  pub text_malformed : is_some u ≡ false → p.0 < end → Stepped list width row₀ t₀ (text_on P width (part list start (end - start))) row None
  text_malformed z h = record { same = sym (text_damaged P width (drop p.0 text) (none_text P text p.0 u b.scalar (no_scalar u z)) (omega (arith, left, h)) (some (screen_at list width row t))) ∙ whole; ready = tt }

  module _ (g : ClusterStep) (c : NextCluster P text p.0 g) where
    further : is_some u ≡ true → p.0 < g.part.end.0
    further z = omega (arith, c.part.end, first_some P text p.0 (packed_at P text p.0) refl (some_scalar z))

    pub cluster_ready : is_some u ≡ true → ClusterOnReady list width row t p.0 g.part.end.0
    cluster_ready z = record { ready = b.ready; place = omega (arith, b.place, b.low); order = omega (arith, further z); inside = omega (arith, c.part.inside, all_length, b.room) }

    pub text_less : is_some u ≡ true → length text - g.part.end.0 < length text - p.0
    text_less z = let h = further z in omega (arith, h, c.part.inside)

    -- what is left to do after the cluster
    after : {row' : List ℕ} {o : std.Option code.Screen} → is_some u ≡ true → Stepped list width row t (cluster_on width (part list p.0 (g.part.end.0 - p.0)) g.part.width.0) row' o → text_on P width (drop g.part.end.0 text) (screen_of list width row' o) ≡ text_on P width (drop p.0 text) (some (screen_at list width row t))
    after z s =
        let now : List Scalar = text_at text p.0 in
        let e : ℕ = g.part.end.0 in
        let m = c.part in
        let f : FirstCluster P now = first_there P now (λ o. absurd (omega (arith, m.end, further z))) in
        let front : List Scalar = first_of (clusters P now) in
        let n : e - p.0 ≡ size front = omega (arith, m.end) in
        let k : p.0 + size front ≡ e = sym m.end in
        let rest : text_at text e ≡ f.rest = behind_part P text p.0 front f.rest g.part m f.text in
        let d : drop (size front) (drop p.0 text) ≡ drop e text = drop-drop (size front) p.0 text ∙ ap (λ (i : ℕ). drop i text) k in
        let bytes : part list p.0 (e - p.0) ≡ bytes_of front = ap (part list p.0) n ∙ sym (part_inside list p.0 (size front) end (omega (arith, k, m.inside, all_length))) ∙ ap (λ (l : List ℕ). take (size front) (drop p.0 l)) (sym b.part) ∙ front_bytes (drop p.0 text) front f.rest f.text in
        let step : text_on P width (drop p.0 text) (some (screen_at list width row t)) ≡ text_on P width (drop e text) (cluster_on width (bytes_of front) (width_of P front) (some (screen_at list width row t)))
        = text_step P width (drop p.0 text) front f.rest (size front) f.text (ap (λ (l : List ℕ). text_at l 0) d ∙ rest) (sym (size_is front)) (omega (arith, k, m.inside, length-drop p.0 text)) f.clusters (some (screen_at list width row t))
        ∙ ap (λ (m : List ℕ). text_on P width m (cluster_on width (bytes_of front) (width_of P front) (some (screen_at list width row t)))) d in
        ap (text_on P width (drop e text)) (s.same ∙ ap₂ (λ (l : List ℕ) (w : ℕ). cluster_on width l w (some (screen_at list width row t))) bytes m.width) ∙ sym step

    -- a cluster that is none ends the text
    pub text_broken : (row' : List ℕ) → is_some u ≡ true → Stepped list width row t (cluster_on width (part list p.0 (g.part.end.0 - p.0)) g.part.width.0) row' None → Stepped list width row₀ t₀ (text_on P width (part list start (end - start))) row' None
    text_broken row' z s = record { same = sym (text_none P width (drop g.part.end.0 text)) ∙ after z s ∙ whole; ready = tt }

    pub text_turn : (row' : List ℕ) (t' : code.Screen) → is_some u ≡ true → Stepped list width row t (cluster_on width (part list p.0 (g.part.end.0 - p.0)) g.part.width.0) row' (Some t') → length row' ≡ length row → Texting P width list row₀ t₀ start end text g.part.end g.next row' t'
    text_turn row' t' z s l =
        let m = c.part in
        record {
          part = b.part;
          room = b.room;
          low = omega (arith, b.low, further z);
          place = b.place;
          inside = omega (arith, m.inside, all_length);
          work = after z s ∙ b.work;
          ready = s.ready;
          scalar = c.next;
          long = l ∙ b.long;
        }
