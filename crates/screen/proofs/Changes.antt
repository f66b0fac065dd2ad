-- A change by its kind: what its function makes of the screen.
use mathlib.Core.Path.{◌≡◌, refl, sym, ap, ◌∙◌}
use Prim.Native.Nat.{ℕ, ◌+◌, ◌-◌, ◌≤◌}
use native.Mathlib.Omega.{arith}
use mathlib.Core.Bool.{Bool, true, false, cond, ◌&&◌}
use mathlib.Core.Logic.{◌≢◌}
use mathlib.Core.Option.{Option, none, some}
use mathlib.Core.List.{List}
use lib.ListN.{length, take, drop, length-drop}
use lib.Seq.{length-take-le}
use lib.Dec.{eqb, ltb}
use borrow.Author.Tests.{ne_eqb, le-ltb, eqb-true, ltb-true}
use Rattle.text.specs.Tests.{cases, both_true}
use Rattle.text.specs.Class.{Profile}
use Rattle.screen.specs.WellFormed.{color, fields, body_size, body_sizes, of_kind}
use Rattle.screen.specs.Records.Contracts.{record_of}
use Rattle.screen.specs.Row.{Screen, with_attributes, clear, right, on_record}
use Rattle.screen.specs.Row.Contracts.{part}
use Rattle.screen.specs.Screen.{with_at, with_attributes_at, row_of, screen_at, formed, text_on, record_on, BodyReady, Moved, Stepped}
use Rattle.std.specs.Prelude as std
use Rattle.std.specs.Prelude.{None, Some}
use Rattle.screen.specs.Screen.Laws.{text_record_law, body_record}
use Rattle.screen.specs.declared.records.Head.{Head}
use Rattle.screen.specs.declared.screen.Screen as code
use Rattle.screen.proofs.Heads.{body_is}

-- a screen moved, as a step
moved_step : {list row row' : List ℕ} {width : ℕ} {t r : code.Screen} {f : Screen → Screen} → Moved list width row t f row' r → Stepped list width row t (formed true f) row' (Some r)
unfolding formed
moved_step m = record { same = ap some m.same; ready = m.ready }

-- ---- on_record

module _ (P : Profile) (list : List ℕ) (width : ℕ) (row : List ℕ) (t : code.Screen) (h : Head) (ready : BodyReady list width row t h.start h.len) (whole : h.whole ≡ true) where
  abbrev body : List ℕ
  body = part list h.start h.len

  size : length body ≡ h.len
  size = length-take-le h.len (drop h.start list) (omega (arith, length-drop h.start list, ready.inside))

  -- a step of the kind's own is one of the record
  stepped : (k : ℕ) (f : Option Screen → Option Screen) → h.kind ≡ k → record_on P width (record { whole = true; kind = k; body = body }) (some (screen_at list width row t)) ≡ f (some (screen_at list width row t))
      → (row' : List ℕ) (r : std.Option code.Screen) → Stepped list width row t f row' r → Stepped list width row t (record_on P width (record_of list h)) row' r
  stepped k f e is row' r s = record { same = s.same ∙ sym is ∙ sym (rw (whole, e) refl); ready = s.ready }

  pub record_text : (row' : List ℕ) (r : std.Option code.Screen) → h.kind ≡ 1 → Stepped list width row t (text_on P width (part list h.start (h.start + h.len - h.start))) row' r → Stepped list width row t (record_on P width (record_of list h)) row' r
  record_text row' r e s =
      stepped 1 (text_on P width (part list h.start (h.start + h.len - h.start))) e
      (text_record_law P width body (some (screen_at list width row t)) ∙ ap (λ (l : List ℕ). text_on P width l (some (screen_at list width row t))) (sym (body_is list h.start h.len))) row' r s

  set_attributes : Moved list width row t (λ u. with_attributes u (part list h.start body_size)) row (with_attributes_at t h.start)
  unfolding screen_at row_of with_attributes
  set_attributes =
      let n : eqb h.start 0 ≡ false = ne_eqb h.start 0 (λ z. omega (arith, z, ready.place)) in
      record { same = rw n refl; ready = record { some = ready.ready.some; at = ready.ready.at; end = ready.ready.end; room = ready.ready.room } }

  moved : Moved list width row t (right width) row (with_at t (cond (ltb (t.at + 1) width) (t.at + 1) t.at))
  unfolding screen_at row_of right
  moved =
      let at : ℕ = t.at in
      let low : at ≤ width = ready.ready.at in
      record {
        same = cases (eqb at width)
            (λ e. let k : at ≡ width = eqb-true at width e in rw (le-ltb (at + 1) width (omega arith), e, le-ltb (width - 1 + 1) width (omega (arith, ready.ready.some))) refl)
            (λ e. cases (ltb (at + 1) width) (λ g. let m = ltb-true (at + 1) width g in rw (e, g, ne_eqb (at + 1) width (λ z. omega (arith, z, m))) refl) (λ g. rw (g, e, g) refl));
        ready = record {
          some = ready.ready.some;
          at = cases (ltb (at + 1) width) (λ g. let m = ltb-true (at + 1) width g in rw g (omega arith)) (λ g. rw g low);
          end = ready.ready.end;
          room = ready.ready.room;
        };
      }

  -- ---- kinds 2 to 4

  module _ (ok : Bool) (test : ok ≡ of_kind (body_sizes false) h.kind (take (h.start + h.len - h.start) (drop h.start list))) (other : h.kind ≢ 1) where
    test_body : ok ≡ of_kind (body_sizes false) h.kind body
    test_body = test ∙ ap (of_kind (body_sizes false) h.kind) (body_is list h.start h.len)

    -- a step of a body that is well formed or not is one of the record
    stepped_body : (row' : List ℕ) (r : std.Option code.Screen) → Stepped list width row t (formed ok (λ u. on_record P width u (record { whole = true; kind = h.kind; body = body }))) row' r → Stepped list width row t (record_on P width (record_of list h)) row' r
    stepped_body row' r s =
        stepped h.kind (formed ok (λ u. on_record P width u (record { whole = true; kind = h.kind; body = body }))) refl
        (body_record P width body (some (screen_at list width row t)) h.kind other ∙ ap (λ (x : Bool). formed x (λ u. on_record P width u (record { whole = true; kind = h.kind; body = body })) (some (screen_at list width row t))) (sym test_body)) row' r s

    pub record_malformed : ok ≡ false → Stepped list width row t (record_on P width (record_of list h)) row None
    unfolding formed
    record_malformed e = stepped_body row None record { same = rw e refl; ready = tt }

    module _ (well : ok ≡ true) where
      -- by its kind
      stepped_kind : (k : ℕ) (f : Screen → Screen) → h.kind ≡ k → ((u : Screen) → on_record P width u (record { whole = true; kind = k; body = body }) ≡ f u)
          → (row' : List ℕ) (r : code.Screen) → Moved list width row t f row' r → Stepped list width row t (record_on P width (record_of list h)) row' (Some r)
      unfolding formed
      stepped_kind k f e is row' r m = let s = moved_step m in stepped_body row' (Some r) record { same = s.same ∙ same (some (screen_at list width row t)); ready = s.ready }
        where
          same : (o : Option Screen) → formed true f o ≡ formed ok (λ u. on_record P width u (record { whole = true; kind = h.kind; body = body })) o
          same none = refl
          same (some u) = rw (well, e) (ap some (sym (is u)))

      kind_size : (k n : ℕ) (b : Bool) → h.kind ≡ k → of_kind (body_sizes false) k body ≡ (eqb (length body) n && b) → h.len ≡ n
      kind_size k n b e is = sym size ∙ eqb-true (length body) n (both_true (eqb (length body) n) b (sym is ∙ ap (λ (i : ℕ). of_kind (body_sizes false) i body) (sym e) ∙ sym test_body ∙ well)).0

      pub record_attributes : (r : code.Screen) → h.kind ≡ 2 → r ≡ with_attributes_at t h.start → Stepped list width row t (record_on P width (record_of list h)) row (Some r)
      unfolding on_record of_kind
      record_attributes r e is =
          let n : h.len ≡ body_size = kind_size 2 body_size (fields body) e refl in
          rw is (stepped_kind 2 (λ u. with_attributes u (part list h.start body_size)) e (λ u. ap (λ (i : ℕ). with_attributes u (part list h.start i)) n) row (with_attributes_at t h.start) set_attributes)

      pub record_clear : (row' : List ℕ) (r : code.Screen) → h.kind ≡ 3 → Moved list width row t (λ u. clear width u (part list h.start 4)) row' r → Stepped list width row t (record_on P width (record_of list h)) row' (Some r)
      unfolding on_record of_kind
      record_clear row' r e s =
          let n : h.len ≡ 4 = kind_size 3 4 (color body 0) e refl in
          stepped_kind 3 (λ u. clear width u (part list h.start 4)) e (λ u. ap (λ (i : ℕ). clear width u (part list h.start i)) n) row' r s

      pub record_right : (r : code.Screen) → (h.kind ≢ 2) → (h.kind ≢ 3) → r ≡ with_at t (cond (ltb (t.at + 1) width) (t.at + 1) t.at) → Stepped list width row t (record_on P width (record_of list h)) row (Some r)
      unfolding on_record
      record_right r a b is =
          rw is (stepped_kind h.kind (right width) refl (λ u. rw (ne_eqb h.kind 1 other, ne_eqb h.kind 2 a, ne_eqb h.kind 3 b) refl) row (with_at t (cond (ltb (t.at + 1) width) (t.at + 1) t.at)) moved)
