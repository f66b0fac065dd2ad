-- The changes of a list, record by record.
use mathlib.Core.Path.{◌≡◌, refl, sym, ap, ◌∙◌}
use mathlib.Core.Logic.{inr}
use Prim.Native.Nat.{ℕ, ◌+◌, ◌-◌, ◌<◌, ◌≤◌}
use native.Mathlib.Omega.{arith}
use mathlib.Core.Bool.{true, false}
use mathlib.Core.Option.{Option, some}
use mathlib.Core.List.{List}
use lib.ListN.{length, drop}
use borrow.Author.Tests.{ne_eqb}
use Rattle.text.specs.Class.{Profile}
use Rattle.screen.specs.Records.{Record, records}
use Rattle.screen.specs.Records.Contracts.{HeadReady, head_at, record_of}
use Rattle.screen.specs.Row.{Screen, blank_screen}
use Rattle.std.specs.Prelude as std
use Rattle.std.specs.Prelude.{None, Some}
use Rattle.screen.specs.Screen.{row_of, screen_at, screen_of, record_on, records_on, RowReady, BodyReady, DrawReady, Drawn, Stepped}
use Rattle.screen.specs.Screen.Laws.{records_none, records_step, records_malformed, record_cut}
use Rattle.screen.specs.declared.records.Head.{Head}
use Rattle.screen.specs.declared.screen.Screen as code
use Rattle.screen.proofs.Heads.{records_end, behind, records_from_law, head_inside, head_start, records_next}

-- ---- the loop

pub record Drawing (P : Profile) (list row₀ : List ℕ) (width : ℕ) (row : List ℕ) (t : code.Screen) (at : ℕ) : Type 0 where
  pub inside : at ≤ length list
  pub work : records_on P width (records 4 (drop at list)) (some (screen_at list width row t)) ≡ records_on P width (records 4 list) (some (blank_screen width))
  pub ready : RowReady width row t
  pub long : length row ≡ length row₀

pub draw_begin : (P : Profile) (list row : List ℕ) (width : ℕ) → DrawReady width row → Drawing P list row width row (record { at = 0; attributes = 0; end = 0; color = 0; passed = 0 }) 0
unfolding screen_at row_of blank_screen
draw_begin P list row width ready =
    record {
      inside = omega arith;
      work = ap (records_on P width (records 4 list)) (rw (ne_eqb 0 width (λ z. omega (arith, z, ready.some)), let e : width - 0 ≡ width = omega arith in e) refl);
      ready = record { some = ready.some; at = omega arith; end = omega arith; room = ready.room };
      long = refl;
    }

module _ (P : Profile) (list row₀ : List ℕ) (width : ℕ) (row : List ℕ) (t : code.Screen) (at : ℕ) (b : Drawing P list row₀ width row t at) where
  pub draw_done : length list ≤ at → Drawn P list width row (Some t)
  draw_done h = record { same = sym (ap (λ (rs : List Record). records_on P width rs (some (screen_at list width row t))) (records_end 4 list at h) ∙ records_none P width (some (screen_at list width row t))) ∙ b.work; ready = b.ready }

  module _ (less : at < length list) where
    pub head_ready : HeadReady list at 4
    head_ready = record { inside = less; sizes = inr refl; small = omega arith }

    module _ (h : Head) (is : h ≡ head_at 4 list at) where
      pub draw_cut : h.whole ≡ false → Drawn P list width row None
      draw_cut w =
          let rs : List Record = behind 4 list at less h is in
          record {
            same = sym (sym b.work ∙ ap (λ (rs : List Record). records_on P width rs (some (screen_at list width row t))) (records_from_law 4 list at less h is) ∙ records_step P width (record_of list h) rs (some (screen_at list width row t))
                ∙ ap (records_on P width rs) (record_cut P width (record_of list h) w (some (screen_at list width row t))) ∙ records_malformed P width rs);
            ready = tt;
          }

      module _ (w : h.whole ≡ true) where
        pub next_inside : h.start + h.len ≤ length list
        next_inside = head_inside 4 list at less h is w

        further : at < h.start
        further = omega (arith, head_start 4 list at less h is w)

        pub body_ready : BodyReady list width row t h.start h.len
        body_ready = record { ready = b.ready; place = omega (arith, further); inside = next_inside }

        pub draw_less : length list - (h.start + h.len) < length list - at
        draw_less = omega (arith, less, further)

        -- what is left to do after the record
        after : {row' : List ℕ} {o : std.Option code.Screen} → Stepped list width row t (record_on P width (record_of list h)) row' o → records_on P width (records 4 (drop (h.start + h.len) list)) (screen_of list width row' o) ≡ records_on P width (records 4 list) (some (blank_screen width))
        after s =
            let o : Option Screen = some (screen_at list width row t) in
            ap (records_on P width (records 4 (drop (h.start + h.len) list))) s.same ∙ sym (records_step P width (record_of list h) (records 4 (drop (h.start + h.len) list)) o)
            ∙ ap (λ (rs : List Record). records_on P width rs o) (sym (records_next 4 list at less h is w)) ∙ b.work

        pub draw_broken : (row' : List ℕ) → Stepped list width row t (record_on P width (record_of list h)) row' None → Drawn P list width row' None
        draw_broken row' s = record { same = sym (records_malformed P width (records 4 (drop (h.start + h.len) list))) ∙ after s; ready = tt }

        pub draw_turn : (row' : List ℕ) (t' : code.Screen) → Stepped list width row t (record_on P width (record_of list h)) row' (Some t') → length row' ≡ length row → Drawing P list row₀ width row' t' (h.start + h.len)
        draw_turn row' t' s l = record { inside = next_inside; work = after s; ready = s.ready; long = l ∙ b.long }
