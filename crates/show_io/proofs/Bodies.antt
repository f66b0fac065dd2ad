-- Bodies compared, numbers and URIs.
use mathlib.Core.Path.{◌≡◌, refl, sym, ap, ◌∙◌}
use mathlib.Core.Logic.{◌≢◌, inr}
use Prim.Native.Nat.{ℕ, zero, suc, ◌+◌, ◌-◌, ◌≤◌, ◌<◌}
use native.Mathlib.Omega.{arith}
use mathlib.Core.Bool.{Bool, true, false, true≢false, ◌&&◌}
use mathlib.Core.List.{List, [], ◌∷◌, ◌++◌}
use lib.ListN.{length, take, drop, get_or, drop_of_length-le}
use lib.Dec.{T, eqb, leb, eqb→eq}
use borrow.Author.Tests.{eq-eqb, ne_eqb, leb-true, leb-false}
use Rattle.text.specs.Tests.{and_T, is_true, true_T, cases}
use Rattle.buffer.specs.Sink.{Sink, emit}
use Rattle.buffer.specs.Sink.Laws.{then_emit, emit_none}
use Rattle.screen.specs.Records.{little_endian}
use Rattle.screen.specs.Records.Contracts.{HeadReady}
use Rattle.show_io.specs.Ansi.{alike, style_order, uri, link_order, change}
use Rattle.show_io.specs.Ansi.Contracts.{style_change, link_change, same_body}
use Rattle.show_io.specs.Ansi.Changes.{alike_same}

-- ---- are_alike

pub record Comparing (n from : ℕ) (a b : List ℕ) (i : ℕ) : Type 0 where
  pub within : i ≤ n
  pub work : alike (n - i) (from + i) a b ≡ alike n from a b

pub comparing_begins : (n from : ℕ) (a b : List ℕ) → Comparing n from a b 0
comparing_begins n from a b = record { within = omega arith; work = let e : n - 0 ≡ n = omega arith in let f : from + 0 ≡ from = omega arith in rw (e, f) refl }

alike_none : (n at : ℕ) (a b : List ℕ) → n ≡ 0 → alike n at a b ≡ true
unfolding alike
alike_none n at a b e = rw e refl

alike_next : (n at m : ℕ) (a b : List ℕ) → n ≡ suc m → alike n at a b ≡ eqb (get_or a at 0) (get_or b at 0) && alike m (suc at) a b
unfolding alike
alike_next n at m a b e = rw e refl

module _ (n from : ℕ) (a b : List ℕ) (i : ℕ) (z : Comparing n from a b i) where
  pub comparing_ends : n ≤ i → true ≡ alike n from a b
  comparing_ends h = sym (alike_none (n - i) (from + i) a b (omega arith)) ∙ z.work

  module _ (less : i < n) (x y : ℕ) (is : x ≡ get_or a (from + i) 0) (js : y ≡ get_or b (from + i) 0) where
    next : eqb x y && alike (n - (i + 1)) (suc (from + i)) a b ≡ alike n from a b
    next = rw (is, js) (sym (alike_next (n - i) (from + i) (n - (i + 1)) a b (omega arith)) ∙ z.work)

    pub comparing_differs : (x ≢ y) → false ≡ alike n from a b
    comparing_differs d = rw (ne_eqb x y d) at next

    pub comparing_turn : x ≡ y → Comparing n from a b (i + 1)
    comparing_turn e = record { within = omega arith; work = let f : from + (i + 1) ≡ suc (from + i) = omega arith in rw f (rw (eq-eqb x y e) at next) }

-- ---- are_same

and_true : (p : Bool) → (p && true) ≡ p
and_true true = refl
and_true false = refl

and_and : (p q r : Bool) → ((p && q) && r) ≡ (p && (q && r))
and_and true q r = refl
and_and false q r = refl

pub record Matching (a b : List ℕ) (same : Bool) (i : ℕ) : Type 0 where
  pub within : i ≤ 25
  pub first : length a ≡ 25
  pub second : length b ≡ 25
  pub work : (same && alike (25 - i) i a b) ≡ alike 25 0 a b

module _ (a b : List ℕ) where
  abbrev whole : Bool
  whole = eqb (length a) 25 && eqb (length b) 25

  pub matching_begins : whole ≡ true → Matching a b true 0
  matching_begins e = let p = and_T (eqb (length a) 25) (eqb (length b) 25) (true_T e) in record { within = omega arith; first = eqb→eq (length a) 25 p.0; second = eqb→eq (length b) 25 p.1; work = refl }

  pub matching_other : whole ≡ false → false ≡ same_body a b
  matching_other e = rw e refl

  module _ (same : Bool) (i : ℕ) (w : Matching a b same i) where
    pub matching_first : i < 25 → i < length a
    matching_first h = omega (arith, w.first)

    pub matching_second : i < 25 → i < length b
    matching_second h = omega (arith, w.second)

    pub matching_turn : i < 25 → Matching a b (same && eqb (get_or a i 0) (get_or b i 0)) (i + 1)
    matching_turn h =
        let one : i + 1 ≡ suc i = omega arith in
        record {
          within = omega arith;
          first = w.first;
          second = w.second;
          work = and_and same (eqb (get_or a i 0) (get_or b i 0)) (alike (25 - (i + 1)) (i + 1) a b)
              ∙ ap (λ (k : ℕ). same && (eqb (get_or a i 0) (get_or b i 0) && alike (25 - (i + 1)) k a b)) one
              ∙ ap (λ (x : Bool). same && x) (sym (alike_next (25 - i) i (25 - (i + 1)) a b (omega arith))) ∙ w.work;
        }

    pub matching_ends : 25 ≤ i → same ≡ same_body a b
    matching_ends h =
        rw (eq-eqb (length a) 25 w.first, eq-eqb (length b) 25 w.second)
        (sym (and_true same) ∙ ap (λ (x : Bool). same && x) (sym (alike_none (25 - i) i a b (omega arith))) ∙ w.work)

-- ---- numbers

pub number_ready : (s : List ℕ) (at : ℕ) → at < length s → HeadReady s at 4
number_ready s at h = record { inside = h; sizes = inr refl; small = omega arith }

pub number_past : (s : List ℕ) (at : ℕ) → length s ≤ at → 0 ≡ little_endian (take 4 (drop at s))
unfolding little_endian
number_past s at h = rw (drop_of_length-le s h) refl

-- ---- push_uri

pub uri_pushed : (line body : List ℕ) (p n : ℕ) (s z : Sink ℕ) → p ≡ little_endian (take 4 (drop 16 body)) → n ≡ little_endian (take 4 (drop 20 body)) → z ≡ emit s (take n (drop p line)) → z ≡ emit s (uri line body)
unfolding uri
uri_pushed line body p n s z place size e = e ∙ ap (emit s) (rw (place, size) refl)

-- ---- changes

pub link_pushed : (u : List ℕ) (s a b z : Sink ℕ) → a ≡ emit s (0x1B ∷ 0x5D ∷ 0x38 ∷ 0x3B ∷ 0x3B ∷ []) → b ≡ emit a u → z ≡ emit b (0x1B ∷ 0x5C ∷ []) → z ≡ emit s (link_order u)
unfolding link_order
link_pushed u s a b z e f g = then_emit s a z (0x1B ∷ 0x5D ∷ 0x38 ∷ 0x3B ∷ 0x3B ∷ []) (u ++ (0x1B ∷ 0x5C ∷ [])) e (then_emit a b z u (0x1B ∷ 0x5C ∷ []) f g)

module _ (a b : List ℕ) (x y : Bool) (p : x ≡ alike 16 0 a b) (q : y ≡ alike 1 24 a b) (s : Sink ℕ) where
  pub style_none : (x && y) ≡ true → s ≡ emit s (style_change a b)
  style_none e = rw (← p, ← q, e) (sym (emit_none s))

  pub style_some : (z : Sink ℕ) → (x && y) ≡ false → z ≡ emit s (style_order b) → z ≡ emit s (style_change a b)
  style_some z e w = rw (← p, ← q, e) w

module _ (line a b : List ℕ) (x : Bool) (p : x ≡ alike 8 16 a b) (s : Sink ℕ) where
  pub link_none : x ≡ true → s ≡ emit s (link_change line a b)
  link_none e = rw (← p, e) (sym (emit_none s))

  pub link_some : (z : Sink ℕ) → x ≡ false → z ≡ emit s (link_order (uri line b)) → z ≡ emit s (link_change line a b)
  link_some z e w = rw (← p, e) w

alike_each : (n at : ℕ) (a b : List ℕ) → T (alike n at a b) → (i : ℕ) → at ≤ i → i < at + n → get_or a i 0 ≡ get_or b i 0
unfolding alike
alike_each zero at a b t i h k = absurd (omega arith)
alike_each (suc n) at a b t i h k =
    let p = and_T (eqb (get_or a at 0) (get_or b at 0)) (alike n (suc at) a b) t in
    cases (leb (suc at) i)
    (λ e. alike_each n (suc at) a b p.1 i (leb-true (suc at) i e) (omega arith))
    (λ e. let g = leb-false (suc at) i e in let here : i ≡ at = omega arith in rw here (eqb→eq (get_or a at 0) (get_or b at 0) p.0))

same_bytes_law : (a b : List ℕ) → same_body a b ≡ true → (i : ℕ) → i < 25 → get_or a i 0 ≡ get_or b i 0
same_bytes_law a b e i h = cases (eqb (length a) 25 && eqb (length b) 25)
    (λ w. alike_each 25 0 a b (true_T (rw w at e)) i (omega arith) (omega arith))
    (λ w. absurd (true≢false (sym (rw w at e))))

-- between two cells with the same body
pub change_none : (line a b : List ℕ) (x : Bool) (s : Sink ℕ) → x ≡ same_body a b → x ≡ true → s ≡ emit s (change line a b)
unfolding change
change_none line a b x s p e =
    let f = same_bytes_law a b (sym p ∙ e) in
    let style : alike 16 0 a b ≡ true = is_true _ (alike_same 16 0 a b (λ i h k. f i (omega arith))) in
    let alignment : alike 1 24 a b ≡ true = is_true _ (alike_same 1 24 a b (λ i h k. f i (omega arith))) in
    let link : alike 8 16 a b ≡ true = is_true _ (alike_same 8 16 a b (λ i h k. f i (omega arith))) in
    rw (style, alignment, link) (sym (emit_none s))

pub change_pushed : (line a b : List ℕ) (s m z : Sink ℕ) → m ≡ emit s (style_change a b) → z ≡ emit m (link_change line a b) → z ≡ emit s (change line a b)
unfolding change
change_pushed line a b s m z e f = then_emit s m z (style_change a b) (link_change line a b) e f
