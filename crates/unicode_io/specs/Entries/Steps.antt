-- Entry by entry: the code's state says what the entries say.
use Rattle.std.specs.Prelude.{◌≡◌, ℕ, ◌<◌, ◌≤◌, Bool, true, false, ◌&&◌, ◌||◌, ◌⊎◌, List, [], ◌∷◌, length, ◌==◌, nat_le, slice_index}
use Rattle.std.proofs.Math.Path.{refl, sym}
use Rattle.std.proofs.Common.{◌∙◌, inl, inr, ⊎_elim, arith}
use borrow.Author.Tests.{le-leb, lt-leb, leb-true}
use Rattle.unicode_io.specs.Tests.{never, and_left, and_right, le_or_lt}
use Rattle.unicode_io.specs.Names.{property_of}
use Rattle.unicode_io.specs.Names.Laws.{names_in}
use Rattle.unicode_io.specs.Cells.{bit_of, is_taken, fill, taken}
use Rattle.unicode_io.specs.Reading.{weight_of, fill_entry, taken_by_entry}
use Rattle.unicode_io.specs.Entries.{is_entry, says, meet, meets_any}
use Rattle.unicode_io.specs.Entries.Cell.{covered, Holds, held_past, held_here}
use Rattle.unicode_io.specs.Entries.Fill.{Found, met_at, meets_at, fill_in, fill_out, fill_length, taken_none, taken_some}
use Rattle.unicode_io.specs.Grammar.{Entry}

-- what a line of a file can be
pub record Good (file : ℕ) (e : Entry) : Type 0 where
  pub kinds : (e.kind ≡ 0) ⊎ ((e.kind ≡ 1) ⊎ (e.kind ≡ 2))
  pub rising : is_entry e ≡ true → e.low ≤ e.high
  pub below : is_entry e ≡ true → e.high < 1114112
  pub few : e.name ≤ 22
  pub most : e.name ≤ names_in file

abbrev pub AllGood : ℕ → List Entry → Type 0
AllGood file [] = Unit {0}
AllGood file (e ∷ es) = Good file e × AllGood file es

covered_first : (file p x : ℕ) (f : Entry) (es : List Entry) → says file p x f ≡ true → covered file p (f ∷ es) x ≡ true
unfolding covered
covered_first file p x f es h = rw h refl

covered_later : (file p x : ℕ) (f : Entry) (es : List Entry) → covered file p es x ≡ true → covered file p (f ∷ es) x ≡ true
unfolding covered
covered_later file p x f es h = rw h (or_true (says file p x f))
  where
    or_true : (t : Bool) → t || true ≡ true
    or_true true = refl
    or_true false = refl

module _ (file : ℕ) (e : Entry) (is : is_entry e ≡ true) (re : e.low ≤ e.high) where
  meet_found : (f : Entry) (es : List Entry) → Good file f → meet file e f ≡ true → Found file (property_of file e.name) e (f ∷ es)
  meet_found f es g m =
      let entries = and_left (is_entry e && is_entry f) (property_of file e.name == property_of file f.name && (nat_le e.low f.high && nat_le f.low e.high)) m in
      let rest = and_right (is_entry e && is_entry f) (property_of file e.name == property_of file f.name && (nat_le e.low f.high && nat_le f.low e.high)) m in
      let both = and_right (property_of file e.name == property_of file f.name) (nat_le e.low f.high && nat_le f.low e.high) rest in
      let a : e.low ≤ f.high = leb-true _ _ (and_left (nat_le e.low f.high) (nat_le f.low e.high) both) in
      let b : f.low ≤ e.high = leb-true _ _ (and_right (nat_le e.low f.high) (nat_le f.low e.high) both) in
      let rf : f.low ≤ f.high = g.rising (and_right (is_entry e) (is_entry f) entries) in
      ⊎_elim
      (λ (h : e.low ≤ f.low). record { at = f.low; from = h; to = b; is = covered_first file _ f.low f es (met_at file e is f re g.rising m f.low (h, b) (omega arith, rf)) })
      (λ (h : f.low < e.low). record { at = e.low; from = omega arith; to = re; is = covered_first file _ e.low f es (met_at file e is f re g.rising m e.low (omega arith, re) (omega arith, a)) })
      (le_or_lt e.low f.low)

  meets_found : (es : List Entry) → AllGood file es → meets_any file e es ≡ true → Found file (property_of file e.name) e es
  unfolding meets_any
  meets_found [] g m = absurd (never m)
  meets_found (f ∷ es) g m = by_case (meet file e f) refl m (meets_found es g.1)
    where
      by_case : (t : Bool) → meet file e f ≡ t → t || meets_any file e es ≡ true → (meets_any file e es ≡ true → Found file (property_of file e.name) e es) → Found file (property_of file e.name) e (f ∷ es)
      by_case true q r hyp = meet_found f es g.0 q
      by_case false q r hyp = let k = hyp r in record { at = k.at; from = k.from; to = k.to; is = covered_later file _ k.at f es k.is }

-- the cells hold what the entries es of the file say, above what the files before said
pub record Tells (file : ℕ) (kept : ℕ → ℕ) (es : List Entry) (cells : List ℕ) : Type 0 where
  pub many : length cells ≡ 1114112
  pub each : (x : ℕ) → x < 1114112 → Holds file (kept x) es x (slice_index cells x)

module _ (file : ℕ) (kept : ℕ → ℕ) (room : (x : ℕ) → kept x ≤ 63) (es : List Entry) (good : AllGood file es) (cells : List ℕ) (tells : Tells file kept es cells) (e : Entry) (g : Good file e) where
  -- a line that is no entry
  pub tells_past : is_entry e ≡ false → Tells file kept (e ∷ es) cells
  tells_past n = record { many = tells.many; each = λ x h. held_past file (kept x) (room x) es x (slice_index cells x) (tells.each x h) e (rw n refl) }

  module _ (is : is_entry e ≡ true) where
    re : e.low ≤ e.high
    re = g.rising is

    rl : e.high < length cells
    rl = omega (arith, g.below is, tells.many)

    abbrev bit : ℕ
    bit = bit_of (property_of file e.name)

    pub taken_meets : taken_by_entry file e cells ≡ meets_any file e es
    unfolding taken_by_entry
    taken_meets = by_case (taken bit e.low e.high cells) (meets_any file e es) refl refl
      where
        by_case : (t m : Bool) → taken bit e.low e.high cells ≡ t → meets_any file e es ≡ m → t ≡ m
        by_case true true p q = refl
        by_case false false p q = refl
        by_case true false p q =
            let s = taken_some bit 0 e.low e.high cells re rl p in
            let c : covered file (property_of file e.name) es s.at ≡ true = sym ((tells.each s.at (omega (arith, s.to, g.below is))).bits (property_of file e.name)) ∙ s.is in
            sym (sym q ∙ meets_at file e is es s.at s.from (omega (arith, s.to)) c)
        by_case false true p q =
            let k = meets_found file e is re es good q in
            let a : is_taken bit (slice_index cells k.at) ≡ true = (tells.each k.at (omega (arith, k.to, g.below is))).bits (property_of file e.name) ∙ k.is in
            sym (taken_none bit 0 e.low e.high cells re rl p k.at k.from k.to) ∙ a

    pub tells_entry : taken_by_entry file e cells ≡ false → Tells file kept (e ∷ es) (fill_entry file e cells)
    unfolding taken_by_entry fill_entry
    tells_entry free = record { many = fill_length bit (weight_of file e.name) e.low e.high cells re rl ∙ tells.many; each = λ x h. by_range x h (le_or_lt e.low x) (le_or_lt x e.high) }
      where
        by_range : (x : ℕ) → x < 1114112 → (e.low ≤ x) ⊎ (x < e.low) → (x ≤ e.high) ⊎ (e.high < x) → Holds file (kept x) (e ∷ es) x (slice_index (fill bit (weight_of file e.name) e.low e.high cells) x)
        by_range x h (inl a) (inl b) =
            rw (fill_in bit (weight_of file e.name) e.low e.high cells re rl x a b)
            (held_here file (kept x) (room x) es x (slice_index cells x) (tells.each x h) e g.few is (rw (le-leb e.low x a, le-leb x e.high b) refl) (taken_none bit 0 e.low e.high cells re rl free x a b))
        by_range x h (inr a) b =
            rw (fill_out bit (weight_of file e.name) e.low e.high cells re rl x (inl a))
            (held_past file (kept x) (room x) es x (slice_index cells x) (tells.each x h) e (rw (is, lt-leb e.low x a) refl))
        by_range x h (inl a) (inr b) =
            rw (fill_out bit (weight_of file e.name) e.low e.high cells re rl x (inr b))
            (held_past file (kept x) (room x) es x (slice_index cells x) (tells.each x h) e (rw (is, le-leb e.low x a, lt-leb x e.high b) refl))
