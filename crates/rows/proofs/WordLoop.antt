-- A word with its separator, as a part of a text: the loop that finds it, scalar by scalar or byte by byte.
use mathlib.Core.Path.{◌≡◌, refl, sym, ◌∙◌}
use Prim.Native.Nat.{ℕ, ◌+◌, ◌-◌, ◌*◌, ◌≤◌, ◌<◌}
use native.Mathlib.Nat.{add-zero, add_assoc}
use native.Mathlib.Omega.{arith}
use mathlib.Core.Bool.{Bool, ◌&&◌, false, not, true}
use mathlib.Core.List.{List, []}
use Rattle.std.proofs.Common.{Some, None}
use lib.ListN.{length, drop, get_or}
use lib.Dec.{eqb, leb, leb→le, eqb→eq}
use borrow.Author.Tests.{le-leb}
use Rattle.text.specs.Tests.{and_T, true_T, is_true}
use Rattle.text.specs.Utf8.{decode}
use Rattle.text.specs.Class.{Profile}
use Rattle.text.specs.Width.{width_of}
use Rattle.text.specs.Utf8.Code.{size, first_sequence, sequence_of}
use Rattle.text.specs.Class.Code.{profile_of}
use Rattle.text.specs.Utf8.Code.Laws.{ScalarAt, some_at, nothing_at, none_past, size_nil, size_cons}
use Rattle.text.specs.Width.Laws.{width_nil, width_cons, width_two}
use Rattle.text.specs.declared.BytePlace.{BytePlace}
use Rattle.text.specs.declared.Column.{Column}
use Rattle.text.specs.TextParts.{place, column, text_at}
use Rattle.text.specs.declared.utf8.Sequence.{Sequence}
use Rattle.text.specs.declared.class.Profile as code
use Rattle.rows.specs.Words.Laws.{belongs, still_of, still_none, still_on, still_ends, still_hyphen, still_turns}
use Rattle.rows.specs.Words.Contracts.{byte_belongs, WordAt}
use Rattle.text.specs.Utf8.Code.FirstSequence.{ascii_some}
use Rattle.text.specs.Class.Ranges.{printable_no_space, space_is}
use Rattle.text.specs.Class.Document01.{printable_width}

-- a byte of one column
record Narrow (sep : Bool) (b : ℕ) : Type 0 where
  low : 0x20 ≤ b
  high : b ≤ 0x7E
  fits : belongs sep b ≡ true

narrow : (sep : Bool) (b : ℕ) → byte_belongs sep b ≡ true → Narrow sep b
unfolding belongs
narrow true b e = let i : b ≡ 0x20 = eqb→eq b 0x20 (true_T e) in record { low = omega arith; high = omega arith; fits = rw i space_is }
narrow false b e =
    let p = and_T (leb 0x21 b && leb b 0x7E) (not (eqb b 0x2D)) (true_T e) in
    let q = and_T (leb 0x21 b) (leb b 0x7E) p.0 in
    let lo : 0x21 ≤ b = leb→le _ _ q.0 in
    let hi : b ≤ 0x7E = leb→le _ _ q.1 in
    record { low = omega arith; high = hi; fits = rw (printable_no_space b lo hi, is_true (not (eqb b 0x2D)) p.1) refl }

-- ---- the loop over a word and its separator

pub record WordLoop (P : Profile) (s : List ℕ) (at p : BytePlace) (w : Column) (sep : Bool) : Type 0 where
  pub inside : p.0 ≤ length s
  pub from : at.0 ≤ p.0
  pub end : p.0 + size (still_of sep (text_at s p.0)) ≡ at.0 + size (still_of false (text_at s at.0))
  pub width : w.0 + width_of P (still_of sep (text_at s p.0)) ≡ width_of P (still_of false (text_at s at.0))
  pub small : w.0 ≤ 2 * (p.0 - at.0)

pub word_begins : (P : Profile) (s : List ℕ) (at : BytePlace) → at.0 < length s → WordLoop P s at at (column 0) false
word_begins P s at h = record { inside = omega arith; from = omega arith; end = refl; width = omega arith; small = omega arith }

module _ (P : Profile) (s : List ℕ) (at p : BytePlace) (w : Column) (sep : Bool) (k : WordLoop P s at p w sep) where
  word_stops : still_of sep (text_at s p.0) ≡ [] → WordAt P s at.0 (record { end = p; width = w })
  unfolding still_of
  word_stops e =
      record {
        end = sym (add-zero p.0) ∙ (rw (e, size_nil) at k.end);
        width = sym (add-zero w.0) ∙ (rw (e, width_nil P) at k.width);
        inside = k.inside;
        small = k.small;
      }

  pub word_ends : length s ≤ p.0 → WordAt P s at.0 (record { end = p; width = w })
  word_ends h = word_stops (rw (none_past s p.0 h) (still_none sep))

  pub word_damaged : (here : p.0 < length s) → None ≡ first_sequence (decode (drop p.0 s)) → WordAt P s at.0 (record { end = p; width = w })
  word_damaged here read = word_stops (rw (nothing_at s p.0 here _ read refl) (still_none sep))

  module _ (u : Sequence) (here : p.0 < length s) (read : Some u ≡ first_sequence (decode (drop p.0 s))) (b : Bool) (e : b ≡ belongs sep u.code) (f : b ≡ false) where
    abbrev a : ScalarAt s p.0 u
    a = some_at s p.0 here _ read u refl

    pub word_apart : sep ≡ true → WordAt P s at.0 (record { end = p; width = w })
    word_apart t = word_stops (rw (a.run, t) (still_ends a.scalar (text_at s (p.0 + u.len)) (rw a.code (rw t at (sym e ∙ f)))))

    pub word_turns : sep ≡ false → (u.code ≡ 0x2D → ⊥) → WordLoop P s at p w true
    word_turns t h =
        let q : still_of true (text_at s p.0) ≡ still_of sep (text_at s p.0) = rw (a.run, t) (sym (still_turns a.scalar (text_at s (p.0 + u.len)) (rw a.code (rw t at (sym e ∙ f))) (λ y. h (sym a.code ∙ y)))) in
        record { inside = k.inside; from = k.from; end = rw q k.end; width = rw q k.width; small = k.small }

module _ (f : code.Profile) (s : List ℕ) (at p : BytePlace) (w : Column) (sep : Bool) (u : Sequence) (k : WordLoop (profile_of f) s at p w sep) (here : p.0 < length s)
    (read : Some u ≡ first_sequence (decode (drop p.0 s))) where
  abbrev there : ScalarAt s p.0 u
  there = some_at s p.0 here _ read u refl

  pub scalar_fits : p.0 + u.len ≤ length s
  scalar_fits = there.fits

  pub scalar_some : 1 ≤ u.len
  scalar_some = there.some

  pub word_on : (b : Bool) (x : ℕ) → b ≡ belongs sep u.code → b ≡ true → x ≡ (profile_of f).width u.code
      → WordLoop (profile_of f) s at (place (p.0 + u.len)) (column (w.0 + x)) sep
  word_on b x e t v =
      let a = there in
      let q = still_on a.scalar (text_at s (p.0 + u.len)) sep (rw a.code (sym e ∙ t)) in
      record {
        inside = a.fits;
        from = omega (arith, k.from);
        end = add_assoc p.0 u.len _ ∙ (rw (a.run, q, size_cons a.scalar, a.len) at k.end);
        width = rw v (add_assoc w.0 ((profile_of f).width u.code) _ ∙ (rw (a.run, q, width_cons (profile_of f) a.scalar, a.code) at k.width));
        small = omega (arith, k.small, k.from, a.some, width_two f u.code x v);
      }

  -- the word ends in a `-`
  pub word_hyphen : sep ≡ false → u.code ≡ 0x2D → WordAt (profile_of f) s at.0 (record { end = place (p.0 + u.len); width = column (w.0 + 1) })
  unfolding still_of
  word_hyphen t h =
      let a = there in
      let q = still_hyphen a.scalar (text_at s (p.0 + u.len)) (a.code ∙ h) in
      let v : (profile_of f).width a.scalar.code ≡ 1 = rw (a.code ∙ h) (sym (printable_width f 0x2D true refl refl)) in
      record {
        end = omega (arith, rw (t, a.run, q) at k.end, size_cons a.scalar [], size_nil, a.len);
        width = omega (arith, rw (t, a.run, q) at k.width, width_cons (profile_of f) a.scalar [], width_nil (profile_of f), v);
        inside = a.fits;
        small = omega (arith, k.small, k.from, a.some);
      }

pub byte_on : (f : code.Profile) (s : List ℕ) (at p : BytePlace) (w : Column) (sep : Bool) (b : ℕ) (r : Bool) → WordLoop (profile_of f) s at p w sep → p.0 < length s
    → b ≡ get_or s p.0 0 → r ≡ byte_belongs sep b → r ≡ true → WordLoop (profile_of f) s at (place (p.0 + 1)) (column (w.0 + 1)) sep
byte_on f s at p w sep b r k here e h t =
    let n = narrow sep b (sym h ∙ t) in
    word_on f s at p w sep (sequence_of b 1) k here (ascii_some s p.0 b here e (omega (arith, n.high))) true 1 (sym n.fits) refl (printable_width f b true (sym (rw (le-leb 0x20 b n.low, le-leb b 0x7E n.high) refl)) refl)
