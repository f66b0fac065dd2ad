-- The loop over scalars of class LV, LVT and other.
use mathlib.Core.Path.{◌≡◌, refl, sym, ap, ◌∙◌}
use Prim.Native.Nat.{ℕ, ◌+◌, ◌-◌, ◌/◌, ◌%◌, ◌≤◌, ◌<◌}
use native.Mathlib.Nat.{add-zero}
use native.Mathlib.Omega.{arith}
use mathlib.Core.Bool.{Bool, true, false, cond, or-true, true≢false}
use mathlib.Core.List.{List, [], ◌∷◌}
use mathlib.Core.Logic.{⊎_elim}
use lib.ListN.{length, take, drop, get_or}
use lib.Seq.{get_or-drop, get_or-take}
use lib.Dec.{eqb, ltb}
use borrow.Author.Tests.{eq-eqb, eqb-true, le-ltb, lt-ltb, ne_eqb}
use Rattle.text.specs.Tests.{cases}
use Rattle.text.specs.Utf8.{ascii, decode, run_of}
use Rattle.text.specs.Utf8.Laws.{bytes_one}
use Rattle.text.specs.Utf8.Runs.{front_bytes}
use Rattle.text.specs.Class.Ascii.{syllable_or_other}
use Rattle.text.specs.Cluster.{class_of}
use Rattle.text.specs.Class.Code.{profile_of}
use Rattle.text.specs.Utf8.Code.{size}
use Rattle.text.specs.Utf8.Code.Laws.{none_past, size_cons, size_nil}
use Rattle.text.specs.Scalar.{packed_at}
use Rattle.text.specs.Scalar.Laws.{packed_none, NoScalar, PackedScalar, packed_scalar, packed_view}
use Rattle.text.specs.TextParts.{text_at}
use Rattle.text.specs.TextParts.Laws.{ascii_at}
use Rattle.text.specs.declared.class.Profile as code
use Rattle.spans.specs.Reader.{SyllablesTo, leaves_syllable, run_at, syllables_size}
use Rattle.spans.proofs.PlainClusters.{syllables_to}

module _ (p : code.Profile) (t : List ℕ) (at : ℕ) where
  -- a damaged byte ends the run
  abbrev pub damaged : Bool
  damaged = ltb (run_at t at) (length t)

  abbrev pub size_at : ℕ → ℕ
  size_at i = syllables_size (profile_of p) damaged (text_at t i)

  abbrev pub left_at : ℕ → Bool
  left_at i = leaves_syllable (profile_of p) damaged (text_at t i)

  -- what is counted with a scalar from i to next ahead, or none
  unfoldable pub ahead_size : ℕ → ℕ → ℕ
  ahead_size i next = cond (eqb i next) (next + size_at next) (i + cond (left_at next) (next - i + size_at next) 0)

  pub record SyllablesLoop (i next : ℕ) : Type 0 where
    pub begin : at ≤ length t
    pub run : run_at t next ≡ run_at t at
    pub low : i ≤ next
    pub inside : next ≤ length t
    pub work : ahead_size i next ≡ at + size_at at

  pub syllables_begin : at ≤ length t → SyllablesLoop at at
  unfolding ahead_size
  syllables_begin h = record { begin = h; run = refl; low = omega arith; inside = h; work = rw (eq-eqb at at refl) refl }

  module _ (i next : ℕ) (w : SyllablesLoop i next) where
    ends_at : (r : ℕ) → r ≡ at + size_at at → SyllablesTo (profile_of p) t at r
    ends_at r e = syllables_to p t at r w.begin e

    count_on : left_at next ≡ true → next + size_at next ≡ at + size_at at
    unfolding ahead_size
    count_on o =
        cases (eqb i next)
        (λ e. rw e at w.work)
        (λ e. let k : i + (next - i + size_at next) ≡ at + size_at at = rw (e, o) at w.work in omega (arith, k, w.low))

    count_stop : left_at next ≡ false → size_at next ≡ 0 → i ≡ at + size_at at
    unfolding ahead_size
    count_stop o z =
        cases (eqb i next)
        (λ e. let k : next + size_at next ≡ at + size_at at = rw e at w.work in omega (arith, k, z, eqb-true i next e))
        (λ e. let k : i + 0 ≡ at + size_at at = rw (e, o) at w.work in omega (arith, k))

    pub syllables_past : length t ≤ next → SyllablesTo (profile_of p) t at next
    unfolding leaves_syllable syllables_size
    syllables_past h =
        let n : text_at t next ≡ [] = none_past t next h in
        let d : damaged ≡ false = le-ltb (run_at t at) (length t) (omega (arith, h, w.run, w.inside, ap size n, size_nil)) in
        let o : left_at next ≡ true = rw (n, d) refl in
        let z : size_at next ≡ 0 = rw n refl in
        ends_at next (omega (arith, count_on o, z))

    module _ (h : next < length t) (u : ℕ) (f : u ≡ packed_at (profile_of p) t next) (x : Bool) (g : x ≡ syllable_or_other (u / 8 % 16)) where
      module _ (q : x ≡ true) where
        syllable : PackedScalar (profile_of p) t next u
        syllable = packed_scalar (profile_of p) t next u f (λ z. true≢false (sym q ∙ rw z at g))

        class_is : syllable_or_other (class_of (profile_of p) syllable.c) ≡ true
        class_is = rw syllable.class (sym g ∙ q)

        pub syllables_less : length t - (next + u % 8) < length t - next
        syllables_less = omega (arith, syllable.some, syllable.room)

        pub syllables_more : SyllablesLoop next (next + u % 8)
        unfolding ahead_size leaves_syllable syllables_size
        syllables_more =
            let o = syllable in
            let e : ℕ = next + u % 8 in
            let l : left_at next ≡ true = rw (o.run, class_is) refl in
            let n : e - next ≡ length o.c.bytes = omega (arith, o.len) in
            let m : size_at next ≡ cond (left_at e) (e - next + size_at e) 0 = rw (o.run, class_is, n) refl in
            record {
              begin = w.begin;
              run = omega (arith, w.run, o.len, ap size o.run, size_cons o.c (text_at t (next + u % 8)));
              low = omega arith;
              inside = o.room;
              work = rw (ne_eqb next e (λ q. omega (arith, o.some, q)), ← m) (count_on l);
            }

      module _ (q : x ≡ false) (b : ℕ) (e : b ≡ get_or t next 0) where
        -- the scalar there is of another class, or none
        class_other : (s : PackedScalar (profile_of p) t next u) → syllable_or_other (class_of (profile_of p) s.c) ≡ false
        class_other s = rw s.class (sym g ∙ q)

        other_size : size_at next ≡ 0
        unfolding syllables_size
        other_size = ⊎_elim
            (λ (n : NoScalar t next u). rw n.run refl)
            (λ (s : PackedScalar (profile_of p) t next u). rw (s.run, class_other s) refl)
            (packed_view (profile_of p) t next u h f)

        first_is : (s : PackedScalar (profile_of p) t next u) → get_or s.c.bytes 0 0 ≡ b
        first_is s =
            let y : take (length s.c.bytes) (drop next t) ≡ s.c.bytes = rw (bytes_one s.c) at (front_bytes (drop next t) (s.c ∷ []) (text_at t (next + u % 8)) s.run) in
            ap (λ (l : List ℕ). get_or l 0 0) (sym y) ∙ get_or-take (length s.c.bytes) (drop next t) 0 0 (omega (arith, s.len, s.some))
            ∙ get_or-drop next t 0 0 ∙ ap (λ (i : ℕ). get_or t i 0) (add-zero next) ∙ sym e

        pub syllables_byte : b < 0x80 → SyllablesTo (profile_of p) t at next
        unfolding leaves_syllable
        syllables_byte l =
            let o : left_at next ≡ true = rw (ascii_at t next b h e l, lt-ltb b 0x80 l) (or-true (syllable_or_other (class_of (profile_of p) (ascii b)))) in
            ends_at next (omega (arith, count_on o, other_size))

        left_high : 0x80 ≤ b → left_at next ≡ false
        unfolding leaves_syllable
        left_high l = ⊎_elim
            (λ (n : NoScalar t next u).
            let d : damaged ≡ true = lt-ltb (run_at t at) (length t) (omega (arith, h, w.run, ap size n.run, size_nil)) in
            rw (n.run, d) refl)
            (λ (s : PackedScalar (profile_of p) t next u). rw (s.run, class_other s, first_is s, le-ltb b 0x80 l) refl)
            (packed_view (profile_of p) t next u h f)

        pub syllables_last : 0x80 ≤ b → SyllablesTo (profile_of p) t at i
        syllables_last l = ends_at i (count_stop (left_high l) other_size)

    -- no scalar stands there: a damaged byte
    pub syllables_none : next < length t → 0 ≡ packed_at (profile_of p) t next → SyllablesTo (profile_of p) t at i
    unfolding leaves_syllable syllables_size
    syllables_none h e =
        let n : run_of (decode (drop next t)) ≡ [] = packed_none (profile_of p) t next 0 e refl in
        let d : damaged ≡ true = lt-ltb (run_at t at) (length t) (omega (arith, h, w.run, ap size n, size_nil)) in
        let z : size_at next ≡ 0 = rw n refl in
        let l : left_at next ≡ false = rw (n, d) refl in
        ends_at i (count_stop l z)
