-- The table of stages reads a line as the grammar says.
use Rattle.std.specs.Prelude.{◌≡◌, ℕ, suc, ◌+◌, ◌*◌, ◌%◌, ◌^◌, ◌<◌, ◌≤◌, Bool, true, false, cond, ◌&&◌, ◌||◌, ltb, leb, List, [], ◌∷◌, ◌++◌, length, take, replicate, ◌==◌, ◌≢◌, nat_eq, nat_le, nat_lt, slice_index, slice_set}
use Rattle.std.proofs.Math.Path.{refl, sym, ap, ap₂}
use Rattle.std.proofs.Common.{subst, ◌∙◌, add-one, arith, append-nil, append_assoc, length-set, take-suc-set}
use Rattle.std.proofs.Math.Nat.{pow-zero, pow-succ', pow-le-pow_right}
use Rattle.std.proofs.Math.ListN.{length-append}
use borrow.Author.Tests.{eqb-true, ltb-true, ltb-false, leb-true, leb-false, lt-ltb, le-ltb, le-leb, ne_eqb}
use Rattle.unicode_io.specs.Tests.{never, and_left, and_right}
use Rattle.unicode_io.specs.Names.{name_number}
use Rattle.unicode_io.specs.Names.Laws.{long_none, spaced_none, ended_none, empty_none}
use Rattle.unicode_io.specs.Line.{kind_of, stages, next_stage, with_digit, is_scalar, empty, at_stage, in_comment, with_low, with_high, with_name, in_name, with_byte, line_from, ranged, entry_of}
use Rattle.unicode_io.specs.Grammar.{Entry, is_hex, hex_value, other_form, entry, uncommented, unspaced, digits_of, after_digits, value_from, scalar_of, is_number, Range, one, range, range_entry, space_before, trimmed, named, after_high, after_dot, after_low, content, line_of}
use Rattle.unicode_io.specs.declared.line.Number.{Number}
use Rattle.unicode_io.specs.declared.line.Line.{Line}

-- ---- kinds of bytes

-- a byte that is no space, `.` or `;`
record Plain (b : ℕ) (hex : Bool) : Type 0 where
  space : nat_eq b 0x20 ≡ false
  dot : nat_eq b 0x2E ≡ false
  semi : nat_eq b 0x3B ≡ false
  digit : is_hex b ≡ hex
  kind : kind_of b ≡ cond hex 1 4

by_byte : (P : ℕ → Type 0) → P 0x20 → P 0x2E → P 0x3B → ((b : ℕ) (hex : Bool) → Plain b hex → P b) → (b : ℕ) → P b
by_byte P p q r f b = by_cases (b == 0x20) (b == 0x2E) (b == 0x3B) (is_hex b) refl refl refl refl
  where
    by_cases : (s t u h : Bool) → (b == 0x20) ≡ s → (b == 0x2E) ≡ t → (b == 0x3B) ≡ u → is_hex b ≡ h → P b
    by_cases true t u h e f' g i = subst P (sym (eqb-true b 0x20 e)) p
    by_cases false true u h e f' g i = subst P (sym (eqb-true b 0x2E f')) q
    by_cases false false true h e f' g i = subst P (sym (eqb-true b 0x3B g)) r
    by_cases false false false true e f' g i = f b true (record { space = e; dot = f'; semi = g; digit = i; kind = rw (e, i) refl })
    by_cases false false false false e f' g i = f b false (record { space = e; dot = f'; semi = g; digit = i; kind = rw (e, i, f', g) refl })

next_plain : (k b : ℕ) (hex : Bool) → Plain b hex → next_stage k b ≡ slice_index stages (k * 5 + cond hex 1 4)
next_plain k b hex p = ap (λ (j : ℕ). slice_index stages (k * 5 + j)) p.kind

next_same : (k n b : ℕ) (hex : Bool) → Plain b hex → slice_index stages (k * 5 + 1) ≡ n → slice_index stages (k * 5 + 4) ≡ n → next_stage k b ≡ n
next_same k n b true p e f = next_plain k b true p ∙ e
next_same k n b false p e f = next_plain k b false p ∙ f

-- ---- bytes that begin no comment

abbrev at : ℕ → Number → Number → List ℕ → ℕ → Line
at stage low high name count = record { stage = stage; comment = false; low = low; high = high; name = name; count = count }

abbrev staged : Line → ℕ → ℕ → Line
staged l b s = cond (s == 1) (with_low l b) (cond (s == 5) (with_high l b) (cond (in_name l.stage s b) (with_name l s b) (at_stage l s)))

abbrev plain_byte : Line → ℕ → Line
plain_byte l b = staged l b (next_stage l.stage b)

abbrev plain_from : Line → List ℕ → Line
plain_from l [] = l
plain_from l (b ∷ s) = plain_from (plain_byte l b) s

abbrev zero_number : Number
zero_number = record { value = 0; digits = 0 }

module _ (file : ℕ) where
  abbrev read : Line → List ℕ → Entry
  read l s = entry_of file (plain_from l s)

  -- the byte leads to stage n
  read_on : (l : Line) (b n : ℕ) (s : List ℕ) → next_stage l.stage b ≡ n → read l (b ∷ s) ≡ read (staged l b n) s
  read_on l b n s e = ap (λ (k : ℕ). read (staged l b k) s) e

  dead : (s : List ℕ) (lo hi : Number) (nm : List ℕ) (c : ℕ) → read (at 10 lo hi nm c) s ≡ other_form
  unfolding entry_of
  dead [] lo hi nm c = refl
  dead (b ∷ s) lo hi nm c =
      by_byte (λ (x : ℕ). read (at 10 lo hi nm c) (x ∷ s) ≡ other_form) (dead s lo hi nm c) (dead s lo hi nm c) (dead s lo hi nm c)
      (λ x hex p. read_on (at 10 lo hi nm c) x 10 s (next_same 10 10 x hex p refl refl) ∙ dead s lo hi nm c) b

-- ---- spaces around the parts of a name

unspaced_plain : (b : ℕ) (s : List ℕ) → (b == 0x20) ≡ false → unspaced (b ∷ s) ≡ b ∷ s
unfolding unspaced
unspaced_plain b s e = rw e refl

space_plain : (b : ℕ) (s : List ℕ) → (b == 0x20) ≡ false → (b == 0x3B) ≡ false → space_before (b ∷ s) ≡ 0x20 ∷ b ∷ s
unfolding space_before
space_plain b s e f = rw (e, f) refl

trimmed_plain : (b : ℕ) (s : List ℕ) → (b == 0x20) ≡ false → (b == 0x3B) ≡ false → trimmed (b ∷ s) ≡ b ∷ trimmed s
unfolding trimmed
trimmed_plain b s e f = rw (e, f) refl

trimmed_space : (s : List ℕ) → trimmed (0x20 ∷ s) ≡ space_before (trimmed s)
unfolding trimmed
trimmed_space s = refl

unspaced_space : (s : List ℕ) → unspaced (space_before s) ≡ unspaced s
unfolding unspaced space_before
unspaced_space [] = refl
unspaced_space (b ∷ s) = by_cases (b == 0x20) (b == 0x3B) refl
  where
    by_cases : (t u : Bool) → (b == 0x20) ≡ t → unspaced (cond (t || u) (b ∷ s) (0x20 ∷ b ∷ s)) ≡ unspaced (b ∷ s)
    by_cases true u e = refl
    by_cases false true e = refl
    by_cases false false e = refl

space_space : (s : List ℕ) → space_before (space_before s) ≡ space_before s
unfolding space_before
space_space [] = refl
space_space (b ∷ s) = by_cases (b == 0x20 || b == 0x3B) refl
  where
    by_cases : (t : Bool) → (b == 0x20 || b == 0x3B) ≡ t → space_before (cond t (b ∷ s) (0x20 ∷ b ∷ s)) ≡ cond t (b ∷ s) (0x20 ∷ b ∷ s)
    by_cases true e = rw e refl
    by_cases false e = refl

-- ---- the name

-- c bytes of the name are kept
record Word (w nm : List ℕ) (c : ℕ) : Type 0 where
  holds : take c nm ≡ w
  many : length w ≡ c
  room : length nm ≡ 32

word_more : (w nm : List ℕ) (c b : ℕ) → Word w nm c → c < 32 → Word (w ++ b ∷ []) (slice_set nm c b) (c + 1)
word_more w nm c b h l = record {
  holds = ap (λ (n : ℕ). take n (slice_set nm c b)) (add-one c) ∙ take-suc-set nm c b (omega (arith, h.room)) ∙ ap (λ (x : List ℕ). x ++ b ∷ []) h.holds;
  many = omega (arith, length-append w (b ∷ []), h.many);
  room = length-set nm c b ∙ h.room;
}

module _ (file : ℕ) (lo hi : Number) where
  abbrev called : List ℕ → Entry
  called w = cond (name_number file w == 0) other_form (ranged lo hi (name_number file w))

  uncalled : (w : List ℕ) → name_number file w ≡ 0 → called w ≡ other_form
  uncalled w e = rw e refl

  record Tail (s : List ℕ) : Type 0 where
    after : (w nm : List ℕ) (c : ℕ) → Word w nm c → name_number file w ≡ 0 → read file (at 7 lo hi nm c) s ≡ called (w ++ unspaced (trimmed s))
    word : (w nm : List ℕ) (c : ℕ) → Word w nm c → read file (at 8 lo hi nm c) s ≡ called (w ++ trimmed s)
    gap : (w nm : List ℕ) (c : ℕ) → Word w nm c → read file (at 9 lo hi nm c) s ≡ called (w ++ trimmed (0x20 ∷ s))

  tail_none : Tail []
  unfolding entry_of trimmed unspaced space_before
  tail_none = record {
    after = λ w nm c h n. sym (uncalled (w ++ []) (ap (name_number file) (append-nil w) ∙ n));
    word = λ w nm c h. ap called (h.holds ∙ sym (append-nil w));
    gap = λ w nm c h. ap called (h.holds ∙ sym (append-nil w));
  }

  module _ (s : List ℕ) (t : Tail s) where
    -- the name gets one byte more, if there is room
    more_by : (k n b : ℕ) (w nm x : List ℕ) (c : ℕ) (o : Bool) → nat_lt c 32 ≡ o → Word w nm c → (Word (w ++ b ∷ []) (slice_set nm c b) (c + 1) → read file (at n lo hi (slice_set nm c b) (c + 1)) s ≡ called ((w ++ b ∷ []) ++ x))
        → read file (cond o (at n lo hi (slice_set nm c b) (c + 1)) (at 10 lo hi nm c)) s ≡ called (w ++ b ∷ x)
    more_by k n b w nm x c true e h f = f (word_more w nm c b h (ltb-true c 32 e)) ∙ ap called (append_assoc w (b ∷ []) x)
    more_by k n b w nm x c false e h f = dead file s lo hi nm c ∙ sym (uncalled (w ++ b ∷ x) (long_none file (w ++ b ∷ x) (omega (arith, length-append w (b ∷ x), h.many, ltb-false c 32 e))))

    more_word : (k b : ℕ) (w nm : List ℕ) (c : ℕ) → Word w nm c → read file (with_name (at k lo hi nm c) 8 b) s ≡ called (w ++ b ∷ trimmed s)
    more_word k b w nm c h = more_by k 8 b w nm (trimmed s) c (nat_lt c 32) refl h (λ g. t.word (w ++ b ∷ []) (slice_set nm c b) (c + 1) g)

    more_semi : (k : ℕ) (w nm : List ℕ) (c : ℕ) → Word w nm c → read file (with_name (at k lo hi nm c) 7 0x3B) s ≡ called (w ++ 0x3B ∷ unspaced (trimmed s))
    more_semi k w nm c h = more_by k 7 0x3B w nm (unspaced (trimmed s)) c (nat_lt c 32) refl h (λ g. t.after (w ++ 0x3B ∷ []) (slice_set nm c 0x3B) (c + 1) g (ended_none file w))

    tail_space : Tail (0x20 ∷ s)
    unfolding trimmed
    tail_space = record {
      after = λ w nm c h n. t.after w nm c h n ∙ ap (λ (x : List ℕ). called (w ++ x)) (sym (unspaced_space (trimmed s)));
      word = λ w nm c h. t.gap w nm c h;
      gap = λ w nm c h. t.gap w nm c h ∙ ap (λ (x : List ℕ). called (w ++ x)) (sym (space_space (trimmed s)));
    }

    tail_semi : Tail (0x3B ∷ s)
    unfolding trimmed unspaced space_before
    tail_semi = record {
      after = λ w nm c h n. more_semi 7 w nm c h;
      word = λ w nm c h. more_semi 8 w nm c h;
      gap = λ w nm c h. more_semi 9 w nm c h;
    }

    tail_plain : (b : ℕ) → (b == 0x20) ≡ false → (b == 0x3B) ≡ false → next_stage 7 b ≡ 8 → next_stage 8 b ≡ 8 → next_stage 9 b ≡ 10 → Tail (b ∷ s)
    tail_plain b e f seven eight nine =
        let is : trimmed (b ∷ s) ≡ b ∷ trimmed s = trimmed_plain b s e f in
        let front : unspaced (trimmed (b ∷ s)) ≡ b ∷ trimmed s = ap unspaced is ∙ unspaced_plain b (trimmed s) e in
        let spaced : trimmed (0x20 ∷ b ∷ s) ≡ 0x20 ∷ b ∷ trimmed s = trimmed_space (b ∷ s) ∙ ap space_before is ∙ space_plain b (trimmed s) e f in
        record {
          after = λ w nm c h n. read_on file (at 7 lo hi nm c) b 8 s seven ∙ more_word 7 b w nm c h ∙ ap (λ (x : List ℕ). called (w ++ x)) (sym front);
          word = λ w nm c h. read_on file (at 8 lo hi nm c) b 8 s eight ∙ more_word 8 b w nm c h ∙ ap (λ (x : List ℕ). called (w ++ x)) (sym is);
          gap = λ w nm c h. read_on file (at 9 lo hi nm c) b 10 s nine ∙ dead file s lo hi nm c ∙ sym (uncalled (w ++ 0x20 ∷ b ∷ trimmed s) (spaced_none file w (b ∷ trimmed s))) ∙ ap (λ (x : List ℕ). called (w ++ x)) (sym spaced);
        }

  tail : (s : List ℕ) → Tail s
  tail [] = tail_none
  tail (b ∷ s) =
      by_byte (λ (x : ℕ). Tail (x ∷ s)) (tail_space s (tail s)) (tail_plain s (tail s) 0x2E refl refl refl refl refl) (tail_semi s (tail s))
      (λ x hex p. tail_plain s (tail s) x p.space p.semi (next_same 7 8 x hex p refl refl) (next_same 8 8 x hex p refl refl) (next_same 9 10 x hex p refl refl)) b

-- ---- numbers: seven digits are too many, and no more are kept

hex_value_law : (b : ℕ) → is_hex b ≡ true → hex_value b ≤ 15
hex_value_law b h = by_cases (nat_le 0x30 b) (nat_le b 0x39) (nat_le 0x41 b) (nat_le b 0x46) refl refl refl refl h
  where
    by_cases : (s t u v : Bool) → nat_le 0x30 b ≡ s → nat_le b 0x39 ≡ t → nat_le 0x41 b ≡ u → nat_le b 0x46 ≡ v → (s && t) || (u && v) ≡ true → cond t (b % 16) (b % 16 + 9) ≤ 15
    by_cases s true u v p q r x e = omega arith
    by_cases s false true true p q r x e = let low = leb-true 0x41 b r in let high = leb-true b 0x46 x in omega arith
    by_cases true false true false p q r x e = absurd (never e)
    by_cases false false true false p q r x e = absurd (never e)
    by_cases true false false v p q r x e = absurd (never e)
    by_cases false false false v p q r x e = absurd (never e)

record Digits (ds : List ℕ) (n : Number) : Type 0 where
  few : length ds ≤ 6 → n.digits ≡ length ds
  many : 7 ≤ length ds → n.digits ≡ 7
  small : length ds ≤ 7 → n.value < 16 ^ length ds
  value : length ds ≤ 7 → n.value ≡ scalar_of ds

no_digits : Digits [] zero_number
unfolding value_from
no_digits = record { few = λ h. refl; many = λ h. absurd (omega arith); small = λ h. omega (arith, pow-zero 16); value = λ h. refl }

value_snoc : (ds : List ℕ) (v b : ℕ) → value_from v (ds ++ b ∷ []) ≡ value_from v ds * 16 + hex_value b
unfolding value_from
value_snoc [] v b = refl
value_snoc (d ∷ ds) v b = value_snoc ds (v * 16 + hex_value d) b

module _ (ds : List ℕ) (n : Number) (b : ℕ) (d : Digits ds n) (x : is_hex b ≡ true) where
  abbrev longer : ℕ
  longer = length (ds ++ b ∷ [])

  one_longer : longer ≡ suc (length ds)
  one_longer = length-append ds (b ∷ []) ∙ add-one (length ds)

  digit_kept : length ds ≤ 6 → Digits (ds ++ b ∷ []) (record { value = n.value * 16 + hex_value b; digits = n.digits + 1 })
  digit_kept h = record {
    few = λ k. omega (arith, d.few h, one_longer);
    many = λ k. omega (arith, d.few h, one_longer);
    small = λ k. let p : n.value < 16 ^ length ds = d.small (omega arith) in let v : hex_value b ≤ 15 = hex_value_law b x in
        rw (one_longer, pow-succ' 16 (length ds)) (omega arith);
    value = λ k. ap (λ (m : ℕ). m * 16 + hex_value b) (d.value (omega arith)) ∙ sym (value_snoc ds 0 b);
  }

  digit_more : Digits (ds ++ b ∷ []) (with_digit n b)
  digit_more = by_cases (nat_le (length ds) 6) refl
    where
      by_cases : (t : Bool) → nat_le (length ds) 6 ≡ t → Digits (ds ++ b ∷ []) (with_digit n b)
      by_cases true e =
          let h : length ds ≤ 6 = leb-true (length ds) 6 e in
          let p : 16 ^ length ds ≤ 16 ^ 6 = pow-le-pow_right {n = 16} (omega arith) {i = length ds} {j = 6} h in
          let room : ltb n.digits 7 ≡ true = lt-ltb n.digits 7 (omega (arith, d.few h)) in
          let low : leb n.value 0xFFFFFF ≡ true = le-leb n.value 0xFFFFFF (omega (arith, d.small (omega arith))) in
          rw (room, low) (digit_kept h)
      by_cases false e =
          let h : 6 < length ds = leb-false (length ds) 6 e in
          let full : ltb n.digits 7 ≡ false = le-ltb n.digits 7 (omega (arith, d.many (omega arith))) in
          rw full (record { few = λ k. absurd (omega (arith, one_longer)); many = λ k. d.many (omega arith); small = λ k. absurd (omega (arith, one_longer)); value = λ k. absurd (omega (arith, one_longer)) })

module _ (ds : List ℕ) (n : Number) (d : Digits ds n) where
  number_is : is_scalar n ≡ is_number ds
  unfolding is_number
  number_is = by_cases (nat_le (length ds) 6) refl
    where
      by_cases : (t : Bool) → nat_le (length ds) 6 ≡ t → is_scalar n ≡ nat_le 4 (length ds) && (nat_le (length ds) 6 && nat_le (scalar_of ds) 0x10FFFF)
      by_cases true e = let h : length ds ≤ 6 = leb-true (length ds) 6 e in ap₂ (λ (k v : ℕ). nat_le 4 k && (nat_le k 6 && nat_le v 0x10FFFF)) (d.few h) (d.value (omega arith))
      by_cases false e =
          let h : 6 < length ds = leb-false (length ds) 6 e in
          ap (λ (k : ℕ). nat_le 4 k && (nat_le k 6 && nat_le n.value 0x10FFFF)) (d.many (omega arith)) ∙ (rw (e, le-leb 4 (length ds) (omega arith)) refl)

  scalar_is : is_number ds ≡ true → n.value ≡ scalar_of ds
  unfolding is_number
  scalar_is h = d.value (omega (arith, leb-true (length ds) 6 (and_left (nat_le (length ds) 6) (nat_le (scalar_of ds) 0x10FFFF) (and_right (nat_le 4 (length ds)) (nat_le (length ds) 6 && nat_le (scalar_of ds) 0x10FFFF) h))))

one_is : (ds : List ℕ) (lo : Number) → Digits ds lo → (name : ℕ) → ranged lo zero_number name ≡ range_entry (one ds) name
unfolding ranged range_entry
one_is ds lo d name = ap (λ (t : Bool). cond t (entry lo.value lo.value name) other_form) (number_is ds lo d) ∙ by_case (is_number ds) refl
  where
    by_case : (t : Bool) → is_number ds ≡ t → cond t (entry lo.value lo.value name) other_form ≡ cond t (entry (scalar_of ds) (scalar_of ds) name) other_form
    by_case true e = ap (λ (v : ℕ). entry v v name) (scalar_is ds lo d e)
    by_case false e = refl

module _ (ds es : List ℕ) (lo hi : Number) (d : Digits ds lo) (e : Digits es hi) (some : 0 < length es) where
  not_none_law : nat_eq hi.digits 0 ≡ false
  not_none_law = ne_eqb hi.digits 0 (λ z. by_case (nat_le (length es) 6) refl z)
    where
      by_case : (t : Bool) → nat_le (length es) 6 ≡ t → hi.digits ≢ 0
      by_case true q z = omega (arith, e.few (leb-true (length es) 6 q))
      by_case false q z = omega (arith, e.many (omega (arith, leb-false (length es) 6 q)))

  range_is : (name : ℕ) → ranged lo hi name ≡ range_entry (range ds es) name
  unfolding ranged range_entry
  range_is name = rw (number_is ds lo d, number_is es hi e, not_none_law) (by_cases (is_number ds) (is_number es) refl refl)
    where
      by_cases : (s t : Bool) → is_number ds ≡ s → is_number es ≡ t
          → cond s (cond t (cond (nat_lt lo.value hi.value) (entry lo.value hi.value name) other_form) other_form) other_form
          ≡ cond s (cond t (cond (nat_lt (scalar_of ds) (scalar_of es)) (entry (scalar_of ds) (scalar_of es) name) other_form) other_form) other_form
      by_cases true true p q = ap₂ (λ (v w : ℕ). cond (nat_lt v w) (entry v w name) other_form) (scalar_is ds lo d p) (scalar_is es hi e q)
      by_cases true false p q = refl
      by_cases false t p q = refl

-- ---- the parts before the name

digits_more : (b : ℕ) (s : List ℕ) → is_hex b ≡ true → digits_of (b ∷ s) ≡ b ∷ digits_of s
unfolding digits_of
digits_more b s e = rw e refl

digits_end : (b : ℕ) (s : List ℕ) → is_hex b ≡ false → digits_of (b ∷ s) ≡ []
unfolding digits_of
digits_end b s e = rw e refl

past_digit : (b : ℕ) (s : List ℕ) → is_hex b ≡ true → after_digits (b ∷ s) ≡ after_digits s
unfolding after_digits
past_digit b s e = rw e refl

no_digit : (b : ℕ) (s : List ℕ) → is_hex b ≡ false → after_digits (b ∷ s) ≡ b ∷ s
unfolding after_digits
no_digit b s e = rw e refl

abbrev unnamed : List ℕ
unnamed = replicate 32 0

module _ (file : ℕ) where
  semi : (lo hi : Number) (r : Range) → ((name : ℕ) → ranged lo hi name ≡ range_entry r name) → (s : List ℕ) → read file (at 7 lo hi unnamed 0) s ≡ named file r s
  unfolding named
  semi lo hi r h s =
      (tail file lo hi s).after [] unnamed 0 (record { holds = refl; many = refl; room = refl }) (empty_none file)
      ∙ ap (λ (e : Entry). cond (name_number file (unspaced (trimmed s)) == 0) other_form e) (h (name_number file (unspaced (trimmed s))))

  -- a range whose ends are no numbers
  high_none : (ds s : List ℕ) → named file (range ds []) s ≡ other_form
  unfolding named range_entry is_number
  high_none ds s = by_cases (name_number file (unspaced (trimmed s)) == 0) (is_number ds)
    where
      by_cases : (t u : Bool) → cond t other_form (cond u other_form other_form) ≡ other_form
      by_cases true u = refl
      by_cases false true = refl
      by_cases false false = refl

  pick_other : (t : Bool) (e : Entry) → e ≡ other_form → cond t e other_form ≡ other_form
  pick_other true e h = h
  pick_other false e h = refl

  low_none : (r : Range) (s : List ℕ) → ((name : ℕ) → range_entry r name ≡ other_form) → named file r s ≡ other_form
  unfolding named
  low_none r s h = by_cases (name_number file (unspaced (trimmed s)) == 0)
    where
      by_cases : (t : Bool) → cond t other_form (range_entry r (name_number file (unspaced (trimmed s)))) ≡ other_form
      by_cases true = refl
      by_cases false = h (name_number file (unspaced (trimmed s)))

  one_none : (name : ℕ) → range_entry (one []) name ≡ other_form
  unfolding range_entry is_number
  one_none name = refl

  range_none : (es : List ℕ) (name : ℕ) → range_entry (range [] es) name ≡ other_form
  unfolding range_entry is_number
  range_none es name = refl

  high_low_none : (es s : List ℕ) → after_high file [] es s ≡ other_form
  unfolding after_high
  high_low_none es [] = refl
  high_low_none es (b ∷ s) = pick_other (b == 0x3B) (named file (range [] es) s) (low_none (range [] es) s (range_none es))

  dot_none : (s : List ℕ) → after_dot file [] s ≡ other_form
  unfolding after_dot
  dot_none [] = refl
  dot_none (b ∷ s) = pick_other (b == 0x2E) (after_high file [] (digits_of (unspaced s)) (unspaced (after_digits (unspaced s)))) (high_low_none (digits_of (unspaced s)) (unspaced (after_digits (unspaced s))))

  high_other : (ds es : List ℕ) (b : ℕ) (s : List ℕ) → (b == 0x20) ≡ false → (b == 0x3B) ≡ false → after_high file ds es (unspaced (b ∷ s)) ≡ other_form
  unfolding after_high unspaced
  high_other ds es b s e f = rw (e, f) refl

  low_other : (ds : List ℕ) (b : ℕ) (s : List ℕ) (hex : Bool) → Plain b hex → after_low file ds (unspaced (b ∷ s)) ≡ other_form
  unfolding after_low unspaced
  low_other ds b s hex p = rw (p.space, p.semi, p.dot) refl

  -- a byte that leads to no line of the form
  lost : (k : ℕ) (lo hi : Number) (b : ℕ) (s : List ℕ) → next_stage k b ≡ 10 → (e : Entry) → e ≡ other_form → read file (at k lo hi unnamed 0) (b ∷ s) ≡ e
  lost k lo hi b s n e h = read_on file (at k lo hi unnamed 0) b 10 s n ∙ dead file s lo hi unnamed 0 ∙ sym h

  -- stage 6
  past_high : (ds es : List ℕ) (lo hi : Number) → ((name : ℕ) → ranged lo hi name ≡ range_entry (range ds es) name) → (s : List ℕ) → read file (at 6 lo hi unnamed 0) s ≡ after_high file ds es (unspaced s)
  unfolding entry_of after_high unspaced
  past_high ds es lo hi h [] = refl
  past_high ds es lo hi h (b ∷ s) =
      by_byte (λ (x : ℕ). read file (at 6 lo hi unnamed 0) (x ∷ s) ≡ after_high file ds es (unspaced (x ∷ s)))
      (past_high ds es lo hi h s) (dead file s lo hi unnamed 0) (semi lo hi (range ds es) h s)
      (λ x hex p. lost 6 lo hi x s (next_same 6 10 x hex p refl refl) (after_high file ds es (unspaced (x ∷ s))) (high_other ds es x s p.space p.semi)) b

  -- stage 5
  in_high : (s ds es : List ℕ) (lo hi : Number) → Digits ds lo → Digits es hi → 0 < length es → read file (at 5 lo hi unnamed 0) s ≡ after_high file ds (es ++ digits_of s) (unspaced (after_digits s))
  unfolding entry_of after_high unspaced digits_of after_digits
  in_high [] ds es lo hi d e some = refl
  in_high (b ∷ s) ds es lo hi d e some =
      by_byte (λ (x : ℕ). read file (at 5 lo hi unnamed 0) (x ∷ s) ≡ after_high file ds (es ++ digits_of (x ∷ s)) (unspaced (after_digits (x ∷ s))))
      (past_high ds es lo hi (range_is ds es lo hi d e some) s ∙ ap (λ (l : List ℕ). after_high file ds l (unspaced s)) (sym (append-nil es)))
      (dead file s lo hi unnamed 0)
      (semi lo hi (range ds es) (range_is ds es lo hi d e some) s ∙ ap (λ (l : List ℕ). named file (range ds l) s) (sym (append-nil es)))
      (λ x hex p. plain x hex p (λ es' hi' e' some'. in_high s ds es' lo hi' d e' some')) b
    where
      plain : (x : ℕ) (hex : Bool) → Plain x hex → ((es' : List ℕ) (hi' : Number) → Digits es' hi' → 0 < length es' → read file (at 5 lo hi' unnamed 0) s ≡ after_high file ds (es' ++ digits_of s) (unspaced (after_digits s)))
          → read file (at 5 lo hi unnamed 0) (x ∷ s) ≡ after_high file ds (es ++ digits_of (x ∷ s)) (unspaced (after_digits (x ∷ s)))
      plain x true p hyp =
          read_on file (at 5 lo hi unnamed 0) x 5 s (next_plain 5 x true p) ∙ hyp (es ++ x ∷ []) (with_digit hi x) (digit_more es hi x e p.digit) (omega (arith, length-append es (x ∷ [])))
          ∙ ap₂ (λ (l m : List ℕ). after_high file ds l (unspaced m)) (append_assoc es (x ∷ []) (digits_of s) ∙ ap (λ (l : List ℕ). es ++ l) (sym (digits_more x s p.digit))) (sym (past_digit x s p.digit))
      plain x false p hyp =
          lost 5 lo hi x s (next_plain 5 x false p) (after_high file ds (es ++ digits_of (x ∷ s)) (unspaced (after_digits (x ∷ s))))
          (ap (λ (m : List ℕ). after_high file ds (es ++ digits_of (x ∷ s)) (unspaced m)) (no_digit x s p.digit) ∙ high_other ds (es ++ digits_of (x ∷ s)) x s p.space p.semi)

  -- what follows `..`
  abbrev high : List ℕ → List ℕ → Entry
  high ds t = after_high file ds (digits_of t) (unspaced (after_digits t))

  -- stage 4
  before_high : (s ds : List ℕ) (lo : Number) → Digits ds lo → read file (at 4 lo zero_number unnamed 0) s ≡ high ds (unspaced s)
  unfolding entry_of after_high unspaced digits_of after_digits
  before_high [] ds lo d = refl
  before_high (b ∷ s) ds lo d =
      by_byte (λ (x : ℕ). read file (at 4 lo zero_number unnamed 0) (x ∷ s) ≡ high ds (unspaced (x ∷ s)))
      (before_high s ds lo d) (dead file s lo zero_number unnamed 0) (dead file s lo zero_number unnamed 0 ∙ sym (high_none ds s))
      (λ x hex p. plain x hex p) b
    where
      plain : (x : ℕ) (hex : Bool) → Plain x hex → read file (at 4 lo zero_number unnamed 0) (x ∷ s) ≡ high ds (unspaced (x ∷ s))
      plain x true p =
          read_on file (at 4 lo zero_number unnamed 0) x 5 s (next_plain 4 x true p) ∙ in_high s ds (x ∷ []) lo (with_digit zero_number x) d (digit_more [] zero_number x no_digits p.digit) (omega arith)
          ∙ ap₂ (λ (l m : List ℕ). after_high file ds l (unspaced m)) (sym (digits_more x s p.digit)) (sym (past_digit x s p.digit)) ∙ ap (high ds) (sym (unspaced_plain x s p.space))
      plain x false p =
          lost 4 lo zero_number x s (next_plain 4 x false p) (high ds (unspaced (x ∷ s)))
          (ap (high ds) (unspaced_plain x s p.space) ∙ ap (λ (m : List ℕ). after_high file ds (digits_of (x ∷ s)) (unspaced m)) (no_digit x s p.digit) ∙ high_other ds (digits_of (x ∷ s)) x s p.space p.semi)

  dot_other : (ds : List ℕ) (b : ℕ) (s : List ℕ) → (b == 0x2E) ≡ false → after_dot file ds (b ∷ s) ≡ other_form
  unfolding after_dot
  dot_other ds b s e = rw e refl

  -- stage 3
  past_dot : (s ds : List ℕ) (lo : Number) → Digits ds lo → read file (at 3 lo zero_number unnamed 0) s ≡ after_dot file ds s
  unfolding entry_of after_dot
  past_dot [] ds lo d = refl
  past_dot (b ∷ s) ds lo d =
      by_byte (λ (x : ℕ). read file (at 3 lo zero_number unnamed 0) (x ∷ s) ≡ after_dot file ds (x ∷ s))
      (dead file s lo zero_number unnamed 0) (before_high s ds lo d) (dead file s lo zero_number unnamed 0)
      (λ x hex p. lost 3 lo zero_number x s (next_same 3 10 x hex p refl refl) (after_dot file ds (x ∷ s)) (dot_other ds x s p.dot)) b

  -- stage 2
  past_low : (s ds : List ℕ) (lo : Number) → Digits ds lo → read file (at 2 lo zero_number unnamed 0) s ≡ after_low file ds (unspaced s)
  unfolding entry_of after_low unspaced
  past_low [] ds lo d = refl
  past_low (b ∷ s) ds lo d =
      by_byte (λ (x : ℕ). read file (at 2 lo zero_number unnamed 0) (x ∷ s) ≡ after_low file ds (unspaced (x ∷ s)))
      (past_low s ds lo d) (past_dot s ds lo d) (semi lo zero_number (one ds) (one_is ds lo d) s)
      (λ x hex p. lost 2 lo zero_number x s (next_same 2 10 x hex p refl refl) (after_low file ds (unspaced (x ∷ s))) (low_other ds x s hex p)) b

  -- stage 1
  in_low : (s ds : List ℕ) (lo : Number) → Digits ds lo → read file (at 1 lo zero_number unnamed 0) s ≡ after_low file (ds ++ digits_of s) (unspaced (after_digits s))
  unfolding entry_of after_low unspaced digits_of after_digits
  in_low [] ds lo d = refl
  in_low (b ∷ s) ds lo d =
      by_byte (λ (x : ℕ). read file (at 1 lo zero_number unnamed 0) (x ∷ s) ≡ after_low file (ds ++ digits_of (x ∷ s)) (unspaced (after_digits (x ∷ s))))
      (past_low s ds lo d ∙ ap (λ (l : List ℕ). after_low file l (unspaced s)) (sym (append-nil ds)))
      (past_dot s ds lo d ∙ ap (λ (l : List ℕ). after_dot file l s) (sym (append-nil ds)))
      (semi lo zero_number (one ds) (one_is ds lo d) s ∙ ap (λ (l : List ℕ). named file (one l) s) (sym (append-nil ds)))
      (λ x hex p. plain x hex p (λ ds' lo' d'. in_low s ds' lo' d')) b
    where
      plain : (x : ℕ) (hex : Bool) → Plain x hex → ((ds' : List ℕ) (lo' : Number) → Digits ds' lo' → read file (at 1 lo' zero_number unnamed 0) s ≡ after_low file (ds' ++ digits_of s) (unspaced (after_digits s)))
          → read file (at 1 lo zero_number unnamed 0) (x ∷ s) ≡ after_low file (ds ++ digits_of (x ∷ s)) (unspaced (after_digits (x ∷ s)))
      plain x true p hyp =
          read_on file (at 1 lo zero_number unnamed 0) x 1 s (next_plain 1 x true p) ∙ hyp (ds ++ x ∷ []) (with_digit lo x) (digit_more ds lo x d p.digit)
          ∙ ap₂ (λ (l m : List ℕ). after_low file l (unspaced m)) (append_assoc ds (x ∷ []) (digits_of s) ∙ ap (λ (l : List ℕ). ds ++ l) (sym (digits_more x s p.digit))) (sym (past_digit x s p.digit))
      plain x false p hyp =
          lost 1 lo zero_number x s (next_plain 1 x false p) (after_low file (ds ++ digits_of (x ∷ s)) (unspaced (after_digits (x ∷ s))))
          (ap (λ (m : List ℕ). after_low file (ds ++ digits_of (x ∷ s)) (unspaced m)) (no_digit x s p.digit) ∙ low_other (ds ++ digits_of (x ∷ s)) x s false p)

  content_more : (b : ℕ) (s : List ℕ) → (b == 0x20) ≡ false → content file (unspaced (b ∷ s)) ≡ after_low file (digits_of (b ∷ s)) (unspaced (after_digits (b ∷ s)))
  unfolding content unspaced
  content_more b s e = rw e refl

  -- stage 0
  from_start : (s : List ℕ) → read file empty s ≡ content file (unspaced s)
  unfolding entry_of content after_low unspaced digits_of after_digits
  from_start [] = refl
  from_start (b ∷ s) =
      by_byte (λ (x : ℕ). read file empty (x ∷ s) ≡ content file (unspaced (x ∷ s)))
      (from_start s) (dead file s zero_number zero_number unnamed 0 ∙ sym (dot_none s)) (dead file s zero_number zero_number unnamed 0 ∙ sym (low_none (one []) s one_none))
      (λ x hex p. plain x hex p) b
    where
      plain : (x : ℕ) (hex : Bool) → Plain x hex → read file empty (x ∷ s) ≡ content file (unspaced (x ∷ s))
      plain x true p =
          read_on file empty x 1 s (next_plain 0 x true p) ∙ in_low s (x ∷ []) (with_digit zero_number x) (digit_more [] zero_number x no_digits p.digit)
          ∙ ap₂ (λ (l m : List ℕ). after_low file l (unspaced m)) (sym (digits_more x s p.digit)) (sym (past_digit x s p.digit)) ∙ sym (content_more x s p.space)
      plain x false p =
          lost 0 zero_number zero_number x s (next_plain 0 x false p) (content file (unspaced (x ∷ s)))
          (content_more x s p.space ∙ ap (λ (m : List ℕ). after_low file (digits_of (x ∷ s)) (unspaced m)) (no_digit x s p.digit) ∙ low_other (digits_of (x ∷ s)) x s false p)

-- ---- a comment aside

staged_plain : (l : Line) (b n : ℕ) → (staged l b n).comment ≡ l.comment
staged_plain l b n = by_cases (n == 1) (n == 5) (in_name l.stage n b) (nat_lt l.count 32)
  where
    by_cases : (s t u v : Bool) → (cond s (with_low l b) (cond t (with_high l b) (cond u (cond v (record { stage = n; comment = l.comment; low = l.low; high = l.high; name = slice_set l.name l.count b; count = l.count + 1 }) (at_stage l 10)) (at_stage l n)))).comment ≡ l.comment
    by_cases true t u v = refl
    by_cases false true u v = refl
    by_cases false false true true = refl
    by_cases false false true false = refl
    by_cases false false false v = refl

in_comment_law : (s : List ℕ) (l : Line) → l.comment ≡ true → line_from l s ≡ l
unfolding line_from with_byte
in_comment_law [] l c = refl
in_comment_law (b ∷ s) l c = let e : with_byte l b ≡ l = rw c refl in ap (λ (x : Line). line_from x s) e ∙ in_comment_law s l c

line_more : (l : Line) (b : ℕ) (s : List ℕ) → line_from l (b ∷ s) ≡ line_from (with_byte l b) s
unfolding line_from
line_more l b s = refl

byte_plain : (l : Line) (b : ℕ) → l.comment ≡ false → (b == 0x23) ≡ false → with_byte l b ≡ plain_byte l b
unfolding with_byte
byte_plain l b c e = rw (c, e) refl

byte_comment : (l : Line) (b : ℕ) → l.comment ≡ false → (b == 0x23) ≡ true → with_byte l b ≡ in_comment l
unfolding with_byte
byte_comment l b c e = rw (c, e) refl

uncommented_by : (b : ℕ) (s : List ℕ) (t : Bool) → (b == 0x23) ≡ t → uncommented (b ∷ s) ≡ cond t [] (b ∷ uncommented s)
unfolding uncommented
uncommented_by b s t e = rw e refl

module _ (file : ℕ) where
  entry_comment : (l : Line) → entry_of file (in_comment l) ≡ entry_of file l
  unfolding entry_of
  entry_comment l = refl

  comment_aside : (s : List ℕ) (l : Line) → l.comment ≡ false → entry_of file (line_from l s) ≡ read file l (uncommented s)
  unfolding line_from uncommented
  comment_aside [] l c = refl
  comment_aside (b ∷ s) l c = by_case (b == 0x23) refl (λ l' c'. comment_aside s l' c')
    where
      by_case : (t : Bool) → (b == 0x23) ≡ t → ((l' : Line) → l'.comment ≡ false → entry_of file (line_from l' s) ≡ read file l' (uncommented s)) → entry_of file (line_from l (b ∷ s)) ≡ read file l (uncommented (b ∷ s))
      by_case true e hyp = ap (λ (x : Line). entry_of file (line_from x s)) (byte_comment l b c e) ∙ ap (entry_of file) (in_comment_law s (in_comment l) refl) ∙ entry_comment l ∙ ap (read file l) (sym (uncommented_by b s true e))
      by_case false e hyp =
          ap (λ (x : Line). entry_of file (line_from x s)) (byte_plain l b c e) ∙ hyp (plain_byte l b) (staged_plain l b (next_stage l.stage b) ∙ c)
          ∙ ap (read file l) (sym (uncommented_by b s false e))

  -- what the table of stages makes of a line is what the grammar says
  pub line_is : (line : List ℕ) → entry_of file (line_from empty line) ≡ line_of file line
  unfolding line_of
  line_is line = comment_aside line empty refl ∙ from_start file (uncommented line)
