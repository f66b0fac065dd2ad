-- DEC line drawing: the table of replacements, the loop over a text, and the copy that is shown.
use mathlib.Core.Path.{◌≡◌, refl, sym, ap, ◌∙◌}
use Prim.Native.Nat.{ℕ, ◌+◌, ◌-◌, ◌*◌, ◌≤◌, ◌<◌}
use native.Mathlib.Omega.{arith}
use mathlib.Core.Bool.{Bool, true, false, cond, ◌&&◌, ◌||◌, and-false}
use mathlib.Core.List.{List, [], ◌∷◌, ◌++◌, map, append-nil}
use lib.ListN.{length, take, drop, get_or, get_or-map, length-append, take-append-drop}
use lib.Seq.{take-append_seam, length-take-le}
use lib.Dec.{leb, ltb}
use borrow.Author.Tests.{lt-leb, ltb-true, ltb-false}
use Rattle.buffer.specs.Sink.{sink, emit}
use Rattle.buffer.specs.Sink.Laws.{emit_append, emit_none, fitted}
use Rattle.text.specs.Tests.{cases, in_range_law, or_false}
use Rattle.text.specs.Each.{All, all_nil, all_cons}
use Rattle.text.specs.Utf8.{Scalar, scalar, to, within, decode, bytes_of}
use Rattle.text.specs.Utf8.Valid.{Valid, run_text}
use Rattle.text.specs.Width.{width_of}
use Rattle.text.specs.Cluster.Walk.{size_is}
use Rattle.text.specs.Utf8.Code.{run_of, size, first_sequence}
use Rattle.text.specs.Class.Code.{profile_of}
use Rattle.text.specs.Utf8.Code.Laws.{some_at, nothing_at, none_past, run_valid, run_fits, front_bytes, size_cons, size_nil}
use Rattle.text.specs.Class.Profile01.{ascii_classes}
use Rattle.text.specs.Utf8.FirstByte.{high_code}
use Rattle.text.specs.Class.Symbols.{symbol_classes}
use Rattle.text.specs.Width.Symbols.{symbol_columns_law}
use Rattle.text.specs.TextParts.{text_at}
use Rattle.text.specs.declared.class.Profile as code
use Rattle.text.specs.declared.utf8.Sequence.{Sequence}
use Rattle.text.specs.Utf8.Laws.{bytes_cons, bytes_nil, bytes_one, scalar_bytes}
use Rattle.text.specs.Utf8.Ascii.{valid_low}
use Rattle.drawing.specs.Marks.{replacements, line_drawn}
use Rattle.drawing.specs.Marks.LineDrawn.{alike_replaced, line_drawn_valid, line_drawn_width}
use denote.Bor.{Bor}
use Rattle.std.specs.List.{list_any}
use Rattle.std.specs.Prelude.{Option, Some, None}
use Rattle.drawing.specs.LineDrawing.{Replaceable, has_replacements}

-- ---- the table

-- the bytes at a place of a table of texts
pub bytes_at : (table : List (Bor (List ℕ))) (i : ℕ) (d : Bor (List ℕ)) → (get_or table i d).now ≡ get_or (map (λ (b : Bor (List ℕ)). b.now) table) i d.now
bytes_at table i d = sym (get_or-map (λ (b : Bor (List ℕ)). b.now) table i d)

-- ---- what is shown is as wide as the text, and at most three times as long

pub line_drawn_columns : (f : code.Profile) (x : List Scalar) → width_of (profile_of f) (line_drawn x) ≡ width_of (profile_of f) x
line_drawn_columns f = line_drawn_width (profile_of f) (alike_replaced (profile_of f) (ascii_classes f) (symbol_classes f) (symbol_columns_law f))

line_drawn_size : {x : List Scalar} → All Valid x → size (line_drawn x) ≤ 3 * size x
line_drawn_size {x} v = rw (size_is (line_drawn x), size_is x) (line_drawn_valid v).1

-- ---- the loop

pub record Converting (s l₀ : List ℕ) (p a : ℕ) (l : List ℕ) : Type 0 where
  pub inside : p ≤ length s
  pub work : emit (sink l a) (bytes_of (line_drawn (text_at s p))) ≡ emit (sink l₀ 0) (bytes_of (line_drawn (text_at s 0)))

pub convert_begin : (s l : List ℕ) → Converting s l 0 0 l
convert_begin s l = record { inside = omega arith; work = refl }

module _ {s l₀ l : List ℕ} {p a : ℕ} (k : Converting s l₀ p a l) where
  convert_done : text_at s p ≡ [] → sink l a ≡ emit (sink l₀ 0) (bytes_of (line_drawn (text_at s 0)))
  unfolding line_drawn
  convert_done e = rw (e, bytes_nil, emit_none) at k.work

  pub convert_past : length s ≤ p → sink l a ≡ emit (sink l₀ 0) (bytes_of (line_drawn (text_at s 0)))
  convert_past h = convert_done (none_past s p h)

  module _ (here : p < length s) (r : Option Sequence) (read : r ≡ first_sequence (decode (drop p s))) where
    pub convert_bad : r ≡ None → sink l a ≡ emit (sink l₀ 0) (bytes_of (line_drawn (text_at s 0)))
    convert_bad e = convert_done (nothing_at s p here r read e)

    module _ (u : Sequence) (some : r ≡ Some u) where
      pub convert_step : (1 ≤ u.len) × (p + u.len ≤ length s)
      convert_step = let b = some_at s p here r read u some in (b.some, b.fits)

      abbrev c : Scalar
      c = (some_at s p here r read u some).scalar

      pub convert_fits : p + u.len ≤ length s
      convert_fits = (some_at s p here r read u some).fits

      -- what the scalar is shown as
      first_shown : (x : Scalar) → cond (within (to 0x5F 0x7E) c.code) (scalar (get_or replacements (c.code - 0x5F) [])) c ≡ x
          → emit (emit (sink l a) x.bytes) (bytes_of (line_drawn (text_at s (p + u.len)))) ≡ emit (sink l₀ 0) (bytes_of (line_drawn (text_at s 0)))
      unfolding line_drawn
      first_shown x e = sym (emit_append (sink l a) x.bytes (bytes_of (line_drawn (text_at s (p + u.len))))) ∙ (rw ((some_at s p here r read u some).run, e, bytes_cons) at k.work)

      pub convert_replaced : (l' : List ℕ) (n : ℕ) → (leb 0x5F u.code && leb u.code 0x7E) ≡ true → sink l' n ≡ emit (sink l a) (get_or replacements (u.code - 0x5F) []) → Converting s l₀ (p + u.len) n l'
      convert_replaced l' n t e =
          let q : c.code ≡ u.code = (some_at s p here r read u some).code in
          let w = first_shown (scalar (get_or replacements (c.code - 0x5F) [])) (rw (rw (← q) at t) refl) in
          record { inside = convert_fits; work = rw (e, ← q) (rw scalar_bytes at w) }

      first_bytes : take (p + u.len - p) (drop p s) ≡ c.bytes
      first_bytes =
          let a = some_at s p here r read u some in
          let n : p + u.len - p ≡ size (c ∷ []) = omega (arith, a.len, size_cons c [], size_nil) in
          ap (λ (m : ℕ). take m (drop p s)) n ∙ front_bytes (drop p s) (c ∷ []) (text_at s (p + u.len)) a.run ∙ bytes_one c

      pub convert_kept : (l' : List ℕ) (n : ℕ) → (leb 0x5F u.code && leb u.code 0x7E) ≡ false → sink l' n ≡ emit (sink l a) (take (p + u.len - p) (drop p s)) → Converting s l₀ (p + u.len) n l'
      convert_kept l' n f g =
          let o : within (to 0x5F 0x7E) c.code ≡ false = rw (some_at s p here r read u some).code f in
          record { inside = convert_fits; work = rw (g, first_bytes) (first_shown c (rw o refl)) }

pub replaceable : (c : ℕ) → (leb 0x5F c && leb c 0x7E) ≡ true → Replaceable c
replaceable c e = let r = in_range_law 0x5F 0x7E c e in record { low = r.0; high = r.1 }

-- ---- the bytes that are replaced

pub has_replacements_is : (s : List ℕ) → list_any (within (to 0x5F 0x7E)) s ≡ has_replacements s
unfolding has_replacements
has_replacements_is [] = refl
has_replacements_is (b ∷ s) = ap (λ (x : Bool). within (to 0x5F 0x7E) b || x) (has_replacements_is s)

has_append : (a b : List ℕ) → has_replacements (a ++ b) ≡ false → (has_replacements a ≡ false) × (has_replacements b ≡ false)
unfolding has_replacements
has_append [] b e = (refl, e)
has_append (x ∷ a) b e =
    let w = or_false (within (to 0x5F 0x7E) x) (has_replacements (a ++ b)) e in
    let r = has_append a b w.1 in
    (rw (w.0, r.0) refl, r.1)

-- ---- a text without them is shown as it is

byte_kept : (s : List ℕ) → 1 ≤ length s → has_replacements s ≡ false → within (to 0x5F 0x7E) (get_or s 0 0) ≡ false
unfolding has_replacements
byte_kept [] h e = absurd (omega arith)
byte_kept (b ∷ s) h e = (or_false (within (to 0x5F 0x7E) b) (has_replacements s) e).0

-- a byte that is kept begins no scalar that is replaced
scalar_kept : (c : Scalar) → Valid c → has_replacements c.bytes ≡ false → within (to 0x5F 0x7E) c.code ≡ false
scalar_kept c v e =
    cases (ltb (get_or c.bytes 0 0) 0x80)
    (λ l. rw (valid_low c v (ltb-true _ _ l)) (byte_kept c.bytes v.some e))
    (λ l. rw (lt-leb c.code 0x7E (omega (arith, high_code c v (ltb-false _ _ l)))) (and-false (leb 0x5F c.code)))

kept_same : {x : List Scalar} → All Valid x → has_replacements (bytes_of x) ≡ false → line_drawn x ≡ x
unfolding line_drawn
kept_same all_nil e = refl
kept_same (all_cons {a = c} {s = s} v a) e =
    let w = has_append c.bytes (bytes_of s) (rw bytes_cons at e) in
    rw (scalar_kept c v w.0) (ap (λ (l : List Scalar). c ∷ l) (kept_same a w.1))

pub line_drawn_kept : (s : List ℕ) → has_replacements s ≡ false → line_drawn (text_at s 0) ≡ text_at s 0
line_drawn_kept s e =
    let t : List Scalar = text_at s 0 in
    let f : has_replacements (take (size t) s ++ drop (size t) s) ≡ false = rw (take-append-drop (size t) s) e in
    kept_same (run_valid s) (rw (← front_bytes s t [] (sym (append-nil t))) (has_append (take (size t) s) (drop (size t) s) f).0)

-- ---- the copy

module _ (s copy copy' : List ℕ) (n : ℕ) (room : 3 * length s ≤ length copy) (made : sink copy' n ≡ emit (sink copy 0) (bytes_of (line_drawn (text_at s 0)))) where
  abbrev drawn : List ℕ
  drawn = bytes_of (line_drawn (text_at s 0))

  copied : (n ≡ length drawn) × (copy' ≡ drawn ++ drop (length drawn) copy)
  copied =
      let t : List Scalar = text_at s 0 in
      let f : size t + size [] ≤ length s = run_fits s t [] (sym (append-nil t)) in
      fitted copy drawn copy' n made (omega (arith, size_is (line_drawn t), line_drawn_size (run_valid s), room))

  copy_fits : n ≤ length copy'
  copy_fits = rw (copied.1, length-append drawn (drop (length drawn) copy)) (omega (arith, copied.0))

  pub copy_slice : n ≡ length (take n copy')
  copy_slice = sym (length-take-le n copy' copy_fits)

  pub copy_shown : text_at (take n copy') 0 ≡ line_drawn (text_at s 0)
  copy_shown =
      let b : take n copy' ≡ drawn = rw (copied.0, copied.1) (take-append_seam drawn (drop (length drawn) copy)) in
      ap (λ (l : List ℕ). run_of (decode l)) b ∙ run_text (line_drawn_valid (run_valid s)).0

pub text_shown : (s : List ℕ) (b : Bool) → b ≡ has_replacements s → b ≡ false → text_at s 0 ≡ line_drawn (text_at s 0)
text_shown s b e f = sym (line_drawn_kept s (sym e ∙ f))
