-- What a record says of the line, kind by kind, in the terms of the code above: bytes and parts of the line.
use Rattle.std.specs.Prelude.{◌≡◌, refl, ℕ, zero, suc, ◌+◌, take, drop, get_or}
use Rattle.std.proofs.Common.{sym, ap, ◌∙◌, add-zero, arith, drop-drop, get_or-drop}
use mathlib.Core.List.{List, [], ◌∷◌}
use Rattle.std.proofs.Math.Option.{none, some}
use Rattle.std.proofs.Math.Seq.{slice, drop-nil, take-nil}
use Rattle.text.specs.Utf8.{Scalar, decode, run_of}
use Rattle.spans.specs.Sgr.{parameters, orders}
use Rattle.spans.specs.Sequence.{sgr, erase_to_end, ignored, hyperlink, line_drawing, Found, found, missing, parse}
use Rattle.spans.specs.Sequence.Laws.{parse_orders}
use Rattle.spans.specs.Spans.{text, control, invalid, unprintable, escape, Record}
use Rattle.spans.specs.Spans.ContentLaw.{sequence_in, text_in, content_in, content_of}
use Rattle.spans.specs.declared.sgr.Sgr.{Sgr}

-- the part from p on of n bytes
part : (line : List ℕ) (p n : ℕ) → take n (drop p line) ≡ slice p (p + n) line
part [] p n = rw (drop-nil p, take-nil n, take-nil (p + n), drop-nil p)
part (b ∷ line) zero n = let k : 0 + n ≡ n = omega arith in rw k
part (b ∷ line) (suc p) n = let k : suc p + n ≡ suc (p + n) = omega arith in rw k (part line p n)

-- the scalars of a record's bytes
abbrev pub scalars_of : List ℕ → Record → List Scalar
scalars_of line r = run_of (decode (slice r.place.0 (r.place.0 + r.len) line))

text_at_law : (line : List ℕ) (r : Record) → text_in r.len (drop r.place.0 line) ≡ scalars_of line r
unfolding text_in
text_at_law line r = ap (λ (l : List ℕ). run_of (decode l)) (part line r.place.0 r.len)

byte_at : (line : List ℕ) (r : Record) → get_or (drop r.place.0 line) 0 0 ≡ get_or line r.place.0 0
byte_at line r = get_or-drop r.place.0 line 0 0 ∙ ap (λ (i : ℕ). get_or line i 0) (add-zero r.place.0)

module _ (line : List ℕ) (r : Record) where
  pub text_content : r.kind ≡ 1 → content_of line r ≡ text none (scalars_of line r)
  unfolding content_of content_in
  text_content e = rw e (ap (text none) (text_at_law line r))

  pub match_content : r.kind ≡ 2 → content_of line r ≡ text (some r.matched) (scalars_of line r)
  unfolding content_of content_in
  match_content e = rw e (ap (text (some r.matched)) (text_at_law line r))

  pub control_content : r.kind ≡ 3 → content_of line r ≡ control (get_or line r.place.0 0)
  unfolding content_of content_in
  control_content e = rw e (ap control (byte_at line r))

  pub invalid_content : r.kind ≡ 4 → content_of line r ≡ invalid (get_or line r.place.0 0)
  unfolding content_of content_in
  invalid_content e = rw e (ap invalid (byte_at line r))

  pub unprintable_content : r.kind ≡ 5 → content_of line r ≡ unprintable (scalars_of line r)
  unfolding content_of content_in
  unprintable_content e = rw e (ap unprintable (text_at_law line r))

  behind_esc : drop 1 (drop r.place.0 line) ≡ drop (r.place.0 + 1) line
  behind_esc = drop-drop 1 r.place.0 line

  pub style_content : r.kind ≡ 6 → content_of line r ≡ sequence_in (parse (drop (r.place.0 + 1) line))
  unfolding content_of content_in
  style_content e = rw e (ap (λ (l : List ℕ). sequence_in (parse l)) behind_esc)

-- ---- a style order's orders are those of the parameters behind `ESC [`

found_orders : (s : List ℕ) (x : Found) (os : List Sgr) → parse s ≡ x → sequence_in x ≡ escape (sgr os) → os ≡ orders (parameters 0 (drop 1 s))
unfolding sequence_in
found_orders s missing os h e = absurd (let z : ◌≡◌ {A = ℕ} 0 1 = cc in omega arith)
found_orders s (found (sgr ps) n) os h e = let f : ps ≡ os = cc in sym f ∙ parse_orders s ps n h
found_orders s (found erase_to_end n) os h e = absurd (let z : ◌≡◌ {A = ℕ} 0 1 = cc in omega arith)
found_orders s (found ignored n) os h e = absurd (let z : ◌≡◌ {A = ℕ} 0 1 = cc in omega arith)
found_orders s (found (hyperlink a k) n) os h e = absurd (let z : ◌≡◌ {A = ℕ} 0 1 = cc in omega arith)
found_orders s (found (line_drawing b) n) os h e = absurd (let z : ◌≡◌ {A = ℕ} 0 1 = cc in omega arith)

-- what `next_order` reads from the place behind `ESC [`
pub style_orders : (line : List ℕ) (p : ℕ) (os : List Sgr) → sequence_in (parse (drop (p + 1) line)) ≡ escape (sgr os) → os ≡ orders (parameters 0 (drop (p + 2) line))
style_orders line p os e =
    let k : p + 1 + 1 ≡ p + 2 = omega arith in
    found_orders (drop (p + 1) line) (parse (drop (p + 1) line)) os refl e
    ∙ ap (λ (l : List ℕ). orders (parameters 0 l)) (drop-drop 1 (p + 1) line ∙ ap (λ (i : ℕ). drop i line) k)
