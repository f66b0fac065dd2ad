-- The spans that the records of a line stand for.
use Rattle.std.specs.Prelude.{◌≡◌, ℕ, take}
use Rattle.std.proofs.Math.Path.{refl, ap₂}
use Rattle.std.proofs.Common.{ap, arith}
use mathlib.Core.List.{List, [], ◌∷◌, map}
use Rattle.text.specs.Each.{All, all_nil, all_cons}
use Rattle.text.specs.Utf8.{decode, run_of}
use Rattle.spans.specs.Sequence.{Sequence, Found, found, missing}
use Rattle.spans.specs.Spans.{escape, Span, span, Record, record_of, records}
use Rattle.spans.specs.Spans.ContentLaw.{content_of, sequence_in, text_in}

unfoldable pub span_in : List ℕ → Record → Span
unfolding content_of
span_in line r = span r.place.0 r.len (content_of line r)

unfoldable pub spans_in : List ℕ → List Record → List Span
unfolding span_in
spans_in line rs = map (span_in line) rs

module _ (line : List ℕ) where
  -- spans that hold what their records say of the line
  abbrev pub HasContents : List Span → Type 0
  HasContents ss = All (λ (s : Span). content_of line (record_of s) ≡ s.content) ss

  pub spans_in_records : {ss : List Span} → HasContents ss → spans_in line (records ss) ≡ ss
  unfolding spans_in span_in records record_of
  spans_in_records all_nil = refl
  spans_in_records (all_cons {a = s} h a) = ap₂ (λ (x : Span) (xs : List Span). x ∷ xs) (ap (span s.place s.len) h) (spans_in_records a)

  -- records that are those of the spans that they stand for
  pub spans_in_contents : (rs : List Record) → records (spans_in line rs) ≡ rs → HasContents (spans_in line rs)
  unfolding spans_in span_in records
  spans_in_contents [] e = all_nil
  spans_in_contents (r ∷ rs) e =
      let h : record_of (span_in line r) ≡ r = cc in
      let t : records (spans_in line rs) ≡ rs = cc in
      all_cons (ap (content_of line) h) (spans_in_contents rs t)

  pub spans_in_none : records (spans_in line []) ≡ []
  unfolding spans_in records
  spans_in_none = refl

-- ---- contents

pub text_in_is : (n : ℕ) (s : List ℕ) → text_in n s ≡ run_of (decode (take n s))
unfolding text_in
text_in_is n s = refl

pub sequence_in_found : (f : Found) (e : Sequence) → sequence_in f ≡ escape e → (n : ℕ) × (f ≡ found e n)
unfolding sequence_in
sequence_in_found missing e h = absurd (let w : ◌≡◌ {A = ℕ} 0 1 = cc in omega arith)
sequence_in_found (found x n) e h = (n, cc)
