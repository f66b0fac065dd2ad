-- The spans of a line as drawings need them: texts of clusters that all have a width, bytes, known orders.
use Rattle.std.specs.Prelude.{◌≡◌, refl, ℕ, ◌+◌, ◌≤◌, List, length, take, drop, get_or}
use Rattle.std.proofs.Common.{sym, ap, ◌∙◌, arith, length-append, length-drop, take-append-drop, get_or-drop}
use Rattle.std.proofs.Math.Path.{subst}
use Rattle.std.proofs.Math.Option.{Option, none, some}
use Rattle.text.specs.Each.{All, all_nil, all_cons}
use Rattle.text.specs.Utf8.{Scalar, decode, run_of, bytes_of}
use Rattle.text.specs.Utf8.Runs.{run_valid, run_fits}
use Rattle.text.specs.Utf8.Valid.{Valid}
use Rattle.text.specs.Class.{Profile}
use Rattle.text.specs.Cluster.{clusters}
use Rattle.spans.specs.Sequence.{sgr}
use Rattle.spans.specs.declared.sgr.Sgr.{Sgr}
use Rattle.spans.specs.Sgr.{parameters}
use Rattle.spans.specs.Search.{read}
use Rattle.spans.specs.Spans.{Content, text, control, invalid, escape, Span, a_record, kind_of, match_of, record_of}
use Rattle.spans.specs.Spans.TextClusters.{read_wide}
use Rattle.spans.specs.Spans.ContentLaw.{text_in, content_in, content_of, content}
use Rattle.spans.specs.Spans.ContentKinds.{style_content, style_orders}
use Rattle.text.specs.Cluster.Parts.{Wide}
use Rattle.text.specs.Overstrike.Bytes.{Byte, byte_at}
use Rattle.screen.specs.Drawn.{Line}
use Rattle.screen.specs.Drawn.Texts.{Text}
use Rattle.screen.specs.Drawn.Attributes.{KnownValue, orders_known}

module _ (P : Profile) where
  -- a span that is a text has clusters that all have a width
  abbrev WideText : Content → Type 0
  WideText c = (m : Option ℕ) (s : List Scalar) → c ≡ text m s → Wide P (clusters P s)

  -- ---- what spans of a line of bytes hold

  pub record Fit (c : Content) : Type 0 where
    pub text : (m : Option ℕ) (s : List Scalar) → c ≡ text m s → Text P s × (length (bytes_of s) ≤ 32768)
    pub control : (b : ℕ) → c ≡ control b → Byte b
    pub invalid : (b : ℕ) → c ≡ invalid b → Byte b
    pub orders : (os : List Sgr) → c ≡ escape (sgr os) → All KnownValue os

  abbrev pub FitSpans : List Span → Type 0
  FitSpans ss = All (λ (x : Span). Fit x.content) ss

  module _ (line : List ℕ) (l : Line line) (p n : ℕ) where
    -- the content c is what its record says of the line
    abbrev Held : Content → Type 0
    Held c = content_of line (a_record (kind_of c) p n (match_of c)) ≡ c

    text_is : (m : Option ℕ) (s : List Scalar) → Held (text m s) → run_of (decode (take n (drop p line))) ≡ s
    unfolding content_of content_in text_in kind_of match_of
    text_is none s e = cc
    text_is (some k) s e = cc

    text_fit : (m : Option ℕ) (s : List Scalar) → Held (text m s) → Wide P (clusters P s) → Text P s × (length (bytes_of s) ≤ 32768)
    text_fit m s e w =
        let t : List ℕ = take n (drop p line) in
        let h = subst (λ (s : List Scalar). All Valid s × (length (bytes_of s) ≤ length t)) (text_is m s e) (run_valid t, run_fits t) in
        (record { wide = w; valid = h.0 }, omega (arith, h.1, length-drop p line, simp length-append at (ap length (take-append-drop n (drop p line))), l.short))

    byte_fit : (b : ℕ) → get_or (drop p line) 0 0 ≡ b → Byte b
    byte_fit b e = rw (← e, get_or-drop p line 0 0) (byte_at l.bytes (p + 0))

    content_fit : (c : Content) → Held c → WideText c → Fit c
    unfolding content_of content_in kind_of match_of
    content_fit c e w = record {
      text = λ m s i. text_fit m s (subst Held i e) (w m s i);
      control = λ b i. let f : Held (control b) = subst Held i e in byte_fit b cc;
      invalid = λ b i. let f : Held (invalid b) = subst Held i e in byte_fit b cc;
      orders = λ os i. rw (style_orders line p os (sym (style_content line (a_record 6 p n 0) refl) ∙ subst Held i e)) (orders_known (parameters 0 (drop (p + 2) line)));
    }

  module _ (line : List ℕ) (l : Line line) where
    each_fit : {ss : List Span} → All (λ (s : Span). content_of line (record_of s) ≡ s.content) ss → All (λ (x : Span). WideText x.content) ss → FitSpans ss
    unfolding record_of
    each_fit all_nil all_nil = all_nil
    each_fit (all_cons {a = s} e a) (all_cons w b) = all_cons (content_fit line l s.place s.len s.content e w) (each_fit a b)

    pub read_fit : (matches : List ℕ) → FitSpans (read P matches line)
    read_fit matches = each_fit (content P matches line) (read_wide P matches line)
