-- No Text or Match holds a control, 00 to 1F or 7F to 9F, and none of its bytes in the converted line is below 20 or 7F.
use Rattle.std.specs.Prelude.{◌≡◌, ℕ, List, ◌++◌, take, drop}
use Rattle.std.proofs.Common.{subst, ap₂, ◌∙◌}
use Rattle.std.proofs.Math.Option.{Option}
use Rattle.std.proofs.Math.Seq.{take-append_seam}
use Rattle.text.specs.Each.{All, all_both, all_map}
use Rattle.text.specs.Utf8.{Scalar, bytes_of}
use Rattle.text.specs.Utf8.Controls.{NoControl, NoControlByte, no_control_bytes}
use Rattle.text.specs.Class.{Profile}
use Rattle.text.specs.Class.Laws.{ControlClasses, ZeroWidthClasses}
use Rattle.text.specs.Class.Profile01.{profile_is, control_classes, zero_width_classes}
use Rattle.text.specs.Width.{profile01}
use Rattle.text.specs.declared.class.Profile as code
use Rattle.text.specs.Cluster.Controls.{wide_no_control}
use Rattle.spans.specs.Search.{read}
use Rattle.spans.specs.Spans.{text, Span}
use Rattle.spans.specs.Spans.ContentLaw.{TextAt, texts}
use Rattle.spans.specs.Spans.TextClusters.{read_wide}

-- a span that is a text holds no control
abbrev pub TextNoControl : Span → Type 0
TextNoControl x = (m : Option ℕ) (t : List Scalar) → x.content ≡ text m t → All NoControl t

-- nor do its bytes in the line
abbrev pub BytesNoControl : List ℕ → Span → Type 0
BytesNoControl line x = (m : Option ℕ) (t : List Scalar) → x.content ≡ text m t → All NoControlByte (take x.len (drop x.place line))

module _ (P : Profile) (c : ControlClasses P) (z : ZeroWidthClasses P) (matches s : List ℕ) where
  pub texts_no_control : All TextNoControl (read P matches s)
  texts_no_control = all_map (λ x h m t e. wide_no_control P z c t (h m t e)) (read_wide P matches s)

  -- whatever stands behind the line
  pub bytes_no_control : (after : List ℕ) → All (BytesNoControl (s ++ after)) (read P matches s)
  bytes_no_control after = all_map (λ x h m t e. by x t (h.0 m t e) (h.1 m t e)) (all_both (texts P matches s after) texts_no_control)
    where
      by : (x : Span) (t : List Scalar) → TextAt (s ++ after) x.place x.len t → All NoControl t → All NoControlByte (take x.len (drop x.place (s ++ after)))
      by x t h f = rw (ap₂ take h.len h.bytes ∙ take-append_seam (bytes_of t) _) (no_control_bytes t h.valid f)

-- ---- document 01's profile

controls01 : ControlClasses profile01 × ZeroWidthClasses profile01
controls01 = let p : code.Profile = record { version = 0 } in subst (λ (P : Profile). ControlClasses P × ZeroWidthClasses P) (profile_is p) (control_classes p, zero_width_classes p)

pub texts_no_control01 : (matches s : List ℕ) → All TextNoControl (read profile01 matches s)
texts_no_control01 = texts_no_control profile01 controls01.0 controls01.1

pub bytes_no_control01 : (matches s after : List ℕ) → All (BytesNoControl (s ++ after)) (read profile01 matches s)
bytes_no_control01 = bytes_no_control profile01 controls01.0 controls01.1
