-- A cluster of no width is part of no text.
use Rattle.std.specs.Prelude.{◌≡◌, ℕ, ◌≤◌, true, false, ◌||◌, List, [], ◌∷◌, eqb, leb}
use Rattle.std.proofs.Math.Path.{refl}
use Rattle.std.proofs.Common.{sym, ◌∙◌, arith, true≢false}
use Rattle.std.proofs.lemmas.Bool.{eqb-false}
use Rattle.text.specs.Tests.{cases, both}
use Rattle.text.specs.Utf8.{Scalar, bytes_of, reads}
use Rattle.text.specs.Class.{Profile}
use Rattle.text.specs.Width.{width_of}
use Rattle.spans.specs.Sequence.{parse}
use Rattle.spans.specs.Spans.{ClusterKind, control_kind, cluster_kind}
use Rattle.spans.specs.Spans.FirstSpan.{is_plain, escape_special, plain_cluster}

abbrev Special : ClusterKind → Type 0
Special w = is_plain w ≡ false

control_special : (g : List ℕ) (w : ClusterKind) → Special w → Special (control_kind g w)
unfolding is_plain control_kind
control_special [] w h = h
control_special (b ∷ []) w h = both Special (leb b 0x1F || eqb b 0x7F) refl h
control_special (b ∷ c ∷ g) w h = h

module _ (P : Profile) where
  flat_special : (g : List Scalar) → eqb (width_of P g) 0 ≡ true → plain_cluster P g ≡ false
  unfolding plain_cluster cluster_kind is_plain
  flat_special g e =
      both Special (reads g (0x1B ∷ [])) (escape_special (parse []))
      (both Special (reads g (0x0D ∷ 0x0A ∷ [])) refl (both Special (reads g (0x0A ∷ [])) refl (both Special (reads g (0x09 ∷ [])) refl (control_special (bytes_of g) _ (rw e refl)))))

  pub plain_wide : (g : List Scalar) → plain_cluster P g ≡ true → 1 ≤ width_of P g
  plain_wide g q = cases (eqb (width_of P g) 0) (λ e. absurd (true≢false (sym q ∙ flat_special g e))) (λ e. omega (arith, eqb-false (width_of P g) 0 e))
