-- A text's first cluster, and the text behind a part.
use Rattle.std.specs.Prelude.{◌≡◌, refl, ℕ, ◌+◌, ◌<◌, List, [], ◌∷◌, ◌++◌, ◌≢◌, drop, get_or, length, take}
use Rattle.std.proofs.Common.{sym, ap, ap₂, ◌∙◌, add-one, arith, drop-cons, drop-drop}
use Rattle.text.specs.Each.{All, all_nil, all_cons}
use Rattle.text.specs.Utf8.{Scalar, ascii, decode, run_of}
use Rattle.text.specs.Utf8.Ascii.{ascii_run}
use Rattle.text.specs.Utf8.Valid.{Valid}
use Rattle.text.specs.Class.{Profile}
use Rattle.text.specs.Cluster.{clusters}
use Rattle.text.specs.Cluster.Laws.{clusters_first, further}
use Rattle.text.specs.Segmentation.{first_of}
use Rattle.text.specs.Utf8.Code.{size}
use Rattle.text.specs.Segmentation.Laws.{FirstCluster, first_cluster}
use Rattle.text.specs.Utf8.Code.Laws.{run_behind}
use Rattle.text.specs.TextParts.{text_at, Measured}
use Rattle.text.specs.declared.TextPart.{TextPart}

-- a byte below 80 at a place
pub ascii_at : (t : List ℕ) (at b : ℕ) → at < length t → b ≡ get_or t at 0 → b < 0x80 → text_at t at ≡ ascii b ∷ text_at t (at + 1)
ascii_at t at b h e k =
    ap (λ (l : List ℕ). run_of (decode l)) (drop-cons t at 0 h ∙ ap₂ (λ (x i : ℕ). x ∷ drop i t) (sym e) (sym (add-one at)))
    ∙ ascii_run b (drop (at + 1) t) k

-- a text begins with its first cluster
pub first_all : (P : Profile) (t : List Scalar) → (rest : List Scalar) × (t ≡ first_of (clusters P t) ++ rest)
unfolding first_of clusters
first_all P [] = ([], refl)
first_all P (c ∷ t) = let k = first_cluster P c t in (k.rest, k.text)

-- a first cluster of no bytes is none
pub first_there : (P : Profile) (s : List Scalar) → (size (first_of (clusters P s)) ≢ 0) → FirstCluster P s
unfolding size first_of clusters
first_there P [] z = absurd (z refl)
first_there P (c ∷ s) z = first_cluster P c s

pub first_none : (P : Profile) {s : List Scalar} → All Valid s → size (first_of (clusters P s)) ≡ 0 → s ≡ []
unfolding size first_of
first_none P all_nil z = refl
first_none P (all_cons {a = c} {s = s} v a) z =
    let e : size (c ∷ take (further P (c ∷ []) s) s) ≡ 0 = ap (λ (gs : List (List Scalar)). size (first_of gs)) (sym (clusters_first P c s)) ∙ z in
    absurd (omega (arith, v.some))

pub behind_part : (P : Profile) (s : List ℕ) (at : ℕ) (front rest : List Scalar) (r : TextPart) → Measured P s at front r → text_at s at ≡ front ++ rest → text_at s r.end.0 ≡ rest
behind_part P s at front rest r m e = rw (m.end, ← drop-drop (size front) at s) (run_behind (drop at s) front rest e)
