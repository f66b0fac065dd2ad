-- A word and its separator have the clusters of both together: whitespace begins a cluster behind a word.
use mathlib.Core.Path.{◌≡◌}
use mathlib.Core.Bool.{false, not, true}
use mathlib.Core.List.{List, [], ◌++◌, ◌∷◌, append-nil, reverse_aux}
use lib.Dec.{eqb}
use borrow.Author.Tests.{not-true}
use Rattle.text.specs.Tests.{and_T, cases, is_true, true_T}
use Rattle.text.specs.Utf8.{Scalar}
use Rattle.text.specs.Class.{Profile, whitespace}
use Rattle.text.specs.Cluster.{clusters, joins}
use Rattle.text.specs.Cluster.Appended.{clusters_cut}
use Rattle.text.specs.Cluster.Laws.{clusters_nil}
use Rattle.text.specs.Cluster.Spaces.{NoSpaceBefore, SpacesBegin}
use Rattle.rows.specs.Words.Laws.{belongs, beyond, first_word, leading, word_from}

module _ (P : Profile) (space : SpacesBegin P) where
  word_ends : (s before : List Scalar) (c : Scalar) → NoSpaceBefore before → whitespace c.code ≡ true → joins P (reverse_aux (leading false s) before) c ≡ false
  unfolding leading belongs
  word_ends [] before c o e = space.begins before c o e
  word_ends (d ∷ s) before c o e =
      cases (belongs false d.code)
      (λ b. rw b (word_ends s (d ∷ before) c (not-true _ (is_true _ (and_T (not (whitespace d.code)) _ (true_T b)).0)) e))
      (λ b. rw b (space.begins before c o e))

  from_clusters : (s r : List Scalar) → clusters P ((word_from (leading false s) r).word ++ (word_from (leading false s) r).sep) ≡ clusters P (word_from (leading false s) r).word ++ clusters P (word_from (leading false s) r).sep
  unfolding word_from leading belongs
  from_clusters s [] = rw (append-nil, clusters_nil P, append-nil)
  from_clusters s (c ∷ r) =
      cases (eqb c.code 0x2D)
      (λ h. rw (h, append-nil, clusters_nil P, append-nil))
      (λ h.
      cases (whitespace c.code)
      (λ e. rw (h, e) (clusters_cut P c (leading true r) (leading false s) (word_ends s [] c tt e)))
      (λ e. rw (h, e, append-nil, clusters_nil P, append-nil)))

  pub word_clusters : (s : List Scalar) → clusters P ((first_word s).word ++ (first_word s).sep) ≡ clusters P (first_word s).word ++ clusters P (first_word s).sep
  unfolding first_word
  word_clusters s = from_clusters s (beyond false s)
