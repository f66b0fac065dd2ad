-- Where whitespace and hyphens are unshared, words, their separators and their own clusters end at columns at which clusters of the text end.
use Rattle.std.proofs.Math.Path.{◌≡◌, refl, sym, subst}
use Rattle.std.proofs.Common.{ap, ◌∙◌, arith, true≢false}
use Rattle.std.specs.Prelude.{ℕ, ◌+◌, Bool, eqb}
use Rattle.std.proofs.Math.Bool.{true, false, or-true}
use mathlib.Core.List.{List, [], ◌∷◌, ◌++◌, append_assoc, append-nil}
use Rattle.text.specs.Tests.{cases}
use Rattle.text.specs.Each.{All, all_nil, all_cons}
use Rattle.text.specs.Utf8.{Scalar}
use Rattle.text.specs.Class.{Profile, whitespace}
use Rattle.text.specs.Width.{width_of}
use Rattle.text.specs.Width.Laws.{width_append, width_cons, width_nil}
use Rattle.text.specs.Cluster.{clusters}
use Rattle.text.specs.Cluster.Appended.{Appended, none, apart, shared, more, clusters_appended, alone_front, alone_behind}
use Rattle.text.specs.Cluster.Laws.{clusters_nil, clusters_first}
use Rattle.rows.specs.Words.{Word, a_word, words}
use Rattle.rows.specs.Words.Laws.{belongs, leading, beyond, leading_beyond, word_from, rest_from, first_word, rest_words, words_first}
use Rattle.columns.specs.Columns.Wrapping.{total, EachEnd, widths, widths_total, behind, WordEnds, TextEnds}
use Rattle.picture.specs.Conditions.{word_break, WordBreakClasses, Unshared}

all_first : {A : Type 0} {Q : A → Type 0} {a : A} {s : List A} → All Q (a ∷ s) → Q a × All Q s
all_first (all_cons q e) = (q, e)

module _ (P : Profile) where
  unshared_rest : (u v : List Scalar) → Unshared P (u ++ v) → Unshared P v
  unshared_rest u v f x y c e k =
      let z = f (u ++ x) y c (ap (λ (l : List Scalar). u ++ l) e ∙ sym (append_assoc u x (c ∷ y))) k in
      omega (arith, z, width_append P (u ++ x) y, width_append P u x, width_append P x y)

  -- ---- columns

  module _ (F : ℕ → Type 0) where
    -- where F holds at the ends of clusters, and in front of a part of them, it holds at the ends of the clusters in front
    append_ends : {xs ys zs : List (List Scalar)} → Appended xs ys zs → (p : ℕ) → EachEnd F p (widths P zs) → F (p + total (widths P xs)) → EachEnd F p (widths P xs)
    unfolding EachEnd total
    append_ends none p e f = tt
    append_ends apart p e f = (subst F (omega arith) f, tt)
    append_ends shared p e f = (subst F (omega arith) f, tt)
    append_ends (more {f = g} a) p e f = (e.0, append_ends a (p + width_of P g) e.1 (subst F (omega arith) f))

    -- unshared clusters from column p on, at whose ends F holds
    record Ending (p : ℕ) (gs : List (List Scalar)) : Type 0 where
      here : F p
      ends : EachEnd F p (widths P gs)
      unshared : All (Unshared P) gs

    moved : {p q : ℕ} {gs : List (List Scalar)} → p ≡ q → Ending p gs → Ending q gs
    moved {gs = gs} e t = subst (λ (n : ℕ). Ending n gs) e t

    with_first : {p : ℕ} (g : List Scalar) {gs : List (List Scalar)} → F p → Unshared P g → Ending (p + width_of P g) gs → Ending p (g ∷ gs)
    unfolding EachEnd
    with_first g f u t = record { here = f; ends = (t.here, t.ends); unshared = all_cons u t.unshared }

    first_ending : {p : ℕ} (g : List Scalar) (gs : List (List Scalar)) → Ending p (g ∷ gs) → Unshared P g × Ending (p + width_of P g) gs
    unfolding EachEnd
    first_ending g gs t = let u = all_first t.unshared in (u.0, record { here = t.ends.0; ends = t.ends.1; unshared = u.1 })

    -- the clusters from whitespace or a hyphen on: if the last cluster before is joined to them, it has no width
    append_rest : (c : Scalar) (v : List Scalar) (gs : List (List Scalar)) → word_break c.code ≡ true → {xs zs : List (List Scalar)} → Appended xs ((c ∷ v) ∷ gs) zs → (p : ℕ) → Ending p zs → Ending (p + total (widths P xs)) ((c ∷ v) ∷ gs)
    unfolding total
    append_rest c v gs k none p t = moved (omega arith) t
    append_rest c v gs k (apart {g = g}) p t = moved (omega arith) (first_ending g ((c ∷ v) ∷ gs) t).1
    append_rest c v gs k (shared {g = g}) p t =
        let f = first_ending (g ++ (c ∷ v)) gs t in
        let z = f.0 g v c refl k in
        let n = width_append P g v in
        with_first (c ∷ v) (subst F (omega arith) t.here) (unshared_rest g (c ∷ v) f.0) (moved (omega (arith, width_append P g (c ∷ v))) f.1)
    append_rest c v gs k (more {f = g} a) p t = moved (omega arith) (append_rest c v gs k a (p + width_of P g) (first_ending g _ t).1)

    -- the clusters behind whitespace or a hyphen: if the first is joined to it, it has no width
    add_rest : (c : Scalar) {gs zs : List (List Scalar)} → Appended ((c ∷ []) ∷ []) gs zs → (p : ℕ) → word_break c.code ≡ true → Ending p zs → Ending (p + P.width c.code) gs
    add_rest c (apart {ys = gs}) p k t = moved (omega (arith, width_cons P c [], width_nil P)) (first_ending (c ∷ []) gs t).1
    add_rest c (shared {h = g} {ys = gs}) p k t =
        let f = first_ending (c ∷ g) gs t in
        let z = f.0 [] g c refl k in
        let n = width_cons P c g in
        with_first g (subst F (omega arith) f.1.here) (unshared_rest (c ∷ []) g f.0) (moved (omega arith) f.1)

    last_end : (ws : List ℕ) (p : ℕ) → F p → EachEnd F p ws → F (p + total ws)
    unfolding total EachEnd
    last_end [] p f e = subst F (omega arith) f
    last_end (w ∷ ws) p f e = subst F (omega arith) (last_end ws (p + w) e.0 e.1)

    -- ---- texts

    abbrev EndingText : ℕ → List Scalar → Type 0
    EndingText p s = Ending p (clusters P s)

    abbrev ClusterEnds : ℕ → List Scalar → Type 0
    ClusterEnds p s = EachEnd F p (widths P (clusters P s))

    front_ends : (a b : List Scalar) (p : ℕ) → ClusterEnds p (a ++ b) → F (p + width_of P a) → ClusterEnds p a
    front_ends a b p e f = append_ends (clusters_appended P a b) p e (rw (widths_total P a) f)

    module _ (classes : WordBreakClasses P) where
      before_break : (c : Scalar) → word_break c.code ≡ true → (a s : List Scalar) (p : ℕ) → EndingText p (a ++ (c ∷ s)) → EndingText (p + width_of P a) (c ∷ s)
      before_break c k a s p t =
          let f = clusters_first P c s in
          let r = append_rest c _ _ k (rw f at (alone_behind P c (classes c.code k) a s)) p t in
          rw f (rw (widths_total P a) at r)

      behind_break : (c : Scalar) → word_break c.code ≡ true → (s : List Scalar) (p : ℕ) → EndingText p (c ∷ s) → EndingText (p + P.width c.code) s
      behind_break c k s p t = add_rest c (alone_front P c (classes c.code k) s) p k t

      behind_spaces : (s : List Scalar) (p : ℕ) → EndingText p s → EndingText (p + width_of P (leading true s)) (beyond true s)
      unfolding beyond leading
      behind_spaces [] p t = moved (omega (arith, width_nil P)) t
      behind_spaces (c ∷ s) p t =
          cases (whitespace c.code)
          (λ w. rw w (moved (omega (arith, width_cons P c (leading true s))) (behind_spaces s (p + P.width c.code) (behind_break c (rw w) s p t))))
          (λ w. rw w (moved (omega (arith, width_nil P)) t))

      -- ---- the first word, its separator and the rest

      record Parts (p : ℕ) (v : Word) (r : List Scalar) : Type 0 where
        word : ClusterEnds p v.word
        sep : ClusterEnds (p + width_of P v.word) v.sep
        rest : EndingText (behind P p v) r

      no_sep : (w r : List Scalar) (p : ℕ) → ClusterEnds p (w ++ r) → EndingText (p + width_of P w) r → Parts p (a_word w []) r
      unfolding EachEnd
      no_sep w r p e t = record { word = front_ends w r p e t.here; sep = rw (clusters_nil P) tt; rest = moved (omega (arith, width_nil P)) t }

      parts_from : (w b : List Scalar) → ((c : Scalar) (s : List Scalar) → b ≡ c ∷ s → belongs false c.code ≡ false) → (p : ℕ) → EndingText p (w ++ b) → Parts p (word_from w b) (rest_from b)
      unfolding EachEnd rest_from word_from
      parts_from w [] h p t =
          let u = rw (append-nil w) at t in
          no_sep w [] p t.ends (record { here = rw (widths_total P w) at (last_end (widths P (clusters P w)) p u.here u.ends); ends = rw (clusters_nil P) tt; unshared = rw (clusters_nil P) all_nil })
      parts_from w (c ∷ b) h p t =
          cases (eqb c.code 0x2D)
          (λ e.
          let k : word_break c.code ≡ true = rw (e, or-true (whitespace c.code)) in
          rw e (no_sep (w ++ (c ∷ [])) b p (rw (append_assoc w (c ∷ []) b) t.ends)
          (moved (omega (arith, width_append P w (c ∷ []), width_cons P c [], width_nil P)) (behind_break c k b (p + width_of P w) (before_break c k w b p t)))))
          (λ e.
          let i : whitespace c.code ≡ true = cases (whitespace c.code) (λ i. i) (λ i. absurd (true≢false (rw (i, e) at (h c b refl)))) in
          let q = before_break c (rw i) w b p t in
          let r = behind_spaces (c ∷ b) (p + width_of P w) q in
          rw e (record {
            word = front_ends w (c ∷ b) p t.ends q.here;
            sep = front_ends (leading true (c ∷ b)) (beyond true (c ∷ b)) (p + width_of P w) (subst (ClusterEnds (p + width_of P w)) (leading_beyond true (c ∷ b)) q.ends) r.here;
            rest = r;
          }))

      beyond_head : (s : List Scalar) (c : Scalar) (t : List Scalar) → beyond false s ≡ c ∷ t → belongs false c.code ≡ false
      unfolding beyond
      beyond_head [] c t e = absurd (let z : ◌≡◌ {A = ℕ} 0 1 = cc in omega arith)
      beyond_head (d ∷ s) c t e = cases (belongs false d.code) (λ b. beyond_head s c t (rw b at e)) (λ b. let f : d ∷ s ≡ c ∷ t = rw b at e in let q : d ≡ c = cc in rw (← q) b)

      first_parts : (s : List Scalar) (p : ℕ) → EndingText p s → Parts p (first_word s) (rest_words s)
      unfolding rest_words first_word
      first_parts s p t = parts_from (leading false s) (beyond false s) (beyond_head s) p (subst (EndingText p) (leading_beyond false s) t)

      word_ends : (vs : List Word) (s : List Scalar) → words s ≡ vs → (p : ℕ) → EndingText p s → WordEnds F P p vs
      unfolding WordEnds words
      word_ends [] s e p t = tt
      word_ends (v ∷ vs) [] e p t = absurd (let z : ◌≡◌ {A = ℕ} 0 1 = cc in omega arith)
      word_ends (v ∷ vs) (c ∷ s) e p t =
          let f : first_word (c ∷ s) ∷ words (rest_words (c ∷ s)) ≡ v ∷ vs = sym (words_first (c ∷ s) c s refl) ∙ e in
          let i : first_word (c ∷ s) ≡ v = cc in
          let r = first_parts (c ∷ s) p t in
          rw (← i) (r.word, r.sep, r.rest.here, word_ends vs (rest_words (c ∷ s)) (cc) (behind P p (first_word (c ∷ s))) r.rest)

      -- where F holds at the ends of a text's clusters, it holds wherever wrapping may end a row in the text
      pub text_ends : (b : Bool) (s : List Scalar) (p : ℕ) → F p → EachEnd F p (widths P (clusters P s)) → All (Unshared P) (clusters P s) → TextEnds F P b p s
      unfolding TextEnds
      text_ends true s p f e u = word_ends (words s) s refl p (record { here = f; ends = e; unshared = u })
      text_ends false s p f e u = e
