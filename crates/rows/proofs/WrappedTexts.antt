-- Texts wrapped by clusters and by words: steps one after the other, and the loops.
use mathlib.Core.Path.{◌≡◌, refl, sym, ap, ◌∙◌}
use Prim.Native.Nat.{ℕ, ◌+◌, ◌-◌, ◌*◌, ◌≤◌, ◌<◌}
use native.Mathlib.Omega.{arith}
use mathlib.Core.Bool.{Bool, true, false, not}
use mathlib.Core.List.{List, [], ◌∷◌, ◌++◌}
use mathlib.Core.Logic.{◌≢◌}
use lib.ListN.{length, drop, take, length-take}
use lib.Dec.{leb, ltb}
use Rattle.text.specs.Tests.{cases, true_T, is_false}
use Rattle.std.proofs.Common.{T_not}
use Rattle.text.specs.Each.{All, all_cons}
use Rattle.text.specs.Utf8.{Scalar}
use Rattle.text.specs.Utf8.Valid.{Valid}
use Rattle.text.specs.Class.{Profile}
use Rattle.text.specs.Width.{width_of}
use Rattle.text.specs.Cluster.{clusters}
use Rattle.text.specs.Cluster.Laws.{clusters_nil}
use Rattle.text.specs.Cluster.Spaces.{spaces_begin}
use Rattle.text.specs.Utf8.Code.{size}
use Rattle.text.specs.Segmentation.{first_of, NextClusterReady, NextCluster}
use Rattle.text.specs.Class.Code.{profile_of}
use Rattle.text.specs.Utf8.Code.Laws.{none_past, run_valid, run_front, size_nil, size_cons}
use Rattle.text.specs.Width.Laws.{width_append}
use Rattle.text.specs.declared.BytePlace.{BytePlace}
use Rattle.text.specs.declared.TextPart.{TextPart}
use Rattle.text.specs.declared.segmentation.ClusterStep.{ClusterStep}
use Rattle.text.specs.TextParts.{place, column, text_at}
use Rattle.text.specs.TextParts.Laws.{first_there, behind_part}
use Rattle.text.specs.Scalar.{packed_at, scalar_here}
use Rattle.text.specs.Scalar.Laws.{packed_inside, first_some, none_text, no_scalar, scalar_there}
use Rattle.text.specs.declared.scalar.Scalar as code
use Rattle.std.proofs.Common.{is_some}
use Rattle.std.proofs.Common.{Option as Maybe}
use Rattle.rows.specs.Marks.{drawn_columns}
use Rattle.rows.specs.Modes.{counts_drawn}
use Rattle.rows.specs.Words.{Word, words}
use Rattle.rows.specs.Words.Laws.{first_word, rest_words, first_word_all, first_word_some, words_first}
use Rattle.rows.specs.Rows.{Row, Wrap, wrap, pushed, unbroken, by_clusters, by_words, long_word, one_word, split_text}
use Rattle.rows.specs.Rows.Laws.{over, Natural, by_clusters_over, long_word_over, by_words_over}
use Rattle.rows.specs.Words.Contracts.{WordAt, both_of}
use Rattle.rows.specs.Wrap.{WordRoom, RowList, with_row, with_rows, WrapRows, wrap_rows, on, Room, Stepped, advanced, unbroken_of, clusters_of, long_word_of, one_word_of, words_of, word_mode, count_of, text_of}
use Rattle.text.specs.declared.class.Profile as profile
use Rattle.rows.specs.declared.wrap.WrapState.{WrapState}
use Rattle.rows.proofs.WordClusters.{word_clusters}
use Rattle.rows.proofs.PushedRows.{stays}

-- ---- one after the other

written_append : (k : RowList) (a b : List Row) → with_rows k (a ++ b) ≡ with_rows (with_rows k b) a
unfolding with_rows
written_append k [] b = refl
written_append k (r ∷ a) b = ap (λ (x : RowList). with_row x r) (written_append k a b)

holding : RowList → Wrap → WrapRows
holding k t = record { rows = with_rows k t.rows; start = t.start; position = t.position }

holding_over : (k : RowList) (rs : List Row) (t : Wrap) → holding k (over rs t) ≡ holding (with_rows k rs) t
unfolding holding over
holding_over k rs t = ap (λ (x : RowList). record { rows = x; start = t.start; position = t.position }) (written_append k t.rows rs)

on_at : (f g : Wrap → Wrap) (h : WrapRows) → f (wrap [] h.start h.position) ≡ g (wrap [] h.start h.position) → on f h ≡ on g h
unfolding on holding
on_at f g h e = ap (holding h.rows) e

pub on_then : (f g : Wrap → Wrap) (h : WrapRows) → Natural g → on g (on f h) ≡ on (λ (t : Wrap). g (f t)) h
unfolding on holding over
on_then f g h n =
    let t : Wrap = f (wrap [] h.start h.position) in
    sym (ap (holding h.rows) (n t.rows (wrap [] t.start t.position)) ∙ holding_over h.rows t.rows (g (wrap [] t.start t.position)))

pub on_id : (f : Wrap → Wrap) (h : WrapRows) → ((t : Wrap) → f t ≡ t) → on f h ≡ h
unfolding on holding with_rows
on_id f h e = ap (holding h.rows) (e (wrap [] h.start h.position))

-- what is left to do: a turn, and the end
module _ (run : Wrap → Wrap) (h : WrapRows) {e : WrapRows} (work : on run h ≡ e) where
  pub turn : (step rest : Wrap → Wrap) (h' : WrapRows) → ((t : Wrap) → run t ≡ rest (step t)) → Natural rest → h' ≡ on step h → on rest h' ≡ e
  turn step rest h' q n s = ap (on rest) s ∙ on_then step rest h n ∙ sym (on_at run (λ (t : Wrap). rest (step t)) h (q (wrap [] h.start h.position))) ∙ work

  pub done : ((t : Wrap) → run t ≡ t) → h ≡ e
  done q = sym (on_id run h q) ∙ work

-- two steps are one
then_same : (f g F : Wrap → Wrap) (h h₁ h₂ : WrapRows) → h₁ ≡ on f h → h₂ ≡ on g h₁ → Natural g → F (wrap [] h.start h.position) ≡ g (f (wrap [] h.start h.position)) → h₂ ≡ on F h
then_same f g F h h₁ h₂ p q n e = q ∙ ap (on g) p ∙ on_then f g h n ∙ sym (on_at F (λ (t : Wrap). g (f t)) h e)

-- the same step under another name
pub renamed : (l l' : List ℕ) (t t' : WrapState) (f g : Wrap → Wrap) (n m j k : ℕ) → ((w : Wrap) → f w ≡ g w) → n ≤ j → m ≤ k → Stepped l t f n m l' t' → Stepped l t g j k l' t'
renamed l l' t t' f g n m j k e h i s =
    record { same = s.same ∙ on_at f g (wrap_rows l t) (e (wrap [] t.start.0 t.position.0)); low = s.low; near = omega (arith, s.near); more = omega (arith, s.more) }

pub record Stepping (F : List Scalar → Wrap → Wrap) (text l₀ : List ℕ) (t₀ : WrapState) (p : BytePlace) (l : List ℕ) (t : WrapState) : Type 0 where
  pub inside : p.0 ≤ length text
  pub long : length l ≡ length l₀
  pub work : on (F (text_at text p.0)) (wrap_rows l t) ≡ on (F (text_at text 0)) (wrap_rows l₀ t₀)
  pub low : t.start.0 ≤ t.position.0
  pub near : t.position.0 ≤ t₀.position.0 + 2 * p.0

-- ---- by clusters

module _ (P : Profile) (width : ℕ) where
  clusters_none : (s : List Scalar) → s ≡ [] → (t : Wrap) → clusters_of P width s t ≡ t
  unfolding clusters_of by_clusters
  clusters_none s e t = ap (by_clusters P width t) (ap (clusters P) e ∙ clusters_nil P)

  clusters_natural : (s : List Scalar) → Natural (clusters_of P width s)
  unfolding clusters_of
  clusters_natural s = by_clusters_over P width (clusters P s)

  clusters_more : (s rest : List Scalar) (n : ℕ) → clusters P s ≡ first_of (clusters P s) ∷ clusters P rest → n ≡ width_of P (first_of (clusters P s))
      → (t : Wrap) → clusters_of P width s t ≡ clusters_of P width rest (unbroken_of width n t)
  unfolding clusters_of by_clusters unbroken_of
  clusters_more s rest n e v t = rw v (ap (by_clusters P width t) e)

pub record Breaking (P : Profile) (width : ℕ) (text l₀ : List ℕ) (t₀ : WrapState) (p : BytePlace) (u : Maybe code.Scalar) (l : List ℕ) (t : WrapState) : Type 0 where
  pub so : Stepping (clusters_of P width) text l₀ t₀ p l t
  pub more : t.tally.count ≤ t₀.tally.count + p.0
  pub scalar : u ≡ scalar_here P text p.0

pub break_begin : (P : Profile) (width n : ℕ) (text l : List ℕ) (t : WrapState) (u : Maybe code.Scalar) → u ≡ scalar_here P text 0 → Room t n → Breaking P width text l t (place 0) u l t
break_begin P width n text l t u e r = record { so = record { inside = omega arith; long = refl; work = refl; low = r.low; near = omega arith }; more = omega arith; scalar = e }

module _ (P : Profile) (width : ℕ) (text l₀ : List ℕ) (t₀ : WrapState) (p : BytePlace) (u : Maybe code.Scalar) (l : List ℕ) (t : WrapState) (b : Breaking P width text l₀ t₀ p u l t) where
  abbrev now_text : List Scalar
  now_text = text_at text p.0

  break_done : now_text ≡ [] → Stepped l₀ t₀ (clusters_of P width (text_at text 0)) (2 * length text) (length text) l t
  break_done e =
      record {
        same = done (clusters_of P width now_text) (wrap_rows l t) b.so.work (clusters_none P width now_text e);
        low = b.so.low;
        near = omega (arith, b.so.near, b.so.inside);
        more = omega (arith, b.more, b.so.inside);
      }

  pub break_end : is_some u ≡ false → Stepped l₀ t₀ (clusters_of P width (text_at text 0)) (2 * length text) (length text) l t
  break_end z = break_done (none_text P text p.0 u b.scalar (no_scalar u z))

  break_some : is_some u ≡ true → (packed_at P text p.0 ≢ 0)
  break_some = scalar_there P text p.0 u b.scalar

  pub break_ready : is_some u ≡ true → NextClusterReady P text p.0 u
  break_ready z = record { inside = packed_inside P text p.0 (packed_at P text p.0) refl (break_some z); scalar = b.scalar }

  module _ (g : ClusterStep) (c : NextCluster P text p.0 g) where
    break_further : is_some u ≡ true → p.0 < g.part.end.0
    break_further z = omega (arith, c.part.end, first_some P text p.0 (packed_at P text p.0) refl (break_some z))

    pub break_less : is_some u ≡ true → length text - g.part.end.0 < length text - p.0
    break_less z = let h = break_further z in omega (arith, h, c.part.inside)

    pub break_turn : (l' : List ℕ) (t' : WrapState) → is_some u ≡ true → Stepped l t (unbroken_of width g.part.width.0) g.part.width.0 1 l' t' → length l' ≡ length l
        → Breaking P width text l₀ t₀ g.part.end g.next l' t'
    break_turn l' t' z s k =
        let m = c.part in
        let h = break_further z in
        let f = first_there P now_text (λ o. absurd (omega (arith, m.end))) in
        let r : text_at text g.part.end.0 ≡ f.rest = behind_part P text p.0 (first_of (clusters P now_text)) f.rest g.part m f.text in
        record {
          so = record {
            inside = m.inside;
            long = k ∙ b.so.long;
            work = ap (λ (x : List Scalar). on (clusters_of P width x) (wrap_rows l' t')) r
                ∙ turn (clusters_of P width now_text) (wrap_rows l t) b.so.work (unbroken_of width g.part.width.0) (clusters_of P width f.rest) (wrap_rows l' t') (clusters_more P width now_text f.rest g.part.width.0 f.clusters m.width) (clusters_natural P width f.rest) s.same;
            low = s.low;
            near = omega (arith, s.near, b.so.near, m.small, m.end);
          };
          more = omega (arith, s.more, b.more, h);
          scalar = c.next;
        }

pub break_none : (P : Profile) (width n : ℕ) (text l : List ℕ) (t : WrapState) → Room t n → length text ≡ 0 → Stepped l t (clusters_of P width (text_at text 0)) (2 * length text) (length text) l t
break_none P width n text l t r h = break_done P width text l t (place 0) (scalar_here P text 0) l t (break_begin P width n text l t (scalar_here P text 0) refl r) (none_past text 0 (omega arith))

-- ---- a word

-- its text, and the text behind it
module _ (P : Profile) (text : List ℕ) (at : ℕ) (v : TextPart) (w : WordAt P text at v) where
  both_part : text_at (take (v.end.0 - at) (drop at text)) 0 ≡ both_of (first_word (text_at text at))
  both_part =
      let n : v.end.0 - at ≡ size (both_of (first_word (text_at text at))) = omega (arith, w.end) in
      rw n (run_front (drop at text) (both_of (first_word (text_at text at))) _ (first_word_all (text_at text at)))

  pub behind_all : text_at text v.end.0 ≡ rest_words (text_at text at)
  behind_all = behind_part P text at (both_of (first_word (text_at text at))) (rest_words (text_at text at)) v w (first_word_all (text_at text at))

module _ (P : Profile) (width : ℕ) (text : List ℕ) (at : BytePlace) (v : TextPart) (t : WrapState) (w : WordRoom P text at.0 v t) where
  abbrev the_word : Word
  the_word = first_word (text_at text at.0)

  word_end_law : t.position.0 + v.width.0 ≡ t.position.0 + width_of P the_word.word + width_of P the_word.sep
  word_end_law = omega (arith, w.there.width, width_append P the_word.word the_word.sep)

  word_stays : (f : Wrap → Wrap) (m : ℕ) (l : List ℕ) (t' : WrapState) → f (wrap [] t.start.0 t.position.0) ≡ wrap [] t.start.0 (t.position.0 + v.width.0)
      → t' ≡ advanced t v.width.0 → Stepped l t f (2 * (v.end.0 - at.0)) m l t'
  word_stays f m l t' q e =
      rw e (stays l t f (2 * (v.end.0 - at.0)) t.start (column (t.position.0 + v.width.0)) (omega (arith, w.room.low)) (omega (arith, w.there.small)) m q)

  pub long_fits : (l : List ℕ) (b : Bool) (t' : WrapState) → b ≡ leb (t.position.0 + v.width.0 - t.start.0) width → b ≡ true → t' ≡ advanced t v.width.0
      → Stepped l t (long_word_of P width the_word) (2 * (v.end.0 - at.0)) (v.end.0 - at.0) l t'
  unfolding long_word_of long_word
  long_fits l b t' q h e = word_stays (long_word_of P width the_word) (v.end.0 - at.0) l t' (rw (← word_end_law, sym q ∙ h)) e

  pub one_fits : (l : List ℕ) (b : Bool) (t' : WrapState) → b ≡ leb (t.position.0 + v.width.0 - t.start.0) width → b ≡ true → t' ≡ advanced t v.width.0
      → Stepped l t (one_word_of P width the_word) (2 * (v.end.0 - at.0)) (v.end.0 - at.0 + 1) l t'
  unfolding one_word_of one_word
  one_fits l b t' q h e = word_stays (one_word_of P width the_word) (v.end.0 - at.0 + 1) l t' (rw (← word_end_law, sym q ∙ h)) e

  pub one_wraps : (l l₁ l₂ : List ℕ) (t₁ t₂ : WrapState) (c : Bool) → c ≡ leb (t.position.0 + v.width.0 - t.start.0) width → c ≡ false → Stepped l t pushed 0 1 l₁ t₁
      → Stepped l₁ t₁ (long_word_of P width the_word) (2 * (v.end.0 - at.0)) (v.end.0 - at.0) l₂ t₂
      → Stepped l t (one_word_of P width the_word) (2 * (v.end.0 - at.0)) (v.end.0 - at.0 + 1) l₂ t₂
  unfolding one_word_of one_word long_word_of
  one_wraps l l₁ l₂ t₁ t₂ c q h a b =
      record {
        same = then_same pushed (long_word_of P width the_word) (one_word_of P width the_word) (wrap_rows l t) (wrap_rows l₁ t₁) (wrap_rows l₂ t₂) a.same b.same (long_word_over P width the_word)
            (rw (← word_end_law, sym q ∙ h));
        low = b.low;
        near = omega (arith, a.near, b.near);
        more = omega (arith, a.more, b.more);
      }

clusters_append : (P : Profile) (width : ℕ) (gs hs : List (List Scalar)) (t : Wrap) → by_clusters P width t (gs ++ hs) ≡ by_clusters P width (by_clusters P width t gs) hs
unfolding by_clusters
clusters_append P width [] hs t = refl
clusters_append P width (g ∷ gs) hs t = clusters_append P width gs hs (unbroken width t (width_of P g))

-- a word is broken with its separator
module _ (f : profile.Profile) (width : ℕ) (text : List ℕ) (at : BytePlace) (v : TextPart) (t : WrapState) (w : WordRoom (profile_of f) text at.0 v t) where
  abbrev P : Profile
  P = profile_of f

  abbrev broken : Word
  broken = first_word (text_at text at.0)

  pub long_breaks : (l l₂ : List ℕ) (t₂ : WrapState) (c : Bool) → c ≡ leb (t.position.0 + v.width.0 - t.start.0) width → c ≡ false
      → Stepped l t (clusters_of P width (text_at (take (v.end.0 - at.0) (drop at.0 text)) 0)) (2 * length (take (v.end.0 - at.0) (drop at.0 text))) (length (take (v.end.0 - at.0) (drop at.0 text))) l₂ t₂
      → Stepped l t (long_word_of P width broken) (2 * (v.end.0 - at.0)) (v.end.0 - at.0) l₂ t₂
  unfolding long_word_of long_word clusters_of
  long_breaks l l₂ t₂ c q h a =
      let x : length (take (v.end.0 - at.0) (drop at.0 text)) ≤ v.end.0 - at.0 = rw length-take (omega arith) in
      let u : Wrap = wrap [] t.start.0 t.position.0 in
      let z : long_word_of P width broken u ≡ by_clusters P width (by_clusters P width u (clusters P broken.word)) (clusters P broken.sep) = rw (← word_end_law P width text at v t w, sym q ∙ h) in
      record {
        same = a.same ∙ on_at (clusters_of P width (text_at (take (v.end.0 - at.0) (drop at.0 text)) 0)) (long_word_of P width broken) (wrap_rows l t)
            (ap (λ (s : List Scalar). by_clusters P width u (clusters P s)) (both_part P text at.0 v w.there)
            ∙ ap (by_clusters P width u) (word_clusters P (spaces_begin f) (text_at text at.0))
            ∙ clusters_append P width (clusters P broken.word) (clusters P broken.sep) u
            ∙ sym z);
        low = a.low;
        near = omega (arith, a.near, x);
        more = omega (arith, a.more, x);
      }

-- ---- by words

module _ (P : Profile) (width : ℕ) where
  words_none : (s : List Scalar) → s ≡ [] → (t : Wrap) → words_of P width s t ≡ t
  unfolding words_of by_words words
  words_none s e t = rw e

  words_natural : (s : List Scalar) → Natural (words_of P width s)
  unfolding words_of
  words_natural s = by_words_over P width (words s)

  words_more : (s : List Scalar) (c : Scalar) (r : List Scalar) → s ≡ c ∷ r → (t : Wrap) → words_of P width s t ≡ words_of P width (rest_words s) (one_word_of P width (first_word s) t)
  unfolding words_of by_words one_word_of
  words_more s c r e t = ap (by_words P width t) (words_first s c r e)

pub record Wording (P : Profile) (width : ℕ) (text l₀ : List ℕ) (t₀ : WrapState) (p : BytePlace) (l : List ℕ) (t : WrapState) : Type 0 where
  pub so : Stepping (words_of P width) text l₀ t₀ p l t
  pub more : t.tally.count ≤ t₀.tally.count + 2 * p.0

pub word_begin : (P : Profile) (width n : ℕ) (text l : List ℕ) (t : WrapState) → Room t n → Wording P width text l t (record { 0 = 0 }) l t
word_begin P width n text l t r = record { so = record { inside = omega arith; long = refl; work = refl; low = r.low; near = omega arith }; more = omega arith }

module _ (P : Profile) (width : ℕ) (text l₀ : List ℕ) (t₀ : WrapState) (p : BytePlace) (l : List ℕ) (t : WrapState) (b : Wording P width text l₀ t₀ p l t) where
  word_done : text_at text p.0 ≡ [] → Stepped l₀ t₀ (words_of P width (text_at text 0)) (2 * length text) (2 * length text) l t
  word_done e =
      record {
        same = done (words_of P width (text_at text p.0)) (wrap_rows l t) b.so.work (words_none P width (text_at text p.0) e);
        low = b.so.low;
        near = omega (arith, b.so.near, b.so.inside);
        more = omega (arith, b.more, b.so.inside);
      }

  pub words_end : length text ≤ p.0 → Stepped l₀ t₀ (words_of P width (text_at text 0)) (2 * length text) (2 * length text) l t
  words_end h = word_done (none_past text p.0 h)

  module _ (v : TextPart) (w : WordAt P text p.0 v) where
    no_word : (s : List Scalar) → All Valid s → v.end.0 ≡ p.0 + size (both_of (first_word s)) → v.end.0 ≡ p.0 → s ≡ []
    no_word [] a e h = refl
    no_word (c ∷ s) (all_cons x a) e h = let k = first_word_some c s in absurd (omega (arith, x.some, size_cons c k.0, rw k.1 at e))

    pub words_stop : v.end.0 ≡ p.0 → Stepped l₀ t₀ (words_of P width (text_at text 0)) (2 * length text) (2 * length text) l t
    words_stop h = word_done (no_word (text_at text p.0) (run_valid (drop p.0 text)) w.end h)

    some_word : (s : List Scalar) → (v.end.0 ≢ p.0) → v.end.0 ≡ p.0 + size (both_of (first_word s)) → (c : Scalar) × (r : List Scalar) × (s ≡ c ∷ r)
    unfolding first_word
    some_word [] z e = absurd (z (omega (arith, size_nil)))
    some_word (c ∷ s) z e = (c, s, refl)

    pub words_turn : (l' : List ℕ) (t' : WrapState) → (v.end.0 ≢ p.0)
        → Stepped l t (one_word_of P width (first_word (text_at text p.0))) (2 * (v.end.0 - p.0)) (v.end.0 - p.0 + 1) l' t' → length l' ≡ length l
        → Wording P width text l₀ t₀ v.end l' t'
    words_turn l' t' z s k =
        let f = some_word (text_at text p.0) z w.end in
        record {
          so = record {
            inside = w.inside;
            long = k ∙ b.so.long;
            work = ap (λ (x : List Scalar). on (words_of P width x) (wrap_rows l' t')) (behind_all P text p.0 v w)
                ∙ turn (words_of P width (text_at text p.0)) (wrap_rows l t) b.so.work (one_word_of P width (first_word (text_at text p.0))) (words_of P width (rest_words (text_at text p.0))) (wrap_rows l' t') (words_more P width (text_at text p.0) f.0 f.1 f.2) (words_natural P width (rest_words (text_at text p.0))) s.same;
            low = s.low;
            near = omega (arith, s.near, b.so.near, w.end);
          };
          more = omega (arith, s.more, b.more, w.end, z);
        }

-- ---- by the mode

module _ (P : Profile) (width mode : ℕ) (s : List Scalar) (l l' : List ℕ) (t t' : WrapState) (n m : ℕ) (b : Bool) (test : b ≡ word_mode mode) where
  pub text_words : b ≡ true → Stepped l t (words_of P width s) n (2 * m) l' t' → Stepped l t (text_of P width (word_mode mode) s) n (2 * m) l' t'
  unfolding text_of split_text words_of
  text_words e k = renamed l l' t t' (words_of P width s) (text_of P width (word_mode mode) s) n (2 * m) n (2 * m) (λ w. rw (sym test ∙ e)) (omega arith) (omega arith) k

  pub text_clusters : b ≡ false → Stepped l t (clusters_of P width s) n m l' t' → Stepped l t (text_of P width (word_mode mode) s) n (2 * m) l' t'
  unfolding text_of split_text clusters_of
  text_clusters e k = renamed l l' t t' (clusters_of P width s) (text_of P width (word_mode mode) s) n m n (2 * m) (λ w. rw (sym test ∙ e)) (omega arith) (omega arith) k

-- an Unprintable span
module _ (width mode : ℕ) (s : List Scalar) (l l' : List ℕ) (t t' : WrapState) (n : ℕ) (b : Bool) (test : b ≡ counts_drawn mode) where
  counted_by : b ≡ true → ltb mode 3 ≡ false
  counted_by e = is_false (ltb mode 3) (T_not (ltb mode 3) (true_T (sym test ∙ e)))

  pub unprintable_eight : b ≡ false → Stepped l t (unbroken_of width 8) 8 1 l' t' → Stepped l t (unbroken_of width (count_of mode s)) (n + 8) 1 l' t'
  unfolding count_of
  unprintable_eight e k =
      let f : ltb mode 3 ≡ true = cases (ltb mode 3) (λ h. h) (λ h. absurd (let z : true ≡ false = sym (ap not h) ∙ sym test ∙ e in cc)) in
      renamed l l' t t' (unbroken_of width 8) (unbroken_of width (count_of mode s)) 8 1 (n + 8) 1 (λ w. rw f) (omega arith) (omega arith) k

  pub unprintable_drawn : (c : ℕ) → b ≡ true → c ≡ drawn_columns s → c ≤ n → Stepped l t (unbroken_of width c) c 1 l' t' → Stepped l t (unbroken_of width (count_of mode s)) (n + 8) 1 l' t'
  unfolding count_of
  unprintable_drawn c e f g k = renamed l l' t t' (unbroken_of width c) (unbroken_of width (count_of mode s)) c 1 (n + 8) 1 (λ w. rw (counted_by e, f)) (omega arith) (omega arith) k
