-- A step of overstrike, in the code's state.
use Prim.Native.Nat.{suc, ℕ, ◌+◌, ◌-◌, ◌<◌, ◌≤◌}
use native.Mathlib.Omega.{arith}
use native.Mathlib.Numerals.{add-one}
use mathlib.Core.Logic.{◌≢◌}
use borrow.Author.Tests.{eq-eqb, ne_eqb}
use mathlib.Core.Bool.{Bool, cond, false, true, ◌&&◌, ◌||◌}
use mathlib.Core.List.{List, [], ◌++◌, ◌∷◌, append_assoc, reverse, reverse-reverse, reverse_aux-append}
use mathlib.Core.Path.{◌∙◌, ◌≡◌, ap, refl, sym}
use lib.Dec.{eqb}
use lib.ListN.{drop, drop_of_length-le, get_or, length, length-append, take}
use lib.Seq.{drop-cons, length-slice, length-take-le, slice}
use Rattle.text.specs.Class.{Profile}
use Rattle.text.specs.Cluster.Walk.{size_is}
use Rattle.text.specs.Backward.{KnownPlace, backward}
use Rattle.text.specs.Utf8.Code.{whole}
use Rattle.text.specs.Overstrike.Code.{BackReady, BackspaceStep, FinishReady, Finished, Front, FrontKnown, Part, Pushed, Sound, StepReady, Stepped, Strike, StruckStep, backspace_on, cluster_on, conversion, finish_on, order_of, span_of, PendingPart, part_of, pending_of, plain, pushed_on, state_of, style_of}
use Rattle.text.specs.Overstrike.{State, Style, ambiguous, backspace, bold, bold_underline, bolded, finish, held, none, normal, on_backspace, on_cluster, order, push, state, step, strike, underline, underlined}
use Rattle.text.specs.Overstrike.Laws.{push_reverse}
use Rattle.text.specs.Overstrike.Length.{cost, cost_normal, order_size, waiting, weight}
use Rattle.text.specs.Tests.{cases}
use Rattle.text.specs.Utf8.{Scalar, asciis, bytes_of, decode, decode_from, reads, run_of, same_bytes}
use Rattle.text.specs.declared.overstrike.Conversion.{Conversion}
use Rattle.text.specs.declared.overstrike.LinePart.{LinePart}
use Rattle.text.specs.declared.overstrike.Pending as code
use Rattle.text.specs.declared.overstrike.Pending.TheVariants.{Nothing, Held, Struck}
use Rattle.text.specs.declared.backward.Erasure.{Erasure}
use Rattle.text.specs.declared.overstrike.Overstrike.{Overstrike}
use Rattle.text.proofs.RegionalIndicators.{known_more}
use Rattle.text.proofs.Pushing.{front_push}
use Rattle.text.proofs.Runs.{part_slice, size_reverse}
use Rattle.text.proofs.Texts.{run_append, whole_append}

-- ---- parts of the line and fronts of a buffer

pub part_none : (line : List ℕ) → Part line 0 0
unfolding run_of decode decode_from bytes_of
part_none line = record { ordered = omega arith; within = omega arith; valid = refl }

front_of : {P : Profile} (line l : List ℕ) (st : Conversion) → Sound P line l st → Front l st.len (backward (take st.len l))
front_of line l st w = record { inside = w.inside; scalars = refl; valid = w.valid }

-- what stands in front of a buffer has the size that it should
pub front_size : (l : List ℕ) (r : ℕ) (out : List Scalar) → Front l r out → length (bytes_of out) ≡ r
unfolding backward
front_size l r out f =
    ap (λ (x : List Scalar). length (bytes_of x)) (sym f.scalars)
    ∙ sym (size_is (reverse (run_of (decode (take r l)))))
    ∙ size_reverse (run_of (decode (take r l)))
    ∙ size_is (run_of (decode (take r l)))
    ∙ ap length f.valid
    ∙ length-take-le r l f.inside

pub front_text : (l : List ℕ) (r : ℕ) (out : List Scalar) → Front l r out → run_of (decode (take r l)) ≡ reverse out
unfolding backward
front_text l r out f = sym (reverse-reverse (run_of (decode (take r l)))) ∙ ap reverse f.scalars

part_size_law : (line : List ℕ) (a e : ℕ) → Part line a e → length (bytes_of (part_of line a e)) ≡ e - a
part_size_law line a e p = ap length p.valid ∙ length-slice a e line p.within

-- ---- writing the pending cluster

order_text : (b s : Style) → (run_of (decode (order b s)) ≡ asciis (order b s)) × whole (order b s)
unfolding order run_of decode asciis bytes_of
order_text normal normal = (refl, refl)
order_text normal bold = (refl, refl)
order_text normal underline = (refl, refl)
order_text normal bold_underline = (refl, refl)
order_text bold normal = (refl, refl)
order_text bold bold = (refl, refl)
order_text bold underline = (refl, refl)
order_text bold bold_underline = (refl, refl)
order_text underline normal = (refl, refl)
order_text underline bold = (refl, refl)
order_text underline underline = (refl, refl)
order_text underline bold_underline = (refl, refl)
order_text bold_underline normal = (refl, refl)
order_text bold_underline bold = (refl, refl)
order_text bold_underline underline = (refl, refl)
order_text bold_underline bold_underline = (refl, refl)

pub front_order : (l l' : List ℕ) (len r : ℕ) (b s : Overstrike) (out : List Scalar) → Front l len out → Pushed l l' len (order_of b s) r → Front l' r (push (asciis (order_of b s)) out)
front_order l l' len r b s out f p =
    let o = order_text (style_of b) (style_of s) in
    rw o.0 at (front_push l l' len r (order_of b s) out f o.1 p)

-- the order and the pending cluster, pushed as bytes
abbrev pending : List ℕ → Conversion → LinePart → List ℕ
pending line st h = order_of st.before st.style ++ take (h.end - h.at) (drop h.at line)

-- the pending cluster is a part of the line
part_of_held : {P : Profile} (line l : List ℕ) (st : Conversion) (h : LinePart) → Sound P line l st → st.pending ≡ Held h → Part line h.at h.end
unfolding span_of
part_of_held line l st h w k = rw k at w.part

part_of_struck : {P : Profile} (line l : List ℕ) (st : Conversion) (h : LinePart) → Sound P line l st → st.pending ≡ Struck h → Part line h.at h.end
unfolding span_of
part_of_struck line l st h w k = rw k at w.part

pub front_pending : {P : Profile} (line l l' : List ℕ) (st : Conversion) (h : LinePart) (r : ℕ) → Sound P line l st → st.pending ≡ Held h → Pushed l l' st.len (pending line st h) r → Front l' r (pushed_on line l st h)
unfolding pushed_on
front_pending line l l' st h r w k p =
    let o = order_text (style_of st.before) (style_of st.style) in
    let x : List ℕ = order_of st.before st.style in
    let y : List ℕ = slice h.at h.end line in
    let q : Pushed l l' st.len (x ++ y) r = rw (part_slice h.at h.end line) at p in
    let e : run_of (decode (x ++ y)) ≡ asciis x ++ run_of (decode y) = run_append (asciis x) x y o.0 (ap bytes_of (sym o.0) ∙ o.1) in
    rw (e, reverse_aux-append (asciis x) (run_of (decode y)) _) at (front_push l l' st.len r (x ++ y) _ (front_of line l st w) (whole_append x y o.1 (part_of_held line l st h w k).valid) q)

-- ---- the weight bounds what is still written

module _ {P : Profile} (line l : List ℕ) (st : Conversion) (w : Sound P line l st) where
  len_size : length (bytes_of (backward (take st.len l))) ≡ st.len
  len_size = front_size l st.len _ (front_of line l st w)

  pub len_weight : st.len ≤ weight (state_of line l st)
  unfolding state_of weight
  len_weight = let a = len_size in omega arith

  order_length : (b s : Overstrike) → length (order_of b s) ≤ cost (style_of b) + cost (style_of s)
  order_length b s =
      let e : length (bytes_of (asciis (order_of b s))) ≡ length (order_of b s) = ap (λ (x : List Scalar). length (bytes_of x)) (sym (order_text (style_of b) (style_of s)).0) ∙ ap length (order_text (style_of b) (style_of s)).1 in
      omega (arith, order_size (style_of b) (style_of s))

  pub held_weight : (h : LinePart) → st.pending ≡ Held h → st.len + (length (order_of st.before st.style) + (h.end - h.at)) + length (order_of st.style plain) ≤ weight (state_of line l st)
  unfolding state_of pending_of weight waiting style_of
  held_weight h k =
      let a = len_size in
      let b = part_size_law line h.at h.end (part_of_held line l st h w k) in
      let c = order_length st.before st.style in
      let d = order_length st.style plain in
      let z = cost_normal in
      rw k (omega arith)

  pub other_weight : st.len + length (order_of st.before plain) ≤ weight (state_of line l st)
  unfolding state_of weight style_of
  other_weight =
      let a = len_size in
      let d = order_length st.before plain in
      let z = cost_normal in
      omega arith

-- ---- a backspace

on_none : (P : Profile) (line : List ℕ) (out : List Scalar) (q : code.Pending) (b s : Style) → ((h : LinePart) → q ≡ Held h → ⊥)
    → state (backspace P out) none b normal ≡ on_backspace P out (pending_of line q) b s
unfolding on_backspace pending_of
on_none P line out Nothing b s k = refl
on_none P line out (Struck h) b s k = refl
on_none P line out (Held h) b s k = absurd (k h refl)

pub back_struck : (P : Profile) (line l : List ℕ) (st : Conversion) (h : LinePart) → st.pending ≡ Held h → BackReady P l st.len st.known → PendingPart line st.pending
    → Stepped P line l (conversion st.len (Struck h) st.before st.style st.known) (backspace_on P (state_of line l st))
unfolding state_of pending_of backspace_on on_backspace span_of
back_struck P line l st h k w p = record { same = rw k refl; sound = record { inside = omega (arith, w.room); valid = w.valid; part = rw k at p; known = w.known } }

pub back_none : (P : Profile) (line l l' : List ℕ) (st : Conversion) (r : Erasure) → ((h : LinePart) → st.pending ≡ Held h → ⊥) → FrontKnown P l' r (backspace P (backward (take st.len l)))
    → Stepped P line l' (conversion r.at Nothing st.before plain r.known) (backspace_on P (state_of line l st))
unfolding state_of pending_of backspace_on style_of span_of
back_none P line l l' st r k t = record {
  same =
      ap (λ (x : List Scalar). state x none (style_of st.before) normal) t.front.scalars
      ∙ on_none P line (backward (take st.len l)) st.pending (style_of st.before) (style_of st.style) k;
  sound = record { inside = t.front.inside; valid = t.front.valid; part = part_none line; known = t.known };
}

-- ---- a cluster

pub hold_none : (P : Profile) (line l : List ℕ) (st : Conversion) (c : LinePart) → st.pending ≡ Nothing → Sound P line l st → Part line c.at c.end
    → Stepped P line l (conversion st.len (Held c) st.style plain st.known) (cluster_on P (state_of line l st) (part_of line c.at c.end))
unfolding state_of pending_of cluster_on on_cluster style_of span_of
hold_none P line l st c k w u = record { same = rw k refl; sound = record { inside = w.inside; valid = w.valid; part = u; known = w.known } }

known_pushed : {P : Profile} (line l l' : List ℕ) (st : Conversion) (h : LinePart) (n : ℕ) → Sound P line l st → Front l' n (pushed_on line l st h) → KnownPlace P (take n l') st.known
unfolding pushed_on backward
known_pushed line l l' st h n w f =
    let g : List Scalar = part_of line h.at h.end in
    let o : List Scalar = asciis (order_of st.before st.style) in
    let r : run_of (decode (take n l')) ≡ run_of (decode (take st.len l)) ++ (o ++ g) =
    front_text l' n _ f ∙ push_reverse g (push o (reverse (run_of (decode (take st.len l))))) ∙ ap (λ (x : List Scalar). x ++ g) (push_reverse o (reverse (run_of (decode (take st.len l)))) ∙ ap (λ (x : List Scalar). x ++ o) (reverse-reverse (run_of (decode (take st.len l)))))
    ∙ append_assoc (run_of (decode (take st.len l))) o g in
    known_more _ (take st.len l) (take n l') (o ++ g) st.known r w.known

pub hold_pushed : (P : Profile) (line l l' : List ℕ) (st : Conversion) (h : LinePart) (n : ℕ) (c : LinePart) → st.pending ≡ Held h → Front l' n (pushed_on line l st h) → Sound P line l st → Part line c.at c.end
    → Stepped P line l' (conversion n (Held c) st.style plain st.known) (cluster_on P (state_of line l st) (part_of line c.at c.end))
unfolding state_of pending_of cluster_on on_cluster style_of pushed_on span_of
hold_pushed P line l l' st h n c k f w u = record {
  same = rw k (ap (λ (x : List Scalar). state x (held (part_of line c.at c.end)) (style_of st.style) normal) f.scalars);
  sound = record { inside = f.inside; valid = f.valid; part = u; known = known_pushed line l l' st h n w f };
}

-- ---- a strike

module _ (line : List ℕ) (st : Conversion) (u c : LinePart) (w : Strike line st u c) (x uh ug : Bool)
    (xs : x ≡ same_bytes (take (u.end - u.at) (drop u.at line)) (take (c.end - c.at) (drop c.at line)))
    (hs : uh ≡ same_bytes (take (c.end - c.at) (drop c.at line)) (0x5F ∷ []))
    (gs : ug ≡ same_bytes (take (u.end - u.at) (drop u.at line)) (0x5F ∷ [])) where
  abbrev under : List Scalar
  under = part_of line u.at u.end

  abbrev upper : List Scalar
  upper = part_of line c.at c.end

  abbrev result : List ℕ → List Scalar → Style → State
  result l g s = state (backward (take st.len l)) (held g) (style_of st.before) s

  struck_all : (P : Profile) (l : List ℕ) → cluster_on P (state_of line l st) upper
      ≡ cond x (cond uh (result l under (ambiguous (style_of st.before) (style_of st.style))) (result l under (bolded (style_of st.style))))
      (cond uh (result l under (underlined (style_of st.style))) (cond ug (result l upper (underlined (style_of st.style))) (result l upper normal)))
  unfolding cluster_on state_of pending_of on_cluster strike reads
  struck_all P l = rw (w.struck, w.under.valid, w.upper.valid, ← part_slice u.at u.end line, ← part_slice c.at c.end line, ← xs, ← hs, ← gs) refl

  keeps : (P : Profile) (l : List ℕ) (r : Conversion) (o : Overstrike) (s : Style) → r ≡ conversion st.len (Held u) st.before o st.known → style_of o ≡ s → Sound P line l st
      → result l under s ≡ cluster_on P (state_of line l st) upper → Stepped P line l r (cluster_on P (state_of line l st) upper)
  unfolding state_of pending_of span_of
  keeps P l r o s p f v q = rw p (record { same = ap (result l under) f ∙ q; sound = record { inside = v.inside; valid = v.valid; part = w.under; known = v.known } })

  takes : (P : Profile) (l : List ℕ) (r : Conversion) (o : Overstrike) (s : Style) → r ≡ conversion st.len (Held c) st.before o st.known → style_of o ≡ s → Sound P line l st
      → result l upper s ≡ cluster_on P (state_of line l st) upper → Stepped P line l r (cluster_on P (state_of line l st) upper)
  unfolding state_of pending_of span_of
  takes P l r o s p f v q = rw p (record { same = ap (result l upper) f ∙ q; sound = record { inside = v.inside; valid = v.valid; part = w.upper; known = v.known } })

  module _ (r : Conversion) (o : Overstrike) where
    pub strike_same_under : x ≡ true → uh ≡ true → style_of o ≡ ambiguous (style_of st.before) (style_of st.style) → r ≡ conversion st.len (Held u) st.before o st.known → StruckStep line st c r
    strike_same_under p q f i P l v = keeps P l r o _ i f v (sym (rw (p, q) at (struck_all P l)))

    pub strike_same : x ≡ true → uh ≡ false → style_of o ≡ bolded (style_of st.style) → r ≡ conversion st.len (Held u) st.before o st.known → StruckStep line st c r
    strike_same p q f i P l v = keeps P l r o _ i f v (sym (rw (p, q) at (struck_all P l)))

    pub strike_upper : x ≡ false → uh ≡ true → style_of o ≡ underlined (style_of st.style) → r ≡ conversion st.len (Held u) st.before o st.known → StruckStep line st c r
    strike_upper p q f i P l v = keeps P l r o _ i f v (sym (rw (p, q) at (struck_all P l)))

    pub strike_under : x ≡ false → uh ≡ false → ug ≡ true → style_of o ≡ underlined (style_of st.style) → r ≡ conversion st.len (Held c) st.before o st.known → StruckStep line st c r
    strike_under p q t f i P l v = takes P l r o _ i f v (sym (rw (p, q, t) at (struck_all P l)))

  pub strike_other : (r : Conversion) → x ≡ false → uh ≡ false → ug ≡ false → r ≡ conversion st.len (Held c) st.before plain st.known → StruckStep line st c r
  unfolding style_of
  strike_other r p q t i P l v = takes P l r plain _ i refl v (sym (rw (p, q, t) at (struck_all P l)))

-- ---- the step

module _ (P : Profile) (line l : List ℕ) (st : Conversion) (c : LinePart) (w : StepReady P line l st c) (b : Bool)
    (bs : b ≡ same_bytes (take (c.end - c.at) (drop c.at line)) (0x08 ∷ [])) where
  step_is : step P (state_of line l st) (part_of line c.at c.end) ≡ cond b (backspace_on P (state_of line l st)) (cluster_on P (state_of line l st) (part_of line c.at c.end))
  unfolding step backspace_on cluster_on reads
  step_is = rw (w.upper.valid, ← part_slice c.at c.end line, ← bs) refl

  pub step_back : (l' : List ℕ) (r : Conversion) → b ≡ true → BackspaceStep P l l' st r → Stepped P line l' r (step P (state_of line l st) (part_of line c.at c.end))
  step_back l' r t f = let g = f line w.sound.part in record { same = g.same ∙ sym (rw t at step_is); sound = g.sound }

  pub step_cluster : (l' : List ℕ) (r : Conversion) → b ≡ false → Stepped P line l' r (cluster_on P (state_of line l st) (part_of line c.at c.end)) → Stepped P line l' r (step P (state_of line l st) (part_of line c.at c.end))
  step_cluster l' r t g = record { same = g.same ∙ sym (rw t at step_is); sound = g.sound }

  pub step_hold : (r : Conversion) → b ≡ false → st.pending ≡ Nothing → r ≡ conversion st.len (Held c) st.style plain st.known → Stepped P line l r (step P (state_of line l st) (part_of line c.at c.end))
  step_hold r t k i = step_cluster l r t (rw i (hold_none P line l st c k w.sound w.upper))

  pub step_pushed : (l' : List ℕ) (r : Conversion) (h : LinePart) (n : ℕ) → b ≡ false → st.pending ≡ Held h → Pushed l l' st.len (pending line st h) n → r ≡ conversion n (Held c) st.style plain st.known
      → Stepped P line l' r (step P (state_of line l st) (part_of line c.at c.end))
  step_pushed l' r h n t k p i = step_cluster l' r t (rw i (hold_pushed P line l l' st h n c k (front_pending line l l' st h n w.sound k p) w.sound w.upper))

  pub step_struck : (r : Conversion) → b ≡ false → StruckStep line st c r → Stepped P line l r (step P (state_of line l st) (part_of line c.at c.end))
  step_struck r t f = step_cluster l r t (f P l w.sound)

pub strike_ready : {P : Profile} (line l : List ℕ) (st : Conversion) (u c : LinePart) → StepReady P line l st c → st.pending ≡ Struck u → Strike line st u c
strike_ready line l st u c w k = record { struck = k; under = part_of_struck line l st u w.sound k; upper = w.upper }

pub held_part : {P : Profile} (line l : List ℕ) (st : Conversion) (h c : LinePart) → StepReady P line l st c → st.pending ≡ Held h → Part line h.at h.end
held_part line l st h c w k = part_of_held line l st h w.sound k

pub back_ready : {P : Profile} (line l : List ℕ) (st : Conversion) (c : LinePart) → StepReady P line l st c → BackReady P l st.len st.known
back_ready line l st c w = record { room = omega (arith, len_weight line l st w.sound, w.room); valid = w.sound.valid; known = w.sound.known }

-- room for the order and the pending cluster
pending_room : {P : Profile} (line l : List ℕ) (st : Conversion) (h : LinePart) → Sound P line l st → weight (state_of line l st) ≤ length l → st.pending ≡ Held h
    → st.len + (length (order_of st.before st.style) + length (take (h.end - h.at) (drop h.at line))) ≤ length l
pending_room line l st h w f k = rw (part_slice h.at h.end line, length-slice h.at h.end line (part_of_held line l st h w k).within) (omega (arith, held_weight line l st w h k))

pub step_room : {P : Profile} (line l : List ℕ) (st : Conversion) (h c : LinePart) → StepReady P line l st c → st.pending ≡ Held h
    → st.len + (length (order_of st.before st.style) + length (take (h.end - h.at) (drop h.at line))) ≤ length l
step_room line l st h c w k = pending_room line l st h w.sound (omega (arith, w.room)) k

-- ---- the run's end

finish_other : (P : Profile) (line : List ℕ) (out : List Scalar) (q : code.Pending) (b s : Style) → ((h : LinePart) → q ≡ Held h → ⊥)
    → push (asciis (order b normal)) out ≡ finish P out (pending_of line q) b s
unfolding finish pending_of
finish_other P line out Nothing b s k = refl
finish_other P line out (Struck h) b s k = refl
finish_other P line out (Held h) b s k = absurd (k h refl)

module _ (line l : List ℕ) (st : Conversion) (w : FinishReady line l st) where
  pub finish_room : st.len + length (order_of st.before plain) ≤ length l
  finish_room = omega (arith, other_weight line l st w.sound, w.room)

  pub finished_none : (l' : List ℕ) (r : ℕ) → ((h : LinePart) → st.pending ≡ Held h → ⊥) → Pushed l l' st.len (order_of st.before plain) r → Finished line l l' st r
  unfolding finish_on state_of pending_of style_of
  finished_none l' r k p P =
      let f = front_order l l' st.len r st.before plain _ (front_of line l st w.sound) p in
      record {
        inside = f.inside;
        scalars = f.scalars ∙ finish_other P line (backward (take st.len l)) st.pending (style_of st.before) (style_of st.style) k;
        valid = f.valid;
      }

  pub held_room : (h : LinePart) → st.pending ≡ Held h → st.len + (length (order_of st.before st.style) + length (take (h.end - h.at) (drop h.at line))) ≤ length l
  held_room h k = pending_room line l st h w.sound w.room k

  pub last_part : (h : LinePart) → st.pending ≡ Held h → Part line h.at h.end
  last_part h k = part_of_held line l st h w.sound k

  module _ (h : LinePart) (k : st.pending ≡ Held h) (l₁ : List ℕ) (n : ℕ) (p : Pushed l l₁ st.len (pending line st h) n) (long : length l₁ ≡ length l) where
    pub last_order_room : n + length (order_of st.style plain) ≤ length l₁
    last_order_room =
        let e = length-append (order_of st.before st.style) (take (h.end - h.at) (drop h.at line)) in
        let d : length (take (h.end - h.at) (drop h.at line)) ≡ h.end - h.at = rw (part_slice h.at h.end line) (length-slice h.at h.end line (last_part h k).within) in
        omega (arith, p.end, held_weight line l st w.sound h k, w.room)

    pub finished_held : (l₂ : List ℕ) (r : ℕ) → Pushed l₁ l₂ n (order_of st.style plain) r → Finished line l l₂ st r
    unfolding finish_on state_of pending_of style_of finish pushed_on
    finished_held l₂ r q P =
        let g = front_order l₁ l₂ n r st.style plain _ (front_pending line l l₁ st h n w.sound k p) q in
        record { inside = g.inside; scalars = rw k g.scalars; valid = g.valid }

-- ---- comparing bytes

pub same_long : (x y : List ℕ) → (length x ≢ length y) → false ≡ same_bytes x y
unfolding same_bytes
same_long [] [] h = absurd (h refl)
same_long [] (b ∷ y) h = refl
same_long (a ∷ x) [] h = refl
same_long (a ∷ x) (b ∷ y) h = cases (eqb a b) (λ e. rw e (same_long x y (λ f. h (ap suc f)))) (λ e. rw e refl)

same_at : (x y : List ℕ) (i : ℕ) → i < length x → i < length y → same_bytes (drop i x) (drop i y) ≡ (eqb (get_or x i 0) (get_or y i 0) && same_bytes (drop (i + 1) x) (drop (i + 1) y))
unfolding same_bytes
same_at x y i h k = rw (add-one, drop-cons x i 0 h, drop-cons y i 0 k) refl

module _ (x y : List ℕ) (i : ℕ) (long : length x ≡ length y) (h : i < length x) (w : same_bytes x y ≡ same_bytes (drop i x) (drop i y)) where
  pub same_stop : (get_or x i 0 ≢ get_or y i 0) → false ≡ same_bytes x y
  same_stop n = sym (w ∙ same_at x y i h (rw long at h) ∙ rw (ne_eqb (get_or x i 0) (get_or y i 0) n) refl)

  pub same_on : get_or x i 0 ≡ get_or y i 0 → same_bytes x y ≡ same_bytes (drop (i + 1) x) (drop (i + 1) y)
  same_on n = w ∙ same_at x y i h (rw long at h) ∙ rw (eq-eqb (get_or x i 0) (get_or y i 0) n) refl

pub same_end : (x y : List ℕ) (i : ℕ) → length x ≡ length y → length x ≤ i → same_bytes x y ≡ same_bytes (drop i x) (drop i y) → true ≡ same_bytes x y
unfolding same_bytes
same_end x y i long h w = sym (w ∙ rw (drop_of_length-le x h, drop_of_length-le y (rw long at h)) refl)

pub one_byte_law : (x : List ℕ) (b : ℕ) → length x ≡ 1 → eqb (get_or x 0 0) b ≡ same_bytes x (b ∷ [])
unfolding same_bytes
one_byte_law [] b h = absurd (omega arith)
one_byte_law (a ∷ []) b h = cases (eqb a b) (λ e. rw e refl) (λ e. rw e refl)
one_byte_law (a ∷ c ∷ x) b h = absurd (omega arith)

-- ---- styles

pub bold_style : (a b : Bool) → style_of (record { bold = true; underline = b }) ≡ bolded (style_of (record { bold = a; underline = b }))
unfolding style_of bolded
bold_style true true = refl
bold_style true false = refl
bold_style false true = refl
bold_style false false = refl

pub underline_style : (a b : Bool) → style_of (record { bold = a; underline = true }) ≡ underlined (style_of (record { bold = a; underline = b }))
unfolding style_of underlined
underline_style true true = refl
underline_style true false = refl
underline_style false true = refl
underline_style false false = refl

-- `_` over `_`, by the tests that the code makes
ambiguous_bits : (a b c d : Bool) → cond (c || d) bold_underline (cond (a || b) (style_of (record { bold = a; underline = b })) bold) ≡ ambiguous (style_of (record { bold = a; underline = b })) (style_of (record { bold = c; underline = d }))
unfolding style_of ambiguous
ambiguous_bits true true true true = refl
ambiguous_bits true true true false = refl
ambiguous_bits true true false true = refl
ambiguous_bits true true false false = refl
ambiguous_bits true false true true = refl
ambiguous_bits true false true false = refl
ambiguous_bits true false false true = refl
ambiguous_bits true false false false = refl
ambiguous_bits false true true true = refl
ambiguous_bits false true true false = refl
ambiguous_bits false true false true = refl
ambiguous_bits false true false false = refl
ambiguous_bits false false true true = refl
ambiguous_bits false false true false = refl
ambiguous_bits false false false true = refl
ambiguous_bits false false false false = refl

pub ambiguous_by : (b s : Overstrike) → cond (s.bold || s.underline) bold_underline (cond (b.bold || b.underline) (style_of b) bold) ≡ ambiguous (style_of b) (style_of s)
ambiguous_by b s = ambiguous_bits b.bold b.underline s.bold s.underline
