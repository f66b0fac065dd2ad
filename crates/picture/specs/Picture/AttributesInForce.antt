-- The attributes in force: a text is drawn with those that the state says, whatever was sent before.
use Rattle.std.specs.Prelude.{◌≡◌, ℕ, true, false, cond, not, ◌&&◌, eqb}
use Rattle.std.proofs.Math.Path.{refl}
use Rattle.std.proofs.Common.{sym, ap, ◌∙◌, eqb-true}
use mathlib.Core.List.{List, [], ◌∷◌, ◌++◌, append_assoc}
use Rattle.std.proofs.lemmas.Bool.{not-true}
use Rattle.text.specs.Tests.{and_T, is_true, true_T, by_case}
use Rattle.text.specs.Class.{Profile}
use Rattle.drawing.specs.declared.attributes.Attributes.{Attributes}
use Rattle.drawing.specs.Attributes.{Style, file, control, match, current_match, number, styled}
use Rattle.drawing.specs.Change.{Change, text, torn, all_attributes, clear_to_end, cursor_right, whole}
use Rattle.drawing.specs.Draw.{State, Sent, style}
use Rattle.picture.specs.Picture.{shown_from}

-- behind changes, `a` being in force before them
unfoldable pub in_force : Attributes → List Change → Attributes
in_force a [] = a
in_force a (text s ∷ cs) = in_force a cs
in_force a (torn ∷ cs) = in_force a cs
in_force a (all_attributes b ∷ cs) = in_force b cs
in_force a (clear_to_end c ∷ cs) = in_force a cs
in_force a (cursor_right ∷ cs) = in_force a cs

module _ (cs : List Change) where
  pub force_append : (a : Attributes) (bs : List Change) → in_force a (bs ++ cs) ≡ in_force (in_force a bs) cs
  unfolding in_force
  force_append a [] = refl
  force_append a (text s ∷ bs) = force_append a bs
  force_append a (torn ∷ bs) = force_append a bs
  force_append a (all_attributes b ∷ bs) = force_append b bs
  force_append a (clear_to_end c ∷ bs) = force_append a bs
  force_append a (cursor_right ∷ bs) = force_append a bs

  pub shown_append : (P : Profile) (a : Attributes) (bs : List Change) → shown_from P a (bs ++ cs) ≡ shown_from P a bs ++ shown_from P (in_force a bs) cs
  unfolding in_force shown_from
  shown_append P a [] = refl
  shown_append P a (text s ∷ bs) = rw (shown_append P a bs, append_assoc)
  shown_append P a (torn ∷ bs) = shown_append P a bs
  shown_append P a (all_attributes b ∷ bs) = shown_append P b bs
  shown_append P a (clear_to_end c ∷ bs) = shown_append P a bs
  shown_append P a (cursor_right ∷ bs) = shown_append P a bs

  pub whole_append : (bs : List Change) → whole bs ≡ true → whole (bs ++ cs) ≡ whole cs
  unfolding whole
  whole_append [] e = refl
  whole_append (text s ∷ bs) e = whole_append bs e
  whole_append (torn ∷ bs) e = absurd (true_T e)
  whole_append (all_attributes b ∷ bs) e = whole_append bs e
  whole_append (clear_to_end c ∷ bs) e = whole_append bs e
  whole_append (cursor_right ∷ bs) e = whole_append bs e

-- a is in force: where the state holds nothing that is to be sent, it is the attributes of its style
abbrev pub InForce : State → Attributes → Type 0
InForce t a = t.changed ≡ false → a ≡ styled t.attrs t.style

-- ---- a style

style_at : ℕ → Style
style_at n = cond (eqb n 0) file (cond (eqb n 1) control (cond (eqb n 2) match current_match))

at_number : (s : Style) → style_at (number s) ≡ s
unfolding number style_at
at_number file = refl
at_number control = refl
at_number match = refl
at_number current_match = refl

-- what a switch to the style s leaves: its attributes are in force, and no cluster is shown
pub record Styled (P : Profile) (t : State) (s : Style) (a : Attributes) (r : Sent) : Type 0 where
  pub shows : shown_from P a r.changes ≡ []
  pub whole : whole r.changes ≡ true
  pub sent : in_force a r.changes ≡ styled t.attrs s
  pub force : InForce r.after (styled t.attrs s)
  pub attrs : r.after.attrs ≡ t.attrs
  pub line_drawing : r.after.line_drawing ≡ t.line_drawing
  pub position : r.after.position ≡ t.position

pub style_sent : (P : Profile) (t : State) (s : Style) (a : Attributes) → InForce t a → Styled P t s a (style t s)
unfolding in_force whole shown_from style
style_sent P t s a f =
    by_case (Styled P t s a) (eqb (number t.style) (number s) && not t.changed)
    (λ e.
    let p = and_T (eqb (number t.style) (number s)) (not t.changed) (true_T e) in
    let q : t.style ≡ s = sym (at_number t.style) ∙ ap style_at (eqb-true _ _ (is_true _ p.0)) ∙ at_number s in
    record { shows = refl; whole = refl; sent = f (not-true t.changed (is_true _ p.1)) ∙ ap (styled t.attrs) q; force = λ z. ap (styled t.attrs) (sym q); attrs = refl; line_drawing = refl; position = refl })
    (λ e. record { shows = refl; whole = refl; sent = refl; force = λ z. refl; attrs = refl; line_drawing = refl; position = refl })
