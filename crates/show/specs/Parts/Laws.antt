-- Parts and turns one by one.
use Rattle.std.specs.Prelude.{ℕ, Bool, true, false, cond, ◌≡◌, ◌≢◌, length}
use mathlib.Core.List.{List, [], ◌∷◌}
use Rattle.std.proofs.Math.Path.{refl}
use Rattle.std.proofs.Common.{ne_eqb}
use Rattle.show_io.specs.declared.lines.View.{View}
use Rattle.show_io.specs.Input.{State, Read, pieces, with_pieces}
use Rattle.show.specs.Whole.{text_of}
use Rattle.show.specs.Parts.{Shown, shown, behind, emptied, Given, in_turns, with_part, with_parts}

module _ (name : List ℕ) (view : View) (room : ℕ) where
  -- what is left to show, where the last turn was taken or not
  abbrev pub turns_left : Bool → List Bool → State → List (List ℕ) → Shown
  turns_left on tooks t ps = cond on (in_turns name view room tooks t ps) (shown t [] false)

  pub turns_none : (t : State) (ps : List (List ℕ)) → in_turns name view room [] t ps ≡ shown t [] true
  unfolding in_turns
  turns_none t ps = refl

  pub turns_end : (tooks : List Bool) (t : State) → in_turns name view room tooks t [] ≡ shown t [] true
  unfolding in_turns
  turns_end [] t = refl
  turns_end (took ∷ tooks) t = refl

  pub turns_more : (took : Bool) (tooks : List Bool) (t : State) (p : List ℕ) (ps : List (List ℕ)) (r : Read) → r ≡ with_pieces name view room 65536 t (p ∷ ps)
      → in_turns name view room (took ∷ tooks) t (p ∷ ps) ≡ behind (text_of r.state.printed) (turns_left took tooks (emptied r.state) r.rest)
  unfolding in_turns
  turns_more took tooks t p ps r e = rw e refl

  pub part_ends : (t : State) (g : Given) → length g.part ≡ 0 → with_part name view room t g ≡ shown t [] false
  unfolding with_part
  part_ends t g e = rw e refl

  pub part_goes_on : (t : State) (g : Given) → (length g.part ≢ 0) → with_part name view room t g ≡ in_turns name view room g.taken t (pieces g.part)
  unfolding with_part
  part_goes_on t g e = rw (ne_eqb (length g.part) 0 e) refl

  abbrev parts_left : Bool → Shown → List Given → Shown
  parts_left on s gs = cond on (behind s.handed (with_parts name view room s.state gs)) s

  pub parts_none : (t : State) → with_parts name view room t [] ≡ shown t [] true
  unfolding with_parts
  parts_none t = refl

  pub parts_more : (t : State) (g : Given) (gs : List Given) (s : Shown) → s ≡ with_part name view room t g → with_parts name view room t (g ∷ gs) ≡ parts_left s.on s gs
  unfolding with_parts
  parts_more t g gs s e = rw e refl
