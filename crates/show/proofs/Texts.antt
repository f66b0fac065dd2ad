-- The texts of the arguments.
use Prim.Native.Nat.{ℕ}
use mathlib.Core.Bool.{Bool, ◌&&◌}
use mathlib.Core.List.{List, [], ◌∷◌, ◌++◌, append_assoc}
use mathlib.Core.Path.{◌≡◌, refl, sym, ap, ◌∙◌}
use Rattle.rows_io.specs.FirstLine.{empty, with_bytes, in_form, part_of}
use Rattle.rows_io.specs.FirstLine.Laws.{bytes_append}
use Rattle.rows_io.specs.declared.first_line.FirstLine.{FirstLine}
use Rattle.rows_io.specs.declared.first_line.Part.{Part}
use Rattle.show_io.specs.declared.lines.View.{View}
use Rattle.show.specs.Arguments.{pair_of, number_of, in_range, ArgumentRead, ArgumentsRead}
use Rattle.show.specs.Arguments.Laws.{pair_is, arguments_are}

pub argument_read : (first : FirstLine) (text end : List ℕ) (a b : Part) → a ≡ part_of first text → b ≡ part_of a.first end → ArgumentRead first end b.first
argument_read first text end a b e f =
    record { text = text; read = ap (λ (x : Part). x.first) f ∙ ap (λ (x : Part). with_bytes x.first end) e ∙ sym (bytes_append text end first) }

module _ (none none₂ a b c : FirstLine) (e : none ≡ empty) (d : none₂ ≡ empty) (w : ArgumentRead none (0x20 ∷ []) a) (m : ArgumentRead a (0x0A ∷ []) b) (s : ArgumentRead none₂ (0x20 ∷ 0x30 ∷ 0x0A ∷ []) c) where
  pair : b ≡ pair_of w.text m.text
  pair =
      m.read ∙ ap (λ (x : FirstLine). with_bytes x (m.text ++ 0x0A ∷ [])) (w.read ∙ ap (λ (x : FirstLine). with_bytes x (w.text ++ 0x20 ∷ [])) e)
      ∙ sym (bytes_append (w.text ++ 0x20 ∷ []) (m.text ++ 0x0A ∷ []) empty)
      ∙ ap (with_bytes empty) (append_assoc w.text (0x20 ∷ []) (m.text ++ 0x0A ∷ [])) ∙ sym (pair_is w.text m.text)

  number : c ≡ number_of s.text
  number = s.read ∙ ap (λ (x : FirstLine). with_bytes x (s.text ++ 0x20 ∷ 0x30 ∷ 0x0A ∷ [])) d ∙ sym (pair_is s.text (0x30 ∷ []))

  pub arguments_read : (p q r : Bool) (count : ℕ) → p ≡ in_form b → q ≡ in_form c → r ≡ in_range (record { mode = b.mode; start = c.width; width = b.width })
      → ArgumentsRead (record { ok = p && (q && r); view = record { mode = b.mode; start = c.width; width = b.width }; count = count })
  arguments_read p q r count f g h =
      let v : View = record { mode = b.mode; start = c.width; width = b.width } in
      record {
        width = w.text;
        mode = m.text;
        start = s.text;
        count = count;
        read = ap (λ (x : Bool). record { ok = x; view = v; count = count }) (rw (f, g, h) refl) ∙ arguments_are w.text m.text s.text count b c pair number;
      }
