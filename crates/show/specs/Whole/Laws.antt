-- What is read and printed piece by piece, however the input is cut into parts, is what is shown of the whole.
use Rattle.std.specs.Prelude.{◌≡◌, true, false, length, take, get_or, eqb, leb}
use Rattle.std.proofs.Math.Path.{refl, sym, ap, ap₂}
use Rattle.std.proofs.Common.{◌∙◌, length-take, leb-false, ne_eqb}
use Prim.Native.Nat.{ℕ, suc, ◌-◌, ◌≤◌, ◌<◌}
use native.Mathlib.Omega.{arith}
use Rattle.std.proofs.Math.Bool.{Bool, cond}
use mathlib.Core.List.{List, [], ◌∷◌, ◌++◌, append-nil, append_assoc}
use Rattle.std.proofs.lemmas.Bool.{lt-leb}
use Rattle.text.specs.Tests.{cases}
use Rattle.buffer.specs.Sink.{Sink, sink, emit}
use Rattle.show_io.specs.Lines.{line_text}
use Rattle.show_io.specs.Input.{join_first, pieces, is_end, State, Read, next_number, count_of, fitted_of, with_line, begun, with_piece, with_pieces}
use Rattle.show_io.specs.Input.Parts.{each, each_none, each_more, in_parts, end_joined, begun_twice}
use Rattle.show.specs.Whole.{text_of, list_of, line_shown, lines_shown, file_shown}
use Rattle.show.specs.Whole.Buffers.{ShortName, fitted_text}
use Rattle.show_io.specs.declared.lines.View.{View}

-- how many lines were read, the next one as far as it was, and all that was printed
pub record Told : Type 0 where
  pub number : ℕ
  pub line : List ℕ
  pub text : List ℕ

abbrev pub told : ℕ → List ℕ → List ℕ → Told
told n l x = record { number = n; line = l; text = x }

-- with what was handed over before
abbrev pub told_of : List ℕ → State → Told
told_of h t = told t.number t.line (h ++ text_of t.printed)

-- in a buffer as the program lends it, with room for a line
abbrev pub Roomy : Sink ℕ → Type 0
Roomy s = length (list_of s) ≡ 589824

module _ (name : List ℕ) (view : View) where
  abbrev kept : List ℕ → List ℕ → List ℕ
  kept line p = begun name view 4097 line p

  unfoldable pub with_told : Told → List ℕ → Told
  with_told r p =
      let n : ℕ = next_number r.number in
      let line : List ℕ = kept r.line p in
      cond (is_end p) (told n [] (r.text ++ line_shown name view n line)) (told r.number line r.text)

  abbrev pub tell : Told → List (List ℕ) → Told
  tell r ps = each Told with_told r ps

  told_joins : (r : Told) (b : ℕ) (p : List ℕ) → eqb b 0x0A ≡ false → with_told (with_told r (b ∷ [])) p ≡ with_told r (b ∷ p)
  unfolding with_told
  told_joins r b p e =
      let n : ℕ = next_number r.number in
      let at : Bool → List ℕ → Told = λ x l. cond x (told n [] (r.text ++ line_shown name view n l)) (told r.number l r.text) in
      ap (λ (x : Bool). with_told (at x (kept r.line (b ∷ []))) p) e ∙ ap₂ at (sym (end_joined b p e)) (begun_twice name view 4097 r.line (b ∷ []) p)

  pub tell_parts : (s t : List ℕ) (r : Told) → tell r (pieces (s ++ t)) ≡ tell (tell r (pieces s)) (pieces t)
  tell_parts s t r = in_parts Told with_told told_joins s t r

  -- ---- a line, a piece, pieces until enough is printed

  module _ (short : ShortName name) where
    line_told : (s : Sink ℕ) (n : ℕ) (line h : List ℕ) → Roomy s → count_of s < 65536
        → let z : Sink ℕ = fitted_of name n (count_of s) (emit s (line_text name n view line)) in (h ++ text_of z ≡ (h ++ text_of s) ++ line_shown name view n line) × Roomy z
    unfolding line_shown
    line_told (sink l c) n line h size few =
        let z = fitted_text name short n (line_text name n view line) l c size few in
        (ap (λ (x : List ℕ). h ++ x) z.text ∙ sym (append_assoc h (take c l) (line_shown name view n line)), z.size)

    module _ (t : State) (h : List ℕ) (size : Roomy t.printed) (few : count_of t.printed < 65536) where
      pub with_line_law : (line : List ℕ) → (h ++ text_of (with_line name view t line) ≡ (h ++ text_of t.printed) ++ line_shown name view (next_number t.number) line) × Roomy (with_line name view t line)
      unfolding with_line
      with_line_law line = line_told t.printed (next_number t.number) line h size few

      with_piece_law : (p : List ℕ) → (told_of h (with_piece name view 4097 t p) ≡ with_told (told_of h t) p) × Roomy (with_piece name view 4097 t p).printed
      unfolding with_piece with_told
      with_piece_law p =
          let n : ℕ = next_number t.number in
          let line : List ℕ = kept t.line p in
          let z = with_line_law line in
          cases (is_end p) (λ e. rw e (ap (told n []) z.0, z.1)) (λ e. rw e (refl, size))

    -- what is left is told as before, with fewer pieces
    pub record Told_on (h : List ℕ) (t : State) (ps : List (List ℕ)) (r : Read) : Type 0 where
      pub same : tell (told_of h r.state) r.rest ≡ tell (told_of h t) ps
      pub size : Roomy r.state.printed
      pub fewer : length r.rest ≤ length ps

    abbrev some : State → List (List ℕ) → Read
    some t ps = with_pieces name view 4097 65536 t ps

    pub told_on : (ps : List (List ℕ)) (t : State) (h : List ℕ) → Roomy t.printed → Told_on h t ps (some t ps)
    unfolding with_pieces
    told_on [] t h size = record { same = refl; size = size; fewer = omega arith }
    told_on (p ∷ ps) t h size = cases (leb 65536 (count_of t.printed))
        (λ e. rw e (record { same = refl; size = size; fewer = omega arith }))
        (λ e. let z = with_piece_law t h size (leb-false 65536 (count_of t.printed) e) p in
        let on : Told_on h (with_piece name view 4097 t p) ps (some (with_piece name view 4097 t p) ps) = told_on ps (with_piece name view 4097 t p) h z.1 in
        rw e
        (record {
          same = on.same ∙ ap (λ (r : Told). tell r ps) z.0 ∙ sym (each_more Told with_told (told_of h t) p ps);
          size = on.size;
          fewer = omega (arith, on.fewer);
        }))

    -- one piece at least, where not enough is printed
    pub told_first : (p : List ℕ) (ps : List (List ℕ)) (t : State) → Roomy t.printed → count_of t.printed < 65536 → length (some t (p ∷ ps)).rest ≤ length ps
    unfolding with_pieces
    told_first p ps t size few = rw (lt-leb 65536 (count_of t.printed) few) (told_on ps (with_piece name view 4097 t p) [] (with_piece_law t [] size few p).1).fewer

  -- ---- the whole

  -- the last line, where no newline ends it
  abbrev pub finished : Told → List ℕ
  finished r = cond (eqb (length r.line) 0) r.text (r.text ++ line_shown name view (next_number r.number) r.line)

  -- pieces of one text: none is empty, and all but the last have their newline
  unfoldable well_cut : List (List ℕ) → Type 0
  well_cut [] = Unit {0}
  well_cut (p ∷ []) = 0 < length p
  well_cut (p ∷ q ∷ ps) = (is_end p ≡ true) × well_cut (q ∷ ps)

  cut_newline : (b : ℕ) (ps : List (List ℕ)) → eqb b 0x0A ≡ true → well_cut ps → well_cut ((b ∷ []) ∷ ps)
  unfolding well_cut
  cut_newline b [] e w = omega arith
  cut_newline b (q ∷ ps) e w = (e, w)

  end_some : (p : List ℕ) (b : ℕ) → is_end p ≡ true → is_end (b ∷ p) ≡ true
  end_some [] b e = cc
  end_some (c ∷ p) b e =
      ap (λ (i : ℕ). eqb (get_or (b ∷ c ∷ p) i 0) 0x0A) (let f : suc (suc (length p)) - 1 ≡ suc (length p) = omega arith in f)
      ∙ sym (ap (λ (i : ℕ). eqb (get_or (c ∷ p) i 0) 0x0A) (let f : suc (length p) - 1 ≡ length p = omega arith in f)) ∙ e

  cut_joined : (b : ℕ) (ps : List (List ℕ)) → well_cut ps → well_cut (join_first b ps)
  unfolding well_cut join_first
  cut_joined b [] w = omega arith
  cut_joined b (p ∷ []) w = omega arith
  cut_joined b (p ∷ q ∷ ps) w = (end_some p b w.0, w.1)

  cut : (s : List ℕ) → well_cut (pieces s)
  unfolding pieces well_cut
  cut [] = tt
  cut (b ∷ s) = cases (eqb b 0x0A) (λ e. rw e (cut_newline b (pieces s) e (cut s))) (λ e. rw e (cut_joined b (pieces s) (cut s)))

  some_kept : (p : List ℕ) → 0 < length p → eqb (length (take 4097 p)) 0 ≡ false
  some_kept p h = let n : 0 < length (take 4097 p) = simp length-take (omega arith) in ne_eqb (length (take 4097 p)) 0 (λ (q : length (take 4097 p) ≡ 0). omega arith)

  lines_more : (n : ℕ) (l : List ℕ) (ls : List (List ℕ)) → lines_shown name view n (l ∷ ls) ≡ line_shown name view (next_number n) (take 4097 l) ++ lines_shown name view (next_number n) ls
  unfolding lines_shown
  lines_more n l ls = refl

  lines_one : (n : ℕ) (l : List ℕ) → lines_shown name view n (l ∷ []) ≡ line_shown name view (next_number n) (take 4097 l)
  unfolding lines_shown
  lines_one n l = append-nil (line_shown name view (next_number n) (take 4097 l))

  lines_none : (n : ℕ) → lines_shown name view n [] ≡ []
  unfolding lines_shown
  lines_none n = refl

  module _ (n : ℕ) (x p : List ℕ) where
    abbrev m : ℕ
    m = next_number n

    abbrev line : List ℕ
    line = line_shown name view m (take 4097 p)

    told_end : is_end p ≡ true → with_told (told n [] x) p ≡ told m [] (x ++ line)
    unfolding with_told
    told_end e = ap (λ (b : Bool). cond b (told m [] (x ++ line)) (told n (take 4097 p) x)) e

    told_open : is_end p ≡ false → with_told (told n [] x) p ≡ told n (take 4097 p) x
    unfolding with_told
    told_open e = ap (λ (b : Bool). cond b (told m [] (x ++ line)) (told n (take 4097 p) x)) e

    told_one : tell (told n [] x) (p ∷ []) ≡ with_told (told n [] x) p
    told_one = each_more Told with_told (told n [] x) p [] ∙ each_none Told with_told (with_told (told n [] x) p)

    last_line : 0 < length p → finished (tell (told n [] x) (p ∷ [])) ≡ x ++ line
    last_line w = ap finished told_one ∙ cases (is_end p)
        (λ e. ap finished (told_end e))
        (λ e. ap finished (told_open e) ∙ ap (λ (b : Bool). cond b x (x ++ line)) (some_kept p w))

  told_lines : (ps : List (List ℕ)) (n : ℕ) (x : List ℕ) → well_cut ps → finished (tell (told n [] x) ps) ≡ x ++ lines_shown name view n ps
  unfolding well_cut
  told_lines [] n x w = ap finished (each_none Told with_told (told n [] x)) ∙ sym (ap (λ (y : List ℕ). x ++ y) (lines_none n) ∙ append-nil x)
  told_lines (p ∷ []) n x w = last_line n x p w ∙ ap (λ (y : List ℕ). x ++ y) (sym (lines_one n p))
  told_lines (p ∷ q ∷ ps) n x w =
      ap finished (each_more Told with_told (told n [] x) p (q ∷ ps) ∙ ap (λ (r : Told). tell r (q ∷ ps)) (told_end n x p w.0))
      ∙ told_lines (q ∷ ps) (next_number n) (x ++ line n x p) w.1 ∙ append_assoc x (line n x p) (lines_shown name view (next_number n) (q ∷ ps)) ∙ ap (λ (y : List ℕ). x ++ y) (sym (lines_more n p (q ∷ ps)))

  pub told_file : (s : List ℕ) → finished (tell (told 0 [] []) (pieces s)) ≡ file_shown name view s
  unfolding file_shown
  told_file s = told_lines (pieces s) 0 [] (cut s)
