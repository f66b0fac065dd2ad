-- Bytes to entries: what the code has read says what the entries of the file say.
use Rattle.std.specs.Prelude.{◌≡◌, ℕ, ◌≤◌, Bool, true, false, cond, ◌&&◌, ◌||◌, ◌⊎◌, List, [], ◌∷◌, ◌++◌, take, ◌==◌, nat_eq, nat_le, nat_lt, refl}
use Rattle.std.proofs.Common.{sym, ap, subst, ◌∙◌, inl, inr, ⊎_elim, arith, eqb-true, leb-true, ltb-true}
use Rattle.std.proofs.lemmas.Bool.{eqb-false}
use Rattle.unicode_io.specs.Tests.{never, and_right}
use Rattle.unicode_io.specs.Names.{name_number}
use Rattle.unicode_io.specs.Names.Laws.{names_in, name_few, name_most}
use Rattle.unicode_io.specs.Grammar.{Entry, entry, nothing, other_form, line_of}
use Rattle.unicode_io.specs.Grammar.Laws.{line_is}
use Rattle.unicode_io.specs.Line.{empty, with_byte, line_from, entry_of, ranged, is_scalar}
use Rattle.unicode_io.specs.Reading.{State, state_of, reading, with_entry, line_ended, byte_read, bytes_read, taken_by_entry, fill_entry}
use Rattle.unicode_io.specs.Reading.Laws.{ended_nothing, ended_other, ended_overlapped, ended_entry, byte_newline, byte_more}
use Rattle.unicode_io.specs.Entries.{is_entry, meets_any, overlap, malformed, entries_from}
use Rattle.unicode_io.specs.Entries.Steps.{Good, AllGood, Tells, tells_past, tells_entry, taken_meets}
use Rattle.unicode_io.specs.declared.line.Number.{Number}
use Rattle.unicode_io.specs.declared.line.Line.{Line}
use Rattle.unicode_io.specs.declared.reading.Reading.{Reading}

-- ---- what a line can be

good_nothing : (file : ℕ) → Good file nothing
good_nothing file = record { kinds = inl refl; rising = λ e. omega arith; below = λ e. omega arith; few = omega arith; most = omega arith }

good_other : (file : ℕ) → Good file other_form
good_other file = record { kinds = inr (inr refl); rising = λ e. omega arith; below = λ e. omega arith; few = omega arith; most = omega arith }

scalar_low : (n : Number) → is_scalar n ≡ true → n.value ≤ 0x10FFFF
scalar_low n h = leb-true n.value 0x10FFFF (and_right (nat_le n.digits 6) (nat_le n.value 0x10FFFF) (and_right (nat_le 4 n.digits) (nat_le n.digits 6 && nat_le n.value 0x10FFFF) h))

good_entry : (file low high name : ℕ) → low ≤ high → high ≤ 0x10FFFF → name ≤ 22 → name ≤ names_in file → Good file (entry low high name)
good_entry file low high name r h f m = record { kinds = inr (inl refl); rising = λ e. r; below = λ e. omega arith; few = f; most = m }

good_ranged : (file : ℕ) (low high : Number) (name : ℕ) → name ≤ 22 → name ≤ names_in file → Good file (ranged low high name)
unfolding ranged
good_ranged file low high name f m = by_cases (is_scalar low) (high.digits == 0) (is_scalar high) (nat_lt low.value high.value) refl refl refl
  where
    by_cases : (s t u v : Bool) → is_scalar low ≡ s → is_scalar high ≡ u → nat_lt low.value high.value ≡ v → Good file (cond s (cond t (entry low.value low.value name) (cond u (cond v (entry low.value high.value name) other_form) other_form)) other_form)
    by_cases true true u v a b c = good_entry file low.value low.value name (omega arith) (scalar_low low a) f m
    by_cases true false true true a b c = good_entry file low.value high.value name (omega (arith, ltb-true low.value high.value c)) (scalar_low high b) f m
    by_cases true false true false a b c = good_other file
    by_cases true false false v a b c = good_other file
    by_cases false t u v a b c = good_other file

good_line : (file : ℕ) (l : Line) → Good file (entry_of file l)
unfolding entry_of
good_line file l = by_cases (l.stage == 0) (nat_le 8 l.stage && nat_le l.stage 9) (name_number file (take l.count l.name) == 0)
  where
    by_cases : (s t u : Bool) → Good file (cond s nothing (cond t (cond u other_form (ranged l.low l.high (name_number file (take l.count l.name)))) other_form))
    by_cases true t u = good_nothing file
    by_cases false true true = good_other file
    by_cases false true false = good_ranged file l.low l.high (name_number file (take l.count l.name)) (name_few file (take l.count l.name)) (name_most file (take l.count l.name))
    by_cases false false u = good_other file

pub good_of : (file : ℕ) (line : List ℕ) → Good file (line_of file line)
good_of file line = subst (Good file) (line_is file line) (good_line file (line_from empty line))

-- ---- entry by entry

-- m₀, o₀: what the files before had found
pub record Stands (file : ℕ) (kept : ℕ → ℕ) (m₀ o₀ : Bool) (es : List Entry) (s : State) : Type 0 where
  pub malformed : s.reading.malformed ≡ (malformed es || m₀)
  pub overlap : s.reading.overlap ≡ (overlap file es || o₀)
  pub tells : s.reading.overlap ≡ false → Tells file kept es s.cells
  pub good : AllGood file es

meets_none : (file : ℕ) (e : Entry) (es : List Entry) → is_entry e ≡ false → meets_any file e es ≡ false
unfolding meets_any
meets_none file e [] n = refl
meets_none file e (f ∷ es) n = rw n (meets_none file e es n)

overlap_more : (file : ℕ) (e : Entry) (es : List Entry) → overlap file (e ∷ es) ≡ (meets_any file e es || overlap file es)
unfolding overlap
overlap_more file e es = refl

overlap_past : (file : ℕ) (e : Entry) (es : List Entry) → is_entry e ≡ false → overlap file (e ∷ es) ≡ overlap file es
overlap_past file e es n = overlap_more file e es ∙ ap (λ (t : Bool). t || overlap file es) (meets_none file e es n)

malformed_more : (e : Entry) (es : List Entry) → malformed (e ∷ es) ≡ (e.kind == 2 || malformed es)
unfolding malformed
malformed_more e es = refl

or_false_left : (a b : Bool) → a || b ≡ false → a ≡ false
or_false_left true b e = e
or_false_left false b e = refl

or_false_right : (a b : Bool) → a || b ≡ false → b ≡ false
or_false_right true b e = absurd (never (sym e))
or_false_right false b e = e

or_grown : (a b c : Bool) → b || c ≡ true → true ≡ ((a || b) || c)
or_grown true b c e = refl
or_grown false b c e = sym e

or_same : (a b c : Bool) → b || c ≡ false → a ≡ ((a || b) || c)
or_same true b c e = refl
or_same false b c e = sym e

module _ (file : ℕ) (kept : ℕ → ℕ) (room : (x : ℕ) → kept x ≤ 63) (m₀ o₀ : Bool) (es : List Entry) (s : State) (h : Stands file kept m₀ o₀ es s) (e : Entry) (g : Good file e) where
  abbrev r : Reading
  r = s.reading

  past : is_entry e ≡ false → (m : Bool) → m ≡ (malformed (e ∷ es) || m₀) → Stands file kept m₀ o₀ (e ∷ es) (state_of (reading empty m r.overlap) s.cells)
  past n m k = record { malformed = k; overlap = h.overlap ∙ ap (λ (t : Bool). t || o₀) (sym (overlap_past file e es n)); tells = λ o. tells_past file kept room es h.good s.cells (h.tells o) e g n; good = (g, h.good) }

  kind_is : (n m : ℕ) → e.kind ≡ n → (e.kind == m) ≡ (n == m)
  kind_is n m k = ap (λ (i : ℕ). nat_eq i m) k

  malformed_same : (n : ℕ) → e.kind ≡ n → (n == 2) ≡ false → r.malformed ≡ (malformed (e ∷ es) || m₀)
  malformed_same n k f = h.malformed ∙ ap (λ (t : Bool). t || m₀) (sym (malformed_more e es ∙ ap (λ (t : Bool). t || malformed es) (kind_is n 2 k ∙ f)))

  nothing_more : e.kind ≡ 0 → Stands file kept m₀ o₀ (e ∷ es) (with_entry file e s)
  nothing_more k = subst (Stands file kept m₀ o₀ (e ∷ es)) (ended_nothing file e r s.cells empty refl k) (past (kind_is 0 1 k) r.malformed (malformed_same 0 k refl))

  other_more : e.kind ≡ 2 → Stands file kept m₀ o₀ (e ∷ es) (with_entry file e s)
  other_more k = subst (Stands file kept m₀ o₀ (e ∷ es)) (ended_other file e r s.cells empty refl (λ z. omega (arith, z, k)) k)
      (past (kind_is 2 1 k) true (ap (λ (t : Bool). t || m₀) (sym (malformed_more e es ∙ ap (λ (t : Bool). t || malformed es) (kind_is 2 2 k)))))

  entry_more : e.kind ≡ 1 → (o : Bool) → r.overlap ≡ o → Stands file kept m₀ o₀ (e ∷ es) (with_entry file e s)
  entry_more k true q =
      subst (Stands file kept m₀ o₀ (e ∷ es)) (ended_overlapped file e r s.cells empty refl (λ z. omega (arith, z, k)) (λ z. omega (arith, z, k)) q)
      (record {
        malformed = malformed_same 1 k refl;
        overlap = or_grown (meets_any file e es) (overlap file es) o₀ (sym h.overlap ∙ q) ∙ ap (λ (t : Bool). t || o₀) (sym (overlap_more file e es));
        tells = λ z. absurd (never (sym z));
        good = (g, h.good);
      })
  entry_more k false q =
      let t = h.tells q in
      let is : is_entry e ≡ true = kind_is 1 1 k in
      let none : overlap file es || o₀ ≡ false = sym h.overlap ∙ q in
      subst (Stands file kept m₀ o₀ (e ∷ es)) (ended_entry file e r s.cells empty refl (λ z. omega (arith, z, k)) (λ z. omega (arith, z, k)) (fill_entry file e s.cells) (taken_by_entry file e s.cells) q (record { cells = refl; any = refl }))
      (record {
        malformed = malformed_same 1 k refl;
        overlap = taken_meets file kept room es h.good s.cells t e g is ∙ or_same (meets_any file e es) (overlap file es) o₀ none ∙ ap (λ (b : Bool). b || o₀) (sym (overlap_more file e es));
        tells = λ z. tells_entry file kept room es h.good s.cells t e g is z;
        good = (g, h.good);
      })

  pub stands_more : Stands file kept m₀ o₀ (e ∷ es) (with_entry file e s)
  stands_more = ⊎_elim nothing_more (λ (p : (e.kind ≡ 1) ⊎ (e.kind ≡ 2)). ⊎_elim (λ (k : e.kind ≡ 1). entry_more k r.overlap refl) other_more p) g.kinds

-- ---- byte by byte

line_more : (line : List ℕ) (b : ℕ) (l : Line) → line_from l (line ++ b ∷ []) ≡ with_byte (line_from l line) b
unfolding line_from
line_more [] b l = refl
line_more (x ∷ line) b l = line_more line b (with_byte l x)

entries_last : (file : ℕ) (line : List ℕ) (es : List Entry) → entries_from file line es [] ≡ line_of file line ∷ es
unfolding entries_from
entries_last file line es = refl

entries_newline : (file : ℕ) (line : List ℕ) (es : List Entry) (b : ℕ) (bs : List ℕ) → (b == 0x0A) ≡ true → entries_from file line es (b ∷ bs) ≡ entries_from file [] (line_of file line ∷ es) bs
unfolding entries_from
entries_newline file line es b bs e = rw e refl

entries_more : (file : ℕ) (line : List ℕ) (es : List Entry) (b : ℕ) (bs : List ℕ) → (b == 0x0A) ≡ false → entries_from file line es (b ∷ bs) ≡ entries_from file (line ++ b ∷ []) es bs
unfolding entries_from
entries_more file line es b bs e = rw e refl

bytes_more : (file : ℕ) (s : State) (b : ℕ) (bs : List ℕ) → bytes_read file s (b ∷ bs) ≡ bytes_read file (byte_read file s b) bs
unfolding bytes_read
bytes_more file s b bs = refl

bytes_none : (file : ℕ) (s : State) → bytes_read file s [] ≡ s
unfolding bytes_read
bytes_none file s = refl

line_empty : line_from empty [] ≡ empty
unfolding line_from
line_empty = refl

pub ended_line : (file : ℕ) (e : Entry) (s : State) → (with_entry file e s).reading.line ≡ empty
unfolding with_entry
ended_line file e s = by_cases (e.kind == 0) (e.kind == 2) s.reading.overlap
  where
    by_cases : (a b c : Bool) → (cond a (state_of (reading empty s.reading.malformed s.reading.overlap) s.cells)
        (cond b (state_of (reading empty true s.reading.overlap) s.cells)
        (cond c (state_of (reading empty s.reading.malformed true) s.cells)
        (state_of (reading empty s.reading.malformed (taken_by_entry file e s.cells)) (fill_entry file e s.cells))))).reading.line ≡ empty
    by_cases true b c = refl
    by_cases false true c = refl
    by_cases false false true = refl
    by_cases false false false = refl

module _ (file : ℕ) (kept : ℕ → ℕ) (room : (x : ℕ) → kept x ≤ 63) (m₀ o₀ : Bool) where
  ended : (s : State) (line : List ℕ) (es : List Entry) → s.reading.line ≡ line_from empty line → Stands file kept m₀ o₀ es s → Stands file kept m₀ o₀ (line_of file line ∷ es) (line_ended file s)
  ended s line es l h = subst (λ (e : Entry). Stands file kept m₀ o₀ (e ∷ es) (line_ended file s)) (ap (entry_of file) l ∙ line_is file line) (stands_more file kept room m₀ o₀ es s h (entry_of file s.reading.line) (good_line file s.reading.line))

  pub file_stands : (bs : List ℕ) (s : State) (line : List ℕ) (es : List Entry) → s.reading.line ≡ line_from empty line → Stands file kept m₀ o₀ es s → Stands file kept m₀ o₀ (entries_from file line es bs) (line_ended file (bytes_read file s bs))
  file_stands [] s line es l h = rw (entries_last file line es, bytes_none file s) (ended s line es l h)
  file_stands (b ∷ bs) s line es l h = by_case (b == 0x0A) refl (λ s' line' es'. file_stands bs s' line' es')
    where
      by_case : (t : Bool) → (b == 0x0A) ≡ t → ((s' : State) (line' : List ℕ) (es' : List Entry) → s'.reading.line ≡ line_from empty line' → Stands file kept m₀ o₀ es' s' → Stands file kept m₀ o₀ (entries_from file line' es' bs) (line_ended file (bytes_read file s' bs))) → Stands file kept m₀ o₀ (entries_from file line es (b ∷ bs)) (line_ended file (bytes_read file s (b ∷ bs)))
      by_case true e hyp =
          let next : line_ended file s ≡ byte_read file s b = byte_newline file s.reading s.cells b (line_ended file s).reading (line_ended file s).cells (eqb-true b 0x0A e) refl in
          rw (entries_newline file line es b bs e, bytes_more file s b bs, ← next)
          (hyp (line_ended file s) [] (line_of file line ∷ es) (ended_line file (entry_of file s.reading.line) s ∙ sym line_empty) (ended s line es l h))
      by_case false e hyp =
          let line' : Line = with_byte s.reading.line b in
          let s' : State = state_of (reading line' s.reading.malformed s.reading.overlap) s.cells in
          let next : s' ≡ byte_read file s b = byte_more file s.reading s.cells b line' (eqb-false b 0x0A e) refl in
          rw (entries_more file line es b bs e, bytes_more file s b bs, ← next)
          (hyp s' (line ++ b ∷ []) es (ap (λ (x : Line). with_byte x b) l ∙ sym (line_more line b empty)) (record { malformed = h.malformed; overlap = h.overlap; tells = h.tells; good = h.good }))
