-- Text by text, and the rows of a table one after the other.
use Rattle.std.specs.Prelude.{◌≡◌, refl, ℕ, suc, ◌+◌, ◌^◌, ◌≤◌, ◌<◌, Bool, true, false, List, [], ◌∷◌, ◌++◌, map, length, take, drop, replicate, ◌-◌, Option, Some, None, Result, Ok, Err, ⊤}
use Rattle.std.proofs.Common.{sym, ap, subst, ◌∙◌, add-one, arith, append-nil, append_assoc}
use Rattle.std.proofs.lemmas.List.{length-replicate, get_or-replicate}
use Rattle.buffer.specs.Sink.{sink, emit}
use Rattle.unicode_io.specs.Line.{empty}
use Rattle.unicode_io.specs.Cells.{kind_of}
use Rattle.unicode_io.specs.Reading.{state_of, reading, number_of, refusal_number}
use Rattle.unicode_io.specs.declared.reading.Refusal.{Refusal}
use Rattle.unicode_io.specs.declared.reading.Refusal.TheVariants as reason
use Rattle.unicode_io.specs.Rows.{row_in, rows_from, next_row}
use Rattle.unicode_io.specs.Rows.Laws.{Answered, answered, none_left}
use Rattle.unicode_io.specs.Output.{row_text, row_texts, table_text, refusal}
use Rattle.unicode_io.specs.Output.Laws.{row_length, refusal_length, text_pushed, texts_none, texts_more, table_texts}
use Rattle.unicode_io.specs.Generator.{refusal_of}
use Rattle.unicode_io.specs.Generator.Laws.{printed_of, answer_refused, answer_table, prints_three, prints_four}
use Rattle.unicode_io.specs.declared.rows.Row.{Row}
use Rattle.unicode_table.specs.Files.{files_read, Files}
use Rattle.unicode_table.specs.Printed.{Handed, generated, Begun, Made}
use Rattle.unicode_io.specs.declared.reading.Reading.{Reading}

never : {A : Type 0} → false ≡ true → A
never e = absurd (let y : ◌≡◌ {A = ℕ} 0 1 = cc in omega arith)

pub handed_all : (text : List ℕ) → Handed text true
handed_all text = record { given = text; rest = []; whole = append-nil text; all = λ e. refl }

pub handed_lost : (text : List ℕ) → Handed text false
handed_lost text = record { given = text; rest = []; whole = append-nil text; all = λ e. refl }

pub not_handed : (text : List ℕ) → Handed text false
not_handed text = record { given = []; rest = text; whole = refl; all = λ e. never e }

pub handed_pushed : (l l' text : List ℕ) (n : ℕ) (taken : Bool) → length text ≤ length l → sink l' n ≡ emit (sink l 0) text → Handed (take n l') taken → Handed text taken
handed_pushed l l' text n taken h e k = subst (λ (t : List ℕ). Handed t taken) (text_pushed l text l' n h e) k

pub refusal_handed : (l l' : List ℕ) (number n : ℕ) (taken : Bool) → length l ≡ 64 → sink l' n ≡ emit (sink l 0) (refusal number) → Handed (take n l') taken → Handed (refusal number) taken
refusal_handed l l' number n taken h e k = handed_pushed l l' (refusal number) n taken (omega (arith, refusal_length number)) e k

pub row_handed : (l l' : List ℕ) (total i n : ℕ) (row : Row) (taken : Bool) → length l ≡ 256 → sink l' n ≡ emit (sink l 0) (row_text total i row) → Handed (take n l') taken → Handed (row_text total i row) taken
row_handed l l' total i n row taken h e k = handed_pushed l l' (row_text total i row) n taken (omega (arith, row_length total i row)) e k

-- ---- the rows, one after the other

-- the place after i rows: each takes a kind at least, and none goes past the last
pub record Placed (kinds : List ℕ) (i place : ℕ) : Type 0 where
  pub few : i ≤ place
  pub within : place ≤ length kinds

pub placed_begins : (kinds : List ℕ) → Placed kinds 0 0
placed_begins kinds = record { few = omega arith; within = omega arith }

module _ (kinds : List ℕ) (total : ℕ) where
  abbrev left : ℕ → List Row
  left place = rows_from place (drop place kinds)

  pub record Printing (i place : ℕ) : Type 0 where
    pub given : List ℕ
    pub work : given ++ row_texts total i (left place) ≡ table_text (rows_from 0 kinds)
    pub many : i + length (left place) ≡ total

  pub printing_begins : total ≡ length (rows_from 0 kinds) → Printing 0 0
  printing_begins e = record { given = []; work = ap (λ (n : ℕ). row_texts n 0 (rows_from 0 kinds)) e ∙ table_texts (rows_from 0 kinds); many = omega arith }

  module _ (i place : ℕ) (z : Printing i place) (o : Option Row) (e : o ≡ row_in (next_row place kinds)) where
    module _ (r : Row) (p : o ≡ Some r) where
      answer : Answered kinds place r
      answer = answered kinds place o e r p

      text : z.given ++ (row_text total i r ++ row_texts total (suc i) (left r.end)) ≡ table_text (rows_from 0 kinds)
      text = ap (λ (t : List ℕ). z.given ++ t) (sym (texts_more total i r (left r.end))) ∙ ap (λ (rs : List Row). z.given ++ row_texts total i rs) (sym answer.first) ∙ z.work

      many : i + suc (length (left r.end)) ≡ total
      many = let n : length (left place) ≡ suc (length (left r.end)) = ap (length {A = Row}) answer.first in omega (arith, n, z.many)

      -- a row ends after the place from which it was looked for
      pub printing_less : Placed kinds i place → length kinds - r.end < length kinds - place
      printing_less y = omega (arith, answer.further, answer.inside y.within)

      pub placed_turn : Placed kinds i place → Placed kinds (i + 1) r.end
      placed_turn y = record { few = omega (arith, y.few, answer.further); within = answer.inside y.within }

      -- a row is found only where fewer than all are printed
      pub rows_less : total - (i + 1) < total - i
      rows_less = omega (arith, many)

      pub printing_fits : total < 2 ^ 64 → i + 1 < 2 ^ 64
      printing_fits h = omega (arith, many)

      pub printing_turn : (taken : Bool) → taken ≡ true → Handed (row_text total i r) taken → Printing (i + 1) r.end
      printing_turn taken h k =
          record {
            given = z.given ++ row_text total i r;
            work = rw (add-one i) (append_assoc z.given (row_text total i r) (row_texts total (suc i) (left r.end)) ∙ text);
            many = omega (arith, many);
          }

      pub printing_stops : (taken : Bool) → taken ≡ false → Handed (row_text total i r) taken → Handed (table_text (rows_from 0 kinds)) false
      printing_stops taken h k =
          let further : List ℕ = row_texts total (suc i) (left r.end) in
          record {
            given = z.given ++ k.given;
            rest = k.rest ++ further;
            whole = append_assoc z.given k.given (k.rest ++ further) ∙ ap (λ (t : List ℕ). z.given ++ t) (sym (append_assoc k.given k.rest further) ∙ ap (λ (t : List ℕ). t ++ further) k.whole) ∙ text;
            all = λ o. never o;
          }

    pub printing_ends : o ≡ None → Handed (table_text (rows_from 0 kinds)) true
    printing_ends p =
        let none : left place ≡ [] = none_left kinds place o e p in
        let e : z.given ≡ table_text (rows_from 0 kinds) = sym (append-nil z.given) ∙ ap (λ (t : List ℕ). z.given ++ t) (sym (texts_none total i)) ∙ ap (λ (rs : List Row). z.given ++ row_texts total i rs) (sym none) ∙ z.work in
        subst (λ (t : List ℕ). Handed t true) e (handed_all z.given)

-- ---- the files, and what is printed for them

generated_is : (files : List (List ℕ)) (cells : List ℕ) (count : ℕ) → Begun cells count → length files ≡ count → printed_of (files_read 0 (state_of (reading empty false false) cells) files) ≡ generated files
unfolding files_read generated
generated_is [] cells count b e = absurd (omega (arith, b.least))
generated_is (f ∷ []) cells count b e = absurd (omega (arith, b.least))
generated_is (f ∷ g ∷ []) cells count b e = absurd (omega (arith, b.least))
generated_is (f ∷ g ∷ h ∷ []) cells count b e = prints_three f g h cells b.many b.zeros
generated_is (f ∷ g ∷ h ∷ k ∷ []) cells count b e = prints_four f g h cells b.many b.zeros k
generated_is (f ∷ g ∷ h ∷ k ∷ x ∷ fs) cells count b e = absurd (omega (arith, b.most))

refused : (e : Refusal) → 0 < number_of e
refused reason.OtherForm = omega arith
refused reason.Overlap = omega arith

module _ (cells : List ℕ) (r : Reading) (taken : Bool) (x : Result ⊤ Refusal) (q : refusal_number x ≡ refusal_of r.malformed r.overlap) where
  pub print_refused : (e : Refusal) → x ≡ Err e → Handed (refusal (number_of e)) taken → Handed (printed_of (state_of r cells)) taken
  print_refused e p h = subst (λ (t : List ℕ). Handed t taken) (answer_refused r.malformed r.overlap (table_text (rows_from 0 (map kind_of cells))) (number_of e) (sym (ap refusal_number p) ∙ q) (refused e)) h

  pub print_table : (u : ⊤) (kinds : List ℕ) → x ≡ Ok u → kinds ≡ map kind_of cells → Handed (table_text (rows_from 0 kinds)) taken → Handed (printed_of (state_of r cells)) taken
  print_table u kinds p k h = subst (λ (t : List ℕ). Handed t taken) (ap (λ (l : List ℕ). table_text (rows_from 0 l)) k ∙ answer_table r.malformed r.overlap (table_text (rows_from 0 (map kind_of cells))) 0 (sym (ap refusal_number p) ∙ q) (omega arith)) h

pub made : (cells after : List ℕ) (count : ℕ) (r : Reading) (taken : Bool) → Begun cells count → Files count cells after r → Handed (printed_of (state_of r after)) taken → Made count (record { read = true; taken = taken })
made cells after count r taken b a h = record { where_read = λ o. record { files = a.files; many = a.many; handed = subst (λ (t : List ℕ). Handed t taken) (ap printed_of a.read ∙ generated_is a.files cells count b a.many) h } }

pub unmade : (count : ℕ) (taken : Bool) → Made count (record { read = false; taken = taken })
unmade count taken = record { where_read = λ o. never o }

pub begun : (n count : ℕ) → n ≡ 1114112 → 3 ≤ count → count ≤ 4 → Begun (replicate n 0) count
begun n count e l m = record { many = length-replicate {A = ℕ} n 0 ∙ e; zeros = λ x h. get_or-replicate n x 0 0 (omega arith); least = l; most = m }
