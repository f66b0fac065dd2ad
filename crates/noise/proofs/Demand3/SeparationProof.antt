-- Separation: the proof.
use Rattle.std.proofs.Math.Path.{◌≡◌, ap, ap₂}
use Rattle.std.specs.Prelude.{refl, Bool, true, take, T, leb}
use Rattle.std.proofs.Common.{sym, ◌∙◌, arith, not-suc-le-zero, length-append, leb→le, le→leb}
use Prim.Native.Nat.{ℕ, zero, suc, ◌+◌, ◌*◌, ◌≤◌}
use mathlib.Core.List.{List, [], ◌∷◌, ◌++◌, map}
use Rattle.std.proofs.Math.Option.{some}
use Rattle.std.proofs.Math.ListN.{length}
use Rattle.std.proofs.lemmas.List.{length-map}
use Rattle.std.proofs.Math.Seq.{take-append_seam}
use Rattle.text.specs.Tests.{is_true, true_T, cases}
use Rattle.text.specs.Utf8.{all_noise}
use Rattle.text.specs.Class.{Profile}
use Rattle.text.specs.Calls.{Question, ask, decide, lent, counted, question2}
use Rattle.text.specs.Calls.Laws.{counted_accepted, decide_yes, first_yes, lent_accepted}
use Rattle.text.specs.Overstrike.{convert}
use Rattle.spans.specs.Spans.{Span, spans, Record, a_record, record_of, records, kind_of, match_of}
use Rattle.spans.specs.Spans.Laws.{shift, map_append, records_length}
use Rattle.spans.specs.Spans.Noise.{damage, separation}
use Rattle.spans.specs.Search as search
use Rattle.spans.specs.Calls.{Read, read_call, question3, question4, no_record}
use Rattle.rows.specs.Calls.{Wrapped, mode_of, rows_call, height_call}
use Rattle.rows.specs.Calls.Laws.{rows_refused, height_refused}
use Rattle.drawing.specs.Change.{Change}
use Rattle.drawing.specs.Draw.{render, render_wrapped}
use Rattle.drawing.specs.Reader.{seen_by}
use Rattle.drawing.specs.Calls.{Drawn, drawing, window_questions, window_question8, row_questions, row_question8, window_call, row_call}
use Rattle.drawing.specs.Calls.Laws.{drawing_unknown, drawing_unread}
use Rattle.noise.specs.Calls.{Call, answer, no_matches, without_matches, conv_of, places_of}
use Rattle.noise.specs.Calls as calls
use Rattle.noise.specs.Demand3.{listed, moved, noise_records, together, Separated, SeparatedCall, Separation}

-- ---- records

records_shift : (k : ℕ) (ss : List Span) → records (map (shift k) ss) ≡ map (moved k) (records ss)
unfolding records shift moved record_of
records_shift k [] = refl
records_shift k (s ∷ ss) = ap (λ (l : List Record). moved k (record_of s) ∷ l) (records_shift k ss)

records_damage : (p : ℕ) (ns : List ℕ) → records (damage p ns) ≡ noise_records p ns
unfolding records damage noise_records record_of kind_of match_of
records_damage p [] = refl
records_damage p (n ∷ ns) = ap (λ (l : List Record). a_record 4 p 1 0 ∷ l) (records_damage (suc p) ns)

-- ---- acceptance

accept : (n : ℕ) (b : Bool) (qs : List Question) → b ≡ true → decide qs ≡ 0 → decide (ask n b ∷ qs) ≡ 0
accept n b qs e f = decide_yes (ask n b) qs e ∙ f

leb_down : (m n k : ℕ) → leb n k ≡ true → m ≤ n → leb m k ≡ true
leb_down m n k e h = let d : n ≤ k = leb→le n k (true_T e) in is_true _ (le→leb m k (omega arith))

-- the records in front of the zeros
front : (r n places : ℕ) (rs : List Record) → r ≡ 0 → n ≡ length rs → take (counted n r) (lent no_record places rs r) ≡ rs
front r n places rs e f = rw (e, f, counted_accepted (length rs), lent_accepted no_record places rs) (take-append_seam rs _)

-- where a refusal of one call is the other's too, the second is accepted only where the first is
fine : (r q : ℕ) → ((k : ℕ) → r ≡ suc k → q ≡ suc k) → q ≡ 0 → r ≡ 0
fine zero q f e = refl
fine (suc k) q f e = absurd (omega (arith, f k refl))

module _ (P : Profile) where
  as_many : (b : ℕ) {k n : ℕ} (s : List ℕ) → some k ≡ some n → (read_call P b k [] s).number ≡ 0 → (read_call P b n [] s).number ≡ 0
  as_many b {k} {n} s p e = let q : k ≡ n = cc in rw (← q) e

  -- the records of a line read without matches
  abbrev records_of : List ℕ → List Record
  records_of s = records (spans P (convert P s))

  listed_read : (conv places : ℕ) (s : List ℕ) → (answer P (calls.read conv places []) s).number ≡ 0 → listed (answer P (calls.read conv places []) s) ≡ records_of s
  unfolding listed answer read_call search.read
  listed_read conv places s e = front _ _ places (records_of s) e (sym (records_length (spans P (convert P s))))

  -- reading accepts what is shorter in bytes and in spans
  read_down : (conv places : ℕ) (s t : List ℕ) → length s ≤ length t → length (spans P (convert P s)) ≤ length (spans P (convert P t))
      → (answer P (calls.read conv places []) t).number ≡ 0 → (answer P (calls.read conv places []) s).number ≡ 0
  unfolding answer read_call search.read search.in_order
  read_down conv places s t h k e =
      let c : List ℕ = convert P t in
      let d : List ℕ = convert P s in
      let a₁ = first_yes (ask 1 (leb (length t) 4096)) (question2 conv t ∷ question3 [] c ∷ question4 places (spans P c) ∷ []) tt e in
      let a₂ = first_yes (ask 2 (leb (8 * length t) conv)) (question3 [] c ∷ question4 places (spans P c) ∷ []) tt a₁.1 in
      let a₃ = first_yes (ask 4 (leb (length (spans P c)) places)) [] tt a₂.1 in
      accept 1 (leb (length s) 4096) (question2 conv s ∷ question3 [] d ∷ question4 places (spans P d) ∷ []) (leb_down _ (length t) 4096 a₁.0 h)
      (accept 2 (leb (8 * length s) conv) (question3 [] d ∷ question4 places (spans P d) ∷ []) (leb_down _ (8 * length t) conv a₂.0 (omega arith))
      (accept 4 (leb (length (spans P d)) places) [] (leb_down _ (length (spans P c)) places a₃.0 k) refl))

  drawn_reads : (v b k r : ℕ) (qs : List Question) (eight : List Span → Question) (draw : List Span → List Change) (s : List ℕ) → (drawing P v b k r [] qs eight draw s).number ≡ 0 → (read_call P b k [] s).number ≡ 0
  drawn_reads v b k r qs eight draw s e =
      cases (leb v 1)
      (λ y. fine _ _ (λ i d. ap (λ (a : Drawn). a.number) (drawing_unread P v b k r [] qs eight draw s y i d)) e)
      (λ y. absurd (let z : 0 ≡ 18 = sym e ∙ ap (λ (a : Drawn). a.number) (drawing_unknown P v b k r [] qs eight draw s y) in omega arith))

  -- a call without matches, conversion apart, puts the questions of reading with its sizes: where it is accepted, so is reading
  accepted_reads : (c : Call) (n : ℕ) (s : List ℕ) → places_of c ≡ some n → T (without_matches c) → (answer P c s).number ≡ 0 → (answer P (calls.read (conv_of c) n []) s).number ≡ 0
  unfolding without_matches no_matches places_of conv_of answer window_call row_call
  accepted_reads (calls.convert b) n s p h e = absurd (let z : ◌≡◌ {A = ℕ} 0 1 = cc in omega arith)
  accepted_reads (calls.read b k []) n s p h e = as_many b s p e
  accepted_reads (calls.read b k (m ∷ ms)) n s p h e = absurd h
  accepted_reads (calls.rows b k x w y) n s p h e = as_many b s p (fine _ _ (λ i d. ap (λ (a : Wrapped). a.number) (rows_refused P b k s w y x i d)) e)
  accepted_reads (calls.height b k w y) n s p h e = as_many b s p (fine _ _ (λ i d. ap (λ (a : Read). a.number) (height_refused P b k s w y i d)) e)
  accepted_reads (calls.draw_window v b k r x y now []) n s p h e = as_many b s p (drawn_reads v b k r (window_questions x y) (window_question8 P x y) (λ ss. seen_by v (render P x y now ss)) s e)
  accepted_reads (calls.draw_window v b k r x y now (m ∷ ms)) n s p h e = absurd h
  accepted_reads (calls.draw_row v b k r x i w y now []) n s p h e = as_many b s p (drawn_reads v b k r (row_questions x i w y) (row_question8 P x i w y) (λ ss. seen_by v (render_wrapped P x i w (mode_of y) now ss)) s e)
  accepted_reads (calls.draw_row v b k r x i w y now (m ∷ ms)) n s p h e = absurd h

  -- every accepted call without matches, conversion apart, leaves the records of the converted line
  leaves_records : (c : Call) (n : ℕ) (s : List ℕ) → places_of c ≡ some n → T (without_matches c) → (answer P c s).number ≡ 0 → (answer P c s).spans ≡ lent no_record n (records_of s) 0
  unfolding without_matches no_matches places_of answer read_call rows_call height_call window_call row_call drawing search.read
  leaves_records (calls.convert b) n s p h e = absurd (let z : ◌≡◌ {A = ℕ} 0 1 = cc in omega arith)
  leaves_records (calls.read b k []) n s p h e = ap₂ (λ (x r : ℕ). lent no_record x (records_of s) r) (cc) e
  leaves_records (calls.read b k (m ∷ ms)) n s p h e = absurd h
  leaves_records (calls.rows b k w x y) n s p h e = ap₂ (λ (x r : ℕ). lent no_record x (records_of s) r) (cc) e
  leaves_records (calls.height b k x y) n s p h e = ap₂ (λ (x r : ℕ). lent no_record x (records_of s) r) (cc) e
  leaves_records (calls.draw_window v b k r x y now []) n s p h e = ap₂ (λ (x r : ℕ). lent no_record x (records_of s) r) (cc) e
  leaves_records (calls.draw_window v b k r x y now (m ∷ ms)) n s p h e = absurd h
  leaves_records (calls.draw_row v b k r f c w x now []) n s p h e = ap₂ (λ (x r : ℕ). lent no_record x (records_of s) r) (cc) e
  leaves_records (calls.draw_row v b k r f c w x now (m ∷ ms)) n s p h e = absurd h

  -- the records of a line that is two parts with noise between them
  records_together : (a : List ℕ) (n : ℕ) (ns b : List ℕ) → T (all_noise (n ∷ ns)) → records_of (a ++ ((n ∷ ns) ++ b)) ≡ together P a (n ∷ ns) b (records_of a) (records_of b)
  unfolding together records
  records_together a n ns b h =
      ap records (separation P a n ns b h)
      ∙ map_append record_of (spans P (convert P a)) _
      ∙ ap (λ (l : List Record). records_of a ++ l)
      (map_append record_of (damage (length (convert P a)) (n ∷ ns)) _
      ∙ ap₂ (λ (x y : List Record). x ++ y) (records_damage (length (convert P a)) (n ∷ ns)) (records_shift _ (spans P (convert P b))))

  module _ (first : List ℕ) (n : ℕ) (ns second : List ℕ) (h : T (all_noise (n ∷ ns))) where
    abbrev line : List ℕ
    line = first ++ ((n ∷ ns) ++ second)

    separated : (conv places : ℕ) → (answer P (calls.read conv places []) line).number ≡ 0 → Separated P first (n ∷ ns) second conv places
    separated conv places e =
        let d : length line ≡ length first + suc (length ns + length second) = simp length-append (omega arith) in
        let k : length (spans P (convert P line)) ≡ length (spans P (convert P first)) + (length (damage (length (convert P first)) (n ∷ ns)) + length (spans P (convert P second))) =
        ap length (separation P first n ns second h) ∙ simp (length-append, length-map) in
        let f = read_down conv places first line (omega arith) (omega arith) e in
        let g = read_down conv places second line (omega arith) (omega arith) e in
        record {
          first_accepted = f;
          second_accepted = g;
          spans = listed_read conv places line e ∙ records_together first n ns second h ∙ rw (listed_read conv places first f, listed_read conv places second g);
        }

    separated_call : (c : Call) (m : ℕ) → places_of c ≡ some m → T (without_matches c) → (answer P c line).number ≡ 0 → SeparatedCall P first (n ∷ ns) second c m
    separated_call c m p t a =
        let e = accepted_reads c m line p t a in
        let w = separated (conv_of c) m e in
        record { read_accepted = e; separated = w; spans = rw (← w.spans, listed_read (conv_of c) m line e) (leaves_records c m line p t a) }

  pub separation_of : (first noises second : List ℕ) → Separation P first noises second
  separation_of first [] second l h = absurd (not-suc-le-zero l)
  separation_of first (n ∷ ns) second l h = record { reading = separated first n ns second h; others = separated_call first n ns second h }
