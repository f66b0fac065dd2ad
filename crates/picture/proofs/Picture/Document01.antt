-- Document 01's profile is as the row picture asks, and in it whitespace and hyphens are unshared in every line.
use Rattle.std.specs.Prelude.{◌≡◌, refl, ℕ, true, List, [], T}
use Rattle.std.proofs.Common.{sym, subst, ◌∙◌, arith, eqb-true}
use Rattle.text.specs.Tests.{cases}
use Rattle.text.specs.Each.{All, all_every, all_map}
use Rattle.text.specs.Utf8 as utf8
use Rattle.text.specs.Utf8.{Scalar, Piece, runs, decode}
use Rattle.text.specs.Class.{Profile, whitespace}
use Rattle.text.specs.Class.Ascii.{AsciiClasses, printable_class, printable_columns}
use Rattle.text.specs.Class.Code.{printable, profile_of}
use Rattle.text.specs.Class.Laws.{other_number}
use Rattle.text.specs.Class.Profile01.{profile_is, ascii_classes, zero_width_classes}
use Rattle.text.specs.Class.Ranges.{each_in, each_in_law}
use Rattle.text.specs.Class.Symbols.{SymbolClasses, symbol_classes}
use Rattle.text.specs.Width.Laws.{width_two}
use Rattle.text.specs.Width.Symbols.{SymbolColumns, symbol_columns_law}
use Rattle.text.specs.Cluster.{clusters}
use Rattle.text.specs.Cluster.Spaces.{space_numbers}
use Rattle.text.specs.Cluster.Unshared.{clusters_unshared}
use Rattle.text.specs.Overstrike.{convert}
use Rattle.text.specs.Overstrike.Bytes.{Byte}
use Rattle.text.specs.Segmentation.Boundaries.{ascii_numbers}
use Rattle.text.specs.declared.class.Profile as code
use Rattle.spans.specs.Spans.{spans}
use Rattle.spans.specs.Calls.{read_call}
use Rattle.drawing.specs.Marks.LineDrawn.{replacement_symbol, replaced_printable}
use Rattle.picture.specs.Conditions.{Plain, composed, PlainComposed, WordBreakClasses, Unshared, UnsharedPiece}
use Rattle.picture.specs.Picture.{OfLines, RowsShow, RowsShowTheLine, PagingShows, PagingShowsTheLine}
use Rattle.picture.proofs.Picture.Lines.{rows_show_lines, paging_shows_lines}

-- ---- what drawing composes

composed_printable : T (each_in composed printable)
unfolding composed each_in
composed_printable = tt

plain_composed : (P : Profile) → AsciiClasses P → SymbolClasses P → SymbolColumns P → PlainComposed P
plain_composed P a c w =
    record {
      composed = λ v e. printed v (each_in_law composed v printable composed_printable e);
      replaced = λ v e. let s = replacement_symbol v e in (printed v (replaced_printable v e), record { class = c.other _ s ∙ sym other_number; width = w.one _ s });
    }
  where
    printed : (v : ℕ) → printable v ≡ true → Plain P v
    printed v e = record { class = printable_class P a v e ∙ sym other_number; width = printable_columns P a v e }

-- ---- whitespace and hyphens

module _ (p : code.Profile) where
  classes : WordBreakClasses (profile_of p)
  classes v e = cases (whitespace v) (λ w. space_numbers p v w) (λ w. ascii_numbers (profile_of p) (ascii_classes p) v (omega (arith, eqb-true v 0x2D (rw w at e))))

  unshared : (s : List Scalar) → All (Unshared (profile_of p)) (clusters (profile_of p) s)
  unshared s = all_map (λ g h x y c e k. h x y c e (classes c.code k)) (clusters_unshared (profile_of p) (zero_width_classes p) s)

  unshared_piece : (x : Piece) → UnsharedPiece (profile_of p) x
  unshared_piece (utf8.run s) = UnsharedPiece.run (unshared s)
  unshared_piece (utf8.damaged b) = UnsharedPiece.damaged

-- ---- the row picture of every accepted line

module _ (p : code.Profile) where
  abbrev P : Profile
  P = profile_of p

  -- what is asked of profiles and lines
  of_lines : (Q : List ℕ → (conv places : ℕ) → Type 0) → OfLines P Q → (line : List ℕ) → All Byte line → (conv places : ℕ) → (read_call P conv places [] line).number ≡ 0 → Q line conv places
  of_lines Q f line bytes conv places e =
      f (plain_composed P (ascii_classes p) (symbol_classes p) (symbol_columns_law p)) (classes p) (λ v. width_two p v _ refl) line bytes conv places e (all_every (unshared_piece p) (runs (decode (convert P line))))

  show_lines : (line : List ℕ) → All Byte line → (conv places : ℕ) → (read_call P conv places [] line).number ≡ 0 → RowsShow P (spans P (convert P line))
  show_lines = of_lines (λ line conv places. RowsShow P (spans P (convert P line))) (rows_show_lines P)

  page_lines : (line : List ℕ) → All Byte line → (conv places : ℕ) → (read_call P conv places [] line).number ≡ 0 → PagingShows P conv places line
  page_lines = of_lines (λ line conv places. PagingShows P conv places line) (paging_shows_lines P (ascii_classes p))

abbrev first : code.Profile
first = record { version = 0 }

pub rows_show_the_line : RowsShowTheLine
rows_show_the_line = subst (λ (P : Profile). (line : List ℕ) → All Byte line → (conv places : ℕ) → (read_call P conv places [] line).number ≡ 0 → RowsShow P (spans P (convert P line))) (profile_is first) (show_lines first)

-- ---- paging by the calls

pub paging_shows_the_line : PagingShowsTheLine
paging_shows_the_line = subst (λ (P : Profile). (line : List ℕ) → All Byte line → (conv places : ℕ) → (read_call P conv places [] line).number ≡ 0 → PagingShows P conv places line) (profile_is first) (page_lines first)
