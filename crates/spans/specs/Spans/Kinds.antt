-- The kinds of spans as the code names them, and the numbers that stand for them in a record.
use Rattle.std.specs.Prelude.{◌≡◌, ℕ, ◌≤◌, ◌<◌, Result, MatchResult, refl}
use Rattle.spans.specs.Sequence.{sgr, erase_to_end, ignored, hyperlink, line_drawing}
use Rattle.std.proofs.Math.Option.{none, some}
use Rattle.spans.specs.Spans.{Content, text, control, invalid, unprintable, escape, tab, crlf, lf, kind_of}
use Rattle.spans.specs.declared.kind.SpanKind.{SpanKind}
use Rattle.spans.specs.declared.kind.SpanKind.TheVariants.{Text, Match, Control, Invalid, Unprintable, SgrSequence, Hyperlink, LineDrawing, Ignore, Tab, CrLf, Lf, EraseToEndOfLine}
use Rattle.spans.specs.declared.kind.UnknownKind.{UnknownKind}

abbrev pub number_of_kind : SpanKind → ℕ
number_of_kind Text = 1
number_of_kind Match = 2
number_of_kind Control = 3
number_of_kind Invalid = 4
number_of_kind Unprintable = 5
number_of_kind SgrSequence = 6
number_of_kind Hyperlink = 7
number_of_kind LineDrawing = 8
number_of_kind Ignore = 9
number_of_kind Tab = 10
number_of_kind CrLf = 11
number_of_kind Lf = 12
number_of_kind EraseToEndOfLine = 13

-- a number that stands for no kind
abbrev pub NamesNoKind : ℕ → Type 0
NamesNoKind n = 1 ≤ n → 13 < n

-- the kind that a number stands for, or the number itself where it stands for none
abbrev pub Names : ℕ → Result SpanKind UnknownKind → Type 0
Names n r = MatchResult r (λ k. number_of_kind k ≡ n) (λ e. (e.0 ≡ n) × NamesNoKind n)

-- the kind of a span
unfoldable pub content_kind : Content → SpanKind
content_kind (text none s) = Text
content_kind (text (some k) s) = Match
content_kind (control b) = Control
content_kind (invalid b) = Invalid
content_kind (unprintable s) = Unprintable
content_kind (escape (sgr os)) = SgrSequence
content_kind (escape (hyperlink a n)) = Hyperlink
content_kind (escape (line_drawing b)) = LineDrawing
content_kind (escape ignored) = Ignore
content_kind (escape erase_to_end) = EraseToEndOfLine
content_kind tab = Tab
content_kind crlf = CrLf
content_kind lf = Lf

pub content_kind_law : (c : Content) → kind_of c ≡ number_of_kind (content_kind c)
unfolding content_kind kind_of
content_kind_law (text none s) = refl
content_kind_law (text (some k) s) = refl
content_kind_law (control b) = refl
content_kind_law (invalid b) = refl
content_kind_law (unprintable s) = refl
content_kind_law (escape (sgr os)) = refl
content_kind_law (escape (hyperlink a n)) = refl
content_kind_law (escape (line_drawing b)) = refl
content_kind_law (escape ignored) = refl
content_kind_law (escape erase_to_end) = refl
content_kind_law tab = refl
content_kind_law crlf = refl
content_kind_law lf = refl
