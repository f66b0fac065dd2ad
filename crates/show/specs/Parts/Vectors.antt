-- A file `f` at width 2 by clusters, in a line of 4 bytes and a buffer of 8.
use Rattle.std.specs.Prelude.{◌≡◌, refl, true, false, List, [], ◌∷◌, replicate}
use Rattle.text.specs.Width as width
use Rattle.spans.specs.Search as search
use Rattle.buffer.specs.Sink.{sink, saturated, put, emit}
use Rattle.show_io.specs.Lines.{refusal_text}
use Rattle.show_io.specs.Input.{state}
use Rattle.show_io.specs.declared.lines.View.{View}
use Rattle.show.specs.Parts.{Shown, shown, Given, with_parts}
use Rattle.show.specs.Parts.File.{bytes_of}
use Rattle.show.specs.Whole.{file_shown}

abbrev view : View
view = record { mode = 1; start = 0; width = 2 }

abbrev asked : List Given → Shown
unfolding with_parts saturated put emit width.profile01 search.in_order
asked gs = with_parts (0x66 ∷ []) view 4 (state 0 [] (sink (replicate 8 0) 0)) gs

-- `a`, newline and `b`; a newline; the end; and what is not asked for any more
abbrev two_parts :
    asked (record { part = 0x61 ∷ 0x0A ∷ 0x62 ∷ []; taken = true ∷ true ∷ true ∷ []; many = refl } ∷ record { part = 0x0A ∷ []; taken = true ∷ []; many = refl }
    ∷ record { part = []; taken = []; many = refl } ∷ record { part = 0x63 ∷ []; taken = true ∷ []; many = refl } ∷ [])
    ≡ shown (state 2 [] (sink (0x62 ∷ 0x20 ∷ 0x0A ∷ 0 ∷ 0 ∷ 0 ∷ 0 ∷ 0 ∷ []) 0)) (0x61 ∷ 0x20 ∷ 0x0A ∷ 0x62 ∷ 0x20 ∷ 0x0A ∷ []) false
unfolding asked
two_parts = refl

-- `a` and a newline, which the system does not take
abbrev not_taken :
    asked (record { part = 0x61 ∷ 0x0A ∷ []; taken = false ∷ true ∷ []; many = refl } ∷ record { part = 0x62 ∷ 0x0A ∷ []; taken = true ∷ true ∷ []; many = refl } ∷ [])
    ≡ shown (state 1 [] (sink (0x61 ∷ 0x20 ∷ 0x0A ∷ 0 ∷ 0 ∷ 0 ∷ 0 ∷ 0 ∷ []) 0)) (0x61 ∷ 0x20 ∷ 0x0A ∷ []) false
unfolding asked
not_taken = refl

-- `a`, newline and `b`, at once
abbrev whole : file_shown (0x66 ∷ []) view (0x61 ∷ 0x0A ∷ 0x62 ∷ []) ≡ 0x61 ∷ 0x20 ∷ 0x0A ∷ 0x62 ∷ 0x20 ∷ 0x0A ∷ []
unfolding file_shown width.profile01 search.in_order
whole = refl

abbrev ends : bytes_of ((0x61 ∷ []) ∷ (0x62 ∷ []) ∷ [] ∷ (0x63 ∷ []) ∷ []) ≡ 0x61 ∷ 0x62 ∷ []
unfolding bytes_of
ends = refl

-- 4,097 times `a`
abbrev long : file_shown (0x66 ∷ []) view (replicate 4097 0x61) ≡ refusal_text (0x66 ∷ []) 1 1
unfolding file_shown width.profile01 search.in_order
long = refl
