-- Changes that drawings send are well formed as records: no list of them is refused 10.
use Rattle.std.specs.Prelude.{◌≡◌, ℕ, ◌<◌, true, false, cond, ◌&&◌, length, eqb, ltb}
use Rattle.std.proofs.Math.Path.{refl, ap}
use Rattle.std.proofs.Common.{subst, ◌∙◌, arith, lt→ltb}
use Rattle.std.proofs.Math.Bool.{or-true}
use mathlib.Core.List.{List, [], ◌∷◌, ◌++◌, map, append-nil}
use Rattle.std.proofs.Math.Dec.{eqb_refl}
use Rattle.buffer.specs.Numbers.{le4}
use Rattle.buffer.specs.Numbers.Laws.{le4_length}
use Rattle.text.specs.Tests.{is_true}
use Rattle.text.specs.Each.{All, all_nil, all_cons, all_map}
use Rattle.text.specs.Utf8.{Scalar, ascii, bytes_of}
use Rattle.text.specs.Utf8.Valid.{Valid, run_text}
use Rattle.text.specs.Class.{Profile}
use Rattle.text.specs.Class.Code.{printable}
use Rattle.text.specs.Width.{width_of}
use Rattle.text.specs.Cluster.{clusters}
use Rattle.spans.specs.declared.sgr.Color.{Color}
use Rattle.drawing.specs.declared.attributes.Attributes.{Attributes}
use Rattle.drawing.specs.Attributes.{plain, arrows}
use Rattle.drawing.specs.Change as change
use Rattle.drawing.specs.Change.{Change, all_attributes, clear_to_end, cursor_right, color_bytes, attribute_bytes, kind_of, body, encode}
use Rattle.drawing.specs.Change.Contracts.{flags_byte}
use Rattle.drawing.specs.Change.Laws.{color_length, attribute_bytes_law, attribute_length, flags_most}
use Rattle.screen.specs.Records.{records}
use Rattle.screen.specs.Records.Laws.{Short, record_of, records_changes}
use Rattle.screen.specs.WellFormed.{color, fields, utf8, body_sizes, of_kind, well_formed, clusters_in, is_backspace, wide, wide_texts}
use Rattle.screen.specs.WellFormed.Laws.{byte_behind, color_behind, color_first, are_fields}
use Rattle.text.specs.Cluster.Parts.{Wide}
use Rattle.screen.specs.Drawn.{ProfileLaws}
use Rattle.screen.specs.Drawn.Texts.{Text, printable_one}
use Rattle.screen.specs.Drawn.Attributes.{InLimits, plain_limits, arrows_limits}

-- ---- attribute bodies

attribute_fields : (a : Attributes) → InLimits a → fields (attribute_bytes a) ≡ true
attribute_fields a f =
    let v : List ℕ = a.font.alignment ∷ [] in
    let n : List ℕ = le4 a.link.len in
    let p : List ℕ = le4 a.link.place.0 in
    let z : List ℕ = color_bytes a.colors.underline in
    let y : List ℕ = color_bytes a.colors.background in
    let x : List ℕ = color_bytes a.colors.foreground in
    let w : List ℕ = a.font.intensity ∷ a.font.underline ∷ a.font.blink ∷ flags_byte a.flags ∷ [] in
    let u : List ℕ = p ++ (n ++ v) in
    let t : List ℕ = z ++ u in
    let s : List ℕ = y ++ t in
    let k = color_length a.colors.foreground in
    let l = color_length a.colors.background in
    let m = color_length a.colors.underline in
    ap fields (attribute_bytes_law a) ∙ are_fields (w ++ (x ++ s)) (record {
      intensity = f.intensity;
      underline = f.underline;
      blink = f.blink;
      flags = flags_most a.flags;
      alignment = rw (byte_behind x s 4 16 k ∙ byte_behind y t 4 12 l ∙ byte_behind z u 4 8 m ∙ byte_behind p (n ++ v) 4 4 (le4_length _) ∙ byte_behind n v 4 0 (le4_length _)) f.alignment;
      foreground = color_behind w (x ++ s) 4 0 refl ∙ color_first a.colors.foreground s;
      background = color_behind w (x ++ s) 4 4 refl ∙ color_behind x s 4 0 k ∙ color_first a.colors.background t;
      underline_color = color_behind w (x ++ s) 4 8 refl ∙ color_behind x s 4 4 k ∙ color_behind y t 4 0 l ∙ color_first a.colors.underline u;
    })

-- ---- changes

module _ (P : Profile) where
  pub text_clusters : {s : List Scalar} → All Valid s → clusters_in P (bytes_of s) ≡ clusters P s
  unfolding clusters_in
  text_clusters v = ap (clusters P) (run_text v)

  wide_true : {gs : List (List Scalar)} → Wide P gs → wide P gs ≡ true
  unfolding wide
  wide_true all_nil = refl
  wide_true (all_cons {a = g} w a) = rw (is_true (ltb 0 (width_of P g)) (lt→ltb 0 (width_of P g) w), or-true (is_backspace g), wide_true a)

  record WellFormedChange (c : Change) : Type 0 where
    short : Short c
    kind : of_kind (body_sizes false) (kind_of c) (body c) ≡ true
    wide : cond (eqb (kind_of c) 1) (wide P (clusters_in P (body c))) true ≡ true

  -- a change that a drawing sends, a right arrow's apart
  pub data Sendable : Change → Type 0 where
    text : {s : List Scalar} → Text P s → length (bytes_of s) < 4294967296 → Sendable (change.text s)
    torn : Sendable change.torn
    attributes : {a : Attributes} → InLimits a → Sendable (all_attributes a)
    clear : {c : Color} → Sendable (clear_to_end c)

  sendable_formed : {c : Change} → Sendable c → WellFormedChange c
  unfolding of_kind kind_of body utf8 wide clusters_in
  sendable_formed (text {s = s} t h) = record { short = h; kind = rw (run_text t.valid) (is_true _ (eqb_refl (length (bytes_of s)))); wide = rw (run_text t.valid) (wide_true t.wide) }
  sendable_formed torn = record { short = omega arith; kind = refl; wide = refl }
  sendable_formed (attributes {a = a} f) = record { short = omega (arith, attribute_length a); kind = rw (attribute_length a, attribute_fields a f); wide = refl }
  sendable_formed (clear {c = c}) = record { short = omega (arith, color_length c); kind = rw (color_length c) (subst (λ (b : List ℕ). color b 0 ≡ true) (append-nil (color_bytes c)) (color_first c [])); wide = refl }

  -- a drawing's list: such changes, at its end a right arrow or none
  pub data DrawnList : List Change → Type 0 where
    done : DrawnList []
    next : {c : Change} {cs : List Change} → Sendable c → DrawnList cs → DrawnList (c ∷ cs)
    arrow : DrawnList (change.text (ascii 0x08 ∷ []) ∷ cursor_right ∷ all_attributes arrows ∷ change.text (ascii 0x3E ∷ []) ∷ all_attributes plain ∷ [])

  backspace_formed : WellFormedChange (change.text (ascii 0x08 ∷ []))
  unfolding of_kind kind_of body wide clusters_in
  backspace_formed = record { short = omega arith; kind = refl; wide = refl }

  right_formed : WellFormedChange cursor_right
  unfolding of_kind kind_of body
  right_formed = record { short = omega arith; kind = refl; wide = refl }

  module _ (H : ProfileLaws P) where
    pub arrow_sendable : (b : ℕ) → printable b ≡ true → Sendable (change.text (ascii b ∷ []))
    arrow_sendable b e = let d = printable_one P H b e in text d.text (omega (arith, d.size))

    list_formed : {cs : List Change} → DrawnList cs → All WellFormedChange cs
    list_formed done = all_nil
    list_formed (next s d) = all_cons (sendable_formed s) (list_formed d)
    list_formed arrow =
        all_cons backspace_formed (all_cons right_formed (all_cons (sendable_formed (attributes arrows_limits))
        (all_cons (sendable_formed (arrow_sendable 0x3E refl)) (all_cons (sendable_formed (attributes plain_limits)) all_nil))))

    pub list_records : {cs : List Change} → DrawnList cs → records 4 (encode cs) ≡ map record_of cs
    list_records d = records_changes (all_map (λ c w. w.short) (list_formed d))

    formed : {cs : List Change} → All WellFormedChange cs → (well_formed (body_sizes false) (map record_of cs) ≡ true) × (wide_texts P (map record_of cs) ≡ true)
    unfolding well_formed wide_texts
    formed all_nil = (refl, refl)
    formed (all_cons w a) = let f = formed a in (rw (w.kind, f.0), rw (w.wide, f.1))

    pub never_malformed : {cs : List Change} → DrawnList cs → (well_formed (body_sizes false) (records 4 (encode cs)) && wide_texts P (records 4 (encode cs))) ≡ true
    never_malformed d = let f = formed (list_formed d) in rw (list_records d, f.0, f.1)
