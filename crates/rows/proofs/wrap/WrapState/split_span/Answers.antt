use Rattle.std.proofs.Common.{arith}
use lib.ListN.{length-take, length-drop}
use mathlib.Core.Path.{sym, ◌∙◌}
use borrow.Author.Tests.{eqb-true, eqb-false}
use Rattle.rows.proofs.WrappedSpans.{span_unwrapped, in_text, in_mark, in_unprintable, in_tab, in_others, in_none}
use Rattle.rows.proofs.wrap.WrapState.split_span.Goals as goal

pub returns-then-is_unwrapped : goal.returns-then-is_unwrapped
returns-then-is_unwrapped c = span_unwrapped _ _ _ _ _ _ _ c.requires (eqb-true _ 0 (sym c.is_unwrapped.ensures ∙ c.if-is_unwrapped.true))

pub split_text-requires : goal.split_text-requires
split_text-requires c = record { low = c.requires.low; room = rw (c.text_of-text.ensures, length-take, length-drop) (omega (arith, c.requires.room)) }

pub unprintable-requires : goal.unprintable-requires
unprintable-requires c = record { low = c.requires.low; room = rw (c.text_of-text-in-Unprintable.ensures, length-take, length-drop) (omega (arith, c.requires.room)) }

pub returns-in_default : goal.returns-in_default
returns-in_default c = in_none _ _ _ _ _ _ _ c.requires (eqb-false _ 0 (sym c.is_unwrapped.ensures ∙ c.if-is_unwrapped.false)) c.in_default.ensures

pub returns-in-Text : goal.returns-in-Text
returns-in-Text c = in_text _ _ _ _ _ _ _ c.requires (eqb-false _ 0 (sym c.is_unwrapped.ensures ∙ c.if-is_unwrapped.false)) _ c.in-Some.ensures _ _ _ c.text_of-text.ensures c.in-Text.is c.split_text.ensures

pub returns-in-Control : goal.returns-in-Control
returns-in-Control c = in_mark _ _ _ _ _ _ _ c.requires (eqb-false _ 0 (sym c.is_unwrapped.ensures ∙ c.if-is_unwrapped.false)) _ c.in-Some.ensures _ _ c.in-Control.is c.unbroken.ensures

pub returns-in-Unprintable : goal.returns-in-Unprintable
returns-in-Unprintable c = in_unprintable _ _ _ _ _ _ _ c.requires (eqb-false _ 0 (sym c.is_unwrapped.ensures ∙ c.if-is_unwrapped.false)) _ c.in-Some.ensures _ _ _ c.text_of-text-in-Unprintable.ensures c.in-Unprintable.is c.unprintable.ensures

pub returns-in-Tab : goal.returns-in-Tab
returns-in-Tab c = in_tab _ _ _ _ _ _ _ c.requires (eqb-false _ 0 (sym c.is_unwrapped.ensures ∙ c.if-is_unwrapped.false)) _ c.in-Some.ensures _ _ c.in-Tab.is c.tab.ensures

pub returns-in_default-kind : goal.returns-in_default-kind
returns-in_default-kind c = in_others _ _ _ _ _ _ _ c.requires (eqb-false _ 0 (sym c.is_unwrapped.ensures ∙ c.if-is_unwrapped.false)) _ c.in-Some.ensures c.in_default-kind.not-Text c.in_default-kind.not-Match c.in_default-kind.not-Control c.in_default-kind.not-Invalid c.in_default-kind.not-Unprintable c.in_default-kind.not-Tab
