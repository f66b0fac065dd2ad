use mathlib.Core.Path.{refl}
use Rattle.text.proofs.Erasing.{kept_inside, last_added, last_erased, lone_added, lone_erased, nothing_erased, pair_erased, pair_inside, pair_long}
use Rattle.text.proofs.backward.Written.erase_last.Goals as goal

pub returns-then-n-eq0 : goal.returns-then-n-eq0
returns-then-n-eq0 c = search nothing_erased

pub returns-then-is_control : goal.returns-then-is_control
returns-then-is_control c = search lone_added

pub returns-then-never_joins_before : goal.returns-then-never_joins_before
returns-then-never_joins_before c = search lone_erased

pub overflow_sub-result-then-ends_in_pair : goal.overflow_sub-result-then-ends_in_pair
overflow_sub-result-then-ends_in_pair c = search pair_long

pub overflow_sub-n-then-ends_in_pair : goal.overflow_sub-n-then-ends_in_pair
overflow_sub-n-then-ends_in_pair c = search pair_long

pub known_before_pair-requires : goal.known_before_pair-requires
known_before_pair-requires c = search pair_inside

pub returns-then-ends_in_pair : goal.returns-then-ends_in_pair
returns-then-ends_in_pair c = search pair_erased

pub begins_with_control-requires : goal.begins_with_control-requires
begins_with_control-requires c = search kept_inside

pub returns-then-begins_with_control : goal.returns-then-begins_with_control
returns-then-begins_with_control c = last_added _ c.args.self.text.now c.requires.0 c.if-n-eq0.false _ c.last_start-q.ensures c.args.self.known _ _ c.requires.1 refl c.begins_with_control.ensures c.if-begins_with_control.true

pub known_before-requires-2 : goal.known_before-requires-2
known_before-requires-2 c = search kept_inside

pub returns : goal.returns
returns c = last_erased _ c.args.self.text.now c.requires.0 c.if-n-eq0.false _ c.last_start-q.ensures c.args.self.known _ _ c.requires.1 refl c.begins_with_control.ensures _ c.known_before-2.ensures c.if-begins_with_control.false
