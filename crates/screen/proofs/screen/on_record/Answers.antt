use Rattle.screen.proofs.Changes.{record_text, record_attributes, record_clear, record_right, record_malformed}
use Rattle.screen.proofs.screen.on_record.Goals as goal

pub returns-then-head-eq-TEXT : goal.returns-then-head-eq-TEXT
returns-then-head-eq-TEXT c = search record_text

pub returns-then-not-is_of_kind : goal.returns-then-not-is_of_kind
returns-then-not-is_of_kind c = search record_malformed

pub returns-in-2 : goal.returns-in-2
returns-in-2 c = search record_attributes

pub returns-in-3 : goal.returns-in-3
returns-in-3 c = search record_clear

pub returns-in_default : goal.returns-in_default
returns-in_default c = search record_right
