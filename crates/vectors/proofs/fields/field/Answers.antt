use Rattle.std.proofs.Common.{rules}
use Rattle.vectors.proofs.FieldText.{field_inside, field_is}
use Rattle.vectors.proofs.fields.field.Goals as goal

pub slice_bounds-result-end : goal.slice_bounds-result-end
slice_bounds-result-end c = search (rules, field_inside)

pub returns : goal.returns
returns c = search field_is
