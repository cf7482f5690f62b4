use Rattle.fields.proofs.Reading.{head_field}
use Rattle.fields.proofs.walk.next_field.Goals as goal

pub returns : goal.returns
returns c = head_field _ _ _ _ _ _ c.in_ok-start.ensures c.continued_to-end.ensures.value c.continued_to-end.ensures.within
