-- What chains over the fields of a text are proved from. Assumes nothing.
use Rattle.std.proofs.Common.{◌≡◌, List, length, refl, ap}
use Rattle.std.specs.Iterator.{Drains}
use Rattle.std.proofs.lemmas.Iterator.{YieldsList}
use Rattle.std.proofs.lemmas.Iterator.Consumers.{YieldsList-from_shown, count_from_yields_List}
use Rattle.fields.specs.declared.walk.Field.{Field}
use Rattle.fields.specs.declared.walk.Fields.{Fields}
use Rattle.fields.specs.Coming.{coming, gives}

-- the iterator gives what is coming
pub fields_yield : (s : Fields) → YieldsList gives (λ (f : Field). f) s (coming s)
fields_yield s = YieldsList-from_shown gives (λ (f : Field). f) coming (λ s t e. ap length e.0) (λ s x t e. e) s

-- as many as it gives are coming
pub fields_counted : (s : Fields) (fs : List Field) → Drains gives s fs → length fs ≡ length (coming s)
fields_counted s fs d = count_from_yields_List s (length fs) (fs, d, refl) (fields_yield s)
