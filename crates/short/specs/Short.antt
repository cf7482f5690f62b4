-- What a contract sees of a short list.
use Rattle.std.specs.Prelude.{List}

-- the items, and what stands in the unused room, of which no clause says anything
pub record Short (T : Type 0) : Type 0 where
  pub items : List T
  pub spare : List T
