use Rattle.std.proofs.Common.{◌≡◌, ℕ, ◌≤◌, length}
use Rattle.std.specs.List.{slice_get}
use Rattle.book.specs.Storage.{Filed}
use Rattle.book.specs.Desk.{Led, situation}
use Rattle.conduct.specs.Run.{Conducted, Orderly}
use Rattle.conduct.specs.Conducting.{over, notice_of, meter, terms}
use Rattle.conduct.proofs.Closings.{Since}
use Rattle.conduct.proofs.conduct.conduct.Given as goal

abbrev pub invariant-loop-k : goal.invariant-loop-k
invariant-loop-k g l = record {
  led : Led g.R.Register l.initial.register l.register;
  scale : g.T.Tally.scale l.tally ≡ g.T.Tally.scale l.initial.tally;
  notice : notice_of l.phase ≡ notice_of l.initial.phase;
  records : length l.records ≡ length l.initial.records;
  table : length l.table ≡ length l.initial.table;
  ordered : g.R.Register.ordered l.register;
  filed : Filed (g.T.Tally.scale l.tally) (situation g.R.Register g.T.Tally l.register l.tally l.records);
  rest : (j : ℕ) → l.k ≤ j → slice_get l.answers j ≡ slice_get l.initial.answers j;
  since : Since l.calls l.k (over l.phase);
  orderly : Orderly l.calls l.k;
  run : Conducted (meter g.R.Register g.T.Tally l.initial.tally) (terms g.R.Register g.T.Tally (notice_of l.initial.phase) l.initial.register l.initial.records (length l.initial.table)) l.calls l.answers l.k (situation g.R.Register g.T.Tally l.register l.tally l.records);
}
