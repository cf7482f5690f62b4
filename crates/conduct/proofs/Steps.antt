-- That soundness outlasts a taken order.
use Rattle.std.proofs.Common.{ℕ, List, [], ◌∷◌, ◌++◌, None}
use Rattle.tally.specs.Scale.{Scale}
use Rattle.book.specs.Book.{Situation, found}
use Rattle.book.specs.Orders.{Ordered}
use Rattle.book.specs.Questions.{Outcome, questions}
use Rattle.book.specs.Storage.{Acted}
use Rattle.book.proofs.Acts.{yes_to}
use Rattle.conduct.specs.Laws.{Sound}
use Rattle.conduct.proofs.Turns.{told_more, apart_more}
use Rattle.conduct.proofs.Counts.{counted}

pub sound_acted : {V : Type 0} (scale : Scale V) (s t : Situation V) (o : Ordered) (taken : List Ordered) (room : ℕ) → Sound scale s taken → Acted scale s o t → Outcome (questions (found s) s.view.size room o) None → Sound scale t (taken ++ o ∷ [])
sound_acted scale s t o taken room sound acted outcome =
    let unused = yes_to outcome in
    let named = yes_to unused.1 in
    let unasked = yes_to named.1 in
    let same = yes_to unasked.1 in
    let alone = yes_to same.1 in
    record {
      counted = counted scale t acted.filed;
      told = told_more (found s) (found t) o unused.0 acted.book taken sound.told;
      apart = apart_more (found s) (found t) o acted.book sound.apart named.0 same.0 alone.0;
    }
