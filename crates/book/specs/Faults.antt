-- The number, the place and the origin of each fault of a taking. Assumes nothing.
use Rattle.std.specs.Prelude.{ℕ}
use Rattle.reader.specs.Faults as R
use Rattle.book.specs.declared.faults.Origin.{Origin}
use Rattle.book.specs.declared.faults.BookFault.{BookFault}
use Rattle.book.specs.declared.faults.BookFault.TheVariants.{Reading, Event, Content, Vote, Sum, AlreadyStanding, NotStanding, CancellationAsked, Differs, RightsTaken, Full, CancellationNotAsked}

-- the number of the question that is answered no
abbrev pub number_of : BookFault → ℕ
number_of (Reading f) = R.number_of f
number_of Event = 10
number_of Content = 11
number_of (Vote k) = 12
number_of (Sum n) = 13
number_of AlreadyStanding = 14
number_of NotStanding = 15
number_of CancellationAsked = 16
number_of Differs = 17
number_of RightsTaken = 18
number_of Full = 19
number_of CancellationNotAsked = 20

-- the place where it is, 0 where none stands
abbrev pub place_of : BookFault → ℕ
place_of (Reading f) = R.place_of f
place_of Event = 0
place_of Content = 0
place_of (Vote k) = k
place_of (Sum n) = n
place_of AlreadyStanding = 0
place_of NotStanding = 0
place_of CancellationAsked = 0
place_of Differs = 0
place_of RightsTaken = 0
place_of Full = 0
place_of CancellationNotAsked = 0

-- a reading's fault is the reading's; every other is the book's
abbrev pub origin_of : BookFault → Origin
origin_of (Reading f) = Origin.Reading
origin_of Event = Origin.Book
origin_of Content = Origin.Book
origin_of (Vote k) = Origin.Book
origin_of (Sum n) = Origin.Book
origin_of AlreadyStanding = Origin.Book
origin_of NotStanding = Origin.Book
origin_of CancellationAsked = Origin.Book
origin_of Differs = Origin.Book
origin_of RightsTaken = Origin.Book
origin_of Full = Origin.Book
origin_of CancellationNotAsked = Origin.Book
