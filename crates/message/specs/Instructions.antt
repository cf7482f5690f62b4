-- The parts of an instruction. Assumes nothing.
use Rattle.std.specs.Prelude.{ℕ, Bool, ◌&&◌, List}
use Rattle.std.specs.Str.{bytes_eq}
use Rattle.format.specs.declared.votes.VoteText.{VoteText}
use Rattle.message.specs.declared.instruction.Rights.{Rights}
use Rattle.message.specs.declared.instruction.GivenVotes.{GivenVotes}
use Rattle.message.specs.Texts.{text_of}

-- a rights identifier: a country and the text behind it
pub record RightsText : Type 0 where
  pub country : List ℕ
  pub identifier : List ℕ

abbrev pub rights_of : Rights → RightsText
rights_of r = record { country = r.country; identifier = text_of r.identifier }

-- is it the same rights identifier?
abbrev pub same_rights : RightsText → RightsText → Bool
same_rights a b = bytes_eq a.country b.country && bytes_eq a.identifier b.identifier

-- the votes that are kept
abbrev pub given_votes : GivenVotes → List VoteText
given_votes v = v.kept.items
