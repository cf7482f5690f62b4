-- The definitions compute on values that are written out. Assumes nothing.
use Rattle.std.proofs.Common.{◌≡◌, true, false, ◌∷◌, ◌++◌, Some, None, codes, refl}
use Rattle.std.specs.Fmt.{digits}
use Rattle.format.specs.declared.votes.VoteKind.TheVariants.{Cumulative}
use Rattle.format.specs.declared.votes.VoteAnswer.TheVariants.{Abstain}
use Rattle.format.specs.Identifier.{read_identifier}
use Rattle.format.specs.Quantity.{read_quantity}
use Rattle.format.specs.Simple.{is_account, is_owner}
use Rattle.format.specs.Vote.{read_vote, vote_spelled}

quantity_most : read_quantity (codes "UNIT/100000000000,") ≡ Some 100000000000
quantity_most = refl

quantity_zero : read_quantity (codes "UNIT/01,") ≡ None
quantity_zero = refl

vote_whole : read_vote (codes "ISLB/12.34/TYPE/CMLT/RSLT/ABST/QVTG" ++ (13 ∷ 10 ∷ codes "/123456789012345"))
    ≡ Some (record { question = 12; candidate = Some 34; kind = Cumulative; answer = Abstain; quantity = 123456789012345 })
vote_whole = refl

vote_spelled_lem : vote_spelled (record { question = 12; candidate = Some 34; kind = Cumulative; answer = Abstain; quantity = 5 })
    ≡ codes "ISLB/12.34/TYPE/CMLT/RSLT/ABST/QVTG" ++ (13 ∷ 10 ∷ codes "/5")
unfolding digits
vote_spelled_lem = refl

account_long : is_account (codes "123456789012345678901234567890123456") ≡ false
account_long = refl

owner_two : is_owner (codes "J. SMITH, 12345678901234567890" ++ (13 ∷ 10 ∷ codes "HIGH STREET 1 (REAR) - ANYTOWN")) ≡ true
owner_two = refl

identifier_named : read_identifier (codes "ALTE/NSDR/CORP/US/X 1")
    ≡ Some (record { issuer = true; code = codes "CORP"; country = codes "US"; start = 18 })
identifier_named = refl
