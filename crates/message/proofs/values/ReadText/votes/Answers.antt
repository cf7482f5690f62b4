-- Each turn takes one vote more, or passes an entry of another row.
use Rattle.std.proofs.Common.{◌≡◌, ◌+◌, drop, sym, ap, ◌∙◌, arith}
use Rattle.std.specs.Option.{option_map}
use Rattle.message.specs.declared.instruction.GivenVotes.{GivenVotes}
use Rattle.message.specs.Instructions.{given_votes}
use Rattle.message.specs.Values.{values_of}
use Rattle.message.specs.Voting.{vote_of, votes_of, kept_and_count}
use Rattle.message.proofs.Keeping.{onward, votes_start, votes_here, votes_none, votes_on_lem, votes_end}
use Rattle.message.proofs.values.ReadText.votes.Goals as goal
use Rattle.message.proofs.values.ReadText.votes.Goals.{then-entry+in_ok-vote_of, else-entry}

pub loop-entry-init : goal.loop-entry-init
loop-entry-init c =
    let e = c.none-votes.ensures in
    (omega (arith, e.count), votes_start c.args.self.text.now c.args.self.entries.now 26 c.none-votes.result e.kept e.count)

pub returns-in_err-vote_of : goal.returns-in_err-vote_of
returns-in_err-vote_of c =
    ap (option_map kept_and_count) c.from_residual.ensures
    ∙ sym (c.loop-entry.invariant.1
    ∙ votes_none c.args.self.text.now c.args.self.entries.now 26 c.loop-entry.entry-index _ c.loop-entry-test.true c.loop-entry.votes
    c.if-entry.true (c.in_err-vote_of.ensures ∙ ap vote_of c.value_of.ensures))

pub loop-entry-preserved : goal.loop-entry-preserved
loop-entry-preserved c =
    let text = c.args.self.text.now in
    let table = c.args.self.entries.now in
    let i = c.loop-entry.entry-index in
    elim c.if-entry.branch [
      | then-entry+in_ok-vote_of w ↦ (let n : c.if-entry.votes.count ≡ c.loop-entry.votes.count + 1 = ap (λ (g : GivenVotes). g.count) w.votes-is ∙ w.add.ensures.count in (
        omega (arith, n, c.loop-entry.invariant.0),
        c.loop-entry.invariant.1
            ∙ votes_here text table 26 i _ c.loop-entry-test.true c.loop-entry.votes c.if-entry.votes w.in_ok-vote_of.field-0 w.if-entry.true
            (w.in_ok-vote_of.ensures ∙ ap vote_of w.value_of.ensures) (ap given_votes w.votes-is ∙ w.add.ensures.kept) n,
      ))
      | else-entry w ↦ (let n : c.if-entry.votes.count ≡ c.loop-entry.votes.count = ap (λ (g : GivenVotes). g.count) w.votes-is in (
        omega (arith, n, c.loop-entry.invariant.0),
        c.loop-entry.invariant.1 ∙ votes_on_lem text table 26 i _ c.loop-entry-test.true c.loop-entry.votes w.if-entry.false
            ∙ ap (λ (g : GivenVotes). option_map (onward g) (votes_of (values_of text (drop (i + 1) table) 26))) (sym w.votes-is),
      ))
    ]

pub returns : goal.returns
returns c =
    sym (c.loop-entry.invariant.1 ∙ votes_end c.args.self.text.now c.args.self.entries.now 26 c.loop-entry.votes c.loop-entry.entry-index c.loop-entry-test.false)
