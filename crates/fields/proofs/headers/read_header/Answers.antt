use Rattle.fields.proofs.Heads.{no_qualifier, with_qualifier}
use Rattle.fields.proofs.headers.read_header.Goals as goal

pub returns-in_err-qualifier-clause-value : goal.returns-in_err-qualifier-clause-value
returns-in_err-qualifier-clause-value c =
    rw c.from_residual-in_err-qualifier.ensures
    (no_qualifier c.args.line.now c.in_ok-tag.tag c.in_ok-tag.ensures c.if-is_bare.ensures c.in_err-qualifier.ensures)

pub returns-clause-value : goal.returns-clause-value
returns-clause-value c =
    with_qualifier c.args.line.now c.in_ok-tag.tag c.in_ok-qualifier.qualifier c.in_ok-tag.ensures c.if-is_bare.ensures
    c.in_ok-qualifier.ensures
