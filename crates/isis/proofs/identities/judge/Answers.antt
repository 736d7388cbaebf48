-- A law for each return.
use Rattle.std.proofs.Common.{rules}
use Rattle.isis.proofs.IdentityLaws.{some_unknown, none_unknown, rows_cut, rows_pass}
use Rattle.isis.proofs.identities.judge.Goals as goal

pub returns-then-any : goal.returns-then-any
returns-then-any c = some_unknown c.args.n c.args.table.now (search rules)

pub returns-then-not-is_empty : goal.returns-then-not-is_empty
returns-then-not-is_empty c =
    rows_cut c.args.n c.args.table.now (none_unknown c.args.n c.args.table.now (search rules)) (search rules)

pub returns : goal.returns
returns c =
    rows_pass c.args.n c.args.table.now (none_unknown c.args.n c.args.table.now (search rules)) (search rules)
