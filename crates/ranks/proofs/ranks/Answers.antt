-- n is tested before the rounds.
use Rattle.std.proofs.Common.{sym, ◌∙◌}
use Rattle.ranks.proofs.RankLaws.{ranks_in, ranks_beyond}
use Rattle.ranks.proofs.ranks.Goals as goal

pub returns-then-n-gt-WIDTH : goal.returns-then-n-gt-WIDTH
returns-then-n-gt-WIDTH c = record { ranks = sym (ranks_beyond c.args.n c.args.waiting c.if-n-gt-WIDTH.true) }

pub returns : goal.returns
returns c = record { ranks = c.by_rounds.ensures ∙ sym (ranks_in c.args.n c.args.waiting c.if-n-gt-WIDTH.false) }
