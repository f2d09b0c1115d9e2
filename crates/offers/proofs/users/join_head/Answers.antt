-- `offers::users::join_head` meets its contract: by the test whether the entry is a head.
use borrow.Author.Rules.{rules}
use Rattle.offers.specs.Inner.Users.{head_uses}
use Rattle.offers.proofs.Laws.Users.{joined_none, joined_as, head_uses_lem, other_uses}
use Rattle.offers.proofs.users.join_head.Goals as goal

pub returns-then-tables-i : goal.returns-then-tables-i
returns-then-tables-i c = let t = c.args.tables.now in
    joined_as (λ x l. head_uses_lem t.keys t.reps c.args.i c.if-tables-i.true x) c.join_parts.ensures

pub returns-else-tables-i : goal.returns-else-tables-i
returns-else-tables-i c = let t = c.args.tables.now in
    joined_none (head_uses t.keys t.reps c.args.i) c.args.i c.args.users.now (search rules) (λ x l. other_uses t.keys t.reps c.args.i c.if-tables-i.false x)
