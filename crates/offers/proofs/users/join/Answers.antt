-- `offers::users::join` meets its contract: one more member in one line.
use Rattle.offers.proofs.Laws.Users.{joined_line}
use borrow.Author.Rules.{rules}
use Rattle.offers.proofs.users.join.Goals as goal

pub returns : goal.returns
returns c = let a = c.args in
    joined_line a.users.now a.x a.i c.insert.result (search rules) (search rules) c.insert.ensures
