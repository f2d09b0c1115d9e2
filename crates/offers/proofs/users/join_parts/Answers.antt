-- `offers::users::join_parts` meets its contract: by the test whether the entry has parts.
use borrow.Author.Rules.{rules}
use Rattle.offers.specs.Inner.Users.{key_uses}
use Rattle.offers.proofs.Laws.Users.{joined_none, joined_as, joined_then, uses_none, uses_parts}
use Rattle.offers.proofs.users.join_parts.Goals as goal

pub returns-then-has_parts : goal.returns-then-has_parts
returns-then-has_parts c = let a = c.args in
    joined_as (λ z l. uses_parts a.key c.kind.ensures c.has_parts.ensures c.if-has_parts.true c.left.ensures c.right.ensures z)
    (joined_then (joined_then c.join.ensures c.join-then-has_parts.ensures) c.join_opener.ensures)

pub returns-else-has_parts : goal.returns-else-has_parts
returns-else-has_parts c = let a = c.args in
    joined_none (key_uses a.key) a.i a.users.now (search rules) (λ x l. uses_none a.key c.kind.ensures c.has_parts.ensures c.if-has_parts.false x)
