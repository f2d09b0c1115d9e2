-- `offers::users::join_opener` meets its contract: by the kind, and by the test whether anything opens it.
use mathlib.Core.Path.{◌∙◌}
use native.Mathlib.Omega.{arith}
use borrow.Author.Rules.{rules}
use Rattle.offers.specs.Inner.Users.{key_opened}
use Rattle.offers.proofs.Laws.Users.{joined_none, joined_as, opened_none, opened_by, opened_past}
use Rattle.offers.proofs.users.join_opener.Goals as goal

pub returns-in-Ok : goal.returns-in-Ok
returns-in-Ok c = joined_as (λ x l. opened_by c.args.key c.kind.ensures (omega arith) (c.in-Ok.ensures.1 ∙ c.opener.ensures) x) c.join.ensures

pub returns-in_default : goal.returns-in_default
returns-in_default c = let a = c.args in
    joined_none (key_opened a.key) a.i a.users.now (search rules) (λ x l. opened_past a.key c.kind.ensures (omega arith) c.opener.ensures (omega (arith, c.in_default.ensures)) x l)

pub returns-else-kind : goal.returns-else-kind
returns-else-kind c = let a = c.args in
    joined_none (key_opened a.key) a.i a.users.now (search rules) (λ x l. opened_none a.key c.kind.ensures (λ p. omega (arith, p)) x)
