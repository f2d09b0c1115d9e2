-- `offers::users::fill_users` meets its contract: the lines so far joined.
use Rattle.offers.specs.Inner.Users.{Filled}
use Rattle.offers.proofs.users.fill_users.Given as goal

abbrev pub invariant-loop-i : goal.invariant-loop-i
invariant-loop-i l = Filled l.tables.keys l.tables.reps l.i l.initial.users l.users
