-- `offers::Search::built` meets its contract: by the kind and the test of the two parts.
use mathlib.Core.Path.{refl}
use Rattle.bitset.specs.Words.{value}
use Rattle.deduction.specs.Setting.{switches}
use Rattle.offers.proofs.Laws.Search.{offered_none, offered_as, offered_when, offered_unless}
use Rattle.offers.proofs.Laws.Gives.{built_rule, built_none}
use Rattle.offers.proofs.Search.built.Goals as goal

pub returns-in_default : goal.returns-in_default
returns-in_default c = let a = c.args in
    offered_as (built_none (switches a.self.now.rules) (value a.self.now.known) a.key a.i c.kind.ensures c.in_default.ensures) (offered_none a.self.now)

pub returns-then-both_known : goal.returns-then-both_known
returns-then-both_known c = let a = c.args in
    offered_as
    (built_rule (switches a.self.now.rules) (value a.self.now.known) a.key a.i c.kind.ensures c.in-Some.rule c.in-Some.ensures c.left.ensures c.both_known.ensures)
    (offered_when _ c.if-both_known.true c.offer.ensures)

pub returns-else-both_known : goal.returns-else-both_known
returns-else-both_known c = let a = c.args in
    offered_as
    (built_rule (switches a.self.now.rules) (value a.self.now.known) a.key a.i c.kind.ensures c.in-Some.rule c.in-Some.ensures refl c.both_known.ensures)
    (offered_unless _ c.if-both_known.false (offered_none a.self.now))
