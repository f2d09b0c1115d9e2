-- `canonical::rep_of_set` meets its contract: the one member, or what the search in the set's bucket finds.
use mathlib.Core.Path.{sym, ◌∙◌}
use native.Mathlib.Omega.{arith}
use Rattle.bitset.specs.Words.{value}
use Rattle.canonical.specs.Inner.Buckets.{Alone}
use Rattle.canonical.proofs.Laws.Buckets.{alone_no}
use Rattle.canonical.proofs.Laws.Search.{found_least}
use Rattle.canonical.proofs.rep_of_set.Goals as goal

pub returns : goal.returns
returns c =
    let others : ¬ Alone (value c.args.set) = alone_no (value c.args.set) c.leading-e.ensures c.singleton.ensures (sym c.equal.ensures ∙ c.if-equal.false) in
    record { alone = λ a. absurd (others a); found = λ f. c.unwrap_or.ensures ∙ found_least (c.requires f) c.first_set.ensures (omega arith) }
