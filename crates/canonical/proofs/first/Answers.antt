-- `canonical::first` meets its contract: the four words of the bucket in turn.
use Rattle.std.proofs.Common.{◌≡◌, ◌*◌, ◌^◌, get_or, w64, Fits, Some, MatchOption, arith, rules, of_calls}
use Rattle.bitset.proofs.Laws.Words.{Below}
use Rattle.canonical.specs.Inner.Buckets.{FoundIn}
use Rattle.canonical.proofs.Laws.Search.{searched_none, searched_more, searched_all}
use Rattle.canonical.proofs.first.Goals as goal

pub returns : goal.returns
returns g c = λ p d.
    let ws = c.args.bucket in
    let words : Below 64 ws = λ i. let f : Fits w64 (get_or ws i 0) = search rules in f.fits in
    let second : MatchOption c.first_in_word.result (FoundIn p (get_or ws 1 0 * 2 ^ 64) c.or_else.result) (λ i. c.or_else.result ≡ Some i) = search (rules, of_calls) in
    let third : MatchOption c.or_else.result (FoundIn p (get_or ws 2 0 * 2 ^ 128) c.or_else-2.result) (λ i. c.or_else-2.result ≡ Some i) = search (rules, of_calls) in
    let fourth : MatchOption c.or_else-2.result (FoundIn p (get_or ws 3 0 * 2 ^ 192) c.or_else-3.result) (λ i. c.or_else-3.result ≡ Some i) = search (rules, of_calls) in
    let one = searched_more ws words 0 (omega arith) (searched_none p ws) (c.first_in_word.ensures p d) in
    let two = searched_more ws words 1 (omega arith) one second in
    let three = searched_more ws words 2 (omega arith) two third in
    searched_all (searched_more ws words 3 (omega arith) three fourth)
