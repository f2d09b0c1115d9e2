-- `zuwendryk::stream::fail` meets its contract: four pieces, one after the other.
use Rattle.std.proofs.KnownBytes.{Appends-trans}
use Rattle.zuwendryk.proofs.stream.fail.Goals as goal

pub returns : goal.returns
returns g c =
    let (a, what) = c.write_all.ensures.front in
    let (b, colon) = c.write_all-2.ensures.front in
    let (n, text) = c.write_all-3.ensures.front in
    let (d, end) = c.write_all-4.ensures.front in
    (a, b, _, d, Appends-trans _ _ _ _ _ what (Appends-trans _ _ _ _ _ colon (Appends-trans _ _ _ _ _ text end)))
