-- `verdict::front::write_front` meets its contract: three sets, one behind the other.
use mathlib.Core.Path.{refl}
use Rattle.bitset.specs.Words.{value}
use Rattle.verdict.proofs.Laws.Front.{front_written}
use Rattle.verdict.proofs.front.write_front.Goals as goal

pub returns : goal.returns
returns c = front_written (value c.args.known) (value c.args.missing.used) (value c.args.missing.remainder) c.args.out.now c.requires
    c.write-known.ensures.bytes c.write-used.ensures.bytes refl c.write-remainder.ensures.bytes
