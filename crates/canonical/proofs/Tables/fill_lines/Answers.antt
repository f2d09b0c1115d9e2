-- `canonical::Tables::fill_lines` meets its contract. The loop's invariant: the tables are filled for the entries so far, and these are in their buckets.
use native.Mathlib.Omega.{arith}
use borrow.Author.Rules.{rules}
use lib.ListN.{get_or}
use mir.Syntax.{w64}
use mir.Val.{Fits}
use Rattle.bitset.specs.Inner.{FourWords}
use Rattle.canonical.proofs.Laws.Buckets.{bucket_below, bucketed_joined}
use Rattle.dag.specs.Record.{entry_at}
use Rattle.dag.proofs.Laws.Good.{good}
use Rattle.canonical.proofs.Laws.Tables.{filled_none, filled_more}
use Rattle.canonical.proofs.Tables.fill_lines.Goals as goal

pub loop-k-init : goal.loop-k-init
loop-k-init c =
    let few = (good c.args.sheet.bytes.now c.args.sheet.good).few in
    (omega (arith, few), c.count-k-end.ensures, filled_none (entry_at c.args.sheet.bytes.now) c.args.self.now.keys c.args.sets.now c.args.self.now.reps (search rules), c.requires)

pub join-requires : goal.join-requires
join-requires c = omega (arith, c.line-line.ensures.bucket, bucket_below c.line-line.result.key c.line-line.result.set)

pub loop-k-preserved : goal.loop-k-preserved
loop-k-preserved c =
    let words : FourWords c.line-line.result.set = record { four = search rules; below = λ i. let f : Fits w64 (get_or c.line-line.result.set i 0) = search rules in f.fits } in
    let l = c.loop-k in
    let e = entry_at c.args.sheet.bytes.now in
    let line = c.line-line.ensures.line in (
      l.invariant.0,
      l.invariant.1,
      filled_more e c.args.self.now.keys c.args.sets.now c.args.self.now.reps l.invariant.2 (omega arith) line,
      bucketed_joined e l.invariant.3 words line.key line.set c.line-line.ensures.bucket c.join.ensures,
    )
