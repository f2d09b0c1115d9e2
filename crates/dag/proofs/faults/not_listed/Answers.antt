-- `dag::faults::not_listed` meets its contract: the first heard number of n or more, if any.
use mathlib.Core.Path.{sym}
use native.Mathlib.Omega.{arith}
use borrow.Author.Tests.{le-leb, lt-leb}
use Rattle.dag.specs.declared.Refusal.TheVariants.{NotListed}
use Rattle.dag.specs.Sheet.{count_of, trace_length, trace_at}
use Rattle.dag.specs.Refusal.{first, not_listed, not_listed_at}
use Rattle.dag.proofs.Laws.Refusal.{when_yes, when_no, first_more}
use Rattle.dag.proofs.Laws.Code.{first_code}
use Rattle.dag.proofs.faults.not_listed.Goals as goal

pub loop-k-init : goal.loop-k-init
unfolding first
loop-k-init c = grind arith

pub returns-then-n-trace_at : goal.returns-then-n-trace_at
unfolding not_listed
returns-then-n-trace_at c = let s = c.args.s.now in
    let l = c.loop-k in
    first_code (not_listed_at s) l.k (trace_length s) NotListed (omega arith) l.invariant (when_yes 7 (le-leb (count_of s) (trace_at s l.k) (omega arith)))

pub loop-k-preserved : goal.loop-k-preserved
loop-k-preserved c = let s = c.args.s.now in
    let l = c.loop-k in
    first_more (not_listed_at s) l.k l.invariant (sym (when_no 7 (lt-leb (count_of s) (trace_at s l.k) (omega arith))))

pub returns : goal.returns
unfolding not_listed
returns c = grind arith
