-- `start::state` meets its contract: the public atoms are listed, then the messages, each head once, and they are heard in that order.
use mathlib.Core.Path.{ap, ◌∙◌, subst}
use mathlib.Core.List.{List, []}
use Prim.Native.Nat.{ℕ}
use native.Mathlib.Omega.{arith}
use Rattle.deduction.specs.Standard.{set_at}
use Rattle.dag.specs.Sheet.{count_of}
use Rattle.dag.specs.Record.{entry_at}
use Rattle.dag.proofs.Laws.Good.{good}
use Rattle.knowledge.specs.Inner.Lines.{KeptIn, head_in, Begun}
use Rattle.knowledge.proofs.Laws.Lines.{kept_begun}
use Rattle.start.specs.Start.{public_heads}
use Rattle.start.specs.Inner.Heads.{with_heads}
use Rattle.start.proofs.Laws.Heads.{start_listed, list_live, list_taught}
use Rattle.start.proofs.Laws.Hearing.{held_as}
use Rattle.start.proofs.state.Goals as goal
use Rattle.start.proofs.state.Goals.{After-begin}

-- the lines before the first head
kept : (c : After-begin) → KeptIn (head_in c.args.tables.now.reps (count_of c.args.sheet.bytes.now)) (set_at (entry_at c.args.sheet.bytes.now)) [] c.begin.new.self
kept c = let s = c.args.sheet.bytes.now in let l = c.begin.new.self in
    kept_begun (count_of s) (set_at (entry_at s)) (subst (λ (n : ℕ). Begun n l.remainders c.args.tables.now.reps l.columns l.empty) c.count.ensures (rw c.begin.ensures.remainders c.begin.ensures.begun))
    c.begin.ensures.sizes (rw c.begin.ensures.remainders c.requires.fresh) (rw c.begin.ensures.used c.requires.unused)

pub begin-requires : goal.begin-requires
begin-requires c = (omega (arith, c.count.ensures, (good c.args.sheet.bytes.now c.args.sheet.good).few), c.requires.none, c.requires.flat)

pub hear-requires : goal.hear-requires
hear-requires c = let s = c.args.sheet.bytes.now in let reps = c.args.tables.now.reps in
    let listed = start_listed s c.args.cut (c.public_heads.ensures ∙ ap (λ (l : List ℕ). with_heads l (public_heads (entry_at s) (count_of s))) c.new-heads.ensures) c.trace_heads.ensures in
    record {
      live = head_in reps (count_of s);
      sets = set_at (entry_at s);
      lives = list_live s c.args.sheet.good c.args.cut c.requires.within reps c.requires.rep listed;
      kept = kept (goal.at.hear-requires c).After-begin;
    }

pub returns : goal.returns
returns c = let s = c.args.sheet.bytes.now in let reps = c.args.tables.now.reps in
    let listed = start_listed s c.args.cut (c.public_heads.ensures ∙ ap (λ (l : List ℕ). with_heads l (public_heads (entry_at s) (count_of s))) c.new-heads.ensures) c.trace_heads.ensures in
    let h = held_as (list_taught s c.args.cut listed) (c.hear.ensures (head_in reps (count_of s)) (set_at (entry_at s)) (list_live s c.args.sheet.good c.args.cut c.requires.within reps c.requires.rep listed) (kept (goal.at.returns c).After-begin)) in
    record { state = h.0; lines = h.1 }
