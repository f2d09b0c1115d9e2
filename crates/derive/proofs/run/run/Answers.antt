-- `derive::run::run` meets its contract. The loop's invariant: what is safe, what is done, and the run that remains (`Safe`, `Along`).
use mathlib.Core.Path.{◌≡◌, ap, ◌∙◌}
use mathlib.Core.List.{List}
use Prim.Native.Nat.{ℕ, ◌+◌, ◌*◌, ◌≤◌, ◌<◌}
use native.Mathlib.Nat.{le_trans, le_of_eq, lt_of_le_of_lt, lt_of_lt_of_le}
use native.Mathlib.Omega.{arith}
use lib.ListN.{length, get_or}
use borrow.Author.Rules.{rules}
use Rattle.bitset.specs.Words.{value}
use Rattle.deduction.specs.Setting.{switches}
use Rattle.dag.specs.Sheet.{count_of, goal_of}
use Rattle.dag.specs.Refusal.{refusal}
use Rattle.dag.proofs.Laws.Good.{good}
use Rattle.derive.specs.Bytes.{step_bytes}
use Rattle.derive.specs.Inner.Step.{step_in}
use Rattle.derive.proofs.Laws.Along.{offers_start, along_start, along_derivable, along_underivable, along_exhausted, along_step}
use Rattle.derive.proofs.Laws.Buffer.{part_back, part_length}
use Rattle.offers.proofs.Laws.Kept.{sheet_users}
use Rattle.derive.proofs.run.run.Goals as goal

goal_low : (s : List ℕ) → refusal s ≡ 0 → {g : ℕ} → g ≡ goal_of s → g < 256
goal_low s ok p = lt_of_lt_of_le (lt_of_le_of_lt (le_of_eq p) (good s ok).goal) (good s ok).few

few : (s : List ℕ) → refusal s ≡ 0 → {n : ℕ} → n ≡ count_of s → n ≤ 256
few s ok p = le_trans (le_of_eq p) (good s ok).few

pub overflow_cast-goal : goal.overflow_cast-goal
overflow_cast-goal c = record { fits = goal_low c.args.sheet.bytes.now c.args.sheet.good c.goal-goal.ensures }

pub bounds-tables-goal : goal.bounds-tables-goal
bounds-tables-goal c = goal_low c.args.sheet.bytes.now c.args.sheet.good c.goal-goal.ensures

pub fill_users-requires : goal.fill_users-requires
fill_users-requires c = few c.args.sheet.bytes.now c.args.sheet.good c.count-n.ensures

pub all_offers-requires : goal.all_offers-requires
all_offers-requires c = few c.args.sheet.bytes.now c.args.sheet.good c.count-n.ensures

pub loop-users-init : goal.loop-users-init
loop-users-init c = let s = c.args.sheet.bytes.now in
    let ok = c.args.sheet.good in
    let elements = c.args.sheet.fit in
    let t = c.args.tables.now in
    let known = c.all_offers.ensures.known ∙ c.new-search.ensures.known in
    let same = c.all_offers.ensures.rules ∙ c.new-search.ensures.rules in (
      record {
        good = ok;
        elements = elements;
        ready = c.requires;
        goal = ap (λ (i : ℕ). get_or t.reps i 0) c.goal-goal.ensures ∙ c.requires.right.rep (goal_of s) (good s ok).goal;
        joined = sheet_users (switches c.args.rules) s ok elements t.keys t.reps c.requires.right c.count-n.ensures c.fill_users.ensures;
        same = same;
        within = omega arith;
        long = search rules;
      },
      λ k p l. along_start (switches c.args.rules) s t.reps k c.args.budget c.args.front c.args.out.now (ap value known ∙ p) l
          (offers_start s ok elements t.keys t.reps c.requires.right c.count-n.ensures c.new-search.ensures.known c.new-search.ensures.rules c.new-search.ensures.table c.all_offers.ensures),
    )

pub returns-then-holds : goal.returns-then-holds
returns-then-holds c = λ k p l. let (z, a) = c.loop-users.invariant in
    along_derivable z (a k p l) c.holds.ensures c.if-holds.true c.end_as.ensures

pub returns-in_default : goal.returns-in_default
returns-in_default c = λ k p l. let (z, a) = c.loop-users.invariant in
    along_underivable z (a k p l) c.holds.ensures c.if-holds.false c.in_default.ensures c.end_as-in_default.ensures

pub returns-then-made-budget : goal.returns-then-made-budget
returns-then-made-budget c = λ k p l. let (z, a) = c.loop-users.invariant in
    along_exhausted z (a k p l) c.holds.ensures c.if-holds.false c.in-Some.ensures (omega arith) c.end_as-then-made-budget.ensures

pub loop-users-preserved : goal.loop-users-preserved
loop-users-preserved c = let (z, a) = c.loop-users.invariant in
    let less : c.loop-users.made < c.args.budget = omega (arith, z.within) in
    let from = c.args.front + 40 * c.loop-users.made in
    let place : from + 40 ≤ length c.loop-users.out = omega (arith, less, z.long, z.ready.space) in
    let t = step_in c.args.tables.now.keys c.loop-users.lines.used c.in-Some.x in
    let bytes = part_back c.loop-users.out from (step_bytes t) c.make.new.out c.make.ensures.bytes in (
      record {
        good = z.good;
        elements = z.elements;
        ready = z.ready;
        goal = z.goal;
        joined = z.joined;
        same = c.learn.ensures.rules ∙ z.same;
        within = omega (arith, less);
        long = ap length bytes ∙ part_length c.loop-users.out from t place ∙ z.long;
      },
      λ k p l. along_step z (a k p l) c.holds.ensures c.if-holds.false c.in-Some.ensures less bytes c.make.ensures.lines c.learn.ensures,
    )
