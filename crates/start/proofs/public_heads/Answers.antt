-- `start::public_heads` meets its contract. The loop's invariant: the public atoms among the entries so far are listed.
use mathlib.Core.Path.{◌≡◌, sym, ap, ◌∙◌}
use mathlib.Core.Bool.{◌&&◌}
use native.Mathlib.Omega.{arith}
use lib.Dec.{eqb}
use Rattle.deduction.specs.Standard.{rep_at}
use Rattle.dag.specs.Record.{entry_at}
use Rattle.dag.proofs.Laws.Good.{good}
use Rattle.start.specs.Start.{is_public}
use Rattle.start.specs.Inner.Heads.{with_head}
use Rattle.start.proofs.Laws.Heads.{head_test, public_none, public_head, public_passed}
use Rattle.start.proofs.public_heads.Goals as goal
use Rattle.start.proofs.public_heads.Goals.{then-is_public_head, else-is_public_head}

pub loop-k-init : goal.loop-k-init
loop-k-init c = sym (public_none (entry_at c.args.sheet.bytes.now) c.args.heads.now)

pub overflow_cast-i : goal.overflow_cast-i
overflow_cast-i c = record { fits = omega (arith, c.count-k-end.ensures, c.loop-k-test.true, (good c.args.sheet.bytes.now c.args.sheet.good).few) }

pub loop-k-preserved : goal.loop-k-preserved
loop-k-preserved c = let s = c.args.sheet.bytes.now in let e = entry_at s in let k = c.loop-k.k in
    let told : c.is_public_head.result ≡ (is_public (e k) && eqb (rep_at e k) k) = c.is_public_head.ensures ∙ head_test s c.args.tables.now.keys c.args.tables.now.reps c.requires.keys c.requires.reps k (omega (arith, c.count-k-end.ensures, c.loop-k-test.true)) in
    elim c.if-is_public_head.branch [
      | then-is_public_head w ↦ w.heads-is ∙ w.push.ensures ∙ ap (λ (l : _). with_head l k) c.loop-k.invariant ∙ public_head e k c.args.heads.now (sym told ∙ w.if-is_public_head.true)
      | else-is_public_head w ↦ w.heads-is ∙ c.loop-k.invariant ∙ public_passed e k c.args.heads.now (sym told ∙ w.if-is_public_head.false)
    ]
