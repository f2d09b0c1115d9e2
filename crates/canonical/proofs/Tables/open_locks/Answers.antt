-- `canonical::Tables::open_locks` meets its contract. The loop's invariant: the keys of the entries so far have what opens them.
use mathlib.Core.Path.{◌≡◌, refl, sym, ap, ◌∙◌, subst}
use Prim.Native.Nat.{ℕ, ◌<◌}
use native.Mathlib.Omega.{arith}
use borrow.Author.Rules.{rules}
use lib.Dec.{eqb}
use lib.ListN.{length-set}
use lib.Seq.{get_or-set_other}
use Rattle.dag.specs.Sheet.{count_of}
use Rattle.dag.specs.Record.{entry_at}
use Rattle.dag.proofs.Laws.Good.{good}
use Rattle.canonical.specs.Inner.Key.{key_kind}
use Rattle.canonical.specs.Inner.Tables.{set_in, number_in, sought_in, open_in}
use Rattle.canonical.specs.Inner.Buckets.{key_bucket, Candidates}
use Rattle.canonical.proofs.Laws.Opener.{opening_more, good_room, good_candidates, good_next}
use Rattle.canonical.proofs.Tables.open_locks.Goals as goal

pub loop-k-init : goal.loop-k-init
loop-k-init c =
    let p = c.requires in
    let few = (good c.args.sheet.bytes.now c.args.sheet.good).few in
    (omega (arith, few), c.count-n.ensures, record { done = λ j l. absurd (omega arith); left = λ j l h. p.keys_made j h }, search rules, λ j l. refl, refl)

pub open_key-key-requires-clause-key : goal.open_key-key-requires-clause-key
open_key-key-requires-clause-key c = good_room c.args.sheet.bytes.now c.args.sheet.fit c.args.sheet.good c.loop-k.k (omega arith) c.loop-k.self.keys c.loop-k.invariant.2

pub open_key-key-requires-clause-candidates : goal.open_key-key-requires-clause-candidates
open_key-key-requires-clause-candidates c =
    let l = c.loop-k in
    let key = number_in l.self.keys l.k in
    subst (λ (n : ℕ). key_kind key ≡ 7 → Candidates (λ j. eqb (number_in l.self.keys j) (sought_in l.self.keys key)) n (set_in c.args.buckets.now (key_bucket (sought_in l.self.keys key)))) (sym l.invariant.1)
    (good_candidates c.args.sheet.bytes.now c.args.sheet.fit c.args.sheet.good l.k (omega arith) l.self.keys l.invariant.2 c.args.buckets.now c.requires.bucketed)

pub loop-k-preserved : goal.loop-k-preserved
loop-k-preserved c =
    let l = c.loop-k in
    let sheet = c.args.sheet in
    let s = sheet.bytes.now in
    let h : l.k < count_of s = omega arith in
    let keys = l.self.keys in
    let v = c.open_key-key.result in
    let p = c.open_key-key.ensures ∙ ap (λ (n : ℕ). open_in keys n (number_in keys l.k)) l.invariant.1 ∙ good_next s sheet.fit sheet.good l.k h keys l.invariant.2 in (
      l.invariant.0,
      l.invariant.1,
      opening_more (entry_at s) (count_of s) l.k keys v l.invariant.2 (omega arith) p,
      length-set keys l.k v ∙ l.invariant.3,
      λ j m. get_or-set_other keys l.k j v 0 (λ q. absurd (omega arith)) ∙ l.invariant.4 j m,
      l.invariant.5,
    )
