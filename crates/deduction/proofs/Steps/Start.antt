-- The start: the entries heard, or their heads. Terms are compared by ≈, so it makes no difference.
-- Shown: the terms of entries and those of their heads hold the same; so the same terms are derivable, the same steps replay, and the
-- ends hold the same. Assumes nothing.
use mathlib.Core.Path.{◌≡◌, sym, subst}
use mathlib.Core.Logic.{◌↔◌}
use mathlib.Core.List.Memᴰ
use mathlib.Core.List.{List, map, Memᴰ}
use Prim.Native.Nat.{ℕ, ◌<◌}
use Rattle.deduction.specs.Term.{Term, ◌≈◌, flip, then}
use Rattle.deduction.specs.Setting.{Setting}
use Rattle.deduction.specs.Entry.{Entry, term_at, Downward}
use Rattle.deduction.specs.Standard.{rep_at}
use Rattle.deduction.specs.Derivation.{Derivable}
use Rattle.deduction.specs.Step.{Step}
use Rattle.deduction.specs.Replay.{Replays}
use Rattle.deduction.proofs.Standard.{rep_rep, rep_same}
use Rattle.deduction.proofs.Steps.Head.{Heads, rep_below}
use Rattle.deduction.proofs.Steps.Held.{Keeps, Alike, derivable_kept}
use Rattle.deduction.proofs.Steps.Replay.{end_state, end_kept, replays_kept}

module _ (e : ℕ → Entry) (n : ℕ) (down : Downward e n) (trace : List ℕ) (below : (i : ℕ) → Memᴰ i trace → i < n) where
  -- the heads of the heard entries are heads
  pub trace_heads : Heads e n (map (rep_at e) trace)
  trace_heads i m = let (j, c, p) = Memᴰ.of_map (rep_at e) trace m in subst (λ (x : ℕ). (x < n) × (rep_at e x ≡ x)) p (rep_below e n down j (below j c), rep_rep e j)

  to_heads : Keeps (map (term_at e) trace) (map (term_at e) (map (rep_at e) trace))
  to_heads u (v, m, q) =
      let (j, c, p) = Memᴰ.of_map (term_at e) trace m in
      (term_at e (rep_at e j), Memᴰ.map (term_at e) (Memᴰ.map (rep_at e) c), then (rep_same e n down j (below j c)) (subst (λ (x : Term). x ≈ u) (sym p) q))

  from_heads : Keeps (map (term_at e) (map (rep_at e) trace)) (map (term_at e) trace)
  from_heads u (v, m, q) =
      let (i, c, p) = Memᴰ.of_map (term_at e) (map (rep_at e) trace) m in let (j, d, r) = Memᴰ.of_map (rep_at e) trace c in
      (term_at e j, Memᴰ.map (term_at e) d, then (flip (rep_same e n down j (below j d))) (subst (λ (x : ℕ). term_at e x ≈ u) (sym r) (subst (λ (x : Term). x ≈ u) (sym p) q)))

  pub trace_alike : Alike (map (term_at e) trace) (map (term_at e) (map (rep_at e) trace))
  trace_alike u = (to_heads u, from_heads u)

  pub trace_derivable : {on : Setting} (u : Term) → Derivable on (map (term_at e) trace) u ↔ Derivable on (map (term_at e) (map (rep_at e) trace)) u
  trace_derivable u = (derivable_kept to_heads u, derivable_kept from_heads u)

  module _ (ss : List Step) where
    pub trace_replays : {on : Setting} → Replays on (term_at e) n (map (term_at e) trace) ss (end_state (term_at e) (map (term_at e) trace) ss)
        ↔ Replays on (term_at e) n (map (term_at e) (map (rep_at e) trace)) ss (end_state (term_at e) (map (term_at e) (map (rep_at e) trace)) ss)
    trace_replays = (replays_kept (term_at e) n to_heads, replays_kept (term_at e) n from_heads)

    pub trace_end : Alike (end_state (term_at e) (map (term_at e) trace) ss) (end_state (term_at e) (map (term_at e) (map (rep_at e) trace)) ss)
    trace_end u = (end_kept (term_at e) ss to_heads u, end_kept (term_at e) ss from_heads u)
