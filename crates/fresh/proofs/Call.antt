-- A verdict and an intruder with atoms of his own (document 02, E14: "inventing doesn't help a stranger").
-- Shown, of every sheet, cut, budget and buffer, from `Demanded` alone, and for any finite list of own atoms: where the call answers out of reach, no derivation
-- from its start and these atoms holds the goal's term (`own_out`); where it answers reached, one does (`own_reached`); with a budget of at least the number of entries
-- the number says which (`own_exact`); and at out of reach the gained set has exactly the entries that are derivable with them (`own_gained`). `own_same`: of a
-- good sheet the same entries are derivable with them as without. `full_out`: the same as `own_out` of the answer of a call with every rule on, the full one or the quick one, as an equation. Assumes nothing.
use mathlib.Core.Path.{◌≡◌, refl, sym, ap}
use mathlib.Core.Bool.{true}
use mathlib.Core.Logic.{◌↔◌, ◌⊎◌, inl, inr}
use mathlib.Core.List.{List, Memᴰ}
use Prim.Native.Nat.{ℕ, ◌≤◌, ◌<◌}
use native.Mathlib.Omega.{arith}
use lib.ListN.{length, replicate, length-replicate}
use Rattle.bitset.specs.Set.{member}
use Rattle.deduction.specs.Term.{atom}
use Rattle.deduction.specs.Setting.{Setting, every}
use Rattle.deduction.specs.Derivation.{Derivable}
use Rattle.deduction.specs.Entry.{Atom, term_at}
use Rattle.deduction.specs.Standard.{rep_at}
use Rattle.deduction.specs.Fresh.{Fresh}
use Rattle.deduction.proofs.Fresh.{fresh_or_entry, beside_same}
use Rattle.dag.specs.Sheet.{count_of, goal_of, trace_length}
use Rattle.dag.specs.Record.{entry_at}
use Rattle.dag.specs.Refusal.{refusal}
use Rattle.dag.proofs.Laws.Good.{good}
use Rattle.start.specs.Start.{start_entries, start_terms}
use Rattle.start.proofs.Laws.Heads.{start_below}
use Rattle.start.proofs.Public.{public_gained}
use Rattle.verdict.specs.Buffer.{gained_in}
use Rattle.verdict.specs.Refused.{refusal_of}
use Rattle.verdict.specs.Code.{IsOut}
use Rattle.verdict.specs.Demands.{goal_term, Demanded}
use Rattle.verdict.specs.Answer.{answer_of, buffer_of}
use Rattle.verdict.proofs.Laws.Answered.{ok_sheet, ok_cut, equations_demand}
use Rattle.verdict.proofs.Reading.{answer_judged, reached_derivable, out_underivable, out_gained, out_exact}
use Rattle.fresh.specs.Own.{OwnAtom, own_start}

module _ (s : List ℕ) (ok : refusal s ≡ 0) where
  -- a public number with an entry is at the start; every other own atom is fresh
  pub own_beside : (cut a : ℕ) → OwnAtom s a → Fresh (entry_at s) (count_of s) a ⊎ Memᴰ (atom a) (start_terms s cut)
  own_beside cut a (inl l) = go (fresh_or_entry (entry_at s) (count_of s) (good s ok).downward a)
    where
      go : Fresh (entry_at s) (count_of s) a ⊎ ((i : ℕ) × (i < count_of s) × (entry_at s i ≡ Atom a)) → Fresh (entry_at s) (count_of s) a ⊎ Memᴰ (atom a) (start_terms s cut)
      go (inl f) = inl f
      go (inr (i, h, p)) = inr (public_gained s ok cut i a h p l)
  own_beside cut a (inr f) = inl f

  -- the same entries are derivable with own atoms as without
  pub own_same : (cut : ℕ) → cut ≤ trace_length s → (atoms : List ℕ) → ((a : ℕ) → Memᴰ a atoms → OwnAtom s a)
      → (on : Setting) (i : ℕ) → i < count_of s → Derivable on (own_start s cut atoms) (term_at (entry_at s) i) ↔ Derivable on (start_terms s cut) (term_at (entry_at s) i)
  own_same cut within atoms own on =
      beside_same (entry_at s) (count_of s) (good s ok).downward on (start_entries s cut) (start_below s ok cut within) atoms (λ a m. own_beside cut a (own a m))

module _ {on : Setting} {limit : ℕ} {s : List ℕ} {cut budget : ℕ} {old out : List ℕ} {answer : ℕ} (d : Demanded on limit s cut budget old out answer)
    (atoms : List ℕ) (own : (a : ℕ) → Memᴰ a atoms → OwnAtom s a) where
  -- of a call that isn't refused
  module _ (judged : refusal_of limit s cut budget (length old) ≡ 0) where
    sheet : refusal s ≡ 0
    sheet = ok_sheet limit s cut budget (length old) judged

    within : cut ≤ trace_length s
    within = ok_cut limit s cut budget (length old) judged

    goal_same : Derivable on (own_start s cut atoms) (goal_term s) ↔ Derivable on (start_terms s cut) (goal_term s)
    goal_same = own_same s sheet cut within atoms own on (goal_of s) (good s sheet).goal

    -- with a budget of at least the number of entries the number says whether the goal is derivable with them
    pub own_exact : count_of s ≤ budget → IsOut answer ↔ (¬ Derivable on (own_start s cut atoms) (goal_term s))
    own_exact enough = let e = out_exact sheet (d.judged judged) enough in (λ o x. e.0 o (goal_same.0 x), λ n. e.1 (λ x. n (goal_same.1 x)))

  -- "a goal out of reach stays so", for every budget
  pub own_out : IsOut answer → ¬ Derivable on (own_start s cut atoms) (goal_term s)
  own_out (l, h) x = let j = answer_judged d (omega arith) in out_underivable (sheet j) (d.judged j) l h ((goal_same j).0 x)

  pub own_reached : 1000 ≤ answer → answer < 2000 → Derivable on (own_start s cut atoms) (goal_term s)
  own_reached l h = let j = answer_judged d (omega arith) in (goal_same j).1 (reached_derivable (sheet j) (d.judged j) h)

  -- and so does every other entry: the gained set has the heads of exactly those that are derivable with them
  pub own_gained : IsOut answer → (i : ℕ) → i < count_of s
      → (member (gained_in out) (rep_at (entry_at s) i) ≡ true) ↔ Derivable on (own_start s cut atoms) (term_at (entry_at s) i)
  own_gained (l, h) i low =
      let j = answer_judged d (omega arith) in
      let e = out_gained (sheet j) (d.judged j) (within j) l h i low in
      let f = own_same s (sheet j) cut (within j) atoms own on i low in
      (λ g. f.1 (e.0 g), λ x. e.1 (f.0 x))

-- the same of the verdicts that have "every rule switched on", by the equation of their contracts: whatever the limit, the sheet, the cut, the budget and the length of the buffer
module _ (limit : ℕ) (s : List ℕ) (cut budget space : ℕ) (out : IsOut (answer_of every limit s cut budget space)) where
  abbrev buffer : List ℕ
  buffer = replicate space 0

  demanded : Demanded every limit s cut budget buffer (buffer_of every limit s cut budget buffer) (answer_of every limit s cut budget space)
  demanded =
      equations_demand every limit s cut budget buffer (buffer_of every limit s cut budget buffer) (answer_of every limit s cut budget space) (ap (answer_of every limit s cut budget) (sym (length-replicate {A = ℕ} space 0))) refl

  pub full_out : (atoms : List ℕ) → ((a : ℕ) → Memᴰ a atoms → OwnAtom s a) → ¬ Derivable every (own_start s cut atoms) (goal_term s)
  full_out atoms own = own_out demanded atoms own out

  -- and its sheet is good
  pub answered_sheet : refusal s ≡ 0
  answered_sheet = ok_sheet limit s cut budget (length buffer) (answer_judged demanded (omega (arith, out.0)))
