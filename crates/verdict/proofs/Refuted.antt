-- Wrong answers and wrong ladders on small sheets, proved not to meet the demands or not to pass, whatever the buffers hold. Each would pass a weaker definition.
-- Shown: on sheet A a rung too many, a rung missing, out of reach for a derivable goal, reached beyond the budget, a copied rung, a head too many or
-- too few in the gained set; a wrong source and a missed goal in the replay; out of reach before the last rung; a public atom out of reach, atom 256
-- reached, a public atom gained by its own number, or after the heard messages; other used sets and remainders; locks opened by another half or by none,
-- unlock ahead of sum, the sources of a lock exchanged. By computation. Assumes nothing.
use mathlib.Core.Path.{◌≡◌, refl, sym, ap, ap₂, ◌∙◌, subst}
use mathlib.Core.Bool.{true, false, true≢false}
use mathlib.Core.Logic.{◌⊎◌, inl, inr, ⊎_elim, ◌↔◌}
use mathlib.Core.List.Memᴰ
use mathlib.Core.List.{List, [], ◌∷◌, ◌++◌, map, Memᴰ}
use Prim.Native.Nat.{ℕ, zero, suc, ◌+◌, ◌≤◌, ◌<◌}
use native.Mathlib.Omega.{arith}
use lib.ListN.{length, get_or}
use Rattle.bitset.specs.Set.{member, insert, highest, leading}
use Rattle.deduction.specs.Term.{Side, private, public, opposite, Term, enc, half, aenc, ◌≈◌}
use Rattle.deduction.specs.Setting.{every}
use Rattle.deduction.specs.Derivation.{Holds}
use Rattle.deduction.specs.Entry.{parts, terms, term_at, build}
use Rattle.deduction.specs.Standard.{half_kind, shape, alike, least, xor_all, first_alike, standard_set, build_set, sets, set_at, rep_at}
use Rattle.deduction.specs.Elimination.{take_off, reduce_from, reduce, add_row, learn_as, learn_all, nothing}
use Rattle.deduction.specs.Step.{Step, step, unused}
use Rattle.deduction.specs.Course.{Verdict, derivable, underivable, exhausted}
use Rattle.deduction.specs.Replay.{Replays, next}
use Rattle.deduction.specs.Run.{is_half, opener, any_half, knowledge, by_rule, offer, opened, built, offers, all_offers, least_of, is_sum_of, next_number, second_part, expand, step_at, after, reached, next_step, goes_on, ended, run}
use Rattle.deduction.proofs.Standard.{rep_equal}
use Rattle.deduction.proofs.Distinct.{half_same, enc_parts, aenc_parts}
use Rattle.deduction.proofs.Steps.Replay.{end_state, end_exact, replays_end}
use Rattle.deduction.proofs.Steps.Fields.{right_decrypt, right_adecrypt}
use Rattle.dag.specs.Sheet.{number_at, trace_length, begin_at, listed}
use Rattle.dag.specs.Record.{entry_at, fits, atom_of, decode_as}
use Rattle.dag.specs.Refusal.{when, or_else, first, equal, any_from, no_sheet, bad_count, short_list, bad_pair, bad_pairs, bad_record, wrong_half, bad_record_at, bad_records, not_listed, refusal}
use Rattle.dag.proofs.Laws.Good.{good}
use Rattle.start.specs.Start.{is_public, public_heads, start_entries, start_heads, start_terms}
use Rattle.verdict.specs.Buffer.{gained_in, used_in, remainder_in, steps_in}
use Rattle.verdict.specs.Demands.{verdict_code, Passes, Meets}
use Rattle.verdict.specs.Answer.{outcome_of, missing_as, missing_by, missing_of}
use Rattle.verdict.specs.Card.{head, sheet_a, sheet255, sheet256, sheet_twice, sheet_masked, sheet_pad, sheet_other, sheet_below, sheet_drawn, sum_step, open_step, unmask_step}
use Rattle.verdict.specs.Locks.{sheet_public, sheet_shut, sheet_both, sheet_made}
use Rattle.verdict.proofs.Unique.{as_run, answer_run, known_run, missing_run}

-- An atom and zero, nothing heard, the atom as goal: it is out of reach after one rung, the sum of nothing
abbrev sheet_z : List ℕ
sheet_z = head (0 ∷ 2 ∷ 0 ∷ 0 ∷ 0 ∷ 0 ∷ 0 ∷ 18 ∷ 0 ∷ 3 ∷ 0 ∷ 21 ∷ 0 ∷ 1 ∷ 1 ∷ 3 ∷ 232 ∷ 0 ∷ [])

-- the sheet is good, the cut is within its log, these heads are gained at the start, and the run makes these rungs and ends so
abbrev Runs : List ℕ → ℕ → ℕ → List ℕ → List Step → Verdict → Type 0
Runs s cut budget es ss v =
    (refusal s ≡ 0) × (cut ≤ trace_length s) × (start_heads s cut ≡ es) × ((outcome_of every s cut budget).steps ≡ ss) × ((outcome_of every s cut budget).verdict ≡ v)

runs : Runs sheet_a 3 256 (2 ∷ 4 ∷ 1 ∷ []) (sum_step ∷ open_step ∷ []) derivable × Runs sheet_a 3 0 (2 ∷ 4 ∷ 1 ∷ []) [] exhausted
    × Runs sheet_a 2 256 (2 ∷ 4 ∷ []) [] underivable × Runs sheet_z 0 256 [] (step 1 6 unused unused 0 ∷ []) underivable
    × Runs sheet255 0 0 (0 ∷ []) [] derivable × Runs sheet256 0 0 [] [] underivable × Runs sheet_twice 0 0 (0 ∷ []) [] derivable
    × Runs sheet_masked 3 256 (1 ∷ 0 ∷ 2 ∷ 4 ∷ []) (unmask_step ∷ []) derivable
    × Runs sheet_public 2 256 (3 ∷ 2 ∷ []) (step 0 7 3 2 0 ∷ []) derivable × Runs sheet_shut 3 256 (3 ∷ 1 ∷ 2 ∷ []) [] underivable
    × Runs sheet_both 4 256 (3 ∷ 2 ∷ 5 ∷ 4 ∷ []) (step 0 6 unused unused 48 ∷ []) derivable × Runs sheet_made 2 256 (0 ∷ 1 ∷ []) (step 2 8 0 1 0 ∷ []) derivable
unfolding outcome_of refusal no_sheet bad_count short_list bad_pair bad_pairs bad_record wrong_half bad_record_at bad_records not_listed when or_else first equal any_from fits atom_of decode_as number_at begin_at listed parts half_kind opposite shape alike least xor_all first_alike standard_set build_set sets set_at rep_at is_public public_heads take_off reduce_from reduce add_row learn_as learn_all nothing is_half opener any_half knowledge by_rule offer opened built offers all_offers least_of is_sum_of next_number second_part expand step_at after reached next_step goes_on ended run member insert highest leading
runs = (
  (refl, omega arith, refl, refl, refl),
  (refl, omega arith, refl, refl, refl),
  (refl, omega arith, refl, refl, refl),
  (refl, omega arith, refl, refl, refl),
  (refl, omega arith, refl, refl, refl),
  (refl, omega arith, refl, refl, refl),
  (refl, omega arith, refl, refl, refl),
  (refl, omega arith, refl, refl, refl),
  (refl, omega arith, refl, refl, refl),
  (refl, omega arith, refl, refl, refl),
  (refl, omega arith, refl, refl, refl),
  (refl, omega arith, refl, refl, refl),
)

-- only this answer, these rungs and this gained set meet the demands there
module _ {s : List ℕ} {cut budget : ℕ} {es : List ℕ} {ss : List Step} {v : Verdict} (r : Runs s cut budget es ss v) {old out : List ℕ} {answer : ℕ} (m : Meets every s cut budget old out answer) where
  only_answer : answer ≡ verdict_code v + length ss
  only_answer = answer_run every s cut budget r.0 r.1 m ∙ ap₂ (λ (w : Verdict) (l : List Step). verdict_code w + length l) r.4 r.3

  only_steps : steps_in out m.count ≡ ss
  only_steps = (as_run every s cut budget r.0 r.1 m).0 ∙ r.3

  only_known : (e : ℕ) → (member (gained_in out) e ≡ true) ↔ Memᴰ e (es ++ map (λ (x : Step). x.head) ss)
  only_known =
      subst (λ (l : List ℕ). (e : ℕ) → (member (gained_in out) e ≡ true) ↔ Memᴰ e l)
      (ap₂ (λ (l : List ℕ) (t : List Step). l ++ map (λ (x : Step). x.head) t) r.2 r.3)
      (known_run every s cut budget r.0 r.1 m)

-- sheet A at cut 3, whatever the buffers hold
module _ (old out : List ℕ) where
  pub step_too_many : ¬ Meets every sheet_a 3 256 old out 1003
  step_too_many m = omega (arith, only_answer runs.0 m)

  pub step_missing : ¬ Meets every sheet_a 3 256 old out 1001
  step_missing m = omega (arith, only_answer runs.0 m)

  pub out_for_derivable : (k : ℕ) → ¬ Meets every sheet_a 3 256 old out (2000 + k)
  out_for_derivable k m = omega (arith, only_answer runs.0 m)

  pub beyond_the_budget : ¬ Meets every sheet_a 3 0 old out 1002
  beyond_the_budget m = omega (arith, only_answer runs.1 m)

  pub step_copied : {answer : ℕ} (m : Meets every sheet_a 3 256 old out answer) → ¬ (steps_in out m.count ≡ sum_step ∷ sum_step ∷ [])
  step_copied m p = omega (arith, ap (λ (l : List Step). (get_or l 1 sum_step).head) (sym (only_steps runs.0 m) ∙ p))

  -- at cut 2 the heads 2 and 4 are gained and no other
  pub head_too_many : {answer : ℕ} → Meets every sheet_a 2 256 old out answer → ¬ (member (gained_in out) 0 ≡ true)
  head_too_many m p =
      elim (Memᴰ.cases_cons ((only_known runs.2 m 0).0 p)) [
        | inl q ↦ omega arith
        | inr q ↦ elim (Memᴰ.cases_cons q) [ inl z ↦ omega arith | inr z ↦ Memᴰ.not-nil z ]
      ]

  pub head_too_few : {answer : ℕ} → Meets every sheet_a 2 256 old out answer → ¬ (member (gained_in out) 2 ≡ false)
  head_too_few m p = true≢false (sym ((only_known runs.2 m 2).1 (Memᴰ.head refl)) ∙ p)

  -- out of reach before the last rung, with what was heard for the gained set
  pub out_too_early : ¬ Meets every sheet_z 0 256 old out 2000
  out_too_early m = omega (arith, only_answer runs.3 m)

  -- a public atom as goal is never out of reach, and atom 256 isn't public
  pub public_out : (k : ℕ) → ¬ Meets every sheet255 0 0 old out (2000 + k)
  public_out k m = omega (arith, only_answer runs.4 m)

  pub other_reached : (k : ℕ) → k < 1000 → ¬ Meets every sheet256 0 0 old out (1000 + k)
  other_reached k l m = omega (arith, only_answer runs.5 m)

  -- atom 0 twice: its head is gained, and the second entry isn't in the gained set
  pub own_number : {answer : ℕ} → Meets every sheet_twice 0 0 old out answer → ¬ (member (gained_in out) 1 ≡ true)
  own_number m p = elim (Memᴰ.cases_cons ((only_known runs.6 m 1).0 p)) [ inl q ↦ omega arith | inr q ↦ Memᴰ.not-nil q ]

  -- the heard messages gained ahead of the public atom: the sum would draw on entries 0, 2 and 4
  pub drawn_late : {answer : ℕ} (m : Meets every sheet_masked 3 256 old out answer) → ¬ (steps_in out m.count ≡ step 3 6 unused unused 21 ∷ [])
  drawn_late m p = omega (arith, ap (λ (l : List Step). (get_or l 0 sum_step).set) (sym (only_steps runs.7 m) ∙ p))

  -- a lock whose opposite half is known isn't shut, and its key isn't what opens it
  pub shut_for_open : (k : ℕ) → ¬ Meets every sheet_public 2 256 old out (2000 + k)
  shut_for_open k m = omega (arith, only_answer runs.8 m)

  pub key_for_half : {answer : ℕ} (m : Meets every sheet_public 2 256 old out answer) → ¬ (steps_in out m.count ≡ step 0 7 3 1 0 ∷ [])
  key_for_half m p = omega (arith, ap (λ (l : List Step). (get_or l 0 sum_step).second) (sym (only_steps runs.8 m) ∙ p))

  -- the same half and the opposite side of another pair don't open
  pub open_for_shut : (k : ℕ) → k < 1000 → ¬ Meets every sheet_shut 3 256 old out (1000 + k)
  open_for_shut k l m = omega (arith, only_answer runs.9 m)

  -- unlock where the sum comes first; the half before the message in the sources of a lock
  pub unlock_for_sum : {answer : ℕ} (m : Meets every sheet_both 4 256 old out answer) → ¬ (steps_in out m.count ≡ step 0 7 3 2 0 ∷ [])
  unlock_for_sum m p = omega (arith, ap (λ (l : List Step). (get_or l 0 sum_step).rule) (sym (only_steps runs.10 m) ∙ p))

  pub lock_exchanged : {answer : ℕ} (m : Meets every sheet_made 2 256 old out answer) → ¬ (steps_in out m.count ≡ step 2 8 1 0 0 ∷ [])
  lock_exchanged m p = omega (arith, ap (λ (l : List Step). (get_or l 0 sum_step).first) (sym (only_steps runs.11 m) ∙ p))

-- what is missing on a sheet, by the sum test
abbrev Lacks : List ℕ → ℕ → ℕ → ℕ → ℕ → Type 0
Lacks s cut budget used remainder =
    (refusal s ≡ 0) × (cut ≤ trace_length s) × ((missing_of every s cut budget).used ≡ used) × ((missing_of every s cut budget).remainder ≡ remainder)

lacks : Lacks sheet_pad 1 256 4 1 × Lacks sheet_other 1 256 4 1 × Lacks sheet_below 1 256 4 9 × Lacks sheet_drawn 3 256 3 8 × Lacks sheet_a 3 0 0 0
unfolding missing_as missing_by missing_of outcome_of refusal no_sheet bad_count short_list bad_pair bad_pairs bad_record wrong_half bad_record_at bad_records not_listed when or_else first equal any_from fits atom_of decode_as number_at begin_at listed parts half_kind opposite shape alike least xor_all first_alike standard_set build_set sets set_at rep_at is_public public_heads take_off reduce_from reduce add_row learn_as learn_all nothing is_half opener any_half knowledge by_rule offer opened built offers all_offers least_of is_sum_of next_number second_part expand step_at after reached next_step goes_on ended run member insert highest leading
lacks = (
  (refl, omega arith, refl, refl),
  (refl, omega arith, refl, refl),
  (refl, omega arith, refl, refl),
  (refl, omega arith, refl, refl),
  (refl, omega arith, refl, refl),
)

-- only these two sets meet the demands there
module _ {s : List ℕ} {cut budget used remainder : ℕ} (r : Lacks s cut budget used remainder) {old out : List ℕ} {answer : ℕ} (m : Meets every s cut budget old out answer) where
  only_used : used_in out ≡ used
  only_used = (missing_run every s cut budget r.0 r.1 m).0 ∙ r.2

  only_remainder : remainder_in out ≡ remainder
  only_remainder = (missing_run every s cut budget r.0 r.1 m).1 ∙ r.3

module _ {old out : List ℕ} {answer : ℕ} where
  -- used set and remainder exchanged; nothing used, and the goal's own set left; nothing missing at all
  pub missing_exchanged : Meets every sheet_pad 1 256 old out answer → ¬ ((used_in out ≡ 1) × (remainder_in out ≡ 4))
  missing_exchanged m (p, q) = omega (arith, only_used lacks.0 m)

  pub missing_own_set : Meets every sheet_pad 1 256 old out answer → ¬ ((used_in out ≡ 0) × (remainder_in out ≡ 2))
  missing_own_set m (p, q) = omega (arith, only_used lacks.0 m)

  pub missing_nothing : Meets every sheet_pad 1 256 old out answer → ¬ (remainder_in out ≡ 0)
  missing_nothing m p = omega (arith, only_remainder lacks.0 m)

  -- the goal's own number, where its head is another
  pub missing_own_number : Meets every sheet_other 1 256 old out answer → ¬ ((used_in out ≡ 0) × (remainder_in out ≡ 8))
  missing_own_number m (p, q) = omega (arith, only_used lacks.1 m)

  -- entry 1, the highest-numbered one of the known sum, left below entry 3, which is none
  pub missing_at_its_top : Meets every sheet_below 1 256 old out answer → ¬ ((used_in out ≡ 0) × (remainder_in out ≡ 10))
  missing_at_its_top m (p, q) = omega (arith, only_used lacks.2 m)

  -- entry 2 used, which was a sum of entries 0 and 1 when it was heard
  pub used_not_drawn : Meets every sheet_drawn 3 256 old out answer → ¬ ((used_in out ≡ 4) × (remainder_in out ≡ 8))
  used_not_drawn m (p, q) = omega (arith, only_used lacks.3 m)

  -- something missing at stopped
  pub missing_at_stopped : Meets every sheet_a 3 0 old out answer → ¬ (remainder_in out ≡ 8)
  missing_at_stopped m p = omega (arith, only_remainder lacks.4 m)

-- the replay on sheet A: the entries gained at the start, its seal, and every entry its own head
replay_a : (start_entries sheet_a 3 ≡ 2 ∷ 4 ∷ 1 ∷ []) × (term_at (entry_at sheet_a) 4 ≡ enc (term_at (entry_at sheet_a) 3) (term_at (entry_at sheet_a) 0))
unfolding fits atom_of decode_as number_at listed is_public public_heads term_at terms build
replay_a = (refl, refl)

own_head : (i : ℕ) → i < 5 → rep_at (entry_at sheet_a) i ≡ i
unfolding fits atom_of decode_as number_at half_kind opposite shape alike least xor_all first_alike standard_set build_set sets set_at rep_at listed
own_head zero l = refl
own_head (suc zero) l = refl
own_head (suc (suc zero)) l = refl
own_head (suc (suc (suc zero))) l = refl
own_head (suc (suc (suc (suc zero)))) l = refl
own_head (suc (suc (suc (suc (suc i))))) l = absurd (omega arith)

-- no two of its entries are the same term
apart : (i j : ℕ) → i < 5 → j < 5 → term_at (entry_at sheet_a) i ≈ term_at (entry_at sheet_a) j → i ≡ j
unfolding number_at
apart i j li lj q = sym (own_head i li) ∙ (rep_equal (entry_at sheet_a) 5 (good sheet_a runs.0.0).downward i j li lj).1 q ∙ own_head j lj

held_a : (i : ℕ) → Memᴰ i (2 ∷ 4 ∷ 1 ∷ 0 ∷ []) → (i < 5) × (¬ (i ≡ 3))
held_a i m = elim (Memᴰ.cases_cons m) [ inl p ↦ (omega arith, λ q. omega arith) | inr m ↦ four m ]
  where
    zero_only : Memᴰ i (0 ∷ []) → (i < 5) × (¬ (i ≡ 3))
    zero_only m = elim (Memᴰ.cases_cons m) [ inl p ↦ (omega arith, λ q. omega arith) | inr m ↦ absurd (Memᴰ.not-nil m) ]

    one : Memᴰ i (1 ∷ 0 ∷ []) → (i < 5) × (¬ (i ≡ 3))
    one m = elim (Memᴰ.cases_cons m) [ inl p ↦ (omega arith, λ q. omega arith) | inr m ↦ zero_only m ]

    four : Memᴰ i (4 ∷ 1 ∷ 0 ∷ []) → (i < 5) × (¬ (i ≡ 3))
    four m = elim (Memᴰ.cases_cons m) [ inl p ↦ (omega arith, λ q. omega arith) | inr m ↦ one m ]

-- the first rung alone replays, and misses the goal
pub goal_missed : (out : List ℕ) → steps_in out 1 ≡ sum_step ∷ [] → ¬ Passes every sheet_a 3 1 out
unfolding number_at
goal_missed out p (end, r, h) = go ((end_exact (term_at (entry_at sheet_a)) (2 ∷ 4 ∷ 1 ∷ []) (sum_step ∷ []) (term_at (entry_at sheet_a) 3)).0 held)
  where
    held : Holds (end_state (term_at (entry_at sheet_a)) (map (term_at (entry_at sheet_a)) (2 ∷ 4 ∷ 1 ∷ [])) (sum_step ∷ [])) (term_at (entry_at sheet_a) 3)
    held =
        subst (λ (l : List ℕ). Holds (end_state (term_at (entry_at sheet_a)) (map (term_at (entry_at sheet_a)) l) (sum_step ∷ [])) (term_at (entry_at sheet_a) 3)) replay_a.0
        (subst (λ (ss : List Step). Holds (end_state (term_at (entry_at sheet_a)) (start_terms sheet_a 3) ss) (term_at (entry_at sheet_a) 3)) p
        (subst (λ (g : List Term). Holds g (term_at (entry_at sheet_a) 3)) (replays_end (term_at (entry_at sheet_a)) 5 r) h))

    go : (i : ℕ) × Memᴰ i (2 ∷ 4 ∷ 1 ∷ 0 ∷ []) × (term_at (entry_at sheet_a) i ≈ term_at (entry_at sheet_a) 3) → ⊥
    go (i, m, q) = let (low, other) = held_a i m in other (apart i 3 low (omega arith) q)

-- a seal opened with the wrong source doesn't replay
pub source_wrong : (out : List ℕ) → steps_in out 2 ≡ sum_step ∷ step 3 3 4 1 0 ∷ [] → ¬ Passes every sheet_a 3 2 out
unfolding number_at
source_wrong out p (end, r, h) = go (subst (λ (ss : List Step). Replays every (term_at (entry_at sheet_a)) 5 (start_terms sheet_a 3) ss end) p r)
  where
    go : {g a : List Term} → Replays every (term_at (entry_at sheet_a)) 5 g (sum_step ∷ step 3 3 4 1 0 ∷ []) a → ⊥
    go (next u x (next v y z)) =
        let q = subst (λ (u : Term). u ≈ enc (term_at (entry_at sheet_a) 3) (term_at (entry_at sheet_a) 1)) replay_a.1 (right_decrypt (term_at (entry_at sheet_a)) 5 y refl) in
        omega (arith, apart 0 1 (omega arith) (omega arith) (enc_parts q).1)

-- the lock and the halves of the sheet on which it stays shut
replay_shut : (term_at (entry_at sheet_shut) 3 ≡ aenc (term_at (entry_at sheet_shut) 0) (half public 7)) × (term_at (entry_at sheet_shut) 1 ≡ half public 7)
    × (term_at (entry_at sheet_shut) 2 ≡ half private 8)
unfolding fits atom_of decode_as number_at listed term_at terms build
replay_shut = (refl, refl, refl)

-- a lock opened with the half that it was made with, or with the opposite side of another pair, doesn't replay
half_opens : (j : ℕ) (y : Side) (b : ℕ) → term_at (entry_at sheet_shut) j ≡ half y b → (half_kind y ≡ 6) ⊎ (b ≡ 8)
    → (out : List ℕ) → steps_in out 1 ≡ step 0 7 3 j 0 ∷ [] → ¬ Passes every sheet_shut 3 1 out
unfolding number_at half_kind opposite
half_opens j y b tj other out p (end, r, h) = go (subst (λ (ss : List Step). Replays every (term_at (entry_at sheet_shut)) 4 (start_terms sheet_shut 3) ss end) p r)
  where
    apart : (x : Side) (a : ℕ) → half public 7 ≈ half x a → half y b ≈ half (opposite x) a → ⊥
    apart x a q z =
        let (sx, ax) = half_same public x 7 a q in let (sy, by) = half_same y (opposite x) b a z in
        ⊎_elim (λ (k : half_kind y ≡ 6). omega (arith, k, ap half_kind sy, ap (λ (v : Side). half_kind (opposite v)) sx)) (λ (k : b ≡ 8). omega (arith, k, ax, by)) other

    go : {g a : List Term} → Replays every (term_at (entry_at sheet_shut)) 4 g (step 0 7 3 j 0 ∷ []) a → ⊥
    go (next u v z) =
        let (x, a, q, w) = right_adecrypt (term_at (entry_at sheet_shut)) 4 v refl in
        apart x a (aenc_parts (subst (λ (u : Term). u ≈ aenc (term_at (entry_at sheet_shut) 0) (half x a)) replay_shut.0 q)).1 (subst (λ (u : Term). u ≈ half (opposite x) a) tj w)

pub same_half_wrong : (out : List ℕ) → steps_in out 1 ≡ step 0 7 3 1 0 ∷ [] → ¬ Passes every sheet_shut 3 1 out
unfolding half_kind
same_half_wrong = half_opens 1 public 7 replay_shut.1 (inl refl)

pub other_pair_wrong : (out : List ℕ) → steps_in out 1 ≡ step 0 7 3 2 0 ∷ [] → ¬ Passes every sheet_shut 3 1 out
other_pair_wrong = half_opens 2 private 8 replay_shut.2 (inr refl)
