-- Wrong answers and ladders of the limited verdict, proved not to meet the demands or not to pass, whatever the buffers hold.
-- Shown: zero reached without sum; the goal of sheet A reached without sum; the goal's own set reduced without sum; a lock opened where open alone is on; a
-- pair left whole where a sum that is the same was heard; the highest switch for rule 1; a ladder by a rule that is off. By computation. Assumes nothing.
use mathlib.Core.Path.{◌≡◌, refl, sym, ap₂, ◌∙◌, subst}
use mathlib.Core.Bool.{true≢false}
use native.Mathlib.Omega.{arith}
use Prim.Native.Nat.{ℕ, ◌+◌, ◌≤◌, ◌<◌}
use mathlib.Core.List.{List, [], ◌∷◌, Memᴰ}
use lib.ListN.{length}
use Rattle.bitset.specs.Set.{member, insert, highest, leading}
use Rattle.deduction.specs.Term.{opposite}
use Rattle.deduction.specs.Setting.{switches}
use Rattle.deduction.specs.Entry.{parts}
use Rattle.deduction.specs.Standard.{half_kind, shape, alike, least, xor_all, first_alike, standard_set, build_set, sets, set_at, rep_at}
use Rattle.deduction.specs.Elimination.{take_off, reduce_from, reduce, add_row, learn_as, learn_all, nothing}
use Rattle.deduction.specs.Run.{is_half, opener, any_half, knowledge, by_rule, offer, opened, built, offers, all_offers, least_of, is_sum_of, next_number, second_part, expand, step_at, after, reached, next_step, goes_on, ended, run}
use Rattle.dag.specs.Sheet.{number_at, trace_length, begin_at, listed}
use Rattle.dag.specs.Record.{fits, atom_of, decode_as}
use Rattle.dag.specs.Refusal.{when, or_else, first, equal, any_from, no_sheet, bad_count, short_list, bad_pair, bad_pairs, bad_record, wrong_half, bad_record_at, bad_records, not_listed, refusal}
use Rattle.start.specs.Start.{is_public, public_heads}
use Rattle.verdict.specs.Answer.{outcome_of, missing_as, missing_by, missing_of}
use Rattle.deduction.specs.Step.{Step, step, unused}
use Rattle.deduction.specs.Course.{Verdict, derivable, underivable}
use Rattle.deduction.proofs.Settings.{replays_allowed}
use Rattle.verdict.specs.Buffer.{used_in, remainder_in, steps_in}
use Rattle.verdict.specs.Demands.{verdict_code, Passes, Meets}
use Rattle.verdict.specs.Card.{sheet_a, sheet4, sheet_pad, sum_step, open_step}
use Rattle.verdict.specs.Locks.{sheet_public}
use Rattle.verdict.proofs.Unique.{answer_run, missing_run}
use Rattle.limited.specs.Cases.{sheet_left, sheet_same}

-- the sheet is good, the cut is within its log, and by these switches the run makes these rungs, ends so, and leaves these sets missing
abbrev Runs : ℕ → List ℕ → ℕ → List Step → Verdict → ℕ → ℕ → Type 0
Runs w s cut ss v used remainder =
    (refusal s ≡ 0) × (cut ≤ trace_length s) × ((outcome_of (switches w) s cut 256).steps ≡ ss) × ((outcome_of (switches w) s cut 256).verdict ≡ v)
    × ((missing_of (switches w) s cut 256).used ≡ used) × ((missing_of (switches w) s cut 256).remainder ≡ remainder)

runs : Runs 223 sheet4 0 [] underivable 0 0 × Runs 223 sheet_a 3 [] underivable 0 8 × Runs 223 sheet_pad 1 [] underivable 0 2
    × Runs 4 sheet_public 2 [] underivable 0 1 × Runs 1 sheet_same 1 (step 0 1 2 unused 0 ∷ []) derivable 0 0 × Runs 1 sheet_left 1 (step 0 1 2 unused 0 ∷ []) derivable 0 0
unfolding switches missing_as missing_by missing_of outcome_of refusal no_sheet bad_count short_list bad_pair bad_pairs bad_record wrong_half bad_record_at bad_records not_listed when or_else first equal any_from fits atom_of decode_as number_at begin_at listed parts half_kind opposite shape alike least xor_all first_alike standard_set build_set sets set_at rep_at is_public public_heads take_off reduce_from reduce add_row learn_as learn_all nothing is_half opener any_half knowledge by_rule offer opened built offers all_offers least_of is_sum_of next_number second_part expand step_at after reached next_step goes_on ended run member insert highest leading
runs = (
  (refl, omega arith, refl, refl, refl, refl),
  (refl, omega arith, refl, refl, refl, refl),
  (refl, omega arith, refl, refl, refl, refl),
  (refl, omega arith, refl, refl, refl, refl),
  (refl, omega arith, refl, refl, refl, refl),
  (refl, omega arith, refl, refl, refl, refl),
)

-- only this answer and these sets meet the demands there
module _ (w : ℕ) {s : List ℕ} {cut : ℕ} {ss : List Step} {v : Verdict} {used remainder : ℕ} (r : Runs w s cut ss v used remainder) {old out : List ℕ} {answer : ℕ} (m : Meets (switches w) s cut 256 old out answer) where
  only_answer : answer ≡ verdict_code v + length ss
  only_answer = answer_run (switches w) s cut 256 r.0 r.1 m ∙ ap₂ (λ (x : Verdict) (l : List Step). verdict_code x + length l) r.3 r.2

  only_used : used_in out ≡ used
  only_used = (missing_run (switches w) s cut 256 r.0 r.1 m).0 ∙ r.4

  only_remainder : remainder_in out ≡ remainder
  only_remainder = (missing_run (switches w) s cut 256 r.0 r.1 m).1 ∙ r.5

module _ (old out : List ℕ) where
  pub zero_for_nothing : (k : ℕ) → k < 1000 → ¬ Meets (switches 223) sheet4 0 256 old out (1000 + k)
  zero_for_nothing k l m = omega (arith, only_answer 223 runs.0 m)

  pub reached_without_sum : (k : ℕ) → k < 1000 → ¬ Meets (switches 223) sheet_a 3 256 old out (1000 + k)
  reached_without_sum k l m = omega (arith, only_answer 223 runs.1 m)

  pub reduced_without_sum : {answer : ℕ} → Meets (switches 223) sheet_pad 1 256 old out answer → ¬ (remainder_in out ≡ 1)
  reduced_without_sum m p = omega (arith, only_remainder 223 runs.2 m)

  pub used_without_sum : {answer : ℕ} → Meets (switches 223) sheet_pad 1 256 old out answer → ¬ (used_in out ≡ 4)
  used_without_sum m p = omega (arith, only_used 223 runs.2 m)

  pub unlocked_by_open : (k : ℕ) → k < 1000 → ¬ Meets (switches 4) sheet_public 2 256 old out (1000 + k)
  unlocked_by_open k l m = omega (arith, only_answer 4 runs.3 m)

  pub same_left_whole : (k : ℕ) → ¬ Meets (switches 1) sheet_same 1 256 old out (2000 + k)
  same_left_whole k m = omega (arith, only_answer 1 runs.4 m)

  pub highest_for_lowest : (k : ℕ) → ¬ Meets (switches 1) sheet_left 1 256 old out (2000 + k)
  highest_for_lowest k m = omega (arith, only_answer 1 runs.5 m)

-- the full call's ladder on sheet A doesn't pass without sum
pub steps_by_sum : (out : List ℕ) → steps_in out 2 ≡ sum_step ∷ open_step ∷ [] → ¬ Passes (switches 223) sheet_a 3 2 out
unfolding switches member
steps_by_sum out p (end, r, h) =
    true≢false (sym (replays_allowed r sum_step (subst (λ (ss : List Step). Memᴰ sum_step ss) (sym p) (Memᴰ.head refl))))
