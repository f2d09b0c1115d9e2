-- The quick call on sheet A, around its limit and around the other refusals. By computation. Assumes nothing.
use Prim.Native.Nat.{◌+◌, ◌*◌, ◌-◌}
use mathlib.Core.Path.{◌≡◌, refl}
use Rattle.bitset.specs.Set.{member, insert, highest, leading}
use Rattle.deduction.specs.Term.{opposite}
use Rattle.deduction.specs.Setting.{every}
use Rattle.deduction.specs.Entry.{parts}
use Rattle.deduction.specs.Standard.{half_kind, shape, alike, least, xor_all, first_alike, standard_set, build_set, sets, set_at, rep_at}
use Rattle.deduction.specs.Elimination.{take_off, reduce_from, reduce, add_row, learn_as, learn_all, nothing}
use Rattle.deduction.specs.Run.{is_half, opener, any_half, knowledge, by_rule, offer, opened, built, offers, all_offers, least_of, is_sum_of, next_number, second_part, expand, step_at, after, reached, next_step, goes_on, ended, run}
use Rattle.dag.specs.Sheet.{number_at, begin_at, listed}
use Rattle.dag.specs.Record.{fits, atom_of, decode_as}
use Rattle.dag.specs.Refusal.{when, or_else, first, equal, any_from, no_sheet, bad_count, short_list, bad_pair, bad_pairs, bad_record, wrong_half, bad_record_at, bad_records, not_listed, refusal}
use Rattle.start.specs.Start.{is_public, public_heads}
use Rattle.verdict.specs.Buffer.{front}
use Rattle.verdict.specs.Refused.{full_limit, quick_limit, refusal_of}
use Rattle.verdict.specs.Answer.{outcome_of, answer_of}
use Rattle.verdict.specs.Card.{sheet_a}

-- after three messages the goal is reached in two rungs; a budget of 64 is let through and 65 is refused with 9, which the full call lets through
pub quick_limit_lem : (answer_of every quick_limit sheet_a 3 64 (front + 40 * 64) ≡ 1002) × (answer_of every quick_limit sheet_a 3 65 (front + 40 * 65) ≡ 9) × (answer_of every full_limit sheet_a 3 65 (front + 40 * 65) ≡ 1002)
unfolding answer_of outcome_of refusal_of refusal no_sheet bad_count short_list bad_pair bad_pairs bad_record wrong_half bad_record_at bad_records not_listed when or_else first equal any_from fits atom_of decode_as number_at begin_at listed parts half_kind opposite shape alike least xor_all first_alike standard_set build_set sets set_at rep_at is_public public_heads take_off reduce_from reduce add_row learn_as learn_all nothing is_half opener any_half knowledge by_rule offer opened built offers all_offers least_of is_sum_of next_number second_part expand step_at after reached next_step goes_on ended run member insert highest leading
quick_limit_lem = (refl, refl, refl)

-- 8 comes before 9, 9 before 10, and 10 goes by the budget given
pub quick_order : (answer_of every quick_limit sheet_a 4 65 0 ≡ 8) × (answer_of every quick_limit sheet_a 3 65 0 ≡ 9) × (answer_of every quick_limit sheet_a 3 64 (front + 40 * 64 - 1) ≡ 10) × (answer_of every quick_limit sheet_a 3 1 (front + 40) ≡ 3001)
unfolding answer_of outcome_of refusal_of refusal no_sheet bad_count short_list bad_pair bad_pairs bad_record wrong_half bad_record_at bad_records not_listed when or_else first equal any_from fits atom_of decode_as number_at begin_at listed parts half_kind opposite shape alike least xor_all first_alike standard_set build_set sets set_at rep_at is_public public_heads take_off reduce_from reduce add_row learn_as learn_all nothing is_half opener any_half knowledge by_rule offer opened built offers all_offers least_of is_sum_of next_number second_part expand step_at after reached next_step goes_on ended run member insert highest leading
quick_order = (refl, refl, refl, refl)
