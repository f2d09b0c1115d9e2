-- The definitions yield every case of the table. By computation. Assumes nothing.
use mathlib.Core.Path.{refl}
use lib.Count.{ones, ones_in}
use Rattle.bitset.specs.Set.{member, insert, highest, leading}
use Rattle.deduction.specs.Term.{opposite}
use Rattle.deduction.specs.Setting.{every}
use Rattle.deduction.specs.Entry.{parts}
use Rattle.deduction.specs.Standard.{half_kind, shape, alike, least, xor_all, first_alike, standard_set, build_set, sets, set_at, rep_at}
use Rattle.deduction.specs.Elimination.{take_off, reduce_from, reduce, add_row, learn_as, learn_all, nothing}
use Rattle.deduction.specs.Run.{is_half, opener, any_half, knowledge, by_rule, offer, opened, built, offers, all_offers, least_of, is_sum_of, next_number, second_part, expand, step_at, after, reached, next_step, goes_on, ended, run}
use Rattle.dag.specs.Sheet.{number_at, begin_at, listed}
use Rattle.dag.specs.Record.{fits, atom_of, decode_as}
use Rattle.dag.specs.Refusal.{when, or_else, first, equal, any_from, no_sheet, bad_count, short_list, bad_pair, bad_pairs, bad_record, wrong_half, bad_record_at, bad_records, not_listed, refusal}
use Rattle.start.specs.Start.{is_public, public_heads}
use Rattle.verdict.specs.Refused.{refusal_of}
use Rattle.verdict.specs.Answer.{outcome_of, answer_of, missing_as, missing_by, missing_of}
use Rattle.verdict.specs.Card.{rows, AllYield}

pub card : AllYield every rows
unfolding rows answer_of missing_as missing_by missing_of outcome_of refusal_of refusal no_sheet bad_count short_list bad_pair bad_pairs bad_record wrong_half bad_record_at bad_records not_listed when or_else first equal any_from fits atom_of decode_as number_at begin_at listed parts half_kind opposite shape alike least xor_all first_alike standard_set build_set sets set_at rep_at is_public public_heads take_off reduce_from reduce add_row learn_as learn_all nothing is_half opener any_half knowledge by_rule offer opened built offers all_offers least_of is_sum_of next_number second_part expand step_at after reached next_step goes_on ended run member insert highest leading ones ones_in
card = ((refl, refl, refl, refl, refl), ((refl, refl, refl, refl, refl), ((refl, refl, refl, refl, refl), ((refl, refl, refl, refl, refl), ((refl, refl, refl, refl, refl), ((refl, refl, refl, refl, refl), ((refl, refl, refl, refl, refl), ((refl, refl, refl, refl, refl), ((refl, refl, refl, refl, refl), ((refl, refl, refl, refl, refl), ((refl, refl, refl, refl, refl), ((refl, refl, refl, refl, refl), ((refl, refl, refl, refl, refl), ((refl, refl, refl, refl, refl), ((refl, refl, refl, refl, refl), ((refl, refl, refl, refl, refl), ((refl, refl, refl, refl, refl), ((refl, refl, refl, refl, refl), ((refl, refl, refl, refl, refl), ((refl, refl, refl, refl, refl), ((refl, refl, refl, refl, refl), ((refl, refl, refl, refl, refl), ((refl, refl, refl, refl, refl), ((refl, refl, refl, refl, refl), ((refl, refl, refl, refl, refl), ((refl, refl, refl, refl, refl), ((refl, refl, refl, refl, refl), ((refl, refl, refl, refl, refl), tt))))))))))))))))))))))))))))
