-- The card of sheet A, whole, by computation. Its lines, letter by letter: proofs/Examples.antt of `line`.
use mathlib.Core.Path.{◌≡◌, refl}
use mathlib.Core.List.{◌++◌}
use lib.Count.{ones, ones_in}
use Rattle.bitset.specs.Set.{member, insert, highest, leading}
use Rattle.deduction.specs.Term.{opposite}
use Rattle.deduction.specs.Entry.{parts}
use Rattle.deduction.specs.Standard.{half_kind, shape, alike, least, xor_all, first_alike, standard_set, build_set, sets, set_at, rep_at}
use Rattle.deduction.specs.Elimination.{take_off, reduce_from, reduce, add_row, learn_as, learn_all, nothing}
use Rattle.deduction.specs.Run.{is_half, opener, any_half, knowledge, by_rule, offer, opened, built, offers, all_offers, least_of, is_sum_of, next_number, second_part, expand, step_at, after, reached, next_step, goes_on, ended, run}
use Rattle.dag.specs.Sheet.{number_at, begin_at, listed}
use Rattle.dag.specs.Record.{fits, atom_of, decode_as}
use Rattle.dag.specs.Refusal.{when, or_else, first, equal, any_from, no_sheet, bad_count, short_list, bad_pair, bad_pairs, bad_record, wrong_half, bad_record_at, bad_records, not_listed, refusal}
use Rattle.start.specs.Start.{is_public, public_heads}
use Rattle.verdict.specs.Refused.{refusal_of}
use Rattle.verdict.specs.Answer.{outcome_of, answer_of}
use Rattle.verdict.specs.Card.{sheet_a}
use Rattle.line.specs.Decimal.{digits, decimal}
use Rattle.line.specs.Line.{sources, rule_text, goal_line, out_line, reached_line, step_line}
use Rattle.card.specs.Card.{steps_text, verdict_text, cut_text, is_reached, cuts_from, card_of}

-- the whole card: "goal 3 heard 3", three cuts out of reach, "cut 3 reached rungs 2", "rung 0 sum 1 2", "rung 3 open 4 0"
card_example : card_of sheet_a ≡ goal_line 3 3 ++ (out_line 0 0 ++ (out_line 1 1 ++ (out_line 2 2 ++ (reached_line 3 2 ++ (step_line 0 6 65535 65535 6 ++ step_line 3 3 4 0 0)))))
unfolding card_of cuts_from cut_text verdict_text is_reached steps_text digits decimal sources rule_text answer_of outcome_of refusal_of refusal no_sheet bad_count short_list bad_pair bad_pairs bad_record wrong_half bad_record_at bad_records not_listed when or_else first equal any_from fits atom_of decode_as number_at begin_at listed parts half_kind opposite shape alike least xor_all first_alike standard_set build_set sets set_at rep_at is_public public_heads take_off reduce_from reduce add_row learn_as learn_all nothing is_half opener any_half knowledge by_rule offer opened built offers all_offers least_of is_sum_of next_number second_part expand step_at after reached next_step goes_on ended run member insert highest leading ones ones_in
card_example = refl
