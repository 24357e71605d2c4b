-- The number that document 01 gives to each refusal, by its name in the definitions.
use Rattle.std.specs.Prelude.{ℕ}
use Rattle.meaning.specs.Refusals.{model_too_long, log_too_long, places_too_few, model_ends_early, model_word_outside, variable_twice, words_after_model, no_conclusion, log_ends_inside_step, log_word_outside, words_after_conclusion, box_empty, row_does_not_conflict, hint_does_not_apply, hints_used_up, fact_does_not_fit}
use Rattle.reading.specs.declared.refusals.Reason.{Reason}
use Rattle.reading.specs.declared.refusals.Reason.TheVariants as reason

abbrev pub number_of : Reason → ℕ
number_of reason.ModelTooLong = model_too_long
number_of reason.LogTooLong = log_too_long
number_of reason.TooFewPlaces = places_too_few
number_of reason.ModelEndsEarly = model_ends_early
number_of reason.ModelWordOutside = model_word_outside
number_of reason.VariableTwice = variable_twice
number_of reason.WordsAfterModel = words_after_model
number_of reason.NoConclusion = no_conclusion
number_of reason.LogEndsInsideStep = log_ends_inside_step
number_of reason.LogWordOutside = log_word_outside
number_of reason.WordsAfterConclusion = words_after_conclusion
number_of reason.BoxEmpty = box_empty
number_of reason.RowDoesNotConflict = row_does_not_conflict
number_of reason.HintDoesNotApply = hint_does_not_apply
number_of reason.HintsUsedUp = hints_used_up
number_of reason.FactDoesNotFit = fact_does_not_fit
