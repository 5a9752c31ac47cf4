-- The words of the promise are those of the crates.
use Rattle.std.proofs.Common.{◌≡◌, ◌∙◌, ℕ, zero, suc, ◌+◌, ℤ, List, [], ◌∷◌, length, map, Some, refl, sym, ap}
use Rattle.std.proofs.lemmas.List.Elements.{filter_agree}
use Rattle.std.specs.List.{slice_split}
use Rattle.network.specs.Problem.{Problem, IsProject}
use Rattle.network.specs.declared.parts.Lag.{Lag}
use Rattle.network.specs.Schedule as network
use Rattle.words.specs.Words as pieces
use Rattle.words.specs.Words.{integer, words}
use Rattle.sch_reader.specs.Text as reader
use Rattle.sch_reader.specs.Text.{flat, token}
use Rattle.answers.specs.Answers as answers
use Rattle.promise.specs.Promise as promise
use Rattle.promise.specs.Promise.{IsBound, IsFeasible, Spells}

-- ---- schedules

pub to_crates : (p : Problem) (s : List ℤ) → IsFeasible p s → network.IsFeasible p s
to_crates p s is = record {
  schedule = record { whole = is.schedule.whole; from_zero = is.schedule.from_zero; rules_met = is.schedule.met };
  within = is.within;
}

pub from_crates : (p : Problem) (s : List ℤ) → network.IsFeasible p s → IsFeasible p s
from_crates p s is = record {
  schedule = record { whole = is.schedule.whole; from_zero = is.schedule.from_zero; met = is.schedule.rules_met };
  within = is.within;
}

pub bound_from : (p : Problem) (c : ℤ) → network.IsLowerBound p c → IsBound p c
bound_from p c holds s is = holds s (to_crates p s is)

-- ---- the text of a project

same_is_word : (w : List ℕ) → pieces.is_word w ≡ promise.is_word w
same_is_word [] = refl
same_is_word (b ∷ bs) = refl

same_words : (text : List ℕ) → reader.text_words text ≡ promise.words text
unfolding words
same_words text = filter_agree pieces.is_word promise.is_word same_is_word (slice_split (pieces.is_in reader.blanks) text)

same_lag_rows : (n i : ℕ) (lags : List Lag) → reader.network_numbers n i lags ≡ promise.lag_rows n i lags
same_lag_rows zero i lags = refl
same_lag_rows (suc n) i lags = rw (same_lag_rows n (i + 1) lags) refl

same_demand_rows : (i : ℕ) (durations : List ℤ) (rows : List (List ℤ)) → reader.request_numbers i durations rows ≡ promise.demand_rows i durations rows
same_demand_rows i [] rows = refl
same_demand_rows i (d ∷ durations) [] = refl
same_demand_rows i (d ∷ durations) (row ∷ rows) = rw (same_demand_rows (i + 1) durations rows) refl

same_numbers : (p : Problem) → flat p ≡ promise.numbers p
unfolding flat
same_numbers p = rw (same_lag_rows (length p.durations) 0 p.lags, same_demand_rows 0 p.durations p.demands) refl

same_number : (w : List ℕ) → token w ≡ promise.number w
unfolding token integer
same_number w = refl

all_numbers : (ws : List (List ℕ)) → map token ws ≡ map promise.number ws
all_numbers [] = refl
all_numbers (w ∷ ws) = rw (same_number w, all_numbers ws) refl

pub spelled : (text : List ℕ) (p : Problem) → IsProject p → reader.Spells text p → Spells text p
spelled text p is spells = record {
  numbers = ap (map promise.number) (sym (same_words text)) ∙ sym (all_numbers (reader.text_words text))
      ∙ spells.spelled ∙ ap (map Some) (same_numbers p);
  ends = is.two_dummies;
  rows = is.demand_rows;
  columns = is.demand_columns;
}

-- ---- starts

pub same_lines : (i : ℕ) (starts : List ℤ) → answers.start_lines i starts ≡ promise.lines i starts
same_lines i [] = refl
same_lines i (start ∷ starts) = rw (same_lines (i + 1) starts) refl
