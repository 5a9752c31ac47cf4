-- The text of a record.
use Rattle.std.specs.Prelude.{ℕ, ◌<◌, ◌^◌, ℤ, pos, negsuc, List, [], ◌∷◌, ◌++◌, codes, length}
use Rattle.std.specs.List.{flat_map, AllByRecursion}
use Rattle.std.specs.Fmt.{decimal, signed_decimal}
use Rattle.record_text.specs.declared.fields.TheConstants.{MAX_NUMBER_DIGITS}
use Rattle.network.specs.declared.verdict.Verdict.{Verdict}
use Rattle.network.specs.declared.verdict.Verdict.TheVariants as verdict
use Rattle.record_text.specs.declared.line.Claim.TheVariants as claims
use Rattle.record_text.specs.declared.line.Line.TheVariants as kind
use Rattle.record_text.specs.Tree.{Tree, IsTreeOf, Claim, Line}
use Rattle.record_text.specs.Kinds.{Kind}

-- each number with a space before it
abbrev pub spaced : List ℕ → List ℕ
spaced numbers = flat_map (λ n. 32 ∷ decimal n) numbers

abbrev pub spaced_times : List ℤ → List ℕ
spaced_times times = flat_map (λ t. 32 ∷ signed_decimal t) times

-- a line's bytes without the LF at its end
abbrev pub row_of : Line → List ℕ
row_of (kind.Force pair) = codes "force" ++ spaced (pair.before ∷ pair.after ∷ [])
row_of kind.Solved = codes "solved"
row_of kind.Cut = codes "cut"
row_of kind.Dead = codes "dead"
row_of (kind.Split resource members) = codes "split" ++ spaced (resource ∷ members)

-- the rows that say that a schedule of these starts has this makespan, and none is shorter
abbrev pub optimal_rows : ℤ → List ℤ → List (List ℕ)
optimal_rows makespan starts = (codes "optimal" ++ spaced_times (makespan ∷ [])) ∷ (codes "starts" ++ spaced_times starts) ∷ []

-- the rows of a claim
abbrev pub claim_rows : Claim → List (List ℕ)
claim_rows (claims.Optimal makespan starts) = optimal_rows makespan starts
claim_rows claims.NoSchedule = codes "no schedule" ∷ []

-- what a claim says, apart from the starts
abbrev pub says : Claim → Verdict
says (claims.Optimal makespan starts) = verdict.Optimal makespan
says claims.NoSchedule = verdict.NoSchedule

-- a number that the text can hold
abbrev pub IsNumber : ℕ → Type 0
IsNumber n = n < 10 ^ MAX_NUMBER_DIGITS

abbrev pub IsWritableTime : ℤ → Type 0
IsWritableTime (pos n) = IsNumber n
IsWritableTime (negsuc n) = ⊥

abbrev pub IsWritableClaim : Claim → Type 0
IsWritableClaim (claims.Optimal makespan starts) =
    IsWritableTime makespan × (0 < length starts) × AllByRecursion IsWritableTime starts
IsWritableClaim claims.NoSchedule = Unit {0}

abbrev pub IsWritableLine : Line → Type 0
IsWritableLine (kind.Force pair) = IsNumber pair.before × IsNumber pair.after
IsWritableLine (kind.Split resource members) = IsNumber resource × AllByRecursion IsNumber members
IsWritableLine line = Unit {0}

-- the records of searches
abbrev pub search_kind : Kind Claim Line
search_kind = record {
  title = codes "record 1";
  claim_rows = claim_rows;
  says = says;
  row_of = row_of;
  IsClaim = IsWritableClaim;
  IsLine = IsWritableLine;
  AreWhole = λ lines. (t : Tree) × IsTreeOf lines t;
}
