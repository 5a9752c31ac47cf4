-- What a log proves as far as it goes.
use Rattle.std.proofs.Common.{◌≡◌, subst, List, [], ℕ, Option, Some, MatchOption, inl, inr}
use Rattle.network.specs.Schedule.{IsTrueVerdict}
use Rattle.network.specs.Problem.{IsProject, Problem}
use Rattle.network.specs.declared.verdict.Verdict.{Verdict}
use Rattle.lemma_book.specs.Ledger.{Claims, LedgerOf, first_ledger}
use Rattle.lemma_book.proofs.Claims.{claim_true}
use Rattle.lemma_record.specs.Reached.{Awaits, CheckerOf, HasClaimed, HasChecked}
use Rattle.lemma_record.specs.Parts.{IsRightTextIn, PartOf, whole}
use Rattle.lemma_record.specs.Faults.{LeadsTo}
use Rattle.lemma_record.specs.SoFar.{IsProvedSoFar, SoFarIsTrue}
use Rattle.lemma_record.proofs.Parted.{whole_taken, whole_text}
use Rattle.lemma_record.proofs.Sound.{IsSoundFor, claim_is_true, sound_all, sound_first}

claimed_by : (p : Problem) (text : List ℕ) (x : CheckerOf) (what : Verdict) → HasClaimed x.part p text [] what x.due → IsRightTextIn x.part p text what
claimed_by p text x what has = record { events = has.events; spells = has.begins; right = has.right }

pub claimed_here : (p : Problem) (text : List ℕ) (x : CheckerOf) (what : Verdict) → x.proved ≡ Some what
    → HasChecked p text x → IsRightTextIn x.part p text what
claimed_here p text x what is read =
    claimed_by p text x what (subst (λ (proved : Option Verdict).
    MatchOption proved (Awaits p text x) (λ (w : Verdict). HasClaimed x.part p text [] w x.due)) is read)

pub so_far_claimed : (p : Problem) (text : List ℕ) (x : CheckerOf) (what : Verdict) → x.part ≡ whole
    → x.proved ≡ Some what → HasChecked p text x → IsProvedSoFar p text what
so_far_claimed p text x what all is read = inl (whole_text p text what
    (subst (λ (q : PartOf). IsRightTextIn q p text what) all (claimed_here p text x what is read)))

awaited : (p : Problem) (text : List ℕ) (x : CheckerOf) (what : Verdict) → x.part ≡ whole → Claims x.ledger what → Awaits p text x → IsProvedSoFar p text what
awaited p text x what all claims (inl title) =
    inr (inl (record { short = title.1; claims = subst (λ (l : LedgerOf). Claims l what) title.0.ledger claims }))
awaited p text x what all claims (inr event) =
    inr (inr (record {
      steps = event.0.steps;
      ledger = x.ledger;
      left = x.left;
      leads =
          subst (λ (q : PartOf). LeadsTo q p text event.0.steps x.ledger x.left) all event.0.leads;
      short = event.1;
      claims = claims;
    }))

here_true : (p : Problem) (l : LedgerOf) (what : Verdict) → IsProject p → IsSoundFor p l → Claims l what → IsTrueVerdict p what
here_true p l what is sound claims = subst (λ (q : Problem). IsTrueVerdict q what) sound.project (claim_true l what (rw sound.project is) sound.sound claims)

pub so_far_is_true : SoFarIsTrue
so_far_is_true p text what is (inl claimed) = claim_is_true p claimed.events what is claimed.right
so_far_is_true p text what is (inr (inl cut)) = here_true p (first_ledger p) what is (sound_first p) cut.claims
so_far_is_true p text what is (inr (inr cut)) =
    here_true p cut.ledger what is (sound_all p (first_ledger p) cut.ledger cut.steps (sound_first p)
    (whole_taken 0 (first_ledger p) cut.ledger cut.steps cut.leads.taken)) cut.claims
