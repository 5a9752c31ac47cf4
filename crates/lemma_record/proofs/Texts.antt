-- Bytes begin with one event, and are the text of one log.
use Rattle.std.proofs.Common.{◌≡◌, ℕ, List, ◌++◌, Result, Ok, sym, ap, ◌∙◌, subst}
use Rattle.lemma_log.specs.declared.event.Event.{Event}
use Rattle.lemma_log.specs.declared.event.Event.TheVariants as event
use Rattle.network.specs.declared.verdict.Verdict.{Verdict}
use Rattle.lemma_log.specs.declared.fault.DecodeFault.{DecodeFault}
use Rattle.lemma_log.specs.Numbers.{Part}
use Rattle.lemma_log.specs.Text.{title_text}
use Rattle.lemma_log.specs.Reading.{read_in}
use Rattle.lemma_record.specs.Right.{IsStep}

-- bytes begin with one event
same_part : (r : Result (Part Event) DecodeFault) (p q : Part Event) → r ≡ Ok p → r ≡ Ok q → p ≡ q
same_part r p q h k = cc

pub same_event : (bytes left rest : List ℕ) (e f : Event) → read_in bytes ≡ Ok (record { value = e; left = left })
    → read_in bytes ≡ Ok (record { value = f; left = rest }) → e ≡ f
same_event bytes left rest e f h k = ap (λ (p : Part Event). p.value)
    (same_part (read_in bytes) (record { value = e; left = left }) (record { value = f; left = rest }) h k)

pub same_left : (bytes left rest : List ℕ) (e f : Event) → read_in bytes ≡ Ok (record { value = e; left = left })
    → read_in bytes ≡ Ok (record { value = f; left = rest }) → left ≡ rest
same_left bytes left rest e f h k = ap (λ (p : Part Event). p.left)
    (same_part (read_in bytes) (record { value = e; left = left }) (record { value = f; left = rest }) h k)

pub no_step : (e : Event) (c : Verdict) → e ≡ event.Claim c → IsStep e → ⊥
no_step e c is step = subst IsStep is step

pub same_body : (text a b : List ℕ) → text ≡ title_text ++ a → text ≡ title_text ++ b → a ≡ b
same_body text a b h k = cancelled (sym h ∙ k)
  where
    cancelled : title_text ++ a ≡ title_text ++ b → a ≡ b
    cancelled is = cc
