-- What pieces of a record of lemmas say of all that an input tells.
use Rattle.std.proofs.Common.{◌≡◌, ◌≢◌, ℕ, List, [], ◌++◌, Option, None, Some, sym, ap, ◌∙◌, subst, refl, append-nil, append_assoc}
use Rattle.std.specs.Io.KnownBytes.{Consumes, IsAtEnd}
use Rattle.network.specs.Problem.{Problem}
use Rattle.record_text.specs.declared.event_fault.EventFault.{EventFault}
use Rattle.record_text.specs.declared.event_fault.Wrong.TheVariants as wrong
use Rattle.lemma_record.specs.Faults.{IsFirstFault}
use Rattle.devices.specs.Faults.{event_fault_of, exit_of, wrong_fault}
use Rattle.verify_run.specs.declared.scope.Scope.{Scope}
use Rattle.verify_run.specs.Verified.{TellsEvent, part_in}
use Rattle.devices.proofs.TextLaws.{rest_left}

-- all was read
pub all_given : (old mid new : Option (List ℕ)) (front bytes : List ℕ) → Consumes old mid front → Consumes mid new []
    → IsAtEnd new → old ≡ Some bytes → front ≡ bytes
all_given None mid new front bytes p q end is = cc
all_given (Some xs) None new front bytes p q end is = absurd p
all_given (Some xs) (Some ys) None front bytes p q end is = absurd q
all_given (Some xs) (Some ys) (Some zs) front bytes p q end is =
    let same : xs ≡ bytes = cc in
    sym (sym same ∙ p ∙ ap (λ (rest : List ℕ). front ++ rest) (q ∙ end) ∙ append-nil front)

-- a fault that has a text of its own is not want of memory
pub no_memory : (cause : EventFault) → exit_of (event_fault_of cause) ≢ 1 → cause.wrong ≢ wrong.Memory
no_memory cause other memory = other (ap (λ w. exit_of (wrong_fault cause w)) memory)

-- the fault of a record that comes wherever it goes on, after a front and what was read then
pub tells_event : (scope : Scope) (p : Problem) (head : List ℕ) (old new : Option (List ℕ)) (front rest : List ℕ) (cause : EventFault)
    → Consumes old new front → old ≡ Some rest → exit_of (event_fault_of cause) ≢ 1 →
    (cause.wrong ≢ wrong.Memory → (more : List ℕ) → IsFirstFault (part_in scope) p ((head ++ front) ++ more) cause)
    → TellsEvent scope p (head ++ rest) (event_fault_of cause)
tells_event scope p head old new front rest cause given is other first =
    let left = rest_left old new front rest given is in
    let whole : (head ++ front) ++ left.0 ≡ head ++ rest =
    append_assoc head front left.0 ∙ ap (λ (r : List ℕ). head ++ r) (sym left.2) in
    record {
      cause = cause;
      first = subst (λ (text : List ℕ). IsFirstFault (part_in scope) p text cause) whole (first (no_memory cause other) left.0);
      told = refl;
    }

-- and the fault of its front
pub tells_head : (scope : Scope) (p : Problem) (head rest : List ℕ) (cause : EventFault) → exit_of (event_fault_of cause) ≢ 1
    → (cause.wrong ≢ wrong.Memory → (more : List ℕ) → IsFirstFault (part_in scope) p (head ++ more) cause)
    → TellsEvent scope p (head ++ rest) (event_fault_of cause)
tells_head scope p head rest cause other first = record { cause = cause; first = first (no_memory cause other) rest; told = refl }
