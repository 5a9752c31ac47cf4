-- Whole lists of events.
use Rattle.std.specs.Prelude.{◌≡◌, true, List, [], ◌∷◌}
use Rattle.book.specs.State.{BookState}
use Rattle.book.specs.Steps.{Offers, Takes, ChecksIn, GivesBack}
use Rattle.book.specs.declared.events.Request.{Request}
use Rattle.book.specs.declared.events.Request.TheVariants.{Take, CheckIn, GiveBack, Offer, Halt}
pub use Rattle.book.specs.declared.events.Response.{Response}
use Rattle.book.specs.declared.events.Response.TheVariants.{Taken, CheckedIn, GivenBack, Offered, Halted}

-- the event has this reply, and leads from the one state to the other
abbrev pub Step : BookState → Request → Response → BookState → Type 0
Step old (Take worker) (Taken answer) new = Takes old worker answer new
Step old (CheckIn name report) (CheckedIn answer) new = ChecksIn old name report answer new
Step old (GiveBack name) (GivenBack answer) new = GivesBack old name answer new
Step old (Offer schedule) (Offered answer) new = Offers old schedule answer new
Step old Halt Halted new = new ≡ record old { halted = true }
-- no event has a reply of another kind
Step old event reply new = ⊥

-- the events have these replies, one step after the other
abbrev pub Run : BookState → List Request → List Response → BookState → Type 0
Run old [] [] new = new ≡ old
Run old (event ∷ events) (reply ∷ replies) new =
    (between : BookState) × Step old event reply between × Run between events replies new
Run old [] (reply ∷ replies) new = ⊥
Run old (event ∷ events) [] new = ⊥
