-- `EventModel::most_events` gives the most events in a span of t ticks.
use Rattle.std.proofs.Common.{ℕ, zero, suc, ◌+◌, ◌≡◌, refl, sym}
use Rattle.paper.specs.Streams.{Stream, most_events, rounded_up}
use Rattle.stream.proofs.model.EventModel.most_events.Goals as goal

-- The most events in a span that is not empty.
most : (M : Stream) (t : ℕ) → (t ≡ 0 → ⊥) → most_events M t ≡ rounded_up (t + M.J) M.P
unfolding most_events
most M zero some = absurd (some refl)
most M (suc t) some = refl

-- An empty span has no events.
pub returns-then-t-eq0 : goal.returns-then-t-eq0
unfolding most_events
returns-then-t-eq0 c = rw c.if-t-eq0.true

-- Any other span has the quotient rounded up.
pub returns : goal.returns
unfolding rounded_up
returns c = sym (most _ _ c.if-t-eq0.false)
