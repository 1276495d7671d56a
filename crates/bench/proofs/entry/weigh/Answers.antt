-- `weigh` asks for the lowest controller whose load is above one.
use Rattle.std.proofs.Common.{◌∙◌, refl}
use Rattle.bench.proofs.Tabling.{shared, shares_ranged, shares_few}
use Rattle.bench.proofs.entry.weigh.Goals as goal

-- The shares are in range,
pub lowest_overloaded-requires-clause-ranged : goal.lowest_overloaded-requires-clause-ranged
lowest_overloaded-requires-clause-ranged c =
    let (well, so) = c.requires in
    shares_ranged well (c.deref.ensures.0 ∙ c.shares_of.ensures _ so) c.head_of.ensures.controllers.0

-- and no controller has too many tasks.
pub lowest_overloaded-requires-clause-by_index : goal.lowest_overloaded-requires-clause-by_index
lowest_overloaded-requires-clause-by_index c =
    let (well, so) = c.requires in
    shares_few well (c.deref.ensures.0 ∙ c.shares_of.ensures _ so) c.head_of.ensures.controllers.0

-- A controller that is found is the lowest of the plan whose shares they are,
pub returns-in-Some : goal.returns-in-Some
returns-in-Some c =
    let (well, so) = c.requires in
    let says = c.lowest_overloaded.ensures _
    (shared well (c.deref.ensures.0 ∙ c.shares_of.ensures _ so) c.head_of.ensures.controllers.0) in
    (c.in-Some.controller, refl, rw c.in-Some.is at says)

-- and where none is found there is none.
pub returns-in-None : goal.returns-in-None
returns-in-None c =
    let (well, so) = c.requires in
    let says = c.lowest_overloaded.ensures _
    (shared well (c.deref.ensures.0 ∙ c.shares_of.ensures _ so) c.head_of.ensures.controllers.0) in
    rw c.in-None.is at says
