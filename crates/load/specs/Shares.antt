-- What the tasks of a plan add to the loads: each task's controller, its C+ and its period.
use Rattle.std.specs.Prelude.{ℕ, ◌≤◌, ◌<◌, ◌≡◌, Bool, List, length, ltb, eqb, get_or, Option, Some, None}
use Rattle.paper.specs.Words.{IsLeast}
use Rattle.paper.specs.Limits.{most_tasks, most_cost, most_ticks}
use Rattle.paper.specs.Tables.{Plan}
use Rattle.paper.specs.Load.{period, Overloaded}
use Rattle.stream.specs.declared.kinds.ControllerNo.{ControllerNo}
use Rattle.load.specs.declared.Share.{Share}
use Rattle.load.specs.Fraction.{denominator, numerator}

-- The share of a task that there is not.
abbrev pub no_share : Share
no_share = record { controller = record { 0 = 0 }; cost = record { 0 = 0 }; period = record { 0 = 0 } }

-- The share of task k.
abbrev pub share_of : List Share → ℕ → Share
share_of shares k = get_or shares k no_share

-- The C+ of task k, by the shares.
abbrev pub cost_in : List Share → ℕ → ℕ
cost_in shares k = (share_of shares k).cost.0

-- The period of task k, by the shares.
abbrev pub period_in : List Share → ℕ → ℕ
period_in shares k = (share_of shares k).period.0

-- Whether task k is on controller c, by the shares.
abbrev pub on_in : List Share → ℕ → ℕ → Bool
on_in shares c k = eqb (share_of shares k).controller.0 c

-- Whether the load of controller c is above one, by the shares.
abbrev pub is_above_one : List Share → ℕ → Bool
is_above_one shares c =
    ltb (denominator (length shares) (on_in shares c) (period_in shares))
    (numerator (length shares) (on_in shares c) (cost_in shares) (period_in shares))

-- There are no more tasks, and no larger costs and periods, than a plan may have.
pub record Ranged (shares : List Share) : Type 0 where
  pub few : length shares ≤ most_tasks
  pub costs : (k : ℕ) → k < length shares → cost_in shares k ≤ most_cost
  pub ticks : (k : ℕ) → k < length shares → period_in shares k ≤ most_ticks

-- The shares are those of a plan's tasks.
pub record Shares (p : Plan) (controllers : ℕ) (shares : List Share) : Type 0 where
  pub controllers_are : p.controllers ≡ controllers
  pub tasks_are : p.tasks ≡ length shares
  pub controller_of : (k : ℕ) → k < length shares → (share_of shares k).controller.0 ≡ (p.task k).controller
  pub cost_of : (k : ℕ) → k < length shares → cost_in shares k ≡ (p.task k).C+
  pub period_is : (k : ℕ) → k < length shares → period_in shares k ≡ period p k

-- What an answer says of a plan: the lowest controller whose load is above one, or that there is none.
abbrev pub Says : Plan → Option ControllerNo → Type 0
Says p (Some c) = IsLeast (Overloaded p) c.0
Says p None = (c : ℕ) → Overloaded p c → ⊥
