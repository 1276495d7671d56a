-- "Load of a controller: the sum of C+/P over its tasks, exactly", compared with one in whole numbers.
use Rattle.std.specs.Prelude.{ℕ, ◌*◌, ◌<◌, Bool, cond, not, ◌&&◌, eqb}
use Rattle.paper.specs.Words.{sum, product}
use Rattle.paper.specs.Tables.{Source, outside, fed, Plan}
use Rattle.paper.specs.Refusals.{back}

-- The period of a source from outside (0 where it is fed).
unfoldable pub period_of : Source → ℕ
period_of (outside M) = M.P
period_of (fed j) = 0

-- A task's period: "P being that of the outside stream at the chain's start".
unfoldable pub period : Plan → ℕ → ℕ
period p k = period_of (p.task (back p p.tasks k)).source

-- Whether task k is on controller c.
abbrev pub on : Plan → ℕ → ℕ → Bool
on p c k = eqb (p.task k).controller c

-- The product of the periods of a controller's tasks.
unfoldable pub periods : Plan → ℕ → ℕ
periods p c = product p.tasks (λ k. cond (on p c k) (period p k) 1)

-- The product of the periods of a controller's tasks other than k.
unfoldable pub other_periods : Plan → ℕ → ℕ → ℕ
other_periods p c k = product p.tasks (λ j. cond (on p c j && not (eqb j k)) (period p j) 1)

-- "add up each task's C+ times the periods of the controller's other tasks"
unfoldable pub work : Plan → ℕ → ℕ
work p c = sum p.tasks (λ k. cond (on p c k) ((p.task k).C+ * other_periods p c k) 0)

-- 12: "the load is above one when that sum is above the product of all their periods".
pub record Overloaded (p : Plan) (c : ℕ) : Type 0 where
  pub counted : c < p.controllers
  pub above_one : periods p c < work p c
