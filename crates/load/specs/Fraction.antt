-- The load of a controller as one fraction of whole numbers: `on` says which tasks are on the controller, C gives their
-- costs and P their periods.
use Rattle.std.specs.Prelude.{ℕ, suc, ◌+◌, ◌*◌, ◌≤◌, ◌<◌, ◌≡◌, Bool, cond, not, ◌&&◌, List, eqb}
use Rattle.paper.specs.Words.{sum, product}
use Rattle.paper.specs.Limits.{most_sharing}
use Rattle.load.specs.Limbs.{base, power, number, Used}

-- The product of the periods of the controller's tasks, of those below n.
unfoldable pub denominator : (n : ℕ) (on : ℕ → Bool) (P : ℕ → ℕ) → ℕ
denominator n on P = product n (λ k. cond (on k) (P k) 1)

-- The sum of each such task's cost times the periods of the others.
unfoldable pub numerator : (n : ℕ) (on : ℕ → Bool) (C P : ℕ → ℕ) → ℕ
numerator n on C P = sum n (λ k. cond (on k) (C k * denominator n (λ j. on j && not (eqb j k)) P) 0)

-- So many tasks' fractions have been added to num/den: as many limbs count to no less than both together, and each of the
-- two uses at most one limb more.
pub record FewLimbs (added : ℕ) (num den : List ℕ) : Type 0 where
  pub num_used : Used (suc added) num
  pub den_used : Used (suc added) den
  pub fits : number num + number den ≤ power added

-- There is room for one more task's C/P.
pub record TaskRoom (added : ℕ) (C P : ℕ) : Type 0 where
  pub counted : added < most_sharing
  pub factors : P + C < base

-- What has become of num/den when C/P has been added to it.
pub record TaskAdded (num den : List ℕ) (C P : ℕ) (num_after den_after : List ℕ) : Type 0 where
  pub num_becomes : number num_after ≡ number num * P + number den * C
  pub den_becomes : number den_after ≡ number den * P
