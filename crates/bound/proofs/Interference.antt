-- The interference of a task's rivals: it grows with the span, and it is small, so that every sum and product on the way to
-- it fits.
use Rattle.std.proofs.Common.{ℕ, ◌≤◌, ◌^◌, List, length, get_or, mul-le-mul, arith}
use Rattle.std.proofs.Math.Nat.{mul-le-mul_right}
use Rattle.std.proofs.lemmas.List.Sums.{sum_by-le, sum_by-le-sum_by}
use Rattle.paper.specs.Limits.{most_ticks, most_sharing}
use Rattle.theory.specs.Streams.Counting.{few, milder_refl, most_events_grows}
use Rattle.theory.specs.Task.Demand.{Proper}
use Rattle.stream.specs.Model.{model_of}
use Rattle.bound.specs.declared.setting.Own.{Own}
use Rattle.bound.specs.declared.setting.Rival.{Rival}
use Rattle.bound.specs.Setting.{work_of, interference_of, setting_of}

-- In a longer span a rival has as much work or more,
work_grows : (s t : ℕ) → s ≤ t → (r : Rival) → work_of s r ≤ work_of t r
work_grows s t h r =
    mul-le-mul_right _ (most_events_grows (model_of r.input) (model_of r.input) s t (milder_refl _) h)

-- and the setting of a task is proper.
pub proper : (own : Own) (rivals : List Rival) → Proper (setting_of own rivals)
unfolding interference_of
proper own rivals =
    record {
      cost = own.some_cost;
      longer = λ s t h. sum_by-le-sum_by (work_of s) (work_of t) rivals (work_grows s t h);
    }

-- The work of a rival in t ticks is at most 2^58 ticks,
pub work_small : (t : ℕ) → t ≤ most_ticks → (r : Rival) → work_of t r ≤ 2 ^ 58
work_small t short r =
    mul-le-mul {n₂ = 2 ^ 38} {m₂ = 2 ^ 20}
    (omega (arith, few (model_of r.input) t r.recurring, r.jitter_in_range))
    (omega (arith, r.cost_in_range))

-- and the interference of as many rivals as may share a controller fits.
pub interference_fits : (t : ℕ) → t ≤ most_ticks → (rivals : List Rival) → length rivals ≤ most_sharing
    → interference_of rivals t ≤ 2 ^ 62
unfolding interference_of
interference_fits t short rivals few =
    omega (arith, sum_by-le (work_of t) (2 ^ 58) rivals (λ k d h. work_small t short (get_or rivals k d)))
