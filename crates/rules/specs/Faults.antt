-- The refusals that the tables give, 7 to 10, as tests, and the lowest number where a test finds something wrong.
use Rattle.std.specs.Prelude.{ℕ, zero, suc, ◌+◌, ◌-◌, ◌<◌, ◌≡◌, List, Result, Bool, cond, not, ◌&&◌, ltb, eqb, length, get_or}
use Rattle.paper.specs.Words.{any, count}
use Rattle.paper.specs.Limits.{most_sharing}
use Rattle.paper.specs.Fields.{Judged, passed, ◌and_then◌, unless}
use Rattle.plan.specs.declared.refusal.Refusal.{Refusal}
use Rattle.plan.specs.Judged.{said}

-- A refusal at the lowest number below n where something is wrong.
unfoldable pub lowest : ℕ → (ℕ → Bool) → ℕ → Judged
lowest refusal wrong zero = passed
lowest refusal wrong (suc n) = lowest refusal wrong n and_then unless (not (wrong n)) refusal n

-- What a judge says at the numbers below n is a refusal where something is wrong, and nothing where not.
abbrev pub RefusesBy : (refusal : ℕ) (wrong : ℕ → Bool) (n : ℕ) → (ℕ → Result (Unit {0}) Refusal → Type 0) → Type 0
RefusesBy refusal wrong n Says =
    (k : ℕ) (judged : Result (Unit {0}) Refusal) → k < n → Says k judged → said judged ≡ unless (not (wrong k)) refusal k

-- 7: whether task k shares its controller and its priority with a lower-numbered one.
unfoldable pub shares : (controller priority : ℕ → ℕ) → ℕ → Bool
shares controller priority k = any k (λ j. eqb (controller j) (controller k) && eqb (priority j) (priority k))

-- The task m steps back from k, from feeder to feeder.
unfoldable pub back_from : (fed : ℕ → Bool) (feeder : ℕ → ℕ) → ℕ → ℕ → ℕ
back_from fed feeder zero k = k
back_from fed feeder (suc m) k = back_from fed feeder m (cond (fed k) (feeder k) k)

-- 8: whether as many steps back as there are tasks still end at a fed task.
unfoldable pub endless : (fed : ℕ → Bool) (feeder : ℕ → ℕ) → ℕ → ℕ → Bool
endless fed feeder tasks k = fed (back_from fed feeder tasks k)

-- 9: whether a task of a path is not fed by the one before it.
unfoldable pub broken : (fed : ℕ → Bool) (feeder : ℕ → ℕ) → List ℕ → Bool
broken fed feeder path =
    any (length path - 1) (λ i. not (fed (get_or path (i + 1) 0) && eqb (feeder (get_or path (i + 1) 0)) (get_or path i 0)))

-- 10: whether controller c has more tasks than are allowed.
unfoldable pub crowded : (controller : ℕ → ℕ) → ℕ → ℕ → Bool
crowded controller tasks c = ltb most_sharing (count tasks (λ k. eqb (controller k) c))
