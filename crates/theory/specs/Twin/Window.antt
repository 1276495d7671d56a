-- A window by computing: from a span to its demand, until the two are the same or the span is beyond the limit.
use Rattle.std.specs.Prelude.{ℕ, zero, suc, ◌+◌, ◌*◌, ◌≤◌, ◌<◌, cond, leb, eqb}
use Rattle.std.proofs.Math.Option.{Option, none, some}
use Rattle.std.proofs.Common.{leb-true, leb-false, eqb-true, arith}
use Rattle.std.proofs.lemmas.Bool.{eqb-false}
use Rattle.paper.specs.Limits.{most_ticks}
use Rattle.paper.specs.Windows.{Setting, Window}
use Rattle.theory.specs.Numbers.FixedPoints.{Rises, LeastFixed, Reached, reached_step, reached_done, reached_beyond}
use Rattle.theory.specs.Task.Demand.{demand, Proper, demand_rises, window_start}
use Rattle.theory.specs.Twin.Finding.{Says, choice}

-- The span that a search from t comes to, up to the limit `top`, in at most `fuel` steps.
unfoldable pub search : (F : ℕ → ℕ) (top fuel t : ℕ) → Option ℕ
search F top zero t = none
search F top (suc fuel) t =
    let next : ℕ = F t in
    let later : Option ℕ = search F top fuel next in
    let here : Option ℕ = cond (eqb next t) (some t) later in
    cond (leb t top) here none

-- With fuel enough, a search finds the least fixed span up to the limit.
pub search_says : {F : ℕ → ℕ} (top : ℕ) → Rises F → (fuel t : ℕ) → top < fuel + t → Reached F t
    → Says (λ b. LeastFixed F b × (b ≤ top)) (search F top fuel t)
unfolding search
search_says top rises zero t far r = λ b h. omega (arith, reached_beyond r h.0)
search_says {F} top rises (suc fuel) t far r =
    let Right : Option ℕ → Type 0 = Says (λ b. LeastFixed F b × (b ≤ top)) in
    choice Right (leb t top)
    (λ within.
    choice Right (eqb (F t) t)
    (λ same. (reached_done r (eqb-true _ _ same), leb-true _ _ within))
    (λ other. search_says top rises fuel (F t) (omega (arith, eqb-false (F t) t other)) (reached_step rises r)))
    (λ beyond b h. omega (arith, leb-false t top beyond, reached_beyond r h.0))

-- The window for q jobs, up to the limit.
unfoldable pub window : Setting → ℕ → Option ℕ
window k q = search (demand k q) most_ticks (suc most_ticks) (q * k.C+)

-- The window that is found is the window for q jobs, within limits; where none is found, there is none.
pub window_says : {k : Setting} → Proper k → (q : ℕ) → 1 ≤ q → Says (λ B. Window k q B × (B ≤ most_ticks)) (window k q)
unfolding window
window_says proper q a =
    search_says most_ticks (demand_rises proper q a) (suc most_ticks) _ (omega arith) (window_start proper q a)
