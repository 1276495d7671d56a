-- The look at a task's jobs: how it goes on, how it ends, and what its end says of the task's bound.
use Prim.Native.Nat.{ℕ, ◌+◌, ◌-◌, ◌≤◌, ◌<◌, max}
use mathlib.Core.Path.{◌≡◌, refl, ap, subst}
use native.Mathlib.Nat.{le_refl}
use native.Mathlib.Decide.{dec_le}
use native.Mathlib.Omega.{arith}
use Rattle.paper.specs.Limits.{most_ticks, most_jobs}
use Rattle.paper.specs.Streams.{d, delayed}
use Rattle.paper.specs.Windows.{Setting, Window, Ends, Delay, Bound, output, Bounded}
use Rattle.theory.specs.Numbers.Least.{least_one, least_of}
use Rattle.theory.specs.Numbers.Ranges.{Every}
use Rattle.theory.specs.Streams.Counting.{d_one}
use Rattle.bound.specs.Looking.{Seen, Over}
use Rattle.bound.specs.Answers.{Outside}

-- The look goes on: m jobs have been looked at, and none of them was the last to look at.
pub record Looking (k : Setting) (m R : ℕ) : Type 0 where
  pub seen : Seen k m R
  pub on : Every m (λ q. Ends k q → ⊥)

-- What each number from 1 to q - 1 has, and q has too, each from 1 to q has.
every_more : (A : ℕ → Type 0) (q : ℕ) → Every (q - 1) A → A q → Every q A
every_more A q each last i a l =
    elim (dec_le i (q - 1)) [ yes e ↦ each i a e | no e ↦ subst A (omega arith) last ]

module _ {k : Setting} where
  -- A delay of one of n jobs is one of n' jobs, where its job is among them.
  delay_among : {n n' ticks ticks' : ℕ} (y : Delay k n ticks) → y.q ≤ n' → ticks' ≡ ticks → Delay k n' ticks'
  delay_among y l e =
      record { q = y.q; first = y.first; last = l; B = y.B; window = y.window; is = omega arith }

  -- A delay at q is B(q) - d(q).
  delay_one : (q n B ticks : ℕ) → Window k q B → (y : Delay k n ticks) → y.q ≡ q → ticks ≡ B - d k.input q
  delay_one q n B ticks w y e =
      omega (arith, ap (d k.input) e, least_one (subst (λ q. Window k q y.B) e y.window) w)

  -- A window that is longer than d(q+1) does not end the look.
  ends_not : {q B : ℕ} → Window k q B → d k.input (q + 1) < B → Ends k q → ⊥
  ends_not w h e = omega (arith, least_one e.window w)

  -- Job q has been looked at too: the largest delay is the old one or that job's.
  seen_more : {q R B : ℕ} → 1 ≤ q → Seen k (q - 1) R → Window k q B → B ≤ most_ticks
      → Seen k q (max R (B - d k.input q))
  seen_more {q} {R} {B} first s w h =
      record {
        windows = every_more _ q s.windows (B, w, h);
        covers = λ ticks y.
            elim (dec_le y.q (q - 1)) [
              | yes l ↦ omega (arith, s.covers ticks (delay_among y l refl))
              | no l ↦ omega (arith, delay_one q q B ticks w y (omega arith))
            ];
        met = λ a.
            elim (dec_le R (B - d k.input q)) [
              | yes l ↦ record { q = q; first = first; last = le_refl _; B = B; window = w; is = omega arith }
              | no l ↦ let y = s.met (omega arith) in delay_among y (omega arith) (omega arith)
            ];
      }

  -- The look goes on after a window that is longer than d(q+1),
  pub looking_more : {q R B : ℕ} → 1 ≤ q → Looking k (q - 1) R → Window k q B → B ≤ most_ticks
      → d k.input (q + 1) < B → Looking k q (max R (B - d k.input q))
  looking_more {q} first p w h apart =
      record { seen = seen_more first p.seen w h; on = every_more _ q p.on (ends_not w apart) }

  -- and is over with one that is not.
  pub looking_last : {q R B : ℕ} → 1 ≤ q → q ≤ most_jobs → Looking k (q - 1) R → Window k q B → B ≤ most_ticks
      → B ≤ d k.input (q + 1) → Over k q (max R (B - d k.input q))
  looking_last {B = B} first few p w h apart =
      record {
        seen = seen_more first p.seen w h;
        jobs = least_of (first, record { B = B; window = w; apart = apart }) (λ i l e. p.on i e.0 (omega arith) e.1);
        few = few;
      }

  -- A task whose next window is not within limits leaves them,
  pub looking_beyond : {q R : ℕ} → 1 ≤ q → Looking k (q - 1) R → ((b : ℕ) → Window k q b → most_ticks < b) → Outside k
  looking_beyond {q} first p none R n b =
      let last = b.within.jobs.holds in
      elim (dec_le b.within.n (q - 1)) [
        | yes l ↦ p.on _ last.0 l last.1
        | no l ↦ let w = b.within.windows q first (omega arith) in omega (arith, none w.0 w.1)
      ]

  -- and so does one whose look goes on after as many jobs as the limit.
  pub looking_on : {R : ℕ} → Looking k most_jobs R → Outside k
  looking_on p R n b = let last = b.within.jobs.holds in p.on _ last.0 b.within.few last.1

  -- When the look is over, the largest B(q) - d(q) is the bound.
  over_bound : {n R : ℕ} → Over k n R → Bound k R n
  over_bound {n} {R} o =
      let some = o.jobs.holds.0 in
      let w = o.seen.windows 1 (le_refl _) some in
      let y : Delay k n (w.0 - d k.input 1) =
      record { q = 1; first = le_refl _; last = some; B = w.0; window = w.1; is = refl } in
      let above : 0 < R = omega (arith, o.seen.covers _ y, d_one k.input) in
      record { jobs = o.jobs; largest = record { holds = o.seen.met above; largest = o.seen.covers } }

  -- It is no larger than a window may be.
  pub over_small : {n R : ℕ} → Over k n R → R ≤ most_ticks
  over_small o =
      let y = (over_bound o).largest.holds in
      let w = o.seen.windows y.q y.first y.last in
      omega (arith, least_one y.window w.1)

  -- With both jitters within limits, it is the bound within limits.
  pub over_bounded : {n R : ℕ} → Over k n R → k.input.J ≤ most_ticks → (output k.C- k.input R).J ≤ most_ticks
      → Bounded k R n
  over_bounded {n} o jitter out =
      record {
        bound = over_bound o;
        within =
            record {
              input = jitter;
              outputs = out;
              n = n;
              jobs = o.jobs;
              few = o.few;
              windows = o.seen.windows;
            };
      }

  -- A task whose output jitter is not within limits leaves them.
  pub over_outside : {n R : ℕ} → Over k n R → most_ticks < (output k.C- k.input R).J → Outside k
  unfolding output delayed
  over_outside {n} {R} o h R' n' b =
      let e : n ≡ n' = least_one o.jobs b.bound.jobs in
      let y = (over_bound o).largest.holds in
      omega (arith, b.bound.largest.largest R (delay_among y (omega arith) refl))
