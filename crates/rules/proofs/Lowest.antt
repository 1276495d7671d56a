-- The lowest number where something is wrong decides.
use Rattle.std.proofs.Common.{ℕ, zero, suc, ◌+◌, ◌-◌, ◌<◌, ◌≡◌, add-zero, add-one, add-suc, arith, Bool, not}
use Rattle.paper.specs.Fields.{passed, refused, unless}
use Rattle.plan.proofs.Chain.{chain}
use Rattle.rules.specs.Faults.{lowest}

module _ (refusal : ℕ) (wrong : ℕ → Bool) where
  -- Where nothing is wrong below k, nor at k, nothing is below k + 1.
  pub lowest_more : (k : ℕ) → lowest refusal wrong k ≡ passed → passed ≡ unless (not (wrong k)) refusal k
      → lowest refusal wrong (k + 1) ≡ passed
  unfolding lowest
  lowest_more k before here = rw (add-one k, before, ← here) (simp chain)

  -- What is refused below n is refused below more.
  lowest_stays : (n more m p : ℕ) → lowest refusal wrong n ≡ refused m p → lowest refusal wrong (n + more) ≡ refused m p
  unfolding lowest
  lowest_stays n zero m p e = rw add-zero e
  lowest_stays n (suc more) m p e = rw (add-suc, lowest_stays n more m p e) (simp chain)

  -- Where nothing is wrong below k, what is refused at k is refused below n.
  pub lowest_here : (k n m p : ℕ) → lowest refusal wrong k ≡ passed → refused m p ≡ unless (not (wrong k)) refusal k → k < n
      → refused m p ≡ lowest refusal wrong n
  unfolding lowest
  lowest_here k n m p before here h =
      let all : n ≡ suc k + (n - suc k) = omega arith in
      rw (all, lowest_stays (suc k) (n - suc k) m p (rw (before, ← here) (simp chain)))
