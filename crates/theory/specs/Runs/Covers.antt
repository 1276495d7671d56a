-- What is asked of a set of bounds for no run to break it: inequalities in place of the equations.
use Rattle.std.specs.Prelude.{ℕ, ◌≤◌, ◌<◌, ◌≡◌}
use Rattle.std.proofs.Common.{arith}
use Rattle.paper.specs.Tables.{Plan}
use Rattle.paper.specs.Windows.{Inputs, setting}
use Rattle.paper.specs.Sets.{Bounds, stream_of}
use Rattle.theory.specs.Plans.Sound.{Sound}
use Rattle.theory.specs.Streams.Counting.{d_one}
use Rattle.theory.specs.Task.Demand.{Inequalities}

-- Task k's bound covers its windows, over the input streams S.
pub record Covered (p : Plan) (S : Inputs) (R : Bounds) (k : ℕ) : Type 0 where
  -- The task's input stream is its source's,
  pub input : S k ≡ stream_of p R S (p.task k).source
  -- and has a period.
  pub period : 1 ≤ (S k).P
  -- For some number of jobs looked at,
  pub n : ℕ
  -- the bound says its inequalities.
  pub says : Inequalities (setting p S k) (R k) n

-- A set of bounds covers the windows of every task.
abbrev pub Covers : Plan → Inputs → Bounds → Type 0
Covers p S R = (k : ℕ) → k < p.tasks → Covered p S R k

module _ (p : Plan) (S : Inputs) (R : Bounds) (sound : Sound p) (k : ℕ) (counted : k < p.tasks) (c : Covered p S R k) where
  -- A bound that covers is at least C-.
  pub bound_least : (p.task k).C- ≤ R k
  bound_least =
      omega (
        arith,
        c.says.holds 1 (omega arith) c.says.some,
        c.says.within 1 (omega arith) c.says.some,
        d_one (S k),
        sound.costs k counted,
      )
