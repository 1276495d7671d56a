-- Paths: the finishes of the last task follow the activations of the first.
use Rattle.std.specs.Prelude.{ℕ, suc, ◌-◌, ◌<◌, ◌≡◌, List, [], ◌∷◌, length, get_or}
use Rattle.std.proofs.Common.{ap, add-zero, arith}
use Rattle.paper.specs.Tables.{Plan, fed}
use Rattle.paper.specs.Sets.{Bounds}
use Rattle.paper.specs.Report.{along}
use Rattle.paper.specs.Running.{Run, activations, finishes}
use Rattle.paper.specs.Kept.{first, last}
use Rattle.theory.specs.Streams.Follows.{Follows, follows_on}
use Rattle.theory.specs.Runs.Served.{activations_fed, finishes_counted}

-- The tasks of a path are linked.
pub record Linked (p : Plan) (path : List ℕ) : Type 0 where
  -- There is one,
  pub some : 0 < length path
  -- they are tasks of the plan,
  pub steps : (i : ℕ) → i < length path → get_or path i 0 < p.tasks
  -- and each is fed by the one before it.
  pub links : (i : ℕ) → suc i < length path → (p.task (get_or path (suc i) 0)).source ≡ fed (get_or path i 0)

-- Without the first of two or more, the tasks of a path stay linked,
rest_linked : (p : Plan) (k j : ℕ) (path : List ℕ) → Linked p (k ∷ j ∷ path) → Linked p (j ∷ path)
rest_linked p k j path l =
    record {
      some = omega arith;
      steps = λ i h. l.steps (suc i) (omega arith);
      links = λ i h. l.links (suc i) (omega arith);
    }

-- and the last one stays the last.
rest_last : (k j : ℕ) (path : List ℕ) → last (k ∷ j ∷ path) ≡ last (j ∷ path)
rest_last k j path =
    let e : suc (suc (length path)) - 1 ≡ suc (suc (length path) - 1) = omega arith in
    ap (λ i. get_or (k ∷ j ∷ path) i 0) e

-- Where every task's finishes follow its activations within C- and R+ ticks, the finishes of a path's last task follow the
-- activations of its first within the sums of C- and R+ along the path.
pub path_follows : (p : Plan) (R : Bounds) (r : Run) (T : ℕ)
    → ((k : ℕ) → k < p.tasks → Follows T (p.task k).C- (R k) (activations p r k) (finishes p r k))
    → (path : List ℕ) → Linked p path
    → Follows T (along path (λ k. (p.task k).C-)) (along path R) (activations p r (first path)) (finishes p r (last path))
unfolding along
path_follows p R r T follows [] l = absurd (omega (arith, l.some))
path_follows p R r T follows (k ∷ []) l =
    rw (add-zero (p.task k).C-, add-zero (R k)) (follows k (l.steps 0 (omega arith)))
path_follows p R r T follows (k ∷ j ∷ path) l =
    let rest = path_follows p R r T follows (j ∷ path) (rest_linked p k j path l) in
    rw (rest_last k j path)
    (follows_on (finishes_counted p r k) (finishes_counted p r (last (j ∷ path))) (follows k (l.steps 0 (omega arith)))
    (rw (activations_fed p r j k (l.links 0 (omega arith))) at rest))
