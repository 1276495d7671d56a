-- The tables' rows: what stands at a number, and that they tell a plan's tasks.
use Rattle.std.proofs.Common.{ℕ, zero, suc, ◌+◌, ◌<◌, ◌≤◌, ◌≡◌, min, arith, refl, ap, ◌∙◌, List, [], ◌∷◌, ◌++◌, length, get_or, add-one}
use Rattle.paper.specs.Limits.{most_tasks}
use Rattle.paper.specs.Tables as Tables
use Rattle.paper.specs.Tables.{Plan, outside, fed}
use Rattle.plan.specs.declared.tasks.Source.{Source}
use Rattle.plan.specs.declared.tasks.Source.TheVariants.{Outside, Fed}
use Rattle.plan.specs.declared.tasks.Task.{Task}
use Rattle.plan.specs.Tables.{tabulate, source_of, source_row, task_of, row_of, blank, task_rows, Told}

module _ {A : Type 0} where
  -- A table of n places has n places.
  pub length_tabulate : (n : ℕ) (f : ℕ → A) → length (tabulate n f) ≡ n
  unfolding tabulate
  length_tabulate zero f = refl
  length_tabulate (suc n) f = ap suc (length_tabulate n (λ k. f (suc k)))

  -- At each place of a table stands f.
  pub tabulate_at : (n : ℕ) (f : ℕ → A) (k : ℕ) (d : A) → k < n → get_or (tabulate n f) k d ≡ f k
  unfolding tabulate
  tabulate_at zero f k d h = absurd (omega arith)
  tabulate_at (suc n) f zero d h = refl
  tabulate_at (suc n) f (suc k) d h = tabulate_at n (λ k. f (suc k)) k d (omega arith)

  -- A table with one place more has that place last.
  pub tabulate_more : (n : ℕ) (f : ℕ → A) → tabulate (suc n) f ≡ tabulate n f ++ f n ∷ []
  unfolding tabulate
  tabulate_more zero f = refl
  tabulate_more (suc n) f = ap (λ rest. f zero ∷ rest) (tabulate_more n (λ k. f (suc k)))

  -- The next value goes last in a table.
  pub tabulated : (f : ℕ → A) {n : ℕ} {xs : List A} {x : A} → xs ≡ tabulate n f → x ≡ f n → xs ++ x ∷ [] ≡ tabulate (n + 1) f
  tabulated f {n} e g = rw (add-one n, tabulate_more n f, e, g)

-- A source is the one that its row holds,
source_held : (source : Tables.Source) → source_of (source_row source) ≡ source
source_held (outside M) = refl
source_held (fed j) = refl

-- and the row is the one of the source that it holds.
source_kept : (source : Source) → source_row (source_of source) ≡ source
source_kept (Outside M) = refl
source_kept (Fed j) = refl

-- A task is the one that its row holds,
pub task_held : (t : Tables.Task) → task_of (row_of t) ≡ t
task_held t = ap (λ (source : Tables.Source). record t { source = source }) (source_held t.source)

-- and the row is the one of the task that it holds.
pub task_kept : (t : Task) → row_of (task_of t) ≡ t
task_kept t = ap (λ (source : Source). record t { source = source }) (source_kept t.source)

-- The rows of a plan that there is room for tell its tasks.
pub told : (p : Plan) → p.tasks ≤ most_tasks → Told p (task_rows p)
unfolding task_rows
told p room =
    let all : min p.tasks most_tasks ≡ p.tasks = omega arith in
    record {
      count = length_tabulate _ _ ∙ all;
      tasks = λ k h.
          ap (λ (t : Task). task_of t) (tabulate_at _ (λ k. row_of (p.task k)) k blank (omega (arith, all))) ∙ task_held (p.task k);
    }
