-- A list of input streams is filled, place by place.
use Rattle.std.proofs.Common.{ℕ, ◌+◌, ◌≤◌, ◌<◌, ◌≡◌, ap, sym, ◌∙◌, arith, List, length, set, ext_get_or}
use Rattle.std.proofs.Math.Decide.{ℕ_discrete}
use Rattle.std.proofs.lemmas.List.{length-set, get_or-set_same, get_or-set_other, take_at}
use Rattle.std.specs.List.{refill}
use Rattle.paper.specs.Tables.{Plan}
use Rattle.paper.specs.Windows.{Inputs}
use Rattle.paper.specs.Sets.{inputs}
use Rattle.stream.specs.declared.model.EventModel.{EventModel}
use Rattle.plan.specs.Tables.{tabulate}
use Rattle.plan.specs.declared.tasks.Task.{Task}
use Rattle.plan.proofs.Rows.{length_tabulate, tabulate_at}
use Rattle.sweep.specs.declared.once.Figure.{Figure}
use Rattle.sweep.specs.Rows.{per_task, holding, stream_row, no_stream, bounds_of}
use Rattle.sweep.specs.Planned.{Bounding, Stands, stands_at, Filling, Filled}
use Rattle.sweep.proofs.Jitter.{some_period}

-- A task's stream that is put in its place stands there, and any other place is as it was.
put_at : (rows : List EventModel) (k : ℕ) (M : EventModel) → k < length rows → (A : ℕ → EventModel → Type 0) → A k M
    → ((j : ℕ) → A j (stands_at rows j)) → (j : ℕ) → A j (stands_at (set rows k M) j)
put_at rows k M l A own others j =
    elim (ℕ_discrete j k) [
      | yes same ↦ rw (same, get_or-set_same rows k M (holding no_stream) l) own
      | no other ↦ rw (get_or-set_other rows k j M (holding no_stream) other) (others j)
    ]

module _ {p : Plan} {S : Inputs} where
  -- A list with no stream in any place is being filled.
  pub filling_none : {n : ℕ} {rows : List EventModel} → n ≡ p.tasks → rows ≡ tabulate n (stream_row (λ k. no_stream))
      → Filling p S rows
  filling_none {n} {rows} done e =
      record {
        count = ap length e ∙ length_tabulate _ _ ∙ done;
        own = λ k h stands.
            let at : stands_at rows k ≡ holding no_stream =
            ap (λ rows. stands_at rows k) e ∙ tabulate_at n _ k _ (omega (arith, done)) in
            absurd (omega (arith, ap (λ (M : EventModel). M.period.0) at, stands));
      }

  -- Where a task's stream is put in its place, that is filled.
  put : {before rows : List EventModel} (k : ℕ) (M : EventModel) → k < p.tasks → Filling p S rows
      → ((j : ℕ) → Stands before j → Stands rows j) → M ≡ stream_row S k → 1 ≤ (S k).P → Filled p S k before (set rows k M)
  put {before} {rows} k M h filling kept own some =
      let l : k < length rows = omega (arith, filling.count) in
      let period : 1 ≤ M.period.0 = omega (arith, ap (λ (M : EventModel). M.period.0) own, some) in
      record {
        filling =
            record {
              count = length-set rows k M ∙ filling.count;
              own =
                  put_at rows k M l (λ j row. j < p.tasks → 1 ≤ row.period.0 → row ≡ stream_row S j) (λ h stands. own)
                  filling.own;
            };
        stands = rw (get_or-set_same rows k M (holding no_stream) l) period;
        kept =
            put_at rows k M l (λ j row. Stands before j → 1 ≤ row.period.0) (λ stands. period) kept;
      }

  -- A list in which a stream stands in each place is that of all tasks.
  pub filled_all : {rows : List EventModel} → Filling p S rows → ((k : ℕ) → k < p.tasks → Stands rows k)
      → rows ≡ per_task p (stream_row S)
  filled_all {rows} filling stands =
      ext_get_or (holding no_stream) rows _ (filling.count ∙ sym (length_tabulate _ _)) λ k l.
      let h : k < p.tasks = omega (arith, filling.count) in
      filling.own k h (stands k h) ∙ sym (tabulate_at p.tasks (stream_row S) k _ h)

-- The input stream of a task of the plan is put in its place.
pub filled_put : {p : Plan} {tasks : List Task} {bounds : List Figure} {before rows : List EventModel} (k : ℕ) (M : EventModel)
    → Bounding p tasks bounds → k < p.tasks → Filling p (inputs p (bounds_of bounds)) rows
    → ((j : ℕ) → Stands before j → Stands rows j) → M ≡ stream_row (inputs p (bounds_of bounds)) k
    → Filled p (inputs p (bounds_of bounds)) k before (set rows k M)
filled_put k M so h filling kept own = put k M h filling kept own (some_period so.planned.sound _ k h)

-- Rows that are lent come back as they are left, where they are as many.
pub handed_back : (rows new : List EventModel) → length new ≡ length rows → refill (length rows) rows new ≡ new
handed_back rows new same = take_at new _ (length rows) same

-- Streams that stand in the first k places still stand there, and the next one does, once that is filled.
pub stand_more : {p : Plan} {S : Inputs} {k : ℕ} {before rows : List EventModel} → ((j : ℕ) → j < k → Stands before j)
    → Filled p S k before rows → (j : ℕ) → j < k + 1 → Stands rows j
stand_more {k = k} so_far filled j l =
    elim (ℕ_discrete j k) [ yes same ↦ rw same filled.stands | no other ↦ filled.kept j (so_far j (omega arith)) ]
