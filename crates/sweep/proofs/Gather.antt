-- Gathering a task's rivals one by one: what they interfere adds up, and there is room for all of them.
use Rattle.std.proofs.Common.{ℕ, suc, ◌+◌, ◌*◌, ◌≤◌, ◌<◌, ◌≡◌, refl, sym, ap, ◌∙◌, arith, add-one, le_refl, le_trans, eq-eqb, le-ltb}
use Rattle.std.proofs.Common.{Bool, true, false, cond, ◌&&◌, eqb, ltb, List, [], ◌∷◌, ◌++◌, length, get_or}
use Rattle.std.proofs.lemmas.List.Sums.{sum_by_push}
use Rattle.std.proofs.lemmas.List.{length_push}
use Rattle.paper.specs.Words.{sum, count}
use Rattle.paper.specs.Limits.{most_sharing}
use Rattle.paper.specs.Tables.{Plan}
use Rattle.paper.specs.Streams.{most_events}
use Rattle.paper.specs.Windows.{Inputs, rival}
use Rattle.theory.specs.Plans.Sound.{Ranged}
use Rattle.theory.specs.Numbers.Sums.{rises, sum_more}
use Rattle.stream.specs.Model.{model_of}
use Rattle.stream.specs.declared.kinds.Ticks.{Ticks}
use Rattle.stream.specs.declared.model.EventModel.{EventModel}
use Rattle.bound.specs.declared.setting.Rival.{Rival}
use Rattle.bound.specs.Setting.{work_of, interference_of}
use Rattle.plan.specs.declared.tasks.Task.{Task}
use Rattle.sweep.specs.Planned.{Planned, Streaming}
use Rattle.sweep.proofs.Rows.{row_is, stream_is}

-- A rival is one of those on the controller.
rival_shares : (a b : Bool) → cond (a && b) 1 0 ≤ cond a 1 0
rival_shares true true = le_refl 1
rival_shares true false = omega arith
rival_shares false b = le_refl 0

-- A task has fewer rivals than tasks may share a controller: it is on the controller itself, and no rival of its own.
rivals_few : (p : Plan) (k : ℕ) → Ranged p → k < p.tasks → count p.tasks (rival p k) < most_sharing
unfolding count rival
rivals_few p k ranged h =
    let c = (p.task k).controller in
    let own : cond (rival p k k) 1 0 < cond (eqb c c) 1 0 =
    rw (eq-eqb c c refl, le-ltb (p.task k).priority (p.task k).priority (le_refl _)) (omega arith) in
    le_trans (sum_more p.tasks _ _ (λ j l. rival_shares (eqb (p.task j).controller c) _) k h own)
    (ranged.sharing c (ranged.controller k h))

-- A task more counts if it passes the test.
count_next : (f : ℕ → Bool) (n : ℕ) → count (suc n) f ≡ count n f + cond (f n) 1 0
unfolding count sum
count_next f n = refl

-- Among more tasks as many pass a test or more.
count_grows : (f : ℕ → Bool) (m n : ℕ) → m ≤ n → count m f ≤ count n f
count_grows f = rises (λ n. count n f) (λ n. omega (arith, count_next f n))

-- What the rows tell of a rival is what the plan says.
pub rival_told : {p : Plan} {tasks : List Task} {told b : Bool} (k j : ℕ) (d e : Task) → Planned p tasks → k < p.tasks → j < p.tasks
    → told
    ≡ (eqb (get_or tasks j d).controller.0 (get_or tasks k e).controller.0
    && ltb (get_or tasks j d).priority (get_or tasks k e).priority)
    → told ≡ b → rival p k j ≡ b
unfolding rival
rival_told k j d e so h l told is = sym (rw (row_is so j d l, row_is so k e h) at told) ∙ is

-- Of the tasks below j, task k's rivals are gathered.
pub record Gathered (p : Plan) (S : Inputs) (k j : ℕ) (rivals : List Rival) : Type 0 where
  pub counts : length rivals ≡ count j (rival p k)
  pub interfere : (t : ℕ) → interference_of rivals t ≡ sum j (λ i. cond (rival p k i) (most_events (S i) t * (p.task i).C+) 0)

-- Of no tasks no rivals are gathered.
pub gathered_none : {p : Plan} {S : Inputs} {k : ℕ} → Gathered p S k 0 []
unfolding count sum interference_of
gathered_none = record { counts = refl; interfere = λ t. refl }

module _ {p : Plan} {S : Inputs} {tasks : List Task} {inputs : List EventModel} (so : Streaming p S tasks inputs) {k j : ℕ}
    {rivals : List Rival} (far : Gathered p S k j rivals) where
  -- A task that is no rival adds nothing.
  pub gathered_skip : rival p k j ≡ false → Gathered p S k (j + 1) rivals
  unfolding sum
  gathered_skip e =
      record {
        counts = rw (add-one j, count_next (rival p k) j, e) (omega (arith, far.counts));
        interfere = λ t. rw (add-one j, e) (omega (arith, far.interfere t));
      }

  module _ (h : k < p.tasks) (l : j < p.tasks) (e : rival p k j ≡ true) where
    -- There is room for a rival.
    pub gathered_room : length rivals < most_sharing
    gathered_room =
        omega (
          arith,
          far.counts,
          rw e at (count_next (rival p k) j),
          count_grows (rival p k) (suc j) p.tasks l,
          rivals_few p k so.planned.ranged h,
        )

    -- A rival adds what it interferes.
    pub gathered_put : (d : EventModel) (c : Task) (r : Rival) → r.input ≡ get_or inputs j d → r.cost ≡ (get_or tasks j c).most
        → Gathered p S k (j + 1) (rivals ++ r ∷ [])
    unfolding sum interference_of
    gathered_put d c r input cost =
        let stream : model_of r.input ≡ S j = ap (λ (m : EventModel). model_of m) (input ∙ stream_is so j d l) in
        let most : r.cost.0 ≡ (p.task j).C+ =
        ap (λ (n : Ticks). n.0) cost ∙ ap (λ (t : Task). t.most.0) (row_is so.planned j c l) in
        let work : (t : ℕ) → work_of t r ≡ most_events (S j) t * (p.task j).C+ = λ t. rw (stream, most) in
        record {
          counts = rw (add-one j, count_next (rival p k) j, e, length_push) (omega (arith, far.counts));
          interfere = λ t. rw (add-one j, e, sum_by_push (work_of t) rivals r) (omega (arith, far.interfere t, work t));
        }
