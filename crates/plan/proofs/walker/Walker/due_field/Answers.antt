-- `due_field` judges the field that is due.
use Rattle.std.proofs.Common.{ℕ, zero, suc, ◌+◌, ◌-◌, ◌≡◌, refl, cond, ltb, sub-one, lt-ltb, le-ltb}
use Rattle.paper.specs.Bytes.{Bytes}
use Rattle.paper.specs.Fields.{due_field, controllers_of, tasks_of, controller_field, task_field, path_field}
use Rattle.plan.proofs.walker.Walker.due_field.Goals as goal

-- What is due after the head, by the number of fields that come before it there.
after_head : (s : Bytes) (f at : ℕ) → (f ≡ 0 → ⊥) →
    due_field s f at
    ≡ cond (ltb (f - 1) (controllers_of s))
    (controller_field s at (f - 1))
    (cond (ltb (f - 1) (controllers_of s + tasks_of s)) (task_field s at) (path_field s at))
unfolding due_field
after_head s zero at some = absurd (some refl)
after_head s (suc f) at some = rw sub-one

-- The head is due first.
pub returns-then-f-eq0 : goal.returns-then-f-eq0
unfolding due_field
returns-then-f-eq0 c = rw (c.head_field.ensures, c.if-f-eq0.true)

-- Then the controllers,
pub returns-then-after-count : goal.returns-then-after-count
returns-then-after-count c =
    rw (
      c.controller_field.ensures,
      after_head _ _ _ c.if-f-eq0.false,
      ← c.head_of-count.ensures.controllers.0,
      lt-ltb _ _ c.if-after-count.true,
    )

-- then the tasks,
pub returns-then-after-count-2 : goal.returns-then-after-count-2
returns-then-after-count-2 c =
    rw (
      c.task_field.ensures,
      after_head _ _ _ c.if-f-eq0.false,
      ← c.head_of-count.ensures.controllers.0,
      le-ltb _ _ c.if-after-count.false,
      ← c.head_of-count.ensures.tasks.0,
      lt-ltb _ _ c.if-after-count-2.true,
    )

-- and then the paths.
pub returns-else-after-count-2 : goal.returns-else-after-count-2
returns-else-after-count-2 c =
    rw (
      c.path_field.ensures,
      after_head _ _ _ c.if-f-eq0.false,
      ← c.head_of-count.ensures.controllers.0,
      le-ltb _ _ c.if-after-count.false,
      ← c.head_of-count.ensures.tasks.0,
      le-ltb _ _ c.if-after-count-2.false,
    )
