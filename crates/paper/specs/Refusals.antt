-- "When the bench says no": refusals 1 to 6, which reading gives, and 7 to 10, which the tables give.
use Rattle.std.specs.Prelude.{ℕ, zero, suc, ◌+◌, ◌≤◌, ◌<◌, ◌≡◌, ◌⊎◌, List, [], ◌∷◌, leb, eqb, length, get_or}
use Rattle.paper.specs.Words.{IsLeast, count}
use Rattle.paper.specs.Limits.{plan_bytes, most_sharing}
use Rattle.paper.specs.Bytes.{Bytes}
use Rattle.paper.specs.Fields.{Judged, passed, ◌and_then◌, unless, place, due_fields, fields}
use Rattle.paper.specs.Tables.{Source, outside, fed, Plan, path_place, plan_of}

-- "1; then field by field; then 6": a plan that is too long, the first fault of the due fields, bytes after the last one.
unfoldable pub read : Bytes → Judged
read s =
    unless (leb (length s) plan_bytes) 1 0
    and_then fields s (due_fields s)
    and_then unless (leb (length s) (place s (due_fields s))) 6 (place s (due_fields s))

-- 7: "two tasks on one controller share a priority": task k shares with a lower-numbered one.
pub record Sharing (p : Plan) (k : ℕ) : Type 0 where
  pub counted : k < p.tasks
  pub other : ℕ
  pub lower : other < k
  pub controller : (p.task other).controller ≡ (p.task k).controller
  pub priority : (p.task other).priority ≡ (p.task k).priority

-- The task one step back from k: the feeder of a fed task, the task itself where it is fed from outside.
unfoldable pub feeder : Source → ℕ → ℕ
feeder (outside M) k = k
feeder (fed j) k = j

-- The task m steps back from k.
unfoldable pub back : Plan → ℕ → ℕ → ℕ
back p zero k = k
back p (suc m) k = back p m (feeder (p.task k).source k)

-- Whether a source is from outside, as that of a 20 is.
abbrev pub FromOutside : Source → Type 0
FromOutside (outside M) = Unit {0}
FromOutside (fed j) = ⊥

-- 8: "going back from feeder to feeder never reaches a 20".
pub record Endless (p : Plan) (k : ℕ) : Type 0 where
  pub counted : k < p.tasks
  pub never : (m : ℕ) → FromOutside (p.task (back p m k)).source → ⊥

-- 9: "a path's task is not fed by the one before it".
pub record Broken (p : Plan) (q : ℕ) : Type 0 where
  pub counted : q < p.paths
  pub step : ℕ
  pub inside : step + 1 < length (p.path q)
  pub unfed : (p.task (get_or (p.path q) (step + 1) 0)).source ≡ fed (get_or (p.path q) step 0) → ⊥

-- 10: "more than 16 tasks on a controller".
pub record Crowded (p : Plan) (c : ℕ) : Type 0 where
  pub counted : c < p.controllers
  pub many : most_sharing < count p.tasks (λ k. eqb (p.task k).controller c)

-- A refusal that the tables give: its number, and what is wrong at a place.
pub data Rule : Type 1 where
  rule : ℕ → (ℕ → Type 0) → Rule

-- The refusals that the tables give, by number.
unfoldable pub rules : Plan → List Rule
rules p = rule 7 (Sharing p) ∷ rule 8 (Endless p) ∷ rule 9 (Broken p) ∷ rule 10 (Crowded p) ∷ []

-- None of the refusals is due anywhere.
abbrev pub None : List Rule → Type 0
None [] = Unit {0}
None (rule number Wrong ∷ rules) = ((place : ℕ) → Wrong place → ⊥) × None rules

-- The first of the refusals that is due anywhere, with the lowest place where it is.
abbrev pub First : List Rule → ℕ → ℕ → Type 0
First [] number place = ⊥
First (rule own Wrong ∷ rules) number place =
    ((number ≡ own) × IsLeast Wrong place) ⊎ (((lower : ℕ) → Wrong lower → ⊥) × First rules number place)

-- "A plan is well-formed when no refusal judged before 11 is due."
pub record WellFormed (s : Bytes) : Type 0 where
  pub reads : read s ≡ passed
  pub sound : None (rules (plan_of s))

-- "hands back the very part of the plan that holds a path's task numbers", the one that begins behind the tag, the length and
-- the deadline of the path's field; "for any other plan, or a path number the head does not count, that question hands back an
-- empty part", at the plan's start.
pub record Asked (s : Bytes) (q from : ℕ) (part : Bytes) : Type 0 where
  pub held : WellFormed s → q < (plan_of s).paths → (from ≡ path_place s q + 7) × (part ≡ (plan_of s).path q)
  pub uncounted : (plan_of s).paths ≤ q → (from ≡ 0) × (part ≡ [])
  pub ill_formed : (WellFormed s → ⊥) → (from ≡ 0) × (part ≡ [])
