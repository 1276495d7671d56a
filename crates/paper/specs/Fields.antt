-- The plan's fields: one-byte tag, two-byte length, value; what is due where, and the first fault of a field.
use Rattle.std.specs.Prelude.{ℕ, zero, suc, ◌+◌, ◌-◌, List, [], ◌∷◌, Bool, true, false, cond, leb, ltb, eqb, length, replicate}
use Rattle.paper.specs.Words.{within}
use Rattle.paper.specs.Limits.{most_controllers, most_tasks, most_paths, most_steps, most_cost, most_ticks}
use Rattle.paper.specs.Bytes.{Bytes, number}

infixr 30 ◌and_then◌
-- What a judge says: nothing against it, or a refusal with its number and its place.
pub data Judged : Type 0 where
  passed : Judged
  refused : (number place : ℕ) → Judged

-- The first refusal of two.
unfoldable pub ◌and_then◌ : Judged → Judged → Judged
passed and_then later = later
(refused number place) and_then later = refused number place

-- A refusal unless a test holds.
unfoldable pub unless : Bool → ℕ → ℕ → Judged
unless true number place = passed
unless false number place = refused number place

-- A number of a field: its width in bytes, the least and the most that it may be.
pub data Value : Type 0 where
  value : (width least most : ℕ) → Value

-- A number of one byte.
abbrev pub byte : ℕ → ℕ → Value
byte least most = value 1 least most

-- A number of four bytes.
abbrev pub four : ℕ → ℕ → Value
four least most = value 4 least most

-- 5: "a value outside its range", at its first byte; the values in layout order.
unfoldable pub in_ranges : Bytes → ℕ → List Value → Judged
in_ranges s at [] = passed
in_ranges s at (value width least most ∷ values) =
    unless (within least (number s at width) most) 5 at and_then in_ranges s (at + width) values

-- The tag of the field at a place.
abbrev pub tag_at : Bytes → ℕ → ℕ
tag_at s at = number s at 1

-- The length that the field at a place says.
abbrev pub length_at : Bytes → ℕ → ℕ
length_at s at = number s (at + 1) 2

-- "2 for the header, 3, 4, 2 for the value", each at the tag.
unfoldable pub header : Bytes → ℕ → ℕ → ℕ → ℕ → Judged
header s at tag shortest longest =
    unless (leb (at + 3) (length s)) 2 at
    and_then unless (eqb (tag_at s at) tag) 3 at
    and_then unless (within shortest (length_at s at) longest) 4 at
    and_then unless (leb (at + 3 + length_at s at) (length s)) 2 at

-- A field: its tag, its shortest and its longest length, its values.
unfoldable pub field : Bytes → ℕ → ℕ → ℕ → ℕ → List Value → Judged
field s at tag shortest longest values = header s at tag shortest longest and_then in_ranges s (at + 3) values

-- What the head counts: controllers,
abbrev pub controllers_of : Bytes → ℕ
controllers_of s = number s 4 1

-- tasks,
abbrev pub tasks_of : Bytes → ℕ
tasks_of s = number s 5 1

-- and paths. (Where the head is refused its counts mean nothing, and its refusal comes first.)
abbrev pub paths_of : Bytes → ℕ
paths_of s = number s 6 1

-- "01, 4: edition 1; controllers 1..16; tasks 1..64; paths 0..32 (a byte each)"
unfoldable pub head_field : Bytes → ℕ → Judged
head_field s at =
    field s at 0x01 4 4 (byte 1 1 ∷ byte 1 most_controllers ∷ byte 1 most_tasks ∷ byte 0 most_paths ∷ [])

-- "10, 2: its own number; policy 1"
unfoldable pub controller_field : Bytes → ℕ → ℕ → Judged
controller_field s at own = field s at 0x10 2 2 (byte own own ∷ byte 1 1 ∷ [])

-- A task's controller and priority, "C- is 1..1,000,000; C+ is C-..1,000,000", then what only its tag has.
unfoldable pub task_values : Bytes → ℕ → List Value → List Value
task_values s at rest =
    byte 0 (controllers_of s - 1)
    ∷ byte 0 255
    ∷ four 1 most_cost
    ∷ four (number s (at + 5) 4) most_cost
    ∷ rest

-- "20, 18: controller, priority (a byte each); C-, C+, period P, jitter J (four bytes each)"
unfoldable pub outside_field : Bytes → ℕ → Judged
outside_field s at = field s at 0x20 18 18 (task_values s at (four 1 most_ticks ∷ four 0 most_ticks ∷ []))

-- "21, 11: controller, priority; C-, C+; number of the task that feeds it (a byte)"
unfoldable pub fed_field : Bytes → ℕ → Judged
fed_field s at = field s at 0x21 11 11 (task_values s at (byte 0 (tasks_of s - 1) ∷ []))

-- "A task is a 20 or a 21."
unfoldable pub task_field : Bytes → ℕ → Judged
task_field s at = cond (eqb (tag_at s at) 0x21) (fed_field s at) (outside_field s at)

-- "30, 5..20: deadline (four bytes); 1 to 16 task numbers (a byte each)"; "a deadline is not 0".
unfoldable pub path_field : Bytes → ℕ → Judged
path_field s at =
    field s at 0x30 (4 + 1) (4 + most_steps) (four 1 0xFFFF_FFFF ∷ replicate (length_at s at - 4) (byte 0 (tasks_of s - 1)))

-- Where the field at a place ends.
unfoldable pub ending : Bytes → ℕ → ℕ
ending s at = at + 3 + length_at s at

-- Where field number f begins: each field begins where the last one ended.
unfoldable pub place : Bytes → ℕ → ℕ
place s zero = 0
place s (suc f) = ending s (place s f)

-- Field number f, at a place: first the head, then "each group in number order from 0": controllers, tasks, paths.
unfoldable pub due_field : Bytes → ℕ → ℕ → Judged
due_field s zero at = head_field s at
due_field s (suc f) at =
    cond (ltb f (controllers_of s))
    (controller_field s at f)
    (cond (ltb f (controllers_of s + tasks_of s)) (task_field s at) (path_field s at))

-- How many fields are due.
abbrev pub due_fields : Bytes → ℕ
due_fields s = 1 + controllers_of s + tasks_of s + paths_of s

-- The first fault of the first n fields.
unfoldable pub fields : Bytes → ℕ → Judged
fields s zero = passed
fields s (suc n) = fields s n and_then due_field s n (place s n)
