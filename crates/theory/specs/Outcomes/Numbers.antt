-- Which numbers refusals have: reading gives 1 to 6, the tables give 7 to 10.
use Rattle.std.specs.Prelude.{ℕ, zero, suc, ◌+◌, ◌≤◌, ◌≡◌, refl, List, [], ◌∷◌, Bool, true, false, cond, ltb, eqb}
use Rattle.std.proofs.Common.{inl, inr, ⊎_elim, arith}
use Rattle.paper.specs.Bytes.{Bytes}
use Rattle.paper.specs.Fields.{Judged, passed, refused, ◌and_then◌, unless, Value, value, in_ranges, header, field, place, due_field, fields}
use Rattle.paper.specs.Fields.{tag_at, controllers_of, tasks_of, head_field, controller_field, outside_field, fed_field, task_field, path_field}
use Rattle.paper.specs.Tables.{Plan}
use Rattle.paper.specs.Refusals.{read, rules, First}
use Rattle.theory.specs.Plans.Judging.{refused_not_passed, then_refused, unless_refused}

-- A judge's refusals have numbers from 1 to 6.
abbrev Numbered : Judged → Type 0
Numbered judged = (n k : ℕ) → judged ≡ refused n k → (1 ≤ n) × (n ≤ 6)

-- So have those of a judge that passes,
passed_numbered : Numbered passed
passed_numbered n k e = absurd (refused_not_passed e refl)

-- those of two such judges,
then_numbered : {a b : Judged} → Numbered a → Numbered b → Numbered (a and_then b)
then_numbered {a} {b} first later n k e = ⊎_elim (first n k) (λ l. later n k l.1) (then_refused a b n k e)

-- those of a test,
unless_numbered : (b : Bool) (n k : ℕ) → 1 ≤ n → n ≤ 6 → Numbered (unless b n k)
unless_numbered b n k low high m q e = omega (arith, (unless_refused b n k m q e).1)

-- and those of a choice between two such judges.
cond_numbered : (b : Bool) {yea nay : Judged} → Numbered yea → Numbered nay → Numbered (cond b yea nay)
cond_numbered true one other = one
cond_numbered false one other = other

-- A row of values has no other refusals,
values_numbered : (s : Bytes) (at : ℕ) (values : List Value) → Numbered (in_ranges s at values)
unfolding in_ranges
values_numbered s at [] = passed_numbered
values_numbered s at (value width least most ∷ values) =
    then_numbered (unless_numbered _ 5 at (omega arith) (omega arith)) (values_numbered s (at + width) values)

-- nor has a field,
field_numbered : (s : Bytes) (at tag shortest longest : ℕ) (values : List Value)
    → Numbered (field s at tag shortest longest values)
unfolding field header
field_numbered s at tag shortest longest values =
    then_numbered
    (then_numbered (unless_numbered _ 2 at (omega arith) (omega arith))
    (then_numbered (unless_numbered _ 3 at (omega arith) (omega arith))
    (then_numbered (unless_numbered _ 4 at (omega arith) (omega arith))
    (unless_numbered _ 2 at (omega arith) (omega arith)))))
    (values_numbered s (at + 3) values)

-- whichever is due,
due_numbered : (s : Bytes) (f at : ℕ) → Numbered (due_field s f at)
unfolding due_field head_field controller_field task_field outside_field fed_field path_field
due_numbered s zero at = field_numbered s at _ _ _ _
due_numbered s (suc f) at =
    cond_numbered (ltb f (controllers_of s)) (field_numbered s at _ _ _ _)
    (cond_numbered (ltb f (controllers_of s + tasks_of s))
    (cond_numbered (eqb (tag_at s at) 0x21) (field_numbered s at _ _ _ _) (field_numbered s at _ _ _ _))
    (field_numbered s at _ _ _ _))

-- nor have the fields together.
fields_numbered : (s : Bytes) (n : ℕ) → Numbered (fields s n)
unfolding fields
fields_numbered s zero = passed_numbered
fields_numbered s (suc n) = then_numbered (fields_numbered s n) (due_numbered s n (place s n))

-- Reading gives refusals 1 to 6.
pub unread_number : (s : Bytes) (n k : ℕ) → read s ≡ refused n k → (1 ≤ n) × (n ≤ 6)
unfolding read
unread_number s =
    then_numbered (unless_numbered _ 1 0 (omega arith) (omega arith))
    (then_numbered (fields_numbered s _) (unless_numbered _ 6 _ (omega arith) (omega arith)))

-- The tables give refusals 7 to 10.
pub unsound_number : (p : Plan) (n k : ℕ) → First (rules p) n k → (7 ≤ n) × (n ≤ 10)
unfolding rules
unsound_number p n k (inl f) = omega (arith, f.0)
unsound_number p n k (inr (_, inl f)) = omega (arith, f.0)
unsound_number p n k (inr (_, inr (_, inl f))) = omega (arith, f.0)
unsound_number p n k (inr (_, inr (_, inr (_, inl f)))) = omega (arith, f.0)
unsound_number p n k (inr (_, inr (_, inr (_, inr (_, none))))) = absurd none
