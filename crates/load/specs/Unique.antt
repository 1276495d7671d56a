-- The question for the lowest overloaded controller has one answer.
use Rattle.std.specs.Prelude.{ℕ, ◌≡◌, refl, List, [], length, Option, Some, None}
use Rattle.std.proofs.Common.{sym, ap}
use Rattle.paper.specs.Tables.{outside, Plan}
use Rattle.theory.specs.Numbers.Least.{least_one}
use Rattle.theory.specs.Plans.Inputs.{period_outside}
use Rattle.stream.specs.declared.kinds.ControllerNo.{ControllerNo}
use Rattle.load.specs.declared.Share.{Share}
use Rattle.load.specs.Shares.{share_of, cost_in, period_in, Shares, Says}

-- A plan whose tasks have given shares: all of its tasks are fed from outside, and it has no paths.
abbrev plan_with : (controllers : ℕ) (shares : List Share) → Plan
plan_with controllers shares =
    record {
      controllers = controllers;
      tasks = length shares;
      paths = 0;
      task = λ k.
          record {
            controller = (share_of shares k).controller.0;
            priority = k;
            C- = cost_in shares k;
            C+ = cost_in shares k;
            source = outside (record { P = period_in shares k; J = 0 });
          };
      deadline = λ q. 0;
      path = λ q. [];
    }

-- Two answers that say one plan's lowest overloaded controller are one.
says_one : (p : Plan) (r r' : Option ControllerNo) → Says p r → Says p r' → r ≡ r'
says_one p (Some c) (Some c') l l' = ap (λ (c : ℕ). Some (record { 0 = c })) (least_one l l')
says_one p (Some c) None l none = absurd (none c.0 l.holds)
says_one p None (Some c) none l = absurd (none c.0 l.holds)
says_one p None None none none' = refl

module _ (controllers : ℕ) (shares : List Share) where
  -- Whatever the shares, some plan's tasks have them.
  pub some_plan : (p : Plan) × Shares p controllers shares
  some_plan =
      let p = plan_with controllers shares in (
        p,
        record {
          controllers_are = refl;
          tasks_are = refl;
          controller_of = λ k l. refl;
          cost_of = λ k l. refl;
          period_is = λ k l. sym (period_outside p k (record { P = period_in shares k; J = 0 }) refl);
        },
      )

  -- No two answers meet the contract of `lowest_overloaded`: two that do are one.
  pub lowest_one : (r r' : Option ControllerNo) → ((p : Plan) → Shares p controllers shares → Says p r)
      → ((p : Plan) → Shares p controllers shares → Says p r') → r ≡ r'
  lowest_one r r' meets meets' =
      let (p, has) = some_plan in
      says_one p r r' (meets p has) (meets' p has)
