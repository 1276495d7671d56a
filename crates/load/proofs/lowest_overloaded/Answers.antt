-- `lowest_overloaded` gives the lowest controller whose load is above one.
use Rattle.std.proofs.Common.{◌≡◌, true, false, rules, tests}
use Rattle.std.specs.Option.{option_map}
use Rattle.std.proofs.lemmas.Iterator.{first_from_Range}
use Rattle.load.specs.Shares.{is_above_one}
use Rattle.load.proofs.Shares.{found}
use Rattle.load.proofs.lowest_overloaded.Goals as goal

-- The first controller whose load is above one is the lowest.
pub returns : goal.returns
returns c p h =
    let s = c.args.shares.now in
    let f = first_from_Range _ _ _ _ (λ i. is_above_one s i ≡ true) (λ i. is_above_one s i ≡ false) c.find.ensures.ran
    (λ x q k. search (rules, tests))
    (λ x q k. (search rules, search (rules, tests))) in
    let e : c.map.result ≡ option_map (λ c. record { 0 = c }) c.find.result = search rules in
    rw e (found h c.find.result f)
