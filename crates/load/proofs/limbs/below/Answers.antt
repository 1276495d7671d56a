-- `limbs::below` says whether one number in limbs is below another.
use Rattle.std.proofs.Common.{◌≡◌, refl, ap, ◌∙◌}
use Rattle.std.proofs.lemmas.Iterator.Adapters.{YieldsList-from_rev_slice}
use Rattle.std.proofs.lemmas.Iterator.Search.{cmp_from_yields_List}
use Rattle.std.specs.Ordering.{nat_cmp, is_lt}
use Rattle.load.proofs.limbs.Compare.{from_the_top}
use Rattle.load.proofs.limbs.below.Goals as goal

-- The highest limb that differs decides.
pub returns : goal.returns
returns c =
    c.is_lt.ensures
    ∙ ap is_lt
    (cmp_from_yields_List (λ x y. y ≡ x) _ nat_cmp _ c.cmp.ensures.ran (YieldsList-from_rev_slice c.args.a.now cc)
    (λ it e. YieldsList-from_rev_slice c.args.b.now cc) (λ x y. refl))
    ∙ from_the_top c.requires.0 c.requires.1
