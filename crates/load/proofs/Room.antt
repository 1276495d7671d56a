-- The fraction in limbs: what it has room for.
use Rattle.std.proofs.Common.{ℕ, suc, ◌+◌, ◌*◌, ◌≤◌, ◌<◌, mul-le-mul_left, mul-le-mul_right, arith}
use Rattle.std.proofs.Common.{◌≡◌, ◌∙◌, List, set, replicate, get_or-set_other}
use Rattle.paper.specs.Limits.{most_sharing}
use Rattle.load.specs.Limbs.{base, power, value, number, Used, HasRoom, MulAdded}
use Rattle.load.specs.Fraction.{FewLimbs, TaskRoom}
use Rattle.load.proofs.limbs.Number.{whole, widened, zeros, put, positive}

-- In limbs that are all 0 there is 0.
pub none : number (replicate most_sharing 0) ≡ 0
unfolding value
none = whole (omega arith) zeros

-- A one in limb 0 uses one limb,
one_used : Used 1 (set (replicate most_sharing 0) 0 1)
one_used =
    record {
      limbs = put 0 1 zeros.limbs (omega arith) (omega arith);
      unused = λ i h. get_or-set_other (replicate most_sharing 0) 0 i 1 0 (omega arith) ∙ zeros.unused i (omega arith);
    }

-- and is 1.
pub one : number (set (replicate most_sharing 0) 0 1) ≡ 1
unfolding value power
one = whole (omega arith) one_used

-- 0/1 is the sum of none.
pub start : FewLimbs 0 (replicate most_sharing 0) (set (replicate most_sharing 0) 0 1)
unfolding power
start = record { num_used = widened zeros; den_used = one_used; fits = rw (none, one) (omega arith) }

-- Where x + y is at most what n limbs count to, one limb more has room for x·P + y·C and y·P together.
grown : (x y C P n : ℕ) → P + C < base → x + y ≤ power n → x * P + y * C + y * P ≤ power (suc n)
unfolding power
grown x y C P n f h = omega (arith, mul-le-mul_left x f, mul-le-mul_left y f, mul-le-mul_right base h)

-- Where x + y is at most what n limbs count to, one limb more has room for x·m + y·c.
roomy : (x y m c n : ℕ) → x + y ≤ power n → m + c < base → x * m + y * c < power (suc n)
unfolding power
roomy x y m c n h f =
    let less_m : m < base = omega arith in
    let less_c : c < base = omega arith in
    omega (arith, positive n, mul-le-mul_left x less_m, mul-le-mul_left y less_c, mul-le-mul_right base h)

module _ {added C P : ℕ} {num den : List ℕ} (s : FewLimbs added num den) (t : TaskRoom added C P) where
  -- There is room for num·P + den·C,
  pub num_room : HasRoom (suc added) num P den C
  num_room =
      record {
        counted = omega (arith, t.counted);
        a_used = s.num_used;
        b_used = s.den_used;
        factors = t.factors;
        room = roomy _ _ _ _ added s.fits t.factors;
      }

  -- for den·m beside it, where m is below the base,
  pub den_room : {m : ℕ} {after : List ℕ} → m < base → MulAdded (suc added) num P den C after
      → HasRoom (suc added) den m after 0
  den_room {m} f a =
      record {
        counted = omega (arith, t.counted);
        a_used = s.den_used;
        b_used = a.used;
        factors = omega arith;
        room = omega (arith, roomy (number den) (number num) m 0 added (omega (arith, s.fits)) (omega arith));
      }

  -- and the sum is one of one task more.
  pub one_more : {num-after den-after : List ℕ} → MulAdded (suc added) num P den C num-after
      → MulAdded (suc added) den P num-after 0 den-after → FewLimbs (suc added) num-after den-after
  one_more m d =
      record {
        num_used = widened m.used;
        den_used = widened d.used;
        fits = rw (m.becomes, d.becomes)
            (omega (arith, grown (number num) (number den) C P added t.factors s.fits));
      }
