-- The carry: a·m + b·c, limb by limb.
use Rattle.std.proofs.Common.{ℕ, zero, suc, ◌+◌, ◌*◌, ◌/◌, ◌%◌, ◌≤◌, ◌<◌, mul-le-mul_right, le_refl, arith}
use Rattle.std.proofs.Common.{◌≡◌, refl, ap, ◌∙◌, List, get_or, set, get_or-set_same, get_or-set_other}
use Rattle.paper.specs.Limits.{most_sharing}
use Rattle.load.specs.Limbs.{base, power, value, Limbs, Used, HasRoom, MulAdded}
use Rattle.load.proofs.limbs.Number.{same, whole, put}

-- The products of two limbs, and the carry, fit 64 bits together.
pub fits : (x m y c carry : ℕ) → x < base → y < base → carry < base → m + c < base → x * m + y * c + carry < base * base
fits x m y c carry hx hy hk h = omega (arith, mul-le-mul_right m hx, mul-le-mul_right c hy)

-- One limb further: what stands in it takes up the carry, and the next carry is what it cannot hold.
carried : (v k p a m b c x y s : ℕ) → v + k * p ≡ a * m + b * c → s ≡ x * m + y * c + k
    → v + s % base * p + s / base * (p * base) ≡ (a + x * p) * m + (b + y * p) * c
carried v k p a m b c x y s e f =
    let g : s % base + s / base * base ≡ x * m + y * c + k = omega arith in
    omega (arith, ap (λ z. z * p) g)

-- No carry is left where the number has room.
carry_free : (v k p t : ℕ) → v + k * p ≡ t → t < p → v ≡ t
carry_free v zero p t e h = omega arith
carry_free v (suc k) p t e h = omega arith

-- What is reached when limb i is due: the limbs before it hold a·m + b·c with the carry, and the others are as they were.
pub record Reached (a : List ℕ) (m : ℕ) (b : List ℕ) (c : ℕ) (now : List ℕ) (carry i : ℕ) : Type 0 where
  pub limbs : Limbs now
  pub less : carry < base
  pub holds : value i now + carry * power i ≡ value i a * m + value i b * c
  pub ahead : (j : ℕ) → i ≤ j → get_or now j 0 ≡ get_or a j 0

-- Limb 0 is due.
pub start : {a b : List ℕ} {m c : ℕ} → Limbs a → Reached a m b c a 0 0
unfolding value power
start l = record { limbs = l; less = omega arith; holds = omega arith; ahead = λ j h. refl }

-- One limb further.
pub further : {a b now : List ℕ} {m c carry i : ℕ} → i < most_sharing → m + c < base → Limbs b
    → Reached a m b c now carry i
    → let s : ℕ = get_or now i 0 * m + get_or b i 0 * c + carry in
    Reached a m b c (set now i (s % base)) (s / base) (suc i)
unfolding value power
further {a} {b} {now} {m} {c} {carry} {i} h f l r =
    let s : ℕ = get_or now i 0 * m + get_or b i 0 * c + carry in
    let few : s < base * base = fits _ m _ c carry (r.limbs.small i) (l.small i) r.less f in
    record {
      limbs = put i (s % base) r.limbs h (omega arith);
      less = omega arith;
      holds = rw (
        same i (set now i (s % base)) now (λ j g. get_or-set_other now i j _ 0 (omega arith)),
        get_or-set_same now i (s % base) 0 (rw r.limbs.all h),
        ← r.ahead i (le_refl i),
      )
          (carried (value i now) carry (power i) (value i a) m (value i b) c (get_or now i 0) (get_or b i 0) s r.holds refl);
      ahead = λ j g. get_or-set_other now i j _ 0 (omega arith) ∙ r.ahead j (omega arith);
    }

-- Limb n is due, and the number has room in those before it.
pub finish : {a b now : List ℕ} {m c carry n : ℕ} → HasRoom n a m b c → Reached a m b c now carry n
    → MulAdded n a m b c now
finish {now = now} {carry = carry} {n = n} h r =
    let in_a = whole h.counted h.a_used in
    let in_b = whole h.counted h.b_used in
    let used : Used n now = record { limbs = r.limbs; unused = λ i l. r.ahead i l ∙ h.a_used.unused i l } in
    record {
      used = used;
      becomes = rw (whole h.counted used, in_a, in_b)
          (carry_free _ carry (power n) _ r.holds (rw (in_a, in_b) at h.room));
    }
