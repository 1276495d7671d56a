-- `number_at` takes a byte more each time.
use Rattle.std.proofs.Common.{ℕ, suc, ◌+◌, ◌*◌, ◌<◌, ◌≤◌, ◌^◌, refl, add-one, pow-suc, arith}
use Rattle.std.proofs.Math.Nat.{pow-le-pow_right}
use Rattle.paper.specs.Bytes.{number}
use Rattle.plan.proofs.bytes.number_at.Goals as goal

-- A number with one byte more fits one byte more,
fits_more : (i n b : ℕ) → n < 256 ^ i → b < 256 → n * 256 + b < 256 ^ suc i
fits_more i n b h g = rw (pow-suc 256 i) (omega arith)

-- and with no more than eight bytes it fits the machine's word.
fits_word : (i n b : ℕ) → n < 256 ^ i → b < 256 → suc i ≤ 8 → n * 256 + b < 2 ^ 64
fits_word i n b h g few =
    let some : 0 < 256 = omega arith in
    let most : 256 ^ suc i ≤ 256 ^ 8 = pow-le-pow_right some few in
    let more : n * 256 + b < 256 ^ suc i = fits_more i n b h g in
    omega arith

-- Before the first byte the number is 0.
pub loop-i-init : goal.loop-i-init
unfolding number
loop-i-init g c = record { is = refl; fits = omega arith }

-- A word holds the number with a place more,
pub overflow_mul-n : goal.overflow_mul-n
overflow_mul-n g c =
    let h : c.loop-i.n * 256 + 0 < 2 ^ 64 = fits_word _ _ 0 c.loop-i.invariant.fits (omega arith) (omega (arith, c.requires.0)) in
    omega arith

-- and with the byte there.
pub overflow_add-n : goal.overflow_add-n
overflow_add-n g c =
    let h : c.loop-i.n * 256 + c.from.result < 2 ^ 64 =
    fits_word _ _ _ c.loop-i.invariant.fits (omega arith) (omega (arith, c.requires.0)) in
    omega arith

-- It is the number with one byte more.
pub loop-i-preserved : goal.loop-i-preserved
unfolding number
loop-i-preserved g c =
    rw (add-one c.loop-i.i)
    (record {
      is = rw (c.from.ensures, c.byte_at.ensures, c.loop-i.invariant.is);
      fits = fits_more _ _ _ c.loop-i.invariant.fits (omega arith);
    })
