-- What other crates need of the charges: they fit, rise with the sizes, count both sides alike, and the model alone decides a refusal.
use Prim.Native.Nat.{ℕ, zero, suc, ◌+◌, ◌*◌, ◌^◌, ◌≤◌, ◌<◌, min, zero-le}
use native.Mathlib.Nat.{add_comm, mul_comm, min_comm, lt_of_le_of_lt, mul-le-mul, mul-le-mul_left}
use native.Mathlib.Omega.{arith}
use mathlib.Core.Path.{◌≡◌, refl}
use Rattle.numbers.proofs.Products.{product_fits}
use Rattle.charges.specs.Charges.{log2, w, sort_merge, disk_loops, priced, charge}
use Rattle.charges.proofs.Log.{log_leading, log_rises}
use Rattle.charges.proofs.Rounding.{up_near, up_rises}

-- A size has at most 32 binary digits, so sorting it costs at most 32 times the size.
pub w_bounded : (x : ℕ) → x < 2 ^ 32 → w x < 2 ^ 37
unfolding w
w_bounded x h =
    let digits : 1 + log2 x ≤ 32 = omega (arith, log_leading 32 x (omega arith) h) in
    lt_of_le_of_lt (mul-le-mul_left x digits) (omega arith)

-- A charge is far below what 64 bits hold, so the total of a join, two trees within 2 ^ 60 and a charge, cannot overflow.
pub charge_bounded : (model a b o : ℕ) → a < 2 ^ 32 → b < 2 ^ 32 → o < 2 ^ 32 → charge model a b o < 2 ^ 51
unfolding charge priced sort_merge disk_loops
charge_bounded zero a b o ha hb ho = omega arith
charge_bounded (suc zero) a b o ha hb ho = omega (arith, w_bounded a ha, w_bounded b hb)
charge_bounded (suc (suc zero)) a b o ha hb ho =
    omega (arith, product_fits 32 32 a b ha hb, up_near o 10, up_near (a * b) 9900, up_near (min a b) 10)
charge_bounded (suc (suc (suc model))) a b o ha hb ho = omega arith

-- No charge falls when a size rises.
pub w_rises : (x y : ℕ) → x ≤ y → w x ≤ w y
unfolding w
w_rises x y h = let more : 1 + log2 x ≤ 1 + log2 y = omega (arith, log_rises x y h) in mul-le-mul h more

pub charge_rises : (model a b o a' b' o' : ℕ) → a ≤ a' → b ≤ b' → o ≤ o' → charge model a b o ≤ charge model a' b' o'
unfolding charge priced sort_merge disk_loops
charge_rises zero a b o a' b' o' ha hb ho = ho
charge_rises (suc zero) a b o a' b' o' ha hb ho = omega (arith, w_rises a a' ha, w_rises b b' hb)
charge_rises (suc (suc zero)) a b o a' b' o' ha hb ho =
    let smaller : min a b ≤ min a' b' = omega arith in
    let result = up_rises o o' 10 (omega arith) ho in
    let pairs = up_rises (a * b) (a' * b') 9900 (omega arith) (mul-le-mul ha hb) in
    omega (arith, result, pairs, up_rises (min a b) (min a' b') 10 (omega arith) smaller)
charge_rises (suc (suc (suc model))) a b o a' b' o' ha hb ho = omega arith

-- So every split into size o pays at least what empty parts would. A search that leaves it out finds the same split.
pub charge-least : (model a b o : ℕ) → charge model 0 0 o ≤ charge model a b o
charge-least model a b o = charge_rises model 0 0 o a b o zero-le zero-le (omega arith)

-- A split and its mirror are charged the same.
pub charge_symmetric : (model a b o : ℕ) → charge model a b o ≡ charge model b a o
unfolding charge priced sort_merge disk_loops
charge_symmetric zero a b o = refl
charge_symmetric (suc zero) a b o = add_comm (w a) (w b)
charge_symmetric (suc (suc zero)) a b o = rw (mul_comm a b, min_comm a b)
charge_symmetric (suc (suc (suc model))) a b o = refl

-- "The model is a number from 0 to 2": each of these is answered with 0, done ..
pub known : (model a b o : ℕ) → model < 3 → (priced model a b o).number ≡ 0
unfolding priced
known zero a b o h = refl
known (suc zero) a b o h = refl
known (suc (suc zero)) a b o h = refl
known (suc (suc (suc model))) a b o h = absurd (omega arith)

-- .. and any other with 4, model unknown, and no charge.
pub unknown : (model a b o : ℕ) → 3 ≤ model → priced model a b o ≡ record { number = 4; charge = 0 }
unfolding priced
unknown zero a b o h = absurd (omega arith)
unknown (suc zero) a b o h = absurd (omega arith)
unknown (suc (suc zero)) a b o h = absurd (omega arith)
unknown (suc (suc (suc model))) a b o h = refl

-- Sizes never decide a refusal, so a caller can ask once, before it writes anything.
pub model-alone : (model a b o a' b' o' : ℕ) → (priced model a b o).number ≡ (priced model a' b' o').number
unfolding priced
model-alone zero a b o a' b' o' = refl
model-alone (suc zero) a b o a' b' o' = refl
model-alone (suc (suc zero)) a b o a' b' o' = refl
model-alone (suc (suc (suc model))) a b o a' b' o' = refl
