-- How often a row can be halved.
use Rattle.std.proofs.Common.{◌≡◌, ℕ, ◌+◌, ◌*◌, ◌^◌, ◌<◌, ◌≤◌, mul_assoc, mul-le-mul_left, pow-suc, le-mul_of_pos_right, add-one, arith}

-- after m comparisons among n entries, w are left to search
pub record Spent (n m w : ℕ) : Type 0 where
  pub above : 2 ^ m * w ≤ n
  pub below : n + 2 ≤ 2 ^ m * (w + 2)
  pub bound : 2 ^ m ≤ 2 * n + 1
  pub few : m + w ≤ n

pub spent_none : (n : ℕ) → Spent n 0 n
spent_none n = record { above = omega arith; below = omega arith; bound = omega arith; few = omega arith }

doubled : (m x : ℕ) → 2 ^ (m + 1) * x ≡ 2 ^ m * (2 * x)
doubled m x = rw (add-one, pow-suc) (mul_assoc (2 ^ m) 2 x)

pub spent_more : (n m w v : ℕ) → Spent n m w → 2 * v ≤ w → w ≤ 2 * v + 2 → v < w → Spent n (m + 1) v
spent_more n m w v s lo hi lt =
    let a = doubled m v in
    let b = doubled m (v + 2) in
    let p : 2 ^ (m + 1) ≡ 2 ^ m * 2 = rw add-one (pow-suc 2 m) in
    let h : w + 2 ≤ 2 * (v + 2) = omega arith in
    let x = mul-le-mul_left (2 ^ m) lo in
    let y = mul-le-mul_left (2 ^ m) h in
    let pos : 0 < w = omega arith in
    let z = le-mul_of_pos_right (2 ^ m) pos in
    let above = s.above in
    let below = s.below in
    let few = s.few in
    record { above = omega arith; below = omega arith; bound = omega arith; few = omega arith }

-- found in the comparison after m others
pub found_count : (n m w : ℕ) → Spent n m w → 0 < w → 2 ^ (m + 1) ≤ 2 * n + 1
found_count n m w s pos =
    let p : 2 ^ (m + 1) ≡ 2 ^ m * 2 = rw add-one (pow-suc 2 m) in
    let z = le-mul_of_pos_right (2 ^ m) pos in
    let above = s.above in
    omega arith

pub missed_count : (n m w : ℕ) → Spent n m w → w ≡ 0 → n + 2 ≤ 2 * 2 ^ m
missed_count n m w s e = let b : n + 2 ≤ 2 ^ m * 2 = rw e at s.below in omega arith
