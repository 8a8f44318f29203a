-- Sums and counts over the numbers below a bound.
--     bit b        1 where the test passes, 0 where it fails
--     gate b x     x where the test passes, 0 where it fails
--     sum k f      f 0 + .. + f (k - 1)
--     count k p    how many numbers below k pass the test p
--     any k p      whether a number below k passes the test p
--     latest k f   the greatest of f 0 .. f (k - 1); 0 where k is 0
use Rattle.std.specs.Prelude.{ℕ, zero, suc, ◌+◌, max, Bool, true, false, ◌||◌}

unfoldable pub bit : Bool → ℕ
bit true = 1
bit false = 0

unfoldable pub gate : Bool → ℕ → ℕ
gate true x = x
gate false x = 0

unfoldable pub sum : ℕ → (ℕ → ℕ) → ℕ
sum zero f = 0
sum (suc k) f = sum k f + f k

unfoldable pub count : ℕ → (ℕ → Bool) → ℕ
count k p = sum k (λ i. bit (p i))

unfoldable pub any : ℕ → (ℕ → Bool) → Bool
any zero p = false
any (suc k) p = any k p || p k

unfoldable pub latest : ℕ → (ℕ → ℕ) → ℕ
latest zero f = 0
latest (suc k) f = max (latest k f) (f k)
