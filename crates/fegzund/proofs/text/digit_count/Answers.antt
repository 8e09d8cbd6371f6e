use Rattle.std.proofs.Common.{rules, ℕ, suc, ◌≡◌, ◌≤◌, ◌+◌, ◌*◌, ◌<◌, ◌^◌, length, decimal, arith}
use Rattle.std.proofs.Math.Nat.{pow-succ'}
use Rattle.std.proofs.lemmas.Fmt.{length-decimal-le}
use Rattle.fegzund.proofs.text.digit_count.Goals as goal

fits : (n k : ℕ) → n < 10 * 10 ^ k → n < 2 ^ 64 → length (decimal n) ≤ k + 1
fits n k below word =
    let e : k + 1 ≡ suc k = omega arith in
    rw e (length-decimal-le (suc k) n (omega arith) (rw (pow-succ' 10 k) below) word)

pub returns-then-n-lt10-clause-enough : goal.returns-then-n-lt10-clause-enough
returns-then-n-lt10-clause-enough c = search (rules, length-decimal-le 1)

pub returns-else-n-lt10-clause-enough : goal.returns-else-n-lt10-clause-enough
returns-else-n-lt10-clause-enough c = search (rules, fits)
