-- Items within a part of the bytes.
use Rattle.std.proofs.Common.{◌≡◌, ℕ, ◌+◌, ◌≤◌, List, take, drop, ap, ◌∙◌, arith}
use Rattle.little.specs.Numbers.{number_in}
use Rattle.little.proofs.Spelled.{number_in_part}
use Rattle.message.specs.Items.{node_at, buffer_at, row_at}

module _ (w : ℕ) (bs : List ℕ) (at : ℕ) where
  front : (n : ℕ) → n ≤ w → number_in n (take w (drop at bs)) 0 ≡ number_in n bs at
  front n h = let e : at + 0 ≡ at = omega arith in number_in_part n 0 w bs at (omega arith) ∙ ap (number_in n bs) e

  within : (n p : ℕ) → p + n ≤ w → number_in n (take w (drop at bs)) p ≡ number_in n bs (at + p)
  within n p h = number_in_part n p w bs at h

module _ (bs : List ℕ) (at : ℕ) where
  pub node_part : node_at (take 16 (drop at bs)) 0 ≡ node_at bs at
  node_part = rw (front 16 bs at 8 (omega arith), within 16 bs at 8 8 (omega arith))

  pub buffer_part : buffer_at (take 16 (drop at bs)) 0 ≡ buffer_at bs at
  buffer_part = rw (front 16 bs at 8 (omega arith), within 16 bs at 8 8 (omega arith))

  pub row_part : row_at (take 24 (drop at bs)) 0 ≡ row_at bs at
  row_part = rw (front 24 bs at 1 (omega arith), within 24 bs at 1 1 (omega arith), within 24 bs at 1 2 (omega arith), within 24 bs at 4 4 (omega arith), within 24 bs at 8 8 (omega arith), within 24 bs at 4 16 (omega arith))
