-- Type ids, one after the other.
use Rattle.std.proofs.Common.{◌≡◌, ℕ, zero, suc, ◌*◌, Bool, true, false, ◌&&◌, nat_lt, List, take, drop, sym, refl, ap, ◌∙◌, arith}
use Rattle.std.proofs.lemmas.List.{drop-drop}
use Rattle.std.specs.List.{list_all}
use Rattle.std.specs.Simd.{first_chunks}
use Rattle.little.specs.Numbers.{le, number_in}
use Rattle.types.specs.Types.{ids_fit}

swapped : (a b c : Bool) → a && (b && c) ≡ b && (a && c)
swapped true b c = refl
swapped false true c = refl
swapped false false c = refl

-- the first id, and those behind it
from_front : (ids : List ℕ) (n : ℕ) → ids_fit ids (suc n) ≡ nat_lt (number_in 4 ids 0) 128 && ids_fit (drop 4 ids) n
unfolding number_in
from_front ids zero = refl
from_front ids (suc n) =
    let e : drop (4 * suc n) ids ≡ drop (4 * n) (drop 4 ids) = ap (λ k. drop k ids) (omega arith) ∙ sym (drop-drop (4 * n) 4 ids) in
    ap (λ b. nat_lt (number_in 4 ids (4 * suc n)) 128 && b) (from_front ids n)
    ∙ ap (λ l. nat_lt (le (take 4 l)) 128 && (nat_lt (number_in 4 ids 0) 128 && ids_fit (drop 4 ids) n)) e
    ∙ swapped (nat_lt (number_in 4 (drop 4 ids) (4 * n)) 128) (nat_lt (number_in 4 ids 0) 128) (ids_fit (drop 4 ids) n)

pub all_fit : (n : ℕ) (ids : List ℕ) → list_all (λ id. nat_lt (le id) 128) (first_chunks 4 n ids) ≡ ids_fit ids n
unfolding number_in
all_fit zero ids = refl
all_fit (suc n) ids = ap (λ b. nat_lt (le (take 4 ids)) 128 && b) (all_fit n (drop 4 ids)) ∙ sym (from_front ids n)
