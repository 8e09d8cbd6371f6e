-- A table that is filled item by item.
use Rattle.std.proofs.Common.{◌≡◌, ℕ, zero, suc, ◌+◌, ◌<◌, ◌≤◌, List, [], ◌∷◌, ◌++◌, length, get_or, take, drop, set, Some, None, ap, ◌∙◌, arith}
use Rattle.std.proofs.lemmas.List.{drop_more, take_more, set_at, append_assoc, length-take-le}
use Rattle.std.specs.List.{slice_get}
use Rattle.message.specs.Listed.{laid, Lays}

-- the item that is there, and how far the items go
pub nth_some : {A : Type 0} (xs : List A) (k : ℕ) (x : A) → Some x ≡ slice_get xs k → (k < length xs) × (x ≡ get_or xs k x)
nth_some [] k x e = let z : ◌≡◌ {A = ℕ} 0 1 = cc in absurd (omega arith)
nth_some (y ∷ xs) zero x e = (omega arith, cc)
nth_some (y ∷ xs) (suc k) x e = let p = nth_some xs k x e in (omega arith, p.1)

pub nth_none : {A : Type 0} (xs : List A) (k : ℕ) → None ≡ slice_get xs k → length xs ≤ k
nth_none [] k e = omega arith
nth_none (y ∷ xs) zero e = let z : ◌≡◌ {A = ℕ} 0 1 = cc in omega arith
nth_none (y ∷ xs) (suc k) e = let p = nth_none xs k e in omega arith

pub laid_more : {A : Type 0} (n : ℕ) (items table : List A) (x : A) → n < length table → n < length items → x ≡ get_or items n x → set (laid n items table) n x ≡ laid (n + 1) items table
laid_more n items table x h k e =
    rw (drop_more table n x h, set_at (take n items) _ (drop (n + 1) table) x n (length-take-le n items (omega arith)), take_more items n x k, append_assoc)
    (ap (λ y. take n items ++ (y ∷ drop (n + 1) table)) e)

-- the first n items stand in the table's first n places
pub record Laying {A : Type 0} (items before : List A) (n : ℕ) (table : List A) : Type 0 where
  pub is : table ≡ laid n items before
  pub some : n ≤ length items
  pub room : n ≤ length before

pub laying_more : {A : Type 0} (items before table : List A) (n : ℕ) (x : A) → Laying items before n table → n < length before → Some x ≡ slice_get items n → Laying items before (n + 1) (set table n x)
laying_more items before table n x l h e =
    let p = nth_some items n x e in
    record { is = ap (λ s. set s n x) l.is ∙ laid_more n items before x h p.0 p.1; some = omega arith; room = omega arith }

-- no item is left, or no room
pub laying_none : {A : Type 0} (items before table : List A) (n : ℕ) → Laying items before n table → None ≡ slice_get items n → Lays items before n table
laying_none items before table n l e = let k = nth_none items n e in record { count = omega arith; table = l.is }

pub laying_full : {A : Type 0} (items before table : List A) (n : ℕ) → Laying items before n table → length before ≤ n → Lays items before n table
laying_full items before table n l k = record { count = omega arith; table = l.is }
