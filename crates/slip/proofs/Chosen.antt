-- The lists that a message has, by its header type.
use Rattle.std.proofs.Common.{◌≡◌, ℕ, zero, suc, ◌≤◌, false, cond, ◌||◌, eqb, ◌⊎◌, List, [], refl, inl, inr, arith}
use Rattle.std.proofs.lemmas.Bool.{ne_eqb}
use Rattle.message.specs.Items.{rows_in}
use Rattle.message.specs.Messages.{Columns, list_in}
use Rattle.message.specs.Messages as messages
use Rattle.slip.specs.Slips.{told, Lists, columns_of, contents_of}

types : (n : ℕ) → (n ≡ 0) ⊎ ((n ≡ 1) ⊎ ((n ≡ 2) ⊎ ((n ≡ 3) ⊎ (4 ≤ n))))
types zero = inl refl
types (suc zero) = inr (inl refl)
types (suc (suc zero)) = inr (inr (inl refl))
types (suc (suc (suc zero))) = inr (inr (inr (inl refl)))
types (suc (suc (suc (suc n)))) = inr (inr (inr (inr (omega arith))))

module _ (bs : List ℕ) (l : Lists) where
  other_than : (n : ℕ) → n ≤ 3 → 4 ≤ told 1 bs 2 → eqb (told 1 bs 2) n ≡ false
  other_than n k h = ne_eqb (told 1 bs 2) n (λ e. omega arith)

  pub rows_chosen : rows_in [] ≡ [] → rows_in (cond (eqb (told 1 bs 2) 1) l.rows []) ≡ messages.rows_in (contents_of bs l)
  rows_chosen z =
      elim (types (told 1 bs 2)) [
        | inl e ↦ rw e z
        | inr (inl e) ↦ rw e
        | inr (inr (inl e)) ↦ rw e z
        | inr (inr (inr (inl e))) ↦ rw e z
        | inr (inr (inr (inr h))) ↦
            rw (other_than 0 (omega arith) h, other_than 1 (omega arith) h, other_than 2 (omega arith) h, other_than 3 (omega arith) h) z
      ]

  -- any list of a batch or a dictionary
  pub list_chosen : {A : Type 0} (items : List ℕ → List A) (list : Columns → List A) (part : List ℕ) → items [] ≡ [] → items part ≡ list (columns_of bs l) → items (cond (eqb (told 1 bs 2) 2 || eqb (told 1 bs 2) 3) part []) ≡ list_in list (contents_of bs l)
  list_chosen items list part z s =
      elim (types (told 1 bs 2)) [
        | inl e ↦ rw e z
        | inr (inl e) ↦ rw e z
        | inr (inr (inl e)) ↦ rw e s
        | inr (inr (inr (inl e))) ↦ rw e s
        | inr (inr (inr (inr h))) ↦
            rw (other_than 0 (omega arith) h, other_than 1 (omega arith) h, other_than 2 (omega arith) h, other_than 3 (omega arith) h) z
      ]
