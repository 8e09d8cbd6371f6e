-- A list that is replaced.
use Rattle.std.proofs.Common.{◌≡◌, ℕ, ◌+◌, Bool, true, false, List, [], ◌∷◌, ℤ, pos, negsuc, Some, None, Option, unwrap_or, sym, refl, ap, ◌∙◌, arith}
use Rattle.std.proofs.lemmas.Bool.{eq-eqb, eqb-true}
use Rattle.dictionaries.specs.Values.{Value, Dictionary, same, held, replaced, room_all, used}
use Rattle.dictionaries.specs.Stores.{Replaces}

same_self : (i : ℤ) → same i i ≡ true
same_self (pos a) = eq-eqb a a refl
same_self (negsuc a) = eq-eqb a a refl

same_eq : (i j : ℤ) → same i j ≡ true → i ≡ j
same_eq (pos a) (pos b) e = ap pos (eqb-true a b e)
same_eq (pos a) (negsuc b) e = let z : ◌≡◌ {A = ℕ} 0 1 = cc in absurd (omega arith)
same_eq (negsuc a) (pos b) e = let z : ◌≡◌ {A = ℕ} 0 1 = cc in absurd (omega arith)
same_eq (negsuc a) (negsuc b) e = ap negsuc (eqb-true a b e)

module _ (i : ℤ) (vs : List Value) where
  abbrev renewed : Bool → Dictionary → List Dictionary → List Dictionary
  renewed b d ds = elim b [ true ↦ record { id = d.id; values = vs } ∷ ds | false ↦ d ∷ replaced i vs ds ]

  abbrev found : Bool → List Value → Option (List Value) → Option (List Value)
  found b own later = elim b [ true ↦ Some own | false ↦ later ]

  own_at : (b : Bool) (d : Dictionary) (ds : List Dictionary) → same i d.id ≡ b → held i (replaced i vs ds) ≡ Some vs → held i (renewed b d ds) ≡ Some vs
  own_at true d ds e h = ap (λ b. found b vs (held i ds)) e
  own_at false d ds e h = ap (λ b. found b d.values (held i (replaced i vs ds))) e ∙ h

  pub own : (ds : List Dictionary) → held i (replaced i vs ds) ≡ Some vs
  own [] = ap (λ b. found b vs None) (same_self i)
  own (d ∷ ds) = own_at (same i d.id) d ds refl (own ds)

  others_at : (j : ℤ) (b c : Bool) (d : Dictionary) (ds : List Dictionary) → same j i ≡ false → same i d.id ≡ b → same j d.id ≡ c → held j (replaced i vs ds) ≡ held j ds → held j (renewed b d ds) ≡ found c d.values (held j ds)
  others_at j true true d ds n e f h =
      let z : true ≡ false = sym f ∙ ap (same j) (sym (same_eq i d.id e)) ∙ n in
      let y : ◌≡◌ {A = ℕ} 0 1 = cc in
      absurd (omega arith)
  others_at j true false d ds n e f h = ap (λ b. found b vs (held j ds)) f
  others_at j false c d ds n e f h = ap (λ b. found b d.values (held j (replaced i vs ds))) f ∙ ap (found c d.values) h

  pub others : (j : ℤ) (ds : List Dictionary) → same j i ≡ false → held j (replaced i vs ds) ≡ held j ds
  others j [] n = ap (λ b. found b vs None) n
  others j (d ∷ ds) n = others_at j (same i d.id) (same j d.id) d ds n refl refl (others j ds n)

  again_at : (b : Bool) (d : Dictionary) (ds : List Dictionary) → used (replaced i vs ds) + room_all (unwrap_or (held i ds) []) ≡ used ds + room_all vs → used (renewed b d ds) + room_all (unwrap_or (found b d.values (held i ds)) []) ≡ room_all d.values + used ds + room_all vs
  again_at true d ds h = omega arith
  again_at false d ds h = omega (arith, h)

  pub room_again : (ds : List Dictionary) → used (replaced i vs ds) + room_all (unwrap_or (held i ds) []) ≡ used ds + room_all vs
  room_again [] = omega arith
  room_again (d ∷ ds) = again_at (same i d.id) d ds (room_again ds)

pub replaces : Replaces
replaces = record { own = own; others = λ i j vs ds n. others i vs j ds n }
