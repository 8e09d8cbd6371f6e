-- Areas say what the lists say that they stand for.
use Rattle.std.proofs.Common.{◌≡◌, ℕ, zero, suc, ◌+◌, ◌<◌, ◌≤◌, Bool, true, false, ltb, List, [], ◌∷◌, ◌++◌, length, ℤ, Some, None, Option, sym, refl, ap, ◌∙◌, inl, inr, append_assoc, append-nil, arith, length-append}
use Rattle.std.proofs.lemmas.Bool.{cases_lt, lt-ltb, le-ltb}
use Rattle.std.specs.Option.{option_map}
use Rattle.little.specs.Maybe.{and_then}
use Rattle.dictionaries.specs.Values.{Value, Dictionary, same, held, replaced, extended, grown, room_of, room_all}
use Rattle.dictionaries.specs.Stores.{written, area, store, read_one}
use Rattle.dictionaries.specs.Places.{value_from, value_in}
use Rattle.dictionaries.specs.Areas.{Area, packed, area_in, read_from, read_in, renewed, enlarged, area_of, areas_of, AllShort, EachShort, StandForLists}
use Rattle.dictionaries.proofs.Stored.{read_back, length_area}

-- the same test on both sides
abbrev either : {A : Type 0} → Bool → A → A → A
either b x y = elim b [ true ↦ x | false ↦ y ]

either_same : {A : Type 0} (b : Bool) (x y z w : A) → x ≡ z → y ≡ w → either b x y ≡ either b z w
either_same true x y z w e f = e
either_same false x y z w e f = f

either_mapped : {A B : Type 0} (g : A → B) (b : Bool) (x y : A) → g (either b x y) ≡ either b (g x) (g y)
either_mapped g true x y = refl
either_mapped g false x y = refl

past : (at : ℕ) (vs : List Value) (k : ℕ) → length vs ≤ k → value_from at vs k ≡ None
past at [] k h = refl
past at (v ∷ vs) zero h = absurd (omega arith)
past at (v ∷ vs) (suc k) h = past (at + room_of v) vs k (omega arith)

-- value k of an area
reads : (vs : List Value) (rest : List ℕ) (at k : ℕ) → AllShort vs → k < length vs → read_from at k (area vs ++ rest) ≡ value_from at vs k
reads [] rest at k short h = absurd (omega arith)
reads (v ∷ vs) rest at zero short h =
    let e = ap read_one (append_assoc (written v) (area vs) rest) ∙ read_back v (area vs ++ rest) short.0 in
    ap (option_map (λ r. record { value = r.value; place = at + 4 })) e
reads (v ∷ vs) rest at (suc k) short h =
    let e = ap read_one (append_assoc (written v) (area vs) rest) ∙ read_back v (area vs ++ rest) short.0 in
    ap (λ o. and_then o (λ r. read_from (at + room_of r.value) k r.rest)) e ∙ reads vs rest (at + room_of v) k short.1 (omega arith)

area_reads : (vs : List Value) (at k : ℕ) → AllShort vs → either (ltb k (length vs)) (read_from at k (area vs)) None ≡ value_from at vs k
area_reads vs at k short = elim (cases_lt k (length vs)) [
  | inl h ↦ ap (λ b. either b (read_from at k (area vs)) None) (lt-ltb k (length vs) h) ∙ ap (read_from at k) (sym (append-nil (area vs))) ∙ reads vs [] at k short h
  | inr h ↦ ap (λ b. either b (read_from at k (area vs)) None) (le-ltb k (length vs) h) ∙ sym (past at vs k h)
]

values : (i : ℤ) (k at : ℕ) (ds : List Dictionary) → EachShort ds → read_in at i k (areas_of ds) ≡ value_in at i k ds
values i k at [] short = refl
values i k at (d ∷ ds) short =
    either_same (same i d.id) _ _ _ _ (area_reads d.values at k short.0)
    (ap (λ n. read_in (at + n) i k (areas_of ds)) (length_area d.values) ∙ values i k (at + room_all d.values) ds short.1)

replaces : (i : ℤ) (vs : List Value) (ds : List Dictionary) → renewed i (length vs) (area vs) (areas_of ds) ≡ areas_of (replaced i vs ds)
replaces i vs [] = refl
replaces i vs (d ∷ ds) =
    either_same (same i d.id) _ _ _ _ refl (ap (λ l. area_of d ∷ l) (replaces i vs ds))
    ∙ sym (either_mapped areas_of (same i d.id) (record { id = d.id; values = vs } ∷ ds) (d ∷ replaced i vs ds))

area_append : (vs ws : List Value) → area (vs ++ ws) ≡ area vs ++ area ws
area_append [] ws = refl
area_append (v ∷ vs) ws = ap (λ l. written v ++ l) (area_append vs ws) ∙ sym (append_assoc (written v) (area vs) (area ws))

abbrev counted : Area → ℕ × List ℕ
counted a = (a.count, a.bytes)

abbrev spelled : List Value → ℕ × List ℕ
spelled vs = (length vs, area vs)

-- the area that an id has stands for the list that it has
found : (i : ℤ) (ds : List Dictionary) → option_map counted (area_in i (areas_of ds)) ≡ option_map spelled (held i ds)
found i [] = refl
found i (d ∷ ds) =
    either_mapped (option_map counted) (same i d.id) (Some (area_of d)) (area_in i (areas_of ds))
    ∙ either_same (same i d.id) _ _ _ _ refl (found i ds)
    ∙ sym (either_mapped (option_map spelled) (same i d.id) (Some d.values) (held i ds))

mapped_twice : {A B C : Type 0} (f : A → B) (g : B → C) (o : Option A) → option_map g (option_map f o) ≡ option_map (λ x. g (f x)) o
mapped_twice f g None = refl
mapped_twice f g (Some x) = refl

counts : (i : ℤ) (ds : List Dictionary) → option_map (λ a. a.count) (area_in i (areas_of ds)) ≡ option_map length (held i ds)
counts i ds =
    sym (mapped_twice counted (λ p. p.0) (area_in i (areas_of ds)))
    ∙ ap (option_map (λ p. p.0)) (found i ds)
    ∙ mapped_twice spelled (λ p. p.0) (held i ds)

module _ (i : ℤ) (vs : List Value) (ds : List Dictionary) where
  abbrev with_area : Option (ℕ × List ℕ) → Option (List Area)
  with_area o = option_map (λ p. renewed i (p.0 + length vs) (p.1 ++ area vs) (areas_of ds)) o

  by_area : (o : Option Area) → option_map (λ a. renewed i (a.count + length vs) (a.bytes ++ area vs) (areas_of ds)) o ≡ with_area (option_map counted o)
  by_area None = refl
  by_area (Some a) = refl

  by_list : (o : Option (List Value)) → with_area (option_map spelled o) ≡ option_map areas_of (extended i vs o ds)
  by_list None = refl
  by_list (Some old) =
      ap Some (
      ap (λ n. renewed i n (area old ++ area vs) (areas_of ds)) (sym (length-append old vs))
      ∙ ap (λ bs. renewed i (length (old ++ vs)) bs (areas_of ds)) (sym (area_append old vs))
      ∙ replaces i (old ++ vs) ds
      )

  appends : enlarged i (length vs) (area vs) (areas_of ds) ≡ option_map areas_of (grown i vs ds)
  appends = by_area (area_in i (areas_of ds)) ∙ ap with_area (found i ds) ∙ by_list (held i ds)

pub packed_is : (ds : List Dictionary) → packed (areas_of ds) ≡ store ds
packed_is [] = refl
packed_is (d ∷ ds) = ap (λ l. area d.values ++ l) (packed_is ds)

pub stand_for_lists : (ds : List Dictionary) → StandForLists ds
stand_for_lists ds = record {
  count = λ i. counts i ds;
  value = λ short i k. values i k 0 ds short;
  replaces = λ i vs. replaces i vs ds;
  appends = λ i vs. appends i vs ds;
  bytes = packed_is ds;
}
