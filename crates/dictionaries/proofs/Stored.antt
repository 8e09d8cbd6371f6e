-- What is written to a store is read back, and is as long as its room.
use Rattle.std.proofs.Common.{◌≡◌, ℕ, ◌<◌, ◌≤◌, true, false, List, [], ◌∷◌, ◌++◌, length, take, drop, Some, None, refl, ap, ◌∙◌, arith, length-append}
use Rattle.std.proofs.lemmas.List.{take_at, drop_at}
use Rattle.std.proofs.lemmas.Bool.{le-leb, ne_eqb}
use Rattle.little.specs.Numbers.{number_in}
use Rattle.dictionaries.specs.Values.{Value, Dictionary, room_of, room_all, used}
use Rattle.dictionaries.specs.Stores.{spelled, written, area, store, read_bytes, read_one, Short}

spells : (n : ℕ) (more : List ℕ) → n < 4294967296 → number_in 4 (spelled n ++ more) 0 ≡ n
unfolding number_in
spells n more h = omega arith

bytes_read : (n : ℕ) (bs : List ℕ) → (n ≡ 4294967295 → ⊥) → n ≤ length bs → read_bytes n bs ≡ Some (record { value = Some (take n bs); rest = drop n bs })
bytes_read n bs ne h = rw (read_bytes, ne_eqb n 4294967295 ne, le-leb n (length bs) h)

one_read : (xs : List ℕ) (n : ℕ) → 4 ≤ length xs → number_in 4 xs 0 ≡ n → read_one xs ≡ read_bytes n (drop 4 xs)
one_read xs n l e =
    ap (λ b. elim b [ true ↦ read_bytes (number_in 4 xs 0) (drop 4 xs) | false ↦ None ]) (le-leb 4 (length xs) l) ∙ ap (λ k. read_bytes k (drop 4 xs)) e

pub read_back : (v : Value) (more : List ℕ) → Short v → read_one (written v ++ more) ≡ Some (record { value = v; rest = more })
unfolding number_in
read_back None more s = one_read (written None ++ more) 4294967295 (omega arith) refl
read_back (Some bs) more s =
    let n = length bs in
    one_read (written (Some bs) ++ more) n (omega arith) (spells n (bs ++ more) (omega arith))
    ∙ bytes_read n (bs ++ more) (λ e. omega (arith, e)) (omega (arith, length-append bs more))
    ∙ ap (λ x. Some (record { value = Some x; rest = drop n (bs ++ more) })) (take_at bs more n refl)
    ∙ ap (λ x. Some (record { value = Some bs; rest = x })) (drop_at bs more n refl)

length_written : (v : Value) → length (written v) ≡ room_of v
length_written None = refl
length_written (Some bs) = omega arith

pub length_area : (vs : List Value) → length (area vs) ≡ room_all vs
length_area [] = refl
length_area (v ∷ vs) =
    let a = length_written v in
    let b = length_area vs in
    let l = length-append (written v) (area vs) in
    omega (arith, a, b, l)

pub room_is_length : (ds : List Dictionary) → length (store ds) ≡ used ds
room_is_length [] = refl
room_is_length (d ∷ ds) =
    let a = length_area d.values in
    let b = room_is_length ds in
    let l = length-append (area d.values) (store ds) in
    omega (arith, a, b, l)
