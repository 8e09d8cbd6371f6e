-- Openings, metadata and bodies in bulk: a block of bytes acts as one.
use Rattle.std.proofs.Common.{◌≡◌, ℕ, ◌+◌, ◌-◌, ◌<◌, ◌≤◌, Bool, true, false, List, [], ◌∷◌, ◌++◌, length, take, drop, sym, refl, ap, ◌∙◌, subst, inl, inr, arith, length-append, length-drop, take-append-drop}
use Rattle.std.proofs.lemmas.List.{length-take, length-take-le, take-append-le, drop-append-le}
use Rattle.std.proofs.lemmas.Bool.{lt-ltb, le-ltb, cases_lt}
use Rattle.little.specs.Numbers.{le, number_in}
use Rattle.message.specs.declared.faults.Place.{Place}
use Rattle.message.specs.declared.headers.Facts.{Facts}
use Rattle.framing.specs.declared.openings.OpeningBytes.{OpeningBytes}
use Rattle.framing.specs.Moves.{on, quiet, went_on}
use Rattle.framing.specs.Frames.{Holds, Envelope, marks, opening, size_of}
use Rattle.framing.specs.Steps.{header, metadata, body, opened, sized, gathered, filled, step}
use Rattle.framing.specs.Turns.{Fills}
use Rattle.framing.proofs.Blocks.{Acts}
use Rattle.framing.proofs.Gathers.{Last, all, gathers}
use Rattle.framing.proofs.OpeningOf.{short_unmarked}
use Rattle.framing.proofs.Ways.{gathered_some, filled_some}

-- a part of a front that is not full is not full
less : (n : ℕ) (got xs : List ℕ) → length (got ++ xs) < n → length got < n
less n got xs h = let l = length-append got xs in omega arith

before : (n : ℕ) (xs got : List ℕ) → length got + length xs ≤ n → (l : Last xs) → length (got ++ l.front) < n
before n xs got h l = let a = length-append got l.front in omega (arith, l.long)

-- metadata, of which some are there
pub metadata_acts : (h : Holds) (e : Envelope) (p : Place) (marked : Bool) (n : ℕ) (xs got : List ℕ) → length got < n → length got + length xs ≤ n → Acts (step h e) (metadata p marked n got) xs (gathered h e p marked n (got ++ xs))
unfolding step
metadata_acts h e p marked n xs got some fits =
    gathers (step h e) (metadata p marked n) (gathered h e p marked n) (λ got b. refl) (λ l. length l < n) (less n) (gathered_some h e p marked n) xs got some (before n xs got fits)

-- a body, of which some is there
pub body_acts : (h : Holds) (e : Envelope) (p : Place) (marked : Bool) (meta : List ℕ) (facts : Facts) (n : ℕ) (xs got : List ℕ) → length got < n → length got + length xs ≤ n → Acts (step h e) (body p marked meta facts n got) xs (filled p marked meta facts n (got ++ xs))
unfolding step
body_acts h e p marked meta facts n xs got some fits =
    gathers (step h e) (body p marked meta facts n) (filled p marked meta facts n) (λ got b. refl) (λ l. length l < n) (less n) (filled_some p marked meta facts n) xs got some (before n xs got fits)

-- the first four bytes say whether there is a marker
pub marks_front : (xs ys : List ℕ) → 4 ≤ length xs → marks (xs ++ ys) ≡ marks xs
unfolding marks
marks_front [] ys h = absurd (omega arith)
marks_front (a ∷ []) ys h = absurd (omega arith)
marks_front (a ∷ b ∷ []) ys h = absurd (omega arith)
marks_front (a ∷ b ∷ c ∷ []) ys h = absurd (omega arith)
marks_front (a ∷ b ∷ c ∷ d ∷ xs) ys h = refl

-- an opening has four bytes or eight
pub opening_bounds : (marked : Bool) → (4 ≤ opening marked) × (opening marked ≤ 8)
opening_bounds true = (omega arith, omega arith)
opening_bounds false = (omega arith, omega arith)

number_front : (front ys : List ℕ) (k : ℕ) → k + 4 ≤ length front → number_in 4 (front ++ ys) k ≡ number_in 4 front k
unfolding number_in
number_front front ys k h =
    ap (λ l. le (take 4 l)) (drop-append-le k front ys (omega arith)) ∙ ap le (take-append-le 4 (drop k front) ys (omega (arith, length-drop k front)))

pub size_front : (front ys : List ℕ) → opening (marks front) ≤ length front → size_of (front ++ ys) ≡ size_of front
size_front front ys h =
    let l = opening_bounds (marks front) in
    ap (λ b. number_in 4 (front ++ ys) (opening b - 4)) (marks_front front ys (omega arith)) ∙ number_front front ys (opening (marks front) - 4) (omega arith)

-- an opening that is there whole
module _ (bs : List ℕ) (k : ℕ) (is : k ≡ opening (marks bs)) (long : k ≤ length bs) where
  pub front_long : length (take k bs) ≡ k
  front_long = length-take-le k bs long

  pub front_marks : marks (take k bs) ≡ marks bs
  front_marks =
      let l = front_long in
      let b = opening_bounds (marks bs) in
      sym (marks_front (take k bs) (drop k bs) (omega (arith, b.0))) ∙ ap marks (take-append-drop k bs)

  pub front_size : size_of (take k bs) ≡ size_of bs
  front_size =
      let l = front_long in
      let o = ap opening front_marks in
      sym (size_front (take k bs) (drop k bs) (omega arith)) ∙ ap size_of (take-append-drop k bs)

-- an opening that is not whole
pub record Begun (got : List ℕ) : Type 0 where
  pub more : length got < opening (marks got)

opening_less : (got xs : List ℕ) → Begun (got ++ xs) → Begun got
opening_less got xs o =
    let l = length-append got xs in
    let b = opening_bounds (marks got) in
    let c = opening_bounds (marks (got ++ xs)) in
    record { more = elim (cases_lt (length got) 4) [ inl k ↦ omega (arith, b.0) | inr k ↦ let e = ap opening (marks_front got xs k) in omega (arith, o.more) ] }

-- more bytes, but not all that are known to belong to it
opening_grows : (got xs : List ℕ) → Begun got → length got + length xs < opening (marks got) → Begun (got ++ xs)
opening_grows got xs o k =
    let l = length-append got xs in
    let b = opening_bounds (marks (got ++ xs)) in
    record {
      more = elim (cases_lt (length got) 4) [
        | inl j ↦ let u = ap opening (short_unmarked got j) in omega (arith, b.0)
        | inr j ↦ let u = ap opening (marks_front got xs j) in omega arith
      ];
    }

pub begun : (s : OpeningBytes) → Begun (take s.got s.bytes)
begun s = record { more = let l = length-take s.got s.bytes in omega (arith, s.more) }

-- all but the last of the bytes that are known to belong to it
pub opening_filled : (s : OpeningBytes) (rest bytes : List ℕ) (n last : ℕ) → s.got ≤ length s.bytes → last ≡ opening (marks (take s.got s.bytes)) - 1 → Fills s.bytes s.got last rest n bytes → s.got + n < opening (marks (take (s.got + n) bytes))
opening_filled s rest bytes n last within is fills =
    let c = fills.count in
    let l : length (take s.got s.bytes) ≡ s.got = length-take-le s.got s.bytes within in
    let k : length (take n rest) ≡ n = length-take-le n rest (omega arith) in
    let j = length-append (take s.got s.bytes) (take n rest) in
    let g = opening_grows (take s.got s.bytes) (take n rest) (begun s) (omega (arith, s.more)) in
    let o = ap (λ xs. opening (marks xs)) fills.front in
    omega (arith, g.more)

pub opening_some : (h : Holds) (p : Place) (got : List ℕ) → Begun got → opened h p got ≡ on (header p got)
opening_some h p got o = rw (lt-ltb (length got) (opening (marks got)) o.more, opened)

pub opening_whole : (h : Holds) (p : Place) (got : List ℕ) → opening (marks got) ≤ length got → opened h p got ≡ sized h p (marks got) (size_of got)
opening_whole h p got k = rw (le-ltb (length got) (opening (marks got)) k, opened)

-- bytes of an opening, of which some are there, with one that may be its last
pub opening_on : (h : Holds) (e : Envelope) (p : Place) (got xs : List ℕ) (l : Last xs) → Begun (got ++ l.front) → Acts (step h e) (header p got) xs (opened h p (got ++ xs))
unfolding step
opening_on h e p got xs l more = all (step h e) (header p) (opened h p) (λ got b. refl) Begun opening_less (opening_some h p) xs got l more

opening_acts : (h : Holds) (e : Envelope) (p : Place) (xs : List ℕ) → ((l : Last xs) → Begun l.front) → Acts (step h e) (header p []) xs (opened h p xs)
unfolding step
opening_acts h e p xs more =
    let none : Begun [] = let b = opening_bounds (marks []) in record { more = omega (arith, b.0) } in
    gathers (step h e) (header p) (opened h p) (λ got b. refl) Begun opening_less (opening_some h p) xs [] none more

-- all bytes, where they do not have an opening whole
pub opening_cut : (h : Holds) (e : Envelope) (p : Place) (bs : List ℕ) → Begun bs → Acts (step h e) (header p []) bs (on (header p bs))
opening_cut h e p bs o = opening_acts h e p bs (λ l. opening_less l.front (l.byte ∷ []) (subst Begun l.is o)) ∙ ap (went_on [] quiet) (opening_some h p bs o)

module _ (h : Holds) (e : Envelope) (p : Place) (bs : List ℕ) (k : ℕ) (is : k ≡ opening (marks bs)) (long : k ≤ length bs) where
  before_last : (l : Last (take k bs)) → Begun l.front
  before_last l =
      let f = front_long bs k is long in
      let b = opening_bounds (marks l.front) in
      let c = opening_bounds (marks bs) in
      record {
        more = elim (cases_lt (length l.front) 4) [
          | inl j ↦ omega (arith, b.0)
          | inr j ↦
              let m : marks l.front ≡ marks bs = sym (marks_front l.front (l.byte ∷ []) j) ∙ ap marks (sym l.is) ∙ front_marks bs k is long in
              let o = ap opening m in
              omega (arith, l.long)
        ];
      }

  -- an opening that is there whole
  pub opening_all : Acts (step h e) (header p []) (take k bs) (sized h p (marks bs) (size_of bs))
  opening_all =
      let f = front_long bs k is long in
      let o = ap opening (front_marks bs k is long) in
      opening_acts h e p (take k bs) before_last ∙ ap (went_on [] quiet) (opening_whole h p (take k bs) (omega arith) ∙ ap (λ m. sized h p m (size_of (take k bs))) (front_marks bs k is long) ∙ ap (sized h p (marks bs)) (front_size bs k is long))
