-- The definitions of frames, way by way.
use Rattle.std.proofs.Common.{◌≡◌, ℕ, ◌<◌, ◌≤◌, Bool, List, [], length, take, drop, Some, arith}
use Rattle.std.proofs.lemmas.Bool.{eq-eqb, ne_eqb, lt-ltb, le-ltb}
use Rattle.message.specs.declared.faults.Place.{Place}
use Rattle.message.specs.declared.faults.Refusal.TheVariants.{MetadataSize}
use Rattle.message.specs.declared.headers.Facts.{Facts}
use Rattle.framing.specs.Moves.{on, shows}
use Rattle.framing.specs.Frames.{Holds, Envelope, Frame, frame, end, behind, marks, opening, size_of, length_of}
use Rattle.framing.specs.Steps.{header, metadata, body, ended, refuse, sized, filled, told, gathered}
use Rattle.framing.specs.Streams.{cut, ends, not, whole, with_body, with_facts, with_size, first}

module _ (h : Holds) (p : Place) (marked : Bool) (n : ℕ) where
  pub sized_end : n ≡ 0 → sized h p marked n ≡ shows (end p) (ended (behind p (opening marked)))
  sized_end z = rw (eq-eqb n 0 z, sized)

  pub sized_large : 0 < n → h.metadata < n → sized h p marked n ≡ refuse MetadataSize p
  sized_large some k = rw (ne_eqb n 0 (λ d. omega arith), lt-ltb h.metadata n k, sized)

  pub sized_fits : 0 < n → n ≤ h.metadata → sized h p marked n ≡ on (metadata p marked n [])
  sized_fits some k = rw (ne_eqb n 0 (λ d. omega arith), le-ltb h.metadata n k, sized)

module _ (h : Holds) (e : Envelope) (p : Place) (marked : Bool) (n : ℕ) (got : List ℕ) where
  pub gathered_some : length got < n → gathered h e p marked n got ≡ on (metadata p marked n got)
  gathered_some k = rw (ne_eqb (length got) n (λ d. omega arith), gathered)

  pub gathered_all : length got ≡ n → gathered h e p marked n got ≡ told h p marked got (e got)
  gathered_all k = rw (eq-eqb (length got) n k, gathered)

module _ (p : Place) (marked : Bool) (meta : List ℕ) (facts : Facts) (n : ℕ) (got : List ℕ) where
  abbrev pub framed : Frame
  framed = record { place = p; marked = marked; metadata = meta; facts = facts; body = got }

  pub filled_some : length got < n → filled p marked meta facts n got ≡ on (body p marked meta facts n got)
  filled_some k = rw (ne_eqb (length got) n (λ d. omega arith), filled)

  pub filled_all : length got ≡ n → filled p marked meta facts n got ≡ shows (frame framed) (header (behind p (length_of framed)) [])
  filled_all k = rw (eq-eqb (length got) n k, filled)

module _ (p : Place) (marked : Bool) (meta : List ℕ) (facts : Facts) (rest : List ℕ) (n : ℕ) where
  pub body_cut : length rest < n → with_body p marked meta facts rest (Some n) ≡ cut
  body_cut k = rw (lt-ltb (length rest) n k, with_body)

  pub body_whole : n ≤ length rest → with_body p marked meta facts rest (Some n) ≡ whole (record { place = p; marked = marked; metadata = meta; facts = facts; body = take n rest })
  body_whole k = rw (le-ltb (length rest) n k, with_body)

module _ (h : Holds) (e : Envelope) (p : Place) (marked : Bool) (n : ℕ) (rest : List ℕ) where
  pub size_end : n ≡ 0 → with_size h e p marked n rest ≡ ends marked
  size_end z = rw (eq-eqb n 0 z, with_size)

  pub size_large : 0 < n → h.metadata < n → with_size h e p marked n rest ≡ not MetadataSize
  size_large some k = rw (ne_eqb n 0 (λ d. omega arith), lt-ltb h.metadata n k, with_size)

  pub size_cut : 0 < n → n ≤ h.metadata → length rest < n → with_size h e p marked n rest ≡ cut
  size_cut some k c = rw (ne_eqb n 0 (λ d. omega arith), le-ltb h.metadata n k, lt-ltb (length rest) n c, with_size)

  pub size_fits : 0 < n → n ≤ h.metadata → n ≤ length rest → with_size h e p marked n rest ≡ with_facts h p marked (take n rest) (drop n rest) (e (take n rest))
  size_fits some k c = rw (ne_eqb n 0 (λ d. omega arith), le-ltb h.metadata n k, le-ltb (length rest) n c, with_size)

module _ (h : Holds) (e : Envelope) (p : Place) (bs : List ℕ) where
  pub first_cut : length bs < opening (marks bs) → first h e p bs ≡ cut
  unfolding first
  first_cut k = rw (lt-ltb (length bs) (opening (marks bs)) k, first)

  pub first_sized : opening (marks bs) ≤ length bs → first h e p bs ≡ with_size h e p (marks bs) (size_of bs) (drop (opening (marks bs)) bs)
  unfolding first
  first_sized k = rw (le-ltb (length bs) (opening (marks bs)) k, first)
